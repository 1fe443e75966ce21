use Rattle.std.proofs.Common.{◌≡◌, sym, subst, ◌∙◌}
use Rattle.sample_linker.specs.Circles.{AllUsed}
use Rattle.sample_linker.specs.Links.{definitions, unresolved}
use Rattle.sample_linker.specs.Reads.{Lists}
use Rattle.std.specs.Prelude.{None}
use Rattle.sample_linker.proofs.Used.{all_used}
use Rattle.sample_linker.proofs.linking.make_image.Goals as goal

pub place_definitions-requires-clause-used : goal.place_definitions-requires-clause-used
place_definitions-requires-clause-used c =
    let table = c.in_ok-table.table in
    let items = c.in_ok-items.items.items in
    let left : c.as_slice-3.result.now ≡ definitions items = c.as_slice-3.ensures.value ∙ c.leave_definitions.ensures in
    subst (AllUsed table) (sym left)
    (all_used table c.args.objects.now items c.in_ok-items.ensures.ok
    (subst (λ is. Lists table (definitions is)) c.as_slice.ensures.value c.in_ok-table.ensures.lists)
    (subst (λ is. unresolved (definitions is) is ≡ None) c.as_slice-2.ensures.value c.in_ok-meet_needs.ensures.met))
