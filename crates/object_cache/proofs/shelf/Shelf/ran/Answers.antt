use Rattle.std.proofs.Common.{◌≡◌, get_or, sym, ◌∙◌, ap, subst}
use Rattle.std.specs.Prelude.{Result, Ok, Err, IfOk}
use Rattle.object_cache.specs.Shelves.{Stored, stored, entry_in, IsAt}
use Rattle.object_cache.proofs.Shelving.{item_again}
use Rattle.object_cache.proofs.shelf.Shelf.ran.Goals as goal

ok_by : {A E : Type 0} (r : Result A E) (P Q : A → Type 0) → ((x : A) → P x → Q x) → IfOk r P → IfOk r Q
ok_by (Ok x) P Q more h = more x h
ok_by (Err e) P Q more h = tt

pub returns : goal.returns
returns c =
    let inside = c.self.inside in
    let place = c.args.place in
    let kept = c.index.result.now in
    let here = subst (λ v. IsAt v place) (sym c.self.view_is) c.requires in
    ok_by c.ran_of.result (λ ran. ran ≡ (entry_in (record { kept = kept; text = c.text-text.result })).ran)
    (λ ran. (item : Stored) → item ≡ get_or (stored c.args.self.now) place.index item → ran ≡ (entry_in item).ran)
    (λ ran ran_is item is.
    let item_is = subst (λ v. item ≡ get_or (stored v) place.index item) (sym c.self.view_is) is in
    ran_is ∙ ap (λ t. (entry_in (record { kept = kept; text = t })).ran) (c.text-text.ensures item is)
    ∙ ap (λ x. (entry_in x).ran)
    (item_again inside.kept.items inside.pieces.used inside.bytes place.index place.first kept c.self.invariant here.within here.first
    c.index.ensures
    item item_is))
    c.ran_of.ensures
