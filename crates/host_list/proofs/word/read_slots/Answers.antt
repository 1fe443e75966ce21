use Rattle.std.proofs.Common.{true, length, drop, refl, sym, subst}
use Rattle.std.proofs.lemmas.List.{take_rest}
use Rattle.std.proofs.lemmas.Slice.Eq.{starts_is}
use Rattle.std.proofs.lemmas.Bool.Decides.{Decides-eqb}
use Rattle.host_list.specs.Names.{IsLimit}
use Rattle.host_list.proofs.word.read_slots.Goals as goal

pub returns-in-Some-clause-found : goal.returns-in-Some-clause-found
returns-in-Some-clause-found c = (
  drop (length c.args.option.now) c.args.word.now,
  subst (λ digits. IsLimit digits c.in-Some.n) (take_rest c.args.word.now (length c.args.option.now)) c.in-Some.ensures.found,
  (starts_is Decides-eqb c.args.word.now c.args.option.now true (sym c.requires)).0 refl,
)
