-- A job that may not be sent stays here.
use Rattle.std.proofs.Common.{◌≡◌, inl, inr, true, false, List, [], ◌∷◌, refl, sym, ap, ◌∙◌}
use Rattle.farm_types.specs.declared.ran.Ran.{Ran}
use Rattle.edge_traits.specs.Deeds.{ran, fetched, exchanges_in}
use Rattle.farm_machine.specs.declared.reports.By.TheVariants.{InPlace}
use Rattle.farm_machine.specs.declared.reports.Why5.TheVariants.{Station, Memory}
use Rattle.farm_machine.specs.declared.reports.End.{End}
use Rattle.farm_machine.specs.declared.reports.End.TheVariants.{Done, Failed}
use Rattle.farm_machine.specs.Acts.{TakesLocal, GivesLocal, Act, Did, Met, deeds_of}
use Rattle.farm_machine.specs.Jobs.{Job}
use Rattle.farm_machine.specs.Course.{LentInPlace, RanInPlace, Over, From}
use Rattle.course_laws.specs.Laws.{StaysHereLaw}
use Rattle.course_laws.proofs.Tables.{along, over}

none-over : (j : Job) (e : End) (acts : List Act) (end : End) → From j (Over e) acts end → exchanges_in (deeds_of acts) ≡ []
none-over j e acts end from = ap (λ (xs : List Act). exchanges_in (deeds_of xs)) (over j e acts end from).0

none-ran : (j : Job) (r : Ran) (acts : List Act) (end : End) → From j (RanInPlace r) acts end → exchanges_in (deeds_of acts) ≡ []
none-ran j r [] end from = refl
none-ran j r (Met GivesLocal ∷ acts) end (c, next, from) = elim next [
  | inl is ↦ none-over j (Done r.status [] r.err r.out InPlace) acts end
      (along j c (Over (Done r.status [] r.err r.out InPlace)) acts end is from)
  | inr is ↦ none-over j (Failed Memory) acts end (along j c (Over (Failed Memory)) acts end is from)
]
none-ran j r (act ∷ acts) end (c, next, from) = absurd next

none-lent : (j : Job) (acts : List Act) (end : End) → From j LentInPlace acts end → exchanges_in (deeds_of acts) ≡ []
none-lent j [] end from = refl
none-lent j (Did (ran x) ∷ acts) end (c, next, from) = none-ran j x.ran acts end (along j c (RanInPlace x.ran) acts end next.1 from)
none-lent j (Met GivesLocal ∷ acts) end (c, next, from) = elim next [
  | inl is ↦ none-over j (Failed Station) acts end (along j c (Over (Failed Station)) acts end is from)
  | inr is ↦ none-over j (Failed Memory) acts end (along j c (Over (Failed Memory)) acts end is from)
]
none-lent j (act ∷ acts) end (c, next, from) = absurd next

pub stays-here : StaysHereLaw
stays-here j [] end here from = refl
stays-here j (Met TakesLocal ∷ acts) end here (c, next, from) = none-lent j acts end (along j c LentInPlace acts end next.1 from)
stays-here j (Did (fetched x) ∷ acts) end here (c, next, from) = absurd (let e : true ≡ false = sym next.0 ∙ here in cc)
stays-here j (Did (ran x) ∷ acts) end here (c, next, from) = absurd (let e : true ≡ false = sym next.0 ∙ here in cc)
stays-here j (act ∷ acts) end here (c, next, from) = absurd next
