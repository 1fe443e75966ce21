-- The farm of jobs: what is woven is one of its runs.
use Rattle.std.proofs.Common.{◌≡◌, inl, inr, ℕ, zero, suc, ◌+◌, ◌<◌, ◌≤◌, Bool, true, false, not, cond, [], ◌∷◌, refl, sym, ap, ◌∙◌, arith}
use Rattle.std.proofs.lemmas.Bool.{and_parts, cases_eq}
use Rattle.std.specs.List.{range_with_len, list_all}
use Rattle.slot_table.specs.Mask.{in_mask}
use Rattle.slot_table.specs.declared.limits.Limits.{Limits}
use Rattle.slot_table.specs.History.{outstanding}
use Rattle.farm_machine.specs.declared.reports.Why5.TheVariants.{Memory}
use Rattle.farm_machine.specs.declared.reports.End.TheVariants.{Failed}
use Rattle.farm_machine.specs.Acts.{Gives, Met, slots_of, took}
use Rattle.farm_machine.specs.Jobs.{Job}
use Rattle.farm_machine.specs.Weave.{no_progress, weave}
use Rattle.farm_machine.specs.Farm.{is_as_wanted, farm_of, IsOf, WeaveLaw, AllBackLaw}
use Rattle.course_laws.proofs.Courses.{take-where-down}
use Rattle.farm_laws.proofs.NothingLost.{calls-from}
use Rattle.farm_laws.proofs.KeptByAll.{run-law}
use Rattle.farm_laws.proofs.Woven.{TakesWhereDown, woven}

-- what all of a range pass, each of it does
all-range : (p : ℕ → Bool) (a n : ℕ) → list_all p (range_with_len a n) ≡ true → (i : ℕ) → a ≤ i → i < a + n → p i ≡ true
all-range p a zero all i from below = absurd (omega (arith, from, below))
all-range p a (suc n) all i from below =
    let parts = and_parts (p a) (list_all p (range_with_len (a + 1) n)) all in
    elim (cases_eq i a) [
      | inl same ↦ ap p same ∙ parts.0
      | inr other ↦ all-range p (a + 1) n parts.1 i (omega (arith, from, other)) (omega (arith, below))
    ]

-- an entry of a wanted mask was not taken before
fresh : (was is : Bool) → is ≡ true → cond was (not is) is ≡ true → was ≡ false
fresh true true e h = cc
fresh true false e h = cc
fresh false is e h = refl

takes-where-down : {h : ℕ} (l : Limits h) (jobs : ℕ → Job) → IsOf l jobs → TakesWhereDown l (farm_of l jobs)
takes-where-down l jobs of j acts host mask inside below is_in is_wanted may =
    let new : took host (slots_of acts) ≡ false =
    fresh (took host (slots_of acts)) (in_mask mask host) is_in
    (all-range (is_as_wanted (slots_of acts) mask) 0 l.count is_wanted host (omega arith) (omega (arith, below))) in (
      Met (Gives host) ∷ [],
      Failed Memory,
      take-where-down (jobs j) host acts may.0 may.1 (let e = of.count j inside in
          omega (arith, e, below)) new may.2,
    )

pub weave-law : WeaveLaw
weave-law h l jobs r calls of courses agrees = woven (farm_of l jobs) l r calls (takes-where-down l jobs of) courses agrees

pub all-back : AllBackLaw
all-back h l jobs r calls of courses agrees = ap outstanding (sym (calls-from r calls (no_progress r)))
    ∙ run-law h l jobs (weave calls r) of (weave-law h l jobs r calls of courses agrees)
