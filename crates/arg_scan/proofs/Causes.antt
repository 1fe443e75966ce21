-- The cause of each class: the least place that gives a reason, or the whole command.
use Rattle.std.proofs.Common.{◌≡◌, ℕ, zero, suc, ◌<◌, List, [], ◌∷◌, length, Option, Some, None, unwrap_or, refl, ◌∙◌, ap, subst, inl}
use Rattle.std.proofs.Common.{inr, arith}
use Rattle.std.specs.Prelude.{Contains}
use Rattle.std.specs.List.{slice_get}
use Rattle.std.specs.Option.{option_map, option_or}
use Rattle.std.proofs.lemmas.Bool.Decides.{leb_tells}
use Rattle.arg_scan.specs.declared.why.Why.{Why}
use Rattle.arg_scan.specs.declared.verdict.Verdict.TheVariants as verdict
use Rattle.arg_scan.specs.Forces.{NothingForces, end_reasons, reasons_at}
use Rattle.arg_scan.specs.Class.{HasCause, by_end, by_place, first_forced, plan_of, reason_at, verdict_of}

or_parts : {X : Type 0} (a b : Option X) → option_or a b ≡ None → (a ≡ None) × (b ≡ None)
or_parts (Some x) b h = cc
or_parts None b h = (refl, h)

map_none : {X Y : Type 0} (f : X → Y) (o : Option X) → option_map f o ≡ None → o ≡ None
map_none f (Some x) h = cc
map_none f None h = refl

-- where no place below n was found to give a reason, none does
pub none_below : (words : List (List ℕ)) (n k : ℕ) → first_forced words n ≡ None → k < n → reason_at words k ≡ None
none_below words zero k h l = absurd (omega arith)
none_below words (suc n) k h l =
    let parts = or_parts (first_forced words n) (option_map (λ why. (why, n)) (reason_at words n)) h in
    elim (leb_tells (suc k) n) [
      | inl below ↦ none_below words n k parts.0 below.1
      | inr not ↦ (let same : n ≡ k = omega (arith, not.1) in
          subst (λ j. reason_at words j ≡ None) same (map_none (λ why. (why, n)) (reason_at words n) parts.1))
    ]

-- and the other way round
pub all_none : (words : List (List ℕ)) (n : ℕ) → ((k : ℕ) → k < n → reason_at words k ≡ None) → first_forced words n ≡ None
all_none words zero h = refl
all_none words (suc n) h =
    ap (λ o. option_or o (option_map (λ why. (why, n)) (reason_at words n))) (all_none words n (λ k l. h k (omega arith)))
    ∙ ap (option_map (λ why. (why, n))) (h n (omega arith))

-- a place was found to give a reason: it gives that one first, and no place before it gives one
record IsFound (words : List (List ℕ)) (n at : ℕ) (why : Why) : Type 0 where
  within : at < n
  first : reason_at words at ≡ Some why
  before : first_forced words at ≡ None

found_by : (words : List (List ℕ)) (n at : ℕ) (why : Why) (f : Option (Why × ℕ)) (r : Option Why) → first_forced words n ≡ f
    → reason_at words n ≡ r → option_or f (option_map (λ why. (why, n)) r) ≡ Some (why, at)
    → (first_forced words n ≡ Some (why, at) → IsFound words n at why) → IsFound words (suc n) at why
found_by words n at why (Some f) r e g h later =
    let rest = later (e ∙ h) in record { within = omega (arith, rest.within); first = rest.first; before = rest.before }
found_by words n at why None (Some w) e g h later =
    let same : n ≡ at = ap (λ (o : Option (Why × ℕ)). (unwrap_or o (w, n)).1) h in
    let reason : w ≡ why = ap (λ (o : Option (Why × ℕ)). (unwrap_or o (w, n)).0) h in
    record {
      within = omega arith;
      first = subst (λ k. reason_at words k ≡ Some why) same (g ∙ ap Some reason);
      before = subst (λ k. first_forced words k ≡ None) same e;
    }
found_by words n at why None None e g h later = cc

found_is : (words : List (List ℕ)) (n at : ℕ) (why : Why) → first_forced words n ≡ Some (why, at) → IsFound words n at why
found_is words zero at why h = cc
found_is words (suc n) at why h =
    found_by words n at why (first_forced words n) (reason_at words n) refl refl h (λ e. found_is words n at why e)

none_in : (reasons : List Why) (why : Why) → slice_get reasons 0 ≡ None → Contains reasons why → ⊥
none_in [] why h among = absurd (omega (arith, among.1))
none_in (reason ∷ more) why h among = cc

nil_is : (reasons : List Why) → slice_get reasons 0 ≡ None → reasons ≡ []
nil_is [] h = refl
nil_is (reason ∷ more) h = cc

nothing_forces : (words : List (List ℕ)) → first_forced words (length words) ≡ None → NothingForces words
nothing_forces words none k l why among = none_in (reasons_at words k) why (none_below words (length words) k none l) among

cause_by : (words : List (List ℕ)) (f : Option (Why × ℕ)) (e : Option Why) → first_forced words (length words) ≡ f
    → slice_get (end_reasons words) 0 ≡ e → HasCause words (by_place f (by_end e (length words) (verdict.Remote (plan_of words))))
cause_by words (Some f) e h g =
    let found = found_is words (length words) f.1 f.0 h in
    inl (record {
      within = found.within;
      first = found.first;
      before = λ k l other among. none_in (reasons_at words k) other (none_below words f.1 k found.before l) among;
    })
cause_by words None (Some why) h g = inr (record { behind = refl; places = nothing_forces words h; first = g })
cause_by words None None h g = record { places = nothing_forces words h; whole = nil_is (end_reasons words) g }

pub cause_is : (words : List (List ℕ)) → HasCause words (verdict_of words)
cause_is [] = refl
cause_is (word ∷ more) =
    let words = word ∷ more in cause_by words (first_forced words (length words)) (slice_get (end_reasons words) 0) refl refl
