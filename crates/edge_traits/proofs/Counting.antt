-- How many of the first calls failed.
use Rattle.std.proofs.Common.{◌∙◌, sym, ap, ltb-true, [], ◌<◌, ◌≡◌, ℕ, zero, suc, ◌+◌, ◌≤◌, Bool, true, false, List, refl, add-one, arith}
use Rattle.std.specs.Prelude.{if◌then◌else◌, ◌&&◌, nat_lt}
use Rattle.std.proofs.lemmas.Bool.{lt-ltb}
use Rattle.edge_traits.specs.Causes.{Rose, RoseOnce}
use Rattle.edge_traits.proofs.CountLemmas.{once-rose}
use Rattle.edge_traits.specs.Calls.{is_in, failed_calls, names_next, one_more, greatest}

-- one call more, whose number is in the list or isn't
pub failed_more : (fails : List ℕ) (made : ℕ)
    → failed_calls fails (made + 1) ≡ (if is_in (made + 1) fails then 1 else 0) + failed_calls fails made
failed_more fails made = rw add-one refl

one_or_none : (b : Bool) → (if b then 1 else 0) ≤ 1
one_or_none true = omega arith
one_or_none false = omega arith

-- no more calls failed than were made
pub failed_within : (fails : List ℕ) (made : ℕ) → failed_calls fails made ≤ made
failed_within fails zero = omega arith
failed_within fails (suc made) = omega (arith, failed_within fails made, one_or_none (is_in (suc made) fails))

-- a call whose number is in the list is one failed call more
pub one_failed : (fails : List ℕ) (made faults : ℕ) (test : Bool) → test ≡ true → test ≡ is_in (made + 1) fails
    → faults ≡ failed_calls fails made → faults + 1 ≡ failed_calls fails (made + 1)
one_failed fails made faults test named is counted = rw (failed_more, ← is, named) (omega arith)

-- and another call is none
pub none_failed : (fails : List ℕ) (made faults : ℕ) (test : Bool) → test ≡ false → test ≡ is_in (made + 1) fails
    → faults ≡ failed_calls fails made → faults ≡ failed_calls fails (made + 1)
none_failed fails made faults test unnamed is counted = rw (failed_more, ← is, unnamed) (omega arith)

more : (count made : ℕ) → count ≤ made → nat_lt made greatest ≡ true → 1 + count ≡ one_more count
more count made within below = let first = ltb-true made greatest below in let less : count < greatest = omega (arith, first, within) in
    rw (lt-ltb count greatest less) (omega arith)

rises : (fails : List ℕ) (made : ℕ) (below : Bool) → nat_lt made greatest ≡ below → below && is_in (made + 1) fails ≡ true
    → RoseOnce (failed_calls fails made) (failed_calls fails (if below then made + 1 else made))
rises fails made true is named = rw (failed_more, named) (more (failed_calls fails made) made (failed_within fails made) is)
rises fails made false is named = cc

stays : (fails : List ℕ) (made : ℕ) (below : Bool) → failed_calls fails made ≤ failed_calls fails (if below then made + 1 else made)
stays fails made true = rw failed_more (omega arith)
stays fails made false = omega arith

-- A call that is one of those that fail raises their number by one.
pub failed_once : (fails : List ℕ) (made : ℕ) → names_next fails made ≡ true
    → RoseOnce (failed_calls fails made) (failed_calls fails (one_more made))
failed_once fails made named = rises fails made (nat_lt made greatest) refl named

-- and so their number rose
pub failed_rises : (fails : List ℕ) (made : ℕ) → names_next fails made ≡ true
    → Rose (failed_calls fails made) (failed_calls fails (one_more made))
failed_rises fails made named = once-rose (failed_calls fails made) (failed_calls fails (one_more made)) (failed_once fails made named)

-- no call lowers the number of those that failed
pub failed_stays : (fails : List ℕ) (made : ℕ) → failed_calls fails made ≤ failed_calls fails (one_more made)
failed_stays fails made = stays fails made (nat_lt made greatest)

same : (fails : List ℕ) (made : ℕ) (below : Bool) → below && is_in (made + 1) fails ≡ false
    → failed_calls fails (if below then made + 1 else made) ≡ failed_calls fails made
same fails made true unnamed = rw (failed_more, unnamed) (omega arith)
same fails made false unnamed = refl

-- a call that is none of those that fail leaves their number as it is
pub failed_same : (fails : List ℕ) (made : ℕ) → names_next fails made ≡ false → failed_calls fails (one_more made) ≡ failed_calls fails made
failed_same fails made unnamed = same fails made (nat_lt made greatest) unnamed

pub ruleset causes = (failed_once, failed_rises, failed_stays, failed_same)

pub ruleset counting = (failed_within, one_failed, none_failed)

no_number : (below : Bool) → below && false ≡ false
no_number true = refl
no_number false = refl

-- where the list has no number, no call fails
pub never_named : (fails : List ℕ) (made : ℕ) → fails ≡ [] → names_next fails made ≡ true → ⊥
never_named fails made none named =
    let unlike : false ≡ true = sym (no_number (nat_lt made greatest)) ∙ ap (λ list. names_next list made) (sym none) ∙ named in cc

-- and the number of those that failed is 0
pub none_failed_of : (made : ℕ) → failed_calls [] made ≡ 0
none_failed_of zero = refl
none_failed_of (suc made) = omega (arith, none_failed_of made)

pub ruleset nevers = (never_named, none_failed_of)
