-- What the reply to a take says of the entries.
use Rattle.std.proofs.Common.{◌≡◌, ℕ, ◌<◌, ◌≤◌, Bool, true, false, ◌&&◌, ◌||◌, not, Option, Some, None, nat_lt, refl, sym, ◌∙◌, subst}
use Rattle.std.proofs.Common.{arith, true≢false}
use Rattle.std.specs.Prelude.{slice_index, find}
use Rattle.std.proofs.lemmas.Bool.{ltb-true, lt-ltb, and_parts}
use Rattle.std.proofs.lemmas.Bool.Decides.{nat_tests}
use Rattle.slot_table.specs.declared.limits.Limits.{Limits}
use Rattle.slot_table.specs.declared.state.SlotState.{SlotState}
use Rattle.slot_table.specs.declared.mask.Mask.{Mask}
use Rattle.slot_table.specs.Mask.{in_mask}
use Rattle.slot_table.specs.Step.{entries, first_place, search_order, is_left_alone, is_free, is_ruled_out, is_down, take_free}
use Rattle.slot_table.specs.Laws.{MayBeTaken, TakeTells, TakesTell}
use Rattle.slot_table.proofs.Searches.{Passes, find-passes, find-none, search-below, all-rotated, all-range, all-at}
use Rattle.slot_table.proofs.Keeps.{not-true}

test-false : (a b : ℕ) → nat_lt a b ≡ false → b ≤ a
test-false a b e = grind (arith, nat_tests)

false-test : (a b : ℕ) → b ≤ a → nat_lt a b ≡ false
false-test a b h = grind (arith, nat_tests)

may-be-taken : {h : ℕ} (l : Limits h) (s : SlotState h) (mask : Mask) (now i : ℕ) → is_free l s mask now i ≡ true
    → nat_lt i l.count ≡ true → MayBeTaken l s mask now i
may-be-taken l s mask now i free below =
    let one = and_parts (in_mask mask i) (nat_lt (slice_index s.held i) (slice_index l.limit i) && not (is_left_alone s now i)) free in
    let two = and_parts (nat_lt (slice_index s.held i) (slice_index l.limit i)) (not (is_left_alone s now i)) one.1 in record {
      entry = ltb-true i l.count below;
      masked = one.0;
      room = ltb-true (slice_index s.held i) (slice_index l.limit i) two.0;
      up = test-false now (slice_index s.until i) (not-true (is_left_alone s now i) two.1);
    }

-- an entry in the mask that is ruled out is to be left alone
left-alone : (m a : Bool) → (not m || a) ≡ true → m ≡ true → a ≡ true
left-alone true a e is = e
left-alone false a e is = absurd (true≢false (sym is))

ruled-out : (m a : Bool) → (m ≡ true → a ≡ true) → (not m || a) ≡ true
ruled-out true a f = f refl
ruled-out false a f = refl

-- an entry in the mask that isn't to be left alone, and isn't free, has no room
no-room : (m r a : Bool) → not (m && (r && not a)) ≡ true → m ≡ true → a ≡ false → r ≡ false
no-room true true true e is up = absurd (true≢false up)
no-room true true false e is up = sym e
no-room true false a e is up = refl
no-room false r a e is up = absurd (true≢false (sym is))

tells : {h : ℕ} (l : Limits h) (s : SlotState h) (mask : Mask) (now : ℕ) (found : Option ℕ) (down : Bool)
    → Passes (is_free l s mask now) (λ i. nat_lt i l.count) found
    → (down ≡ true → (i : ℕ) → i < l.count → in_mask mask i ≡ true → now < slice_index s.until i)
    → (((i : ℕ) → i < l.count → in_mask mask i ≡ true → now < slice_index s.until i) → down ≡ true)
    → (found ≡ None → (i : ℕ) → i < l.count → in_mask mask i ≡ true → slice_index s.until i ≤ now
    → slice_index l.limit i ≤ slice_index s.held i)
    → TakeTells l s mask now (take_free s found down).1
tells l s mask now (Some k) down passes alone whole full =
    let may = may-be-taken l s mask now k passes.0 passes.1 in record {
      got = λ i is. let P : ℕ → Type 0 = λ j. MayBeTaken l s mask now j in subst P (let e : k ≡ i = cc in e) may;
      down = ((λ is. cc), (λ all. let later = all k may.entry may.masked in let up = may.up in absurd (omega (arith, later, up))));
      full = λ is. cc;
    }
tells l s mask now None true passes alone whole full =
    record { got = λ i is. cc; down = ((λ is. alone refl), (λ all. refl)); full = λ is. cc }
tells l s mask now None false passes alone whole full =
    record { got = λ i is. cc; down = ((λ is. cc), (λ all. absurd (true≢false (sym (whole all))))); full = λ is. full refl }

pub takes-tell : TakesTell
takes-tell h l s job mask now =
    tells l s mask now (find (is_free l s mask now) (search_order l job)) (is_down l s mask now)
    (find-passes (is_free l s mask now) (λ i. nat_lt i l.count) (search_order l job) (search-below (first_place l job) l.count))
    (λ all i below is. ltb-true now (slice_index s.until i)
    (left-alone (in_mask mask i) (is_left_alone s now i)
    (all-at (is_ruled_out s mask now) 0 l.count all i (omega arith) (omega arith)) is))
    (λ all. all-range (is_ruled_out s mask now) 0 l.count
    (λ i below. ruled-out (in_mask mask i) (is_left_alone s now i) (λ is. lt-ltb now (slice_index s.until i) (all i (omega arith) is))))
    (λ none i below is up. test-false (slice_index s.held i) (slice_index l.limit i)
    (no-room (in_mask mask i) (nat_lt (slice_index s.held i) (slice_index l.limit i)) (is_left_alone s now i)
    (all-at (λ j. not (is_free l s mask now j)) 0 l.count
    (sym (all-rotated (λ j. not (is_free l s mask now j)) (first_place l job) (entries l))
    ∙ find-none (is_free l s mask now) (search_order l job) none) i (omega arith) (omega arith)) is
    (false-test now (slice_index s.until i) up)))
