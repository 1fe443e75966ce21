-- Where nothing is outstanding, nothing is full.
use Rattle.std.proofs.Common.{◌≡◌, ◌≢◌, ℕ, ◌+◌, ◌<◌, Bool, true, false, ◌&&◌, ◌||◌, not, cond, Option, Some, None, refl, sym, ap, ◌∙◌}
use Rattle.std.proofs.Common.{arith}
use Rattle.std.specs.Prelude.{slice_index, find}
use Rattle.std.proofs.lemmas.Bool.{lt-ltb}
use Rattle.slot_table.specs.declared.limits.Limits.{Limits}
use Rattle.slot_table.specs.declared.state.SlotState.{SlotState}
use Rattle.slot_table.specs.declared.mask.Mask.{Mask}
use Rattle.slot_table.specs.declared.calls.SlotReply.{SlotReply}
use Rattle.slot_table.specs.declared.calls.SlotReply.TheVariants.{Full, Local}
use Rattle.slot_table.specs.Mask.{in_mask}
use Rattle.slot_table.specs.Step.{entries, first_place, search_order, is_left_alone, is_free, is_ruled_out, is_down, take_free}
use Rattle.slot_table.specs.History.{count_at, state_after}
use Rattle.slot_table.specs.Laws.{FreeWhereAllIsBack}
use Rattle.slot_table.proofs.Searches.{find-none, all-rotated, all-weaker}
use Rattle.slot_table.proofs.Keeps.{sound}

-- an entry below its limit that isn't free is ruled out
ruled-out : {h : ℕ} (l : Limits h) (s : SlotState h) (mask : Mask) (now i : ℕ) → slice_index s.held i < slice_index l.limit i
    → not (is_free l s mask now i) ≡ true → is_ruled_out s mask now i ≡ true
ruled-out l s mask now i room is =
    go (in_mask mask i) (is_left_alone s now i)
    (sym (ap (λ (b : Bool). not (in_mask mask i && (b && not (is_left_alone s now i))))
    (lt-ltb (slice_index s.held i) (slice_index l.limit i) room)) ∙ is)
  where
    go : (m a : Bool) → not (m && (true && not a)) ≡ true → (not m || a) ≡ true
    go true true e = refl
    go true false e = e
    go false a e = refl

down-where-none : {h : ℕ} (l : Limits h) (s : SlotState h) (mask : Mask) (now job : ℕ)
    → ((i : ℕ) → i < l.count → slice_index s.held i < slice_index l.limit i)
    → find (is_free l s mask now) (search_order l job) ≡ None → is_down l s mask now ≡ true
down-where-none l s mask now job room none =
    all-weaker (λ i. not (is_free l s mask now i)) (is_ruled_out s mask now) 0 l.count
    (λ i below. ruled-out l s mask now i (room i (omega arith)))
    (sym (all-rotated (λ i. not (is_free l s mask now i)) (first_place l job) (entries l))
    ∙ find-none (is_free l s mask now) (search_order l job) none)

not-full : {h : ℕ} (s : SlotState h) (o : Option ℕ) (down : Bool) → (o ≡ None → down ≡ true) → (take_free s o down).1 ≢ Full
not-full s (Some k) down f e = cc
not-full {h} s None down f e = absurd (clash (ap (λ (b : Bool). (take_free s None b).1) (sym (f refl)) ∙ e))
  where
    clash : (take_free s None true).1 ≡ Full → ⊥
    clash e = cc

pub free-where-all-is-back : FreeWhereAllIsBack
free-where-all-is-back h l es limits legal none =
    let s = sound l es limits.entries legal in
    let zero_held : (i : ℕ) → i < h → slice_index (state_after l es).held i ≡ 0 = λ i inside. s.held i inside
    ∙ ap (count_at (Some i)) none in
    let room : (i : ℕ) → i < l.count → slice_index (state_after l es).held i < slice_index l.limit i =
    λ i below. (let z = zero_held i (let fit = limits.entries in omega arith) in let has_slot = limits.slots i below in
    omega (arith, z, has_slot)) in
    let local : (state_after l es).local_held < l.local_slots = let z : (state_after l es).local_held ≡ 0 =
    s.local_held ∙ ap (count_at None) none in let has_slot = limits.local_slots in omega (arith, z, has_slot) in record {
      take = λ job mask now. not-full (state_after l es) (find (is_free l (state_after l es) mask now) (search_order l job))
          (is_down l (state_after l es) mask now) (down-where-none l (state_after l es) mask now job room);
      local = λ job. ap (λ (b : Bool).
          (cond {A = SlotState h × SlotReply} b
          (record (state_after l es) { local_held = (state_after l es).local_held + 1 }, Local true)
          (state_after l es, Local false)).1) (lt-ltb (state_after l es).local_held l.local_slots local);
    }
