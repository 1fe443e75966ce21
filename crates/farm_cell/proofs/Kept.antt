-- What a pass is after a call, and after a look.
use Rattle.std.proofs.Common.{◌≡◌, ℕ, ◌+◌, subst, cond, List, [], ◌∷◌, ◌++◌, refl, sym, ap, ◌∙◌, eq-eqb}
use Rattle.slot_table.specs.declared.limits.Limits.{Limits}
use Rattle.slot_table.specs.declared.state.SlotState.{SlotState}
use Rattle.slot_table.specs.declared.calls.SlotCall.{SlotCall}
use Rattle.slot_table.specs.declared.calls.SlotReply.{SlotReply}
use Rattle.slot_table.specs.declared.calls.CallEntry.{CallEntry}
use Rattle.slot_table.specs.Step.{slot_step}
use Rattle.slot_table.specs.History.{entry, IsLegal, state_after, calls_by}
use Rattle.slot_table.proofs.Callers.{calls_by-append}
use Rattle.farm_cell.specs.declared.rule.View.{View}
use Rattle.farm_cell.specs.declared.cell.Cell.{Cell}
use Rattle.farm_cell.specs.declared.cell.Pass.{Pass}
use Rattle.farm_cell.specs.Rule.{Looked, Added}
use Rattle.farm_cell.specs.Passes.{limits_of, view_of, number_of, seen_of, mine_of, IsPassOf, Made, Saw}
use Rattle.farm_cell.proofs.Told.{some-same, low-owns}

-- one more call of the caller itself
pub own-more : (n : ℕ) (xs : List CallEntry) (call : SlotCall) (reply : SlotReply) → calls_by n xs ≡ xs
    → calls_by n (xs ++ entry n call reply ∷ []) ≡ xs ++ entry n call reply ∷ []
own-more n xs call reply own =
    calls_by-append n xs (entry n call reply ∷ []) ∙ ap (λ k. k ++ calls_by n (entry n call reply ∷ [])) own
    ∙ ap (λ b. xs ++ cond b (entry n call reply ∷ []) []) (eq-eqb n n refl)

-- the caller's own calls after one more
mine-after : (c : Cell 16 34) (p q : Pass) (call : SlotCall) (met : SlotState 16) → IsPassOf c p
    → Added (limits_of c) (view_of p) call met (view_of q)
    → mine_of q ≡ mine_of p ++ entry (number_of p) call (slot_step (limits_of c) met call).1 ∷ []
mine-after c p q call met is a = a.mine ∙ ap (λ n. mine_of p ++ entry n call (slot_step (limits_of c) met call).1 ∷ []) is.number

all-own : (c : Cell 16 34) (p q : Pass) (call : SlotCall) (met : SlotState 16) → IsPassOf c p
    → Added (limits_of c) (view_of p) call met (view_of q) → calls_by (number_of p) (mine_of q) ≡ mine_of q
all-own c p q call met is a =
    let m = mine-after c p q call met is a in
    ap (calls_by (number_of p)) m ∙ own-more (number_of p) (mine_of p) call (slot_step (limits_of c) met call).1 is.own ∙ sym m

pub pass-after : (c : Cell 16 34) (p q : Pass) (call : SlotCall) (met : SlotState 16) → IsPassOf c p
    → Added (limits_of c) (view_of p) call met (view_of q) → q.seat.table_id ≡ p.seat.table_id → number_of q ≡ number_of p → IsPassOf c q
pass-after c p q call met is a table number = record {
  cell = table ∙ is.cell;
  limits = ap (λ (z : View 16). z.limits) a.same ∙ is.limits;
  single = ap (λ (z : View 16). z.high) a.same ∙ is.single ∙ ap (λ (z : View 16). z.low + 1) (sym a.same);
  number = ap (λ (z : View 16). z.low) a.same ∙ is.number ∙ sym number;
  count = λ zero. ap (λ (z : View 16). z.made) a.same ∙ is.count (sym number ∙ zero);
  own = ap (λ n. calls_by n (mine_of q)) number ∙ all-own c p q call met is a;
}

pub made-after : (c : Cell 16 34) (p q : Pass) (call : SlotCall) (met : SlotState 16) → IsPassOf c p
    → Added (limits_of c) (view_of p) call met (view_of q) → Made c p call (slot_step (limits_of c) met call).1 q
made-after c p q call met is a = record {
  between = a.between;
  seen = a.seen ∙ ap (λ n. (seen_of p ++ a.between) ++ entry n call (slot_step (limits_of c) met call).1 ∷ []) is.number;
  legal = a.legal;
  answered = ap (λ (s : SlotState 16). (slot_step (limits_of c) s call).1) a.at;
  mine = mine-after c p q call met is a;
  own = ap (λ n. calls_by n (seen_of q)) (sym is.number) ∙ sym a.own ∙ ap (λ n. calls_by n (mine_of q)) is.number
      ∙ all-own c p q call met is a;
}

pub pass-looked : (c : Cell 16 34) (p q : Pass) (s : SlotState 16) → IsPassOf c p → Looked (view_of p) s (view_of q)
    → q.seat.table_id ≡ p.seat.table_id → number_of q ≡ number_of p → IsPassOf c q
pass-looked c p q s is a table number = record {
  cell = table ∙ is.cell;
  limits = ap (λ (z : View 16). z.limits) a.same ∙ is.limits;
  single = ap (λ (z : View 16). z.high) a.same ∙ is.single ∙ ap (λ (z : View 16). z.low + 1) (sym a.same);
  number = ap (λ (z : View 16). z.low) a.same ∙ is.number ∙ sym number;
  count = λ zero. ap (λ (z : View 16). z.made) a.same ∙ is.count (sym number ∙ zero);
  own = ap (λ n. calls_by n (mine_of q)) number ∙ ap (λ (z : View 16). calls_by (number_of p) z.mine) a.same ∙ is.own
      ∙ ap (λ (z : View 16). z.mine) (sym a.same);
}

pub saw : (c : Cell 16 34) (p q : Pass) (s : SlotState 16) → IsPassOf c p → Looked (view_of p) s (view_of q) → Saw c p s q
saw c p q s is a =
    let same : a.limits ≡ limits_of c = some-same a.limits (limits_of c) (sym a.told ∙ is.limits) in
    let mine : mine_of q ≡ mine_of p = ap (λ (z : View 16). z.mine) a.same in record {
      more = a.seen.0;
      seen = a.seen.1;
      legal = subst (λ (k : Limits 16). IsLegal k (seen_of q)) same a.legal;
      left = a.left ∙ ap (λ (k : Limits 16). state_after k (seen_of q)) same;
      mine = mine;
      own = ap (λ n. calls_by n (seen_of q)) (sym is.number) ∙ sym (a.own (view_of p).low (low-owns (view_of p) is.single))
          ∙ ap (λ n. calls_by n (mine_of p)) is.number ∙ is.own ∙ sym mine;
    }
