-- One more call at the end of a history, and a history after another.
use Rattle.std.proofs.Common.{◌≡◌, List, [], ◌∷◌, ◌++◌, refl}
use Rattle.slot_table.specs.declared.limits.Limits.{Limits}
use Rattle.slot_table.specs.declared.state.SlotState.{SlotState}
use Rattle.slot_table.specs.declared.calls.CallEntry.{CallEntry}
use Rattle.slot_table.specs.Step.{slot_step}
use Rattle.slot_table.specs.History.{Holding, outstanding_then, outstanding_from, state_from, IsNext, IsLegalFrom}

pub state_from-append : {h : _} (l : Limits h) (s : SlotState h) (xs ys : List CallEntry)
    → state_from l s (xs ++ ys) ≡ state_from l (state_from l s xs) ys
state_from-append l s [] ys = refl
state_from-append l s (x ∷ xs) ys = state_from-append l (slot_step l s x.call).0 xs ys

pub outstanding_from-append : (held : List Holding) (xs ys : List CallEntry)
    → outstanding_from held (xs ++ ys) ≡ outstanding_from (outstanding_from held xs) ys
outstanding_from-append held [] ys = refl
outstanding_from-append held (x ∷ xs) ys = outstanding_from-append (outstanding_then held x) xs ys

pub legal-append : {h : _} (l : Limits h) (s : SlotState h) (held : List Holding) (xs ys : List CallEntry) → IsLegalFrom l s held xs
    → IsLegalFrom l (state_from l s xs) (outstanding_from held xs) ys → IsLegalFrom l s held (xs ++ ys)
legal-append l s held [] ys legal more = more
legal-append l s held (x ∷ xs) ys legal more =
    (legal.0, legal-append l (slot_step l s x.call).0 (outstanding_then held x) xs ys legal.1 more)

-- the first part of a legal history is one
pub legal-front : {h : _} (l : Limits h) (s : SlotState h) (held : List Holding) (xs ys : List CallEntry)
    → IsLegalFrom l s held (xs ++ ys) → IsLegalFrom l s held xs
legal-front l s held [] ys legal = tt
legal-front l s held (x ∷ xs) ys legal = (legal.0, legal-front l (slot_step l s x.call).0 (outstanding_then held x) xs ys legal.1)

-- and the rest goes on from there
pub legal-rest : {h : _} (l : Limits h) (s : SlotState h) (held : List Holding) (xs ys : List CallEntry)
    → IsLegalFrom l s held (xs ++ ys) → IsLegalFrom l (state_from l s xs) (outstanding_from held xs) ys
legal-rest l s held [] ys legal = legal
legal-rest l s held (x ∷ xs) ys legal = legal-rest l (slot_step l s x.call).0 (outstanding_then held x) xs ys legal.1

pub legal-more : {h : _} (l : Limits h) (s : SlotState h) (held : List Holding) (xs : List CallEntry) (e : CallEntry)
    → IsLegalFrom l s held xs → IsNext l (state_from l s xs) (outstanding_from held xs) e → IsLegalFrom l s held (xs ++ e ∷ [])
legal-more l s held xs e legal next = legal-append l s held xs (e ∷ []) legal (next, tt)
