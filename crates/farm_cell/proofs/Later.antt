-- A job that a caller draws comes after all that it drew before.
use Rattle.std.proofs.Common.{◌≡◌, ℕ, ◌<◌, cond, List, [], ◌∷◌, ◌++◌, Option, refl, sym, ap, ◌∙◌, subst}
use Rattle.std.specs.Prelude.{IfSome, Some, None}
use Rattle.std.proofs.lemmas.Bool.{eq-eqb}
use Rattle.std.proofs.lemmas.List.{append_cancel_right}
use Rattle.slot_table.specs.declared.calls.SlotCall.TheVariants.{Draw}
use Rattle.slot_table.specs.declared.calls.SlotReply.TheVariants.{Drawn}
use Rattle.slot_table.specs.declared.calls.CallEntry.{CallEntry}
use Rattle.slot_table.specs.Step.{opening}
use Rattle.slot_table.specs.History.{entry, IsLegal, calls_by}
use Rattle.slot_table.specs.Grants.{IsLater}
use Rattle.slot_table.proofs.Callers.{calls_by-append}
use Rattle.slot_table.proofs.Histories.{legal-front}
use Rattle.slot_table.proofs.Later.{drawn-later, drawn-by-all}
use Rattle.farm_cell.specs.declared.cell.Cell.{Cell}
use Rattle.farm_cell.specs.declared.cell.Pass.{Pass}
use Rattle.farm_cell.specs.Passes.{limits_of, number_of, seen_of, mine_of, Made}

own-last : (n : ℕ) (e : CallEntry) → e.caller ≡ n → calls_by n (e ∷ []) ≡ e ∷ []
own-last n e is = ap (λ b. cond b (e ∷ []) []) (eq-eqb e.caller n is)

pub made-later : (c : Cell 16 34) (p q : Pass) (o : Option ℕ) → Made c p Draw (Drawn o) q → IfSome o (IsLater (mine_of p))
made-later c p q None m = tt
made-later c p q (Some job) m =
    let n : ℕ = number_of p in
    let xs : List CallEntry = seen_of p ++ m.between in
    let e : CallEntry = entry n Draw (Drawn (Some job)) in
    let legal : IsLegal (limits_of c) xs =
    legal-front (limits_of c) (opening 16) [] xs (e ∷ []) (subst (IsLegal (limits_of c)) m.seen m.legal) in
    let own : calls_by n xs ++ e ∷ [] ≡ mine_of p ++ e ∷ [] =
    ap (λ t. calls_by n xs ++ t) (sym (own-last n e refl)) ∙ sym (calls_by-append n xs (e ∷ [])) ∙ ap (calls_by n) (sym m.seen)
    ∙ m.own ∙ m.mine in
    subst (λ (calls : List CallEntry). IsLater calls job) (append_cancel_right (calls_by n xs) (mine_of p) (e ∷ []) own)
    (drawn-by-all (λ k. k < job) n xs (drawn-later (limits_of c) xs (Some job) legal m.answered))
