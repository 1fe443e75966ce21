-- Lists of passes.
use Rattle.std.proofs.Common.{◌≡◌, ◌≢◌, ℕ, zero, suc, ◌+◌, ◌<◌, Bool, true, false, cond, List, [], ◌∷◌, ◌++◌, length, get_or, nat_eq}
use Rattle.std.proofs.Common.{refl, sym, ap, ◌∙◌, subst, arith, eq-eqb, ne_eqb, lt_of_not-le}
use mathlib.Core.Logic.{dite}
use native.Mathlib.Decide.{dec_le}
use Rattle.std.proofs.lemmas.Bool.{eqb-true}
use Rattle.std.proofs.lemmas.List.{append-nil}
use Rattle.atomic_table.specs.Seated.{TableId}
use Rattle.slot_table.specs.declared.limits.Limits.{Limits}
use Rattle.slot_table.specs.declared.calls.CallEntry.{CallEntry}
use Rattle.slot_table.specs.History.{Holding, outstanding, calls_by, held_by}
use Rattle.slot_table.proofs.Callers.{calls_by-append, holds-by-own-calls}
use Rattle.farm_cell.specs.declared.cell.Cell.{Cell}
use Rattle.farm_cell.specs.declared.cell.Pass.{Pass}
use Rattle.farm_cell.specs.Passes.{name_of, limits_of, callers_of, number_of, seen_of, mine_of, IsPassAt}
use Rattle.farm_cell.specs.Ends.{IsNumbered, AreAllOf, all_mine, HasEachMine, AreByCallersBelow}

-- the pass of caller k
pub record IsAt (t : TableId) (l : Limits 16) (n k : ℕ) (p : Pass) : Type 0 where
  pub pass : IsPassAt t l n p
  pub number : number_of p ≡ k

-- the passes of the callers from k on
abbrev pub AreAt : TableId → Limits 16 → ℕ → ℕ → List Pass → Type 0
AreAt t l n k [] = Unit {0}
AreAt t l n k (p ∷ ps) = IsAt t l n k p × AreAt t l n (k + 1) ps

abbrev pub AreBlank : List Pass → Type 0
AreBlank [] = Unit {0}
AreBlank (p ∷ ps) = ((seen_of p ≡ []) × (mine_of p ≡ [])) × AreBlank ps

pub are-snoc : (t : TableId) (l : Limits 16) (n k : ℕ) (ps : List Pass) (p : Pass) → AreAt t l n k ps → IsAt t l n (k + length ps) p
    → AreAt t l n k (ps ++ p ∷ [])
are-snoc t l n k [] p all one = (subst (λ m. IsAt t l n m p) (omega arith) one, tt)
are-snoc t l n k (q ∷ ps) p all one = (all.0, are-snoc t l n (k + 1) ps p all.1 (subst (λ m. IsAt t l n m p) (omega arith) one))

pub blank-snoc : (ps : List Pass) (p : Pass) → AreBlank ps → (seen_of p ≡ []) × (mine_of p ≡ []) → AreBlank (ps ++ p ∷ [])
blank-snoc [] p all one = (one, tt)
blank-snoc (q ∷ ps) p all one = (all.0, blank-snoc ps p all.1 one)

-- by place, and back
are-each : (c : Cell 16 34) (k : ℕ) (ps : List Pass) → AreAt (name_of c) (limits_of c) (callers_of c) k ps → (i : ℕ) (d : Pass)
    → i < length ps → IsNumbered c (k + i) (get_or ps i d)
are-each c k [] all i d below = absurd (omega arith)
are-each c k (p ∷ ps) all zero d below = record { pass = all.0.pass; number = all.0.number ∙ omega arith }
are-each c k (p ∷ ps) all (suc i) d below =
    subst (λ m. IsNumbered c m (get_or ps i d)) (omega arith) (are-each c (k + 1) ps all.1 i d (omega arith))

pub are-all : (c : Cell 16 34) (ps : List Pass) → length ps ≡ callers_of c → AreAt (name_of c) (limits_of c) (callers_of c) 0 ps
    → AreAllOf c ps
are-all c ps len all = record {
  len = len;
  each = λ k d below. subst (λ m. IsNumbered c m (get_or ps k d)) (omega arith) (are-each c 0 ps all k d below);
}

pub are-at : (c : Cell 16 34) (k : ℕ) (ps : List Pass) → ((i : ℕ) (d : Pass) → i < length ps → IsNumbered c (k + i) (get_or ps i d))
    → AreAt (name_of c) (limits_of c) (callers_of c) k ps
are-at c k [] each = tt
are-at c k (p ∷ ps) each =
    let one = each zero p (omega arith) in (
      record { pass = one.pass; number = one.number ∙ omega arith },
      are-at c (k + 1) ps (λ i d below. subst (λ m. IsNumbered c m (get_or ps i d)) (omega arith) (each (suc i) d (omega arith))),
    )

pub blank-each : (ps : List Pass) → AreBlank ps → (i : ℕ) (d : Pass) → i < length ps
    → (seen_of (get_or ps i d) ≡ []) × (mine_of (get_or ps i d) ≡ [])
blank-each [] all i d below = absurd (omega arith)
blank-each (p ∷ ps) all zero d below = all.0
blank-each (p ∷ ps) all (suc i) d below = blank-each ps all.1 i d (omega arith)

-- a caller has none of another's calls
other-none : (n k : ℕ) (xs : List CallEntry) → n ≢ k → calls_by k (calls_by n xs) ≡ []
other-none n k [] apart = refl
other-none n k (x ∷ xs) apart = go (nat_eq x.caller n) refl (other-none n k xs apart)
  where
    go : (b : Bool) → nat_eq x.caller n ≡ b → calls_by k (calls_by n xs) ≡ [] → calls_by k (cond b (x ∷ calls_by n xs) (calls_by n xs)) ≡ []
    go true is ih = ap (λ c. cond c (x ∷ calls_by k (calls_by n xs)) (calls_by k (calls_by n xs)))
        (ne_eqb x.caller k (λ e. apart (sym (eqb-true x.caller n is) ∙ e))) ∙ ih
    go false is ih = ih

none-by : (t : TableId) (l : Limits 16) (n k m : ℕ) (p : Pass) → IsAt t l n k p → k ≢ m → calls_by m (mine_of p) ≡ []
none-by t l n k m p at apart = sym (ap (calls_by m) at.pass.own) ∙ other-none (number_of p) m (mine_of p) (λ e. apart (sym at.number ∙ e))

-- the callers from k on have no calls of the one before
none-before : (t : TableId) (l : Limits 16) (n k m : ℕ) (ps : List Pass) → AreAt t l n k ps → m < k → calls_by m (all_mine ps) ≡ []
none-before t l n k m [] all below = refl
none-before t l n k m (p ∷ ps) all below =
    calls_by-append m (mine_of p) (all_mine ps)
    ∙ ap (λ xs. xs ++ calls_by m (all_mine ps)) (none-by t l n k m p all.0 (λ e. omega arith))
    ∙ none-before t l n (k + 1) m ps all.1 (omega arith)

-- of each caller all own calls together have just its own
pub own-mines : (t : TableId) (l : Limits 16) (n k : ℕ) (ps : List Pass) → AreAt t l n k ps → (i : ℕ) (d : Pass) → i < length ps
    → calls_by (k + i) (all_mine ps) ≡ mine_of (get_or ps i d)
own-mines t l n k [] all i d below = absurd (omega arith)
own-mines t l n k (p ∷ ps) all zero d below =
    calls_by-append (k + 0) (mine_of p) (all_mine ps)
    ∙ ap (λ xs. xs ++ calls_by (k + 0) (all_mine ps)) (ap (λ m. calls_by m (mine_of p)) (k-is ∙ sym all.0.number) ∙ all.0.pass.own)
    ∙ ap (λ xs. mine_of p ++ xs) (none-before t l n (k + 1) (k + 0) ps all.1 (omega arith)) ∙ append-nil (mine_of p)
  where
    k-is : k + 0 ≡ k
    k-is = omega arith
own-mines t l n k (p ∷ ps) all (suc i) d below =
    calls_by-append (k + suc i) (mine_of p) (all_mine ps)
    ∙ ap (λ xs. xs ++ calls_by (k + suc i) (all_mine ps)) (none-by t l n k (k + suc i) p all.0 (λ e. omega arith))
    ∙ ap (λ m. calls_by m (all_mine ps)) next ∙ own-mines t l n (k + 1) ps all.1 i d (omega arith)
  where
    next : k + suc i ≡ (k + 1) + i
    next = omega arith

-- grants of which no caller has any are none
none-held : (held : List Holding) → ((n : ℕ) → held_by n held ≡ []) → held ≡ []
none-held [] none = refl
none-held (a ∷ held) none =
    absurd (some (held_by a.caller held)
    (sym (ap (λ b. cond b (a ∷ held_by a.caller held) (held_by a.caller held)) (eq-eqb a.caller a.caller refl)) ∙ none a.caller))
  where
    some : (xs : List Holding) → a ∷ xs ≡ [] → ⊥
    some xs e = let n = ap length e in omega arith

-- nothing is outstanding where each caller has given back what it took
pub all-back : (es : List CallEntry) (ps : List Pass) (n : ℕ) → length ps ≡ n → AreByCallersBelow n es → HasEachMine es ps
    → ((i : ℕ) (d : Pass) → i < length ps → outstanding (mine_of (get_or ps i d)) ≡ []) → Pass → outstanding es ≡ []
all-back es ps n len below each back d =
    none-held (outstanding es)
    (λ k. holds-by-own-calls k es ∙ dite (dec_le n k) (λ far. ap outstanding (below k far)) (λ near. let i = lt_of_not-le near in
    ap outstanding (each k d (omega arith)) ∙ back k d (omega arith)))
