-- What is outstanding to a caller depends on its own calls alone.
use Rattle.std.proofs.Common.{◌≡◌, ℕ, Bool, true, false, cond, List, [], ◌∷◌, ◌++◌, nat_eq, refl, sym, ap, ◌∙◌, subst}
use Rattle.std.proofs.lemmas.Bool.{eqb-true}
use Rattle.std.proofs.lemmas.List.Elements.{filter-append}
use Rattle.slot_table.specs.declared.calls.CallEntry.{CallEntry}
use Rattle.slot_table.specs.History.{Holding, holding, has, without, Change, Keeps, Takes, Gives, change, changed, outstanding_then}
use Rattle.slot_table.specs.History.{outstanding_from, outstanding, calls_by, held_by}
use Rattle.slot_table.specs.Laws.{HoldsByOwnCalls}
use Rattle.slot_table.proofs.Holdings.{has-held_by, held_by-without, held_by-others}

pub calls_by-append : (n : ℕ) (xs ys : List CallEntry) → calls_by n (xs ++ ys) ≡ calls_by n xs ++ calls_by n ys
calls_by-append n xs ys = filter-append (λ e. nat_eq e.caller n) xs ys

-- a call changes what its caller holds alone
held_by-changed : (n caller : ℕ) (held : List Holding) (c : Change)
    → held_by n (changed caller held c) ≡ cond (nat_eq caller n) (changed caller (held_by n held) c) (held_by n held)
held_by-changed n caller held Keeps = both (nat_eq caller n) (held_by n held)
  where
    both : (b : Bool) (l : List Holding) → l ≡ cond b l l
    both true l = refl
    both false l = refl
held_by-changed n caller held (Takes job host) = refl
held_by-changed n caller held (Gives job host) = go (nat_eq caller n) refl
  where
    go : (b : Bool) → nat_eq caller n ≡ b
        → held_by n (without (holding caller job host) held) ≡ cond b (without (holding caller job host) (held_by n held)) (held_by n held)
    go true is = let P : ℕ → Type 0 =
        λ k. held_by k (without (holding caller job host) held) ≡ without (holding caller job host) (held_by k held) in
        subst P (eqb-true caller n is) (held_by-without (holding caller job host) held)
    go false is = held_by-others n (holding caller job host) held is

pub held_by-outstanding_from : (n : ℕ) (held : List Holding) (es : List CallEntry)
    → held_by n (outstanding_from held es) ≡ outstanding_from (held_by n held) (calls_by n es)
held_by-outstanding_from n held [] = refl
held_by-outstanding_from n held (e ∷ es) =
    go (nat_eq e.caller n) refl (held_by-changed n e.caller held (change e.call e.reply))
    (held_by-outstanding_from n (outstanding_then held e) es)
  where
    go : (b : Bool) → nat_eq e.caller n ≡ b
        → held_by n (outstanding_then held e) ≡ cond (nat_eq e.caller n) (outstanding_then (held_by n held) e) (held_by n held)
        → held_by n (outstanding_from (outstanding_then held e) es) ≡ outstanding_from (held_by n (outstanding_then held e)) (calls_by n es)
        → held_by n (outstanding_from (outstanding_then held e) es) ≡ outstanding_from (held_by n held)
        (cond b (e ∷ calls_by n es) (calls_by n es))
    go true is one ih = ih ∙ ap (λ (l : List Holding). outstanding_from l (calls_by n es))
        (one ∙ ap (λ (b : Bool). cond b (outstanding_then (held_by n held) e) (held_by n held)) is)
    go false is one ih = ih ∙ ap (λ (l : List Holding). outstanding_from l (calls_by n es))
        (one ∙ ap (λ (b : Bool). cond b (outstanding_then (held_by n held) e) (held_by n held)) is)

pub holds-by-own-calls : HoldsByOwnCalls
holds-by-own-calls caller es = held_by-outstanding_from caller [] es

-- a grant is outstanding where it is outstanding among its caller's own calls
pub has-own : (a : Holding) (es : List CallEntry) → has a (outstanding (calls_by a.caller es)) ≡ has a (outstanding es)
has-own a es = ap (has a) (sym (holds-by-own-calls a.caller es)) ∙ has-held_by a.caller a (outstanding es) refl
