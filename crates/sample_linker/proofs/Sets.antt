-- Numbers in lists and sets.
use Rattle.std.proofs.Common.{◌≡◌, ℕ, zero, suc, ◌+◌, ◌<◌, Bool, true, false, cond, List, [], ◌∷◌, ◌++◌, Some, length, take, refl, ap}
use Rattle.std.proofs.Common.{sym, subst, ◌⊎◌, inl, inr, ⊎_elim, nat_lt, ◌==◌, set, get_or, ltb-true, eqb-true, arith}
use Rattle.std.specs.declared.cmp.Ordering.{Ordering}
use Rattle.std.specs.declared.cmp.Ordering.TheVariants.{Less, Equal, Greater}
use Rattle.std.specs.Ordering.{nat_cmp, match_ordering}
use Rattle.std.specs.Prelude.{All}
use Rattle.std.specs.BTreeSet.{insert_key}
use Rattle.std.specs.BTreeMap.Range.{IsLtBy}
use Rattle.std.proofs.lemmas.List.Elements.{All-head, All-tail}
use Rattle.std.specs.Prelude.{Vec}
use Rattle.std.specs.Global.{Global}
use Rattle.std.proofs.lemmas.Bool.{cases_lt}
use Rattle.std.proofs.lemmas.List.{take_more, length-set, get_or-set_same, get_or-set_other}
use Rattle.sample_linker.specs.Waits.{Has, Awaits}

pub some_is : (a b : ℕ) → Some a ≡ Some b → a ≡ b
some_is a b h = cc

less_by : (t u : Bool) → cond t Less (cond u Equal Greater) ≡ Less → t ≡ true
less_by true u h = refl
less_by false true h = cc
less_by false false h = cc

equal_by : (t u : Bool) → cond t Less (cond u Equal Greater) ≡ Equal → u ≡ true
equal_by true u h = cc
equal_by false true h = refl
equal_by false false h = cc

pub less_numbers : (a b : ℕ) → nat_cmp a b ≡ Less → a < b
less_numbers a b h = ltb-true a b (less_by (nat_lt a b) (a == b) h)

equal_numbers : (a b : ℕ) → nat_cmp a b ≡ Equal → a ≡ b
equal_numbers a b h = eqb-true a b (equal_by (nat_lt a b) (a == b) h)

kept_by : (n k m : ℕ) (ms more : List ℕ) (o : Ordering) → (Has ms n → Has more n) → Has (m ∷ ms) n
    → Has (match_ordering o (k ∷ m ∷ ms) (m ∷ ms) (m ∷ more)) n
kept_by n k m ms more Less f h = inr h
kept_by n k m ms more Equal f h = h
kept_by n k m ms more Greater f h = ⊎_elim (λ here. inl here) (λ later. inr (f later)) h

pub has_kept : (ks : List ℕ) (k n : ℕ) → Has ks n → Has (insert_key nat_cmp ks k) n
has_kept [] k n h = absurd h
has_kept (m ∷ ms) k n h = kept_by n k m ms (insert_key nat_cmp ms k) (nat_cmp k m) (has_kept ms k n) h

new_by : (k m : ℕ) (ms more : List ℕ) (o : Ordering) → nat_cmp k m ≡ o → Has more k
    → Has (match_ordering o (k ∷ m ∷ ms) (m ∷ ms) (m ∷ more)) k
new_by k m ms more Less e h = inl refl
new_by k m ms more Equal e h = inl (sym (equal_numbers k m e))
new_by k m ms more Greater e h = inr h

pub has_new : (ks : List ℕ) (k : ℕ) → Has (insert_key nat_cmp ks k) k
has_new [] k = inl refl
has_new (m ∷ ms) k = new_by k m ms (insert_key nat_cmp ms k) (nat_cmp k m) refl (has_new ms k)

pub has_last : (ms : List ℕ) (m n : ℕ) → Has (ms ++ m ∷ []) n → Has ms n ⊎ (m ≡ n)
has_last [] m n h = ⊎_elim (λ here. inr here) (λ none. absurd none) h
has_last (k ∷ ms) m n h = ⊎_elim (λ here. inl (inl here))
    (λ later. ⊎_elim (λ old. inl (inr old)) (λ new. inr new) (has_last ms m n later)) h

pub last_has : (ms : List ℕ) (m n : ℕ) → Has ms n ⊎ (m ≡ n) → Has (ms ++ m ∷ []) n
last_has [] m n h = ⊎_elim (λ none. absurd none) (λ here. inl here) h
last_has (k ∷ ms) m n h = ⊎_elim (λ old. ⊎_elim (λ here. inl here) (λ later. inr (last_has ms m n (inl later))) old)
    (λ new. inr (last_has ms m n (inr new))) h

pub has_take : (ms : List ℕ) (i d n : ℕ) → i < length ms → Has (take (i + 1) ms) n → Has (take i ms) n ⊎ (get_or ms i d ≡ n)
has_take ms i d n lt h = has_last (take i ms) (get_or ms i d) n (subst (λ ks. Has ks n) (take_more ms i d lt) h)

in_set : (lists : List (Vec ℕ Global)) (place at : ℕ) (new : Vec ℕ Global) → at < length lists → at < length (set lists place new)
in_set lists place at new lt = subst (λ n. at < n) (sym (length-set lists place new)) lt

pub awaits_added : (lists : List (Vec ℕ Global)) (place at : ℕ) (list new : Vec ℕ Global) → place < length lists
    → new.items ≡ list.items ++ at ∷ [] → Awaits (set lists place new) place at
awaits_added lists place at list new lt e = (
  in_set lists place place new lt,
  λ other. subst (λ (v : Vec ℕ Global). Has v.items at) (sym (get_or-set_same lists place new other lt))
      (subst (λ ks. Has ks at) (sym e) (last_has list.items at at (inr refl))),
)

awaits_apart : (lists : List (Vec ℕ Global)) (place q n : ℕ) (new : Vec ℕ Global) → (q ≡ place → ⊥) → Awaits lists q n
    → Awaits (set lists place new) q n
awaits_apart lists place q n new ne h = (
  in_set lists place q new h.0,
  λ other. subst (λ (v : Vec ℕ Global). Has v.items n) (sym (get_or-set_other lists place q new other ne)) (h.1 other),
)

awaits_there : (lists : List (Vec ℕ Global)) (place at n : ℕ) (list new : Vec ℕ Global) → list ≡ get_or lists place list
    → new.items ≡ list.items ++ at ∷ [] → Awaits lists place n → Awaits (set lists place new) place n
awaits_there lists place at n list new is e h = (
  in_set lists place place new h.0,
  λ other. subst (λ (v : Vec ℕ Global). Has v.items n) (sym (get_or-set_same lists place new other h.0))
      (subst (λ ks. Has ks n) (sym e) (last_has list.items at n (inl (subst (λ (v : Vec ℕ Global). Has v.items n) (sym is) (h.1 list))))),
)

kept_at : (lists : List (Vec ℕ Global)) (place at : ℕ) (list new : Vec ℕ Global) → list ≡ get_or lists place list
    → new.items ≡ list.items ++ at ∷ []
    → (q n : ℕ) → place ≡ q → Awaits lists q n → Awaits (set lists place new) q n
kept_at lists place at list new is e q n same h =
    subst (λ p. Awaits (set lists place new) p n) same
    (awaits_there lists place at n list new is e (subst (λ p. Awaits lists p n) (sym same) h))

pub awaits_kept : (lists : List (Vec ℕ Global)) (place at : ℕ) (list new : Vec ℕ Global) → list ≡ get_or lists place list
    → new.items ≡ list.items ++ at ∷ []
    → (q n : ℕ) → Awaits lists q n → Awaits (set lists place new) q n
awaits_kept lists place at list new is e q n h =
    elim (cases_lt q place) [
      | inl lt ↦ awaits_apart lists place q n new (λ same. omega (arith, same, lt)) h
      | inr ge ↦ elim (cases_lt place q) [
        | inl gt ↦ awaits_apart lists place q n new (λ same. omega (arith, same, gt)) h
        | inr le ↦ kept_at lists place at list new is e q n (omega (arith, ge, le)) h
      ]
    ]

pub front_of : (len : ℕ) (new rest : List (Vec ℕ Global)) → length new ≡ len → take len (new ++ rest) ≡ new
front_of zero [] rest h = refl
front_of zero (x ∷ xs) rest h = absurd (omega (arith, h))
front_of (suc n) [] rest h = absurd (omega (arith, h))
front_of (suc n) (x ∷ xs) rest h = ap (λ ls. x ∷ ls) (front_of n xs rest (omega (arith, h)))

-- all keys behind the least are above it
pub all_above : (at : ℕ) (keys : List ℕ) → All (IsLtBy nat_cmp at) keys → (k : ℕ) → Has keys k → at < k
all_above at [] h k has = absurd has
all_above at (key ∷ keys) h k has =
    ⊎_elim (λ here. subst (λ n. at < n) here (less_numbers at key (All-head (IsLtBy nat_cmp at) key keys h)))
    (λ later. all_above at keys (All-tail (IsLtBy nat_cmp at) key keys h) k later) has
