-- A piece that a search finds in a word is one that the word holds.
use Rattle.std.proofs.Common.{◌≡◌, ℕ, zero, suc, ◌+◌, ◌≤◌, Bool, true, false, ◌||◌, nat_eq, List, [], ◌∷◌, length, drop, get_or, Option}
use Rattle.std.proofs.Common.{Some, None, refl, sym, ◌∙◌, ap, ◌⊎◌, inl, inr, arith}
use Rattle.std.specs.List.{starts_with}
use Rattle.std.specs.Option.{is_some}
use Rattle.std.proofs.lemmas.Bool.Decides.{Decides-eqb}
use Rattle.std.proofs.lemmas.Slice.Eq.{starts_is}
use Rattle.std.proofs.lemmas.List.Prefix.{front_from_reads, front_reads, front_fits}
use Rattle.memchr.specs.Find.{OccursAt, FindsNeedle}
use Rattle.option_table.specs.Listing.{holds}
use Rattle.option_table.proofs.Positions.{fails_by}

starts : (word piece : List ℕ) → OccursAt word piece 0 → starts_with nat_eq word piece ≡ true
starts word piece at =
    (starts_is Decides-eqb word piece _ refl).1 (drop (length piece) word)
    (front_from_reads 0 word piece (omega (arith, at.fits)) (λ j h. read j (at.reads j h)))
  where
    read : (j : ℕ) → get_or word (0 + j) 0 ≡ get_or piece j 0 → get_or word j 0 ≡ get_or piece j 0
    read j h = ap (λ n. get_or word n 0) (omega arith) ∙ h

occurs_first : (word piece : List ℕ) → starts_with nat_eq word piece ≡ true → OccursAt word piece 0
occurs_first word piece h =
    let is = (starts_is Decides-eqb word piece _ refl).0 h in
    let fits = front_fits word piece _ is in
    record { fits = omega arith; reads = λ j l. ap (λ n. get_or word n 0) (omega arith) ∙ front_reads 0 word piece _ is j l }

after : (k j : ℕ) → suc k + j ≡ suc (k + j)
after k j = omega arith

later : (b : ℕ) (bs piece : List ℕ) (k : ℕ) → OccursAt (b ∷ bs) piece (suc k) → OccursAt bs piece k
later b bs piece k at =
    record { fits = omega (arith, at.fits); reads = λ j l. sym (ap (λ n. get_or (b ∷ bs) n 0) (after k j)) ∙ at.reads j l }

sooner : (b : ℕ) (bs piece : List ℕ) (k : ℕ) → OccursAt bs piece k → OccursAt (b ∷ bs) piece (suc k)
sooner b bs piece k at =
    record { fits = omega (arith, at.fits); reads = λ j l. ap (λ n. get_or (b ∷ bs) n 0) (after k j) ∙ at.reads j l }

holds_at : (word piece : List ℕ) (k : ℕ) → OccursAt word piece k → holds piece word ≡ true
holds_at [] piece zero at = starts [] piece at
holds_at [] piece (suc k) at = absurd (omega (arith, at.fits))
holds_at (b ∷ bs) piece zero at = ap (λ x. x || holds piece bs) (starts (b ∷ bs) piece at)
holds_at (b ∷ bs) piece (suc k) at = right _ _ (holds_at bs piece k (later b bs piece k at))
  where
    right : (x y : Bool) → y ≡ true → (x || y) ≡ true
    right true y h = refl
    right false y h = h

held : (word piece : List ℕ) → holds piece word ≡ true → (k : ℕ) × (k ≤ length word) × OccursAt word piece k
held [] piece h = (0, omega arith, occurs_first [] piece h)
held (b ∷ bs) piece h =
    elim (parts _ _ h) [
      | inl first ↦ (0, omega arith, occurs_first (b ∷ bs) piece first)
      | inr rest ↦ (let at = held bs piece rest in (suc at.0, omega (arith, at.1), sooner b bs piece at.0 at.2))
    ]
  where
    parts : (x y : Bool) → (x || y) ≡ true → (x ≡ true) ⊎ (y ≡ true)
    parts true y h = inl refl
    parts false y h = inr h

pub holds_found : (word piece : List ℕ) (r : Option ℕ) → FindsNeedle word piece 0 r → is_some r ≡ holds piece word
holds_found word piece (Some k) h = sym (holds_at word piece k h.1)
holds_found word piece None h = sym (fails_by _ (λ is. let at = held word piece is in h at.0 (omega arith) (omega (arith, at.1)) at.2))
