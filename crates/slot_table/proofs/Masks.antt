-- Which entries the masks have.
use Rattle.std.proofs.Common.{◌≡◌, ◌≢◌, inl, inr, ℕ, ◌-◌, ◌*◌, ◌%◌, ◌^◌, ◌<◌, ◌≤◌, Bool, true, false, ◌&&◌, not, nat_lt, nat_eq, min}
use Rattle.std.proofs.Common.{bit_and, refl, sym, ap, ◌∙◌, arith, eq-eqb, ne_eqb, w64}
use Rattle.std.proofs.lemmas.Nat.{one_shl}
use Rattle.std.proofs.lemmas.Nat.Bits.{bit_at_ones, bit_at_ones_above, bit_at_clear_same, bit_at_clear_other, bit_at_above, bit_at_and}
use Rattle.std.proofs.lemmas.Bool.{cases_eq}
use Rattle.std.proofs.lemmas.Bool.Decides.{nat_tests, leb_tells}
use Rattle.std.specs.Int.{bit_at}

test-below : (i n : ℕ) → i < n → true ≡ nat_lt i n
test-below i n below = grind (arith, nat_tests)

test-above : (i n : ℕ) → n ≤ i → false ≡ nat_lt i n
test-above i n above = grind (arith, nat_tests)

all_below : (n i : ℕ) → nat_eq (bit_at (2 ^ n - 1) i) 1 ≡ nat_lt i n
all_below n i = elim (leb_tells n i) [
  | inl h ↦ ap (λ (b : ℕ). nat_eq b 1) (bit_at_ones_above n i h.1) ∙ test-above i n h.1
  | inr h ↦ eq-eqb (bit_at (2 ^ n - 1) i) 1 (bit_at_ones n i h.1) ∙ test-below i n h.1
]

pub mask-all : (n i : ℕ) → n < 64 → nat_eq (bit_at (1 * 2 ^ n % 18446744073709551616 - 1) i) 1 ≡ nat_lt i n
mask-all n i below = ap (λ (b : ℕ). nat_eq (bit_at (b - 1) i) 1) (one_shl n 64 below) ∙ all_below n i

pub mask-whole : (n i : ℕ) → n ≡ 64 → nat_eq (bit_at 18446744073709551615 i) 1 ≡ nat_lt i n
mask-whole n i is = all_below 64 i ∙ ap (nat_lt i) (sym is)

and-false : (b : Bool) → false ≡ (b && false)
and-false true = refl
and-false false = refl

and-true : (b : Bool) → b ≡ (b && true)
and-true true = refl
and-true false = refl

-- what the code masks with, to leave out entry k
abbrev others : ℕ → ℕ
others k = 18446744073709551615 - 1 * 2 ^ k % 18446744073709551616

other-bit : (bits k i : ℕ) → bits < 2 ^ 64 → k < 64 → i ≢ k → bit_at (bit_and bits (others k)) i ≡ bit_at bits i
other-bit bits k i fits below apart = elim (leb_tells 64 i) [
  | inl h ↦ let none = bit_at_above bits 64 i fits h.1 in
      bit_at_and bits (others k) i ∙ ap (λ (b : ℕ). min b (bit_at (others k) i)) none ∙ min_zero (bit_at (others k) i) ∙ sym none
  | inr h ↦ bit_at_clear_other w64 bits k below i h.1 apart
]
  where
    min_zero : (n : ℕ) → min 0 n ≡ 0
    min_zero n = omega arith

pub mask-without : (bits k i : ℕ) → bits < 2 ^ 64 → k < 64
    → nat_eq (bit_at (bit_and bits (18446744073709551615 - 1 * 2 ^ k % 18446744073709551616)) i) 1
    ≡ (nat_eq (bit_at bits i) 1 && not (nat_eq i k))
mask-without bits k i fits below = elim (cases_eq i k) [
  | inl e ↦ ap (λ (j : ℕ). nat_eq (bit_at (bit_and bits (others k)) j) 1) e
      ∙ ap (λ (b : ℕ). nat_eq b 1) (bit_at_clear_same w64 bits k below) ∙ and-false (nat_eq (bit_at bits i) 1)
      ∙ ap (λ (b : Bool). nat_eq (bit_at bits i) 1 && not b) (sym (eq-eqb i k e))
  | inr n ↦ ap (λ (b : ℕ). nat_eq b 1) (other-bit bits k i fits below n) ∙ and-true (nat_eq (bit_at bits i) 1)
      ∙ ap (λ (b : Bool). nat_eq (bit_at bits i) 1 && not b) (sym (ne_eqb i k n))
]
