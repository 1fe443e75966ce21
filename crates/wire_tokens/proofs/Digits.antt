-- Digits and what they stand for.
use Rattle.std.proofs.Common.{◌≡◌, ℕ, zero, suc, ◌+◌, ◌*◌, ◌/◌, ◌%◌, ◌^◌, ◌<◌, ◌≤◌, true, List, [], ◌∷◌, ◌++◌, length, get_or, take, refl}
use Rattle.std.proofs.Common.{ap, ◌∙◌, append_assoc, arith}
use Rattle.std.specs.List.{AllPass}
use Rattle.std.proofs.lemmas.Bool.Decides.{nat_tests}
use Rattle.std.proofs.lemmas.List.{length-append, take_more}
use Rattle.std.proofs.lemmas.List.Elements.{All-push}
use Rattle.std.proofs.Math.Nat.{pow-le-pow_right}
use Rattle.std.proofs.lemmas.Grind.{pow_more}
use Rattle.wire_tokens.specs.Token.{is_hex_digit, digit_of, number_of, lower_digit, lower_digits}

-- ---- one digit

pub digit_of-below : (c : ℕ) → is_hex_digit c ≡ true → digit_of c < 16
digit_of-below c h = grind (arith, nat_tests)

pub is_hex_digit-lower_digit : (d : ℕ) → d < 16 → is_hex_digit (lower_digit d) ≡ true
is_hex_digit-lower_digit d h = grind (arith, nat_tests)

pub digit_of-lower_digit : (d : ℕ) → d < 16 → digit_of (lower_digit d) ≡ d
digit_of-lower_digit d h = grind (arith, nat_tests)

-- ---- many

pub number_of-push : (cs : List ℕ) (c : ℕ) → number_of (cs ++ c ∷ []) ≡ number_of cs * 16 + digit_of c
number_of-push [] c = omega arith
number_of-push (b ∷ cs) c =
    let len : length (cs ++ c ∷ []) ≡ length cs + 1 = length-append cs (c ∷ []) in
    let p : 16 ^ (length cs + 1) ≡ 16 ^ length cs * 16 = pow_more 16 (length cs) in
    rw (len, p, number_of-push cs c) (omega arith)

pub number_of-more : (cs : List ℕ) (i : ℕ) → i < length cs
    → number_of (take (i + 1) cs) ≡ number_of (take i cs) * 16 + digit_of (get_or cs i 0)
number_of-more cs i h = rw (take_more cs i 0 h) (number_of-push (take i cs) (get_or cs i 0))

pub small_power : (i : ℕ) → i < 8 → 16 ^ i ≤ 268435456
small_power i h = let p : 16 ^ i ≤ 16 ^ 7 = pow-le-pow_right {n = 16} (omega arith) {i = i} {j = 7} (omega arith) in p

pub length-lower_digits : (k n : ℕ) → length (lower_digits k n) ≡ k
unfolding lower_digits
length-lower_digits zero n = refl
length-lower_digits (suc k) n = length-append (lower_digits k (n / 16)) (lower_digit (n % 16) ∷ [])
    ∙ ap (λ (x : ℕ). x + 1) (length-lower_digits k (n / 16)) ∙ omega arith

pub each-lower_digits : (k n : ℕ) → AllPass is_hex_digit (lower_digits k n)
unfolding lower_digits
each-lower_digits zero n = λ i d h. absurd (omega arith)
each-lower_digits (suc k) n =
    All-push (λ (c : ℕ). is_hex_digit c ≡ true) (lower_digits k (n / 16)) (lower_digit (n % 16)) (each-lower_digits k (n / 16))
    (is_hex_digit-lower_digit (n % 16) (omega arith))

pub number_of-lower_digits : (k n : ℕ) → n < 16 ^ k → number_of (lower_digits k n) ≡ n
unfolding lower_digits
number_of-lower_digits zero n h = omega arith
number_of-lower_digits (suc k) n h =
    let p : 16 ^ (k + 1) ≡ 16 ^ k * 16 = pow_more 16 k in
    let e : k + 1 ≡ suc k = omega arith in
    let small : n < 16 ^ k * 16 = rw (← p, e) h in
    let less : n / 16 < 16 ^ k = omega arith in
    rw (
      number_of-push (lower_digits k (n / 16)) (lower_digit (n % 16)),
      number_of-lower_digits k (n / 16) less,
      digit_of-lower_digit (n % 16) (omega arith),
    ) (omega arith)

-- one digit more, from the least significant on
pub lower_digits-more : (k : ℕ) (n : ℕ) (rest : List ℕ)
    → lower_digits (suc k) n ++ rest ≡ lower_digits k (n / 16) ++ (lower_digit (n % 16) ∷ rest)
unfolding lower_digits
lower_digits-more k n rest = append_assoc (lower_digits k (n / 16)) (lower_digit (n % 16) ∷ []) rest

pub lower_digits-none : (n : ℕ) (rest : List ℕ) → lower_digits 0 n ++ rest ≡ rest
unfolding lower_digits
lower_digits-none n rest = refl
