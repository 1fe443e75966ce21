-- A decimal number by its parts, and by the test.
use Rattle.std.proofs.Common.{◌≡◌, ◌≤◌, ◌<◌, ◌-◌, ◌^◌, ◌&&◌, ℕ, zero, suc, Bool, true, false, nat_le, nat_lt, List, [], ◌∷◌, length}
use Rattle.std.proofs.Common.{get_or, Some, None, refl, ap, sym, ◌∙◌, inl, inr, cond, arith}
use Rattle.std.specs.Prelude.{◌⊎◌}
use Rattle.std.specs.Char.{digit_value, is_ascii_digit}
use Rattle.std.specs.Str.Parse.{AllDigits, digits_value}
use Rattle.std.proofs.lemmas.Bool.{and_from, and_parts, ltb-true, lt-ltb, leb-true, le-leb}
use Rattle.std.proofs.lemmas.Bool.Decides.{nat_tests}
use Rattle.std.proofs.Math.Nat.{pow-le-pow_right}
use Rattle.farm_types.specs.Decimals.{IsDecimal, IsPlainDecimal, leads_by_zero, all_digits, is_decimal, decimal_of, plain_decimal_of}

-- ---- digits

pub digit_value-digit : (c : ℕ) → is_ascii_digit c ≡ true → digit_value c ≡ c - 48
digit_value-digit c h = grind (arith, nat_tests)

pub digit_value-below : (c : ℕ) → is_ascii_digit c ≡ true → digit_value c < 10
digit_value-below c h = grind (arith, nat_tests)

pub no_digit : (c : ℕ) → is_ascii_digit c ≡ false → 10 ≤ digit_value c
no_digit c h = grind (arith, nat_tests)

pub digit_at : (cs : List ℕ) (k : ℕ) → k < length cs → AllDigits 10 cs → digit_value (get_or cs k 0) < 10
digit_at [] k lt h = absurd (omega arith)
digit_at (c ∷ cs) zero lt h = h.0
digit_at (c ∷ cs) (suc k) lt h = digit_at cs k (omega arith) h.1

pub small_power : (i : ℕ) → i ≤ 8 → 10 ^ i ≤ 100000000
small_power i h = let p : 10 ^ i ≤ 10 ^ 8 = pow-le-pow_right {n = 10} (omega arith) {i = i} {j = 8} (omega arith) in p

digits_pass : (text : List ℕ) → AllDigits 10 text → all_digits text ≡ true
digits_pass [] h = refl
digits_pass (b ∷ bs) h = and_from (nat_lt (digit_value b) 10) (all_digits bs) (lt-ltb (digit_value b) 10 h.0) (digits_pass bs h.1)

digits_are : (text : List ℕ) → all_digits text ≡ true → AllDigits 10 text
digits_are [] h = tt
digits_are (b ∷ bs) h =
    let both = and_parts (nat_lt (digit_value b) 10) (all_digits bs) h in
    (ltb-true (digit_value b) 10 both.0, digits_are bs both.1)

-- ---- numbers

some_value : (b : Bool) (m n : ℕ) → b ≡ true → m ≡ n → Some n ≡ cond b (Some m) None
some_value true m n holds same = ap Some (sym same)
some_value false m n holds same = absurd (let e : false ≡ true = holds in cc)

no_value : (b : Bool) (m : ℕ) → (b ≡ true → ⊥) → None ≡ cond b (Some m) None
no_value true m fails = absurd (fails refl)
no_value false m fails = refl

module _ (digits least greatest : ℕ) (text : List ℕ) where
  abbrev Is : ℕ → Type 0
  Is n = IsDecimal digits least greatest text n

  abbrev IsPlain : ℕ → Type 0
  IsPlain n = IsPlainDecimal digits least greatest text n

  abbrev value : ℕ
  value = digits_value 10 text

  abbrev short : Bool
  short = nat_le 1 (length text) && nat_le (length text) digits

  abbrev passes : Bool
  passes = is_decimal digits least greatest text

  -- a text is one number
  pub one_decimal : (n m : ℕ) → IsDecimal digits least greatest text n → IsDecimal digits least greatest text m → n ≡ m
  one_decimal n m a b = sym a.value ∙ b.value

  decimal_passes : (n : ℕ) → Is n → passes ≡ true
  decimal_passes n is =
      let some : nat_le 1 (length text) ≡ true = le-leb 1 (length text) is.some in
      let few : nat_le (length text) digits ≡ true = le-leb (length text) digits is.few in
      let each : all_digits text ≡ true = digits_pass text is.each in
      let low : nat_le least value ≡ true = le-leb least value (omega (arith, is.low, is.value)) in
      let high : nat_le value greatest ≡ true = le-leb value greatest (omega (arith, is.high, is.value)) in
      and_from (short && all_digits text && nat_le least value) (nat_le value greatest)
      (and_from (short && all_digits text) (nat_le least value)
      (and_from short (all_digits text) (and_from (nat_le 1 (length text)) (nat_le (length text) digits) some few) each) low) high

  passes_decimal : passes ≡ true → Is value
  passes_decimal h =
      let all = and_parts (short && all_digits text && nat_le least value) (nat_le value greatest) h in
      let low = and_parts (short && all_digits text) (nat_le least value) all.0 in
      let each = and_parts short (all_digits text) low.0 in
      let bounds = and_parts (nat_le 1 (length text)) (nat_le (length text) digits) each.0 in
      record {
        some = leb-true 1 (length text) bounds.0;
        few = leb-true (length text) digits bounds.1;
        each = digits_are text each.1;
        value = refl;
        low = leb-true least value low.1;
        high = leb-true value greatest all.1;
      }

  pub decimal_some : (n : ℕ) → IsDecimal digits least greatest text n → Some n ≡ decimal_of digits least greatest text
  decimal_some n is = some_value passes value n (decimal_passes n is) is.value

  pub decimal_none : ((n : ℕ) → IsDecimal digits least greatest text n → ⊥) → None ≡ decimal_of digits least greatest text
  decimal_none none = no_value passes value (λ h. none value (passes_decimal h))

  -- the text is a number, or none
  pub decimal_or_none : ((n : ℕ) × IsDecimal digits least greatest text n)
      ⊎ ((n : ℕ) → IsDecimal digits least greatest text n → ⊥)
  decimal_or_none = elim passes as (λ b. passes ≡ b → ((n : ℕ) × Is n) ⊎ ((n : ℕ) → Is n → ⊥)) [
    | true ↦ λ h. inl (value, passes_decimal h)
    | false ↦ λ h. inr (λ n is. let both : true ≡ false = sym (decimal_passes n is) ∙ h in cc)
  ] refl

  within_by : (b : Bool) → passes ≡ b → (m : ℕ) → cond b (Some value) None ≡ Some m → (least ≤ m) × (m ≤ greatest)
  within_by true is_number m is =
      let number = passes_decimal is_number in
      let same : value ≡ m = grind (arith, is) in
      (omega (arith, number.low, same), omega (arith, number.high, same))
  within_by false fails m is = absurd (grind (arith, is))

  -- a number that is read is within its limits
  pub decimal-within : (m : ℕ) → decimal_of digits least greatest text ≡ Some m → (least ≤ m) × (m ≤ greatest)
  decimal-within m is = within_by passes refl m is

  -- ---- without a zero in front

  pub one_plain : (n m : ℕ) → IsPlainDecimal digits least greatest text n → IsPlainDecimal digits least greatest text m → n ≡ m
  one_plain n m a b = one_decimal n m a.number b.number

  pub plain_some : (n : ℕ) → IsPlainDecimal digits least greatest text n → Some n ≡ plain_decimal_of digits least greatest text
  plain_some n is = decimal_some n is.number ∙ ap (λ b. cond b None (decimal_of digits least greatest text)) (sym is.plain)

  no_plain : (b : Bool) → leads_by_zero text ≡ b → ((n : ℕ) → IsPlain n → ⊥)
      → None ≡ cond b None (decimal_of digits least greatest text)
  no_plain true leads none = refl
  no_plain false plain none = decimal_none (λ n is. none n (record { number = is; plain = plain }))

  pub plain_none : ((n : ℕ) → IsPlainDecimal digits least greatest text n → ⊥)
      → None ≡ plain_decimal_of digits least greatest text
  plain_none none = no_plain (leads_by_zero text) refl none
