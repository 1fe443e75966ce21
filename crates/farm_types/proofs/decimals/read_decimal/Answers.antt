use Rattle.std.proofs.Common.{ℕ, get_or, sym, ◌∙◌, arith}
use Rattle.std.proofs.lemmas.Grind.{pow_more}
use Rattle.std.proofs.lemmas.Int.Digits.{digits_value_more, digits_more}
use Rattle.farm_types.proofs.DecimalLemmas.{digit_at, no_digit, digit_value-digit, digit_value-below, small_power}
use Rattle.farm_types.proofs.decimals.read_decimal.Goals as goal

pub returns-then-not-is_ascii_digit-clause-none : goal.returns-then-not-is_ascii_digit-clause-none
returns-then-not-is_ascii_digit-clause-none c n number =
    let small = digit_at c.args.text.now c.loop-digit.digit-index (omega arith) number.each in
    let large = no_digit (get_or c.args.text.now c.loop-digit.digit-index 0)
    (sym c.is_ascii_digit.ensures.value ∙ c.if-not-is_ascii_digit.true) in
    omega arith

pub overflow_mul-n : goal.overflow_mul-n
overflow_mul-n c = omega (arith, small_power c.loop-digit.digit-index (omega arith))

pub overflow_add-n : goal.overflow_add-n
overflow_add-n c =
    let is = sym c.is_ascii_digit.ensures.value ∙ c.if-not-is_ascii_digit.false in
    let small = digit_value-below (get_or c.args.text.now c.loop-digit.digit-index 0) is in
    let value = digit_value-digit (get_or c.args.text.now c.loop-digit.digit-index 0) is in
    omega (arith, small_power c.loop-digit.digit-index (omega arith))

pub loop-digit-preserved : goal.loop-digit-preserved
loop-digit-preserved c =
    let i : ℕ = c.loop-digit.digit-index in
    let is = sym c.is_ascii_digit.ensures.value ∙ c.if-not-is_ascii_digit.false in
    let small = digit_value-below (get_or c.args.text.now c.loop-digit.digit-index 0) is in
    let value = digit_value-digit (get_or c.args.text.now c.loop-digit.digit-index 0) is in
    record {
      each = digits_more 10 c.args.text.now i (omega arith) c.loop-digit.invariant.each small;
      value = let more = digits_value_more 10 c.args.text.now i (omega arith) in rw (more, ← c.loop-digit.invariant.value) (omega arith);
      below = rw (pow_more 10 i) (omega arith);
    }
