use Rattle.std.proofs.Common.{◌≡◌, ℕ, suc, ◌+◌, ◌-◌, ◌/◌, ◌%◌, List, ◌∷◌, ◌++◌, drop, refl, sym, ap, ◌∙◌, arith}
use Rattle.std.specs.Prelude.{slice_set}
use Rattle.std.proofs.lemmas.List.{drop-set, take-set-le, take-append-drop, length-set}
use Rattle.wire_tokens.specs.Token.{lower_digits, lower_digit}
use Rattle.wire_tokens.proofs.Digits.{lower_digits-more, lower_digits-none}
use Rattle.wire_tokens.proofs.token.write_token.Goals as goal

pub loop-i-preserved : goal.loop-i-preserved
loop-i-preserved c =
    let i : ℕ = c.loop-i.i in
    let n : ℕ = c.loop-i.rest in
    let room : List ℕ = c.loop-i.room in
    let v : ℕ = c.lower_digit_of.result in
    let k : 8 - i ≡ suc (8 - (i + 1)) = omega arith in
    let at : (11 - i) + 1 ≡ 12 - i = omega arith in
    let here : 12 - (i + 1) ≡ 11 - i = omega arith in
    let one : lower_digits (8 - i) n ++ drop (12 - i) room ≡ lower_digits (8 - (i + 1)) (n / 16)
    ++ (lower_digit (n % 16) ∷ drop (12 - i) room) = rw k (lower_digits-more (8 - (i + 1)) n (drop (12 - i) room)) in
    let set_one : drop (12 - (i + 1)) (slice_set room (11 - i) v) ≡ lower_digit (n % 16) ∷ drop (12 - i) room =
    rw (here, drop-set room (11 - i) v (omega arith), at, c.lower_digit_of.ensures) refl in
    record {
      digits = c.loop-i.invariant.digits ∙ one ∙ ap (λ (x : List ℕ). lower_digits (8 - (i + 1)) (n / 16) ++ x) (sym set_one);
      named = take-set-le 4 room (11 - i) v (omega arith) ∙ c.loop-i.invariant.named;
      long = length-set room (11 - i) v ∙ c.loop-i.invariant.long;
    }

pub returns : goal.returns
returns c =
    let i : ℕ = c.loop-i.i in
    let room : List ℕ = c.loop-i.room in
    let e : i ≡ 8 = omega arith in
    let d : lower_digits 8 c.args.number ≡ drop 4 room = c.loop-i.invariant.digits ∙ rw e (lower_digits-none c.loop-i.rest (drop 4 room)) in
    sym (take-append-drop 4 room) ∙ rw (c.loop-i.invariant.named, d) refl
