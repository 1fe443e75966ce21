use Rattle.std.proofs.Common.{◌≡◌, ◌-◌, ◌++◌, take, drop, length}
use Rattle.wire_tokens.specs.Token.{lower_digits}
use Rattle.wire_tokens.proofs.token.write_token.Given as goal

abbrev pub invariant-loop-i : goal.invariant-loop-i
invariant-loop-i l = record {
  digits : lower_digits 8 l.number ≡ lower_digits (8 - l.i) l.rest ++ drop (12 - l.i) l.room;
  named : take 4 l.room ≡ l.fn.name.0;
  long : length l.room ≡ 12;
}
