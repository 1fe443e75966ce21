use Rattle.std.proofs.Common.{◌≡◌, ◌*◌, length, sum_by}
use Rattle.std.specs.Prelude.{All}
use Rattle.farm_types.specs.Limits.{word_max}
use Rattle.wire_tests.proofs.limits.full_words.Given as goal

abbrev pub invariant-loop : goal.invariant-loop
invariant-loop l = record {
  count : length l.words ≡ l.counter;
  each : All (λ word. length word ≡ word_max) l.words;
  together : sum_by length l.words ≡ l.counter * word_max;
}
