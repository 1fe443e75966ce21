use Rattle.std.proofs.Common.{◌≡◌, ◌+◌, drop, map, string_bytes, Global}
use Rattle.std.specs.List.{position_or_len}
use Rattle.sample_program.specs.Forms.{is_output}
use Rattle.sample_program.proofs.forms.len_before_output.Given as goal

abbrev pub invariant-loop-index : goal.invariant-loop-index
invariant-loop-index l = position_or_len is_output (map (string_bytes {Z = Global}) l.words) ≡ l.index + position_or_len is_output
    (map (string_bytes {Z = Global}) (drop l.index l.words))
