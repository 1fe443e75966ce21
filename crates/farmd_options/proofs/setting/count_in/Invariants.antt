use Rattle.std.proofs.Common.{◌≡◌, ◌≤◌, ◌+◌, length, map, string_bytes, Global}
use Rattle.farmd_options.specs.Options.{count_in}
use Rattle.farmd_options.proofs.setting.count_in.Given as goal

abbrev pub invariant-counting : goal.invariant-counting
invariant-counting l = record {
  counted : l.count + count_in l.kind (map (string_bytes {Z = Global}) l.rest)
      ≡ count_in l.kind (map (string_bytes {Z = Global}) l.fn.words);
  few : l.count + length l.rest ≤ length l.fn.words;
}

abbrev pub decreases-counting : goal.decreases-counting
decreases-counting l = length l.rest
