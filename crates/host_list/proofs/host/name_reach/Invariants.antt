use Rattle.std.proofs.Common.{◌≡◌, ◌+◌, ◌≤◌, drop}
use Rattle.std.specs.List.{prefix_len}
use Rattle.farm_types.specs.Limits.{host_name_max}
use Rattle.host_list.specs.Names.{is_host_name_byte}
use Rattle.host_list.proofs.host.name_reach.Given as goal

abbrev pub invariant-loop-at : goal.invariant-loop-at
invariant-loop-at l = record {
  few : l.at ≤ host_name_max;
  reach : prefix_len is_host_name_byte l.word ≡ l.at + prefix_len is_host_name_byte (drop l.at l.word);
}
