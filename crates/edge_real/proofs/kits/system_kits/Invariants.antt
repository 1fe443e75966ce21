use Rattle.std.proofs.Common.{◌≡◌}
use Rattle.std.specs.Prelude.{All, vec_len}
use Rattle.edge_real.specs.Kits.{IsSystemKit}
use Rattle.edge_real.proofs.kits.system_kits.Given as goal

abbrev pub invariant-loop : goal.invariant-loop
invariant-loop g l = record {
  count : vec_len l.kits ≡ l.counter;
  kits : All (IsSystemKit l.rt l.settings.folder.now l.settings.process) l.kits.items;
}
