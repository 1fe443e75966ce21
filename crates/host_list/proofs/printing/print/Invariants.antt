use Rattle.std.proofs.Common.{◌≡◌, take}
use Rattle.std.specs.List.{flat_map}
use Rattle.host_list.specs.HostLists.{host_line}
use Rattle.host_list.proofs.printing.print.Given as goal

abbrev pub invariant-loop-host : goal.invariant-loop-host
invariant-loop-host l = l.text ≡ flat_map host_line (take l.host-index l.host-items)
