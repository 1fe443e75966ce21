use Rattle.std.proofs.Common.{◌≡◌, drop, length, nat_eq}
use Rattle.std.specs.Prelude.{◌&&◌}
use Rattle.std.specs.List.{list_any, list_all, starts_with}
use Rattle.object_kind.specs.Drivers.{is_version_byte}
use Rattle.object_kind.proofs.driver.is_versioned.Given as goal

abbrev pub invariant-loop-name : goal.invariant-loop-name
invariant-loop-name l =
    list_any (λ name. starts_with nat_eq l.tail name.now && list_all is_version_byte (drop (length name.now) l.tail)) (drop l.name-index l.names)
    ≡ list_any (λ name. starts_with nat_eq l.tail name.now && list_all is_version_byte (drop (length name.now) l.tail)) l.names
