use Rattle.std.proofs.Common.{◌∙◌, ap, nat_eq, length, drop}
use Rattle.std.specs.Prelude.{◌&&◌}
use Rattle.std.specs.List.{list_any, list_all, starts_with}
use Rattle.object_kind.specs.Drivers.{is_version_byte, is_driver_tail}
use Rattle.object_kind.proofs.driver.is_driver_tail.Goals as goal

pub returns : goal.returns
unfolding is_driver_tail
returns c = c.is_versioned.ensures
    ∙ ap (λ l. list_any (λ name. starts_with nat_eq c.args.tail.now name.now && list_all is_version_byte (drop (length name.now) c.args.tail.now)) l)
    c.as_slice.ensures
