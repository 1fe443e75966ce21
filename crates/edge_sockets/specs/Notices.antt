-- What is said of exchanges.
use Rattle.std.specs.Prelude.{ℕ, List, codes, bytes_eq, Option, Some, None, if◌then◌else◌}
use Rattle.edge_sockets.specs.declared.notices.Notices.{Notices}
use Rattle.edge_sockets.specs.declared.notices.Notices.TheVariants.{Never, Faults, All}

-- what `FARM_NOTICES` asks for
abbrev pub notices_by : Option (List ℕ) → Notices
notices_by None = Faults
notices_by (Some value) =
    if bytes_eq value (codes "0") then Never
    else (if bytes_eq value (codes "all") then All else Faults)
