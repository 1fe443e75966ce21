use Rattle.std.specs.Prelude.{[]}
use Rattle.farm_types.specs.declared.ran.Ran.{Ran}

-- a run of status 0 with nothing in it
abbrev pub nothing_ran : Ran
nothing_ran = record { status = 0; out = []; err = []; object = [] }
