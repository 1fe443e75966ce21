use Rattle.std.proofs.Common.{refl}
use Rattle.farm_options.proofs.options.parse_options.Goals as goal

pub returns-in-Ok : goal.returns-in-Ok
returns-in-Ok c = let read = c.in-Ok.ensures.read in (read.0, read.1, c.options_in.ensures read.0 read.1)

pub returns-in-Err : goal.returns-in-Err
returns-in-Err c = (c.in-Err.place, c.in-Err.ensures.read, refl)
