use Rattle.std.proofs.Common.{Ok, Err, refl}
use Rattle.farm_options.specs.Options.{given_in}
use Rattle.farm_options.proofs.command.parse_watch.Goals as goal

pub returns-in-Ok : goal.returns-in-Ok
returns-in-Ok c = (Ok (given_in c.in-Ok.options), c.in-Ok.ensures, refl)

pub returns-in-Err : goal.returns-in-Err
returns-in-Err c = (Err c.in-Err.place, c.in-Err.ensures, refl)
