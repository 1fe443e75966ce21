use Rattle.farm_machine.specs.Devices.{devices}
use Rattle.job_driver.proofs.Meaning.{means}
use Rattle.job_driver.proofs.laws.run_means.Goals as goal

pub returns : goal.returns
returns g c = means (devices g.D.Dialer.shows g.S.Station.shows g.K.Keeper.shows g.C.Clock.shows g.D.Dialer.may_give g.S.Station.ran)
