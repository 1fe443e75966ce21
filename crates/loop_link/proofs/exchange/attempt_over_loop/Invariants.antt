use Rattle.std.specs.Prelude.{is_some}
use Rattle.loop_link.specs.Dialers.{station_of}
use Rattle.loop_link.proofs.exchange.attempt_over_loop.Given as goal

abbrev pub ghosts-attempt_from : goal.ghosts-attempt_from
ghosts-attempt_from g a =
    record { station = station_of g.S.Station.shows a.dialer; there = is_some a.dialer.held; exchanges = a.dialer.exchanges }
