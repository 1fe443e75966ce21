use Rattle.std.proofs.Common.{refl}
use Rattle.daemon_service.proofs.Assembling.{untouched, unread, replied}
use Rattle.daemon_service.proofs.Causing.{link_then, unread_station, replied_station}
use Rattle.daemon_service.proofs.Calling.{unread_calls, replied_calls, unmade_calls}
use Rattle.daemon_service.specs.Calls.{uncalled}
use Rattle.daemon_service.proofs.service.serve_connection.Goals as goal

pub returns-in_default-clause-service : goal.returns-in_default-clause-service
returns-in_default-clause-service g c = untouched c.args.table.now.rows _ _ _ c.requires

pub returns-in-Err-clause-service : goal.returns-in-Err-clause-service
returns-in-Err-clause-service g c =
    let read = c.in-Err.ensures in
    unread c.args.table.now.rows (g.S.Station.ran c.args.station.now) (g.L.Link.shows c.args.link.now)
    (g.L.Link.shows c.read_request.new.link) (g.S.Station.shows c.args.station.now) c.requires read.sent read.stopped
    c.in-Err.served read.given

pub returns-in-Ok-make_outcome-clause-service : goal.returns-in-Ok-make_outcome-clause-service
returns-in-Ok-make_outcome-clause-service g c =
    let read = c.in-Ok-read_request.ensures in
    let sent = c.reply.ensures in
    replied c.args.table.now.rows (g.S.Station.ran c.make_outcome.new.station) (g.L.Link.shows c.args.link.now)
    (g.L.Link.shows c.read_request.new.link) (g.S.Station.shows c.args.station.now) (g.S.Station.shows c.make_outcome.new.station)
    c.requires read.sent read.stopped c.in-Ok-read_request.request read.given (g.L.Link.shows c.reply.new.link)
    c.in-Ok-make_outcome.outcome c.in-Ok-make_outcome.ensures.made sent.given sent.ended c.reply.result sent.replied

pub returns-in_default-clause-cause : goal.returns-in_default-clause-cause
returns-in_default-clause-cause g c = refl

pub returns-in_default-clause-station_cause : goal.returns-in_default-clause-station_cause
returns-in_default-clause-station_cause g c = record { faults = refl; overruns = refl }

pub returns-in-Err-clause-station_cause : goal.returns-in-Err-clause-station_cause
returns-in-Err-clause-station_cause g c =
    unread_station c.in-Err.served (g.L.Link.shows c.args.link.now) (g.L.Link.shows c.read_request.new.link) _
    (g.S.Station.shows c.args.station.now) c.in-Err.ensures.given.is

pub returns-in-Ok-make_outcome-clause-cause : goal.returns-in-Ok-make_outcome-clause-cause
returns-in-Ok-make_outcome-clause-cause g c = link_then c.reply.result _ _ _ c.in-Ok-read_request.ensures.done c.reply.ensures.cause

pub returns-in-Ok-make_outcome-clause-station_cause : goal.returns-in-Ok-make_outcome-clause-station_cause
returns-in-Ok-make_outcome-clause-station_cause g c =
    replied_station c.reply.result _ _ (g.L.Link.shows c.read_request.new.link) (g.L.Link.shows c.reply.new.link)
    (g.S.Station.shows c.args.station.now) (g.S.Station.shows c.make_outcome.new.station) c.reply.ensures.replied
    c.in-Ok-make_outcome.ensures.done

pub returns-in_default-clause-calls : goal.returns-in_default-clause-calls
returns-in_default-clause-calls g c = uncalled refl tt

pub returns-in-Err-clause-calls : goal.returns-in-Err-clause-calls
returns-in-Err-clause-calls g c =
    unread_calls g.S.Station.goes c.args.table.now.rows c.args.station.now c.args.station.now c.in-Err.served _ _ _ refl
    c.in-Err.ensures.given.is

pub returns-in-Ok-make_outcome-clause-calls : goal.returns-in-Ok-make_outcome-clause-calls
returns-in-Ok-make_outcome-clause-calls g c =
    let read = c.in-Ok-read_request.ensures.given.is.0 in
    replied_calls g.S.Station.goes c.args.table.now.rows c.args.station.now c.make_outcome.new.station c.in-Ok-read_request.request
    c.in-Ok-make_outcome.outcome _ read.0 _ (g.L.Link.shows c.read_request.new.link) (g.L.Link.shows c.reply.new.link) c.reply.result
    read.1 c.in-Ok-make_outcome.ensures.calls c.reply.ensures.replied

pub returns-clause-calls : goal.returns-clause-calls
returns-clause-calls g c =
    let read = c.in-Ok-read_request.ensures.given.is.0 in
    unmade_calls g.S.Station.goes c.args.table.now.rows c.args.station.now c.make_outcome.new.station c.in-Ok-read_request.request _
    read.0 c.in-Err-make_outcome.served
    read.1 _ _ _ c.in-Err-make_outcome.ensures.made c.in-Err-make_outcome.ensures.calls
