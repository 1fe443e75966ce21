use Rattle.std.proofs.Common.{refl, ap}
use Rattle.object_cache.proofs.Answering.{has_one, hit_run}
use Rattle.shared_cache.specs.Shared.{hit}
use Rattle.shared_cache.proofs.Answering.{alike_answer}
use Rattle.shared_cache.proofs.running.run_by_name.Goals as goal

pub returns-in-Some-clause-run : goal.returns-in-Some-clause-run
returns-in-Some-clause-run g c =
    let words = c.args.asked.now.words.now in
    let input = c.args.asked.now.input.now in
    let found = alike_answer g.P.Sharing.ran (g.S.Station.ran c.args.station.now) c.args.asked.now.bounds.now words input c.in-Some.ran
    c.requires.one c.in-Some.ensures in
    hit_run g.S.Station.shows g.S.Station.ran words input c.args.asked.now.bounds.now c.args.station.now c.in-Some.ran
    found.within found.kept.left (λ none. absurd (has_one words input c.requires.cacheable none))

pub returns-in-Some-clause-step : goal.returns-in-Some-clause-step
returns-in-Some-clause-step g c =
    let found = alike_answer g.P.Sharing.ran (g.S.Station.ran c.args.station.now) c.args.asked.now.bounds.now
    c.args.asked.now.words.now c.args.asked.now.input.now c.in-Some.ran c.requires.one c.in-Some.ensures in
    hit c.in-Some.ran c.requires.cacheable refl found refl
    (ap (λ n. record { hits = n; misses = c.args.counts.now.misses }) c.raised-counts.ensures)
