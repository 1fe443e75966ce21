use Rattle.std.proofs.Common.{◌≡◌, ap, ◌∙◌}
use Rattle.sample_compiler.specs.Tasks.{task_of}
use Rattle.sample_compiler.specs.Stations.{asked_by}
use Rattle.sample_compiler.proofs.StationLemmas.{same_stations, left_run}
use Rattle.sample_compiler.proofs.station.left.Goals as goal

pub returns-in_err-ran-clause-same : goal.returns-in_err-ran-clause-same
returns-in_err-ran-clause-same c = same_stations c.args.files.now c.put_input.new.files c.args.input.now c.in_ok-put_input.ensures.held

pub returns-clause-ran : goal.returns-clause-ran
returns-clause-ran c =
    let asked : c.in_ok-asked.asked ≡ asked_by c.args.words.now = c.in_ok-asked.ensures.task
    ∙ ap task_of (c.as_slice.ensures ∙ c.in_ok-texts.ensures) in
    left_run c.args.files.now c.put_input.new.files c.args.words.now c.args.input.now c.in_ok-asked.asked c.in_ok-ran.ran
    c.as_left.result c.in_ok-put_input.ensures.held asked c.in_ok-ran.ensures c.as_left.ensures

pub returns-clause-same : goal.returns-clause-same
returns-clause-same c = same_stations c.args.files.now c.put_input.new.files c.args.input.now c.in_ok-put_input.ensures.held
