use Rattle.std.proofs.Common.{◌+◌, ap, sym, ◌∙◌, Some, None, subst, arith}
use Rattle.std.specs.Option.{option_copied}
use Rattle.std.proofs.lemmas.Map.Text.{btree_map_updates_str}
use Rattle.job_list.proofs.Pairs.{HasPlaces, place_of, here_at, places_past, places_added, places_all, places_pair}
use Rattle.job_list.proofs.outputs.least_pair.Goals as goal
use Rattle.job_list.proofs.outputs.least_pair.Goals.{in-Some+in_default-get+in_ok-insert, in_default}

pub returns-in-Some-get-clause-some : goal.returns-in-Some-get-clause-some
returns-in-Some-get-clause-some c =
    let here = here_at c.args.outputs.now c.loop-second.second (Some c.in-Some.output) c.loop-second-test.true
    c.index-outputs-second.result c.index-outputs-second.is c.in-Some.is in
    places_pair c.args.outputs.now c.loop-second.second c.loop-second.places c.in-Some.output c.in-Some-get.first.now
    c.loop-second.invariant here
    (ap (place_of c.loop-second.places) (sym c.as_slice.ensures) ∙ sym c.in-Some-get.ensures.value)

pub loop-second-preserved : goal.loop-second-preserved
loop-second-preserved c = elim c.match-output.branch [
  | in-Some+in_default-get+in_ok-insert w ↦
      (let here = here_at c.args.outputs.now c.loop-second.second (Some w.in-Some.output) c.loop-second-test.true
      c.index-outputs-second.result c.index-outputs-second.is w.in-Some.is in
      let before = ap (place_of c.loop-second.places) (sym w.as_slice.ensures) ∙ sym w.get.ensures.value
      ∙ ap option_copied w.in_default-get.is in
      let more = places_added c.args.outputs.now c.loop-second.second c.loop-second.places w.insert.new.self w.in-Some.output
      w.as_slice-in-Some.result.now c.loop-second.invariant here before w.as_slice-in-Some.ensures
      (btree_map_updates_str w.as_slice-in-Some.result.now c.loop-second.places w.insert.new.self (Some c.loop-second.second)
      w.in_ok-insert.ensures.updates) in
      subst (HasPlaces c.args.outputs.now (c.loop-second.second + 1)) (sym w.places-is) more)
  | in_default w ↦
      (let here = here_at c.args.outputs.now c.loop-second.second None c.loop-second-test.true c.index-outputs-second.result
      c.index-outputs-second.is w.in_default.is in
      subst (HasPlaces c.args.outputs.now (c.loop-second.second + 1)) (sym w.places-is)
      (places_past c.args.outputs.now c.loop-second.second c.loop-second.places c.loop-second.invariant here))
]

pub returns-clause-none : goal.returns-clause-none
returns-clause-none c = places_all c.args.outputs.now c.loop-second.second c.loop-second.places c.loop-second.invariant (omega arith)
