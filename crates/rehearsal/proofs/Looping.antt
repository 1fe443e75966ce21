-- Over loops each object is the compiler's.
use Rattle.std.proofs.Common.{◌≡◌, ℕ, true, List, [], ◌∷◌, ◌++◌, refl, sym, ap, ◌∙◌, subst, arith}
use Rattle.std.specs.Prelude.{◌==◌, if◌then◌else◌, slice_index_or}
use Rattle.std.proofs.lemmas.List.Elements.{All-get_or}
use Rattle.farm_types.specs.declared.ran.Ran.{Ran}
use Rattle.edge_traits.specs.Clocks.{ClockView}
use Rattle.edge_traits.specs.Deeds.{ran, fetched}
use Rattle.edge_traits.specs.Keepers.{KeeperView}
use Rattle.arg_strip.proofs.Laws.{placed_again, stripped_is_remote}
use Rattle.farm_machine.specs.declared.reports.End.{End}
use Rattle.farm_machine.specs.Acts.{Act, Did}
use Rattle.farm_machine.specs.Course.{Course}
use Rattle.farm_machine.specs.Honest.{Programs, IsHonest, object_of}
use Rattle.farm_machine.specs.Jobs.{Job, may_be_sent, request_for}
use Rattle.farm_machine.specs.Table.{IsSource}
use Rattle.loop_link.specs.Dialers.{held_of, DialerGives}
use Rattle.loop_link.proofs.Honest.{honest, fully_honest}
use Rattle.sample_compiler.specs.Stations.{StationRan, station_files}
use Rattle.job_driver.proofs.Meaning.{means}
use Rattle.rehearsal.specs.Loops.{LoopKit, IsLoop, loop_kits, LoopLaw, HonestLoopLaw}

-- a job that has a source may be sent
has_sent : (j : Job) (acts more : List Act) (end : End) (source : List ℕ) → Course j (acts ++ more) end → IsSource acts source
    → may_be_sent j ≡ true
has_sent j [] more end source course is = absurd is
has_sent j (Did (fetched x) ∷ acts) more end source (c, next, from) is = next.0
has_sent j (Did (ran x) ∷ acts) more end source (c, next, from) is = next.0
has_sent j (a ∷ acts) more end source (c, next, from) is = absurd is

-- the object of a run of status 0
pub whole-object : (r : Ran) → r.status ≡ 0 → object_of r ≡ r.object
whole-object r good = ap (λ (s : ℕ). if s == 0 then r.object else []) good

pub loop-law : {K C : Type 0} (keeper : K → KeeperView) (clock : C → ClockView) → LoopLaw keeper clock
loop-law {K = K} {C = C} keeper clock l jobs period workers reports history last old new loops enough run j other before
    rest x below is =
    let worker = run.read.worker j in
    let kit : LoopKit K C = slice_index_or old worker other in
    let one = run.by_workers j below in
    let loop : IsLoop kit = All-get_or IsLoop old worker other (omega (arith, one, enough)) loops in
    let files = station_files kit.station in
    let peers = DialerGives (λ s. StationRan (station_files s)) kit.dialer in
    let own : IsHonest peers (StationRan files) =
    subst (λ held. IsHonest peers (StationRan held)) loop.same
    (honest (held_of kit.dialer).table.rows (StationRan (station_files (held_of kit.dialer).station)) loop.names) in
    let run_means = means (loop_kits keeper clock) l jobs period workers reports history last old new run in
    let answer = run_means.honest_objects j other below before rest x refl own is in
    let left = answer.compiles.run in
    let sent = has_sent (jobs j) before _ (run.read.ends j) answer.source
    (subst (λ acts. Course (jobs j) acts (run.read.ends j)) is (run_means.courses j below)) answer.source_is in
    let good : left.status ≡ 0 = sym answer.compiles.status ∙ answer.status in
    record {
      source = answer.source;
      source_is = answer.source_is;
      ran = left;
      left = subst (λ list. StationRan files list answer.source left) (placed_again (jobs j).words sent) answer.compiles.may;
      status = good;
      object = answer.object ∙ answer.compiles.object ∙ whole-object left good;
    }

pub honest-loop : (programs : Programs) → HonestLoopLaw programs
honest-loop programs table j program names sent named source asked given o used may spelled begins =
    fully_honest table programs names asked given (request_for j source) o used program may spelled begins
    (stripped_is_remote j.words sent) named
