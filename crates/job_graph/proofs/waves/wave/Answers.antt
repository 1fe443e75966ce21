use Rattle.std.proofs.Common.{ℕ, ◌+◌, List, [], length, get_or, ap, sym, ◌∙◌, subst, arith}
use Rattle.std.proofs.lemmas.List.{get_or_read}
use Rattle.job_graph.specs.declared.fates.Wave.{Wave}
use Rattle.job_graph.specs.Waves.{least_not_good}
use Rattle.job_graph.proofs.Waving.{WaveUpTo, wave_adds, wave_passes}
use Rattle.job_graph.proofs.waves.wave.Goals as goal
use Rattle.job_graph.proofs.waves.wave.Goals.{then-depths-job+in_ok-add_job, else-depths-job}

pub overflow_cast-job : goal.overflow_cast-job
overflow_cast-job c =
    let few = c.requires.graph.few in
    let long = c.requires.graph.long in
    let same = ap (λ (xs : List (List ℕ)). length xs) c.as_slice-needs.ensures in
    omega arith

pub loop-job-preserved : goal.loop-job-preserved
loop-job-preserved c =
    let graph = c.args.graph.now in
    let fates = c.as_slice-fates.result.now in
    let job : ℕ = c.loop-job.job in
    let at = ap (λ (xs : List ℕ). get_or xs job 0) c.as_slice-depths.ensures in
    elim c.if-depths-job.branch [
      | then-depths-job+in_ok-add_job w ↦
          (let needed = w.as_slice.ensures ∙ get_or_read c.as_slice-needs.result.now job w.index-needs-job.result c.loop-job-test.true
          w.index-needs-job.is [] ∙ ap (λ (xs : List (List ℕ)). get_or xs job []) c.as_slice-needs.ensures in
          let blocked = w.least_not_good-blocker.ensures ∙ ap (least_not_good fates) needed in
          subst (λ (x : Wave). WaveUpTo graph c.args.level fates (job + 1) x) (sym w.wave-is)
          (wave_adds graph c.args.level fates job c.loop-job.wave w.add_job.new.wave c.loop-job.invariant
          w.least_not_good-blocker.result blocked (sym at ∙ w.if-depths-job.true) w.in_ok-add_job.ensures))
      | else-depths-job w ↦ wave_passes graph c.args.level fates job c.loop-job.wave c.if-depths-job.wave c.loop-job.invariant
          (λ e. w.if-depths-job.false (at ∙ e)) w.wave-is
    ]
