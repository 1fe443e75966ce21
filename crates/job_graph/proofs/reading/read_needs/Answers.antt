use Rattle.std.proofs.Common.{ℕ, ◌+◌, ◌-◌, List, [], ◌++◌, take, drop, ap, sym, ◌∙◌, subst, arith}
use Rattle.job_list.proofs.Listing.{next_line}
use Rattle.job_graph.specs.Needs.{all_named, jobs_named}
use Rattle.job_graph.proofs.Lines.{Reading}
use Rattle.job_graph.proofs.NeedLines.{reads_needs, reads_job, reads_other, reads_bad, reads_last}
use Rattle.job_graph.proofs.reading.read_needs.Goals as goal
use Rattle.job_graph.proofs.reading.read_needs.Goals.{in-Some+in_ok-add_needs+else-not-branch+else-len-count}
use Rattle.job_graph.proofs.reading.read_needs.Goals.{in_default+then-is_job+in_ok-try_push, in_default+else-is_job}

pub returns-then-not-branch-clause-fault : goal.returns-then-not-branch-clause-fault
returns-then-not-branch-clause-fault c =
    let text = c.args.text.now in
    let from = c.loop-from.from in
    let end = c.line_end-end in
    let next = next_line text from end.result end.ensures.low end.ensures.high end.ensures.plain end.ensures.ends in
    let bad = ap (all_named c.args.count) c.in-Some.ensures.words ∙ sym c.in_ok-add_needs.ensures.all ∙ c.if-not-branch.true in
    reads_bad text c.args.count from end.result c.loop-from.number (take (end.result - from) (drop from text)) c.loop-from.ahead
    c.loop-from.needs c.loop-from-test.true c.loop-from.invariant.reads next c.in-Some.ensures.is bad

pub returns-then-len-count-clause-fault : goal.returns-then-len-count-clause-fault
returns-then-len-count-clause-fault c =
    let text = c.args.text.now in
    let from = c.loop-from.from in
    let end = c.line_end-end in
    let next = next_line text from end.result end.ensures.low end.ensures.high end.ensures.plain end.ensures.ends in
    let right = ap (all_named c.args.count) c.in-Some.ensures.words ∙ sym c.in_ok-add_needs.ensures.all ∙ c.if-not-branch.false in
    reads_last text c.args.count from end.result c.loop-from.number (take (end.result - from) (drop from text)) c.loop-from.ahead
    c.loop-from.needs c.loop-from-test.true c.loop-from.invariant.reads next c.in-Some.ensures.is right
    (sym c.len.ensures ∙ c.if-len-count.true)

pub loop-from-preserved : goal.loop-from-preserved
loop-from-preserved c =
    let text = c.args.text.now in
    let from = c.loop-from.from in
    let end = c.line_end-end in
    let line : List ℕ = take (end.result - from) (drop from text) in
    let next = next_line text from end.result end.ensures.low end.ensures.high end.ensures.plain end.ensures.ends in
    let now : List ℕ → List (List ℕ) → Type 0 = λ ahead needs. Reading text c.args.count (end.result + 1) (c.loop-from.number + 1) ahead
    needs in
    record {
      high = omega arith;
      small = omega arith;
      reads = elim c.match-needs_behind.branch [
        | in-Some+in_ok-add_needs+else-not-branch+else-len-count w ↦
            (let right = ap (all_named c.args.count) w.in-Some.ensures.words ∙ sym w.in_ok-add_needs.ensures.all ∙ w.if-not-branch.false in
            let to = w.in_ok-add_needs.ensures.added w.if-not-branch.false
            ∙ ap (λ (ws : List (List ℕ)). c.loop-from.ahead ++ jobs_named c.args.count ws) (sym w.in-Some.ensures.words) in
            let more = reads_needs text c.args.count from end.result c.loop-from.number line c.loop-from.ahead w.add_needs.new.ahead
            c.loop-from.needs c.loop-from-test.true c.loop-from.invariant.reads next w.in-Some.ensures.is right
            (λ e. w.if-len-count.false (w.len.ensures ∙ e)) to in
            subst (λ (a : List ℕ). now a c.match-needs_behind.needs) (sym w.ahead-is)
            (subst (λ (ns : List (List ℕ)). now w.add_needs.new.ahead ns) (sym w.needs-is) more))
        | in_default+then-is_job+in_ok-try_push w ↦
            (let more = reads_job text c.args.count from end.result c.loop-from.number line c.loop-from.ahead c.loop-from.needs
            w.try_push.new.self c.loop-from-test.true c.loop-from.invariant.reads next w.in_default.ensures.none
            (sym w.is_job.ensures ∙ w.if-is_job.true) w.in_ok-try_push.ensures.ok in
            subst (λ (a : List ℕ). now a c.match-needs_behind.needs) (sym (w.ahead-is ∙ w.new-ahead-then-is_job.ensures))
            (subst (λ (ns : List (List ℕ)). now [] ns) (sym w.needs-is) more))
        | in_default+else-is_job w ↦
            (let more = reads_other text c.args.count from end.result c.loop-from.number line c.loop-from.ahead c.loop-from.needs
            c.loop-from-test.true c.loop-from.invariant.reads next w.in_default.ensures.none
            (sym w.is_job.ensures ∙ w.if-is_job.false) in
            subst (λ (a : List ℕ). now a c.match-needs_behind.needs) (sym w.ahead-is)
            (subst (λ (ns : List (List ℕ)). now c.loop-from.ahead ns) (sym w.needs-is) more))
      ];
    }
