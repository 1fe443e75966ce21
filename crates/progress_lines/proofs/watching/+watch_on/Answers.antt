use Rattle.std.proofs.Common.{◌≡◌, ◌≢◌, ℕ, List, ◌+◌, ◌-◌, ◌<◌, ◌≤◌, length, min, sym, ap, ◌∙◌, subst, arith}
use Rattle.std.proofs.lemmas.List.{length-map}
use Rattle.farm_monitor.specs.Boards.{board_watched}
use Rattle.farm_monitor.specs.declared.progress.Progress.{Progress}
use Rattle.progress_lines.specs.declared.count.Count.{Count}
use Rattle.progress_lines.specs.declared.line_end.LineEnd.TheVariants.{Whole, SinkFault, Memory}
use Rattle.progress_lines.specs.Counts.{known, total, at_jobs, ReadOn}
use Rattle.progress_lines.specs.Lines.{are_all}
use Rattle.progress_lines.proofs.Going.{Look, Tells, fits, count-is, none-tells, more-left, one-tells, last-tells, cut-tells}
use Rattle.progress_lines.proofs.watching.+watch_on.Goals as goal

-- what is known of a count after a look
look : (jobs workers : ℕ) (c : Count) (old here : List (List Progress)) → c.ended ≡ min jobs (total here) → c.busy ≡ at_jobs here
    → c.busy ≤ workers → total old ≤ total here → ReadOn old here → Look jobs workers (min jobs (total old)) c old here
look jobs workers c old here ended busy few rises more = record {
  fit = fits jobs workers (min jobs (total old)) c (omega (arith, ended, rises)) (omega (arith, ended)) few;
  more = more;
  is = count-is jobs c here ended busy;
}

pub returns-then-left-eq0-clause-tells : goal.returns-then-left-eq0-clause-tells
returns-then-left-eq0-clause-tells g t c =
    let old = c.args.watchers.now in
    let none : c.args.left ≡ 0 = omega (arith, c.if-left-eq0.true) in
    let tells = none-tells c.args.jobs (length old) c.args.number c.args.left (min c.args.jobs (total (known old))) (known old)
    (g.E.Sink.shows c.args.err.now) none in
    record { printed = tells.printed; looks = tells.looks }

pub returns-in-Whole-clause-tells : goal.returns-in-Whole-clause-tells
returns-in-Whole-clause-tells g t c =
    let jobs = c.args.jobs in
    let old = c.args.watchers.now in
    let count = c.count_rows-count.result in
    let n = c.count_rows-count.ensures in
    let some : 0 < c.args.left = omega arith in
    let tells = last-tells jobs (length old) c.args.number c.args.left (min jobs (total (known old))) count (known old)
    (known c.count_rows-count.new.watchers) _ _
    (look jobs (length old) count (known old) (known c.count_rows-count.new.watchers) n.ended n.busy n.few n.rises n.read) some
    (sym c.is_last.ensures ∙ c.if-is_last.true) c.in-Whole.ensures in
    record { printed = tells.printed; looks = tells.looks }

pub returns-in-Whole-2-clause-tells : goal.returns-in-Whole-2-clause-tells
returns-in-Whole-2-clause-tells g t c =
    let shows = g.E.Sink.shows in
    let jobs = c.args.jobs in
    let old = c.args.watchers.now in
    let read = c.count_rows-count.new.watchers in
    let again = c.pause_on.new.watchers in
    let last = c.watch_on.new.watchers in
    let count = c.count_rows-count.result in
    let n = c.count_rows-count.ensures in
    let p = c.pause_on.ensures in
    let rest = c.watch_on.ensures.tells in
    let mid = shows c.print_line.new.err in
    let new = shows c.watch_on.new.err in
    let len : length again ≡ length old =
    sym (length-map again board_watched) ∙ ap length (p.same ∙ n.same) ∙ length-map old board_watched in
    let later : count.ended ≤ min jobs (total (known again)) = let e = n.ended in let r = p.rises in omega (arith, e, r) in
    let left : 0 < c.args.left = omega arith in
    let goes = sym c.is_last.ensures ∙ c.if-is_last.false in
    let some : 1 ≤ c.args.left - 1 = more-left c.args.left (are_all jobs count) left goes in
    let one : c.args.left ≡ c.args.left - 1 + 1 = omega (arith, some) in
    let from : Tells jobs (length old) (c.args.number + 1) (c.args.left - 1) (min jobs (total (known again))) (known again) (known last) mid new c.watch_on.result =
    subst (λ (k : ℕ). Tells jobs k (c.args.number + 1) (c.args.left - 1) (min jobs (total (known again))) (known again) (known last) mid new c.watch_on.result) len
    (record { printed = rest.printed; looks = rest.looks }) in
    let tells = one-tells jobs (length old) c.args.number c.args.left (c.args.left - 1) (min jobs (total (known old))) (min jobs (total (known again))) count
    (known old) (known read) (known again) (known last) (shows c.args.err.now) mid new c.watch_on.result
    (look jobs (length old) count (known old) (known read) n.ended n.busy n.few n.rises n.read) one some goes c.in-Whole.ensures p.read
    later from in
    record { printed = tells.printed; looks = tells.looks }

pub returns-in-SinkFault-clause-tells : goal.returns-in-SinkFault-clause-tells
returns-in-SinkFault-clause-tells g t c =
    let jobs = c.args.jobs in
    let old = c.args.watchers.now in
    let count = c.count_rows-count.result in
    let n = c.count_rows-count.ensures in
    let some : 0 < c.args.left = omega arith in
    let cut : SinkFault ≢ Whole = λ whole. absurd (cc whole) in
    let tells = cut-tells jobs (length old) c.args.number c.args.left (min jobs (total (known old))) count (known old)
    (known c.count_rows-count.new.watchers) _ _ SinkFault
    (look jobs (length old) count (known old) (known c.count_rows-count.new.watchers) n.ended n.busy n.few n.rises n.read) some c.in-SinkFault.ensures
    cut in
    record { printed = tells.printed; looks = tells.looks }

pub returns-in-Memory-clause-tells : goal.returns-in-Memory-clause-tells
returns-in-Memory-clause-tells g t c =
    let jobs = c.args.jobs in
    let old = c.args.watchers.now in
    let count = c.count_rows-count.result in
    let n = c.count_rows-count.ensures in
    let some : 0 < c.args.left = omega arith in
    let cut : Memory ≢ Whole = λ whole. absurd (cc whole) in
    let tells = cut-tells jobs (length old) c.args.number c.args.left (min jobs (total (known old))) count (known old)
    (known c.count_rows-count.new.watchers) _ _ Memory
    (look jobs (length old) count (known old) (known c.count_rows-count.new.watchers) n.ended n.busy n.few n.rises n.read) some c.in-Memory.ensures
    cut in
    record { printed = tells.printed; looks = tells.looks }
