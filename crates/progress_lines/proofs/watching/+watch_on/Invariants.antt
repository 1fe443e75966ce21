use Rattle.progress_lines.proofs.watching.+watch_on.Given as goal

abbrev pub decreases-watch_on : goal.decreases-watch_on
decreases-watch_on g l = l.left
