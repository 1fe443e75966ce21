use Rattle.progress_lines.proofs.watching.+pause_on.Given as goal

abbrev pub decreases-pause_on : goal.decreases-pause_on
decreases-pause_on g l = l.pauses
