use Rattle.progress_lines.specs.Counts.{known}
use Rattle.progress_lines.proofs.Going.{read-on, read-same}
use Rattle.progress_lines.proofs.watching.+pause_on.Goals as goal

pub returns-then-pauses-eq0-clause-read : goal.returns-then-pauses-eq0-clause-read
returns-then-pauses-eq0-clause-read g t c = read-same (known c.args.watchers.now)

pub returns-else-not-are_all-clause-read : goal.returns-else-not-are_all-clause-read
returns-else-not-are_all-clause-read g t c = c.count_rows.ensures.read

pub returns-then-not-are_all-clause-read : goal.returns-then-not-are_all-clause-read
returns-then-not-are_all-clause-read g t c =
    read-on (known c.args.watchers.now) (known c.count_rows.new.watchers) (known c.pause_on.new.watchers) c.count_rows.ensures.read c.pause_on.ensures.read
