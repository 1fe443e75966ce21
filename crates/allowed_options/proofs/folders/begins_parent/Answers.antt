use Rattle.std.proofs.Common.{rules}
use Rattle.allowed_options.specs.Folders.{begins_parent}
use Rattle.allowed_options.proofs.folders.begins_parent.Goals as goal

pub returns-then-starts_with : goal.returns-then-starts_with
unfolding begins_parent
returns-then-starts_with c = search rules

pub returns-else-starts_with : goal.returns-else-starts_with
unfolding begins_parent
returns-else-starts_with c = search rules
