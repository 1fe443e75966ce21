use Rattle.std.proofs.Common.{refl}
use Rattle.job_run.proofs.Outstanding.{gave-noted}
use Rattle.job_run.proofs.giving.give_broken.Goals as goal

pub returns-clause-free : goal.returns-clause-free
returns-clause-free g c =
    let gave = c.give_bad.ensures in gave-noted _ c.requires.lent gave.ready gave.spare gave.mine refl c.note.ensures.left
