use Rattle.std.proofs.Common.{◌≡◌, drop}
use Rattle.job_list.specs.Texts.{is_job}
use Rattle.job_list.proofs.text.is_job.Given as goal

abbrev pub invariant-loop-byte : goal.invariant-loop-byte
invariant-loop-byte l = is_job (drop l.byte-index l.line) ≡ is_job l.line
