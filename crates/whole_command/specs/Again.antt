-- When a command is run here as it is, after its job.
use Rattle.std.specs.Prelude.{Bool, false, not, ◌&&◌, List, [], ◌∷◌}
use Rattle.farm_machine.specs.declared.reports.Report.{Report}
use Rattle.report_text.specs.Pieces.{is_done_well}

-- The one job ended otherwise than with status 0 of a program.
abbrev pub has_failed : List Report → Bool
has_failed [] = false
has_failed (report ∷ []) = not (is_done_well report.end)
has_failed (report ∷ other ∷ more) = false

-- Fallback is on, and the one job failed.
abbrev pub runs_again : Bool → List Report → Bool
runs_again fallback reports = fallback && has_failed reports
