-- The exit status of a build.
use Rattle.std.specs.Prelude.{ℕ, if◌then◌else◌, List, [], ◌∷◌}
use Rattle.farm_types.specs.Exits.{exit_code_of, no_link_status, memory_status, fault_status, truncated_status, bad_text_status}
use Rattle.farm_types.specs.Exits.{no_host_status}
use Rattle.edge_traits.specs.declared.cause.Cause.{Cause}
use Rattle.edge_traits.specs.declared.cause.Cause.TheVariants.{Dial, Send, Recv, Truncated, BadReply, Stopped}
use Rattle.farm_machine.specs.declared.reports.Why5.{Why5}
use Rattle.farm_machine.specs.declared.reports.Why5.TheVariants.{Station, Put, Broke, NoHost, Memory, Fetch}
use Rattle.farm_machine.specs.declared.reports.End.{End}
use Rattle.farm_machine.specs.declared.reports.End.TheVariants.{Done, Failed}
use Rattle.farm_machine.specs.declared.reports.Report.{Report}
use Rattle.report_text.specs.Pieces.{is_done_well}

abbrev pub cause_number : Cause → ℕ
cause_number Dial = no_link_status
cause_number Send = fault_status
cause_number Recv = fault_status
cause_number Stopped = fault_status
cause_number (Truncated have) = truncated_status
cause_number (BadReply at fault) = bad_text_status

abbrev pub why_number : Why5 → ℕ
why_number Station = fault_status
why_number Put = fault_status
why_number (Broke at cause) = cause_number cause
why_number NoHost = no_host_status
why_number Memory = memory_status
why_number Fetch = fault_status

-- the number of an end
abbrev pub end_number : End → ℕ
end_number (Done status note err out by) = exit_code_of status
end_number (Failed why) = why_number why

-- 0 if every job was done with status 0, else the number of the first that was not
abbrev pub number : List Report → ℕ
number [] = 0
number (report ∷ reports) = if is_done_well report.end then number reports else end_number report.end
