-- What is printed of some reports: texts for the two sinks, in order.
use Rattle.std.specs.Prelude.{ℕ, ◌+◌, ◌==◌, Bool, false, List, [], ◌∷◌, ◌++◌, length, count_by, codes}
use Rattle.std.specs.Fmt.{decimal}
use Rattle.std.specs.List.{flat_map}
use Rattle.farm_types.specs.declared.hosts.Host.{Host}
use Rattle.stream_print.specs.declared.pieces.SinkKind.TheVariants.{Out, Err as ErrSink}
use Rattle.stream_print.specs.declared.pieces.Piece.{Piece}
use Rattle.farm_machine.specs.declared.reports.End.{End}
use Rattle.farm_machine.specs.declared.reports.End.TheVariants.{Done, Failed}
use Rattle.farm_machine.specs.declared.reports.Report.{Report}
use Rattle.report_text.specs.EndTexts.{end_text}

-- the messages of a job: for the sink of errors what the preprocessor noted and then the job's standard error, for the other
-- its standard output; a job that failed has none
abbrev pub err_messages : End → List ℕ
err_messages (Done status note err out by) = note ++ err
err_messages (Failed why) = []

abbrev pub out_messages : End → List ℕ
out_messages (Done status note err out by) = out
out_messages (Failed why) = []

-- the line of a job at this place, which is counted from 1
abbrev pub line_text_at : List Host → ℕ → End → List ℕ
line_text_at hosts job end = decimal (job + 1) ++ codes " " ++ end_text hosts end ++ codes "\n"

-- the line of a job, by its report's number
abbrev pub line_text : List Host → Report → List ℕ
line_text hosts report = line_text_at hosts report.number report.end

-- the line of a job that is skipped for another
abbrev pub skipped_text : ℕ → ℕ → List ℕ
skipped_text job by = decimal (job + 1) ++ codes " skipped by " ++ decimal (by + 1) ++ codes "\n"

-- of a job at this place its messages on the sink of errors, and then its messages and its line on that of the output
abbrev pub job_pieces_at : List Host → ℕ → End → List Piece
job_pieces_at hosts job end =
    record { sink = ErrSink; bytes = err_messages end } ∷ record { sink = Out; bytes = out_messages end ++ line_text_at hosts job end } ∷ []

-- the same by its report's number
abbrev pub job_pieces : List Host → Report → List Piece
job_pieces hosts report = job_pieces_at hosts report.number report.end

-- why a command that was run only failed; of one that was done there is no line
abbrev pub failure_text : List Host → End → List ℕ
failure_text hosts (Done status note err out by) = []
failure_text hosts (Failed why) = codes "farm: " ++ end_text hosts (Failed why) ++ codes "\n"

-- of a command that was run only: its messages, and on the sink of errors why it failed
abbrev pub command_pieces : List Host → End → List Piece
command_pieces hosts end =
    record { sink = ErrSink; bytes = err_messages end ++ failure_text hosts end } ∷ record { sink = Out; bytes = out_messages end } ∷ []

-- done with status 0
abbrev pub is_done_well : End → Bool
is_done_well (Done status note err out by) = status == 0
is_done_well (Failed why) = false

-- the line of the total
abbrev pub total_text_of : ℕ → ℕ → List ℕ
total_text_of jobs good = codes "total " ++ decimal jobs ++ codes " ok " ++ decimal good ++ codes "\n"

abbrev pub total_text : List Report → List ℕ
total_text reports = total_text_of (length reports) (count_by (λ report. is_done_well report.end) reports)

abbrev pub total_piece : List Report → Piece
total_piece reports = record { sink = Out; bytes = total_text reports }

-- the pieces of all jobs in order
abbrev pub jobs_pieces : List Host → List Report → List Piece
jobs_pieces hosts reports = flat_map (λ report. job_pieces hosts report) reports

-- and last the total
abbrev pub pieces : List Host → List Report → List Piece
pieces hosts reports = jobs_pieces hosts reports ++ total_piece reports ∷ []
