-- What jobs put over loops to the sample compiler, without a word on honesty.
use Rattle.std.specs.Prelude.{ℕ, ◌≡◌, true, Some, ◌<◌, ◌≤◌, List, [], ◌∷◌, ◌++◌, length, All, slice_index_or}
use Rattle.slot_table.specs.declared.calls.CallEntry.{CallEntry}
use Rattle.slot_table.specs.declared.limits.Limits.{Limits}
use Rattle.slot_table.specs.declared.state.SlotState.{SlotState}
use Rattle.farm_types.specs.declared.ran.Ran.{Ran}
use Rattle.edge_traits.specs.declared.entries.Put.{Put}
use Rattle.edge_traits.specs.declared.kit.Kit.{Kit}
use Rattle.edge_traits.specs.Clocks.{ClockView}
use Rattle.edge_traits.specs.Deeds.{put}
use Rattle.edge_traits.specs.Keepers.{KeeperView}
use Rattle.farm_machine.specs.declared.reports.Report.{Report}
use Rattle.farm_machine.specs.Acts.{Act, Did}
use Rattle.farm_machine.specs.Honest.{Programs}
use Rattle.farm_machine.specs.Jobs.{Job, may_be_sent, request_for, compile_command}
use Rattle.farm_machine.specs.Table.{IsSource}
use Rattle.farm_machine.specs.Devices.{Devices, devices}
use Rattle.job_driver.specs.Driven.{JobsRan}
use Rattle.loop_link.specs.declared.dialer.LoopDialer.{LoopDialer}
use Rattle.loop_link.specs.Dialers.{dialer_state, dialer_shows, held_of, DialerGives}
use Rattle.loop_link.specs.Replies.{AreOwnNames, Gives}
use Rattle.course_laws.specs.Answers.{IsFullyHonestTo}
use Rattle.daemon_service.specs.declared.compilers.Compiler.{Compiler}
use Rattle.daemon_service.specs.Replies.{program_of, first_word}
use Rattle.sample_compiler.specs.declared.station.SampleStation.{SampleStation}
use Rattle.sample_compiler.specs.Stations.{StationRan, station_files, station_shows}
use Rattle.file_map.specs.FileMaps.{Files}

-- a kit whose dialer is a loop over the sample compiler, and whose station is the sample compiler
abbrev pub LoopKit : Type 0 → Type 0 → Type 0
LoopKit K C = Kit (LoopDialer SampleStation) SampleStation K C

-- The loop's compiler has the same files as the kit's own, and each program of the loop's table is its name.
pub record IsLoop {K C : Type 0} (kit : LoopKit K C) : Type 0 where
  pub names : AreOwnNames (held_of kit.dialer).table.rows
  pub same : station_files (held_of kit.dialer).station ≡ station_files kit.station

-- what is seen of such kits
abbrev pub loop_kits : {K C : Type 0} → (K → KeeperView) → (C → ClockView) → Devices (LoopKit K C)
loop_kits keeper clock = devices (λ d. dialer_shows (dialer_state d)) station_shows keeper clock
    (λ d. DialerGives (λ s. StationRan (station_files s)) d) (λ s. StationRan (station_files s))

-- The put is of the object of status 0 that a run of the sample compiler leaves over these files, by the job's words and on the source
-- that the job has after these acts.
pub record IsCompilers (files : Files) (j : Job) (before : List Act) (x : Put) : Type 0 where
  pub source : List ℕ
  pub source_is : IsSource before source
  pub ran : Ran
  pub left : StationRan files (compile_command j) source ran
  pub status : ran.status ≡ 0
  pub object : x.bytes ≡ ran.object

-- Each object that a job put is the sample compiler's, for the job's own preprocessed source and words, over the files of its worker's kit.
abbrev pub AllCompilers : {K C : Type 0} → Limits 16 → (ℕ → Job) → (ℕ → ℕ) → (ℕ → List Act) → List (LoopKit K C) → Type 0
AllCompilers {K = K} {C = C} l jobs worker acts old = (j : ℕ) (other : LoopKit K C) (before rest : List Act) (x : Put)
    → j < l.jobs → acts j ≡ before ++ Did (put x) ∷ rest
    → IsCompilers (station_files (slice_index_or old (worker j) other).station) (jobs j) before x

-- So it is of every run of jobs over loops.
abbrev pub LoopLaw : {K C : Type 0} → (K → KeeperView) → (C → ClockView) → Type 0
LoopLaw {K = K} {C = C} keeper clock =
    (l : Limits 16) (jobs : ℕ → Job) (period workers : ℕ) (reports : List Report) (history : List CallEntry) (last : SlotState 16)
    (old new : List (LoopKit K C)) → All IsLoop old → workers ≤ length old
    → (ran : JobsRan (loop_kits keeper clock) l jobs period workers reports history last old new)
    → AllCompilers l jobs ran.read.worker ran.read.acts old

-- A loop over a table of own names is fully honest to each job that may be sent and whose compiler the table names, with fallback
-- and retry on or off.
abbrev pub HonestLoopLaw : Programs → Type 0
HonestLoopLaw ran = (table : List Compiler) (j : Job) (program : List ℕ)
    → AreOwnNames table → may_be_sent j ≡ true → program_of table (first_word (request_for j []).words) ≡ Some program
    → IsFullyHonestTo (Gives table ran) ran j
