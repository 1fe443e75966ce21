-- What a rehearsal leaves.
use Rattle.std.specs.Prelude.{ℕ, Bool, ◌≡◌, min, true, false, codes, List, [], ◌∷◌, length, All, count_by, Option, Some, None, slice_get}
use Rattle.std.specs.Prelude.{if◌then◌else◌, ◌==◌}
use Rattle.std.specs.List.{AllZip, sum_by}
use Rattle.farm_types.specs.Limits.{period_default, port_default}
use Rattle.farm_types.specs.declared.hosts.Hosts.{Hosts}
use Rattle.farm_types.specs.declared.jobs.JobConfig.{JobConfig}
use Rattle.farm_types.specs.declared.ran.Ran.{Ran}
use Rattle.daemon_service.specs.declared.compilers.Compiler.{Compiler}
use Rattle.edge_traits.specs.Keepers.{IsIdle}
use Rattle.edge_memory.specs.Clocks.{clock_state, clock_shows}
use Rattle.farm_cell.specs.Passes.{seen_of}
use Rattle.farm_machine.specs.declared.reports.End.{End}
use Rattle.farm_machine.specs.declared.reports.End.TheVariants.{Done, Failed}
use Rattle.farm_machine.specs.declared.reports.Report.{Report}
use Rattle.farm_machine.specs.declared.reports.Why5.TheVariants.{Memory}
use Rattle.farm_machine.specs.Honest.{IsHonest}
use Rattle.farm_machine.specs.Jobs.{AreLimitsOf}
use Rattle.job_driver.specs.declared.driver.Built.{Built}
use Rattle.farm_machine.specs.Devices.{Devices, devices}
use Rattle.course_laws.specs.Returns.{is_done_or_wanted}
use Rattle.job_driver.specs.Driven.{JobsRan}
use Rattle.farm_machine.specs.Usable.{job_at}
use Rattle.loop_link.specs.Dialers.{dialer_state, dialer_shows, held_of, DialerGives}
use Rattle.report_text.specs.Pieces.{is_done_well}
use Rattle.file_map.specs.FileMaps.{Files}
use Rattle.sample_compiler.specs.Samples.{SampleOf}
use Rattle.sample_compiler.specs.Stations.{StationRan, station_files}
use Rattle.workload.specs.Loads.{jobs_of, files_of}
use Rattle.rehearsal.specs.declared.numbers.Count.{Count}
use Rattle.rehearsal.specs.Counts.{RehearsalKit}
use Rattle.rehearsal.specs.Devices.{compiler_files, compiler_shows, keeper_shows}

-- ---- how the jobs are run

-- the host list `loop:3632/4`
abbrev pub rehearsal_hosts : Hosts
rehearsal_hosts = record {
  list = record { name = record { text = codes "loop" }; port = port_default; limit = 4; local = false } ∷ [];
  local_slots = 4;
  local_cpp = 8;
  randomize = false;
}

abbrev pub rehearsal_config : JobConfig
rehearsal_config = record { hosts = rehearsal_hosts; fallback = true; retry = true; period = period_default; tries = 1 }

-- the most workers of a rehearsal
abbrev pub rehearsal_workers_max : ℕ
rehearsal_workers_max = 4

-- that many workers, but no more than there are jobs
abbrev pub rehearsal_workers : ℕ → ℕ
rehearsal_workers n = min n rehearsal_workers_max

-- what is seen of the kits
abbrev pub loop_devices : Devices RehearsalKit
loop_devices = devices (λ d. dialer_shows (dialer_state d)) compiler_shows keeper_shows (λ c. clock_shows (clock_state c))
    (λ d. DialerGives (λ s. StationRan (station_files s)) d) (λ s. StationRan (compiler_files s))

-- the table of a loop, which names the sample compiler only
abbrev pub scc_table : List Compiler
scc_table = record { name = codes "scc"; program = codes "scc" } ∷ []

-- A kit before the first job: its station runs the compiler over these files, and so does the daemon after its dialer, which is honest for
-- that. Its clock is at 0, and nothing was put.
pub record IsFresh (files : Files) (kit : RehearsalKit) : Type 0 where
  pub there : station_files (held_of kit.dialer).station ≡ files
  pub table : (held_of kit.dialer).table.rows ≡ scc_table
  pub clock : clock_state kit.clock ≡ record { moments = []; given = 0 }
  pub honest : IsHonest (DialerGives (λ s. StationRan (station_files s)) kit.dialer) (StationRan files)
  pub station : compiler_files kit.station ≡ files
  pub none_put : kit.keeper.puts ≡ []
  pub idle : IsIdle (keeper_shows kit.keeper)

-- ---- what the compiler leaves of the workload

-- a run for each job of the workload, in order: what the compiler leaves by the job's own words over the workload's files
abbrev pub AreLeft : ℕ → List Ran → Type 0
AreLeft n rans = AllZip (λ words ran. SampleOf (files_of n) words ran) (jobs_of n) rans

abbrev pub ended_well : Ran → Bool
ended_well ran = ran.status == 0

-- the length of a run's object, which a failure has none of
abbrev pub object_len : Ran → ℕ
object_len ran = if ended_well ran then length ran.object else 0

-- a job was done with the status and the messages of this run
abbrev pub EndsAs : End → Ran → Type 0
EndsAs (Done status note err out by) ran = (status ≡ ran.status) × (err ≡ ran.err) × (out ≡ ran.out)
EndsAs (Failed why) ran = ⊥

-- All jobs were done, each as the compiler leaves it. The one number is how many of them have status 0, among the compiler's runs as
-- among the reports; the other is the length of their objects together.
pub record AreCounted (n : ℕ) (reports : List Report) (count : Count) : Type 0 where
  pub rans : List Ran
  pub left : AreLeft n rans
  pub ends : AllZip (λ report ran. EndsAs report.end ran) reports rans
  pub done : count.done ≡ count_by ended_well rans
  pub reported : count.done ≡ count_by (λ report. is_done_well report.end) reports
  pub bytes : count.bytes ≡ sum_by object_len rans

-- a job was out of memory
abbrev pub SomeWanted : List Report → Type 0
SomeWanted reports = (report : Report) × (at : ℕ) × (slice_get reports at ≡ Some report) × (report.end ≡ Failed Memory)

-- There are numbers only if all jobs were done. Without numbers some job was out of memory.
abbrev pub Tells : ℕ → List Report → Option Count → Type 0
Tells n reports (Some count) = AreCounted n reports count
Tells n reports None = SomeWanted reports

-- The jobs of the workload were run by four workers at most, over loops to a daemon that runs the compiler over the workload's files.
-- There is a report for each, in order; each was done, or was out of memory.
pub record IsRehearsal (n : ℕ) (built : Built) (count : Option Count) : Type 0 where
  pub of_hosts : AreLimitsOf built.last.limits rehearsal_hosts
  pub of_jobs : built.last.limits.jobs ≡ n
  pub old : List RehearsalKit
  pub fresh : All (λ kit. IsFresh (files_of n) kit) old
  pub new : List RehearsalKit
  pub ran : JobsRan loop_devices built.last.limits (job_at (jobs_of n) rehearsal_config) period_default (rehearsal_workers n)
      built.reports (seen_of built.pass) built.last.state old new
  pub one_each : length built.reports ≡ n
  pub returned : All (λ report. is_done_or_wanted report.end ≡ true) built.reports
  pub tells : Tells n built.reports count
