-- What every run of jobs means.
use Rattle.std.specs.Prelude.{◌≡◌, ℕ, ◌<◌, true, IsTrue, List, ◌∷◌, ◌++◌, slice_index, slice_index_or}
use Rattle.slot_table.specs.declared.limits.Limits.{Limits}
use Rattle.slot_table.specs.declared.state.SlotState.{SlotState}
use Rattle.slot_table.specs.declared.calls.CallEntry.{CallEntry}
use Rattle.edge_traits.specs.declared.entries.Put.{Put}
use Rattle.edge_traits.specs.Deeds.{put}
use Rattle.edge_traits.specs.Causes.{Still}
use Rattle.edge_traits.specs.Kits.{KitView}
use Rattle.edge_traits.specs.Stations.{StationStill}
use Rattle.farm_machine.specs.declared.reports.Report.{Report}
use Rattle.farm_machine.specs.Acts.{Act, Did}
use Rattle.farm_machine.specs.Course.{Course}
use Rattle.farm_machine.specs.Honest.{Peers, Programs, AllRan, IsHonest}
use Rattle.farm_machine.specs.Jobs.{Job}
use Rattle.farm_machine.specs.TableCourse.{IsOfTable}
use Rattle.farm_machine.specs.Weave.{Reports}
use Rattle.course_laws.specs.Answers.{AllGiven, IsAnswer, AnswersBy}
use Rattle.course_laws.specs.Returns.{NoneBroke, IsCalm, is_done_or_wanted}
use Rattle.farm_machine.specs.Devices.{Devices}
use Rattle.job_driver.specs.Driven.{reports_by, JobsRan}
use Rattle.job_driver.specs.Works.{ends_so, is_station_failure, is_fetch_failure}

-- If the exchanges are told and the peers are honest, each object that the job put is one that a compiler may answer to the request of
-- the job's own source.
abbrev pub HasAnswers : Peers → Programs → KitView → Job → List Act → Type 0
HasAnswers peers programs kit job acts = (before rest : List Act) (x : Put) → IsTrue kit.dialer.exchanges.known → IsHonest peers programs
    → acts ≡ before ++ Did (put x) ∷ rest → IsAnswer programs job before x

pub record RunMeans {K : Type 0} (d : Devices K) (l : Limits 16) (jobs : ℕ → Job) (workers : ℕ) (reports : List Report) (read : Reports)
    (last : SlotState 16) (old new : List K) : Type 0 where
  -- each report is a course of its job, and one of the table
  pub courses : (j : ℕ) → j < l.jobs → Course (jobs j) (read.acts j) (read.ends j)
  pub of_table : (j : ℕ) → j < l.jobs → IsOfTable (jobs j) (read.acts j) (read.ends j)
  -- each job was drawn, and no slot is held
  pub all_drawn : last.next ≡ l.jobs
  pub none_held : (host : ℕ) → host < l.count → slice_index last.held host ≡ 0
  pub none_local : last.local_held ≡ 0
  -- what a job's exchanges were given and its runs left is what the peers and programs of its worker's kit may give and leave
  pub may_give : (j : ℕ) (other : K) → j < l.jobs → IsTrue (d.shows (slice_index_or new (read.worker j) other)).dialer.exchanges.known
      → AllGiven (d.peers (slice_index_or old (read.worker j) other)) (read.acts j)
  pub may_leave : (j : ℕ) (other : K) → j < l.jobs → AllRan (d.programs (slice_index_or old (read.worker j) other)) (read.acts j)
  -- over honest peers a job's object is one that a compiler may answer
  pub honest_objects : (j : ℕ) (other : K) → j < l.jobs
      → HasAnswers (d.peers (slice_index_or old (read.worker j) other)) (d.programs (slice_index_or old (read.worker j) other))
      (d.shows (slice_index_or new (read.worker j) other)) (jobs j) (read.acts j)
  -- and its end too, if a host's failure is compiled here once more or the peers are fully honest to the job
  pub honest_ends : (j : ℕ) (other : K) → j < l.jobs
      → AnswersBy (d.peers (slice_index_or old (read.worker j) other)) (d.programs (slice_index_or old (read.worker j) other))
      (d.shows (slice_index_or new (read.worker j) other)) (jobs j) (read.acts j) (read.ends j)
  -- With fallback on a job whose worker's station and keeper did nothing wrong is done, or memory ran out, whatever dialers, links
  -- and hosts do.
  pub returns : (j : ℕ) (other : K) → j < l.jobs → (jobs j).config.fallback ≡ true
      → IsCalm (d.shows (slice_index_or old (read.worker j) other)) (d.shows (slice_index_or new (read.worker j) other))
      → is_done_or_wanted (read.ends j) ≡ true
  -- The same with fallback on or off, if there is a host and no exchange of the run broke: then no host is ever in back-off.
  pub returns_unbroken : (j : ℕ) (other : K) → j < l.jobs → 0 < l.count → ((i : ℕ) → i < l.jobs → NoneBroke (jobs i) (read.acts i))
      → IsCalm (d.shows (slice_index_or old (read.worker j) other)) (d.shows (slice_index_or new (read.worker j) other))
      → is_done_or_wanted (read.ends j) ≡ true
  -- if none of a worker's jobs failed by its station, the station counted nothing
  pub stands : (worker : ℕ) (other : K) → worker < workers → ends_so is_station_failure (reports_by worker reports) ≡ 0
      → StationStill (d.shows (slice_index_or old worker other)).station (d.shows (slice_index_or new worker other)).station
  -- if none of a worker's jobs failed by a fetch, no file was missing or too long
  pub found : (worker : ℕ) (other : K) → worker < workers → ends_so is_fetch_failure (reports_by worker reports) ≡ 0
      → Still (d.shows (slice_index_or old worker other)).keeper.overruns (d.shows (slice_index_or new worker other)).keeper.overruns

-- so it is of every run of jobs over such devices
abbrev pub RunMeansLaw : {K : Type 0} → Devices K → Type 0
RunMeansLaw {K = K} d = (l : Limits 16) (jobs : ℕ → Job) (period workers : ℕ) (reports : List Report) (history : List CallEntry)
    (last : SlotState 16) (old new : List K)
    → (ran : JobsRan d l jobs period workers reports history last old new) → RunMeans d l jobs workers reports ran.read last old new
