-- A job that ran over a kit and the slots that it was granted.
use Rattle.std.specs.Prelude.{◌≡◌, ◌≢◌, ℕ, ◌+◌, ◌*◌, ◌<◌, ◌≤◌, Bool, true, IsTrue, List, [], ◌++◌, All, length}
use Rattle.farm_types.specs.declared.jobs.JobConfig.{JobConfig}
use Rattle.slot_table.specs.declared.limits.Limits.{Limits}
use Rattle.slot_table.specs.declared.calls.CallEntry.{CallEntry}
use Rattle.slot_table.specs.declared.calls.SlotReply.TheVariants.{Down}
use Rattle.slot_table.specs.Grants.{cost}
use Rattle.slot_table.specs.History.{outstanding}
use Rattle.edge_traits.specs.Keepers.{KeeperView, IsIdle}
use Rattle.edge_traits.specs.Kits.{KitView}
use Rattle.edge_traits.specs.Deeds.{exchanges_in, moments_in, DidIn, MayAll}
use Rattle.farm_machine.specs.declared.reports.Event.{Event}
use Rattle.farm_machine.specs.declared.reports.End.{End}
use Rattle.farm_machine.specs.declared.reports.Places.{Places}
use Rattle.farm_machine.specs.Acts.{Act, slots_of, deeds_of}
use Rattle.farm_machine.specs.Causes.{HasEndCause, StationStands, KitLater}
use Rattle.farm_machine.specs.Farm.{wanted}
use Rattle.farm_machine.specs.Honest.{Peers, Programs, AllRan}
use Rattle.farm_machine.specs.Jobs.{Job, AreLimitsOf, source_name}
use Rattle.farm_machine.specs.Moments.{AreMoments}
use Rattle.farm_machine.specs.Numbered.{numbered, advanced, untimed}
use Rattle.farm_machine.specs.Own.{Serves}
use Rattle.course_laws.specs.Answers.{AnswersBy}
use Rattle.course_laws.specs.Returns.{IsCalm, is_done_or_wanted, NoneBroke}
use Rattle.job_run.specs.Gives.{LeavesAlone}
use Rattle.job_run.specs.Courses.{IsJobCourse}
use Rattle.job_run.specs.Events.{events_max, first_place_max}
use Rattle.job_run.specs.Seen.{IsAskable}
use Rattle.job_run.specs.Stands.{KeeperStands, FetchEnds}

-- no call was answered that all hosts are down
abbrev pub NoneIsDown : List CallEntry → Type 0
NoneIsDown calls = All (λ e. e.reply ≢ Down) calls

-- What a job did. All of it, looks at the clock included, is one list of acts.
pub record JobRan {h : ℕ} (peers : Peers) (programs : Programs) (j : Job) (l : Limits h) (caller number : ℕ) (at next : Places)
    (events : List Event) (end : End) (mine_old mine_new : List CallEntry) (old new : KitView) : Type 0 where
  pub acts : List Act
  -- its deeds are the new entries of the kit's lists
  pub did : DidIn old new (deeds_of acts)
  -- its events name these entries, numbered on from the places, and its slot events
  pub named : events ≡ numbered at acts
  -- the places have grown by them
  pub grown : next ≡ advanced at acts
  -- Without looks at the clock it is a course of the table with this end, in which each run and each fetch is within its bounds. An end for
  -- lack of memory hides no fault of an exchange.
  pub course : IsJobCourse j (untimed acts) end
  -- the new calls on the slots
  pub calls : List CallEntry
  pub mine : mine_new ≡ mine_old ++ calls
  -- They are the job's slot events, with the refused takes before each.
  pub serves : Serves (wanted l) caller number [] (slots_of acts) calls
  -- The moments that these calls name are those that the clock gave.
  pub moments : AreMoments j.config.period calls (moments_in (deeds_of acts))
  -- With a period a host is not used for that long after each exchange with which something went wrong, also if the job then ends for
  -- lack of memory.
  pub leaves : LeavesAlone j.config.period acts
  -- A failure of a device goes with a rise of that device's count.
  pub cause : HasEndCause end old new
  -- no count falls
  pub later : KitLater old new
  -- If the job ended by a failed run, exactly one count of the station rose, by one. Otherwise none rose.
  pub station : StationStands end old.station new.station
  -- If it ended by a failed fetch, the keeper's overruns rose by one at most. Otherwise they didn't change. If it ended by neither a failed
  -- fetch nor a failed put and made no exchange, the keeper's faults didn't change, but for one of a removal if memory ran out.
  pub keeper : KeeperStands end acts old.keeper new.keeper
  -- if it made no exchange and ended by a failed fetch, that was one of its own source, within the bound
  pub fetch : FetchEnds (source_name j) end acts old.keeper new.keeper
  -- if the exchanges are told, peers gave what peers may give
  pub may : IsTrue new.dialer.exchanges.known → MayAll peers (exchanges_in (deeds_of acts))
  -- programs left what programs may leave
  pub ran : AllRan programs acts
  -- If fallback is on and station and keeper did nothing wrong, the job is done, or memory ran out.
  pub returns : j.config.fallback ≡ true → IsCalm old new → is_done_or_wanted end ≡ true
  -- The same with fallback on or off, if none of its exchanges broke and it found no hosts down.
  pub returns_unbroken : NoneIsDown calls → NoneBroke j (untimed acts) → IsCalm old new → is_done_or_wanted end ≡ true
  -- over honest peers a job that was compiled ends with an outcome that a compiler may answer
  pub answered : AnswersBy peers programs new j (untimed acts) end

-- each next place is so small that a job's events can't pass the greatest
pub record AreSmall (at : Places) : Type 0 where
  pub runs : at.runs ≤ first_place_max
  pub fetches : at.fetches ≤ first_place_max
  pub exchanges : at.exchanges ≤ first_place_max
  pub puts : at.puts ≤ first_place_max

-- The command has a word, the configuration's hosts may be asked, and the slots are theirs.
pub record CanRun {h : ℕ} (words : List (List ℕ)) (config : JobConfig) (l : Limits h) : Type 0 where
  pub word : 0 < length words
  pub askable : IsAskable config
  pub hosts : AreLimitsOf l config.hosts

-- A job may begin: the slots are ready and none is held, a caller that is the only one has room for `events_max` calls, the places are
-- small, and no put is pending.
pub record CanBegin {G : Type 0} (is_ready : G → Type 0) (alone : Bool) (spare_of : G → ℕ) (mine_of : G → List CallEntry) (grants : G)
    (at : Places) (keeper : KeeperView) : Type 0 where
  pub ready : is_ready grants
  pub spare : events_max * cost alone ≤ spare_of grants
  pub none : outstanding (mine_of grants) ≡ []
  pub places : AreSmall at
  pub pending : IsIdle keeper

-- A job has returned: the slots are ready, follow what they were, and none is held. Of the calls that there is room for no more are spent
-- than there are events, and no put is pending.
pub record HasReturned {G : Type 0} (is_ready : G → Type 0) (alone : Bool) (spare_of : G → ℕ) (mine_of : G → List CallEntry)
    (follows_from : G → G → Type 0) (old new : G) (keeper : KeeperView) : Type 0 where
  pub ready : is_ready new
  pub follows : follows_from old new
  pub none : outstanding (mine_of new) ≡ []
  pub spare : spare_of old ≤ spare_of new + events_max * cost alone
  pub pending : IsIdle keeper
