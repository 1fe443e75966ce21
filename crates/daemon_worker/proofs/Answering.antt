-- Where nothing failed, each connection was answered by what it gave.
use Rattle.std.proofs.Common.{◌≡◌, ℕ, zero, suc, Bool, true, false, List, [], ◌∷◌, ◌++◌, refl, sym, subst, arith}
use Rattle.std.specs.Prelude.{if◌then◌else◌}
use Rattle.std.specs.List.{flat_map}
use Rattle.farm_types.specs.declared.placed.Word.{Word}
use Rattle.farm_types.specs.declared.ran.Ran.{Ran}
use Rattle.edge_traits.specs.declared.entries.Visit.{Visit}
use Rattle.edge_traits.specs.Causes.{Rose, RoseBy}
use Rattle.edge_traits.specs.Doors.{DoorView}
use Rattle.edge_traits.specs.Stations.{StationView}
use Rattle.edge_traits.specs.Told.{untold}
use Rattle.access_list.specs.declared.rule.Rule.{Rule}
use Rattle.daemon_service.specs.declared.compilers.Compiler.{Compiler}
use Rattle.daemon_service.specs.declared.served.Served.{Served}
use Rattle.daemon_service.specs.declared.served.Served.TheVariants.{Answered, Refused, Cut, LinkFault, Stopped, StationFault, Memory}
use Rattle.daemon_service.specs.Services.{LinkCause, StationCause}
use Rattle.daemon_service.proofs.Services as services
use Rattle.daemon_worker.specs.declared.log.Met.{Met}
use Rattle.daemon_worker.specs.declared.log.Met.TheVariants as met
use Rattle.daemon_worker.specs.Connections.{Connection, IsServed, IsMet}
use Rattle.daemon_worker.specs.Logs.{AreConnections, Did, RoseTogether, count, is_door_fault, is_station_fault}
use Rattle.daemon_worker.specs.Rightness.{IsRightAnswer, AreRightAnswers, IsRight, AllRight, AreCalm, NoneFailed}

-- a station that did nothing
abbrev idle : StationView
idle = record { runs = untold []; faults = 0; overruns = 0 }

no_rise_of_none : Rose 0 0 → ⊥
no_rise_of_none rose = omega (arith, rose)

idle_cause : (served : Served) → is_station_fault (met.Served served) ≡ false → StationCause served idle idle
idle_cause (Answered status) other = record { faults = refl; overruns = refl }
idle_cause (Refused at fault) other = record { faults = refl; overruns = refl }
idle_cause (Cut have) other = record { faults = refl; overruns = refl }
idle_cause LinkFault other = record { faults = refl; overruns = refl }
idle_cause Stopped other = record { faults = refl; overruns = refl }
idle_cause StationFault other = absurd (cc other)
idle_cause Memory other = record { faults = refl; overruns = refl }

module _ (table : List Compiler) (rules : List Rule) (ran : List Word → List ℕ → Ran → Type 0) where
  right_answer : (served : Served) (c : Connection) (is : IsServed table rules ran served c) → is.visit.faults ≡ 0
      → is.visit.stopped ≡ false → is_station_fault (met.Served served) ≡ false → IsRightAnswer is.visit.given served
  right_answer served c is calm going other =
      let link : LinkCause served 0 0 = subst (λ n. LinkCause served 0 n) calm is.faults in
      record {
        whole = λ used q begins. services.whole table served c.runs is.visit used q 0 0 idle idle is.is is.ends link
            (idle_cause served other) begins no_rise_of_none no_rise_of_none no_rise_of_none going;
        fault = λ at fault stands. services.refused table served c.runs is.visit at fault is.is stands;
        short = λ short. services.short table served c.runs is.visit 0 0 is.is link short no_rise_of_none;
      }

  right_served : (served : Served) (c : Connection) → IsServed table rules ran served c → AreCalm c.visits
      → is_station_fault (met.Served served) ≡ false → AreRightAnswers c.visits served
  right_served served c is calm other =
      let alone = subst AreCalm is.visits calm in
      subst (λ visits. AreRightAnswers visits served) (sym is.visits) (right_answer served c is alone.0 alone.1 other, tt)

  right_met : (what : Met) (c : Connection) → IsMet table rules ran c what → AreCalm c.visits → is_door_fault what ≡ false
      → is_station_fault what ≡ false → IsRight what c.visits
  right_met (met.Served served) c is calm door other = right_served served c is calm other
  right_met (met.Denied addr rule) c is calm door other = tt
  right_met met.DoorFault c is calm door other = absurd (cc door)
  right_met met.DoorMemory c is calm door other = tt

  calm_first : (xs ys : List Visit) → AreCalm (xs ++ ys) → AreCalm xs × AreCalm ys
  calm_first [] ys calm = (tt, calm)
  calm_first (x ∷ xs) ys calm = let rest = calm_first xs ys calm.2 in ((calm.0, calm.1, rest.0), rest.1)

  tested : (b : Bool) (n : ℕ) → n ≡ (if b then 1 else 0) → n ≡ 0 → b ≡ false
  tested true n is none = absurd (omega (arith, is, none))
  tested false n is none = refl

  none_first : (test : Met → Bool) (c : Connection) (cs : List Connection) → count test (c ∷ cs) ≡ 0
      → (test c.what ≡ false) × (count test cs ≡ 0)
  none_first test c cs none = (tested (test c.what) (if test c.what then 1 else 0) refl (omega (arith, none)), omega (arith, none))

  all_right : (cs : List Connection) → AreConnections table rules ran cs → AreCalm (flat_map (λ c. c.visits) cs)
      → count is_door_fault cs ≡ 0 → count is_station_fault cs ≡ 0 → AllRight cs
  all_right [] each calm doors stations = tt
  all_right (c ∷ cs) each calm doors stations =
      let visits = calm_first c.visits (flat_map (λ c. c.visits) cs) calm in
      let door = none_first is_door_fault c cs doors in
      let station = none_first is_station_fault c cs stations in
      (right_met c.what c each.0 visits.0 door.0 station.0, all_right cs each.1 visits.1 door.1 station.1)

  rose_by_none : (n before now : ℕ) → RoseBy n before now → (Rose before now → ⊥) → n ≡ 0
  rose_by_none zero before now rose none = refl
  rose_by_none (suc n) before now rose none = absurd (none (omega (arith, rose)))

  together_none : (n : ℕ) (before after : StationView) → RoseTogether n before after → (Rose before.faults after.faults → ⊥)
      → (Rose before.overruns after.overruns → ⊥) → n ≡ 0
  together_none n before after rose faults overruns =
      omega (
        arith,
        rose.sum,
        rose_by_none rose.faults before.faults after.faults rose.faults_rose faults,
        rose_by_none rose.overruns before.overruns after.overruns rose.overruns_rose overruns,
      )

  pub rightly : (old new : DoorView) (before after : StationView) (cs : List Connection)
      → Did table rules ran old new before after cs → NoneFailed old new before after → AreCalm (flat_map (λ c. c.visits) cs) → AllRight cs
  rightly old new before after cs did none calm =
      all_right cs did.each calm (rose_by_none (count is_door_fault cs) old.faults new.faults did.door_rise none.door)
      (together_none (count is_station_fault cs) before after did.station_rise none.station none.overruns)
