-- From what was done with a link to the connection.
use Rattle.std.proofs.Common.{◌≡◌, ℕ, IsTrue, List, [], ◌∷◌, ◌++◌, refl, ◌∙◌, ap, subst}
use Rattle.std.specs.Prelude.{Option}
use Rattle.farm_types.specs.declared.placed.Word.{Word}
use Rattle.farm_types.specs.declared.ran.Ran.{Ran}
use Rattle.edge_traits.specs.Told.{Told, Grew}
use Rattle.edge_traits.specs.Causes.{Rose, Still}
use Rattle.edge_traits.specs.Links.{LinkView, IsNew}
use Rattle.edge_traits.specs.Doors.{DoorView, visited, IsVisitTold}
use Rattle.edge_traits.specs.Stations.{StationView, StationStill}
use Rattle.edge_traits.proofs.ToldLemmas.{Grew-join, Grew-still, Grew-refl}
use Rattle.access_list.specs.declared.rule.Rule.{Rule}
use Rattle.access_list.specs.declared.decision.Decision.TheVariants.{Admitted, Denied}
use Rattle.access_list.specs.Rules.{AccessDecision}
use Rattle.daemon_service.specs.declared.compilers.Compiler.{Compiler}
use Rattle.daemon_service.specs.declared.served.Served.{Served}
use Rattle.daemon_service.specs.Services.{Service, LinkCause, StationCause, visit_of}
use Rattle.daemon_worker.specs.declared.log.Met.TheVariants as met
use Rattle.daemon_worker.specs.Meetings.{Meets}

still_station : (station : StationView) → StationStill station station
still_station station = record { faults = refl; overruns = refl }

-- all that a list tells that had nothing in it
all_told : {old new : Told (List ℕ)} {more : List ℕ} → (IsTrue old.known → old.value ≡ []) → Grew old new more → IsTrue new.known
    → new.value ≡ more
all_told {old = old} {more = more} none grew k = grew.grew k ∙ ap (λ xs. xs ++ more) (none (grew.known k))

module _ (table : List Compiler) (rules : List Rule) (ran : List Word → List ℕ → Ran → Type 0) (old mid new : DoorView) (addr : ℕ)
    (first last : LinkView)
    (came : Grew old.peers mid.peers (addr ∷ [])) (no_more : Grew mid.peers new.peers []) (none : Grew old.visits mid.visits [])
    (one : Grew mid.visits new.visits (visited last ∷ []))
    (told : IsVisitTold new.visits last) (fresh : IsNew first) (still : Still old.faults new.faults) where
  visits_are : (given sent : List ℕ) → Grew first.given last.given given → Grew first.sent last.sent sent
      → Grew old.visits new.visits (visit_of last given sent ∷ [])
  visits_are given sent grew_given grew_sent =
      let is_entry = λ (k : IsTrue new.visits.known). ap (λ g. visit_of last g last.sent.value)
      (all_told fresh.given grew_given (told.given k))
      ∙ ap (λ s. visit_of last given s) (all_told fresh.sent grew_sent (told.sent k)) in
      Grew-join none (record { known = one.known; grew = λ k. one.grew k ∙ ap (λ x. mid.visits.value ++ x ∷ []) (is_entry k) }) refl

  pub met_served : (rule : Option ℕ) (before after : StationView) (served : Served) → AccessDecision rules addr (Admitted rule)
      → Service table ran first last before after served → LinkCause served first.faults last.faults
      → StationCause served before after → Meets table rules ran old new before after (met.Served served)
  met_served rule before after served admitted service link cause = record {
    c = record { what = met.Served served; peers = addr ∷ []; visits = visit_of last service.given service.sent ∷ []; runs = service.runs };
    is_what = refl;
    is = record {
      addr = addr;
      rule = rule;
      visit = visit_of last service.given service.sent;
      peers = refl;
      visits = refl;
      admitted = admitted;
      is = service.is;
      ends = service.ends;
      faults = subst (λ n. LinkCause served n last.faults) fresh.faults link;
      may = service.may;
    };
    peers = Grew-still came no_more;
    visits = visits_are service.given service.sent service.grew_given service.grew_sent;
    runs = service.grew_runs;
    cause = (still, cause);
  }

-- a link that was left at once
pub met_denied : (table : List Compiler) (rules : List Rule) (ran : List Word → List ℕ → Ran → Type 0) (old mid new : DoorView)
    (addr : ℕ) (link : LinkView)
    → Grew old.peers mid.peers (addr ∷ []) → Grew mid.peers new.peers [] → Grew old.visits mid.visits []
    → Grew mid.visits new.visits (visited link ∷ []) → IsVisitTold new.visits link → IsNew link → Still old.faults new.faults
    → (rule : Option ℕ) (station : StationView) → AccessDecision rules addr (Denied rule)
    → Meets table rules ran old new station station (met.Denied addr rule)
met_denied table rules ran old mid new addr link came no_more none one told fresh still rule station denied = record {
  c = record { what = met.Denied addr rule; peers = addr ∷ []; visits = visit_of link [] [] ∷ []; runs = [] };
  is_what = refl;
  is = record { visit = visit_of link [] []; peers = refl; visits = refl; denied = denied; given = refl; sent = refl; no_run = refl };
  peers = Grew-still came no_more;
  visits = visits_are table rules ran old mid new addr link link came no_more none one told fresh still [] [] (Grew-refl link.given)
      (Grew-refl link.sent);
  runs = Grew-refl station.runs;
  cause = (still, still_station station);
}

-- there was no link
module _ (table : List Compiler) (rules : List Rule) (ran : List Word → List ℕ → Ran → Type 0) (old new : DoorView)
    (station : StationView) (no_peer : Grew old.peers new.peers []) (no_visit : Grew old.visits new.visits []) where
  pub met_fault : Rose old.faults new.faults → Meets table rules ran old new station station met.DoorFault
  met_fault rose = record {
    c = record { what = met.DoorFault; peers = []; visits = []; runs = [] };
    is_what = refl;
    is = record { peers = refl; visits = refl; no_run = refl };
    peers = no_peer;
    visits = no_visit;
    runs = Grew-refl station.runs;
    cause = (rose, still_station station);
  }

  pub met_no_memory : Still old.faults new.faults → Meets table rules ran old new station station met.DoorMemory
  met_no_memory still = record {
    c = record { what = met.DoorMemory; peers = []; visits = []; runs = [] };
    is_what = refl;
    is = record { peers = refl; visits = refl; no_run = refl };
    peers = no_peer;
    visits = no_visit;
    runs = Grew-refl station.runs;
    cause = (still, still_station station);
  }
