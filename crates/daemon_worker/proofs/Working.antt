-- From what each worker did to the log of all doors.
use Rattle.std.proofs.Common.{◌≡◌, ℕ, zero, suc, ◌+◌, ◌*◌, ◌<◌, ◌≤◌, List, [], ◌∷◌, ◌++◌, length, map, take, drop, get_or, refl, sym, ◌∙◌}
use Rattle.std.proofs.Common.{ap, subst, length-append, length-drop, arith}
use Rattle.std.specs.Prelude.{Result, Ok, Err, IfOk}
use Rattle.std.specs.List.{flat_map}
use Rattle.std.proofs.Math.Nat.{suc-mul}
use Rattle.std.proofs.Math.Seq.{take-append_seam, drop-append-add}
use Rattle.std.proofs.lemmas.List.{length-map, append-nil, take-append-drop}
use Rattle.farm_types.specs.declared.placed.Word.{Word}
use Rattle.farm_types.specs.declared.ran.Ran.{Ran}
use Rattle.edge_traits.specs.declared.faults.Bounds.{Bounds}
use Rattle.edge_traits.specs.declared.faults.StationFault.{StationFault}
use Rattle.edge_traits.specs.Doors.{DoorView}
use Rattle.edge_traits.specs.Stations.{StationView}
use Rattle.access_list.specs.declared.rule.Rule.{Rule}
use Rattle.daemon_service.specs.declared.compilers.Compiler.{Compiler}
use Rattle.daemon_worker.specs.declared.log.DoorKit.{DoorKit}
use Rattle.daemon_worker.specs.declared.log.Entry.{Entry}
use Rattle.daemon_worker.specs.declared.worker.Worker.{Worker}
use Rattle.daemon_worker.specs.Logs.{DoorServed, LogGrew, DoorsServed}
use Rattle.daemon_worker.specs.Paths.{DoorsPaths}
use Rattle.daemon_worker.specs.Workers.{Worked, kit_of, log_of}
use Rattle.daemon_worker.proofs.Logging.{few_entries}

-- a log that was empty has the entries alone
pub from_empty : (table : List Compiler) (rules : List Rule) (ran : List Word → List ℕ → Ran → Type 0) (serve door : ℕ)
    (old new : DoorView) (before after : StationView) (log_before log_after : List Entry)
    → log_before ≡ [] → LogGrew table rules serve door ran old new before after log_before log_after
    → DoorServed table rules serve door ran old new before after log_after
from_empty table rules ran serve door old new before after log_before log_after empty grew =
    let is : grew.entries ≡ log_after = sym (grew.grew ∙ ap (λ l. l ++ grew.entries) empty) in
    subst (λ l. DoorServed table rules serve door ran old new before after l) is grew.served

module _ {A S : Type 0} (table : List Compiler) (rules : List Rule) (serve : ℕ) (door : A → DoorView) (station : S → StationView)
    (ran : S → List Word → List ℕ → Ran → Type 0) (goes : S → List Word → List ℕ → Bounds → Result Ran StationFault → S → Type 0) where
  doors_worked : (first : ℕ) (vs ws : List (Worker A S)) → length ws ≡ length vs
      → ((i n : ℕ) (d : Worker A S) → n ≡ first + i → i < length vs
      → Worked table rules serve door station ran goes n (get_or vs i d) (get_or ws i d))
      → DoorsServed table rules serve door station ran first (map kit_of vs) (map kit_of ws) (flat_map log_of ws)
  doors_worked first [] [] same each = refl
  doors_worked first [] (w ∷ ws) same each = absurd (omega (arith, same))
  doors_worked first (v ∷ vs) [] same each = absurd (omega (arith, same))
  doors_worked first (v ∷ vs) (w ∷ ws) same each = (
    log_of w,
    flat_map log_of ws,
    refl,
    (each zero first v (omega arith) (omega arith)).0,
    doors_worked (suc first) vs ws (omega (arith, same))
        (λ i n d place below. each (suc i) n d (omega (arith, place)) (omega (arith, below))),
  )

  doors_went : (first : ℕ) (vs ws : List (Worker A S)) → length ws ≡ length vs
      → ((i n : ℕ) (d : Worker A S) → n ≡ first + i → i < length vs
      → Worked table rules serve door station ran goes n (get_or vs i d) (get_or ws i d))
      → DoorsPaths goes table first (map kit_of vs) (map kit_of ws) (flat_map log_of ws)
  doors_went first [] [] same each = refl
  doors_went first [] (w ∷ ws) same each = absurd (omega (arith, same))
  doors_went first (v ∷ vs) [] same each = absurd (omega (arith, same))
  doors_went first (v ∷ vs) (w ∷ ws) same each = (
    log_of w,
    flat_map log_of ws,
    refl,
    (each zero first v (omega arith) (omega arith)).1,
    doors_went (suc first) vs ws (omega (arith, same))
        (λ i n d place below. each (suc i) n d (omega (arith, place)) (omega (arith, below))),
  )

  module _ (vs ws : List (Worker A S)) (same : length ws ≡ length vs) (each : (i : ℕ) (d : Worker A S) → i < length vs
      → Worked table rules serve door station ran goes (i + 1) (get_or vs i d) (get_or ws i d)) where
    pub all_worked : DoorsServed table rules serve door station ran 1 (map kit_of vs) (map kit_of ws) (flat_map log_of ws)
    all_worked = doors_worked 1 vs ws same (λ i n d place below.
        let is : i + 1 ≡ n = omega (arith, place) in
        subst (λ m. Worked table rules serve door station ran goes m (get_or vs i d) (get_or ws i d)) is (each i d below))

    pub all_went : DoorsPaths goes table 1 (map kit_of vs) (map kit_of ws) (flat_map log_of ws)
    all_went = doors_went 1 vs ws same (λ i n d place below.
        let is : i + 1 ≡ n = omega (arith, place) in
        subst (λ m. Worked table rules serve door station ran goes m (get_or vs i d) (get_or ws i d)) is (each i d below))

    each_few : (i : ℕ) (d : Worker A S) → i < length ws → length (log_of (get_or ws i d)) ≤ serve
    each_few i d below = few_entries table rules _ serve (i + 1) _ _ _ _ _ (each i d (omega (arith, below, same))).0

    logs_few : (us : List (Worker A S)) → ((i : ℕ) (d : Worker A S) → i < length us → length (log_of (get_or us i d)) ≤ serve)
        → length (flat_map log_of us) ≤ length us * serve
    logs_few [] few = omega arith
    logs_few (u ∷ us) few =
        let one : length (log_of u) ≤ serve = few zero u (omega arith) in
        let more : length (flat_map log_of us) ≤ length us * serve = logs_few us (λ i d below. few (suc i) d (omega (arith, below))) in
        let product : length (u ∷ us) * serve ≡ length us * serve + serve = suc-mul (length us) serve in
        omega (arith, one, more, product, length-append (log_of u) (flat_map log_of us))

    pub all_few : length (flat_map log_of ws) ≤ length vs * serve
    all_few = subst (λ n. length (flat_map log_of ws) ≤ n * serve) same (logs_few ws each_few)

-- the first doors, and the others behind them
pub first_of : {K : Type 0} (count : ℕ) (first others all : List K) → length first ≡ count → first ++ others ≡ all → take count all ≡ first
first_of count first others all many are = ap (λ l. take count l) (sym are) ∙ ap (λ n. take n (first ++ others)) (sym many)
    ∙ take-append_seam first others

pub others_of : {K : Type 0} (count : ℕ) (first others all : List K) → length first ≡ count → first ++ others ≡ all
    → drop count all ≡ others
others_of count first others all many are =
    let place : count ≡ length first + 0 = omega (arith, many) in
    ap (λ l. drop count l) (sym are) ∙ ap (λ n. drop n (first ++ others)) place ∙ drop-append-add first others 0

pub kits_many : {A S : Type 0} (count : ℕ) (ws : List (Worker A S)) → length ws ≡ count → length (map kit_of ws) ≡ count
kits_many count ws many = length-map ws kit_of ∙ many

pub room_for : (len capacity count number serve entries : ℕ) → len ≡ 0 → count * serve ≤ capacity → number ≡ count
    → entries ≤ number * serve → len + entries ≤ capacity
room_for len capacity count number serve entries none room same few =
    let within : entries ≤ count * serve = subst (λ n. entries ≤ n * serve) same few in
    omega (arith, none, room, within)

nothing_left : {K : Type 0} (xs : List K) → length xs ≡ 0 → xs ≡ []
nothing_left [] none = refl
nothing_left (x ∷ xs) none = absurd (omega (arith, none))

module _ {A S : Type 0} (table : List Compiler) (rules : List Rule) (serve : ℕ) (door : A → DoorView) (station : S → StationView)
    (ran : S → List Word → List ℕ → Ran → Type 0) where
  pub first_served : (goes : S → List Word → List ℕ → Bounds → Result Ran StationFault → S → Type 0) (vs ws : List (Worker A S))
      (same : length ws ≡ length vs) (each : (i : ℕ) (d : Worker A S) → i < length vs
      → Worked table rules serve door station ran goes (i + 1) (get_or vs i d) (get_or ws i d))
      (count : ℕ) (olds news others left : List (DoorKit A S)) (log : List Entry) → length vs ≡ count
      → map kit_of vs ++ others ≡ olds → news ≡ map kit_of ws ++ left → log ≡ flat_map log_of ws
      → DoorsServed table rules serve door station ran 1 (take count olds) (take count news) log
  first_served goes vs ws same each count olds news others left log many before after joined =
      let first : take count olds ≡ map kit_of vs = first_of count (map kit_of vs) others olds (kits_many count vs many) before in
      let last : take count news ≡ map kit_of ws =
      first_of count (map kit_of ws) left news (kits_many count ws (same ∙ many)) (sym after) in
      subst (λ l. DoorsServed table rules serve door station ran 1 l (take count news) log) (sym first)
      (subst (λ l. DoorsServed table rules serve door station ran 1 (map kit_of vs) l log) (sym last)
      (subst (λ l. DoorsServed table rules serve door station ran 1 (map kit_of vs) (map kit_of ws) l) (sym joined)
      (all_worked table rules serve door station ran goes vs ws same each)))

  pub first_went : (goes : S → List Word → List ℕ → Bounds → Result Ran StationFault → S → Type 0) (vs ws : List (Worker A S))
      (same : length ws ≡ length vs) (each : (i : ℕ) (d : Worker A S) → i < length vs
      → Worked table rules serve door station ran goes (i + 1) (get_or vs i d) (get_or ws i d))
      (count : ℕ) (olds news others left : List (DoorKit A S)) (log : List Entry) → length vs ≡ count
      → map kit_of vs ++ others ≡ olds → news ≡ map kit_of ws ++ left → log ≡ flat_map log_of ws
      → DoorsPaths goes table 1 (take count olds) (take count news) log
  first_went goes vs ws same each count olds news others left log many before after joined =
      let first : take count olds ≡ map kit_of vs = first_of count (map kit_of vs) others olds (kits_many count vs many) before in
      let last : take count news ≡ map kit_of ws =
      first_of count (map kit_of ws) left news (kits_many count ws (same ∙ many)) (sym after) in
      subst (λ l. DoorsPaths goes table 1 l (take count news) log) (sym first)
      (subst (λ l. DoorsPaths goes table 1 (map kit_of vs) l log) (sym last)
      (subst (λ l. DoorsPaths goes table 1 (map kit_of vs) (map kit_of ws) l) (sym joined)
      (all_went table rules serve door station ran goes vs ws same each)))

  whole : (count : ℕ) (olds : List (DoorKit A S)) → count ≡ length olds → drop count olds ≡ []
  whole count olds many = nothing_left (drop count olds) (omega (arith, length-drop count olds, many))

  all_taken : (count : ℕ) (doors : List (DoorKit A S)) → drop count doors ≡ [] → take count doors ≡ doors
  all_taken count doors none = sym (append-nil (take count doors)) ∙ ap (λ l. take count doors ++ l) (sym none)
      ∙ take-append-drop count doors

  all_served : (count : ℕ) (olds news : List (DoorKit A S)) (log : List Entry) → count ≡ length olds → drop count news ≡ drop count olds
      → DoorsServed table rules serve door station ran 1 (take count olds) (take count news) log
      → DoorsServed table rules serve door station ran 1 olds news log
  all_served count olds news log many others served =
      subst (λ l. DoorsServed table rules serve door station ran 1 l news log) (all_taken count olds (whole count olds many))
      (subst (λ l. DoorsServed table rules serve door station ran 1 (take count olds) l log)
      (all_taken count news (others ∙ whole count olds many)) served)

  pub each_went : {E : Type 0} (goes : S → List Word → List ℕ → Bounds → Result Ran StationFault → S → Type 0) (count : ℕ)
      (olds news : List (DoorKit A S)) (result : Result (List Entry) E) → count ≡ length olds
      → IfOk result (λ log. DoorsPaths goes table 1 (take count olds) (take count news) log)
      → IfOk result (λ _. drop count news ≡ drop count olds)
      → IfOk result (λ log. DoorsPaths goes table 1 olds news log)
  each_went goes count olds news (Ok log) many went others =
      subst (λ l. DoorsPaths goes table 1 l news log) (all_taken count olds (whole count olds many))
      (subst (λ l. DoorsPaths goes table 1 (take count olds) l log) (all_taken count news (others ∙ whole count olds many)) went)
  each_went goes count olds news (Err fault) many went others = tt

  pub each_served : {E : Type 0} (count : ℕ) (olds news : List (DoorKit A S)) (result : Result (List Entry) E) → count ≡ length olds
      → IfOk result (λ log. DoorsServed table rules serve door station ran 1 (take count olds) (take count news) log)
      → IfOk result (λ _. drop count news ≡ drop count olds)
      → IfOk result (λ log. DoorsServed table rules serve door station ran 1 olds news log)
  each_served count olds news (Ok log) many served others = all_served count olds news log many others served
  each_served count olds news (Err fault) many served others = tt
