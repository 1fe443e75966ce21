-- What the way of a station beside a cache says of its hits and misses.
use Rattle.std.proofs.Common.{◌≡◌, inl, inr, ℕ, ◌+◌, ◌<◌, ◌≤◌, Bool, true, false, List, [], ◌∷◌, ◌++◌, length}
use Rattle.std.proofs.Common.{refl, sym, ◌∙◌, ap, subst, length-append, arith}
use Rattle.std.specs.Prelude.{Option, Some, Result, Ok, Err, ◌||◌, cond, bytes_eq, if◌then◌else◌}
use Rattle.std.specs.List.{list_any, find}
use Rattle.std.specs.Option.{option_map}
use Rattle.std.proofs.lemmas.Bool.{lt-ltb}
use Rattle.farm_types.specs.declared.placed.Word.{Word}
use Rattle.farm_types.specs.declared.ran.Ran.{Ran}
use Rattle.edge_traits.specs.declared.entries.Run.{Run}
use Rattle.edge_traits.specs.declared.faults.Bounds.{Bounds}
use Rattle.edge_traits.specs.declared.faults.StationFault.{StationFault as RunStop}
use Rattle.edge_traits.specs.declared.faults.StationFault.TheVariants as stop
use Rattle.edge_traits.specs.Calls.{greatest, one_more}
use Rattle.edge_traits.specs.Stations.{StationView, run_entries, compile_bounds}
use Rattle.edge_traits.specs.Told.{Grew}
use Rattle.edge_traits.proofs.ToldLemmas.{Grew-then, Grew-refl}
use Rattle.daemon_service.specs.declared.compilers.Compiler.{Compiler}
use Rattle.daemon_service.specs.declared.served.Served.{Served}
use Rattle.daemon_service.specs.declared.served.Served.TheVariants.{Answered, Refused, Cut, LinkFault, Stopped, StationFault, Memory}
use Rattle.daemon_service.specs.Replies.{program_of, first_word, with_program}
use Rattle.daemon_service.specs.Calls.{IsUncompiled, IsEnded, Calls, uncalled, called}
use Rattle.arg_strip.specs.Words.{placed_words}
use Rattle.daemon_worker.specs.declared.log.Entry.{Entry}
use Rattle.daemon_worker.specs.declared.log.Met.{Met}
use Rattle.daemon_worker.specs.declared.log.Met.TheVariants as met
use Rattle.daemon_worker.specs.Paths.{MetCalls, Path}
use Rattle.object_cache.specs.Keys.{is_cacheable}
use Rattle.cache_laws.proofs.Cacheable.{cacheable}
use Rattle.daemon_program.specs.Counts.{is_compile_status, is_compiled, compiled_in, is_failed, AreShort, AreCounted, failures}

-- ---- programs, answers

short_found : (b : Bool) (row : Compiler) (rest : Option Compiler) (program : List ℕ) → length row.program < 4294967296
    → (option_map (λ (r : Compiler). r.program) rest ≡ Some program → length program < 4294967296)
    → option_map (λ (r : Compiler). r.program) (cond b (Some row) rest) ≡ Some program → length program < 4294967296
short_found true row rest program here there is = let same : row.program ≡ program = cc is in subst (λ p. length p < 4294967296) same here
short_found false row rest program here there is = there is

short_program : (rows : List Compiler) (name program : List ℕ) → AreShort rows → program_of rows name ≡ Some program
    → length program < 4294967296
short_program [] name program short is = absurd (cc is)
short_program (row ∷ rows) name program short is = short_found (bytes_eq row.name name) row
    (find (λ r. bytes_eq r.name name) rows) program short.0 (short_program rows name program short.1) is

none_compiled : (answer : Served) → IsUncompiled answer → is_compiled (met.Served answer) ≡ false
none_compiled (Answered status) (inl is) = ap is_compile_status is
none_compiled (Answered status) (inr is) = ap is_compile_status is
none_compiled (Refused at fault) is = refl
none_compiled (Cut have) is = refl
none_compiled LinkFault is = refl
none_compiled Stopped is = refl
none_compiled StationFault is = refl
none_compiled Memory is = refl

pub wanted_compiled : (answer : Served) (ended : Result Ran RunStop) → IsEnded ended answer → ended ≡ Err stop.Memory
    → is_compiled (met.Served answer) ≡ false
wanted_compiled (Answered status) ended is none = absurd (cc (is.1, none))
wanted_compiled (Refused at fault) ended is none = refl
wanted_compiled (Cut have) ended is none = refl
wanted_compiled LinkFault ended is none = refl
wanted_compiled Stopped ended is none = refl
wanted_compiled StationFault ended is none = refl
wanted_compiled Memory ended is none = refl

came : (answer : Served) (ended : Result Ran RunStop) → IsEnded ended answer → is_failed (met.Served answer) ≡ false
    → (ran : Ran) × (ended ≡ Ok ran)
came (Answered status) ended is calm = (is.0, is.1)
came (Refused at fault) ended is calm = is
came (Cut have) ended is calm = is
came LinkFault ended is calm = is
came Stopped ended is calm = is
came StationFault ended is calm = absurd (cc calm)
came Memory ended is calm = absurd (cc calm)

-- ---- numbers

raised : (n : ℕ) → n < greatest → one_more n ≡ n + 1
raised n less = ap (λ b. if b then n + 1 else n) (lt-ltb n greatest less)

at_most_one : (b : Bool) → (if b then 1 else 0) ≤ 1
at_most_one true = omega arith
at_most_one false = omega arith

abbrev one_if : Bool → ℕ
one_if b = if b then 1 else 0

no_one : (b : Bool) → b ≡ false → one_if b ≡ 0
no_one b is = ap one_if is

or_parts : (a b : Bool) → (a || b) ≡ false → (a ≡ false) × (b ≡ false)
or_parts true b is = absurd (cc is)
or_parts false b is = (refl, is)

-- a run left something or failed
one_of : (words : List Word) (input : List ℕ) (result : Result Ran RunStop)
    → length (run_entries words input result) + length (failures result) ≡ 1
one_of words input (Ok ran) = refl
one_of words input (Err fault) = refl

-- ---- a station, by what is beside it: the station, the hits and the misses

module _ {S T : Type 0} (shows : S → StationView) (station : T → S) (hits misses : T → ℕ) where
  -- what one connection adds
  pub record Adds (what : Met) (old new : T) : Type 0 where
    pub answers : (if is_compiled what then 1 else 0) + (hits old + misses old) ≤ hits new + misses new
    pub few : hits new + misses new ≤ hits old + misses old + 1
    pub runs : List Run
    pub failed : List RunStop
    pub grew : Grew (shows (station old)).runs (shows (station new)).runs runs
    pub counted : length runs + length failed + misses old ≡ misses new
    pub calm : is_failed what ≡ false → failed ≡ []

  no_runs : (old new : T) → station new ≡ station old → Grew (shows (station old)).runs (shows (station new)).runs []
  no_runs old new same = subst (λ s. Grew (shows (station old)).runs (shows s).runs []) (sym same) (Grew-refl (shows (station old)).runs)

  pub adds_nothing : (what : Met) (old new : T) → is_compiled what ≡ false → station new ≡ station old → hits new ≡ hits old
      → misses new ≡ misses old → Adds what old new
  adds_nothing what old new none same h m = record {
    answers = omega (arith, no_one (is_compiled what) none, h, m);
    few = omega (arith, h, m);
    runs = [];
    failed = [];
    grew = no_runs old new same;
    counted = omega (arith, m);
    calm = λ is. refl;
  }

  pub adds_hit : (answer : Served) (old new : T) → hits old + misses old < greatest → station new ≡ station old
      → hits new ≡ one_more (hits old) → misses new ≡ misses old → Adds (met.Served answer) old new
  adds_hit answer old new room same h m =
      let more : hits new ≡ hits old + 1 = h ∙ raised (hits old) (omega (arith, room)) in
      record {
        answers = omega (arith, at_most_one (is_compiled (met.Served answer)), more, m);
        few = omega (arith, more, m);
        runs = [];
        failed = [];
        grew = no_runs old new same;
        counted = omega (arith, m);
        calm = λ is. refl;
      }

  pub adds_miss : (answer : Served) (words : List Word) (input : List ℕ) (ended : Result Ran RunStop) (old new : T)
      → hits old + misses old < greatest → IsEnded ended answer
      → Grew (shows (station old)).runs (shows (station new)).runs (run_entries words input ended) → hits new ≡ hits old
      → misses new ≡ one_more (misses old) → Adds (met.Served answer) old new
  adds_miss answer words input ended old new room is grew h m =
      let more : misses new ≡ misses old + 1 = m ∙ raised (misses old) (omega (arith, room)) in
      record {
        answers = omega (arith, at_most_one (is_compiled (met.Served answer)), h, more);
        few = omega (arith, h, more);
        runs = run_entries words input ended;
        failed = failures ended;
        grew = grew;
        counted = omega (arith, more, one_of words input ended);
        calm = λ is_calm. let ok = came answer ended is is_calm in ap failures ok.1;
      }

  -- ---- the connections of a door

  module _ (went : T → List Word → List ℕ → Bounds → Result Ran RunStop → T → Type 0)
      (by_run : (answer : Served) (words : List Word) (input : List ℕ) (bounds : Bounds) (old new : T) (ended : Result Ran RunStop)
      → hits old + misses old < greatest → is_cacheable words input ≡ true → IsEnded ended answer → went old words input bounds ended new
      → Adds (met.Served answer) old new) (table : List Compiler) (short : AreShort table) where
    still : (what : Met) (old new : T) → is_compiled what ≡ false → new ≡ old → Adds what old new
    still what old new none same = adds_nothing what old new none (ap station same) (ap hits same) (ap misses same)

    by_calls : (answer : Served) (old new : T) → hits old + misses old < greatest → Calls went table old new answer
        → Adds (met.Served answer) old new
    by_calls answer old new room (uncalled same none) = still (met.Served answer) old new (none_compiled answer none) same
    by_calls answer old new room (called q program ended fits remote named run is) =
        by_run answer (with_program program (placed_words q.words)) q.source compile_bounds old new ended room
        (cacheable q.words q.source program fits remote (short_program table (first_word q.words) program short named)) is run

    by_meeting : (what : Met) (old new : T) → hits old + misses old < greatest → MetCalls went table old new what → Adds what old new
    by_meeting (met.Served answer) old new room calls = by_calls answer old new room calls
    by_meeting (met.Denied addr rule) old new room same = still (met.Denied addr rule) old new refl same
    by_meeting met.DoorFault old new room same = still met.DoorFault old new refl same
    by_meeting met.DoorMemory old new room same = still met.DoorMemory old new refl same

    record AllAdds (entries : List Entry) (old new : T) : Type 0 where
      answers : compiled_in entries + (hits old + misses old) ≤ hits new + misses new
      runs : List Run
      failed : List RunStop
      grew : Grew (shows (station old)).runs (shows (station new)).runs runs
      counted : length runs + length failed + misses old ≡ misses new
      calm : list_any (λ (entry : Entry). is_failed entry.what) entries ≡ false → failed ≡ []

    one_more_added : (entry : Entry) (entries : List Entry) (old mid new : T) → Adds entry.what old mid
        → AllAdds entries mid new → AllAdds (entry ∷ entries) old new
    one_more_added entry entries old mid new first rest =
        let both : length (first.runs ++ rest.runs) ≡ length first.runs + length rest.runs = length-append first.runs rest.runs in
        record {
          answers = omega (arith, first.answers, rest.answers);
          runs = first.runs ++ rest.runs;
          failed = first.failed ++ rest.failed;
          grew = Grew-then first.grew rest.grew;
          counted = omega (arith, both, length-append first.failed rest.failed, first.counted, rest.counted);
          calm = λ is.
              let parts = or_parts (is_failed entry.what) (list_any (λ (e : Entry). is_failed e.what) entries) is in
              ap (λ l. l ++ rest.failed) (first.calm parts.0) ∙ rest.calm parts.1;
        }

    all_added : (entries : List Entry) (old new : T) → hits old + misses old + length entries < greatest
        → Path went table old new entries → AllAdds entries old new
    all_added [] old new room same = record {
      answers = omega (arith, ap hits same, ap misses same);
      runs = [];
      failed = [];
      grew = no_runs old new (ap station same);
      counted = omega (arith, ap misses same);
      calm = λ is. refl;
    }
    all_added (entry ∷ entries) old new room path =
        let first = by_meeting entry.what old path.0 (omega (arith, room)) path.1 in
        one_more_added entry entries old path.0 new first (all_added entries path.0 new (omega (arith, room, first.few)) path.2)

    -- from no hits and no misses on
    pub counted : (entries : List Entry) (old new : T) → hits old ≡ 0 → misses old ≡ 0 → length entries < greatest
        → Path went table old new entries → AreCounted shows (station old) (station new) entries (hits new) (misses new)
    counted entries old new no_hits no_misses room path =
        let all = all_added entries old new (omega (arith, no_hits, no_misses, room)) path in
        record {
          answers = omega (arith, all.answers, no_hits, no_misses);
          runs = all.runs;
          failed = all.failed;
          grew = all.grew;
          asked = omega (arith, all.counted, no_misses);
          calm = all.calm;
        }
