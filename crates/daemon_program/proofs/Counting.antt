-- What the way of a station beside a book says of the book's counts.
use Rattle.std.proofs.Common.{◌≡◌, inl, inr, ℕ, suc, ◌+◌, ◌*◌, ◌<◌, ◌≤◌, nat_eq, Bool, true, false, List, [], ◌∷◌, ◌++◌, length, map}
use Rattle.std.proofs.Common.{reverse, take, drop, refl, sym, ◌∙◌, ap, subst, length-append, arith}
use Rattle.std.specs.Prelude.{Option, Some, Result, Ok, Err, ◌||◌, cond, bytes_eq, All, if◌then◌else◌}
use Rattle.std.specs.List.{list_any, find}
use Rattle.std.specs.Option.{option_map}
use Rattle.std.specs.Bool.{MatchBool}
use Rattle.std.proofs.lemmas.Bool.{lt-ltb}
use Rattle.std.proofs.lemmas.List.Elements.{All-head, All-tail}
use Rattle.farm_types.specs.declared.placed.Word.{Word}
use Rattle.farm_types.specs.declared.ran.Ran.{Ran}
use Rattle.edge_traits.specs.declared.entries.Run.{Run}
use Rattle.edge_traits.specs.declared.faults.Bounds.{Bounds}
use Rattle.edge_traits.specs.declared.faults.StationFault.{StationFault as RunStop}
use Rattle.edge_traits.specs.declared.faults.StationFault.TheVariants as stop
use Rattle.edge_traits.specs.Calls.{greatest, one_more}
use Rattle.edge_traits.specs.Doors.{DoorView}
use Rattle.edge_traits.specs.Stations.{StationView, run_entries, compile_bounds}
use Rattle.edge_traits.specs.Told.{Grew}
use Rattle.edge_traits.proofs.ToldLemmas.{Grew-then, Grew-refl}
use Rattle.access_list.specs.declared.rule.Rule.{Rule}
use Rattle.daemon_service.specs.declared.compilers.Compiler.{Compiler}
use Rattle.daemon_service.specs.declared.served.Served.{Served}
use Rattle.daemon_service.specs.declared.served.Served.TheVariants.{Answered, Refused, Cut, LinkFault, Stopped, StationFault, Memory}
use Rattle.daemon_service.specs.Replies.{program_of, first_word, with_program}
use Rattle.daemon_service.specs.Calls.{IsUncompiled, IsEnded, Calls, uncalled, called}
use Rattle.arg_strip.specs.Words.{placed_words}
use Rattle.daemon_worker.specs.declared.log.DoorKit.{DoorKit}
use Rattle.daemon_worker.specs.declared.log.Entry.{Entry}
use Rattle.daemon_worker.specs.declared.log.Met.{Met}
use Rattle.daemon_worker.specs.declared.log.Met.TheVariants as met
use Rattle.daemon_worker.specs.Paths.{MetCalls, Path, DoorPath, DoorsPaths}
use Rattle.daemon_worker.specs.Logs.{DoorsServed}
use Rattle.daemon_worker.proofs.Logging.{few_entries}
use Rattle.object_cache.specs.Entries.{Entry as Kept, sizes}
use Rattle.object_cache.specs.Keys.{is_cacheable}
use Rattle.object_cache.specs.Books.{BookView, new_book, after_miss, Keeps}
use Rattle.object_cache.specs.declared.book.Stats.{Stats}
use Rattle.object_cache.specs.Stations.{Cached, cached_shows, CacheRun, hit, miss, direct, wanted, Learned}
use Rattle.cache_laws.proofs.Cacheable.{cacheable}
use Rattle.daemon_program.proofs.Beside.{first_of, whole, count_ok}
use Rattle.std.proofs.lemmas.List.{length-map}
use Rattle.std.proofs.lemmas.Simd.{map-map}
use Rattle.farm_types.specs.Limits.{connections_max, workers_max}
use Rattle.daemon_program.specs.Books.{plain_kit, book_of, stats_of}
use Rattle.daemon_program.specs.Counts.{beside_goes}
use Rattle.daemon_program.proofs.Tallies.{Adds, adds_nothing, adds_hit, adds_miss, counted, wanted_compiled}
use Rattle.daemon_program.specs.Counts.{DoorKept, DoorsKept, BooksKept}

-- ---- books

kept_counts : (entry : Kept) (old new : BookView) → Keeps entry old new → (new.hits ≡ old.hits) × (new.misses ≡ old.misses)
kept_counts entry old new (inl is) = (ap (λ b. b.hits) is, ap (λ b. b.misses) is)
kept_counts entry old new (inr is) = (ap (λ b. b.hits) is.1, ap (λ b. b.misses) is.1)

chosen_counts : (b : Bool) (entry : Kept) (old new : BookView) → MatchBool b (Keeps entry old new) (new ≡ old)
    → (new.hits ≡ old.hits) × (new.misses ≡ old.misses)
chosen_counts true entry old new is = kept_counts entry old new is
chosen_counts false entry old new is = (ap (λ b. b.hits) is, ap (λ b. b.misses) is)

kept_bound : (entry : Kept) (old new : BookView) → Keeps entry old new → new.bound ≡ old.bound
kept_bound entry old new (inl is) = ap (λ b. b.bound) is
kept_bound entry old new (inr is) = ap (λ b. b.bound) is.1

learned_bound : (b : Bool) (entry : Kept) (old new : BookView) → MatchBool b (Keeps entry old new) (new ≡ old) → new.bound ≡ old.bound
learned_bound true entry old new is = kept_bound entry old new is
learned_bound false entry old new is = ap (λ b. b.bound) is

module _ {S : Type 0} (shows : S → StationView) (goes : S → List Word → List ℕ → Bounds → Result Ran RunStop → S → Type 0) where
  learned_counts : (words : List Word) (input : List ℕ) (old new : BookView) (result : Result Ran RunStop)
      → Learned shows goes words input old new result → (new.hits ≡ old.hits) × (new.misses ≡ one_more old.misses)
  learned_counts words input old new (Ok ran) is = chosen_counts (nat_eq ran.status 0) (record { words = words; input = input; ran = ran })
      (after_miss old) new is
  learned_counts words input old new (Err fault) is = (ap (λ b. b.hits) is, ap (λ b. b.misses) is)

  abbrev went : Cached S → List Word → List ℕ → Bounds → Result Ran RunStop → Cached S → Type 0
  went = beside_goes shows goes

  by_run : (answer : Served) (words : List Word) (input : List ℕ) (bounds : Bounds) (old new : Cached S) (ended : Result Ran RunStop)
      → old.book.hits + old.book.misses < greatest → is_cacheable words input ≡ true → IsEnded ended answer
      → went old words input bounds ended new
      → Adds shows (λ c. c.station) (λ c. c.book.hits) (λ c. c.book.misses) (met.Served answer) old new
  by_run answer words input bounds old new ended room may is (hit entry cacheable found result station book) =
      adds_hit shows (λ c. c.station) (λ c. c.book.hits) (λ c. c.book.misses) answer old new room station
      (ap (λ b. b.hits) book) (ap (λ b. b.misses) book)
  by_run answer words input bounds old new ended room may is (miss cacheable none asked learned) =
      let counts = learned_counts words input old.book new.book ended learned in
      adds_miss shows (λ c. c.station) (λ c. c.book.hits) (λ c. c.book.misses) answer words input ended old new room is
      asked.runs counts.0 counts.1
  by_run answer words input bounds old new ended room may is (direct not_cacheable asked book) = absurd (cc (may, not_cacheable))
  by_run answer words input bounds old new ended room may is (wanted cacheable result station book) =
      adds_nothing shows (λ c. c.station) (λ c. c.book.hits) (λ c. c.book.misses) (met.Served answer) old new
      (wanted_compiled answer ended is result) station (ap (λ b. b.hits) book) (ap (λ b. b.misses) book)

  -- ---- the doors

  run_bound : (words : List Word) (input : List ℕ) (bounds : Bounds) (old new : Cached S) (ended : Result Ran RunStop)
      → CacheRun shows goes words input bounds old new ended → new.book.bound ≡ old.book.bound
  run_bound words input bounds old new ended (hit entry may found result station book) = ap (λ b. b.bound) book
  run_bound words input bounds old new (Ok ran) (miss may none asked learned) = learned_bound (nat_eq ran.status 0)
      (record { words = words; input = input; ran = ran }) (after_miss old.book) new.book learned
  run_bound words input bounds old new (Err fault) (miss may none asked learned) = ap (λ b. b.bound) learned
  run_bound words input bounds old new ended (direct may asked book) = ap (λ b. b.bound) book
  run_bound words input bounds old new ended (wanted may result station book) = ap (λ b. b.bound) book

  calls_bound : (table : List Compiler) (answer : Served) (old new : Cached S) → Calls went table old new answer
      → new.book.bound ≡ old.book.bound
  calls_bound table answer old new (uncalled same none) = ap (λ c. c.book.bound) same
  calls_bound table answer old new (called q program ended fits remote named run is) =
      run_bound (with_program program (placed_words q.words)) q.source compile_bounds old new ended run

  meeting_bound : (table : List Compiler) (what : Met) (old new : Cached S) → MetCalls went table old new what
      → new.book.bound ≡ old.book.bound
  meeting_bound table (met.Served answer) old new calls = calls_bound table answer old new calls
  meeting_bound table (met.Denied addr rule) old new same = ap (λ c. c.book.bound) same
  meeting_bound table met.DoorFault old new same = ap (λ c. c.book.bound) same
  meeting_bound table met.DoorMemory old new same = ap (λ c. c.book.bound) same

  -- no connection changes the bound
  path_bound : (table : List Compiler) (entries : List Entry) (old new : Cached S) → Path went table old new entries
      → new.book.bound ≡ old.book.bound
  path_bound table [] old new same = ap (λ c. c.book.bound) same
  path_bound table (entry ∷ entries) old new path =
      path_bound table entries path.0 new path.2 ∙ meeting_bound table entry.what old path.0 path.1

  door_kept : (table : List Compiler) (bound number : ℕ) (old new : Cached S) (entries : List Entry) → old.book ≡ new_book bound
      → length entries < greatest → sizes new.book.entries ≤ new.book.bound → DoorPath went table number old new entries
      → DoorKept shows goes table bound number old.station new.station entries new.book
  door_kept table bound number old new entries fresh room within own =
      let begins : old ≡ record { station = old.station; book = new_book bound } = ap (λ b. record { station = old.station; book = b }) fresh in
      record {
        own = subst (λ c. DoorPath went table number c new entries) begins own;
        within = subst (λ n. sizes new.book.entries ≤ n) (path_bound table entries old new own.path ∙ ap (λ b. b.bound) fresh) within;
        counted = λ short. counted shows (λ c. c.station) (λ c. c.book.hits) (λ c. c.book.misses) went by_run table short entries old new
            (ap (λ b. b.hits) fresh) (ap (λ b. b.misses) fresh) room own.path;
      }

  pub doors_kept : {A : Type 0} (table : List Compiler) (bound number : ℕ) (olds news : List (DoorKit A (Cached S))) (log : List Entry)
      → All (λ kit. book_of kit ≡ new_book bound) olds → All (λ kit. sizes (book_of kit).entries ≤ (book_of kit).bound) news
      → length log < greatest → DoorsPaths went table number olds news log
      → DoorsKept shows goes table bound number (map plain_kit olds) (map plain_kit news) log (map book_of news)
  doors_kept table bound number [] [] log fresh within room paths = paths
  doors_kept table bound number [] (new ∷ news) log fresh within room paths = absurd paths
  doors_kept table bound number (old ∷ olds) [] log fresh within room paths = absurd paths
  doors_kept table bound number (old ∷ olds) (new ∷ news) log fresh within room paths =
      let all : length log ≡ length paths.0 + length paths.1 = ap length paths.2 ∙ length-append paths.0 paths.1 in (
        paths.0,
        paths.1,
        paths.2,
        door_kept table bound number old.station new.station paths.0
            (All-head (λ kit. book_of kit ≡ new_book bound) old olds fresh) (omega (arith, all, room))
            (All-head (λ kit. sizes (book_of kit).entries ≤ (book_of kit).bound) new news within) paths.3,
        doors_kept table bound (suc number) olds news paths.1 (All-tail (λ kit. book_of kit ≡ new_book bound) old olds fresh)
            (All-tail (λ kit. sizes (book_of kit).entries ≤ (book_of kit).bound) new news within) (omega (arith, all, room)) paths.4,
      )

-- a log is short
pub short_log : {A T : Type 0} (table : List Compiler) (rules : List Rule) (serve : ℕ) (door : A → DoorView) (station : T → StationView)
    (ran : T → List Word → List ℕ → Ran → Type 0) (number : ℕ) (olds news : List (DoorKit A T)) (log : List Entry)
    → serve ≤ connections_max → DoorsServed table rules serve door station ran number olds news log
    → length log ≤ length olds * connections_max
short_log table rules serve door station ran number [] [] log few done = omega (arith, ap length done)
short_log table rules serve door station ran number [] (new ∷ news) log few done = absurd done
short_log table rules serve door station ran number (old ∷ olds) [] log few done = absurd done
short_log table rules serve door station ran number (old ∷ olds) (new ∷ news) log few done =
    let all : length log ≡ length done.0 + length done.1 = ap length done.2 ∙ length-append done.0 done.1 in
    let mine = few_entries table rules (ran new.station) serve number (door old.door) (door new.door) (station old.station)
    (station new.station) done.0 done.3 in
    omega (arith, all, mine, few, short_log table rules serve door station ran (suc number) olds news done.1 few done.4)

-- the books are those of the doors without them
pub books_kept : {A S : Type 0} (shows : S → StationView) (goes : S → List Word → List ℕ → Bounds → Result Ran RunStop → S → Type 0)
    (table : List Compiler) (rules : List Rule) (serve : ℕ) (door : A → DoorView)
    (ran : S → List Word → List ℕ → Ran → Type 0) (count bound : ℕ) (ins outs : List (DoorKit A (Cached S)))
    → length ins ≡ count → (left olds news : List (DoorKit A S)) → map plain_kit ins ++ reverse left ≡ olds
    → news ≡ map plain_kit outs ++ reverse left → count ≤ workers_max → serve ≤ connections_max
    → All (λ kit. book_of kit ≡ new_book bound) ins → All (λ kit. sizes (book_of kit).entries ≤ (book_of kit).bound) outs
    → (log : List Entry) → DoorsServed table rules serve door (λ (c : Cached S). cached_shows (shows c.station))
    (λ (c : Cached S). ran c.station) 1 (take count ins) (take count outs) log
    → DoorsPaths (beside_goes shows goes) table 1 (take count ins) (take count outs) log → drop count outs ≡ drop count ins
    → (stats : List Stats) → stats ≡ map (λ kit. stats_of (book_of kit)) outs
    → BooksKept shows goes table bound (take count olds) (take count news) log stats
books_kept shows goes table rules serve door ran count bound ins outs many left olds news before after few served_few fresh within log
    served paths others stats are =
    let same = count_ok table rules serve door shows ran count ins outs many log served others in
    let in_whole = whole count ins many in
    let out_whole = whole count outs same in
    let room : length log < greatest =
    omega (
      arith,
      short_log table rules serve door (λ c. cached_shows (shows c.station)) (λ c. ran c.station) 1 (take count ins)
          (take count outs) log served_few served,
      ap length in_whole,
      many,
      few,
    ) in
    let first : take count olds ≡ map plain_kit ins =
    first_of count (map plain_kit ins) (reverse left) olds (length-map ins plain_kit ∙ many) (sym before) in
    let last : take count news ≡ map plain_kit outs =
    first_of count (map plain_kit outs) (reverse left) news (length-map outs plain_kit ∙ same) after in
    let ways = subst (λ l. DoorsPaths (beside_goes shows goes) table 1 ins l log) out_whole
    (subst (λ l. DoorsPaths (beside_goes shows goes) table 1 l (take count outs) log) in_whole paths) in
    record {
      books = map book_of outs;
      stats_are = are ∙ sym (map-map stats_of book_of outs);
      doors = subst (λ l. DoorsKept shows goes table bound 1 l (take count news) log (map book_of outs)) (sym first)
          (subst (λ l. DoorsKept shows goes table bound 1 (map plain_kit ins) l log (map book_of outs)) (sym last)
          (doors_kept shows goes table bound 1 ins outs log fresh within room ways));
    }
