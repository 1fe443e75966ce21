-- What the way of a station beside a shared book says of its counts.
use Rattle.std.proofs.Common.{◌≡◌, ℕ, suc, ◌+◌, ◌<◌, ◌≤◌, true, List, [], ◌∷◌, ◌++◌, length, map, reverse, take, drop}
use Rattle.std.proofs.Common.{sym, ◌∙◌, ap, subst, length-append, arith}
use Rattle.std.specs.Prelude.{Result, All}
use Rattle.std.proofs.lemmas.List.{length-map}
use Rattle.std.proofs.lemmas.List.Elements.{All-head, All-tail}
use Rattle.farm_types.specs.Limits.{connections_max, workers_max}
use Rattle.farm_types.specs.declared.placed.Word.{Word}
use Rattle.farm_types.specs.declared.ran.Ran.{Ran}
use Rattle.edge_traits.specs.declared.faults.Bounds.{Bounds}
use Rattle.edge_traits.specs.declared.faults.StationFault.{StationFault as RunStop}
use Rattle.edge_traits.specs.Calls.{greatest}
use Rattle.edge_traits.specs.Doors.{DoorView}
use Rattle.edge_traits.specs.Stations.{StationView}
use Rattle.access_list.specs.declared.rule.Rule.{Rule}
use Rattle.daemon_service.specs.declared.compilers.Compiler.{Compiler}
use Rattle.daemon_service.specs.declared.served.Served.{Served}
use Rattle.daemon_service.specs.Calls.{IsEnded}
use Rattle.daemon_worker.specs.declared.log.DoorKit.{DoorKit}
use Rattle.daemon_worker.specs.declared.log.Entry.{Entry}
use Rattle.daemon_worker.specs.declared.log.Met.TheVariants as met
use Rattle.daemon_worker.specs.Paths.{DoorPath, DoorsPaths}
use Rattle.daemon_worker.specs.Logs.{DoorsServed}
use Rattle.object_cache.specs.Keys.{is_cacheable}
use Rattle.object_cache.specs.Stations.{cached_shows}
use Rattle.shared_cache.specs.declared.station.Counts.{Counts as DoorCounts}
use Rattle.shared_cache.specs.Shared.{Shared, hit, miss, direct, no_counts}
use Rattle.daemon_program.specs.Sharing.{bare_kit, counts_of, shared_goes, DoorShared, DoorsShared}
use Rattle.daemon_program.proofs.Beside.{first_of, whole}
use Rattle.daemon_program.proofs.SharesBeside.{count_ok}
use Rattle.daemon_program.proofs.Tallies.{Adds, adds_hit, adds_miss, counted}
use Rattle.daemon_program.proofs.Counting.{short_log}

module _ {S : Type 0} (shows : S → StationView) (ran : S → List Word → List ℕ → Ran → Type 0)
    (goes : S → List Word → List ℕ → Bounds → Result Ran RunStop → S → Type 0) where
  by_run : (answer : Served) (words : List Word) (input : List ℕ) (bounds : Bounds) (old new : Shared S) (ended : Result Ran RunStop)
      → old.counts.hits + old.counts.misses < greatest → is_cacheable words input ≡ true → IsEnded ended answer
      → shared_goes shows ran goes old words input bounds ended new
      → Adds shows (λ c. c.station) (λ c. c.counts.hits) (λ c. c.counts.misses) (met.Served answer) old new
  by_run answer words input bounds old new ended room may is (hit left cacheable result found station counts) =
      adds_hit shows (λ c. c.station) (λ c. c.counts.hits) (λ c. c.counts.misses) answer old new room station
      (ap (λ c. c.hits) counts) (ap (λ c. c.misses) counts)
  by_run answer words input bounds old new ended room may is (miss cacheable asked counts) =
      adds_miss shows (λ c. c.station) (λ c. c.counts.hits) (λ c. c.counts.misses) answer words input ended old new room is
      asked.runs (ap (λ c. c.hits) counts) (ap (λ c. c.misses) counts)
  by_run answer words input bounds old new ended room may is (direct not_cacheable asked counts) = absurd (cc (may, not_cacheable))

  -- ---- the doors

  door_shared : (table : List Compiler) (number : ℕ) (old new : Shared S) (entries : List Entry) → old.counts ≡ no_counts
      → length entries < greatest → DoorPath (shared_goes shows ran goes) table number old new entries
      → DoorShared shows ran goes table number old.station new.station entries new.counts
  door_shared table number old new entries fresh room own =
      let begins : old ≡ record { station = old.station; counts = no_counts } = ap (λ c. record { station = old.station; counts = c }) fresh in
      record {
        own = subst (λ c. DoorPath (shared_goes shows ran goes) table number c new entries) begins own;
        counted = λ short. counted shows (λ c. c.station) (λ c. c.counts.hits) (λ c. c.counts.misses) (shared_goes shows ran goes) by_run
            table short entries old new (ap (λ c. c.hits) fresh) (ap (λ c. c.misses) fresh) room own.path;
      }

  pub doors_shared : {A : Type 0} (table : List Compiler) (number : ℕ) (olds news : List (DoorKit A (Shared S))) (log : List Entry)
      → All (λ kit. counts_of kit ≡ no_counts) olds → length log < greatest
      → DoorsPaths (shared_goes shows ran goes) table number olds news log
      → DoorsShared shows ran goes table number (map bare_kit olds) (map bare_kit news) log (map counts_of news)
  doors_shared table number [] [] log fresh room paths = paths
  doors_shared table number [] (new ∷ news) log fresh room paths = absurd paths
  doors_shared table number (old ∷ olds) [] log fresh room paths = absurd paths
  doors_shared table number (old ∷ olds) (new ∷ news) log fresh room paths =
      let all : length log ≡ length paths.0 + length paths.1 = ap length paths.2 ∙ length-append paths.0 paths.1 in (
        paths.0,
        paths.1,
        paths.2,
        door_shared table number old.station new.station paths.0 (All-head (λ kit. counts_of kit ≡ no_counts) old olds fresh)
            (omega (arith, all, room)) paths.3,
        doors_shared table (suc number) olds news paths.1 (All-tail (λ kit. counts_of kit ≡ no_counts) old olds fresh)
            (omega (arith, all, room)) paths.4,
      )

-- the counts of doors whose stations share a book are those of the doors without it
pub shared_bare : {A S : Type 0} (shows : S → StationView) (ran : S → List Word → List ℕ → Ran → Type 0)
    (goes : S → List Word → List ℕ → Bounds → Result Ran RunStop → S → Type 0) (table : List Compiler) (rules : List Rule) (serve : ℕ)
    (door : A → DoorView) (count : ℕ) (ins outs : List (DoorKit A (Shared S)))
    → length ins ≡ count → (left olds news : List (DoorKit A S)) → map bare_kit ins ++ reverse left ≡ olds
    → news ≡ map bare_kit outs ++ reverse left → count ≤ workers_max → serve ≤ connections_max
    → All (λ kit. counts_of kit ≡ no_counts) ins
    → (log : List Entry) → DoorsServed table rules serve door (λ (c : Shared S). cached_shows (shows c.station))
    (λ (c : Shared S). ran c.station) 1 (take count ins) (take count outs) log
    → DoorsPaths (shared_goes shows ran goes) table 1 (take count ins) (take count outs) log → drop count outs ≡ drop count ins
    → (counts : List DoorCounts) → counts ≡ map counts_of outs
    → DoorsShared shows ran goes table 1 (take count olds) (take count news) log counts
shared_bare shows ran goes table rules serve door count ins outs many left olds news before after few served_few fresh log served
    paths others counts are =
    let same = count_ok table rules serve door shows ran count ins outs many log served others in
    let in_whole = whole count ins many in
    let out_whole = whole count outs same in
    let room : length log < greatest =
    omega (
      arith,
      short_log table rules serve door (λ c. cached_shows (shows c.station)) (λ c. ran c.station) 1 (take count ins)
          (take count outs) log served_few served,
      ap length in_whole,
      many,
      few,
    ) in
    let first : take count olds ≡ map bare_kit ins =
    first_of count (map bare_kit ins) (reverse left) olds (length-map ins bare_kit ∙ many) (sym before) in
    let last : take count news ≡ map bare_kit outs =
    first_of count (map bare_kit outs) (reverse left) news (length-map outs bare_kit ∙ same) after in
    let ways = subst (λ l. DoorsPaths (shared_goes shows ran goes) table 1 ins l log) out_whole
    (subst (λ l. DoorsPaths (shared_goes shows ran goes) table 1 l (take count outs) log) in_whole paths) in
    subst (λ l. DoorsShared shows ran goes table 1 (take count olds) (take count news) log l) (sym are)
    (subst (λ l. DoorsShared shows ran goes table 1 l (take count news) log (map counts_of outs)) (sym first)
    (subst (λ l. DoorsShared shows ran goes table 1 (map bare_kit ins) l log (map counts_of outs)) (sym last)
    (doors_shared shows ran goes table 1 ins outs log fresh room ways)))
