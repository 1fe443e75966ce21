-- What was asked of the devices of a kit and answered, in order.
use Rattle.std.specs.Prelude.{◌≡◌, true, ℕ, List, [], ◌∷◌}
use Rattle.std.specs.List.{flat_map}
use Rattle.std.specs.FinMap.{insert}
use Rattle.edge_traits.specs.declared.entries.Exchange.{Exchange}
use Rattle.edge_traits.specs.declared.entries.Run.{Run}
use Rattle.edge_traits.specs.declared.entries.Put.{Put}
use Rattle.edge_traits.specs.declared.entries.Fetch.{Fetch}
use Rattle.edge_traits.specs.Told.{Grew, Became}
use Rattle.file_map.specs.FileMaps.{Files}
use Rattle.edge_traits.specs.Kits.{KitView}

-- one thing that was done: an entry of one of the lists that a kit shows, or a look at its clock
pub data Deed : Type 0 where
  ran : Run → Deed
  fetched : Fetch → Deed
  exchanged : Exchange → Deed
  put : Put → Deed
  timed : ℕ → Deed

-- what a deed adds to each list
abbrev pub run_of : Deed → List Run
run_of (ran run) = run ∷ []
run_of other = []

abbrev pub fetch_of : Deed → List Fetch
fetch_of (fetched file) = file ∷ []
fetch_of other = []

abbrev pub exchange_of : Deed → List Exchange
exchange_of (exchanged exchange) = exchange ∷ []
exchange_of other = []

abbrev pub put_of : Deed → List Put
put_of (put file) = file ∷ []
put_of other = []

abbrev pub moment_of : Deed → List ℕ
moment_of (timed moment) = moment ∷ []
moment_of other = []

-- what some deeds add to each list, in order
abbrev pub runs_in : List Deed → List Run
runs_in deeds = flat_map run_of deeds

abbrev pub fetches_in : List Deed → List Fetch
fetches_in deeds = flat_map fetch_of deeds

abbrev pub exchanges_in : List Deed → List Exchange
exchanges_in deeds = flat_map exchange_of deeds

abbrev pub puts_in : List Deed → List Put
puts_in deeds = flat_map put_of deeds

abbrev pub moments_in : List Deed → List ℕ
moments_in deeds = flat_map moment_of deeds

-- the files, changed by these puts in order
abbrev pub files_put : Files → List Put → Files
files_put files [] = files
files_put files (file ∷ puts) = files_put (insert files file.path file.bytes) puts

-- Each new entry of a kit's lists is one of these deeds, in order, and each deed is a new entry; only the puts change the files.
pub record DidIn (old new : KitView) (deeds : List Deed) : Type 0 where
  pub runs : Grew old.station.runs new.station.runs (runs_in deeds)
  pub fetches : Grew old.keeper.fetches new.keeper.fetches (fetches_in deeds)
  pub exchanges : Grew old.dialer.exchanges new.dialer.exchanges (exchanges_in deeds)
  pub puts : Grew old.keeper.puts new.keeper.puts (puts_in deeds)
  pub moments : Grew old.clock.moments new.clock.moments (moments_in deeds)
  pub files : Became old.keeper.files new.keeper.files (files_put old.keeper.files.value (puts_in deeds))

-- each of these exchanges that was dialed is one that the dialer may have been given
abbrev pub MayAll : (List ℕ → List ℕ → Type 0) → List Exchange → Type 0
MayAll may [] = Unit {0}
MayAll may (x ∷ xs) = (x.dialed ≡ true → may x.sent x.given) × MayAll may xs
