-- The books of doors' stations.
use Rattle.daemon_worker.specs.declared.log.DoorKit.{DoorKit}
use Rattle.object_cache.specs.declared.book.Stats.{Stats}
use Rattle.object_cache.specs.Entries.{sizes}
use Rattle.object_cache.specs.Books.{BookView}
use Rattle.object_cache.specs.Stations.{Cached}

-- a kit without its book
abbrev pub plain_kit : {A S : Type 0} → DoorKit A (Cached S) → DoorKit A S
plain_kit kit = record { door = kit.door; station = kit.station.station }

abbrev pub book_of : {A S : Type 0} → DoorKit A (Cached S) → BookView
book_of kit = kit.station.book

-- the counts of a book, and the bytes of its entries
abbrev pub stats_of : BookView → Stats
stats_of book = record { hits = book.hits; misses = book.misses; unkept = book.unkept; bytes = sizes book.entries }
