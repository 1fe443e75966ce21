-- What the files of the system show: their state and their counts, but no content.
use Rattle.std.specs.Prelude.{ℕ, Bool}
use Rattle.std.specs.FinMap.{empty}
use Rattle.edge_traits.specs.Told.{untold}
use Rattle.object_delivery.specs.FileViews.{FilesView}
use Rattle.edge_files.specs.OwnNames.{NamesView, names_view}
use Rattle.edge_files.specs.Staging.{may_be_put}
use Rattle.edge_files.specs.declared.disk.DiskFiles.{DiskFiles}

abbrev pub counted_files : ℕ → ℕ → FilesView
counted_files faults overruns = record { files = untold empty; faults = faults; overruns = overruns }

abbrev pub files_view : {R : Type 0} → DiskFiles R → FilesView
files_view files = counted_files files.faults files.overruns

-- the names of the files that are being written
abbrev pub files_names : {R : Type 0} → DiskFiles R → NamesView
files_names files = names_view files.names

-- the file that is being written may be put
abbrev pub can_put : {R : Type 0} → DiskFiles R → Bool
can_put files = may_be_put files.puts_empty files.staged

-- a file without a byte may be put
abbrev pub takes_empty : {R : Type 0} → DiskFiles R → Bool
takes_empty files = files.puts_empty
