-- What `scc` puts and prints.
use Rattle.std.specs.Prelude.{ℕ, List, [], ◌∷◌, codes, ◌==◌, if◌then◌else◌, Option, None, Some}
use Rattle.std.specs.FinMap.{insert}
use Rattle.farm_types.specs.declared.ran.Ran.{Ran}
use Rattle.edge_traits.specs.declared.entries.Put.{Put}
use Rattle.edge_traits.specs.Told.{Grew, Became}
use Rattle.edge_traits.specs.Causes.{Rose, Still, IsRemoval}
use Rattle.file_map.specs.FileMaps.{Files}
use Rattle.edge_traits.specs.Keepers.{KeeperView, IsIdle}
use Rattle.stream_print.specs.declared.pieces.SinkKind.TheVariants.{Out}
use Rattle.stream_print.specs.declared.pieces.Piece.{Piece}
use Rattle.stream_print.specs.Notices.{no_memory_notice}
use Rattle.stream_print.specs.Printing.{complaint}
use Rattle.sample_compiler.specs.declared.task.Product.{Product}
use Rattle.sample_compiler.specs.declared.task.Product.TheVariants.{Text, Object}
use Rattle.sample_compiler.specs.declared.task.Task.{Task}
use Rattle.sample_program.specs.declared.running.RunStop.{RunStop}
use Rattle.sample_program.specs.declared.running.RunStop.TheVariants.{File, Memory}

-- ---- the texts

abbrev pub no_memory_text : List ℕ
no_memory_text = no_memory_notice (codes "scc")

abbrev pub file_fault_text : List ℕ
file_fault_text = codes "scc: file fault\n"

-- ---- what is put

-- an object under its name
abbrev pub object_put : Product → List ℕ → List Put
object_put Text object = []
object_put (Object output) object = record { path = output; bytes = object } ∷ []

-- the object of a run that ended well, if one was asked for
abbrev pub puts_of : Option Task → Ran → List Put
puts_of (Some task) ran = if ran.status == 0 then object_put task.product ran.object else []
puts_of None ran = []

-- the files after these puts
abbrev pub files_with : Files → List Put → Files
files_with files [] = files
files_with files (put ∷ puts) = files_with (insert files put.path put.bytes) puts

-- the keeper has these puts more, its files are those after them, and none is pending
pub record PutBy (puts : List Put) (old new : KeeperView) : Type 0 where
  pub puts_more : Grew old.puts new.puts puts
  pub files : Became old.files new.files (files_with old.files.value puts)
  pub idle : IsIdle new

-- no file was fetched, and no overrun rose
pub record NoneFetched (old new : KeeperView) : Type 0 where
  pub fetches : Grew old.fetches new.fetches []
  pub overruns : Still old.overruns new.overruns

-- when a put that failed may be reported so
abbrev pub PutStop : KeeperView → KeeperView → RunStop → Type 0
PutStop old new File = Rose old.faults new.faults
PutStop old new Memory = IsRemoval old.faults new.faults

-- ---- what is printed

-- a text for the output
abbrev pub output : List ℕ → Piece
output text = record { sink = Out; bytes = text }

-- the messages, and then the output
abbrev pub printed_by : Ran → List Piece
printed_by ran = complaint ran.err ∷ output ran.out ∷ []
