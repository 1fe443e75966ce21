-- A file that is being written.
use Rattle.std.specs.Prelude.{ℕ, Bool, false, ◌||◌, List, Option, None, Some, string_bytes}
use Rattle.edge_files.specs.declared.staging.StagedFile.{StagedFile}

-- the name that it is written for
abbrev pub staged_as : StagedFile → List ℕ
staged_as file = file.name

-- its own path
abbrev pub staged_at : StagedFile → List ℕ
staged_at file = string_bytes file.path

-- a byte was written to it
abbrev pub has_bytes : StagedFile → Bool
has_bytes file = file.has_bytes

-- a file is being written, and a byte was
abbrev pub is_begun : Option StagedFile → Bool
is_begun None = false
is_begun (Some file) = has_bytes file

-- It may be put: it has bytes, or need not have any.
abbrev pub may_be_put : Bool → Option StagedFile → Bool
may_be_put puts_empty staged = puts_empty || is_begun staged
