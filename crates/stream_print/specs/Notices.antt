-- What a program says of itself on its sink of errors.
use Rattle.std.specs.Prelude.{ℕ, List, ◌++◌, codes}

-- the program of this name says that memory ran out
abbrev pub no_memory_notice : List ℕ → List ℕ
no_memory_notice program = program ++ codes ": no memory\n"
