-- What the program prints about itself.
use Rattle.std.specs.Prelude.{ℕ, List, [], ◌∷◌, ◌++◌, codes, bytes_eq, if◌then◌else◌, Option, None, Some}

-- the version
abbrev pub version : List ℕ
version =
    codes "scc 0.1\n"

-- the help
abbrev pub help : List ℕ
help =
    codes "Usage: scc -c|-S|-E [OPTION]... FILE\n"
    ++ codes "       scc --link OBJECT... -o IMAGE\n"
    ++ codes "       scc --run IMAGE\n"
    ++ codes "Compiles a source of the sample language, links objects, or runs an image.\n"
    ++ codes "\n"
    ++ codes "  -c, -S       write the object to a file\n"
    ++ codes "  -E           write the preprocessed text to standard output\n"
    ++ codes "  -o OBJECT    the object's file\n"
    ++ codes "  -I FOLDER    look up included files in FOLDER too\n"
    ++ codes "  -D NAME=V    let NAME stand for V; without =V, for 1\n"
    ++ codes "\n"
    ++ codes "The first of -c, -S and -E counts. Other words that begin with - are passed over.\n"
    ++ codes "\n"
    ++ codes "  --link       make one image of 1 to 512 objects\n"
    ++ codes "  --run        print the number of main in an image\n"

-- what a word asks for
abbrev pub told_by : List ℕ → Option (List ℕ)
told_by word = if bytes_eq word (codes "--help") then Some help else (if bytes_eq word (codes "--version") then Some version else None)

-- the words are `--help` or `--version` only
abbrev pub told_text : List (List ℕ) → Option (List ℕ)
told_text [] = None
told_text (word ∷ []) = told_by word
told_text (word ∷ other ∷ more) = None
