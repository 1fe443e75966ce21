-- What `farm_jobs --help` and `farm_jobs --version` print.
use Rattle.std.specs.Prelude.{ℕ, List, [], ◌∷◌, ◌++◌, codes, bytes_eq, if◌then◌else◌, Option, None, Some}
use Rattle.compile_database.specs.declared.help.Ask.{Ask}
use Rattle.compile_database.specs.declared.help.Ask.TheVariants.{Help, Version}

-- the version
abbrev pub version : List ℕ
version =
    codes "farm_jobs 0.1\n"

-- the help
abbrev pub help : List ℕ
help =
    codes "Usage: farm_jobs [OPTION]... <compile_commands.json\n"
    ++ codes "Writes the job list of a compile database: one command a line.\n"
    ++ codes "\n"
    ++ codes "  farm_jobs <compile_commands.json | farm build --workers 8\n"
    ++ codes "                builds a CMake project; run it in the folder that the entries name\n"
    ++ codes "\n"
    ++ codes "Options, in any order, each at most once:\n"
    ++ codes "  --folder F    take the entries whose directory is F; without it, all have to be\n"
    ++ codes "                of one directory\n"
    ++ codes "  --from N      pass over the first N of these, 0 to 999999999\n"
    ++ codes "  --count N     take at most N of the others, 1 to 512\n"
    ++ codes "  --help        print this, if it is the only word\n"
    ++ codes "  --version     print the version, if it is the only word\n"
    ++ codes "\n"
    ++ codes "Exit status:\n"
    ++ codes "  0    the job list was written\n"
    ++ codes "  100  standard output or standard error failed\n"
    ++ codes "  101  bad words; the first word that doesn't fit is named, from 0\n"
    ++ codes "  105  no memory\n"
    ++ codes "  107  standard input can't be read, or has 67108864 bytes or more\n"
    ++ codes "  109  the text gives no job list; the entry is named, from 0\n"

-- the text that is asked for
abbrev pub text_of : Ask → List ℕ
text_of Help = help
text_of Version = version

-- what a word asks for
abbrev pub ask_of : List ℕ → Option Ask
ask_of word = if bytes_eq word (codes "--help") then Some Help else (if bytes_eq word (codes "--version") then Some Version else None)

-- what the words ask for, if they are `--help` or `--version` only
abbrev pub asked : List (List ℕ) → Option Ask
asked [] = None
asked (word ∷ []) = ask_of word
asked (word ∷ other ∷ more) = None
