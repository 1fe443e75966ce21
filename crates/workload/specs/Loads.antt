-- The workload of a number: its jobs and its files.
use Rattle.std.specs.Prelude.{ℕ, zero, suc, ◌+◌, ◌*◌, ◌/◌, ◌%◌, ◌^◌, List, [], ◌∷◌, ◌++◌, map, codes}
use Rattle.std.specs.Fmt.{decimal}
use Rattle.std.specs.List.{range_with_len}
use Rattle.std.specs.FinMap.{from_entries}
use Rattle.file_map.specs.FileMaps.{Files}

-- what comes after a number of the generator
abbrev pub next_state : ℕ → ℕ
next_state x = (1664525 * x + 1013904223) % 2 ^ 32

-- what comes this many steps after it
abbrev pub generator_after : ℕ → ℕ → ℕ
generator_after x zero = x
generator_after x (suc steps) = next_state (generator_after x steps)

-- the factor that a number of the generator gives, below 1,000
abbrev pub factor_of : ℕ → ℕ
factor_of x = (x / 65536) % 1000

-- the file of a job, and its object's
abbrev pub job_source : ℕ → List ℕ
job_source job = (codes "j" ++ decimal job) ++ codes ".c"

abbrev pub job_object : ℕ → List ℕ
job_object job = (codes "j" ++ decimal job) ++ codes ".o"

-- the source of a job with this factor: one item, the factor times 7 plus the job's number
abbrev pub source_text : ℕ → ℕ → List ℕ
source_text job factor = (((((codes "int j" ++ decimal job) ++ codes " = ") ++ decimal factor) ++ codes " * 7 + ") ++ decimal job)
    ++ codes ";\n"

-- the words of a job
abbrev pub job_words : ℕ → List (List ℕ)
job_words job = codes "scc" ∷ codes "-c" ∷ job_source job ∷ codes "-o" ∷ job_object job ∷ []

-- the file of a job, if the generator began with n
abbrev pub job_file : ℕ → ℕ → List ℕ × List ℕ
job_file n job = (job_source job, source_text job (factor_of (generator_after n job)))

-- the jobs of n, from 1 to n
abbrev pub jobs_of : ℕ → List (List (List ℕ))
jobs_of n = map job_words (range_with_len 1 n)

-- their files
abbrev pub files_of : ℕ → Files
files_of n = from_entries (map (job_file n) (range_with_len 1 n))
