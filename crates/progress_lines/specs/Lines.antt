-- The lines of a watched build.
use Rattle.std.specs.Prelude.{ℕ, ◌+◌, ◌-◌, ◌==◌, nat_le, Bool, true, ◌&&◌, ◌||◌, not, List, [], ◌∷◌, ◌++◌, codes, decimal}
use Rattle.std.specs.Prelude.{if◌then◌else◌}
use Rattle.progress_lines.specs.declared.count.Count.{Count}

-- the most bytes of the text of a line
abbrev pub line_bytes_max : ℕ
line_bytes_max = 64

-- the line with this number and count: how many of the jobs have ended, and how many workers are at a job
abbrev pub watch_line : ℕ → ℕ → Count → List ℕ
watch_line number jobs c =
    codes "watch " ++ decimal number ++ codes " ended " ++ decimal c.ended ++ codes " of " ++ decimal jobs ++ codes " busy "
    ++ decimal c.busy ++ codes "\n"

-- the last line, if each board was given all its rows: all jobs have ended, and no worker is at one
abbrev pub last_line : ℕ → List ℕ
last_line jobs = codes "watch last ended " ++ decimal jobs ++ codes " of " ++ decimal jobs ++ codes " busy 0\n"

-- the last line if memory ran out for a row
abbrev pub no_memory_line : List ℕ
no_memory_line = codes "watch last no memory\n"

abbrev pub last_text : ℕ → Bool → List ℕ
last_text jobs told = if told then last_line jobs else no_memory_line

-- lines with these counts, numbered on from `at`
abbrev pub lines_text : ℕ → ℕ → List Count → List ℕ
lines_text at jobs [] = []
lines_text at jobs (c ∷ counts) = watch_line at jobs c ++ lines_text (at + 1) jobs counts

-- the jobs ended are that many in the first at least, and in none fewer than in the one before it
abbrev pub counts_rise : ℕ → List Count → Bool
counts_rise least [] = true
counts_rise least (c ∷ counts) = nat_le least c.ended && counts_rise c.ended counts

-- all jobs have ended, and no worker is at one
abbrev pub are_all : ℕ → Count → Bool
are_all jobs c = c.ended == jobs && c.busy == 0

-- none of these lines says that
abbrev pub none_says_all : ℕ → List Count → Bool
none_says_all jobs [] = true
none_says_all jobs (c ∷ counts) = not (are_all jobs c) && none_says_all jobs counts

-- lines follow one another until there are that many, or one says that all jobs have ended and no worker is at one
abbrev pub lines_end : ℕ → ℕ → List Count → Bool
lines_end jobs left [] = left == 0
lines_end jobs left (c ∷ []) = nat_le 1 left && ((left == 1) || are_all jobs c)
lines_end jobs left (c ∷ d ∷ counts) = not (are_all jobs c) && lines_end jobs (left - 1) (d ∷ counts)
