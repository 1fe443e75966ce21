-- Which of the names that a text looks up is the first that isn't known.
use Rattle.std.proofs.Common.{Bool, true, false, ◌≡◌, ℕ, zero, suc, ◌+◌, ◌-◌, ◌<◌, List, [], ◌∷◌, ◌++◌, Option, Some, None, Ok, Err, refl}
use Rattle.std.proofs.Common.{ap, sym, ◌∙◌, subst, arith}
use Rattle.std.specs.Prelude.{if◌then◌else◌}
use Rattle.file_map.specs.FileMaps.{Files}
use Rattle.sample_compiler.specs.declared.defines.Define.{Define}
use Rattle.sample_compiler.specs.declared.stops.ExpandStop.{ExpandStop}
use Rattle.sample_compiler.specs.declared.stops.ExpandStop.TheVariants as stops
use Rattle.sample_compiler.specs.Lines.{source_lines}
use Rattle.sample_compiler.specs.Expanding.{ExpandResult, Includes, expand_line, include, find_file}
use Rattle.sample_compiler.specs.Lookups.{Stopped, LookStopped}
use Rattle.sample_compiler.specs.Seeking.{Seeks, sought, by_line, after_line, by_lines, by_content, by_include, is_known, first_unknown}
use Rattle.sample_compiler.specs.Seeking.{StoppedAt}

abbrev pub or_first : Option (List ℕ) → Option (List ℕ) → Option (List ℕ)
or_first None other = other
or_first (Some name) other = Some name

pub unknown_append : (known : Files) (absent names more : List (List ℕ))
    → first_unknown known absent (names ++ more) ≡ or_first (first_unknown known absent names) (first_unknown known absent more)
unknown_append known absent [] more = refl
unknown_append known absent (name ∷ names) more = step (is_known known absent name) (unknown_append known absent names more)
  where
    step : (b : Bool) → first_unknown known absent (names ++ more) ≡ or_first (first_unknown known absent names)
        (first_unknown known absent more)
        → (if b then first_unknown known absent (names ++ more) else Some name)
        ≡ or_first (if b then first_unknown known absent names else Some name) (first_unknown known absent more)
    step true rest = rest
    step false rest = refl

-- behind names that are all known
pub behind_known : (known : Files) (absent names more : List (List ℕ)) → first_unknown known absent names ≡ None
    → first_unknown known absent (names ++ more) ≡ first_unknown known absent more
behind_known known absent names more all = unknown_append known absent names more
    ∙ ap (λ o. or_first o (first_unknown known absent more)) all

-- a name that isn't known is the first of more names too
pub front_unknown : (known : Files) (absent names more : List (List ℕ)) (path : List ℕ)
    → first_unknown known absent names ≡ Some path → first_unknown known absent (names ++ more) ≡ Some path
front_unknown known absent names more path is = unknown_append known absent names more
    ∙ ap (λ o. or_first o (first_unknown known absent more)) is

-- a lookup that stopped, and more names behind
pub stopped_walk : (known : Files) (absent names more : List (List ℕ)) (whole : Bool) (stop : ExpandStop) → LookStopped whole stop
    → StoppedAt (first_unknown known absent names) stop → StoppedAt (first_unknown known absent (names ++ more)) stop
stopped_walk known absent names more whole (stops.Fault line fault) looked walked = absurd looked
stopped_walk known absent names more whole (stops.Unknown path) looked walked = front_unknown known absent names more path walked
stopped_walk known absent names more whole stops.Memory looked walked = tt

-- ---- an included file

pub seek_deep : (files : Files) (dirs : List (List ℕ)) (room : ℕ) (defines : List Define) (name : List ℕ) → room ≡ 0
    → by_include files dirs room defines name ≡ []
unfolding by_include
seek_deep files dirs zero defines name h = refl
seek_deep files dirs (suc room) defines name h = absurd (omega arith)

pub seek_file : (files : Files) (dirs : List (List ℕ)) (room : ℕ) (defines : List Define) (name : List ℕ) → 0 < room
    → by_include files dirs room defines name ≡ sought files dirs name
    ++ by_content (by_lines (include files dirs (room - 1)) (by_include files dirs (room - 1)) 1 defines) (find_file files dirs name)
unfolding by_include
seek_file files dirs zero defines name h = absurd (omega arith)
seek_file files dirs (suc room) defines name h =
    let e : room ≡ suc room - 1 = omega arith in
    ap (λ r. sought files dirs name ++ by_content (by_lines (include files dirs r) (by_include files dirs r) 1 defines)
    (find_file files dirs name)) e

-- where the file is there, what comes next is what its own lines look up
pub seek_found : (known : Files) (absent : List (List ℕ)) (files : Files) (dirs : List (List ℕ)) (room : ℕ) (defines : List Define)
    (name content : List ℕ) → 0 < room
    → find_file files dirs name ≡ Some content → first_unknown known absent (sought files dirs name) ≡ None
    → first_unknown known absent (by_include files dirs room defines name)
    ≡ first_unknown known absent
    (by_lines (include files dirs (room - 1)) (by_include files dirs (room - 1)) 1 defines (source_lines content))
seek_found known absent files dirs room defines name content some found all =
    let seek = by_lines (include files dirs (room - 1)) (by_include files dirs (room - 1)) 1 defines in
    ap (first_unknown known absent) (seek_file files dirs room defines name some)
    ∙ behind_known known absent (sought files dirs name) (by_content seek (find_file files dirs name)) all
    ∙ ap (λ f. first_unknown known absent (by_content seek f)) found

pub seek_absent : (known : Files) (absent : List (List ℕ)) (files : Files) (dirs : List (List ℕ)) (room : ℕ) (defines : List Define)
    (name : List ℕ) → 0 < room
    → find_file files dirs name ≡ None → first_unknown known absent (sought files dirs name) ≡ None
    → first_unknown known absent (by_include files dirs room defines name) ≡ None
seek_absent known absent files dirs room defines name some found all =
    let seek = by_lines (include files dirs (room - 1)) (by_include files dirs (room - 1)) 1 defines in
    ap (first_unknown known absent) (seek_file files dirs room defines name some)
    ∙ behind_known known absent (sought files dirs name) (by_content seek (find_file files dirs name)) all
    ∙ ap (λ f. first_unknown known absent (by_content seek f)) found

pub seek_stopped : (known : Files) (absent : List (List ℕ)) (files : Files) (dirs : List (List ℕ)) (room : ℕ)
    (defines : List Define) (name : List ℕ) (whole : Bool) (stop : ExpandStop) → 0 < room
    → LookStopped whole stop → StoppedAt (first_unknown known absent (sought files dirs name)) stop
    → StoppedAt (first_unknown known absent (by_include files dirs room defines name)) stop
seek_stopped known absent files dirs room defines name whole stop some looked walked =
    let seek = by_lines (include files dirs (room - 1)) (by_include files dirs (room - 1)) 1 defines in
    subst (λ names. StoppedAt (first_unknown known absent names) stop) (sym (seek_file files dirs room defines name some))
    (stopped_walk known absent (sought files dirs name) (by_content seek (find_file files dirs name)) whole stop looked walked)

-- ---- lines

line_names : (known : Files) (absent : List (List ℕ)) (includes : Includes) (seeks : Seeks) (line : ℕ) (defines : List Define)
    (bytes : List ℕ) (ls : List (List ℕ)) (o : ExpandResult)
    → expand_line includes line defines bytes ≡ o → first_unknown known absent (by_line seeks defines bytes) ≡ None
    → first_unknown known absent (by_lines includes seeks line defines (bytes ∷ ls))
    ≡ first_unknown known absent (after_line o (λ more. by_lines includes seeks (line + 1) more ls))
line_names known absent includes seeks line defines bytes ls o is all =
    behind_known known absent (by_line seeks defines bytes)
    (after_line (expand_line includes line defines bytes) (λ more. by_lines includes seeks (line + 1) more ls)) all
    ∙ ap (λ made. first_unknown known absent (after_line made (λ more. by_lines includes seeks (line + 1) more ls))) is

-- one line is done
pub walk_more : (known : Files) (absent : List (List ℕ)) (includes : Includes) (seeks : Seeks) (line : ℕ)
    (defines next : List Define) (rest bytes more text : List ℕ)
    → source_lines rest ≡ bytes ∷ source_lines more → expand_line includes line defines bytes ≡ Ok (record { defines = next; text = text })
    → first_unknown known absent (by_line seeks defines bytes) ≡ None
    → first_unknown known absent (by_lines includes seeks line defines (source_lines rest))
    ≡ first_unknown known absent (by_lines includes seeks (line + 1) next (source_lines more))
walk_more known absent includes seeks line defines next rest bytes more text cut took all =
    ap (λ ls. first_unknown known absent (by_lines includes seeks line defines ls)) cut
    ∙ line_names known absent includes seeks line defines bytes (source_lines more) (Ok (record { defines = next; text = text })) took all

-- the text stopped at a line
pub walk_stop : (known : Files) (absent : List (List ℕ)) (includes : Includes) (seeks : Seeks) (line : ℕ) (defines : List Define)
    (rest bytes more : List ℕ) (stop : ExpandStop)
    → source_lines rest ≡ bytes ∷ source_lines more → Stopped false (expand_line includes line defines bytes) stop
    → StoppedAt (first_unknown known absent (by_line seeks defines bytes)) stop
    → StoppedAt (first_unknown known absent (by_lines includes seeks line defines (source_lines rest))) stop
walk_stop known absent includes seeks line defines rest bytes more (stops.Fault l f) cut stopped walked =
    ap (λ ls. first_unknown known absent (by_lines includes seeks line defines ls)) cut
    ∙ line_names known absent includes seeks line defines bytes (source_lines more) (Err (l, f)) stopped walked
walk_stop known absent includes seeks line defines rest bytes more (stops.Unknown path) cut stopped walked =
    ap (λ ls. first_unknown known absent (by_lines includes seeks line defines ls)) cut
    ∙ front_unknown known absent (by_line seeks defines bytes)
    (after_line (expand_line includes line defines bytes) (λ ds. by_lines includes seeks (line + 1) ds (source_lines more))) path walked
walk_stop known absent includes seeks line defines rest bytes more stops.Memory cut stopped walked = tt
