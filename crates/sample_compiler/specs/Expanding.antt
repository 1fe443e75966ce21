-- What the preprocessor makes of a text.
use Rattle.std.specs.Prelude.{ℕ, zero, suc, ◌+◌, List, [], ◌∷◌, ◌++◌, codes, ◌==◌, if◌then◌else◌, Option, Some, None, Result, Ok, Err}
use Rattle.std.specs.FinMap.{get}
use Rattle.farm_types.specs.Bytes.{hash}
use Rattle.file_map.specs.FileMaps.{Files}
use Rattle.sample_compiler.specs.declared.defines.Define.{Define}
use Rattle.sample_compiler.specs.declared.stops.ExpandFault.{ExpandFault}
use Rattle.sample_compiler.specs.declared.stops.ExpandFault.TheVariants.{BadDirective, NoFile, TooDeep}
use Rattle.sample_compiler.specs.Lines.{source_lines}
use Rattle.sample_compiler.specs.Words.{begins, replaced}
use Rattle.sample_compiler.specs.Directives.{Definition, include_of, define_of}

-- ---- the path of an included file

-- `DIR/F` for each folder, in order
abbrev pub find_in : Files → List (List ℕ) → List ℕ → Option (List ℕ)
find_in files [] name = None
find_in files (dir ∷ dirs) name = or_else (get files (dir ++ codes "/" ++ name)) (find_in files dirs name)
  where
    or_else : Option (List ℕ) → Option (List ℕ) → Option (List ℕ)
    or_else None other = other
    or_else (Some content) other = Some content

-- `F`, and then in the folders
abbrev pub find_file : Files → List (List ℕ) → List ℕ → Option (List ℕ)
find_file files dirs name = or_else (get files name) (find_in files dirs name)
  where
    or_else : Option (List ℕ) → Option (List ℕ) → Option (List ℕ)
    or_else None other = other
    or_else (Some content) other = Some content

-- ---- a text

-- the defined names so far, in order, and the text that was made
pub record Expanded : Type 0 where
  pub defines : List Define
  pub text : List ℕ

-- a fault is on a line of the file that it is in
abbrev pub ExpandResult : Type 0
ExpandResult = Result Expanded (ℕ × ExpandFault)

-- after a text that was made
abbrev pub behind_text : List ℕ → ExpandResult → ExpandResult
behind_text text (Ok more) = Ok (record { defines = more.defines; text = text ++ more.text })
behind_text text (Err fault) = Err fault

abbrev pub then_lines : ExpandResult → (List Define → ExpandResult) → ExpandResult
then_lines (Ok made) more = behind_text made.text (more made.defines)
then_lines (Err fault) more = Err fault

-- what includes a file: by the line of the directive, the defined names and the file's name
abbrev pub Includes : Type 0
Includes = ℕ → List Define → List ℕ → ExpandResult

abbrev pub with_define : List Define → Definition → List Define
with_define defines d = defines ++ record { name = d.name; value = d.value } ∷ []

abbrev pub other_directive : ℕ → List Define → Option Definition → ExpandResult
other_directive line defines (Some d) = Ok (record { defines = with_define defines d; text = [] })
other_directive line defines None = Err (line, BadDirective)

abbrev pub directive : Includes → ℕ → List Define → List ℕ → Option (List ℕ) → ExpandResult
directive include line defines bytes (Some name) = include line defines name
directive include line defines bytes None = other_directive line defines (define_of bytes)

-- one line: a directive leaves none
abbrev pub expand_line : Includes → ℕ → List Define → List ℕ → ExpandResult
expand_line include line defines bytes =
    if begins (λ c. c == hash) bytes then directive include line defines bytes (include_of bytes)
    else Ok (record { defines = defines; text = replaced defines bytes ++ codes "\n" })

-- the lines from this number on, in order
abbrev pub expand_lines : Includes → ℕ → List Define → List (List ℕ) → ExpandResult
expand_lines include line defines [] = Ok (record { defines = defines; text = [] })
expand_lines include line defines (l ∷ ls) =
    then_lines (expand_line include line defines l) (λ more. expand_lines include (line + 1) more ls)

abbrev pub from_file : (List Define → List (List ℕ) → ExpandResult) → ℕ → List Define → List ℕ → Option (List ℕ) → ExpandResult
from_file expand line defines name None = Err (line, NoFile name)
from_file expand line defines name (Some content) = expand defines (source_lines content)

-- an included file, if that many may still be open at once
unfoldable pub include : Files → List (List ℕ) → ℕ → Includes
include files dirs zero line defines name = Err (line, TooDeep)
include files dirs (suc room) line defines name =
    from_file (expand_lines (include files dirs room) 1) line defines name (find_file files dirs name)

-- the most included files that are open at once
abbrev pub includes_max : ℕ
includes_max = 16

-- a whole text
abbrev pub expanded : Files → List (List ℕ) → List Define → List ℕ → ExpandResult
expanded files dirs defines text = expand_lines (include files dirs includes_max) 1 defines (source_lines text)
