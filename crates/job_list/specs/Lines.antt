-- The words of a line, and what is wrong with a line that has none.
use Rattle.std.specs.Prelude.{ℕ, ◌≡◌, List, [], ◌∷◌, ◌++◌, Bool, true, false, ◌⊎◌}
use Rattle.std.specs.List.{flat_map}
use Rattle.farm_types.specs.Bytes.{double_quote, single_quote, backslash}
use Rattle.job_list.specs.declared.fault.JobFault.{JobFault}
use Rattle.job_list.specs.declared.fault.JobFault.TheVariants.{OpenQuote, BadEscape}
use Rattle.job_list.specs.Parts.{Each, IsInSingle, Quoted, IsQuoted, quoted_text, Part, blank, IsPart, part_text, part_bytes}

-- ---- the words

-- bytes before some words: they go to the front of the first word, or are a word of their own
abbrev pub onto_words : Bool → List ℕ → List (List ℕ) → List (List ℕ)
onto_words true bytes (w ∷ ws) = (bytes ++ w) ∷ ws
onto_words true bytes [] = bytes ∷ []
onto_words false bytes ws = bytes ∷ ws

-- whether a word goes on with these parts: there are some, and the first is no blank
abbrev pub goes_on : List Part → Bool
goes_on [] = false
goes_on (blank c ∷ ps) = false
goes_on (_ ∷ ps) = true

-- the words of parts: parts without a blank between them make one word
abbrev pub words_of : List Part → List (List ℕ)
words_of [] = []
words_of (blank c ∷ ps) = words_of ps
words_of (p ∷ ps) = onto_words (goes_on ps) (part_bytes p) (words_of ps)

-- the line is spelled by parts that make these words
pub record LineOf (line : List ℕ) (words : List (List ℕ)) : Type 0 where
  pub parts : List Part
  pub right : Each IsPart parts
  pub spelled : line ≡ flat_map part_text parts
  pub meant : words ≡ words_of parts

-- ---- the fault

-- `'`, and no other one after it
pub record OpenSingle (tail : List ℕ) : Type 0 where
  pub bytes : List ℕ
  pub plain : Each IsInSingle bytes
  pub spelled : tail ≡ single_quote ∷ bytes

-- nothing, or a backslash as the last byte
abbrev pub IsCutMark : List ℕ → Type 0
IsCutMark end = (end ≡ []) ⊎ (end ≡ backslash ∷ [])

-- `"`, and no other one after it that isn't escaped; a backslash may be the last byte
pub record OpenDouble (tail : List ℕ) : Type 0 where
  pub quoted : List Quoted
  pub right : Each IsQuoted quoted
  pub end : List ℕ
  pub last : IsCutMark end
  pub spelled : tail ≡ double_quote ∷ (flat_map quoted_text quoted ++ end)

-- what begins like a part and isn't one, up to the line's end
abbrev pub BreaksOff : List ℕ → JobFault → Type 0
BreaksOff tail fault =
    ((fault ≡ OpenQuote) × OpenSingle tail)
    ⊎ ((fault ≡ OpenQuote) × OpenDouble tail)
    ⊎ ((fault ≡ BadEscape) × (tail ≡ backslash ∷ []))

-- after some parts the line breaks off
pub record LineFault (line : List ℕ) (fault : JobFault) : Type 0 where
  pub parts : List Part
  pub right : Each IsPart parts
  pub tail : List ℕ
  pub broken : BreaksOff tail fault
  pub spelled : line ≡ flat_map part_text parts ++ tail
