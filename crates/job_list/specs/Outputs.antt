-- The outputs of jobs, and which two of them are the same.
use Rattle.std.specs.Prelude.{ℕ, ◌≡◌, ◌<◌, List, map, Option, Some, None}
use Rattle.std.specs.List.{slice_get}
use Rattle.arg_scan.specs.declared.class.Scan.{Scan}
use Rattle.arg_scan.specs.declared.class.Scan.TheVariants as scan
use Rattle.arg_scan.specs.Class.{class_of}

abbrev pub scan_output : Scan → Option (List ℕ)
scan_output (scan.Remote action input output preprocessed ext) = Some output
scan_output scan.Empty = None
scan_output (scan.Local why at) = None
scan_output scan.Memory = None

-- the output of a command that may be sent, by its class
abbrev pub command_output : List (List ℕ) → Option (List ℕ)
command_output words = scan_output (class_of words)

-- the outputs of jobs, one by one
abbrev pub outputs_of : List (List (List ℕ)) → List (Option (List ℕ))
outputs_of jobs = map command_output jobs

-- the jobs at two places, which count from 0, have this same output
abbrev pub SameOutputAt : List (Option (List ℕ)) → ℕ → ℕ → Type 0
SameOutputAt outputs i j =
    (output : List ℕ) × (slice_get outputs i ≡ Some (Some output)) × (slice_get outputs j ≡ Some (Some output))

-- no two jobs have the same output
abbrev pub AreApart : List (Option (List ℕ)) → Type 0
AreApart outputs = (i j : ℕ) → i < j → SameOutputAt outputs i j → ⊥

-- of the pairs of jobs with the same output, that with the least second job, and for it the least first one
pub record IsLeastPair (outputs : List (Option (List ℕ))) (first second : ℕ) : Type 0 where
  pub low : first < second
  pub same : SameOutputAt outputs first second
  pub earlier : (i j : ℕ) → i < j → j < second → SameOutputAt outputs i j → ⊥
  pub least : (i : ℕ) → i < first → SameOutputAt outputs i second → ⊥
