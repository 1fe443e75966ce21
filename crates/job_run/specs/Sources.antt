-- The source of a command that may be sent.
use Rattle.std.specs.Prelude.{◌≡◌, ℕ, Bool, List}
use Rattle.arg_scan.specs.Class.{input_place, plan_of}
use Rattle.arg_scan.specs.Names.{is_preprocessed}

-- the command's source is this word, and it is preprocessed already or not
pub record HasSource (words : List (List ℕ)) (input : ℕ) (preprocessed : Bool) : Type 0 where
  pub place : input ≡ input_place words
  pub ending : preprocessed ≡ is_preprocessed (plan_of words).ending
