-- What a run of one job asks of a station, and what it leaves.
use Rattle.std.specs.Prelude.{◌≡◌, ℕ, false, List, map}
use Rattle.farm_types.specs.Limits.{object_max, preprocessed_max, child_err_max, in_place_out_max}
use Rattle.farm_types.specs.declared.placed.Word.{Word}
use Rattle.farm_types.specs.declared.placed.Word.TheVariants.{Text}
use Rattle.edge_traits.specs.declared.faults.Bounds.{Bounds}
use Rattle.arg_scan.specs.declared.class.Scan.{Scan}
use Rattle.arg_scan.specs.declared.class.Scan.TheVariants.{Remote}

-- each word unchanged
abbrev pub texts : List (List ℕ) → List Word
texts words = map Text words

-- a command that may be sent, whose source is still to be preprocessed
abbrev pub IsUnpreprocessed : Scan → Type 0
IsUnpreprocessed (Remote action input output preprocessed ext) = preprocessed ≡ false
IsUnpreprocessed other = ⊥

-- the most bytes of what a preprocessor gives
abbrev pub preprocessor_bounds : Bounds
preprocessor_bounds = record { out = preprocessed_max; err = child_err_max; object = object_max }

-- the most bytes of what a command in place gives
abbrev pub in_place_bounds : Bounds
in_place_bounds = record { out = in_place_out_max; err = child_err_max; object = object_max }
