-- Runs at a station, one after another.
use Rattle.std.proofs.Common.{◌≡◌, List, ℕ, ap, sym, ◌∙◌, subst}
use Rattle.std.specs.Prelude.{Option}
use Rattle.farm_types.specs.declared.ran.Ran.{Ran}
use Rattle.farm_types.specs.declared.placed.Word.{Word}
use Rattle.edge_traits.specs.Told.{SameRelation3}
use Rattle.file_map.specs.FileMaps.{Files}
use Rattle.file_map.proofs.FileLemmas.{put-put}
use Rattle.sample_compiler.specs.declared.task.Task.{Task}
use Rattle.sample_compiler.specs.Samples.{LeavesAsked}
use Rattle.sample_compiler.specs.Stations.{own_input, with_input, asked_by, as_left, StationRan}

-- the input of an earlier run is of no account
earlier : (old new : Files) (before input : List ℕ) → new ≡ with_input old before → with_input new input ≡ with_input old input
earlier old new before input is = ap (λ files. with_input files input) is ∙ put-put old own_input before input

pub same_stations : (old new : Files) (before : List ℕ) → new ≡ with_input old before → SameRelation3 (StationRan old) (StationRan new)
same_stations old new before is = record {
  kept = λ words input ran run. record {
    whole = run.whole;
    leaves = subst (λ files. LeavesAsked files (asked_by words) run.whole) (sym (earlier old new before input is)) run.leaves;
    left = run.left;
  };
  back = λ words input ran run. record {
    whole = run.whole;
    leaves = subst (λ files. LeavesAsked files (asked_by words) run.whole) (earlier old new before input is) run.leaves;
    left = run.left;
  };
}

pub left_run : (old new : Files) (words : List Word) (input : List ℕ) (asked : Option Task) (whole ran : Ran)
    → new ≡ with_input old input → asked ≡ asked_by words
    → LeavesAsked new asked whole → ran ≡ as_left words asked whole → StationRan new words input ran
left_run old new words input asked whole ran is by leaves left = record {
  whole = whole;
  leaves = subst (λ files. LeavesAsked files (asked_by words) whole) (is ∙ sym (earlier old new input input is))
      (subst (λ a. LeavesAsked new a whole) by leaves);
  left = subst (λ a. ran ≡ as_left words a whole) by left;
}
