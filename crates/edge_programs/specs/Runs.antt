-- What a run of a child gives.
use Rattle.std.specs.Prelude.{◌≡◌, false, List, [], Option, Result, All, IfOk, IfErr, OnOk}
use Rattle.farm_types.specs.declared.placed.Word.{Word}
use Rattle.farm_types.specs.declared.ran.Ran.{Ran}
use Rattle.edge_traits.specs.declared.faults.Bounds.{Bounds}
use Rattle.edge_traits.specs.declared.faults.StationFault.{StationFault}
use Rattle.edge_traits.specs.Stations.{IsWithin, has_output}
use Rattle.edge_runs.specs.Commands.{CanBeGiven}
use Rattle.edge_programs.specs.Children.{IsRunFault}
use Rattle.edge_programs.specs.Serving.{IsOfKind}
use Rattle.edge_programs.specs.declared.child.WordPolicy.{WordPolicy}

-- what a station may answer to these words, whether it runs them or refuses them
pub record IsAnswerTo (policy : Option WordPolicy) (words : List Word) (bounds : Bounds) (result : Result Ran StationFault) : Type 0 where
  pub within : IfOk result (IsWithin bounds)
  pub fault : IfErr result (IsRunFault bounds)
  -- without the word `Output` there is no object
  pub no_object : IfOk result (λ ran. has_output words ≡ false → ran.object ≡ [])
  pub kind : IfOk result (IsOfKind policy words)

-- what a run of these words gives
pub record IsRunOf (policy : Option WordPolicy) (words : List Word) (bounds : Bounds) (result : Result Ran StationFault) : Type 0 where
  pub answer : IsAnswerTo policy words bounds result
  -- only words that a program can be given were run
  pub given : OnOk result (All CanBeGiven words)
