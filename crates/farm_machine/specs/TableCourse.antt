-- A course as one of the table, or as a cut one if memory ran out.
use Rattle.std.specs.Prelude.{◌≡◌, ◌⊎◌, List}
use Rattle.farm_machine.specs.declared.reports.End.{End}
use Rattle.farm_machine.specs.declared.reports.End.TheVariants.{Failed}
use Rattle.farm_machine.specs.declared.reports.Why5.TheVariants.{Memory}
use Rattle.farm_machine.specs.Acts.{Act}
use Rattle.farm_machine.specs.Jobs.{Job}
use Rattle.farm_machine.specs.Table.{Finished, IsCut, IsCutInExchange}

-- a course of the table, or a cut one if memory ran out
abbrev pub IsOfTable : Job → List Act → End → Type 0
IsOfTable j acts end = Finished j acts end ⊎ ((end ≡ Failed Memory) × (IsCut j acts ⊎ IsCutInExchange j acts))
