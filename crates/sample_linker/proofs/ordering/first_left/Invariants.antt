use Rattle.std.proofs.Common.{◌≡◌, true, take}
use Rattle.std.specs.Prelude.{All}
use Rattle.std.specs.Option.{is_some}
use Rattle.sample_lang.specs.Names.{name_of}
use Rattle.sample_linker.specs.Tables.{place_in}
use Rattle.sample_linker.proofs.ordering.first_left.Given as goal

abbrev pub invariant-loop-item : goal.invariant-loop-item
invariant-loop-item l = All (λ item. is_some (place_in l.placed (name_of item)) ≡ true) (take l.item-index l.defined)
