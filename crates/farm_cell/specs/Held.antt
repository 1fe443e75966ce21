-- What contracts see of a cell that is joined with one caller's pass.
use Rattle.std.specs.Prelude.{◌≡◌, ℕ}
use Rattle.farm_cell.specs.declared.cell.Cell.{Cell}
use Rattle.farm_cell.specs.declared.cell.Pass.{Pass}
use Rattle.farm_cell.specs.declared.held.Held.{Held}
use Rattle.farm_cell.specs.Passes.{number_of}

abbrev pub cell_of : {R : Type 0} → Held R → Cell 16 34
cell_of h = h.cell.now

abbrev pub pass_of : {R : Type 0} → Held R → Pass
pass_of h = h.pass.now

-- the place of the pass, as long as it is lent
abbrev pub place_of : {R : Type 0} → Held R → ℕ
place_of h = h.pass.ghost_name

-- its calls change neither the cell, nor the place of the pass, nor whose it is
pub record Stays {R : Type 0} (a b : Held R) : Type 0 where
  pub cell : cell_of b ≡ cell_of a
  pub place : place_of b ≡ place_of a
  pub number : number_of (pass_of b) ≡ number_of (pass_of a)
