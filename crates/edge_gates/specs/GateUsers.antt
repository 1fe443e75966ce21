-- What contracts see of a user of a gate.
use Rattle.std.specs.Arc.{arc_value}
use Rattle.atomic_table.specs.Seated.{TableId}
use Rattle.crossbeam_utils.specs.Seq.{cell_view}
use Rattle.edge_gates.specs.declared.asked.GateView.{GateView}
use Rattle.edge_gates.specs.declared.gate.Gate.{Gate}

-- the gate's name, which no other gate has
abbrev pub name_of : {R : Type 0} → Gate R → TableId
name_of gate = (arc_value gate.asked).table.shared.table_id

-- what the user knows
abbrev pub view_of : {R : Type 0} → Gate R → GateView
view_of gate = cell_view gate.pass
