-- What contracts see of a user of a mark.
use Rattle.std.specs.Arc.{arc_value}
use Rattle.atomic_table.specs.Seated.{TableId}
use Rattle.crossbeam_utils.specs.Seq.{cell_view}
use Rattle.edge_gates.specs.declared.marked.MarkView.{MarkView}
use Rattle.edge_gates.specs.declared.mark.Mark.{Mark}

-- the mark's name, which no other mark has
abbrev pub name_of : {R : Type 0} → Mark R → TableId
name_of mark = (arc_value mark.marked).table.shared.table_id

-- what the user knows
abbrev pub view_of : {R : Type 0} → Mark R → MarkView
view_of mark = cell_view mark.pass
