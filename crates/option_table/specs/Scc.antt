-- The options of the sample compiler's command line.
use Rattle.std.specs.Prelude.{List, [], ◌∷◌, codes}
use Rattle.option_table.specs.declared.row.Form.TheVariants as form
use Rattle.option_table.specs.declared.row.Effect.TheVariants as effect
use Rattle.option_table.specs.declared.row.OptionRow.{OptionRow}
use Rattle.option_table.specs.Rows.{row}

unfoldable pub scc_rows : List OptionRow
scc_rows =
    row (codes "-I") form.Either effect.Strip ∷
    row (codes "-D") form.Either effect.Strip ∷
    row (codes "-o") form.Next effect.Output ∷
    row (codes "-E") form.None effect.Action ∷
    row (codes "-c") form.None effect.Action ∷
    row (codes "-S") form.None effect.Action ∷ []
