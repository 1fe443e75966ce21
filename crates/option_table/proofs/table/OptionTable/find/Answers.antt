use Rattle.std.proofs.Common.{◌∙◌, ap, Some, sym}
use Rattle.std.proofs.lemmas.Bool.{false≢true, and_parts}
use Rattle.option_table.specs.Rows.{place_of}
use Rattle.option_table.proofs.Distinct.{none_iff, only_place}
use Rattle.option_table.proofs.table.OptionTable.find.Goals as goal

pub returns-in-Some-clause-none : goal.returns-in-Some-clause-none
returns-in-Some-clause-none g c =
    none_iff c.args.self.now c.args.word.now (Some c.in-Some.row)
    (c.in-Some.ensures.place ∙ ap (place_of c.args.self.now) c.as_slice.ensures) (λ e. absurd (false≢true (sym e)))

pub returns-in-Some-clause-only : goal.returns-in-Some-clause-only
returns-in-Some-clause-only g c = λ at fits.
    only_place c.args.self.now c.args.word.now c.in-Some.row at (and_parts _ _ c.in-Some.ensures.table).0
    (c.in-Some.ensures.place ∙ ap (place_of c.args.self.now) c.as_slice.ensures) fits
