use Rattle.std.proofs.Common.{List, ℕ, sym, subst, ◌∙◌, ap}
use Rattle.option_table.specs.declared.row.OptionRow.{OptionRow}
use Rattle.option_table.specs.declared.held.Held.{Held}
use Rattle.option_table.specs.Held.{held_rows, held_places, held_starts}
use Rattle.option_table.specs.Spans.{IsSpan, span_of}
use Rattle.option_table.proofs.Sorting.{span_covers}
use Rattle.option_table.proofs.table.OptionTable.span.Goals as goal

pub returns-in-Own-clause-span : goal.returns-in-Own-clause-span
returns-in-Own-clause-span g c =
    let letter = c.args.letter in
    subst (λ (rows : List OptionRow). IsSpan rows letter c.span_of.result.now) c.self.view_is
    (subst (λ (places : List ℕ). IsSpan (held_rows c.self.inside.held) letter places)
    (sym (c.span_of.ensures ∙ ap (λ places. span_of places c.as_slice-in-Own.result.now letter) c.as_slice.ensures
    ∙ ap (λ starts. span_of c.in-Own.places starts letter) c.as_slice-in-Own.ensures
    ∙ ap (λ (held : Held g.row.N). span_of (held_places held) (held_starts held) letter) (sym c.in-Own.is)))
    (span_covers (held_rows c.self.inside.held) (held_places c.self.inside.held) (held_starts c.self.inside.held) letter
    c.ranges.letter.fits c.self.invariant.indexed))

pub returns-in-Constant-clause-span : goal.returns-in-Constant-clause-span
returns-in-Constant-clause-span g c =
    let letter = c.args.letter in
    subst (λ (rows : List OptionRow). IsSpan rows letter c.span_of-in-Constant.result.now) c.self.view_is
    (subst (λ (places : List ℕ). IsSpan (held_rows c.self.inside.held) letter places)
    (sym (c.span_of-in-Constant.ensures
    ∙ ap (λ (held : Held g.row.N). span_of (held_places held) (held_starts held) letter) (sym c.in-Constant.is)))
    (span_covers (held_rows c.self.inside.held) (held_places c.self.inside.held) (held_starts c.self.inside.held) letter
    c.ranges.letter.fits c.self.invariant.indexed))
