use Rattle.std.proofs.Common.{◌≡◌, ◌≤◌, ◌++◌, ◌==◌, [], ◌∷◌, true, length, ap, sym, ◌∙◌, subst, arith, length-append}
use Rattle.std.proofs.lemmas.Bool.Decides.{nat_tests}
use Rattle.farm_monitor.specs.declared.progress.Progress.{Progress}
use Rattle.farm_monitor.specs.Rows.{opening_row, last_row}
use Rattle.farm_monitor.proofs.Adding.{adds-moves, last_snoc}
use Rattle.farm_monitor.proofs.row.Row.followed.Goals as goal

pub compare_exchange-found-requires : goal.compare_exchange-found-requires
compare_exchange-found-requires c =
    let one = c.args.self.now in
    let h = c.requires.length in
    let again = c.again-rows.ensures in
    let offer = c.plain-offer.ensures in
    let pen = c.no_pen-pen.ensures in
    let book = ap (λ s. s.book) again ∙ sym (ap (λ w. w.book) h) in
    let le : (last_row one.rows.log).ended ≤ c.args.progress.ended =
    subst (λ (p : Progress). p.ended ≤ c.args.progress.ended) one.last c.requires.rises in
    let counted : length one.rows.log ≡ c.from-number.result = omega (arith, one.counted, c.from-number.ensures) in (
      ap (λ w. w.tracked) h,
      book,
      pen.0 ∙ book,
      offer.0,
      rw (ap (λ w. w.key) h, pen.1, offer.1, offer.3, ap (λ s. s.log) again)
          (adds-moves one.rows.log c.args.progress c.from-number.result counted le),
    )

pub invariant_of-result : goal.invariant_of-result
invariant_of-result c =
    let one = c.args.self.now in
    let found : (c.compare_exchange-found.result == c.from-number.result) ≡ true = grind (arith, nat_tests) in
    let told = c.compare_exchange-found.ensures.7 found in
    let log : c.compare_exchange-found.new.seen.log ≡ one.rows.log ++ c.args.progress ∷ [] =
    rw (← c.plain-offer.ensures.1, ← ap (λ s. s.log) c.again-rows.ensures) told.0 in
    record {
      last = sym (ap last_row log ∙ last_snoc opening_row one.rows.log c.args.progress);
      counted = omega (arith, one.counted, ap length log, length-append one.rows.log (c.args.progress ∷ []));
      rises = told.1;
    }
