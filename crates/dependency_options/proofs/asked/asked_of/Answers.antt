use Rattle.std.proofs.Common.{[], ◌∙◌}
use Rattle.std.proofs.lemmas.List.{get_or_read}
use Rattle.arg_scan.proofs.Places.{owed_is}
use Rattle.dependency_options.proofs.Asking.{asked_is}
use Rattle.dependency_options.proofs.asked.asked_of.Goals as goal

pub loop-at-preserved : goal.loop-at-preserved
loop-at-preserved c =
    let words = c.args.words.now in
    let at = c.loop-at.at in
    let word = c.index-words-at.result in
    let word_is = get_or_read words at word c.loop-at-test.true c.index-words-at.is [] in
    let part = c.part_of-part.result in
    let part_is = c.part_of-part.ensures in (
      c.owed-owner.ensures ∙ owed_is words at c.loop-at.owner word part part_is c.loop-at.invariant.0 word_is,
      asked_is words at c.loop-at.owner word c.loop-at.asked _ part c.option_of.result part_is c.loop-at.invariant.0 word_is
          c.option_of.ensures c.note.ensures c.loop-at.invariant.1,
    )
