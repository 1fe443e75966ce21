use Rattle.std.proofs.Common.{[], ◌∙◌, refl}
use Rattle.std.proofs.lemmas.List.{get_or_read}
use Rattle.arg_scan.proofs.Places.{owed_is}
use Rattle.arg_strip.proofs.StandardInput.{reads_is}
use Rattle.arg_strip.proofs.input.reads_input.Goals as goal

pub loop-at-preserved : goal.loop-at-preserved
loop-at-preserved c =
    let words = c.args.words.now in
    let at = c.loop-at.at in
    let word = c.index-words-at.result in
    let word_is = get_or_read words at word c.loop-at-test.true c.index-words-at.is [] in
    let part = c.part_of-part.result in
    let part_is = c.part_of-part.ensures in (
      c.owed-owner.ensures ∙ owed_is words at c.loop-at.owner word part part_is c.loop-at.invariant.0 word_is,
      reads_is words at c.loop-at.owner word c.loop-at.reads _ c.is_dash-reads.result part part_is c.loop-at.invariant.0 word_is
          c.is_dash-reads.ensures refl c.loop-at.invariant.1,
    )
