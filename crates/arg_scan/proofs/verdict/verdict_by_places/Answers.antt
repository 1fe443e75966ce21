use Rattle.std.proofs.Common.{[], sym, ◌∙◌, arith}
use Rattle.std.proofs.lemmas.List.{get_or_read}
use Rattle.arg_scan.proofs.Places.{reason_is, noted_is, owed_is, forced-none, local_is, final_is, some_words}
use Rattle.arg_scan.proofs.verdict.verdict_by_places.Goals as goal

pub returns-in-Some : goal.returns-in-Some
returns-in-Some c =
    let words = c.args.words.now in
    let word_is = get_or_read words c.loop-at.at c.index-words-at.result c.loop-at-test.true c.index-words-at.is [] in
    let reason = reason_is words c.loop-at.at c.loop-at.owner c.index-words-at.result c.loop-at.seen c.part_of-part.result
    c.part_of-part.ensures c.loop-at.invariant.0 word_is c.loop-at.invariant.1 in
    local_is words c.loop-at.at c.in-Some.why c.loop-at-test.true c.loop-at.invariant.2 (sym reason ∙ sym c.reason.ensures ∙ c.in-Some.is)

pub loop-at-preserved : goal.loop-at-preserved
loop-at-preserved c =
    let words = c.args.words.now in
    let at = c.loop-at.at in
    let word = c.index-words-at.result in
    let word_is = get_or_read words at word c.loop-at-test.true c.index-words-at.is [] in
    let part = c.part_of-part.result in
    let is = c.part_of-part.ensures in
    let reason = reason_is words at c.loop-at.owner word c.loop-at.seen part is c.loop-at.invariant.0 word_is c.loop-at.invariant.1 in (
      c.owed-owner.ensures ∙ owed_is words at c.loop-at.owner word part is c.loop-at.invariant.0 word_is,
      c.note.ensures ∙ noted_is words at c.loop-at.owner word c.loop-at.seen part is c.loop-at.invariant.0 word_is c.loop-at.invariant.1,
      forced-none words at c.loop-at.invariant.2 (sym reason ∙ sym c.reason.ensures ∙ c.in_default.is),
    )

pub returns : goal.returns
returns c =
    let words = c.args.words.now in
    c.verdict.ensures
    ∙ final_is words c.loop-at.at c.loop-at.seen (some_words _ _ c.is_empty.ensures c.if-is_empty.false) (omega arith)
    c.loop-at.invariant.2 c.loop-at.invariant.1
