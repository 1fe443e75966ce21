use Rattle.std.proofs.Common.{◌≡◌, ◌+◌, ◌-◌, length, map, string_bytes, Global, sym, ◌∙◌, ap, arith}
use Rattle.std.proofs.lemmas.List.{get_or_read}
use Rattle.farm_types.specs.declared.placed.Word.TheVariants.{Output}
use Rattle.allowed_options.specs.Served.{unserved_below}
use Rattle.allowed_options.proofs.Places.{none_yet, stays, served_is, owed_is}
use Rattle.allowed_options.proofs.served.first_of.Goals as goal

pub returns-then-not-is_word_served-clause-first : goal.returns-then-not-is_word_served-clause-first
returns-then-not-is_word_served-clause-first c =
    let words = c.args.words.now in
    let tools = map (string_bytes {Z = Global}) c.args.tools.now in
    let at = c.loop-at.at in
    let word = c.index-words-at.result in
    let word_is = get_or_read words at word c.loop-at-test.true c.index-words-at.is Output in
    let served = served_is tools words at c.loop-at.operand word c.loop-at.invariant.0 word_is in
    let more : (length words - (at + 1)) + (at + 1) ≡ length words = omega (arith, c.loop-at-test.true) in
    sym (stays tools words at (length words - (at + 1)) (sym served ∙ sym c.is_word_served.ensures ∙ c.if-not-is_word_served.true)
    c.loop-at.invariant.1) ∙ ap (unserved_below tools words) more

pub loop-at-preserved : goal.loop-at-preserved
loop-at-preserved c =
    let words = c.args.words.now in
    let tools = map (string_bytes {Z = Global}) c.args.tools.now in
    let at = c.loop-at.at in
    let word = c.index-words-at.result in
    let word_is = get_or_read words at word c.loop-at-test.true c.index-words-at.is Output in
    let served = served_is tools words at c.loop-at.operand word c.loop-at.invariant.0 word_is in (
      c.owed-operand.ensures ∙ owed_is tools words at c.loop-at.operand word c.loop-at.invariant.0 word_is,
      none_yet tools words at (sym served ∙ sym c.is_word_served.ensures ∙ c.if-not-is_word_served.false) c.loop-at.invariant.1,
    )
