use Rattle.std.proofs.Common.{◌≡◌, ℕ, List, map, ap, subst, ◌∙◌, lit<, eqb, arith, Bor}
use Rattle.std.specs.Prelude.{IfOk}
use Rattle.std.specs.List.{slice_split}
use Rattle.std.proofs.lemmas.List.{take_all}
use Rattle.std.proofs.lemmas.Iterator.Consumers.{map_from_collect}
use Rattle.std.proofs.lemmas.Iterator.Splits.{YieldsList-from_str_split}
use Rattle.word_tests.proofs.lines.words_of.Goals as goal

abbrev texts : List (Bor (List ℕ)) → List (List ℕ)
texts parts = map (λ part. part.now) parts

pub returns : goal.returns
returns c =
    let line = c.args.line.now in
    let items = c.as_slice-part-items.result.now in
    let cut = c.split.ensures in
    let parts : IfOk c.collect.result (λ parts. texts parts.items ≡ slice_split (λ b. eqb b 32) line) =
    map_from_collect _ c.collect.ensures.ran (YieldsList-from_str_split 32 line (lit< tt) cut.text cut.has_more cut.pattern) in
    c.loop-part.invariant
    ∙ ap texts (take_all c.loop-part.part-index items (omega (arith, c.loop-part-test.false)) ∙ c.as_slice-part-items.ensures.value)
    ∙ subst (λ r. IfOk r (λ parts. texts parts.items ≡ slice_split (λ b. eqb b 32) line)) c.in_ok-parts.was parts
