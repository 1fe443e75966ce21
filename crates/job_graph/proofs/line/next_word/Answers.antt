use Rattle.std.proofs.Common.{◌≡◌, ◌≤◌, false, length, get_or, sym, ◌∙◌, arith}
use Rattle.farm_types.specs.Bytes.{is_blank}
use Rattle.job_graph.proofs.Words.{words_cut}
use Rattle.job_graph.proofs.line.next_word.Goals as goal

pub returns-then-not-is_blank-clause-word : goal.returns-then-not-is_blank-clause-word
returns-then-not-is_blank-clause-word c =
    let some : 1 ≤ length c.seeking.rest.now = omega arith in
    let first : is_blank (get_or c.seeking.rest.now 0 0) ≡ false = sym c.is_blank.ensures ∙ c.if-not-is_blank.true in
    c.seeking.invariant.same ∙ words_cut c.seeking.rest.now c.word_end-end.result some first c.word_end-end.ensures.high
    c.word_end-end.ensures.word c.word_end-end.ensures.ends
