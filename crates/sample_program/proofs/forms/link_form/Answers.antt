use Rattle.std.proofs.Common.{◌≡◌, ◌+◌, length, ap, sym, ◌∙◌, arith}
use Rattle.arg_scan.specs.Names.{is_reserved}
use Rattle.sample_program.proofs.FormLemmas.{link_here, none_other}
use Rattle.sample_program.proofs.forms.link_form.Goals as goal

pub returns-then-words-count-ne2 : goal.returns-then-words-count-ne2
returns-then-words-count-ne2 c =
    none_other c.args.words.now c.len_before_output-count.result c.len_before_output-count.ensures.len
    c.len_before_output-count.ensures.within c.if-words-count-ne2.true

pub returns : goal.returns
returns c =
    let many : length c.args.words.now ≡ c.len_before_output-count.result + 2 =
    omega (arith, c.if-words-count-ne2.false, c.len_before_output-count.ensures.within) in
    link_here c.args.words.now c.len_before_output-count.result c.index-words-count.result many c.index-words-count.is
    c.len_before_output-count.ensures.len
    (omega (arith, c.if-count-eq0.false)) c.if-count-gt-LINK_MAX.false
    (ap is_reserved (sym c.as_bytes.ensures.value) ∙ sym c.is_reserved.ensures ∙ c.if-is_reserved.false)
