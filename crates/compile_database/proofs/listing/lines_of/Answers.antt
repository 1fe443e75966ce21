use Rattle.std.proofs.Common.{◌++◌, ◌∷◌, [], ap, sym, subst, ◌∙◌}
use Rattle.std.specs.Prelude.{All}
use Rattle.farm_types.specs.Bytes.{line_feed}
use Rattle.job_list.specs.Prints.{AreJobWords}
use Rattle.compile_database.proofs.LineLemmas.{next_text, whole_text}
use Rattle.compile_database.proofs.listing.lines_of.Goals as goal

pub each-preserved : goal.each-preserved
each-preserved c =
    next_text c.each.list c.try_push.new.self c.as_slice-words-items.result.now c.each.words-index c.words-item.result
    c.in_ok-print_words.field-0
    c.each-test.true
    (subst (λ jobs. All AreJobWords jobs) (sym c.as_slice-words-items.ensures) c.requires)
    c.words-item.is
    c.in_ok-print_words.ensures.one
    c.in_ok-print_words.ensures.job
    c.each.invariant
    (c.in_ok-try_push.ensures.ok
    ∙ ap (λ t. t ++ line_feed ∷ []) (c.in_ok-try_extend.ensures.ok ∙ ap (λ t. c.each.list ++ t) c.as_slice.ensures))

pub returns : goal.returns
returns c = whole_text c.each.list c.as_slice-words-items.result.now c.args.jobs.now c.each.words-index c.each-test.false
    c.as_slice-words-items.ensures c.each.invariant
