use Rattle.std.proofs.Common.{ℕ, List, length, refl, ap, ◌∙◌}
use Rattle.farm_types.specs.declared.placed.Word.TheVariants.{Text, Output}
use Rattle.arg_scan.specs.Roles.{part_at, word_at}
use Rattle.arg_strip.specs.Words.{gather, placed_word}
use Rattle.arg_strip.proofs.Gathered.{two_more}
use Rattle.arg_strip.proofs.placing.placed.Goals as goal

pub returns : goal.returns
returns c =
    two_more c.in_ok-placed.placed _ c.try_push.new.self c.try_push-2.new.self (Text c.in_ok-from_slice.field-0) _ Output Output
    (c.in_ok-placed.ensures ∙ ap
    (λ (words : List (List ℕ)). gather (λ at. placed_word (part_at words at) (word_at words at)) (length words)) c.as_slice.ensures)
    (ap Text c.in_ok-from_slice.ensures) refl c.in_ok-try_push.ensures.ok c.in_ok-try_push-2.ensures.ok
