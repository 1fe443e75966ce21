use Rattle.std.proofs.Common.{◌≡◌, List, ℕ, Err, Ok, sym, ap, subst, ◌∙◌}
use Rattle.std.specs.Prelude.{Result, IfOk}
use Rattle.arg_scan.specs.declared.verdict.Plan.{Plan}
use Rattle.arg_scan.specs.Class.{IsRemote, output_text}
use Rattle.arg_strip.specs.Words.{AsksTheSame, placed_words, stripped}
use Rattle.arg_strip.proofs.Laws.{asks_the_same, placed_again, sent_again, stripped_is_remote}
use Rattle.arg_strip.proofs.sent.strip.Goals as goal

pub strip_to-requires-clause-output : goal.strip_to-requires-clause-output
strip_to-requires-clause-output c =
    c.in_ok-output.ensures ∙ ap (λ (plan : Plan). output_text c.args.words.now plan plan.output) c.remote_plan-plan.ensures.value

-- what holds of the words that are to be sent holds of those that were made
of-sent : {E : Type 0} (words : List (List ℕ)) (result : Result (List (List ℕ)) E) (Holds : List (List ℕ) → Type 0)
    → IfOk result (λ sent. sent ≡ stripped words) → Holds (stripped words) → IfOk result Holds
of-sent words (Ok sent) Holds is holds = subst Holds (sym is) holds
of-sent words (Err fault) Holds is holds = tt

pub returns-clause-remote : goal.returns-clause-remote
returns-clause-remote c =
    of-sent c.args.words.now c.strip_to.result IsRemote c.strip_to.ensures (stripped_is_remote c.args.words.now c.requires)

pub returns-clause-same : goal.returns-clause-same
returns-clause-same c =
    of-sent c.args.words.now c.strip_to.result (AsksTheSame c.args.words.now) c.strip_to.ensures (asks_the_same c.args.words.now c.requires)

pub returns-clause-again : goal.returns-clause-again
returns-clause-again c =
    of-sent c.args.words.now c.strip_to.result (λ sent. stripped sent ≡ sent) c.strip_to.ensures (sent_again c.args.words.now c.requires)

pub returns-clause-placed : goal.returns-clause-placed
returns-clause-placed c =
    of-sent c.args.words.now c.strip_to.result (λ sent. placed_words sent ≡ placed_words c.args.words.now) c.strip_to.ensures
    (placed_again c.args.words.now c.requires)
