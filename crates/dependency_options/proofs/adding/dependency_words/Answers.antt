use Rattle.std.proofs.Common.{◌≡◌, ◌++◌, ℕ, List, [], append-nil, refl, sym, ◌∙◌, ap, subst}
use Rattle.arg_scan.specs.Class.{IsRemote, class_of}
use Rattle.arg_strip.specs.Words.{placed_words, preprocessing_words, stripped}
use Rattle.dependency_options.specs.Words.{added_words, with_dependencies}
use Rattle.dependency_options.proofs.Laws.{laws}
use Rattle.dependency_options.proofs.adding.dependency_words.Goals as goal

pub returns-clause-words : goal.returns-clause-words
returns-clause-words c =
    c.in_ok-try_extend.ensures.ok
    ∙ ap (λ (l : List (List ℕ)). l ++ c.in_ok-added.added) c.in_ok-all.ensures
    ∙ ap (λ (l : List (List ℕ)). c.args.words.now ++ l) c.in_ok-added.ensures

pub returns-clause-class : goal.returns-clause-class
returns-clause-class c = ap class_of (returns-clause-words c) ∙ (laws c.args.words.now c.requires.remote).class

pub returns-clause-sent : goal.returns-clause-sent
returns-clause-sent c = ap stripped (returns-clause-words c) ∙ (laws c.args.words.now c.requires.remote).sent

pub returns-clause-placed : goal.returns-clause-placed
returns-clause-placed c = ap placed_words (returns-clause-words c) ∙ (laws c.args.words.now c.requires.remote).placed

pub returns-clause-preprocessing : goal.returns-clause-preprocessing
returns-clause-preprocessing c = ap preprocessing_words (returns-clause-words c) ∙ (laws c.args.words.now c.requires.remote).preprocessing

pub returns-clause-unchanged : goal.returns-clause-unchanged
returns-clause-unchanged c none =
    returns-clause-words c ∙ ap (λ (l : List (List ℕ)). c.args.words.now ++ l) none ∙ append-nil c.args.words.now

pub returns-clause-remote : goal.returns-clause-remote
returns-clause-remote c = subst IsRemote (sym (returns-clause-words c)) (laws c.args.words.now c.requires.remote).remote

pub returns-clause-again : goal.returns-clause-again
returns-clause-again c = ap added_words (returns-clause-words c) ∙ (laws c.args.words.now c.requires.remote).again
