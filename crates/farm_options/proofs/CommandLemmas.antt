-- The words of a command line, by the first and the others.
use Rattle.std.proofs.Common.{◌≡◌, ℕ, suc, List, [], ◌∷◌, length, map, false, Result, Ok, Err, MatchResult, refl, ap, sym, ◌∙◌, subst}
use Rattle.std.proofs.lemmas.List.{length-map}
use Rattle.farm_options.specs.declared.name.CommandName.{CommandName}
use Rattle.farm_options.specs.declared.command.Command.{Command}
use Rattle.farm_options.specs.Numbers.{jobs_number}
use Rattle.farm_options.specs.Names.{first_word_named}
use Rattle.farm_options.specs.Commands.{Meaning, meaning, command_meant, counted, rehearse_words, is_help_first, asks_help, ByFirstWord}
use Rattle.farm_options.specs.Commands.{WordsRead, IsCommand, BadAt}

-- what an answer means is its place in the contract
pub answers : (result : Result Command ℕ) (words : List (List ℕ)) → WordsRead words (command_meant result)
    → MatchResult result (λ command. IsCommand words (meaning command)) (BadAt words)
answers (Ok command) words is = is
answers (Err place) words is = is

module _ {X : Type 0} (f : X → List ℕ) where
  pub nothing_first : (words : List X) → length words ≡ 0 → WordsRead (map f words) (Err 0)
  nothing_first [] none = refl
  nothing_first (word ∷ words) none = absurd (let e : suc (length words) ≡ 0 = none in cc)

  pub nothing_counted : (words : List X) → length words ≡ 0 → Err 1 ≡ rehearse_words (map f words)
  nothing_counted [] none = refl
  nothing_counted (word ∷ words) none = absurd (let e : suc (length words) ≡ 0 = none in cc)

  pub nothing_asked : (name : CommandName) (words : List X) → length words ≡ 0 → false ≡ asks_help name (map f words)
  nothing_asked name [] none = refl
  nothing_asked name (word ∷ words) none = absurd (let e : suc (length words) ≡ 0 = none in cc)

  module _ (words : List X) (word : X) (more : List X) (text : List ℕ) (are : words ≡ word ∷ more) (spelled : text ≡ f word) where
    pub first_read : (answer : Result Meaning ℕ) → ByFirstWord (first_word_named text) (map f more) answer → WordsRead (map f words) answer
    first_read answer read =
        subst (λ (ws : List X). WordsRead (map f ws) answer) (sym are)
        (subst (λ t. ByFirstWord (first_word_named t) (map f more) answer) spelled read)

    pub first_counted : counted (jobs_number text) (map f words) ≡ rehearse_words (map f words)
    first_counted =
        ap (λ t. counted (jobs_number t) (map f words)) spelled
        ∙ subst (λ (ws : List X). counted (jobs_number (f word)) (map f ws) ≡ rehearse_words (map f ws)) (sym are) refl

    pub first_asked : (name : CommandName) → is_help_first name text (length more) ≡ asks_help name (map f words)
    first_asked name =
        ap (λ t. is_help_first name t (length more)) spelled ∙ ap (λ n. is_help_first name (f word) n) (sym (length-map more f))
        ∙ ap (λ ws. asks_help name (map f ws)) (sym are)
