-- One reading of each command line.
use Rattle.std.proofs.Common.{◌≡◌, ℕ, List, [], ◌∷◌, Bool, true, false, Option, Some, None, Result, Ok, Err, refl, ap, sym, ◌∙◌, inl, inr}
use Rattle.std.specs.Prelude.{◌⊎◌, MatchBool, if◌then◌else◌}
use Rattle.farm_options.specs.declared.name.CommandName.{CommandName}
use Rattle.farm_options.specs.declared.name.CommandName.TheVariants as name
use Rattle.farm_options.specs.declared.name.FirstWord.{FirstWord}
use Rattle.farm_options.specs.declared.name.FirstWord.TheVariants as first
use Rattle.farm_options.specs.Names.{first_word_named}
use Rattle.farm_options.specs.Options.{Given}
use Rattle.farm_options.specs.Commands.{BadAt, IsCommand, Meaning, Build, Watch, Graph, Cc, Hosts, Scan, Help, Version, at_most}
use Rattle.farm_options.specs.Commands.{at_least_one, rehearse_words, with_options, asks_help, NamedCommand, ByFirstWord, WordsRead}
use Rattle.farm_options.proofs.OptionReading.{options_read, all_read, read_once}

-- a command by the words behind its name
abbrev command_words : CommandName → List (List ℕ) → Result Meaning ℕ
command_words name.Build words = with_options Build (options_read name.Build words)
command_words name.Watch words = with_options Watch (options_read name.Watch words)
command_words name.Graph words = with_options Graph (options_read name.Graph words)
command_words name.Cc words = at_least_one (Cc words) words
command_words name.Hosts words = with_options (λ options. Hosts options.hosts) (options_read name.Hosts words)
command_words name.Scan words = at_least_one (Scan words) words
command_words name.Rehearse words = rehearse_words words

abbrev by_first_word : Option FirstWord → List (List ℕ) → Result Meaning ℕ
by_first_word None words = Err 0
by_first_word (Some first.Help) words = at_most 0 (Help None) words
by_first_word (Some first.Version) words = at_most 0 Version words
by_first_word (Some (first.Name name)) words =
    if asks_help name words then at_most 1 (Help (Some name)) words else command_words name words

-- what words mean, computed
abbrev read_words : List (List ℕ) → Result Meaning ℕ
read_words [] = Err 0
read_words (word ∷ words) = by_first_word (first_word_named word) words

named_some : (name : CommandName) (words : List (List ℕ)) → NamedCommand name words (command_words name words)
named_some name.Build words = (options_read name.Build words, all_read name.Build words, refl)
named_some name.Watch words = (options_read name.Watch words, all_read name.Watch words, refl)
named_some name.Graph words = (options_read name.Graph words, all_read name.Graph words, refl)
named_some name.Cc words = refl
named_some name.Hosts words = (options_read name.Hosts words, all_read name.Hosts words, refl)
named_some name.Scan words = refl
named_some name.Rehearse words = refl

named_one : (name : CommandName) (words : List (List ℕ)) (answer : Result Meaning ℕ) → NamedCommand name words answer
    → answer ≡ command_words name words
named_one name.Build words answer read = read.2 ∙ ap (with_options Build) (read_once name.Build words read.0 read.1)
named_one name.Watch words answer read = read.2 ∙ ap (with_options Watch) (read_once name.Watch words read.0 read.1)
named_one name.Graph words answer read = read.2 ∙ ap (with_options Graph) (read_once name.Graph words read.0 read.1)
named_one name.Cc words answer is = is
named_one name.Hosts words answer read =
    read.2 ∙ ap (with_options (λ (options : Given). Hosts options.hosts)) (read_once name.Hosts words read.0 read.1)
named_one name.Scan words answer is = is
named_one name.Rehearse words answer is = is

help_some : (b : Bool) (name : CommandName) (words : List (List ℕ)) (help : Result Meaning ℕ)
    → MatchBool b ((if b then help else command_words name words) ≡ help)
    (NamedCommand name words (if b then help else command_words name words))
help_some true name words help = refl
help_some false name words help = named_some name words

help_one : (b : Bool) (name : CommandName) (words : List (List ℕ)) (help answer : Result Meaning ℕ)
    → MatchBool b (answer ≡ help) (NamedCommand name words answer) → answer ≡ (if b then help else command_words name words)
help_one true name words help answer is = is
help_one false name words help answer read = named_one name words answer read

first_some : (word : Option FirstWord) (words : List (List ℕ)) → ByFirstWord word words (by_first_word word words)
first_some None words = refl
first_some (Some first.Help) words = refl
first_some (Some first.Version) words = refl
first_some (Some (first.Name name)) words = help_some (asks_help name words) name words (at_most 1 (Help (Some name)) words)

first_one : (word : Option FirstWord) (words : List (List ℕ)) (answer : Result Meaning ℕ) → ByFirstWord word words answer
    → answer ≡ by_first_word word words
first_one None words answer is = is
first_one (Some first.Help) words answer is = is
first_one (Some first.Version) words answer is = is
first_one (Some (first.Name name)) words answer read =
    help_one (asks_help name words) name words (at_most 1 (Help (Some name)) words) answer read

-- words are read in one way
read_some : (words : List (List ℕ)) → WordsRead words (read_words words)
read_some [] = refl
read_some (word ∷ words) = first_some (first_word_named word) words

read_one : (words : List (List ℕ)) (answer : Result Meaning ℕ) → WordsRead words answer → answer ≡ read_words words
read_one [] answer is = is
read_one (word ∷ words) answer read = first_one (first_word_named word) words answer read

pub some_reading : (words : List (List ℕ)) → ((meant : Meaning) × IsCommand words meant) ⊎ ((place : ℕ) × BadAt words place)
some_reading words = elim (read_words words) as (λ r. WordsRead words r → ((meant : Meaning) × IsCommand words meant)
    ⊎ ((place : ℕ) × BadAt words place)) [
      | Ok meant ↦ λ is. inl (meant, is)
      | Err place ↦ λ is. inr (place, is)
    ] (read_some words)

pub one_meaning : (words : List (List ℕ)) (one other : Meaning) → IsCommand words one → IsCommand words other → one ≡ other
one_meaning words one other h k = let e : ◌≡◌ {A = Result Meaning ℕ} (Ok one) (Ok other) = read_one words (Ok one) h
    ∙ sym (read_one words (Ok other) k) in cc

pub no_both : (words : List (List ℕ)) (meant : Meaning) (place : ℕ) → IsCommand words meant → BadAt words place → ⊥
no_both words meant place h k = let e : ◌≡◌ {A = Result Meaning ℕ} (Ok meant) (Err place) = read_one words (Ok meant) h
    ∙ sym (read_one words (Err place) k) in cc

pub one_place : (words : List (List ℕ)) (place there : ℕ) → BadAt words place → BadAt words there → place ≡ there
one_place words place there h k = let e : ◌≡◌ {A = Result Meaning ℕ} (Err place) (Err there) = read_one words (Err place) h
    ∙ sym (read_one words (Err there) k) in cc
