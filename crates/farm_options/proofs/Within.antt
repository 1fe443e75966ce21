-- What the words of a command say is within its limits.
use Rattle.std.proofs.Common.{◌≡◌, ◌≤◌, ℕ, Bool, true, false, List, [], ◌∷◌, length, Option, Some, None, Result, Ok, Err, nat_le, refl}
use Rattle.std.proofs.Common.{sym, subst, arith}
use Rattle.std.specs.Prelude.{unwrap_or, ◌==◌, if◌then◌else◌, MatchBool}
use Rattle.std.specs.Option.{option_and_then}
use Rattle.farm_types.proofs.DecimalLemmas.{decimal-within}
use Rattle.farm_types.specs.Decimals.{decimal_of}
use Rattle.farm_types.specs.Limits.{workers_max, workers_default, jobs_max, lines_max}
use Rattle.farm_options.specs.declared.name.CommandName.{CommandName}
use Rattle.farm_options.specs.declared.name.CommandName.TheVariants as name
use Rattle.farm_options.specs.declared.name.FirstWord.{FirstWord}
use Rattle.farm_options.specs.declared.name.FirstWord.TheVariants as first
use Rattle.farm_options.specs.declared.name.OptionName.TheVariants as option
use Rattle.farm_options.specs.Limits.{count_digits, tries_digits, tries_max, tries_default, lines_default}
use Rattle.farm_options.specs.Numbers.{jobs_number}
use Rattle.farm_options.specs.Commands.{Meaning, Cc, Scan, Rehearse, Help, Version, IsCommand, ByFirstWord, NamedCommand, asks_help}
use Rattle.farm_options.specs.Commands.{at_most, counted, rehearse_words}
use Rattle.farm_options.specs.Options.{given_by}
use Rattle.farm_options.specs.Names.{first_word_named, option_text}
use Rattle.option_reader.specs.Items.{Item, value_in}
use Rattle.farm_options.specs.Within.{AreWithin, IsWithin}

-- a value that isn't there stands for its default
within-or : (digits greatest default : ℕ) (o : Option (List ℕ)) → (1 ≤ default) × (default ≤ greatest)
    → (1 ≤ unwrap_or (option_and_then (decimal_of digits 1 greatest) o) default)
    × (unwrap_or (option_and_then (decimal_of digits 1 greatest) o) default ≤ greatest)
within-or digits greatest default None known = known
within-or digits greatest default (Some word) known = go (decimal_of digits 1 greatest word) refl
  where
    go : (o : Option ℕ) → decimal_of digits 1 greatest word ≡ o → (1 ≤ unwrap_or o default) × (unwrap_or o default ≤ greatest)
    go None is = known
    go (Some m) is = decimal-within digits 1 greatest word m is

items-within : (items : List Item) → AreWithin (given_by items)
items-within items = record {
  some_workers =
      (within-or count_digits workers_max workers_default (value_in (option_text option.Workers) items) (omega arith, omega arith)).0;
  some_tries = (within-or tries_digits tries_max tries_default (value_in (option_text option.Tries) items) (omega arith, omega arith)).0;
  most_tries = (within-or tries_digits tries_max tries_default (value_in (option_text option.Tries) items) (omega arith, omega arith)).1;
  some_lines = (within-or count_digits lines_max lines_default (value_in (option_text option.Lines) items) (omega arith, omega arith)).0;
  most_lines = (within-or count_digits lines_max lines_default (value_in (option_text option.Lines) items) (omega arith, omega arith)).1;
}

abbrev ResultWithin : Result Meaning ℕ → Type 0
ResultWithin (Ok meant) = IsWithin meant
ResultWithin (Err place) = Unit {0}

either : (b : Bool) (meant : Meaning) (place : ℕ) → IsWithin meant → ResultWithin (if b then Ok meant else Err place)
either true meant place within = within
either false meant place within = tt

some-words : (words : List (List ℕ)) (b : Bool) → (length words == 0) ≡ b → ResultWithin (if b then Err 1 else Ok (Cc words))
some-words words true is = tt
some-words [] false is = absurd (grind (arith, is))
some-words (word ∷ words) false is = omega arith

any-words : (meant : Meaning) (b : Bool) → IsWithin meant → ResultWithin (if b then Err 1 else Ok meant)
any-words meant true within = tt
any-words meant false within = within

rehearsed : (words : List (List ℕ)) → ResultWithin (rehearse_words words)
rehearsed [] = tt
rehearsed (word ∷ words) = go (jobs_number word) refl
  where
    go : (o : Option ℕ) → jobs_number word ≡ o → ResultWithin (counted o (word ∷ words))
    go None is = tt
    go (Some jobs) is = let few = decimal-within count_digits 1 jobs_max word jobs is in
        either (nat_le (length (word ∷ words)) 1) (Rehearse jobs) 2 (record { some = few.0; most = few.1 })

named : (command : CommandName) (words : List (List ℕ)) (answer : Result Meaning ℕ) → NamedCommand command words answer
    → ResultWithin answer
named name.Build words answer (Ok says, read, is) = subst ResultWithin (sym is) (subst AreWithin (sym read.2) (items-within read.0))
named name.Build words answer (Err place, read, is) = subst ResultWithin (sym is) tt
named name.Watch words answer (Ok says, read, is) = subst ResultWithin (sym is) (subst AreWithin (sym read.2) (items-within read.0))
named name.Watch words answer (Err place, read, is) = subst ResultWithin (sym is) tt
named name.Graph words answer (Ok says, read, is) = subst ResultWithin (sym is) (subst AreWithin (sym read.2) (items-within read.0))
named name.Graph words answer (Err place, read, is) = subst ResultWithin (sym is) tt
named name.Cc words answer is = subst ResultWithin (sym is) (some-words words (length words == 0) refl)
named name.Hosts words answer (Ok says, read, is) = subst ResultWithin (sym is) tt
named name.Hosts words answer (Err place, read, is) = subst ResultWithin (sym is) tt
named name.Scan words answer is = subst ResultWithin (sym is) (any-words (Scan words) (length words == 0) tt)
named name.Rehearse words answer is = subst ResultWithin (sym is) (rehearsed words)

by-first : (o : Option FirstWord) (words : List (List ℕ)) (answer : Result Meaning ℕ) → ByFirstWord o words answer → ResultWithin answer
by-first None words answer is = subst ResultWithin (sym is) tt
by-first (Some first.Help) words answer is = subst ResultWithin (sym is) (either (nat_le (length words) 0) (Help None) 1 tt)
by-first (Some first.Version) words answer is = subst ResultWithin (sym is) (either (nat_le (length words) 0) Version 1 tt)
by-first (Some (first.Name command)) words answer read = go (asks_help command words) read
  where
    go : (b : Bool) → MatchBool b (answer ≡ at_most 1 (Help (Some command)) words) (NamedCommand command words answer) → ResultWithin answer
    go true is = subst ResultWithin (sym is) (either (nat_le (length words) 1) (Help (Some command)) 2 tt)
    go false is = named command words answer is

pub command-within : (words : List (List ℕ)) (meant : Meaning) → IsCommand words meant → IsWithin meant
command-within [] meant is = absurd (grind (arith, is))
command-within (word ∷ words) meant read = by-first (first_word_named word) words (Ok meant) read
