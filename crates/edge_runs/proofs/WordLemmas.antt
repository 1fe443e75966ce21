-- The first word that stands for the input, word by word.
use Rattle.std.proofs.Common.{◌≡◌, ℕ, zero, suc, ◌+◌, ◌<◌, List, [], ◌∷◌, length, take, slice_index_or, None, Some, refl, add-one, arith}
use Rattle.farm_types.specs.declared.placed.Ext.{Ext}
use Rattle.farm_types.specs.declared.placed.Word.{Word}
use Rattle.farm_types.specs.declared.placed.Word.TheVariants.{Text, Input, Output}
use Rattle.edge_runs.specs.Commands.{first_input}

pub none_in_nothing : first_input [] ≡ None
none_in_nothing = refl

pub first_at : (words : List Word) (at : ℕ) (word : Word) (ext : Ext) → at < length words → word ≡ slice_index_or words at word
    → word ≡ Input ext → first_input (take at words) ≡ None → Some ext ≡ first_input words
first_at [] at word ext within is input none = absurd (omega arith)
first_at (Text bytes ∷ words) zero word ext within is input none = cc
first_at (Input other ∷ words) zero word ext within is input none = cc
first_at (Output ∷ words) zero word ext within is input none = cc
first_at (Text bytes ∷ words) (suc at) word ext within is input none = first_at words at word ext (omega arith) is input none
first_at (Input other ∷ words) (suc at) word ext within is input none = cc
first_at (Output ∷ words) (suc at) word ext within is input none = first_at words at word ext (omega arith) is input none

none_until : (words : List Word) (at : ℕ) (word : Word) → at < length words → word ≡ slice_index_or words at word
    → ((ext : Ext) → word ≡ Input ext → ⊥) → first_input (take at words) ≡ None → first_input (take (suc at) words) ≡ None
none_until [] at word within is other none = absurd (omega arith)
none_until (Text bytes ∷ words) zero word within is other none = refl
none_until (Input ext ∷ words) zero word within is other none = absurd (other ext is)
none_until (Output ∷ words) zero word within is other none = refl
none_until (Text bytes ∷ words) (suc at) word within is other none = none_until words at word (omega arith) is other none
none_until (Input ext ∷ words) (suc at) word within is other none = cc
none_until (Output ∷ words) (suc at) word within is other none = none_until words at word (omega arith) is other none

pub none_through : (words : List Word) (at : ℕ) (word : Word) → at < length words → word ≡ slice_index_or words at word
    → ((ext : Ext) → word ≡ Input ext → ⊥) → first_input (take at words) ≡ None → first_input (take (at + 1) words) ≡ None
none_through words at word within is other none = rw add-one (none_until words at word within is other none)

pub ruleset inputs = (none_in_nothing, first_at, none_through)
