-- What an entry that is of a run's words and input may answer to it.
use Rattle.std.proofs.Common.{◌≡◌, ℕ, List, true, sym, subst}
use Rattle.farm_types.specs.declared.placed.Word.{Word}
use Rattle.farm_types.specs.declared.ran.Ran.{Ran}
use Rattle.edge_traits.specs.declared.faults.Bounds.{Bounds}
use Rattle.edge_traits.specs.Stations.{IsWithin}
use Rattle.edge_traits.specs.Told.{SameRelation3}
use Rattle.object_cache.specs.Entries.{Entry, is_of}
use Rattle.object_cache.proofs.Comparing.{is_of-same}
use Rattle.shared_cache.specs.Shared.{MayBeKept, IsAnswer}

pub may_answer : (may : List Word → List ℕ → Ran → Type 0) (bounds : Bounds) (words : List Word) (input : List ℕ) (held now : Entry)
    (copy : Ran) → held ≡ now → is_of words input now ≡ true → IsWithin bounds held.ran
    → MayBeKept may held.words held.input held.ran → copy ≡ held.ran → IsAnswer may bounds words input copy
may_answer may bounds words input held now copy view same within kept is =
    let of = is_of-same words input held (subst (λ entry. is_of words input entry ≡ true) (sym view) same) in
    subst (IsAnswer may bounds words input) (sym is) (record {
      within = within;
      kept = subst (λ i. MayBeKept may words i held.ran) of.input_is (subst (λ w. MayBeKept may w held.input held.ran) of.words_are kept);
    })

-- what one relation allows, another allows that is the same
pub alike_answer : (one other : List Word → List ℕ → Ran → Type 0) (bounds : Bounds) (words : List Word) (input : List ℕ) (ran : Ran)
    → SameRelation3 other one → IsAnswer one bounds words input ran → IsAnswer other bounds words input ran
alike_answer one other bounds words input ran same is =
    record { within = is.within; kept = record { left = same.back _ _ _ is.kept.left; well = is.kept.well } }
