-- Stations whose programs may leave the same run alike.
use Rattle.std.proofs.Common.{ℕ, List, [], ◌∷◌}
use Rattle.std.specs.Prelude.{All}
use Rattle.std.proofs.lemmas.List.Elements.{All-nil, All-cons}
use Rattle.farm_types.specs.declared.placed.Word.{Word}
use Rattle.farm_types.specs.declared.ran.Ran.{Ran}
use Rattle.edge_traits.specs.Told.{SameRelation3}
use Rattle.daemon_worker.specs.declared.log.DoorKit.{DoorKit}
use Rattle.daemon_program.specs.Sharing.{first_ran, RunAlike}

abbrev MayLeave : Type 1
MayLeave = List Word → List ℕ → Ran → Type 0

same_through : (one other middle : MayLeave) → SameRelation3 one middle → SameRelation3 other middle → SameRelation3 one other
same_through one other middle p q = record {
  kept = λ words input left h. q.back words input left (p.kept words input left h);
  back = λ words input left h. p.back words input left (q.kept words input left h);
}

module _ {A S : Type 0} (ran : S → List Word → List ℕ → Ran → Type 0) (may : List Word → List ℕ → Ran → Type 0)
    (same : (station : S) → SameRelation3 (ran station) may) where
  each : (one : S) (kits : List (DoorKit A S)) → All (λ kit. SameRelation3 (ran kit.station) (ran one)) kits
  each one [] = All-nil (λ kit. SameRelation3 (ran kit.station) (ran one))
  each one (kit ∷ kits) =
      All-cons (λ kit. SameRelation3 (ran kit.station) (ran one)) kit kits
      (same_through (ran kit.station) (ran one) may (same kit.station) (same one)) (each one kits)

  pub alike : (kits : List (DoorKit A S)) → RunAlike ran kits
  alike [] = All-nil (λ kit. SameRelation3 (ran kit.station) (first_ran {A = A} ran []))
  alike (kit ∷ kits) = each kit.station (kit ∷ kits)

-- stations whose programs may leave this, whatever the station
pub alike_always : {A S : Type 0} (may : List Word → List ℕ → Ran → Type 0) (kits : List (DoorKit A S)) → RunAlike (λ station. may) kits
alike_always may kits = alike (λ station. may) may (λ station. record {
  kept = λ words input left h. h;
  back = λ words input left h. h;
}) kits
