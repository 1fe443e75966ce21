-- One entry after another.
use Rattle.std.proofs.Common.{◌≡◌, ℕ, List, [], ◌∷◌, ◌++◌, refl, sym, ◌∙◌, ap, subst, append_assoc}
use Rattle.std.specs.Prelude.{Result}
use Rattle.std.proofs.lemmas.List.{append-nil}
use Rattle.std.proofs.lemmas.List.Elements.{All-nil, All-push}
use Rattle.farm_types.specs.declared.placed.Word.{Word}
use Rattle.farm_types.specs.declared.ran.Ran.{Ran}
use Rattle.edge_traits.specs.declared.faults.Bounds.{Bounds}
use Rattle.edge_traits.specs.declared.faults.StationFault.{StationFault}
use Rattle.daemon_service.specs.declared.compilers.Compiler.{Compiler}
use Rattle.daemon_worker.specs.declared.log.Entry.{Entry}
use Rattle.daemon_worker.specs.Paths.{MetCalls, Path, DoorPath, PathGrew}

module _ {S : Type 0} (goes : S → List Word → List ℕ → Bounds → Result Ran StationFault → S → Type 0) (table : List Compiler) where
  path_more : (before mid after : S) (entries : List Entry) (entry : Entry) → Path goes table before mid entries
      → MetCalls goes table mid after entry.what → Path goes table before after (entries ++ entry ∷ [])
  path_more before mid after [] entry is calls = (after, subst (λ s. MetCalls goes table s after entry.what) is calls, refl)
  path_more before mid after (x ∷ entries) entry is calls = (is.0, is.1, path_more is.0 mid after entries entry is.2 calls)

  pub nothing_asked : (door : ℕ) (station : S) (log : List Entry) → PathGrew goes table door station station log log
  nothing_asked door station log =
      record { entries = []; is = record { door_is = All-nil (λ e. e.door ≡ door); path = refl }; grew = sym (append-nil log) }

  pub one_asked : (door : ℕ) (before mid after : S) (log_before log_mid log_after : List Entry) (entry : Entry)
      → PathGrew goes table door before mid log_before log_mid → MetCalls goes table mid after entry.what → entry.door ≡ door
      → log_after ≡ log_mid ++ entry ∷ [] → PathGrew goes table door before after log_before log_after
  one_asked door before mid after log_before log_mid log_after entry so_far calls is added = record {
    entries = so_far.entries ++ entry ∷ [];
    is = record {
      door_is = All-push (λ e. e.door ≡ door) so_far.entries entry so_far.is.door_is is;
      path = path_more before mid after so_far.entries entry so_far.is.path calls;
    };
    grew = added ∙ ap (λ l. l ++ entry ∷ []) so_far.grew ∙ append_assoc log_before so_far.entries (entry ∷ []);
  }

  -- a log that was empty has the entries alone
  pub asked_from_empty : (door : ℕ) (before after : S) (log_before log_after : List Entry) → log_before ≡ []
      → PathGrew goes table door before after log_before log_after → DoorPath goes table door before after log_after
  asked_from_empty door before after log_before log_after empty grew =
      let is : grew.entries ≡ log_after = sym (grew.grew ∙ ap (λ l. l ++ grew.entries) empty) in
      subst (λ l. DoorPath goes table door before after l) is grew.is
