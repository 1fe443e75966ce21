-- From what passed over a new link to the entry that its end adds.
use Rattle.std.proofs.Common.{◌≡◌, ℕ, IsTrue, List, [], ◌∷◌, refl, ◌∙◌, ap, subst, ◌++◌}
use Rattle.std.specs.Prelude.{Result, Ok, Err}
use Rattle.farm_types.specs.declared.request.Request.{Request}
use Rattle.farm_types.specs.declared.hosts.Host.{Host}
use Rattle.farm_types.specs.declared.ran.Outcome.{Outcome}
use Rattle.edge_traits.specs.declared.entries.Exchange.{Exchange}
use Rattle.edge_traits.specs.declared.cause.Cause.TheVariants.{Dial, Send, Recv, Truncated, BadReply, Stopped}
use Rattle.edge_traits.specs.Told.{Told, Grew}
use Rattle.edge_traits.specs.Causes.{Still}
use Rattle.edge_traits.specs.Links.{LinkView, IsNew}
use Rattle.edge_traits.specs.Dialers.{hung, IsToldOf}
use Rattle.edge_traits.proofs.ToldLemmas.{Grew-join}
use Rattle.remote_transfer.specs.declared.answers.Stop.{Stop}
use Rattle.remote_transfer.specs.declared.answers.Stop.TheVariants.{Broke, Memory}
use Rattle.remote_transfer.specs.Answers.{answer_of}
use Rattle.remote_transfer.specs.Attempts.{ExchangeIs, EndsBy, Adds, AttemptAdds, DialCause}
use Rattle.remote_transfer.specs.Links.{entry_of, Passed}

-- all that a list tells that had nothing in it
all_told : {old new : Told (List ℕ)} {more : List ℕ} → (IsTrue old.known → old.value ≡ []) → Grew old new more → IsTrue new.known
    → new.value ≡ more
all_told {old = old} {more = more} none grew k = grew.grew k ∙ ap (λ xs. xs ++ more) (none (grew.known k))

module _ (may : List ℕ → List ℕ → Type 0) (old dialed new : Told (List Exchange)) (first last : LinkView)
    (none : Grew old dialed []) (one : Grew dialed new (hung last ∷ [])) (told : IsToldOf may new last) (fresh : IsNew first) where
  -- the entry of which what passed says this
  pub added : (holds : Exchange → Type 0) → Passed first last holds → Adds may old new holds
  added holds passed =
      let is_entry = λ (k : IsTrue new.known). ap (λ s. entry_of last s last.given.value)
      (all_told fresh.sent passed.grew_sent (told.sent k))
      ∙ ap (λ s. entry_of last passed.sent s) (all_told fresh.given passed.grew_given (told.given k)) in
      record {
        entry = entry_of last passed.sent passed.given;
        grew = Grew-join none (record { known = one.known; grew = λ k. one.grew k ∙ ap (λ x. dialed.value ++ x ∷ []) (is_entry k) }) refl;
        is = passed.is;
        may = λ k is_dialed. subst (λ x. may x.sent x.given) (is_entry k) (told.may k);
      }

  pub adds : (q : Request) (h : Host) (talked : Result Outcome Stop)
      → Passed first last (λ x. ExchangeIs q h (answer_of talked) x × EndsBy (answer_of talked) x)
      → AttemptAdds may q h (answer_of talked) old new
  adds q h (Ok outcome) passed = added _ passed
  adds q h (Err (Broke cause)) passed = added _ passed
  adds q h (Err Memory) passed = added _ passed

-- the answer of a link that was made is not a failed dial
pub no_failed_dial : (q : Request) (h : Host) (first last : LinkView) (talked : Result Outcome Stop)
    → Passed first last (λ x. ExchangeIs q h (answer_of talked) x × EndsBy (answer_of talked) x) → (before now : ℕ)
    → Still before now → DialCause (answer_of talked) before now
no_failed_dial q h first last (Ok outcome) passed before now still = still
no_failed_dial q h first last (Err (Broke Dial)) passed before now still = absurd (cc passed.is.0.shown.undialed)
no_failed_dial q h first last (Err (Broke Send)) passed before now still = still
no_failed_dial q h first last (Err (Broke Recv)) passed before now still = still
no_failed_dial q h first last (Err (Broke (Truncated have))) passed before now still = still
no_failed_dial q h first last (Err (Broke (BadReply at fault))) passed before now still = still
no_failed_dial q h first last (Err (Broke Stopped)) passed before now still = still
no_failed_dial q h first last (Err Memory) passed before now still = still
