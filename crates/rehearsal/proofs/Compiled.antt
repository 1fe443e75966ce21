-- A job whose source was preprocessed here ends by a host, or by a compile here.
use Rattle.std.proofs.Common.{◌≡◌, ◌⊎◌, inl, inr, ℕ, ◌+◌, Bool, true, false, ◌&&◌, cond, List, [], ◌∷◌, length, nat_eq, nat_lt, refl, ap}
use Rattle.std.proofs.Common.{◌∙◌}
use Rattle.farm_types.specs.declared.ran.Outcome.{Outcome}
use Rattle.edge_traits.specs.declared.cause.Cause.{Cause}
use Rattle.edge_traits.specs.Deeds.{ran, exchanged, put}
use Rattle.farm_machine.specs.declared.reports.By.{By}
use Rattle.farm_machine.specs.declared.reports.By.TheVariants.{Remote, Here}
use Rattle.farm_machine.specs.declared.reports.Why5.TheVariants.{Station, Put as NotPut, Broke, Memory}
use Rattle.farm_machine.specs.declared.reports.End.{End}
use Rattle.farm_machine.specs.declared.reports.End.TheVariants.{Done, Failed}
use Rattle.farm_machine.specs.Acts.{Takes, Gives, GivesBad, FindsDown, TakesLocal, GivesLocal, Act, Did, Met}
use Rattle.farm_machine.specs.Jobs.{Job}
use Rattle.farm_machine.specs.Course.{At, Start, LentInPlace, RanInPlace, Send, Lent, RanThere, Sent, Locally, LentHere, RanHere, Finish}
use Rattle.farm_machine.specs.Course.{Over, outcome_of, or_here, after_broken, after_whole, Tried, tried_too, no_host, Next, Ends, From}

-- a host or this machine compiled
abbrev pub compiles : By → Bool
compiles (Remote host) = true
compiles Here = true
compiles other = false

abbrev pub is_compiled : End → Bool
is_compiled (Done status note err out by) = compiles by
is_compiled (Failed why) = true

-- the source is preprocessed, and the end, where this is one, is by a compile
abbrev pub has_source : At → Bool
has_source Start = false
has_source LentInPlace = false
has_source (RanInPlace r) = false
has_source (Finish by note o) = compiles by
has_source (Over end) = is_compiled end
has_source at = true

as-at : (c d : At) → c ≡ d → has_source d ≡ true → has_source c ≡ true
as-at c d e has = ap has_source e ∙ has

one-of : (c a b : At) → (c ≡ a) ⊎ (c ≡ b) → has_source a ≡ true → has_source b ≡ true → has_source c ≡ true
one-of c a b (inl e) has has' = as-at c a e has
one-of c a b (inr e) has has' = as-at c b e has'

module _ (j : Job) where
  at-or_here : (source note : List ℕ) (end : End) → is_compiled end ≡ true → has_source (or_here j source note end) ≡ true
  at-or_here source note end by = go j.config.fallback
    where
      go : (b : Bool) → has_source (cond b (Locally source note) (Over end)) ≡ true
      go true = refl
      go false = by

  at-broken : (host : ℕ) (cause : Cause) (source note : List ℕ) (tried : List Tried)
      → has_source (after_broken j host cause source note tried) ≡ true
  at-broken host cause source note tried = go (nat_lt (length tried + 1) j.config.tries)
    where
      go : (b : Bool) → has_source
          (cond b (Send source note (tried_too host cause tried)) (or_here j source note (Failed (Broke host cause)))) ≡ true
      go true = refl
      go false = at-or_here source note (Failed (Broke host cause)) refl

  at-whole : (host : ℕ) (source note : List ℕ) (o : Outcome) → has_source (after_whole j host source note o) ≡ true
  at-whole host source note o = go (nat_eq o.status 0) (j.config.fallback && j.config.retry)
    where
      go : (a b : Bool) → has_source
          (cond a (Finish (Remote host) note o) (cond b (Locally source note) (Over (Done o.status note o.err o.out (Remote host))))) ≡ true
      go true b = refl
      go false true = refl
      go false false = refl

  at-next : (at c : At) (a : Act) → has_source at ≡ true → Next j at a c → has_source c ≡ true
  at-next Start c a has h = absurd (cc)
  at-next LentInPlace c a has h = absurd (cc)
  at-next (RanInPlace r) c a has h = absurd (cc)
  at-next (Send source note tried) c (Met FindsDown) has h =
      as-at c (or_here j source note (Failed (no_host tried))) h.1 (at-or_here source note (Failed (no_host tried)) refl)
  at-next (Send source note tried) c (Met (Takes host)) has h = as-at c (Lent host source note tried) h.3 refl
  at-next (Send source note tried) c (Met TakesLocal) has h = as-at c (LentHere source note) h.1 refl
  at-next (Lent host source note tried) c (Did (ran x)) has h = as-at c (RanThere host note x.ran) h.2 refl
  at-next (Lent host source note tried) c (Did (exchanged x)) has h = as-at c (Sent host source note tried x) h.2 refl
  at-next (Lent host source note tried) c (Met (Gives i)) has h =
      elim h.1 [ inl e ↦ as-at c (Over (Failed Station)) e.1 refl | inr e ↦ as-at c (Over (Failed Memory)) e refl ]
  at-next (RanThere host note r) c (Met (Gives i)) has h = one-of c (Finish Here note (outcome_of r)) (Over (Failed Memory)) h.1 refl refl
  at-next (Sent host source note tried x) c (Met (Gives i)) has h =
      elim h.1 [
        | inl w ↦ as-at c (after_whole j host source note w.0) w.2 (at-whole host source note w.0)
        | inr other ↦ elim other [
          | inl b ↦ as-at c (after_broken j host b.0 source note tried) b.3 (at-broken host b.0 source note tried)
          | inr e ↦ as-at c (Over (Failed Memory)) e refl
        ]
      ]
  at-next (Sent host source note tried x) c (Met (GivesBad i until)) has h =
      as-at c (after_broken j host h.2.0 source note tried) h.2.4 (at-broken host h.2.0 source note tried)
  at-next (Locally source note) c (Met TakesLocal) has h = as-at c (LentHere source note) h refl
  at-next (LentHere source note) c (Did (ran x)) has h = as-at c (RanHere note x.ran) h.1 refl
  at-next (LentHere source note) c (Met GivesLocal) has h = one-of c (Over (Failed Station)) (Over (Failed Memory)) h refl refl
  at-next (RanHere note r) c (Met GivesLocal) has h = one-of c (Finish Here note (outcome_of r)) (Over (Failed Memory)) h refl refl
  at-next (Finish by note o) c (Did (put x)) has h = as-at c (Over (Done 0 note o.err o.out by)) h.3 has
  at-next at c a has h = absurd h

  as-end : (end other : End) → end ≡ other → is_compiled other ≡ true → is_compiled end ≡ true
  as-end end other e by = ap is_compiled e ∙ by

  at-end : (at : At) (end : End) → has_source at ≡ true → Ends j at end → is_compiled end ≡ true
  at-end Start end has h = absurd (cc)
  at-end (Send source note tried) end has h = as-end end (Failed Memory) h refl
  at-end (Locally source note) end has h = as-end end (Failed Memory) h refl
  at-end (Finish by note o) end has h =
      elim h [
        | inl zero_ ↦ elim zero_.1 [ inl e ↦ as-end end (Failed Memory) e refl | inr e ↦ as-end end (Failed NotPut) e refl ]
        | inr done ↦ as-end end (Done o.status note o.err o.out by) done.1 has
      ]
  at-end (Over e) end has h = as-end end e h has
  at-end at end has h = absurd h

  pub compiled-from : (acts : List Act) (at : At) (end : End) → has_source at ≡ true → From j at acts end → is_compiled end ≡ true
  compiled-from [] at end has ends = at-end at end has ends
  compiled-from (a ∷ acts) at end has (c, next, from) = compiled-from acts c end (at-next at c a has next) from
