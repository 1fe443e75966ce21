-- With fallback on no job fails for a host.
use Rattle.std.proofs.Common.{◌≡◌, ◌⊎◌, inl, inr, ℕ, ◌+◌, Bool, true, false, ◌&&◌, cond, List, [], ◌∷◌, length, nat_eq, nat_lt, refl, ap}
use Rattle.std.proofs.Common.{◌∙◌}
use Rattle.farm_types.specs.declared.ran.Ran.{Ran}
use Rattle.farm_types.specs.declared.ran.Outcome.{Outcome}
use Rattle.edge_traits.specs.declared.cause.Cause.{Cause}
use Rattle.edge_traits.specs.Deeds.{ran, fetched, exchanged, put}
use Rattle.farm_machine.specs.declared.reports.By.TheVariants.{Cpp, Remote, Here, InPlace}
use Rattle.farm_machine.specs.declared.reports.Why5.TheVariants.{Station, Put as NotPut, Broke, Memory, Fetch}
use Rattle.farm_machine.specs.declared.reports.End.{End}
use Rattle.farm_machine.specs.declared.reports.End.TheVariants.{Done, Failed}
use Rattle.farm_machine.specs.Acts.{Takes, Gives, GivesBad, FindsDown, TakesLocal, GivesLocal, Act, Did, Met}
use Rattle.farm_machine.specs.Jobs.{Job}
use Rattle.farm_machine.specs.Course.{At, Start, LentInPlace, RanInPlace, Send, Lent, RanThere, Sent, Locally, LentHere, RanHere, Finish}
use Rattle.farm_machine.specs.Course.{Over, outcome_of, after_preprocessor, or_here, after_broken, after_whole, Tried, tried_too, no_host}
use Rattle.farm_machine.specs.Course.{Next, Ends, From}
use Rattle.course_laws.specs.Laws.{FallbackLaw, is_own_end}

-- no host is the cause of the end, where this is one
abbrev pub is_own : At → Bool
is_own (Over end) = is_own_end end
is_own at = true

own-at : (c d : At) → c ≡ d → is_own d ≡ true → is_own c ≡ true
own-at c d e own = ap is_own e ∙ own

one-of : (c a b : At) → (c ≡ a) ⊎ (c ≡ b) → is_own a ≡ true → is_own b ≡ true → is_own c ≡ true
one-of c a b (inl e) own own' = own-at c a e own
one-of c a b (inr e) own own' = own-at c b e own'

own-preprocessed : (r : Ran) → is_own (after_preprocessor r) ≡ true
own-preprocessed r = go (nat_eq r.status 0)
  where
    go : (b : Bool) → is_own (cond b (Send r.out r.err []) (Over (Done r.status [] r.err [] Cpp))) ≡ true
    go true = refl
    go false = refl

own-as : (end other : End) → end ≡ other → is_own_end other ≡ true → is_own_end end ≡ true
own-as end other e own = ap is_own_end e ∙ own

pub own-end : (j : Job) (at : At) (end : End) → Ends j at end → is_own at ≡ true → is_own_end end ≡ true
own-end j Start end h own =
    elim h [
      | inl e ↦ own-as end (Failed Memory) e refl
      | inr other ↦ elim other [ inl f ↦ own-as end (Failed Fetch) f.2 refl | inr s ↦ own-as end (Failed Station) s.2 refl ]
    ]
own-end j (Send source note tried) end h own = own-as end (Failed Memory) h refl
own-end j (Locally source note) end h own = own-as end (Failed Memory) h refl
own-end j (Finish by note o) end h own =
    elim h [
      | inl zero_ ↦ elim zero_.1 [ inl e ↦ own-as end (Failed Memory) e refl | inr e ↦ own-as end (Failed NotPut) e refl ]
      | inr done ↦ own-as end (Done o.status note o.err o.out by) done.1 refl
    ]
own-end j (Over e) end h own = own-as end e h own
own-end j at end h own = absurd h

module _ (j : Job) (fallback : j.config.fallback ≡ true) where
  own-or_here : (source note : List ℕ) (end : End) → is_own (or_here j source note end) ≡ true
  own-or_here source note end = ap (λ (b : Bool). is_own (cond b (Locally source note) (Over end))) fallback

  own-broken : (host : ℕ) (cause : Cause) (source note : List ℕ) (tried : List Tried)
      → is_own (after_broken j host cause source note tried) ≡ true
  own-broken host cause source note tried = go (nat_lt (length tried + 1) j.config.tries)
    where
      go : (b : Bool) → is_own (cond b (Send source note (tried_too host cause tried))
          (or_here j source note (Failed (Broke host cause)))) ≡ true
      go true = refl
      go false = own-or_here source note (Failed (Broke host cause))

  own-whole : (host : ℕ) (source note : List ℕ) (o : Outcome) → is_own (after_whole j host source note o) ≡ true
  own-whole host source note o = go (nat_eq o.status 0) (j.config.fallback && j.config.retry)
    where
      go : (a b : Bool) → is_own
          (cond a (Finish (Remote host) note o) (cond b (Locally source note) (Over (Done o.status note o.err o.out (Remote host))))) ≡ true
      go true b = refl
      go false true = refl
      go false false = refl

  own-next : (at c : At) (a : Act) → Next j at a c → is_own c ≡ true
  own-next Start c (Met TakesLocal) h = own-at c LentInPlace h.1 refl
  own-next Start c (Did (fetched x)) h = own-at c (Send x.bytes [] []) h.3 refl
  own-next Start c (Did (ran x)) h = own-at c (after_preprocessor x.ran) h.3 (own-preprocessed x.ran)
  own-next LentInPlace c (Did (ran x)) h = own-at c (RanInPlace x.ran) h.1 refl
  own-next LentInPlace c (Met GivesLocal) h = one-of c (Over (Failed Station)) (Over (Failed Memory)) h refl refl
  own-next (RanInPlace r) c (Met GivesLocal) h = one-of c (Over (Done r.status [] r.err r.out InPlace)) (Over (Failed Memory)) h refl refl
  own-next (Send source note tried) c (Met FindsDown) h =
      own-at c (or_here j source note (Failed (no_host tried))) h.1 (own-or_here source note (Failed (no_host tried)))
  own-next (Send source note tried) c (Met (Takes host)) h = own-at c (Lent host source note tried) h.3 refl
  own-next (Send source note tried) c (Met TakesLocal) h = own-at c (LentHere source note) h.1 refl
  own-next (Lent host source note tried) c (Did (ran x)) h = own-at c (RanThere host note x.ran) h.2 refl
  own-next (Lent host source note tried) c (Did (exchanged x)) h = own-at c (Sent host source note tried x) h.2 refl
  own-next (Lent host source note tried) c (Met (Gives i)) h =
      elim h.1 [ inl e ↦ own-at c (Over (Failed Station)) e.1 refl | inr e ↦ own-at c (Over (Failed Memory)) e refl ]
  own-next (RanThere host note r) c (Met (Gives i)) h = one-of c (Finish Here note (outcome_of r)) (Over (Failed Memory)) h.1 refl refl
  own-next (Sent host source note tried x) c (Met (Gives i)) h =
      elim h.1 [
        | inl w ↦ own-at c (after_whole j host source note w.0) w.2 (own-whole host source note w.0)
        | inr other ↦ elim other [
          | inl b ↦ own-at c (after_broken j host b.0 source note tried) b.3 (own-broken host b.0 source note tried)
          | inr e ↦ own-at c (Over (Failed Memory)) e refl
        ]
      ]
  own-next (Sent host source note tried x) c (Met (GivesBad i until)) h =
      own-at c (after_broken j host h.2.0 source note tried) h.2.4 (own-broken host h.2.0 source note tried)
  own-next (Locally source note) c (Met TakesLocal) h = own-at c (LentHere source note) h refl
  own-next (LentHere source note) c (Did (ran x)) h = own-at c (RanHere note x.ran) h.1 refl
  own-next (LentHere source note) c (Met GivesLocal) h = one-of c (Over (Failed Station)) (Over (Failed Memory)) h refl refl
  own-next (RanHere note r) c (Met GivesLocal) h = one-of c (Finish Here note (outcome_of r)) (Over (Failed Memory)) h refl refl
  own-next (Finish by note o) c (Did (put x)) h = own-at c (Over (Done 0 note o.err o.out by)) h.3 refl
  own-next at c a h = absurd h

  own-from : (acts : List Act) (at : At) (end : End) → is_own at ≡ true → From j at acts end → is_own_end end ≡ true
  own-from [] at end own ends = own-end j at end ends own
  own-from (a ∷ acts) at end own (c, next, from) = own-from acts c end (own-next at c a next) from

pub own : FallbackLaw
own j acts end course fallback = own-from j fallback acts Start end refl course
