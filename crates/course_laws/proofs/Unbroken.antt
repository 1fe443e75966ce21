-- A job of which no exchange broke asks its hosts once.
use Rattle.std.proofs.Common.{◌≡◌, ◌⊎◌, inl, inr, ℕ, ◌<◌, Bool, true, false, ◌&&◌, not, cond, List, [], ◌∷◌, ◌++◌, nat_eq, refl, sym, ap}
use Rattle.std.proofs.Common.{◌∙◌, subst, append_assoc}
use Rattle.std.proofs.lemmas.Bool.{true≢false}
use Rattle.farm_types.specs.declared.ran.Outcome.{Outcome}
use Rattle.edge_traits.specs.declared.entries.Run.{Run}
use Rattle.edge_traits.specs.declared.entries.Exchange.{Exchange}
use Rattle.edge_traits.specs.Deeds.{ran, fetched, exchanged, put}
use Rattle.farm_machine.specs.declared.reports.By.TheVariants.{Cpp, Remote, Here, InPlace}
use Rattle.farm_machine.specs.declared.reports.Why5.TheVariants.{Station, Put as NotPut, Broke, NoHost, Memory, Fetch}
use Rattle.farm_machine.specs.declared.reports.End.{End}
use Rattle.farm_machine.specs.declared.reports.End.TheVariants.{Done, Failed}
use Rattle.farm_machine.specs.Acts.{SlotEvent, Takes, Gives, GivesBad, FindsDown, TakesLocal, GivesLocal, Act, Did, Met, slots_of}
use Rattle.farm_machine.specs.Jobs.{Job, host_count}
use Rattle.farm_machine.specs.Course.{Tried, At, Start, LentInPlace, RanInPlace, Send, Lent, RanThere, Sent, Locally, LentHere, RanHere}
use Rattle.farm_machine.specs.Course.{Finish, Over, outcome_of, after_preprocessor, or_here, after_whole, no_host, Next, From}
use Rattle.farm_machine.specs.Table.{IsSource}
use Rattle.course_laws.specs.Laws.{IsAmong, is_own_end}
use Rattle.course_laws.specs.Returns.{OwnEndLaw, NoneBroke, finds_down, asks_once, UnbrokenLaw}
use Rattle.course_laws.proofs.Fallbacks.{is_own, own-end}
use Rattle.course_laws.proofs.Sources.{more-source}

pub own-end-law : OwnEndLaw
own-end-law (Done status note err out by) old new cause calm own = refl
own-end-law (Failed Station) old new cause calm own =
    elim cause [ inl rose ↦ absurd (calm.station rose) | inr rose ↦ absurd (calm.station_overruns rose) ]
own-end-law (Failed NotPut) old new cause calm own = absurd (calm.keeper cause)
own-end-law (Failed (Broke host c)) old new cause calm own = absurd (true≢false (sym own))
own-end-law (Failed NoHost) old new cause calm own = absurd (true≢false (sym own))
own-end-law (Failed Memory) old new cause calm own = refl
own-end-law (Failed Fetch) old new cause calm own =
    elim cause [ inl rose ↦ absurd (calm.keeper rose) | inr rose ↦ absurd (calm.keeper_overruns rose) ]

pub among-more : (act : Act) (acts more : List Act) → IsAmong act acts → IsAmong act (acts ++ more)
among-more act [] more h = absurd h
among-more act (a ∷ acts) more (inl here) = inl here
among-more act (a ∷ acts) more (inr there) = inr (among-more act acts more there)

among-last : (act : Act) (acts : List Act) → IsAmong act (acts ++ act ∷ [])
among-last act [] = inl refl
among-last act (a ∷ acts) = inr (among-last act acts)

source-more : (acts more : List Act) (source : List ℕ) → IsSource acts source → IsSource (acts ++ more) source
source-more [] more source h = absurd h
source-more (Did (fetched x) ∷ acts) more source h = h
source-more (Did (ran x) ∷ acts) more source h = h
source-more (a ∷ acts) more source h = absurd h

-- what is known of the acts before the place where a job stands: its source is theirs, and so is the exchange that it made
abbrev Stands : Job → List Act → At → Type 0
Stands j past Start = past ≡ []
Stands j past (Send source note tried) = IsSource past source
Stands j past (Lent host source note tried) = IsSource past source × (host < host_count j)
Stands j past (Sent host source note tried x) = IsSource past source × (host < host_count j) × IsAmong (Did (exchanged x)) past
Stands j past at = Unit {0}

-- no host is to be asked from here on
abbrev IsPast : At → Type 0
IsPast Start = ⊥
IsPast (Send source note tried) = ⊥
IsPast at = Unit {0}

abbrev is_down : Act → Bool
is_down (Met FindsDown) = true
is_down act = false

-- one act more
record Goes (j : Job) (past : List Act) (at : At) (a : Act) (c : At) : Type 0 where
  stands : Stands j (past ++ a ∷ []) c
  own : is_down a ≡ false → is_own c ≡ true
  late : IsPast at → IsPast c

module _ (j : Job) where
  goes : (past : List Act) (at : At) (a : Act) (c d : At) → c ≡ d → Stands j (past ++ a ∷ []) d
      → (is_down a ≡ false → is_own d ≡ true) → (IsPast at → IsPast d) → Goes j past at a c
  goes past at a c d is stands own late =
      subst (λ (e : At). Goes j past at a e) (sym is) (record { stands = stands; own = own; late = late })

  goes-past : (past : List Act) (at : At) (a : Act) (c a' b' : At) → (c ≡ a') ⊎ (c ≡ b') → Goes j past at a a' → Goes j past at a b'
      → Goes j past at a c
  goes-past past at a c a' b' (inl is) first second = subst (λ (e : At). Goes j past at a e) (sym is) first
  goes-past past at a c a' b' (inr is) first second = subst (λ (e : At). Goes j past at a e) (sym is) second

  over : (past : List Act) (at : At) (a : Act) (end : End) → is_own_end end ≡ true → Goes j past at a (Over end)
  over past at a end own = record { stands = tt; own = λ e. own; late = λ e. tt }

  goes-preprocessed : (x : Run) → Goes j [] Start (Did (ran x)) (after_preprocessor x.ran)
  goes-preprocessed x = go (nat_eq x.ran.status 0)
    where
      go : (b : Bool) → Goes j [] Start (Did (ran x)) (cond b (Send x.ran.out x.ran.err []) (Over (Done x.ran.status [] x.ran.err [] Cpp)))
      go true = record { stands = refl; own = λ e. refl; late = λ e. absurd e }
      go false = record { stands = tt; own = λ e. refl; late = λ e. absurd e }

  goes-here : (past : List Act) (source note : List ℕ) (tried : List Tried) (end : End)
      → Goes j past (Send source note tried) (Met FindsDown) (or_here j source note end)
  goes-here past source note tried end = go j.config.fallback
    where
      go : (b : Bool) → Goes j past (Send source note tried) (Met FindsDown) (cond b (Locally source note) (Over end))
      go true = record { stands = tt; own = λ e. absurd (true≢false e); late = λ e. absurd e }
      go false = record { stands = tt; own = λ e. absurd (true≢false e); late = λ e. absurd e }

  goes-whole : (past : List Act) (host k : ℕ) (source note : List ℕ) (tried : List Tried) (x : Exchange) (o : Outcome)
      → Goes j past (Sent host source note tried x) (Met (Gives k)) (after_whole j host source note o)
  goes-whole past host k source note tried x o = go (nat_eq o.status 0) (j.config.fallback && j.config.retry)
    where
      go : (a b : Bool) → Goes j past (Sent host source note tried x) (Met (Gives k))
          (cond a (Finish (Remote host) note o) (cond b (Locally source note) (Over (Done o.status note o.err o.out (Remote host)))))
      go true b = record { stands = tt; own = λ e. refl; late = λ e. tt }
      go false true = record { stands = tt; own = λ e. refl; late = λ e. tt }
      go false false = record { stands = tt; own = λ e. refl; late = λ e. tt }

  next-goes : (past rest : List Act) (at c : At) (a : Act) → NoneBroke j (past ++ a ∷ rest) → Next j at a c → Stands j past at
      → Goes j past at a c
  next-goes past rest Start c (Met TakesLocal) none h k = goes past Start (Met TakesLocal) c LentInPlace h.1 tt (λ e. refl) (λ e. absurd e)
  next-goes past rest Start c (Did (fetched x)) none h k =
      goes past Start (Did (fetched x)) c (Send x.bytes [] []) h.3
      (subst (λ (xs : List Act). IsSource (xs ++ Did (fetched x) ∷ []) x.bytes) (sym k) refl) (λ e. refl) (λ e. absurd e)
  next-goes past rest Start c (Did (ran x)) none h k =
      subst (λ (xs : List Act). Goes j xs Start (Did (ran x)) c) (sym k)
      (subst (λ (e : At). Goes j [] Start (Did (ran x)) e) (sym h.3) (goes-preprocessed x))
  next-goes past rest LentInPlace c (Did (ran x)) none h k =
      goes past LentInPlace (Did (ran x)) c (RanInPlace x.ran) h.1 tt (λ e. refl) (λ e. tt)
  next-goes past rest LentInPlace c (Met GivesLocal) none h k =
      goes-past past LentInPlace (Met GivesLocal) c (Over (Failed Station)) (Over (Failed Memory)) h
      (over past LentInPlace (Met GivesLocal) (Failed Station) refl) (over past LentInPlace (Met GivesLocal) (Failed Memory) refl)
  next-goes past rest (RanInPlace r) c (Met GivesLocal) none h k =
      goes-past past (RanInPlace r) (Met GivesLocal) c (Over (Done r.status [] r.err r.out InPlace)) (Over (Failed Memory)) h
      (over past (RanInPlace r) (Met GivesLocal) (Done r.status [] r.err r.out InPlace) refl)
      (over past (RanInPlace r) (Met GivesLocal) (Failed Memory) refl)
  next-goes past rest (Send source note tried) c (Met FindsDown) none h k =
      subst (λ (e : At). Goes j past (Send source note tried) (Met FindsDown) e) (sym h.1)
      (goes-here past source note tried (Failed (no_host tried)))
  next-goes past rest (Send source note tried) c (Met (Takes host)) none h k =
      goes past (Send source note tried) (Met (Takes host)) c (Lent host source note tried) h.3
      (more-source past (Met (Takes host)) source k, h.1) (λ e. refl) (λ e. absurd e)
  next-goes past rest (Send source note tried) c (Met TakesLocal) none h k =
      goes past (Send source note tried) (Met TakesLocal) c (LentHere source note) h.1 tt (λ e. refl) (λ e. absurd e)
  next-goes past rest (Lent host source note tried) c (Did (ran x)) none h k =
      goes past (Lent host source note tried) (Did (ran x)) c (RanThere host note x.ran) h.2 tt (λ e. refl) (λ e. tt)
  next-goes past rest (Lent host source note tried) c (Did (exchanged x)) none h k =
      goes past (Lent host source note tried) (Did (exchanged x)) c (Sent host source note tried x) h.2
      (more-source past (Did (exchanged x)) source k.0, k.1, among-last (Did (exchanged x)) past) (λ e. refl) (λ e. tt)
  next-goes past rest (Lent host source note tried) c (Met (Gives i)) none h k =
      let at = Lent host source note tried in
      elim h.1 [
        | inl e ↦ subst (λ (d : At). Goes j past at (Met (Gives i)) d) (sym e.1) (over past at (Met (Gives i)) (Failed Station) refl)
        | inr e ↦ subst (λ (d : At). Goes j past at (Met (Gives i)) d) (sym e) (over past at (Met (Gives i)) (Failed Memory) refl)
      ]
  next-goes past rest (RanThere host note r) c (Met (Gives i)) none h k =
      let at = RanThere host note r in
      goes-past past at (Met (Gives i)) c (Finish Here note (outcome_of r)) (Over (Failed Memory)) h.1
      (record { stands = tt; own = λ e. refl; late = λ e. tt }) (over past at (Met (Gives i)) (Failed Memory) refl)
  next-goes past rest (Sent host source note tried x) c (Met (Gives i)) none h k =
      let at = Sent host source note tried x in
      elim h.1 [
        | inl w ↦ subst (λ (d : At). Goes j past at (Met (Gives i)) d) (sym w.2) (goes-whole past host i source note tried x w.0)
        | inr other ↦ elim other [
          | inl b ↦ absurd (none x source host b.0 (among-more (Did (exchanged x)) past (Met (Gives i) ∷ rest) k.2)
              (source-more past (Met (Gives i) ∷ rest) source k.0) k.1 b.1)
          | inr e ↦ subst (λ (d : At). Goes j past at (Met (Gives i)) d) (sym e) (over past at (Met (Gives i)) (Failed Memory) refl)
        ]
      ]
  next-goes past rest (Sent host source note tried x) c (Met (GivesBad i until)) none h k =
      absurd (none x source host h.2.0 (among-more (Did (exchanged x)) past (Met (GivesBad i until) ∷ rest) k.2)
      (source-more past (Met (GivesBad i until) ∷ rest) source k.0) k.1 h.2.1)
  next-goes past rest (Locally source note) c (Met TakesLocal) none h k =
      goes past (Locally source note) (Met TakesLocal) c (LentHere source note) h tt (λ e. refl) (λ e. tt)
  next-goes past rest (LentHere source note) c (Did (ran x)) none h k =
      goes past (LentHere source note) (Did (ran x)) c (RanHere note x.ran) h.1 tt (λ e. refl) (λ e. tt)
  next-goes past rest (LentHere source note) c (Met GivesLocal) none h k =
      let at = LentHere source note in
      goes-past past at (Met GivesLocal) c (Over (Failed Station)) (Over (Failed Memory)) h
      (over past at (Met GivesLocal) (Failed Station) refl) (over past at (Met GivesLocal) (Failed Memory) refl)
  next-goes past rest (RanHere note r) c (Met GivesLocal) none h k =
      let at = RanHere note r in
      goes-past past at (Met GivesLocal) c (Finish Here note (outcome_of r)) (Over (Failed Memory)) h
      (record { stands = tt; own = λ e. refl; late = λ e. tt }) (over past at (Met GivesLocal) (Failed Memory) refl)
  next-goes past rest (Finish by note o) c (Did (put x)) none h k =
      goes past (Finish by note o) (Did (put x)) c (Over (Done 0 note o.err o.out by)) h.3 tt (λ e. refl) (λ e. tt)
  next-goes past rest at c a none h k = absurd h

  -- no host is left alone
  not-bad : (past rest : List Act) (at c : At) (host until : ℕ) → NoneBroke j (past ++ Met (GivesBad host until) ∷ rest)
      → Next j at (Met (GivesBad host until)) c → Stands j past at → ⊥
  not-bad past rest (Sent host source note tried x) c i until none h k =
      none x source host h.2.0 (among-more (Did (exchanged x)) past (Met (GivesBad i until) ∷ rest) k.2)
      (source-more past (Met (GivesBad i until) ∷ rest) source k.0) k.1 h.2.1
  not-bad past rest at c i until none h k = absurd h

  -- hosts are found down where no host was asked
  not-past : (at c : At) → Next j at (Met FindsDown) c → IsPast at → ⊥
  not-past (Send source note tried) c h late = late
  not-past at c h late = absurd h

  -- a host is taken where none was asked, and none is asked from there on
  taken-past : (at c : At) (host : ℕ) → Next j at (Met (Takes host)) c → IsPast c
  taken-past (Send source note tried) c host h = subst IsPast (sym h.3) tt
  taken-past at c host h = absurd h

  record Asks (at : At) (events : List SlotEvent) (end : End) : Type 0 where
    once : asks_once events ≡ true
    own : is_own at ≡ true → finds_down events ≡ false → is_own_end end ≡ true
    late : IsPast at → finds_down events ≡ false

  asks-met : (past acts : List Act) (at c : At) (x : SlotEvent) (end : End) → NoneBroke j (past ++ Met x ∷ acts)
      → Next j at (Met x) c → Stands j past at → Goes j past at (Met x) c → Asks c (slots_of acts) end → Asks at (x ∷ slots_of acts) end
  asks-met past acts at c (Takes host) end none h k g rest = record {
    once = ap (λ (b : Bool). not b && asks_once (slots_of acts)) (rest.late (taken-past at c host h)) ∙ rest.once;
    own = λ was not. rest.own (g.own refl) not;
    late = λ late. rest.late (g.late late);
  }
  asks-met past acts at c (GivesBad host until) end none h k g rest = absurd (not-bad past acts at c host until none h k)
  asks-met past acts at c FindsDown end none h k g rest =
      record { once = rest.once; own = λ was not. absurd (true≢false not); late = λ late. absurd (not-past at c h late) }
  asks-met past acts at c (Gives host) end none h k g rest =
      record { once = rest.once; own = λ was not. rest.own (g.own refl) not; late = λ late. rest.late (g.late late) }
  asks-met past acts at c TakesLocal end none h k g rest =
      record { once = rest.once; own = λ was not. rest.own (g.own refl) not; late = λ late. rest.late (g.late late) }
  asks-met past acts at c GivesLocal end none h k g rest =
      record { once = rest.once; own = λ was not. rest.own (g.own refl) not; late = λ late. rest.late (g.late late) }

  asks-from : (past acts : List Act) (at : At) (end : End) → NoneBroke j (past ++ acts) → Stands j past at → From j at acts end
      → Asks at (slots_of acts) end
  asks-from past [] at end none k ends = record { once = refl; own = λ was not. own-end j at end ends was; late = λ late. refl }
  asks-from past (Did d ∷ acts) at end none k (c, next, from) =
      let g = next-goes past acts at c (Did d) none next k in
      let rest = asks-from (past ++ Did d ∷ []) acts c end (subst (NoneBroke j) (sym (append_assoc past (Did d ∷ []) acts)) none)
      g.stands from in
      record { once = rest.once; own = λ was not. rest.own (g.own refl) not; late = λ late. rest.late (g.late late) }
  asks-from past (Met x ∷ acts) at end none k (c, next, from) =
      let g = next-goes past acts at c (Met x) none next k in
      asks-met past acts at c x end none next k g
      (asks-from (past ++ Met x ∷ []) acts c end (subst (NoneBroke j) (sym (append_assoc past (Met x ∷ []) acts)) none) g.stands from)

pub unbroken-law : UnbrokenLaw
unbroken-law j acts end course none =
    let asks = asks-from j [] acts Start end none refl course in
    record { asks = asks.once; own = asks.own refl }
