-- Where acts lead, and the source that a job has there.
use Rattle.std.proofs.Common.{◌≡◌, inl, inr, ℕ, ◌+◌, Bool, true, false, ◌&&◌, cond, List, [], ◌∷◌, ◌++◌, length, nat_eq, nat_lt, refl}
use Rattle.std.proofs.Common.{sym, ap, ◌∙◌, subst, append_assoc}
use Rattle.std.proofs.lemmas.List.{append-nil}
use Rattle.farm_types.specs.declared.ran.Outcome.{Outcome}
use Rattle.edge_traits.specs.declared.entries.Run.{Run}
use Rattle.edge_traits.specs.declared.cause.Cause.{Cause}
use Rattle.edge_traits.specs.Deeds.{ran, fetched, exchanged, put}
use Rattle.farm_machine.specs.declared.reports.By.TheVariants.{Cpp, Remote, Here, InPlace}
use Rattle.farm_machine.specs.declared.reports.Why5.TheVariants.{Station, Broke, Memory}
use Rattle.farm_machine.specs.declared.reports.End.{End}
use Rattle.farm_machine.specs.declared.reports.End.TheVariants.{Done, Failed}
use Rattle.farm_machine.specs.Acts.{Takes, Gives, GivesBad, FindsDown, TakesLocal, GivesLocal, Act, Did, Met, slots_of, Loan, loan_of}
use Rattle.farm_machine.specs.Jobs.{Job}
use Rattle.farm_machine.specs.Course.{At, Start, LentInPlace, RanInPlace, Send, Lent, RanThere, Sent, Locally, LentHere, RanHere, Finish}
use Rattle.farm_machine.specs.Course.{Over, outcome_of, after_preprocessor, or_here, after_broken, after_whole, Tried, tried_too, no_host}
use Rattle.farm_machine.specs.Course.{Next, Reach, From}
use Rattle.farm_machine.specs.Table.{IsSource}
use Rattle.course_laws.proofs.Courses.{has_out, next-did, next-met}
use Rattle.course_laws.proofs.Tables.{along}

pub join : (j : Job) (xs ys : List Act) (at b : At) (end : End) → Reach j at xs b → From j b ys end → From j at (xs ++ ys) end
join j [] ys at b end e h = along j b at ys end (sym e) h
join j (x ∷ xs) ys at b end (c, next, more) h = (c, next, join j xs ys c b end more h)

pub split : (j : Job) (xs ys : List Act) (at : At) (end : End) → From j at (xs ++ ys) end → (b : At) × Reach j at xs b × From j b ys end
split j [] ys at end h = (at, refl, h)
split j (x ∷ xs) ys at end (c, next, from) = let s = split j xs ys c end from in (s.0, (c, next, s.1), s.2)

pub reach-loan : (j : Job) (xs : List Act) (at b : At) → Reach j at xs b → loan_of (has_out at) (slots_of xs) ≡ has_out b
reach-loan j [] at b e = ap has_out e
reach-loan j (Did d ∷ xs) at b (c, next, more) = ap (λ (loan : Loan). loan_of loan (slots_of xs)) (sym (next-did j at c d next))
    ∙ reach-loan j xs c b more
reach-loan j (Met x ∷ xs) at b (c, next, more) = ap (λ (loan : Loan). loan_of loan (slots_of xs)) (sym (next-met j at c x next).1)
    ∙ reach-loan j xs c b more

-- the source that a place has is that of the acts before it
abbrev pub SourceAt : List Act → At → Type 0
SourceAt acts Start = acts ≡ []
SourceAt acts (Send source note tried) = IsSource acts source
SourceAt acts (Lent host source note tried) = IsSource acts source
SourceAt acts (Sent host source note tried x) = IsSource acts source
SourceAt acts (Locally source note) = IsSource acts source
SourceAt acts (LentHere source note) = IsSource acts source
SourceAt acts at = Unit {0}

pub more-source : (acts : List Act) (a : Act) (source : List ℕ) → IsSource acts source → IsSource (acts ++ a ∷ []) source
more-source [] a source h = absurd h
more-source (Did (fetched x) ∷ acts) a source h = h
more-source (Did (ran x) ∷ acts) a source h = h
more-source (b ∷ acts) a source h = absurd h

source-at : (acts : List Act) (c d : At) → c ≡ d → SourceAt acts d → SourceAt acts c
source-at acts c d e h = subst (λ (at : At). SourceAt acts at) (sym e) h

source-or_here : (j : Job) (acts : List Act) (source note : List ℕ) (why : End) → IsSource acts source
    → SourceAt acts (or_here j source note why)
source-or_here j acts source note why h = go j.config.fallback
  where
    go : (b : Bool) → SourceAt acts (cond b (Locally source note) (Over why))
    go true = h
    go false = tt

source-broken : (j : Job) (acts : List Act) (host : ℕ) (cause : Cause) (source note : List ℕ) (tried : List Tried)
    → IsSource acts source → SourceAt acts (after_broken j host cause source note tried)
source-broken j acts host cause source note tried h = go (nat_lt (length tried + 1) j.config.tries)
  where
    go : (b : Bool) → SourceAt acts
        (cond b (Send source note (tried_too host cause tried)) (or_here j source note (Failed (Broke host cause))))
    go true = h
    go false = source-or_here j acts source note (Failed (Broke host cause)) h

source-whole : (j : Job) (acts : List Act) (host : ℕ) (source note : List ℕ) (o : Outcome) → IsSource acts source
    → SourceAt acts (after_whole j host source note o)
source-whole j acts host source note o h = go (nat_eq o.status 0) (j.config.fallback && j.config.retry)
  where
    go : (a b : Bool) → SourceAt acts
        (cond a (Finish (Remote host) note o) (cond b (Locally source note) (Over (Done o.status note o.err o.out (Remote host)))))
    go true b = tt
    go false true = h
    go false false = tt

source-cpp : (x : Run) → SourceAt (Did (ran x) ∷ []) (after_preprocessor x.ran)
source-cpp x = go (nat_eq x.ran.status 0)
  where
    go : (b : Bool) → SourceAt (Did (ran x) ∷ []) (cond b (Send x.ran.out x.ran.err []) (Over (Done x.ran.status [] x.ran.err [] Cpp)))
    go true = refl
    go false = tt

pub source-next : (j : Job) (acts : List Act) (at c : At) (a : Act) → Next j at a c → SourceAt acts at → SourceAt (acts ++ a ∷ []) c
source-next j acts Start c (Met TakesLocal) h k = source-at (acts ++ Met TakesLocal ∷ []) c LentInPlace h.1 tt
source-next j acts Start c (Did (fetched x)) h k =
    source-at (acts ++ Did (fetched x) ∷ []) c (Send x.bytes [] []) h.3
    (subst (λ (xs : List Act). IsSource (xs ++ Did (fetched x) ∷ []) x.bytes) (sym k) refl)
source-next j acts Start c (Did (ran x)) h k =
    source-at (acts ++ Did (ran x) ∷ []) c (after_preprocessor x.ran) h.3
    (subst (λ (xs : List Act). SourceAt (xs ++ Did (ran x) ∷ []) (after_preprocessor x.ran)) (sym k) (source-cpp x))
source-next j acts (Send source note tried) c (Met FindsDown) h k =
    source-at (acts ++ Met FindsDown ∷ []) c (or_here j source note (Failed (no_host tried))) h.1
    (source-or_here j (acts ++ Met FindsDown ∷ []) source note (Failed (no_host tried)) (more-source acts (Met FindsDown) source k))
source-next j acts (Send source note tried) c (Met (Takes host)) h k =
    source-at (acts ++ Met (Takes host) ∷ []) c (Lent host source note tried) h.3 (more-source acts (Met (Takes host)) source k)
source-next j acts (Send source note tried) c (Met TakesLocal) h k =
    source-at (acts ++ Met TakesLocal ∷ []) c (LentHere source note) h.1 (more-source acts (Met TakesLocal) source k)
source-next j acts (Lent host source note tried) c (Did (ran x)) h k =
    source-at (acts ++ Did (ran x) ∷ []) c (RanThere host note x.ran) h.2 tt
source-next j acts (Lent host source note tried) c (Did (exchanged x)) h k =
    source-at (acts ++ Did (exchanged x) ∷ []) c (Sent host source note tried x) h.2 (more-source acts (Did (exchanged x)) source k)
source-next j acts (Lent host source note tried) c (Met (Gives i)) h k =
    elim h.1 [
      | inl e ↦ source-at (acts ++ Met (Gives i) ∷ []) c (Over (Failed Station)) e.1 tt
      | inr e ↦
          source-at (acts ++ Met (Gives i) ∷ []) c (Over (Failed Memory)) e tt
    ]
source-next j acts (Sent host source note tried x) c (Met (Gives i)) h k =
    let more = more-source acts (Met (Gives i)) source k in
    elim h.1 [
      | inl w ↦ source-at (acts ++ Met (Gives i) ∷ []) c (after_whole j host source note w.0) w.2
          (source-whole j (acts ++ Met (Gives i) ∷ []) host source note w.0 more)
      | inr other ↦ elim other [
        | inl b ↦ source-at (acts ++ Met (Gives i) ∷ []) c (after_broken j host b.0 source note tried) b.3
            (source-broken j (acts ++ Met (Gives i) ∷ []) host b.0 source note tried more)
        | inr e ↦ source-at (acts ++ Met (Gives i) ∷ []) c (Over (Failed Memory)) e tt
      ]
    ]
source-next j acts (Sent host source note tried x) c (Met (GivesBad i until)) h k =
    source-at (acts ++ Met (GivesBad i until) ∷ []) c (after_broken j host h.2.0 source note tried) h.2.4
    (source-broken j (acts ++ Met (GivesBad i until) ∷ []) host h.2.0 source note tried
    (more-source acts (Met (GivesBad i until)) source k))
source-next j acts (Locally source note) c (Met TakesLocal) h k =
    source-at (acts ++ Met TakesLocal ∷ []) c (LentHere source note) h (more-source acts (Met TakesLocal) source k)
source-next j acts (LentHere source note) c (Did (ran x)) h k = source-at (acts ++ Did (ran x) ∷ []) c (RanHere note x.ran) h.1 tt
source-next j acts (LentHere source note) c (Met GivesLocal) h k =
    elim h [
      | inl e ↦ source-at (acts ++ Met GivesLocal ∷ []) c (Over (Failed Station)) e tt
      | inr e ↦
          source-at (acts ++ Met GivesLocal ∷ []) c (Over (Failed Memory)) e tt
    ]
source-next j acts LentInPlace c (Did (ran x)) h k = source-at (acts ++ Did (ran x) ∷ []) c (RanInPlace x.ran) h.1 tt
source-next j acts LentInPlace c (Met GivesLocal) h k =
    elim h [
      | inl e ↦ source-at (acts ++ Met GivesLocal ∷ []) c (Over (Failed Station)) e tt
      | inr e ↦
          source-at (acts ++ Met GivesLocal ∷ []) c (Over (Failed Memory)) e tt
    ]
source-next j acts (RanInPlace r) c (Met GivesLocal) h k =
    elim h [
      | inl e ↦ source-at (acts ++ Met GivesLocal ∷ []) c (Over (Done r.status [] r.err r.out InPlace)) e tt
      | inr e ↦
          source-at (acts ++ Met GivesLocal ∷ []) c (Over (Failed Memory)) e tt
    ]
source-next j acts (RanThere host note r) c (Met (Gives i)) h k =
    elim h.1 [
      | inl e ↦ source-at (acts ++ Met (Gives i) ∷ []) c (Finish Here note (outcome_of r)) e tt
      | inr e ↦
          source-at (acts ++ Met (Gives i) ∷ []) c (Over (Failed Memory)) e tt
    ]
source-next j acts (RanHere note r) c (Met GivesLocal) h k =
    elim h [
      | inl e ↦ source-at (acts ++ Met GivesLocal ∷ []) c (Finish Here note (outcome_of r)) e tt
      | inr e ↦
          source-at (acts ++ Met GivesLocal ∷ []) c (Over (Failed Memory)) e tt
    ]
source-next j acts (Finish by note o) c (Did (put x)) h k =
    source-at (acts ++ Did (put x) ∷ []) c (Over (Done 0 note o.err o.out by)) h.3 tt
source-next j acts at c a h k = absurd h

pub reach-source : (j : Job) (xs acts : List Act) (at b : At) → SourceAt acts at → Reach j at xs b → SourceAt (acts ++ xs) b
reach-source j [] acts at b k e = subst (λ (more : List Act). SourceAt more b) (sym (append-nil acts)) (source-at acts b at (sym e) k)
reach-source j (x ∷ xs) acts at b k (c, next, more) =
    subst (λ (ys : List Act). SourceAt ys b) (append_assoc acts (x ∷ []) xs)
    (reach-source j xs (acts ++ x ∷ []) c b (source-next j acts at c x next k) more)

pub one-source : (acts : List Act) (source t : List ℕ) → IsSource acts source → IsSource acts t → source ≡ t
one-source [] source t h k = absurd h
one-source (Did (fetched x) ∷ acts) source t h k = h ∙ sym k
one-source (Did (ran x) ∷ acts) source t h k = h ∙ sym k
one-source (a ∷ acts) source t h k = absurd h
