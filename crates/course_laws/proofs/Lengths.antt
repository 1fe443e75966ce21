-- How many acts a course has at most.
use Rattle.std.proofs.Common.{◌≡◌, ◌⊎◌, inl, inr, ℕ, ◌+◌, ◌-◌, ◌*◌, ◌<◌, ◌≤◌, Bool, true, false, ◌&&◌, cond, List, [], ◌∷◌, length}
use Rattle.std.proofs.Common.{nat_eq, nat_lt, refl, sym, subst, arith}
use Rattle.std.proofs.lemmas.Bool.{ltb-true}
use Rattle.farm_types.specs.declared.ran.Ran.{Ran}
use Rattle.farm_types.specs.declared.ran.Outcome.{Outcome}
use Rattle.edge_traits.specs.declared.cause.Cause.{Cause}
use Rattle.edge_traits.specs.Deeds.{ran, fetched, exchanged, put}
use Rattle.farm_machine.specs.declared.reports.By.TheVariants.{Cpp, Remote, Here, InPlace}
use Rattle.farm_machine.specs.declared.reports.Why5.TheVariants.{Station, Broke, Memory}
use Rattle.farm_machine.specs.declared.reports.End.{End}
use Rattle.farm_machine.specs.declared.reports.End.TheVariants.{Done, Failed}
use Rattle.farm_machine.specs.Acts.{Takes, Gives, GivesBad, FindsDown, TakesLocal, GivesLocal, Act, Did, Met}
use Rattle.farm_machine.specs.Jobs.{Job}
use Rattle.farm_machine.specs.Course.{At, Start, LentInPlace, RanInPlace, Send, Lent, RanThere, Sent, Locally, LentHere, RanHere, Finish}
use Rattle.farm_machine.specs.Course.{Over, outcome_of, after_preprocessor, or_here, after_broken, after_whole, Tried, tried_too, no_host}
use Rattle.farm_machine.specs.Course.{Next, From}
use Rattle.course_laws.specs.Laws.{LengthLaw}

-- From here a course may have n acts more: three for each host that may still be tried, and those of the compile here
-- and of the put.
abbrev Left : Job → At → ℕ → Type 0
Left j Start n = 3 * j.config.tries + 5 ≤ n
Left j LentInPlace n = 2 ≤ n
Left j (RanInPlace r) n = 1 ≤ n
Left j (Send source note tried) n = (length tried < j.config.tries) × (3 * (j.config.tries - length tried) + 4 ≤ n)
Left j (Lent host source note tried) n = (length tried < j.config.tries) × (3 * (j.config.tries - length tried) + 3 ≤ n)
Left j (RanThere host note r) n = 2 ≤ n
Left j (Sent host source note tried x) n = (length tried < j.config.tries) × (3 * (j.config.tries - length tried) + 2 ≤ n)
Left j (Locally source note) n = 4 ≤ n
Left j (LentHere source note) n = 3 ≤ n
Left j (RanHere note r) n = 2 ≤ n
Left j (Finish by note o) n = 1 ≤ n
Left j (Over e) n = Unit {0}

left-at : (j : Job) (n : ℕ) (c d : At) → c ≡ d → Left j d n → Left j c n
left-at j n c d e h = subst (λ (at : At). Left j at n) (sym e) h

one-of : (j : Job) (n : ℕ) (c a b : At) → (c ≡ a) ⊎ (c ≡ b) → Left j a n → Left j b n → Left j c n
one-of j n c a b (inl e) la lb = left-at j n c a e la
one-of j n c a b (inr e) la lb = left-at j n c b e lb

left-preprocessed : (j : Job) (n : ℕ) (r : Ran) → 1 ≤ j.config.tries → 3 * j.config.tries + 4 ≤ n → Left j (after_preprocessor r) n
left-preprocessed j n r some h = go (nat_eq r.status 0)
  where
    go : (b : Bool) → Left j (cond b (Send r.out r.err []) (Over (Done r.status [] r.err [] Cpp))) n
    go true = (some, omega arith)
    go false = tt

left-or_here : (j : Job) (n : ℕ) (source note : List ℕ) (why : End) → 4 ≤ n → Left j (or_here j source note why) n
left-or_here j n source note why h = go j.config.fallback
  where
    go : (b : Bool) → Left j (cond b (Locally source note) (Over why)) n
    go true = h
    go false = tt

left-broken : (j : Job) (n host : ℕ) (cause : Cause) (source note : List ℕ) (tried : List Tried) → length tried < j.config.tries
    → 3 * (j.config.tries - length tried) + 1 ≤ n → Left j (after_broken j host cause source note tried) n
left-broken j n host cause source note tried more h = go (nat_lt (length tried + 1) j.config.tries) refl
  where
    go : (b : Bool) → nat_lt (length tried + 1) j.config.tries ≡ b
        → Left j (cond b (Send source note (tried_too host cause tried)) (or_here j source note (Failed (Broke host cause)))) n
    go true e = let again : length tried + 1 < j.config.tries = ltb-true (length tried + 1) j.config.tries e in (omega arith, omega arith)
    go false e = left-or_here j n source note (Failed (Broke host cause)) (omega arith)

left-whole : (j : Job) (n host : ℕ) (source note : List ℕ) (o : Outcome) → 4 ≤ n → Left j (after_whole j host source note o) n
left-whole j n host source note o h = go (nat_eq o.status 0) (j.config.fallback && j.config.retry)
  where
    go : (a b : Bool) → Left j
        (cond a (Finish (Remote host) note o) (cond b (Locally source note) (Over (Done o.status note o.err o.out (Remote host))))) n
    go true b = omega arith
    go false true = h
    go false false = tt

left-next : (j : Job) (n : ℕ) (at c : At) (a : Act) → 1 ≤ j.config.tries → Next j at a c → Left j at (n + 1) → Left j c n
left-next j n Start c (Met TakesLocal) some h l = left-at j n c LentInPlace h.1 (omega arith)
left-next j n Start c (Did (fetched x)) some h l = left-at j n c (Send x.bytes [] []) h.3 (some, omega arith)
left-next j n Start c (Did (ran x)) some h l = left-at j n c (after_preprocessor x.ran) h.3 (left-preprocessed j n x.ran some (omega arith))
left-next j n LentInPlace c (Did (ran x)) some h l = left-at j n c (RanInPlace x.ran) h.1 (omega arith)
left-next j n LentInPlace c (Met GivesLocal) some h l = one-of j n c (Over (Failed Station)) (Over (Failed Memory)) h tt tt
left-next j n (RanInPlace r) c (Met GivesLocal) some h l =
    one-of j n c (Over (Done r.status [] r.err r.out InPlace)) (Over (Failed Memory)) h tt tt
left-next j n (Send source note tried) c (Met FindsDown) some h l =
    let more = l.0 in
    let room = l.1 in
    left-at j n c (or_here j source note (Failed (no_host tried))) h.1 (left-or_here j n source note (Failed (no_host tried)) (omega arith))
left-next j n (Send source note tried) c (Met (Takes host)) some h l =
    let room = l.1 in
    left-at j n c (Lent host source note tried) h.3 (l.0, omega arith)
left-next j n (Send source note tried) c (Met TakesLocal) some h l =
    let room = l.1 in
    left-at j n c (LentHere source note) h.1 (omega arith)
left-next j n (Lent host source note tried) c (Did (ran x)) some h l =
    let room = l.1 in
    left-at j n c (RanThere host note x.ran) h.2 (omega arith)
left-next j n (Lent host source note tried) c (Did (exchanged x)) some h l =
    let room = l.1 in
    left-at j n c (Sent host source note tried x) h.2 (l.0, omega arith)
left-next j n (Lent host source note tried) c (Met (Gives i)) some h l =
    elim h.1 [ inl e ↦ left-at j n c (Over (Failed Station)) e.1 tt | inr e ↦ left-at j n c (Over (Failed Memory)) e tt ]
left-next j n (RanThere host note r) c (Met (Gives i)) some h l =
    one-of j n c (Finish Here note (outcome_of r)) (Over (Failed Memory)) h.1 (omega arith) tt
left-next j n (Sent host source note tried x) c (Met (Gives i)) some h l =
    let more = l.0 in
    let room = l.1 in
    elim h.1 [
      | inl w ↦ left-at j n c (after_whole j host source note w.0) w.2 (left-whole j n host source note w.0 (omega arith))
      | inr other ↦ elim other [
        | inl b ↦ left-at j n c (after_broken j host b.0 source note tried) b.3
            (left-broken j n host b.0 source note tried l.0 (omega arith))
        | inr e ↦ left-at j n c (Over (Failed Memory)) e tt
      ]
    ]
left-next j n (Sent host source note tried x) c (Met (GivesBad i until)) some h l =
    let room = l.1 in
    left-at j n c (after_broken j host h.2.0 source note tried) h.2.4 (left-broken j n host h.2.0 source note tried l.0 (omega arith))
left-next j n (Locally source note) c (Met TakesLocal) some h l = left-at j n c (LentHere source note) h (omega arith)
left-next j n (LentHere source note) c (Did (ran x)) some h l = left-at j n c (RanHere note x.ran) h.1 (omega arith)
left-next j n (LentHere source note) c (Met GivesLocal) some h l = one-of j n c (Over (Failed Station)) (Over (Failed Memory)) h tt tt
left-next j n (RanHere note r) c (Met GivesLocal) some h l =
    one-of j n c (Finish Here note (outcome_of r)) (Over (Failed Memory)) h (omega arith) tt
left-next j n (Finish by note o) c (Did (put x)) some h l = left-at j n c (Over (Done 0 note o.err o.out by)) h.3 tt
left-next j n at c a some h l = absurd h

-- with an act that may come next, some act is left
left-some : (j : Job) (n : ℕ) (at c : At) (a : Act) → Next j at a c → Left j at n → 1 ≤ n
left-some j n Start c a h l = omega arith
left-some j n LentInPlace c a h l = omega arith
left-some j n (RanInPlace r) c a h l = omega arith
left-some j n (Send source note tried) c a h l = let room = l.1 in omega arith
left-some j n (Lent host source note tried) c a h l = let room = l.1 in omega arith
left-some j n (RanThere host note r) c a h l = omega arith
left-some j n (Sent host source note tried x) c a h l = let room = l.1 in omega arith
left-some j n (Locally source note) c a h l = omega arith
left-some j n (LentHere source note) c a h l = omega arith
left-some j n (RanHere note r) c a h l = omega arith
left-some j n (Finish by note o) c a h l = l
left-some j n (Over e) c a h l = absurd h

short-from : (j : Job) (acts : List Act) (n : ℕ) (at : At) (end : End) → 1 ≤ j.config.tries → Left j at n → From j at acts end
    → length acts ≤ n
short-from j [] n at end some l h = omega arith
short-from j (a ∷ acts) n at end some l (c, next, from) =
    let one : 1 ≤ n = left-some j n at c a next l in
    let is : n ≡ (n - 1) + 1 = omega arith in
    let rest : length acts ≤ n - 1 =
    short-from j acts (n - 1) c end some (left-next j (n - 1) at c a some next (subst (λ (k : ℕ). Left j at k) is l)) from in
    omega arith

pub short : LengthLaw
short j acts end some course = short-from j acts (3 * j.config.tries + 5) Start end some (omega arith) course
