-- Acts, calls and moments one after another.
use Rattle.std.proofs.Common.{◌≡◌, ◌≢◌, ℕ, ◌+◌, List, [], ◌∷◌, ◌++◌, refl, sym, ap, ◌∙◌, subst, append_assoc}
use Rattle.std.proofs.lemmas.List.{append-nil}
use Rattle.std.proofs.lemmas.Grind.{flat_map-append}
use Rattle.slot_table.specs.declared.calls.CallEntry.{CallEntry}
use Rattle.edge_traits.specs.declared.entries.Exchange.{Exchange}
use Rattle.edge_traits.specs.Deeds.{Deed, ran, fetched, exchanged, put, timed, exchange_of, exchanges_in, moments_in, moment_of, MayAll}
use Rattle.farm_machine.specs.declared.reports.Event.TheVariants as event
use Rattle.farm_machine.specs.declared.reports.Places.{Places}
use Rattle.farm_machine.specs.Acts.{SlotEvent, Takes, Gives, GivesBad, FindsDown, TakesLocal, GivesLocal, Act, Did, Met, slots_of, deeds_of}
use Rattle.farm_machine.specs.Course.{At}
use Rattle.farm_machine.specs.Honest.{Peers, Programs, AllRan}
use Rattle.farm_machine.specs.Jobs.{Job}
use Rattle.farm_machine.specs.Machine.{Wants, JobCall, Draws, Adds, Waits, Mismatched, job_call_of}
use Rattle.farm_machine.specs.Moments.{AreMoments}
use Rattle.farm_machine.specs.Numbered.{numbered, advanced, untimed}
use Rattle.farm_machine.specs.Own.{ServedBy, Serves}
use Rattle.job_run.specs.Gives.{GivesAfter, LeavesAlone}
use Rattle.job_run.specs.Strict.{StrictReach}
use Rattle.job_run.specs.Stands.{HasNoExchange}

pub slots-append : (xs ys : List Act) → slots_of (xs ++ ys) ≡ slots_of xs ++ slots_of ys
slots-append [] ys = refl
slots-append (Did d ∷ xs) ys = slots-append xs ys
slots-append (Met x ∷ xs) ys = ap (λ es. x ∷ es) (slots-append xs ys)

pub deeds-append : (xs ys : List Act) → deeds_of (xs ++ ys) ≡ deeds_of xs ++ deeds_of ys
deeds-append [] ys = refl
deeds-append (Did d ∷ xs) ys = ap (λ ds. d ∷ ds) (deeds-append xs ys)
deeds-append (Met x ∷ xs) ys = deeds-append xs ys

pub untimed-append : (xs ys : List Act) → untimed (xs ++ ys) ≡ untimed xs ++ untimed ys
untimed-append [] ys = refl
untimed-append (Did (ran x) ∷ xs) ys = ap (λ acts. Did (ran x) ∷ acts) (untimed-append xs ys)
untimed-append (Did (fetched x) ∷ xs) ys = ap (λ acts. Did (fetched x) ∷ acts) (untimed-append xs ys)
untimed-append (Did (exchanged x) ∷ xs) ys = ap (λ acts. Did (exchanged x) ∷ acts) (untimed-append xs ys)
untimed-append (Did (put x) ∷ xs) ys = ap (λ acts. Did (put x) ∷ acts) (untimed-append xs ys)
untimed-append (Did (timed x) ∷ xs) ys = untimed-append xs ys
untimed-append (Met x ∷ xs) ys = ap (λ acts. Met x ∷ acts) (untimed-append xs ys)

pub slots-untimed : (xs : List Act) → slots_of (untimed xs) ≡ slots_of xs
slots-untimed [] = refl
slots-untimed (Did (ran x) ∷ xs) = slots-untimed xs
slots-untimed (Did (fetched x) ∷ xs) = slots-untimed xs
slots-untimed (Did (exchanged x) ∷ xs) = slots-untimed xs
slots-untimed (Did (put x) ∷ xs) = slots-untimed xs
slots-untimed (Did (timed x) ∷ xs) = slots-untimed xs
slots-untimed (Met x ∷ xs) = ap (λ es. x ∷ es) (slots-untimed xs)

pub advanced-append : (at : Places) (xs ys : List Act) → advanced at (xs ++ ys) ≡ advanced (advanced at xs) ys
advanced-append at [] ys = refl
advanced-append at (Did (ran x) ∷ xs) ys = advanced-append (record at { runs = at.runs + 1 }) xs ys
advanced-append at (Did (fetched x) ∷ xs) ys = advanced-append (record at { fetches = at.fetches + 1 }) xs ys
advanced-append at (Did (exchanged x) ∷ xs) ys = advanced-append (record at { exchanges = at.exchanges + 1 }) xs ys
advanced-append at (Did (put x) ∷ xs) ys = advanced-append (record at { puts = at.puts + 1 }) xs ys
advanced-append at (Did (timed x) ∷ xs) ys = advanced-append at xs ys
advanced-append at (Met x ∷ xs) ys = advanced-append at xs ys

pub numbered-append : (at : Places) (xs ys : List Act) → numbered at (xs ++ ys) ≡ numbered at xs ++ numbered (advanced at xs) ys
numbered-append at [] ys = refl
numbered-append at (Did (ran x) ∷ xs) ys = ap (λ es. event.Ran at.runs ∷ es) (numbered-append (record at { runs = at.runs + 1 }) xs ys)
numbered-append at (Did (fetched x) ∷ xs) ys =
    ap (λ es. event.Fetched at.fetches ∷ es) (numbered-append (record at { fetches = at.fetches + 1 }) xs ys)
numbered-append at (Did (exchanged x) ∷ xs) ys =
    ap (λ es. event.Exchanged at.exchanges ∷ es) (numbered-append (record at { exchanges = at.exchanges + 1 }) xs ys)
numbered-append at (Did (put x) ∷ xs) ys = ap (λ es. event.Put at.puts ∷ es) (numbered-append (record at { puts = at.puts + 1 }) xs ys)
numbered-append at (Did (timed x) ∷ xs) ys = numbered-append at xs ys
numbered-append at (Met (Takes host) ∷ xs) ys = ap (λ es. event.Took host ∷ es) (numbered-append at xs ys)
numbered-append at (Met (Gives host) ∷ xs) ys = ap (λ es. event.Gave host ∷ es) (numbered-append at xs ys)
numbered-append at (Met (GivesBad host until) ∷ xs) ys = ap (λ es. event.GaveBad host until ∷ es) (numbered-append at xs ys)
numbered-append at (Met FindsDown ∷ xs) ys = ap (λ es. event.Down ∷ es) (numbered-append at xs ys)
numbered-append at (Met TakesLocal ∷ xs) ys = ap (λ es. event.TookLocal ∷ es) (numbered-append at xs ys)
numbered-append at (Met GivesLocal ∷ xs) ys = ap (λ es. event.GaveLocal ∷ es) (numbered-append at xs ys)

pub ran-append : (programs : Programs) (xs ys : List Act) → AllRan programs xs → AllRan programs ys → AllRan programs (xs ++ ys)
ran-append programs [] ys h k = k
ran-append programs (Did (ran x) ∷ xs) ys h k = (h.0, ran-append programs xs ys h.1 k)
ran-append programs (Did (fetched x) ∷ xs) ys h k = ran-append programs xs ys h k
ran-append programs (Did (exchanged x) ∷ xs) ys h k = ran-append programs xs ys h k
ran-append programs (Did (put x) ∷ xs) ys h k = ran-append programs xs ys h k
ran-append programs (Did (timed x) ∷ xs) ys h k = ran-append programs xs ys h k
ran-append programs (Met x ∷ xs) ys h k = ran-append programs xs ys h k

pub ran-along : (p q : Programs) → ((a : List _) (b : List ℕ) (r : _) → p a b r → q a b r) → (xs : List Act) → AllRan p xs → AllRan q xs
ran-along p q along [] h = tt
ran-along p q along (Did (ran x) ∷ xs) h = (along x.words x.input x.ran h.0, ran-along p q along xs h.1)
ran-along p q along (Did (fetched x) ∷ xs) h = ran-along p q along xs h
ran-along p q along (Did (exchanged x) ∷ xs) h = ran-along p q along xs h
ran-along p q along (Did (put x) ∷ xs) h = ran-along p q along xs h
ran-along p q along (Did (timed x) ∷ xs) h = ran-along p q along xs h
ran-along p q along (Met x ∷ xs) h = ran-along p q along xs h

pub may-append : (peers : Peers) (xs ys : List Exchange) → MayAll peers xs → MayAll peers ys → MayAll peers (xs ++ ys)
may-append peers [] ys h k = k
may-append peers (x ∷ xs) ys h k = (h.0, may-append peers xs ys h.1 k)

pub may-along : (p q : Peers) → ((a b : List ℕ) → p a b → q a b) → (xs : List Exchange) → MayAll p xs → MayAll q xs
may-along p q along [] h = tt
may-along p q along (x ∷ xs) h = (λ e. along x.sent x.given (h.0 e), may-along p q along xs h.1)

pub moments-append : (period : ℕ) (xs ys : List CallEntry) (ms ns : List ℕ) → AreMoments period xs ms → AreMoments period ys ns
    → AreMoments period (xs ++ ys) (ms ++ ns)
moments-append period [] ys ms ns h k = subst (λ (zs : List ℕ). AreMoments period ys (zs ++ ns)) (sym h) k
moments-append period (e ∷ xs) ys ms ns (first, more, of, rest, is) k =
    (first, more ++ ns, of, moments-append period xs ys more ns rest k, ap (λ (zs : List ℕ). zs ++ ns) is ∙ append_assoc first more ns)

pub reach-append : (j : Job) (xs ys : List Act) (a b c : At) → StrictReach j a xs b → StrictReach j b ys c → StrictReach j a (xs ++ ys) c
reach-append j [] ys a b c h k = subst (λ (at : At). StrictReach j at ys c) (sym h) k
reach-append j (x ∷ xs) ys a b c (d, next, strict, more) k = (d, next, strict, reach-append j xs ys d b c more k)

pub serves-append : (wants : Wants) (w j : ℕ) (past xs ys : List SlotEvent) (es fs : List CallEntry) → Serves wants w j past xs es
    → Serves wants w j (past ++ xs) ys fs → Serves wants w j past (xs ++ ys) (es ++ fs)
serves-append wants w j past [] ys [] fs h k = subst (λ (p : List SlotEvent). Serves wants w j p ys fs) (append-nil past) k
serves-append wants w j past [] ys (e ∷ es) fs h k = absurd h
serves-append wants w j past (x ∷ xs) ys [] fs h k = absurd h
serves-append wants w j past (x ∷ xs) ys (e ∷ es) fs h k = (
  h.0,
  go (job_call_of e) h.1 (λ m. serves-append wants w j (past ++ x ∷ []) xs ys es fs m
      (subst (λ (p : List SlotEvent). Serves wants w j p ys fs) (sym (append_assoc past (x ∷ []) xs)) k))
      (λ r. serves-append wants w j past (x ∷ xs) ys es fs r k),
)
  where
    go : (a : JobCall) → ServedBy wants j past x a (Serves wants w j (past ++ x ∷ []) xs es) (Serves wants w j past (x ∷ xs) es)
        → (Serves wants w j (past ++ x ∷ []) xs es → Serves wants w j (past ++ x ∷ []) (xs ++ ys) (es ++ fs))
        → (Serves wants w j past (x ∷ xs) es → Serves wants w j past (x ∷ (xs ++ ys)) (es ++ fs))
        → ServedBy wants j past x a (Serves wants w j (past ++ x ∷ []) (xs ++ ys) (es ++ fs))
        (Serves wants w j past (x ∷ (xs ++ ys)) (es ++ fs))
    go (Adds i mask y) p met refused = (p.0, p.1, p.2, met p.3)
    go (Waits i mask kind) p met refused = (p.0, p.1, p.2, refused p.3)
    go (Draws job) p met refused = absurd p
    go Mismatched p met refused = absurd p

pub exchanges-append : (xs ys : List Deed) → exchanges_in (xs ++ ys) ≡ exchanges_in xs ++ exchanges_in ys
exchanges-append xs ys = flat_map-append exchange_of xs ys

pub moments_in-append : (xs ys : List Deed) → moments_in (xs ++ ys) ≡ moments_in xs ++ moments_in ys
moments_in-append xs ys = flat_map-append moment_of xs ys

-- what is given back behind an exchange is so whatever comes later
gives-append : (period : ℕ) (x : Exchange) (xs ys : List Act) → GivesAfter period x xs → GivesAfter period x (xs ++ ys)
gives-append period x [] ys h = absurd h
gives-append period x (Did (ran y) ∷ xs) ys h = tt
gives-append period x (Did (fetched y) ∷ xs) ys h = tt
gives-append period x (Did (exchanged y) ∷ xs) ys h = tt
gives-append period x (Did (put y) ∷ xs) ys h = tt
gives-append period x (Did (timed y) ∷ xs) ys h = gives-append period x xs ys h
gives-append period x (Met (Takes host) ∷ xs) ys h = tt
gives-append period x (Met (Gives host) ∷ xs) ys h = h
gives-append period x (Met (GivesBad host until) ∷ xs) ys h = tt
gives-append period x (Met FindsDown ∷ xs) ys h = tt
gives-append period x (Met TakesLocal ∷ xs) ys h = tt
gives-append period x (Met GivesLocal ∷ xs) ys h = tt

pub leaves-append : (period : ℕ) (xs ys : List Act) → LeavesAlone period xs → LeavesAlone period ys → LeavesAlone period (xs ++ ys)
leaves-append period [] ys h k = k
leaves-append period (Did (ran x) ∷ xs) ys h k = leaves-append period xs ys h k
leaves-append period (Did (fetched x) ∷ xs) ys h k = leaves-append period xs ys h k
leaves-append period (Did (exchanged x) ∷ xs) ys h k = (gives-append period x xs ys h.0, leaves-append period xs ys h.1 k)
leaves-append period (Did (put x) ∷ xs) ys h k = leaves-append period xs ys h k
leaves-append period (Did (timed x) ∷ xs) ys h k = leaves-append period xs ys h k
leaves-append period (Met x ∷ xs) ys h k = leaves-append period xs ys h k

-- a list with an entry isn't empty
pub some-entry : {A : Type 0} (x : A) (xs : List A) → x ∷ xs ≢ []
some-entry x xs e = cc

-- where two lists behind one another are empty, each is
none-both : {A : Type 0} (xs ys : List A) → xs ++ ys ≡ [] → (xs ≡ []) × (ys ≡ [])
none-both [] ys e = (refl, e)
none-both (x ∷ xs) ys e = absurd (some-entry x (xs ++ ys) e)

-- where parts behind one another have no exchange, each has none
pub exchangeless-both : (xs ys : List Act) → HasNoExchange (xs ++ ys) → HasNoExchange xs × HasNoExchange ys
exchangeless-both xs ys none = none-both (exchanges_in (deeds_of xs)) (exchanges_in (deeds_of ys))
    (sym (ap exchanges_in (deeds-append xs ys) ∙ exchanges-append (deeds_of xs) (deeds_of ys)) ∙ none)
