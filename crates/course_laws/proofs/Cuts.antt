-- The courses that end for want of memory are cut ones.
use Rattle.std.proofs.Common.{◌≡◌, ◌≢◌, ◌⊎◌, inl, inr, ℕ, ◌+◌, ◌<◌, ◌^◌, Bool, true, false, ◌&&◌, cond, List, [], ◌∷◌, ◌++◌, Some}
use Rattle.std.proofs.Common.{length, nat_eq, nat_lt, refl, sym, ap, ◌∙◌, subst, arith}
use Rattle.std.proofs.lemmas.Bool.{cases_eq}
use Rattle.farm_types.specs.declared.ran.Ran.{Ran}
use Rattle.farm_types.specs.declared.ran.Outcome.{Outcome}
use Rattle.edge_traits.specs.declared.entries.Run.{Run}
use Rattle.edge_traits.specs.declared.entries.Fetch.{Fetch}
use Rattle.edge_traits.specs.declared.entries.Exchange.{Exchange}
use Rattle.edge_traits.specs.declared.cause.Cause.{Cause}
use Rattle.edge_traits.specs.declared.cause.Cause.TheVariants.{Dial}
use Rattle.edge_traits.specs.Deeds.{ran, fetched, exchanged, put}
use Rattle.wire_tokens.specs.Request.{request_text}
use Rattle.slot_table.specs.Backoff.{bad_until}
use Rattle.farm_machine.specs.declared.reports.By.{By}
use Rattle.farm_machine.specs.declared.reports.By.TheVariants.{Cpp, Remote}
use Rattle.farm_machine.specs.declared.reports.Why5.TheVariants.{Station, Put as NotPut, Broke, Memory}
use Rattle.farm_machine.specs.declared.reports.End.{End}
use Rattle.farm_machine.specs.declared.reports.End.TheVariants.{Done, Failed}
use Rattle.farm_machine.specs.Acts.{Gives, GivesBad, FindsDown, TakesLocal, GivesLocal, Act, Did, Met, Loan}
use Rattle.farm_machine.specs.Jobs.{Job, may_be_sent, is_source_ready, source_name, preprocessing_command, request_for}
use Rattle.farm_machine.specs.Jobs.{host_at, is_local_host}
use Rattle.farm_machine.specs.Course.{IsBegunWith, IsBrokenWith, At, Start, LentInPlace, RanInPlace, Send, Lent, RanThere, Sent, Locally}
use Rattle.farm_machine.specs.Course.{LentHere, RanHere, Finish, Over, after_preprocessor, or_here, after_broken, after_whole}
use Rattle.farm_machine.specs.Course.{Tried, tried_too, no_host, Next, From, Course, Reach}
use Rattle.farm_machine.specs.Table.{gives_back, IsSource, IsCut, IsCutInExchange}
use Rattle.course_laws.proofs.Courses.{has_out}
use Rattle.course_laws.proofs.Requests.{can-request-or-not}
use Rattle.course_laws.proofs.Sources.{join, split, reach-loan, SourceAt, reach-source, one-source}
use Rattle.course_laws.proofs.TablesBack.{back}

-- a job that can go on may stop, and gives back what is out
stop : (j : Job) (b c : At) (a : Act) → Next j b a c → From j b (gives_back (has_out b)) (Failed Memory)
stop j (Finish by note o) c (Did (put x)) h = inl (h.0, inl refl)
stop j (Finish by note o) c a h = absurd h
stop j Start c a h = inl refl
stop j LentInPlace c a h = (Over (Failed Memory), inr refl, refl)
stop j (RanInPlace r) c a h = (Over (Failed Memory), inr refl, refl)
stop j (Send source note tried) c a h = refl
stop j (Lent host source note tried) c a h = (Over (Failed Memory), (refl, inr refl), refl)
stop j (RanThere host note r) c a h = (Over (Failed Memory), (refl, inr refl), refl)
stop j (Sent host source note tried x) c a h = (Over (Failed Memory), (refl, inr (inr refl)), refl)
stop j (Locally source note) c a h = refl
stop j (LentHere source note) c a h = (Over (Failed Memory), inr refl, refl)
stop j (RanHere note r) c a h = (Over (Failed Memory), inr refl, refl)
stop j (Over e) c a h = absurd h

pub cut-back : (j : Job) (acts : List Act) → IsCut j acts → Course j acts (Failed Memory)
cut-back j acts cut =
    let s = split j cut.front (cut.next ∷ cut.rest) Start cut.end (back j (cut.front ++ cut.next ∷ cut.rest) cut.end cut.finished) in
    let whole : Course j (cut.front ++ gives_back (has_out s.0)) (Failed Memory) =
    join j cut.front (gives_back (has_out s.0)) Start s.0 (Failed Memory) s.1 (stop j s.0 s.2.0 cut.next s.2.1) in
    subst (λ (more : List Act). Course j more (Failed Memory))
    (sym (cut.is ∙ ap (λ (loan : Loan). cut.front ++ gives_back loan) (reach-loan j cut.front Start s.0 s.1))) whole

-- an exchange that was begun, and the give
exchange-stop : (j : Job) (front : List Act) (b c : At) (x y : Exchange) (host : ℕ) (s : List ℕ) → Next j b (Did (exchanged x)) c
    → SourceAt front b → has_out b ≡ Some (Some host) → IsSource front s → IsBegunWith j y s host
    → From j b (Did (exchanged y) ∷ Met (Gives host) ∷ []) (Failed Memory)
exchange-stop j front (Lent k t note tried) c x y host s h at out source begun =
    let same : k ≡ host = cc in
    let is : s ≡ t = one-source front s t source at in (
      Sent k t note tried y,
      (
        h.0,
        subst (λ (i : ℕ). IsBegunWith j y t i) (sym same)
            (subst (λ (u : List ℕ). IsBegunWith j y u host) is begun),
        refl,
      ),
      (Over (Failed Memory), (sym same, inr (inr refl)), refl),
    )
exchange-stop j front Start c x y host s h at out source begun = absurd h
exchange-stop j front b c x y host s h at out source begun = absurd h

pub exchange-back : (j : Job) (acts : List Act) → IsCutInExchange j acts → Course j acts (Failed Memory)
exchange-back j acts cut =
    let s = split j cut.front (Did (exchanged cut.exchange) ∷ cut.rest) Start cut.end
    (back j (cut.front ++ Did (exchanged cut.exchange) ∷ cut.rest) cut.end cut.finished) in
    let out : has_out s.0 ≡ Some (Some cut.host) = sym (reach-loan j cut.front Start s.0 s.1) ∙ cut.out in
    let whole : Course j (cut.front ++ Did (exchanged cut.begun) ∷ Met (Gives cut.host) ∷ []) (Failed Memory) =
    join j cut.front (Did (exchanged cut.begun) ∷ Met (Gives cut.host) ∷ []) Start s.0 (Failed Memory) s.1
    (exchange-stop j cut.front s.0 s.2.0 cut.exchange cut.begun cut.host cut.source s.2.1
    (reach-source j cut.front [] Start s.0 refl s.1) out cut.source_is cut.is_begun) in
    subst (λ (more : List Act). Course j more (Failed Memory)) (sym cut.is) whole

-- from here a job can go on to another end
pub record Goes (j : Job) (b : At) : Type 0 where
  pub next : Act
  pub rest : List Act
  pub end : End
  pub whole : end ≢ Failed Memory
  pub from : From j b (next ∷ rest) end

-- the same, by no act at all
pub record Fins (j : Job) (b : At) : Type 0 where
  pub acts : List Act
  pub end : End
  pub whole : end ≢ Failed Memory
  pub from : From j b acts end

pub fin-finish : (j : Job) (by : By) (note : List ℕ) (o : Outcome) → Fins j (Finish by note o)
fin-finish j by note o =
    elim (cases_eq o.status 0) [
      | inl e ↦ record { acts = []; end = Failed NotPut; whole = λ k. cc; from = inl (e, inr refl) }
      | inr n ↦ record { acts = []; end = Done o.status note o.err o.out by; whole = λ k. cc; from = inr (n, refl) }
    ]

pub goes-locally : (j : Job) (source note : List ℕ) → Goes j (Locally source note)
goes-locally j source note =
    record {
      next = Met TakesLocal;
      rest = Met GivesLocal ∷ [];
      end = Failed Station;
      whole = λ k. cc;
      from = (LentHere source note, refl, (Over (Failed Station), inl refl, refl));
    }

fin-or_here : (j : Job) (source note : List ℕ) (why : End) → why ≢ Failed Memory → Fins j (or_here j source note why)
fin-or_here j source note why other = go j.config.fallback
  where
    go : (b : Bool) → Fins j (cond b (Locally source note) (Over why))
    go true = let g = goes-locally j source note in record { acts = g.next ∷ g.rest; end = g.end; whole = g.whole; from = g.from }
    go false = record { acts = []; end = why; whole = other; from = refl }

pub no_host-other : (tried : List Tried) → Failed (no_host tried) ≢ Failed Memory
no_host-other [] = λ k. cc
no_host-other (t ∷ ts) = λ k. cc

pub goes-send : (j : Job) (source note : List ℕ) (tried : List Tried) → Goes j (Send source note tried)
goes-send j source note tried =
    elim (can-request-or-not j source) [
      | inl fits ↦ let f = fin-or_here j source note (Failed (no_host tried)) (no_host-other tried) in
          record {
            next = Met FindsDown;
            rest = f.acts;
            end = f.end;
            whole = f.whole;
            from = (or_here j source note (Failed (no_host tried)), (fits, refl), f.from);
          }
      | inr not ↦ record {
        next = Met TakesLocal;
        rest = Met GivesLocal ∷ [];
        end = Failed Station;
        whole = λ k. cc;
        from = (LentHere source note, (not, refl), (Over (Failed Station), inl refl, refl));
      }
    ]

fin-broken : (j : Job) (host : ℕ) (cause : Cause) (source note : List ℕ) (tried : List Tried)
    → Fins j (after_broken j host cause source note tried)
fin-broken j host cause source note tried = go (nat_lt (length tried + 1) j.config.tries)
  where
    go : (b : Bool) → Fins j (cond b (Send source note (tried_too host cause tried)) (or_here j source note (Failed (Broke host cause))))
    go true = let g = goes-send j source note (tried_too host cause tried) in
        record { acts = g.next ∷ g.rest; end = g.end; whole = g.whole; from = g.from }
    go false = fin-or_here j source note (Failed (Broke host cause)) (λ k. cc)

-- an exchange whose dial failed
pub dial : Job → ℕ → Exchange
dial j host = record {
  host = (host_at j host).name;
  port = (host_at j host).port;
  dialed = false;
  sent = [];
  given = [];
  ended = false;
  stopped = false;
  faults = 0;
}

dial-broken : (j : Job) (host : ℕ) (source : List ℕ) → IsBrokenWith j (dial j host) source host Dial
unfolding dial
dial-broken j host source = record {
  begun = record { host = refl; port = refl; unsent = request_text (request_for j source); prefix = refl };
  shown = record { undialed = refl; sent = refl; given = refl };
}

small : 0 < 2 ^ 64
small = omega arith

above : (n : ℕ) → n ≢ 0 → 0 < n
above n h = omega arith

-- from a host's grant a job can go on by an exchange whose dial failed
pub record Dials (j : Job) (host : ℕ) (source note : List ℕ) (tried : List Tried) : Type 0 where
  pub rest : List Act
  pub end : End
  pub whole : end ≢ Failed Memory
  pub from : From j (Lent host source note tried) (Did (exchanged (dial j host)) ∷ rest) end

pub dials : (j : Job) (host : ℕ) (source note : List ℕ) (tried : List Tried) → is_local_host j host ≡ false
    → Dials j host source note tried
dials j host source note tried e =
    let f = fin-broken j host Dial source note tried in
    let x = dial j host in
    elim (cases_eq j.config.period 0) [
      | inl zero_ ↦ record {
        rest = Met (Gives host) ∷ f.acts;
        end = f.end;
        whole = f.whole;
        from = (
          Sent host source note tried x,
          (e, (dial-broken j host source).begun, refl),
          (after_broken j host Dial source note tried, (refl, inr (inl (Dial, dial-broken j host source, zero_, refl))), f.from),
        );
      }
      | inr more ↦ record {
        rest = Met (GivesBad host (bad_until 0 j.config.period)) ∷ f.acts;
        end = f.end;
        whole = f.whole;
        from = (
          Sent host source note tried x,
          (e, (dial-broken j host source).begun, refl),
          (
            after_broken j host Dial source note tried,
            (refl, e, (Dial, dial-broken j host source, above j.config.period more, (0, small, refl), refl)),
            f.from,
          ),
        );
      }
    ]

pub goes-lent : (j : Job) (host : ℕ) (source note : List ℕ) (tried : List Tried) → Goes j (Lent host source note tried)
goes-lent j host source note tried = go (is_local_host j host) refl
  where
    go : (b : Bool) → is_local_host j host ≡ b → Goes j (Lent host source note tried)
    go true e = record {
      next = Met (Gives host);
      rest = [];
      end = Failed Station;
      whole = λ k. cc;
      from = (Over (Failed Station), (refl, inl (e, refl)), refl);
    }
    go false e = let d = dials j host source note tried e in
        record { next = Did (exchanged (dial j host)); rest = d.rest; end = d.end; whole = d.whole; from = d.from }

pub goes-start : (j : Job) → Goes j Start
goes-start j = go (may_be_sent j) refl (is_source_ready j) refl
  where
    get : Fetch
    get = record { path = source_name j; bytes = [] }

    bad : Run
    bad = record { words = preprocessing_command j; input = []; ran = record { status = 1; out = []; err = []; object = [] } }

    go : (a : Bool) → may_be_sent j ≡ a → (b : Bool) → is_source_ready j ≡ b → Goes j Start
    go false e b f = record {
      next = Met TakesLocal;
      rest = Met GivesLocal ∷ [];
      end = Failed Station;
      whole = λ k. cc;
      from = (LentInPlace, (e, refl), (Over (Failed Station), inl refl, refl));
    }
    go true e true f = let g = goes-send j [] [] [] in
        record {
          next = Did (fetched get);
          rest = g.next ∷ g.rest;
          end = g.end;
          whole = g.whole;
          from = (Send [] [] [], (e, f, refl, refl), g.from);
        }
    go true e false f = record {
      next = Did (ran bad);
      rest = [];
      end = Done 1 [] [] [] Cpp;
      whole = λ k. cc;
      from = (Over (Done 1 [] [] [] Cpp), (e, f, (refl, refl), refl), refl);
    }

-- where a job stops for want of memory
pub record Plain (j : Job) (at : At) (acts : List Act) : Type 0 where
  pub front : List Act
  pub place : At
  pub reach : Reach j at front place
  pub goes : Goes j place
  pub is : acts ≡ front ++ gives_back (has_out place)

pub record Exch (j : Job) (at : At) (acts : List Act) : Type 0 where
  pub front : List Act
  pub host : ℕ
  pub source : List ℕ
  pub note : List ℕ
  pub tried : List Tried
  pub x : Exchange
  pub reach : Reach j at front (Lent host source note tried)
  pub remote : is_local_host j host ≡ false
  pub begun : IsBegunWith j x source host
  pub is : acts ≡ front ++ Did (exchanged x) ∷ Met (Gives host) ∷ []

abbrev pub Stops : Job → At → List Act → Type 0
Stops j at acts = Plain j at acts ⊎ Exch j at acts

pub prepend : (j : Job) (at c : At) (a : Act) (acts : List Act) → Next j at a c → Stops j c acts → Stops j at (a ∷ acts)
prepend j at c a acts next (inl p) =
    inl record {
      front = a ∷ p.front;
      place = p.place;
      reach = (c, next, p.reach);
      goes = p.goes;
      is = ap (λ (more : List Act). a ∷ more) p.is;
    }
prepend j at c a acts next (inr p) =
    inr record {
      front = a ∷ p.front;
      host = p.host;
      source = p.source;
      note = p.note;
      tried = p.tried;
      x = p.x;
      reach = (c, next, p.reach);
      remote = p.remote;
      begun = p.begun;
      is = ap (λ (more : List Act). a ∷ more) p.is;
    }

pub here : (j : Job) (at : At) (acts : List Act) → Goes j at → acts ≡ gives_back (has_out at) → Stops j at acts
here j at acts goes is = inl record { front = []; place = at; reach = refl; goes = goes; is = is }

-- neither within an exchange nor out of memory
abbrev pub Fine : At → Type 0
Fine (Sent host source note tried x) = ⊥
Fine (Over e) = e ≢ Failed Memory
Fine at = Unit {0}

pub fine-or_here : (j : Job) (source note : List ℕ) (why : End) → why ≢ Failed Memory → Fine (or_here j source note why)
fine-or_here j source note why other = go j.config.fallback
  where
    go : (b : Bool) → Fine (cond b (Locally source note) (Over why))
    go true = tt
    go false = other

pub fine-broken : (j : Job) (host : ℕ) (cause : Cause) (source note : List ℕ) (tried : List Tried)
    → Fine (after_broken j host cause source note tried)
fine-broken j host cause source note tried = go (nat_lt (length tried + 1) j.config.tries)
  where
    go : (b : Bool) → Fine (cond b (Send source note (tried_too host cause tried)) (or_here j source note (Failed (Broke host cause))))
    go true = tt
    go false = fine-or_here j source note (Failed (Broke host cause)) (λ k. cc)

pub fine-whole : (j : Job) (host : ℕ) (source note : List ℕ) (o : Outcome) → Fine (after_whole j host source note o)
fine-whole j host source note o = go (nat_eq o.status 0) (j.config.fallback && j.config.retry)
  where
    go : (a b : Bool) → Fine (cond a (Finish (Remote host) note o)
        (cond b (Locally source note) (Over (Done o.status note o.err o.out (Remote host)))))
    go true b = tt
    go false true = tt
    go false false = λ k. cc

pub fine-cpp : (r : Ran) → Fine (after_preprocessor r)
fine-cpp r = go (nat_eq r.status 0)
  where
    go : (b : Bool) → Fine (cond b (Send r.out r.err []) (Over (Done r.status [] r.err [] Cpp)))
    go true = tt
    go false = λ k. cc

pub fine-at : (c d : At) → c ≡ d → Fine d → Fine c
fine-at c d e h = subst Fine (sym e) h
