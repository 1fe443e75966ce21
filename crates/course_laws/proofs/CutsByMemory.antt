-- Which courses end for want of memory, and how a job goes on where another stops.
use Rattle.std.proofs.Common.{◌≡◌, ◌≢◌, ◌⊎◌, inl, inr, ℕ, ◌+◌, List, [], ◌∷◌, ◌++◌, Some, None}
use Rattle.std.proofs.Common.{refl, sym, ap, ◌∙◌}
use Rattle.edge_traits.specs.Deeds.{ran, fetched, exchanged, put}
use Rattle.farm_machine.specs.declared.reports.By.TheVariants.{Here, InPlace}
use Rattle.farm_machine.specs.declared.reports.Why5.TheVariants.{Station, Memory}
use Rattle.farm_machine.specs.declared.reports.End.{End}
use Rattle.farm_machine.specs.declared.reports.End.TheVariants.{Done, Failed}
use Rattle.farm_machine.specs.Acts.{Takes, Gives, GivesBad, FindsDown, TakesLocal, GivesLocal, Act, Did, Met, Loan}
use Rattle.farm_machine.specs.Jobs.{Job, output_name}
use Rattle.farm_machine.specs.Course.{At, Start, LentInPlace, RanInPlace, Send, Lent, RanThere, Sent, Locally}
use Rattle.farm_machine.specs.Course.{LentHere, RanHere, Finish, Over, outcome_of, after_preprocessor, or_here, after_broken, after_whole}
use Rattle.farm_machine.specs.Course.{no_host, Next, From, Course}
use Rattle.farm_machine.specs.Table.{gives_back, IsCut, IsCutInExchange, MemoryLaw}
use Rattle.course_laws.proofs.Courses.{has_out}
use Rattle.course_laws.proofs.Sources.{join, reach-loan, reach-source}
use Rattle.course_laws.proofs.Tables.{forth, along, over}
use Rattle.course_laws.proofs.Cuts.{cut-back, exchange-back, Goes, fin-finish, goes-locally, no_host-other, goes-send, dial, dials}
use Rattle.course_laws.proofs.Cuts.{goes-lent, goes-start, Stops, prepend, here, Fine, fine-or_here}
use Rattle.course_laws.proofs.Cuts.{fine-broken, fine-whole, fine-cpp, fine-at}

-- no other end is that for want of memory
other : {A : Type 0} (j : Job) (c : At) (e : End) (acts : List Act) → c ≡ Over e → e ≢ Failed Memory → From j c acts (Failed Memory) → A
other j c e acts is apart h = absurd (apart (sym (over j e acts (Failed Memory) (along j c (Over e) acts (Failed Memory) is h)).1))

out-of : (j : Job) (c : At) (acts : List Act) → c ≡ Over (Failed Memory) → From j c acts (Failed Memory) → acts ≡ []
out-of j c acts is h = (over j (Failed Memory) acts (Failed Memory) (along j c (Over (Failed Memory)) acts (Failed Memory) is h)).0

gave : (j : Job) (at c : At) (k host : ℕ) (acts : List Act) → Goes j at → has_out at ≡ Some (Some host) → k ≡ host
    → c ≡ Over (Failed Memory) → From j c acts (Failed Memory) → Stops j at (Met (Gives k) ∷ acts)
gave j at c k host acts goes out same is h =
    here j at (Met (Gives k) ∷ acts) goes (ap (λ (more : List Act). Met (Gives k) ∷ more) (out-of j c acts is h)
    ∙ ap (λ (i : ℕ). Met (Gives i) ∷ []) same ∙ ap gives_back (sym out))

gave-local : (j : Job) (at c : At) (acts : List Act) → Goes j at → has_out at ≡ Some None → c ≡ Over (Failed Memory)
    → From j c acts (Failed Memory) → Stops j at (Met GivesLocal ∷ acts)
gave-local j at c acts goes out is h =
    here j at (Met GivesLocal ∷ acts) goes (ap (λ (more : List Act). Met GivesLocal ∷ more) (out-of j c acts is h)
    ∙ ap gives_back (sym out))

stops : (j : Job) (acts : List Act) (at : At) → Fine at → From j at acts (Failed Memory) → Stops j at acts
stops j [] Start fine h = here j Start [] (goes-start j) refl
stops j (Met TakesLocal ∷ acts) Start fine (c, next, from) =
    prepend j Start c (Met TakesLocal) acts next (stops j acts c (fine-at c LentInPlace next.1 tt) from)
stops j (Did (fetched x) ∷ acts) Start fine (c, next, from) =
    prepend j Start c (Did (fetched x)) acts next (stops j acts c (fine-at c (Send x.bytes [] []) next.3 tt) from)
stops j (Did (ran x) ∷ acts) Start fine (c, next, from) =
    prepend j Start c (Did (ran x)) acts next (stops j acts c (fine-at c (after_preprocessor x.ran) next.3 (fine-cpp x.ran)) from)
stops j (Did (ran x) ∷ acts) LentInPlace fine (c, next, from) =
    prepend j LentInPlace c (Did (ran x)) acts next (stops j acts c (fine-at c (RanInPlace x.ran) next.1 tt) from)
stops j (Met GivesLocal ∷ acts) LentInPlace fine (c, next, from) =
    elim next [
      | inl e ↦ other j c (Failed Station) acts e (λ k. cc) from
      | inr e ↦
          gave-local j LentInPlace c acts record {
            next = Met GivesLocal;
            rest = [];
            end = Failed Station;
            whole = λ k. cc;
            from = (Over (Failed Station), inl refl, refl);
          } refl e from
    ]
stops j (Met GivesLocal ∷ acts) (RanInPlace r) fine (c, next, from) =
    elim next [
      | inl e ↦ other j c (Done r.status [] r.err r.out InPlace) acts e (λ k. cc) from
      | inr e ↦ gave-local j (RanInPlace r) c acts record {
        next = Met GivesLocal;
        rest = [];
        end = Done r.status [] r.err r.out InPlace;
        whole = λ k. cc;
        from = (Over (Done r.status [] r.err r.out InPlace), inl refl, refl);
      } refl e from
    ]
stops j [] (Send source note tried) fine h = here j (Send source note tried) [] (goes-send j source note tried) refl
stops j (Met FindsDown ∷ acts) (Send source note tried) fine (c, next, from) =
    prepend j (Send source note tried) c (Met FindsDown) acts next
    (stops j acts c (fine-at c (or_here j source note (Failed (no_host tried))) next.1
    (fine-or_here j source note (Failed (no_host tried)) (no_host-other tried))) from)
stops j (Met (Takes host) ∷ acts) (Send source note tried) fine (c, next, from) =
    prepend j (Send source note tried) c (Met (Takes host)) acts next
    (stops j acts c (fine-at c (Lent host source note tried) next.3 tt) from)
stops j (Met TakesLocal ∷ acts) (Send source note tried) fine (c, next, from) =
    prepend j (Send source note tried) c (Met TakesLocal) acts next (stops j acts c (fine-at c (LentHere source note) next.1 tt) from)
stops j (Did (ran x) ∷ acts) (Lent host source note tried) fine (c, next, from) =
    prepend j (Lent host source note tried) c (Did (ran x)) acts next (stops j acts c (fine-at c (RanThere host note x.ran) next.2 tt) from)
stops j (Met (Gives k) ∷ acts) (Lent host source note tried) fine (c, next, from) =
    elim next.1 [
      | inl e ↦ other j c (Failed Station) acts e.1 (λ k. cc) from
      | inr e ↦
          gave j (Lent host source note tried) c k host acts (goes-lent j host source note tried) refl next.0 e from
    ]
stops j (Did (exchanged x) ∷ Met (Gives k) ∷ acts) (Lent host source note tried) fine (c, next, from) =
    let from' : From j (Sent host source note tried x) (Met (Gives k) ∷ acts) (Failed Memory) =
    along j c (Sent host source note tried x) (Met (Gives k) ∷ acts) (Failed Memory) next.2 from in
    let d = from'.0 in
    let n : Next j (Sent host source note tried x) (Met (Gives k)) d = from'.1 in
    let first : Next j (Lent host source note tried) (Did (exchanged x)) (Sent host source note tried x) = (next.0, next.1, refl) in
    let on : Fine d → Stops j (Lent host source note tried) (Did (exchanged x) ∷ Met (Gives k) ∷ acts) =
    λ (fine : Fine d). prepend j (Lent host source note tried) (Sent host source note tried x) (Did (exchanged x))
    (Met (Gives k) ∷ acts) first (prepend j (Sent host source note tried x) d (Met (Gives k)) acts n (stops j acts d fine from'.2)) in
    elim n.1 [
      | inl w ↦ on (fine-at d (after_whole j host source note w.0) w.2 (fine-whole j host source note w.0))
      | inr more ↦ elim more [
        | inl b ↦ on (fine-at d (after_broken j host b.0 source note tried) b.3 (fine-broken j host b.0 source note tried))
        | inr e ↦ inr record {
          front = [];
          host = host;
          source = source;
          note = note;
          tried = tried;
          x = x;
          reach = refl;
          remote = next.0;
          begun = next.1;
          is = ap (λ (more : List Act). Did (exchanged x) ∷ Met (Gives k) ∷ more) (out-of j d acts e from'.2)
              ∙ ap (λ (i : ℕ). Did (exchanged x) ∷ Met (Gives i) ∷ []) n.0;
        }
      ]
    ]
stops j (Did (exchanged x) ∷ Met (GivesBad k until) ∷ acts) (Lent host source note tried) fine (c, next, from) =
    let from' : From j (Sent host source note tried x) (Met (GivesBad k until) ∷ acts) (Failed Memory) =
    along j c (Sent host source note tried x) (Met (GivesBad k until) ∷ acts) (Failed Memory) next.2 from in
    let d = from'.0 in
    let n : Next j (Sent host source note tried x) (Met (GivesBad k until)) d = from'.1 in
    let first : Next j (Lent host source note tried) (Did (exchanged x)) (Sent host source note tried x) = (next.0, next.1, refl) in
    prepend j (Lent host source note tried) (Sent host source note tried x) (Did (exchanged x)) (Met (GivesBad k until) ∷ acts)
    first (prepend j (Sent host source note tried x) d (Met (GivesBad k until)) acts n
    (stops j acts d (fine-at d (after_broken j host n.2.0 source note tried) n.2.4 (fine-broken j host n.2.0 source note tried))
    from'.2))
stops j (Did (exchanged x) ∷ []) (Lent host source note tried) fine (c, next, from) =
    let h : From j (Sent host source note tried x) [] (Failed Memory) =
    along j c (Sent host source note tried x) [] (Failed Memory) next.2 from in absurd h
stops j (Did (exchanged x) ∷ a ∷ acts) (Lent host source note tried) fine (c, next, from) =
    let h : From j (Sent host source note tried x) (a ∷ acts) (Failed Memory) =
    along j c (Sent host source note tried x) (a ∷ acts) (Failed Memory) next.2 from in absurd h.1
stops j [] (Sent host source note tried x) fine h = absurd fine
stops j (a ∷ acts) (Sent host source note tried x) fine h = absurd fine
stops j (Met (Gives k) ∷ acts) (RanThere host note r) fine (c, next, from) =
    elim next.1 [
      | inl e ↦ prepend j (RanThere host note r) c (Met (Gives k)) acts next
          (stops j acts c (fine-at c (Finish Here note (outcome_of r)) e tt) from)
      | inr e ↦ let f = fin-finish j Here note (outcome_of r) in
          gave j (RanThere host note r) c k host acts record {
            next = Met (Gives host);
            rest = f.acts;
            end = f.end;
            whole = f.whole;
            from = (Finish Here note (outcome_of r), (refl, inl refl), f.from);
          } refl next.0 e from
    ]
stops j [] (Locally source note) fine h = here j (Locally source note) [] (goes-locally j source note) refl
stops j (Met TakesLocal ∷ acts) (Locally source note) fine (c, next, from) =
    prepend j (Locally source note) c (Met TakesLocal) acts next (stops j acts c (fine-at c (LentHere source note) next tt) from)
stops j (Did (ran x) ∷ acts) (LentHere source note) fine (c, next, from) =
    prepend j (LentHere source note) c (Did (ran x)) acts next (stops j acts c (fine-at c (RanHere note x.ran) next.1 tt) from)
stops j (Met GivesLocal ∷ acts) (LentHere source note) fine (c, next, from) =
    elim next [
      | inl e ↦ other j c (Failed Station) acts e (λ k. cc) from
      | inr e ↦
          gave-local j (LentHere source note) c acts record {
            next = Met GivesLocal;
            rest = [];
            end = Failed Station;
            whole = λ k. cc;
            from = (Over (Failed Station), inl refl, refl);
          } refl e from
    ]
stops j (Met GivesLocal ∷ acts) (RanHere note r) fine (c, next, from) =
    elim next [
      | inl e ↦ prepend j (RanHere note r) c (Met GivesLocal) acts (inl e)
          (stops j acts c (fine-at c (Finish Here note (outcome_of r)) e tt) from)
      | inr e ↦ let f = fin-finish j Here note (outcome_of r) in
          gave-local j (RanHere note r) c acts record {
            next = Met GivesLocal;
            rest = f.acts;
            end = f.end;
            whole = f.whole;
            from = (Finish Here note (outcome_of r), inl refl, f.from);
          } refl e from
    ]
stops j [] (Finish by note o) fine h =
    elim h [
      | inl z ↦ here j (Finish by note o) [] record {
        next = Did (put (record { path = output_name j; bytes = o.object }));
        rest = [];
        end = Done 0 note o.err o.out by;
        whole = λ k. cc;
        from = (Over (Done 0 note o.err o.out by), (z.0, refl, refl, refl), refl);
      } refl
      | inr d ↦ let e = d.1 in cc
    ]
stops j (Did (put x) ∷ acts) (Finish by note o) fine (c, next, from) = other j c (Done 0 note o.err o.out by) acts next.3 (λ k. cc) from
stops j [] (Over e) fine h = absurd (fine (sym h))
stops j [] at fine h = absurd h
stops j (a ∷ acts) at fine (c, next, from) = absurd next

memory : (j : Job) (acts : List Act) → Course j acts (Failed Memory) → IsCut j acts ⊎ IsCutInExchange j acts
memory j acts h =
    elim (stops j acts Start tt h) [
      | inl p ↦ let g = p.goes in inl record {
        front = p.front;
        next = g.next;
        rest = g.rest;
        end = g.end;
        finished = forth j (p.front ++ g.next ∷ g.rest) g.end g.whole (join j p.front (g.next ∷ g.rest) Start p.place g.end p.reach g.from);
        is = p.is ∙ ap (λ (loan : Loan). p.front ++ gives_back loan) (sym (reach-loan j p.front Start p.place p.reach));
      }
      | inr p ↦ let d = dials j p.host p.source p.note p.tried p.remote in inr record {
        front = p.front;
        exchange = dial j p.host;
        rest = d.rest;
        end = d.end;
        finished = forth j (p.front ++ Did (exchanged (dial j p.host)) ∷ d.rest) d.end d.whole
            (join j p.front (Did (exchanged (dial j p.host)) ∷ d.rest) Start (Lent p.host p.source p.note p.tried) d.end p.reach d.from);
        host = p.host;
        source = p.source;
        out = reach-loan j p.front Start (Lent p.host p.source p.note p.tried) p.reach;
        source_is = reach-source j p.front [] Start (Lent p.host p.source p.note p.tried) refl p.reach;
        begun = p.x;
        is_begun = p.begun;
        is = p.is;
      }
    ]

pub memory-law : MemoryLaw
memory-law j acts = (memory j acts, λ h. elim h [ inl cut ↦ cut-back j acts cut | inr cut ↦ exchange-back j acts cut ])
