-- Numbered events read as the acts that they number.
use Rattle.std.proofs.Common.{◌≡◌, ℕ, ◌+◌, List, [], ◌∷◌, ◌++◌, Some, length, refl, ap, ◌∙◌, subst, append_assoc, sym}
use Rattle.std.specs.Prelude.{slice_get}
use Rattle.std.proofs.lemmas.List.{length_push, append-nil}
use Rattle.edge_traits.specs.Deeds.{ran, fetched, exchanged, put, timed}
use Rattle.farm_machine.specs.declared.reports.Places.{Places}
use Rattle.farm_machine.specs.Acts.{Takes, Gives, GivesBad, FindsDown, TakesLocal, GivesLocal, Act, Did, Met, Entries}
use Rattle.farm_machine.specs.declared.reports.End.{End}
use Rattle.farm_machine.specs.Jobs.{Job}
use Rattle.farm_machine.specs.Course.{At, Start, LentInPlace, RanInPlace, Send, Lent, RanThere, Sent, Locally, LentHere, RanHere, Finish}
use Rattle.farm_machine.specs.Course.{Over, Next, From}
use Rattle.farm_machine.specs.Numbered.{added, untimed, Counts, NumberedLaw}
use Rattle.course_laws.specs.Laws.{UntimedLaw}

-- xs is a prefix of ys
abbrev pub Begins : {A : Type 0} → List A → List A → Type 0
Begins {A} xs ys = (more : List A) × (ys ≡ xs ++ more)

pub record Longer (es fs : Entries) : Type 0 where
  pub runs : Begins es.runs fs.runs
  pub fetches : Begins es.fetches fs.fetches
  pub exchanges : Begins es.exchanges fs.exchanges
  pub puts : Begins es.puts fs.puts

begins-itself : {A : Type 0} (xs : List A) → Begins xs xs
begins-itself xs = ([], sym (append-nil xs))

begins-more : {A : Type 0} (xs ys : List A) (x : A) → Begins (xs ++ x ∷ []) ys → Begins xs ys
begins-more xs ys x (more, is) = (x ∷ more, is ∙ append_assoc xs (x ∷ []) more)

pub longer : (acts : List Act) (es : Entries) → Longer es (added es acts)
longer [] es = record {
  runs = begins-itself es.runs;
  fetches = begins-itself es.fetches;
  exchanges = begins-itself es.exchanges;
  puts = begins-itself es.puts;
}
longer (Did (ran x) ∷ acts) es =
    let then : Entries = record es { runs = es.runs ++ x ∷ [] } in
    let l : Longer then (added then acts) = longer acts then in
    record { runs = begins-more es.runs (added then acts).runs x l.runs; fetches = l.fetches; exchanges = l.exchanges; puts = l.puts }
longer (Did (fetched x) ∷ acts) es =
    let then : Entries = record es { fetches = es.fetches ++ x ∷ [] } in
    let l : Longer then (added then acts) = longer acts then in
    record { runs = l.runs; fetches = begins-more es.fetches (added then acts).fetches x l.fetches; exchanges = l.exchanges; puts = l.puts }
longer (Did (exchanged x) ∷ acts) es =
    let then : Entries = record es { exchanges = es.exchanges ++ x ∷ [] } in
    let l : Longer then (added then acts) = longer acts then in
    record {
      runs = l.runs;
      fetches = l.fetches;
      exchanges = begins-more es.exchanges (added then acts).exchanges x l.exchanges;
      puts = l.puts;
    }
longer (Did (put x) ∷ acts) es =
    let then : Entries = record es { puts = es.puts ++ x ∷ [] } in
    let l : Longer then (added then acts) = longer acts then in
    record { runs = l.runs; fetches = l.fetches; exchanges = l.exchanges; puts = begins-more es.puts (added then acts).puts x l.puts }
longer (Did (timed moment) ∷ acts) es = longer acts es
longer (Met x ∷ acts) es = longer acts es

get-there : {A : Type 0} (xs ys : List A) (x : A) (n : ℕ) → length xs ≡ n → Begins (xs ++ x ∷ []) ys → slice_get ys n ≡ Some x
get-there {A} xs ys x n e (more, is) =
    ap (λ (zs : List A). slice_get zs n) (is ∙ append_assoc xs (x ∷ []) more)
    ∙ subst (λ (k : ℕ). slice_get (xs ++ x ∷ more) k ≡ Some x) e (go xs)
  where
    go : (xs : List A) → slice_get (xs ++ x ∷ more) (length xs) ≡ Some x
    go [] = refl
    go (y ∷ ys) = go ys

pub reading : NumberedLaw
reading at es [] c = tt
reading at es (Did (ran x) ∷ acts) c =
    let then : Entries = record es { runs = es.runs ++ x ∷ [] } in
    let next : Places = record at { runs = at.runs + 1 } in
    let l : Longer then (added then acts) = longer acts then in
    let counts : Counts next then =
    record { runs = length_push es.runs x ∙ ap (λ n. n + 1) c.runs; fetches = c.fetches; exchanges = c.exchanges; puts = c.puts } in
    ((x, get-there es.runs (added then acts).runs x at.runs c.runs l.runs, refl), reading next then acts counts)
reading at es (Did (fetched x) ∷ acts) c =
    let then : Entries = record es { fetches = es.fetches ++ x ∷ [] } in
    let next : Places = record at { fetches = at.fetches + 1 } in
    let l : Longer then (added then acts) = longer acts then in
    let counts : Counts next then =
    record { runs = c.runs; fetches = length_push es.fetches x ∙ ap (λ n. n + 1) c.fetches; exchanges = c.exchanges; puts = c.puts } in
    ((x, get-there es.fetches (added then acts).fetches x at.fetches c.fetches l.fetches, refl), reading next then acts counts)
reading at es (Did (exchanged x) ∷ acts) c =
    let then : Entries = record es { exchanges = es.exchanges ++ x ∷ [] } in
    let next : Places = record at { exchanges = at.exchanges + 1 } in
    let l : Longer then (added then acts) = longer acts then in
    let counts : Counts next then =
    record {
      runs = c.runs;
      fetches = c.fetches;
      exchanges = length_push es.exchanges x ∙ ap (λ n. n + 1) c.exchanges;
      puts = c.puts;
    } in
    ((x, get-there es.exchanges (added then acts).exchanges x at.exchanges c.exchanges l.exchanges, refl), reading next then acts counts)
reading at es (Did (put x) ∷ acts) c =
    let then : Entries = record es { puts = es.puts ++ x ∷ [] } in
    let next : Places = record at { puts = at.puts + 1 } in
    let l : Longer then (added then acts) = longer acts then in
    let counts : Counts next then =
    record { runs = c.runs; fetches = c.fetches; exchanges = c.exchanges; puts = length_push es.puts x ∙ ap (λ n. n + 1) c.puts } in
    ((x, get-there es.puts (added then acts).puts x at.puts c.puts l.puts, refl), reading next then acts counts)
reading at es (Did (timed moment) ∷ acts) c = reading at es acts c
reading at es (Met (Takes host) ∷ acts) c = (refl, reading at es acts c)
reading at es (Met (Gives host) ∷ acts) c = (refl, reading at es acts c)
reading at es (Met (GivesBad host until) ∷ acts) c = (refl, reading at es acts c)
reading at es (Met FindsDown ∷ acts) c = (refl, reading at es acts c)
reading at es (Met TakesLocal ∷ acts) c = (refl, reading at es acts c)
reading at es (Met GivesLocal ∷ acts) c = (refl, reading at es acts c)

no-look : (j : Job) (at c : At) (moment : ℕ) → Next j at (Did (timed moment)) c → ⊥
no-look j Start c moment h = h
no-look j LentInPlace c moment h = h
no-look j (RanInPlace r) c moment h = h
no-look j (Send source note tried) c moment h = h
no-look j (Lent host source note tried) c moment h = h
no-look j (RanThere host note r) c moment h = h
no-look j (Sent host source note tried x) c moment h = h
no-look j (Locally source note) c moment h = h
no-look j (LentHere source note) c moment h = h
no-look j (RanHere note r) c moment h = h
no-look j (Finish by note o) c moment h = h
no-look j (Over e) c moment h = h

untimed-from : (j : Job) (acts : List Act) (at : At) (end : End) → From j at acts end → untimed acts ≡ acts
untimed-from j [] at end h = refl
untimed-from j (Did (ran x) ∷ acts) at end (c, next, from) = ap (λ (more : List Act). Did (ran x) ∷ more) (untimed-from j acts c end from)
untimed-from j (Did (fetched x) ∷ acts) at end (c, next, from) =
    ap (λ (more : List Act). Did (fetched x) ∷ more) (untimed-from j acts c end from)
untimed-from j (Did (exchanged x) ∷ acts) at end (c, next, from) =
    ap (λ (more : List Act). Did (exchanged x) ∷ more) (untimed-from j acts c end from)
untimed-from j (Did (put x) ∷ acts) at end (c, next, from) = ap (λ (more : List Act). Did (put x) ∷ more) (untimed-from j acts c end from)
untimed-from j (Did (timed moment) ∷ acts) at end (c, next, from) = absurd (no-look j at c moment next)
untimed-from j (Met x ∷ acts) at end (c, next, from) = ap (λ (more : List Act). Met x ∷ more) (untimed-from j acts c end from)

pub untimed-course : UntimedLaw
untimed-course j acts end course = untimed-from j acts Start end course
