-- What is known of a build that is watched.
use Rattle.std.proofs.Common.{◌≡◌, ℕ, zero, suc, ◌-◌, ◌<◌}
use Rattle.std.proofs.Common.{Bool, true, List, [], ◌∷◌, ◌++◌, length, get_or, map, take, drop, replicate}
use Rattle.std.proofs.Common.{refl, sym, ap, ◌∙◌, subst, arith, inl, inr}
use Rattle.std.specs.Prelude.{All}
use Rattle.std.proofs.lemmas.List.{length-map, length-append}
use Rattle.std.proofs.lemmas.List.Elements.{All-append}
use Rattle.slot_table.specs.declared.limits.Limits.{Limits}
use Rattle.slot_table.specs.declared.state.SlotState.{SlotState}
use Rattle.slot_table.specs.declared.calls.CallEntry.{CallEntry}
use Rattle.edge_traits.specs.Sinks.{SinkView}
use Rattle.farm_machine.specs.declared.reports.Report.{Report}
use Rattle.farm_machine.specs.Jobs.{Job}
use Rattle.progress_lines.specs.declared.line_end.LineEnd.{LineEnd}
use Rattle.progress_lines.specs.declared.line_end.LineEnd.TheVariants.{Whole, SinkFault, Memory}
use Rattle.farm_monitor.specs.declared.progress.Progress.{Progress}
use Rattle.farm_monitor.specs.declared.ends.Watcher.{Watcher}
use Rattle.farm_monitor.specs.Boards.{known_rows, shown_rows}
use Rattle.progress_lines.specs.declared.count.Count.{Count}
use Rattle.progress_lines.specs.Counts.{known, ReadOn, AreLooks}
use Rattle.progress_lines.specs.Printed.{WatchLines, counts_told}
use Rattle.progress_lines.proofs.Going.{read-on, tells-from}
use Rattle.farm_machine.specs.Devices.{Devices}
use Rattle.job_driver.specs.Driven.{JobsRan}
use Rattle.job_driver.specs.declared.marker.Marker.{Marker}
use Rattle.job_driver.specs.Marks.{ended_in, rows_of}
use Rattle.job_driver.specs.Watching.{front, AfterLines, AreMarked, AreRowsOf, AreTold, HasMarkedOff, IsFreshMarker, Lent, LinesTell}
use Rattle.job_driver.specs.Watching.{LinesTellOf, WatchedRan, WatchPrinted}

-- what is written over a whole list is the list then
pub all-written : {X : Type 0} (old new : List X) → length new ≡ length old → take (length old) (new ++ drop (length new) old) ≡ new
all-written [] [] same = refl
all-written [] (y ∷ new) same = absurd (omega (arith, same))
all-written (x ∷ old) [] same = absurd (omega (arith, same))
all-written (x ∷ old) (y ∷ new) same = ap (λ ys. y ∷ ys) (all-written old new (omega (arith, same)))

get-map : {X Y : Type 0} (f : X → Y) (xs : List X) (k : ℕ) (x : X) (y : Y) → k < length xs → get_or (map f xs) k y ≡ f (get_or xs k x)
get-map f [] k x y below = absurd (omega (arith, below))
get-map f (z ∷ xs) zero x y below = refl
get-map f (z ∷ xs) (suc k) x y below = get-map f xs k x y (omega (arith, below))

-- what holds of all that is made of a list's elements
pub all-of-map : {X Y : Type 0} (f : X → Y) (P : Y → Type 0) (xs : List X) (ys : List Y) → map f xs ≡ ys → All P ys → All (λ x. P (f x)) xs
all-of-map f P xs ys is all k x below =
    let len : length ys ≡ length xs = ap length (sym is) ∙ length-map xs f in
    subst P (ap (λ zs. get_or zs k (f x)) (sym is) ∙ get-map f xs k x (f x) below) (all k (f x) (omega (arith, len, below)))

at-both : {X Y : Type 0} (f : X → Y) (Q : Y → Y → Type 0) (xs ys : List X) (k : ℕ) (y : Y) → k < length xs → length ys ≡ length xs
    → ((x : X) → k < length xs → Q (f (get_or xs k x)) (f (get_or ys k x))) → Q (get_or (map f xs) k y) (get_or (map f ys) k y)
at-both f Q [] ys k y below same h = absurd (omega (arith, below))
at-both f Q (x ∷ xs) [] k y below same h = absurd (omega (arith, same))
at-both f Q (x ∷ xs) (z ∷ ys) zero y below same h = h x below
at-both f Q (x ∷ xs) (z ∷ ys) (suc k) y below same h =
    at-both f Q xs ys k y (omega (arith, below)) (omega (arith, same)) (λ w less. h w below)

-- what holds of two lists at one place holds of what is made of them
pub both-of-map : {X Y : Type 0} (f : X → Y) (Q : Y → Y → Type 0) (xs ys : List X) (us vs : List Y) → map f xs ≡ us → vs ≡ map f ys
    → length ys ≡ length xs → (k : ℕ) (y : Y) → k < length us
    → ((x : X) → k < length xs → Q (f (get_or xs k x)) (f (get_or ys k x))) → Q (get_or us k y) (get_or vs k y)
both-of-map f Q xs ys us vs first second same k y below h =
    subst (λ zs. Q (get_or zs k y) (get_or vs k y)) first (subst (λ zs. Q (get_or (map f xs) k y) (get_or zs k y)) (sym second)
    (at-both f Q xs ys k y (let len = ap length (sym first) ∙ length-map xs f in omega (arith, len, below)) same h))

-- two lists of which the same is made at each place
pub same-map : {X Y : Type 0} (f : X → Y) (xs ys : List X) → length ys ≡ length xs
    → ((k : ℕ) (x : X) → k < length xs → f (get_or ys k x) ≡ f (get_or xs k x)) → map f ys ≡ map f xs
same-map f [] [] same h = refl
same-map f [] (y ∷ ys) same h = absurd (omega (arith, same))
same-map f (x ∷ xs) [] same h = absurd (omega (arith, same))
same-map f (x ∷ xs) (y ∷ ys) same h =
    let here : f y ≡ f x = h zero x (omega arith) in
    let rest : map f ys ≡ map f xs = same-map f xs ys (omega (arith, same)) (λ k z below. h (suc k) z (omega (arith, below))) in
    cc (here, rest)

pub map-twice : {X Y Z : Type 0} (f : Y → Z) (g : X → Y) (xs : List X) → map f (map g xs) ≡ map (λ x. f (g x)) xs
map-twice f g [] = refl
map-twice f g (x ∷ xs) = ap (λ zs. f (g x) ∷ zs) (map-twice f g xs)

-- what is made of a list's element at a place
pub get-of-map : {X Y : Type 0} (f : X → Y) (xs : List X) (k : ℕ) (x : X) → get_or (map f xs) k (f x) ≡ f (get_or xs k x)
get-of-map f [] k x = refl
get-of-map f (z ∷ xs) zero x = refl
get-of-map f (z ∷ xs) (suc k) x = get-of-map f xs k x

one-fresh : (marker : Marker) → IsFreshMarker marker → All IsFreshMarker (marker ∷ [])
one-fresh marker fresh zero other below = fresh
one-fresh marker fresh (suc k) other below = absurd (omega (arith, below))

-- one fresh board more
pub fresh_more : (markers : List Marker) (marker : Marker) → All IsFreshMarker markers → IsFreshMarker marker
    → All IsFreshMarker (markers ++ marker ∷ [])
fresh_more markers marker all one = All-append IsFreshMarker markers (marker ∷ []) all (one-fresh marker one)

-- one watcher more that has read nothing
pub unread_more : (watchers : List Watcher) (watcher : Watcher) → known watchers ≡ replicate (length watchers) [] → known_rows watcher ≡ []
    → known (watchers ++ watcher ∷ []) ≡ replicate (length (watchers ++ watcher ∷ [])) []
unread_more [] watcher so_far none = rw none refl
unread_more (w ∷ watchers) watcher so_far none =
    let rest = unread_more watchers watcher (cc so_far) none in cc (so_far, rest)

take-front : {X : Type 0} (xs ys : List X) → take (length xs) (xs ++ ys) ≡ xs
take-front [] ys = refl
take-front (x ∷ xs) ys = ap (λ zs. x ∷ zs) (take-front xs ys)

-- all but the last
front-of : {X : Type 0} (xs : List X) (x : X) → front (xs ++ x ∷ []) ≡ xs
front-of xs x =
    let len : length (xs ++ x ∷ []) - 1 ≡ length xs = omega (arith, length-append xs (x ∷ [])) in
    ap (λ n. take n (xs ++ x ∷ [])) len ∙ take-front xs (x ∷ [])

at-end : {X : Type 0} (xs : List X) (x other : X) → get_or (xs ++ x ∷ []) (length xs) other ≡ x
at-end [] x other = refl
at-end (y ∷ xs) x other = at-end xs x other

-- the last
last-of : {X : Type 0} (xs : List X) (x other : X) → get_or (xs ++ x ∷ []) (length (xs ++ x ∷ []) - 1) other ≡ x
last-of xs x other =
    let len : length (xs ++ x ∷ []) - 1 ≡ length xs = omega (arith, length-append xs (x ∷ [])) in
    ap (λ n. get_or (xs ++ x ∷ []) n other) len ∙ at-end xs x other

-- the kits but the last did all jobs, and the last was lent
pub watched-ran : {K : Type 0} (d : Devices K) (l : Limits 16) (jobs : ℕ → Job) (period workers : ℕ) (reports : List Report)
    (history : List CallEntry)
    (last : SlotState 16) (before after : List K) (lender back : K) (old new : List K)
    → JobsRan d l jobs period workers reports history last before after
    → Lent d lender back → old ≡ before ++ lender ∷ [] → new ≡ after ++ back ∷ []
    → WatchedRan d l jobs period workers reports history last old new
watched-ran d l jobs period workers reports history last before after lender back old new ran lent was is =
    subst (λ (ks : List _). WatchedRan d l jobs period workers reports history last ks new) (sym was)
    (subst (λ (ks : List _). WatchedRan d l jobs period workers reports history last (before ++ lender ∷ []) ks) (sym is) (record {
      ran = subst (λ ks. JobsRan d l jobs period workers reports history last ks (front (after ++ back ∷ [])))
          (sym (front-of before lender))
          (subst (λ ks. JobsRan d l jobs period workers reports history last before ks) (sym (front-of after back)) ran);
      same = let s = ran.same in omega (arith, s, length-append before (lender ∷ []), length-append after (back ∷ []));
      lent = λ other.
          let s = ran.same in
          let len : length (before ++ lender ∷ []) - 1 ≡ length (after ++ back ∷ []) - 1 =
          omega (arith, s, length-append before (lender ∷ []), length-append after (back ∷ [])) in
          let there : get_or (after ++ back ∷ []) (length (before ++ lender ∷ []) - 1) other ≡ back =
          ap (λ n. get_or (after ++ back ∷ []) n other) len ∙ last-of after back other in
          subst (λ k. Lent d k (get_or (after ++ back ∷ []) (length (before ++ lender ∷ []) - 1) other)) (sym (last-of before lender other))
          (subst (λ k. Lent d lender k) (sym there) lent);
    }))

-- lines from some least on
pub lines-tell : (jobs workers lines least : ℕ) (first last : List (List Progress)) (old new : SinkView) (end : LineEnd)
    → (w : WatchLines jobs workers 1 lines least old new end)
    → AreLooks jobs first (counts_told jobs workers 1 lines least old new end w) last
    → LinesTell jobs workers lines first last old new end
lines-tell jobs workers lines least first last old new end w looks =
    let tells = tells-from jobs workers 1 lines least 0 first last old new end (omega arith) (record { printed = w; looks = looks }) in
    record { printed = tells.printed; looks = tells.looks }

-- what was marked on a fresh board is just the rows of the jobs
pub marked-from : (old new : Marker) (reports : List Report) → IsFreshMarker old → HasMarkedOff old new reports → new.all ≡ true
    → shown_rows new.shower ≡ rows_of 0 (map (λ report. report.number) reports)
marked-from old new reports fresh marked all =
    subst (λ (rows : List Progress). shown_rows new.shower ≡ rows ++ rows_of (ended_in rows) (map (λ report. report.number) reports)) fresh.1
    (marked.added all).1

told-at : (markers : List Marker) (watchers : List Watcher) → AreTold markers watchers → (k : ℕ) (other : Marker) → k < length markers
    → ((get_or markers k other).all ≡ true) × (get_or (known watchers) k [] ≡ shown_rows (get_or markers k other).shower)
told-at [] watchers told k other below = absurd (omega (arith, below))
told-at (m ∷ markers) [] told k other below = absurd told
told-at (m ∷ markers) (w ∷ watchers) told zero other below = told.0
told-at (m ∷ markers) (w ∷ watchers) told (suc k) other below = told-at markers watchers told.1 k other (omega (arith, below))

-- each watcher that was told of its board knows just the rows of its worker's reports
pub rows-told : (workers : ℕ) (reports : List Report) (markers : List Marker) (watchers : List Watcher) → length markers ≡ workers
    → AreMarked reports markers → AreTold markers watchers → AreRowsOf workers reports (known watchers)
rows-told workers reports [] watchers same marked told worker below = absurd (omega (arith, same, below))
rows-told workers reports (m ∷ markers) watchers same marked told worker below =
    let inside : worker < length (m ∷ markers) = omega (arith, same, below) in
    let t = told-at (m ∷ markers) watchers told worker m inside in
    t.1 ∙ marked worker m inside t.0

looks-to : (jobs : ℕ) (first mid last : List (List Progress)) (counts : List Count) → AreLooks jobs first counts mid → ReadOn mid last
    → AreLooks jobs first counts last
looks-to jobs first mid last [] looks more = read-on first mid last looks more
looks-to jobs first mid last (c ∷ counts) looks more = (looks.0, looks.1, looks.2, looks-to jobs looks.0 mid last counts looks.3 more)

-- more of the boards may be read in the end
pub tell-to : (jobs workers lines : ℕ) (first mid last : List (List Progress)) (old new : SinkView) (end : LineEnd)
    → LinesTell jobs workers lines first mid old new end → ReadOn mid last → LinesTell jobs workers lines first last old new end
tell-to jobs workers lines first mid last old new end tells more = record {
  printed = tells.printed;
  looks = looks-to jobs first mid last (counts_told jobs workers 1 lines 0 old new end tells.printed) tells.looks more;
}

-- the last line was printed where all others were
pub last-printed : (jobs workers lines : ℕ) (rows : List (List Progress)) (told : Bool) (old mid new : SinkView) (lines_end end : LineEnd)
    → LinesTellOf jobs workers lines rows old mid lines_end → AfterLines jobs lines_end told mid new end
    → WatchPrinted jobs workers lines rows told old new end
last-printed jobs workers lines rows told old mid new Whole end so_far after = inr (mid, so_far, after)
last-printed jobs workers lines rows told old mid new SinkFault end so_far after = inl (
  (λ whole. absurd (let clash = sym after.0 ∙ whole in cc)),
  subst (λ (e : LineEnd). LinesTellOf jobs workers lines rows old new e) (sym after.0)
      (subst (λ (s : SinkView). LinesTellOf jobs workers lines rows old s SinkFault) (sym after.1) so_far),
)
last-printed jobs workers lines rows told old mid new Memory end so_far after = inl (
  (λ whole. absurd (let clash = sym after.0 ∙ whole in cc)),
  subst (λ (e : LineEnd). LinesTellOf jobs workers lines rows old new e) (sym after.0)
      (subst (λ (s : SinkView). LinesTellOf jobs workers lines rows old s Memory) (sym after.1) so_far),
)
