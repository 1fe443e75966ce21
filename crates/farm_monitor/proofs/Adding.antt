-- A step on the length adds a row, and keeps the rule of the list.
use Rattle.std.proofs.Common.{◌≡◌, ℕ, ◌+◌, ◌≤◌, ◌<◌, ◌==◌, nat_le, Bool, true, false, List, []}
use Rattle.std.proofs.Common.{◌∷◌, ◌++◌, length, refl, ap, sym, ◌∙◌, subst, arith, inl, length-append, None}
use Rattle.std.proofs.lemmas.List.{append-nil}
use Rattle.std.proofs.lemmas.Bool.Decides.{nat_tests}
use mathlib.Core.List.{IsPrefix}
use prog.Atomic.{either}
use Rattle.logbook.specs.Pages.{Cell, cell, keeps, no_nib, step, Moves, Goes}
use Rattle.farm_monitor.specs.declared.progress.Progress.{Progress}
use Rattle.farm_monitor.specs.Rows.{opening_row, last_or, last_row, never_falls}
use Rattle.farm_monitor.specs.Book.{IsKept, AddsAt}
use Rattle.farm_monitor.proofs.Beginnings.{begins_whole}

abbrev pub hidden : List Progress → List Progress
hidden rows = []

abbrev pub trades : List Progress → List Progress → ℕ → Type 0
trades xs ys n = Unit {0}

-- the last row of more rows
pub last_snoc : (p : Progress) (rows : List Progress) (q : Progress) → last_or p (rows ++ q ∷ []) ≡ q
last_snoc p [] q = refl
last_snoc p (r ∷ rows) q = last_snoc r rows q

-- a row with no fewer jobs ended may follow
pub still-rises : (p : Progress) (rows : List Progress) (q : Progress) → never_falls p.ended rows ≡ true
    → (last_or p rows).ended ≤ q.ended → never_falls p.ended (rows ++ q ∷ []) ≡ true
still-rises p [] q rises le = grind (arith, nat_tests)
still-rises p (r ∷ rows) q rises le =
    let here : nat_le p.ended r.ended ≡ true = grind (arith, nat_tests) in
    let rest : never_falls r.ended rows ≡ true = grind (arith, nat_tests) in
    let more = still-rises r rows q rest le in
    rw (here, more) refl

adds-goes : (rows v : List Progress) (p : Progress) (old : ℕ) → length v ≡ old → (last_row v).ended ≤ p.ended
    → never_falls 0 rows ≡ true → IsPrefix v rows
    → (b : Bool) → (length rows == old) ≡ b
    → Goes IsKept hidden trades 0 (v, (no_nib, None)) (λ n. either (n == old) (old + 1) n)
    (AddsAt (step 0 old (old + 1) p) (v, (no_nib, None))) ((length rows, true) ∷ (0, true) ∷ []) rows
adds-goes rows v p old len le rises pre true is =
    let here : length rows ≡ old = grind (arith, nat_tests) in
    let same : v ≡ rows = begins_whole v rows pre (omega arith) in
    let more : never_falls 0 (rows ++ p ∷ []) ≡ true =
    still-rises opening_row rows p rises (subst (λ (xs : List Progress). (last_row xs).ended ≤ p.ended) same le) in
    let n : either (length rows == old) (old + 1) (length rows) ≡ length (rows ++ p ∷ []) =
    rw is (omega (arith, length-append rows (p ∷ []))) in (
      keeps,
      p ∷ [],
      None,
      tt,
      record { words = ap (λ (k : ℕ). (k, true) ∷ (0, true) ∷ []) n; rises = more },
      inl (refl, refl),
      λ found. (ap (λ w. w ++ p ∷ []) (sym same), more),
    )
adds-goes rows v p old len le rises pre false is =
    let all : rows ++ [] ≡ rows = append-nil rows in
    let n : either (length rows == old) (old + 1) (length rows) ≡ length (rows ++ []) = rw is (ap length (sym all)) in (
      keeps,
      [],
      None,
      tt,
      record { words = ap (λ (k : ℕ). (k, true) ∷ (0, true) ∷ []) n; rises = ap (never_falls 0) all ∙ rises },
      inl (refl, refl),
      λ found. absurd (let clash = sym is ∙ found in cc),
    )

-- whatever the list is, the exchange adds the row to all that was seen, or finds that the list is longer
pub adds-moves : (v : List Progress) (p : Progress) (old : ℕ) → length v ≡ old → (last_row v).ended ≤ p.ended
    → Moves IsKept hidden trades 0 (v, (no_nib, None)) (λ n. either (n == old) (old + 1) n)
    (AddsAt (step 0 old (old + 1) p) (v, (no_nib, None)))
adds-moves v p old len le cs rows kept pre away =
    let P : List Cell → Type 0 =
    λ c. (0 < length c) × ((cell c 0).1 ≡ true)
    × Goes IsKept hidden trades 0 (v, (no_nib, None)) (λ n. either (n == old) (old + 1) n)
    (AddsAt (step 0 old (old + 1) p) (v, (no_nib, None))) c rows in
    subst P (sym kept.words) (omega arith, refl, adds-goes rows v p old len le kept.rises pre (length rows == old) refl)
