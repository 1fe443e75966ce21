-- Rows in which the jobs ended never fall.
use Rattle.std.proofs.Common.{◌≡◌, ◌≤◌, nat_le, true, List, [], ◌∷◌, sym, subst, arith}
use Rattle.std.proofs.lemmas.Bool.Decides.{nat_tests}
use mathlib.Core.List.{IsPrefix}
use Rattle.farm_monitor.specs.declared.progress.Progress.{Progress}
use Rattle.farm_monitor.specs.Rows.{opening_row, last_or, last_row, never_falls}

-- the last has no fewer than the one before the first
least_last : (p : Progress) (rows : List Progress) → never_falls p.ended rows ≡ true → p.ended ≤ (last_or p rows).ended
least_last p [] rises = omega arith
least_last p (q ∷ rows) rises =
    let here : nat_le p.ended q.ended ≡ true = grind (arith, nat_tests) in
    let rest : never_falls q.ended rows ≡ true = grind (arith, nat_tests) in
    let more = least_last q rows rest in
    let step : p.ended ≤ q.ended = grind (arith, nat_tests) in
    omega (arith, step, more)

-- nor has it fewer than the last of a beginning
later_from : (p : Progress) (xs ys : List Progress) → IsPrefix xs ys → never_falls p.ended ys ≡ true
    → (last_or p xs).ended ≤ (last_or p ys).ended
later_from p [] ys pre rises = least_last p ys rises
later_from p (x ∷ xs) [] pre rises = absurd (cc (pre.1))
later_from p (x ∷ xs) (y ∷ ys) pre rises =
    let same : x ≡ y = cc (pre.1) in
    let rest : never_falls y.ended ys ≡ true = grind (arith, nat_tests) in
    subst (λ (z : Progress). (last_or z xs).ended ≤ (last_or y ys).ended) (sym same) (later_from y xs ys (pre.0, cc (pre.1)) rest)

pub later_ended : (xs ys : List Progress) → IsPrefix xs ys → never_falls 0 ys ≡ true → (last_row xs).ended ≤ (last_row ys).ended
later_ended xs ys pre rises = later_from opening_row xs ys pre rises
