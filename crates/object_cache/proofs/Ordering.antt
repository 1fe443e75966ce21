-- Pieces in an order of their own.
use Rattle.std.proofs.Common.{◌≡◌, ℕ, ◌+◌, ◌-◌, ◌<◌, ◌≤◌, List, [], ◌∷◌, ◌++◌, length, get_or, set, take, drop, map, refl, sym, ◌∙◌, ap}
use Rattle.std.proofs.Common.{arith, cond, append_assoc}
use Rattle.std.specs.Prelude.{nat_eq, slice_range}
use Rattle.std.specs.List.{copy_within}
use Rattle.std.proofs.lemmas.List.{length-append, length-drop, length-take, length-take-le, length-map, map-append, take-map, drop-map}
use Rattle.std.proofs.lemmas.List.{take-append-drop, drop_more, get_or-set_same, get_or-set_other, get_or_append_left, get_or_push}
use Rattle.std.proofs.lemmas.List.{take_all, drop_all, take-append-le, drop-append-le, drop-drop, drop-take, take-take, drop_at}
use Rattle.std.proofs.Math.Nat.{lt_of_not-le}
use Rattle.std.proofs.lemmas.Bool.Decides.{nat_tests}
use Rattle.object_cache.specs.Pieces.{in_order, times, turned, IsOrder}

pub times-append : (n : ℕ) (xs ys : List ℕ) → times n (xs ++ ys) ≡ times n xs + times n ys
times-append n [] ys = omega arith
times-append n (x ∷ xs) ys = omega (arith, times-append n xs ys)

times_one : (n x : ℕ) → x ≡ n → ◌≡◌ {A = ℕ} (cond (nat_eq x n) 1 0) 1
times_one n x e = grind (arith, nat_tests)

times_none : (n x : ℕ) → ◌≡◌ {A = ℕ} (cond (nat_eq x n) 1 0) 0 → x ≡ n → ⊥
times_none n x none e = omega (arith, none, times_one n x e)

pub times_here : (xs : List ℕ) (at : ℕ) → at < length xs
    → times (get_or xs at 0) xs ≡ times (get_or xs at 0) (take at xs) + (1 + times (get_or xs at 0) (drop (at + 1) xs))
times_here xs at lt =
    let n = get_or xs at 0 in
    let split : times n xs ≡ times n (take at xs) + times n (drop at xs) =
    ap (times n) (sym (take-append-drop at xs)) ∙ times-append n (take at xs) (drop at xs) in
    let rest : times n (drop at xs) ≡ cond (nat_eq n n) 1 0 + times n (drop (at + 1) xs) = ap (times n) (drop_more xs at 0 lt) in
    omega (arith, split, rest, times_one n n refl)

pub place_within : (count : ℕ) (order : List ℕ) (at : ℕ) → IsOrder count order → at < length order → get_or order at 0 < count
place_within count order at is lt =
    let here = times_here order at lt in
    lt_of_not-le (λ past. let none = is.within (get_or order at 0) past in omega (arith, here, none))

-- the other pieces stay
pub others_stay : (block : List (List ℕ)) (place : ℕ) (piece : List ℕ) (order : List ℕ) → times place order ≡ 0
    → in_order (set block place piece) order ≡ in_order block order
others_stay block place piece [] none = refl
others_stay block place piece (x ∷ order) none =
    let first : ◌≡◌ {A = ℕ} (cond (nat_eq x place) 1 0) 0 = omega (arith, none) in
    let rest : times place order ≡ 0 = omega (arith, none) in
    let apart : x ≡ place → ⊥ = times_none place x first in
    ap (λ p. p ∷ in_order (set block place piece) order) (get_or-set_other block place x piece [] apart)
    ∙ ap (λ ps. get_or block x [] ∷ ps) (others_stay block place piece order rest)

pub put_over : (block : List (List ℕ)) (order : List ℕ) (at place : ℕ) (piece : List ℕ) → IsOrder (length block) order → at < length order
    → place ≡ get_or order at 0
    → in_order (set block place piece) order ≡ take at (in_order block order) ++ piece ∷ drop (at + 1) (in_order block order)
put_over block order at place piece is lt place_is =
    let f : ℕ → List ℕ = λ p. get_or block p [] in
    let here = times_here order at lt in
    let once = is.once (get_or order at 0) in
    let front_none : times place (take at order) ≡ 0 = rw place_is (omega (arith, here, once)) in
    let back_none : times place (drop (at + 1) order) ≡ 0 = rw place_is (omega (arith, here, once)) in
    let within : place < length block = rw place_is (place_within (length block) order at is lt) in
    let split : order ≡ take at order ++ place ∷ drop (at + 1) order =
    sym (take-append-drop at order) ∙ ap (λ xs. take at order ++ xs) (drop_more order at 0 lt)
    ∙ ap (λ p. take at order ++ p ∷ drop (at + 1) order) (sym place_is) in
    ap (in_order (set block place piece)) split
    ∙ map-append (λ p. get_or (set block place piece) p []) (take at order) (place ∷ drop (at + 1) order)
    ∙ ap (λ ps. ps ++ get_or (set block place piece) place [] ∷ in_order (set block place piece) (drop (at + 1) order))
    (others_stay block place piece (take at order) front_none ∙ sym (take-map f at order))
    ∙ ap (λ p. take at (in_order block order) ++ p ∷ in_order (set block place piece) (drop (at + 1) order))
    (get_or-set_same block place piece [] within)
    ∙ ap (λ ps. take at (in_order block order) ++ piece ∷ ps)
    (others_stay block place piece (drop (at + 1) order) back_none ∙ sym (drop-map f (at + 1) order))

-- a piece behind the last
behind_stays : (block : List (List ℕ)) (piece : List ℕ) (order : List ℕ) → ((n : ℕ) → length block ≤ n → times n order ≡ 0)
    → in_order (block ++ piece ∷ []) order ≡ in_order block order
behind_stays block piece [] none = refl
behind_stays block piece (x ∷ order) none =
    let within : x < length block = lt_of_not-le (λ past. let here = none x past in omega (arith, here, times_one x x refl)) in
    let rest : (n : ℕ) → length block ≤ n → times n order ≡ 0 = λ n le. let all = none n le in omega (arith, all) in
    ap (λ p. p ∷ in_order (block ++ piece ∷ []) order) (get_or_append_left block (piece ∷ []) [] x within)
    ∙ ap (λ ps. get_or block x [] ∷ ps) (behind_stays block piece order rest)

pub put_behind : (block : List (List ℕ)) (order : List ℕ) (at : ℕ) (piece : List ℕ) → IsOrder (length block) order → at ≡ length order
    → in_order (block ++ piece ∷ []) (order ++ at ∷ []) ≡ take at (in_order block order) ++ piece ∷ drop (at + 1) (in_order block order)
put_behind block order at piece is at_is =
    let len = length-map order (λ p. get_or block p []) in
    let front : take at (in_order block order) ≡ in_order block order = take_all at (in_order block order) (omega (arith, len, at_is)) in
    let back : drop (at + 1) (in_order block order) ≡ [] = drop_all (at + 1) (in_order block order) (omega (arith, len, at_is)) in
    map-append (λ p. get_or (block ++ piece ∷ []) p []) order (at ∷ [])
    ∙ ap (λ ps. ps ++ get_or (block ++ piece ∷ []) at [] ∷ []) (behind_stays block piece order is.within)
    ∙ ap (λ p. in_order block order ++ p ∷ []) (get_or_push block piece [] at (sym is.len ∙ sym at_is))
    ∙ ap (λ ps. in_order block order ++ piece ∷ ps) (sym back)
    ∙ ap (λ ps. ps ++ piece ∷ drop (at + 1) (in_order block order)) (sym front)

pub order_more : (count : ℕ) (order : List ℕ) (at : ℕ) → IsOrder count order → at ≡ length order → IsOrder (count + 1) (order ++ at ∷ [])
order_more count order at is at_is = record {
  len = omega (arith, length-append order (at ∷ []), is.len);
  once = λ n. let all = times-append n order (at ∷ []) in
      let one = is.once n in
      let none = is.within n in
      grind (arith, nat_tests, all, one, none, is.len, at_is);
  within = λ n le.
      let all = times-append n order (at ∷ []) in
      let none = is.within n (omega (arith, le)) in
      grind (arith, nat_tests, all, none, is.len, at_is, le);
}

-- ---- a turn

pub turned_parts : {X : Type 0} (from mid end : ℕ) (xs : List X) → from ≤ mid → mid ≤ end
    → xs ≡ take from xs ++ ((slice_range xs from mid ++ slice_range xs mid end) ++ drop end xs)
turned_parts from mid end xs first second =
    let a : drop from xs ≡ slice_range xs from mid ++ drop mid xs =
    sym (take-append-drop (mid - from) (drop from xs))
    ∙ ap (λ ys. slice_range xs from mid ++ ys) (drop-drop (mid - from) from xs
    ∙ ap (λ n. drop n xs) (let e : from + (mid - from) ≡ mid = omega (arith, first) in e)) in
    let b : drop mid xs ≡ slice_range xs mid end ++ drop end xs =
    sym (take-append-drop (end - mid) (drop mid xs))
    ∙ ap (λ ys. slice_range xs mid end ++ ys) (drop-drop (end - mid) mid xs
    ∙ ap (λ n. drop n xs) (let e : mid + (end - mid) ≡ end = omega (arith, second) in e)) in
    sym (take-append-drop from xs) ∙ ap (λ ys. take from xs ++ ys)
    (a ∙ ap (λ ys. slice_range xs from mid ++ ys) b ∙ sym (append_assoc (slice_range xs from mid) (slice_range xs mid end) (drop end xs)))

times-turned : (n from mid end : ℕ) (xs : List ℕ) → from ≤ mid → mid ≤ end → times n (turned from mid end xs) ≡ times n xs
times-turned n from mid end xs first second =
    let all = ap (times n) (turned_parts from mid end xs first second) in
    let a = times-append n (take from xs) ((slice_range xs from mid ++ slice_range xs mid end) ++ drop end xs) in
    let b = times-append n (slice_range xs from mid ++ slice_range xs mid end) (drop end xs) in
    let d = times-append n (slice_range xs from mid) (slice_range xs mid end) in
    let e = times-append n (take from xs) ((slice_range xs mid end ++ slice_range xs from mid) ++ drop end xs) in
    let f = times-append n (slice_range xs mid end ++ slice_range xs from mid) (drop end xs) in
    let g = times-append n (slice_range xs mid end) (slice_range xs from mid) in
    omega (arith, all, a, b, d, e, f, g)

pub length-turned : {X : Type 0} (from mid end : ℕ) (xs : List X) → from ≤ mid → mid ≤ end → length (turned from mid end xs) ≡ length xs
length-turned from mid end xs first second =
    let all = ap length (turned_parts from mid end xs first second) in
    let a = length-append (take from xs) ((slice_range xs from mid ++ slice_range xs mid end) ++ drop end xs) in
    let b = length-append (slice_range xs from mid ++ slice_range xs mid end) (drop end xs) in
    let d = length-append (slice_range xs from mid) (slice_range xs mid end) in
    let e = length-append (take from xs) ((slice_range xs mid end ++ slice_range xs from mid) ++ drop end xs) in
    let f = length-append (slice_range xs mid end ++ slice_range xs from mid) (drop end xs) in
    let g = length-append (slice_range xs mid end) (slice_range xs from mid) in
    omega (arith, all, a, b, d, e, f, g)

pub order_turned : (count from mid end : ℕ) (order : List ℕ) → IsOrder count order → from ≤ mid → mid ≤ end
    → IsOrder count (turned from mid end order)
order_turned count from mid end order is first second = record {
  len = length-turned from mid end order first second ∙ is.len;
  once = λ n. let same = times-turned n from mid end order first second in let one = is.once n in omega (arith, same, one);
  within = λ n le. times-turned n from mid end order first second ∙ is.within n le;
}

pub map-range : {X Y : Type 0} (f : X → Y) (a b : ℕ) (xs : List X) → map f (slice_range xs a b) ≡ slice_range (map f xs) a b
map-range f a b xs = sym (take-map f (b - a) (drop a xs)) ∙ ap (take (b - a)) (sym (drop-map f a xs))

pub map-turned : {X Y : Type 0} (f : X → Y) (from mid end : ℕ) (xs : List X)
    → map f (turned from mid end xs) ≡ turned from mid end (map f xs)
map-turned f from mid end xs =
    map-append f (take from xs) ((slice_range xs mid end ++ slice_range xs from mid) ++ drop end xs)
    ∙ ap (λ ys. ys ++ map f ((slice_range xs mid end ++ slice_range xs from mid) ++ drop end xs)) (sym (take-map f from xs))
    ∙ ap (λ ys. take from (map f xs) ++ ys)
    (map-append f (slice_range xs mid end ++ slice_range xs from mid) (drop end xs)
    ∙ ap (λ ys. ys ++ map f (drop end xs))
    (map-append f (slice_range xs mid end) (slice_range xs from mid)
    ∙ ap (λ ys. ys ++ map f (slice_range xs from mid)) (map-range f mid end xs)
    ∙ ap (λ ys. slice_range (map f xs) mid end ++ ys) (map-range f from mid xs))
    ∙ ap (λ ys. (slice_range (map f xs) mid end ++ slice_range (map f xs) from mid) ++ ys) (sym (drop-map f end xs)))

-- a turn within a front is a turn of the front
range_front : {X : Type 0} (a b : ℕ) (xs ys : List X) → a ≤ b → b ≤ length xs → slice_range (xs ++ ys) a b ≡ slice_range xs a b
range_front a b xs ys first within =
    ap (take (b - a)) (drop-append-le a xs ys (omega (arith, first, within)))
    ∙ take-append-le (b - a) (drop a xs) ys (omega (arith, length-drop a xs, within))

turned_front : {X : Type 0} (from mid end : ℕ) (xs ys : List X) → from ≤ mid → mid ≤ end → end ≤ length xs
    → turned from mid end (xs ++ ys) ≡ turned from mid end xs ++ ys
turned_front from mid end xs ys first second within =
    let a = take-append-le from xs ys (omega (arith, first, second, within)) in
    let b = range_front mid end xs ys second within in
    let d = range_front from mid xs ys first (omega (arith, second, within)) in
    let e = drop-append-le end xs ys within in
    let middle = slice_range xs mid end ++ slice_range xs from mid in
    ap (λ zs. zs ++ ((slice_range (xs ++ ys) mid end ++ slice_range (xs ++ ys) from mid) ++ drop end (xs ++ ys))) a
    ∙ ap (λ zs. take from xs ++ ((zs ++ slice_range (xs ++ ys) from mid) ++ drop end (xs ++ ys))) b
    ∙ ap (λ zs. take from xs ++ ((slice_range xs mid end ++ zs) ++ drop end (xs ++ ys))) d
    ∙ ap (λ zs. take from xs ++ (middle ++ zs)) e
    ∙ ap (λ zs. take from xs ++ zs) (sym (append_assoc middle (drop end xs) ys))
    ∙ sym (append_assoc (take from xs) (middle ++ drop end xs) ys)

pub take-turned : {X : Type 0} (used from mid end : ℕ) (xs : List X) → from ≤ mid → mid ≤ end → end ≤ used → used ≤ length xs
    → take used (turned from mid end xs) ≡ turned from mid end (take used xs)
take-turned used from mid end xs first second third within =
    let len : length (take used xs) ≡ used = length-take-le used xs within in
    let same = length-turned from mid end (take used xs) first second in
    ap (λ ys. take used (turned from mid end ys)) (sym (take-append-drop used xs))
    ∙ ap (take used) (turned_front from mid end (take used xs) (drop used xs) first second (omega (arith, len, third)))
    ∙ take-append-le used (turned from mid end (take used xs)) (drop used xs) (omega (arith, len, same))
    ∙ take_all used (turned from mid end (take used xs)) (omega (arith, len, same))

-- a turn, as it is made in a slice
pub turned_is : {X : Type 0} (from mid end : ℕ) (xs rot : List X) → from ≤ mid → mid ≤ end
    → rot ≡ drop (mid - from) (slice_range xs from end) ++ take (mid - from) (slice_range xs from end)
    → take from xs ++ (rot ++ drop (end - from) (drop from xs)) ≡ turned from mid end xs
turned_is from mid end xs rot first second is =
    let sum : end - from ≡ (mid - from) + (end - mid) = omega (arith, first, second) in
    let mid_is : from + (mid - from) ≡ mid = omega (arith, first) in
    let end_is : from + (end - from) ≡ end = omega (arith, first, second) in
    let back : drop (mid - from) (slice_range xs from end) ≡ slice_range xs mid end =
    ap (λ n. drop (mid - from) (take n (drop from xs))) sum ∙ drop-take (mid - from) (end - mid) (drop from xs)
    ∙ ap (take (end - mid)) (drop-drop (mid - from) from xs ∙ ap (λ n. drop n xs) mid_is) in
    let front : take (mid - from) (slice_range xs from end) ≡ slice_range xs from mid =
    take-take (mid - from) (end - from) (drop from xs) (omega (arith, second)) in
    let rest : drop (end - from) (drop from xs) ≡ drop end xs = drop-drop (end - from) from xs ∙ ap (λ n. drop n xs) end_is in
    ap (λ ys. take from xs ++ (ys ++ drop (end - from) (drop from xs)))
    (is ∙ ap (λ ys. ys ++ take (mid - from) (slice_range xs from end)) back ∙ ap (λ ys. slice_range xs mid end ++ ys) front)
    ∙ ap (λ ys. take from xs ++ ((slice_range xs mid end ++ slice_range xs from mid) ++ ys)) rest

-- what is read of the pieces in use
pub read_range : (block : List (List ℕ)) (order : List ℕ) (used first count : ℕ) → first + count ≤ length (take used (in_order block order))
    → in_order block (slice_range order first (first + count)) ≡ take count (drop first (take used (in_order block order)))
read_range block order used first count within =
    let ps = in_order block order in
    let f : ℕ → List ℕ = λ p. get_or block p [] in
    let n : first + count - first ≡ count = omega arith in
    let split : used ≡ first + (used - first) = omega (arith, within, length-take used ps) in
    map-range f first (first + count) order
    ∙ ap (λ m. take m (drop first ps)) n
    ∙ sym (take-take count (used - first) (drop first ps) (omega (arith, within, length-take used ps)))
    ∙ ap (take count) (sym (drop-take first (used - first) ps) ∙ ap (λ m. drop first (take m ps)) (sym split))

pub used_turned : (block : List (List ℕ)) (order : List ℕ) (used from mid end : ℕ) → from ≤ mid → mid ≤ end
    → end ≤ length (take used (in_order block order)) → used ≤ length order
    → take used (in_order block (turned from mid end order)) ≡ turned from mid end (take used (in_order block order))
used_turned block order used from mid end first second third within =
    let f : ℕ → List ℕ = λ p. get_or block p [] in
    let len = length-map order f in
    ap (take used) (map-turned f from mid end order)
    ∙ take-turned used from mid end (in_order block order) first second
    (omega (arith, third, length-take used (in_order block order))) (omega (arith, within, len))

-- a turn by way of a copy of what comes in front
pub moved_is : {X : Type 0} (from mid end : ℕ) (xs ys moved : List X) → from ≤ mid → mid ≤ end → end ≤ length xs
    → ys ≡ copy_within xs from mid (from + (end - mid)) → moved ≡ slice_range xs mid end
    → take from ys ++ (moved ++ drop (end - mid) (drop from ys)) ≡ turned from mid end xs
moved_is from mid end xs ys moved first second third is moved_as =
    let count = end - mid in
    let a = take (from + count) xs in
    let b = slice_range xs from mid in
    let rest = drop (from + count + (mid - from)) xs in
    let a_len : length a ≡ from + count = length-take-le (from + count) xs (omega (arith, first, second, third)) in
    let whole : ys ≡ a ++ (b ++ rest) = is ∙ append_assoc a b rest in
    let end_is : from + count + (mid - from) ≡ end = omega (arith, first, second) in
    let front : take from ys ≡ take from xs =
    ap (take from) whole ∙ take-append-le from a (b ++ rest) (omega (arith, a_len)) ∙ take-take from (from + count) xs (omega arith) in
    let back : drop count (drop from ys) ≡ b ++ drop end xs =
    drop-drop count from ys ∙ ap (drop (from + count)) whole ∙ drop_at a (b ++ rest) (from + count) a_len
    ∙ ap (λ n. b ++ drop n xs) end_is in
    ap (λ zs. zs ++ (moved ++ drop count (drop from ys))) front
    ∙ ap (λ zs. take from xs ++ (zs ++ drop count (drop from ys))) moved_as
    ∙ ap (λ zs. take from xs ++ (slice_range xs mid end ++ zs)) back
    ∙ ap (λ zs. take from xs ++ zs) (sym (append_assoc (slice_range xs mid end) b (drop end xs)))
