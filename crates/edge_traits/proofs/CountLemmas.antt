-- How far a count rose, over several calls.
use Rattle.std.proofs.Common.{ℕ, ◌+◌, ◌-◌, ◌^◌, ◌≤◌, ◌≡◌, ◌∙◌, Bool, true, false, min, max, ltb-true, ltb-false, sym, subst, refl, arith}
use Rattle.std.specs.Prelude.{if◌then◌else◌, nat_lt}
use Rattle.edge_traits.specs.Calls.{greatest, one_more}
use Rattle.edge_traits.specs.Causes.{RoseBy, Rose, RoseOnce, RoseJust}

capped : (top a m b n c : ℕ) → min (a + m) top ≤ b → min (b + n) top ≤ c → min (a + (m + n)) top ≤ c
capped top a m b n c first second = omega arith

-- a count that rose by m and then by n rose by both together
pub RoseBy-then : (m n a b c : ℕ) → RoseBy m a b → RoseBy n b c → RoseBy (m + n) a c
RoseBy-then m n a b c first second = capped (2 ^ 64 - 1) a m b n c first second

-- a count that rose and didn't fall afterwards, or rose after it hadn't fallen, rose
pub RoseBy-later : (n a b c : ℕ) → RoseBy n a b → b ≤ c → RoseBy n a c
RoseBy-later n a b c rose later = omega arith

above : (top a b n c : ℕ) → a ≤ b → min (b + n) top ≤ c → min (a + n) top ≤ c
above top a b n c later rose = omega arith

pub later-RoseBy : (n a b c : ℕ) → a ≤ b → RoseBy n b c → RoseBy n a c
later-RoseBy n a b c later rose = above (2 ^ 64 - 1) a b n c later rose

rises-or-stands : (a : ℕ) (below : Bool) → nat_lt a greatest ≡ below → Rose a (if below then a + 1 else a)
rises-or-stands a true is = omega arith
rises-or-stands a false is = let most = ltb-false a greatest is in omega (arith, most)

-- a count that rose by just one rose
pub once-rose : (a b : ℕ) → RoseOnce a b → Rose a b
once-rose a b once = subst (Rose a) (sym once) (rises-or-stands a (nat_lt a greatest) refl)

just-more : (top n a b : ℕ) (below : Bool) → nat_lt b top ≡ below → b ≡ max a (min (a + n) top)
    → (if below then b + 1 else b) ≡ max a (min (a + (n + 1)) top)
just-more top n a b true is rose = let less = ltb-true b top is in omega (arith, less, rose)
just-more top n a b false is rose = let most = ltb-false b top is in omega (arith, most, rose)

-- a count that rose by n and then by one rose by both together
pub just-once : (n a b c : ℕ) → RoseJust n a b → RoseOnce b c → RoseJust (n + 1) a c
just-once n a b c rose once = once ∙ just-more (2 ^ 64 - 1) n a b (nat_lt b greatest) refl rose

-- a count that rose by just this number rose by it
pub just-rose : (n a b : ℕ) → RoseJust n a b → RoseBy n a b
just-rose n a b rose = above-most (2 ^ 64 - 1) n a b rose
  where
    above-most : (top n a b : ℕ) → b ≡ max a (min (a + n) top) → min (a + n) top ≤ b
    above-most top n a b rose = omega (arith, rose)

-- a count that stands still rose by none
pub just-still : (a b : ℕ) → b ≡ a → RoseJust 0 a b
just-still a b still = stands (2 ^ 64 - 1) a b still
  where
    stands : (top a b : ℕ) → b ≡ a → b ≡ max a (min (a + 0) top)
    stands top a b still = omega (arith, still)
