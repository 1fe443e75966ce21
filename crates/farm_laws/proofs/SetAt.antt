-- Functions with another value at one place.
use Rattle.std.proofs.Common.{◌≡◌, ◌≢◌, ℕ, Bool, true, false, cond, nat_eq, refl, ap, eq-eqb, ne_eqb}
use Rattle.std.proofs.lemmas.Bool.{eqb-true, eqb-false}
use Rattle.farm_machine.specs.Machine.{set_at}

pub set_at-elim : {A : Type 0} (P : A → Type 0) (f : ℕ → A) (k : ℕ) (a : A) (n : ℕ) → (n ≡ k → P a) → (n ≢ k → P (f n)) → P (set_at f k a n)
set_at-elim {A} P f k a n hit miss = go (nat_eq n k) refl
  where
    go : (b : Bool) → nat_eq n k ≡ b → P (cond b a (f n))
    go true e = hit (eqb-true n k e)
    go false e = miss (eqb-false n k e)

pub set_at-same : {A : Type 0} (f : ℕ → A) (k : ℕ) (a : A) → set_at f k a k ≡ a
set_at-same f k a = ap (λ b. cond b a (f k)) (eq-eqb k k refl)

pub set_at-other : {A : Type 0} (f : ℕ → A) (k : ℕ) (a : A) (n : ℕ) → n ≢ k → set_at f k a n ≡ f n
set_at-other f k a n other = ap (λ b. cond b a (f n)) (ne_eqb n k other)
