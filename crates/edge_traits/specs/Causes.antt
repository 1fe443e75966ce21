-- When a device may return an error, and when it may run out of memory.
use Rattle.std.specs.Prelude.{◌≡◌, ◌⊎◌, ℕ, ◌+◌, ◌-◌, ◌^◌, ◌≤◌, min, max, Result, IsErrOf, OnOk}
use Rattle.edge_traits.specs.declared.faults.EdgeFault.{EdgeFault}
use Rattle.edge_traits.specs.declared.faults.EdgeFault.TheVariants.{Failed, Memory}
use Rattle.edge_traits.specs.Calls.{one_more}

-- A count rose by at least this number. One that is at the greatest u64 counts as risen, by any number.
abbrev pub RoseBy : ℕ → ℕ → ℕ → Type 0
RoseBy number before now = min (before + number) (2 ^ 64 - 1) ≤ now

-- a count rose
abbrev pub Rose : ℕ → ℕ → Type 0
Rose before now = RoseBy 1 before now

-- a count rose by exactly one; one that was at the greatest u64 didn't change
abbrev pub RoseOnce : ℕ → ℕ → Type 0
RoseOnce before now = now ≡ one_more before

-- A count rose by exactly this number, as far as the greatest u64 lets it.
abbrev pub RoseJust : ℕ → ℕ → ℕ → Type 0
RoseJust number before now = now ≡ max before (min (before + number) (2 ^ 64 - 1))

-- a count is unchanged
abbrev pub Still : ℕ → ℕ → Type 0
Still before now = now ≡ before

-- exactly one of two counts rose, by one
abbrev pub OneRose : ℕ → ℕ → ℕ → ℕ → Type 0
OneRose first first' second second' = (RoseOnce first first' × Still second second') ⊎ (Still first first' × RoseOnce second second')

-- `Failed` is answered only if the count rose. With any other answer, lack of memory too, the count doesn't change.
pub record HasCause {T : Type 0} (before now : ℕ) (result : Result T EdgeFault) : Type 0 where
  pub later : before ≤ now
  pub failed : IsErrOf result Failed → Rose before now
  pub done : OnOk result (Still before now)
  pub memory : IsErrOf result Memory → Still before now

-- a count rose by one at most: what was being written couldn't be removed
abbrev pub IsRemoval : ℕ → ℕ → Type 0
IsRemoval before now = now ≤ before + 1

-- The same of a step of a put. After any fault of it what was being written is removed, and that may fail too.
pub record HasPutCause {T : Type 0} (before now : ℕ) (result : Result T EdgeFault) : Type 0 where
  pub later : before ≤ now
  pub failed : IsErrOf result Failed → Rose before now
  pub done : OnOk result (Still before now)
  pub memory : IsErrOf result Memory → IsRemoval before now
