-- The numbers of calls, and which of them fail.
use Rattle.std.specs.Prelude.{ℕ, zero, suc, ◌+◌, Bool, List, nat_eq, nat_lt, ◌&&◌, if◌then◌else◌}
use Rattle.std.specs.List.{list_any}

-- the greatest u64
abbrev pub greatest : ℕ
greatest = 18446744073709551615

-- the list has this number
abbrev pub is_in : ℕ → List ℕ → Bool
is_in n numbers = list_any (λ m. nat_eq m n) numbers

-- The list has the number of the call after that many. Calls are numbered from 1, and those past the greatest u64 have no number.
abbrev pub names_next : List ℕ → ℕ → Bool
names_next numbers made = nat_lt made greatest && is_in (made + 1) numbers

-- how many calls were made after one more, counted up to the greatest u64
abbrev pub one_more : ℕ → ℕ
one_more made = if nat_lt made greatest then made + 1 else made

-- how many of the first calls have their number in the list
abbrev pub failed_calls : List ℕ → ℕ → ℕ
failed_calls fails zero = 0
failed_calls fails (suc made) = (if is_in (suc made) fails then 1 else 0) + failed_calls fails made
