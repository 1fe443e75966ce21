-- What calls that move bytes return, by their script.
use Rattle.std.specs.Prelude.{ℕ, ◌↔◌, ◌≡◌, min, IsTrue, List, Result, Ok, Err, IsErrOf, IfOk, if◌then◌else◌}
use Rattle.edge_traits.specs.declared.faults.EdgeFault.{EdgeFault}
use Rattle.edge_traits.specs.declared.faults.EdgeFault.TheVariants.{Failed}
use Rattle.edge_memory.specs.declared.script.Moves.{Moves}
use Rattle.edge_traits.specs.Calls.{names_next}

-- How many bytes a call moves: 0 if its number is in the list `zeros`, else as many as could be moved (`limit`), but at most `most`.
-- `made` is the number of the calls before it.
abbrev pub next_size : List ℕ → ℕ → ℕ → ℕ → ℕ
next_size zeros most made limit = if names_next zeros made then 0 else min limit most

abbrev pub next_count : Moves → ℕ → ℕ → ℕ
next_count moves made limit = next_size moves.zeros moves.most made limit

-- what the next call returns, if it takes no memory
abbrev pub next_answer : Moves → ℕ → ℕ → Result ℕ EdgeFault
next_answer moves made limit = if names_next moves.fails made then Err Failed else Ok (next_count moves made limit)

-- what the next call may return, if it may run out of memory
pub record IsNextAnswer (moves : Moves) (made limit : ℕ) (result : Result ℕ EdgeFault) : Type 0 where
  pub failed : IsErrOf result Failed ↔ IsTrue (names_next moves.fails made)
  pub moved : IfOk result (λ n. n ≡ next_count moves made limit)

-- how many bytes a call moved
abbrev pub count_of : {E : Type 0} → Result ℕ E → ℕ
count_of (Ok n) = n
count_of (Err fault) = 0
