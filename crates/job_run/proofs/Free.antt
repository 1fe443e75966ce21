-- What is free before and after the parts of a job.
use Rattle.std.proofs.Common.{ℕ, ◌+◌, ◌≤◌, Bool, List, arith}
use Rattle.slot_table.specs.declared.calls.CallEntry.{CallEntry}
use Rattle.job_run.specs.Seen.{IsFree, StaysFree}
use Rattle.job_run.proofs.Outstanding.{spare-then, spent-none, spent-then}

-- what is left for the next part
pub free-then : {G : Type 0} {is_ready : G → Type 0} {alone : Bool} {spare_of : G → ℕ} {mine_of : G → List CallEntry} {old mid : G} {left
    left1 e1 events : ℕ} (e2 : ℕ)
    → IsFree is_ready alone spare_of mine_of old left events → StaysFree is_ready alone spare_of mine_of old mid left left1 e1
    → e1 + e2 ≤ events
    → IsFree is_ready alone spare_of mine_of mid left1 e2
free-then e2 free first enough = record {
  ready = first.ready;
  out = first.none;
  spare = spare-then _ _ _ _ _ first.spent free.spare;
  room = let a = free.room in let b = first.room in omega (arith, a, b, enough);
}

-- nothing was done
pub stays-none : {G : Type 0} {is_ready : G → Type 0} {alone : Bool} {spare_of : G → ℕ} {mine_of : G → List CallEntry} {grants : G} {left
    events : ℕ}
    → IsFree is_ready alone spare_of mine_of grants left events → StaysFree is_ready alone spare_of mine_of grants grants left left 0
stays-none free = record { ready = free.ready; none = free.out; spent = spent-none _ _ _; room = omega arith }

-- one part after another
pub stays-then : {G : Type 0} {is_ready : G → Type 0} {alone : Bool} {spare_of : G → ℕ} {mine_of : G → List CallEntry} {old mid new :
    G} {left left1 left2 e1 e2 : ℕ} (events : ℕ)
    → StaysFree is_ready alone spare_of mine_of old mid left left1 e1 → StaysFree is_ready alone spare_of mine_of mid new left1 left2 e2
    → e1 + e2 ≤ events
    → StaysFree is_ready alone spare_of mine_of old new left left2 events
stays-then events first second enough = record {
  ready = second.ready;
  none = second.none;
  spent = spent-then first.spent second.spent;
  room = let a = first.room in let b = second.room in omega (arith, a, b, enough);
}
