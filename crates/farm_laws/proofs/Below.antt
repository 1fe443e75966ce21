-- A host that a job has taken is an entry of its list.
use Rattle.std.proofs.Common.{◌≡◌, ℕ, ◌<◌, List, [], ◌∷◌, ◌++◌, Some, None, subst}
use Rattle.farm_machine.specs.declared.reports.End.{End}
use Rattle.farm_machine.specs.Acts.{SlotEvent, Takes, Gives, GivesBad, FindsDown, TakesLocal, GivesLocal, Act, Did, Met, slots_of, Loan}
use Rattle.farm_machine.specs.Acts.{loan_after, loan_of}
use Rattle.farm_machine.specs.Jobs.{Job, host_count}
use Rattle.farm_machine.specs.Course.{At, Start, Send, Next, From, Course}

abbrev IsBelow : ℕ → SlotEvent → Type 0
IsBelow n (Takes host) = host < n
IsBelow n other = Unit {0}

abbrev AreBelow : ℕ → List SlotEvent → Type 0
AreBelow n [] = Unit {0}
AreBelow n (x ∷ xs) = IsBelow n x × AreBelow n xs

next-below : (j : Job) (at c : At) (x : SlotEvent) → Next j at (Met x) c → IsBelow (host_count j) x
next-below j (Send source note tried) c (Takes host) h = h.1
next-below j at c (Takes host) h = absurd h
next-below j at c (Gives host) h = tt
next-below j at c (GivesBad host until) h = tt
next-below j at c FindsDown h = tt
next-below j at c TakesLocal h = tt
next-below j at c GivesLocal h = tt

front-below : (j : Job) (at : At) (acts rest : List Act) (end : End) → From j at (acts ++ rest) end
    → AreBelow (host_count j) (slots_of acts)
front-below j at [] rest end from = tt
front-below j at (Did d ∷ acts) rest end (c, next, from) = front-below j c acts rest end from
front-below j at (Met x ∷ acts) rest end (c, next, from) = (next-below j at c x next, front-below j c acts rest end from)

abbrev LoanBelow : ℕ → Loan → Type 0
LoanBelow n None = Unit {0}
LoanBelow n (Some None) = Unit {0}
LoanBelow n (Some (Some host)) = host < n

loan-below : (n : ℕ) (xs : List SlotEvent) (loan : Loan) → LoanBelow n loan → AreBelow n xs → LoanBelow n (loan_of loan xs)
loan-below n [] loan h below = h
loan-below n (x ∷ xs) loan h below = loan-below n xs (loan_after loan x) (one x h below.0) below.1
  where
    one : (x : SlotEvent) → LoanBelow n loan → IsBelow n x → LoanBelow n (loan_after loan x)
    one (Takes host) h below = below
    one (Gives host) h below = tt
    one (GivesBad host until) h below = tt
    one FindsDown h below = h
    one TakesLocal h below = tt
    one GivesLocal h below = tt

pub lent-below : (j : Job) (acts rest : List Act) (end : End) (host : ℕ) → Course j (acts ++ rest) end
    → loan_of None (slots_of acts) ≡ Some (Some host) → host < host_count j
lent-below j acts rest end host course is =
    subst (LoanBelow (host_count j)) is (loan-below (host_count j) (slots_of acts) None tt (front-below j Start acts rest end course))
