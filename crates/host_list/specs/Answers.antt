-- How a result agrees with a meaning or with a fault, apart from lack of memory.
use Rattle.std.specs.Prelude.{ℕ, ◌≡◌, ◌⊎◌, Result, MatchResult}
use Rattle.host_list.specs.declared.fault.HostFault.{HostFault}
use Rattle.host_list.specs.declared.fault.HostError.{HostError}
use Rattle.host_list.specs.declared.fault.HostError.TheVariants.{Fault, Memory}

-- the error is a fault that the text has, or memory ran out
abbrev pub IsError : (ℕ → HostFault → Type 0) → HostError → Type 0
IsError Stands (Fault at fault) = Stands at fault
IsError Stands Memory = Unit {0}

-- the result is this value, unless memory ran out
abbrev pub Gives : {T : Type 0} → T → Result T HostError → Type 0
Gives value result = MatchResult result (λ given. given ≡ value) (λ e. e ≡ Memory)

-- the result is this fault, unless memory ran out
abbrev pub GivesFault : {T : Type 0} → ℕ → HostFault → Result T HostError → Type 0
GivesFault at fault result = MatchResult result (λ given. ⊥) (λ e. (e ≡ Fault at fault) ⊎ (e ≡ Memory))
