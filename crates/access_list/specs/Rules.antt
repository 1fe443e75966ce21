-- What a rule's text says, and what the rules decide.
use Rattle.std.specs.Prelude.{◌≡◌, ◌≢◌, ℕ, suc, ◌-◌, ◌/◌, ◌^◌, ◌==◌, ◌≤◌, Bool, true, false, List, [], ◌∷◌, ◌++◌, length, take, drop, All}
use Rattle.std.specs.Prelude.{Option, Some, None, unwrap_or, if◌then◌else◌}
use Rattle.std.specs.List.{position_or_len}
use Rattle.farm_types.specs.Limits.{rules_max}
use Rattle.farm_types.specs.Decimals.{IsDecimal}
use Rattle.farm_types.specs.Bytes.{slash}
use Rattle.access_list.specs.declared.rule.Rule.{Rule}
use Rattle.access_list.specs.declared.rule.AccessFault.{AccessFault}
use Rattle.access_list.specs.declared.rule.AccessFault.TheVariants.{BadAddress, BadBits}
use Rattle.access_list.specs.declared.decision.Decision.{Decision}
use Rattle.access_list.specs.declared.decision.Decision.TheVariants.{Admitted, Denied}
use Rattle.access_list.specs.Addresses.{IsAddress}

-- the text before the first `/`, and the rest from it on
abbrev pub slash_in : List ℕ → ℕ
slash_in text = position_or_len (λ c. c == slash) text

abbrev pub address_part : List ℕ → List ℕ
address_part text = take (slash_in text) text

abbrev pub bits_part : List ℕ → List ℕ
bits_part text = drop (slash_in text) text

-- What follows an address says this number of bits: `/BITS`, or nothing, which means 32. BITS has 1 or 2 digits and a value of 0 to 32, and may have
-- a leading zero.
abbrev pub bits_of : List ℕ → ℕ → Type 0
bits_of [] bits = bits ≡ 32
bits_of (first ∷ digits) bits = IsDecimal 2 0 32 digits bits

-- the text says this rule
pub record RuleOf (allow : Bool) (text : List ℕ) (rule : Rule) : Type 0 where
  pub allows : rule.allow ≡ allow
  pub address : IsAddress (address_part text) rule.net
  pub bits : bits_of (bits_part text) rule.bits

-- what is wrong with a text that says no rule: the address, or what comes after a right one
abbrev pub WrongRule : List ℕ → AccessFault → Type 0
WrongRule text BadAddress = (addr : ℕ) → IsAddress (address_part text) addr → ⊥
WrongRule text BadBits = ((addr : ℕ) × IsAddress (address_part text) addr) × ((bits : ℕ) → bits_of (bits_part text) bits → ⊥)

-- at most 64 rules, each with at most 32 bits
pub record AreRight (rules : List Rule) : Type 0 where
  pub few : length rules ≤ rules_max
  pub bits : All (λ rule. rule.bits ≤ 32) rules

-- the first `bits` bits of the address are the rule's
abbrev pub matches : ℕ → Rule → Bool
matches addr rule = rule.net / 2 ^ (32 - rule.bits) == addr / 2 ^ (32 - rule.bits)

-- none of these rules matches
abbrev pub NoneMatch : ℕ → List Rule → Type 0
NoneMatch addr [] = Unit {0}
NoneMatch addr (rule ∷ rules) = (matches addr rule ≡ false) × NoneMatch addr rules

-- the rule of this number, from 1, is the first that matches
pub record IsFirstMatch (rules : List Rule) (addr number : ℕ) (rule : Rule) : Type 0 where
  pub before : List Rule
  pub after : List Rule
  pub parts : rules ≡ before ++ rule ∷ after
  pub place : suc (length before) ≡ number
  pub none_before : NoneMatch addr before
  pub match : matches addr rule ≡ true

-- The decision is that of the first rule that matches. If none does, the peer is let in if there are no rules, and denied otherwise.
abbrev pub AccessDecision : List Rule → ℕ → Decision → Type 0
AccessDecision rules addr (Admitted (Some number)) = (rule : Rule) × IsFirstMatch rules addr number rule × (rule.allow ≡ true)
AccessDecision rules addr (Denied (Some number)) = (rule : Rule) × IsFirstMatch rules addr number rule × (rule.allow ≡ false)
AccessDecision rules addr (Admitted None) = rules ≡ []
AccessDecision rules addr (Denied None) = (rules ≢ []) × NoneMatch addr rules

-- the decision by a rule that matches, which has this number
abbrev pub by_rule : Bool → ℕ → Decision
by_rule true number = Admitted (Some number)
by_rule false number = Denied (Some number)

-- the decision by the first of some rules that matches, with numbers that go on from this one
abbrev pub by_first : ℕ → List Rule → ℕ → Option Decision
by_first number [] addr = None
by_first number (rule ∷ rules) addr = if matches addr rule then Some (by_rule rule.allow number) else by_first (suc number) rules addr

abbrev pub by_none : List Rule → Decision
by_none [] = Admitted None
by_none (rule ∷ rules) = Denied None

abbrev pub decision : List Rule → ℕ → Decision
decision rules addr = unwrap_or (by_first 1 rules addr) (by_none rules)
