-- The compilers and the rules that options name.
use Rattle.std.specs.Prelude.{◌≡◌, ℕ, Bool, true, false, List, [], ◌∷◌, ◌++◌, codes, bytes_eq, Option, Some, None, if◌then◌else◌}
use Rattle.std.specs.Option.{option_to_list}
use Rattle.access_list.specs.declared.rule.Rule.{Rule}
use Rattle.access_list.specs.Rules.{RuleOf}
use Rattle.daemon_service.specs.declared.compilers.Compiler.{Compiler}
use Rattle.farmd_options.specs.declared.name.OptionName.{OptionName}
use Rattle.farmd_options.specs.declared.name.OptionName.TheVariants.{Allow, Deny}
use Rattle.farmd_options.specs.Names.{option_named}
use Rattle.farmd_options.specs.Options.{name_in, program_in}

abbrev pub compiler_in : List ℕ → Compiler
compiler_in value = record { name = name_in value; program = program_in value }

-- the compilers that these words name, in their order
abbrev pub compilers_of : List (List ℕ) → List Compiler
compilers_of [] = []
compilers_of (word ∷ []) = []
compilers_of (word ∷ value ∷ more) = if bytes_eq word (codes "--compiler") then compiler_in value ∷ compilers_of more else compilers_of more

-- the folders of tools that these words name, in their order
abbrev pub tools_of : List (List ℕ) → List (List ℕ)
tools_of [] = []
tools_of (word ∷ []) = []
tools_of (word ∷ value ∷ more) = if bytes_eq word (codes "--tools") then value ∷ tools_of more else tools_of more

-- the rule that a value says, or that it says none
abbrev pub SaysRule : Bool → List ℕ → Option Rule → Type 0
SaysRule allow value (Some rule) = RuleOf allow value rule
SaysRule allow value None = (rule : Rule) → RuleOf allow value rule → ⊥

-- the same of an option and its value
abbrev pub RuleIn : List ℕ → Option Rule → Option OptionName → Type 0
RuleIn value found (Some Allow) = SaysRule true value found
RuleIn value found (Some Deny) = SaysRule false value found
RuleIn value found _ = found ≡ None

-- these are the rules that these words name, in their order
abbrev pub AreRules : List (List ℕ) → List Rule → Type 0
AreRules [] rules = rules ≡ []
AreRules (word ∷ []) rules = rules ≡ []
AreRules (word ∷ value ∷ more) rules =
    (found : Option Rule) × RuleIn value found (option_named word) × (rest : List Rule) × (rules ≡ option_to_list found ++ rest)
    × AreRules more rest
