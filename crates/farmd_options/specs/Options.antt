-- What the options say, by their words: each option is a name and a value.
use Rattle.std.specs.Prelude.{◌≡◌, ℕ, ◌+◌, ◌*◌, ◌<◌, ◌≤◌, ◌==◌, ◌||◌, ◌&&◌, Bool, true, false, List, [], ◌∷◌, length, take, drop, codes}
use Rattle.std.specs.Prelude.{bytes_eq, Option, Some, None, unwrap_or, Result, Ok, Err, if◌then◌else◌}
use Rattle.std.specs.List.{position_or_len}
use Rattle.farm_types.specs.Decimals.{IsDecimal, IsPlainDecimal}
use Rattle.farm_types.specs.Limits.{workers_max, connections_max, cache_max, compilers_max, port_max, rules_max}
use Rattle.allowed_options.specs.Folders.{is_tool_folder}
use Rattle.option_reader.specs.declared.table.Row.{Row}
use Rattle.option_reader.specs.Items.{Item, value_in}
use Rattle.option_reader.specs.Tables.{Table}
use Rattle.option_reader.specs.Readings.{AreOptions, BadOptionAt}
use Rattle.access_list.specs.declared.rule.Rule.{Rule}
use Rattle.access_list.specs.Addresses.{IsAddress}
use Rattle.access_list.specs.Rules.{RuleOf}
use Rattle.farmd_options.specs.declared.name.OptionName.{OptionName}
use Rattle.farmd_options.specs.declared.name.OptionName.TheVariants as option
use Rattle.farmd_options.specs.declared.name.Kind.{Kind}
use Rattle.farmd_options.specs.declared.name.Kind.TheVariants as kind
use Rattle.farmd_options.specs.declared.options.Options.{Options}
use Rattle.farmd_options.specs.Names.{option_named}

-- ---- the options

-- ---- their limits

-- the most folders of tools
abbrev pub tools_max : ℕ
tools_max = 16

-- the most MiB of the book that all doors share
abbrev pub shared_cache_max : ℕ
shared_cache_max = 65536

-- the most seconds of a compile that may be given
abbrev pub job_lifetime_max : ℕ
job_lifetime_max = 1000000

-- the seconds of a compile if none are given
abbrev pub job_lifetime_default : ℕ
job_lifetime_default = 600

-- it may be given more than once
abbrev pub repeats : OptionName → Bool
repeats option.Compiler = true
repeats option.Allow = true
repeats option.Deny = true
repeats option.Tools = true
repeats _ = false

-- what is known of an option: each has a value
abbrev pub row_of : Option OptionName → Option Row
row_of None = None
row_of (Some name) = Some (record { takes_value = true; repeats = repeats name })

-- it is of this kind
abbrev pub is_of : Kind → Option OptionName → Bool
is_of kind.Compiler (Some option.Compiler) = true
is_of kind.Rule (Some option.Allow) = true
is_of kind.Rule (Some option.Deny) = true
is_of kind.Tools (Some option.Tools) = true
is_of _ _ = false

-- how many of these options are of this kind
abbrev pub count_in : Kind → List (List ℕ) → ℕ
count_in kind [] = 0
count_in kind (word ∷ []) = 0
count_in kind (word ∷ value ∷ more) = (if is_of kind (option_named word) then 1 else 0) + count_in kind more

-- ---- their values

-- the place of the first `=` of a value, or its length if there is none
abbrev pub equals_in : List ℕ → ℕ
equals_in value = position_or_len (λ c. c == 61) value

-- the name of a compiler: what is before the first `=`
abbrev pub name_in : List ℕ → List ℕ
name_in value = take (equals_in value) value

-- its program: what is after the first `=`
abbrev pub program_in : List ℕ → List ℕ
program_in value = drop (equals_in value + 1) value

-- NAME=PROGRAM, neither of them empty
pub record IsCompiler (value : List ℕ) : Type 0 where
  pub name : 0 < equals_in value
  pub program : equals_in value + 1 < length value

-- a compiler of this name is among these options
abbrev pub named_in : List (List ℕ) → List ℕ → Bool
named_in [] name = false
named_in (word ∷ []) name = false
named_in (word ∷ value ∷ more) name = (bytes_eq word (codes "--compiler") && bytes_eq (name_in value) name) || named_in more name

-- one rule more
pub record AddsRule (allow : Bool) (before : List (List ℕ)) (value : List ℕ) : Type 0 where
  pub rule : Rule
  pub says : RuleOf allow value rule
  pub room : count_in kind.Rule before < rules_max

-- one compiler more, of another name than those before
pub record AddsCompiler (before : List (List ℕ)) (value : List ℕ) : Type 0 where
  pub compiler : IsCompiler value
  pub other : named_in before (name_in value) ≡ false
  pub room : count_in kind.Compiler before < compilers_max

-- one folder of tools more
pub record AddsTools (before : List (List ℕ)) (value : List ℕ) : Type 0 where
  pub folder : is_tool_folder value ≡ true
  pub room : count_in kind.Tools before < tools_max

-- the number that the value of an option spells
abbrev pub IsSpelled : OptionName → List ℕ → ℕ → Type 0
IsSpelled option.Port value n = IsPlainDecimal 5 1 port_max value n
IsSpelled option.Listen value n = IsAddress value n
IsSpelled option.Jobs value n = IsPlainDecimal 2 1 workers_max value n
IsSpelled option.Serve value n = IsPlainDecimal 6 1 connections_max value n
IsSpelled option.Cache value n = IsDecimal 3 1 cache_max value n
IsSpelled option.SharedCache value n = IsDecimal 5 1 shared_cache_max value n
IsSpelled option.JobLifetime value n = IsPlainDecimal 7 0 job_lifetime_max value n
IsSpelled _ value n = ⊥

-- an option of this name is among these
abbrev pub given_in : List (List ℕ) → List ℕ → Bool
given_in [] name = false
given_in (word ∷ []) name = false
given_in (word ∷ value ∷ more) name = bytes_eq word name || given_in more name

-- a number, without that other option before it
pub record IsSole (name : OptionName) (other : List ℕ) (before : List (List ℕ)) (value : List ℕ) : Type 0 where
  pub number : ℕ
  pub spelled : IsSpelled name value number
  pub sole : given_in before other ≡ false

-- a word may be the value of this option after these words
abbrev pub ValueFits : Option OptionName → List (List ℕ) → List ℕ → Type 0
ValueFits None before value = ⊥
ValueFits (Some option.Compiler) before value = AddsCompiler before value
ValueFits (Some option.Allow) before value = AddsRule true before value
ValueFits (Some option.Deny) before value = AddsRule false before value
ValueFits (Some option.Tools) before value = AddsTools before value
ValueFits (Some option.Cache) before value = IsSole option.Cache (codes "--shared-cache") before value
ValueFits (Some option.SharedCache) before value = IsSole option.SharedCache (codes "--cache") before value
ValueFits (Some name) before value = (n : ℕ) × IsSpelled name value n

-- the options of `farmd`
abbrev pub options : Table
options = record {
  known = λ word. row_of (option_named word);
  Fits = λ before name value. ValueFits (option_named name) before value;
}

-- ---- what they say

-- the number of the option with this value, if it is given
abbrev pub GivenBy : OptionName → Option (List ℕ) → Option ℕ → Type 0
GivenBy name None n = n ≡ None
GivenBy name (Some value) None = (n : ℕ) → IsSpelled name value n → ⊥
GivenBy name (Some value) (Some n) = IsSpelled name value n

pub record Says (words : List (List ℕ)) (items : List Item) (given : Options) : Type 0 where
  pub port : GivenBy option.Port (value_in (codes "--port") items) given.port
  pub listen : GivenBy option.Listen (value_in (codes "--listen") items) given.listen
  pub jobs : GivenBy option.Jobs (value_in (codes "--jobs") items) given.jobs
  pub serve : GivenBy option.Serve (value_in (codes "--serve") items) given.serve
  pub cache : GivenBy option.Cache (value_in (codes "--cache") items) given.cache
  pub shared : GivenBy option.SharedCache (value_in (codes "--shared-cache") items) given.shared
  pub job_lifetime : GivenBy option.JobLifetime (value_in (codes "--job-lifetime") items) given.job_lifetime
  pub compilers : given.compilers ≡ count_in kind.Compiler words
  pub rules : given.rules ≡ count_in kind.Rule words
  pub tools : given.tools ≡ count_in kind.Tools words

-- What these words say; or the place, from 0, of the first that isn't right. That of a missing word is their number.
abbrev pub Reads : List (List ℕ) → Result Options ℕ → Type 0
Reads words (Ok given) = (items : List Item) × AreOptions options words items × Says words items given
Reads words (Err place) = BadOptionAt options words place

-- a number that is given is within these
abbrev pub IsWithin : ℕ → ℕ → Option ℕ → Type 0
IsWithin low high None = Unit {0}
IsWithin low high (Some n) = (low ≤ n) × (n ≤ high)

-- the numbers that are given are within their limits
pub record AreWithin (options : Options) : Type 0 where
  pub port : IsWithin 1 port_max options.port
  pub jobs : IsWithin 1 workers_max options.jobs
  pub serve : IsWithin 1 connections_max options.serve
  pub cache : IsWithin 1 cache_max options.cache
  pub shared : IsWithin 1 shared_cache_max options.shared
  pub job_lifetime : IsWithin 0 job_lifetime_max options.job_lifetime

-- the bytes of a number of MiB
abbrev pub mebibytes : Option ℕ → Option ℕ
mebibytes None = None
mebibytes (Some n) = Some (n * 1048576)

-- how many bytes the book of each door's station may have, if there are books
abbrev pub book_bound : Options → Option ℕ
book_bound options = mebibytes options.cache

-- how many bytes the book that all doors share may have, if there is one
abbrev pub shared_bound : Options → Option ℕ
shared_bound options = mebibytes options.shared

-- a number of seconds; 0 says that there is none
abbrev pub seconds : ℕ → Option ℕ
seconds n = if n == 0 then None else Some n

-- the most seconds that a compile may take, if there is a limit
abbrev pub job_lifetime : Options → Option ℕ
job_lifetime options = seconds (unwrap_or options.job_lifetime job_lifetime_default)
