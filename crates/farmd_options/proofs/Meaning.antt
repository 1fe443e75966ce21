-- Words ask for one thing, and name one list of rules.
use Rattle.std.proofs.Common.{◌≡◌, ℕ, ◌+◌, ◌-◌, ◌<◌, ◌≤◌, Bool, true, false, List, [], ◌∷◌, ◌++◌, length, map, take, drop, get_or, refl}
use Rattle.std.proofs.Common.{sym, ◌∙◌, ap, subst, append_assoc, length-append, arith}
use Rattle.std.specs.Prelude.{◌&&◌, ◌||◌, codes, bytes_eq, Option, Some, None, is_some, Result, Ok, Err, All, IfSome, IfNone, if◌then◌else◌}
use Rattle.std.specs.Option.{option_to_list}
use Rattle.std.proofs.lemmas.List.Elements.{All-nil, All-cons, All-append}
use Rattle.std.proofs.Math.Seq.{take-length}
use Rattle.std.proofs.lemmas.List.{append-nil}
use Rattle.farm_types.specs.Limits.{cache_max, compilers_max, connections_max, port_max, rules_max, workers_max}
use Rattle.farm_types.proofs.DecimalLemmas.{one_decimal, one_plain}
use Rattle.farm_types.specs.Decimals.{IsPlainDecimal}
use Rattle.access_list.specs.declared.rule.Rule.{Rule}
use Rattle.access_list.specs.Rules.{RuleOf, AreRight, bits_of, bits_part}
use Rattle.access_list.proofs.Cutting.{one_rule, one_address}
use Rattle.option_reader.specs.Items.{Item, items_words, value_words, stands_in, value_in}
use Rattle.option_reader.specs.Tables.{has_value, may_stand, follows, HasValue, StandBehind}
use Rattle.option_reader.specs.Readings.{AreOptions}
use Rattle.option_reader.proofs.Steps.{stand_more}
use Rattle.option_reader.proofs.Reading.{one_items, not_both, one_place}
use Rattle.daemon_service.specs.declared.compilers.Compiler.{Compiler}
use Rattle.farmd_options.specs.declared.name.OptionName.{OptionName}
use Rattle.farmd_options.specs.declared.name.OptionName.TheVariants as option
use Rattle.farmd_options.specs.declared.name.Kind.{Kind}
use Rattle.farmd_options.specs.declared.name.Kind.TheVariants as kind
use Rattle.farmd_options.specs.declared.options.Options.{Options}
use Rattle.farmd_options.specs.declared.command.Command.{Command}
use Rattle.farmd_options.specs.declared.command.Command.TheVariants.{Help, Version, Serve}
use Rattle.farmd_options.specs.Names.{option_named}
use Rattle.farmd_options.specs.Options.{row_of, is_of, count_in, name_in, named_in, IsWithin, AreWithin, IsSpelled, ValueFits, GivenBy, tools_max, job_lifetime_max, shared_cache_max, given_in}
use Rattle.farmd_options.specs.Options.{Says, Reads, options}
use Rattle.farmd_options.specs.Commands.{asked, served, trusts, settings_of, placed, ByFirst, ReadWords}
use Rattle.farmd_options.specs.Tables.{SaysRule, RuleIn, AreRules, compilers_of, tools_of}

abbrev as_command : Command → Result Command ℕ
as_command command = Ok command

one_spelled : (name : OptionName) (value : List ℕ) (n m : ℕ) → IsSpelled name value n → IsSpelled name value m → n ≡ m
one_spelled option.Port value n m p q = one_plain _ _ _ _ n m p q
one_spelled option.Listen value n m p q = one_address value n m p q
one_spelled option.Jobs value n m p q = one_plain _ _ _ _ n m p q
one_spelled option.Serve value n m p q = one_plain _ _ _ _ n m p q
one_spelled option.Cache value n m p q = one_decimal _ _ _ _ n m p q
one_spelled option.SharedCache value n m p q = one_decimal _ _ _ _ n m p q
one_spelled option.JobLifetime value n m p q = one_plain _ _ _ _ n m p q
one_spelled option.Compiler value n m p q = absurd p
one_spelled option.Tools value n m p q = absurd p
one_spelled option.Allow value n m p q = absurd p
one_spelled option.Deny value n m p q = absurd p

one_given : (name : OptionName) (value : Option (List ℕ)) (a b : Option ℕ) → GivenBy name value a → GivenBy name value b → a ≡ b
one_given name None a b p q = p ∙ sym q
one_given name (Some value) None None p q = refl
one_given name (Some value) None (Some n) p q = absurd (p n q)
one_given name (Some value) (Some n) None p q = absurd (q n p)
one_given name (Some value) (Some n) (Some m) p q = ap Some (one_spelled name value n m p q)

one_saying : (words : List (List ℕ)) (items : List Item) (a b : Options) → Says words items a → Says words items b → a ≡ b
one_saying words items a b p q = λ i. record {
  port = one_given option.Port (value_in (codes "--port") items) a.port b.port p.port q.port i;
  listen = one_given option.Listen (value_in (codes "--listen") items) a.listen b.listen p.listen q.listen i;
  jobs = one_given option.Jobs (value_in (codes "--jobs") items) a.jobs b.jobs p.jobs q.jobs i;
  serve = one_given option.Serve (value_in (codes "--serve") items) a.serve b.serve p.serve q.serve i;
  cache = one_given option.Cache (value_in (codes "--cache") items) a.cache b.cache p.cache q.cache i;
  shared = one_given option.SharedCache (value_in (codes "--shared-cache") items) a.shared b.shared p.shared q.shared i;
  job_lifetime = one_given option.JobLifetime (value_in (codes "--job-lifetime") items) a.job_lifetime b.job_lifetime
      p.job_lifetime q.job_lifetime i;
  compilers = (p.compilers ∙ sym q.compilers) i;
  rules = (p.rules ∙ sym q.rules) i;
  tools = (p.tools ∙ sym q.tools) i;
}

one_reading : (words : List (List ℕ)) (r s : Result Options ℕ) → Reads words r → Reads words s → r ≡ s
one_reading words (Ok a) (Ok b) p q =
    let same = one_items options words p.0 q.0 p.1 q.1 in
    ap Ok (one_saying words q.0 a b (subst (λ items. Says words items a) same p.2) q.2)
one_reading words (Ok a) (Err place) p q = absurd (not_both options words p.0 place p.1 q)
one_reading words (Err place) (Ok b) p q = absurd (not_both options words q.0 place q.1 p)
one_reading words (Err place) (Err there) p q = ap Err (one_place options words place there p q)

one_first : (words : List (List ℕ)) (first : Option Command) (r s : Result Command ℕ) → ByFirst words r first
    → ByFirst words s first → r ≡ s
one_first words (Some command) r s p q = p ∙ sym q
one_first words None r s p q = p.2 ∙ ap served (one_reading words p.0 q.0 p.1 q.1) ∙ sym q.2

pub once : (words : List (List ℕ)) (r s : Result Command ℕ) → ReadWords words r → ReadWords words s → r ≡ s
once words r s p q = p.2 ∙ ap (placed (trusts words)) (one_first (settings_of words) (asked (settings_of words)) p.0 q.0 p.1 q.1) ∙ sym q.2

-- a command is that of the words without `--trust-options`
unplaced : (trusting : Bool) (command : Command) (read : Result Command ℕ) → as_command command ≡ placed trusting read
    → as_command command ≡ read
unplaced trusting command (Ok other) is = is
unplaced trusting command (Err place) is = absurd (cc is)

-- ---- rules

one_says : (allow : Bool) (value : List ℕ) (a b : Option Rule) → SaysRule allow value a → SaysRule allow value b → a ≡ b
one_says allow value None None p q = refl
one_says allow value None (Some rule) p q = absurd (p rule q)
one_says allow value (Some rule) None p q = absurd (q rule p)
one_says allow value (Some x) (Some y) p q = ap Some (one_rule allow value x y p q)

one_in : (value : List ℕ) (a b : Option Rule) (name : Option OptionName) → RuleIn value a name → RuleIn value b name → a ≡ b
one_in value a b (Some option.Allow) p q = one_says true value a b p q
one_in value a b (Some option.Deny) p q = one_says false value a b p q
one_in value a b (Some option.Compiler) p q = p ∙ sym q
one_in value a b (Some option.Port) p q = p ∙ sym q
one_in value a b (Some option.Listen) p q = p ∙ sym q
one_in value a b (Some option.Jobs) p q = p ∙ sym q
one_in value a b (Some option.Serve) p q = p ∙ sym q
one_in value a b (Some option.Cache) p q = p ∙ sym q
one_in value a b (Some option.Tools) p q = p ∙ sym q
one_in value a b (Some option.JobLifetime) p q = p ∙ sym q
one_in value a b (Some option.SharedCache) p q = p ∙ sym q
one_in value a b None p q = p ∙ sym q

pub same_rules : (words : List (List ℕ)) (a b : List Rule) → AreRules words a → AreRules words b → a ≡ b
same_rules [] a b p q = p ∙ sym q
same_rules (word ∷ []) a b p q = p ∙ sym q
same_rules (word ∷ value ∷ more) a b p q =
    p.3 ∙ ap (λ found. option_to_list found ++ p.2) (one_in value p.0 q.0 (option_named word) p.1 q.1)
    ∙ ap (λ rest. option_to_list q.0 ++ rest) (same_rules more p.2 q.2 p.4 q.4) ∙ sym q.3

-- the bits of each
bits_small : (text : List ℕ) (bits : ℕ) → bits_of text bits → bits ≤ 32
bits_small [] bits is = omega (arith, is)
bits_small (slash ∷ digits) bits is = is.high

abbrev IsSmall : Rule → Type 0
IsSmall rule = rule.bits ≤ 32

rule_small : (allow : Bool) (value : List ℕ) (rule : Rule) → RuleOf allow value rule → rule.bits ≤ 32
rule_small allow value rule is = bits_small (bits_part value) rule.bits is.bits

found_small : (value : List ℕ) (found : Option Rule) (name : Option OptionName) → RuleIn value found name
    → All IsSmall (option_to_list found)
found_small value None name is = All-nil IsSmall
found_small value (Some rule) (Some option.Allow) is = All-cons IsSmall rule [] (rule_small true value rule is) (All-nil IsSmall)
found_small value (Some rule) (Some option.Deny) is = All-cons IsSmall rule [] (rule_small false value rule is) (All-nil IsSmall)
found_small value (Some rule) (Some option.Compiler) is = absurd (cc is)
found_small value (Some rule) (Some option.Port) is = absurd (cc is)
found_small value (Some rule) (Some option.Listen) is = absurd (cc is)
found_small value (Some rule) (Some option.Jobs) is = absurd (cc is)
found_small value (Some rule) (Some option.Serve) is = absurd (cc is)
found_small value (Some rule) (Some option.Cache) is = absurd (cc is)
found_small value (Some rule) (Some option.Tools) is = absurd (cc is)
found_small value (Some rule) (Some option.JobLifetime) is = absurd (cc is)
found_small value (Some rule) (Some option.SharedCache) is = absurd (cc is)
found_small value (Some rule) None is = absurd (cc is)

all_small : (words : List (List ℕ)) (rules : List Rule) → AreRules words rules → All IsSmall rules
all_small [] rules are = subst (All IsSmall) (sym are) (All-nil IsSmall)
all_small (word ∷ []) rules are = subst (All IsSmall) (sym are) (All-nil IsSmall)
all_small (word ∷ value ∷ more) rules are =
    subst (All IsSmall) (sym are.3)
    (All-append IsSmall (option_to_list are.0) are.2 (found_small value are.0 (option_named word) are.1) (all_small more are.2 are.4))

-- ---- how many

one : Kind → List ℕ → ℕ
one kind name = if is_of kind (option_named name) then 1 else 0

count_items : Kind → List Item → ℕ
count_items kind [] = 0
count_items kind (item ∷ items) = one kind item.name + count_items kind items

count_append : (kind : Kind) (a b : List Item) → count_items kind (a ++ b) ≡ count_items kind a + count_items kind b
unfolding count_items
count_append kind [] b = omega arith
count_append kind (item ∷ a) b = omega (arith, count_append kind a b)

never_plain : (option : Option OptionName) (stood : Bool) → may_stand (row_of option) stood ≡ true → has_value (row_of option) ≡ false → ⊥
never_plain None stood follows plain = cc follows
never_plain (Some name) stood follows plain = cc plain

count_valued : (kind : Kind) (before : List Item) (name : List ℕ) (value : Option (List ℕ)) (more : List (List ℕ)) (n : ℕ)
    → follows options before name ≡ true → HasValue options before name value
    → count_in kind more ≡ n → count_in kind (name ∷ value_words value more) ≡ one kind name + n
unfolding one
count_valued kind before name None more n follows plain rest =
    absurd (never_plain (option_named name) (stands_in name before) follows plain)
count_valued kind before name (Some value) more n follows has rest = ap (λ m. (if is_of kind (option_named name) then 1 else 0) + m) rest

counted : (kind : Kind) (before items : List Item) → StandBehind options before items
    → count_in kind (items_words items) ≡ count_items kind items
unfolding count_items
counted kind before [] stand = refl
counted kind before (item ∷ items) stand =
    count_valued kind before item.name item.value (items_words items) (count_items kind items) stand.0.follows_on stand.0.value
    (counted kind (before ++ item ∷ []) items stand.1)

-- how many of a kind there may be
abbrev pub most_of : Kind → ℕ
most_of kind.Compiler = compilers_max
most_of kind.Rule = rules_max
most_of kind.Tools = tools_max

room_by : (kind : Kind) (option : Option OptionName) (before : List (List ℕ)) (value : List ℕ) → is_of kind option ≡ true
    → ValueFits option before value → count_in kind before < most_of kind
room_by kind None before value holds fits = absurd fits
room_by kind.Compiler (Some option.Compiler) before value holds fits = fits.room
room_by kind.Rule (Some option.Compiler) before value holds fits = absurd (cc holds)
room_by kind.Tools (Some option.Compiler) before value holds fits = absurd (cc holds)
room_by kind.Compiler (Some option.Port) before value holds fits = absurd (cc holds)
room_by kind.Rule (Some option.Port) before value holds fits = absurd (cc holds)
room_by kind.Tools (Some option.Port) before value holds fits = absurd (cc holds)
room_by kind.Compiler (Some option.Listen) before value holds fits = absurd (cc holds)
room_by kind.Rule (Some option.Listen) before value holds fits = absurd (cc holds)
room_by kind.Tools (Some option.Listen) before value holds fits = absurd (cc holds)
room_by kind.Compiler (Some option.Jobs) before value holds fits = absurd (cc holds)
room_by kind.Rule (Some option.Jobs) before value holds fits = absurd (cc holds)
room_by kind.Tools (Some option.Jobs) before value holds fits = absurd (cc holds)
room_by kind.Compiler (Some option.Serve) before value holds fits = absurd (cc holds)
room_by kind.Rule (Some option.Serve) before value holds fits = absurd (cc holds)
room_by kind.Tools (Some option.Serve) before value holds fits = absurd (cc holds)
room_by kind.Compiler (Some option.Allow) before value holds fits = absurd (cc holds)
room_by kind.Rule (Some option.Allow) before value holds fits = fits.room
room_by kind.Tools (Some option.Allow) before value holds fits = absurd (cc holds)
room_by kind.Compiler (Some option.Deny) before value holds fits = absurd (cc holds)
room_by kind.Rule (Some option.Deny) before value holds fits = fits.room
room_by kind.Tools (Some option.Deny) before value holds fits = absurd (cc holds)
room_by kind.Compiler (Some option.Cache) before value holds fits = absurd (cc holds)
room_by kind.Rule (Some option.Cache) before value holds fits = absurd (cc holds)
room_by kind.Tools (Some option.Cache) before value holds fits = absurd (cc holds)
room_by kind.Compiler (Some option.Tools) before value holds fits = absurd (cc holds)
room_by kind.Rule (Some option.Tools) before value holds fits = absurd (cc holds)
room_by kind.Tools (Some option.Tools) before value holds fits = fits.room
room_by kind.Compiler (Some option.JobLifetime) before value holds fits = absurd (cc holds)
room_by kind.Compiler (Some option.SharedCache) before value holds fits = absurd (cc holds)
room_by kind.Rule (Some option.JobLifetime) before value holds fits = absurd (cc holds)
room_by kind.Rule (Some option.SharedCache) before value holds fits = absurd (cc holds)
room_by kind.Tools (Some option.JobLifetime) before value holds fits = absurd (cc holds)
room_by kind.Tools (Some option.SharedCache) before value holds fits = absurd (cc holds)

room : (kind : Kind) (before : List Item) (name : List ℕ) (value : Option (List ℕ)) → follows options before name ≡ true
    → HasValue options before name value → is_of kind (option_named name) ≡ true
    → count_in kind (items_words before) < most_of kind
room kind before name None follows plain holds = absurd (never_plain (option_named name) (stands_in name before) follows plain)
room kind before name (Some value) follows has holds = room_by kind (option_named name) (items_words before) value holds has.1

one_by : (b : Bool) (m n most : ℕ) → (b ≡ true → m < most) → m ≡ n → n ≤ most → n + (if b then 1 else 0) ≤ most
one_by true m n most room same few = omega (arith, room refl, same)
one_by false m n most room same few = omega (arith, few)

few_items : (kind : Kind) (before items : List Item) → StandBehind options [] before → StandBehind options before items
    → count_items kind before ≤ most_of kind → count_items kind (before ++ items) ≤ most_of kind
unfolding count_items one
few_items kind before [] behind stand few = omega (arith, ap (count_items kind) (append-nil before), few)
few_items kind before (item ∷ items) behind stand few =
    let one_few = one_by (is_of kind (option_named item.name)) (count_in kind (items_words before)) (count_items kind before) (most_of kind)
    (room kind before item.name item.value stand.0.follows_on stand.0.value) (counted kind [] before behind) few in
    let more : count_items kind (before ++ item ∷ []) ≤ most_of kind = omega (arith, count_append kind before (item ∷ []), one_few) in
    subst (λ l. count_items kind l ≤ most_of kind) (append_assoc before (item ∷ []) items)
    (few_items kind (before ++ item ∷ []) items (stand_more options [] before item behind stand.0) stand.1 more)

-- no more of a kind than there may be
pub few_counted : (kind : Kind) (words : List (List ℕ)) (items : List Item) → AreOptions options words items
    → count_in kind words ≤ most_of kind
unfolding count_items
few_counted kind words items are =
    let few : count_items kind items ≤ most_of kind = few_items kind [] items tt are.right (omega arith) in
    omega (arith, ap (count_in kind) are.are, counted kind [] items are.right, few)

found_few : (value : List ℕ) (found : Option Rule) (name : Option OptionName) → RuleIn value found name
    → length (option_to_list found) ≤ (if is_of kind.Rule name then 1 else 0)
found_few value None name is = omega arith
found_few value (Some rule) (Some option.Allow) is = omega arith
found_few value (Some rule) (Some option.Deny) is = omega arith
found_few value (Some rule) (Some option.Compiler) is = absurd (cc is)
found_few value (Some rule) (Some option.Port) is = absurd (cc is)
found_few value (Some rule) (Some option.Listen) is = absurd (cc is)
found_few value (Some rule) (Some option.Jobs) is = absurd (cc is)
found_few value (Some rule) (Some option.Serve) is = absurd (cc is)
found_few value (Some rule) (Some option.Cache) is = absurd (cc is)
found_few value (Some rule) (Some option.Tools) is = absurd (cc is)
found_few value (Some rule) (Some option.JobLifetime) is = absurd (cc is)
found_few value (Some rule) (Some option.SharedCache) is = absurd (cc is)
found_few value (Some rule) None is = absurd (cc is)

rules_few : (words : List (List ℕ)) (rules : List Rule) → AreRules words rules → length rules ≤ count_in kind.Rule words
rules_few [] rules are = omega (arith, ap length are)
rules_few (word ∷ []) rules are = omega (arith, ap length are)
rules_few (word ∷ value ∷ more) rules are =
    let all : length rules ≡ length (option_to_list are.0) + length are.2 = ap length are.3 ∙ length-append (option_to_list are.0) are.2 in
    omega (arith, all, found_few value are.0 (option_named word) are.1, rules_few more are.2 are.4)

right_read : (words : List (List ℕ)) (given : Options) (rules : List Rule) (read : Result Options ℕ) → Reads words read
    → Ok (Serve given) ≡ served read → AreRules words rules → AreRight rules
right_read words given rules (Ok final) reads same are =
    record { few = omega (arith, rules_few words rules are, few_counted kind.Rule words reads.0 reads.1); bits = all_small words rules are }
right_read words given rules (Err place) reads same are = absurd (cc same)

abbrev alone : Bool → Command → Result Command ℕ
alone b command = if b then Ok command else Err 1

abbrev serves : Options → Result Command ℕ
serves options = Ok (Serve options)

served_alone : (b : Bool) (command : Command) (options : Options) → serves options ≡ alone b command → command ≡ Serve options
served_alone true command options is = cc is
served_alone false command options is = absurd (cc is)

never_by : (a b : Bool) (options : Options) → (if a then Some Help else (if b then Some Version else None)) ≡ Some (Serve options) → ⊥
never_by true b options is = cc is
never_by false true options is = cc is
never_by false false options is = cc is

never_asked : (words : List (List ℕ)) (options : Options) → asked words ≡ Some (Serve options) → ⊥
never_asked [] options is = cc is
never_asked (word ∷ words) options is = never_by _ _ options is

right_first : (words : List (List ℕ)) (options : Options) (rules : List Rule) (first : Option Command) → asked words ≡ first
    → ByFirst words (Ok (Serve options)) first → AreRules words rules → AreRight rules
right_first words options rules (Some command) is read are =
    absurd (never_asked words options (is ∙ ap Some (served_alone _ command options read)))
right_first words options rules None is read are = right_read words options rules read.0 read.1 read.2 are

pub right_rules : (words : List (List ℕ)) (options : Options) (rules : List Rule) → ReadWords words (Ok (Serve options))
    → AreRules (settings_of words) rules → AreRight rules
right_rules words options rules read are =
    let settings = settings_of words in
    let same = unplaced (trusts words) (Serve options) read.0 read.2 in
    right_first settings options rules (asked settings) refl (subst (λ r. ByFirst settings r (asked settings)) (sym same) read.1) are

-- ---- the numbers that are given

pub given_read : (name : OptionName) (value text : List ℕ) (n : Option ℕ) → text ≡ value → IfSome n (IsSpelled name text)
    → IfNone n ((m : ℕ) → IsSpelled name text m → ⊥) → GivenBy name (Some value) n
given_read name value text None same found none = λ m is. none m (subst (λ t. IsSpelled name t m) (sym same) is)
given_read name value text (Some n) same found none = subst (λ t. IsSpelled name t n) same found

pub none_read : {A : Type 0} (n : Option ℕ) → IfNone n A → is_some n ≡ false → A
none_read None none is = none
none_read (Some n) none is = absurd (cc is)

positive_within : (most greatest : ℕ) (value : List ℕ) (n : ℕ) → IsPlainDecimal most 1 greatest value n → (1 ≤ n) × (n ≤ greatest)
positive_within most greatest value n is = (is.number.low, is.number.high)

within_by : (low high : ℕ) (name : OptionName) → ((value : List ℕ) (n : ℕ) → IsSpelled name value n → (low ≤ n) × (n ≤ high))
    → (value : Option (List ℕ)) (n : Option ℕ) → GivenBy name value n → IsWithin low high n
within_by low high name each None n is = subst (IsWithin low high) (sym is) tt
within_by low high name each (Some value) None is = tt
within_by low high name each (Some value) (Some n) is = each value n is

says_within : (words : List (List ℕ)) (items : List Item) (given : Options) → Says words items given → AreWithin given
says_within words items given says = record {
  port = within_by 1 port_max option.Port (positive_within 5 port_max) (value_in (codes "--port") items) given.port says.port;
  jobs = within_by 1 workers_max option.Jobs (positive_within 2 workers_max) (value_in (codes "--jobs") items) given.jobs says.jobs;
  serve = within_by 1 connections_max option.Serve (positive_within 6 connections_max)
      (value_in (codes "--serve") items) given.serve says.serve;
  job_lifetime = within_by 0 job_lifetime_max option.JobLifetime (λ value n is. (is.number.low, is.number.high))
      (value_in (codes "--job-lifetime") items) given.job_lifetime says.job_lifetime;
  cache = within_by 1 cache_max option.Cache (λ value n is. (is.low, is.high)) (value_in (codes "--cache") items) given.cache says.cache;
  shared = within_by 1 shared_cache_max option.SharedCache (λ value n is. (is.low, is.high))
      (value_in (codes "--shared-cache") items) given.shared says.shared;
}

served_within : (words : List (List ℕ)) (given : Options) (read : Result Options ℕ) → Reads words read
    → Ok (Serve given) ≡ served read → AreWithin given
served_within words given (Ok final) reads same = let is : final ≡ given = cc same in
    subst AreWithin is (says_within words reads.0 final reads.2)
served_within words given (Err place) reads same = absurd (cc same)

first_within : (words : List (List ℕ)) (options : Options) (first : Option Command) → asked words ≡ first
    → ByFirst words (Ok (Serve options)) first → AreWithin options
first_within words options (Some command) is read = absurd (never_asked words options (is ∙ ap Some (served_alone _ command options read)))
first_within words options None is read = served_within words options read.0 read.1 read.2

pub right_numbers : (words : List (List ℕ)) (options : Options) → ReadWords words (Ok (Serve options)) → AreWithin options
right_numbers words options read =
    let settings = settings_of words in
    let same = unplaced (trusts words) (Serve options) read.0 read.2 in
    first_within settings options (asked settings) refl (subst (λ r. ByFirst settings r (asked settings)) (sym same) read.1)

-- ---- the code that looks for names, and that gathers

two_parts : {A : Type 0} (rest : List A) (x y : A) → 2 ≤ length rest → x ≡ get_or rest 0 x → y ≡ get_or rest 1 y
    → rest ≡ x ∷ y ∷ take (length rest - 2) (drop 2 rest)
two_parts [] x y some is also = absurd (omega (arith, some))
two_parts (a ∷ []) x y some is also = absurd (omega (arith, some))
two_parts (a ∷ b ∷ more) x y some is also =
    let left : length more ≡ length (a ∷ b ∷ more) - 2 = omega arith in
    ap (λ c. c ∷ b ∷ more) (sym is) ∙ ap (λ c. x ∷ c ∷ more) (sym also)
    ∙ ap (λ l. x ∷ y ∷ l) (sym (take-length more) ∙ ap (λ n. take n more) left)

pub count_none : {A : Type 0} (f : A → List ℕ) (kind : Kind) (rest : List A) → length rest < 2 → count_in kind (map f rest) ≡ 0
count_none f kind [] few = refl
count_none f kind (x ∷ []) few = refl
count_none f kind (x ∷ y ∷ rest) few = absurd (omega (arith, few))

pub named_more : {A : Type 0} (f : A → List ℕ) (rest : List A) (x y : A) (word value name : List ℕ) → 2 ≤ length rest
    → x ≡ get_or rest 0 x → y ≡ get_or rest 1 y → word ≡ f x → value ≡ f y
    → (bytes_eq word (codes "--compiler") && bytes_eq (name_in value) name) ≡ false
    → named_in (map f rest) name ≡ named_in (map f (take (length rest - 2) (drop 2 rest))) name
named_more f rest x y word value name some x_is y_is word_is value_is other =
    let not_here : (bytes_eq (f x) (codes "--compiler") && bytes_eq (name_in (f y)) name) ≡ false =
    subst (λ w. (bytes_eq w (codes "--compiler") && bytes_eq (name_in (f y)) name) ≡ false) word_is
    (subst (λ v. (bytes_eq word (codes "--compiler") && bytes_eq (name_in v) name) ≡ false) value_is other) in
    ap (λ l. named_in (map f l) name) (two_parts rest x y some x_is y_is)
    ∙ ap (λ b. b || named_in (map f (take (length rest - 2) (drop 2 rest))) name) not_here

pub given_more : {A : Type 0} (f : A → List ℕ) (rest : List A) (x : A) (word name : List ℕ) → 2 ≤ length rest → x ≡ get_or rest 0 x
    → word ≡ f x → bytes_eq word name ≡ false
    → given_in (map f rest) name ≡ given_in (map f (take (length rest - 2) (drop 2 rest))) name
given_more f [] x word name some x_is word_is other = absurd (omega (arith, some))
given_more f (a ∷ []) x word name some x_is word_is other = absurd (omega (arith, some))
given_more f (a ∷ b ∷ more) x word name some x_is word_is other =
    let left : length more ≡ length (a ∷ b ∷ more) - 2 = omega arith in
    let here : bytes_eq (f a) name ≡ false = subst (λ w. bytes_eq w name ≡ false) (word_is ∙ ap f x_is) other in
    ap (λ c. c || given_in (map f more) name) here
    ∙ ap (λ l. given_in (map f l) name) (sym (take-length more) ∙ ap (λ n. take n more) left)

rules_none : {A : Type 0} (f : A → List ℕ) (rest : List A) → length rest < 2 → AreRules (map f rest) []
rules_none f [] few = refl
rules_none f (x ∷ []) few = refl
rules_none f (x ∷ y ∷ rest) few = absurd (omega (arith, few))

pub all_rules : {A : Type 0} (f : A → List ℕ) (words rest : List A) (found : List Rule) → length rest < 2
    → ((more : List Rule) → AreRules (map f rest) more → AreRules (map f words) (found ++ more)) → AreRules (map f words) found
all_rules f words rest found few on = subst (AreRules (map f words)) (append-nil found) (on [] (rules_none f rest few))

pub more_rules : {A : Type 0} (f : A → List ℕ) (words rest : List A) (x y : A) (word value : List ℕ) (before after : List Rule)
    (found : Option Rule)
    → 2 ≤ length rest → x ≡ get_or rest 0 x → y ≡ get_or rest 1 y → word ≡ f x → value ≡ f y
    → RuleIn value found (option_named word) → after ≡ before ++ option_to_list found
    → ((more : List Rule) → AreRules (map f rest) more → AreRules (map f words) (before ++ more))
    → (more : List Rule) → AreRules (map f (take (length rest - 2) (drop 2 rest))) more → AreRules (map f words) (after ++ more)
more_rules f words rest x y word value before after found some x_is y_is word_is value_is is grown on more are =
    let says = subst (λ w. RuleIn (f y) found (option_named w)) word_is (subst (λ v. RuleIn v found (option_named word)) value_is is) in
    let all = subst (λ l. AreRules (map f l) (option_to_list found ++ more)) (sym (two_parts rest x y some x_is y_is))
    (found, says, more, refl, are) in
    subst (AreRules (map f words)) (sym (append_assoc before (option_to_list found) more) ∙ ap (λ l. l ++ more) (sym grown))
    (on (option_to_list found ++ more) all)

compilers_none : {A : Type 0} (f : A → List ℕ) (rest : List A) → length rest < 2 → compilers_of (map f rest) ≡ []
compilers_none f [] few = refl
compilers_none f (x ∷ []) few = refl
compilers_none f (x ∷ y ∷ rest) few = absurd (omega (arith, few))

pub all_compilers : {A : Type 0} (f : A → List ℕ) (rest : List A) (found all : List Compiler) → length rest < 2
    → found ++ compilers_of (map f rest) ≡ all → found ≡ all
all_compilers f rest found all few is = sym (append-nil found) ∙ ap (λ l. found ++ l) (sym (compilers_none f rest few)) ∙ is

tools_none : {A : Type 0} (f : A → List ℕ) (rest : List A) → length rest < 2 → tools_of (map f rest) ≡ []
tools_none f [] few = refl
tools_none f (x ∷ []) few = refl
tools_none f (x ∷ y ∷ rest) few = absurd (omega (arith, few))

pub all_tools : {A : Type 0} (f : A → List ℕ) (rest : List A) (found all : List (List ℕ)) → length rest < 2
    → found ++ tools_of (map f rest) ≡ all → found ≡ all
all_tools f rest found all few is = sym (append-nil found) ∙ ap (λ l. found ++ l) (sym (tools_none f rest few)) ∙ is
