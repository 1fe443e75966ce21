-- One reading of each word.
use Rattle.std.proofs.Common.{◌≡◌, ◌≢◌, ℕ, ◌<◌, Bool, true, false, ◌&&◌, ◌||◌, cond, eqb, List, [], ◌∷◌, ◌++◌, length, get_or, take, drop}
use Rattle.std.proofs.Common.{min, Option, Some, None, Result, Ok, Err, refl, ap, sym, subst, ◌∙◌, ⊎_elim, arith}
use Rattle.std.specs.Prelude.{◌==◌, nat_lt, codes, slice_index}
use Rattle.std.specs.Char.{digit_value}
use Rattle.std.specs.List.{AllPass, prefix_len}
use Rattle.std.specs.Str.{bytes_eq}
use Rattle.std.proofs.lemmas.Bool.{cases_Bool, false≢true, eq-eqb, eqb-true}
use Rattle.std.proofs.lemmas.Bool.Decides.{nat_tests}
use Rattle.std.proofs.lemmas.List.{append-nil, drop_at, take_at, get_or_at}
use Rattle.std.proofs.lemmas.List.Elements.{All-head, All-tail, All-from_get_or, All-append, All-cons, All-nil, All-weaker, All-get_or}
use Rattle.std.proofs.lemmas.Slice.Eq.{starts_is}
use Rattle.std.proofs.lemmas.Bool.Decides.{Decides-eqb}
use Rattle.farm_types.specs.Limits.{host_name_max, port_max, slots_max}
use Rattle.farm_types.specs.Decimals.{IsDecimal}
use Rattle.farm_types.specs.declared.hosts.Host.{Host}
use Rattle.host_list.specs.declared.meaning.Meaning.{Meaning}
use Rattle.host_list.specs.declared.meaning.Meaning.TheVariants.{Entry, LocalSlots, LocalCpp, Randomize}
use Rattle.host_list.specs.declared.fault.HostFault.{HostFault}
use Rattle.host_list.specs.declared.fault.HostFault.TheVariants.{Ssh, HostOption, Zeroconf, BadLimit, BadName, UnknownOption}
use Rattle.host_list.specs.Names.{is_host_name_byte, IsHostName}
use Rattle.host_list.specs.HostWords.{HostWord, WordFault, SpellsParts, SpellsPort, SpellsLimit, EndsPart, is_separator, name_reach}
use Rattle.host_list.specs.HostWords.{begins_with_name, begins_with, has_byte, host_of, SpellsHost, SlotsFault, OptionFault, PlusFault}
use Rattle.host_list.specs.HostWords.{EntryFault, IsAtStart}
use Rattle.farm_types.proofs.DecimalLemmas.{digit_at}
use Rattle.host_list.proofs.AnyLemmas.{any_none}
use Rattle.host_list.proofs.PartReading.{chosen, number_at, number_found, number_none, cut, check, parts_right, parts_wrong, Verdict}

-- ---- the name

abbrev stops : (ℕ → Bool) → List ℕ → Type 0
stops p [] = Unit {0}
stops p (c ∷ cs) = p c ≡ false

prefix_all : (p : ℕ → Bool) (xs ys : List ℕ) → AllPass p xs → stops p ys → prefix_len p (xs ++ ys) ≡ length xs
prefix_all p [] [] h s = refl
prefix_all p [] (c ∷ cs) h s = rw s refl
prefix_all p (x ∷ xs) ys h s =
    let here = All-head (λ c. p c ≡ true) x xs h in
    let later = prefix_all p xs ys (All-tail (λ c. p c ≡ true) x xs h) s in
    rw (here, later) (omega arith)

not_name : (c : ℕ) → is_separator c ≡ true → is_host_name_byte c ≡ false
not_name c h = grind (arith, nat_tests)

name_stops : (parts : List ℕ) → EndsPart parts → stops is_host_name_byte parts
name_stops [] h = tt
name_stops (c ∷ cs) h = not_name c h

not_dash : (c : ℕ) → c ≢ 45 → eqb c 45 ≡ false
not_dash c h = ⊎_elim (λ same. absurd (h (eqb-true c 45 same))) (λ other. other) (cases_Bool (eqb c 45))

reach_of : (name parts : List ℕ) → IsHostName name → EndsPart parts → name_reach (name ++ parts) ≡ length name
reach_of [] parts h ends = let some = h.some in absurd (omega arith)
reach_of (c ∷ cs) parts h ends =
    let no_dash = not_dash c h.first in
    let all = prefix_all is_host_name_byte (c ∷ cs) parts h.each (name_stops parts ends) in
    let few = h.few in
    let least : min host_name_max (length (c ∷ cs)) ≡ length (c ∷ cs) = omega arith in
    ap (λ b. cond b 0 (min host_name_max (prefix_len is_host_name_byte (c ∷ (cs ++ parts))))) no_dash ∙ ap (min host_name_max) all ∙ least

or_true : (b : Bool) → (b || true) ≡ true
or_true true = refl
or_true false = refl

ends_there : (name parts : List ℕ) → EndsPart parts
    → (length name == length (name ++ parts) || is_separator (slice_index (name ++ parts) (length name))) ≡ true
ends_there name [] ends =
    let same : eqb (length name) (length (name ++ [])) ≡ true =
    eq-eqb (length name) (length (name ++ [])) (ap length (sym (append-nil name))) in
    rw same refl
ends_there name (c ∷ cs) ends =
    let there : slice_index (name ++ (c ∷ cs)) (length name) ≡ c = get_or_at name c cs 0 (length name) refl in
    let is : is_separator (slice_index (name ++ (c ∷ cs)) (length name)) ≡ true = ap is_separator there ∙ ends in
    ap (λ b. length name == length (name ++ (c ∷ cs)) || b) is ∙ or_true (length name == length (name ++ (c ∷ cs)))

named : (name parts : List ℕ) → IsHostName name → EndsPart parts → begins_with_name (name ++ parts) ≡ true
named name parts h ends =
    let reach = reach_of name parts h ends in
    let some = h.some in
    let more : nat_lt 0 (length name) ≡ true = grind (arith, nat_tests) in
    ap (λ n. nat_lt 0 n && (n == length (name ++ parts) || is_separator (slice_index (name ++ parts) n))) reach
    ∙ rw more (ends_there name parts ends)

-- ---- the bytes of a host

abbrev pub is_host_byte : ℕ → Bool
is_host_byte c = is_host_name_byte c || is_separator c

name_host_byte : (c : ℕ) → is_host_name_byte c ≡ true → is_host_byte c ≡ true
name_host_byte c h = rw h refl

digit_host_byte : (c : ℕ) → digit_value c < 10 → is_host_byte c ≡ true
digit_host_byte c h = grind (arith, nat_tests)

digits_host_bytes : (most greatest n : ℕ) (digits : List ℕ) → IsDecimal most 1 greatest digits n → AllPass is_host_byte digits
digits_host_bytes most greatest n digits h =
    All-from_get_or (λ c. is_host_byte c ≡ true) digits 0 (λ k lt. digit_host_byte (get_or digits k 0) (digit_at digits k lt h.each))

port_bytes : (part : List ℕ) (port : ℕ) → SpellsPort part port → AllPass is_host_byte part
port_bytes part port h =
    subst (AllPass is_host_byte) (sym h.2) (All-cons (λ c. is_host_byte c ≡ true) 58 h.0 refl (digits_host_bytes 5 port_max port h.0 h.1))

limit_bytes : (part : List ℕ) (limit : ℕ) → SpellsLimit part limit → AllPass is_host_byte part
limit_bytes part limit h =
    subst (AllPass is_host_byte) (sym h.2) (All-cons (λ c. is_host_byte c ≡ true) 47 h.0 refl (digits_host_bytes 3 slots_max limit h.0 h.1))

parts_bytes : (port limit : Option ℕ) (parts : List ℕ) → SpellsParts port limit parts → AllPass is_host_byte parts
parts_bytes None None parts h = subst (AllPass is_host_byte) (sym h) (All-nil (λ c. is_host_byte c ≡ true))
parts_bytes (Some port) None parts h = port_bytes parts port h
parts_bytes None (Some limit) parts h = limit_bytes parts limit h
parts_bytes (Some port) (Some limit) parts h =
    subst (AllPass is_host_byte) (sym h.2)
    (⊎_elim
    (λ pl. All-append (λ c. is_host_byte c ≡ true) h.0 h.1 (port_bytes h.0 port pl.0) (limit_bytes h.1 limit pl.1))
    (λ lp. All-append (λ c. is_host_byte c ≡ true) h.0 h.1 (limit_bytes h.0 limit lp.0) (port_bytes h.1 port lp.1))
    h.3)

parts_end : (port limit : Option ℕ) (parts : List ℕ) → SpellsParts port limit parts → EndsPart parts
parts_end None None parts h = subst EndsPart (sym h) tt
parts_end (Some port) None parts h = subst EndsPart (sym h.2) refl
parts_end None (Some limit) parts h = subst EndsPart (sym h.2) refl
parts_end (Some port) (Some limit) parts h =
    subst EndsPart (sym h.2)
    (⊎_elim
    (λ pl. subst (λ p. EndsPart (p ++ h.1)) (sym pl.0.2) refl)
    (λ lp. subst (λ p. EndsPart (p ++ h.1)) (sym lp.0.2) refl)
    h.3)

pub host_bytes : (word : List ℕ) (host : Host) → SpellsHost word host → AllPass is_host_byte word
host_bytes word host h =
    let name = All-weaker (λ c. is_host_name_byte c ≡ true) (λ c. is_host_byte c ≡ true) name_host_byte h.name h.named.each in
    subst (AllPass is_host_byte) (sym h.spelled)
    (All-append (λ c. is_host_byte c ≡ true) h.name h.parts name (parts_bytes h.port h.limit h.parts h.behind))

no_at : (c : ℕ) → is_host_byte c ≡ true → (c == 64) ≡ true → ⊥
no_at c h is = let at : c ≡ 64 = eqb-true c 64 is in absurd (false≢true (ap is_host_byte (sym at) ∙ h))

no_comma : (c : ℕ) → is_host_byte c ≡ true → (c == 44) ≡ true → ⊥
no_comma c h is = let at : c ≡ 44 = eqb-true c 44 is in absurd (false≢true (ap is_host_byte (sym at) ∙ h))

holds_no_at : (word : List ℕ) → AllPass is_host_byte word → has_byte 64 word ≡ false
holds_no_at word h = any_none (λ x. x == 64) word
    (λ k lt is. no_at (get_or word k 0) (All-get_or (λ c. is_host_byte c ≡ true) word k 0 lt h) is)

holds_no_comma : (word : List ℕ) → AllPass is_host_byte word → has_byte 44 word ≡ false
holds_no_comma word h = any_none (λ x. x == 44) word
    (λ k lt is. no_comma (get_or word k 0) (All-get_or (λ c. is_host_byte c ≡ true) word k 0 lt h) is)

-- the first byte of a host
other_first : (a c : ℕ) → c ≢ a → eqb a c ≡ false
other_first a c h = ⊎_elim (λ same. absurd (h (sym (eqb-true a c same)))) (λ other. other) (cases_Bool (eqb a c))

no_options : (name parts : List ℕ) → IsHostName name → begins_with (codes "--") (name ++ parts) ≡ false
no_options [] parts h = let some = h.some in absurd (omega arith)
no_options (c ∷ cs) parts h = let other = other_first 45 c h.first in rw other refl

no_plus : (name parts : List ℕ) → IsHostName name → begins_with (codes "+") (name ++ parts) ≡ false
no_plus [] parts h = let some = h.some in absurd (omega arith)
no_plus (c ∷ cs) parts h =
    let here = All-head (λ c. is_host_name_byte c ≡ true) c cs h.each in
    let other = other_first 43 c (λ e. false≢true (ap is_host_name_byte (sym e) ∙ here)) in
    rw other refl

-- ---- the word

abbrev pub Reading : Type 0
Reading = Result Meaning (ℕ × HostFault)

abbrev means : Meaning → Reading
means meaning = Ok meaning

abbrev wrong : ℕ → HostFault → Reading
wrong at fault = Err (at, fault)

abbrev slots_of : ℕ → (ℕ → Meaning) → Option ℕ → Reading
slots_of at make (Some n) = Ok (make n)
slots_of at make None = Err (at, BadLimit)

abbrev host_reading : List ℕ → Verdict → Reading
host_reading name (Ok given) = Ok (Entry (host_of name given.0 given.1))
host_reading name (Err wrong) = Err wrong

abbrev option_reading : List ℕ → Reading
option_reading word =
    cond (begins_with (codes "--localslots=") word) (slots_of 13 LocalSlots (number_at 3 slots_max (drop 13 word)))
    (cond (begins_with (codes "--localslots_cpp=") word) (slots_of 17 LocalCpp (number_at 3 slots_max (drop 17 word)))
    (cond (bytes_eq word (codes "--randomize")) (Ok Randomize) (Err (0, UnknownOption))))

abbrev entry_reading : List ℕ → Reading
entry_reading word =
    cond (begins_with_name word)
    (host_reading (take (name_reach word) word) (check None None (name_reach word) (cut (drop (name_reach word) word)).1))
    (Err (name_reach word, BadName))

unfoldable pub reading_of : List ℕ → Reading
reading_of word =
    cond (begins_with (codes "--") word) (option_reading word)
    (cond (begins_with (codes "+") word) (cond (bytes_eq word (codes "+zeroconf")) (Err (0, Zeroconf)) (Err (0, BadName)))
    (cond (has_byte 64 word) (Err (0, Ssh))
    (cond (has_byte 44 word) (Err (0, HostOption)) (entry_reading word))))

-- what is spelled so is read
entry_right : (word : List ℕ) (host : Host) → SpellsHost word host → entry_reading word ≡ Ok (Entry host)
entry_right word host h =
    let ends = parts_end h.port h.limit h.parts h.behind in
    let reach = reach_of h.name h.parts h.named ends in
    let is = named h.name h.parts h.named ends in
    let front : take (length h.name) (h.name ++ h.parts) ≡ h.name = take_at h.name h.parts (length h.name) refl in
    let behind : drop (length h.name) (h.name ++ h.parts) ≡ h.parts = drop_at h.name h.parts (length h.name) refl in
    let right = parts_right h.port h.limit (length h.name) h.parts h.behind in
    ap entry_reading h.spelled
    ∙ ap (λ b. cond b (host_reading (take (name_reach (h.name ++ h.parts)) (h.name ++ h.parts))
    (check None None (name_reach (h.name ++ h.parts)) (cut (drop (name_reach (h.name ++ h.parts)) (h.name ++ h.parts))).1))
    (Err (name_reach (h.name ++ h.parts), BadName))) is
    ∙ ap (λ n. host_reading (take n (h.name ++ h.parts)) (check None None n (cut (drop n (h.name ++ h.parts))).1)) reach
    ∙ ap (λ t. host_reading t (check None None (length h.name) (cut (drop (length h.name) (h.name ++ h.parts))).1)) front
    ∙ ap (λ t. host_reading h.name (check None None (length h.name) (cut t).1)) behind
    ∙ ap (host_reading h.name) right
    ∙ ap (λ x. Ok (Entry x)) (sym h.meant)

pub word_right : (word : List ℕ) (meaning : Meaning) → HostWord word meaning → reading_of word ≡ Ok meaning
unfolding reading_of
word_right word (Entry host) h =
    let bytes = host_bytes word host h in
    let spelled = sym h.spelled in
    let no_option : begins_with (codes "--") word ≡ false =
    subst (λ w. begins_with (codes "--") w ≡ false) spelled (no_options h.name h.parts h.named) in
    let plus : begins_with (codes "+") word ≡ false =
    subst (λ w. begins_with (codes "+") w ≡ false) spelled (no_plus h.name h.parts h.named) in
    rw (no_option, plus, holds_no_at word bytes, holds_no_comma word bytes) (entry_right word host h)
word_right word (LocalSlots n) h =
    let found = number_found 3 slots_max h.0 n h.1 in
    subst (λ w. reading_of w ≡ Ok (LocalSlots n)) (sym h.2) (ap (slots_of 13 LocalSlots) found)
word_right word (LocalCpp n) h =
    let found = number_found 3 slots_max h.0 n h.1 in
    subst (λ w. reading_of w ≡ Ok (LocalCpp n)) (sym h.2) (ap (slots_of 17 LocalCpp) found)
word_right word Randomize h = subst (λ w. reading_of w ≡ Ok Randomize) (sym h) refl

-- what stands wrong is found so
whole : (expected fault : HostFault) (at : ℕ) → IsAtStart expected at fault → wrong 0 expected ≡ wrong at fault
whole expected fault at h = rw (h.0, h.1) refl

slots_wrong : (option word : List ℕ) (make : ℕ → Meaning) (at : ℕ) (fault : HostFault) → begins_with option word ≡ true
    → SlotsFault option word at fault → slots_of (length option) make (number_at 3 slots_max (drop (length option) word)) ≡ Err (at, fault)
slots_wrong option word make at fault begins h =
    let front : word ≡ option ++ drop (length option) word = (starts_is Decides-eqb word option true (sym begins)).0 refl in
    let none = number_none 3 slots_max (drop (length option) word) (λ n is. h.0 n (drop (length option) word, is, front)) in
    ap (slots_of (length option) make) none ∙ rw (h.1, h.2) refl

option_wrong : (word : List ℕ) (at : ℕ) (fault : HostFault) → OptionFault word at fault → option_reading word ≡ Err (at, fault)
option_wrong word at fault h =
    chosen (begins_with (codes "--localslots=") word) _ _ _ _ (Err (at, fault)) h
    (λ begins slots. slots_wrong (codes "--localslots=") word LocalSlots at fault begins slots)
    (λ next. chosen (begins_with (codes "--localslots_cpp=") word) _ _ _ _ (Err (at, fault)) next
    (λ begins slots. slots_wrong (codes "--localslots_cpp=") word LocalCpp at fault begins slots)
    (λ last. chosen (bytes_eq word (codes "--randomize")) _ _ _ _ (Err (at, fault)) last
    (λ same never. absurd never)
    (λ unknown. whole UnknownOption fault at unknown)))

plus_wrong : (word : List ℕ) (at : ℕ) (fault : HostFault) → PlusFault word at fault
    → cond (bytes_eq word (codes "+zeroconf")) (wrong 0 Zeroconf) (wrong 0 BadName) ≡ wrong at fault
plus_wrong word at fault h =
    chosen (bytes_eq word (codes "+zeroconf")) _ _ _ _ (Err (at, fault)) h (λ same z. whole Zeroconf fault at z)
    (λ n. whole BadName fault at n)

entry_wrong : (word : List ℕ) (at : ℕ) (fault : HostFault) → EntryFault word at fault → entry_reading word ≡ Err (at, fault)
entry_wrong word at fault h =
    chosen (begins_with_name word) _ _ _ _ (Err (at, fault)) h
    (λ is parts. ap (host_reading (take (name_reach word) word))
    (parts_wrong (name_reach word) at (drop (name_reach word) word) fault parts))
    (λ name. rw (name.0, name.1) refl)

pub word_wrong : (word : List ℕ) (at : ℕ) (fault : HostFault) → WordFault word at fault → reading_of word ≡ Err (at, fault)
unfolding reading_of
word_wrong word at fault h =
    chosen (begins_with (codes "--") word) _ _ _ _ (Err (at, fault)) h
    (λ is option. option_wrong word at fault option)
    (λ h1. chosen (begins_with (codes "+") word) _ _ _ _ (Err (at, fault)) h1
    (λ is plus. plus_wrong word at fault plus)
    (λ h2. chosen (has_byte 64 word) _ _ _ _ (Err (at, fault)) h2
    (λ is ssh. whole Ssh fault at ssh)
    (λ h3. chosen (has_byte 44 word) _ _ _ _ (Err (at, fault)) h3
    (λ is option. whole HostOption fault at option)
    (λ h4. entry_wrong word at fault h4))))

-- ---- the laws

same_meaning : (x y : Meaning) → means x ≡ means y → x ≡ y
same_meaning x y e = cc

same_fault : (at there : ℕ) (fault other : HostFault) → wrong at fault ≡ wrong there other → (at ≡ there) × (fault ≡ other)
same_fault at there fault other e =
    let both : (at, fault) ≡ (there, other) = cc in
    (ap (λ (p : ℕ × HostFault). p.0) both, ap (λ (p : ℕ × HostFault). p.1) both)

pub one_meaning : (word : List ℕ) (one other : Meaning) → HostWord word one → HostWord word other → one ≡ other
one_meaning word one other h k = same_meaning one other (sym (word_right word one h) ∙ word_right word other k)

pub no_both : (word : List ℕ) (meaning : Meaning) (at : ℕ) (fault : HostFault) → HostWord word meaning → WordFault word at fault → ⊥
no_both word meaning at fault h k = let e = sym (word_right word meaning h) ∙ word_wrong word at fault k in cc

pub one_fault : (word : List ℕ) (at there : ℕ) (fault other : HostFault) → WordFault word at fault → WordFault word there other
    → (at ≡ there) × (fault ≡ other)
one_fault word at there fault other h k = same_fault at there fault other (sym (word_wrong word at fault h) ∙ word_wrong word there other k)
