-- Every word means something or has a fault.
use Rattle.std.proofs.Common.{◌≡◌, ℕ, zero, suc, ◌+◌, ◌≤◌, Bool, true, false, not, ◌||◌, List, [], ◌∷◌, ◌++◌, length, take, drop, Option}
use Rattle.std.proofs.Common.{Some, None, refl, ap, sym, subst, ◌∙◌, inl, inr, ⊎_elim, arith}
use Rattle.std.specs.Prelude.{◌==◌, ◌⊎◌, MatchBool, codes, nat_lt, slice_index}
use Rattle.std.specs.List.{AllPass}
use Rattle.std.specs.Str.{bytes_eq}
use Rattle.std.proofs.lemmas.Bool.{cases_Bool, and_parts, or_cases, eqb-true, cases_lt}
use Rattle.std.proofs.lemmas.Bool.Decides.{Decides-eqb}
use Rattle.std.proofs.lemmas.List.{append_assoc, append-nil, length-append, take-append-drop, drop_at, drop_more, drop_all}
use Rattle.std.proofs.lemmas.List.Elements.{All-cons, All-nil}
use Rattle.std.proofs.lemmas.Slice.Eq.{starts_is, bytes_eq-Decides}
use Rattle.farm_types.specs.Limits.{port_max, slots_max}
use Rattle.host_list.specs.declared.meaning.Meaning.{Meaning}
use Rattle.host_list.specs.declared.meaning.Meaning.TheVariants.{Entry, LocalSlots, LocalCpp, Randomize}
use Rattle.host_list.specs.declared.fault.HostFault.{HostFault}
use Rattle.host_list.specs.declared.fault.HostFault.TheVariants.{Ssh, HostOption, Zeroconf, BadPort, BadLimit, BadName, UnknownOption}
use Rattle.host_list.specs.Names.{IsLimit}
use Rattle.host_list.specs.HostWords.{HostWord, WordFault, OptionFault, PlusFault, EntryFault, SlotsFault, PartFault, WrongPart}
use Rattle.host_list.specs.HostWords.{SpellsParts, SpellsSlots, EndsPart, is_separator, name_reach, begins_with_name, begins_with}
use Rattle.host_list.specs.HostWords.{has_byte, host_of}
use Rattle.host_list.proofs.NameLemmas.{name_front, reach_within}
use Rattle.host_list.proofs.PartLemmas.{adds_port, adds_limit}
use Rattle.farm_types.proofs.DecimalLemmas.{decimal_or_none}

-- ---- tests

by_true : (b : Bool) (P Q : Type 0) → b ≡ true → P → MatchBool b P Q
by_true b P Q is p = subst (λ c. MatchBool c P Q) (sym is) p

by_false : (b : Bool) (P Q : Type 0) → b ≡ false → Q → MatchBool b P Q
by_false b P Q is q = subst (λ c. MatchBool c P Q) (sym is) q

-- ---- parts

-- a text without separators, and then one that begins with a separator or has ended
pub record Span (text : List ℕ) : Type 0 where
  pub front : List ℕ
  pub rest : List ℕ
  pub split : text ≡ front ++ rest
  pub plain : AllPass (λ c. not (is_separator c)) front
  pub ends : EndsPart rest

abbrev plain_byte : ℕ → Type 0
plain_byte c = not (is_separator c) ≡ true

span : (text : List ℕ) → Span text
span [] = record { front = []; rest = []; split = refl; plain = All-nil plain_byte; ends = tt }
span (c ∷ cs) = ⊎_elim
    (λ yes. record { front = []; rest = c ∷ cs; split = refl; plain = All-nil plain_byte; ends = yes })
    (λ no.
    let later = span cs in
    record {
      front = c ∷ later.front;
      rest = later.rest;
      split = ap (λ t. c ∷ t) later.split;
      plain = All-cons plain_byte c later.front (rw no refl) later.plain;
      ends = later.ends;
    })
    (cases_Bool (is_separator c))

-- What stands behind a name, of which this much was read: all of it is right, or there is a fault.
abbrev Behind : ℕ → List ℕ → Type 0
Behind from behind = ((port : Option ℕ) × (limit : Option ℕ) × SpellsParts port limit behind)
    ⊎ ((at : ℕ) × (fault : HostFault) × PartFault from behind at fault)

-- a part more is right, and the rest is what is left to read
longer : (parts rest number left : List ℕ) (c : ℕ) → rest ≡ c ∷ (number ++ left) → parts ++ rest ≡ (parts ++ (c ∷ number)) ++ left
longer parts rest number left c is = ap (λ t. parts ++ t) is ∙ sym (append_assoc parts (c ∷ number) left)

wrong_there : (from : ℕ) (behind parts : List ℕ) (port limit : Option ℕ) (c : ℕ) (s : List ℕ) (span : Span s) (fault : HostFault)
    → behind ≡ parts ++ (c ∷ s) → SpellsParts port limit parts
    → WrongPart c port limit span.front fault → Behind from behind
wrong_there from behind parts port limit c s span fault split right wrong = inr (
  from + length parts + 1,
  fault,
  record {
    port = port;
    limit = limit;
    parts = parts;
    separator = c;
    number = span.front;
    rest = span.rest;
    split = split ∙ ap (λ t. parts ++ (c ∷ t)) span.split;
    right = right;
    plain = span.plain;
    ends = span.ends;
    wrong = wrong;
    place = refl;
  },
)

-- reading goes on behind these parts
abbrev ReadsOn : ℕ → ℕ → List ℕ → Type 0
ReadsOn fuel from behind = (parts rest : List ℕ) (port limit : Option ℕ) → length rest ≤ fuel → behind ≡ parts ++ rest
    → SpellsParts port limit parts → EndsPart rest → Behind from behind

module _ (fuel from : ℕ) (behind parts : List ℕ) (s : List ℕ) (number : Span s) (on : ReadsOn fuel from behind)
    (shorter : length number.rest ≤ fuel) (c : ℕ) (split : behind ≡ parts ++ (c ∷ s)) where
  grown : (separator : ℕ) → c ≡ separator → behind ≡ (parts ++ (separator ∷ number.front)) ++ number.rest
  grown separator is = split
      ∙ longer parts (c ∷ s) number.front number.rest separator (ap (λ a. a ∷ s) is ∙ ap (λ t. separator ∷ t) number.split)

  at_port : (port limit : Option ℕ) → c ≡ 58 → SpellsParts port limit parts → Behind from behind
  at_port (Some old) limit is right =
      wrong_there from behind parts (Some old) limit c s number BadPort split right (inl (is, inl refl, refl))
  at_port None limit is right = ⊎_elim
      (λ good. on (parts ++ (58 ∷ number.front)) number.rest (Some good.0) limit shorter (grown 58 is)
      (adds_port good.0 limit parts number.front right good.1) number.ends)
      (λ bad. wrong_there from behind parts None limit c s number BadPort split right (inl (is, inr bad, refl)))
      (decimal_or_none 5 1 port_max number.front)

  at_limit : (port limit : Option ℕ) → c ≡ 47 → SpellsParts port limit parts → Behind from behind
  at_limit port (Some old) is right =
      wrong_there from behind parts port (Some old) c s number BadLimit split right (inr (is, inl refl, refl))
  at_limit port None is right = ⊎_elim
      (λ good. on (parts ++ (47 ∷ number.front)) number.rest port (Some good.0) shorter (grown 47 is)
      (adds_limit port good.0 parts number.front right good.1) number.ends)
      (λ bad. wrong_there from behind parts port None c s number BadLimit split right (inr (is, inr bad, refl)))
      (decimal_or_none 3 1 slots_max number.front)

shorter_rest : (fuel : ℕ) (s : List ℕ) (number : Span s) → suc (length s) ≤ suc fuel → length number.rest ≤ fuel
shorter_rest fuel s number small = let whole = ap length number.split in let both = length-append number.front number.rest in omega arith

read_on : (fuel from : ℕ) (behind : List ℕ) → ReadsOn fuel from behind
read_on fuel from behind parts [] port limit small split right ends =
    inl (port, limit, subst (SpellsParts port limit) (sym (split ∙ append-nil parts)) right)
read_on zero from behind parts (c ∷ s) port limit small split right ends = absurd (omega arith)
read_on (suc fuel) from behind parts (c ∷ s) port limit small split right ends =
    let number = span s in
    let on : ReadsOn fuel from behind = read_on fuel from behind in
    let shorter = shorter_rest fuel s number small in
    ⊎_elim
    (λ is. at_port fuel from behind parts s number on shorter c split port limit (eqb-true c 58 is) right)
    (λ is. at_limit fuel from behind parts s number on shorter c split port limit (eqb-true c 47 is) right)
    (or_cases (c == 58) (c == 47) ends)

-- ---- the word

-- the word means something, or has such a fault
abbrev Read : List ℕ → (ℕ → HostFault → Type 0) → Type 0
Read word Fault = ((meaning : Meaning) × HostWord word meaning) ⊎ ((at : ℕ) × (fault : HostFault) × Fault at fault)

-- by a test
tested : (b : Bool) (word : List ℕ) (P Q : ℕ → HostFault → Type 0) → (b ≡ true → Read word P) → (b ≡ false → Read word Q)
    → Read word (λ at fault. MatchBool b (P at fault) (Q at fault))
tested b word P Q passes fails = ⊎_elim
    (λ is. ⊎_elim (λ meant. inl meant)
    (λ wrong. inr (wrong.0, wrong.1, by_true b (P wrong.0 wrong.1) (Q wrong.0 wrong.1) is wrong.2)) (passes is))
    (λ is. ⊎_elim (λ meant. inl meant)
    (λ wrong. inr (wrong.0, wrong.1, by_false b (P wrong.0 wrong.1) (Q wrong.0 wrong.1) is wrong.2)) (fails is))
    (cases_Bool b)

slots_read : (option word : List ℕ) (make : ℕ → Meaning) → ((n : ℕ) → SpellsSlots option word n → HostWord word (make n))
    → begins_with option word ≡ true → Read word (SlotsFault option word)
slots_read option word make means begins =
    let digits : List ℕ = drop (length option) word in
    let front : word ≡ option ++ digits = (starts_is Decides-eqb word option true (sym begins)).0 refl in
    ⊎_elim
    (λ good. inl (make good.0, means good.0 (digits, good.1, front)))
    (λ bad. inr (
      length option,
      BadLimit,
      (
        λ n is. bad n (subst (λ d. IsLimit d n) (sym (ap (drop (length option)) is.2 ∙ drop_at option is.0 (length option) refl))
            is.1),
        refl,
        refl,
      ),
    ))
    (decimal_or_none 3 1 slots_max digits)

option_read : (word : List ℕ) → Read word (OptionFault word)
option_read word =
    tested (begins_with (codes "--localslots=") word) word _ _ (slots_read (codes "--localslots=") word LocalSlots (λ n is. is))
    (λ other. tested (begins_with (codes "--localslots_cpp=") word) word _ _
    (slots_read (codes "--localslots_cpp=") word LocalCpp (λ n is. is))
    (λ none. tested (bytes_eq word (codes "--randomize")) word _ _
    (λ same. inl (Randomize, (bytes_eq-Decides word (codes "--randomize")).0 same))
    (λ unknown. inr (0, UnknownOption, (refl, refl)))))

plus_read : (word : List ℕ) → Read word (PlusFault word)
plus_read word = tested (bytes_eq word (codes "+zeroconf")) word _ _ (λ same. inr (0, Zeroconf, (refl, refl)))
    (λ other. inr (0, BadName, (refl, refl)))

behind_ends : (word : List ℕ) (n : ℕ) → n ≤ length word → (n == length word || is_separator (slice_index word n)) ≡ true
    → EndsPart (drop n word)
behind_ends word n within ends = ⊎_elim
    (λ last. subst EndsPart (sym (drop_all n word (let e = eqb-true n (length word) last in omega arith))) tt)
    (λ separator. ⊎_elim
    (λ more. subst EndsPart (sym (drop_more word n 0 more)) separator)
    (λ none. subst EndsPart (sym (drop_all n word none)) tt)
    (cases_lt n (length word)))
    (or_cases (n == length word) (is_separator (slice_index word n)) ends)

entry_read : (word : List ℕ) → Read word (EntryFault word)
entry_read word =
    let n : ℕ = name_reach word in
    tested (begins_with_name word) word (PartFault n (drop n word)) (λ at fault. (at ≡ n) × (fault ≡ BadName))
    (λ is.
    let both = and_parts (nat_lt 0 n) (n == length word || is_separator (slice_index word n)) is in
    let ends = behind_ends word n (reach_within word) both.1 in
    ⊎_elim
    (λ right. inl (
      Entry (host_of (take n word) right.0 right.1),
      record {
        name = take n word;
        port = right.0;
        limit = right.1;
        parts = drop n word;
        spelled = sym (take-append-drop n word);
        named = name_front word is;
        behind = right.2;
        meant = refl;
      },
    ))
    (λ wrong. inr wrong)
    (read_on (length (drop n word)) n (drop n word) [] (drop n word) None None (omega arith) refl refl ends))
    (λ no_name. inr (n, BadName, (refl, refl)))

pub every_word : (word : List ℕ) → ((meaning : Meaning) × HostWord word meaning)
    ⊎ ((at : ℕ) × (fault : HostFault) × WordFault word at fault)
every_word word =
    tested (begins_with (codes "--") word) word _ _ (λ is. option_read word)
    (λ no_option. tested (begins_with (codes "+") word) word _ _ (λ is. plus_read word)
    (λ no_plus. tested (has_byte 64 word) word _ _ (λ is. inr (0, Ssh, (refl, refl)))
    (λ no_at. tested (has_byte 44 word) word _ _ (λ is. inr (0, HostOption, (refl, refl)))
    (λ no_comma. entry_read word))))
