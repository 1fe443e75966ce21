-- What is printed is read again.
use Rattle.std.proofs.Common.{◌≡◌, ℕ, ◌+◌, ◌^◌, ◌<◌, ◌≤◌, Bool, true, false, ◌&&◌, cond, List, [], ◌∷◌, ◌++◌, map, length, Some, None}
use Rattle.std.proofs.Common.{refl, ap, sym, subst, ◌∙◌, inl, ⊎_elim, get_or, arith}
use Rattle.std.specs.Prelude.{codes, All}
use Rattle.std.specs.List.{AllPass, list_all, flat_map}
use Rattle.std.specs.Fmt.{decimal}
use Rattle.std.specs.Char.{digit_value}
use Rattle.std.specs.Str.{bytes_eq}
use Rattle.std.proofs.lemmas.Bool.{cases_Bool, and_parts}
use Rattle.std.proofs.lemmas.Bool.Decides.{nat_tests}
use Rattle.std.proofs.lemmas.Fmt.{decimal_is_IsNumeral, decimal-digits_of}
use Rattle.std.proofs.lemmas.Int.Digits.{length-digits_of-le}
use Rattle.std.specs.Int.Digits.{digits_of}
use Rattle.std.proofs.lemmas.List.{append_assoc, append-nil, length-map, length-append}
use Rattle.std.proofs.lemmas.List.Elements.{All-nil, All-cons, All-head, All-tail, All-append, All-weaker, All-from_get_or}
use Rattle.farm_types.specs.Limits.{port_default, port_max, slots_max}
use Rattle.farm_types.specs.Decimals.{IsDecimal}
use Rattle.farm_types.specs.declared.hosts.Host.{Host}
use Rattle.farm_types.specs.declared.hosts.Hosts.{Hosts}
use Rattle.host_list.specs.declared.meaning.Meaning.{Meaning}
use Rattle.host_list.specs.declared.meaning.Meaning.TheVariants.{Entry, LocalSlots, LocalCpp, Randomize}
use Rattle.host_list.specs.Names.{IsPort, IsLimit}
use Rattle.host_list.specs.TextWords.{without_comments}
use Rattle.host_list.specs.Runs.{runs, words_of}
use Rattle.host_list.specs.HostWords.{HostWord, SpellsHost, names_this_machine}
use Rattle.host_list.specs.HostLists.{HostWords, hosts_in, last_slots, last_cpp, asks_randomize, hosts_of, HostListOf, IsHost, AreHosts}
use Rattle.host_list.specs.HostLists.{host_line, slots_line, options_text, printed_hosts}
use Rattle.farm_types.proofs.DecimalLemmas.{digit_at}
use Rattle.host_list.proofs.Cutting.{in_word, word_cut, are_words}
use Rattle.host_list.proofs.WordReading.{is_host_byte, host_bytes}

-- ---- numbers

length-decimal : (k n : ℕ) → 1 ≤ n → n < 10 ^ k → n < 2 ^ 64 → length (decimal n) ≤ k
length-decimal k n low high fits =
    let few = length-digits_of-le 10 k n (omega arith) high in
    let same : length (decimal n) ≡ length (digits_of 10 n) = ap length (decimal-digits_of n low fits)
    ∙ length-map (digits_of 10 n) (λ d. 48 + d) in
    omega arith

number_again : (k greatest n : ℕ) → 1 ≤ n → n ≤ greatest → n < 10 ^ k → n < 2 ^ 64 → IsDecimal k 1 greatest (decimal n) n
number_again k greatest n low high power fits =
    let numeral = decimal_is_IsNumeral n fits in
    record {
      some = numeral.0.0;
      few = length-decimal k n low power fits;
      each = numeral.0.1;
      value = numeral.1;
      low = low;
      high = high;
    }

port_again : (n : ℕ) → 1 ≤ n → n ≤ port_max → IsPort (decimal n) n
port_again n low high = number_again 5 port_max n low high (omega arith) (omega arith)

limit_again : (n : ℕ) → 1 ≤ n → n ≤ slots_max → IsLimit (decimal n) n
limit_again n low high = number_again 3 slots_max n low high (omega arith) (omega arith)

-- ---- the word of an entry

abbrev host_text : Host → List ℕ
host_text host = (cond host.local (codes "localhost") ((host.name.text ++ codes ":") ++ decimal host.port) ++ codes "/")
    ++ decimal host.limit

and_false : (b : Bool) → (b && false) ≡ false
and_false true = refl
and_false false = refl

here_again : (host : Host) → IsHost host → host.local ≡ true → SpellsHost (host_text host) host
here_again host h local =
    let is = h.here local in
    let name : List ℕ = host.name.text in
    let limit : ℕ = host.limit in
    let at_port : ℕ → Host = λ p. record { name = record { text = name }; port = p; limit = limit; local = host.local } in
    let at_local : Bool → Host = λ b. record { name = record { text = name }; port = port_default; limit = limit; local = b } in
    let alone : names_this_machine name None ≡ true = ap (λ t. names_this_machine t None) is.0 in
    record {
      name = name;
      port = None;
      limit = Some limit;
      parts = codes "/" ++ decimal limit;
      spelled = rw local (let named = sym is.0 in
          ap (λ t. (t ++ codes "/") ++ decimal limit) named ∙ append_assoc name (codes "/") (decimal limit));
      named = h.named;
      behind = (decimal limit, limit_again limit h.limit_low h.limit_high, refl);
      meant = ap at_port is.1 ∙ ap at_local (local ∙ sym alone);
    }

-- a name, a port and a limit in a row
in_row : (name colon port slash limit : List ℕ)
    → (((name ++ colon) ++ port) ++ slash) ++ limit ≡ name ++ ((colon ++ port) ++ (slash ++ limit))
in_row name colon port slash limit =
    append_assoc ((name ++ colon) ++ port) slash limit ∙ ap (λ t. t ++ (slash ++ limit)) (append_assoc name colon port)
    ∙ append_assoc name (colon ++ port) (slash ++ limit)

there_again : (host : Host) → IsHost host → host.local ≡ false → SpellsHost (host_text host) host
there_again host h remote =
    let name : List ℕ = host.name.text in
    let at_local : Bool → Host = λ b. record { name = record { text = name }; port = host.port; limit = host.limit; local = b } in
    record {
      name = name;
      port = Some host.port;
      limit = Some host.limit;
      parts = (codes ":" ++ decimal host.port) ++ (codes "/" ++ decimal host.limit);
      spelled = rw remote (in_row name (codes ":") (decimal host.port) (codes "/") (decimal host.limit));
      named = h.named;
      behind = (
        codes ":" ++ decimal host.port,
        codes "/" ++ decimal host.limit,
        refl,
        inl (
          (decimal host.port, port_again host.port h.port_low h.port_high, refl),
          (decimal host.limit, limit_again host.limit h.limit_low h.limit_high, refl),
        ),
      );
      meant = ap at_local (remote ∙ sym (and_false (bytes_eq name (codes "localhost"))));
    }

host_again : (host : Host) → IsHost host → SpellsHost (host_text host) host
host_again host h = ⊎_elim (here_again host h) (there_again host h) (cases_Bool host.local)

-- ---- lines

-- a line with one word
line_cut : (at : ℕ) (w rest : List ℕ) → 1 ≤ length w → AllPass in_word w → runs at (without_comments false ((w ++ 10 ∷ []) ++ rest))
    ≡ record { at = at; bytes = w } ∷ runs (at + length w + 1) (without_comments false rest)
line_cut at [] rest some h = absurd (omega arith)
line_cut at (c ∷ cs) rest some h = ap (λ t. runs at (without_comments false t)) (append_assoc (c ∷ cs) (10 ∷ []) rest)
    ∙ word_cut at c cs (10 ∷ rest) h refl

host_in_word : (c : ℕ) → is_host_byte c ≡ true → in_word c ≡ true
host_in_word c h = grind (arith, nat_tests)

digit_in_word : (c : ℕ) → digit_value c < 10 → in_word c ≡ true
digit_in_word c h = grind (arith, nat_tests)

all_test : (p : ℕ → Bool) (xs : List ℕ) → list_all p xs ≡ true → AllPass p xs
all_test p [] h = All-nil (λ c. p c ≡ true)
all_test p (x ∷ xs) h = let two = and_parts (p x) (list_all p xs) h in All-cons (λ c. p c ≡ true) x xs two.0 (all_test p xs two.1)

decimal_in_word : (n : ℕ) → n < 2 ^ 64 → AllPass in_word (decimal n)
decimal_in_word n fits =
    let numeral = decimal_is_IsNumeral n fits in
    All-from_get_or (λ c. in_word c ≡ true) (decimal n) 0
    (λ k lt. digit_in_word (get_or (decimal n) k 0) (digit_at (decimal n) k lt numeral.0.1))

-- words that mean these, wherever they begin
abbrev Mean : List ℕ → List Meaning → Type 0
Mean text ms = (at : ℕ) → HostWords (runs at (without_comments false text)) ms

line_means : (w rest : List ℕ) (m : Meaning) (ms : List Meaning) → 1 ≤ length w → AllPass in_word w → HostWord w m → Mean rest ms
    → Mean ((w ++ 10 ∷ []) ++ rest) (m ∷ ms)
line_means w rest m ms some h one later at =
    subst (λ ws. HostWords ws (m ∷ ms)) (sym (line_cut at w rest some h)) (one, later (at + length w + 1))

host_means : (host : Host) (rest : List ℕ) (ms : List Meaning) → IsHost host → Mean rest ms
    → Mean (host_line host ++ rest) (Entry host ∷ ms)
host_means host rest ms h later =
    let spelled = host_again host h in
    let bytes = All-weaker (λ c. is_host_byte c ≡ true) (λ c. in_word c ≡ true) host_in_word (host_text host)
    (host_bytes (host_text host) host spelled) in
    let long = ap length spelled.spelled ∙ length-append spelled.name spelled.parts in
    let name = spelled.named.some in
    line_means (host_text host) rest (Entry host) ms (omega arith) bytes spelled later

hosts_mean : (list : List Host) (rest : List ℕ) (ms : List Meaning) → All IsHost list → Mean rest ms
    → Mean (flat_map host_line list ++ rest) (map Entry list ++ ms)
hosts_mean [] rest ms h later = later
hosts_mean (host ∷ list) rest ms h later =
    let more = hosts_mean list rest ms (All-tail IsHost host list h) later in
    subst (λ t. Mean t (Entry host ∷ (map Entry list ++ ms))) (sym (append_assoc (host_line host) (flat_map host_line list) rest))
    (host_means host (flat_map host_line list ++ rest) (map Entry list ++ ms) (All-head IsHost host list h) more)

slots_bytes : (option : List ℕ) (n : ℕ) → list_all in_word option ≡ true → n < 2 ^ 64 → AllPass in_word (option ++ decimal n)
slots_bytes option n plain fits =
    All-append (λ c. in_word c ≡ true) option (decimal n) (all_test in_word option plain) (decimal_in_word n fits)

slots_mean : (option : List ℕ) (n : ℕ) (m : Meaning) (rest : List ℕ) (ms : List Meaning) → list_all in_word option ≡ true
    → 1 ≤ length option → n < 2 ^ 64 → HostWord (option ++ decimal n) m → Mean rest ms → Mean (slots_line option n ++ rest) (m ∷ ms)
slots_mean option n m rest ms plain some fits one later =
    line_means (option ++ decimal n) rest m ms (omega (arith, length-append option (decimal n))) (slots_bytes option n plain fits) one later

abbrev randomize_of : Bool → List Meaning
randomize_of b = cond b (Randomize ∷ []) []

randomize_mean : (b : Bool) → Mean (cond b (codes "--randomize\n") []) (randomize_of b)
randomize_mean true = line_means (codes "--randomize") [] Randomize [] (omega arith) (all_test in_word (codes "--randomize") refl)
    refl (λ at. tt)
randomize_mean false = λ at. tt

abbrev options_of : Hosts → List Meaning
options_of hosts = LocalSlots hosts.local_slots ∷ LocalCpp hosts.local_cpp ∷ randomize_of hosts.randomize

options_mean : (hosts : Hosts) → AreHosts hosts → Mean (options_text hosts) (options_of hosts)
options_mean hosts h =
    let last = randomize_mean hosts.randomize in
    let slots = limit_again hosts.local_slots h.slots_low h.slots_high in
    let cpp = limit_again hosts.local_cpp h.cpp_low h.cpp_high in
    let slots_high = h.slots_high in
    let cpp_high = h.cpp_high in
    let tail : List ℕ = cond hosts.randomize (codes "--randomize\n") [] in
    let second = slots_mean (codes "--localslots_cpp=") hosts.local_cpp (LocalCpp hosts.local_cpp) tail
    (randomize_of hosts.randomize) refl (omega arith) (omega arith) (decimal hosts.local_cpp, cpp, refl) last in
    let first = slots_mean (codes "--localslots=") hosts.local_slots (LocalSlots hosts.local_slots)
    (slots_line (codes "--localslots_cpp=") hosts.local_cpp ++ tail) (LocalCpp hosts.local_cpp ∷ randomize_of hosts.randomize)
    refl (omega arith) (omega arith) (decimal hosts.local_slots, slots, refl) second in
    subst (λ t. Mean t (options_of hosts))
    (sym (append_assoc (slots_line (codes "--localslots=") hosts.local_slots)
    (slots_line (codes "--localslots_cpp=") hosts.local_cpp) tail)) first

-- ---- the list

entries-map : (list : List Host) (ms : List Meaning) → hosts_in (map Entry list ++ ms) ≡ list ++ hosts_in ms
entries-map [] ms = refl
entries-map (host ∷ list) ms = ap (λ hs. host ∷ hs) (entries-map list ms)

slots-map : (slots : ℕ) (list : List Host) (ms : List Meaning) → last_slots slots (map Entry list ++ ms) ≡ last_slots slots ms
slots-map slots [] ms = refl
slots-map slots (host ∷ list) ms = slots-map slots list ms

cpp-map : (slots : ℕ) (list : List Host) (ms : List Meaning) → last_cpp slots (map Entry list ++ ms) ≡ last_cpp slots ms
cpp-map slots [] ms = refl
cpp-map slots (host ∷ list) ms = cpp-map slots list ms

randomize-map : (list : List Host) (ms : List Meaning) → asks_randomize (map Entry list ++ ms) ≡ asks_randomize ms
randomize-map [] ms = refl
randomize-map (host ∷ list) ms = randomize-map list ms

no_entries : (b : Bool) → hosts_in (randomize_of b) ≡ []
no_entries true = refl
no_entries false = refl

same_slots : (n : ℕ) (b : Bool) → last_slots n (randomize_of b) ≡ n
same_slots n true = refl
same_slots n false = refl

same_cpp : (n : ℕ) (b : Bool) → last_cpp n (randomize_of b) ≡ n
same_cpp n true = refl
same_cpp n false = refl

same_randomize : (b : Bool) → asks_randomize (randomize_of b) ≡ b
same_randomize true = refl
same_randomize false = refl

entries_again : (hosts : Hosts) → hosts_in (map Entry hosts.list ++ options_of hosts) ≡ hosts.list
entries_again hosts = entries-map hosts.list (options_of hosts) ∙ ap (λ t. hosts.list ++ t) (no_entries hosts.randomize)
    ∙ append-nil hosts.list

hosts_again : (hosts : Hosts) → hosts ≡ hosts_of (map Entry hosts.list ++ options_of hosts)
hosts_again hosts =
    let slots = slots-map 4 hosts.list (options_of hosts) ∙ same_slots hosts.local_slots hosts.randomize in
    let cpp = cpp-map 8 hosts.list (options_of hosts) ∙ same_cpp hosts.local_cpp hosts.randomize in
    let randomize = randomize-map hosts.list (options_of hosts) ∙ same_randomize hosts.randomize in
    rw (entries_again hosts, slots, cpp, randomize) refl

pub print_again : (hosts : Hosts) → AreHosts hosts → HostListOf (printed_hosts hosts) hosts
print_again hosts h = record {
  words = words_of (printed_hosts hosts);
  meanings = map Entry hosts.list ++ options_of hosts;
  split = are_words (printed_hosts hosts);
  each = hosts_mean hosts.list (options_text hosts) (options_of hosts) h.each (options_mean hosts h) 0;
  few = let same = ap length (entries_again hosts) in let few = h.few in omega arith;
  meant = hosts_again hosts;
}
