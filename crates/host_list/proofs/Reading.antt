-- How a list of hosts grows word by word.
use Rattle.std.proofs.Common.{◌≡◌, ℕ, true, List, [], ◌∷◌, ◌++◌, length, refl, ap, sym, subst, ◌∙◌, arith}
use Rattle.std.proofs.lemmas.List.{append_assoc, append-nil}
use Rattle.farm_types.specs.declared.hosts.Host.{Host}
use Rattle.farm_types.specs.declared.hosts.Hosts.{Hosts}
use Rattle.host_list.specs.declared.meaning.Meaning.{Meaning}
use Rattle.host_list.specs.declared.meaning.Meaning.TheVariants.{Entry, LocalSlots, LocalCpp, Randomize}
use Rattle.host_list.specs.declared.fault.HostFault.{HostFault}
use Rattle.host_list.specs.declared.fault.HostError.{HostError}
use Rattle.host_list.specs.declared.fault.HostError.TheVariants.{Fault, Memory}
use Rattle.host_list.specs.Answers.{IsError}
use Rattle.host_list.specs.TextWords.{TextWord, WordsOf}
use Rattle.host_list.specs.Runs.{words_of}
use Rattle.host_list.proofs.Cutting.{are_words}
use Rattle.host_list.specs.HostWords.{HostWord}
use Rattle.host_list.specs.HostLists.{HostWords, hosts_in, last_slots, last_cpp, asks_randomize, hosts_of, HostListOf, HostFaultStands}
use Rattle.host_list.specs.HostLists.{IsWrongWord}
use Rattle.host_list.specs.Steps.{words_from, with_meaning, ReadsUpTo, TakesWord}

pub HostWords-push : (ws : List TextWord) (ms : List Meaning) (w : TextWord) (m : Meaning) → HostWords ws ms → HostWord w.bytes m
    → HostWords (ws ++ w ∷ []) (ms ++ m ∷ [])
HostWords-push [] [] w m h one = (one, tt)
HostWords-push [] (n ∷ ms) w m h one = absurd h
HostWords-push (v ∷ ws) [] w m h one = absurd h
HostWords-push (v ∷ ws) (n ∷ ms) w m h one = (h.0, HostWords-push ws ms w m h.1 one)

-- one entry more, at the end
entries-host : (ms : List Meaning) (host : Host) → hosts_in (ms ++ Entry host ∷ []) ≡ hosts_in ms ++ host ∷ []
entries-host [] host = refl
entries-host (Entry h ∷ ms) host = ap (λ hs. h ∷ hs) (entries-host ms host)
entries-host (LocalSlots n ∷ ms) host = entries-host ms host
entries-host (LocalCpp n ∷ ms) host = entries-host ms host
entries-host (Randomize ∷ ms) host = entries-host ms host

entries-slots : (ms : List Meaning) (n : ℕ) → hosts_in (ms ++ LocalSlots n ∷ []) ≡ hosts_in ms
entries-slots [] n = refl
entries-slots (Entry h ∷ ms) n = ap (λ hs. h ∷ hs) (entries-slots ms n)
entries-slots (LocalSlots k ∷ ms) n = entries-slots ms n
entries-slots (LocalCpp k ∷ ms) n = entries-slots ms n
entries-slots (Randomize ∷ ms) n = entries-slots ms n

entries-cpp : (ms : List Meaning) (n : ℕ) → hosts_in (ms ++ LocalCpp n ∷ []) ≡ hosts_in ms
entries-cpp [] n = refl
entries-cpp (Entry h ∷ ms) n = ap (λ hs. h ∷ hs) (entries-cpp ms n)
entries-cpp (LocalSlots k ∷ ms) n = entries-cpp ms n
entries-cpp (LocalCpp k ∷ ms) n = entries-cpp ms n
entries-cpp (Randomize ∷ ms) n = entries-cpp ms n

entries-randomize : (ms : List Meaning) → hosts_in (ms ++ Randomize ∷ []) ≡ hosts_in ms
entries-randomize [] = refl
entries-randomize (Entry h ∷ ms) = ap (λ hs. h ∷ hs) (entries-randomize ms)
entries-randomize (LocalSlots k ∷ ms) = entries-randomize ms
entries-randomize (LocalCpp k ∷ ms) = entries-randomize ms
entries-randomize (Randomize ∷ ms) = entries-randomize ms

-- the last number of a list of meanings and one more
last_slots-push : (slots : ℕ) (ms : List Meaning) (m : Meaning)
    → last_slots slots (ms ++ m ∷ []) ≡ last_slots (last_slots slots ms) (m ∷ [])
last_slots-push slots [] m = refl
last_slots-push slots (Entry h ∷ ms) m = last_slots-push slots ms m
last_slots-push slots (LocalSlots k ∷ ms) m = last_slots-push k ms m
last_slots-push slots (LocalCpp k ∷ ms) m = last_slots-push slots ms m
last_slots-push slots (Randomize ∷ ms) m = last_slots-push slots ms m

last_cpp-push : (slots : ℕ) (ms : List Meaning) (m : Meaning) → last_cpp slots (ms ++ m ∷ []) ≡ last_cpp (last_cpp slots ms) (m ∷ [])
last_cpp-push slots [] m = refl
last_cpp-push slots (Entry h ∷ ms) m = last_cpp-push slots ms m
last_cpp-push slots (LocalSlots k ∷ ms) m = last_cpp-push slots ms m
last_cpp-push slots (LocalCpp k ∷ ms) m = last_cpp-push k ms m
last_cpp-push slots (Randomize ∷ ms) m = last_cpp-push slots ms m

randomize-entry : (ms : List Meaning) (host : Host) → asks_randomize (ms ++ Entry host ∷ []) ≡ asks_randomize ms
randomize-entry [] host = refl
randomize-entry (Entry h ∷ ms) host = randomize-entry ms host
randomize-entry (LocalSlots k ∷ ms) host = randomize-entry ms host
randomize-entry (LocalCpp k ∷ ms) host = randomize-entry ms host
randomize-entry (Randomize ∷ ms) host = refl

randomize-slots : (ms : List Meaning) (n : ℕ) → asks_randomize (ms ++ LocalSlots n ∷ []) ≡ asks_randomize ms
randomize-slots [] n = refl
randomize-slots (Entry h ∷ ms) n = randomize-slots ms n
randomize-slots (LocalSlots k ∷ ms) n = randomize-slots ms n
randomize-slots (LocalCpp k ∷ ms) n = randomize-slots ms n
randomize-slots (Randomize ∷ ms) n = refl

randomize-cpp : (ms : List Meaning) (n : ℕ) → asks_randomize (ms ++ LocalCpp n ∷ []) ≡ asks_randomize ms
randomize-cpp [] n = refl
randomize-cpp (Entry h ∷ ms) n = randomize-cpp ms n
randomize-cpp (LocalSlots k ∷ ms) n = randomize-cpp ms n
randomize-cpp (LocalCpp k ∷ ms) n = randomize-cpp ms n
randomize-cpp (Randomize ∷ ms) n = refl

randomize-set : (ms : List Meaning) → asks_randomize (ms ++ Randomize ∷ []) ≡ true
randomize-set [] = refl
randomize-set (Entry h ∷ ms) = randomize-set ms
randomize-set (LocalSlots k ∷ ms) = randomize-set ms
randomize-set (LocalCpp k ∷ ms) = randomize-set ms
randomize-set (Randomize ∷ ms) = refl

pub hosts_of-push : (ms : List Meaning) (m : Meaning) → hosts_of (ms ++ m ∷ []) ≡ with_meaning (hosts_of ms) m
hosts_of-push ms (Entry host) =
    rw (entries-host ms host, last_slots-push 4 ms (Entry host), last_cpp-push 8 ms (Entry host), randomize-entry ms host) refl
hosts_of-push ms (LocalSlots n) =
    rw (entries-slots ms n, last_slots-push 4 ms (LocalSlots n), last_cpp-push 8 ms (LocalSlots n), randomize-slots ms n) refl
hosts_of-push ms (LocalCpp n) =
    rw (entries-cpp ms n, last_slots-push 4 ms (LocalCpp n), last_cpp-push 8 ms (LocalCpp n), randomize-cpp ms n) refl
hosts_of-push ms Randomize = rw (entries-randomize ms, last_slots-push 4 ms Randomize, last_cpp-push 8 ms Randomize, randomize-set ms) refl

pub reads_none : (text : List ℕ) → ReadsUpTo text 0 (hosts_of [])
reads_none text = record { before = []; meanings = []; words = refl; right = tt; few = omega arith; meant = refl }

pub reads_more : (text : List ℕ) (from next : ℕ) (hosts after : Hosts) (w : TextWord) → ReadsUpTo text from hosts
    → words_from from text ≡ w ∷ words_from next text → TakesWord w.bytes hosts after → ReadsUpTo text next after
reads_more text from next hosts after w read cut took =
    let same : after ≡ hosts_of (read.meanings ++ took.meaning ∷ []) = took.meant ∙ ap (λ h. with_meaning h took.meaning) read.meant
    ∙ sym (hosts_of-push read.meanings took.meaning) in
    record {
      before = read.before ++ w ∷ [];
      meanings = read.meanings ++ took.meaning ∷ [];
      words = read.words ∙ ap (λ ws. read.before ++ ws) cut ∙ sym (append_assoc read.before (w ∷ []) (words_from next text));
      right = HostWords-push read.before read.meanings w took.meaning read.right took.right;
      few = let list = ap (λ (h : Hosts). length h.list) same in omega (arith, took.few);
      meant = same;
    }

pub reads_all : (text : List ℕ) (from : ℕ) (hosts : Hosts) → ReadsUpTo text from hosts → words_from from text ≡ [] → HostListOf text hosts
reads_all text from hosts read none = record {
  words = words_of text;
  meanings = read.meanings;
  split = are_words text;
  each = let all : words_of text ≡ read.before = read.words ∙ ap (λ ws. read.before ++ ws) none ∙ append-nil read.before in
      subst (λ ws. HostWords ws read.meanings) (sym all) read.right;
  few = read.few;
  meant = read.meant;
}

pub reads_fault : (text : List ℕ) (from at : ℕ) (hosts : Hosts) (w : TextWord) (rest : List TextWord) (fault : HostFault)
    → ReadsUpTo text from hosts → words_from from text ≡ w ∷ rest → IsWrongWord (length hosts.list) w at fault
    → HostFaultStands text at fault
reads_fault text from at hosts w rest fault read cut wrong = record {
  before = read.before;
  word = w;
  after = rest;
  meanings = read.meanings;
  split = subst (WordsOf text) (read.words ∙ ap (λ ws. read.before ++ ws) cut) (are_words text);
  right = read.right;
  few = read.few;
  wrong = subst (λ n. IsWrongWord n w at fault) (ap (λ (h : Hosts). length h.list) read.meant) wrong;
}

pub reads_error : (text : List ℕ) (from : ℕ) (hosts : Hosts) (w : TextWord) (rest : List TextWord) (e : HostError)
    → ReadsUpTo text from hosts → words_from from text ≡ w ∷ rest → IsError (IsWrongWord (length hosts.list) w) e
    → IsError (HostFaultStands text) e
reads_error text from hosts w rest (Fault at fault) read cut wrong = reads_fault text from at hosts w rest fault read cut wrong
reads_error text from hosts w rest Memory read cut wrong = tt
