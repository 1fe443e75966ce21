-- Every text is a host list or has a fault.
use Rattle.std.proofs.Common.{◌≡◌, ℕ, ◌+◌, ◌≤◌, List, [], ◌∷◌, ◌++◌, length, refl, ap, subst, inl, inr, ⊎_elim, arith}
use Rattle.std.specs.Prelude.{◌⊎◌}
use Rattle.std.proofs.lemmas.Bool.{cases_lt}
use Rattle.farm_types.specs.Limits.{hosts_max}
use Rattle.farm_types.specs.declared.hosts.Hosts.{Hosts}
use Rattle.host_list.specs.declared.meaning.Meaning.{Meaning}
use Rattle.host_list.specs.declared.meaning.Meaning.TheVariants.{Entry, LocalSlots, LocalCpp, Randomize}
use Rattle.host_list.specs.declared.fault.HostFault.{HostFault}
use Rattle.host_list.specs.TextWords.{TextWord, WordsOf}
use Rattle.host_list.specs.Runs.{words_of}
use Rattle.host_list.specs.HostWords.{HostWord}
use Rattle.host_list.specs.HostLists.{HostWords, hosts_in, hosts_of, HostListOf, HostFaultStands, IsWrongWord}
use Rattle.host_list.proofs.Cutting.{are_words}
use Rattle.host_list.proofs.EveryWord.{every_word}

-- behind this many entries all these words are right
record AllRight (count : ℕ) (words : List TextWord) : Type 0 where
  meanings : List Meaning
  each : HostWords words meanings
  few : count + length (hosts_in meanings) ≤ hosts_max

-- behind this many entries one of these words is the first that isn't right
record OneWrong (count : ℕ) (words : List TextWord) : Type 0 where
  before : List TextWord
  word : TextWord
  after : List TextWord
  meanings : List Meaning
  at : ℕ
  fault : HostFault
  split : words ≡ before ++ word ∷ after
  right : HostWords before meanings
  few : count + length (hosts_in meanings) ≤ hosts_max
  wrong : IsWrongWord (count + length (hosts_in meanings)) word at fault

-- all are right, or one is wrong
abbrev AreRead : ℕ → List TextWord → Type 0
AreRead count words = AllRight count words ⊎ OneWrong count words

nothing_more : (count : ℕ) → count ≡ count + 0
nothing_more count = omega arith

wrong_first : (count : ℕ) (w : TextWord) (ws : List TextWord) (at : ℕ) (fault : HostFault) → count ≤ hosts_max
    → IsWrongWord count w at fault → AreRead count (w ∷ ws)
wrong_first count w ws at fault few wrong = inr (record {
  before = [];
  word = w;
  after = ws;
  meanings = [];
  at = at;
  fault = fault;
  split = refl;
  right = tt;
  few = omega arith;
  wrong = subst (λ n. IsWrongWord n w at fault) (nothing_more count) wrong;
})

-- a right word comes first, after which there are so many entries
right_first : (count next : ℕ) (w : TextWord) (ws : List TextWord) (m : Meaning) → HostWord w.bytes m
    → ((ms : List Meaning) → next + length (hosts_in ms) ≡ count + length (hosts_in (m ∷ ms))) → AreRead next ws → AreRead count (w ∷ ws)
right_first count next w ws m here same (inl all) = inl (record {
  meanings = m ∷ all.meanings;
  each = (here, all.each);
  few = let e = same all.meanings in let few = all.few in omega arith;
})
right_first count next w ws m here same (inr one) = inr (record {
  before = w ∷ one.before;
  word = one.word;
  after = one.after;
  meanings = m ∷ one.meanings;
  at = one.at;
  fault = one.fault;
  split = ap (λ t. w ∷ t) one.split;
  right = (here, one.right);
  few = let e = same one.meanings in let few = one.few in omega arith;
  wrong = subst (λ n. IsWrongWord n one.word one.at one.fault) (same one.meanings) one.wrong;
})

word_first : (count : ℕ) (w : TextWord) (ws : List TextWord) (m : Meaning) → count ≤ hosts_max → HostWord w.bytes m
    → ((n : ℕ) → n ≤ hosts_max → AreRead n ws) → AreRead count (w ∷ ws)
word_first count w ws (Entry host) few here on = ⊎_elim
    (λ more. right_first count (count + 1) w ws (Entry host) here (λ ms. omega arith) (on (count + 1) (omega arith)))
    (λ full. wrong_first count w ws w.at _ few (inr (host, here, omega arith, refl, refl)))
    (cases_lt count hosts_max)
word_first count w ws (LocalSlots n) few here on = right_first count count w ws (LocalSlots n) here (λ ms. refl) (on count few)
word_first count w ws (LocalCpp n) few here on = right_first count count w ws (LocalCpp n) here (λ ms. refl) (on count few)
word_first count w ws Randomize few here on = right_first count count w ws Randomize here (λ ms. refl) (on count few)

words_read : (count : ℕ) (ws : List TextWord) → count ≤ hosts_max → AreRead count ws
words_read count [] few = inl (record { meanings = []; each = tt; few = omega arith })
words_read count (w ∷ ws) few = ⊎_elim
    (λ meant. word_first count w ws meant.0 few meant.1 (λ n small. words_read n ws small))
    (λ wrong. wrong_first count w ws (w.at + wrong.0) wrong.1 few (inl (wrong.0, wrong.2, refl)))
    (every_word w.bytes)

no_entries : (n : ℕ) → 0 + n ≡ n
no_entries n = omega arith

pub every_text : (text : List ℕ) → ((hosts : Hosts) × HostListOf text hosts)
    ⊎ ((at : ℕ) × (fault : HostFault) × HostFaultStands text at fault)
every_text text = ⊎_elim
    (λ all. inl (
      hosts_of all.meanings,
      record {
        words = words_of text;
        meanings = all.meanings;
        split = are_words text;
        each = all.each;
        few = let few = all.few in omega arith;
        meant = refl;
      },
    ))
    (λ one. inr (
      one.at,
      one.fault,
      record {
        before = one.before;
        word = one.word;
        after = one.after;
        meanings = one.meanings;
        split = subst (WordsOf text) one.split (are_words text);
        right = one.right;
        few = let few = one.few in omega arith;
        wrong = subst (λ n. IsWrongWord n one.word one.at one.fault) (no_entries (length (hosts_in one.meanings))) one.wrong;
      },
    ))
    (words_read 0 (words_of text) (omega arith))
