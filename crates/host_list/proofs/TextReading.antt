-- One reading of each text.
use Rattle.std.proofs.Common.{◌≡◌, ℕ, suc, ◌+◌, ◌<◌, ◌≤◌, Bool, true, false, cond, List, [], ◌∷◌, ◌++◌, length, Option, Some, None, Ok}
use Rattle.std.proofs.Common.{Err, refl, ap, sym, ◌∙◌, inl, inr, subst, arith}
use Rattle.std.specs.Prelude.{◌==◌}
use Rattle.std.proofs.lemmas.Bool.Decides.{nat_tests}
use Rattle.std.proofs.lemmas.List.{append-nil}
use Rattle.farm_types.specs.Limits.{hosts_max}
use Rattle.farm_types.specs.declared.hosts.Host.{Host}
use Rattle.farm_types.specs.declared.hosts.Hosts.{Hosts}
use Rattle.host_list.specs.declared.meaning.Meaning.{Meaning}
use Rattle.host_list.specs.declared.meaning.Meaning.TheVariants.{Entry, LocalSlots, LocalCpp, Randomize}
use Rattle.host_list.specs.declared.fault.HostFault.{HostFault}
use Rattle.host_list.specs.declared.fault.HostFault.TheVariants.{TooMany}
use Rattle.host_list.specs.TextWords.{TextWord}
use Rattle.host_list.specs.Runs.{words_of}
use Rattle.host_list.proofs.Cutting.{words_are}
use Rattle.host_list.specs.HostWords.{HostWord, WordFault}
use Rattle.host_list.specs.HostLists.{HostWords, hosts_in, hosts_of, HostListOf, HostFaultStands, IsWrongWord}
use Rattle.host_list.proofs.WordReading.{Reading, reading_of, word_right, word_wrong, one_meaning}

-- what words mean, one by one, is one list
pub one_list : (ws : List TextWord) (one other : List Meaning) → HostWords ws one → HostWords ws other → one ≡ other
one_list [] [] [] h k = refl
one_list [] [] (n ∷ ns) h k = absurd k
one_list [] (m ∷ ms) other h k = absurd h
one_list (w ∷ ws) [] other h k = absurd h
one_list (w ∷ ws) (m ∷ ms) [] h k = absurd k
one_list (w ∷ ws) (m ∷ ms) (n ∷ ns) h k =
    let first = one_meaning w.bytes m n h.0 k.0 in
    let rest = one_list ws ms ns h.1 k.1 in
    rw (first, rest) refl

-- the first wrong word behind this many entries
abbrev first_wrong : ℕ → List TextWord → Option (ℕ × HostFault)
first_wrong count [] = None
first_wrong count (w ∷ ws) = after (reading_of w.bytes) w.at (count == hosts_max) (first_wrong count ws) (first_wrong (count + 1) ws)
  where
    after : Reading → ℕ → Bool → Option (ℕ × HostFault) → Option (ℕ × HostFault) → Option (ℕ × HostFault)
    after (Err wrong) at full same more = Some (at + wrong.0, wrong.1)
    after (Ok (Entry host)) at full same more = cond full (Some (at, TooMany)) more
    after (Ok (LocalSlots n)) at full same more = same
    after (Ok (LocalCpp n)) at full same more = same
    after (Ok Randomize) at full same more = same

host_next : (count : ℕ) (w : TextWord) (ws : List TextWord) (host : Host) → HostWord w.bytes (Entry host) → count < hosts_max
    → first_wrong count (w ∷ ws) ≡ first_wrong (count + 1) ws
host_next count w ws host h few =
    let is = word_right w.bytes (Entry host) h in
    let not_full : (count == hosts_max) ≡ false = grind (arith, nat_tests) in
    rw (is, not_full) refl

slots_next : (count : ℕ) (w : TextWord) (ws : List TextWord) (n : ℕ) → HostWord w.bytes (LocalSlots n)
    → first_wrong count (w ∷ ws) ≡ first_wrong count ws
slots_next count w ws n h = let is = word_right w.bytes (LocalSlots n) h in rw is refl

cpp_next : (count : ℕ) (w : TextWord) (ws : List TextWord) (n : ℕ) → HostWord w.bytes (LocalCpp n)
    → first_wrong count (w ∷ ws) ≡ first_wrong count ws
cpp_next count w ws n h = let is = word_right w.bytes (LocalCpp n) h in rw is refl

randomize_next : (count : ℕ) (w : TextWord) (ws : List TextWord) → HostWord w.bytes Randomize
    → first_wrong count (w ∷ ws) ≡ first_wrong count ws
randomize_next count w ws h = let is = word_right w.bytes Randomize h in rw is refl

-- right words are passed over
passed : (count : ℕ) (before : List TextWord) (ms : List Meaning) (rest : List TextWord) → HostWords before ms
    → count + length (hosts_in ms) ≤ hosts_max → first_wrong count (before ++ rest) ≡ first_wrong (count + length (hosts_in ms)) rest
passed count [] [] rest h few = let e : count ≡ count + 0 = omega arith in ap (λ n. first_wrong n rest) e
passed count [] (m ∷ ms) rest h few = absurd h
passed count (w ∷ ws) [] rest h few = absurd h
passed count (w ∷ ws) (Entry host ∷ ms) rest h few =
    let here = host_next count w (ws ++ rest) host h.0 (omega arith) in
    let later = passed (count + 1) ws ms rest h.1 (omega arith) in
    let e : count + 1 + length (hosts_in ms) ≡ count + suc (length (hosts_in ms)) = omega arith in
    here ∙ later ∙ ap (λ n. first_wrong n rest) e
passed count (w ∷ ws) (LocalSlots n ∷ ms) rest h few = slots_next count w (ws ++ rest) n h.0 ∙ passed count ws ms rest h.1 few
passed count (w ∷ ws) (LocalCpp n ∷ ms) rest h few = cpp_next count w (ws ++ rest) n h.0 ∙ passed count ws ms rest h.1 few
passed count (w ∷ ws) (Randomize ∷ ms) rest h few = randomize_next count w (ws ++ rest) h.0 ∙ passed count ws ms rest h.1 few

stopped_alone : (count : ℕ) (w : TextWord) (ws : List TextWord) (at place : ℕ) (fault : HostFault) → WordFault w.bytes place fault
    → at ≡ w.at + place → first_wrong count (w ∷ ws) ≡ Some (at, fault)
stopped_alone count w ws at place fault h e = let is = word_wrong w.bytes place fault h in rw is (ap (λ a. Some (a, fault)) (sym e))

stopped_full : (count : ℕ) (w : TextWord) (ws : List TextWord) (host : Host) → HostWord w.bytes (Entry host) → count ≡ hosts_max
    → first_wrong count (w ∷ ws) ≡ Some (w.at, TooMany)
stopped_full count w ws host h e =
    let is = word_right w.bytes (Entry host) h in
    let full : (count == hosts_max) ≡ true = rw e refl in
    rw (is, full) refl

stopped : (count : ℕ) (w : TextWord) (ws : List TextWord) (at : ℕ) (fault : HostFault) → IsWrongWord count w at fault
    → first_wrong count (w ∷ ws) ≡ Some (at, fault)
stopped count w ws at fault (inl own) = stopped_alone count w ws at own.0 fault own.1 own.2
stopped count w ws at fault (inr many) = stopped_full count w ws many.0 many.1 many.2 ∙ rw (many.3, many.4) refl

list_right : (text : List ℕ) (hosts : Hosts) → HostListOf text hosts → first_wrong 0 (words_of text) ≡ None
list_right text hosts h =
    ap (first_wrong 0) (sym (append-nil h.words ∙ words_are text h.words h.split))
    ∙ passed 0 h.words h.meanings [] h.each (let few = h.few in omega arith)

text_wrong : (text : List ℕ) (at : ℕ) (fault : HostFault) → HostFaultStands text at fault → first_wrong 0 (words_of text) ≡ Some (at, fault)
text_wrong text at fault h =
    let zero : 0 + length (hosts_in h.meanings) ≡ length (hosts_in h.meanings) = omega arith in
    ap (first_wrong 0) (sym (words_are text (h.before ++ h.word ∷ h.after) h.split))
    ∙ passed 0 h.before h.meanings (h.word ∷ h.after) h.right (let few = h.few in omega arith)
    ∙ ap (λ n. first_wrong n (h.word ∷ h.after)) zero ∙ stopped (length (hosts_in h.meanings)) h.word h.after at fault h.wrong

pub one_hosts : (text : List ℕ) (one other : Hosts) → HostListOf text one → HostListOf text other → one ≡ other
one_hosts text one other h k =
    let same : k.words ≡ h.words = words_are text k.words k.split ∙ sym (words_are text h.words h.split) in
    let each : HostWords h.words k.meanings = subst (λ ws. HostWords ws k.meanings) same k.each in
    h.meant ∙ ap hosts_of (one_list h.words h.meanings k.meanings h.each each) ∙ sym k.meant

pub no_both : (text : List ℕ) (hosts : Hosts) (at : ℕ) (fault : HostFault) → HostListOf text hosts → HostFaultStands text at fault → ⊥
no_both text hosts at fault h k = let e = sym (list_right text hosts h) ∙ text_wrong text at fault k in cc

pub one_fault : (text : List ℕ) (at there : ℕ) (fault other : HostFault) → HostFaultStands text at fault
    → HostFaultStands text there other → (at ≡ there) × (fault ≡ other)
one_fault text at there fault other h k =
    let e = sym (text_wrong text at fault h) ∙ text_wrong text there other k in
    let both : (at, fault) ≡ (there, other) = cc in
    (ap (λ (p : ℕ × HostFault). p.0) both, ap (λ (p : ℕ × HostFault). p.1) both)
