-- Printed words, read again.
use Rattle.std.proofs.Common.{◌≡◌, ℕ, zero, suc, ◌+◌, ◌<◌, ◌≤◌, Bool, true, false, List, [], ◌∷◌, ◌++◌, length, get_or, take, drop}
use Rattle.std.proofs.Common.{Result, Ok, Err, refl, ap, sym, ◌∙◌, subst, ⊎_elim, arith}
use Rattle.std.specs.Prelude.{not, ◌==◌, ◌||◌, map, All, IfOk, Some, if◌then◌else◌}
use Rattle.std.specs.List.{flat_map, position_or_len}
use Rattle.std.specs.Str.{IsUtf8}
use Rattle.std.proofs.lemmas.Bool.{cases_Bool, cases_lt, or_cases, eqb-true}
use Rattle.std.proofs.lemmas.Bool.Decides.{nat_tests}
use Rattle.std.proofs.lemmas.List.{append_assoc, append-nil, take_more, get_or-take, length-drop, length-take-le}
use Rattle.std.proofs.lemmas.List.Concat.{flat_map-append}
use Rattle.std.proofs.lemmas.List.Elements.{All-nil, All-cons, All-head, All-tail, All-append}
use Rattle.std.proofs.lemmas.List.Splits.{slice_split_none}
use Rattle.std.proofs.lemmas.List.Sums.{split_at_first, fails_before_first, passes_at_first}
use Rattle.std.proofs.lemmas.Str.{IsUtf8-append, IsUtf8-nil, IsUtf8-from_ascii, IsUtf8-take, IsUtf8-drop, IsCharBoundary-before_ascii}
use Rattle.std.proofs.lemmas.Str.{IsCharBoundary-after_ascii}
use Rattle.farm_types.specs.Limits.{job_list_max}
use Rattle.farm_types.specs.Bytes.{line_feed, space, double_quote, backslash}
use Rattle.job_list.specs.Parts.{Each, Quoted, literal, escaped, is_mark, IsQuoted, quoted_text, quoted_bytes, Part, blank, double}
use Rattle.job_list.specs.Parts.{IsPart, part_text}
use Rattle.job_list.specs.Lines.{words_of, goes_on, onto_words, LineOf}
use Rattle.job_list.specs.Texts.{is_job, lines_of, jobs_from, job_lines}
use Rattle.job_list.specs.Outputs.{outputs_of, AreApart}
use Rattle.job_list.specs.Jobs.{HasNoZero, JobOf, AreJobs, JobsOf}
use Rattle.job_list.specs.Prints.{IsPrintable, ArePrintable, AreUtf8, AreJobWords, byte_text, word_text, words_text}
use Rattle.job_list.proofs.Pairs.{get_past}

-- ---- one word more

words_push : (ws : List (List ℕ)) (word : List ℕ) → 0 < length ws → words_text (ws ++ word ∷ []) ≡ (words_text ws ++ space ∷ [])
    ++ word_text word
words_push [] word some = absurd (omega arith)
words_push (w ∷ ws) word some =
    let later : List ℕ = flat_map (λ v. space ∷ word_text v) ws in
    ap (λ t. word_text w ++ t) (flat_map-append (λ v. space ∷ word_text v) ws (word ∷ [])
    ∙ ap (λ t. later ++ t) (append-nil (space ∷ word_text word)))
    ∙ sym (append_assoc (word_text w) later (space ∷ word_text word))
    ∙ sym (append_assoc (word_text w ++ later) (space ∷ []) (word_text word))

-- the first word
pub words_first : (ws : List (List ℕ)) (at : ℕ) (line new word read : List ℕ) → at < length ws → at ≡ 0
    → line ≡ words_text (take at ws) → read ≡ get_or ws at read → word ≡ read → new ≡ line ++ word_text word
    → new ≡ words_text (take (at + 1) ws)
words_first ws at line new word read lt first before is same e =
    let start : take at ws ≡ [] = ap (λ n. take n ws) first in
    e ∙ ap (λ t. t ++ word_text word) (before ∙ ap words_text start) ∙ ap word_text (same ∙ is)
    ∙ sym (append-nil (word_text (get_or ws at read)))
    ∙ sym (ap words_text (take_more ws at read lt ∙ ap (λ t. t ++ get_or ws at read ∷ []) start))

-- and another one, behind a space
pub words_later : (ws : List (List ℕ)) (at : ℕ) (line mid new word read : List ℕ) → at < length ws → 0 < at
    → line ≡ words_text (take at ws) → mid ≡ line ++ space ∷ [] → read ≡ get_or ws at read → word ≡ read
    → new ≡ mid ++ word_text word → new ≡ words_text (take (at + 1) ws)
words_later ws at line mid new word read lt more before gap is same e =
    let some : 0 < length (take at ws) = omega (arith, length-take-le at ws (omega arith)) in
    e ∙ ap (λ t. t ++ word_text word) (gap ∙ ap (λ t. t ++ space ∷ []) before)
    ∙ ap (λ t. (words_text (take at ws) ++ space ∷ []) ++ word_text t) (same ∙ is)
    ∙ sym (words_push (take at ws) (get_or ws at read) some)
    ∙ sym (ap words_text (take_more ws at read lt))

-- ---- the parts

abbrev quoted_of : ℕ → Quoted
quoted_of c = if is_mark c then escaped c else literal c

quoted_is : (c : ℕ) → IsQuoted (quoted_of c)
quoted_is c = ⊎_elim (λ is. rw is is) (λ none. rw none (ap not none)) (cases_Bool (is_mark c))

quoted_byte : (c : ℕ) → quoted_bytes (quoted_of c) ≡ c ∷ []
quoted_byte c = ⊎_elim (λ is. rw is refl) (λ none. rw none refl) (cases_Bool (is_mark c))

quoted_spelled : (c : ℕ) → byte_text c ≡ quoted_text (quoted_of c)
quoted_spelled c = ⊎_elim (λ is. rw is refl) (λ none. rw none refl) (cases_Bool (is_mark c))

word_right : (word : List ℕ) → Each IsQuoted (map quoted_of word)
word_right [] = tt
word_right (c ∷ cs) = (quoted_is c, word_right cs)

word_bytes : (word : List ℕ) → flat_map quoted_bytes (map quoted_of word) ≡ word
word_bytes [] = refl
word_bytes (c ∷ cs) = ap (λ t. t ++ flat_map quoted_bytes (map quoted_of cs)) (quoted_byte c) ∙ ap (λ t. c ∷ t) (word_bytes cs)

word_spelled : (word : List ℕ) → flat_map byte_text word ≡ flat_map quoted_text (map quoted_of word)
word_spelled [] = refl
word_spelled (c ∷ cs) = ap (λ t. t ++ flat_map byte_text cs) (quoted_spelled c) ∙ ap (λ t. quoted_text (quoted_of c) ++ t) (word_spelled cs)

abbrev word_part : List ℕ → Part
word_part word = double (map quoted_of word)

abbrev later_parts : List (List ℕ) → List Part
later_parts [] = []
later_parts (w ∷ ws) = blank space ∷ word_part w ∷ later_parts ws

abbrev parts_of : List (List ℕ) → List Part
parts_of [] = []
parts_of (w ∷ ws) = word_part w ∷ later_parts ws

part_spelled : (word : List ℕ) → word_text word ≡ part_text (word_part word)
part_spelled word = ap (λ t. double_quote ∷ (t ++ double_quote ∷ [])) (word_spelled word)

later_right : (ws : List (List ℕ)) → Each IsPart (later_parts ws)
later_right [] = tt
later_right (w ∷ ws) = (refl, (word_right w, later_right ws))

later_spelled : (ws : List (List ℕ)) → flat_map (λ v. space ∷ word_text v) ws ≡ flat_map part_text (later_parts ws)
later_spelled [] = refl
later_spelled (w ∷ ws) = ap (λ t. space ∷ (t ++ flat_map (λ v. space ∷ word_text v) ws)) (part_spelled w)
    ∙ ap (λ t. space ∷ (part_text (word_part w) ++ t)) (later_spelled ws)

later_ends : (ws : List (List ℕ)) → goes_on (later_parts ws) ≡ false
later_ends [] = refl
later_ends (w ∷ ws) = refl

first_word : (w : List ℕ) (ws : List (List ℕ)) → words_of (later_parts ws) ≡ ws → words_of (word_part w ∷ later_parts ws) ≡ w ∷ ws
first_word w ws later =
    ap (λ b. onto_words b (flat_map quoted_bytes (map quoted_of w)) (words_of (later_parts ws))) (later_ends ws)
    ∙ ap (λ t. t ∷ words_of (later_parts ws)) (word_bytes w) ∙ ap (λ t. w ∷ t) later

later_words : (ws : List (List ℕ)) → words_of (later_parts ws) ≡ ws
later_words [] = refl
later_words (w ∷ ws) = first_word w ws (later_words ws)

line_printed : (ws : List (List ℕ)) → LineOf (words_text ws) ws
line_printed [] = record { parts = []; right = tt; spelled = refl; meant = refl }
line_printed (w ∷ ws) = record {
  parts = parts_of (w ∷ ws);
  right = (word_right w, later_right ws);
  spelled = ap (λ t. t ++ flat_map (λ v. space ∷ word_text v) ws) (part_spelled w)
      ∙ ap (λ t. part_text (word_part w) ++ t) (later_spelled ws);
  meant = sym (first_word w ws (later_words ws));
}

-- ---- bytes of the line

abbrev printable : ℕ → Bool
printable c = not (c == line_feed || c == 0)

abbrev Printable : List ℕ → Type 0
Printable text = All (λ c. printable c ≡ true) text

pass_append : (xs ys : List ℕ) → Printable xs → Printable ys → Printable (xs ++ ys)
pass_append xs ys h k = All-append (λ c. printable c ≡ true) xs ys h k

pass_cons : (c : ℕ) (cs : List ℕ) → printable c ≡ true → Printable cs → Printable (c ∷ cs)
pass_cons c cs h k = All-cons (λ c. printable c ≡ true) c cs h k

pass_nil : Printable []
pass_nil = All-nil (λ c. printable c ≡ true)

byte_passes : (c : ℕ) → printable c ≡ true → Printable (byte_text c)
byte_passes c h = ⊎_elim (λ is. rw is (pass_cons backslash (c ∷ []) refl (pass_cons c [] h pass_nil)))
    (λ none. rw none (pass_cons c [] h pass_nil)) (cases_Bool (is_mark c))

bytes_pass : (word : List ℕ) → Printable word → Printable (flat_map byte_text word)
bytes_pass [] h = pass_nil
bytes_pass (c ∷ cs) h = pass_append (byte_text c) (flat_map byte_text cs)
    (byte_passes c (All-head (λ c. printable c ≡ true) c cs h)) (bytes_pass cs (All-tail (λ c. printable c ≡ true) c cs h))

word_passes : (word : List ℕ) → Printable word → Printable (word_text word)
word_passes word h = pass_cons double_quote (flat_map byte_text word ++ double_quote ∷ []) refl
    (pass_append (flat_map byte_text word) (double_quote ∷ []) (bytes_pass word h) (pass_cons double_quote [] refl pass_nil))

later_pass : (ws : List (List ℕ)) → ArePrintable ws → Printable (flat_map (λ v. space ∷ word_text v) ws)
later_pass [] h = pass_nil
later_pass (w ∷ ws) h = pass_append (space ∷ word_text w) (flat_map (λ v. space ∷ word_text v) ws)
    (pass_cons space (word_text w) refl (word_passes w (All-head IsPrintable w ws h))) (later_pass ws (All-tail IsPrintable w ws h))

words_pass : (ws : List (List ℕ)) → ArePrintable ws → Printable (words_text ws)
words_pass [] h = pass_nil
words_pass (w ∷ ws) h = pass_append (word_text w) (flat_map (λ v. space ∷ word_text v) ws)
    (word_passes w (All-head IsPrintable w ws h)) (later_pass ws (All-tail IsPrintable w ws h))

no_feed : (c : ℕ) → printable c ≡ true → (c == line_feed) ≡ false
no_feed c h = grind (arith, nat_tests)

no_zero : (c : ℕ) → printable c ≡ true → not (c == 0) ≡ true
no_zero c h = grind (arith, nat_tests)

one_line : (ws : List (List ℕ)) → ArePrintable ws → lines_of (words_text ws) ≡ words_text ws ∷ []
one_line ws h = let each = words_pass ws h in
    slice_split_none (λ c. c == line_feed) (words_text ws) (λ k d l. no_feed (get_or (words_text ws) k d) (each k d l))

zero_free : (ws : List (List ℕ)) → ArePrintable ws → HasNoZero (words_text ws)
zero_free ws h = let each = words_pass ws h in λ k d l. no_zero (get_or (words_text ws) k d) (each k d l)

-- ---- UTF-8

ascii_byte : (c : ℕ) → c < 128 → IsUtf8 (c ∷ [])
ascii_byte c low = IsUtf8-from_ascii (c ∷ []) (λ i. by i)
  where
    by : (i : ℕ) → get_or (c ∷ []) i 0 < 128
    by zero = low
    by (suc i) = omega arith

mark_low : (c : ℕ) → is_mark c ≡ true → c < 128
mark_low c h = ⊎_elim (λ e. let is = eqb-true c double_quote e in omega arith) (λ e. let is = eqb-true c backslash e in
    omega arith) (or_cases (c == double_quote) (c == backslash) h)

plain_bytes : (xs : List ℕ) → All (λ c. is_mark c ≡ false) xs → flat_map byte_text xs ≡ xs
plain_bytes [] h = refl
plain_bytes (c ∷ cs) h =
    let none = All-head (λ c. is_mark c ≡ false) c cs h in
    let here : byte_text c ≡ c ∷ [] = rw none refl in
    ap (λ t. t ++ flat_map byte_text cs) here ∙ ap (λ t. c ∷ t) (plain_bytes cs (All-tail (λ c. is_mark c ≡ false) c cs h))

front_plain : (word : List ℕ) (at : ℕ) → at < length word → ((k d : ℕ) → k < at → is_mark (get_or word k d) ≡ false)
    → All (λ c. is_mark c ≡ false) (take at word)
front_plain word at lt h k d l =
    let within : k < at = omega (arith, length-take-le at word (omega arith)) in
    subst (λ c. is_mark c ≡ false) (sym (get_or-take at word k d within)) (h k d within)

bytes_utf8 : (n : ℕ) (word : List ℕ) → length word ≤ n → IsUtf8 word → IsUtf8 (flat_map byte_text word)
bytes_utf8 zero [] short utf8 = IsUtf8-nil
bytes_utf8 zero (c ∷ cs) short utf8 = absurd (omega arith)
bytes_utf8 (suc n) word short utf8 = ⊎_elim
    (λ (lt : position_or_len is_mark word < length word).
    let at : ℕ = position_or_len is_mark word in
    let mark : ℕ = get_or word at 0 in
    let is : is_mark mark ≡ true = passes_at_first is_mark word 0 lt in
    let low : mark < 128 = mark_low mark is in
    let front = IsUtf8-take word at utf8 (IsCharBoundary-before_ascii word at lt low) in
    let rest = IsUtf8-drop word (at + 1) utf8 (IsCharBoundary-after_ascii word at utf8 lt low) in
    let later = bytes_utf8 n (drop (at + 1) word) (omega (arith, length-drop (at + 1) word)) rest in
    let plain : flat_map byte_text (take at word) ≡ take at word =
    plain_bytes (take at word) (front_plain word at lt (λ k d l. fails_before_first is_mark word k d l)) in
    let here : byte_text mark ≡ backslash ∷ mark ∷ [] = rw is refl in
    let cut : flat_map byte_text word ≡ take at word ++ ((backslash ∷ mark ∷ []) ++ flat_map byte_text (drop (at + 1) word)) =
    ap (flat_map byte_text) (split_at_first is_mark word 0 lt) ∙ flat_map-append byte_text (take at word) (mark ∷ drop (at + 1) word)
    ∙ ap (λ t. t ++ (byte_text mark ++ flat_map byte_text (drop (at + 1) word))) plain
    ∙ ap (λ t. take at word ++ (t ++ flat_map byte_text (drop (at + 1) word))) here in
    let two : IsUtf8 (backslash ∷ mark ∷ []) =
    IsUtf8-append (backslash ∷ []) (mark ∷ []) (ascii_byte backslash (omega arith)) (ascii_byte mark low) in
    subst IsUtf8 (sym cut) (IsUtf8-append (take at word) ((backslash ∷ mark ∷ []) ++ flat_map byte_text (drop (at + 1) word)) front
    (IsUtf8-append (backslash ∷ mark ∷ []) (flat_map byte_text (drop (at + 1) word)) two later)))
    (λ past. subst IsUtf8 (sym (plain_bytes word (λ k d l. fails_before_first is_mark word k d (omega arith)))) utf8)
    (cases_lt (position_or_len is_mark word) (length word))

word_utf8 : (word : List ℕ) → IsUtf8 word → IsUtf8 (word_text word)
word_utf8 word utf8 =
    let quote = ascii_byte double_quote (omega arith) in
    IsUtf8-append (double_quote ∷ []) (flat_map byte_text word ++ double_quote ∷ []) quote
    (IsUtf8-append (flat_map byte_text word) (double_quote ∷ []) (bytes_utf8 (length word) word (omega arith) utf8) quote)

later_utf8 : (ws : List (List ℕ)) → AreUtf8 ws → IsUtf8 (flat_map (λ v. space ∷ word_text v) ws)
later_utf8 [] h = IsUtf8-nil
later_utf8 (w ∷ ws) h =
    IsUtf8-append (space ∷ word_text w) (flat_map (λ v. space ∷ word_text v) ws)
    (IsUtf8-append (space ∷ []) (word_text w) (ascii_byte space (omega arith)) (word_utf8 w (All-head IsUtf8 w ws h)))
    (later_utf8 ws (All-tail IsUtf8 w ws h))

words_utf8 : (ws : List (List ℕ)) → AreUtf8 ws → IsUtf8 (words_text ws)
words_utf8 [] h = IsUtf8-nil
words_utf8 (w ∷ ws) h = IsUtf8-append (word_text w) (flat_map (λ v. space ∷ word_text v) ws) (word_utf8 w (All-head IsUtf8 w ws h))
    (later_utf8 ws (All-tail IsUtf8 w ws h))

-- ---- the job

job_printed : (ws : List (List ℕ)) → ArePrintable ws → AreUtf8 ws → JobOf (words_text ws) ws
job_printed ws plain utf8 = record { legible = record { utf8 = words_utf8 ws utf8; plain = zero_free ws plain }; split = line_printed ws }

is_job_printed : (ws : List (List ℕ)) → 1 ≤ length ws → is_job (words_text ws) ≡ true
is_job_printed [] some = absurd (omega arith)
is_job_printed (w ∷ ws) some = refl

one_apart : (words : List (List ℕ)) → AreApart (outputs_of (words ∷ []))
one_apart words i j lt same = let within = get_past (outputs_of (words ∷ [])) j (Some same.0) same.2 in omega arith

list_printed : (ws : List (List ℕ)) → ArePrintable ws → AreUtf8 ws → 1 ≤ length ws → length (words_text ws) ≤ job_list_max
    → JobsOf (words_text ws) (ws ∷ [])
list_printed ws plain utf8 some short =
    let is = is_job_printed ws some in
    let lines : job_lines (words_text ws) ≡ record { number = 1; bytes = words_text ws } ∷ [] = ap (jobs_from 1) (one_line ws plain)
    ∙ rw is refl in
    record {
      short = short;
      each = subst (λ ls. AreJobs ls (ws ∷ [])) (sym lines) (job_printed ws plain utf8, tt);
      some = omega arith;
      few = omega arith;
      apart = one_apart ws;
    }

-- ---- the answer

pub answer_line : {E : Type 0} (r : Result (List ℕ) E) (ws : List (List ℕ)) → IfOk r (λ line. line ≡ words_text ws)
    → IfOk r (λ line. LineOf line ws)
answer_line (Ok line) ws is = subst (λ t. LineOf t ws) (sym is) (line_printed ws)
answer_line (Err e) ws is = tt

pub answer_one : {E : Type 0} (r : Result (List ℕ) E) (ws : List (List ℕ)) → ArePrintable ws → IfOk r (λ line. line ≡ words_text ws)
    → IfOk r (λ line. lines_of line ≡ line ∷ [])
answer_one (Ok line) ws plain is = subst (λ t. lines_of t ≡ t ∷ []) (sym is) (one_line ws plain)
answer_one (Err e) ws plain is = tt

pub answer_job : {E : Type 0} (r : Result (List ℕ) E) (ws : List (List ℕ)) → ArePrintable ws → IfOk r (λ line. line ≡ words_text ws)
    → AreJobWords ws → IfOk r (λ line. (is_job line ≡ true) × JobOf line ws)
answer_job (Ok line) ws plain is h =
    subst (λ t. (is_job t ≡ true) × JobOf t ws) (sym is) (is_job_printed ws h.some, job_printed ws plain h.utf8)
answer_job (Err e) ws plain is h = tt

pub answer_again : {E : Type 0} (r : Result (List ℕ) E) (ws : List (List ℕ)) → ArePrintable ws → IfOk r (λ line. line ≡ words_text ws)
    → AreJobWords ws → IfOk r (λ line. length line ≤ job_list_max → JobsOf line (ws ∷ []))
answer_again (Ok line) ws plain is h =
    subst (λ t. length t ≤ job_list_max → JobsOf t (ws ∷ [])) (sym is) (list_printed ws plain h.utf8 h.some)
answer_again (Err e) ws plain is h = tt
