-- How a text is cut into words.
use Rattle.std.proofs.Common.{◌≡◌, ℕ, suc, ◌+◌, ◌-◌, ◌<◌, ◌≤◌, Bool, true, false, not, cond, eqb, List, [], ◌∷◌, ◌++◌, length, get_or}
use Rattle.std.proofs.Common.{take, drop, refl, ap, sym, ◌∙◌, subst, ⊎_elim, arith}
use Rattle.std.specs.List.{AllPass}
use Rattle.std.specs.Prelude.{◌==◌}
use Rattle.std.proofs.lemmas.Bool.{cond_both, cases_Bool, false≢true, eq-eqb, eqb-true}
use Rattle.std.proofs.lemmas.Bool.Decides.{nat_tests}
use Rattle.std.proofs.lemmas.List.Elements.{All-head, All-tail, All-cons, All-nil, All-weaker}
use Rattle.std.proofs.lemmas.List.{drop_more, append-nil, nil_from_length}
use Rattle.host_list.specs.TextWords.{TextWord, is_blank_or_feed, without_comments, EndsRun, BeginsWithWord, RunsOf, WordsOf}
use Rattle.host_list.specs.Runs.{with_byte, runs, words_of}
use Rattle.host_list.specs.Steps.{ends_word, EndsWord, EndsLine, words_from}
use Rattle.host_list.proofs.Ranges.{range_rest, range_first, length-range}

abbrev in_line : ℕ → Bool
in_line c = not (c == 10)

abbrev pub in_word : ℕ → Bool
in_word c = not (ends_word c)

-- ---- comments

not_line_feed : (c : ℕ) → in_line c ≡ true → eqb c 10 ≡ false
not_line_feed c h = grind (arith, nat_tests)

comment_body : (at : ℕ) (body rest : List ℕ) → AllPass in_line body → EndsLine rest
    → runs at (without_comments true (body ++ rest)) ≡ runs (at + length body) (without_comments false rest)
comment_body at [] [] h ends = refl
comment_body at [] (c ∷ cs) h ends =
    let e : at ≡ at + 0 = omega arith in
    rw ends (ap (λ a. runs (a + 1) (without_comments false cs)) e)
comment_body at (b ∷ body) rest h ends =
    let no : eqb b 10 ≡ false = not_line_feed b (All-head (λ c. in_line c ≡ true) b body h) in
    let later = comment_body (at + 1) body rest (All-tail (λ c. in_line c ≡ true) b body h) ends in
    let e : at + 1 + length body ≡ at + suc (length body) = omega arith in
    rw no (later ∙ ap (λ a. runs a (without_comments false rest)) e)

-- from the `#` to the end of its line
pub comment_at : (text : List ℕ) (i e : ℕ) → get_or text i 0 ≡ 35 → i < e → e ≤ length text
    → AllPass in_line (take (e - (i + 1)) (drop (i + 1) text)) → EndsLine (drop e text) → words_from i text ≡ words_from e text
comment_at text i e hash low high body ends =
    let B = take (e - (i + 1)) (drop (i + 1) text) in
    let cut : drop i text ≡ 35 ∷ (B ++ drop e text) = drop_more text i 0 (omega arith) ∙ ap (λ c. c ∷ drop (i + 1) text) hash
    ∙ ap (λ t. 35 ∷ t) (range_rest text (i + 1) e (omega arith)) in
    let len : (i + 1) + length B ≡ e = omega (arith, length-range text (i + 1) e (omega arith) high) in
    ap (λ t. runs i (without_comments false t)) cut ∙ comment_body (i + 1) B (drop e text) body ends
    ∙ ap (λ a. runs a (without_comments false (drop e text))) len

-- ---- words

not_word_end_10 : (c : ℕ) → in_word c ≡ true → eqb c 10 ≡ false
not_word_end_10 c h = grind (arith, nat_tests)

not_word_end_35 : (c : ℕ) → in_word c ≡ true → eqb c 35 ≡ false
not_word_end_35 c h = grind (arith, nat_tests)

not_blank : (c : ℕ) → in_word c ≡ true → is_blank_or_feed c ≡ false
not_blank c h = grind (arith, nat_tests)

kept_word : (w rest : List ℕ) → AllPass in_word w → without_comments false (w ++ rest) ≡ w ++ without_comments false rest
kept_word [] rest h = refl
kept_word (c ∷ cs) rest h =
    let here = All-head (λ c. in_word c ≡ true) c cs h in
    let later = kept_word cs rest (All-tail (λ c. in_word c ≡ true) c cs h) in
    rw (not_word_end_10 c here, not_word_end_35 c here) (ap (λ t. c ∷ t) later)

-- the first word begins at this place or later
abbrev Starts : ℕ → List TextWord → Type 0
Starts at [] = Unit {0}
Starts at (w ∷ ws) = at ≤ w.at

Starts-later : (at : ℕ) (ws : List TextWord) → Starts (at + 1) ws → Starts at ws
Starts-later at [] h = tt
Starts-later at (w ∷ ws) h = omega arith

with_byte_starts : (at c : ℕ) (ws : List TextWord) → Starts at (with_byte at c ws)
with_byte_starts at c [] = omega arith
with_byte_starts at c (w ∷ ws) =
    elim (w.at == at + 1) as (λ b. Starts at
    (cond b (record { at = at; bytes = c ∷ w.bytes } ∷ ws) (record { at = at; bytes = c ∷ [] } ∷ w ∷ ws)))
    [ true ↦ omega arith | false ↦ omega arith ]

runs_start : (at : ℕ) (xs : List ℕ) → Starts at (runs at xs)
runs_start at [] = tt
runs_start at (c ∷ cs) = elim (is_blank_or_feed c) as
    (λ b. Starts at (cond b (runs (at + 1) cs) (with_byte at c (runs (at + 1) cs))))
    [ true ↦ Starts-later at (runs (at + 1) cs) (runs_start (at + 1) cs) | false ↦ with_byte_starts at c (runs (at + 1) cs) ]

with_byte_far : (at c : ℕ) (ws : List TextWord) → Starts (at + 1 + 1) ws → with_byte at c ws ≡ record { at = at; bytes = c ∷ [] } ∷ ws
with_byte_far at c [] h = refl
with_byte_far at c (w ∷ ws) h = let no : eqb w.at (at + 1) ≡ false = grind (arith, nat_tests) in rw no refl

far_start : (at : ℕ) (t : List ℕ) → EndsRun t → Starts (at + 1) (runs at t)
far_start at [] h = tt
far_start at (c ∷ cs) h = rw h (runs_start (at + 1) cs)

abbrev plain : ℕ → Bool
plain c = not (is_blank_or_feed c)

no_blank : (c : ℕ) → plain c ≡ true → is_blank_or_feed c ≡ false
no_blank c h = ⊎_elim (λ is. absurd (false≢true (sym (ap not is) ∙ h))) (λ none. none) (cases_Bool (is_blank_or_feed c))

runs_word : (at c : ℕ) (cs t : List ℕ) → AllPass plain (c ∷ cs) → EndsRun t
    → runs at (c ∷ (cs ++ t)) ≡ record { at = at; bytes = c ∷ cs } ∷ runs (at + suc (length cs)) t
runs_word at c [] t h stops =
    let no : is_blank_or_feed c ≡ false = no_blank c (All-head (λ c. plain c ≡ true) c [] h) in
    rw no (with_byte_far at c (runs (at + 1) t) (far_start (at + 1) t stops))
runs_word at c (d ∷ ds) t h stops =
    let no : is_blank_or_feed c ≡ false = no_blank c (All-head (λ c. plain c ≡ true) c (d ∷ ds) h) in
    let later = runs_word (at + 1) d ds t (All-tail (λ c. plain c ≡ true) c (d ∷ ds) h) stops in
    let same : eqb (at + 1) (at + 1) ≡ true = grind (arith, nat_tests) in
    let e : at + 1 + suc (length ds) ≡ at + suc (suc (length ds)) = omega arith in
    let joined : with_byte at c (record { at = at + 1; bytes = d ∷ ds } ∷ runs (at + 1 + suc (length ds)) t)
    ≡ record { at = at; bytes = c ∷ d ∷ ds } ∷ runs (at + suc (suc (length ds))) t =
    rw same (ap (λ a. record { at = at; bytes = c ∷ d ∷ ds } ∷ runs a t) e) in
    rw no (ap (with_byte at c) later ∙ joined)

blank_end : (c : ℕ) → ends_word c ≡ true → (c == 35) ≡ false → is_blank_or_feed c ≡ true
blank_end c h no_hash = grind (arith, nat_tests)

stops_run : (rest : List ℕ) → EndsWord rest → EndsRun (without_comments false rest)
stops_run [] h = tt
stops_run (c ∷ cs) h =
    cond_both (c == 10) (10 ∷ without_comments false cs)
    (cond (c == 35) (32 ∷ without_comments true cs) (c ∷ without_comments false cs)) EndsRun
    (λ feed. refl)
    (λ no_feed. cond_both (c == 35) (32 ∷ without_comments true cs) (c ∷ without_comments false cs) EndsRun (λ hash. refl)
    (λ no_hash. blank_end c h no_hash))

-- a word, behind which another byte comes that is in no word
pub word_cut : (at c : ℕ) (cs rest : List ℕ) → AllPass in_word (c ∷ cs) → EndsWord rest
    → runs at (without_comments false (c ∷ (cs ++ rest))) ≡ record { at = at; bytes = c ∷ cs } ∷ runs (at + suc (length cs))
    (without_comments false rest)
word_cut at c cs rest h ends = ap (runs at) (kept_word (c ∷ cs) rest h)
    ∙ runs_word at c cs (without_comments false rest)
    (All-weaker (λ c. in_word c ≡ true) (λ c. plain c ≡ true) (λ c h. ap not (not_blank c h)) (c ∷ cs) h) (stops_run rest ends)

pub word_at : (text : List ℕ) (i e : ℕ) → ends_word (get_or text i 0) ≡ false → i < e → e ≤ length text
    → AllPass in_word (take (e - (i + 1)) (drop (i + 1) text)) → EndsWord (drop e text)
    → words_from i text ≡ record { at = i; bytes = take (e - i) (drop i text) } ∷ words_from (i + length (take (e - i) (drop i text))) text
word_at text i e first low high body ends =
    let B = take (e - (i + 1)) (drop (i + 1) text) in
    let x : ℕ = get_or text i 0 in
    let cut : drop i text ≡ x ∷ (B ++ drop e text) = drop_more text i 0 (omega arith)
    ∙ ap (λ t. x ∷ t) (range_rest text (i + 1) e (omega arith)) in
    let len : i + suc (length B) ≡ e = omega (arith, length-range text (i + 1) e (omega arith) high) in
    let long : e ≡ i + length (take (e - i) (drop i text)) = omega (arith, length-range text i e (omega arith) high) in
    let yes : in_word x ≡ true = ap not first in
    let each : AllPass in_word (x ∷ B) = All-cons (λ c. in_word c ≡ true) x B yes body in
    ap (λ t. runs i (without_comments false t)) cut ∙ word_cut i x B (drop e text) each ends
    ∙ ap (λ a. record { at = i; bytes = x ∷ B } ∷ runs a (without_comments false (drop e text))) len
    ∙ ap (λ b. record { at = i; bytes = b } ∷ words_from e text) (sym (range_first text i e low high))
    ∙ ap (λ a. record { at = i; bytes = take (e - i) (drop i text) } ∷ words_from a text) long

-- ---- the longest runs

runs_gap : (at : ℕ) (gap rest : List ℕ) → AllPass is_blank_or_feed gap → runs at (gap ++ rest) ≡ runs (at + length gap) rest
runs_gap at [] rest h = let e : at ≡ at + 0 = omega arith in ap (λ a. runs a rest) e
runs_gap at (c ∷ cs) rest h =
    let here = All-head (λ c. is_blank_or_feed c ≡ true) c cs h in
    let later = runs_gap (at + 1) cs rest (All-tail (λ c. is_blank_or_feed c ≡ true) c cs h) in
    let e : at + 1 + length cs ≡ at + suc (length cs) = omega arith in
    rw here (later ∙ ap (λ a. runs a rest) e)

run_first : (at : ℕ) (bytes rest : List ℕ) → 1 ≤ length bytes → AllPass plain bytes → EndsRun rest
    → runs at (bytes ++ rest) ≡ record { at = at; bytes = bytes } ∷ runs (at + length bytes) rest
run_first at [] rest some h ends = absurd (omega arith)
run_first at (c ∷ cs) rest some h ends = runs_word at c cs rest h ends

runs_are : (at : ℕ) (text : List ℕ) (ws : List TextWord) → RunsOf at text ws → ws ≡ runs at text
runs_are at text [] h = sym (ap (runs at) (sym (append-nil text)) ∙ runs_gap at text [] h)
runs_are at text (w ∷ ws) (rest, b, more) =
    let later = runs_are (w.at + length w.bytes) rest ws more in
    ap (λ t. w ∷ t) later
    ∙ sym (ap (runs at) b.split ∙ runs_gap at b.gap (w.bytes ++ rest) b.blank ∙ ap (λ a. runs a (w.bytes ++ rest)) (sym b.place)
    ∙ run_first w.at w.bytes rest b.some b.plain b.ends)

gap_more : (at c : ℕ) (cs : List ℕ) (ws : List TextWord) → is_blank_or_feed c ≡ true → RunsOf (at + 1) cs ws → RunsOf at (c ∷ cs) ws
gap_more at c cs [] is h = All-cons (λ c. is_blank_or_feed c ≡ true) c cs is h
gap_more at c cs (w ∷ ws) is (rest, b, more) =
    let place = b.place in (
      rest,
      record {
        gap = c ∷ b.gap;
        split = ap (λ t. c ∷ t) b.split;
        blank = All-cons (λ c. is_blank_or_feed c ≡ true) c b.gap is b.blank;
        place = omega arith;
        some = b.some;
        plain = b.plain;
        ends = b.ends;
      },
      more,
    )

blank_ends : (cs : List ℕ) → AllPass is_blank_or_feed cs → EndsRun cs
blank_ends [] h = tt
blank_ends (c ∷ cs) h = All-head (λ c. is_blank_or_feed c ≡ true) c cs h

gap_ends : (gap rest : List ℕ) → 1 ≤ length gap → AllPass is_blank_or_feed gap → EndsRun (gap ++ rest)
gap_ends [] rest some h = absurd (omega arith)
gap_ends (c ∷ cs) rest some h = All-head (λ c. is_blank_or_feed c ≡ true) c cs h

-- a word of one byte
alone : (at c : ℕ) (cs : List ℕ) → is_blank_or_feed c ≡ false → EndsRun cs
    → BeginsWithWord at (c ∷ cs) (record { at = at; bytes = c ∷ [] }) cs
alone at c cs no_space ends = record {
  gap = [];
  split = refl;
  blank = All-nil (λ c. is_blank_or_feed c ≡ true);
  place = omega arith;
  some = omega arith;
  plain = All-cons (λ c. plain c ≡ true) c [] (ap not no_space) (All-nil (λ c. plain c ≡ true));
  ends = ends;
}

-- a byte at the front of a word
joined : (at c : ℕ) (cs : List ℕ) (w : TextWord) (ws : List TextWord) → is_blank_or_feed c ≡ false → w.at ≡ at + 1
    → RunsOf (at + 1) cs (w ∷ ws) → RunsOf at (c ∷ cs) (record { at = at; bytes = c ∷ w.bytes } ∷ ws)
joined at c cs w ws no_space here (rest, b, more) =
    let place = b.place in
    let none : b.gap ≡ [] = nil_from_length b.gap (omega arith) in
    let end : w.at + length w.bytes ≡ at + suc (length w.bytes) = omega arith in (
      rest,
      record {
        gap = [];
        split = ap (λ t. c ∷ t) (b.split ∙ ap (λ g. g ++ (w.bytes ++ rest)) none);
        blank = All-nil (λ c. is_blank_or_feed c ≡ true);
        place = omega arith;
        some = omega arith;
        plain = All-cons (λ c. plain c ≡ true) c w.bytes (ap not no_space) b.plain;
        ends = b.ends;
      },
      subst (λ a. RunsOf a rest ws) end more,
    )

apart : (at c : ℕ) (cs : List ℕ) (w : TextWord) (ws : List TextWord) → is_blank_or_feed c ≡ false → (w.at == at + 1) ≡ false
    → RunsOf (at + 1) cs (w ∷ ws) → RunsOf at (c ∷ cs) (record { at = at; bytes = c ∷ [] } ∷ w ∷ ws)
apart at c cs w ws no_space far (rest, b, more) =
    let place = b.place in
    let far_on : (w.at ≡ at + 1) → ⊥ = λ e. false≢true (sym far ∙ eq-eqb w.at (at + 1) e) in
    let some : 1 ≤ length b.gap = omega (arith, far_on) in
    let ends : EndsRun cs = subst EndsRun (sym b.split) (gap_ends b.gap (w.bytes ++ rest) some b.blank) in
    (cs, alone at c cs no_space ends, (rest, b, more))

byte_more : (at c : ℕ) (cs : List ℕ) (ws : List TextWord) → is_blank_or_feed c ≡ false → RunsOf (at + 1) cs ws
    → RunsOf at (c ∷ cs) (with_byte at c ws)
byte_more at c cs [] no_space h = (cs, alone at c cs no_space (blank_ends cs h), h)
byte_more at c cs (w ∷ ws) no_space h =
    cond_both (w.at == at + 1) (record { at = at; bytes = c ∷ w.bytes } ∷ ws) (record { at = at; bytes = c ∷ [] } ∷ w ∷ ws)
    (RunsOf at (c ∷ cs))
    (λ same. joined at c cs w ws no_space (eqb-true w.at (at + 1) same) h)
    (λ other. apart at c cs w ws no_space other h)

are_runs : (at : ℕ) (text : List ℕ) → RunsOf at text (runs at text)
are_runs at [] = All-nil (λ c. is_blank_or_feed c ≡ true)
are_runs at (c ∷ cs) =
    let later = are_runs (at + 1) cs in
    cond_both (is_blank_or_feed c) (runs (at + 1) cs) (with_byte at c (runs (at + 1) cs)) (RunsOf at (c ∷ cs))
    (λ is. gap_more at c cs (runs (at + 1) cs) is later)
    (λ none. byte_more at c cs (runs (at + 1) cs) none later)

-- a text has one list of words
pub words_are : (text : List ℕ) (ws : List TextWord) → WordsOf text ws → ws ≡ words_of text
words_are text ws h = runs_are 0 (without_comments false text) ws h

pub are_words : (text : List ℕ) → WordsOf text (words_of text)
are_words text = are_runs 0 (without_comments false text)
