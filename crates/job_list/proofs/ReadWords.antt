-- What the words of a job are like.
use Rattle.std.proofs.Common.{◌≡◌, ℕ, ◌+◌, ◌<◌, ◌≤◌, Bool, true, false, List, [], ◌∷◌, ◌++◌, length, get_or, Result, Ok, Err, refl, ap}
use Rattle.std.proofs.Common.{sym, ◌∙◌, subst, ⊎_elim, arith}
use Rattle.std.specs.Prelude.{not, ◌==◌, ◌||◌, All, IfOk}
use Rattle.std.specs.List.{flat_map, onto_first}
use Rattle.std.specs.Str.{IsUtf8}
use Rattle.std.proofs.lemmas.Bool.{or_cases, eqb-true}
use Rattle.std.proofs.Math.Seq.{get_or-append_seam, take-append_seam, drop-append-add}
use Rattle.std.proofs.lemmas.List.{append_assoc, append-nil, length-append}
use Rattle.std.proofs.lemmas.List.Elements.{All-nil, All-cons, All-head, All-tail}
use Rattle.std.proofs.lemmas.Str.{IsUtf8-append, IsUtf8-take, IsUtf8-drop, IsCharBoundary-before_ascii, IsCharBoundary-after_ascii}
use Rattle.farm_types.specs.Bytes.{line_feed, single_quote, double_quote, backslash, is_blank}
use Rattle.job_list.specs.Parts.{Each, Quoted, literal, kept, escaped, quoted_text, quoted_bytes, Part, blank, bare, after_backslash}
use Rattle.job_list.specs.Parts.{single, double, IsPart, part_text, part_bytes}
use Rattle.job_list.specs.Lines.{words_of, goes_on, onto_words, LineOf}
use Rattle.job_list.specs.Texts.{lines_of, is_job, jobs_from}
use Rattle.job_list.specs.Jobs.{HasNoZero, JobOf, AreJobs, JobsOf}
use Rattle.job_list.specs.Prints.{IsPrintable, AreJobWords}
use Rattle.job_list.proofs.Taking.{all_append, onto_onto}

each_all : {X : Type 0} (P : X → Type 0) (xs : List X) → Each P xs → All P xs
each_all P [] h = All-nil P
each_all P (x ∷ xs) h = All-cons P x xs h.0 (each_all P xs h.1)

blank_low : (c : ℕ) → is_blank c ≡ true → c < 128
blank_low c h = ⊎_elim (λ e. let is = eqb-true c 32 e in omega arith) (λ e. let is = eqb-true c 9 e in
    omega arith) (or_cases (c == 32) (c == 9) h)

-- What holds of a text, and of both sides of each ASCII byte in it, and where it holds of two texts also of both in a
-- row, holds of the words of a line.
module _ (Q : List ℕ → Type 0) (cut : (xs ys : List ℕ) (c : ℕ) → c < 128 → Q (xs ++ c ∷ ys) → Q xs × Q ys) (join : (xs ys : List ℕ)
    → Q xs → Q ys → Q (xs ++ ys)) where
  dropped : (xs ys : List ℕ) (c : ℕ) → c < 128 → Q (xs ++ c ∷ ys) → Q (xs ++ ys)
  dropped xs ys c low h = let p = cut xs ys c low h in join xs ys p.0 p.1

  moved : (xs ys zs : List ℕ) → Q (xs ++ (ys ++ zs)) → Q ((xs ++ ys) ++ zs)
  moved xs ys zs h = subst Q (sym (append_assoc xs ys zs)) h

  quoted_read : (xs : List ℕ) (qs : List Quoted) (rest : List ℕ) → Q (xs ++ (flat_map quoted_text qs ++ rest))
      → Q (xs ++ (flat_map quoted_bytes qs ++ rest))
  quoted_read xs [] rest h = h
  quoted_read xs (literal c ∷ qs) rest h =
      subst Q (append_assoc xs (c ∷ []) (flat_map quoted_bytes qs ++ rest))
      (quoted_read (xs ++ c ∷ []) qs rest (moved xs (c ∷ []) (flat_map quoted_text qs ++ rest) h))
  quoted_read xs (kept c ∷ qs) rest h =
      subst Q (append_assoc xs (backslash ∷ c ∷ []) (flat_map quoted_bytes qs ++ rest))
      (quoted_read (xs ++ backslash ∷ c ∷ []) qs rest (moved xs (backslash ∷ c ∷ []) (flat_map quoted_text qs ++ rest) h))
  quoted_read xs (escaped c ∷ qs) rest h =
      subst Q (append_assoc xs (c ∷ []) (flat_map quoted_bytes qs ++ rest))
      (quoted_read (xs ++ c ∷ []) qs rest
      (moved xs (c ∷ []) (flat_map quoted_text qs ++ rest) (dropped xs (c ∷ (flat_map quoted_text qs ++ rest)) backslash (omega arith) h)))

  -- the quotes on both sides are dropped
  between : (xs ys rest : List ℕ) (c : ℕ) → c < 128 → Q (xs ++ c ∷ ((ys ++ c ∷ []) ++ rest)) → Q ((xs ++ ys) ++ rest)
  between xs ys rest c low h =
      let open_dropped = dropped xs ((ys ++ c ∷ []) ++ rest) c low h in
      let shut = moved xs ys (c ∷ rest) (subst (λ t. Q (xs ++ t)) (append_assoc ys (c ∷ []) rest) open_dropped) in
      dropped (xs ++ ys) rest c low shut

  part_read : (xs : List ℕ) (p : Part) (rest : List ℕ) → goes_on (p ∷ []) ≡ true → Q (xs ++ (part_text p ++ rest))
      → Q ((xs ++ part_bytes p) ++ rest)
  part_read xs (blank c) rest on h = absurd cc
  part_read xs (bare c) rest on h = moved xs (c ∷ []) rest h
  part_read xs (after_backslash c) rest on h = moved xs (c ∷ []) rest (dropped xs (c ∷ rest) backslash (omega arith) h)
  part_read xs (single cs) rest on h = between xs cs rest single_quote (omega arith) h
  part_read xs (double qs) rest on h =
      let text : List ℕ = flat_map quoted_text qs in
      let all = between xs text rest double_quote (omega arith) h in
      moved xs (flat_map quoted_bytes qs) rest (quoted_read xs qs rest (subst Q (append_assoc xs text rest) all))

  abbrev OpenWords : List Part → Type 0
  OpenWords ps = (word : List ℕ) → Q (word ++ flat_map part_text ps) → Each Q (onto_words (goes_on ps) word (words_of ps))

  abbrev NextWords : List Part → Type 0
  NextWords ps = Q (flat_map part_text ps) → Each Q (words_of ps)

  word_next : (p : Part) (ps : List Part) → goes_on (p ∷ []) ≡ true
      → words_of (p ∷ ps) ≡ onto_words (goes_on ps) (part_bytes p) (words_of ps) → goes_on (p ∷ ps) ≡ true → OpenWords ps
      → OpenWords (p ∷ ps) × NextWords (p ∷ ps)
  word_next p ps on words goes later = (
    λ word h. subst (Each Q) (sym (ap (λ b. onto_words b word (words_of (p ∷ ps))) goes ∙ ap (onto_words true word) words
        ∙ onto_onto word (part_bytes p) (goes_on ps) (words_of ps)))
        (later (word ++ part_bytes p) (part_read word p (flat_map part_text ps) on h)),
    λ h. subst (Each Q) (sym words) (later (part_bytes p) (part_read [] p (flat_map part_text ps) on h)),
  )

  words_read : (ps : List Part) → Each IsPart ps → OpenWords ps × NextWords ps
  words_read [] right = (λ word h. (subst Q (append-nil word) h, tt), λ h. tt)
  words_read (blank c ∷ ps) right = let later = words_read ps right.1 in (
    λ word h. (let p = cut word (flat_map part_text ps) c (blank_low c right.0) h in (p.0, later.1 p.1)),
    λ h. later.1 (cut [] (flat_map part_text ps) c (blank_low c right.0) h).1,
  )
  words_read (bare c ∷ ps) right = word_next (bare c) ps refl refl refl (words_read ps right.1).0
  words_read (after_backslash c ∷ ps) right = word_next (after_backslash c) ps refl refl refl (words_read ps right.1).0
  words_read (single cs ∷ ps) right = word_next (single cs) ps refl refl refl (words_read ps right.1).0
  words_read (double qs ∷ ps) right = word_next (double qs) ps refl refl refl (words_read ps right.1).0

  pub line_words : (line : List ℕ) (words : List (List ℕ)) → LineOf line words → Q line → Each Q words
  line_words line words h q = subst (Each Q) (sym h.meant) ((words_read h.parts h.right).1 (subst Q h.spelled q))

-- ---- UTF-8

utf8_cut : (xs ys : List ℕ) (c : ℕ) → c < 128 → IsUtf8 (xs ++ c ∷ ys) → IsUtf8 xs × IsUtf8 ys
utf8_cut xs ys c low h =
    let text : List ℕ = xs ++ c ∷ ys in
    let at : ℕ = length xs in
    let here : get_or text at 0 < 128 = subst (λ x. x < 128) (sym (get_or-append_seam xs c ys 0)) low in
    let within : at < length text = omega (arith, length-append xs (c ∷ ys)) in (
      subst IsUtf8 (take-append_seam xs (c ∷ ys)) (IsUtf8-take text at h (IsCharBoundary-before_ascii text at within here)),
      subst IsUtf8 (drop-append-add xs (c ∷ ys) 1) (IsUtf8-drop text (at + 1) h (IsCharBoundary-after_ascii text at h within here)),
    )

-- ---- bytes

abbrev printable : ℕ → Bool
printable c = not (c == line_feed || c == 0)

abbrev Passes : List ℕ → Type 0
Passes text = Each (λ c. printable c ≡ true) text

pass_cut : (xs ys : List ℕ) (c : ℕ) → c < 128 → Passes (xs ++ c ∷ ys) → Passes xs × Passes ys
pass_cut [] ys c low h = (tt, h.1)
pass_cut (x ∷ xs) ys c low h = let later = pass_cut xs ys c low h.1 in ((h.0, later.0), later.1)

both_pass : (c : ℕ) → (c == line_feed) ≡ false → not (c == 0) ≡ true → printable c ≡ true
both_pass c h k = rw h k

abbrev NoFeed : List ℕ → Type 0
NoFeed line = Each (λ c. (c == line_feed) ≡ false) line

line_passes : (line : List ℕ) → NoFeed line → HasNoZero line → Passes line
line_passes [] h k = tt
line_passes (c ∷ cs) h k =
    (both_pass c h.0 (All-head (λ c. not (c == 0) ≡ true) c cs k), line_passes cs h.1 (All-tail (λ c. not (c == 0) ≡ true) c cs k))

first_feeds : (c : ℕ) (ls : List (List ℕ)) → (c == line_feed) ≡ false → Each NoFeed ls → Each NoFeed (onto_first c ls)
first_feeds c [] no_feed h = ((no_feed, tt), tt)
first_feeds c (l ∷ ls) no_feed h = ((no_feed, h.0), h.1)

lines_feeds : (text : List ℕ) → Each NoFeed (lines_of text)
lines_feeds [] = (tt, tt)
lines_feeds (c ∷ cs) = by (c == line_feed) refl (lines_feeds cs)
  where
    by : (b : Bool) → (c == line_feed) ≡ b → Each NoFeed (lines_of cs) → Each NoFeed (lines_of (c ∷ cs))
    by true e h = rw e (tt, h)
    by false e h = rw e (first_feeds c (lines_of cs) e h)

-- ---- a job

onto_some : (on : Bool) (bytes : List ℕ) (ws : List (List ℕ)) → 1 ≤ length (onto_words on bytes ws)
onto_some true bytes [] = omega arith
onto_some true bytes (w ∷ ws) = omega arith
onto_some false bytes ws = omega arith

some_words : (ps : List Part) → Each IsPart ps → is_job (flat_map part_text ps) ≡ true → 1 ≤ length (words_of ps)
some_words [] right h = absurd cc
some_words (blank c ∷ ps) right h = some_words ps right.1 (let is = right.0 in rw is at h)
some_words (bare c ∷ ps) right h = onto_some (goes_on ps) (c ∷ []) (words_of ps)
some_words (after_backslash c ∷ ps) right h = onto_some (goes_on ps) (c ∷ []) (words_of ps)
some_words (single cs ∷ ps) right h = onto_some (goes_on ps) cs (words_of ps)
some_words (double qs ∷ ps) right h = onto_some (goes_on ps) (flat_map quoted_bytes qs) (words_of ps)

job_words : (line : List ℕ) (words : List (List ℕ)) → NoFeed line → is_job line ≡ true → JobOf line words → AreJobWords words
job_words line words plain is h =
    let split = h.split in
    let legible = h.legible in
    record {
      some = subst (λ (ws : List (List ℕ)). 1 ≤ length ws) (sym split.meant)
          (some_words split.parts split.right (ap is_job (sym split.spelled) ∙ is));
      printable = each_all IsPrintable words
          (printables words (line_words Passes pass_cut (all_append (λ c. printable c ≡ true)) line words split
          (line_passes line plain legible.plain)));
      utf8 = each_all IsUtf8 words (line_words IsUtf8 utf8_cut IsUtf8-append line words split legible.utf8);
    }
  where
    printables : (ws : List (List ℕ)) → Each Passes ws → Each IsPrintable ws
    printables [] h = tt
    printables (w ∷ ws) h = (each_all (λ c. printable c ≡ true) w h.0, printables ws h.1)

jobs_words : (number : ℕ) (ls : List (List ℕ)) (jobs : List (List (List ℕ))) → Each NoFeed ls → AreJobs (jobs_from number ls) jobs
    → Each AreJobWords jobs
jobs_words number [] [] plain h = tt
jobs_words number [] (j ∷ js) plain h = absurd h
jobs_words number (l ∷ ls) jobs plain h = by (is_job l) refl jobs h (λ js p. jobs_words (number + 1) ls js plain.1 p)
  where
    by : (b : Bool) → is_job l ≡ b → (js : List (List (List ℕ))) → AreJobs (jobs_from number (l ∷ ls)) js
        → ((ks : List (List (List ℕ))) → AreJobs (jobs_from (number + 1) ls) ks → Each AreJobWords ks) → Each AreJobWords js
    by false e js h more = more js (rw e at h)
    by true e [] h more = tt
    by true e (j ∷ js) h more = let p = rw e at h in (job_words l j plain.0 e p.0, more js p.1)

pub text_words : (text : List ℕ) (jobs : List (List (List ℕ))) → JobsOf text jobs → All AreJobWords jobs
text_words text jobs h = each_all AreJobWords jobs (jobs_words 1 (lines_of text) jobs (lines_feeds text) h.each)

pub answer_words : {E : Type 0} (r : Result (List (List (List ℕ))) E) (text : List ℕ) → IfOk r (λ jobs. JobsOf text jobs)
    → IfOk r (λ jobs. All AreJobWords jobs)
answer_words (Ok jobs) text h = text_words text jobs h
answer_words (Err e) text h = tt
