-- The text without its lines of needs.
use Rattle.std.proofs.Common.{◌≡◌, ℕ, suc, ◌+◌, ◌<◌, ◌≤◌, Bool, true, false, List, [], ◌∷◌, ◌++◌, length, map, refl, ap, sym, ◌∙◌}
use Rattle.std.proofs.Common.{subst, inl, inr, arith}
use Rattle.std.specs.Prelude.{not, ◌==◌, All}
use Rattle.std.specs.List.{filter, flat_map, onto_first}
use Rattle.std.proofs.lemmas.List.{append-nil, append_assoc, length-append, length-map}
use Rattle.std.proofs.lemmas.List.Elements.{All-nil, All-cons, All-map}
use Rattle.std.proofs.lemmas.List.Splits.{slice_split-cons_yes, slice_split-cons_no, slice_split_none, slice_split_at, length-slice_split}
use Rattle.std.proofs.lemmas.Bool.Decides.{nat_tests}
use Rattle.farm_types.specs.Bytes.{line_feed, space}
use Rattle.job_list.specs.Texts.{is_job, lines_of, NumberedLine, jobs_from, job_lines}
use Rattle.job_list.specs.Jobs.{AreJobs, JobsOf}
use Rattle.job_list.proofs.Listing.{Next}
use Rattle.job_graph.specs.Lines.{is_needs, spaces, cut_line, cut_text, joined}
use Rattle.job_graph.specs.Needs.{is_graph_job}
use Rattle.job_graph.specs.Steps.{job_count}
use Rattle.job_graph.proofs.Lines.{LinesLeft, with_feeds, Cutting}

-- ---- the loop

pub spaces_more : (old done : List ℕ) (c : ℕ) → (old ++ spaces done) ++ space ∷ [] ≡ old ++ spaces (done ++ c ∷ [])
spaces_more old done c = append_assoc old (spaces done) (space ∷ []) ∙ ap (λ t. old ++ t) (by done)
  where
    by : (xs : List ℕ) → spaces xs ++ space ∷ [] ≡ spaces (xs ++ c ∷ [])
    by [] = refl
    by (x ∷ xs) = ap (λ t. space ∷ t) (by xs)

pub cut_begun : (text : List ℕ) (end : ℕ) (line cut : List ℕ) → Next text 0 end line → cut ≡ [] ++ cut_line line → Cutting text end cut
cut_begun text end line cut next is = record {
  lines = next.more;
  left = next.left;
  so_far = ap (λ ls. joined (map cut_line ls)) next.first ∙ ap (λ t. t ++ with_feeds next.more) (sym is);
}

pub cut_more : (text : List ℕ) (at end : ℕ) (line old new : List ℕ) → at < length text → Cutting text at old
    → Next text (at + 1) end line → new ≡ (old ++ line_feed ∷ []) ++ cut_line line → Cutting text end new
cut_more text at end line old new within h next is = by h.left
  where
    by : LinesLeft text (at + 1) h.lines → Cutting text end new
    by (inl p) = record {
      lines = next.more;
      left = next.left;
      so_far =
          h.so_far
          ∙ ap (λ ls. old ++ with_feeds ls) (p.1 ∙ next.first)
          ∙ sym (append_assoc old (line_feed ∷ cut_line line) (with_feeds next.more))
          ∙ ap (λ t. t ++ with_feeds next.more) (sym (append_assoc old (line_feed ∷ []) (cut_line line)) ∙ sym is);
    }
    by (inr p) = absurd (omega arith)

pub cut_all : (text : List ℕ) (at : ℕ) (cut : List ℕ) → length text ≤ at → Cutting text at cut → cut ≡ cut_text text
cut_all text at cut past h = by h.left
  where
    by : LinesLeft text (at + 1) h.lines → cut ≡ cut_text text
    by (inl p) = absurd (omega arith)
    by (inr p) = sym (h.so_far ∙ ap (λ ls. cut ++ with_feeds ls) p.1 ∙ append-nil cut)

-- ---- the lines of the text that is cut

abbrev Plain : List ℕ → Type 0
Plain line = All (λ c. (c == line_feed) ≡ false) line

abbrev ArePlain : List (List ℕ) → Type 0
ArePlain [] = Unit {0}
ArePlain (l ∷ ls) = Plain l × ArePlain ls

plain_onto : (c : ℕ) (ls : List (List ℕ)) → (c == line_feed) ≡ false → ArePlain ls → ArePlain (onto_first c ls)
plain_onto c [] h k = (All-cons (λ x. (x == line_feed) ≡ false) c [] h (All-nil (λ x. (x == line_feed) ≡ false)), tt)
plain_onto c (l ∷ ls) h k = (All-cons (λ x. (x == line_feed) ≡ false) c l h k.0, k.1)

lines_plain : (text : List ℕ) → ArePlain (lines_of text)
lines_plain [] = (All-nil (λ x. (x == line_feed) ≡ false), tt)
lines_plain (c ∷ cs) = by (lines_plain cs) (c == line_feed) refl
  where
    by : ArePlain (lines_of cs) → (b : Bool) → (c == line_feed) ≡ b → ArePlain (lines_of (c ∷ cs))
    by h true e = subst ArePlain (sym (slice_split-cons_yes (λ x. x == line_feed) c cs e)) (All-nil (λ x. (x == line_feed) ≡ false), h)
    by h false e = subst ArePlain (sym (slice_split-cons_no (λ x. x == line_feed) c cs e)) (plain_onto c (lines_of cs) e h)

plain_cut : (line : List ℕ) → Plain line → Plain (cut_line line)
plain_cut line h = by (is_needs line) refl
  where
    by : (b : Bool) → is_needs line ≡ b → Plain (cut_line line)
    by true e = rw e (All-map (λ x. (x == line_feed) ≡ false) (λ c. space) line (λ k d l. refl))
    by false e = rw e h

cut_plain : (ls : List (List ℕ)) → ArePlain ls → ArePlain (map cut_line ls)
cut_plain [] h = tt
cut_plain (l ∷ ls) h = (plain_cut l h.0, cut_plain ls h.1)

split_joined : (l : List ℕ) (ls : List (List ℕ)) → Plain l → ArePlain ls → lines_of (joined (l ∷ ls)) ≡ l ∷ ls
split_joined l [] h k = ap lines_of (append-nil l) ∙ slice_split_none (λ c. c == line_feed) l h
split_joined l (m ∷ ms) h k =
    slice_split_at (λ c. c == line_feed) l line_feed (m ++ flat_map (λ n. line_feed ∷ n) ms) h refl
    ∙ ap (λ t. l ∷ t) (split_joined m ms k.0 k.1)

-- a text has a line at least
pub record SomeLines (text : List ℕ) : Type 0 where
  pub first : List ℕ
  pub more : List (List ℕ)
  pub are : lines_of text ≡ first ∷ more

pub some_lines : (text : List ℕ) → SomeLines text
some_lines text = by (lines_of text) refl
  where
    by : (ls : List (List ℕ)) → lines_of text ≡ ls → SomeLines text
    by [] e = let n : length (lines_of text) ≡ 0 = ap length e in absurd (omega (arith, length-slice_split (λ c. c == line_feed) text))
    by (l ∷ ls) e = record { first = l; more = ls; are = e }

pub cut_lines : (text : List ℕ) → lines_of (cut_text text) ≡ map cut_line (lines_of text)
cut_lines text =
    let some = some_lines text in
    let plain : ArePlain (some.first ∷ some.more) = subst ArePlain some.are (lines_plain text) in
    ap (λ ls. lines_of (joined (map cut_line ls))) some.are
    ∙ split_joined (cut_line some.first) (map cut_line some.more) (plain_cut some.first plain.0) (cut_plain some.more plain.1)
    ∙ ap (map cut_line) (sym some.are)

-- ---- its length

feed_is : (c : ℕ) → (c == line_feed) ≡ true → c ≡ line_feed
feed_is c h = grind (arith, nat_tests)

joined_onto : (c : ℕ) (l : List ℕ) (ls : List (List ℕ)) → joined (onto_first c (l ∷ ls)) ≡ c ∷ joined (l ∷ ls)
joined_onto c l ls = refl

pub joined_lines : (text : List ℕ) → joined (lines_of text) ≡ text
joined_lines [] = refl
joined_lines (c ∷ cs) = by (joined_lines cs) (c == line_feed) refl
  where
    by : joined (lines_of cs) ≡ cs → (b : Bool) → (c == line_feed) ≡ b → joined (lines_of (c ∷ cs)) ≡ c ∷ cs
    by h true e =
        let some : SomeLines cs = some_lines cs in
        ap joined (slice_split-cons_yes (λ x. x == line_feed) c cs e)
        ∙ ap (λ ls. joined ([] ∷ ls)) some.are
        ∙ ap (λ t. line_feed ∷ t) (ap joined (sym some.are) ∙ h)
        ∙ ap (λ x. x ∷ cs) (sym (feed_is c e))
    by h false e =
        let some : SomeLines cs = some_lines cs in
        ap joined (slice_split-cons_no (λ x. x == line_feed) c cs e)
        ∙ ap (λ ls. joined (onto_first c ls)) some.are
        ∙ joined_onto c some.first some.more
        ∙ ap (λ t. c ∷ t) (ap joined (sym some.are) ∙ h)

cut_length : (line : List ℕ) → length (cut_line line) ≡ length line
cut_length line = by (is_needs line) refl
  where
    by : (b : Bool) → is_needs line ≡ b → length (cut_line line) ≡ length line
    by true e = rw e (length-map line (λ c. space))
    by false e = rw e refl

feeds_length : (ls : List (List ℕ)) → length (with_feeds ls) ≡ length (flat_map (λ m. line_feed ∷ m) ls)
feeds_length [] = refl
feeds_length (l ∷ ls) =
    ap suc (length-append (cut_line l) (with_feeds ls) ∙ ap (λ n. n + length (with_feeds ls)) (cut_length l)
    ∙ ap (λ n. length l + n) (feeds_length ls) ∙ sym (length-append l (flat_map (λ m. line_feed ∷ m) ls)))

pub cut_long : (text : List ℕ) → length (cut_text text) ≡ length text
cut_long text =
    let some = some_lines text in
    ap (λ ls. length (joined (map cut_line ls))) some.are
    ∙ length-append (cut_line some.first) (with_feeds some.more)
    ∙ ap (λ n. n + length (with_feeds some.more)) (cut_length some.first)
    ∙ ap (λ n. length some.first + n) (feeds_length some.more)
    ∙ sym (length-append some.first (flat_map (λ m. line_feed ∷ m) some.more))
    ∙ ap (λ ls. length (joined ls)) (sym some.are)
    ∙ ap length (joined_lines text)

-- ---- its jobs

spaces_no_job : (line : List ℕ) → is_job (spaces line) ≡ false
spaces_no_job [] = refl
spaces_no_job (c ∷ cs) = spaces_no_job cs

cut_job : (line : List ℕ) → is_job (cut_line line) ≡ is_graph_job line
cut_job line = by (is_needs line) refl
  where
    by : (b : Bool) → is_needs line ≡ b → is_job (cut_line line) ≡ is_graph_job line
    by true e = rw e (spaces_no_job line)
    by false e = rw e refl

jobs_counted : (number : ℕ) (ls : List (List ℕ)) → length (jobs_from number (map cut_line ls)) ≡ job_count ls
jobs_counted number [] = refl
jobs_counted number (l ∷ ls) = by (jobs_counted (number + 1) ls) (is_graph_job l) refl
  where
    by : length (jobs_from (number + 1) (map cut_line ls)) ≡ job_count ls → (b : Bool) → is_graph_job l ≡ b
        → length (jobs_from number (map cut_line (l ∷ ls))) ≡ job_count (l ∷ ls)
    by h true e = let f : is_job (cut_line l) ≡ true = cut_job l ∙ e in rw (f, e) (omega arith)
    by h false e = let f : is_job (cut_line l) ≡ false = cut_job l ∙ e in rw (f, e) h

are_long : (lines : List NumberedLine) (jobs : List (List (List ℕ))) → AreJobs lines jobs → length lines ≡ length jobs
are_long [] [] h = refl
are_long [] (j ∷ js) h = absurd h
are_long (l ∷ ls) [] h = absurd h
are_long (l ∷ ls) (j ∷ js) h = ap suc (are_long ls js h.1)

-- as many jobs of the graph as jobs of the list
pub list_counted : (text : List ℕ) (jobs : List (List (List ℕ))) → JobsOf (cut_text text) jobs → job_count (lines_of text) ≡ length jobs
list_counted text jobs h =
    sym (jobs_counted 1 (lines_of text))
    ∙ ap (λ ls. length (jobs_from 1 ls)) (sym (cut_lines text))
    ∙ are_long (job_lines (cut_text text)) jobs h.each

pub list_short : (text : List ℕ) (jobs : List (List (List ℕ))) → JobsOf (cut_text text) jobs → length text ≤ 16_777_216
list_short text jobs h = let short = h.short in omega (arith, cut_long text)

-- lines of needs count as lines, and are cut out otherwise
jobs_cut : (number : ℕ) (ls : List (List ℕ))
    → jobs_from number (map cut_line ls) ≡ filter (λ (line : NumberedLine). not (is_needs line.bytes)) (jobs_from number ls)
jobs_cut number [] = refl
jobs_cut number (l ∷ ls) = by (jobs_cut (number + 1) ls) (is_needs l) refl (is_job l) refl
  where
    by : jobs_from (number + 1) (map cut_line ls) ≡ filter (λ (line : NumberedLine). not (is_needs line.bytes))
        (jobs_from (number + 1) ls) → (b : Bool) → is_needs l ≡ b → (j : Bool) → is_job l ≡ j
        → jobs_from number (map cut_line (l ∷ ls)) ≡ filter (λ (line : NumberedLine). not (is_needs line.bytes))
        (jobs_from number (l ∷ ls))
    by h true e true f = let g : is_job (cut_line l) ≡ false = rw e (spaces_no_job l) in rw (g, f, e) h
    by h true e false f = let g : is_job (cut_line l) ≡ false = rw e (spaces_no_job l) in rw (g, f) h
    by h false e true f =
        let same : cut_line l ≡ l = rw e refl in
        rw (same, f, e) (ap (λ t. record { number = number; bytes = l } ∷ t) h)
    by h false e false f =
        let same : cut_line l ≡ l = rw e refl in
        rw (same, f) h

pub job_lines_cut : (text : List ℕ) → job_lines (cut_text text) ≡ filter (λ (line : NumberedLine). not (is_needs line.bytes))
    (job_lines text)
job_lines_cut text = ap (jobs_from 1) (cut_lines text) ∙ jobs_cut 1 (lines_of text)
