-- One line, and then the others.
use Rattle.std.proofs.Common.{◌≡◌, ℕ, zero, suc, ◌+◌, ◌-◌, ◌≤◌, ◌<◌, ◌≢◌, nat_le, true, false, List, [], ◌∷◌, ◌++◌, ◌==◌, ◌||◌, Bool}
use Rattle.std.proofs.Common.{length, take, refl, sym, ap, ◌∙◌, subst, inl, inr, arith, append_assoc, min}
use Rattle.std.proofs.lemmas.List.{append-nil}
use mathlib.Core.List.{IsPrefix}
use Rattle.farm_monitor.specs.declared.progress.Progress.{Progress}
use Rattle.std.proofs.lemmas.Bool.{and_parts, and_from, le-leb, leb-true}
use Rattle.std.proofs.lemmas.Bool.Decides.{nat_tests}
use Rattle.edge_traits.specs.Told.{Grew}
use Rattle.edge_traits.specs.Sinks.{SinkView}
use Rattle.edge_traits.specs.Causes.{Rose}
use Rattle.edge_traits.proofs.ToldLemmas.{Grew-join, Grew-refl}
use Rattle.stream_print.specs.Prints.{GoesOn, DidStop}
use Rattle.progress_lines.specs.declared.count.Count.{Count}
use Rattle.progress_lines.specs.declared.line_end.LineEnd.{LineEnd}
use Rattle.progress_lines.specs.declared.line_end.LineEnd.TheVariants.{Whole, SinkFault, Memory}
use Rattle.progress_lines.specs.Lines.{watch_line, lines_text, counts_rise, are_all, lines_end}
use Rattle.progress_lines.specs.Counts.{total, at_jobs, count_of, ReadOn, AreLooks}
use Rattle.progress_lines.specs.Printed.{PartPrinted, LinePrinted, LinesCut, WatchLines, counts_told}

goes-join : {a b c : SinkView} → GoesOn a b → GoesOn b c → GoesOn a c
goes-join first second = record { faults = second.faults ∙ first.faults; stopped = second.stopped ∙ first.stopped }

stop-after : (a b c : SinkView) → GoesOn a b → DidStop b c → DidStop a c
stop-after a b c goes (inl rose) = inl (subst (λ (n : ℕ). Rose n c.faults) goes.faults rose)
stop-after a b c goes (inr stopped) = inr stopped

-- no line is left
pub none-left : (jobs workers at lines least : ℕ) (sink : SinkView) → lines ≡ 0 → WatchLines jobs workers at lines least sink sink Whole
none-left jobs workers at lines least sink none = record {
  counts = [];
  ends = rw none refl;
  rises = refl;
  within = refl;
  printed = Grew-refl _;
  goes_on = record { faults = refl; stopped = refl };
}

or-false-right : (x y : Bool) → (x || y) ≡ false → y ≡ false
or-false-right false y is = is
or-false-right true y is = absurd (cc)

-- where a line isn't the last another is left
pub more-left : (left : ℕ) (all : Bool) → 0 < left → ((left == 1) || all) ≡ false → 1 ≤ left - 1
more-left zero all some goes = elim some [ ]
more-left (suc zero) all some goes = absurd (cc)
more-left (suc (suc left)) all some goes = omega arith

-- a line that doesn't say that all jobs have ended, and then the others
ends-more : (jobs lines left : ℕ) (c : Count) (counts : List Count) → lines ≡ left + 1 → 1 ≤ left → are_all jobs c ≡ false
    → lines_end jobs left counts ≡ true → lines_end jobs lines (c ∷ counts) ≡ true
ends-more jobs lines left c [] one some not_all ends =
    let none : left ≡ 0 = grind (arith, nat_tests) in absurd (omega (arith, some, none))
ends-more jobs lines left c (d ∷ counts) one some not_all ends =
    let same : lines - 1 ≡ left = omega arith in rw (not_all, same, ends) refl

-- what the jobs ended are at least in the first line they are also where that is less
rises-from : (least low : ℕ) (counts : List Count) → low ≤ least → counts_rise least counts ≡ true → counts_rise low counts ≡ true
rises-from least low [] less rises = refl
rises-from least low (c ∷ counts) less rises =
    let both = and_parts (nat_le least c.ended) (counts_rise c.ended counts) rises in
    let up = leb-true least c.ended both.0 in
    and_from (nat_le low c.ended) (counts_rise c.ended counts) (le-leb low c.ended (omega (arith, up, less))) both.1

cut-from : (jobs workers at lines least low : ℕ) (old new : SinkView) → low ≤ least → LinesCut jobs workers at lines least old new
    → LinesCut jobs workers at lines low old new
cut-from jobs workers at lines least low old new less c = record {
  counts = c.counts;
  next = c.next;
  few = c.few;
  going = c.going;
  rises = rises-from least low (c.counts ++ c.next ∷ []) less c.rises;
  within = c.within;
  part = c.part;
  short = c.short;
  printed = c.printed;
}

-- lines are lines also from a lower least on
pub lines-from : (jobs workers at lines least low : ℕ) (old new : SinkView) (end : LineEnd) → low ≤ least
    → WatchLines jobs workers at lines least old new end → WatchLines jobs workers at lines low old new end
lines-from jobs workers at lines least low old new Whole less w = record {
  counts = w.counts;
  ends = w.ends;
  rises = rises-from least low w.counts less w.rises;
  within = w.within;
  printed = w.printed;
  goes_on = w.goes_on;
}
lines-from jobs workers at lines least low old new SinkFault less w = (cut-from jobs workers at lines least low old new less w.0, w.1)
lines-from jobs workers at lines least low old new Memory less w = (cut-from jobs workers at lines least low old new less w.0, w.1)

pub record Fits (jobs workers least : ℕ) (c : Count) : Type 0 where
  pub rises : nat_le least c.ended ≡ true
  pub jobs_within : nat_le c.ended jobs ≡ true
  pub workers_within : nat_le c.busy workers ≡ true

pub fits : (jobs workers least : ℕ) (c : Count) → least ≤ c.ended → c.ended ≤ jobs → c.busy ≤ workers → Fits jobs workers least c
fits jobs workers least c up few busy =
    record { rises = grind (arith, nat_tests); jobs_within = grind (arith, nat_tests); workers_within = grind (arith, nat_tests) }

cut-more : (jobs workers at lines left least : ℕ) (c : Count) (old mid new : SinkView) → Fits jobs workers least c → lines ≡ left + 1
    → are_all jobs c ≡ false → Grew old.written mid.written (watch_line at jobs c)
    → LinesCut jobs workers (at + 1) left c.ended mid new → LinesCut jobs workers at lines least old new
cut-more jobs workers at lines left least c old mid new fit one not_all line rest =
    let here : at + 1 + length rest.counts ≡ at + length (c ∷ rest.counts) = omega arith in record {
      counts = c ∷ rest.counts;
      next = rest.next;
      few = let f = rest.few in omega arith;
      going = rw (not_all, rest.going) refl;
      rises = rw (fit.rises, rest.rises) refl;
      within = rw (fit.jobs_within, fit.workers_within, rest.within) refl;
      part = rest.part;
      short = subst (λ (n : ℕ). rest.part < length (watch_line n jobs rest.next)) here rest.short;
      printed = subst
          (λ (n : ℕ). Grew old.written new.written
          (lines_text at jobs (c ∷ rest.counts) ++ take rest.part (watch_line n jobs rest.next))) here
          (Grew-join line rest.printed
          (sym (append_assoc (watch_line at jobs c) (lines_text (at + 1) jobs rest.counts)
          (take rest.part (watch_line (at + 1 + length rest.counts) jobs rest.next)))));
    }

-- a line was printed, and then the others were, or were cut short
pub one-more : (jobs workers at lines left least : ℕ) (c : Count) (old mid new : SinkView) (end : LineEnd) → Fits jobs workers least c
    → lines ≡ left + 1 → 1 ≤ left → ((lines == 1) || are_all jobs c) ≡ false → LinePrinted (watch_line at jobs c) old mid Whole
    → WatchLines jobs workers (at + 1) left c.ended mid new end → WatchLines jobs workers at lines least old new end
one-more jobs workers at lines left least c old mid new Whole fit one some goes line rest = record {
  counts = c ∷ rest.counts;
  ends = ends-more jobs lines left c rest.counts one some (or-false-right (lines == 1) (are_all jobs c) goes) rest.ends;
  rises = rw (fit.rises, rest.rises) refl;
  within = rw (fit.jobs_within, fit.workers_within, rest.within) refl;
  printed = Grew-join line.0 rest.printed refl;
  goes_on = goes-join line.1 rest.goes_on;
}
one-more jobs workers at lines left least c old mid new SinkFault fit one some goes line rest = (
  cut-more jobs workers at lines left least c old mid new fit one (or-false-right (lines == 1) (are_all jobs c) goes) line.0
      rest.0,
  stop-after old mid new line.1 rest.1,
)
one-more jobs workers at lines left least c old mid new Memory fit one some goes line rest = (
  cut-more jobs workers at lines left least c old mid new fit one (or-false-right (lines == 1) (are_all jobs c) goes) line.0
      rest.0,
  goes-join line.1 rest.1,
)

-- the last line was printed: no other is left, or it says that all jobs have ended
pub last-here : (jobs workers at lines least : ℕ) (c : Count) (old new : SinkView) → Fits jobs workers least c → 0 < lines
    → ((lines == 1) || are_all jobs c) ≡ true → LinePrinted (watch_line at jobs c) old new Whole
    → WatchLines jobs workers at lines least old new Whole
last-here jobs workers at lines least c old new fit some last line = record {
  counts = c ∷ [];
  ends = and_from (nat_le 1 lines) ((lines == 1) || are_all jobs c) (le-leb 1 lines some) last;
  rises = rw fit.rises refl;
  within = rw (fit.jobs_within, fit.workers_within) refl;
  printed = Grew-join line.0 (Grew-refl _) refl;
  goes_on = line.1;
}

-- a line was cut short
pub cut-here : (jobs workers at lines least : ℕ) (c : Count) (old new : SinkView) → Fits jobs workers least c → 0 < lines
    → PartPrinted (watch_line at jobs c) old new → LinesCut jobs workers at lines least old new
cut-here jobs workers at lines least c old new fit some part =
    let here : at ≡ at + 0 = omega arith in record {
      counts = [];
      next = c;
      few = some;
      going = refl;
      rises = rw fit.rises refl;
      within = rw (fit.jobs_within, fit.workers_within) refl;
      part = part.0;
      short = subst (λ (n : ℕ). part.0 < length (watch_line n jobs c)) here part.1;
      printed = subst (λ (n : ℕ). Grew old.written new.written (take part.0 (watch_line n jobs c))) here part.2;
    }

-- ---- the looks at which the counts were taken

begins-on : {A : Type 0} (xs ys zs : List A) → IsPrefix xs ys → IsPrefix ys zs → IsPrefix xs zs
begins-on xs ys zs p q = (p.0 ++ q.0, sym (append_assoc xs p.0 q.0) ∙ ap (λ all. all ++ q.0) p.1 ∙ q.1)

pub read-on : (a b c : List (List Progress)) → ReadOn a b → ReadOn b c → ReadOn a c
read-on [] [] c p q = q
read-on [] (y ∷ b) c p q = absurd p
read-on (x ∷ a) [] c p q = absurd p
read-on (x ∷ a) (y ∷ b) [] p q = absurd q
read-on (x ∷ a) (y ∷ b) (z ∷ c) p q = (begins-on x y z p.0 q.0, read-on a b c p.1 q.1)

pub read-same : (a : List (List Progress)) → ReadOn a a
read-same [] = tt
read-same (x ∷ a) = (([], append-nil x), read-same a)

-- looks that follow a look follow one before it, too
looks-from : (jobs : ℕ) (a b last : List (List Progress)) (counts : List Count) → ReadOn a b → AreLooks jobs b counts last
    → AreLooks jobs a counts last
looks-from jobs a b last [] more looks = read-on a b last more looks
looks-from jobs a b last (c ∷ counts) more looks = (looks.0, read-on a b looks.0 more looks.1, looks.2, looks.3)

counted : ℕ → ℕ → Count
counted ended busy = record { ended = ended; busy = busy }

pub count-is : (jobs : ℕ) (c : Count) (here : List (List Progress)) → c.ended ≡ min jobs (total here) → c.busy ≡ at_jobs here
    → c ≡ count_of jobs here
unfolding counted
count-is jobs c here ended busy =
    subst (λ (e : ℕ). c ≡ counted e (at_jobs here)) ended (subst (λ (b : ℕ). c ≡ counted c.ended b) busy refl)

-- What `WatchTells` says, with the numbers of workers and of jobs ended apart from the boards.
pub record Tells (jobs workers at lines least : ℕ) (first last : List (List Progress)) (old new : SinkView) (end : LineEnd) : Type 0 where
  pub printed : WatchLines jobs workers at lines least old new end
  pub looks : AreLooks jobs first (counts_told jobs workers at lines least old new end printed) last

-- a count, and the look at which it was taken
pub record Look (jobs workers least : ℕ) (c : Count) (first here : List (List Progress)) : Type 0 where
  pub fit : Fits jobs workers least c
  pub more : ReadOn first here
  pub is : c ≡ count_of jobs here

pub none-tells : (jobs workers at lines least : ℕ) (first : List (List Progress)) (sink : SinkView) → lines ≡ 0
    → Tells jobs workers at lines least first first sink sink Whole
unfolding none-left
none-tells jobs workers at lines least first sink none = record {
  printed = none-left jobs workers at lines least sink none;
  looks = read-same first;
}

pub last-tells : (jobs workers at lines least : ℕ) (c : Count) (first here : List (List Progress)) (old new : SinkView)
    → Look jobs workers least c first here → 0 < lines → ((lines == 1) || are_all jobs c) ≡ true
    → LinePrinted (watch_line at jobs c) old new Whole → Tells jobs workers at lines least first here old new Whole
unfolding last-here
last-tells jobs workers at lines least c first here old new look some last line = record {
  printed = last-here jobs workers at lines least c old new look.fit some last line;
  looks = (here, look.more, look.is, read-same here);
}

pub cut-tells : (jobs workers at lines least : ℕ) (c : Count) (first here : List (List Progress)) (old new : SinkView) (end : LineEnd)
    → Look jobs workers least c first here → 0 < lines → LinePrinted (watch_line at jobs c) old new end → end ≢ Whole
    → Tells jobs workers at lines least first here old new end
unfolding cut-here
cut-tells jobs workers at lines least c first here old new Whole look some line cut = absurd (cut refl)
cut-tells jobs workers at lines least c first here old new SinkFault look some line cut = record {
  printed = (cut-here jobs workers at lines least c old new look.fit some line.0, line.1);
  looks = (here, look.more, look.is, read-same here);
}
cut-tells jobs workers at lines least c first here old new Memory look some line cut = record {
  printed = (cut-here jobs workers at lines least c old new look.fit some line.0, line.1);
  looks = (here, look.more, look.is, read-same here);
}

-- a line was printed, and the others from a later look on
pub one-tells : (jobs workers at lines left least later : ℕ) (c : Count) (first here again last : List (List Progress))
    (old mid new : SinkView) (end : LineEnd) → Look jobs workers least c first here → lines ≡ left + 1 → 1 ≤ left
    → ((lines == 1) || are_all jobs c) ≡ false → LinePrinted (watch_line at jobs c) old mid Whole → ReadOn here again
    → c.ended ≤ later → Tells jobs workers (at + 1) left later again last mid new end
    → Tells jobs workers at lines least first last old new end
unfolding one-more cut-more lines-from cut-from
one-tells jobs workers at lines left least later c first here again last old mid new Whole look one some goes line more up rest = record {
  printed = one-more jobs workers at lines left least c old mid new Whole look.fit one some goes line
      (lines-from jobs workers (at + 1) left later c.ended mid new Whole up rest.printed);
  looks = (here, look.more, look.is, looks-from jobs here again last rest.printed.counts more rest.looks);
}
one-tells jobs workers at lines left least later c first here again last old mid new SinkFault look one some goes line more up rest = record {
  printed = one-more jobs workers at lines left least c old mid new SinkFault look.fit one some goes line
      (lines-from jobs workers (at + 1) left later c.ended mid new SinkFault up rest.printed);
  looks = (here, look.more, look.is, looks-from jobs here again last (rest.printed.0.counts ++ rest.printed.0.next ∷ []) more rest.looks);
}
one-tells jobs workers at lines left least later c first here again last old mid new Memory look one some goes line more up rest = record {
  printed = one-more jobs workers at lines left least c old mid new Memory look.fit one some goes line
      (lines-from jobs workers (at + 1) left later c.ended mid new Memory up rest.printed);
  looks = (here, look.more, look.is, looks-from jobs here again last (rest.printed.0.counts ++ rest.printed.0.next ∷ []) more rest.looks);
}

-- what lines tell they tell also from a lower least on
pub tells-from : (jobs workers at lines least low : ℕ) (first last : List (List Progress)) (old new : SinkView) (end : LineEnd)
    → low ≤ least → Tells jobs workers at lines least first last old new end → Tells jobs workers at lines low first last old new end
unfolding lines-from cut-from
tells-from jobs workers at lines least low first last old new Whole less tells = record {
  printed = lines-from jobs workers at lines least low old new Whole less tells.printed;
  looks = tells.looks;
}
tells-from jobs workers at lines least low first last old new SinkFault less tells = record {
  printed = lines-from jobs workers at lines least low old new SinkFault less tells.printed;
  looks = tells.looks;
}
tells-from jobs workers at lines least low first last old new Memory less tells = record {
  printed = lines-from jobs workers at lines least low old new Memory less tells.printed;
  looks = tells.looks;
}
