-- What was printed while workers worked.
use Rattle.std.specs.Prelude.{◌≡◌, ℕ, ◌+◌, ◌<◌, nat_le, Bool, true, ◌&&◌, List, [], ◌∷◌, ◌++◌, length, min, take}
use Rattle.edge_traits.specs.Told.{Grew}
use Rattle.edge_traits.specs.Sinks.{SinkView}
use Rattle.stream_print.specs.Prints.{GoesOn, DidStop}
use Rattle.progress_lines.specs.declared.count.Count.{Count}
use Rattle.progress_lines.specs.declared.line_end.LineEnd.{LineEnd}
use Rattle.progress_lines.specs.declared.line_end.LineEnd.TheVariants.{Whole, SinkFault, Memory}
use Rattle.farm_monitor.specs.declared.ends.Watcher.{Watcher}
use Rattle.progress_lines.specs.Counts.{known, total, AreLooks}
use Rattle.progress_lines.specs.Lines.{watch_line, lines_text, counts_rise, lines_end, none_says_all}

-- no more jobs have ended than there are, and no more workers are at a job than there are
abbrev pub all_within : ℕ → ℕ → List Count → Bool
all_within jobs workers [] = true
all_within jobs workers (c ∷ counts) = nat_le c.ended jobs && (nat_le c.busy workers && all_within jobs workers counts)

-- a prefix of the line was printed, not all of it
abbrev pub PartPrinted : List ℕ → SinkView → SinkView → Type 0
PartPrinted line old new = (n : ℕ) × (n < length line) × Grew old.written new.written (take n line)

-- the line was printed; or a prefix of it, since the sink stopped or ran out of memory
abbrev pub LinePrinted : List ℕ → SinkView → SinkView → LineEnd → Type 0
LinePrinted line old new Whole = Grew old.written new.written line × GoesOn old new
LinePrinted line old new SinkFault = PartPrinted line old new × DidStop old new
LinePrinted line old new Memory = PartPrinted line old new × GoesOn old new

-- `lines` lines were printed, or fewer if the last one says that all jobs have ended and no worker is at one. They are numbered from `at`.
-- The jobs ended are at least `least` in the first, and never fall. Each count is within the numbers of jobs and workers.
pub record LinesPrinted (jobs workers at lines least : ℕ) (old new : SinkView) : Type 0 where
  pub counts : List Count
  pub ends : lines_end jobs lines counts ≡ true
  pub rises : counts_rise least counts ≡ true
  pub within : all_within jobs workers counts ≡ true
  pub printed : Grew old.written new.written (lines_text at jobs counts)
  pub goes_on : GoesOn old new

-- Some lines were printed, none of which says that all jobs have ended and no worker is at one. A prefix of the next one was printed, not all
-- of it.
pub record LinesCut (jobs workers at lines least : ℕ) (old new : SinkView) : Type 0 where
  pub counts : List Count
  pub next : Count
  pub few : length counts < lines
  pub going : none_says_all jobs counts ≡ true
  pub rises : counts_rise least (counts ++ next ∷ []) ≡ true
  pub within : all_within jobs workers (counts ++ next ∷ []) ≡ true
  pub part : ℕ
  pub short : part < length (watch_line (at + length counts) jobs next)
  pub printed : Grew old.written new.written (lines_text at jobs counts ++ take part (watch_line (at + length counts) jobs next))

abbrev pub WatchLines : ℕ → ℕ → ℕ → ℕ → ℕ → SinkView → SinkView → LineEnd → Type 0
WatchLines jobs workers at lines least old new Whole = LinesPrinted jobs workers at lines least old new
WatchLines jobs workers at lines least old new SinkFault = LinesCut jobs workers at lines least old new × DidStop old new
WatchLines jobs workers at lines least old new Memory = LinesCut jobs workers at lines least old new × GoesOn old new

-- the counts of the lines that were printed, the last one in part perhaps
abbrev pub counts_told : (jobs workers at lines least : ℕ) (old new : SinkView) (end : LineEnd)
    → WatchLines jobs workers at lines least old new end → List Count
counts_told jobs workers at lines least old new Whole w = w.counts
counts_told jobs workers at lines least old new SinkFault w = w.0.counts ++ w.0.next ∷ []
counts_told jobs workers at lines least old new Memory w = w.0.counts ++ w.0.next ∷ []

-- Lines were printed, or cut, and each says what these watchers had read at one look.
pub record WatchTells (jobs at lines : ℕ) (old new : List Watcher) (before after : SinkView) (end : LineEnd) : Type 0 where
  pub printed : WatchLines jobs (length old) at lines (min jobs (total (known old))) before after end
  pub looks : AreLooks jobs (known old)
      (counts_told jobs (length old) at lines (min jobs (total (known old))) before after end printed) (known new)
