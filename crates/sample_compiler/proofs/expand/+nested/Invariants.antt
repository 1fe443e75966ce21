use Rattle.std.proofs.Common.{◌≡◌, false, ◌+◌, ◌*◌, ◌≤◌, length}
use Rattle.file_map.specs.FileMaps.{Files}
use Rattle.sample_compiler.specs.Lookups.{Agrees}
use Rattle.sample_compiler.specs.Expanding as expanding
use Rattle.sample_compiler.specs.Lines.{source_lines}
use Rattle.sample_compiler.specs.Seeking.{by_lines, by_include, first_unknown}
use Rattle.sample_compiler.proofs.ExpandLemmas.{Behind}
use Rattle.sample_compiler.proofs.expand.+nested.Given as goal

abbrev pub decreases-include : goal.decreases-include
decreases-include l = 4 * l.room

abbrev pub decreases-take_directive : goal.decreases-take_directive
decreases-take_directive l = 4 * l.room + 1

abbrev pub decreases-take_line : goal.decreases-take_line
decreases-take_line l = 4 * l.room + 2

abbrev pub decreases-expand : goal.decreases-expand
decreases-expand l = 4 * l.room + 3

abbrev pub invariant-expand-reading : goal.invariant-expand-reading
invariant-expand-reading l = record {
  behind : (files : Files) → Agrees l.sources.files.now l.sources.absent.now l.sources.whole files
      → Behind (expanding.include files l.sources.dirs.now l.room) l.text l.fn.made.text l.fn.made.defines l.line l.rest l.made;
  looked : (files : Files) → Agrees l.sources.files.now l.sources.absent.now l.sources.whole files → l.sources.whole ≡ false
      → first_unknown l.sources.files.now l.sources.absent.now
      (by_lines (expanding.include files l.sources.dirs.now l.room) (by_include files l.sources.dirs.now l.room) 1
      l.fn.made.defines (source_lines l.text))
      ≡ first_unknown l.sources.files.now l.sources.absent.now
      (by_lines (expanding.include files l.sources.dirs.now l.room) (by_include files l.sources.dirs.now l.room) l.line
      l.made.defines (source_lines l.rest));
  fits : l.line + length l.rest ≤ 1 + length l.text;
}

abbrev pub decreases-expand-reading : goal.decreases-expand-reading
decreases-expand-reading l = length l.rest
