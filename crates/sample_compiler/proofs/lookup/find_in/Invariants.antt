use Rattle.std.proofs.Common.{◌≡◌, length, false}
use Rattle.file_map.specs.FileMaps.{Files}
use Rattle.sample_compiler.specs.Expanding.{find_in}
use Rattle.sample_compiler.specs.Lookups.{Agrees}
use Rattle.sample_compiler.specs.Seeking.{sought_in, first_unknown}
use Rattle.sample_compiler.proofs.lookup.find_in.Given as goal

abbrev pub invariant-seeking : goal.invariant-seeking
invariant-seeking l = record {
  found : (files : Files) → Agrees l.sources.files.now l.sources.absent.now l.sources.whole files
      → find_in files l.sources.dirs.now l.name ≡ find_in files l.rest l.name;
  looked : (files : Files) → Agrees l.sources.files.now l.sources.absent.now l.sources.whole files → l.sources.whole ≡ false
      → first_unknown l.sources.files.now l.sources.absent.now (sought_in files l.sources.dirs.now l.name)
      ≡ first_unknown l.sources.files.now l.sources.absent.now (sought_in files l.rest l.name);
}

abbrev pub decreases-seeking : goal.decreases-seeking
decreases-seeking l = length l.rest
