use Rattle.std.proofs.Common.{◌≡◌, ℕ, ◌+◌, ◌-◌, ◌<◌, List, ◌∷◌, None, Some, length, length-drop, take, drop, sym, ap, ◌∙◌, subst, arith}
use Rattle.std.specs.Option.{option_copied}
use Rattle.std.proofs.lemmas.Bool.Decides.{nat_tests}
use Rattle.std.proofs.lemmas.Result.{err_from_is_err_and}
use Rattle.sample_compiler.specs.Lines.{source_lines}
use Rattle.sample_compiler.specs.Expanding.{include, expand_line, expand_lines, from_file, find_file}
use Rattle.sample_compiler.specs.Came.{Came}
use Rattle.sample_compiler.specs.Lookups.{Stopped}
use Rattle.sample_compiler.specs.Seeking.{by_include, first_unknown, StoppedAt, Walked}
use Rattle.sample_compiler.proofs.PieceLemmas.{first_line}
use Rattle.sample_compiler.proofs.ExpandLemmas.{include_deep, include_file, behind_more, behind_stop}
use Rattle.sample_compiler.proofs.SeekLemmas.{seek_deep, seek_found, seek_absent, seek_stopped, walk_more, walk_stop}
use Rattle.sample_compiler.proofs.expand.+nested.Goals as goal

pub expand-returns-in_err-take_line-clause-came : goal.expand-returns-in_err-take_line-clause-came
expand-returns-in_err-take_line-clause-came t c files a =
    let p = err_from_is_err_and c.from_residual.result c.from_residual.ensures.1 in
    let rest : List ℕ = c.reading.rest.now in
    let len : ℕ = c.line_len-len.result in
    let some : 0 < length rest = grind (arith, nat_tests) in
    let cut : source_lines rest ≡ take len rest ∷ source_lines (drop (len + 1) rest) =
    rw c.line_len-len.ensures.reach (first_line rest some) in
    rw (p.1, p.2) (behind_stop c.args.sources.whole (include files c.args.sources.dirs.now c.args.room) c.args.text.now
    c.args.made.now.text c.args.made.now.defines c.reading.line rest (take len rest) (drop (len + 1) rest) c.reading.made
    c.in_err-take_line.field-0.0 (c.reading.invariant.behind files a) cut (c.in_err-take_line.ensures.came files a))

pub expand-reading-preserved : goal.expand-reading-preserved
expand-reading-preserved t c =
    let rest : List ℕ = c.reading.rest.now in
    let len : ℕ = c.line_len-len.result in
    let some : 0 < length rest = grind (arith, nat_tests) in
    let cut : source_lines rest ≡ take len rest ∷ source_lines (drop (len + 1) rest) =
    rw c.line_len-len.ensures.reach (first_line rest some) in
    let short = length-drop (len + 1) rest in
    record {
      behind = λ files a. let took = c.in_ok-take_line.ensures.came files a in
          rw c.behind_line-rest.ensures
          (behind_more (include files c.args.sources.dirs.now c.args.room) c.args.text.now c.args.made.now.text
          c.args.made.now.defines c.reading.line rest (take len rest) (drop (len + 1) rest) c.reading.made c.take_line.new.made
          (c.reading.invariant.behind files a) cut took.0 took.1 took.2);
      looked = λ files a part. let took = c.in_ok-take_line.ensures.came files a in
          c.reading.invariant.looked files a part
          ∙ rw c.behind_line-rest.ensures
          (walk_more c.args.sources.files.now c.args.sources.absent.now (include files c.args.sources.dirs.now c.args.room)
          (by_include files c.args.sources.dirs.now c.args.room) c.reading.line c.reading.made.defines
          c.take_line.new.made.defines rest (take len rest) (drop (len + 1) rest) took.0 cut took.1
          (c.in_ok-take_line.ensures.looked files a part));
      fits = rw c.behind_line-rest.ensures (omega (arith, short, some, c.reading.invariant.fits));
    }

pub include-returns-then-room-eq0-clause-came : goal.include-returns-then-room-eq0-clause-came
include-returns-then-room-eq0-clause-came t c files a =
    include_deep files c.args.sources.dirs.now c.args.room c.args.line c.args.made.now.defines c.args.name.now c.if-room-eq0.true

pub include-returns-in-Some-clause-came : goal.include-returns-in-Some-clause-came
include-returns-in-Some-clause-came t c files a =
    let dirs = c.args.sources.dirs.now in
    let room : ℕ = c.args.room in
    let found : find_file files dirs c.args.name.now ≡ Some c.in-Some.content.now = sym (c.in_ok-content.ensures.found files a)
    ∙ ap option_copied c.in-Some.is in
    let some : 0 < room = omega arith in
    let same : include files dirs room c.args.line c.args.made.now.defines c.args.name.now
    ≡ expand_lines (include files dirs (room - 1)) 1 c.args.made.now.defines (source_lines c.as_slice.result.now) =
    include_file files dirs room c.args.line c.args.made.now.defines c.args.name.now some
    ∙ ap (from_file (expand_lines (include files dirs (room - 1)) 1) c.args.line c.args.made.now.defines c.args.name.now) found
    ∙ ap (λ b. expand_lines (include files dirs (room - 1)) 1 c.args.made.now.defines (source_lines b)) (sym c.as_slice.ensures) in
    subst (λ o. Came c.args.sources.whole o c.args.made.now.text c.expand.new.made c.expand.result) (sym same)
    (c.expand.ensures.came files a)

pub include-returns-in_ok-name-in-None-clause-came : goal.include-returns-in_ok-name-in-None-clause-came
include-returns-in_ok-name-in-None-clause-came t c files a =
    let dirs = c.args.sources.dirs.now in
    let room : ℕ = c.args.room in
    let found : find_file files dirs c.args.name.now ≡ None = sym (c.in_ok-content.ensures.found files a) ∙ ap option_copied c.in-None.is in
    let some : 0 < room = omega arith in
    include_file files dirs room c.args.line c.args.made.now.defines c.args.name.now some
    ∙ ap (from_file (expand_lines (include files dirs (room - 1)) 1) c.args.line c.args.made.now.defines c.args.name.now) found
    ∙ ap (λ n. from_file (expand_lines (include files dirs (room - 1)) 1) c.args.line c.args.made.now.defines n None)
    (sym c.in_ok-name-in-None.ensures)

pub expand-returns-in_err-take_line-clause-looked : goal.expand-returns-in_err-take_line-clause-looked
expand-returns-in_err-take_line-clause-looked t c files a part =
    let p = err_from_is_err_and c.from_residual.result c.from_residual.ensures.1 in
    let rest : List ℕ = c.reading.rest.now in
    let len : ℕ = c.line_len-len.result in
    let known = c.args.sources.files.now in
    let absent = c.args.sources.absent.now in
    let includes = include files c.args.sources.dirs.now c.args.room in
    let seeks = by_include files c.args.sources.dirs.now c.args.room in
    let some : 0 < length rest = grind (arith, nat_tests) in
    let cut : source_lines rest ≡ take len rest ∷ source_lines (drop (len + 1) rest) =
    rw c.line_len-len.ensures.reach (first_line rest some) in
    let came = subst (λ w. Stopped w (expand_line includes c.reading.line c.reading.made.defines (take len rest))
    c.in_err-take_line.field-0.0) part (c.in_err-take_line.ensures.came files a) in
    let walked = walk_stop known absent includes seeks c.reading.line c.reading.made.defines rest (take len rest)
    (drop (len + 1) rest) c.in_err-take_line.field-0.0 cut came (c.in_err-take_line.ensures.looked files a part) in
    rw (p.1, p.2) (subst (λ next. StoppedAt next c.in_err-take_line.field-0.0) (sym (c.reading.invariant.looked files a part)) walked)

pub include-returns-then-room-eq0-clause-looked : goal.include-returns-then-room-eq0-clause-looked
include-returns-then-room-eq0-clause-looked t c files a part =
    ap (first_unknown c.args.sources.files.now c.args.sources.absent.now)
    (seek_deep files c.args.sources.dirs.now c.args.room c.args.made.now.defines c.args.name.now c.if-room-eq0.true)

pub include-returns-in_err-content-clause-looked : goal.include-returns-in_err-content-clause-looked
include-returns-in_err-content-clause-looked t c files a part =
    let p = err_from_is_err_and c.from_residual.result c.from_residual.ensures.1 in
    let some : 0 < c.args.room = omega arith in
    rw (p.1, p.2) (seek_stopped c.args.sources.files.now c.args.sources.absent.now files c.args.sources.dirs.now c.args.room
    c.args.made.now.defines c.args.name.now c.args.sources.whole c.in_err-content.field-0.0 some
    (c.in_err-content.ensures.found files a) (c.in_err-content.ensures.looked files a part))

pub include-returns-in-Some-clause-looked : goal.include-returns-in-Some-clause-looked
include-returns-in-Some-clause-looked t c files a part =
    let found : find_file files c.args.sources.dirs.now c.args.name.now ≡ Some c.in-Some.content.now =
    sym (c.in_ok-content.ensures.found files a) ∙ ap option_copied c.in-Some.is in
    let some : 0 < c.args.room = omega arith in
    let same = seek_found c.args.sources.files.now c.args.sources.absent.now files c.args.sources.dirs.now c.args.room
    c.args.made.now.defines c.args.name.now c.in-Some.content.now some found (c.in_ok-content.ensures.looked files a part) in
    subst (λ next. Walked next c.expand.result) (sym same) (rw c.as_slice.ensures at (c.expand.ensures.looked files a part))

pub include-returns-in_ok-name-in-None-clause-looked : goal.include-returns-in_ok-name-in-None-clause-looked
include-returns-in_ok-name-in-None-clause-looked t c files a part =
    let found : find_file files c.args.sources.dirs.now c.args.name.now ≡ None = sym (c.in_ok-content.ensures.found files a)
    ∙ ap option_copied c.in-None.is in
    let some : 0 < c.args.room = omega arith in
    seek_absent c.args.sources.files.now c.args.sources.absent.now files c.args.sources.dirs.now c.args.room c.args.made.now.defines
    c.args.name.now some found (c.in_ok-content.ensures.looked files a part)
