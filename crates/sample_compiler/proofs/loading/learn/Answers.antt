use Rattle.std.proofs.Common.{◌≡◌, ◌∙◌, true, false, rules}
use Rattle.std.proofs.lemmas.Result.{err_from_is_err_and}
use Rattle.std.specs.Prelude.{None, Some}
use Rattle.std.specs.FinMap.{get}
use Rattle.arg_scan.specs.Names.{is_reserved}
use Rattle.sample_compiler.specs.Loads.{unstaged}
use Rattle.sample_compiler.proofs.LoadLemmas.{get_reserved, get_plain, absent_agrees, there_agrees, one_short}
use Rattle.sample_compiler.proofs.KnownLemmas.{learned_absent, learned_there, entry_absent, entry_there, front_one, grew_nothing, one_absent}
use Rattle.sample_compiler.proofs.loading.learn.Goals as goal

pub returns-then-is_reserved-clause-learned : goal.returns-then-is_reserved-clause-learned
returns-then-is_reserved-clause-learned g c = record {
  agrees = λ told a.
      let files = (g.K.Keeper.shows c.args.keeper.now).files.value in
      let reserved : is_reserved c.args.path ≡ true = cc in
      absent_agrees c.args.known.now.files (unstaged files) c.args.known.now.absent c.try_push.new.self c.args.path
      c.in_ok-try_push.ensures.ok (get_reserved files c.args.path reserved) a;
  knows = λ name. learned_absent c.args.known.now.files c.args.known.now.absent c.try_push.new.self c.args.path name
      c.in_ok-try_push.ensures.ok;
  short = λ short. short;
}

pub returns-in_ok-try_put-in-Ok-clause-learned : goal.returns-in_ok-try_put-in-Ok-clause-learned
returns-in_ok-try_put-in-Ok-clause-learned g c = record {
  agrees = λ told a.
      let files = (g.K.Keeper.shows c.fetch.new.self).files.value in
      let plain : is_reserved c.args.path ≡ false = cc in
      let there : get files c.args.path ≡ Some c.in-Ok.content = c.in-Ok.ensures.whole.whole told in
      there_agrees c.args.known.now.files c.try_put.new.self (unstaged files) c.args.known.now.absent c.args.path c.in-Ok.content
      c.in_ok-try_put-in-Ok.ensures.ok (get_plain files c.args.path plain ∙ there) a;
  knows = λ name. learned_there c.args.known.now.files c.try_put.new.self c.args.known.now.absent c.args.path c.in-Ok.content name
      c.in_ok-try_put-in-Ok.ensures.ok;
  short = λ short. one_short c.args.known.now.files c.try_put.new.self c.args.path c.in-Ok.content c.in_ok-try_put-in-Ok.ensures.ok
      c.in-Ok.ensures.whole.within short;
}

pub returns-in_ok-try_push-in-Err-Absent-clause-learned : goal.returns-in_ok-try_push-in-Err-Absent-clause-learned
returns-in_ok-try_push-in-Err-Absent-clause-learned g c = record {
  agrees = λ told a.
      let files = (g.K.Keeper.shows c.fetch.new.self).files.value in
      let plain : is_reserved c.args.path ≡ false = cc in
      let cause = rw c.in-Err-Absent.field-0-is at c.in-Err-Absent.ensures.cause in
      let gone : get files c.args.path ≡ None = cause.absent told in
      absent_agrees c.args.known.now.files (unstaged files) c.args.known.now.absent c.try_push-in-Err-Absent.new.self c.args.path
      c.in_ok-try_push-in-Err-Absent.ensures.ok (get_plain files c.args.path plain ∙ gone) a;
  knows = λ name. learned_absent c.args.known.now.files c.args.known.now.absent c.try_push-in-Err-Absent.new.self c.args.path name
      c.in_ok-try_push-in-Err-Absent.ensures.ok;
  short = λ short. short;
}

pub returns-then-is_reserved-clause-fetched : goal.returns-then-is_reserved-clause-fetched
returns-then-is_reserved-clause-fetched g c told =
    let view = g.K.Keeper.shows c.args.keeper.now in
    let reserved : is_reserved c.args.path ≡ true = cc in
    entry_absent (unstaged view.files.value) c.args.path view.fetches view.fetches
    (get_reserved view.files.value c.args.path reserved) (grew_nothing view.fetches)

pub returns-in_err-try_put-in-Ok-clause-tried : goal.returns-in_err-try_put-in-Ok-clause-tried
returns-in_err-try_put-in-Ok-clause-tried g c =
    let p = err_from_is_err_and c.from_residual-in_err-try_put-in-Ok.result c.from_residual-in_err-try_put-in-Ok.ensures.1 in
    rw p.1 (λ told.
    let before = g.K.Keeper.shows c.args.keeper.now in
    let after = g.K.Keeper.shows c.fetch.new.self in
    let plain : is_reserved c.args.path ≡ false = cc in
    let there : get after.files.value c.args.path ≡ Some c.in-Ok.content = c.in-Ok.ensures.whole.whole told in
    front_one (unstaged after.files.value) c.args.path before.fetches after.fetches
    (entry_there (unstaged after.files.value) c.args.path c.in-Ok.content before.fetches after.fetches
    (get_plain after.files.value c.args.path plain ∙ there) (rw c.in-Ok.is at c.fetch.ensures.fetches)))

pub returns-in_ok-try_put-in-Ok-clause-fetched : goal.returns-in_ok-try_put-in-Ok-clause-fetched
returns-in_ok-try_put-in-Ok-clause-fetched g c told =
    let before = g.K.Keeper.shows c.args.keeper.now in
    let after = g.K.Keeper.shows c.fetch.new.self in
    let plain : is_reserved c.args.path ≡ false = cc in
    let there : get after.files.value c.args.path ≡ Some c.in-Ok.content = c.in-Ok.ensures.whole.whole told in
    entry_there (unstaged after.files.value) c.args.path c.in-Ok.content before.fetches after.fetches
    (get_plain after.files.value c.args.path plain ∙ there) (rw c.in-Ok.is at c.fetch.ensures.fetches)

pub returns-in_ok-try_push-in-Err-Absent-clause-fetched : goal.returns-in_ok-try_push-in-Err-Absent-clause-fetched
returns-in_ok-try_push-in-Err-Absent-clause-fetched g c told =
    let before = g.K.Keeper.shows c.args.keeper.now in
    let after = g.K.Keeper.shows c.fetch.new.self in
    let plain : is_reserved c.args.path ≡ false = cc in
    let cause = rw c.in-Err-Absent.field-0-is at c.in-Err-Absent.ensures.cause in
    let gone : get after.files.value c.args.path ≡ None = cause.absent told in
    entry_absent (unstaged after.files.value) c.args.path before.fetches after.fetches
    (get_plain after.files.value c.args.path plain ∙ gone) (rw c.in-Err-Absent.is at c.fetch.ensures.fetches)

pub returns-in_ok-try_push-in-Err-Absent-clause-went : goal.returns-in_ok-try_push-in-Err-Absent-clause-went
returns-in_ok-try_push-in-Err-Absent-clause-went g c =
    let cause = rw c.in-Err-Absent.field-0-is at c.in-Err-Absent.ensures.cause in
    record {
      calm = search rules;
      missed = one_absent (g.K.Keeper.shows c.args.keeper.now) (g.K.Keeper.shows c.fetch.new.self) c.args.path cause.absent;
    }
