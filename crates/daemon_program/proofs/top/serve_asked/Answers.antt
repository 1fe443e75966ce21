use Rattle.std.proofs.Common.{◌≡◌, ◌++◌, map, string_bytes, Global, refl, ap, subst, ◌∙◌, arith}
use Rattle.std.proofs.lemmas.Grind.{common_steps}
use Rattle.farmd_options.proofs.Meaning.{right_numbers, right_rules}
use Rattle.daemon_program.specs.Texts.{log_text}
use Rattle.daemon_program.specs.Daemons.{log_status, doors_used}
use Rattle.daemon_program.specs.Sharing.{DoesServe, shares_text}
use Rattle.daemon_program.proofs.Doing.{right_serve, ends_as}
use Rattle.daemon_program.proofs.SharesDoing.{shared_first}
use Rattle.daemon_program.proofs.top.serve_asked.Goals as goal

pub returns-in_default : goal.returns-in_default
returns-in_default g c =
    subst (DoesServe g.A.Door.shows g.S.Station.shows g.S.Station.ran g.S.Station.goes (map (string_bytes {Z = Global}) c.args.words.now)
    c.args.options.now c.args.doors.now.items c.serve_words.new.doors.items (g.O.Sink.shows c.args.out.now)
    (g.O.Sink.shows c.serve_words.new.out) c.serve_words.result) c.in_default.ensures c.serve_words.ensures

pub serve_beside_shared-requires-clause-config : goal.serve_beside_shared-requires-clause-config
serve_beside_shared-requires-clause-config g c κs within =
    let serve = right_serve c.args.options.now c.in-Ok.config.serve
    (right_numbers (map (string_bytes {Z = Global}) c.args.words.now) c.args.options.now c.requires.words) c.in-Ok.ensures.serve in (
      serve.0,
      serve.1,
      right_rules (map (string_bytes {Z = Global}) c.args.words.now) c.args.options.now c.in-Ok.config.access.rules c.requires.words
          c.in-Ok.ensures.rules,
    )

pub returns-in-Ok-serve_beside_shared : goal.returns-in-Ok-serve_beside_shared
returns-in-Ok-serve_beside_shared g c =
    let one = c.in-Ok-serve_beside_shared.shared in
    let used : c.min-used.result ≡ doors_used c.args.options.now c.args.doors.now.items =
    grind (arith, common_steps, c.jobs.ensures, c.from.ensures, c.len.ensures, c.min-used.ensures) in
    let status = c.status_of.ensures ∙ ap log_status c.as_slice.ensures in
    let ends = ends_as (log_text one.log ++ shares_text one.counts.items one.stats) _ (log_status one.log) _ (g.O.Sink.shows c.args.out.now)
    (g.O.Sink.shows c.print_shared.new.out) c.print_shared.result refl status c.print_shared.ensures in
    subst (DoesServe g.A.Door.shows g.S.Station.shows g.S.Station.ran g.S.Station.goes (map (string_bytes {Z = Global}) c.args.words.now)
    c.args.options.now c.args.doors.now.items c.serve_beside_shared.new.doors.items (g.O.Sink.shows c.args.out.now)
    (g.O.Sink.shows c.print_shared.new.out) c.print_shared.result) c.in-Some.ensures
    (shared_first g.A.Door.shows g.S.Station.shows g.S.Station.ran g.S.Station.goes (map (string_bytes {Z = Global}) c.args.words.now)
    c.args.options.now c.in-Some.bound c.args.doors.now.items c.serve_beside_shared.new.doors.items (g.O.Sink.shows c.args.out.now)
    (g.O.Sink.shows c.print_shared.new.out) c.print_shared.result
    c.min-used.result c.in-Ok.config one.log one.counts.items one.stats used c.in-Ok.ensures
    c.in-Ok-serve_beside_shared.ensures.served c.in-Ok-serve_beside_shared.ensures.others c.in-Ok-serve_beside_shared.ensures.counts
    c.in-Ok-serve_beside_shared.ensures.shared c.in-Ok-serve_beside_shared.ensures.bytes ends)
