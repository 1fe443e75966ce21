use Rattle.std.proofs.Common.{map, string_bytes, Global, refl, subst}
use Rattle.std.specs.Prelude.{Ok, Err}
use Rattle.farmd_options.specs.declared.command.Command.TheVariants.{Help, Version, Serve}
use Rattle.daemon_program.specs.Endings.{Ends}
use Rattle.daemon_program.proofs.SharesDoing.{does_all_by, completed_all}
use Rattle.daemon_program.proofs.top.farmd.Goals as goal

pub returns-in-Ok-Help : goal.returns-in-Ok-Help
returns-in-Ok-Help g c = record {
  does = λ read reads.
      does_all_by g.A.Door.shows g.S.Station.shows g.S.Station.ran g.S.Station.goes (map (string_bytes {Z = Global}) c.args.words.now)
      c.args.doors.now.items c.args.doors.now.items (g.O.Sink.shows c.args.out.now) (g.O.Sink.shows c.tell.new.out) c.tell.result
      (Ok Help) read (rw c.in-Ok-Help.field-0-is at c.in-Ok-Help.ensures) (
        refl,
        subst (λ t. Ends t 0 (g.O.Sink.shows c.args.out.now) (g.O.Sink.shows c.tell.new.out) c.tell.result)
            c.help_text.ensures c.tell.ensures,
      ) reads;
  complete = λ options is smooth.
      completed_all g.A.Door.shows g.S.Station.shows g.S.Station.ran g.S.Station.goes (map (string_bytes {Z = Global}) c.args.words.now) options
      c.args.doors.now.items c.args.doors.now.items (g.O.Sink.shows c.args.out.now) (g.O.Sink.shows c.tell.new.out) c.tell.result
      (does_all_by g.A.Door.shows g.S.Station.shows g.S.Station.ran g.S.Station.goes (map (string_bytes {Z = Global}) c.args.words.now)
      c.args.doors.now.items c.args.doors.now.items (g.O.Sink.shows c.args.out.now) (g.O.Sink.shows c.tell.new.out) c.tell.result
      (Ok Help) (Ok (Serve options)) (rw c.in-Ok-Help.field-0-is at c.in-Ok-Help.ensures) (
        refl,
        subst (λ t. Ends t 0 (g.O.Sink.shows c.args.out.now) (g.O.Sink.shows c.tell.new.out) c.tell.result)
            c.help_text.ensures c.tell.ensures,
      ) is) smooth;
}

pub returns-in-Ok-Version : goal.returns-in-Ok-Version
returns-in-Ok-Version g c = record {
  does = λ read reads.
      does_all_by g.A.Door.shows g.S.Station.shows g.S.Station.ran g.S.Station.goes (map (string_bytes {Z = Global}) c.args.words.now)
      c.args.doors.now.items c.args.doors.now.items (g.O.Sink.shows c.args.out.now)
      (g.O.Sink.shows c.tell-in-Ok-Version.new.out) c.tell-in-Ok-Version.result
      (Ok Version) read (rw c.in-Ok-Version.field-0-is at c.in-Ok-Version.ensures) (
        refl,
        subst (λ t. Ends t 0 (g.O.Sink.shows c.args.out.now) (g.O.Sink.shows c.tell-in-Ok-Version.new.out)
            c.tell-in-Ok-Version.result) c.version_text.ensures c.tell-in-Ok-Version.ensures,
      ) reads;
  complete = λ options is smooth.
      completed_all g.A.Door.shows g.S.Station.shows g.S.Station.ran g.S.Station.goes (map (string_bytes {Z = Global}) c.args.words.now) options
      c.args.doors.now.items c.args.doors.now.items (g.O.Sink.shows c.args.out.now)
      (g.O.Sink.shows c.tell-in-Ok-Version.new.out) c.tell-in-Ok-Version.result
      (does_all_by g.A.Door.shows g.S.Station.shows g.S.Station.ran g.S.Station.goes (map (string_bytes {Z = Global}) c.args.words.now)
      c.args.doors.now.items c.args.doors.now.items (g.O.Sink.shows c.args.out.now)
      (g.O.Sink.shows c.tell-in-Ok-Version.new.out) c.tell-in-Ok-Version.result
      (Ok Version) (Ok (Serve options)) (rw c.in-Ok-Version.field-0-is at c.in-Ok-Version.ensures) (
        refl,
        subst (λ t. Ends t 0 (g.O.Sink.shows c.args.out.now) (g.O.Sink.shows c.tell-in-Ok-Version.new.out)
            c.tell-in-Ok-Version.result) c.version_text.ensures c.tell-in-Ok-Version.ensures,
      ) is) smooth;
}

pub returns-in-Ok-Serve : goal.returns-in-Ok-Serve
returns-in-Ok-Serve g c = record {
  does = λ read reads.
      does_all_by g.A.Door.shows g.S.Station.shows g.S.Station.ran g.S.Station.goes (map (string_bytes {Z = Global}) c.args.words.now)
      c.args.doors.now.items c.serve_asked.new.doors.items (g.O.Sink.shows c.args.out.now)
      (g.O.Sink.shows c.serve_asked.new.out) c.serve_asked.result
      (Ok (Serve c.in-Ok-Serve.options)) read (rw c.in-Ok-Serve.field-0-is at c.in-Ok-Serve.ensures) c.serve_asked.ensures reads;
  complete = λ options is smooth.
      completed_all g.A.Door.shows g.S.Station.shows g.S.Station.ran g.S.Station.goes (map (string_bytes {Z = Global}) c.args.words.now) options
      c.args.doors.now.items c.serve_asked.new.doors.items (g.O.Sink.shows c.args.out.now)
      (g.O.Sink.shows c.serve_asked.new.out) c.serve_asked.result
      (does_all_by g.A.Door.shows g.S.Station.shows g.S.Station.ran g.S.Station.goes (map (string_bytes {Z = Global}) c.args.words.now)
      c.args.doors.now.items c.serve_asked.new.doors.items (g.O.Sink.shows c.args.out.now)
      (g.O.Sink.shows c.serve_asked.new.out) c.serve_asked.result
      (Ok (Serve c.in-Ok-Serve.options)) (Ok (Serve options)) (rw c.in-Ok-Serve.field-0-is at c.in-Ok-Serve.ensures)
      c.serve_asked.ensures is) smooth;
}

pub returns-in-Err : goal.returns-in-Err
returns-in-Err g c = record {
  does = λ read reads.
      does_all_by g.A.Door.shows g.S.Station.shows g.S.Station.ran g.S.Station.goes (map (string_bytes {Z = Global}) c.args.words.now)
      c.args.doors.now.items c.args.doors.now.items (g.O.Sink.shows c.args.out.now) (g.O.Sink.shows c.refuse_words.new.out)
      c.refuse_words.result
      (Err c.in-Err.place) read c.in-Err.ensures (refl, c.refuse_words.ensures) reads;
  complete = λ options is smooth.
      completed_all g.A.Door.shows g.S.Station.shows g.S.Station.ran g.S.Station.goes (map (string_bytes {Z = Global}) c.args.words.now) options
      c.args.doors.now.items c.args.doors.now.items (g.O.Sink.shows c.args.out.now) (g.O.Sink.shows c.refuse_words.new.out)
      c.refuse_words.result
      (does_all_by g.A.Door.shows g.S.Station.shows g.S.Station.ran g.S.Station.goes (map (string_bytes {Z = Global}) c.args.words.now)
      c.args.doors.now.items c.args.doors.now.items (g.O.Sink.shows c.args.out.now) (g.O.Sink.shows c.refuse_words.new.out)
      c.refuse_words.result
      (Err c.in-Err.place) (Ok (Serve options)) c.in-Err.ensures (refl, c.refuse_words.ensures) is) smooth;
}
