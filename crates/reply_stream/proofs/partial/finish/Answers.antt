use Rattle.std.proofs.Common.{List, ℕ, refl, sym, ap, subst, ◌∙◌}
use Rattle.wire_tokens.specs.Reply.{SpellsReply}
use Rattle.reply_stream.proofs.Finishing.{after_done, after_stat, after_serr, after_sout, after_doto, nothing_kept}
use Rattle.reply_stream.proofs.partial.finish.Goals as goal

pub returns-in-Done-clause-finishes : goal.returns-in-Done-clause-finishes
returns-in-Done-clause-finishes c =
    let z = after_done c.args.p.now _ c.args.n c.in-Done.is c.requires refl refl refl refl refl
    (c.replace-body.ensures.after ∙ c.new.ensures) c.new-p.ensures in
    (refl, z.0, z.1)

pub returns-in-Stat-clause-finishes : goal.returns-in-Stat-clause-finishes
returns-in-Stat-clause-finishes c =
    let z = after_stat c.args.p.now _ c.args.n c.in-Stat.is c.requires refl refl refl refl refl refl
    (c.replace-body.ensures.after ∙ c.new.ensures) c.new-p.ensures in
    (refl, z.0, z.1)

pub returns-in-Serr-clause-finishes : goal.returns-in-Serr-clause-finishes
returns-in-Serr-clause-finishes c =
    let z = after_serr c.args.p.now _ c.args.n c.in-Serr.is c.requires refl refl c.replace-body.ensures.value refl refl refl
    (c.replace-body.ensures.after ∙ c.new.ensures) c.new-p.ensures in
    (refl, z.0, z.1)

pub returns-in-Sout-clause-finishes : goal.returns-in-Sout-clause-finishes
returns-in-Sout-clause-finishes c =
    let z = after_sout c.args.p.now _ c.args.n c.in-Sout.is c.requires refl refl refl c.replace-body.ensures.value refl refl
    (c.replace-body.ensures.after ∙ c.new.ensures) c.new-p.ensures in
    (refl, z.0, z.1)

pub returns-in-Doto-clause-finishes : goal.returns-in-Doto-clause-finishes
returns-in-Doto-clause-finishes c = (
  refl,
  c.replace-body.ensures.value ∙ nothing_kept c.args.p.now c.in-Doto.status c.args.n c.in-Doto.is c.requires,
  λ text object g.
      let z = after_doto c.args.p.now c.in-Doto.status c.args.n c.in-Doto.is c.requires text object g in
      subst (λ (p : List ℕ × List ℕ). SpellsReply text (record { status = c.args.p.now.status; err = p.0; out = p.1; object = object }))
      (sym (ap (λ (x : List ℕ). (x, c.replace-out.result)) c.replace-err.ensures.value
      ∙ ap (λ (x : List ℕ). (c.args.p.now.err, x)) c.replace-out.ensures.value)) z,
)
