use Rattle.std.proofs.Common.{subst, ◌∙◌}
use Rattle.sample_linker.specs.Waits.{Settled}
use Rattle.sample_linker.proofs.Sets.{all_above}
use Rattle.sample_linker.proofs.ordering.place_all.Goals as goal

pub loop-turn-preserved : goal.loop-turn-preserved
loop-turn-preserved c = record {
  len = c.look_at.ensures.len ∙ c.loop-turn.invariant.len;
  steps = λ placed so settled.
      let before = c.loop-turn.invariant.steps placed so settled in
      c.in_ok-look_at-in-Some.ensures.steps before.0 before.1
      (subst (λ keys. Settled c.args.table.now c.loop-turn.progress.waiters.items keys before.0 c.args.defined.now)
      c.in-Some.ensures.removal before.2)
      (all_above c.in-Some.at c.pop_first.new.self.keys c.in-Some.ensures.all_above);
}
