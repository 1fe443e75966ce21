use Rattle.std.proofs.Common.{take, drop, subst, sym, ◌∙◌}
use Rattle.std.proofs.lemmas.List.{take-append-drop}
use Rattle.host_list.specs.Names.{IsHostName}
use Rattle.host_list.proofs.NameLemmas.{name_front}
use Rattle.host_list.proofs.host.read_host.Goals as goal

pub returns-clause-meant : goal.returns-clause-meant
returns-clause-meant c = record {
  name = take c.name_reach-reach.result c.args.word.now;
  port = c.in_ok-parts.parts.port;
  limit = c.in_ok-parts.parts.limit;
  parts = drop c.name_reach-reach.result c.args.word.now;
  spelled = sym (take-append-drop c.name_reach-reach.result c.args.word.now);
  named = subst (λ n. IsHostName (take n c.args.word.now)) (sym c.name_reach-reach.ensures.reach)
      (name_front c.args.word.now (sym c.is_name_end.ensures ∙ c.if-not-is_name_end.false));
  behind = c.in_ok-parts.ensures.parts;
  meant = c.in_ok-make_host.ensures;
}
