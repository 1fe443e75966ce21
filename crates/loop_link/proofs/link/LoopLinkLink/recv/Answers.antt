use Rattle.std.proofs.Common.{◌≤◌, ◌+◌, length, take, arith, rules, subst}
use Rattle.std.proofs.lemmas.Grind.{common_steps}
use Rattle.edge_traits.specs.Told.{Grew, told}
use Rattle.edge_traits.proofs.ToldLemmas.{Grew-read}
use Rattle.loop_link.proofs.link.LoopLinkLink.recv.Goals as goal

pub invariant_of-self : goal.invariant_of-self
invariant_of-self g c =
    let link = c.ready.new.self in
    record {
      within = omega (arith, link.within, c.if-count-eq0.true);
      front = link.front;
      whole = λ _. omega (arith, link.within, c.if-count-eq0.true, c.min-count.ensures, c.len.ensures, c.requires);
      all = link.all;
      empty = λ unserved. absurd (cc (c.in_ok-ready.ensures.served.done, unserved));
    }

pub returns-else-count-eq0-clause-receives : goal.returns-else-count-eq0-clause-receives
returns-else-count-eq0-clause-receives g c =
    let link = c.ready.new.self in
    let fits : link.at + c.min-count.result ≤ length link.reply = grind (arith, common_steps, link.within) in
    let more = Grew-read link.reply c.put_front.new.room link.at c.min-count.result _ fits (search rules) c.put_front.ensures in
    record {
      given = subst (λ before. Grew (told before) (told (take (link.at + c.min-count.result) link.reply))
          (take c.min-count.result c.put_front.new.room)) c.ready.ensures.passed.given more;
      sent = search rules;
      ended = search rules;
    }
