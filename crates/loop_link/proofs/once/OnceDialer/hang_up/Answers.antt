use Rattle.std.proofs.Common.{◌≡◌, ℕ, ◌≤◌, true, List, ◌++◌, ◌∷◌, [], take, sym, ◌∙◌, ap, subst, arith}
use Rattle.edge_traits.specs.declared.entries.Exchange.{Exchange}
use Rattle.edge_traits.specs.Dialers.{hung}
use Rattle.loop_link.specs.declared.link.Held.{Held}
use Rattle.loop_link.specs.Replies.{Serves}
use Rattle.loop_link.specs.Links.{loop_state, loop_shows}
use Rattle.loop_link.specs.Exchanges.{station_rose, IsNext}
use Rattle.loop_link.proofs.Unbroken.{unanswered_rose, all_seen, one_entry}
use Rattle.loop_link.proofs.once.OnceDialer.hang_up.Goals as goal

pub invariant_of-self : goal.invariant_of-self
invariant_of-self g c =
    let shows = g.S.Station.shows in
    let before = g.B.Before.station in
    let link = c.args.link in
    let view = loop_shows (loop_state link) in
    let now = shows link.held.station in
    let more : c.hang_up.new.self.exchanges ≡ c.args.self.now.dialer.exchanges ++ hung view ∷ [] =
    ap (λ s. s.exchanges) c.hang_up.ensures.state in
    let same : (x : Exchange) → IsNext g.B.Before.exchanges c.hang_up.new.self.exchanges x → x ≡ hung view =
    λ x next. one_entry g.B.Before.exchanges c.args.self.now.dialer.exchanges c.hang_up.new.self.exchanges x (hung view) more next in
    let held = c.hang_up.ensures.held in
    record {
      faults = subst (λ (h : Held g.row.S.Denot). before.faults ≤ (shows h.station).faults) (sym held)
          (omega (arith, c.requires.faults, c.requires.holds.faults));
      overruns = subst (λ (h : Held g.row.S.Denot). before.overruns ≤ (shows h.station).overruns) (sym held)
          (omega (arith, c.requires.overruns, c.requires.holds.overruns));
      there = λ unused. absurd (cc (c.requires.once, unused));
      unused = λ unused. absurd (cc (c.requires.once, unused));
      faultless = λ x next. ap (λ (e : Exchange). e.faults) (same x next);
      unstopped = λ x next. ap (λ (e : Exchange). e.stopped) (same x next);
      away = λ x next undialed. absurd (cc (ap (λ (e : Exchange). e.dialed) (same x next), undialed));
      back = λ x next dialed. ap (λ s. s.there) c.hang_up.ensures.state;
      rose = λ x next none.
          let is = same x next in
          let end : link.ended ≡ true = sym (ap (λ (e : Exchange). e.ended) is) ∙ none.ended in
          let all : take link.seen link.sent ≡ link.sent =
          all_seen link.served link.closes link.ended link.seen link.at link.sent link.reply c.requires.closes end link.empty
          link.all in
          subst (λ (h : Held g.row.S.Denot). station_rose before (shows h.station) ≡ true) (sym held)
          (unanswered_rose link.held.table.rows (g.S.Station.ran link.held.station) link.sent (take link.at link.reply) x before
          (shows link.dialed.value) now c.requires.faults c.requires.overruns
          (ap (λ (e : Exchange). e.sent) is) (ap (λ (e : Exchange). e.given) is) none
          (subst (λ (sent : List ℕ). Serves link.held.table.rows (g.S.Station.ran link.held.station) sent (shows link.dialed.value)
          now (take link.at link.reply)) all
          (subst (λ (h : Held g.row.S.Denot). Serves link.held.table.rows (g.S.Station.ran link.held.station)
          (take link.seen link.sent) (shows link.dialed.value) (shows h.station) (take link.at link.reply)) held
          (c.hang_up.ensures.whole end))));
    }
