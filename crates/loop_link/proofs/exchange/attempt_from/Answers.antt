use Rattle.std.proofs.Common.{◌≡◌, ◌⊎◌, Bool, false, List, ◌++◌, ◌∷◌, [], refl, sym, ◌∙◌, ap, subst}
use Rattle.std.specs.Prelude.{is_some}
use Rattle.edge_traits.specs.declared.entries.Exchange.{Exchange}
use Rattle.edge_traits.specs.Stations.{StationView}
use Rattle.remote_transfer.specs.declared.answers.Attempt.{Attempt}
use Rattle.remote_transfer.specs.Attempts.{AttemptAdds}
use Rattle.loop_link.specs.Replies.{StationRose}
use Rattle.loop_link.specs.Exchanges.{IsNext}
use Rattle.loop_link.specs.Dialers.{dialer_state, dialer_shows, held_of, station_of, DialerGives}
use Rattle.loop_link.proofs.Unbroken.{unbroken}
use Rattle.loop_link.proofs.exchange.attempt_from.Goals as goal

pub returns-clause-unbroken : goal.returns-clause-unbroken
returns-clause-unbroken g c = λ cause is.
    let once = c.attempt-answer.new.dialer in
    let held = held_of once.dialer in
    let q = c.args.request.now in
    let host = c.args.host.now in
    let old = c.args.dialer in
    let before = g.B.Before.station in
    let now = station_of g.S.Station.shows once.dialer in
    let adds = subst (λ (answer : Attempt). AttemptAdds (DialerGives g.S.Station.ran once.dialer) q host answer
    (dialer_shows (dialer_state old)).exchanges (dialer_shows (dialer_state once.dialer)).exchanges) is c.attempt-answer.ensures.adds in
    let next : IsNext g.B.Before.exchanges once.dialer.exchanges adds.entry =
    adds.grew.grew refl ∙ ap (λ (list : List Exchange). list ++ adds.entry ∷ []) (sym c.requires.exchanges) in
    let result = unbroken held.table.rows (g.S.Station.ran held.station) q host adds.entry g.B.Before.there before now c.requires.fits
    (once.faultless adds.entry next) (once.unstopped adds.entry next) (once.away adds.entry next) (once.rose adds.entry next)
    (adds.may refl) cause adds.is.0 in
    subst (λ (s : StationView). (is_some old.held ≡ false) ⊎ StationRose s now) c.requires.station
    (subst (λ (there : Bool). (there ≡ false) ⊎ StationRose before now) c.requires.there result)

pub returns-clause-back : goal.returns-clause-back
returns-clause-back g c = λ x next dialed.
    c.attempt-answer.new.dialer.back x (next ∙ ap (λ (list : List Exchange). list ++ x ∷ []) (sym c.requires.exchanges)) dialed
