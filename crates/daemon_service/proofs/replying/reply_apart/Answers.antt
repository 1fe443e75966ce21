use Rattle.std.proofs.Common.{◌≡◌, List, ℕ, ◌++◌, ap, ◌∙◌}
use Rattle.wire_tokens.specs.Reply.{reply_text}
use Rattle.daemon_service.proofs.SentParts.{replied_behind}
use Rattle.daemon_service.proofs.replying.reply_apart.Goals as goal

pub returns-clause-replied : goal.returns-clause-replied
returns-clause-replied g c =
    let head : List ℕ = c.as_slice.result.now in
    let object : List ℕ = c.as_slice-2.result.now in
    let whole : head ++ object ≡ reply_text c.args.outcome.now =
    ap (λ (x : List ℕ). x ++ object) c.as_slice.ensures ∙ ap (λ (x : List ℕ). c.in-Ok.head ++ x) c.as_slice-2.ensures ∙ c.in-Ok.ensures in
    let sent = c.in_default-send_all.ensures in
    let rest = c.in-Err-send_all.ensures in
    rw c.from-in-Err-send_all.ensures
    (replied_behind c.in-Err-send_all.fault (reply_text c.args.outcome.now) head object c.args.outcome.now.status
    (g.L.Link.shows c.args.link.now) (g.L.Link.shows c.send_all.new.link) (g.L.Link.shows c.send_all-2.new.link)
    whole sent.all sent.running sent.still rest.part rest.stops)
