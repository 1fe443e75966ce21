use Rattle.std.proofs.Common.{[], refl, sym}
use Rattle.std.specs.Prelude.{codes}
use Rattle.std.proofs.lemmas.List.{append-nil}
use Rattle.host_list.proofs.PrintedText.{put_all}
use Rattle.host_list.proofs.printing.put_options.Goals as goal

pub returns-in_ok-try_extend : goal.returns-in_ok-try_extend
returns-in_ok-try_extend c =
    let is = c.if-hosts.true in
    put_all c.args.hosts.now c.args.text.now c.put_slots.new.text c.put_slots-2.new.text c.try_extend.new.self
    (codes "--randomize\n") c.in_ok-put_slots.ensures c.in_ok-put_slots-2.ensures c.in_ok-try_extend.ensures.ok (rw is refl)

pub returns-else-hosts : goal.returns-else-hosts
returns-else-hosts c =
    let is = c.if-hosts.false in
    put_all c.args.hosts.now c.args.text.now c.put_slots.new.text c.put_slots-2.new.text c.put_slots-2.new.text []
    c.in_ok-put_slots.ensures c.in_ok-put_slots-2.ensures (sym (append-nil c.put_slots-2.new.text)) (rw is refl)
