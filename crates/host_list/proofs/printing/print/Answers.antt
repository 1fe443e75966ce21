use Rattle.std.proofs.Common.{◌≡◌, ◌++◌, ap, sym, subst, ◌∙◌, arith}
use Rattle.std.specs.List.{flat_map}
use Rattle.std.proofs.lemmas.List.{take_all}
use Rattle.host_list.specs.HostLists.{HostListOf, host_line, options_text, printed_hosts}
use Rattle.host_list.proofs.RoundTrip.{print_again}
use Rattle.host_list.proofs.printing.print.Goals as goal

pub returns-clause-again : goal.returns-clause-again
returns-clause-again c h =
    let lines = take_all c.loop-host.host-index c.as_slice-host-items.result.now (omega arith) in
    let text : c.put_options.new.text ≡ printed_hosts c.args.hosts.now = c.in_ok-put_options.ensures
    ∙ ap (λ t. t ++ options_text c.args.hosts.now)
    (c.loop-host.invariant ∙ ap (flat_map host_line) (lines ∙ c.as_slice-host-items.ensures)) in
    subst (λ t. HostListOf t c.args.hosts.now) (sym text) (print_again c.args.hosts.now h)
