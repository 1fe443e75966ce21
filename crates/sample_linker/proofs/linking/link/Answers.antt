use Rattle.std.proofs.Common.{subst, ◌∙◌}
use Rattle.sample_linker.specs.declared.faults.Linked.TheVariants as linked
use Rattle.sample_linker.specs.Links.{LinkTo}
use Rattle.sample_linker.specs.Stops.{IsLinkStop}
use Rattle.sample_linker.proofs.Promise.{links_sources}
use Rattle.sample_linker.proofs.linking.link.Goals as goal

pub returns-in-Ok-clause-sources : goal.returns-in-Ok-clause-sources
returns-in-Ok-clause-sources c texts files sources is =
    links_sources texts files (linked.Image c.in-Ok.image) sources
    (subst (λ objects. LinkTo objects (linked.Image c.in-Ok.image)) (c.as_slice.ensures ∙ is) c.in-Ok.ensures.ok)

pub returns-in-Err-Fault-clause-sources : goal.returns-in-Err-Fault-clause-sources
returns-in-Err-Fault-clause-sources c texts files sources is =
    links_sources texts files (linked.Fault c.in-Err-Fault.fault) sources
    (subst (λ objects. LinkTo objects (linked.Fault c.in-Err-Fault.fault)) (c.as_slice.ensures ∙ is)
    (subst (IsLinkStop c.as_slice.result.now) c.in-Err-Fault.field-0-is c.in-Err-Fault.ensures.err))
