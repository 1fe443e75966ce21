use Rattle.std.proofs.Common.{rules, ◌∙◌, ap}
use Rattle.std.specs.FinMap.{remove}
use Rattle.file_map.proofs.Removing.{removed, once_left}
use Rattle.file_map.proofs.files.FileMap.remove.Goals as goal

pub returns : goal.returns
returns c =
    removed _ c.args.path.now _ (λ file b f' called. search rules) c.self.inside.stored.items _ c.retain.ensures.filtered
    ∙ ap (λ files. remove files c.args.path.now) c.self.view_is

pub invariant_of-self : goal.invariant_of-self
invariant_of-self c = once_left _ c.args.path.now _ (λ file b f' called. search rules) c.self.inside.stored.items _
    c.retain.ensures.filtered c.self.invariant
