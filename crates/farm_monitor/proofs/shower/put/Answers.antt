use Rattle.std.proofs.Common.{◌≡◌, ◌++◌, [], ◌∷◌, fold, drop, ap, sym, ◌∙◌}
use Rattle.farm_monitor.specs.declared.row.Row.{Row}
use Rattle.farm_monitor.proofs.Meeting.{meets}
use Rattle.farm_monitor.proofs.shower.put.Goals as goal

pub publish_as-writer-requires : goal.publish_as-writer-requires
publish_as-writer-requires g c next is =
    let now = c.append.new.self.desk.shown.value in
    let pending : drop c.append.new.self.behind c.append.new.self.log.items ≡ c.args.next ∷ [] =
    c.in-Ok.ensures.pending ∙ ap (λ ops. ops ++ c.args.next ∷ []) c.args.shower.settled in
    let it : next ≡ c.args.next = is ∙ ap (λ ops. fold (λ (row op : Row). op) now ops) pending in
    let same : now ≡ c.args.shower.writer.desk.shown.value = ap (λ d. d.shown.value) c.append.ensures.desk in
    meets _ _ now next (ap (λ (row : Row). row.rows.book) it ∙ (c.requires.board ∙ ap (λ (row : Row). row.rows.book) (sym same)))
