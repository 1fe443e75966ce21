use Rattle.std.proofs.Common.{◌≡◌, ◌++◌, [], ◌∷◌, fold, drop, ap, sym, ◌∙◌}
use Rattle.farm_monitor.specs.declared.row.Row.{Row}
use Rattle.farm_monitor.proofs.Meeting.{meets, admits, forks, merges}
use Rattle.farm_monitor.proofs.opened.joined.Goals as goal

pub publish_as-writer-requires : goal.publish_as-writer-requires
publish_as-writer-requires g c next is =
    let now = c.append.new.self.desk.shown.value in
    let pending : drop c.append.new.self.behind c.append.new.self.log.items ≡ c.again.result ∷ [] =
    c.in-Ok.ensures.pending ∙ ap (λ ops. ops ++ c.again.result ∷ []) c.args.shower.settled in
    let it : next ≡ c.again.result = is ∙ ap (λ ops. fold (λ (row op : Row). op) now ops) pending in
    let same : now ≡ c.args.shower.writer.desk.shown.value = ap (λ d. d.shown.value) c.append.ensures.desk in
    let first : next ≡ c.args.shower.writer.desk.shown.value = it ∙ c.again.ensures ∙ c.again-kept.ensures ∙ c.published.ensures in
    meets _ _ now next (ap (λ (row : Row). row.rows.book) (first ∙ sym same))

pub reader-requires : goal.reader-requires
reader-requires g c = admits

pub tell-requires : goal.tell-requires
tell-requires g c = forks _ _

pub learn-requires-clause-rule : goal.learn-requires-clause-rule
learn-requires-clause-rule g c = merges _ _ _ _
