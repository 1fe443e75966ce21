use Rattle.std.proofs.Common.{◌≡◌, ap, ◌∙◌, sym, subst}
use Rattle.loop_link.specs.Replies.{AreOwnNames}
use Rattle.sample_compiler.specs.Stations.{station_files}
use Rattle.farm_calls.proofs.kits.loop_kit.Goals as goal

pub returns-clause-loops : goal.returns-clause-loops
returns-clause-loops c = record {
  names = subst (λ held. AreOwnNames held.table.rows) (sym c.new.ensures.held) c.in_ok-compiler_table.ensures.names;
  same = ap (λ held. station_files held.station) c.new.ensures.held ∙ c.new-there.ensures.files ∙ c.in_ok-make.ensures.files
      ∙ sym (c.new-here.ensures.files ∙ c.in_ok-make-2.ensures.files);
}
