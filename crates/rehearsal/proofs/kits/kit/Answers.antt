use Rattle.std.proofs.Common.{◌≡◌, ℕ, List, ap, ◌∙◌, subst}
use Rattle.edge_memory.specs.Keepers.{pending_of}
use Rattle.farm_machine.specs.Honest.{IsHonest}
use Rattle.loop_link.specs.Dialers.{DialerGives}
use Rattle.sample_compiler.specs.Stations.{StationRan, station_files}
use Rattle.workload.specs.Loads.{files_of}
use Rattle.rehearsal.proofs.kits.kit.Goals as goal

pub returns : goal.returns
returns c =
    let there : station_files c.new-there.result ≡ files_of c.args.n = c.new-there.ensures.files ∙ c.in_ok-make.ensures.files in
    record {
      there = ap (λ held. station_files held.station) c.new.ensures.held ∙ there;
      table = ap (λ held. held.table.rows) c.new.ensures.held ∙ c.in_ok-compiler_table.ensures.rows;
      clock = c.new-4.ensures ∙ ap (λ (moments : List ℕ). record { moments = moments; given = 0 }) c.new-3.ensures;
      honest = subst (λ files. IsHonest (DialerGives (λ s. StationRan (station_files s)) c.new.result) (StationRan files)) there
          c.new.ensures.honest;
      station = c.new-here.ensures ∙ c.in_ok-make-2.ensures.files;
      none_put = c.new-2.ensures.none;
      idle = ap pending_of c.new-2.ensures.idle;
    }
