use Rattle.std.proofs.Common.{arith}
use Rattle.std.proofs.lemmas.Result.{err_from_is_err_and}
use Rattle.farm_program.specs.Works.{to_graph, by_config, by_graph, of_graph}
use Rattle.farm_program.proofs.Graphing.{planned}
use Rattle.farm_program.proofs.decide.decide_graph.Goals as goal

pub returns-in_err-config : goal.returns-in_err-config
returns-in_err-config g c =
    let fault = err_from_is_err_and c.from_residual.result c.from_residual.ensures.1 in
    rw (fault.1, fault.2) (by_config of_graph c.in_err-config.ensures.fault)

pub returns-in_err-graph : goal.returns-in_err-graph
returns-in_err-graph g c =
    let fault = err_from_is_err_and c.from_residual-in_err-graph.result c.from_residual-in_err-graph.ensures.1 in
    rw (fault.1, fault.2) (by_graph c.in_ok-config.ensures.made c.read_graph.ensures.some c.in_err-graph.ensures.fault)

pub returns : goal.returns
returns g c = (
  to_graph (record {
    config = c.in_ok-config.ensures.made;
    workers = c.worker_count.ensures;
    has = c.in_ok-graph.ensures.graph;
    some = c.read_graph.ensures.some;
  }),
  planned _ _ _ c.in_ok-graph.ensures.runnable c.in_ok-config.ensures.usable
      (let e = c.worker_count.ensures in let w = c.requires.within.some_workers in omega (arith, e, w)),
)
