use Rattle.checker.proofs.Laws.{edge_failed, edge_passed, edges_pass}
use Rattle.checker.proofs.judge_edges.Goals as goal

pub returns-then-not-rises : goal.returns-then-not-rises
returns-then-not-rises c = search edge_failed

pub loop-e-preserved : goal.loop-e-preserved
loop-e-preserved c = search edge_passed

pub returns : goal.returns
returns c = search edges_pass
