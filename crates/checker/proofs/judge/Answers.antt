use Rattle.graph.specs.Checker.{check5}
use Rattle.checker.specs.Promise.{edge_verdict}
use Rattle.checker.proofs.Laws.{vertex_failed, vertex_passed, vertices_pass}
use Rattle.checker.proofs.judge.Goals as goal

pub returns-in-Some : goal.returns-in-Some
returns-in-Some c = vertex_failed _ _ c.loop-v-test.true c.loop-v.invariant c.in-Some.ensures

pub loop-v-preserved : goal.loop-v-preserved
loop-v-preserved c = vertex_passed _ _ c.loop-v.invariant c.in_default.ensures

pub returns : goal.returns
unfolding check5 edge_verdict
returns c = search vertices_pass
