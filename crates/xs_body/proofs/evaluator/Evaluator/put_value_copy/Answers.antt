use Rattle.std.proofs.Common.{◌<◌, ℕ, List, All, length, subst, sym}
use Rattle.xs_trace.specs.Play.{IsStep}
use Rattle.xs_value.specs.declared.value.Value.{Value}
use Rattle.xs_value.specs.Conversion.{IsIn}
use Rattle.xs_body.specs.steps.Frames.{Evaluation}
use Rattle.xs_body.specs.steps.Making.{copy_steps, nodes_steps}
use Rattle.xs_body.proofs.evaluator.Evaluator.put_value_copy.Goals as goal

pub put_nodes-requires : goal.put_nodes-requires
put_nodes-requires g c =
    let rs = c.args.self.now.world.tree in
    let inside = subst (λ (v : Value). IsIn rs v) c.in-Nodes.is c.requires.value in
    record {
      nodes =
          subst (λ (t : Evaluation). All (λ n. n < length t.world.tree) c.nodes.result.now) (sym c.self.view_is)
          (subst (λ (ns : List ℕ). All (λ n. n < length rs) ns) (sym c.nodes.ensures.nodes) inside);
    }

pub returns-in-Nodes-clause-reported : goal.returns-in-Nodes-clause-reported
returns-in-Nodes-clause-reported g c =
    let rs = c.args.self.now.world.tree in
    let site = c.args.site in
    let s = g.R.Tally.state c.args.recorder.now in
    let m = g.R.Tally.state c.put_nodes.new.recorder in
    subst (λ (v : Value). IsStep (copy_steps rs site v s) c.put_nodes.result m) (sym c.in-Nodes.is)
    (subst (λ (ns : List ℕ). IsStep (nodes_steps rs site ns s) c.put_nodes.result m) c.nodes.ensures.nodes
    (subst (λ (t : Evaluation). IsStep (nodes_steps t.world.tree site c.nodes.result.now s) c.put_nodes.result m) c.self.view_is
    c.put_nodes.ensures.reported))
