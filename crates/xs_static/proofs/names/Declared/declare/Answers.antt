use Rattle.std.proofs.Common.{◌==◌}
use Rattle.xs_elements.specs.Nodes.{name_data}
use Rattle.xs_static.proofs.DeclaredLemmas.{put-name, put-ranked}
use Rattle.xs_static.specs.steps.Declared.{is_ranked}
use Rattle.xs_static.specs.steps.InForce.{is_among}
use Rattle.xs_static.proofs.names.Declared.declare.Goals as goal

pub returns-clause-names : goal.returns-clause-names
returns-clause-names c = λ uri local.
    put-name (uri, local) (name_data c.args.name) (is_among c.args.self.now.names.keys (uri, local)) _
    (c.in_ok-insert.ensures.updates.0 (record { ref_ptr = (0, 0); now = uri }, record { ref_ptr = (0, 0); now = local }))

pub returns-clause-ranked : goal.returns-clause-ranked
returns-clause-ranked c = λ rank uri local.
    put-ranked (uri, local) (name_data c.args.name) (c.args.precedence == rank) (is_ranked c.args.self.now.ranked.keys rank (uri, local)) _
    (c.in_ok-is_first.ensures.updates.0 (rank, (record { ref_ptr = (0, 0); now = uri }, record { ref_ptr = (0, 0); now = local })))
