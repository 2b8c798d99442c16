use Rattle.std.proofs.Common.{sym, arith, subst}
use Rattle.xs_build.specs.Results.{Builds}
use Rattle.xs_build.proofs.WellFormedLemmas.DocumentLemmas.{built_document}
use Rattle.xs_build.proofs.RestLemmas.{within_limit, beyond_limit}
use Rattle.xs_build.proofs.document.build_tree.Goals as goal

pub returns-then-bytes-limit-clause-document : goal.returns-then-bytes-limit-clause-document
returns-then-bytes-limit-clause-document c = beyond_limit c.args.limit c.args.bytes.now (omega arith)

pub returns-clause-document : goal.returns-clause-document
returns-clause-document c = subst (Builds c.read_lines.result) (sym (within_limit c.args.limit c.args.bytes.now (omega arith))) c.read_lines.ensures.document

pub returns-clause-tree : goal.returns-clause-tree
returns-clause-tree c = built_document c.args.limit c.args.bytes.now c.read_lines.result
    (subst (Builds c.read_lines.result) (sym (within_limit c.args.limit c.args.bytes.now (omega arith))) c.read_lines.ensures.document)
