use Rattle.std.proofs.Common.{◌≡◌, List, ℕ, Err, subst}
use Rattle.xs_build.specs.Document.{document, refused, tree}
use Rattle.xs_build.specs.Results.{Builds}
use Rattle.xs_build.specs.declared.fault.BuildFault.{BuildFault}
use Rattle.xs_modules.specs.Reading.{module_limit}
use Rattle.xs_modules.proofs.DocumentLemmas.{has_document, has_none}
use Rattle.xs_modules.proofs.document.fetch_document.Goals as goal

pub returns-in-Ok-build_tree-clause-fetches : goal.returns-in-Ok-build_tree-clause-fetches
returns-in-Ok-build_tree-clause-fetches g c =
    let built = c.in-Ok-build_tree.built in (
      has_document (g.L.Library.files c.args.library.now) c.args.name.now c.in-Ok.bytes.items built c.in-Ok.ensures.bytes
          (subst (λ (b : List ℕ). document module_limit b ≡ tree built.tree built.lines.items) c.deref.ensures.value c.in-Ok-build_tree.ensures.document),
      c.in-Ok.ensures.asked,
      c.in-Ok.ensures.failed,
    )

pub returns-in-Err-Bad-clause-fetches : goal.returns-in-Err-Bad-clause-fetches
returns-in-Err-Bad-clause-fetches g c = (
  has_none (g.L.Library.files c.args.library.now) c.args.name.now c.in-Ok.bytes.items c.in-Err-Bad.number c.in-Err-Bad.line c.in-Ok.ensures.bytes
      (subst (λ (b : List ℕ). document module_limit b ≡ refused c.in-Err-Bad.number c.in-Err-Bad.line) c.deref.ensures.value
      (subst (λ (e : BuildFault). Builds (Err e) (document module_limit c.deref.result.now)) c.in-Err-Bad.field-0-is c.in-Err-Bad.ensures.document)),
  c.in-Ok.ensures.asked,
  c.in-Ok.ensures.failed,
)
