-- A document that is not refused has the tree of one well-formed document.
use Rattle.std.proofs.Common.{ℕ, List, Result, Ok, Err}
use Rattle.std.specs.Prelude.{IfOk}
use Rattle.xs_build.specs.declared.document.Built.{Built}
use Rattle.xs_build.specs.declared.fault.BuildFault.{BuildFault}
use Rattle.xs_build.specs.Document.{document}
use Rattle.xs_build.specs.DocumentLaws.{DocumentsAreTrees}
use Rattle.xs_build.specs.DocumentTree.{IsOneDocument}
use Rattle.xs_build.specs.Results.{Builds}
use Rattle.xs_build.proofs.WellFormedLemmas.ElementLemmas.{document_elements, document_names}
use Rattle.xs_build.proofs.WellFormedLemmas.TopLemmas.{begins_document, has_one_root, has_top_element, has_whole_texts}

pub documents_are_trees : DocumentsAreTrees
documents_are_trees limit bytes rs lines e = record {
  one = has_one_root limit bytes rs lines e;
  document = record {
    begins = begins_document limit bytes rs lines e;
    top = has_top_element limit bytes rs lines e;
    names = λ k h. document_names limit bytes rs lines e k h.0;
    texts = λ k h is. has_whole_texts limit bytes rs lines e k h.0 is;
    elements = λ n h is. document_elements limit bytes rs lines e n h.0 is;
  };
}

pub built_document : (limit : ℕ) (bytes : List ℕ) (r : Result Built BuildFault) → Builds r (document limit bytes) → IfOk r (λ built. IsOneDocument built.tree)
built_document limit bytes (Ok built) b = documents_are_trees limit bytes built.tree built.lines.items b
built_document limit bytes (Err fault) b = tt
