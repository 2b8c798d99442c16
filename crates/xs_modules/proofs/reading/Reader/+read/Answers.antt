use Rattle.std.proofs.Common.{List, ℕ, ◌∙◌, refl, sym, subst, arith, vec_len}
use Rattle.std.proofs.lemmas.Result.{err_from_is_err_and}
use Rattle.xs_modules.specs.steps.Reader.{GainsPart}
use Rattle.xs_modules.specs.steps.Views.{imports_data, mention_data}
use Rattle.xs_modules.proofs.GainLemmas.{nodes_kept, number_grows}
use Rattle.xs_modules.proofs.PartLemmas.{mention_comes, out_after_part, trouble_in_part}
use Rattle.xs_modules.proofs.SoFarLemmas.{so_far_more, so_far_none, so_far_out, so_far_trouble}
use Rattle.xs_modules.proofs.reading.Reader.+read.Goals as goal

pub read_elements-loop-element-init : goal.read_elements-loop-element-init
read_elements-loop-element-init g t c = record {
  so_far = so_far_none (g.L.Library.files c.args.library.now) c.args.self.now c.args.sheet (imports_data c.new-imports.result)
      (g.L.Library.asked c.args.library.now) (g.L.Library.failed c.args.library.now) c.requires.few c.new-imports.ensures;
  files = refl;
  nodes = c.requires.nodes;
  grows = omega arith;
  few = c.requires.few;
}

-- memory runs out where a mention is made
pub read_elements-returns-in_err-mention-clause-reads : goal.read_elements-returns-in_err-mention-clause-reads
read_elements-returns-in_err-mention-clause-reads g t c =
    let p = err_from_is_err_and c.from_residual.result c.from_residual.ensures.1 in
    rw (p.1, p.2) (so_far_out (g.L.Library.files c.args.library.now) c.args.self.now c.loop-element.self c.args.sheet (imports_data c.loop-element.imports)
    (g.L.Library.asked c.args.library.now) (g.L.Library.asked c.loop-element.library) (g.L.Library.failed c.args.library.now)
    (g.L.Library.failed c.loop-element.library) c.args.elements.now c.loop-element.element-index c.args.number c.loop-element.invariant.so_far)

-- there is trouble in a mention
pub read_elements-returns-in_err-read_mention-clause-reads : goal.read_elements-returns-in_err-read_mention-clause-reads
read_elements-returns-in_err-read_mention-clause-reads g t c =
    let p = err_from_is_err_and c.from_residual-in_err-read_mention.result c.from_residual-in_err-read_mention.ensures.1 in
    rw (p.1, p.2) (so_far_trouble (g.L.Library.files c.args.library.now) c.args.self.now c.loop-element.self c.args.sheet
    (imports_data c.loop-element.imports) (g.L.Library.asked c.args.library.now) (g.L.Library.asked c.loop-element.library)
    (g.L.Library.failed c.args.library.now) (g.L.Library.failed c.loop-element.library) c.args.elements.now c.loop-element.element-index
    c.element-item.result c.args.number (mention_data c.in_ok-mention.mention) (omega arith) c.element-item.is c.requires.nodes.there
    c.in_ok-mention.ensures c.loop-element.invariant.so_far (g.L.Library.files c.loop-element.library) c.in_err-read_mention.field-0.0
    (g.L.Library.asked c.read_mention.new.library) (g.L.Library.failed c.read_mention.new.library) c.loop-element.invariant.files
    c.in_err-read_mention.ensures.reads)

-- a mention is read
pub read_elements-loop-element-preserved : goal.read_elements-loop-element-preserved
read_elements-loop-element-preserved g t c =
    let r = c.in_ok-read_mention.ensures.reads in
    let grown = number_grows c.loop-element.self c.read_mention.new.self c.args.sheet (imports_data c.loop-element.imports)
    (imports_data c.read_mention.new.imports) r.0 r.2 in
    record {
      so_far = so_far_more (g.L.Library.files c.args.library.now) c.args.self.now c.loop-element.self c.args.sheet
          (imports_data c.loop-element.imports) (g.L.Library.asked c.args.library.now) (g.L.Library.asked c.loop-element.library)
          (g.L.Library.failed c.args.library.now) (g.L.Library.failed c.loop-element.library) c.args.elements.now c.loop-element.element-index
          c.element-item.result c.args.number (mention_data c.in_ok-mention.mention) (omega arith) c.element-item.is c.requires.nodes.there
          c.in_ok-mention.ensures c.loop-element.invariant.so_far (g.L.Library.files c.loop-element.library) c.read_mention.new.self
          (imports_data c.read_mention.new.imports) (g.L.Library.asked c.read_mention.new.library) (g.L.Library.failed c.read_mention.new.library)
          r.0 c.loop-element.invariant.files r.1 r.2;
      files = c.in_ok-read_mention.ensures.files ∙ c.loop-element.invariant.files;
      nodes = nodes_kept c.loop-element.self c.read_mention.new.self c.args.sheet (imports_data c.loop-element.imports)
          (imports_data c.read_mention.new.imports) r.0 c.args.number c.args.elements.now r.2 c.loop-element.invariant.nodes;
      grows = omega (arith, c.loop-element.invariant.grows);
      few = r.2.few;
    }

-- there is trouble in what the module mentions
pub read_mention-returns-in_err-within-clause-reads : goal.read_mention-returns-in_err-within-clause-reads
read_mention-returns-in_err-within-clause-reads g t c =
    let p = err_from_is_err_and c.from_residual-in_err-within.result c.from_residual-in_err-within.ensures.1 in
    rw (p.1, p.2) (trouble_in_part (g.L.Library.files c.args.library.now) (g.L.Library.files c.read_part.new.library) c.args.self.now c.read_part.new.self
    (mention_data c.args.mention) c.sheet_for-sheet.result c.len-number.result c.as_slice.result.now (g.L.Library.asked c.args.library.now)
    (g.L.Library.asked c.read_part.new.library) (g.L.Library.asked c.read_elements.new.library) (g.L.Library.failed c.args.library.now)
    (g.L.Library.failed c.read_part.new.library) (g.L.Library.failed c.read_elements.new.library) c.in_ok-elements.ensures.files (omega arith)
    (subst (λ (ns : List ℕ). GainsPart (g.L.Library.files c.args.library.now) c.args.self.now c.read_part.new.self (mention_data c.args.mention)
    c.sheet_for-sheet.result ns (g.L.Library.asked c.args.library.now) (g.L.Library.asked c.read_part.new.library)
    (g.L.Library.failed c.args.library.now) (g.L.Library.failed c.read_part.new.library)) (sym c.as_slice.ensures.value) c.in_ok-elements.ensures.reads)
    c.in_err-within.field-0.0 c.in_err-within.ensures.reads)

-- memory runs out once all that it mentions was read
pub read_mention-returns-in_err-put-clause-reads : goal.read_mention-returns-in_err-put-clause-reads
read_mention-returns-in_err-put-clause-reads g t c =
    let p = err_from_is_err_and c.from_residual-in_err-put.result c.from_residual-in_err-put.ensures.1 in
    rw (p.1, p.2) (out_after_part (g.L.Library.files c.args.library.now) (g.L.Library.files c.read_part.new.library) c.args.self.now c.read_part.new.self
    (mention_data c.args.mention) c.sheet_for-sheet.result c.len-number.result c.as_slice.result.now (g.L.Library.asked c.args.library.now)
    (g.L.Library.asked c.read_part.new.library) (g.L.Library.asked c.read_elements.new.library) (g.L.Library.failed c.args.library.now)
    (g.L.Library.failed c.read_part.new.library) (g.L.Library.failed c.read_elements.new.library) c.in_ok-elements.ensures.files (omega arith)
    (subst (λ (ns : List ℕ). GainsPart (g.L.Library.files c.args.library.now) c.args.self.now c.read_part.new.self (mention_data c.args.mention)
    c.sheet_for-sheet.result ns (g.L.Library.asked c.args.library.now) (g.L.Library.asked c.read_part.new.library)
    (g.L.Library.failed c.args.library.now) (g.L.Library.failed c.read_part.new.library)) (sym c.as_slice.ensures.value) c.in_ok-elements.ensures.reads)
    c.in_ok-within.ensures.reads.0 c.in_ok-within.ensures.reads.1)

-- the module is read, with all that it mentions
pub read_mention-returns-clause-reads : goal.read_mention-returns-clause-reads
read_mention-returns-clause-reads g t c =
    mention_comes (g.L.Library.files c.args.library.now) (g.L.Library.files c.read_part.new.library) c.args.self.now c.read_part.new.self
    c.read_elements.new.self (record { parts = c.read_elements.new.self.parts; path = c.pop.new.self }) (mention_data c.args.mention)
    c.sheet_for-sheet.result c.args.sheet c.len-number.result (vec_len c.read_elements.new.self.path) c.as_slice.result.now
    (imports_data c.args.imports.now) (imports_data c.in_ok-within.within) (imports_data c.put.new.self) (g.L.Library.asked c.args.library.now)
    (g.L.Library.asked c.read_part.new.library) (g.L.Library.asked c.read_elements.new.library) (g.L.Library.failed c.args.library.now)
    (g.L.Library.failed c.read_part.new.library) (g.L.Library.failed c.read_elements.new.library) c.in_ok-elements.ensures.files (omega arith)
    c.sheet_for-sheet.ensures
    (subst (λ (ns : List ℕ). GainsPart (g.L.Library.files c.args.library.now) c.args.self.now c.read_part.new.self (mention_data c.args.mention)
    c.sheet_for-sheet.result ns (g.L.Library.asked c.args.library.now) (g.L.Library.asked c.read_part.new.library)
    (g.L.Library.failed c.args.library.now) (g.L.Library.failed c.read_part.new.library)) (sym c.as_slice.ensures.value) c.in_ok-elements.ensures.reads)
    c.in_ok-within.ensures.reads.0 c.in_ok-within.ensures.reads.2 refl (omega (arith, c.read_elements.new.self.path.ok.0)) c.pop.ensures.rest
    c.in_ok-put.ensures c.in_ok-within.ensures.reads.1
