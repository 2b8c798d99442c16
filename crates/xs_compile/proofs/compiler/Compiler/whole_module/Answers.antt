use Rattle.std.proofs.Common.{◌∙◌, ◌++◌, ◌∷◌, [], ap, refl, subst, sym}
use Rattle.std.specs.List.{AllZip}
use Rattle.std.specs.Prelude.{IsOk}
use Rattle.xs_compile.proofs.BodyLemmas.{body-is}
use Rattle.xs_compile.proofs.DeclaredLemmas.{simple-instruction, whole-is}
use Rattle.xs_compile.proofs.FreeLemmas.{slash}
use Rattle.xs_compile.specs.Declarations.{IsInstr}
use Rattle.xs_structure.specs.Parts.{pairs_at}
use Rattle.xs_compile.specs.steps.State.{modules_of, source_of}
use Rattle.xs_sheet.specs.declared.body.Body.{out-roll-Body}
use Rattle.xs_structure.specs.Modules.{Place}
use Rattle.xs_compile.proofs.compiler.Compiler.whole_module.Goals as goal

pub add_instr-requires : goal.add_instr-requires
add_instr-requires c = simple-instruction c.args.self.now (c.args.number, c.args.n) c.requires.ready c.requires.simplified

pub pattern-requires-clause-valid : goal.pattern-requires-clause-valid
pattern-requires-clause-valid c =
    subst (λ o. IsOk o) (sym (slash (pairs_at (modules_of c.args.self.now) (c.args.number, c.args.n)))) search

pub returns : goal.returns
returns c =
    let s = source_of c.args.self.now in
    let p : Place = (c.args.number, c.args.n) in
    let more = c.in_ok-add_instr.ensures in
    let instrs =
    subst (λ found. AllZip (IsInstr s) (p ∷ []) found)
    (sym (more.grown ∙ ap (λ found. found ++ more.instr ∷ []) c.new-instrs.ensures.items)) (more.stands, tt) in
    whole-is s p _ c.requires.simplified c.site_at.ensures c.precedence_at.ensures c.imports_from_at.ensures
    (record {
      pattern = c.in_ok-pattern.ensures;
      name = refl;
      priority = refl;
      mode = refl;
      params = c.new.ensures;
      body = body-is s (p ∷ []) _
          (subst (AllZip (IsInstr s) (p ∷ [])) (sym (ap (λ b. b.instrs) (out-roll-Body (record { instrs = c.of.result })) ∙ c.of.ensures)) instrs);
    })
