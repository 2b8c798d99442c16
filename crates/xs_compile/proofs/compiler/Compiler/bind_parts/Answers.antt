use Rattle.std.proofs.Common.{◌≡◌, ◌∙◌, ◌<◌, arith, get_or, length, refl, rules}
use Rattle.std.proofs.lemmas.Grind.{common_steps}
use Rattle.std.proofs.lemmas.List.{length-set}
use Rattle.xs_compile.proofs.BindingLemmas.{length-parts, parts-all, parts-more}
use Rattle.xs_compile.specs.Parsed.{bound_part}
use Rattle.xs_compile.specs.Slots.{slot_at}
use Rattle.xs_compile.specs.steps.State.{modules_of}
use Rattle.xs_xpath.specs.AvtParts.{parts_from}
use Rattle.xs_compile.proofs.compiler.Compiler.bind_parts.Goals as goal

pub loop-i-preserved : goal.loop-i-preserved
loop-i-preserved c =
    let same = c.loop-i.invariant.size in
    let within : c.loop-i.i < length c.loop-i.parts.items = omega (arith, same, c.loop-i-test.true, c.len-i-end.ensures, c.args.parts.now.ok.0) in
    let old : c.loop-i.i < length (parts_from c.args.parts.now.items) = length-parts c.loop-i.i c.args.parts.now.items (omega (arith, same, within)) in
    let is : c.index_mut.result.now ≡ get_or c.loop-i.parts.items c.loop-i.i c.index_mut.result.now =
    first_of (cc, search rules, grind (arith, common_steps)) in
    record {
      same = parts-more (bound_part (slot_at (modules_of c.args.self.now) (c.args.number, c.args.n)))
          (parts_from c.args.parts.now.items) c.loop-i.parts.items _ c.loop-i.i c.index_mut.result.now
          c.bind_part.new.piece within old c.loop-i.invariant.same is c.bind_part.ensures refl;
      size = length-set c.loop-i.parts.items c.loop-i.i c.bind_part.new.piece ∙ same;
    }

pub returns : goal.returns
returns c =
    parts-all (bound_part (slot_at (modules_of c.args.self.now) (c.args.number, c.args.n))) c.args.parts.now.items c.loop-i.parts.items c.loop-i.i
    (omega (arith, c.loop-i-test.false, c.len-i-end.ensures, c.args.parts.now.ok.0)) c.loop-i.invariant.same
