use Rattle.std.proofs.Common.{◌<◌, ◌≤◌, All, arith, get_or, length, subst, sym, take, [], ◌∷◌}
use Rattle.std.proofs.lemmas.List.{take_all, take_more}
use Rattle.std.proofs.lemmas.List.Elements.{All-append, All-cons, All-map, All-nil}
use Rattle.xs_modules.specs.declared.modules.Module.{Module}
use Rattle.xs_modules.specs.Numbering.{ModuleData}
use Rattle.xs_modules.specs.Results.{module_data}
use Rattle.xs_tree.specs.Shape.{IsTree}
use Rattle.xs_engine.proofs.answer.modules_are_trees.Goals as goal

pub loop-number-preserved : goal.loop-number-preserved
loop-number-preserved c =
    let P : Module → Type 0 = λ m. IsTree m.tree in
    let list = c.args.modules.now.list.items in
    let i = c.loop-number.number in
    let lt : i < length list = omega (arith, c.loop-number-test.true, c.len-number-end.ensures) in
    let own : P c.index.result.now = c.len-count.ensures.tree in
    subst (All P) (sym (take_more list i c.index.result.now lt))
    (All-append P (take i list) (get_or list i c.index.result.now ∷ []) c.loop-number.invariant
    (All-cons P (get_or list i c.index.result.now) [] (subst P c.index.ensures own) (All-nil P)))

-- all were passed
pub returns : goal.returns
returns c =
    let P : Module → Type 0 = λ m. IsTree m.tree in
    let list = c.args.modules.now.list.items in
    let past : length list ≤ c.loop-number.number = omega (arith, c.loop-number-test.false, c.len-number-end.ensures) in
    All-map (λ (d : ModuleData). IsTree d.records) module_data list (subst (All P) (take_all c.loop-number.number list past) c.loop-number.invariant)
