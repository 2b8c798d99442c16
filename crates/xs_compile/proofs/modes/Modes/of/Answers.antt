use Rattle.std.proofs.Common.{◌≡◌, ◌∙◌, ◌+◌, ◌<◌, ◌≤◌, ap, sym, subst, arith, drop, length, map, List, ◌∷◌, ℕ, Option, inl, inr, []}
use Rattle.std.proofs.lemmas.List.{drop_all, length-map}
use Rattle.std.specs.List.{flat_map}
use Rattle.std.specs.Option.{option_map_or}
use Rattle.xs_compile.proofs.ModeLemmas.{drop_mapped, with_modes_append}
use Rattle.xs_structure.proofs.PassingLemmas.{get_map}
use Rattle.xs_compile.specs.Modes.{HasModes, modes_in, tree_modes, with_modes}
use Rattle.xs_elements.specs.Nodes.{Name}
use Rattle.xs_modules.specs.declared.modules.Module.{Module}
use Rattle.xs_modules.specs.Numbering.{ModuleData}
use Rattle.xs_modules.specs.Results.{module_data, modules_data}
use Rattle.xs_structure.specs.Modules.{records_at}
use Rattle.xs_tree.proofs.WalkLemmas.{le_or_gt}
use Rattle.xs_tree.specs.Record.{Record}
use Rattle.xs_compile.proofs.modes.Modes.of.Goals as goal

-- the modes of the next module are noted, and those of the modules before it are kept
pub loop-module-preserved : goal.loop-module-preserved
loop-module-preserved c =
    let ms = modules_data c.args.modules.now in
    let i = c.loop-module.module-index in
    let new = c.note_module.new.self in
    let items = c.deref-module-items.result.now in
    let lt : i < length items = omega (arith, c.loop-module-test.true) in
    let records : c.module-item.result.tree ≡ records_at ms i =
    sym (ap (λ (o : Option ModuleData). option_map_or (λ d. d.records) o []) (get_map module_data items i c.module-item.result lt c.module-item.is))
    ∙ ap (λ (xs : List Module). records_at (map module_data xs) i) c.deref-module-items.ensures.value in
    let here : HasModes (records_at ms i) (length (records_at ms i)) new =
    subst (λ (rs : List Record). HasModes rs (length rs) new) records c.in_ok-note_module.ensures.modes in
    let F : ModuleData → List (Option Name) = λ d. tree_modes d.records in
    let same : map module_data items ≡ ms = ap (map module_data) c.deref-module-items.ensures.value in
    let item = c.module-item.result in
    let rest : drop i ms ≡ module_data item ∷ drop (i + 1) ms =
    sym (ap (drop i) same) ∙ drop_mapped module_data items i item lt c.module-item.is
    ∙ ap (λ (ds : List ModuleData). module_data item ∷ drop (i + 1) ds) same in
    let old = modes_in c.loop-module.modes in
    record {
      modes = λ k lt. elim (le_or_gt i k) [
        | inl past ↦ (let same : i ≡ k = omega (arith, past, lt) in subst (λ (m : ℕ). HasModes (records_at ms m) (length (records_at ms m)) new) same here)
        | inr before ↦ c.in_ok-note_module.ensures.kept (records_at ms k) (length (records_at ms k)) (c.loop-module.invariant.modes k before)
      ];
      order = ap (λ (names : List Name). with_modes names (flat_map F (drop (i + 1) ms))) c.in_ok-note_module.ensures.order
          ∙ sym (with_modes_append old (tree_modes item.tree) (flat_map F (drop (i + 1) ms)))
          ∙ ap (λ (ds : List ModuleData). with_modes old (flat_map F ds)) (sym rest) ∙ c.loop-module.invariant.order;
    }

-- no module is left
pub returns-clause-order : goal.returns-clause-order
returns-clause-order c =
    let ms = modules_data c.args.modules.now in
    let i = c.loop-module.module-index in
    let F : ModuleData → List (Option Name) = λ d. tree_modes d.records in
    let past : length ms ≤ i =
    omega (arith, c.loop-module-test.false, length-map c.args.modules.now.list.items module_data, ap length c.deref-module-items.ensures.value) in
    ap (λ (ds : List ModuleData). with_modes (modes_in c.loop-module.modes) (flat_map F ds)) (sym (drop_all i ms past)) ∙ c.loop-module.invariant.order
