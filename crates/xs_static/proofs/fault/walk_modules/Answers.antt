use Rattle.std.proofs.Common.{◌∙◌, ◌≡◌, [], Option, Some, ap, sym, subst, arith, length, map}
use Rattle.std.specs.Option.{option_map_or}
use Rattle.std.specs.Prelude.{slice_get}
use Rattle.xs_modules.specs.Numbering.{ModuleData}
use Rattle.xs_modules.specs.Results.{module_data}
use Rattle.xs_static.proofs.ModuleLemmas.{all_at, faults_next, faults_none, trees_next, walked_next}
use Rattle.xs_static.specs.steps.Whole.{walked_data}
use Rattle.xs_structure.proofs.PassingLemmas.{get_map}
use Rattle.xs_tree.specs.Shape.{IsTree}
use Rattle.xs_static.proofs.fault.walk_modules.Goals as goal

pub loop-number-init : goal.loop-number-init
loop-number-init c = (
  ap (map walked_data) c.new-all.ensures.items,
  λ m h. absurd (omega (arith, h)),
  faults_none (map module_data c.args.modules.now) c.args.names.now c.args.least.now.fault,
)

pub walk_module-requires : goal.walk_module-requires
walk_module-requires c =
    let ms = map module_data c.args.modules.now in
    let d = module_data c.index-modules-number.result in
    let get : slice_get ms c.loop-number.number ≡ Some d =
    get_map module_data c.args.modules.now c.loop-number.number c.index-modules-number.result (omega (arith, c.loop-number-test.true))
    c.index-modules-number.is in
    record { each = all_at (λ d. length d.lines ≡ length d.records) ms c.loop-number.number d c.requires.lines get }

-- one module more was walked
pub loop-number-preserved : goal.loop-number-preserved
loop-number-preserved c =
    let ms = map module_data c.args.modules.now in
    let n = c.loop-number.number in
    let d = module_data c.index-modules-number.result in
    let get : slice_get ms n ≡ Some d =
    get_map module_data c.args.modules.now n c.index-modules-number.result (omega (arith, c.loop-number-test.true)) c.index-modules-number.is in (
      ap (map walked_data) c.in_ok-push.ensures.items
          ∙ walked_next ms n d c.loop-number.all.items c.in_ok-walked.walked get c.in_ok-walked.ensures.walked c.loop-number.invariant.0,
      trees_next ms n c.loop-number.invariant.1
          (subst IsTree (sym (ap (λ (o : Option ModuleData). option_map_or (λ d. d.records) o []) get)) c.len-count.ensures.tree),
      faults_next ms c.args.names.now n d c.args.least.now.fault c.loop-number.least.fault c.walk_module.new.least.fault get
          c.in_ok-walked.ensures.faults c.loop-number.invariant.2,
    )
