use Rattle.std.proofs.Common.{◌≡◌, ◌∙◌, List, Option, None, Some, ap, refl, subst, sym}
use Rattle.std.specs.Prelude.{option_map, IfOk}
use Rattle.xs_compile.specs.Labels.{IsMode, mode_at}
use Rattle.xs_compile.specs.Modes.{has_mode, modes_in, modes_of, tree_mode}
use Rattle.xs_compile.specs.steps.State.{modules_of}
use Rattle.xs_elements.specs.Nodes.{Name, name_data}
use Rattle.xs_structure.specs.Modules.{records_at}
use Rattle.xs_tree.specs.Record.{Record}
use Rattle.xs_compile.proofs.compiler.Compiler.mode.Goals as goal

pub number-requires : goal.number-requires
number-requires c =
    let compiler = c.args.self.now in
    let ready = c.requires.ready in
    let reported : Some (name_data c.in-Some.name) ≡ tree_mode (records_at (modules_of compiler) c.args.number) c.args.n =
    ap (option_map name_data) (sym c.in-Some.is) ∙ c.mode_at.ensures ∙ ap (λ (rs : List Record). tree_mode rs c.args.n) c.tree_of.ensures in
    ap (has_mode compiler.modes) reported ∙ ready.state.modes c.args.number ready.within.«module» c.args.n ready.within.node

pub returns-in-Some : goal.returns-in-Some
returns-in-Some c =
    let compiler = c.args.self.now in
    let ready = c.requires.ready in
    let reported : Some (name_data c.in-Some.name) ≡ mode_at (modules_of compiler) (c.args.number, c.args.n) =
    ap (option_map name_data) (sym c.in-Some.is) ∙ c.mode_at.ensures ∙ ap (λ (rs : List Record). tree_mode rs c.args.n) c.tree_of.ensures in
    subst (λ (names : List Name). IfOk c.number.result (IsMode names (mode_at (modules_of compiler) (c.args.number, c.args.n)))) ready.state.order
    (subst (λ (o : Option Name). IfOk c.number.result (IsMode (modes_in compiler.modes) o)) reported c.number.ensures)

pub returns-in-None : goal.returns-in-None
returns-in-None c =
    let compiler = c.args.self.now in
    let reported : None ≡ mode_at (modules_of compiler) (c.args.number, c.args.n) =
    ap (option_map name_data) (sym c.in-None.is) ∙ c.mode_at.ensures ∙ ap (λ (rs : List Record). tree_mode rs c.args.n) c.tree_of.ensures in
    subst (λ (o : Option Name). IsMode (modes_of (modules_of compiler)) o 0) reported refl
