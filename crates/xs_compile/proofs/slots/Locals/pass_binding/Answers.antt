use Rattle.std.proofs.Common.{◌∙◌, ◌==◌, ap, sym, Some}
use Rattle.std.specs.Prelude.{◌&&◌, if◌then◌else◌}
use Rattle.xs_compile.proofs.LocalLemmas.{locals-kept, locals-more, not-child, not-named}
use Rattle.xs_elements.specs.Nodes.{is_same_name, name_data}
use Rattle.xs_compile.specs.declared.slots.Local.{Local as LocalEntry}
use Rattle.xs_compile.specs.Locals.{entry_in}
use Rattle.xs_compile.proofs.slots.Locals.pass_binding.Goals as goal

pub returns-in_ok-enter-in-Some-own_name : goal.returns-in_ok-enter-in-Some-own_name
returns-in_ok-enter-in-Some-own_name c =
    let rs = c.args.tree.now in
    let p = c.in-Some.parent in
    let name = name_data c.in-Some-own_name.name in
    let entry : LocalEntry = record { «from» = c.subtree_end-from.result; slot = c.args.visible } in
    let old = c.args.self.now in
    let new = c.enter.new.self in
    locals-more rs c.args.n p name entry old new c.requires.local (sym c.in-Some.ensures.parent) (sym c.in-Some-own_name.ensures) c.subtree_end-from.ensures.end
    c.requires.visible
    (λ q uri local. c.in_ok-enter-in-Some-own_name.ensures q uri local
    ∙ ap (λ k. if k == q && is_same_name (uri, local) name then Some entry else entry_in old q uri local) c.place.ensures) c.requires.locals

pub returns-in-None-own_name : goal.returns-in-None-own_name
returns-in-None-own_name c =
    locals-kept c.args.tree.now c.args.n c.args.self.now (not-named c.args.tree.now c.args.n (sym c.in-None-own_name.ensures)) c.requires.locals

pub returns-in-None : goal.returns-in-None
returns-in-None c =
    locals-kept c.args.tree.now c.args.n c.args.self.now (not-child c.args.tree.now c.args.n (sym c.in-None.ensures.parent)) c.requires.locals
