use Rattle.std.proofs.Common.{◌∙◌, ◌++◌, ◌∷◌, [], ap, sym, ℕ, List, Bool}
use Rattle.std.specs.Prelude.{if◌then◌else◌}
use Rattle.xs_compile.proofs.MakingLemmas.{space-left-out}
use Rattle.xs_compile.proofs.StateLemmas.{tree-at}
use Rattle.xs_structure.specs.declared.standing.Standing.{Standing}
use Rattle.xs_compile.specs.steps.State.{modules_of}
use Rattle.xs_elements.specs.Nodes.{pair_at}
use Rattle.xs_structure.specs.Modules.{records_at}
use Rattle.xs_compile.proofs.compiler.Compiler.push_space.Goals as goal

pub returns-then-standing : goal.returns-then-standing
returns-then-standing c =
    let ms = modules_of c.args.self.now in
    let rs = records_at ms c.args.number in
    let ready = c.requires.ready in
    let tree = tree-at ms c.args.self.now.locals.items ready.state.locals c.args.number ready.within.«module» in
    let old = c.args.spaces.now.items in
    sym (ap (λ (b : Bool). if b then old else old ++ pair_at rs c.args.space ∷ [])
    (sym (space-left-out rs tree c.args.n c.args.space c.requires.inside c.requires.space)
    ∙ sym (ap (λ (s : Standing). s.is_left_out) c.standing.ensures) ∙ c.if-standing.true))

pub returns : goal.returns
returns c =
    let ms = modules_of c.args.self.now in
    let rs = records_at ms c.args.number in
    let ready = c.requires.ready in
    let tree = tree-at ms c.args.self.now.locals.items ready.state.locals c.args.number ready.within.«module» in
    let old = c.args.spaces.now.items in
    c.in_ok-push.ensures.items ∙ ap (λ (x : List ℕ × List ℕ). old ++ x ∷ []) (c.in_ok-pair.ensures ∙ c.requires.pair)
    ∙ sym (ap (λ (b : Bool). if b then old else old ++ pair_at rs c.args.space ∷ [])
    (sym (space-left-out rs tree c.args.n c.args.space c.requires.inside c.requires.space)
    ∙ sym (ap (λ (s : Standing). s.is_left_out) c.standing.ensures) ∙ c.if-standing.false))
