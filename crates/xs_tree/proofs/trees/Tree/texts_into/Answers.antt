-- The walk appends the own text of each node of the subtree.
use Rattle.std.proofs.Common.{arith, ◌≡◌, ◌<◌, ◌++◌, ◌∙◌, sym, length, false, Ok, Err, OnOk}
use Rattle.std.specs.Prelude.{Result, is_err}
use Rattle.xs_tree.specs.Record.{at, own_text}
use Rattle.xs_tree.proofs.WalkLemmas.{texts-over, texts-step, appended-start, appended-end, appended-step}
use Rattle.xs_tree.proofs.trees.Tree.texts_into.Goals as goal

on_ok : {T E : Type 0} (r : Result T E) (P : Type 0) → is_err r ≡ false → OnOk r P → P
on_ok (Ok x) P e p = p
on_ok (Err x) P e p = cc

pub loop-place-init : goal.loop-place-init
loop-place-init c = rw c.place-place.ensures (appended-start c.args.self.now c.args.n c.args.out.now.items)

pub loop-place-preserved : goal.loop-place-preserved
loop-place-preserved c =
    let within : c.loop-place.place < length c.args.self.now = omega (arith, c.loop-place-test.true, c.subtree_end-end.ensures.end.within) in
    let after : c.args.n < c.loop-place.place = omega (arith, c.loop-place.auto.place, c.place-place.ensures) in
    let appended : c.own_text_into.new.out.items ≡ c.loop-place.out.items ++ own_text (at c.args.self.now c.loop-place.place) =
    rw (← c.at.ensures) (on_ok c.own_text_into.result _ (sym c.is_err.ensures.value ∙ c.if-is_err.false) c.own_text_into.ensures.appended) in
    appended-step c.args.self.now c.args.n _ _ _ _ c.loop-place.place c.loop-place.invariant appended
    (texts-step c.args.self.now c.args.n c.loop-place.place c.subtree_end-end.ensures.tree after within
    (λ j a b. c.subtree_end-end.ensures.end.inside j a (omega (arith, b, c.loop-place-test.true))))

pub returns-clause-appended : goal.returns-clause-appended
returns-clause-appended c =
    let at_end : c.loop-place.place ≡ c.subtree_end-end.result =
    omega (arith, c.loop-place-test.false, c.loop-place.auto.place-end, c.place-place.ensures, c.subtree_end-end.ensures.end.after) in
    appended-end c.args.self.now c.args.n c.args.out.now.items c.loop-place.out.items c.loop-place.place c.loop-place.invariant
    (rw at_end (texts-over c.args.self.now c.args.n c.subtree_end-end.result c.subtree_end-end.ensures.tree c.subtree_end-end.ensures.end))
