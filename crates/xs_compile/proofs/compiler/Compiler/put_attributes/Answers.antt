use Rattle.std.proofs.Common.{◌∙◌, ◌<◌, ◌+◌, ap, arith, filter, length, subst, sym, take, All, ℕ, List}
use Rattle.std.specs.List.{AllZip}
use Rattle.std.specs.Prelude.{not}
use Rattle.xs_compile.proofs.MakingLemmas.{IsPut, all-put}
use Rattle.xs_compile.proofs.ZipLemmas.{item-of, zip-end, zip-more}
use Rattle.xs_compile.specs.Bodies.{IsPutAttribute}
use Rattle.xs_compile.specs.steps.State.{modules_of, source_of}
use Rattle.xs_elements.specs.Reading.{is_xslt}
use Rattle.xs_structure.specs.Modules.{Place, records_at}
use Rattle.xs_tree.specs.Record.{Record, attributes, uri_at}
use Rattle.xs_compile.proofs.compiler.Compiler.put_attributes.Goals as goal

pub put_attribute-requires-clause-inside : goal.put_attribute-requires-clause-inside
put_attribute-requires-clause-inside c =
    let rs = records_at (modules_of c.args.self.now) c.args.number in
    let items = c.deref-node-items.result.now in
    let all : All (IsPut rs c.args.n) items = subst (λ (xs : List ℕ). All (IsPut rs c.args.n) xs)
    (sym (c.deref-node-items.ensures.value ∙ c.in_ok-nodes.ensures
    ∙ ap (λ (rs : List Record). filter (λ a. not (is_xslt (uri_at rs a))) (attributes rs c.args.n)) c.tree_of.ensures)) (all-put rs c.args.n) in
    (item-of (IsPut rs c.args.n) items c.loop-node.node-index c.node-item.result all (omega arith) c.node-item.is).inside

pub put_attribute-requires-clause-attribute : goal.put_attribute-requires-clause-attribute
put_attribute-requires-clause-attribute c =
    let rs = records_at (modules_of c.args.self.now) c.args.number in
    let items = c.deref-node-items.result.now in
    let all : All (IsPut rs c.args.n) items = subst (λ (xs : List ℕ). All (IsPut rs c.args.n) xs)
    (sym (c.deref-node-items.ensures.value ∙ c.in_ok-nodes.ensures
    ∙ ap (λ (rs : List Record). filter (λ a. not (is_xslt (uri_at rs a))) (attributes rs c.args.n)) c.tree_of.ensures)) (all-put rs c.args.n) in
    (item-of (IsPut rs c.args.n) items c.loop-node.node-index c.node-item.result all (omega arith) c.node-item.is).owned

pub put_attribute-requires-clause-put : goal.put_attribute-requires-clause-put
put_attribute-requires-clause-put c =
    let rs = records_at (modules_of c.args.self.now) c.args.number in
    let items = c.deref-node-items.result.now in
    let all : All (IsPut rs c.args.n) items = subst (λ (xs : List ℕ). All (IsPut rs c.args.n) xs)
    (sym (c.deref-node-items.ensures.value ∙ c.in_ok-nodes.ensures
    ∙ ap (λ (rs : List Record). filter (λ a. not (is_xslt (uri_at rs a))) (attributes rs c.args.n)) c.tree_of.ensures)) (all-put rs c.args.n) in
    (item-of (IsPut rs c.args.n) items c.loop-node.node-index c.node-item.result all (omega arith) c.node-item.is).other

pub loop-node-preserved : goal.loop-node-preserved
loop-node-preserved c =
    let p : Place = (c.args.number, c.args.n) in
    let s = source_of c.args.self.now in
    let i = c.loop-node.node-index in
    let items = c.deref-node-items.result.now in
    let lt : i < length items = omega arith in
    subst (AllZip (IsPutAttribute s p) (take (i + 1) items)) (sym c.in_ok-push.ensures.items)
    (zip-more (IsPutAttribute s p) items c.loop-node.put.items i c.node-item.result c.in_ok-attribute.attribute lt c.node-item.is c.loop-node.invariant
    c.in_ok-attribute.ensures)

pub returns : goal.returns
returns c =
    let p : Place = (c.args.number, c.args.n) in
    let s = source_of c.args.self.now in
    let items = c.deref-node-items.result.now in
    subst (λ (xs : List ℕ). AllZip (IsPutAttribute s p) xs c.loop-node.put.items)
    (c.deref-node-items.ensures.value ∙ c.in_ok-nodes.ensures
    ∙ ap (λ (rs : List Record). filter (λ a. not (is_xslt (uri_at rs a))) (attributes rs c.args.n)) c.tree_of.ensures)
    (zip-end (IsPutAttribute s p) items c.loop-node.put.items c.loop-node.node-index (omega arith) c.loop-node.invariant)
