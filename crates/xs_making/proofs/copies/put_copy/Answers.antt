use Rattle.std.proofs.Common.{◌≡◌, ◌++◌, OnOk, subst, sym}
use Rattle.xs_making.specs.Copies.{copy_of, deep_copy, shallow_copy}
use Rattle.xs_making.proofs.PutLemmas.{listed-puts}
use Rattle.xs_making.proofs.copies.put_copy.Goals as goal

pub returns-then-deep : goal.returns-then-deep
returns-then-deep c =
    let xs = c.args.list.now.events.items in
    let ys = c.put_deep_copy.new.recorder.events.items in
    record {
      listed =
          subst (λ b. OnOk c.put_deep_copy.result (ys ≡ xs ++ copy_of b c.args.tree.now c.args.node)) (sym c.if-deep.true)
          (listed-puts _ _ (deep_copy c.args.tree.now c.args.node) xs ys c.put_deep_copy.result c.put_deep_copy.ensures.reported);
    }

pub returns-else-deep : goal.returns-else-deep
returns-else-deep c =
    let xs = c.args.list.now.events.items in
    let ys = c.put_shallow_copy.new.recorder.events.items in
    record {
      listed =
          subst (λ b. OnOk c.put_shallow_copy.result (ys ≡ xs ++ copy_of b c.args.tree.now c.args.node)) (sym c.if-deep.false)
          (listed-puts _ _ (shallow_copy c.args.tree.now c.args.node) xs ys c.put_shallow_copy.result c.put_shallow_copy.ensures.reported);
    }
