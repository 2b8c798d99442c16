use Rattle.std.proofs.Common.{◌∙◌, List, rules, subst, sym}
use Rattle.std.proofs.lemmas.List.Sorted.{IsPartitionPoint-from_clause}
use Rattle.xs_core.specs.declared.piece.PieceFacts.{PieceFacts}
use Rattle.xs_core.specs.steps.Table.{IsPoint, IsSorted, is_below}
use Rattle.xs_core.proofs.TableLemmas.{parted}
use Rattle.xs_core.proofs.facts.Table.point.Goals as goal

pub returns : goal.returns
returns c =
    let xs : List PieceFacts = c.as_slice-pieces.result.now in
    let up : IsSorted xs = subst (λ (ys : List PieceFacts). IsSorted ys) (sym c.as_slice-pieces.ensures.value) c.self.invariant in
    record {
      point = subst (λ (ys : List PieceFacts). IsPoint ys c.args.place.now c.partition_point.result) (c.as_slice-pieces.ensures.value ∙ c.self.view_is)
          (IsPartitionPoint-from_clause (λ y. is_below y.place c.args.place.now) xs c.partition_point.result c.partition_point.ensures.partitioned
          (parted xs c.args.place.now up) (λ a r q k. search rules));
    }
