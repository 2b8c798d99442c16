use Rattle.std.proofs.Common.{◌≡◌, ◌++◌, take}
use Rattle.std.specs.List.{flat_map}
use Rattle.xs_keys.specs.Keys.{faults_at, first_of}
use Rattle.xs_keys.specs.steps.Pairs.{decls_in, either, pairs_at, pairs_in}
use Rattle.xs_keys.proofs.pairs.Gathered.add_node.Given as goal

-- what the declarations that were passed give
abbrev pub invariant-loop-place : goal.invariant-loop-place
invariant-loop-place l = record {
  pairs : pairs_in l.self.pairs.items ≡ pairs_in l.fn.self.pairs.items ++ flat_map (pairs_at l.tree l.node) (take l.place (decls_in l.members));
  fault : l.self.fault ≡ either l.fn.self.fault (first_of (flat_map (faults_at l.tree l.node) (take l.place (decls_in l.members))));
}
