use Rattle.std.proofs.Common.{◌≡◌, ◌∙◌, ◌++◌, ◌∷◌, [], ◌+◌, arith, ap, sym, take}
use Rattle.std.specs.List.{flat_map}
use Rattle.xs_keys.specs.Keys.{faults_at, first_of}
use Rattle.xs_keys.specs.steps.Pairs.{decls_in, either, pairs_at, pairs_in}
use Rattle.xs_keys.proofs.MatchTableLemmas.{table-at}
use Rattle.xs_keys.proofs.RunLemmas.{decl-fault, decl-pairs, decls-next}
use Rattle.xs_keys.proofs.pairs.Gathered.add_node.Goals as goal

pub loop-place-preserved : goal.loop-place-preserved
loop-place-preserved c =
    let rs = c.args.tree.now in
    let n = c.args.node in
    let l = c.loop-place in
    let members = c.args.members.now in
    let d = c.index-members-place.result in
    let next : take (l.place + 1) (decls_in members) ≡ take l.place (decls_in members) ++ d.now ∷ [] =
    decls-next members l.place d (omega arith) (sym c.index-members-place.is) in
    record {
      pairs =
          decl-pairs rs n d.now (pairs_in c.args.self.now.pairs.items) (pairs_in l.self.pairs.items) (pairs_in c.add_use.new.self.pairs.items)
          (take l.place (decls_in members)) l.invariant.pairs c.in_ok-add_use.ensures.pairs
          ∙ ap (λ ds. pairs_in c.args.self.now.pairs.items ++ flat_map (pairs_at rs n) ds) (sym next);
      fault =
          decl-fault rs n d.now c.args.self.now.fault l.self.fault c.add_use.new.self.fault (take l.place (decls_in members)) l.invariant.fault
          c.in_ok-add_use.ensures.fault
          ∙ ap (λ ds. either c.args.self.now.fault (first_of (flat_map (faults_at rs n) ds))) (sym next);
    }

pub add_use-requires-clause-table : goal.add_use-requires-clause-table
add_use-requires-clause-table c =
    table-at c.args.tree.now c.args.members.now c.args.tables.now c.loop-place.place c.index-members-place.result c.index-tables-place.result
    c.requires.tables (omega arith) (sym c.index-members-place.is) (sym c.index-tables-place.is)
