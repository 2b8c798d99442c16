use Rattle.std.proofs.Common.{◌≡◌, ◌∙◌, ◌++◌, List, map, ap, subst, sym, OnOk}
use Rattle.std.proofs.lemmas.List.{append-nil}
use Rattle.xs_elements.specs.Nodes.{Name, name_data}
use Rattle.xs_static.proofs.SetLemmas.{seen-yes, seen-no}
use Rattle.xs_static.proofs.sets.push_seen_sets.Goals as goal

pub returns-then-is_seen : goal.returns-then-is_seen
returns-then-is_seen c =
    let added : List Name → Type 0 = λ xs. map name_data c.push_named_sets.new.out.items ≡ map name_data c.args.out.now.items ++ xs in
    let P : List Name → Type 0 = λ xs. OnOk c.push_named_sets.result (added xs) in
    subst P (seen-yes c.args.tree.now c.args.n (sym c.if-is_seen.ensures)) c.push_named_sets.ensures

pub returns : goal.returns
returns c =
    sym (ap (λ xs. map name_data c.args.out.now.items ++ xs) (seen-no c.args.tree.now c.args.n (sym c.if-is_seen.ensures))
    ∙ append-nil (map name_data c.args.out.now.items))
