-- The store grows before the entry is kept, which leaves the records as they were.
use Rattle.std.proofs.Common.{arith, refl, length, ◌≡◌, ◌<◌, ap, ◌∙◌, OnErr, Ok, Err, Some}
use Rattle.std.specs.Prelude.{Result}
use Rattle.xs_tree.specs.Store.{name_at}
use Rattle.xs_tree.specs.declared.trees.Tree.TheInside.{Inside}
use Rattle.xs_tree.specs.declared.entries.Entry.{Entry}
use Rattle.xs_tree.specs.Limits.{most_nodes}
use Rattle.xs_tree.specs.Record.{Record}
use Rattle.xs_tree.specs.Shape.{IsOpen, IsTree}
use Rattle.xs_tree.specs.View.{parent_of, record_of, records}
use Rattle.xs_tree.proofs.AddLemmas.{parents-before, IsKept, records-kept, IsWell-kept}
use Rattle.xs_tree.proofs.EntryLemmas.{records-same, IsWell-same, parent_of-held, length-records}
use Rattle.xs_tree.proofs.ShapeLemmas.{IsTree-added}
use Rattle.xs_tree.proofs.StoreLemmas.{Grows-twice, name-longer}
use Rattle.xs_tree.proofs.trees.Tree.store.Goals as goal
use Rattle.xs_tree.proofs.trees.Tree.store.Goals.{In_ok-node}

on_err : {T E : Type 0} (r : Result T E) (P : Type 0) → P → OnErr r P
on_err (Ok x) P p = tt
on_err (Err x) P p = p

pub invariant_of-self : goal.invariant_of-self
invariant_of-self c =
    let after : Inside = record { nodes = c.self.inside.nodes; store = c.keep_name.new.self } in
    IsWell-same c.self.inside after refl c.keep_name.ensures.grown c.self.invariant

pub returns-in_err-name-clause-refused : goal.returns-in_err-name-clause-refused
returns-in_err-name-clause-refused c =
    let after : Inside = record { nodes = c.self.inside.nodes; store = c.keep_name.new.self } in
    on_err _ _ (records-same c.self.inside after refl c.keep_name.ensures.grown c.self.invariant ∙ c.self.view_is)

pub invariant_of-self-in_err-text : goal.invariant_of-self-in_err-text
invariant_of-self-in_err-text c =
    let after : Inside = record { nodes = c.self.inside.nodes; store = c.keep_text.new.self } in
    IsWell-same c.self.inside after refl (Grows-twice _ _ _ c.keep_name.ensures.grown c.keep_text.ensures.grown) c.self.invariant

pub returns-in_err-text-clause-refused : goal.returns-in_err-text-clause-refused
returns-in_err-text-clause-refused c =
    let after : Inside = record { nodes = c.self.inside.nodes; store = c.keep_text.new.self } in
    on_err _ _ (records-same c.self.inside after refl (Grows-twice _ _ _ c.keep_name.ensures.grown c.keep_text.ensures.grown) c.self.invariant ∙ c.self.view_is)

pub keep-requires-clause-before : goal.keep-requires-clause-before
keep-requires-clause-before c =
    let is_open : IsOpen (records c.self.inside) c.place.result = rw (c.self.view_is, c.place.ensures) c.requires.open in
    parents-before c.self.inside c.place.result c.self.invariant is_open

pub invariant_of-self-in_err-node : goal.invariant_of-self-in_err-node
invariant_of-self-in_err-node c =
    let after : Inside = record { nodes = c.keep.new.nodes; store = c.keep_text.new.self } in
    IsWell-same c.self.inside after c.in_err-node.ensures.refused (Grows-twice _ _ _ c.keep_name.ensures.grown c.keep_text.ensures.grown) c.self.invariant

pub returns-in_err-node-clause-refused : goal.returns-in_err-node-clause-refused
returns-in_err-node-clause-refused c =
    let after : Inside = record { nodes = c.keep.new.nodes; store = c.keep_text.new.self } in
    on_err _ _ (records-same c.self.inside after c.in_err-node.ensures.refused
    (Grows-twice _ _ _ c.keep_name.ensures.grown c.keep_text.ensures.grown) c.self.invariant ∙ c.self.view_is)

abbrev after : In_ok-node → Inside
after c = record { nodes = c.keep.new.nodes; store = c.keep_text.new.self }

abbrev entry : In_ok-node → Entry
entry c = record { text = c.in_ok-text.text; name = c.in_ok-name.name; parent = c.place.result; end = 0; kind = c.args.kind }

abbrev added : In_ok-node → Record
added c = record { kind = c.args.kind; name = c.args.name; text = c.args.text.now; parent = Some c.args.parent }

kept : (c : In_ok-node) → IsKept c.self.inside (after c) (entry c)
kept c =
    record {
      grown = Grows-twice _ _ _ c.keep_name.ensures.grown c.keep_text.ensures.grown;
      stored = record {
        placed = c.in_ok-text.ensures.within;
        named = omega (arith, c.in_ok-name.ensures.numbered, c.keep_text.ensures.grown.names.longer);
      };
      is_last = refl;
      closes = c.in_ok-node.ensures.kept;
      held = parent_of-held _ c.args.kind c.place.result c.requires.held;
      within = rw (c.self.view_is, c.place.ensures) c.requires.within;
      is_open = rw (c.self.view_is, c.place.ensures) c.requires.open;
    }

-- the entry represents the record
entry_is : (c : In_ok-node) → record_of c.keep_text.new.self (entry c) ≡ added c
entry_is c =
    let name_is : name_at c.keep_text.new.self.names c.in_ok-name.name ≡ c.args.name =
    name-longer c.keep_name.new.self.names c.keep_text.new.self.names c.in_ok-name.name c.keep_text.ensures.grown.names c.in_ok-name.ensures.numbered
    ∙ c.in_ok-name.ensures.stored in
    let parent_is : parent_of c.args.kind c.place.result ≡ Some c.args.parent = parent_of-held _ c.args.kind c.place.result c.requires.held
    ∙ ap Some c.place.ensures in
    rw (name_is, parent_is, c.in_ok-text.ensures.stored) refl

pub returns-clause-added : goal.returns-clause-added
returns-clause-added c =
    records-kept c.self.inside (after c) (entry c) c.self.invariant (kept c)
    ∙ rw (c.self.view_is, entry_is c) refl

pub invariant_of-self-2 : goal.invariant_of-self-2
invariant_of-self-2 c =
    let shape : IsTree c.args.self.now = rw (← c.self.view_is) c.self.invariant.shape in
    let room : length c.self.inside.nodes.items < most_nodes = omega (arith, c.requires.room, length-records c.self.inside, ap length c.self.view_is) in
    IsWell-kept c.self.inside (after c) (entry c) c.self.invariant (kept c) room
    (rw (entry_is c, c.self.view_is) (IsTree-added c.args.self.now
    (added c) c.args.parent shape refl c.requires.within c.requires.held c.requires.borne c.requires.open c.requires.order))
    (rw (entry_is c) (record { text = c.utf8.text; name = c.name_is_utf8.ensures }))
