-- The store grows by a text before the entry is kept, and the new entry has the name of the other one.
use Rattle.std.proofs.Common.{arith, refl, length, subst, sym, ◌≡◌, ◌<◌, ap, ◌∙◌, OnErr, Ok, Err, Some}
use Rattle.std.proofs.lemmas.Option.{slice_get_read}
use Rattle.std.specs.Prelude.{Result}
use Rattle.xs_tree.specs.Store.{name_at}
use Rattle.xs_tree.specs.declared.trees.Tree.TheInside.{Inside}
use Rattle.xs_tree.specs.declared.entries.Entry.{Entry}
use Rattle.xs_tree.specs.Limits.{most_nodes}
use Rattle.xs_tree.specs.Record.{Record, root_record, at}
use Rattle.xs_tree.specs.Shape.{IsOpen, IsTree}
use Rattle.xs_tree.specs.Utf8.{AreUtf8, IsUtf8Record}
use Rattle.xs_tree.specs.View.{parent_of, record_of, records, IsStored}
use Rattle.xs_tree.proofs.AddLemmas.{parents-before, IsKept, records-kept, IsWell-kept}
use Rattle.xs_tree.proofs.EndLemmas.{record_at}
use Rattle.xs_tree.proofs.EntryLemmas.{records-same, IsWell-same, parent_of-held, length-records}
use Rattle.xs_tree.proofs.ShapeLemmas.{IsTree-added}
use Rattle.xs_tree.proofs.StoreLemmas.{name-longer}
use Rattle.xs_tree.proofs.trees.Tree.store_like.Goals as goal
use Rattle.xs_tree.proofs.trees.Tree.store_like.Goals.{In_ok-node}

on_err : {T E : Type 0} (r : Result T E) (P : Type 0) → P → OnErr r P
on_err (Ok x) P p = tt
on_err (Err x) P p = p

pub invariant_of-self : goal.invariant_of-self
invariant_of-self c =
    let after : Inside = record { nodes = c.self.inside.nodes; store = c.keep_text.new.self } in
    IsWell-same c.self.inside after refl c.keep_text.ensures.grown c.self.invariant

pub returns-in_err-text-clause-refused : goal.returns-in_err-text-clause-refused
returns-in_err-text-clause-refused c =
    let after : Inside = record { nodes = c.self.inside.nodes; store = c.keep_text.new.self } in
    on_err _ _ (records-same c.self.inside after refl c.keep_text.ensures.grown c.self.invariant ∙ c.self.view_is)

pub keep-requires-clause-before : goal.keep-requires-clause-before
keep-requires-clause-before c =
    let is_open : IsOpen (records c.self.inside) c.place-2.result = rw (c.self.view_is, c.place-2.ensures) c.requires.open in
    parents-before c.self.inside c.place-2.result c.self.invariant is_open

pub invariant_of-self-in_err-node : goal.invariant_of-self-in_err-node
invariant_of-self-in_err-node c =
    let after : Inside = record { nodes = c.keep.new.nodes; store = c.keep_text.new.self } in
    IsWell-same c.self.inside after c.in_err-node.ensures.refused c.keep_text.ensures.grown c.self.invariant

pub returns-in_err-node-clause-refused : goal.returns-in_err-node-clause-refused
returns-in_err-node-clause-refused c =
    let after : Inside = record { nodes = c.keep.new.nodes; store = c.keep_text.new.self } in
    on_err _ _ (records-same c.self.inside after c.in_err-node.ensures.refused c.keep_text.ensures.grown c.self.invariant ∙ c.self.view_is)

abbrev after : In_ok-node → Inside
after c = record { nodes = c.keep.new.nodes; store = c.keep_text.new.self }

abbrev entry : In_ok-node → Entry
entry c = record { text = c.in_ok-text.text; name = c.index.result.now.name; parent = c.place-2.result; end = 0; kind = c.args.kind }

abbrev added : In_ok-node → Record
added c = record { kind = c.args.kind; name = (at c.args.self.now c.args.like).name; text = c.args.text.now; parent = Some c.args.parent }

-- the node whose name it has
within : (c : In_ok-node) → c.place.result < length c.self.inside.nodes.items
within c = omega (arith, c.requires.found, c.place.ensures, length-records c.self.inside, ap length c.self.view_is)

like_is : (c : In_ok-node) → at c.args.self.now c.args.like ≡ record_of c.self.inside.store c.index.result.now
like_is c =
    rw (← c.place.ensures)
    (record_at c.self.inside.store c.self.inside.nodes.items c.args.self.now c.place.result c.index.result.now c.self.view_is
    (slice_get_read c.self.inside.nodes.items _ c.place.result c.index.result.now refl (within c) c.index.ensures))

like_stored : (c : In_ok-node) → IsStored c.self.inside.store c.index.result.now
like_stored c =
    subst (λ e. IsStored c.self.inside.store e) (sym c.index.ensures) (c.self.invariant.stored c.place.result c.index.result.now (within c))

like_utf8 : (c : In_ok-node) → IsUtf8Record (at c.args.self.now c.args.like)
like_utf8 c =
    let all : AreUtf8 c.args.self.now = rw (← c.self.view_is) c.self.invariant.utf8 in
    all c.args.like root_record c.requires.found

kept : (c : In_ok-node) → IsKept c.self.inside (after c) (entry c)
kept c =
    record {
      grown = c.keep_text.ensures.grown;
      stored = record {
        placed = c.in_ok-text.ensures.within;
        named = omega (arith, (like_stored c).named, c.keep_text.ensures.grown.names.longer);
      };
      is_last = refl;
      closes = c.in_ok-node.ensures.kept;
      held = parent_of-held _ c.args.kind c.place-2.result c.requires.held;
      within = rw (c.self.view_is, c.place-2.ensures) c.requires.within;
      is_open = rw (c.self.view_is, c.place-2.ensures) c.requires.open;
    }

-- the entry represents the record
entry_is : (c : In_ok-node) → record_of c.keep_text.new.self (entry c) ≡ added c
entry_is c =
    let name_is : name_at c.keep_text.new.self.names c.index.result.now.name ≡ (at c.args.self.now c.args.like).name =
    name-longer c.self.inside.store.names c.keep_text.new.self.names c.index.result.now.name c.keep_text.ensures.grown.names (like_stored c).named
    ∙ sym (ap (λ r. r.name) (like_is c)) in
    let parent_is : parent_of c.args.kind c.place-2.result ≡ Some c.args.parent = parent_of-held _ c.args.kind c.place-2.result c.requires.held
    ∙ ap Some c.place-2.ensures in
    rw (name_is, parent_is, c.in_ok-text.ensures.stored) refl

pub returns-clause-added : goal.returns-clause-added
returns-clause-added c =
    records-kept c.self.inside (after c) (entry c) c.self.invariant (kept c)
    ∙ rw (c.self.view_is, entry_is c) refl

pub invariant_of-self-2 : goal.invariant_of-self-2
invariant_of-self-2 c =
    let shape : IsTree c.args.self.now = rw (← c.self.view_is) c.self.invariant.shape in
    let room : length c.self.inside.nodes.items < most_nodes = omega (arith, c.requires.room, length-records c.self.inside, ap length c.self.view_is) in
    IsWell-kept c.self.inside (after c) (entry c) c.self.invariant (kept c) room
    (rw (entry_is c, c.self.view_is) (IsTree-added c.args.self.now
    (added c) c.args.parent shape refl c.requires.within c.requires.held c.requires.borne c.requires.open c.requires.order))
    (rw (entry_is c) (record { text = c.utf8.text; name = (like_utf8 c).name }))
