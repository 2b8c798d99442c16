-- The new entry names what the other one names.
use Rattle.std.proofs.Common.{arith, refl, subst, length, ◌≡◌, ◌<◌, ap, sym, ◌∙◌, Some}
use Rattle.std.proofs.lemmas.Option.{slice_get_read}
use Rattle.xs_tree.specs.declared.kinds.Kind.TheVariants.{Space}
use Rattle.xs_tree.specs.declared.trees.Tree.TheInside.{Inside}
use Rattle.xs_tree.specs.declared.entries.Entry.{Entry}
use Rattle.xs_tree.specs.Limits.{most_nodes}
use Rattle.xs_tree.specs.Record.{Record, root_record, at}
use Rattle.xs_tree.specs.Shape.{IsOpen, IsTree}
use Rattle.xs_tree.specs.Utf8.{AreUtf8, IsUtf8Record}
use Rattle.xs_tree.specs.View.{record_of, records, IsStored}
use Rattle.xs_tree.proofs.AddLemmas.{parents-before, IsKept, records-kept, IsWell-kept, CanBear-same}
use Rattle.xs_tree.proofs.EndLemmas.{record_at}
use Rattle.xs_tree.proofs.EntryLemmas.{IsWell-same, length-records}
use Rattle.xs_tree.proofs.ShapeLemmas.{IsTree-added}
use Rattle.xs_tree.proofs.StoreLemmas.{Grows-same}
use Rattle.xs_tree.proofs.trees.Tree.store_same.Goals as goal
use Rattle.xs_tree.proofs.trees.Tree.store_same.Goals.{In_ok-node}

pub keep-requires-clause-before : goal.keep-requires-clause-before
keep-requires-clause-before c =
    let is_open : IsOpen (records c.self.inside) c.place.result = rw (c.self.view_is, c.place.ensures) c.requires.open in
    parents-before c.self.inside c.place.result c.self.invariant is_open

pub invariant_of-self : goal.invariant_of-self
invariant_of-self c =
    let after : Inside = record { nodes = c.keep.new.nodes; store = c.self.inside.store } in
    IsWell-same c.self.inside after c.in_err-node.ensures.refused (Grows-same c.self.inside.store) c.self.invariant

abbrev after : In_ok-node → Inside
after c = record { nodes = c.keep.new.nodes; store = c.self.inside.store }

abbrev entry : In_ok-node → Entry
entry c = record c.index.result.now { parent = c.place.result; end = 0 }

abbrev added : In_ok-node → Record
added c = record { kind = Space; name = (at c.args.self.now c.args.like).name; text = (at c.args.self.now c.args.like).text; parent = Some c.args.parent }

-- the node that it is like
within : (c : In_ok-node) → c.place-2.result < length c.self.inside.nodes.items
within c = omega (arith, c.requires.found, c.place-2.ensures, length-records c.self.inside, ap length c.self.view_is)

like_is : (c : In_ok-node) → at c.args.self.now c.args.like ≡ record_of c.self.inside.store c.index.result.now
like_is c =
    rw (← c.place-2.ensures)
    (record_at c.self.inside.store c.self.inside.nodes.items c.args.self.now c.place-2.result c.index.result.now c.self.view_is
    (slice_get_read c.self.inside.nodes.items _ c.place-2.result c.index.result.now refl (within c) c.index.ensures))

kind_is : (c : In_ok-node) → c.index.result.now.kind ≡ Space
kind_is c = sym (ap (λ r. r.kind) (like_is c)) ∙ c.requires.space

like_stored : (c : In_ok-node) → IsStored c.self.inside.store c.index.result.now
like_stored c =
    subst (λ e. IsStored c.self.inside.store e) (sym c.index.ensures) (c.self.invariant.stored c.place-2.result c.index.result.now (within c))

kept : (c : In_ok-node) → IsKept c.self.inside (after c) (entry c)
kept c =
    let old : IsStored c.self.inside.store c.index.result.now = like_stored c in
    record {
      grown = Grows-same c.self.inside.store;
      stored = record { placed = old.placed; named = old.named };
      is_last = refl;
      closes = c.in_ok-node.ensures.kept;
      held = rw (kind_is c) refl;
      within = rw (c.self.view_is, c.place.ensures) c.requires.within;
      is_open = rw (c.self.view_is, c.place.ensures) c.requires.open;
    }

like_utf8 : (c : In_ok-node) → IsUtf8Record (at c.args.self.now c.args.like)
like_utf8 c =
    let all : AreUtf8 c.args.self.now = rw (← c.self.view_is) c.self.invariant.utf8 in
    all c.args.like root_record c.requires.found

-- the entry represents the record
entry_is : (c : In_ok-node) → record_of c.self.inside.store (entry c) ≡ added c
entry_is c = rw (like_is c, kind_is c, c.place.ensures) refl

pub returns-clause-added : goal.returns-clause-added
returns-clause-added c =
    records-kept c.self.inside (after c) (entry c) c.self.invariant (kept c)
    ∙ rw (c.self.view_is, entry_is c) refl

pub invariant_of-self-2 : goal.invariant_of-self-2
invariant_of-self-2 c =
    let shape : IsTree c.args.self.now = rw (← c.self.view_is) c.self.invariant.shape in
    let room : length c.self.inside.nodes.items < most_nodes = omega (arith, c.requires.room, length-records c.self.inside, ap length c.self.view_is) in
    IsWell-kept c.self.inside (after c) (entry c) c.self.invariant (kept c) room
    (rw (entry_is c, c.self.view_is) (IsTree-added c.args.self.now (added c) c.args.parent shape refl c.requires.within c.requires.held
    (CanBear-same c.args.self.now c.args.like shape c.requires.found c.requires.space) c.requires.open c.requires.order))
    (rw (entry_is c) (record { text = (like_utf8 c).text; name = (like_utf8 c).name }))
