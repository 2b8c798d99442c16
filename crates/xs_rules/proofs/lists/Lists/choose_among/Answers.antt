use Rattle.std.proofs.Common.{◌≡◌, ◌+◌, ◌<◌, List, None, Option, Some, ap, arith, length, refl, reverse, slice_get, subst, sym, ◌∙◌}
use Rattle.std.proofs.lemmas.Option.{slice_get_read}
use Rattle.std.specs.Vec.{vec_len}
use Rattle.xs_tree.specs.Record.{at}
use Rattle.xs_rules.specs.declared.entries.Entry.{Entry}
use Rattle.xs_rules.specs.declared.tables.RuleTable.{RuleTable}
use Rattle.xs_rules.specs.Rules.{Candidate, candidates}
use Rattle.xs_rules.specs.steps.Candidates.{passes}
use Rattle.xs_rules.specs.steps.Index.{IsTableOf, at_entry, is_unnamed, later, passed, passes_at, ranked}
use Rattle.xs_rules.specs.steps.Lists.{named_in, unnamed_in}
use Rattle.xs_rules.proofs.IndexLemmas.{IsNodeSearched, entry-rank, index-certain, index-inside, index-none, index-step, index-taken}
use Rattle.xs_rules.proofs.IndexLemmas.{named-list, unnamed-list}
use Rattle.xs_rules.proofs.KeyLemmas.{named_for}
use Rattle.xs_rules.proofs.PlaceLemmas.{next-less}
use Rattle.xs_rules.proofs.SearchLemmas.{search-none}
use Rattle.xs_rules.proofs.lists.Lists.choose_among.Goals as goal

pub loop-place-init : goal.loop-place-init
loop-place-init g c =
    let p = passes c.args.search.now.looked (g.K.KeyFinder.tables c.args.search.now.keys.now) c.args.search.now.tree.now c.args.search.now.mode
    c.args.search.now.node in
    let ts = c.args.templates.now in
    let cs = ranked (candidates ts) in
    let es = c.args.self.now.entries.items in
    let names = named_in c.args.self.now.named in
    let kinds = unnamed_in c.args.self.now.unnamed in
    let r = at c.args.search.now.tree.now c.args.search.now.node in
    search-none p cs (passes_at (named_for c.args.search.now.mode r) cs) (passes_at (is_unnamed c.args.search.now.mode r.kind) cs) (reverse
    c.named_for-named.result.now)
    (reverse c.unnamed_for-unnamed.result.now)
    (named-list ts cs es names kinds c.args.search.now.mode r c.named_for-named.result.now c.requires.indexed c.named_for-named.ensures)
    (unnamed-list ts cs es names kinds c.args.search.now.mode r.kind c.unnamed_for-unnamed.result.now c.requires.indexed
    (c.unnamed_for-unnamed.ensures ∙ ap (kinds c.args.search.now.mode) c.kind.ensures.kind))

pub index-entry-requires : goal.index-entry-requires
index-entry-requires g c =
    let cs = ranked (candidates c.args.templates.now) in
    let inside : c.in-Some.place < length c.args.self.now.entries.items =
    index-inside c.args.search.now.looked (g.K.KeyFinder.tables c.args.search.now.keys.now) c.args.search.now.tree.now c.args.search.now.mode
    c.args.search.now.node c.args.templates.now cs
    c.args.self.now.entries.items (named_in c.args.self.now.named) (unnamed_in c.args.self.now.unnamed) (reverse c.loop-place.named.now)
    (reverse c.loop-place.unnamed.now) None c.in-Some.place c.requires.indexed c.loop-place.invariant (sym c.later.ensures ∙ c.in-Some.is) in
    let long : vec_len c.args.self.now.entries ≡ length c.args.self.now.entries.items = c.args.self.now.entries.ok.0 in
    omega (arith, inside, long)

pub is_taken-requires-clause-table : goal.is_taken-requires-clause-table
is_taken-requires-clause-table g c κs within =
    let cs : List Candidate = ranked (candidates c.args.templates.now) in
    let entry : Entry = c.index-entry.result.now in
    let inside : c.in-Some.place < length c.args.self.now.entries.items =
    index-inside c.args.search.now.looked (g.K.KeyFinder.tables c.args.search.now.keys.now) c.args.search.now.tree.now c.args.search.now.mode
    c.args.search.now.node c.args.templates.now cs
    c.args.self.now.entries.items (named_in c.args.self.now.named) (unnamed_in c.args.self.now.unnamed) (reverse c.loop-place.named.now)
    (reverse c.loop-place.unnamed.now) None c.in-Some.place c.requires.indexed c.loop-place.invariant (sym c.later.ensures ∙ c.in-Some.is) in
    let read : slice_get c.args.self.now.entries.items c.in-Some.place ≡ Some entry =
    slice_get_read c.args.self.now.entries.items (length c.args.self.now.entries.items) c.in-Some.place entry refl inside c.index-entry.ensures in
    subst (λ (o : Option RuleTable). IsTableOf c.args.search.now.tree.now (at_entry c.args.templates.now entry) o) (sym c.table_at-table.ensures)
    (c.requires.rule_tables.each c.in-Some.place entry read)

pub is_taken-requires-clause-rank : goal.is_taken-requires-clause-rank
is_taken-requires-clause-rank g c κs within =
    let cs : List Candidate = ranked (candidates c.args.templates.now) in
    let entry : Entry = c.index-entry.result.now in
    let inside : c.in-Some.place < length c.args.self.now.entries.items =
    index-inside c.args.search.now.looked (g.K.KeyFinder.tables c.args.search.now.keys.now) c.args.search.now.tree.now c.args.search.now.mode
    c.args.search.now.node c.args.templates.now cs
    c.args.self.now.entries.items (named_in c.args.self.now.named) (unnamed_in c.args.self.now.unnamed) (reverse c.loop-place.named.now)
    (reverse c.loop-place.unnamed.now) None c.in-Some.place c.requires.indexed c.loop-place.invariant (sym c.later.ensures ∙ c.in-Some.is) in
    let read : slice_get c.args.self.now.entries.items c.in-Some.place ≡ Some entry =
    slice_get_read c.args.self.now.entries.items (length c.args.self.now.entries.items) c.in-Some.place entry refl inside c.index-entry.ensures in
    entry-rank c.args.templates.now cs c.args.self.now.entries.items (named_in c.args.self.now.named) (unnamed_in c.args.self.now.unnamed) c.in-Some.place
    entry c.requires.indexed read

pub is_taken-requires-clause-certain : goal.is_taken-requires-clause-certain
is_taken-requires-clause-certain g c κs within = λ sure.
    let keys = g.K.KeyFinder.tables c.args.search.now.keys.now in
    let cs : List Candidate = ranked (candidates c.args.templates.now) in
    let es : List Entry = c.args.self.now.entries.items in
    let names = named_in c.args.self.now.named in
    let kinds = unnamed_in c.args.self.now.unnamed in
    let entry : Entry = c.index-entry.result.now in
    let l : later (reverse c.loop-place.named.now) (reverse c.loop-place.unnamed.now) ≡ Some c.in-Some.place = sym c.later.ensures ∙ c.in-Some.is in
    let inside : c.in-Some.place < length es =
    index-inside c.args.search.now.looked keys c.args.search.now.tree.now c.args.search.now.mode c.args.search.now.node c.args.templates.now cs es names kinds
    (reverse c.loop-place.named.now)
    (reverse c.loop-place.unnamed.now) None c.in-Some.place c.requires.indexed c.loop-place.invariant l in
    let read : slice_get es c.in-Some.place ≡ Some entry = slice_get_read es (length es) c.in-Some.place entry refl inside c.index-entry.ensures in
    index-certain c.args.search.now.looked keys c.args.search.now.tree.now c.args.search.now.mode c.args.search.now.node c.args.templates.now cs es names kinds
    (reverse c.loop-place.named.now)
    (reverse c.loop-place.unnamed.now) None c.in-Some.place entry c.len-count.ensures.tree c.requires.node c.requires.indexed
    c.loop-place.invariant l read sure

pub loop-place-smaller : goal.loop-place-smaller
loop-place-smaller g c =
    let named = reverse c.loop-place.named.now in
    let unnamed = reverse c.loop-place.unnamed.now in
    let j = c.in-Some.place in
    let less : length (passed j named) + length (passed j unnamed) < length named + length unnamed =
    next-less named unnamed j (sym c.later.ensures ∙ c.in-Some.is) in
    subst (λ x. length x + length (reverse c.without-unnamed.result.now) < length named + length unnamed) (sym c.without-named.ensures)
    (subst (λ y. length (passed j named) + length y < length named + length unnamed) (sym c.without-unnamed.ensures) less)

pub loop-place-preserved : goal.loop-place-preserved
loop-place-preserved g c =
    let keys = g.K.KeyFinder.tables c.args.search.now.keys.now in
    let cs : List Candidate = ranked (candidates c.args.templates.now) in
    let es : List Entry = c.args.self.now.entries.items in
    let names = named_in c.args.self.now.named in
    let kinds = unnamed_in c.args.self.now.unnamed in
    let entry : Entry = c.index-entry.result.now in
    let l : later (reverse c.loop-place.named.now) (reverse c.loop-place.unnamed.now) ≡ Some c.in-Some.place = sym c.later.ensures ∙ c.in-Some.is in
    let inside : c.in-Some.place < length es =
    index-inside c.args.search.now.looked keys c.args.search.now.tree.now c.args.search.now.mode c.args.search.now.node c.args.templates.now cs es names kinds
    (reverse c.loop-place.named.now)
    (reverse c.loop-place.unnamed.now) None c.in-Some.place c.requires.indexed c.loop-place.invariant l in
    let read : slice_get es c.in-Some.place ≡ Some entry = slice_get_read es (length es) c.in-Some.place entry refl inside c.index-entry.ensures in
    subst (λ x. IsNodeSearched c.args.search.now.looked keys c.args.search.now.tree.now c.args.search.now.mode c.args.search.now.node cs x (reverse
    c.without-unnamed.result.now) None)
    (sym c.without-named.ensures)
    (subst (λ y. IsNodeSearched c.args.search.now.looked keys c.args.search.now.tree.now c.args.search.now.mode c.args.search.now.node cs (passed
    c.in-Some.place (reverse c.loop-place.named.now)) y
    None) (sym c.without-unnamed.ensures)
    (index-step c.args.search.now.looked keys c.args.search.now.tree.now c.args.search.now.mode c.args.search.now.node c.args.templates.now cs es names kinds
    (reverse c.loop-place.named.now)
    (reverse c.loop-place.unnamed.now) c.in-Some.place entry c.in_ok-is_taken.is_taken c.len-count.ensures.tree c.requires.node c.requires.indexed
    c.loop-place.invariant l read c.in_ok-is_taken.ensures.taken c.if-is_taken.false))

pub returns-then-is_taken : goal.returns-then-is_taken
returns-then-is_taken g c =
    let keys = g.K.KeyFinder.tables c.args.search.now.keys.now in
    let cs : List Candidate = ranked (candidates c.args.templates.now) in
    let es : List Entry = c.args.self.now.entries.items in
    let names = named_in c.args.self.now.named in
    let kinds = unnamed_in c.args.self.now.unnamed in
    let entry : Entry = c.index-entry.result.now in
    let l : later (reverse c.loop-place.named.now) (reverse c.loop-place.unnamed.now) ≡ Some c.in-Some.place = sym c.later.ensures ∙ c.in-Some.is in
    let inside : c.in-Some.place < length es =
    index-inside c.args.search.now.looked keys c.args.search.now.tree.now c.args.search.now.mode c.args.search.now.node c.args.templates.now cs es names kinds
    (reverse c.loop-place.named.now)
    (reverse c.loop-place.unnamed.now) None c.in-Some.place c.requires.indexed c.loop-place.invariant l in
    let read : slice_get es c.in-Some.place ≡ Some entry = slice_get_read es (length es) c.in-Some.place entry refl inside c.index-entry.ensures in
    record {
      chosen =
          index-taken c.args.search.now.looked keys c.args.search.now.tree.now c.args.search.now.mode c.args.search.now.node c.args.templates.now
          (candidates c.args.templates.now) es names kinds (reverse c.loop-place.named.now) (reverse c.loop-place.unnamed.now) c.in-Some.place entry
          c.in_ok-is_taken.is_taken c.len-count.ensures.tree c.requires.node c.requires.indexed c.loop-place.invariant l read
          c.in_ok-is_taken.ensures.taken c.if-is_taken.true;
    }

pub returns : goal.returns
returns g c = record {
  chosen =
      index-none c.args.search.now.looked (g.K.KeyFinder.tables c.args.search.now.keys.now) c.args.search.now.tree.now c.args.search.now.mode
      c.args.search.now.node (candidates c.args.templates.now) (reverse c.loop-place.named.now) (reverse c.loop-place.unnamed.now) c.len-count.ensures.tree
      c.requires.node c.loop-place.invariant (sym c.later.ensures ∙ c.in_default.is);
}
