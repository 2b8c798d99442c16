use Rattle.std.proofs.Common.{◌≡◌, ◌<◌, ◌≤◌, false, List, arith, get_or, length, subst, sym}
use Rattle.std.proofs.lemmas.List.{take_all}
use Rattle.std.proofs.lemmas.Option.{slice_get-get_or}
use Rattle.std.specs.Prelude.{pos}
use Rattle.xs_sheet.specs.declared.declarations.Template.{Template}
use Rattle.xs_rules.specs.declared.entries.Entry.{Entry}
use Rattle.xs_rules.specs.Rules.{Candidate, candidates}
use Rattle.xs_rules.specs.steps.Index.{AreEntries, IsIndexed, ranked}
use Rattle.xs_rules.specs.steps.Lists.{named_in, unnamed_in}
use Rattle.xs_rules.proofs.IndexLemmas.{entries-length, entry-more}
use Rattle.xs_rules.proofs.index.RuleIndex.new.Goals as goal

-- what a read past the end would give
abbrev none : Entry
none = record {
  template = 0;
  alternative = 0;
  rank = record { precedence = 0; priority = pos 0 };
  is_certain = false;
}

pub loop-place-preserved : goal.loop-place-preserved
loop-place-preserved c =
    let ts : List Template = c.as_slice-templates.result.now in
    let es : List Entry = c.as_slice-entries.result.now in
    let inside : c.loop-place.place < length es = omega (arith, c.loop-place-test.true) in
    let are : AreEntries ts (ranked (candidates ts)) es =
    subst (λ (l : List Entry). AreEntries ts (ranked (candidates ts)) l) (sym c.as_slice-entries.ensures.value) c.in_ok-list.ensures.ranked in
    entry-more ts (ranked (candidates ts)) es c.loop-place.place (get_or es c.loop-place.place none) c.loop-place.lists c.add_entry.new.self are
    (slice_get-get_or es c.loop-place.place none inside) c.loop-place.invariant c.in_ok-add_entry.ensures.added

pub returns-clause-index : goal.returns-clause-index
returns-clause-index c =
    let ts : List Template = c.as_slice-templates.result.now in
    let cs : List Candidate = ranked (candidates ts) in
    let es : List Entry = c.as_slice-entries.result.now in
    let are : AreEntries ts cs es =
    subst (λ (l : List Entry). AreEntries ts cs l) (sym c.as_slice-entries.ensures.value) c.in_ok-list.ensures.ranked in
    let same : length es ≡ length cs = entries-length ts cs es are.each in
    let all : length cs ≤ c.loop-place.place = omega (arith, c.loop-place-test.false, same) in
    subst (λ l. IsIndexed ts l c.loop-place.lists.entries.items (named_in c.loop-place.lists.named) (unnamed_in c.loop-place.lists.unnamed))
    (take_all c.loop-place.place cs all) c.loop-place.invariant
