use Rattle.std.proofs.Common.{◌≡◌, ◌∙◌, List, Some, true, false, slice_get, ap, subst, sym}
use Rattle.std.specs.Cmp.Lexicographic.{slice_cmp}
use Rattle.std.specs.Ordering.{is_eq, nat_cmp}
use Rattle.xs_core.specs.declared.piece.PieceFacts.{PieceFacts}
use Rattle.xs_core.specs.Facts.{find_facts}
use Rattle.xs_core.specs.Machine.{Place}
use Rattle.xs_core.specs.steps.Table.{IsPoint, IsSorted}
use Rattle.xs_core.proofs.PartsLemmas.{there}
use Rattle.xs_core.proofs.TableLemmas.{found, not-found, not-found-past}
use Rattle.xs_core.proofs.facts.Table.find.Goals as goal

pub returns-in_default : goal.returns-in_default
returns-in_default c =
    let xs : List PieceFacts = c.deref.result.now in
    let same : xs ≡ c.args.self.now = c.deref.ensures.value ∙ c.self.view_is in
    let p : Place = c.args.place.now in
    let point : IsPoint xs p c.point.result = subst (λ (ys : List PieceFacts). IsPoint ys p c.point.result) (sym same) c.point.ensures.point in
    record { found = sym (ap (λ ys. find_facts ys p) (sym same) ∙ not-found-past xs c.point.result p point c.in_default.ensures.lookup.3) }

pub returns-then-is_eq : goal.returns-then-is_eq
returns-then-is_eq c =
    let xs : List PieceFacts = c.deref.result.now in
    let same : xs ≡ c.args.self.now = c.deref.ensures.value ∙ c.self.view_is in
    let p : Place = c.args.place.now in
    let x : PieceFacts = c.in-Some.piece.now in
    let point : IsPoint xs p c.point.result = subst (λ (ys : List PieceFacts). IsPoint ys p c.point.result) (sym same) c.point.ensures.point in
    let at : slice_get xs c.point.result ≡ Some x = there xs c.point.result x c.in-Some.ensures.lookup.3.0 c.in-Some.ensures.lookup.1 in
    let tie : is_eq (slice_cmp nat_cmp x.place p) ≡ true = cc (c.is_eq.ensures, c.if-is_eq.true, c.compare_places.ensures.order) in
    record { found = sym (ap (λ ys. find_facts ys p) (sym same) ∙ found xs c.point.result x p point at tie) }

pub returns : goal.returns
returns c =
    let xs : List PieceFacts = c.deref.result.now in
    let same : xs ≡ c.args.self.now = c.deref.ensures.value ∙ c.self.view_is in
    let p : Place = c.args.place.now in
    let x : PieceFacts = c.in-Some.piece.now in
    let point : IsPoint xs p c.point.result = subst (λ (ys : List PieceFacts). IsPoint ys p c.point.result) (sym same) c.point.ensures.point in
    let at : slice_get xs c.point.result ≡ Some x = there xs c.point.result x c.in-Some.ensures.lookup.3.0 c.in-Some.ensures.lookup.1 in
    let up : IsSorted xs = subst (λ (ys : List PieceFacts). IsSorted ys) (sym c.deref.ensures.value) c.self.invariant in
    let other : is_eq (slice_cmp nat_cmp x.place p) ≡ false = cc (c.is_eq.ensures, c.if-is_eq.false, c.compare_places.ensures.order) in
    record { found = sym (ap (λ ys. find_facts ys p) (sym same) ∙ not-found xs c.point.result x p up point at other) }
