-- What a whole run puts is a result, and what is left of a tree is well named.
use Rattle.std.proofs.Common.{◌≡◌, ◌<◌, ℕ, zero, suc, List, [], ◌∷◌, ◌++◌, Option, refl, sym, ap, subst, arith, length, map, get_or}
use Rattle.std.proofs.lemmas.List.{get_or-map, length-map}
use Rattle.xs_trace.specs.Cut.{nowhere}
use Rattle.xs_trace.specs.Mark.{Trace, events_of}
use Rattle.xs_tree.specs.declared.kinds.Kind.{Kind}
use Rattle.xs_tree.specs.declared.kinds.Kind.TheVariants.{Root, Element, Attribute, Space, Text, Comment, Pi}
use Rattle.xs_tree.specs.Record.{Record, at, root_record}
use Rattle.xs_tree.specs.Stripping.{renumbered, staying, stays, without}
use Rattle.xs_tree.proofs.WalkLemmas.{passing-within}
use Rattle.xs_making.specs.Laws.{IsWellAs}
use Rattle.xs_result_laws.specs.Events.{IsResult}
use Rattle.xs_body_spec.specs.Globals.{with_globals}
use Rattle.xs_body_spec.specs.Tasks.{Task}
use Rattle.xs_body_spec.specs.Trace.{root_task, task_trace}
use Rattle.xs_body_spec.specs.World.{World}
use Rattle.xs_result_laws.specs.PutLaws.{RunsPutResults, SettledAreNamed, StrippedAreWell, TasksPutWell}
use Rattle.xs_result_laws.proofs.CutLemmas.{cut_goes, cut_passed}
use Rattle.xs_result_laws.proofs.GlobalLemmas.{over_values}

pub runs_put_results : TasksPutWell → SettledAreNamed → RunsPutResults
runs_put_results put named w given budget t limit most world s e =
    let over : World = with_globals w t.values in
    let x : Trace Task = task_trace over (root_task over) in
    subst (λ (y : Trace Task). IsResult (events_of y)) (sym (cut_passed x nowhere limit most e))
    ((put over (root_task over) (over_values w t.values world (named w given budget t world s)) tt).whole (cut_goes x nowhere limit most e))

-- ---- a tree without some of its text nodes
-- the item of a number stands between others
picked : (xs : List ℕ) (i : ℕ) → i < length xs → (before : List ℕ) × (after : List ℕ) × (xs ≡ before ++ get_or xs i 0 ∷ after)
picked [] i h = absurd (omega (arith, h))
picked (x ∷ xs) zero h = ([], xs, refl)
picked (x ∷ xs) (suc i) h = let r = picked xs i (omega (arith, h)) in (x ∷ r.0, r.1, ap (λ ys. x ∷ ys) r.2)

moved_well : (kind : Kind) (r : Record) (p : Option ℕ) → IsWellAs kind r → IsWellAs kind (record r { parent = p })
moved_well Root r p h = tt
moved_well Element r p h = record { local = h.local; prefix = h.prefix; uri = h.uri }
moved_well Attribute r p h = record { local = h.local; prefix = h.prefix; uri = h.uri }
moved_well Space r p h = record { prefix = h.prefix; uri = h.uri; reserved = h.reserved }
moved_well Text r p h = tt
moved_well Comment r p h = tt
moved_well Pi r p h = h

pub stripped_are_well : StrippedAreWell
stripped_are_well marks rs well k within =
    let ks : List ℕ = staying marks rs in
    let same : length (map (renumbered marks rs) ks) ≡ length ks = length-map ks (renumbered marks rs) in
    let inside : k < length ks = omega (arith, same, within) in
    let is : at (without marks rs) k ≡ renumbered marks rs (get_or ks k 0) = get_or-map (renumbered marks rs) ks k 0 root_record inside in
    let found = picked ks k inside in
    let old : get_or ks k 0 < length rs = passing-within (stays marks rs) rs found.0 found.1 (get_or ks k 0) found.2 in
    subst (λ (r : Record). IsWellAs r.kind r) (sym is)
    (moved_well (at rs (get_or ks k 0)).kind (at rs (get_or ks k 0)) (renumbered marks rs (get_or ks k 0)).parent (well (get_or ks k 0) old))
