-- What names use: tables of it, and what one declaration more adds.
use Rattle.std.proofs.Common.{◌≡◌, ◌+◌, Bool, true, false, List, [], ◌∷◌, ◌++◌, Option, Some, None, take, map, filter, refl, sym, ap, ◌∙◌}
use Rattle.std.specs.Prelude.{if◌then◌else◌}
use Rattle.std.specs.List.{flat_map}
use Rattle.std.specs.Option.{unwrap_or}
use Rattle.std.proofs.lemmas.List.{append-nil, map-append}
use Rattle.std.proofs.lemmas.List.Concat.{flat_map-append}
use Rattle.std.proofs.lemmas.List.Elements.{filter-append}
use Rattle.xs_static.specs.Circles.{Declared, is_of, used_by}
use Rattle.xs_elements.specs.Nodes.{Name, is_same_name}
use Rattle.xs_static.proofs.SameNameLemmas.{same-true}

-- what a name has, after what another name has was taken, and put back with more
pub put-back : (left taken now : Name → Option (List Name)) (name : Name) (names more : List Name) (n : Name)
    → taken n ≡ (if is_same_name name n then None else left n) → now n ≡ (if is_same_name name n then Some names else taken n)
    → names ≡ unwrap_or (left name) [] ++ more → unwrap_or (now n) [] ≡ unwrap_or (left n) [] ++ (if is_same_name name n then more else [])
put-back left taken now name names more n before after is =
    let Goal : Bool → Type 0 = λ t. is_same_name name n ≡ t → taken n ≡ (if t then None else left n) → now n ≡ (if t then Some names else taken n)
    → unwrap_or (now n) [] ≡ unwrap_or (left n) [] ++ (if t then more else []) in
    let cases : (t : Bool) → Goal t = λ t. elim t as Goal [
      | true ↦ λ same taken-is now-is. ap (λ o. unwrap_or o []) now-is ∙ is ∙ ap (λ m. unwrap_or (left m) [] ++ more) (same-true name n same)
      | false ↦ λ same taken-is now-is. ap (λ o. unwrap_or o []) (now-is ∙ taken-is) ∙ sym (append-nil (unwrap_or (left n) []))
    ] in
    cases (is_same_name name n) refl before after

pub used-one : (d : Declared) (n : Name) → used_by (d ∷ []) n ≡ (if is_of n d then d.sets else [])
used-one d n =
    let Goal : Bool → Type 0 = λ t. flat_map (λ (e : Declared). e.sets) (if t then d ∷ [] else []) ≡ (if t then d.sets else []) in
    elim (is_of n d) as Goal [ true ↦ append-nil d.sets | false ↦ refl ]

pub used-append : (ds es : List Declared) (n : Name) → used_by (ds ++ es) n ≡ used_by ds n ++ used_by es n
used-append ds es n =
    ap (flat_map (λ (e : Declared). e.sets)) (filter-append (is_of n) ds es)
    ∙ flat_map-append (λ (e : Declared). e.sets) (filter (is_of n) ds) (filter (is_of n) es)
