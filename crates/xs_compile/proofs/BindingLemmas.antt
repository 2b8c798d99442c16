-- References to variables in value templates, bound one after another.
use Rattle.std.proofs.Common.{◌≡◌, ◌∙◌, ℕ, ◌+◌, ◌<◌, ◌≤◌, ap, arith, sym, List, ◌++◌, drop, get_or, length, map, take}
use Rattle.std.proofs.Math.ListN.{set}
use Rattle.std.proofs.lemmas.List.{append-nil, drop_all, get_or-map, length-map, map-set, take_all}
use Rattle.std.proofs.lemmas.List.Edits.{map_over_more}
use Rattle.xs_xpath.specs.AvtParts.{part_from, parts_from}
use Rattle.xs_xpath.specs.declared.avt.AvtPart.{AvtPart}
use Rattle.xs_xpath.specs.Templates.{Part}

-- one part more of a list
pub parts-more : (f : Part → Part) (old : List Part) (items new : List AvtPart) (i : ℕ) (p next : AvtPart) → i < length items → i < length old
    → parts_from items ≡ map f (take i old) ++ drop i old → p ≡ get_or items i p → part_from next ≡ f (part_from p) → new ≡ set items i next
    → parts_from new ≡ map f (take (i + 1) old) ++ drop (i + 1) old
parts-more f old items new i p next within lt so is by write =
    let g : part_from p ≡ get_or (parts_from items) i (part_from p) = ap part_from is ∙ sym (get_or-map part_from items i p (part_from p) within) in
    ap parts_from write ∙ map-set part_from items i next ∙ ap (set (parts_from items) i) by ∙ map_over_more f old (parts_from items) i (part_from p) lt so g

pub length-parts : (i : ℕ) (ps : List AvtPart) → i < length ps → i < length (parts_from ps)
length-parts i ps lt = let e : length (parts_from ps) ≡ length ps = length-map ps part_from in omega arith

pub parts-all : (f : Part → Part) (old items : List AvtPart) (n : ℕ) → length old ≤ n
    → parts_from items ≡ map f (take n (parts_from old)) ++ drop n (parts_from old) → parts_from items ≡ map f (parts_from old)
parts-all f old items n le so =
    let e : length (parts_from old) ≡ length old = length-map old part_from in
    let all : length (parts_from old) ≤ n = omega arith in
    so ∙ ap (λ xs. map f (take n (parts_from old)) ++ xs) (drop_all n (parts_from old) all)
    ∙ append-nil (map f (take n (parts_from old))) ∙ ap (map f) (take_all n (parts_from old) all)
