-- References to variables, bound to slots.
use Rattle.std.proofs.Common.{◌≡◌, ℕ, ◌+◌, ◌<◌, ◌≤◌, Bool, true, false, List, [], ◌∷◌, ◌++◌, Option, Some, None, length, get_or, take, drop, map, refl, sym, ◌∙◌, ap, arith}
use Rattle.std.specs.Prelude.{◌&&◌, if◌then◌else◌}
use Rattle.std.proofs.Math.ListN.{set}
use Rattle.std.proofs.lemmas.List.{append-nil, map-set, length-map, get_or-map, take_all, drop_all}
use Rattle.std.proofs.lemmas.List.Edits.{map_over_more}
use Rattle.std.specs.Str.{bytes_eq}
use Rattle.xs_trace.specs.Label.{Label}
use Rattle.xs_xpath.specs.declared.expr.Expr.{Expr}
use Rattle.xs_xpath.specs.declared.name.Slot.{Slot}
use Rattle.xs_xpath.specs.Binding.{bound, bounds, slot_in}
use Rattle.xs_xpath.specs.Exprs.{tree_from, trees_from}
use Rattle.xs_xpath.specs.Names.{or_else}
use Rattle.xs_xpath.specs.Tree.{Tree, trees, first_tree}

-- one entry more
entry-more : (behind : Option Slot) (t : Bool) (slot : Slot) (before : Option Slot)
    → or_else (or_else behind (if t then Some slot else None)) before ≡ or_else behind (if t then Some slot else before)
entry-more None true slot before = refl
entry-more None false slot before = refl
entry-more (Some s) t slot before = refl

pub slot-more : (all : Option Slot) (rest behind : List (Label × Slot)) (entry : Label × Slot) (uri local : List ℕ) (before now : Option Slot)
    → all ≡ or_else (slot_in rest uri local) before → rest ≡ entry ∷ behind
    → now ≡ (if bytes_eq entry.0.uri uri && bytes_eq entry.0.local local then Some entry.1 else before) → all ≡ or_else (slot_in behind uri local) now
slot-more all rest behind entry uri local before now so is by =
    so ∙ ap (λ xs. or_else (slot_in xs uri local) before) is ∙ entry-more (slot_in behind uri local)
    (bytes_eq entry.0.uri uri && bytes_eq entry.0.local local) entry.1 before ∙ ap (or_else (slot_in behind uri local)) (sym by)

bounds-trees : (slots : List ℕ → List ℕ → Option Slot) (es : List Tree) → bounds slots (trees es) ≡ trees (map (bound slots) es)
bounds-trees slots [] = refl
bounds-trees slots (e ∷ es) = ap (first_tree (bound slots e)) (bounds-trees slots es)

-- one expression more of a list
pub bound-more : (f : Tree → Tree) (old : List Tree) (items new : List Expr) (i : ℕ) (e next : Expr) → i < length items → i < length old
    → trees_from items ≡ map f (take i old) ++ drop i old → e ≡ get_or items i e → tree_from next ≡ f (tree_from e) → new ≡ set items i next
    → trees_from new ≡ map f (take (i + 1) old) ++ drop (i + 1) old
bound-more f old items new i e next within lt so is by write =
    let g : tree_from e ≡ get_or (trees_from items) i (tree_from e) = ap tree_from is ∙ sym (get_or-map tree_from items i e (tree_from e) within) in
    ap trees_from write ∙ map-set tree_from items i next ∙ ap (set (trees_from items) i) by ∙ map_over_more f old (trees_from items) i (tree_from e) lt so g

pub length-trees : (i : ℕ) (es : List Expr) → i < length es → i < length (trees_from es)
length-trees i es lt = let e : length (trees_from es) ≡ length es = length-map es tree_from in omega arith

pub bound-all : (slots : List ℕ → List ℕ → Option Slot) (old items : List Expr) (n : ℕ) → length old ≤ n
    → trees_from items ≡ map (bound slots) (take n (trees_from old)) ++ drop n (trees_from old)
    → trees (trees_from items) ≡ bounds slots (trees (trees_from old))
bound-all slots old items n le so =
    let e : length (trees_from old) ≡ length old = length-map old tree_from in
    let all : length (trees_from old) ≤ n = omega arith in
    ap trees (so ∙ ap (λ xs. map (bound slots) (take n (trees_from old)) ++ xs) (drop_all n (trees_from old) all)
    ∙ append-nil (map (bound slots) (take n (trees_from old))) ∙ ap (map (bound slots)) (take_all n (trees_from old) all))
    ∙ sym (bounds-trees slots (trees_from old))
