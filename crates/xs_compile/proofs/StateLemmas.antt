-- What the tables of a compilation have at a place.
use Rattle.std.proofs.Common.{◌≡◌, ◌∙◌, ◌<◌, ℕ, zero, suc, ap, refl, sym, subst, arith, Bool, true, false, List, [], ◌∷◌, length, None, get_or, drop, map}
use Rattle.std.proofs.lemmas.Bool.{and_from, and_parts, false_from_ne_true, false≢true}
use Rattle.std.specs.List.{AllZip}
use Rattle.std.specs.Option.{option_map_or}
use Rattle.std.specs.Prelude.{◌&&◌, not}
use Rattle.xs_compile.proofs.CleanLemmas.{no-fault}
use Rattle.xs_structure.specs.declared.standing.Standing.{Standing}
use Rattle.xs_compile.specs.declared.slots.Locals.{Locals}
use Rattle.xs_structure.specs.Standing.{standing_of}
use Rattle.xs_compile.specs.Locals.{AreLocals, IsApart}
use Rattle.xs_compile.specs.steps.Tables.{HasLocals}
use Rattle.xs_elements.specs.Nodes.{own_name}
use Rattle.xs_elements.specs.Reading.{is_seen}
use Rattle.xs_elements.specs.Tags.{is_top_level, is_variable, tag_of}
use Rattle.xs_modules.specs.Numbering.{ModuleData}
use Rattle.xs_structure.specs.Bindings.{is_local, has_binding, shadows}
use Rattle.xs_static.specs.Faults.{IsFirstFault, shadowing}
use Rattle.xs_structure.specs.Modules.{records_at}
use Rattle.xs_tree.specs.Kinds.{is_element_kind}
use Rattle.xs_tree.specs.Record.{Record, at, places}
use Rattle.xs_tree.specs.Shape.{IsTree}

-- ---- the table of a module
pub locals-at : (ms : List ModuleData) (all : List Locals) → AllZip HasLocals ms all → (m : ℕ) → m < length ms → (t : Locals) → t ≡ get_or all m t
    → AreLocals (records_at ms m) (length (records_at ms m)) t
locals-at [] all h m lt t e = absurd (omega (arith, lt))
locals-at (d ∷ ds) [] h m lt t e = absurd h
locals-at (d ∷ ds) (l ∷ ls) h zero lt t e = subst (AreLocals d.records (length d.records)) (sym e) h.0.locals
locals-at (d ∷ ds) (l ∷ ls) h (suc m) lt t e = locals-at ds ls h.1 m (omega (arith, lt)) t e

pub tree-at : (ms : List ModuleData) (all : List Locals) → AllZip HasLocals ms all → (m : ℕ) → m < length ms → IsTree (records_at ms m)
tree-at [] all h m lt = absurd (omega (arith, lt))
tree-at (d ∷ ds) [] h m lt = absurd h
tree-at (d ∷ ds) (l ∷ ls) h zero lt = h.0.tree
tree-at (d ∷ ds) (l ∷ ls) h (suc m) lt = tree-at ds ls h.1 m (omega (arith, lt))

-- what the nodes of a module have, in a table of it
module _ {T X : Type 0} (of : List Record → List X) (items : T → List X) where
  pub table-in : (ms : List ModuleData) (all : List T) → map items all ≡ map (λ (d : ModuleData). of d.records) ms → (m : ℕ) → m < length ms → (t : T)
      → t ≡ get_or all m t → items t ≡ of (records_at ms m)
  table-in [] all h m lt t e = absurd (omega (arith, lt))
  table-in (d ∷ ds) [] h m lt t e = absurd (let size = ap length h in omega (arith, size))
  table-in (d ∷ ds) (x ∷ xs) h zero lt t e = ap items e ∙ ap (λ (tables : List (List X)). get_or tables 0 []) h
  table-in (d ∷ ds) (x ∷ xs) h (suc m) lt t e = table-in ds xs (ap (λ (tables : List (List X)). drop 1 tables) h) m (omega (arith, lt)) t e

-- how a node stands
pub standings-in : {T : Type 0} (items : T → List Standing) (ms : List ModuleData) (all : List T)
    → map items all ≡ map (λ (d : ModuleData). map (standing_of d.records) (places d.records)) ms → (m : ℕ) → m < length ms → (t : T) → t ≡ get_or all m t
    → items t ≡ map (standing_of (records_at ms m)) (places (records_at ms m))
standings-in items = table-in (λ rs. map (standing_of rs) (places rs)) items

-- ---- no local binding shadows another one
-- an element that binds a variable is one
pub variable-element : (rs : List Record) (n : ℕ) → is_variable (tag_of rs n) ≡ true → is_element_kind (at rs n).kind ≡ true
variable-element rs n h = by_kind (is_element_kind (at rs n).kind) refl
  where
    by_kind : (b : Bool) → is_element_kind (at rs n).kind ≡ b → is_element_kind (at rs n).kind ≡ true
    by_kind true e = e
    by_kind false e = absurd (false≢true (sym (rw e refl) ∙ h))

pub apart-at : (ms : List ModuleData) → IsFirstFault ms None → (m : ℕ) → m < length ms → IsApart (records_at ms m)
apart-at ms accepted m lt b inside =
    let rs = records_at ms m in
    false_from_ne_true (shadows rs b) (λ h.
    let local = (and_parts (is_local rs b) (option_map_or (has_binding rs b) (own_name rs b) false) h).0 in
    let seen = (and_parts (is_variable (tag_of rs b) && not (is_top_level rs b)) (is_seen rs b) local).1 in
    let variable = (and_parts (is_variable (tag_of rs b)) (not (is_top_level rs b))
    (and_parts (is_variable (tag_of rs b) && not (is_top_level rs b)) (is_seen rs b)
    local).0).0 in
    no-fault ms accepted shadowing (m, b) (record { «module» = lt; node = inside }) (variable-element rs b variable)
    (and_from (is_seen rs b) (shadows rs b) seen h))
