-- Trees of the worked examples.
use Rattle.std.specs.Prelude.{ℕ, ◌||◌, Bool, false, List, [], ◌∷◌, Some, codes}
use Rattle.std.specs.Str.{bytes_eq}
use Rattle.xs_tree.specs.declared.kinds.Kind.TheVariants.{Element}
use Rattle.xs_tree.specs.Record.{Record, at, local_at, root_record}

abbrev pub element : ℕ → List ℕ → Record
element parent name = record {
  kind = Element;
  name = Some (record { uri = []; local = name; prefix = [] });
  text = [];
  parent = Some parent;
}

-- <r><h/><i/><i/><h/><i/></r>
abbrev pub headings : List Record
headings =
    root_record ∷ element 0 (codes "r") ∷ element 1 (codes "h") ∷ element 1 (codes "i") ∷ element 1 (codes "i") ∷ element 1 (codes "h")
    ∷ element 1 (codes "i") ∷ []

-- <b><c><s/><s/></c><c><s/><s><p/></s></c></b>
abbrev pub book : List Record
book =
    root_record ∷ element 0 (codes "b") ∷ element 1 (codes "c") ∷ element 2 (codes "s") ∷ element 2 (codes "s") ∷ element 1 (codes "c")
    ∷ element 5 (codes "s") ∷ element 5 (codes "s") ∷ element 7 (codes "p") ∷ []

-- whether a node has a name
abbrev pub is_named : List ℕ → List Record → ℕ → Bool
is_named name rs k = bytes_eq (local_at rs k) name

-- chapters and sections
abbrev pub is_part : ℕ → Bool
is_part k = is_named (codes "c") book k || is_named (codes "s") book k

abbrev pub never : ℕ → Bool
never k = false
