-- The names that were declared so far, in the order of the stylesheet.
use Rattle.std.specs.Prelude.{◌≡◌, ℕ, ◌==◌, ◌&&◌, ◌||◌, Bool, false, List, [], ◌∷◌, ◌++◌, Option}
use Rattle.std.specs.Borrow.{Bor}
use Rattle.std.specs.List.{list_any}
use Rattle.std.specs.Option.{option_map_or}
use Rattle.xs_modules.specs.Numbering.{ModuleData}
use Rattle.xs_elements.specs.declared.tags.Tag.{Tag}
use Rattle.xs_elements.specs.Nodes.{Name, is_named, is_same_name, name_data, own_name}
use Rattle.xs_elements.specs.Tags.{tag_of, is_variable, is_template}
use Rattle.xs_static.specs.declared.fault.StaticFault.{StaticFault}
use Rattle.xs_static.specs.declared.names.Declared.{Declared}
use Rattle.xs_static.specs.declared.names.Names.{Names}
use Rattle.xs_structure.specs.Modules.{Place, line_at, precedence_at, records_at}
use Rattle.xs_structure.specs.Order.{declares}
use Rattle.xs_static.specs.Names.{declares_again}
use Rattle.xs_static.specs.steps.InForce.{is_among}
use Rattle.xs_static.specs.steps.Least.{fault_where}

-- one of these is this name at this precedence
abbrev pub is_ranked : List (ℕ × (Bor (List ℕ) × Bor (List ℕ))) → ℕ → Name → Bool
is_ranked names rank name = list_any (λ n. rank == n.0 && is_same_name name (name_data n.1)) names

-- a name came to some, if the element is of their kind and has one
pub record Noted (old new : Declared) (is_kind : Bool) (precedence : ℕ) (name : Option Name) : Type 0 where
  pub names : (uri local : List ℕ) → is_among new.names.keys (uri, local) ≡ ((is_kind && is_named (uri, local) name) || is_among old.names.keys (uri, local))
  pub ranked : (rank : ℕ) (uri local : List ℕ) → is_ranked new.ranked.keys rank (uri, local)
      ≡ (((is_kind && is_named (uri, local) name) && precedence == rank) || is_ranked old.ranked.keys rank (uri, local))

-- a declaration of this kind, name and precedence
abbrev pub declares_at : (Tag → Bool) → List ModuleData → ℕ → Name → Place → Bool
declares_at kind ms rank name q = declares kind ms name q && precedence_at ms q.0 == rank

-- the names of some elements of the top level of one kind
pub record HasDeclared (kind : Tag → Bool) (ms : List ModuleData) (done : List Place) (d : Declared) : Type 0 where
  pub names : (uri local : List ℕ) → is_among d.names.keys (uri, local) ≡ list_any (declares kind ms (uri, local)) done
  pub ranked : (rank : ℕ) (uri local : List ℕ) → is_ranked d.ranked.keys rank (uri, local) ≡ list_any (declares_at kind ms rank (uri, local)) done

pub record AreDeclared (ms : List ModuleData) (done : List Place) (n : Names) : Type 0 where
  pub globals : HasDeclared is_variable ms done n.globals
  pub templates : HasDeclared is_template ms done n.templates

-- an element of this kind has the name and the precedence of one of these
abbrev pub repeats : (Tag → Bool) → List ModuleData → List Place → Place → Bool
repeats kind ms done p =
    kind (tag_of (records_at ms p.0) p.1)
    && option_map_or (λ name. list_any (declares_again kind ms p name) done) (own_name (records_at ms p.0) p.1) false

-- the faults of the next element of the top level, behind these
abbrev pub name_faults : List ModuleData → List Place → Place → List StaticFault
name_faults ms done p =
    fault_where (repeats is_variable ms done p) p.0 (line_at ms p.0 p.1) 41 ++ fault_where (repeats is_template ms done p) p.0 (line_at ms p.0 p.1) 42

-- and of all that come
unfoldable pub names_faults : List ModuleData → List Place → List Place → List StaticFault
names_faults ms done [] = []
names_faults ms done (p ∷ rest) = name_faults ms done p ++ names_faults ms (done ++ p ∷ []) rest
