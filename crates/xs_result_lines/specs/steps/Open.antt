-- The bindings in force and the open elements, as the writer keeps them.
use Rattle.std.specs.Prelude.{◌≡◌, ℕ, List, [], ◌∷◌, ◌++◌, Option, None, Some, drop, map}
use Rattle.xs_result_lines.specs.Bindings.{Binding, outermost, uri_in}
use Rattle.xs_result_lines.specs.Lines.{OpenElement}
use Rattle.xs_result_lines.specs.declared.scope.Declared.{Declared}
use Rattle.xs_result_lines.specs.declared.scope.Undo.{Undo}
use Rattle.xs_result_lines.specs.declared.writer.Frame.{Frame}

abbrev pub binding : Declared → Binding
binding d = (d.prefix, d.uri)

abbrev pub bindings_of : List Declared → List Binding
bindings_of ds = map binding ds

-- what was declared, the nearest first
abbrev pub logged : List Undo → List Binding
logged us = map (λ u. (u.prefix, u.uri)) us

-- each entry knows to what its prefix was bound before
abbrev pub KnowBefore : List Undo → Type 0
KnowBefore [] = Unit {0}
KnowBefore (u ∷ us) = (u.before ≡ uri_in (logged us ++ outermost) u.prefix) × KnowBefore us

-- a table says of each prefix what the list of the bindings in force says
abbrev pub IsCurrent : List Binding → List Undo → Type 0
IsCurrent table us = (prefix : List ℕ) → uri_in table prefix ≡ uri_in (logged us ++ outermost) prefix

-- the open elements, the innermost first, where these were declared
abbrev pub opened : List Frame → List Binding → List OpenElement
opened [] ds = []
opened (f ∷ fs) ds = record { name = f.name; scope = ds ++ outermost } ∷ opened fs (drop f.declared ds)

-- and all that was declared was so by them
abbrev pub AreTheirs : List Frame → List Binding → Type 0
AreTheirs [] ds = ds ≡ []
AreTheirs (f ∷ fs) ds = AreTheirs fs (drop f.declared ds)

-- what is in force, where it is known: it is not after memory ran out
abbrev pub in_force : Option (List Binding) → List Binding
in_force None = []
in_force (Some ds) = ds

abbrev pub AreStillTheirs : List Frame → Option (List Binding) → Type 0
AreStillTheirs fs None = Unit {0}
AreStillTheirs fs (Some ds) = AreTheirs fs ds
