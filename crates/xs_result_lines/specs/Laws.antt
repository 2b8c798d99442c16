-- What is true of the lines of a result.
use Rattle.std.specs.Prelude.{◌≡◌, ℕ, ◌<◌, ◌^◌, List, [], ◌∷◌, ◌++◌, Bool, true, false, codes, length, unwrap_or}
use Rattle.xs_pyx.specs.declared.line.Line.TheVariants as line
use Rattle.xs_trace.specs.Label.{Label}
use Rattle.xs_trace.specs.declared.event.Event.{Event}
use Rattle.xs_trace.specs.declared.event.Event.TheVariants.{Start, Space, Attr, End}
use Rattle.xs_result.specs.Built.{is_empty}
use Rattle.xs_result_lines.specs.Bindings.{Attribute, Binding, attribute_prefix, attributes_in, bindings, bindings_before, declared, is_in_tag, needs_prefix, uri_in}
use Rattle.xs_result_lines.specs.Bindings.{with_attribute}
use Rattle.xs_result_lines.specs.Lines.{OpenElement, lines, open_after}

-- ---- the lines of a list go part by part
-- an event of a start tag comes first
abbrev pub begins_in_tag : List Event → Bool
begins_in_tag [] = false
begins_in_tag (e ∷ es) = is_in_tag e

-- what stands after these events is no part of their last start tag
abbrev pub LinesGoOn : Type 0
LinesGoOn = (around : List OpenElement) (es more : List Event) → begins_in_tag more ≡ false
    → lines around (es ++ more) ≡ lines around es ++ lines (open_after around es) more

-- and the elements that are open likewise
abbrev pub ElementsGoOn : Type 0
ElementsGoOn = (around : List OpenElement) (es more : List Event) → begins_in_tag more ≡ false
    → open_after around (es ++ more) ≡ open_after (open_after around es) more

-- ---- names resolve
-- the URI that a prefix resolves to in these bindings, empty for none
abbrev pub resolved : List Binding → List ℕ → List ℕ
resolved scope prefix = unwrap_or (uri_in scope prefix) []

-- each attribute in a namespace is written with a prefix that resolves to it, where these bindings are there before the first
abbrev pub AttributesResolve : List Binding → List Binding → List Attribute → Type 0
AttributesResolve scope m [] = Unit {0}
AttributesResolve scope m (a ∷ more) =
    (needs_prefix a.name ≡ true → (resolved scope (attribute_prefix m a.name) ≡ a.name.uri) × (is_empty (attribute_prefix m a.name) ≡ false))
    × AttributesResolve scope (with_attribute m a.name) more

abbrev pub scope_in : List Binding → Label → List Event → List Binding
scope_in around name es = declared around (bindings name es) ++ around

-- Inside its own start tag the name of an element and those of its attributes resolve to the namespaces that they were put with
-- (Namespaces in XML 1.0, 5 and 6).
pub record Resolves (around : List Binding) (name : Label) (es : List Event) : Type 0 where
  pub element : resolved (scope_in around name es) name.prefix ≡ name.uri
  pub attributes : AttributesResolve (scope_in around name es) (bindings_before name es) (attributes_in es)

-- as any program has fewer bindings than this
abbrev pub NamesResolve : Type 0
NamesResolve = (around : List Binding) (name : Label) (es : List Event) → length (bindings name es) < 2 ^ 64 → Resolves around name es

-- ---- worked examples
abbrev pub label : List ℕ → List ℕ → List ℕ → Label
label uri prefix local = record { uri = uri; local = local; prefix = prefix }

-- two attributes of one prefix with two URIs
abbrev pub TwoUrisOfOnePrefix : Type 0
TwoUrisOfOnePrefix =
    lines [] (
    Start (label [] [] (codes "o"))
    ∷ Attr (label (codes "u1") (codes "p") (codes "x")) (codes "1")
    ∷ Attr (label (codes "u2") (codes "p") (codes "y")) (codes "2")
    ∷ Attr (label (codes "u1") [] (codes "z")) (codes "3")
    ∷ End
    ∷ []
    )
    ≡ line.Start (codes "o")
    ∷ line.Attr (codes "xmlns:ns0") (codes "u2")
    ∷ line.Attr (codes "xmlns:p") (codes "u1")
    ∷ line.Attr (codes "p:x") (codes "1")
    ∷ line.Attr (codes "ns0:y") (codes "2")
    ∷ line.Attr (codes "p:z") (codes "3")
    ∷ line.End (codes "o")
    ∷ []

-- a default namespace that is undone inside, and in force again after that; a prefix that a parent has is not declared again
abbrev pub DefaultIsUndone : Type 0
DefaultIsUndone =
    lines [] (
    Start (label (codes "u") [] (codes "o"))
    ∷ Space (codes "p") (codes "v")
    ∷ Start (label [] [] (codes "e"))
    ∷ Space (codes "p") (codes "v")
    ∷ End
    ∷ Start (label (codes "u") [] (codes "f"))
    ∷ Attr (label (codes "v") (codes "p") (codes "x")) (codes "1")
    ∷ End
    ∷ End
    ∷ []
    )
    ≡ line.Start (codes "o")
    ∷ line.Attr (codes "xmlns") (codes "u")
    ∷ line.Attr (codes "xmlns:p") (codes "v")
    ∷ line.Start (codes "e")
    ∷ line.Attr (codes "xmlns") []
    ∷ line.End (codes "e")
    ∷ line.Start (codes "f")
    ∷ line.Attr (codes "p:x") (codes "1")
    ∷ line.End (codes "f")
    ∷ line.End (codes "o")
    ∷ []
