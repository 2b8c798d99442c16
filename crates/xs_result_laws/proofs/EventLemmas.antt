-- The events that a tree represents, node by node.
use Rattle.std.proofs.Common.{◌≡◌, ℕ, ◌+◌, ◌<◌, ◌≤◌, List, [], ◌∷◌, ◌++◌, Option, Some, Bool, true, false, refl, sym, ◌∙◌, ap, subst}
use Rattle.std.proofs.Common.{arith, inl, inr, length, map}
use Rattle.std.specs.Prelude.{◌==◌, ◌⊎◌}
use Rattle.std.specs.List.{cons_option}
use Rattle.std.proofs.lemmas.Bool.Decides.{nat_tests}
use Rattle.xs_trace.specs.Label.{Label}
use Rattle.xs_trace.specs.declared.event.Event.{Event}
use Rattle.xs_trace.specs.declared.event.Event.TheVariants.{Start, Space, Attr, Chars, End, Comment, Pi}
use Rattle.xs_tree.specs.Record.{Record, is_place}
use Rattle.xs_build.specs.declared.opened.Opened.{Opened}
use Rattle.xs_build.specs.Document.{Outcome, tree, refused}
use Rattle.xs_build.specs.Faults.{too_large}
use Rattle.xs_build.specs.Namespaces.{Bindings}
use Rattle.xs_build.specs.Nodes.{element, spaces}
use Rattle.xs_build.specs.steps.Lines.{innermost, put_before}
use Rattle.xs_result_lines.specs.Bindings.{Attribute, attributes_in}
use Rattle.xs_result_lines.specs.Lines.{OpenElement}
use Rattle.xs_result_laws.specs.TreeEvents.{around, event_of, events_from, opened, plain, unprefixed, with_ends}
use Rattle.xs_result_laws.proofs.FitLemmas.{named_with}
use Rattle.xs_result_laws.proofs.PlaceLemmas.{IsFit}
use Rattle.xs_result_laws.proofs.ScopeLemmas.{in_force}
use Rattle.xs_result_laws.proofs.StartLemmas.{attributes-attribute, attributes-end, attributes-space, no_attributes}

-- an open element and its node
pub record Inside : Type 0 where
  pub element : OpenElement
  pub node : ℕ

abbrev pub elements : List Inside → List OpenElement
elements os = map (λ (i : Inside). i.element) os

abbrev pub nodes : List Inside → List ℕ
nodes os = map (λ (i : Inside). i.node) os

-- as it is read
abbrev pub read_as : Inside → Opened
read_as i = record { name = i.element.name; node = i.node; scope = in_force i.element.scope }

abbrev pub all_read : List Inside → List Opened
all_read os = map read_as os

-- each open element stands after the one around it
abbrev pub Falls : ℕ → List Inside → Type 0
Falls n [] = 0 < n
Falls n (o ∷ os) = (o.node < n) × Falls o.node os

pub falls_more : (os : List Inside) (n m : ℕ) → n ≤ m → Falls n os → Falls m os
falls_more [] n m h f = omega (arith, h, f)
falls_more (o ∷ os) n m h f = (let less : o.node < n = f.0 in omega (arith, h, less), f.1)

-- ---- what nodes represent, and that the first of them is inside an open element or the root
abbrev IsIn : Option ℕ → List ℕ → Type 0
IsIn parent [] = parent ≡ Some 0
IsIn parent (n ∷ ns) = (parent ≡ Some n) ⊎ IsIn parent ns

abbrev IsNext : List ℕ → List Record → Type 0
IsNext ns [] = Unit {0}
IsNext ns (r ∷ rs) = IsIn r.parent ns

-- these nodes represent these events, or they are too many
abbrev pub Gives : Outcome → List ℕ → ℕ → List Event → Type 0
Gives (tree rs lines) ns place es = (events_from ns place rs ≡ es) × IsNext ns rs
Gives (refused number line) ns place es = number ≡ too_large

pub same_events : (o : Outcome) (ns : List ℕ) (place : ℕ) (es ds : List Event) → es ≡ ds → Gives o ns place es → Gives o ns place ds
same_events o ns place es ds is h = subst (Gives o ns place) is h

pub no_nodes : (place n : ℕ) (o : Outcome) (ns : List ℕ) (es : List Event) → Gives o ns place es → Gives (put_before [] n o) ns place es
no_nodes place n (tree rs lines) ns es h = h
no_nodes place n (refused number line) ns es h = h

-- ---- a node in the innermost open element
same_number : (n : ℕ) → (n == n) ≡ true
same_number n = grind (arith, nat_tests)

child_events : (os : List Inside) (place : ℕ) (r : Record) (rs : List Record) → r.parent ≡ Some (innermost (all_read os))
    → events_from (nodes os) place (r ∷ rs) ≡ cons_option (event_of r.kind r) (events_from (opened r.kind place (nodes os)) (place + 1) rs)
unfolding events_from around with_ends
child_events [] place r rs h = refl
child_events (o ∷ os) place r rs h = rw (h, same_number o.node) refl

child_in : (os : List Inside) (parent : Option ℕ) → parent ≡ Some (innermost (all_read os)) → IsIn parent (nodes os)
child_in [] parent h = h
child_in (o ∷ os) parent h = inl h

-- one that has no children
pub leaf_given : (os : List Inside) (place n : ℕ) (r : Record) (e : Event) (o : Outcome) (es : List Event) → r.parent ≡ Some (innermost (all_read os))
    → event_of r.kind r ≡ Some e → opened r.kind place (nodes os) ≡ nodes os → Gives o (nodes os) (place + 1) es
    → Gives (put_before (r ∷ []) n o) (nodes os) place (e ∷ es)
leaf_given os place n r e (tree rs lines) es parent is leaf h = (
  child_events os place r rs parent ∙ ap (λ x. cons_option x (events_from (opened r.kind place (nodes os)) (place + 1) rs)) is
      ∙ ap (λ ns. e ∷ events_from ns (place + 1) rs) leaf ∙ ap (λ xs. e ∷ xs) h.0,
  child_in os r.parent parent,
)
leaf_given os place n r e (refused number line) es parent is leaf h = h

-- an element and its namespace nodes
moved : (ns : List ℕ) (j k : ℕ) (rs : List Record) → j ≡ k → events_from ns j rs ≡ events_from ns k rs
moved ns j k rs h = ap (λ p. events_from ns p rs) h

own_events : (n : ℕ) (ns : List ℕ) (place : ℕ) (r : Record) (rs : List Record) → r.parent ≡ Some n
    → events_from (n ∷ ns) place (r ∷ rs) ≡ cons_option (event_of r.kind r) (events_from (opened r.kind place (n ∷ ns)) (place + 1) rs)
unfolding events_from around with_ends
own_events n ns place r rs h = rw (h, same_number n) refl

spaces_events : (scope : Bindings) (n : ℕ) (ns : List ℕ) (place : ℕ) (rs : List Record)
    → events_from (n ∷ ns) place (spaces n scope ++ rs) ≡ events_from (n ∷ ns) (place + length scope) rs
spaces_events [] n ns place rs = moved (n ∷ ns) place (place + 0) rs (omega arith)
spaces_events (b ∷ scope) n ns place rs =
    own_events n ns place _ (spaces n scope ++ rs) refl ∙ spaces_events scope n ns (place + 1) rs
    ∙ moved (n ∷ ns) (place + 1 + length scope) (place + length (b ∷ scope)) rs (omega arith)

pub element_given : (os : List Inside) (place n : ℕ) (name : Label) (scope : Bindings) (o : Outcome) (es : List Event)
    → Gives o (place ∷ nodes os) (place + 1 + length scope) es
    → Gives (put_before (element (named_with name.prefix name) (innermost (all_read os)) ∷ spaces place scope) n o) (nodes os) place
    (Start (unprefixed name) ∷ es)
element_given os place n name scope (tree rs lines) es h = (
  child_events os place (element (named_with name.prefix name) (innermost (all_read os))) (spaces place scope ++ rs) refl
      ∙ ap (λ xs. Start (unprefixed name) ∷ xs) (spaces_events scope place (nodes os) (place + 1) rs ∙ h.0),
  child_in os (Some (innermost (all_read os))) refl,
)
element_given os place n name scope (refused number line) es h = h

-- ---- the end of an element
other_number : (p n : ℕ) → p < n → (p == n) ≡ false
other_number p n h = grind (arith, nat_tests, h)

-- a node in one of these is not in an element after them
not_in : (os : List Inside) (n m : ℕ) (parent : Option ℕ) → m ≤ n → Falls m os → IsIn parent (nodes os) → is_place n parent ≡ false
not_in [] n m parent l f h = ap (is_place n) h ∙ other_number 0 n (omega (arith, l, f))
not_in (o ∷ os) n m parent l f (inl h) = let less : o.node < m = f.0 in ap (is_place n) h ∙ other_number o.node n (omega (arith, l, less))
not_in (o ∷ os) n m parent l f (inr h) = let less : o.node < m = f.0 in not_in os n o.node parent (omega (arith, l, less)) f.1 h

end_events : (n : ℕ) (ns : List ℕ) (place : ℕ) (r : Record) (rs : List Record) → is_place n r.parent ≡ false
    → events_from (n ∷ ns) place (r ∷ rs) ≡ End ∷ events_from ns place (r ∷ rs)
unfolding events_from around with_ends
end_events n ns place r rs h = rw h refl

last_events : (n : ℕ) (ns : List ℕ) (place : ℕ) → events_from (n ∷ ns) place [] ≡ End ∷ events_from ns place []
unfolding events_from
last_events n ns place = refl

pub end_given : (i : Inside) (os : List Inside) (place : ℕ) (o : Outcome) (es : List Event) → Falls i.node os → Gives o (nodes os) place es
    → Gives o (i.node ∷ nodes os) place (End ∷ es)
end_given i os place (tree [] lines) es f h = (last_events i.node (nodes os) place ∙ ap (λ xs. End ∷ xs) h.0, tt)
end_given i os place (tree (r ∷ rs) lines) es f h = (
  end_events i.node (nodes os) place r rs (not_in os i.node i.node r.parent (omega arith) f h.1) ∙ ap (λ xs. End ∷ xs) h.0,
  inr h.1,
)
end_given i os place (refused number line) es f h = h

-- ---- events after a start tag
unfoldable pub after_tag : List Event → List Event
after_tag [] = []
after_tag (Space prefix uri ∷ es) = after_tag es
after_tag (Attr name value ∷ es) = after_tag es
after_tag (Start name ∷ es) = Start name ∷ es
after_tag (Chars text ∷ es) = Chars text ∷ es
after_tag (End ∷ es) = End ∷ es
after_tag (Comment text ∷ es) = Comment text ∷ es
after_tag (Pi target value ∷ es) = Pi target value ∷ es

abbrev pub attribute_event : Attribute → Event
attribute_event a = Attr (unprefixed a.name) a.value

plain_none : (e : Event) (es : List Event) (attrs : List Attribute) → attrs ≡ [] → after_tag (e ∷ es) ≡ e ∷ es
    → plain (e ∷ es) ≡ map attribute_event attrs ++ plain (after_tag (e ∷ es))
plain_none e es attrs none same = ap plain (sym same) ∙ ap (λ xs. map attribute_event xs ++ plain (after_tag (e ∷ es))) (sym none)

pub plain_tag : (es : List Event) → plain es ≡ map attribute_event (attributes_in es) ++ plain (after_tag es)
unfolding plain after_tag
plain_tag [] = ap (λ xs. map attribute_event xs ++ plain []) (sym no_attributes)
plain_tag (Space prefix uri ∷ es) = plain_tag es ∙ ap (λ xs. map attribute_event xs ++ plain (after_tag es)) (sym (attributes-space prefix uri es))
plain_tag (Attr name value ∷ es) =
    ap (λ xs. Attr (unprefixed name) value ∷ xs) (plain_tag es)
    ∙ ap (λ xs. map attribute_event xs ++ plain (after_tag es)) (sym (attributes-attribute name value es))
plain_tag (Start name ∷ es) = plain_none (Start name) es (attributes_in (Start name ∷ es)) (attributes-end (Start name) es refl) refl
plain_tag (Chars text ∷ es) = plain_none (Chars text) es (attributes_in (Chars text ∷ es)) (attributes-end (Chars text) es refl) refl
plain_tag (End ∷ es) = plain_none End es (attributes_in (End ∷ es)) (attributes-end End es refl) refl
plain_tag (Comment text ∷ es) = plain_none (Comment text) es (attributes_in (Comment text ∷ es)) (attributes-end (Comment text) es refl) refl
plain_tag (Pi target value ∷ es) = plain_none (Pi target value) es (attributes_in (Pi target value ∷ es)) (attributes-end (Pi target value) es refl) refl

-- where no start tag is open nothing is passed over
pub after_same : (es : List Event) (os : List OpenElement) (begun text : Bool) → IsFit os begun text false es → after_tag es ≡ es
unfolding after_tag IsFit
after_same [] os begun text fit = refl
after_same (Space prefix uri ∷ es) os begun text fit = absurd (let no : false ≡ true = fit.0 in cc)
after_same (Attr name value ∷ es) os begun text fit = absurd (let no : false ≡ true = fit.0 in cc)
after_same (Start name ∷ es) os begun text fit = refl
after_same (Chars more ∷ es) os begun text fit = refl
after_same (End ∷ es) os begun text fit = refl
after_same (Comment more ∷ es) os begun text fit = refl
after_same (Pi target value ∷ es) os begun text fit = refl
