-- The events of copies can be written.
use Rattle.std.proofs.Common.{◌≡◌, ℕ, zero, suc, ◌<◌, ◌&&◌, ◌||◌, Bool, true, false, if◌then◌else◌, List, [], ◌∷◌, ◌++◌, All, length, refl, sym, ◌∙◌, append_assoc, codes}
use Rattle.std.proofs.lemmas.Bool.{and_parts, or_parts}
use Rattle.std.proofs.lemmas.List.Elements.{All-append, All-cons, All-nil}
use Rattle.std.specs.List.{flat_map}
use Rattle.std.specs.Str.{bytes_eq}
use Rattle.xs_trace.specs.declared.event.Event.{Event}
use Rattle.xs_trace.specs.declared.event.Event.TheVariants.{Start, Space as SpaceEvent, Attr, Chars, End, Comment as CommentEvent, Pi as PiEvent}
use Rattle.xs_tree.specs.declared.kinds.Kind.{Kind}
use Rattle.xs_tree.specs.declared.kinds.Kind.TheVariants.{Root, Element, Attribute, Space, Text, Comment, Pi}
use Rattle.xs_tree.specs.Kinds.{is_attribute_kind, is_namespace_kind}
use Rattle.xs_tree.specs.Record.{Record, at, attributes, children, is_attribute, is_child, is_namespace, is_place, name_local, name_prefix, name_uri, namespaces}
use Rattle.xs_tree.proofs.WalkLemmas.{passing-passes, passing-within}
use Rattle.xs_making.specs.Copies.{attribute_events, copy_within, deep_copy, label_of, leaf_events, shallow_as, space_events, start_events, tag_events, text_events, whole_as}
use Rattle.xs_making.specs.Labels.{is_reserved, xml_uri}
use Rattle.xs_making.specs.Laws.{AreWell, CopiesAreWell, IsNamed, IsSpace, IsWellAs, IsWellNamed, IsWellPut}
use Rattle.xs_making.specs.Texts.{is_empty}
use Rattle.xs_making.proofs.LawLemmas.{is_prefix-put, put_prefix-twice}

-- ---- the events of one node
label-well : (r : Record) → IsNamed r → IsWellNamed (label_of r)
label-well r h = record {
  local = h.local;
  prefix = is_prefix-put (name_uri r) (name_prefix r) h.prefix;
  fits = put_prefix-twice (name_uri r) (name_prefix r);
  uri = h.uri;
}

attribute-well : (r : Record) → IsNamed r → All IsWellPut (attribute_events r)
attribute-well r h = by_test (is_empty (name_uri r) && bytes_eq (name_local r) (codes "xmlns")) refl
  where
    by_test : (t : Bool) → (is_empty (name_uri r) && bytes_eq (name_local r) (codes "xmlns")) ≡ t
        → All IsWellPut (if t then [] else Attr (label_of r) r.text ∷ [])
    by_test true at = All-nil IsWellPut
    by_test false at = All-cons IsWellPut (Attr (label_of r) r.text) [] (label-well r h, at) (All-nil IsWellPut)

not_reserved : (t u : Bool) → (t ≡ true → u ≡ true) → u ≡ false → t ≡ false
not_reserved true u h e = absurd (let no_bool : true ≡ false = sym (h refl) ∙ e in cc)
not_reserved false u h e = refl

space-well : (r : Record) → IsSpace r → All IsWellPut (space_events r)
space-well r h = by_test (is_empty r.text || bytes_eq r.text xml_uri) refl
  where
    by_test : (t : Bool) → (is_empty r.text || bytes_eq r.text xml_uri) ≡ t → All IsWellPut (if t then [] else SpaceEvent (name_local r) r.text ∷ [])
    by_test true at = All-nil IsWellPut
    by_test false at =
        let parts = or_parts (is_empty r.text) (bytes_eq r.text xml_uri) at in
        All-cons IsWellPut (SpaceEvent (name_local r) r.text) [] (record {
          spelled = h.prefix;
          free = not_reserved (is_reserved (name_local r)) (bytes_eq r.text xml_uri) h.reserved parts.1;
          full = parts.0;
          not_xml = parts.1;
          not_xmlns = h.uri;
        }) (All-nil IsWellPut)

text-well : (r : Record) → All IsWellPut (text_events r)
text-well r = by_test (is_empty r.text) refl
  where
    by_test : (t : Bool) → is_empty r.text ≡ t → All IsWellPut (if t then [] else Chars r.text ∷ [])
    by_test true at = All-nil IsWellPut
    by_test false at = All-cons IsWellPut (Chars r.text) [] at (All-nil IsWellPut)

leaf-well : (kind : Kind) (r : Record) → IsWellAs kind r → All IsWellPut (leaf_events kind r)
leaf-well Root r h = All-nil IsWellPut
leaf-well Element r h = All-nil IsWellPut
leaf-well Attribute r h = attribute-well r h
leaf-well Space r h = space-well r h
leaf-well Text r h = text-well r
leaf-well Comment r h = All-cons IsWellPut (CommentEvent r.text) [] tt (All-nil IsWellPut)
leaf-well Pi r h = All-cons IsWellPut (PiEvent (name_local r) r.text) [] h (All-nil IsWellPut)

-- ---- those of several nodes
flat_map-well : (f : ℕ → List Event) (all before xs : List ℕ) → ((before after : List ℕ) (k : ℕ) → all ≡ before ++ k ∷ after → All IsWellPut (f k))
    → all ≡ before ++ xs → All IsWellPut (flat_map f xs)
flat_map-well f all before [] well e = All-nil IsWellPut
flat_map-well f all before (x ∷ xs) well e =
    All-append IsWellPut (f x) (flat_map f xs) (well before xs x e)
    (flat_map-well f all (before ++ x ∷ []) xs well (e ∙ sym (append_assoc before (x ∷ []) xs)))

namespace-well : (kind : Kind) (r : Record) → is_namespace_kind kind ≡ true → IsWellAs kind r → IsSpace r
namespace-well Root r is h = absurd (cc)
namespace-well Element r is h = absurd (cc)
namespace-well Attribute r is h = absurd (cc)
namespace-well Space r is h = h
namespace-well Text r is h = absurd (cc)
namespace-well Comment r is h = absurd (cc)
namespace-well Pi r is h = absurd (cc)

attribute-named : (kind : Kind) (r : Record) → is_attribute_kind kind ≡ true → IsWellAs kind r → IsNamed r
attribute-named Root r is h = absurd (cc)
attribute-named Element r is h = absurd (cc)
attribute-named Attribute r is h = h
attribute-named Space r is h = absurd (cc)
attribute-named Text r is h = absurd (cc)
attribute-named Comment r is h = absurd (cc)
attribute-named Pi r is h = absurd (cc)

start-well : (rs : List Record) (n : ℕ) → AreWell rs → IsNamed (at rs n) → All IsWellPut (start_events rs n)
start-well rs n well h =
    All-cons IsWellPut (Start (label_of (at rs n))) (flat_map (λ k. space_events (at rs k)) (namespaces rs n)) (label-well (at rs n) h)
    (flat_map-well (λ k. space_events (at rs k)) (namespaces rs n) [] (namespaces rs n)
    (λ before after k e. space-well (at rs k) (namespace-well (at rs k).kind (at rs k)
    (and_parts (is_place n (at rs k).parent) (is_namespace_kind (at rs k).kind) (passing-passes (is_namespace rs n) rs before after k e)).1
    (well k (passing-within (is_namespace rs n) rs before after k e)))) refl)

tag-well : (rs : List Record) (n : ℕ) → AreWell rs → IsNamed (at rs n) → All IsWellPut (tag_events rs n)
tag-well rs n well h =
    All-append IsWellPut (start_events rs n) (flat_map (λ k. attribute_events (at rs k)) (attributes rs n)) (start-well rs n well h)
    (flat_map-well (λ k. attribute_events (at rs k)) (attributes rs n) [] (attributes rs n)
    (λ before after k e. attribute-well (at rs k) (attribute-named (at rs k).kind (at rs k)
    (and_parts (is_place n (at rs k).parent) (is_attribute_kind (at rs k).kind) (passing-passes (is_attribute rs n) rs before after k e)).1
    (well k (passing-within (is_attribute rs n) rs before after k e)))) refl)

-- ---- copies
whole-well : (kind : Kind) (rs : List Record) (n : ℕ) (inside : List Event) → AreWell rs → IsWellAs kind (at rs n) → All IsWellPut inside
    → All IsWellPut (whole_as kind rs n inside)
whole-well Root rs n inside well h all = all
whole-well Element rs n inside well h all =
    All-append IsWellPut (tag_events rs n) (inside ++ End ∷ []) (tag-well rs n well h)
    (All-append IsWellPut inside (End ∷ []) all (All-cons IsWellPut End [] tt (All-nil IsWellPut)))
whole-well Attribute rs n inside well h all = leaf-well Attribute (at rs n) h
whole-well Space rs n inside well h all = leaf-well Space (at rs n) h
whole-well Text rs n inside well h all = leaf-well Text (at rs n) h
whole-well Comment rs n inside well h all = leaf-well Comment (at rs n) h
whole-well Pi rs n inside well h all = leaf-well Pi (at rs n) h

within-well : (levels : ℕ) (rs : List Record) (n : ℕ) → AreWell rs → n < length rs → All IsWellPut (copy_within levels rs n)
unfolding copy_within
within-well zero rs n well w = All-nil IsWellPut
within-well (suc levels) rs n well w =
    whole-well (at rs n).kind rs n (flat_map (copy_within levels rs) (children rs n)) well (well n w)
    (flat_map-well (copy_within levels rs) (children rs n) [] (children rs n)
    (λ before after k e. within-well levels rs k well (passing-within (is_child rs n) rs before after k e)) refl)

deep-well : (rs : List Record) (n : ℕ) → AreWell rs → n < length rs → All IsWellPut (deep_copy rs n)
unfolding deep_copy
deep-well rs n well w = within-well (length rs) rs n well w

shallow-well : (kind : Kind) (rs : List Record) (n : ℕ) → AreWell rs → IsWellAs kind (at rs n) → All IsWellPut (shallow_as kind rs n)
shallow-well Root rs n well h = All-nil IsWellPut
shallow-well Element rs n well h = start-well rs n well h
shallow-well Attribute rs n well h = leaf-well Attribute (at rs n) h
shallow-well Space rs n well h = leaf-well Space (at rs n) h
shallow-well Text rs n well h = leaf-well Text (at rs n) h
shallow-well Comment rs n well h = leaf-well Comment (at rs n) h
shallow-well Pi rs n well h = leaf-well Pi (at rs n) h

pub copies_are_well : CopiesAreWell
copies_are_well rs n true well w = deep-well rs n well w
copies_are_well rs n false well w = shallow-well (at rs n).kind rs n well (well n w)
