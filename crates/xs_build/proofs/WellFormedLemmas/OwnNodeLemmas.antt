-- What holds of an element by its place holds of it by its own nodes: its namespace nodes and its attributes.
use Rattle.std.proofs.Common.{◌≡◌, ℕ, ◌+◌, List, [], ◌∷◌, ◌++◌, Some, Bool, true, false, refl, sym, ◌∙◌, ap, subst, length, map, filter, cond, append_assoc}
use Rattle.std.proofs.Common.{length-append, arith}
use Rattle.std.specs.Prelude.{not, ◌&&◌, ◌||◌, if◌then◌else◌, codes}
use Rattle.std.specs.List.{AllByRecursion, IsDistinct, list_any, range_with_len}
use Rattle.std.specs.List.Sorted.{IsStrictlySortedBy}
use Rattle.std.specs.Str.{bytes_eq}
use Rattle.std.proofs.Math.Seq.{get_or-append_seam}
use Rattle.xs_tree.specs.Kinds.{is_attribute_kind, is_namespace_kind}
use Rattle.xs_tree.specs.Names.{order_of_texts}
use Rattle.xs_tree.specs.Record.{Record, root_record, at, is_place, places, attributes}
use Rattle.xs_build.specs.Namespaces.{is_empty, xml_uri}
use Rattle.xs_tree.specs.Record.{name_uri, name_local, name_prefix, prefix_at, uri_at, local_at}
use Rattle.xs_build.specs.DocumentTree.{inherits, has_default, is_element_in_scope}
use Rattle.xs_tree.specs.Record.{namespaces}
use Rattle.xs_build.specs.DocumentTree.{is_attribute_in_scope, is_same_name, HasSpaces, IsElement}

-- whether a node is a namespace node, or an attribute, of the node at n
abbrev pub owns_space : ℕ → Record → Bool
owns_space n r = is_place n r.parent && is_namespace_kind r.kind

abbrev pub owns_attribute : ℕ → Record → Bool
owns_attribute n r = is_place n r.parent && is_attribute_kind r.kind

abbrev pub own_spaces : ℕ → List Record → List Record
own_spaces n rs = filter (owns_space n) rs

abbrev pub own_attributes : ℕ → List Record → List Record
own_attributes n rs = filter (owns_attribute n) rs

abbrev pub represents : List ℕ → List ℕ → Record → Bool
represents prefix uri r = bytes_eq (name_local r) prefix && bytes_eq r.text uri

abbrev pub is_default : Record → Bool
is_default r = is_empty (name_local r)

abbrev pub is_unnamed : Record → Bool
is_unnamed r = is_empty r.text

abbrev pub same_names : Record → Record → Bool
same_names a b = bytes_eq (name_uri a) (name_uri b) && bytes_eq (name_local a) (name_local b)

-- an attribute beside these namespace nodes
abbrev pub is_scoped : List Record → Record → Bool
is_scoped ss a =
    if is_empty (name_prefix a) then is_empty (name_uri a) && not (bytes_eq (name_local a) (codes "xmlns"))
    else list_any (represents (name_prefix a) (name_uri a)) ss

-- an element beside these namespace nodes
abbrev pub is_named : List Record → Record → Bool
is_named ss e =
    list_any (represents (name_prefix e) (name_uri e)) ss
    || is_empty (name_prefix e) && is_empty (name_uri e) && not (list_any is_default ss)

-- what IsElement says, of an element, its namespace nodes and its attributes
pub record IsWhole (e : Record) (ss : List Record) (attrs : List Record) : Type 0 where
  pub order : IsStrictlySortedBy order_of_texts (map name_local ss)
  pub xml : list_any (represents (codes "xml") xml_uri) ss ≡ true
  pub full : list_any is_unnamed ss ≡ false
  pub scope : is_named ss e ≡ true
  pub distinct : IsDistinct same_names attrs
  pub attributes : list_any (λ a. not (is_scoped ss a)) attrs ≡ false

-- these namespace nodes have each prefix of the others
abbrev pub has_local : List Record → List ℕ → Bool
has_local ss prefix = list_any (λ t. bytes_eq (name_local t) prefix) ss

abbrev pub hands_on : List Record → List Record → Bool
hands_on outer inner = not (list_any (λ s. not (is_empty (name_local s)) && not (has_local inner (name_local s))) outer)

-- the nodes at all places are all nodes
all_places : (front rs : List Record) → map (at (front ++ rs)) (range_with_len (length front) (length rs)) ≡ rs
all_places front [] = refl
all_places front (r ∷ rs) =
    let counted : length (front ++ r ∷ []) ≡ length front + 1 = omega (arith, length-append front (r ∷ [])) in
    let joined : (front ++ r ∷ []) ++ rs ≡ front ++ r ∷ rs = append_assoc front (r ∷ []) rs in
    let here : at (front ++ r ∷ rs) (length front) ≡ r = get_or-append_seam front r rs root_record in
    let rest : map (at (front ++ r ∷ rs)) (range_with_len (length front + 1) (length rs)) ≡ rs =
    ap (λ k. map (at (front ++ r ∷ rs)) (range_with_len k (length rs))) (sym counted)
    ∙ ap (λ (xs : List Record). map (at xs) (range_with_len (length (front ++ r ∷ [])) (length rs))) (sym joined)
    ∙ all_places (front ++ r ∷ []) rs in
    ap (λ (x : Record). x ∷ map (at (front ++ r ∷ rs)) (range_with_len (length front + 1) (length rs))) here ∙ ap (λ (xs : List Record). r ∷ xs) rest

filter_mapped : (g : ℕ → Record) (t : Record → Bool) (ks : List ℕ) → map g (filter (λ k. t (g k)) ks) ≡ filter t (map g ks)
filter_mapped g t [] = refl
filter_mapped g t (k ∷ ks) = by (t (g k)) (filter_mapped g t ks)
  where
    by : (b : Bool) → map g (filter (λ k. t (g k)) ks) ≡ filter t (map g ks)
        → map g (cond b (k ∷ filter (λ k. t (g k)) ks) (filter (λ k. t (g k)) ks)) ≡ cond b (g k ∷ filter t (map g ks)) (filter t (map g ks))
    by true more = ap (λ (xs : List Record). g k ∷ xs) more
    by false more = more

any_mapped : (g : ℕ → Record) (t : Record → Bool) (ks : List ℕ) → list_any (λ k. t (g k)) ks ≡ list_any t (map g ks)
any_mapped g t [] = refl
any_mapped g t (k ∷ ks) = ap (λ b. t (g k) || b) (any_mapped g t ks)

map_mapped : (g : ℕ → Record) (f : Record → List ℕ) (ks : List ℕ) → map (λ k. f (g k)) ks ≡ map f (map g ks)
map_mapped g f [] = refl
map_mapped g f (k ∷ ks) = ap (λ (xs : List (List ℕ)). f (g k) ∷ xs) (map_mapped g f ks)

apart_mapped : (g : ℕ → Record) (t : Record → Bool) (ks : List ℕ) → AllByRecursion (λ r. t r ≡ false) (map g ks) → AllByRecursion (λ k. t (g k) ≡ false) ks
apart_mapped g t [] a = tt
apart_mapped g t (k ∷ ks) a = (a.0, apart_mapped g t ks a.1)

distinct_mapped : (g : ℕ → Record) (e : Record → Record → Bool) (ks : List ℕ) → IsDistinct e (map g ks) → IsDistinct (λ j k. e (g j) (g k)) ks
unfolding IsDistinct
distinct_mapped g e [] d = tt
distinct_mapped g e (k ∷ ks) d = (apart_mapped g (e (g k)) ks d.0, distinct_mapped g e ks d.1)

any_same : (f g : ℕ → Bool) (ks : List ℕ) → ((k : ℕ) → f k ≡ g k) → list_any f ks ≡ list_any g ks
any_same f g [] h = refl
any_same f g (k ∷ ks) h = ap (λ b. b || list_any f ks) (h k) ∙ ap (λ b. g k || b) (any_same f g ks h)

-- the nodes at the places that pass are the nodes that pass
owned : (t : Record → Bool) (rs : List Record) → map (at rs) (filter (λ k. t (at rs k)) (places rs)) ≡ filter t rs
owned t rs = filter_mapped (at rs) t (places rs) ∙ ap (filter t) (all_places [] rs)

any_owned : (u t : Record → Bool) (rs : List Record) → list_any (λ k. u (at rs k)) (filter (λ k. t (at rs k)) (places rs)) ≡ list_any u (filter t rs)
any_owned u t rs = any_mapped (at rs) u (filter (λ k. t (at rs k)) (places rs)) ∙ ap (list_any u) (owned t rs)

map_owned : (f : Record → List ℕ) (t : Record → Bool) (rs : List Record) → map (λ k. f (at rs k)) (filter (λ k. t (at rs k)) (places rs)) ≡ map f (filter t rs)
map_owned f t rs = map_mapped (at rs) f (filter (λ k. t (at rs k)) (places rs)) ∙ ap (map f) (owned t rs)

pub spaces_whole : (rs : List Record) (n : ℕ) (attrs : List Record) → IsWhole (at rs n) (own_spaces n rs) attrs → HasSpaces rs n
spaces_whole rs n attrs w = record {
  order = subst (IsStrictlySortedBy order_of_texts) (sym (map_owned name_local (owns_space n) rs)) w.order;
  xml = any_owned (represents (codes "xml") xml_uri) (owns_space n) rs ∙ w.xml;
  full = any_owned is_unnamed (owns_space n) rs ∙ w.full;
}

pub scope_whole : (rs : List Record) (n : ℕ) (attrs : List Record) → IsWhole (at rs n) (own_spaces n rs) attrs → is_element_in_scope rs n ≡ true
scope_whole rs n attrs w =
    ap (λ b. b || is_empty (prefix_at rs n) && is_empty (uri_at rs n) && not (has_default rs n))
    (any_owned (represents (prefix_at rs n) (uri_at rs n)) (owns_space n) rs)
    ∙ ap (λ b. list_any (represents (prefix_at rs n) (uri_at rs n)) (own_spaces n rs) || is_empty (prefix_at rs n) && is_empty (uri_at rs n) && not b)
    (any_owned is_default (owns_space n) rs)
    ∙ w.scope

pub distinct_whole : (rs : List Record) (n : ℕ) (ss : List Record) → IsWhole (at rs n) ss (own_attributes n rs) → IsDistinct (is_same_name rs) (attributes rs n)
distinct_whole rs n ss w = distinct_mapped (at rs) same_names (attributes rs n) (subst (IsDistinct same_names) (sym (owned (owns_attribute n) rs)) w.distinct)

scoped_at : (rs : List Record) (n k : ℕ) → not (is_attribute_in_scope rs n k) ≡ not (is_scoped (own_spaces n rs) (at rs k))
scoped_at rs n k =
    ap (λ b. not (if is_empty (prefix_at rs k) then is_empty (uri_at rs k) && not (bytes_eq (local_at rs k) (codes "xmlns")) else b))
    (any_owned (represents (prefix_at rs k) (uri_at rs k)) (owns_space n) rs)

pub attributes_whole : (rs : List Record) (n : ℕ) → IsWhole (at rs n) (own_spaces n rs) (own_attributes n rs)
    → list_any (λ k. not (is_attribute_in_scope rs n k)) (attributes rs n) ≡ false
attributes_whole rs n w =
    any_same (λ k. not (is_attribute_in_scope rs n k)) (λ k. not (is_scoped (own_spaces n rs) (at rs k))) (attributes rs n) (scoped_at rs n)
    ∙ any_owned (λ a. not (is_scoped (own_spaces n rs) a)) (owns_attribute n) rs ∙ w.attributes

inherited : (rs : List Record) (p n : ℕ) → hands_on (own_spaces p rs) (own_spaces n rs) ≡ true → inherits rs p n ≡ true
inherited rs p n h =
    ap not (any_same (λ j. not (is_empty (local_at rs j)) && not (list_any (λ k. bytes_eq (local_at rs k) (local_at rs j)) (namespaces rs n)))
    (λ j. not (is_empty (local_at rs j)) && not (has_local (own_spaces n rs) (local_at rs j))) (namespaces rs p)
    (λ j. ap (λ b. not (is_empty (local_at rs j)) && not b) (any_owned (λ t. bytes_eq (name_local t) (local_at rs j)) (owns_space n) rs)))
    ∙ ap not (any_owned (λ s. not (is_empty (name_local s)) && not (has_local (own_spaces n rs) (name_local s))) (owns_space p) rs)
    ∙ h

pub element_whole : (rs : List Record) (n : ℕ) → ((p : ℕ) → (at rs n).parent ≡ Some p → hands_on (own_spaces p rs) (own_spaces n rs) ≡ true)
    → IsWhole (at rs n) (own_spaces n rs) (own_attributes n rs) → IsElement rs n
element_whole rs n handed w = record {
  spaces = spaces_whole rs n (own_attributes n rs) w;
  inherits = λ p is. inherited rs p n (handed p is);
  scope = scope_whole rs n (own_attributes n rs) w;
  distinct = distinct_whole rs n (own_spaces n rs) w;
  attributes = attributes_whole rs n w;
}
