-- What a node has by the elements around it.
use Rattle.std.proofs.Common.{◌≡◌, ◌∙◌, ◌<◌, ◌+◌, ◌++◌, ◌∷◌, [], ◌≤◌, ℕ, zero, suc, ap, refl, sym, arith, zero-add, Bool, true, false, List, length, map, Option, None, Some}
use Rattle.std.proofs.lemmas.List.FromFn.{get_or-map-range_with_len, length-map-range_with_len, map-range_with_len_more}
use Rattle.std.proofs.lemmas.Option.{none-some}
use Rattle.std.specs.List.{list_all, list_any, range_with_len}
use Rattle.std.specs.Option.{option_map_or, unwrap_or}
use Rattle.std.specs.Prelude.{◌&&◌, ◌||◌, get_or, nat_lt, option_map}
use Rattle.std.specs.Str.{bytes_eq}
use Rattle.xs_structure.proofs.AroundLemmas.{around-is, around-none, around-some, parent-before}
use Rattle.xs_structure.proofs.NamespaceLemmas.{declared_next}
use Rattle.xs_structure.specs.declared.in_force.InForce.{InForce}
use Rattle.xs_structure.specs.declared.namespaces.Namespaces.{Namespaces}
use Rattle.xs_structure.specs.declared.standing.Standing.{Standing}
use Rattle.xs_structure.specs.Excluded.{excluded_value, excludes, is_left_out}
use Rattle.xs_structure.specs.steps.Namespaces.{AreNamespaces, is_left_out_by, is_meant}
use Rattle.xs_structure.specs.InForce.{in_force_at}
use Rattle.xs_structure.specs.Standing.{standing_of}
use Rattle.xs_elements.specs.declared.tags.Tag.{Tag}
use Rattle.xs_elements.specs.declared.tags.Tag.TheVariants.{NoElement}
use Rattle.xs_elements.specs.Nodes.{ancestors_or_self, chain, scope_at}
use Rattle.xs_elements.specs.Reading.{declares_extension, extension_value, is_in_extension, is_seen, is_shown, means_uri, reading_by, reading_of, shows, shows_at}
use Rattle.xs_elements.specs.Tags.{is_document_element, is_top_level, tag_of, xslt_uri}
use Rattle.xs_elements.specs.WhiteSpace.{first_said, own_space, preserves, words, xml_uri}
use Rattle.xs_structure.specs.steps.Around.{any_around}
use Rattle.xs_tree.specs.Kinds.{is_element_kind}
use Rattle.xs_tree.specs.Record.{Record, at, places, uri_at}
use Rattle.xs_tree.specs.Shape.{EndsAt, IsTree}

-- ---- the standings of the nodes before one
pub standings-length : (rs : List Record) (table : List Standing) (n : ℕ) → table ≡ map (standing_of rs) (range_with_len 0 n) → length table ≡ n
standings-length rs table n e = ap length e ∙ length-map-range_with_len (standing_of rs) 0 n

pub standings-at : (rs : List Record) (table : List Standing) (n p : ℕ) (d : Standing) → table ≡ map (standing_of rs) (range_with_len 0 n) → p < n
    → get_or table p d ≡ standing_of rs p
standings-at rs table n p d e lt = ap (λ xs. get_or xs p d) e ∙ get_or-map-range_with_len (standing_of rs) 0 n p p d lt (omega arith)

-- of all nodes
pub standings-all : (rs : List Record) (table : List Standing) → table ≡ map (standing_of rs) (places rs) → length table ≡ length rs
standings-all rs table e = standings-length rs table (length rs) e

-- one node more
pub standings_more : (rs : List Record) (old new : List Standing) (n k : ℕ) (s : Standing) → new ≡ old ++ s ∷ []
    → old ≡ map (standing_of rs) (range_with_len 0 n) → s ≡ standing_of rs k → k ≡ n → new ≡ map (standing_of rs) (range_with_len 0 (n + 1))
standings_more rs old new n k s pushed e h same =
    pushed ∙ ap (λ (xs : List Standing). xs ++ s ∷ []) e
    ∙ ap (λ (x : Standing). map (standing_of rs) (range_with_len 0 n) ++ x ∷ []) (h ∙ ap (standing_of rs) same)
    ∙ sym (map-range_with_len_more (standing_of rs) 0 n n (zero-add n))

-- ---- the parent of a node, whose standing was found, or none
record HasParent (rs : List Record) (n : ℕ) (s : Standing) : Type 0 where
  place : ℕ
  parent : (at rs n).parent ≡ Some place
  stands : s ≡ standing_of rs place

parent-of : (rs : List Record) (n : ℕ) (s : Standing) → Some s ≡ option_map (standing_of rs) (at rs n).parent → HasParent rs n s
parent-of rs n s e = by_parent (at rs n).parent refl e
  where
    by_parent : (o : Option ℕ) → (at rs n).parent ≡ o → Some s ≡ option_map (standing_of rs) o → HasParent rs n s
    by_parent None a b = absurd (none-some s (sym b))
    by_parent (Some p) a b = record { place = p; parent = a; stands = cc (b) }

no-parent : (rs : List Record) (n : ℕ) → ◌≡◌ {A = Option Standing} None (option_map (standing_of rs) (at rs n).parent) → (at rs n).parent ≡ None
no-parent rs n e = by_parent (at rs n).parent refl e
  where
    by_parent : (o : Option ℕ) → (at rs n).parent ≡ o → ◌≡◌ {A = Option Standing} None (option_map (standing_of rs) o) → (at rs n).parent ≡ None
    by_parent None a b = a
    by_parent (Some p) a b = absurd (none-some (standing_of rs p) b)

-- ---- how many nodes are around a node
chain-le : (f : ℕ) (rs : List Record) (n : ℕ) → length (chain f rs n) ≤ f
unfolding chain
chain-le zero rs n = omega arith
chain-le (suc f) rs n = omega (arith, behind (at rs n).parent (λ p. chain-le f rs p))
  where
    behind : (o : Option ℕ) → ((p : ℕ) → length (chain f rs p) ≤ f) → length (option_map_or (chain f rs) o []) ≤ f
    behind None again = omega arith
    behind (Some p) again = again p

pub depth-fits : (rs : List Record) → IsTree rs → (n : ℕ) (s : Standing) → n < length rs → Some s ≡ option_map (standing_of rs) (at rs n).parent
    → n < 8000000 → s.depth + 1 < 4294967296
depth-fits rs tree n s inside e few =
    let h = parent-of rs n s e in
    let before : h.place < n = parent-before rs tree n h.place inside h.parent in
    let depth : s.depth ≡ length (ancestors_or_self rs h.place) = ap (λ t. t.depth) h.stands in
    omega (arith, before, depth, chain-le (h.place + 1) rs h.place, few)

pub depth-in : (rs : List Record) → IsTree rs → (n : ℕ) (s : Standing) → n < length rs → Some s ≡ option_map (standing_of rs) (at rs n).parent
    → s.depth + 1 ≡ length (ancestors_or_self rs n)
depth-in rs tree n s inside e =
    let h = parent-of rs n s e in
    let depth : s.depth ≡ length (ancestors_or_self rs h.place) = ap (λ t. t.depth) h.stands in
    omega (arith, depth, ap length (around-some rs tree n h.place inside h.parent))

pub depth-alone : (rs : List Record) (n : ℕ) → ◌≡◌ {A = Option Standing} None (option_map (standing_of rs) (at rs n).parent)
    → 1 ≡ length (ancestors_or_self rs n)
depth-alone rs n e = ap length (sym (around-none rs n (no-parent rs n e)))

-- ---- whether a node is looked at
pub seen_in : (rs : List Record) → IsTree rs → (n : ℕ) (s : Standing) → n < length rs → Some s ≡ option_map (standing_of rs) (at rs n).parent
    → (tag : Tag) → tag ≡ tag_of rs n → ((is_document_element rs n || shows s.reading tag) && s.is_seen) ≡ is_seen rs n
seen_in rs tree n s inside e tag tagged =
    let h = parent-of rs n s e in
    ap (λ (t : Standing). (is_document_element rs n || shows t.reading tag) && t.is_seen) h.stands
    ∙ ap (λ (x : Tag). (is_document_element rs n || shows (reading_of rs h.place) x) && is_seen rs h.place) tagged
    ∙ ap (λ (o : Option ℕ). option_map_or (λ q. shows_at rs q n) o true && is_seen rs h.place) (sym h.parent)
    ∙ ap (list_all (is_shown rs)) (sym (around-some rs tree n h.place inside h.parent))

pub seen_alone : (rs : List Record) (n : ℕ) → ◌≡◌ {A = Option Standing} None (option_map (standing_of rs) (at rs n).parent) → true ≡ is_seen rs n
seen_alone rs n e =
    let none = no-parent rs n e in
    ap (λ (o : Option ℕ). option_map_or (λ q. shows_at rs q n) o true && true) (sym none) ∙ ap (list_all (is_shown rs)) (sym (around-none rs n none))

-- ---- white space, by how the parent of a node stands
pub preserves_in : (rs : List Record) → IsTree rs → (n : ℕ) → n < length rs → (parent : Option Standing) (around : Bool)
    → parent ≡ option_map (standing_of rs) (at rs n).parent → around ≡ option_map_or (λ s. s.preserves) parent false
    → unwrap_or (own_space rs n) around ≡ preserves rs n
preserves_in rs tree n inside parent around e h =
    by_parent (at rs n).parent refl (h ∙ ap (λ (o : Option Standing). option_map_or (λ s. s.preserves) o false) e)
  where
    by_parent : (o : Option ℕ) → (at rs n).parent ≡ o → around ≡ option_map_or (λ s. s.preserves) (option_map (standing_of rs) o) false
        → unwrap_or (own_space rs n) around ≡ preserves rs n
    by_parent None p h = ap (unwrap_or (own_space rs n)) h ∙ ap (first_said rs) (sym (around-none rs n p))
    by_parent (Some q) p h = ap (unwrap_or (own_space rs n)) h ∙ ap (first_said rs) (sym (around-some rs tree n q inside p))

-- ---- namespaces that are in force
-- none, before the first node
pub none_declared : (rs : List Record) (ns : Namespaces) → ((uri : List ℕ) (place : ℕ) → in_force_at ns.extensions uri [] place ≡ false)
    → ((uri : List ℕ) (place : ℕ) → in_force_at ns.excluded uri [] place ≡ false) → AreNamespaces rs 0 ns
unfolding any_around
none_declared rs ns e x = record { extensions = λ uri k from inside. e uri k; excluded = λ uri k from inside. x uri k }

-- those of the next node as well, by the pairs in scope there
module _ (rs : List Record) (n end : ℕ) where
  pub declared_more : (old new : Namespaces) → IsTree rs → EndsAt rs n end → AreNamespaces rs n old
      → (pairs : List (List ℕ × List ℕ)) → pairs ≡ scope_at rs n → (extensions excluded : Option (List ℕ)) → extensions ≡ extension_value (tag_of rs n) rs n
      → excluded ≡ excluded_value (reading_of rs n) (tag_of rs n) rs n
      → ((uri : List ℕ) (k : ℕ) → in_force_at new.extensions uri [] k ≡ (is_meant pairs uri extensions && nat_lt k end || in_force_at old.extensions uri [] k))
      → ((uri : List ℕ) (k : ℕ) → in_force_at new.excluded uri [] k ≡ (is_meant pairs uri excluded && nat_lt k end || in_force_at old.excluded uri [] k))
      → AreNamespaces rs (n + 1) new
  declared_more old new tree ends a pairs same extensions excluded e x h g = record {
    extensions = λ uri k from inside.
        declared_next (declares_extension rs uri) rs n end k tree ends from inside (is_meant pairs uri extensions)
        (in_force_at old.extensions uri [] k) (in_force_at new.extensions uri [] k)
        (ap (λ ps. is_meant ps uri extensions) same ∙ ap (is_meant (scope_at rs n) uri) e)
        (a.extensions uri k (omega (arith, from)) inside) (h uri k);
    excluded = λ uri k from inside.
        declared_next (excludes rs uri) rs n end k tree ends from inside (is_meant pairs uri excluded)
        (in_force_at old.excluded uri [] k) (in_force_at new.excluded uri [] k)
        (ap (λ ps. is_meant ps uri excluded) same ∙ ap (is_meant (scope_at rs n) uri) x)
        (a.excluded uri k (omega (arith, from)) inside) (g uri k);
  }

  -- of the next node its extensions alone
  pub extension_next : (old : Namespaces) (new : InForce) → IsTree rs → EndsAt rs n end → n < length rs → AreNamespaces rs n old
      → (pairs : List (List ℕ × List ℕ)) → pairs ≡ scope_at rs n → (extensions : Option (List ℕ)) → extensions ≡ extension_value (tag_of rs n) rs n
      → ((uri : List ℕ) (k : ℕ) → in_force_at new uri [] k ≡ (is_meant pairs uri extensions && nat_lt k end || in_force_at old.extensions uri [] k))
      → in_force_at new (uri_at rs n) [] n ≡ is_in_extension rs n
  extension_next old new tree ends inside a pairs same extensions e h =
      let uri = uri_at rs n in
      declared_next (declares_extension rs uri) rs n end n tree ends (omega arith) inside (is_meant pairs uri extensions)
      (in_force_at old.extensions uri [] n) (in_force_at new uri [] n)
      (ap (λ ps. is_meant ps uri extensions) same ∙ ap (is_meant (scope_at rs n) uri) e)
      (a.extensions uri n (omega arith) inside) (h uri n)
      ∙ around-is (declares_extension rs uri) rs n tree inside

-- a node is of an extension where its namespace is in force
pub extension_is : (rs : List Record) (n : ℕ) (ns : Namespaces) → IsTree rs → n < length rs → AreNamespaces rs (n + 1) ns
    → in_force_at ns.extensions (uri_at rs n) [] n ≡ is_in_extension rs n
extension_is rs n ns tree inside a =
    a.extensions (uri_at rs n) n (omega arith) inside ∙ around-is (declares_extension rs (uri_at rs n)) rs n tree inside

-- ---- namespaces that are left out, by what is in force
pub left_out_is : (rs : List Record) → IsTree rs → (n : ℕ) → n < length rs → (ns : Namespaces) → AreNamespaces rs (n + 1) ns → (uri : List ℕ)
    → is_left_out_by ns n uri ≡ is_left_out rs n uri
left_out_is rs tree n inside ns a uri =
    ap (λ x. bytes_eq uri xslt_uri || bytes_eq uri xml_uri || x || in_force_at ns.excluded uri [] n)
    (a.extensions uri n (omega arith) inside ∙ around-is (declares_extension rs uri) rs n tree inside)
    ∙ ap (λ x. bytes_eq uri xslt_uri || bytes_eq uri xml_uri || list_any (declares_extension rs uri) (ancestors_or_self rs n) || x)
    (a.excluded uri n (omega arith) inside ∙ around-is (excludes rs uri) rs n tree inside)

-- ---- a node that is no element declares nothing, so that a namespace node leaves out what its element does
module _ (rs : List Record) (n : ℕ) (other : is_element_kind (at rs n).kind ≡ false) where
  no_tag : tag_of rs n ≡ NoElement
  no_tag = rw other refl

  pub no_extension : (uri : List ℕ) → declares_extension rs uri n ≡ false
  no_extension uri =
      ap (λ tag. option_map_or (λ value. list_any (means_uri (scope_at rs n) uri) (words value)) (extension_value tag rs n) false) no_tag

  pub excludes_nothing : (uri : List ℕ) → excludes rs uri n ≡ false
  excludes_nothing uri =
      ap (λ tag. option_map_or (λ value. list_any (means_uri (scope_at rs n) uri) (words value))
      (excluded_value (reading_by tag (is_top_level rs n) (is_in_extension rs n)) tag rs n) false) no_tag

  -- what its parent leaves out it leaves out
  pub left_out_of_parent : IsTree rs → n < length rs → (p : ℕ) → (at rs n).parent ≡ Some p → (uri : List ℕ)
      → is_left_out rs n uri ≡ is_left_out rs p uri
  left_out_of_parent tree inside p e uri =
      ap (λ x. bytes_eq uri xslt_uri || bytes_eq uri xml_uri || x || list_any (excludes rs uri) (ancestors_or_self rs n))
      (behind (declares_extension rs uri) (no_extension uri))
      ∙ ap (λ x. bytes_eq uri xslt_uri || bytes_eq uri xml_uri || list_any (declares_extension rs uri) (ancestors_or_self rs p) || x)
      (behind (excludes rs uri) (excludes_nothing uri))
    where
      behind : (test : ℕ → Bool) → test n ≡ false → list_any test (ancestors_or_self rs n) ≡ list_any test (ancestors_or_self rs p)
      behind test none = ap (list_any test) (around-some rs tree n p inside e) ∙ ap (λ b. b || list_any test (ancestors_or_self rs p)) none
