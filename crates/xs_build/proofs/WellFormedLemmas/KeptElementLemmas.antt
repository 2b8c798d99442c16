-- Each element that was given stays whole with each node that is given later.
use Rattle.std.proofs.Common.{◌≡◌, ℕ, zero, suc, ◌+◌, ◌-◌, ◌<◌, ◌≤◌, List, [], ◌∷◌, ◌++◌, Option, None, Some, Bool, true, false, sym, ◌∙◌, ap, subst, length}
use Rattle.std.proofs.Common.{filter, inl, inr, append-nil, length-append, below_more, eqb-true, arith}
use Rattle.std.specs.Prelude.{not, ◌==◌}
use Rattle.std.specs.List.{AllByRecursion, list_any}
use Rattle.std.proofs.Math.Nat.{eq-or-lt_of_le}
use Rattle.std.proofs.Math.Seq.{get_or-append_seam, get_or-append_right}
use Rattle.std.proofs.lemmas.Bool.{cases_Bool}
use Rattle.std.proofs.lemmas.List.{length-map}
use Rattle.std.proofs.lemmas.List.Elements.{filter-append}
use Rattle.xs_tree.specs.declared.kinds.Kind.TheVariants as kinds
use Rattle.xs_tree.specs.declared.names.Name.{Name}
use Rattle.xs_tree.specs.Kinds.{is_attribute_kind, is_namespace_kind}
use Rattle.xs_tree.specs.Record.{Record, root_record, at}
use Rattle.xs_tree.proofs.ShapeLemmas.{at-append, at-added, length-added}
use Rattle.xs_tree.proofs.WalkLemmas.{le_or_gt}
use Rattle.xs_build.specs.declared.tag_names.Expanded.{Expanded}
use Rattle.xs_build.specs.declared.opened.Opened.{Opened}
use Rattle.xs_build.specs.Namespaces.{Bindings, QName, is_empty, element_name}
use Rattle.xs_build.specs.steps.Lines.{innermost, scope_of, expanded, same_name}
use Rattle.xs_build.specs.Nodes.{element, attribute, space, spaces}
use Rattle.xs_build.proofs.WellFormedLemmas.ScopeLemmas.{IsScope, IsWritten, has_key}
use Rattle.xs_build.proofs.WellFormedLemmas.OwnNodeLemmas.{hands_on, own_spaces, own_attributes, owns_space, owns_attribute, is_scoped, IsWhole}
use Rattle.xs_build.proofs.WellFormedLemmas.NewElementLemmas.{IsNamed, spaces_named, element_qname, spaces_handed, Tagged, tagged_none, tagged_more, tagged_added}
use Rattle.xs_build.proofs.WellFormedLemmas.NewElementLemmas.{all_flipped, Quiet, quiet_kind, quiet_attribute, attribute_no_space, own_attribute, quiet_element}
use Rattle.xs_build.proofs.WellFormedLemmas.NewElementLemmas.{own_element, new_whole, whole_added}

-- the open elements have the namespace nodes of their bindings
abbrev pub Opens : List Record → List Opened → Type 0
Opens rs [] = Unit {0}
Opens rs (o ∷ os) = (o.node < length rs) × (own_spaces o.node rs ≡ spaces o.node o.scope) × IsScope o.scope × Opens rs os

abbrev pub Tags : List Record → List Opened → Option (List Expanded) → Type 0
Tags rs os None = Unit {0}
Tags rs [] (Some seen) = ⊥
Tags rs (o ∷ os) (Some seen) = Tagged (own_attributes o.node rs) seen

abbrev pub Whole : List Record → ℕ → Type 0
Whole rs n = IsWhole (at rs n) (own_spaces n rs) (own_attributes n rs)

-- an element inside another one has each prefix of that
abbrev pub Handed : List Record → ℕ → Type 0
Handed rs n = (p : ℕ) → (at rs n).parent ≡ Some p → (p < n) × (hands_on (own_spaces p rs) (own_spaces n rs) ≡ true)

-- what holds of all nodes so far: each is well named, and each element has the prefixes of the one around it
pub record Based (rs : List Record) : Type 0 where
  pub some : 0 < length rs
  pub bare : own_spaces 0 rs ≡ []
  pub names : AllByRecursion IsNamed rs
  pub handed : (n : ℕ) → n < length rs → (at rs n).kind ≡ kinds.Element → Handed rs n

pub record Holds (rs : List Record) (count : ℕ) (os : List Opened) (tag : Option (List Expanded)) : Type 0 where
  pub counted : length rs ≡ count
  pub based : Based rs
  pub whole : (n : ℕ) → n < length rs → (at rs n).kind ≡ kinds.Element → Whole rs n
  pub later : (n : ℕ) → length rs ≤ n → Quiet n rs
  pub around : Opens rs os
  pub named : Tags rs os tag

-- nodes at the end
own_none : (t : Record → Bool) (rs xs : List Record) → filter t xs ≡ [] → filter t (rs ++ xs) ≡ filter t rs
own_none t rs xs e = filter-append t rs xs ∙ ap (λ (ys : List Record). filter t rs ++ ys) e ∙ append-nil (filter t rs)

own_more : (t : Record → Bool) (rs xs ys : List Record) → filter t xs ≡ ys → filter t (rs ++ xs) ≡ filter t rs ++ ys
own_more t rs xs ys e = filter-append t rs xs ∙ ap (λ (zs : List Record). filter t rs ++ zs) e

own_first : (t : Record → Bool) (rs xs ys : List Record) → filter t rs ≡ [] → filter t xs ≡ ys → filter t (rs ++ xs) ≡ ys
own_first t rs xs ys none e = filter-append t rs xs ∙ ap (λ (zs : List Record). zs ++ filter t xs) none ∙ e

whole_is : (rs : List Record) (n : ℕ) (e : Record) (ss attrs : List Record) → at rs n ≡ e → own_spaces n rs ≡ ss → own_attributes n rs ≡ attrs
    → IsWhole e ss attrs → Whole rs n
whole_is rs n e ss attrs here spaces_are attributes_are w =
    subst (λ (r : Record). IsWhole r (own_spaces n rs) (own_attributes n rs)) (sym here)
    (subst (λ (xs : List Record). IsWhole e xs (own_attributes n rs)) (sym spaces_are)
    (subst (λ (xs : List Record). IsWhole e ss xs) (sym attributes_are) w))

whole_kept : (rs xs : List Record) (n : ℕ) → n < length rs → Quiet n xs → Whole rs n → Whole (rs ++ xs) n
whole_kept rs xs n h q w =
    whole_is (rs ++ xs) n (at rs n) (own_spaces n rs) (own_attributes n rs) (at-append rs xs n h) (own_none (owns_space n) rs xs q.0)
    (own_none (owns_attribute n) rs xs q.1) w

kind_kept : (rs xs : List Record) (n : ℕ) → n < length rs → (at (rs ++ xs) n).kind ≡ kinds.Element → (at rs n).kind ≡ kinds.Element
kind_kept rs xs n h e = ap (λ (r : Record). r.kind) (sym (at-append rs xs n h)) ∙ e

quiet_append : (n : ℕ) (rs xs : List Record) → Quiet n rs → Quiet n xs → Quiet n (rs ++ xs)
quiet_append n rs xs r q = (own_none (owns_space n) rs xs q.0 ∙ r.0, own_none (owns_attribute n) rs xs q.1 ∙ r.1)

opens_kept : (rs xs : List Record) (os : List Opened) → ((n : ℕ) → n < length rs → own_spaces n xs ≡ []) → Opens rs os → Opens (rs ++ xs) os
opens_kept rs xs [] q a = tt
opens_kept rs xs (o ∷ os) q a = (
  omega (arith, length-append rs xs, a.0),
  own_none (owns_space o.node) rs xs (q o.node a.0) ∙ a.1,
  a.2,
  opens_kept rs xs os q a.3,
)

-- what holds of all nodes holds of them with more
all_appended : (P : Record → Type 0) (rs xs : List Record) → AllByRecursion P rs → AllByRecursion P xs → AllByRecursion P (rs ++ xs)
all_appended P [] xs a b = b
all_appended P (r ∷ rs) xs a b = (a.0, all_appended P rs xs a.1 b)

handed_is : (rs xs : List Record) (p n : ℕ) → n < length rs → p < n → ((m : ℕ) → m < length rs → own_spaces m xs ≡ [])
    → hands_on (own_spaces p rs) (own_spaces n rs) ≡ true → hands_on (own_spaces p (rs ++ xs)) (own_spaces n (rs ++ xs)) ≡ true
handed_is rs xs p n h before q e =
    ap (λ (ss : List Record). hands_on ss (own_spaces n (rs ++ xs))) (own_none (owns_space p) rs xs (q p (omega (arith, before, h))))
    ∙ ap (λ (ss : List Record). hands_on (own_spaces p rs) ss) (own_none (owns_space n) rs xs (q n h)) ∙ e

handed_kept : (rs xs : List Record) (n : ℕ) → n < length rs → ((m : ℕ) → m < length rs → own_spaces m xs ≡ []) → Handed rs n → Handed (rs ++ xs) n
handed_kept rs xs n h q w p is =
    let old = w p (ap (λ (r : Record). r.parent) (sym (at-append rs xs n h)) ∙ is) in
    (old.0, handed_is rs xs p n h old.0 q old.1)

based_more : (rs xs : List Record) → ((m : ℕ) → m < length rs → own_spaces m xs ≡ []) → AllByRecursion IsNamed xs
    → ((n : ℕ) → length rs ≤ n → n < length (rs ++ xs) → (at (rs ++ xs) n).kind ≡ kinds.Element → Handed (rs ++ xs) n) → Based rs → Based (rs ++ xs)
based_more rs xs q names new b = record {
  some = omega (arith, length-append rs xs, b.some);
  bare = own_none (owns_space 0) rs xs (q 0 b.some) ∙ b.bare;
  names = all_appended IsNamed rs xs b.names names;
  handed = λ n h e. elim (le_or_gt (length rs) n) [
    | inr before ↦ handed_kept rs xs n before q (b.handed n before (kind_kept rs xs n before e))
    | inl le ↦ new n le h e
  ];
}

-- one more that is no element
based_one : (rs : List Record) (r : Record) → ((m : ℕ) → m < length rs → own_spaces m (r ∷ []) ≡ []) → IsNamed r → (r.kind ≡ kinds.Element → ⊥) → Based rs
    → Based (rs ++ r ∷ [])
based_one rs r q name other b =
    based_more rs (r ∷ []) q (name, tt)
    (λ n le h e. (let here : n ≡ length rs = omega (arith, le, h, length-added rs r) in
    absurd (other (ap (λ (x : Record). x.kind) (sym (at-added rs r)) ∙ ap (λ i. (at (rs ++ r ∷ []) i).kind) (sym here) ∙ e))))
    b

before_later : (rs xs : List Record) (n : ℕ) → length (rs ++ xs) ≤ n → length rs ≤ n
before_later rs xs n h = omega (arith, length-append rs xs)

apart : (p n : ℕ) → (p ≡ n → ⊥) → (p == n) ≡ false
apart p n h = grind (arith, h)

apart_before : (p n : ℕ) → n < p → (p == n) ≡ false
apart_before p n h = apart p n (λ e. omega arith)

apart_behind : (p n : ℕ) → p < n → (p == n) ≡ false
apart_behind p n h = apart p n (λ e. omega arith)

-- a node that is no element, no attribute and no namespace node
pub one_added : (rs : List Record) (r : Record) (count : ℕ) (os : List Opened) (tag : Option (List Expanded)) → is_namespace_kind r.kind ≡ false
    → is_attribute_kind r.kind ≡ false → (r.kind ≡ kinds.Element → ⊥) → IsNamed r →
    Holds rs count os tag → Holds (rs ++ r ∷ []) (count + 1) os None
one_added rs r count os tag a b c name h = record {
  based = based_one rs r (λ n w. (quiet_kind n r a b).0) name c h.based;
  counted = length-added rs r ∙ ap (λ n. n + 1) h.counted;
  whole = λ n w e. below_more (λ j. (at (rs ++ r ∷ []) j).kind ≡ kinds.Element → Whole (rs ++ r ∷ []) j) (length rs)
      (λ j k f. whole_kept rs (r ∷ []) j k (quiet_kind j r a b) (h.whole j k (kind_kept rs (r ∷ []) j k f)))
      (λ f. absurd (c (ap (λ (x : Record). x.kind) (sym (at-added rs r)) ∙ f)))
      n (omega (arith, w, length-added rs r)) e;
  later = λ n w. quiet_append n rs (r ∷ []) (h.later n (before_later rs (r ∷ []) n w)) (quiet_kind n r a b);
  around = opens_kept rs (r ∷ []) os (λ n w. (quiet_kind n r a b).0) h.around;
  named = tt;
}

-- no node
pub none_added : (rs : List Record) (count : ℕ) (os around : List Opened) (tag : Option (List Expanded)) → Opens rs around → Holds rs count os tag
    → Holds (rs ++ []) (count + 0) around None
none_added rs count os around tag a h =
    let same : count + 0 ≡ count = omega arith in
    rw (append-nil rs, same) (record { counted = h.counted; based = h.based; whole = h.whole; later = h.later; around = a; named = tt })

-- one more name in the start tag
pub tag_added : (rs : List Record) (count : ℕ) (os : List Opened) (seen : List Expanded) (x : Expanded) → Holds rs count os (Some seen)
    → Holds (rs ++ []) count os (Some (seen ++ x ∷ []))
tag_added rs count [] seen x h = absurd h.named
tag_added rs count (o ∷ os) seen x h =
    rw (append-nil rs) (record {
      counted = h.counted;
      based = h.based;
      whole = h.whole;
      later = h.later;
      around = h.around;
      named = tagged_more (own_attributes o.node rs) seen x h.named;
    })

-- an attribute
attribute_whole : (rs : List Record) (o : Opened) (full : Name) (value : List ℕ) (seen : List Expanded) → o.node < length rs
    → own_spaces o.node rs ≡ spaces o.node o.scope → Tagged (own_attributes o.node rs) seen →
    is_scoped (spaces o.node o.scope) (attribute full value o.node) ≡ true → list_any (same_name (expanded full)) seen ≡ false → Whole rs o.node
    → Whole (rs ++ attribute full value o.node ∷ []) o.node
attribute_whole rs o full value seen within alike tagged scoped new w =
    let a : Record = attribute full value o.node in
    whole_is (rs ++ a ∷ []) o.node (at rs o.node) (own_spaces o.node rs) (own_attributes o.node rs ++ a ∷ []) (at-append rs (a ∷ []) o.node within)
    (own_none (owns_space o.node) rs (a ∷ []) (attribute_no_space o.node o.node full value))
    (own_more (owns_attribute o.node) rs (a ∷ []) (a ∷ []) (own_attribute o.node full value))
    (whole_added (at rs o.node) (own_spaces o.node rs) (own_attributes o.node rs) a w (ap (λ (ys : List Record). is_scoped ys a) alike
    ∙ scoped) (all_flipped (own_attributes o.node rs) a (tagged (expanded full) new)))

pub attribute_added : (rs : List Record) (count : ℕ) (o : Opened) (os : List Opened) (seen : List Expanded) (full : Name) (value : List ℕ)
    → is_scoped (spaces o.node o.scope) (attribute full value o.node) ≡ true → list_any (same_name (expanded full)) seen ≡ false
    → IsNamed (attribute full value o.node) →
    Holds rs count (o ∷ os) (Some seen) → Holds (rs ++ attribute full value o.node ∷ []) (count + 1) (o ∷ os) (Some (seen ++ expanded full ∷ []))
attribute_added rs count o os seen full value scoped new name h =
    let a : Record = attribute full value o.node in
    let attrs : own_attributes o.node (rs ++ a ∷ []) ≡ own_attributes o.node rs ++ a ∷ [] =
    own_more (owns_attribute o.node) rs (a ∷ []) (a ∷ []) (own_attribute o.node full value) in
    record {
      counted = length-added rs a ∙ ap (λ n. n + 1) h.counted;
      based = based_one rs a (λ n w. attribute_no_space n o.node full value) name (λ e. cc) h.based;
      whole = λ n w e. below_more (λ j. (at (rs ++ a ∷ []) j).kind ≡ kinds.Element → Whole (rs ++ a ∷ []) j) (length rs)
          (λ j k f. elim (cases_Bool (o.node == j)) [
            | inl t ↦ subst (λ i. Whole (rs ++ a ∷ []) i) (eqb-true o.node j t)
                (attribute_whole rs o full value seen h.around.0 h.around.1 h.named scoped new
                (h.whole o.node h.around.0 (subst (λ i. (at rs i).kind ≡ kinds.Element) (sym (eqb-true o.node j t)) (kind_kept rs (a ∷ []) j k f))))
            | inr t ↦ whole_kept rs (a ∷ []) j k (quiet_attribute j o.node full value t) (h.whole j k (kind_kept rs (a ∷ []) j k f))
          ])
          (λ f. absurd (let no : kinds.Attribute ≡ kinds.Element = ap (λ (x : Record). x.kind) (sym (at-added rs a)) ∙ f in cc))
          n (omega (arith, w, length-added rs a)) e;
      later = λ n w. quiet_append n rs (a ∷ []) (h.later n (before_later rs (a ∷ []) n w))
          (quiet_attribute n o.node full value (apart_behind o.node n (omega (arith, w, h.around.0, length-added rs a))));
      around = opens_kept rs (a ∷ []) (o ∷ os) (λ n w. attribute_no_space n o.node full value) h.around;
      named = subst (λ (ys : List Record). Tagged ys (seen ++ expanded full ∷ [])) (sym attrs) (tagged_added (own_attributes o.node rs) seen a h.named);
    }

-- an element and its namespace nodes
no_element : (p : ℕ) (scope : Bindings) (j : ℕ) → (at (spaces p scope) j).kind ≡ kinds.Element → ⊥
no_element p [] j e = cc
no_element p (b ∷ scope) zero e = cc
no_element p (b ∷ scope) (suc j) e = no_element p scope j e

behind_element : (rs : List Record) (r : Record) (p : ℕ) (scope : Bindings) (n : ℕ) → length rs < n → (at (rs ++ r ∷ spaces p scope) n).kind ≡ kinds.Element → ⊥
behind_element rs r p scope n h e =
    let there : at (rs ++ r ∷ spaces p scope) n ≡ at (r ∷ spaces p scope) (n - length rs) =
    get_or-append_right rs (r ∷ spaces p scope) n root_record (omega arith) in
    let more : n - length rs ≡ suc (n - length rs - 1) = omega arith in
    no_element p scope (n - length rs - 1) (ap (λ i. (at (r ∷ spaces p scope) i).kind) (sym more) ∙ ap (λ (x : Record). x.kind) (sym there) ∙ e)

element_here : (rs : List Record) (w : QName) (p parent : ℕ) (full : Name) (scope : Bindings) → length rs ≡ p → Quiet p rs → IsScope scope
    → element_name scope w ≡ Some full → Whole (rs ++ element full parent ∷ spaces p scope) p
element_here rs w p parent full scope is quiet s named =
    let xs : List Record = element full parent ∷ spaces p scope in
    let own : (own_spaces p xs ≡ spaces p scope) × (own_attributes p xs ≡ []) = own_element p parent full scope in
    whole_is (rs ++ xs) p (element full parent) (spaces p scope) []
    (ap (λ i. at (rs ++ xs) i) (sym is) ∙ get_or-append_seam rs (element full parent) (spaces p scope) root_record)
    (own_first (owns_space p) rs xs (spaces p scope) quiet.0 own.0) (own_first (owns_attribute p) rs xs [] quiet.1 own.1)
    (new_whole p scope w parent full s named)

element_counted : (rs : List Record) (full : Name) (p parent : ℕ) (scope : Bindings) → length rs ≡ p
    → length (rs ++ element full parent ∷ spaces p scope) ≡ p + 1 + length scope
element_counted rs full p parent scope is = omega (arith, is, length-append rs (element full parent ∷ spaces p scope), length-map scope (space p))

handed_here : (rs : List Record) (p : ℕ) (os : List Opened) (full : Name) (scope : Bindings) → length rs ≡ p → 0 < length rs → own_spaces 0 rs ≡ []
    → Opens rs os → ((q : List ℕ) → is_empty q ≡ false → has_key q (scope_of os) ≡ true → has_key q scope ≡ true) →
    (innermost os < p) × (hands_on (own_spaces (innermost os) rs) (spaces p scope) ≡ true)
handed_here rs p [] full scope is some bare a keys = (omega (arith, is, some), ap (λ (ss : List Record). hands_on ss (spaces p scope)) bare)
handed_here rs p (o ∷ os) full scope is some bare a keys = (
  omega (arith, is, a.0),
  ap (λ (ss : List Record). hands_on ss (spaces p scope)) a.1 ∙ ap not (spaces_handed o.node p o.scope scope keys),
)

new_handed : (rs : List Record) (p parent : ℕ) (full : Name) (scope : Bindings) → length rs ≡ p → Quiet p rs → (parent < p)
    × (hands_on (own_spaces parent rs) (spaces p scope) ≡ true) → Handed (rs ++ element full parent ∷ spaces p scope) p
new_handed rs p parent full scope is quiet h q to =
    let xs : List Record = element full parent ∷ spaces p scope in
    let own : (own_spaces p xs ≡ spaces p scope) × (own_attributes p xs ≡ []) = own_element p parent full scope in
    let here : at (rs ++ xs) p ≡ element full parent = ap (λ i. at (rs ++ xs) i) (sym is)
    ∙ get_or-append_seam rs (element full parent) (spaces p scope) root_record in
    let to_parent : Some parent ≡ Some q = ap (λ (r : Record). r.parent) (sym here) ∙ to in
    let same : parent ≡ q = cc in
    subst (λ i. (i < p) × (hands_on (own_spaces i (rs ++ xs)) (own_spaces p (rs ++ xs)) ≡ true)) same (
      h.0,
      ap (λ (ss : List Record). hands_on ss (own_spaces p (rs ++ xs)))
          (own_none (owns_space parent) rs xs (quiet_element parent p parent full scope (apart_before p parent h.0)).0)
          ∙ ap (λ (ss : List Record). hands_on (own_spaces parent rs) ss) (own_first (owns_space p) rs xs (spaces p scope) quiet.0 own.0) ∙ h.1,
    )

pub element_added : (rs : List Record) (p : ℕ) (os : List Opened) (tag : Option (List Expanded)) (w : QName) (name : List ℕ) (full : Name) (scope : Bindings)
    → IsScope scope → IsWritten w → ((q : List ℕ) → is_empty q ≡ false → has_key q (scope_of os) ≡ true → has_key q scope ≡ true)
    → element_name scope w ≡ Some full →
    Holds rs p os tag → Holds (rs ++ element full (innermost os) ∷ spaces p scope) (p + 1 + length scope) (record {
      name = name;
      node = p;
      scope = scope;
    } ∷ os) (Some [])
element_added rs p os tag w name full scope s written keys found h =
    let parent : ℕ = innermost os in
    let xs : List Record = element full parent ∷ spaces p scope in
    let counted : length (rs ++ xs) ≡ p + 1 + length scope = element_counted rs full p parent scope h.counted in
    let own : (own_spaces p xs ≡ spaces p scope) × (own_attributes p xs ≡ []) = own_element p parent full scope in
    let none : Quiet p rs = h.later p (omega (arith, h.counted)) in
    let quiet : (n : ℕ) → n < length rs → Quiet n xs = λ n k. quiet_element n p parent full scope (apart_before p n (omega (arith, k, h.counted))) in
    let ss : own_spaces p (rs ++ xs) ≡ spaces p scope = own_first (owns_space p) rs xs (spaces p scope) none.0 own.0 in
    let attrs : own_attributes p (rs ++ xs) ≡ [] = own_first (owns_attribute p) rs xs [] none.1 own.1 in
    let handed : (parent < p) × (hands_on (own_spaces parent rs) (spaces p scope) ≡ true) =
    handed_here rs p os full scope h.counted h.based.some h.based.bare h.around keys in
    record {
      counted = counted;
      based = based_more rs xs (λ n k. (quiet n k).0) (element_qname scope w full parent written found, spaces_named p scope s.allowed)
          (λ n le k e. elim (eq-or-lt_of_le le) [
            | inl same ↦ subst (λ i. Handed (rs ++ xs) i) (sym h.counted ∙ same) (new_handed rs p parent full scope h.counted none handed)
            | inr behind ↦ absurd (behind_element rs (element full parent) p scope n behind e)
          ])
          h.based;
      whole = λ n k e. elim (le_or_gt (length rs) n) [
        | inr before ↦ whole_kept rs xs n before (quiet n before) (h.whole n before (kind_kept rs xs n before e))
        | inl le ↦ elim (eq-or-lt_of_le le) [
          | inl same ↦ subst (λ i. Whole (rs ++ xs) i) (sym h.counted ∙ same) (element_here rs w p parent full scope h.counted none s found)
          | inr behind ↦ absurd (behind_element rs (element full parent) p scope n behind e)
        ]
      ];
      later = λ n k. quiet_append n rs xs (h.later n (before_later rs xs n k))
          (quiet_element n p parent full scope (apart_behind p n (omega (arith, k, counted))));
      around = (omega (arith, counted), ss, s, opens_kept rs xs os (λ n k. (quiet n k).0) h.around);
      named = subst (λ (ys : List Record). Tagged ys []) (sym attrs) tagged_none;
    }
