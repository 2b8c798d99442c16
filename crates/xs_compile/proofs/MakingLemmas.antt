-- Namespace nodes and attributes of literal elements.
use Rattle.std.proofs.Common.{◌≡◌, ◌∙◌, ◌<◌, ℕ, ap, append_assoc, refl, sym, All, arith, Bool, true, false, List, [], ◌∷◌, ◌++◌, filter, length, map}
use Rattle.std.proofs.lemmas.Bool.{and_parts, false≢true}
use Rattle.std.proofs.lemmas.List.Elements.{All-filter, filter_passes}
use Rattle.std.proofs.lemmas.Slice.Eq.{bytes_eq-Decides}
use Rattle.std.specs.Prelude.{◌&&◌, not, if◌then◌else◌}
use Rattle.std.specs.Str.{bytes_eq}
use Rattle.xs_compile.proofs.ShownLemmas.{places-within}
use Rattle.xs_structure.proofs.TopLemmas.{is_place-true}
use Rattle.xs_structure.proofs.StandingLemmas.{left_out_of_parent}
use Rattle.xs_structure.specs.Excluded.{is_left_out}
use Rattle.xs_structure.specs.Standing.{is_space_left_out}
use Rattle.xs_elements.specs.Reading.{is_xslt}
use Rattle.xs_tree.specs.declared.kinds.Kind.{Kind}
use Rattle.xs_tree.specs.declared.kinds.Kind.TheVariants.{Space}
use Rattle.xs_tree.specs.Kinds.{is_element_kind, is_namespace_kind}
use Rattle.xs_tree.specs.Record.{Record, at, attributes, is_attribute, is_namespace, is_place, places, uri_at}
use Rattle.xs_tree.specs.Shape.{IsTree}

space-other : (kind : Kind) → is_namespace_kind kind ≡ true → is_element_kind kind ≡ false
space-other Space e = refl
space-other _ e = absurd (false≢true e)

-- a namespace node is left out where its element leaves out its URI
pub space-left-out : (rs : List Record) → IsTree rs → (n s : ℕ) → s < length rs → is_namespace rs n s ≡ true
    → is_space_left_out rs s ≡ is_left_out rs n (at rs s).text
space-left-out rs tree n s inside h =
    let parts = and_parts (is_place n (at rs s).parent) (is_namespace_kind (at rs s).kind) h in
    ap (λ (b : Bool). b && is_left_out rs s (at rs s).text) parts.1
    ∙ left_out_of_parent rs s (space-other (at rs s).kind parts.1) tree inside n (is_place-true n (at rs s).parent parts.0) (at rs s).text

-- one namespace node more
pub spaces-more : {X : Type 0} (left_out : ℕ → Bool) (pair : ℕ → X) (s : ℕ) (rest : List ℕ) (old new whole : List X)
    → new ≡ (if left_out s then old else old ++ pair s ∷ []) → old ++ map pair (filter (λ s. not (left_out s)) (s ∷ rest)) ≡ whole
    → new ++ map pair (filter (λ s. not (left_out s)) rest) ≡ whole
spaces-more {X} left_out pair s rest old new whole e so =
    ap (λ (ys : List X). ys ++ map pair (filter (λ s. not (left_out s)) rest)) e ∙ pushed (left_out s) ∙ so
  where
    pushed : (b : Bool) → (if b then old else old ++ pair s ∷ []) ++ map pair (filter (λ s. not (left_out s)) rest)
        ≡ old ++ map pair (if not b then s ∷ filter (λ s. not (left_out s)) rest else filter (λ s. not (left_out s)) rest)
    pushed true = refl
    pushed false = append_assoc old (pair s ∷ []) (map pair (filter (λ s. not (left_out s)) rest))

-- the pair that comes next is that of the namespace node that does
pub pair-next : {X : Type 0} (pair : ℕ → X) (s : ℕ) (behind all : List ℕ) (x : X) (rest others : List X) → rest ≡ map pair all → all ≡ s ∷ behind
    → rest ≡ x ∷ others → (x ≡ pair s) × (others ≡ map pair behind)
pair-next {X} pair s behind all x rest others h i r =
    let e : x ∷ others ≡ pair s ∷ map pair behind = sym r ∙ h ∙ ap (map pair) i in
    (cc, cc)

-- where no pair is left no namespace node comes next
pub pair-none : {X : Type 0} (pair : ℕ → X) (s : ℕ) (behind all : List ℕ) (rest : List X) → rest ≡ map pair all → all ≡ s ∷ behind
    → length rest ≡ 0 → ⊥
pair-none {X} pair s behind all rest h i r =
    let e : rest ≡ pair s ∷ map pair behind = h ∙ ap (map pair) i in
    let size = ap length e in
    absurd (omega (arith, size, r))

-- a pair is one of two texts
abbrev Pair : Type 0
Pair = List ℕ × List ℕ

pub pair-is : (pair : Pair) (a u : List ℕ) → (bytes_eq pair.0 a && bytes_eq pair.1 u) ≡ true → ◌≡◌ {A = Pair} pair (a, u)
pair-is pair a u h =
    let both = and_parts (bytes_eq pair.0 a) (bytes_eq pair.1 u) h in
    let before : List ℕ → Pair = λ x. (x, pair.1) in
    let behind : List ℕ → Pair = λ y. (a, y) in
    ap before ((bytes_eq-Decides pair.0 a).0 both.0) ∙ ap behind ((bytes_eq-Decides pair.1 u).0 both.1)

-- an attribute that is put
pub record IsPut (rs : List Record) (n a : ℕ) : Type 0 where
  pub inside : a < length rs
  pub owned : is_attribute rs n a ≡ true
  pub other : is_xslt (uri_at rs a) ≡ false

pub all-put : (rs : List Record) (n : ℕ) → All (IsPut rs n) (filter (λ a. not (is_xslt (uri_at rs a))) (attributes rs n))
all-put rs n = λ i d h.
    let test : ℕ → Bool = λ a. not (is_xslt (uri_at rs a)) in
    record {
      inside = All-filter test (λ a. a < length rs) (attributes rs n) (All-filter (is_attribute rs n) (λ a. a < length rs) (places rs) (places-within rs)) i
          d h;
      owned = All-filter test (λ a. is_attribute rs n a ≡ true) (attributes rs n) (filter_passes (is_attribute rs n) (places rs)) i d h;
      other = unnegated (is_xslt (uri_at rs _)) (filter_passes test (attributes rs n) i d h);
    }
  where
    unnegated : (b : Bool) → not b ≡ true → b ≡ false
    unnegated true e = absurd (false≢true e)
    unnegated false e = refl
