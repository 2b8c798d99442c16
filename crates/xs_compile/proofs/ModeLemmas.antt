-- Modes, known by their places.
use Rattle.std.proofs.Common.{◌≡◌, ◌∙◌, ℕ, suc, ◌+◌, ◌<◌, ap, refl, sym, arith, drop, get_or, length, List, [], ◌∷◌, ◌++◌, map, cond, Bool, true, false, Option, None, Some}
use Rattle.std.proofs.lemmas.Bool.{and_from, false≢true, ltb-true, or_right}
use Rattle.std.proofs.lemmas.List.{drop-map, map-append}
use Rattle.std.proofs.lemmas.List.FromFn.{map-range_with_len_more}
use Rattle.std.proofs.lemmas.Option.{none-some}
use Rattle.std.proofs.lemmas.Slice.Eq.{bytes_eq-Decides}
use Rattle.std.specs.List.{find, list_any, position, position_or_len, range_with_len}
use Rattle.std.specs.Option.{option_and_then, option_map_or}
use Rattle.std.specs.Prelude.{◌||◌, codes, nat_lt, not, option_map, if◌then◌else◌}
use Rattle.std.specs.Str.{bytes_eq}
use Rattle.xs_elements.specs.Nodes.{Name, bears, expanded, is_same_name, scope_at}
use Rattle.xs_compile.specs.Modes.{tree_mode, with_mode, with_modes}
use Rattle.xs_structure.proofs.AttributeLemmas.{no-attributes}
use Rattle.xs_tree.specs.declared.kinds.Kind.{Kind}
use Rattle.xs_tree.specs.declared.kinds.Kind.TheVariants.{Root, Element, Attribute, Space, Text, Comment, Pi}
use Rattle.xs_tree.specs.Kinds.{is_element_kind}
use Rattle.xs_tree.specs.Record.{Record, at}
use Rattle.xs_tree.specs.Shape.{IsTree}
use Rattle.xs_compile.proofs.CountedLemmas.{drop_next}
use Rattle.xs_compile.proofs.NumberLemmas.{number_from, position_is}

-- of a list the first that passes a test, if one does
module _ {X : Type 0} (test : X → Bool) where
  first-or : (n k : ℕ) (o : Option ℕ) (b any : Bool) → (any ≡ true → o ≡ Some (n + 1 + k)) → (b || any) ≡ true
      → (if b then Some n else o) ≡ Some (n + cond (not b) (1 + k) 0)
  first-or n k o true any again h = let e : n ≡ n + 0 = omega arith in ap Some e
  first-or n k o false any again h = let e : n + 1 + k ≡ n + (1 + k) = omega arith in again h ∙ ap Some e

  found : (n : ℕ) (xs : List X) → list_any test xs ≡ true → number_from test n xs ≡ Some (n + position_or_len test xs)
  found n [] h = absurd (false≢true h)
  found n (x ∷ xs) h = first-or n (position_or_len test xs) (number_from test (n + 1) xs) (test x) (list_any test xs) (found (n + 1) xs) h

  within : (xs : List X) (k : ℕ) (b : Bool) → nat_lt (position_or_len test xs) (length xs) ≡ b
      → cond b (Some (position_or_len test xs)) None ≡ Some k → k < length xs
  within xs k true e h =
      let same : position_or_len test xs ≡ k = ap (λ (o : Option ℕ). option_map_or (λ n. n) o k) h in
      omega (arith, ltb-true (position_or_len test xs) (length xs) e, same)
  within xs k false e h = absurd (none-some k h)

  pub position_found : (xs : List X) → list_any test xs ≡ true → (k : ℕ) × (position test xs ≡ Some k) × (k < length xs)
  position_found xs h =
      let k = 0 + position_or_len test xs in
      let at = sym (position_is test xs) ∙ found 0 xs h in
      (k, at, within xs k (nat_lt (position_or_len test xs) (length xs)) refl at)

module _ {K N : Type 0} (f : K → N) (same : N → Bool) where
  abbrev own : K → Bool
  own k = same (f k)

  any-mapped : (ks : List K) → list_any same (map f ks) ≡ list_any own ks
  any-mapped [] = refl
  any-mapped (k ∷ ks) = ap (λ (b : Bool). own k || b) (any-mapped ks)

  number-mapped : (n : ℕ) (ks : List K) → number_from same n (map f ks) ≡ number_from own n ks
  number-mapped n [] = refl
  number-mapped n (k ∷ ks) = ap (λ (o : Option ℕ). if own k then Some n else o) (number-mapped (n + 1) ks)

  -- ---- one that is noted
  last-there : (k : K) → own k ≡ true → (ks : List K) → list_any same (map f (ks ++ k ∷ [])) ≡ true
  last-there k is [] = ap (λ (b : Bool). b || false) is
  last-there k is (x ∷ xs) = or_right (own x) (list_any same (map f (xs ++ k ∷ []))) (last-there k is xs)

  noted-by : (k : K) → own k ≡ true → (ks : List K) (b : Bool) → list_any own ks ≡ b → list_any same (map f (if b then ks else ks ++ k ∷ [])) ≡ true
  noted-by k is ks true e = any-mapped ks ∙ e
  noted-by k is ks false e = last-there k is ks

  pub mode_noted : (k : K) (ks new : List K) → own k ≡ true → new ≡ (if list_any own ks then ks else ks ++ k ∷ []) → list_any same (map f new) ≡ true
  mode_noted k ks new is e = ap (λ (xs : List K). list_any same (map f xs)) e ∙ noted-by k is ks (list_any own ks) refl

  gained-by : (k : K) (ks : List K) (b : Bool) → list_any own ks ≡ b
      → map f (if b then ks else ks ++ k ∷ []) ≡ (if list_any same (map f ks) then map f ks else map f ks ++ f k ∷ [])
  gained-by k ks true e = ap (λ (c : Bool). if c then map f ks else map f ks ++ f k ∷ []) (sym (any-mapped ks ∙ e))
  gained-by k ks false e =
      map-append f ks (k ∷ []) ∙ ap (λ (c : Bool). if c then map f ks else map f ks ++ f k ∷ []) (sym (any-mapped ks ∙ e))

  pub mode_gained : (k : K) (ks new : List K) → new ≡ (if list_any own ks then ks else ks ++ k ∷ [])
      → map f new ≡ (if list_any same (map f ks) then map f ks else map f ks ++ f k ∷ [])
  mode_gained k ks new e = ap (map f) e ∙ gained-by k ks (list_any own ks) refl

  -- ---- the place of one that was noted
  pub mode_there : (ks : List K) → list_any same (map f ks) ≡ true → ◌≡◌ {A = Option ℕ} None (position own ks) → ⊥
  mode_there ks h e = none-some (0 + position_or_len own ks) (e ∙ sym (position_is own ks) ∙ found own 0 ks (sym (any-mapped ks) ∙ h))

  pub mode_numbered : (ks : List K) (place «number» : ℕ) → Some place ≡ position own ks → «number» ≡ place + 1
      → option_map suc (position same (map f ks)) ≡ Some «number»
  mode_numbered ks place «number» e h =
      let next : suc place ≡ «number» = omega (arith, h) in
      ap (option_map suc) (sym (position_is same (map f ks)) ∙ number-mapped 0 ks ∙ position_is own ks ∙ sym e) ∙ ap Some next

-- a mode is itself
pub mode_same : (name : Name) → is_same_name name name ≡ true
mode_same name =
    and_from (bytes_eq name.0 name.0) (bytes_eq name.1 name.1) ((bytes_eq-Decides name.0 name.0).1 refl) ((bytes_eq-Decides name.1 name.1).1 refl)

-- ---- the items of a mapped list from one on
pub drop_mapped : {X Y : Type 0} (f : X → Y) (xs : List X) (i : ℕ) (x : X) → i < length xs → x ≡ get_or xs i x
    → drop i (map f xs) ≡ f x ∷ drop (i + 1) (map f xs)
drop_mapped f xs i x lt is =
    drop-map f i xs ∙ ap (map f) (drop_next xs i x lt is) ∙ ap (λ ys. f x ∷ ys) (sym (drop-map f (i + 1) xs))

-- ---- modes one after another
pub with_modes_append : (names : List Name) (xs ys : List (Option Name)) → with_modes names (xs ++ ys) ≡ with_modes (with_modes names xs) ys
with_modes_append names [] ys = refl
with_modes_append names (x ∷ xs) ys = with_modes_append (with_mode names x) xs ys

-- the mode of the next node
pub with_modes_more : (names : List Name) (mode : ℕ → Option Name) (n : ℕ)
    → with_modes names (map mode (range_with_len 0 (n + 1))) ≡ with_mode (with_modes names (map mode (range_with_len 0 n))) (mode n)
with_modes_more names mode n =
    ap (with_modes names) (map-range_with_len_more mode 0 n n (omega arith)) ∙ with_modes_append names (map mode (range_with_len 0 n)) (mode n ∷ [])

-- ---- a node that is no element names no mode
not-element : (k : Kind) → (k ≡ Element → ⊥) → is_element_kind k ≡ false
not-element Element other = absurd (other refl)
not-element Root other = refl
not-element Attribute other = refl
not-element Space other = refl
not-element Text other = refl
not-element Comment other = refl
not-element Pi other = refl

pub no-mode : (rs : List Record) → IsTree rs → (n : ℕ) → ((at rs n).kind ≡ Element → ⊥) → None ≡ tree_mode rs n
no-mode rs tree n other =
    sym (ap (λ (l : List ℕ). option_and_then (expanded (scope_at rs n)) (option_map (λ a. (at rs a).text) (find (bears rs [] (codes "mode")) l)))
    (no-attributes rs tree n (not-element (at rs n).kind other)))
