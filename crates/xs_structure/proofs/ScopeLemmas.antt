-- The scopes of a module's nodes, one after another, and pairs that are compared.
use Rattle.std.proofs.Common.{◌≡◌, ◌∙◌, ◌<◌, ◌+◌, ℕ, ap, sym, zero-add, Bool, true, List, [], ◌∷◌, ◌++◌, get_or, length, map}
use Rattle.std.proofs.lemmas.Bool.{and_parts, eqb-true}
use Rattle.std.proofs.lemmas.List.{get_or-map, map_push, nil_from_length}
use Rattle.std.proofs.lemmas.List.FromFn.{map-range_with_len_more}
use Rattle.std.proofs.lemmas.Slice.Eq.{bytes_eq-Decides}
use Rattle.std.specs.List.{range_with_len}
use Rattle.std.specs.Prelude.{◌&&◌, ◌==◌}
use Rattle.std.specs.Str.{bytes_eq}
use Rattle.xs_elements.specs.Nodes.{scope_at}
use Rattle.xs_tree.specs.Record.{Record}

abbrev Pair : Type 0
Pair = List ℕ × List ℕ

-- ---- a table, whose items have pairs
module _ {T : Type 0} (pairs : T → List Pair) where
  -- one node more
  pub scopes-more : (rs : List Record) (old new : List T) (n k : ℕ) (x : T) → new ≡ old ++ x ∷ [] → map pairs old ≡ map (scope_at rs) (range_with_len 0 n)
      → pairs x ≡ scope_at rs k → k ≡ n → map pairs new ≡ map (scope_at rs) (range_with_len 0 (n + 1))
  scopes-more rs old new n k x pushed e h same =
      ap (map pairs) pushed ∙ map_push pairs old x
      ∙ ap (λ (xs : List (List Pair)). xs ++ pairs x ∷ []) e
      ∙ ap (λ (ps : List Pair). map (scope_at rs) (range_with_len 0 n) ++ ps ∷ []) (h ∙ ap (scope_at rs) same)
      ∙ sym (map-range_with_len_more (scope_at rs) 0 n n (zero-add n))

  -- that of one node
  pub scope-got : (table : List T) (k n : ℕ) (x : T) → k < length table → k ≡ n → x ≡ get_or table k x → pairs x ≡ get_or (map pairs table) n []
  scope-got table k n x lt same e = ap pairs e ∙ sym (get_or-map pairs table k x [] lt) ∙ ap (λ j. get_or (map pairs table) j []) same

-- ---- texts that are the same, two by two
pub pair-same : (a b u v : List ℕ) → (bytes_eq a b && bytes_eq u v) ≡ true → ◌≡◌ {A = Pair} (b, v) (a, u)
pair-same a b u v h =
    let both = and_parts (bytes_eq a b) (bytes_eq u v) h in
    let first : a ≡ b = (bytes_eq-Decides a b).0 both.0 in
    let second : u ≡ v = (bytes_eq-Decides u v).0 both.1 in
    let before : List ℕ → Pair = λ x. (x, v) in
    let behind : List ℕ → Pair = λ y. (a, y) in
    ap before (sym first) ∙ ap behind (sym second)

-- the first of a list is the pair of a namespace node
pub pair-first : (pairs rest : List Pair) (pair : Pair) (a u : List ℕ) → pairs ≡ pair ∷ rest → (bytes_eq a pair.0 && bytes_eq u pair.1) ≡ true
    → pairs ≡ (a, u) ∷ rest
pair-first pairs rest pair a u e h = e ∙ ap (λ (p : Pair). p ∷ rest) (pair-same a pair.0 u pair.1 h)

-- nothing is left
pub none-left : (rest : List Pair) (b : Bool) → b ≡ (length rest == 0) → b ≡ true → rest ≡ []
none-left rest b e h = nil_from_length rest (eqb-true (length rest) 0 (sym e ∙ h))
