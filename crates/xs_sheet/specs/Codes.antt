-- A code for trees of expressions and the parts of value templates, which distinguishes them: a value that contracts see has to have one.
use Rattle.std.proofs.Common.{◌≡◌, ◌∙◌, ◌⊎◌, inl, inr, ℕ, ◌==◌, List, Option, Bool, true, false, refl, sym, ap, arith}
use Rattle.std.proofs.lemmas.Bool.Decides.{nat_tests}
use Rattle.std.proofs.lemmas.Bool.{true≢false}
use Rattle.std.specs.Coded.{Coded, code_by, coded_list, coded_option, coded_ℕ, coded⊎}
use base.Stored.{Gv, gnil, gnum, gcons, num}
use Rattle.xs_num.specs.declared.number.Number.{Number}
use Rattle.xs_num.specs.contracts.number.Number as of_number
use Rattle.xs_tree.specs.declared.axes.Axis.{Axis}
use Rattle.xs_tree.specs.contracts.axes.Axis as of_axis
use Rattle.xs_xpath.specs.declared.name.Function.{Function}
use Rattle.xs_xpath.specs.contracts.name.Function as of_function
use Rattle.xs_xpath.specs.declared.name.NodeTest.{NodeTest}
use Rattle.xs_xpath.specs.contracts.name.NodeTest as of_test
use Rattle.xs_xpath.specs.declared.name.Slot.{Slot}
use Rattle.xs_xpath.specs.contracts.name.Slot as of_slot
use Rattle.xs_xpath.specs.declared.token.Operator.{Operator}
use Rattle.xs_xpath.specs.contracts.token.Operator as of_operator
use Rattle.xs_xpath.specs.Templates.{Part, text, computed}
use Rattle.xs_xpath.specs.Tree.{Tree, Trees, number, literal, variable, call, negative, chain, group, here, root, step, descend, filter, path, no_trees, first_tree}

abbrev head : Gv → Gv
head gnil = gnil
head (gnum n) = gnil
head (gcons a b) = a

abbrev tail : Gv → Gv
tail gnil = gnil
tail (gnum n) = gnil
tail (gcons a b) = b

abbrev is_cons : Gv → Bool
is_cons gnil = false
is_cons (gnum n) = false
is_cons (gcons a b) = true

-- ---- a number for each kind of tree, and what is in it
abbrev mutual
  pub tree_code : Tree → Gv
  tree_code (number a) = gcons (gnum 0) (of_number.the_row.coded.code a)
  tree_code (literal a) = gcons (gnum 1) ((coded_list coded_ℕ).code a)
  tree_code (variable a b c) =
      gcons (gnum 2) (gcons ((coded_list coded_ℕ).code a) (gcons ((coded_list coded_ℕ).code b) ((coded_option of_slot.the_row.coded).code c)))
  tree_code (call a b) = gcons (gnum 3) (gcons (of_function.the_row.coded.code a) (trees_code b))
  tree_code (negative a b) = gcons (gnum 4) (gcons (coded_ℕ.code a) (tree_code b))
  tree_code (chain a b) = gcons (gnum 5) (gcons ((coded_list of_operator.the_row.coded).code a) (trees_code b))
  tree_code (group a) = gcons (gnum 6) (tree_code a)
  tree_code here = gcons (gnum 7) gnil
  tree_code root = gcons (gnum 8) gnil
  tree_code (step a b c) = gcons (gnum 9) (gcons (of_axis.the_row.coded.code a) (gcons (of_test.the_row.coded.code b) (trees_code c)))
  tree_code descend = gcons (gnum 10) gnil
  tree_code (filter a b) = gcons (gnum 11) (gcons (tree_code a) (trees_code b))
  tree_code (path a b) = gcons (gnum 12) (gcons (tree_code a) (trees_code b))

  pub trees_code : Trees → Gv
  trees_code no_trees = gnil
  trees_code (first_tree e es) = gcons (tree_code e) (trees_code es)

abbrev kind : Tree → ℕ
kind e = num (head (tree_code e))

-- ---- a tree of a kind
apart : (m n : ℕ) → (m == n) ≡ false → m ≡ n → ⊥
apart m n h e = let t : (m == n) ≡ true = grind (arith, nat_tests, e) in true≢false (sym t ∙ h)

by-number : (P : Tree → Type 0) → ((a : Number) → P (number a)) → (e : Tree) → kind e ≡ 0 → P e
by-number P h (number a) is = h a
by-number P h e is = absurd (apart (kind e) 0 refl is)

by-literal : (P : Tree → Type 0) → ((a : List ℕ) → P (literal a)) → (e : Tree) → kind e ≡ 1 → P e
by-literal P h (literal a) is = h a
by-literal P h e is = absurd (apart (kind e) 1 refl is)

by-variable : (P : Tree → Type 0) → ((a : List ℕ) (b : List ℕ) (c : Option Slot) → P (variable a b c)) → (e : Tree) → kind e ≡ 2 → P e
by-variable P h (variable a b c) is = h a b c
by-variable P h e is = absurd (apart (kind e) 2 refl is)

by-call : (P : Tree → Type 0) → ((a : Function) (b : Trees) → P (call a b)) → (e : Tree) → kind e ≡ 3 → P e
by-call P h (call a b) is = h a b
by-call P h e is = absurd (apart (kind e) 3 refl is)

by-negative : (P : Tree → Type 0) → ((a : ℕ) (b : Tree) → P (negative a b)) → (e : Tree) → kind e ≡ 4 → P e
by-negative P h (negative a b) is = h a b
by-negative P h e is = absurd (apart (kind e) 4 refl is)

by-chain : (P : Tree → Type 0) → ((a : List Operator) (b : Trees) → P (chain a b)) → (e : Tree) → kind e ≡ 5 → P e
by-chain P h (chain a b) is = h a b
by-chain P h e is = absurd (apart (kind e) 5 refl is)

by-group : (P : Tree → Type 0) → ((a : Tree) → P (group a)) → (e : Tree) → kind e ≡ 6 → P e
by-group P h (group a) is = h a
by-group P h e is = absurd (apart (kind e) 6 refl is)

by-here : (P : Tree → Type 0) → P here → (e : Tree) → kind e ≡ 7 → P e
by-here P h here is = h
by-here P h e is = absurd (apart (kind e) 7 refl is)

by-root : (P : Tree → Type 0) → P root → (e : Tree) → kind e ≡ 8 → P e
by-root P h root is = h
by-root P h e is = absurd (apart (kind e) 8 refl is)

by-step : (P : Tree → Type 0) → ((a : Axis) (b : NodeTest) (c : Trees) → P (step a b c)) → (e : Tree) → kind e ≡ 9 → P e
by-step P h (step a b c) is = h a b c
by-step P h e is = absurd (apart (kind e) 9 refl is)

by-descend : (P : Tree → Type 0) → P descend → (e : Tree) → kind e ≡ 10 → P e
by-descend P h descend is = h
by-descend P h e is = absurd (apart (kind e) 10 refl is)

by-filter : (P : Tree → Type 0) → ((a : Tree) (b : Trees) → P (filter a b)) → (e : Tree) → kind e ≡ 11 → P e
by-filter P h (filter a b) is = h a b
by-filter P h e is = absurd (apart (kind e) 11 refl is)

by-path : (P : Tree → Type 0) → ((a : Tree) (b : Trees) → P (path a b)) → (e : Tree) → kind e ≡ 12 → P e
by-path P h (path a b) is = h a b
by-path P h e is = absurd (apart (kind e) 12 refl is)

-- ---- one code, one tree
mutual
  pub tree_inj : (e o : Tree) → tree_code e ≡ tree_code o → e ≡ o
  tree_inj (number a) o p =
      by-number (λ z. tree_code (number a) ≡ tree_code z → (number a) ≡ z)
      (λ x q i. number (of_number.the_row.coded.inj a x (ap (λ g. tail g) q) i))
      o (sym (ap (λ g. num (head g)) p)) p
  tree_inj (literal a) o p =
      by-literal (λ z. tree_code (literal a) ≡ tree_code z → (literal a) ≡ z)
      (λ x q i. literal ((coded_list coded_ℕ).inj a x (ap (λ g. tail g) q) i))
      o (sym (ap (λ g. num (head g)) p)) p
  tree_inj (variable a b c) o p =
      by-variable (λ z. tree_code (variable a b c) ≡ tree_code z → (variable a b c) ≡ z)
      (λ x y z q i. variable ((coded_list coded_ℕ).inj a x (ap (λ g. head (tail g)) q) i)
      ((coded_list coded_ℕ).inj b y (ap (λ g. head (tail (tail g))) q) i)
      ((coded_option of_slot.the_row.coded).inj c z (ap (λ g. tail (tail (tail g))) q) i))
      o (sym (ap (λ g. num (head g)) p)) p
  tree_inj (call a b) o p =
      by-call (λ z. tree_code (call a b) ≡ tree_code z → (call a b) ≡ z)
      (λ x y q i. call (of_function.the_row.coded.inj a x (ap (λ g. head (tail g)) q) i) (trees_inj b y (ap (λ g. tail (tail g)) q) i))
      o (sym (ap (λ g. num (head g)) p)) p
  tree_inj (negative a b) o p =
      by-negative (λ z. tree_code (negative a b) ≡ tree_code z → (negative a b) ≡ z)
      (λ x y q i. negative (coded_ℕ.inj a x (ap (λ g. head (tail g)) q) i) (tree_inj b y (ap (λ g. tail (tail g)) q) i))
      o (sym (ap (λ g. num (head g)) p)) p
  tree_inj (chain a b) o p =
      by-chain (λ z. tree_code (chain a b) ≡ tree_code z → (chain a b) ≡ z)
      (λ x y q i. chain ((coded_list of_operator.the_row.coded).inj a x (ap (λ g. head (tail g)) q) i) (trees_inj b y (ap (λ g. tail (tail g)) q) i))
      o (sym (ap (λ g. num (head g)) p)) p
  tree_inj (group a) o p =
      by-group (λ z. tree_code (group a) ≡ tree_code z → (group a) ≡ z)
      (λ x q i. group (tree_inj a x (ap (λ g. tail g) q) i))
      o (sym (ap (λ g. num (head g)) p)) p
  tree_inj here o p = by-here (λ z. here ≡ z) refl o (sym (ap (λ g. num (head g)) p))
  tree_inj root o p = by-root (λ z. root ≡ z) refl o (sym (ap (λ g. num (head g)) p))
  tree_inj (step a b c) o p =
      by-step (λ z. tree_code (step a b c) ≡ tree_code z → (step a b c) ≡ z)
      (λ x y z q i. step (of_axis.the_row.coded.inj a x (ap (λ g. head (tail g)) q) i)
      (of_test.the_row.coded.inj b y (ap (λ g. head (tail (tail g))) q) i) (trees_inj c z (ap (λ g. tail (tail (tail g))) q) i))
      o (sym (ap (λ g. num (head g)) p)) p
  tree_inj descend o p = by-descend (λ z. descend ≡ z) refl o (sym (ap (λ g. num (head g)) p))
  tree_inj (filter a b) o p =
      by-filter (λ z. tree_code (filter a b) ≡ tree_code z → (filter a b) ≡ z)
      (λ x y q i. filter (tree_inj a x (ap (λ g. head (tail g)) q) i) (trees_inj b y (ap (λ g. tail (tail g)) q) i))
      o (sym (ap (λ g. num (head g)) p)) p
  tree_inj (path a b) o p =
      by-path (λ z. tree_code (path a b) ≡ tree_code z → (path a b) ≡ z)
      (λ x y q i. path (tree_inj a x (ap (λ g. head (tail g)) q) i) (trees_inj b y (ap (λ g. tail (tail g)) q) i))
      o (sym (ap (λ g. num (head g)) p)) p

  pub trees_inj : (es os : Trees) → trees_code es ≡ trees_code os → es ≡ os
  trees_inj no_trees no_trees p = refl
  trees_inj no_trees (first_tree o os) p = absurd (true≢false (sym (ap is_cons p)))
  trees_inj (first_tree e es) no_trees p = absurd (true≢false (ap is_cons p))
  trees_inj (first_tree e es) (first_tree o os) p = λ i. first_tree (tree_inj e o (ap head p) i) (trees_inj es os (ap tail p) i)

abbrev pub coded_tree : Coded Tree
coded_tree = record { code = tree_code; inj = tree_inj }

-- ---- parts of value templates
abbrev split : Part → List ℕ ⊎ Tree
split (text bytes) = inl bytes
split (computed e) = inr e

abbrev join : List ℕ ⊎ Tree → Part
join (inl bytes) = text bytes
join (inr e) = computed e

pub join-split : (p : Part) → join (split p) ≡ p
join-split (text bytes) = refl
join-split (computed e) = refl

abbrev pub coded_part : Coded Part
coded_part = code_by (List ℕ ⊎ Tree) (coded⊎ (coded_list coded_ℕ) coded_tree) split join join-split
