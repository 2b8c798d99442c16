-- Whether tokens are read does not depend on what is kept of the expressions between brackets.
use Rattle.std.proofs.Common.{◌≡◌, ℕ, suc, List, [], ◌∷◌, ◌++◌, Option, Some, None, refl, subst, is_some}
use Rattle.xs_xpath.specs.declared.token.Operator.{Operator}
use Rattle.xs_tree.specs.declared.axes.Axis.TheVariants.{Child}
use Rattle.xs_xpath.specs.declared.name.NodeTest.TheVariants.{Node}
use Rattle.xs_xpath.specs.Quotients.{called}
use Rattle.xs_xpath.specs.Tree.{Tree, negative, group, here, root, step, descend, path, trees, atom_tree, chained, filtered, followed}
use Rattle.xs_parser.specs.declared.token.Token.{Token}
use Rattle.xs_parser.specs.Tokens.{expr_level}
use Rattle.xs_parser.specs.Grammar.{Spells, operands, signs, relative, only_root, absolute, anywhere, primary, Links, no_links, link, Steps, child_step, axis_step, dotted_step, Behind, nothing, a_predicate, next_step, next_anywhere, Primary, one_token, in_brackets, no_arguments, arguments, Commas, no_commas, argument}
use Rattle.xs_parser.specs.Reading.{tree_by}
use Rattle.xs_parser.proofs.CompleteLemmas.{tree_by-Spells}
use Rattle.xs_parser.proofs.ReadSoundLemmas.{Spells-tree_by}

not-nil : (e : Tree) (es : List Tree) → e ∷ es ≡ [] → ⊥
not-nil e es h = cc

mutual
  again : (k l : Tree → Tree) (n : ℕ) (ts : List Token) (e : Tree) → Spells k n ts e → (f : Tree) × Spells l n ts f
  again k l _ _ _ (operands n ts us e links h m) =
      let a = again k l n ts e h in
      let b = links_again k l n us links m in
      (chained a.0 b.0, operands n ts us a.0 b.0 a.1 b.1)
  again k l _ _ _ (signs m ts e h) = let a = again k l 1 ts e h in (negative (suc m) a.0, signs m ts a.0 a.1)
  again k l _ _ _ (relative ts steps h) = let a = steps_again k l ts steps h in (path here (trees a.0), relative ts a.0 a.1)
  again k l _ _ _ only_root = (root, only_root)
  again k l _ _ _ (absolute ts steps h) = let a = steps_again k l ts steps h in (path root (trees a.0), absolute ts a.0 a.1)
  again k l _ _ _ (anywhere ts steps h) = let a = steps_again k l ts steps h in (path root (trees (descend ∷ a.0)), anywhere ts a.0 a.1)
  again k l _ _ _ (primary ts us e preds steps h m) =
      let a = primary_again k l ts e h in
      let b = behind_again k l us preds steps m in
      (followed (filtered a.0 b.0) b.1, primary ts us a.0 b.0 b.1 a.1 b.2)

  links_again : (k l : Tree → Tree) (n : ℕ) (ts : List Token) (links : List (Operator × Tree)) → Links k n ts links
      → (more : List (Operator × Tree)) × Links l n ts more
  links_again k l _ _ _ (no_links n) = ([], no_links n)
  links_again k l _ _ _ (link n op ts us e links is h m) =
      let a = again k l n ts e h in
      let b = links_again k l n us links m in
      ((op, a.0) ∷ b.0, link n op ts us a.0 b.0 is a.1 b.1)

  steps_again : (k l : Tree → Tree) (ts : List Token) (steps : List Tree) → Steps k ts steps → (more : List Tree) × Steps l ts more
  steps_again k l _ _ (child_step test ts preds steps h) =
      let b = behind_again k l ts preds steps h in (step Child test (trees b.0) ∷ b.1, child_step test ts b.0 b.1 b.2)
  steps_again k l _ _ (axis_step axis test ts preds steps h) =
      let b = behind_again k l ts preds steps h in (step axis test (trees b.0) ∷ b.1, axis_step axis test ts b.0 b.1 b.2)
  steps_again k l _ _ (dotted_step axis ts steps h) =
      let b = behind_again k l ts [] steps h in (step axis Node (trees []) ∷ b.1, dotted_step axis ts b.1 (subst (λ qs. Behind l ts qs b.1) (b.3 refl) b.2))

  behind_again : (k l : Tree → Tree) (ts : List Token) (preds steps : List Tree) → Behind k ts preds steps
      → (qs more : List Tree) × Behind l ts qs more × (preds ≡ [] → qs ≡ [])
  behind_again k l _ _ _ nothing = ([], [], nothing, λ h. refl)
  behind_again k l _ _ _ (a_predicate ts us e preds steps h m) =
      let a = again k l expr_level ts e h in
      let b = behind_again k l us preds steps m in
      (l a.0 ∷ b.0, b.1, a_predicate ts us a.0 b.0 b.1 a.1 b.2, λ h. absurd (not-nil (k e) preds h))
  behind_again k l _ _ _ (next_step ts steps h) = let a = steps_again k l ts steps h in ([], a.0, next_step ts a.0 a.1, λ h. refl)
  behind_again k l _ _ _ (next_anywhere ts steps h) = let a = steps_again k l ts steps h in ([], descend ∷ a.0, next_anywhere ts a.0 a.1, λ h. refl)

  primary_again : (k l : Tree → Tree) (ts : List Token) (e : Tree) → Primary k ts e → (f : Tree) × Primary l ts f
  primary_again k l _ _ (one_token atom) = (atom_tree atom, one_token atom)
  primary_again k l _ _ (in_brackets ts e h) = let a = again k l expr_level ts e h in (group (l a.0), in_brackets ts a.0 a.1)
  primary_again k l _ _ (no_arguments name) = (called name [], no_arguments name)
  primary_again k l _ _ (arguments name ts us es e h m) =
      let a = commas_again k l ts es h in
      let b = again k l expr_level us e m in
      (called name (a.0 ++ l b.0 ∷ []), arguments name ts us a.0 b.0 a.1 b.1)

  commas_again : (k l : Tree → Tree) (ts : List Token) (es : List Tree) → Commas k ts es → (fs : List Tree) × Commas l ts fs
  commas_again k l _ _ no_commas = ([], no_commas)
  commas_again k l _ _ (argument ts us es e h m) =
      let a = commas_again k l ts es h in
      let b = again k l expr_level us e m in
      (a.0 ++ l b.0 ∷ [], argument ts us a.0 b.0 a.1 b.1)

there : (k l : Tree → Tree) (ts : List Token) (e : Tree) → tree_by k ts ≡ Some e → (f : Tree) × (tree_by l ts ≡ Some f)
there k l ts e h =
    let s = Spells-tree_by k ts e h in
    let a = again k l expr_level ts s.0 s.1 in
    (l a.0, tree_by-Spells l ts a.0 a.1)

none-some : (o : Option Tree) (e : Tree) → o ≡ None → o ≡ Some e → ⊥
none-some o e h l = cc

-- tokens are read or not, whatever is kept
pub kept : (k l : Tree → Tree) (ts : List Token) → is_some (tree_by k ts) ≡ is_some (tree_by l ts)
kept k l ts = go (tree_by k ts) (tree_by l ts) refl refl
  where
    go : (o p : Option Tree) → tree_by k ts ≡ o → tree_by l ts ≡ p → is_some o ≡ is_some p
    go None None h m = refl
    go None (Some f) h m = let a = there l k ts f m in absurd (none-some (tree_by k ts) a.0 h a.1)
    go (Some e) None h m = let a = there k l ts e h in absurd (none-some (tree_by l ts) a.0 m a.1)
    go (Some e) (Some f) h m = refl
