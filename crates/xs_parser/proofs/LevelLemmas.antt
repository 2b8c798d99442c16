-- What the loops over flat parts keep.
use Rattle.std.proofs.Common.{◌≡◌, ℕ, zero, suc, ◌+◌, ◌-◌, ◌<◌, Bool, true, false, List, [], ◌∷◌, ◌++◌, Option, Some, None, option_map, map, drop, length, refl, sym, ◌∙◌, ap, arith, append_assoc}
use Rattle.std.proofs.lemmas.List.{append-nil, drop-map}
use Rattle.xs_xpath.specs.declared.token.Operator.{Operator}
use Rattle.xs_xpath.specs.declared.expr.Expr.{Expr}
use Rattle.xs_xpath.specs.Tree.{Tree, chained}
use Rattle.xs_xpath.specs.Exprs.{tree_from, trees_from}
use Rattle.xs_parser.specs.declared.part.Part.{Part as Given}
use Rattle.xs_parser.specs.Reading.{Part, cut, pieces, both, links_of, joined, is_minus, negated, signed, operand, level, path_of}
use Rattle.xs_parser.specs.steps.Parts.{gathered, resumed, signs_in, part_of, parts_of}
use Rattle.xs_parser.specs.declared.part.Cutting.{Cutting as GivenCutting}
use Rattle.xs_parser.specs.steps.Cuttings.{Cutting, cutting, cutting_of, with_front, with_operand, behind_part, gathered_by, resumed_by}

none-some : {A : Type 0} (a : A) → None ≡ Some a → ⊥
none-some a h = cc

some-none : {A : Type 0} (a : A) → Some a ≡ None → ⊥
some-none a h = cc

some-same : {A : Type 0} (a b : A) → Some a ≡ Some b → a ≡ b
some-same a b h = cc

gathered-chained : (e : Tree) (links : List (Operator × Tree)) → gathered (map (λ l. l.0) links) (e ∷ map (λ l. l.1) links) ≡ chained e links
gathered-chained e [] = refl
gathered-chained e (link ∷ links) = refl

resumed-start : (p : List Part → Option Tree) (r : ℕ) (rest : List Part) → joined p (pieces r rest) ≡ resumed p r [] [] [] rest
unfolding resumed
resumed-start p r rest = go (p (pieces r rest).0) (links_of p (pieces r rest).1)
  where
    go : (o : Option Tree) (q : Option (List (Operator × Tree))) → both chained o q ≡ both
        (λ e links. gathered (map (λ l. l.0) links) (e ∷ map (λ l. l.1) links)) o q
    go None q = refl
    go (Some e) None = refl
    go (Some e) (Some links) = ap Some (sym (gathered-chained e links))

start : (n : ℕ) (rest : List Part) → level (suc n) rest ≡ resumed (operand n (level n)) (suc n) [] [] [] rest
unfolding level
start n rest = resumed-start (operand n (level n)) (suc n) rest

more : (p : List Part → Option Tree) (r : ℕ) (ops : List Operator) (es : List Tree) (front rest : List Part) (part : Part) → cut r part ≡ None
    → resumed p r ops es front (part ∷ rest) ≡ resumed p r ops es (front ++ part ∷ []) rest
unfolding resumed
more p r ops es front rest part is =
    rw is (ap (λ f. both (λ e links. gathered (ops ++ map (λ l. l.0) links) (es ++ e ∷ map (λ l. l.1) links)) (p f) (links_of p (pieces r rest).1))
    (sym (append_assoc front (part ∷ []) (pieces r rest).0)))

next : (p : List Part → Option Tree) (r : ℕ) (ops : List Operator) (es : List Tree) (front rest : List Part) (part : Part) (op : Operator) (e : Tree)
    → cut r part ≡ Some op → p front ≡ Some e → resumed p r ops es front (part ∷ rest) ≡ resumed p r (ops ++ op ∷ []) (es ++ e ∷ []) [] rest
unfolding resumed
next p r ops es front rest part op e is h = rw (is, append-nil front, h) (go (p (pieces r rest).0) (links_of p (pieces r rest).1))
  where
    go : (o : Option Tree) (q : Option (List (Operator × Tree))) → option_map
        (λ links. gathered (ops ++ map (λ l. l.0) links) (es ++ e ∷ map (λ l. l.1) links)) (both (λ f links. (op, f) ∷ links) o q)
        ≡ both (λ f links. gathered ((ops ++ op ∷ []) ++ map (λ l. l.0) links) ((es ++ e ∷ []) ++ f ∷ map (λ l. l.1) links)) o q
    go None q = refl
    go (Some f) None = refl
    go (Some f) (Some links) = rw (append_assoc ops (op ∷ []) (map (λ l. l.0) links), append_assoc es (e ∷ []) (f ∷ map (λ l. l.1) links)) refl

stop : (p : List Part → Option Tree) (r : ℕ) (ops : List Operator) (es : List Tree) (front rest : List Part) (part : Part) (op : Operator)
    → cut r part ≡ Some op → p front ≡ None → resumed p r ops es front (part ∷ rest) ≡ None
unfolding resumed
stop p r ops es front rest part op is h = rw (is, append-nil front, h) refl

last : (p : List Part → Option Tree) (r : ℕ) (ops : List Operator) (es : List Tree) (front : List Part)
    → resumed p r ops es front [] ≡ option_map (λ e. gathered ops (es ++ e ∷ [])) (p front)
unfolding resumed
last p r ops es front = rw append-nil (go (p front))
  where
    go : (o : Option Tree) → both {B = List (Operator × Tree)} (λ e links. gathered (ops ++ map (λ l. l.0) links) (es ++ e ∷ map (λ l. l.1) links)) o
        (Some []) ≡ option_map (λ e. gathered ops (es ++ e ∷ [])) o
    go None = refl
    go (Some e) = rw (append-nil ops) refl

-- ---- the tree after the minus signs
one-more : (m : ℕ) (o : Option Tree) → option_map {U = ℕ × Tree} (λ (found : ℕ × Tree). (suc found.0, found.1))
    (option_map {U = ℕ × Tree} (λ e. (m, e)) o) ≡ option_map {U = ℕ × Tree} (λ e. (suc m, e)) o
one-more m None = refl
one-more m (Some e) = refl

signed-signs : (p : List Part → Option Tree) (parts : List Part) → signed p parts ≡ option_map (λ e. (signs_in parts, e)) (p (drop (signs_in parts) parts))
signed-signs p [] = refl
signed-signs p (part ∷ parts) = go (is_minus part) refl (signed-signs p parts)
  where
    go : (b : Bool) → is_minus part ≡ b → signed p parts ≡ option_map (λ e. (signs_in parts, e)) (p (drop (signs_in parts) parts))
        → signed p (part ∷ parts) ≡ option_map (λ e. (signs_in (part ∷ parts), e)) (p (drop (signs_in (part ∷ parts)) (part ∷ parts)))
    go true is ih = rw (is, ih) (one-more (signs_in parts) (p (drop (signs_in parts) parts)))
    go false is ih = rw is refl

start-at : (n : ℕ) (rest : List Part) → 0 < n → level n rest ≡ resumed (operand (n - 1) (level (n - 1))) n [] [] [] rest
start-at zero rest lt = absurd (omega arith)
start-at (suc n) rest lt = let e : suc n - 1 ≡ n = omega arith in rw e (start n rest)

operand-one : (parts : List Part) → operand 1 (level 1) parts ≡ option_map (λ e. negated (signs_in parts) e) (level 1 (drop (signs_in parts) parts))
operand-one parts = rw (signed-signs (level 1) parts) (go (level 1 (drop (signs_in parts) parts)))
  where
    go : (o : Option Tree) → option_map (λ (found : ℕ × Tree). negated found.0 found.1) (option_map {U = ℕ × Tree} (λ e. (signs_in parts, e)) o) ≡ option_map
        (λ e. negated (signs_in parts) e) o
    go None = refl
    go (Some e) = refl

-- ---- the same over the parts of the code
pub level-zero : (n : ℕ) (parts : List Part) → n ≡ 0 → path_of parts ≡ level n parts
unfolding level
level-zero n parts is = rw is refl

pub start-in : (n : ℕ) (parts front rest : List Given) (ops : List Operator) (es : List Expr) → 0 < n → ops ≡ [] → es ≡ [] → front ≡ [] → rest ≡ parts
    → level n (parts_of parts) ≡ resumed_by (operand (n - 1) (level (n - 1))) n (cutting ops (trees_from es) (parts_of front)) (parts_of rest)
start-in n parts front rest ops es lt a b c d = rw (a, b, c, d) (start-at n (parts_of parts) lt)

-- one part more
turn-some : (p : List Part → Option Tree) (r : ℕ) (part : Part) (rest : List Part) (s next-s : Cutting) (o : Option Operator) → cut r part ≡ o
    → behind_part p o part s ≡ Some next-s → resumed_by p r s (part ∷ rest) ≡ resumed_by p r next-s rest
turn-some p r part rest s next-s None is h =
    more p r s.operators s.operands s.front rest part is ∙ ap (λ (t : Cutting). resumed_by p r t rest) (some-same _ _ h)
turn-some p r part rest s next-s (Some op) is h = go (p s.front) refl h
  where
    go : (o : Option Tree) → p s.front ≡ o → option_map {U = Cutting} (λ (e : Tree). with_operand s.operators s.operands op e) o ≡ Some next-s
        → resumed_by p r s (part ∷ rest) ≡ resumed_by p r next-s rest
    go None e k = absurd (none-some next-s k)
    go (Some e) f k = next p r s.operators s.operands s.front rest part op e is f ∙ ap (λ (t : Cutting). resumed_by p r t rest) (some-same _ _ k)

turn-none : (p : List Part → Option Tree) (r : ℕ) (part : Part) (rest : List Part) (s : Cutting) (o : Option Operator) → cut r part ≡ o
    → behind_part p o part s ≡ None → resumed_by p r s (part ∷ rest) ≡ None
turn-none p r part rest s None is h = absurd (some-none (with_front part s) h)
turn-none p r part rest s (Some op) is h = go (p s.front) refl h
  where
    go : (o : Option Tree) → p s.front ≡ o → option_map {U = Cutting} (λ (e : Tree). with_operand s.operators s.operands op e) o ≡ None
        → resumed_by p r s (part ∷ rest) ≡ None
    go None e k = stop p r s.operators s.operands s.front rest part op is e
    go (Some e) f k = absurd (some-none (with_operand s.operators s.operands op e) k)

above : (n : ℕ) → 0 < n → n - 1 + 1 ≡ n
above n lt = omega arith

pub more-in : (all : Option Tree) (n : ℕ) (s : Cutting) (old new : List Given) (part : Given) (o : Option GivenCutting) (next-s : GivenCutting)
    → all ≡ resumed_by (operand (n - 1) (level (n - 1))) n s (parts_of old) → 0 < n → old ≡ part ∷ new
    → option_map cutting_of o ≡ behind_part (operand (n - 1) (level (n - 1))) (cut (n - 1 + 1) (part_of part)) (part_of part) s → o ≡ Some next-s
    → all ≡ resumed_by (operand (n - 1) (level (n - 1))) n (cutting_of next-s) (parts_of new)
more-in all n s old new part o next-s so lt is gives some =
    let p : List Part → Option Tree = operand (n - 1) (level (n - 1)) in
    let h : behind_part p (cut n (part_of part)) (part_of part) s ≡ Some (cutting_of next-s) =
    ap (λ k. behind_part p (cut k (part_of part)) (part_of part) s) (sym (above n lt)) ∙ sym gives ∙ ap (option_map cutting_of) some in
    so ∙ ap (λ ps. resumed_by p n s (parts_of ps)) is ∙ turn-some p n (part_of part) (parts_of new) s (cutting_of next-s) (cut n (part_of part)) refl h

pub stop-in : (all : Option Tree) (n : ℕ) (s : Cutting) (old new : List Given) (part : Given) (o : Option GivenCutting)
    → all ≡ resumed_by (operand (n - 1) (level (n - 1))) n s (parts_of old) → 0 < n → old ≡ part ∷ new
    → option_map cutting_of o ≡ behind_part (operand (n - 1) (level (n - 1))) (cut (n - 1 + 1) (part_of part)) (part_of part) s → o ≡ None → None ≡ all
stop-in all n s old new part o so lt is gives none =
    let p : List Part → Option Tree = operand (n - 1) (level (n - 1)) in
    let h : behind_part p (cut n (part_of part)) (part_of part) s ≡ None =
    ap (λ k. behind_part p (cut k (part_of part)) (part_of part) s) (sym (above n lt)) ∙ sym gives ∙ ap (option_map cutting_of) none in
    sym (so ∙ ap (λ ps. resumed_by p n s (parts_of ps)) is ∙ turn-none p n (part_of part) (parts_of new) s (cut n (part_of part)) refl h)

pub last-in : (all : Option Tree) (n : ℕ) (s : Cutting) (old : List Given) → all ≡ resumed_by (operand (n - 1) (level (n - 1))) n s (parts_of old) → old ≡ []
    → gathered_by (operand (n - 1) (level (n - 1))) s ≡ all
last-in all n s old so is =
    let p : List Part → Option Tree = operand (n - 1) (level (n - 1)) in
    sym (so ∙ ap (λ ps. resumed_by p n s (parts_of ps)) is ∙ last p n s.operators s.operands s.front)

pub operand-in : (n signs : ℕ) (parts behind : List Given) (o : Option Expr) → n ≡ 1 → signs ≡ signs_in (parts_of parts) → behind ≡ drop signs parts
    → option_map tree_from o ≡ level n (parts_of behind)
    → operand n (level n) (parts_of parts) ≡ option_map (λ e. negated signs (tree_from e)) o
operand-in n signs parts behind o is count left gives =
    let h : level 1 (drop (signs_in (parts_of parts)) (parts_of parts)) ≡ option_map tree_from o =
    ap (level 1) (ap (λ k. drop k (parts_of parts)) (sym count) ∙ drop-map part_of signs parts ∙ ap parts_of (sym left))
    ∙ ap (λ k. level k (parts_of behind)) (sym is) ∙ sym gives in
    rw (is, operand-one (parts_of parts), h, ← count) (go o)
  where
    go : (o : Option Expr) → option_map (λ e. negated signs e) (option_map tree_from o) ≡ option_map (λ e. negated signs (tree_from e)) o
    go None = refl
    go (Some e) = refl

pub empty : (n : ℕ) (xs : List Given) → n ≡ length xs → n ≡ 0 → xs ≡ []
empty n [] h is = refl
empty n (x ∷ xs) h is = absurd (omega arith)
