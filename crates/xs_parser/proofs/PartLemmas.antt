-- The parts of a list between brackets: how tokens become them, and at which operators they are cut.
use Rattle.std.proofs.Common.{◌≡◌, ℕ, ◌<◌, Bool, true, false, List, [], ◌∷◌, ◌++◌, Some, None, refl, sym, ◌∙◌, ap, arith, append_assoc}
use Rattle.std.specs.Prelude.{◌==◌, if◌then◌else◌}
use Rattle.std.proofs.lemmas.List.{append-nil}
use Rattle.std.proofs.lemmas.Bool.Decides.{nat_tests}
use Rattle.xs_xpath.specs.declared.token.Operator.{Operator}
use Rattle.xs_xpath.specs.Tree.{Tree}
use Rattle.xs_parser.specs.declared.token.Token.{Token}
use Rattle.xs_parser.specs.declared.token.Token.TheVariants.{Infix}
use Rattle.xs_parser.specs.Tokens.{rank}
use Rattle.xs_parser.specs.Reading.{Part, plain, cut, pieces, Frame, state, expr, read}

-- tokens that are read become these parts, whatever is around them
abbrev pub Reads : (Tree → Tree) → List Token → List Part → Type 0
Reads k ts parts =
    (frames : List Frame) (front : List Part) (rest : List Token) → read (expr k) (ts ++ rest) (state frames front) ≡ read (expr k) rest
    (state frames (front ++ parts))

pub reads-nil : (k : Tree → Tree) → Reads k [] []
reads-nil k frames front rest = ap (λ ps. read (expr k) rest (state frames ps)) (sym (append-nil front))

pub reads-append : (k : Tree → Tree) (ts us : List Token) (ps qs : List Part) → Reads k ts ps → Reads k us qs → Reads k (ts ++ us) (ps ++ qs)
reads-append k ts us ps qs h l frames front rest =
    ap (λ all. read (expr k) all (state frames front)) (append_assoc ts us rest) ∙ h frames front (us ++ rest) ∙ l frames (front ++ ps) rest
    ∙ ap (λ parts. read (expr k) rest (state frames parts)) (append_assoc front ps qs)

-- no part is an operator of a higher rank
abbrev pub Below : ℕ → List Part → Type 0
Below n [] = Unit {0}
Below n (part ∷ parts) = ((r : ℕ) → n < r → cut r part ≡ None) × Below n parts

pub below-append : (n : ℕ) (ps qs : List Part) → Below n ps → Below n qs → Below n (ps ++ qs)
below-append n [] qs h k = k
below-append n (p ∷ ps) qs h k = (h.0, below-append n ps qs h.1 k)

pub below-more : (n m : ℕ) (ps : List Part) → n < m → Below n ps → Below m ps
below-more n m [] lt h = tt
below-more n m (p ∷ ps) lt h = ((λ r k. h.0 r (omega arith)), below-more n m ps lt h.1)

pub below-operator : (n : ℕ) (op : Operator) → rank op ≡ n → (r : ℕ) → n < r → cut r (plain (Infix op)) ≡ None
below-operator n op is r lt = go (rank op == r) refl
  where
    go : (b : Bool) → (rank op == r) ≡ b → (if b then Some op else None) ≡ None
    go true e = absurd (grind (arith, nat_tests))
    go false e = refl

pub cut-operator : (n : ℕ) (op : Operator) → rank op ≡ n → cut n (plain (Infix op)) ≡ Some op
cut-operator n op is = go (rank op == n) refl
  where
    go : (b : Bool) → (rank op == n) ≡ b → (if b then Some op else None) ≡ Some op
    go true e = refl
    go false e = absurd (grind (arith, nat_tests))

-- the first piece goes to the first operator of the rank
pub pieces-front : (n r : ℕ) (ps rest : List Part) → n < r → Below n ps → pieces r (ps ++ rest) ≡ (ps ++ (pieces r rest).0, (pieces r rest).1)
pieces-front n r [] rest lt h = refl
pieces-front n r (p ∷ ps) rest lt h = rw (h.0 r lt, pieces-front n r ps rest lt h.1) refl

pub pieces-whole : (n r : ℕ) (ps : List Part) → n < r → Below n ps → pieces r ps ≡ (ps, [])
pieces-whole n r ps lt h = ap (pieces r) (sym (append-nil ps)) ∙ pieces-front n r ps [] lt h ∙ ap (λ qs. (qs, [])) (append-nil ps)
