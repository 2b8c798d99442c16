-- The outcome, by what the reader of the tokens found.
use Rattle.std.proofs.Common.{◌≡◌, ℕ, Bool, true, false, List, [], ◌∷◌, ◌++◌, Option, Some, None, option_map, Result, Err, is_some, length, refl, sym, ◌∙◌, ap, arith}
use Rattle.std.specs.Prelude.{if◌then◌else◌}
use Rattle.xs_xpath.specs.declared.expr.Expr.{Expr}
use Rattle.xs_xpath.specs.Exprs.{tree_from}
use Rattle.xs_xpath.specs.Tree.{Tree}
use Rattle.xs_parser.specs.declared.fault.Fault.{Fault}
use Rattle.xs_parser.specs.declared.fault.Fault.TheVariants.{Syntax}
use Rattle.xs_parser.specs.declared.fault.Check.TheVariants.{Unknown, Literal, Unbound}
use Rattle.xs_parser.specs.declared.token.Placed.{Placed}
use Rattle.xs_parser.specs.declared.token.Token.{Token}
use Rattle.xs_parser.specs.Faults.{first_fault, first_wrong, first_deep, first_place, faults_first, no_pattern, tokens_in, verdict, closes, commas_by, is_wrong, own_commas, ends}
use Rattle.xs_parser.specs.steps.Scan.{arguments_by, Scan, scan, scanned_by, scanned}
use Rattle.xs_parser.specs.Grammar.{same}
use Rattle.xs_parser.specs.Outcome.{answer_of}
use Rattle.xs_parser.specs.Reading.{tree_by, tree_of}
use Rattle.xs_parser.specs.steps.States.{kept}
use Rattle.xs_parser.proofs.KeptLemmas.{kept as kept-alike}

none-of : {A : Type 0} (o : Option A) → is_some o ≡ false → o ≡ None
none-of None h = refl
none-of (Some a) h = absurd (cc)

some-of : {A : Type 0} (o : Option A) → is_some o ≡ true → (a : A) × (o ≡ Some a)
some-of None h = absurd (cc)
some-of (Some a) h = (a, refl)

-- what was read, and the tree of the tokens, are both there or not
both-there : (ts : List Token) (deep : Bool) (o : Option Expr) → option_map tree_from o ≡ tree_by (kept deep) ts → is_some (tree_of ts) ≡ is_some o
both-there ts deep None h = kept-alike same (kept deep) ts ∙ ap is_some (sym h)
both-there ts deep (Some e) h = kept-alike same (kept deep) ts ∙ ap is_some (sym h)

pub none-in : (wanted : Bool) (pairs : List (List ℕ × List ℕ)) (ps : List Placed) (ts : List Token) (deep : Bool) (o : Option Expr)
    → option_map tree_from o ≡ tree_by (kept deep) ts → ts ≡ tokens_in pairs ps → o ≡ None
    → Err Syntax ≡ verdict wanted pairs ps (tree_of (tokens_in pairs ps))
none-in wanted pairs ps ts deep o h is none =
    let n : tree_of ts ≡ None = none-of (tree_of ts) (both-there ts deep o h ∙ ap is_some none) in
    sym (ap (λ us. verdict wanted pairs ps (tree_of us)) (sym is) ∙ ap (verdict wanted pairs ps) n)

-- where the nesting is too deep, neither the tree nor whether it is a pattern is reported
deep-any : (u w b n m x : Option ℕ) (at : ℕ) (e f : Tree) → faults_first u w b (Some at) n x e ≡ faults_first u w b (Some at) m x f
deep-any (Some k) w b n m x at e f = refl
deep-any None (Some k) b n m x at e f = refl
deep-any None None (Some k) n m x at e f = refl
deep-any None None None n m x at e f = refl

tree-or-deep : (ts : List Token) (d : Option ℕ) (u w b x : Option ℕ) (n : Tree → Option ℕ) (o : Option Expr) (e : Expr)
    → option_map tree_from o ≡ tree_by (kept (is_some d)) ts → o ≡ Some e
    → (f : Tree) × (tree_of ts ≡ Some f) × (faults_first u w b d (n (tree_from e)) x (tree_from e) ≡ faults_first u w b d (n f) x f)
tree-or-deep ts None u w b x n o e h some = (tree_from e, sym h ∙ ap (option_map tree_from) some, refl)
tree-or-deep ts (Some at) u w b x n o e h some =
    let t = some-of (tree_of ts) (both-there ts true o h ∙ ap is_some some) in
    (t.0, t.1, deep-any u w b (n (tree_from e)) (n t.0) x at (tree_from e) t.0)

pub some-in : (wanted : Bool) (pairs : List (List ℕ × List ℕ)) (ps : List Placed) (ts : List Token) (deep : Bool) (o : Option Expr) (e : Expr) (at : ℕ)
    (u w b d n x : Option ℕ) (r : Result Expr Fault)
    → option_map tree_from o ≡ tree_by (kept deep) ts → ts ≡ tokens_in pairs ps → o ≡ Some e → at ≡ first_place ps
    → u ≡ first_fault Unknown pairs ps → w ≡ first_wrong ps → b ≡ first_fault Literal pairs ps → d ≡ first_deep ps 0 0
    → n ≡ no_pattern wanted at (tree_from e) → x ≡ first_fault Unbound pairs ps → deep ≡ is_some d
    → answer_of r ≡ faults_first u w b d n x (tree_from e) → answer_of r ≡ verdict wanted pairs ps (tree_of (tokens_in pairs ps))
some-in wanted pairs ps ts deep o e at u w b d n x r h is some place hu hw hb hd hn hx by answer =
    let judge : Tree → Option ℕ = no_pattern wanted (first_place ps) in
    let own : n ≡ judge (tree_from e) = hn ∙ ap (λ k. no_pattern wanted k (tree_from e)) place in
    let t = tree-or-deep ts d u w b x judge o e (h ∙ ap (λ k. tree_by (kept k) ts) by) some in
    answer ∙ ap (λ k. faults_first u w b d k x (tree_from e)) own ∙ t.2
    ∙ ap (λ k. faults_first k w b d (judge t.0) x t.0) hu ∙ ap (λ k. faults_first (first_fault Unknown pairs ps) k b d (judge t.0) x t.0) hw
    ∙ ap (λ k. faults_first (first_fault Unknown pairs ps) (first_wrong ps) k d (judge t.0) x t.0) hb
    ∙ ap (λ k. faults_first (first_fault Unknown pairs ps) (first_wrong ps) (first_fault Literal pairs ps) k (judge t.0) x t.0) hd
    ∙ ap (λ k. faults_first (first_fault Unknown pairs ps) (first_wrong ps) (first_fault Literal pairs ps) (first_deep ps 0 0) (judge t.0) k t.0) hx
    ∙ ap (verdict wanted pairs ps) (sym t.1) ∙ ap (λ us. verdict wanted pairs ps (tree_of us)) is

-- ---- the scan from the right
scanned-is : (ps : List Placed) → scanned ps (scan [] true None) ≡ scan (own_commas ps) (ends ps) (first_wrong ps)
scanned-is [] = refl
scanned-is (p ∷ ps) = ap (scanned_by p) (scanned-is ps)

scanned-last : (ps : List Placed) (p : Placed) (s : Scan) → scanned (ps ++ p ∷ []) s ≡ scanned ps (scanned_by p s)
scanned-last [] p s = refl
scanned-last (q ∷ qs) p s = ap (scanned_by q) (scanned-last qs p s)

scan-more : (all : Scan) (old new : List Placed) (p : Placed) (s next : Scan) → all ≡ scanned old s → old ≡ new ++ p ∷ [] → next ≡ scanned_by p s
    → all ≡ scanned new next
scan-more all old new p s next so is by = so ∙ ap (λ ps. scanned ps s) is ∙ scanned-last new p s ∙ ap (scanned new) (sym by)

-- one step of the code, which looks at the last lexeme that is left
pub scan-step : (all : Scan) (old new : List Placed) (p : Placed) (counts more : List ℕ) (ends closed : Bool) (found next : Option ℕ) (n : ℕ)
    → all ≡ scanned old (scan counts ends found) → old ≡ new ++ p ∷ [] → n ≡ arguments_by counts ends
    → next ≡ (if is_wrong p.lexeme n then Some p.at else found) → closed ≡ closes p.lexeme
    → more ≡ commas_by p.lexeme counts → all ≡ scanned new (scan more closed next)
scan-step all old new p counts more ends closed found next n so is many fault close commas =
    scan-more all old new p (scan counts ends found) (scan more closed next) so is
    (ap (λ xs. scan xs closed next) commas ∙ ap (λ t. scan (commas_by p.lexeme counts) t next) close
    ∙ ap (λ o. scan (commas_by p.lexeme counts) (closes p.lexeme) o) (fault ∙ ap (λ k. if is_wrong p.lexeme k then Some p.at else found) many))

scan-end : (ps old : List Placed) (s : Scan) → scanned ps (scan [] true None) ≡ scanned old s → old ≡ [] → s.found ≡ first_wrong ps
scan-end ps old s so is = ap (λ (t : Scan). t.found) (sym (sym (scanned-is ps) ∙ so ∙ ap (λ qs. scanned qs s) is))

pub scan-all : (ps old : List Placed) (counts : List ℕ) (ends : Bool) (found : Option ℕ)
    → scanned ps (scan [] true None) ≡ scanned old (scan counts ends found) → length old ≡ 0 → found ≡ first_wrong ps
scan-all ps [] counts ends found so none = scan-end ps [] (scan counts ends found) so refl
scan-all ps (p ∷ old) counts ends found so none = absurd (omega arith)
