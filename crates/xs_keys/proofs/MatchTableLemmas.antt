-- Tables of the nodes that match each declaration.
use Rattle.std.proofs.Common.{◌≡◌, ℕ, ◌+◌, ◌<◌, ◌≤◌, ◌++◌, ◌∷◌, ◌⊎◌, inl, inr, List, [], Bool, Vec, Option, Some, IfSome, get_or, length, slice_get, take}
use Rattle.std.proofs.Common.{sym, ap, subst, ◌∙◌, arith}
use Rattle.std.proofs.lemmas.Bool.{cases_lt}
use Rattle.std.proofs.lemmas.List.{get_or-append-add, get_or-map, get_or-take, get_or_append_left, length-append, length-map, length-take-le}
use Rattle.std.proofs.lemmas.Option.{get_or_from_slice_get, slice_get-get_or}
use denote.Ref.{Bor}
use Rattle.std.specs.declared.alloc.Global.{Global}
use Rattle.xs_pattern.specs.MatchTables.{IsMatchTable}
use Rattle.xs_sheet.specs.declared.declarations.KeyDecl.{KeyDecl}
use Rattle.xs_tree.specs.Record.{Record}
use Rattle.xs_keys.specs.steps.Pairs.{AreMatchTables, decls_in}

abbrev pub IsTableOf : List Record → KeyDecl → Option (Vec Bool Global) → Type 0
IsTableOf rs d o = IfSome o (λ v. IsMatchTable [] rs d.pattern v.items)

-- the table of the declaration at a place
pub table-at : (rs : List Record) (members : List (Bor KeyDecl)) (tables : List (Option (Vec Bool Global))) (k : ℕ) (d : Bor KeyDecl)
    (t : Option (Vec Bool Global)) → AreMatchTables rs (decls_in members) tables → k < length members → get_or members k d ≡ d → get_or tables k t ≡ t
    → IsTableOf rs d.now t
table-at rs members tables k d t h lt e f =
    let within : k < length (decls_in members) = subst (λ n. k < n) (sym (length-map members (λ (m : Bor KeyDecl). m.now))) lt in
    let here : get_or (decls_in members) k d.now ≡ d.now =
    get_or-map (λ (m : Bor KeyDecl). m.now) members k d d.now lt ∙ ap (λ (m : Bor KeyDecl). m.now) e in
    subst (λ (u : Option (Vec Bool Global)). IsTableOf rs d.now u) f
    (subst (λ (x : KeyDecl). IsTableOf rs x (get_or tables k t)) here (h.1 k d.now t within))

-- the tables of one declaration more
tables-more : (rs : List Record) (ds : List KeyDecl) (k : ℕ) (d : KeyDecl) (ts all : List (Option (Vec Bool Global))) (t : Option (Vec Bool Global))
    → k < length ds → get_or ds k d ≡ d → all ≡ ts ++ t ∷ [] → IsTableOf rs d t → AreMatchTables rs (take k ds) ts → AreMatchTables rs (take (k + 1) ds) all
tables-more rs ds k d ts all t lt at e own so_far = (long, λ i x u inside. by_place i x u (cases_lt i k) (omega (arith, inside, more)))
  where
    short : length (take k ds) ≡ k
    short = length-take-le k ds (omega (arith, lt))

    more : length (take (k + 1) ds) ≡ k + 1
    more = length-take-le (k + 1) ds (omega (arith, lt))

    few : length ts ≡ k
    few = so_far.0 ∙ short

    long : length all ≡ length (take (k + 1) ds)
    long =
        let a : length (ts ++ t ∷ []) ≡ length ts + 1 = length-append ts (t ∷ []) in
        let b : length all ≡ length (ts ++ t ∷ []) = ap (λ l. length l) e in
        omega (arith, a, b, few, more)

    by_place : (i : ℕ) (x : KeyDecl) (u : Option (Vec Bool Global)) → (i < k) ⊎ (k ≤ i) → i < k + 1
        → IsTableOf rs (get_or (take (k + 1) ds) i x) (get_or all i u)
    by_place i x u (inl p) within =
        let there : i < length ts = omega (arith, p, few) in
        let first : i < length (take k ds) = omega (arith, p, short) in
        let same_decl : get_or (take k ds) i x ≡ get_or (take (k + 1) ds) i x = get_or-take k ds i x p ∙ sym (get_or-take (k + 1) ds i x within) in
        let same_table : get_or ts i u ≡ get_or all i u = sym (ap (λ l. get_or l i u) e ∙ get_or_append_left ts (t ∷ []) u i there) in
        subst (λ (y : KeyDecl). IsTableOf rs y (get_or all i u)) same_decl
        (subst (λ (o : Option (Vec Bool Global)). IsTableOf rs (get_or (take k ds) i x) o) same_table (so_far.1 i x u first))
    by_place i x u (inr p) within =
        let here : i ≡ k = omega (arith, p, within) in
        let last : i ≡ length ts + 0 = omega (arith, here, few) in
        let read : slice_get ds k ≡ Some d = slice_get-get_or ds k d lt ∙ ap Some at in
        let same_decl : d ≡ get_or (take (k + 1) ds) i x =
        sym (get_or-take (k + 1) ds i x within ∙ ap (λ n. get_or ds n x) here ∙ get_or_from_slice_get ds k d x read) in
        let same_table : t ≡ get_or all i u =
        sym (ap (λ l. get_or l i u) e ∙ ap (λ n. get_or (ts ++ t ∷ []) n u) last ∙ get_or-append-add ts (t ∷ []) 0 u) in
        subst (λ (y : KeyDecl). IsTableOf rs y (get_or all i u)) same_decl (subst (λ (o : Option (Vec Bool Global)). IsTableOf rs d o) same_table own)

pub tables-next : (rs : List Record) (members : List (Bor KeyDecl)) (k : ℕ) (d : Bor KeyDecl) (ts all : List (Option (Vec Bool Global)))
    (t : Option (Vec Bool Global)) → k < length members → get_or members k d ≡ d → all ≡ ts ++ t ∷ [] → IsTableOf rs d.now t
    → AreMatchTables rs (take k (decls_in members)) ts → AreMatchTables rs (take (k + 1) (decls_in members)) all
tables-next rs members k d ts all t lt at e own so_far =
    tables-more rs (decls_in members) k d.now ts all t (subst (λ n. k < n) (sym (length-map members (λ (m : Bor KeyDecl). m.now))) lt)
    (get_or-map (λ (m : Bor KeyDecl). m.now) members k d d.now lt ∙ ap (λ (m : Bor KeyDecl). m.now) at) e own so_far
