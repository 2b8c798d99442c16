-- The numbers, the precedences and the list of modules that some mentions name, and others behind them.
use Rattle.std.proofs.Common.{◌≡◌, ◌∙◌, ℕ, ◌+◌, ◌∷◌, ◌++◌, refl, sym, ap, arith, append_assoc, length, length-append}
use Rattle.xs_modules.specs.Mentioned.{Mentioned, no_module, one, count}
use Rattle.xs_modules.specs.Numbering.{part_of, parts, sheet_for}
use Rattle.xs_modules.specs.Precedence.{Imports, imports, joined, mentioned_imports}
use Rattle.xs_modules.specs.steps.Joining.{join}
use Rattle.xs_modules.proofs.ReadingLemmas.{behind_none, behind_one}

-- as many modules in the list as in the tree
pub length_parts : (sheet n : ℕ) (a : Mentioned) → length (parts sheet n a) ≡ count a
unfolding parts count
length_parts sheet n no_module = refl
length_parts sheet n (one m rs lines within next) =
    let e = length_parts (sheet_for m.is_import n sheet) (n + 1) within in
    let f = length_parts sheet (n + (1 + count within)) next in
    let g = length-append (parts (sheet_for m.is_import n sheet) (n + 1) within) (parts sheet (n + (1 + count within)) next) in
    omega arith

pub parts_join : (sheet n : ℕ) (a b : Mentioned) → parts sheet n (join a b) ≡ parts sheet n a ++ parts sheet (n + count a) b
unfolding parts join
parts_join sheet n no_module b = sym (ap (λ k. parts sheet k b) (behind_none n))
parts_join sheet n (one m rs lines within next) b =
    ap (λ ps. part_of m rs lines (sheet_for m.is_import n sheet)
    ∷ parts (sheet_for m.is_import n sheet) (n + 1) within ++ ps)
    (parts_join sheet (n + (1 + count within)) next b
    ∙ sym (ap (λ k. parts sheet (n + (1 + count within)) next ++ parts sheet k b) (behind_one n m rs lines within next)))
    ∙ ap (λ ps. part_of m rs lines (sheet_for m.is_import n sheet) ∷ ps)
    (sym (append_assoc (parts (sheet_for m.is_import n sheet) (n + 1) within) (parts sheet (n + (1 + count within)) next)
    (parts sheet (n + count (one m rs lines within next)) b)))

pub joined_assoc : (a b c : Imports) → joined (joined a b) c ≡ joined a (joined b c)
joined_assoc a b c = ap (λ xs. record { own = xs; included = (a.included ++ b.included) ++ c.included }) (append_assoc a.own b.own c.own)
    ∙ ap (λ xs. record { own = a.own ++ (b.own ++ c.own); included = xs }) (append_assoc a.included b.included c.included)

pub imports_join : (n : ℕ) (a b : Mentioned) → imports n (join a b) ≡ joined (imports n a) (imports (n + count a) b)
unfolding imports join
imports_join n no_module b = sym (ap (λ k. imports k b) (behind_none n))
imports_join n (one m rs lines within next) b =
    ap (joined (mentioned_imports m.is_import n (imports (n + 1) within)))
    (imports_join (n + (1 + count within)) next b
    ∙ sym (ap (λ k. joined (imports (n + (1 + count within)) next) (imports k b)) (behind_one n m rs lines within next)))
    ∙ sym (joined_assoc (mentioned_imports m.is_import n (imports (n + 1) within)) (imports (n + (1 + count within)) next)
    (imports (n + count (one m rs lines within next)) b))
