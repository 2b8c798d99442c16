-- Desks with shares of one ledger.
use Rattle.std.proofs.Common.{◌≡◌, ◌<◌, ◌≤◌, ◌+◌, ℕ, suc, List, [], ◌∷◌, ◌++◌, length, Bool, true, false, nat_lt, refl, sym, ap, ◌∙◌, subst, arith}
use Rattle.std.proofs.lemmas.Bool.Decides.{nat_tests}
use Rattle.std.specs.List.{All}
use Rattle.atomic_table.specs.Seated.{TableId}
use Rattle.xs_ledger.specs.declared.view.Addition.{Addition}
use Rattle.xs_ledger.specs.declared.ledger.Share.{Share}
use Rattle.xs_ledger.specs.declared.total.LedgerTotal.{LedgerTotal}
use Rattle.xs_ledger.specs.Additions.{last_answer, ticks, total}
use Rattle.xs_ledger.specs.Shares.{additions, own, share_ledger_id}
use Rattle.xs_ledger.specs.Totals.{AreWithin}
use Rattle.xs_pieces.specs.declared.piece.Desk.{Desk}
use Rattle.xs_pool.specs.Starts.{IsFree, IsFresh}

pub last-within : (b : ℕ) (xs : List Addition) → All (λ a. a.answer ≤ b) xs → last_answer xs ≤ b
last-within b [] all = omega arith
last-within b (x ∷ []) all = all 0 x (omega arith)
last-within b (x ∷ y ∷ rest) all = last-within b (y ∷ rest) (λ j e m. all (suc j) e (omega (arith, m)))

pub sum-push : {X : Type 0} → (f : X → ℕ) (xs : List X) (y : X) → total f (xs ++ y ∷ []) ≡ total f xs + f y
sum-push f [] y = omega arith
sum-push f (x ∷ xs) y = let i = sum-push f xs y in omega arith

pub within-none : (b : ℕ) (xs : List Addition) → xs ≡ [] → AreWithin b xs
within-none b xs e = subst (AreWithin b) (sym e) ((λ k d l. absurd (omega (arith, l))), (λ k d l. absurd (omega (arith, l))))

-- a desk whose share has added nothing
pub fresh-desk : (id : TableId) (most : ℕ) (s : Share) (d : Desk LedgerTotal) → IsFree id s → d.share.share ≡ s → d.share.limit ≡ most → IsFresh id most d
fresh-desk id most s d free same bound = record {
  ledger = ap share_ledger_id same ∙ free.share;
  bound = bound;
  added = ap own same ∙ ap (total ticks) free.unused;
  last = ap (λ x. last_answer (additions x)) same ∙ ap last_answer free.unused;
}

-- what a run came to, when its ledger is closed
pub closed : (P : ℕ → Type 0) (ticks added last n : ℕ) → n ≡ added → (n ≤ ticks → last ≤ ticks) → ((ticks < last → ticks < added) → P added) → P n
closed P ticks added last n same answers run = subst P (sym same) (run (λ above. by above (nat_lt ticks n) refl))
  where
    by : ticks < last → (b : Bool) → nat_lt ticks n ≡ b → ticks < added
    by above true e = let m : ticks < n = grind (arith, nat_tests, e) in omega (arith, m, same)
    by above false e = let m : n ≤ ticks = grind (arith, nat_tests, e) in let k = answers m in absurd (omega (arith, k, above))

pub none-left : {X : Type 0} → (xs : List X) → length xs ≡ 0 → xs ≡ []
none-left [] e = refl
none-left (x ∷ xs) e = absurd (omega (arith, e))
