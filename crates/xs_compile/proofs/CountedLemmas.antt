-- Which of several declarations counts, from the first of them on.
use Rattle.std.proofs.Common.{◌≡◌, ◌∙◌, ℕ, suc, ◌+◌, ◌<◌, ap, refl, sym, arith, List, ◌∷◌, cond, drop, drop-cons, filter, get_or, length, Bool, true, false, Option, Some, None}
use Rattle.std.proofs.lemmas.Bool.{le-ltb, lt-ltb, ltb-false, ltb-true, true≢false}
use Rattle.std.specs.Prelude.{nat_lt, if◌then◌else◌}
use Rattle.xs_compile.specs.Counted.{counted, greater}
use Rattle.xs_compile.specs.steps.Counting.{counts_for}
use Rattle.xs_modules.specs.Numbering.{ModuleData}
use Rattle.xs_structure.specs.Modules.{Place, precedence_at}

-- of the one that counts so far and of the one that counts of the others
abbrev pub of_both : List ModuleData → Option Place → Option Place → Option Place
of_both ms None c = c
of_both ms (Some p) c = Some (greater ms p c)

-- of three, by their precedences
pub of-three : {X : Type 0} (a p q : X) (x y z : ℕ) (one two three : Bool) → nat_lt y x ≡ one → nat_lt z y ≡ two → nat_lt z x ≡ three
    → (if one then (if three then a else q) else (if two then p else q)) ≡ (if two then (if one then a else p) else (if three then a else q))
of-three a p q x y z true true true e f g = refl
of-three a p q x y z true true false e f g =
    absurd (true≢false (sym (lt-ltb z x (omega (arith, ltb-true y x e, ltb-true z y f))) ∙ g))
of-three a p q x y z true false three e f g = refl
of-three a p q x y z false true three e f g = refl
of-three a p q x y z false false true e f g =
    absurd (true≢false (sym g ∙ le-ltb z x (omega (arith, ltb-false y x e, ltb-false z y f))))
of-three a p q x y z false false false e f g = refl

module _ (ms : List ModuleData) where
  abbrev before : Place → Place → Bool
  before q p = nat_lt (precedence_at ms q.0) (precedence_at ms p.0)

  first-if : (a p q : Place) (b : Bool) → greater ms (if b then a else p) (Some q)
      ≡ (if b then (if before q a then a else q) else (if before q p then p else q))
  first-if a p q true = refl
  first-if a p q false = refl

  second-if : (a p q : Place) (b : Bool) → greater ms a (Some (if b then p else q))
      ≡ (if b then (if before p a then a else p) else (if before q a then a else q))
  second-if a p q true = refl
  second-if a p q false = refl

  greater-three : (a p q : Place) → greater ms (greater ms a (Some p)) (Some q) ≡ greater ms a (Some (greater ms p (Some q)))
  greater-three a p q =
      first-if a p q (before p a)
      ∙ of-three a p q (precedence_at ms a.0) (precedence_at ms p.0) (precedence_at ms q.0) (before p a) (before q p) (before q a) refl refl refl
      ∙ sym (second-if a p q (before q p))

  both-more : (o c : Option Place) (p : Place) → of_both ms (counts_for ms o p) c ≡ of_both ms o (Some (greater ms p c))
  both-more None c p = refl
  both-more (Some a) None p = refl
  both-more (Some a) (Some q) p = ap Some (greater-three a p q)

  -- one more, if it passes a test
  pub count_more : (test : Place → Bool) (p : Place) (ps : List Place) (old new whole : Option Place) (b : Bool) → test p ≡ b
      → new ≡ (if b then counts_for ms old p else old) → of_both ms old (counted ms (filter test (p ∷ ps))) ≡ whole
      → of_both ms new (counted ms (filter test ps)) ≡ whole
  count_more test p ps old new whole true e h w =
      ap (λ (o : Option Place). of_both ms o (counted ms (filter test ps))) h
      ∙ both-more old (counted ms (filter test ps)) p
      ∙ sym (ap (λ (b : Bool). of_both ms old (counted ms (cond b (p ∷ filter test ps) (filter test ps)))) e)
      ∙ w
  count_more test p ps old new whole false e h w =
      ap (λ (o : Option Place). of_both ms o (counted ms (filter test ps))) h
      ∙ sym (ap (λ (b : Bool). of_both ms old (counted ms (cond b (p ∷ filter test ps) (filter test ps)))) e)
      ∙ w

  pub count_end : (o : Option Place) → of_both ms o None ≡ o
  count_end None = refl
  count_end (Some p) = refl

-- ---- the items of a list from one on
pub drop_next : {X : Type 0} (xs : List X) (i : ℕ) (x : X) → i < length xs → x ≡ get_or xs i x → drop i xs ≡ x ∷ drop (i + 1) xs
drop_next xs i x h e =
    let next : suc i ≡ i + 1 = omega arith in
    drop-cons xs i x h ∙ ap (λ y. y ∷ drop (suc i) xs) (sym e) ∙ ap (λ k. x ∷ drop k xs) next
