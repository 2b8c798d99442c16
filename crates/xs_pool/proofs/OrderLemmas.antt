-- Tasks that were given one after another.
use Rattle.std.proofs.Common.{◌≡◌, ◌<◌, ℕ, List, [], ◌∷◌, ◌++◌, length, append_assoc, eqb, true, refl, sym, ap, subst, ◌∙◌, arith}
use Rattle.std.proofs.lemmas.Bool.{eqb-true}
use Rattle.xs_pool.specs.Owners.{HasGiven}

pub append-none : {T : Type 0} → (xs : List T) → xs ++ [] ≡ xs
append-none [] = refl
append-none (x ∷ xs) = ap (λ l. x ∷ l) (append-none xs)

pub gave-none : {T : Type 0} → (before kept : List T) → HasGiven [] before before kept kept
gave-none before kept = record {
  given = [];
  refused = [];
  all = refl;
  gives = sym (append-none before);
  keeps = sym (append-none kept);
  first = λ m. absurd (omega (arith, m));
}

-- one was given
pub gave-one : {T : Type 0} → (t : T) (before after kept left : List T) → after ≡ before ++ t ∷ [] → kept ≡ [] → left ≡ kept →
    HasGiven (t ∷ []) before after kept left
gave-one t before after kept left e n k = record {
  given = t ∷ [];
  refused = [];
  all = refl;
  gives = e;
  keeps = k ∙ sym (append-none kept);
  first = λ m. n;
}

-- one was kept
pub kept-one : {T : Type 0} → (t : T) (before after kept left : List T) → after ≡ before → left ≡ kept ++ t ∷ [] →
    HasGiven (t ∷ []) before after kept left
kept-one t before after kept left e k = record {
  given = [];
  refused = t ∷ [];
  all = refl;
  gives = e ∙ sym (append-none before);
  keeps = k;
  first = λ m. absurd (omega (arith, m));
}

-- what was given and what was kept, of two times: where something was given at the second, nothing was kept at the first
in-order : {T : Type 0} → (a r b s : List T) → (0 < length b → r ≡ []) → (a ++ r) ++ (b ++ s) ≡ (a ++ b) ++ (r ++ s)
in-order a r [] s f = append_assoc a r s ∙ sym (ap (λ l. l ++ (r ++ s)) (append-none a))
in-order {T} a r (x ∷ b) s f =
    let n : r ≡ [] = f (omega arith) in
    subst (λ (z : List T). (a ++ z) ++ ((x ∷ b) ++ s) ≡ (a ++ (x ∷ b)) ++ (z ++ s)) (sym n)
    (ap (λ (l : List T). l ++ ((x ∷ b) ++ s)) (append-none a) ∙ sym (append_assoc a (x ∷ b) s))

none-left : {T : Type 0} → (xs ys : List T) → xs ++ ys ≡ [] → (xs ≡ []) × (ys ≡ [])
none-left [] ys e = (refl, e)
none-left (x ∷ xs) ys e = absurd (let z = ap length e in omega (arith, z))

pub none-in : {T : Type 0} → (xs : List T) (n : ℕ) → n ≡ length xs → eqb n 0 ≡ true → xs ≡ []
none-in [] n e f = refl
none-in (x ∷ xs) n e f = let z = eqb-true n 0 f in absurd (omega (arith, e, z))

pub gave-more : {T : Type 0} → (xs ys : List T) (o n p : List T) (kept left last : List T) → HasGiven xs o n kept left → HasGiven ys n p left last →
    HasGiven (xs ++ ys) o p kept last
gave-more {T} xs ys o n p kept left last a b =
    let none : 0 < length b.given → (kept ≡ []) × (a.refused ≡ []) = λ m. none-left kept a.refused (sym a.keeps ∙ b.first m) in
    record {
      given = a.given ++ b.given;
      refused = a.refused ++ b.refused;
      all = ap (λ (l : List T). l ++ ys) a.all ∙ ap (λ (l : List T). (a.given ++ a.refused) ++ l) b.all
          ∙ in-order a.given a.refused b.given b.refused (λ m. (none m).1);
      gives = b.gives ∙ ap (λ (l : List T). l ++ b.given) a.gives ∙ append_assoc o a.given b.given;
      keeps = b.keeps ∙ ap (λ (l : List T). l ++ b.refused) a.keeps ∙ append_assoc kept a.refused b.refused;
      first = λ m. by b.given none m;
    }
  where
    by : (bs : List T) → (0 < length bs → (kept ≡ []) × (a.refused ≡ [])) → 0 < length (a.given ++ bs) → kept ≡ []
    by [] f m = a.first (subst (λ (l : List T). 0 < length l) (append-none a.given) m)
    by (x ∷ bs) f m = (f (omega arith)).0
