-- Where all globals were settled, all of them have values.
use Rattle.std.proofs.Common.{◌≡◌, ◌<◌, ◌+◌, ◌⊎◌, inl, inr, ℕ, zero, suc, length, List, [], ◌∷◌, map, get_or, slice_get, slice_set, Option, Some, None}
use Rattle.std.proofs.Common.{Bool, true, false, cond, option_map, ◌≤◌, ◌==◌, refl, sym, ap, subst, ◌∙◌, arith}
use Rattle.std.proofs.lemmas.Bool.Decides.{nat_tests}
use Rattle.std.proofs.lemmas.Bool.{true≢false}
use Rattle.std.proofs.lemmas.List.{length-map, length-set}
use Rattle.std.proofs.lemmas.List.Elements.{All-map}
use Rattle.std.proofs.lemmas.List.Sums.{sum_by-cons}
use Rattle.std.proofs.lemmas.List.Sorted.{IsPermutation-map, Contains-permutation}
use Rattle.std.proofs.lemmas.Option.{slice_get-get_or, slice_get-map}
use Rattle.std.specs.List.{All, Contains}
use Rattle.std.specs.Option.{IsSome, is_some}
use Rattle.xs_sheet.specs.declared.declarations.Global.{Global}
use Rattle.xs_trace.specs.declared.item.Spot.{Spot}
use Rattle.xs_eval_spec.specs.Conditions.{IsInIf}
use Rattle.xs_tree.specs.Record.{Record}
use Rattle.xs_value.specs.declared.value.Value.{Value}
use Rattle.xs_value.specs.declared.value.Value.TheVariants.{Chars as String}
use Rattle.xs_body_spec.specs.World.{World}
use Rattle.xs_body_spec.specs.Globals.{Table, Settled, settled, ended, Settles, AllSettle, SettlesAll, IsInOrder, placed, attempt_value, tried, at_first}
use Rattle.xs_body_spec.specs.Globals.{text_given, value_given}
use Rattle.xs_body_spec.specs.Globals.{with_globals, with_passed, with_value}
use Rattle.xs_body_spec.specs.Globals as settles
use Rattle.xs_globals.proofs.SettlingLemmas.{filled, is_lacking, set-other}
use Rattle.xs_globals.specs.Results.{settled_by}
use Rattle.xs_globals.specs.steps.Settling.{IsGoing, IsFlagged, left_over, unmarked}

-- no global has lost its value
abbrev IsLater : Table → Table → Type 0
IsLater t u = (length u.values ≡ length t.values) × ((h : ℕ) → slice_get u.values h ≡ Some None → slice_get t.values h ≡ Some None)

later-then : (t u v : Table) → IsLater t u → IsLater u v → IsLater t v
later-then t u v a b = (b.0 ∙ a.0, λ h e. a.1 h (b.1 h e))

abbrev HasSettled : ℕ → Table → Settled → Type 0
HasSettled g t (settled u) = (slice_get u.values g ≡ Some None → ⊥) × IsLater t u
HasSettled g t (ended u s) = Unit {0}

has-filled : (g : ℕ) (t : Table) (v : Value) (u : Table) → u.values ≡ slice_set t.values g (Some v) → HasSettled g t (settled u)
has-filled g t v u e = (
  (λ n. filled t.values g v (sym (ap (λ vs. slice_get vs g) e) ∙ n)),
  (ap length e ∙ length-set t.values g (Some v), λ h n. later h (g == h) refl (sym (ap (λ vs. slice_get vs h) e) ∙ n)),
)
  where
    later : (h : ℕ) (b : Bool) → (g == h) ≡ b → slice_get (slice_set t.values g (Some v)) h ≡ Some None → slice_get t.values h ≡ Some None
    later h true q n =
        let same : g ≡ h = grind (arith, nat_tests, q) in
        absurd (filled t.values g v (subst (λ k. slice_get (slice_set t.values g (Some v)) k ≡ Some None) (sym same) n))
    later h false q n = let apart : h ≡ g → ⊥ = grind (arith, nat_tests, q) in sym (set-other t.values g h (Some v) apart) ∙ n

has-after : (g h : ℕ) (t u : Table) (r : Settled) → HasSettled h t (settled u) → HasSettled g u r → HasSettled g t r
has-after g h t u (settled v) a b = (b.0, later-then t u v a.1 b.1)
has-after g h t u (ended v s) a b = tt

module _ (w : World) (budget : ℕ) where
  has-settled : {under : List ℕ} {g : ℕ} {t : Table} {r : Settled} → Settles w budget under g t r → HasSettled g t r
  has-settled {g = g} {t = t} (settles.whole e) =
      has-filled g t (attempt_value (with_globals w t.values) (slice_get w.sheet.globals g)) (with_value w g (with_passed (tried w budget t g) t)) refl
  has-settled (settles.faults e) = tt
  has-settled (settles.spends e) = tt
  has-settled (settles.circular e n) = tt
  has-settled {g = g} {t = t} {r = r} (settles.needs {u = u} {h = h} e n k m) = has-after g h t u r (has-settled k) (has-settled m)
  has-settled (settles.stops e n k) = tt

  abbrev HaveSettled : List ℕ → Table → Settled → Type 0
  HaveSettled gs t (settled u) = ((h : ℕ) → Contains gs h → slice_get u.values h ≡ Some None → ⊥) × IsLater t u
  HaveSettled gs t (ended u s) = Unit {0}

  -- the first, or another one
  among : (g : ℕ) (gs : List ℕ) (h k : ℕ) → k < length (g ∷ gs) → get_or (g ∷ gs) k h ≡ h → (g ≡ h) ⊎ Contains gs h
  among g gs h zero l e = inl e
  among g gs h (suc k) l e = let less : k < length gs = omega (arith, l) in inr (k, less, e)

  first-too : (g : ℕ) (gs : List ℕ) (t u : Table) (r : Settled) → (slice_get u.values g ≡ Some None → ⊥) → IsLater t u → HaveSettled gs u r →
      HaveSettled (g ∷ gs) t r
  first-too g gs t u (settled v) n a b = ((λ h c. by_case h (among g gs h c.0 c.1 c.2)), later-then t u v a b.1)
    where
      by_case : (h : ℕ) → (g ≡ h) ⊎ Contains gs h → slice_get v.values h ≡ Some None → ⊥
      by_case h (inl e) q = n (b.1.1 g (ap (λ k. slice_get v.values k) e ∙ q))
      by_case h (inr c) q = b.0 h c q
  first-too g gs t u (ended v s) n a b = tt

  one-more : (g : ℕ) (gs : List ℕ) (t u : Table) (r : Settled) → HasSettled g t (settled u) → HaveSettled gs u r → HaveSettled (g ∷ gs) t r
  one-more g gs t u r a b = first-too g gs t u r a.0 a.1 b

  have-settled : {gs : List ℕ} {t : Table} {r : Settled} → AllSettle w budget gs t r → HaveSettled gs t r
  have-settled {t = t} settles.none = ((λ h c. absurd (no-more h c)), (refl, λ h e. e))
    where
      no-more : (h : ℕ) → Contains [] h → ⊥
      no-more h c = let less : c.0 < 0 = c.1 in absurd (omega (arith, less))
  have-settled {r = r} (settles.skips {g = g} {gs = gs} {t = t} n k) = first-too g gs t t r n (refl, λ h e. e) (have-settled k)
  have-settled {r = r} (settles.next {g = g} {gs = gs} {t = t} {u = u} l k m) = one-more g gs t u r (has-settled k) (have-settled m)
  have-settled (settles.stop l k) = tt

-- all numbers are among those in order
numbered : (n : ℕ) (gs : List Global) (k d : ℕ) → k < length gs → get_or (map (λ p. p.2) (placed n gs)) k d ≡ n + k
numbered n [] k d l = absurd (omega (arith, l))
numbered n (g ∷ gs) zero d l = omega arith
numbered n (g ∷ gs) (suc k) d l =
    let less : k < length gs = omega (arith, l) in
    let e : (n + 1) + k ≡ n + suc k = omega arith in
    numbered (n + 1) gs k d less ∙ e

placed-length : (n : ℕ) (gs : List Global) → length (map (λ p. p.2) (placed n gs)) ≡ length gs
placed-length n [] = refl
placed-length n (g ∷ gs) = ap suc (placed-length (n + 1) gs)

in-order : (gs : List Global) (order : List ℕ) → IsInOrder gs order → (k : ℕ) → k < length gs → Contains order k
in-order gs order o k l =
    let less : k < length (map (λ p. p.2) (placed 0 gs)) = subst (λ n. k < n) (sym (placed-length 0 gs)) l in
    let e : 0 + k ≡ k = omega arith in
    subst (λ ns. Contains ns k) (sym o.numbers)
    (Contains-permutation (map (λ p. p.2) (placed 0 gs)) (map (λ p. p.2) o.places) k (IsPermutation-map (λ p. p.2) (placed 0 gs) o.places o.all)
    (k, less, numbered 0 gs k k l ∙ e))

there : (vs : List (Option Value)) → ((k : ℕ) → k < length vs → slice_get vs k ≡ Some None → ⊥) → All IsSome vs
there vs n k d l = by_value (get_or vs k d) (slice_get-get_or vs k d l)
  where
    by_value : (o : Option Value) → slice_get vs k ≡ Some o → is_some o ≡ true
    by_value None e = absurd (n k l e)
    by_value (Some v) e = refl

pub all-there : (w : World) (given : List (List ℕ × List ℕ)) (budget : ℕ) (u : Table) → SettlesAll w given budget (settled u) →
    length u.values ≡ length w.sheet.globals → All IsSome u.values
all-there w given budget u s e =
    there u.values (λ k l. (have-settled w budget s.settle).0 k (in-order w.sheet.globals s.order s.in_order k (subst (λ n. k < n) e l)))

-- ---- what settling begins with

given-inside : (rs : List Record) (given : List (List ℕ × List ℕ)) (gs : List Global) → All (IsInIf rs) (map (value_given given) gs)
given-inside rs given gs = All-map (IsInIf rs) (value_given given) gs (λ k d l. one (get_or gs k d))
  where
    by_text : (o : Option (List ℕ)) → IsInIf rs (option_map String o)
    by_text None = tt
    by_text (Some text) = tt

    by_param : (b : Bool) (o : Option (List ℕ)) → IsInIf rs (cond b (option_map String o) None)
    by_param true o = by_text o
    by_param false o = tt

    one : (g : Global) → IsInIf rs (value_given given g)
    one g = by_param g.param (text_given given g.binding.name)

pub first-flagged : (given : List (List ℕ × List ℕ)) (gs : List Global) (begun : List Bool) (values : List (Option Value)) → begun ≡ map (λ g. false) gs →
    values ≡ map (value_given given) gs → IsFlagged begun [] values
first-flagged given gs begun values b v h e =
    ap (λ bs. slice_get bs h) b ∙ slice_get-map (λ g. false) gs h
    ∙ by_global (slice_get gs h) (sym (slice_get-map (value_given given) gs h) ∙ sym (ap (λ vs. slice_get vs h) v) ∙ e)
  where
    by_global : (o : Option Global) → option_map (value_given given) o ≡ Some None → option_map (λ g. false) o ≡ Some false
    by_global None q = absurd (true≢false (sym (ap is_lacking q)))
    by_global (Some g) q = refl

none-left : (gs : List Global) → left_over (map (λ g. false) gs) ≡ length gs
none-left [] = refl
none-left (g ∷ gs) =
    let e : left_over (map (λ x. false) gs) ≡ length gs = none-left gs in
    let first : left_over (map (λ x. false) (g ∷ gs)) ≡ 1 + left_over (map (λ x. false) gs) = sum_by-cons unmarked false (map (λ x. false) gs) in
    let whole : 1 + left_over (map (λ x. false) gs) ≡ suc (length gs) = omega (arith, e) in
    first ∙ whole

pub first-going : (w : World) (budget : ℕ) (given : List (List ℕ × List ℕ)) (begun : List Bool) (t : Table) → begun ≡ map (λ g. false) w.sheet.globals →
    t ≡ at_first w.sheet given → IsGoing w budget begun t
first-going w budget given begun t b e =
    let gs : List Global = w.sheet.globals in
    let rest : left_over begun ≡ length gs = ap left_over b ∙ none-left gs in
    let few : 0 + left_over begun ≤ length gs = omega (arith, rest) in
    let first : IsGoing w budget begun (at_first w.sheet given) = record {
      values = given-inside w.tree given gs;
      within = omega arith;
      marks = ap length b ∙ length-map gs (λ g. false);
      count = length-map gs (value_given given);
      few = few;
    } in
    subst (λ (u : Table). IsGoing w budget begun u) (sym e) first

-- what it comes to
pub whole-there : (w : World) (given : List (List ℕ × List ℕ)) (budget : ℕ) (t : Table) (end : Option Spot) → SettlesAll w given budget (settled_by end t) →
    length t.values ≡ length w.sheet.globals → end ≡ None → All IsSome t.values
whole-there w given budget t end s l e =
    all-there w given budget t (subst (λ o. SettlesAll w given budget (settled_by o t)) e s) l

pub settles-so : (w : World) (given : List (List ℕ × List ℕ)) (budget : ℕ) (globals : List Global) (order left : List ℕ) (t : Table) (r : Settled) →
    globals ≡ w.sheet.globals → IsInOrder globals order → left ≡ order → t ≡ at_first w.sheet given → AllSettle w budget left t r →
    SettlesAll w given budget r
settles-so w given budget globals order left t r e o q k s = record {
  order = order;
  in_order = subst (λ (gs : List Global). IsInOrder gs order) e o;
  settle =
      subst (λ (u : Table). AllSettle w budget order u r) k
      (subst (λ (ns : List ℕ). AllSettle w budget ns t r) q s);
}
