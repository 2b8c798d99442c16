-- The number of the template that is called by a name.
use Rattle.std.proofs.Common.{◌≡◌, ◌∙◌, ℕ, ◌+◌, ap, refl, sym, subst, List, [], ◌∷◌, cond, filter, Bool, true, false, Option, Some, None}
use Rattle.std.proofs.lemmas.Bool.{and_from, and_parts, false≢true}
use Rattle.std.proofs.lemmas.Bool.Decides.{same_from_decides}
use Rattle.std.proofs.Math.Path.{fun_ext}
use Rattle.std.specs.List.{position}
use Rattle.std.specs.Option.{option_and_then, option_map_or}
use Rattle.std.specs.Prelude.{◌&&◌, nat_lt, if◌then◌else◌}
use Rattle.xs_compile.proofs.NumberLemmas.{number_from, position_is}
use Rattle.xs_compile.specs.Counted.{counted, greater, named, template_number, templates}
use Rattle.xs_structure.proofs.DeclarationLemmas.{place-same, same-place}
use Rattle.xs_structure.specs.Order.{declarations, declares}
use Rattle.xs_compile.specs.steps.Counting.{is_called}
use Rattle.xs_elements.specs.Nodes.{Name}
use Rattle.xs_elements.specs.Tags.{is_template}
use Rattle.xs_modules.specs.Numbering.{ModuleData}
use Rattle.xs_structure.specs.Modules.{Place, is_same_place, precedence_at}

-- ---- the one that counts is one of them
module _ (ms : List ModuleData) (test : Place → Bool) where
  either : (p q : Place) (b : Bool) → test p ≡ true → test q ≡ true → test (if b then p else q) ≡ true
  either p q true e f = e
  either p q false e f = f

  greater-passes : (p : Place) (c : Option Place) → test p ≡ true → ((q : Place) → c ≡ Some q → test q ≡ true) → test (greater ms p c) ≡ true
  greater-passes p None e h = e
  greater-passes p (Some q) e h = either p q (nat_lt (precedence_at ms q.0) (precedence_at ms p.0)) e (h q refl)

  some-same : (p q : Place) → Some p ≡ Some q → p ≡ q
  some-same p q e = ap (λ (o : Option Place). option_map_or (λ x. x) o p) e

  counted-next : (p : Place) (ps : List Place) (b : Bool) → test p ≡ b
      → ((q : Place) → counted ms (filter test ps) ≡ Some q → test q ≡ true)
      → (c : Place) → counted ms (cond b (p ∷ filter test ps) (filter test ps)) ≡ Some c → test c ≡ true
  counted-next p ps true e ih c h =
      subst (λ x. test x ≡ true) (some-same (greater ms p (counted ms (filter test ps))) c h) (greater-passes p (counted ms (filter test ps)) e ih)
  counted-next p ps false e ih c h = ih c h

  pub counted-passes : (ps : List Place) (c : Place) → counted ms (filter test ps) ≡ Some c → test c ≡ true
  counted-passes [] c h = absurd (false≢true (ap (λ (o : Option Place). option_map_or (λ x. true) o false) h))
  counted-passes (p ∷ ps) c h = counted-next p ps (test p) refl (counted-passes ps) c h

and-false : (b : Bool) → (b && false) ≡ false
and-false true = refl
and-false false = refl

-- ---- the number of the first that is called so is that of the one that counts
module _ (ms : List ModuleData) (name : Name) where
  called-by : (c p : Place) → declares is_template ms name c ≡ true
      → (declares is_template ms name p && is_same_place p c) ≡ is_same_place c p
  called-by c p d =
      same_from_decides {P = is_same_place c p ≡ true} (declares is_template ms name p && is_same_place p c) (is_same_place c p) (
        λ h. subst (λ x. is_same_place c x ≡ true) (sym (place-same p c (and_parts (declares is_template ms name p) (is_same_place p c) h).1)) (same-place c),
        λ h. subst (λ x. (declares is_template ms name x && is_same_place x c) ≡ true) (place-same c p h)
            (and_from (declares is_template ms name c) (is_same_place c c) d (same-place c)),
      )
      (λ h. h, λ h. h)

  none-from : (n : ℕ) (ps : List Place) → number_from (λ (p : Place). false) n ps ≡ None
  none-from n [] = refl
  none-from n (p ∷ ps) = none-from (n + 1) ps

  by-counted : (o : Option Place) → counted ms (named is_template ms name) ≡ o
      → number_from (is_called ms name) 0 (templates ms) ≡ option_and_then (λ c. position (is_same_place c) (templates ms)) o
  by-counted None e =
      ap (λ (t : Place → Bool). number_from t 0 (templates ms)) (fun_ext (λ p.
      ap (λ (o : Option Place). declares is_template ms name p && option_map_or (is_same_place p) o false) e
      ∙ and-false (declares is_template ms name p)))
      ∙ none-from 0 (templates ms)
  by-counted (Some c) e =
      ap (λ (t : Place → Bool). number_from t 0 (templates ms)) (fun_ext (λ p.
      ap (λ (o : Option Place). declares is_template ms name p && option_map_or (is_same_place p) o false) e
      ∙ called-by c p (counted-passes ms (declares is_template ms name) (declarations ms) c e)))
      ∙ position_is (is_same_place c) (templates ms)

  pub template_number_is : number_from (is_called ms name) 0 (templates ms) ≡ template_number ms name
  template_number_is = by-counted (counted ms (named is_template ms name)) refl
