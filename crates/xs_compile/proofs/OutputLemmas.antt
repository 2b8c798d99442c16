-- The method of the result, from the first declaration on.
use Rattle.std.proofs.Common.{◌≡◌, ◌∙◌, ℕ, ◌≤◌, ap, refl, sym, List, [], ◌∷◌, cond, drop, filter, length, Bool, true, false, Option, Some, None}
use Rattle.std.proofs.lemmas.List.{drop_all}
use Rattle.std.specs.Option.{option_map_or, unwrap_or}
use Rattle.std.specs.Prelude.{codes, is_some, nat_lt, option_map, if◌then◌else◌}
use Rattle.xs_compile.proofs.CountedLemmas.{of-three}
use Rattle.xs_compile.specs.Counted.{counted, greater}
use Rattle.xs_compile.specs.Output.{has_method, is_output, method, method_named}
use Rattle.xs_structure.specs.Order.{declarations}
use Rattle.xs_structure.specs.Parts.{tag_at, said_at, value_at}
use Rattle.xs_compile.specs.steps.Output.{of_two, output_in}
use Rattle.xs_modules.specs.Numbering.{ModuleData}
use Rattle.xs_sheet.specs.declared.declarations.Method.{Method}
use Rattle.xs_sheet.specs.declared.declarations.Method.TheVariants.{Pyx}
use Rattle.xs_structure.specs.Modules.{Place, precedence_at}

-- what a declaration says, with its precedence
abbrev pub said_by : List ModuleData → Place → ℕ × Method
said_by ms p = (precedence_at ms p.0, method_named (said_at ms p (codes "method")))

abbrev pub of_other : ℕ × Method → ℕ × Method → ℕ × Method
of_other a b = if nat_lt b.0 a.0 then a else b

-- the method so far, with the one of the declaration that counts of the others
abbrev pub with_rest : List ModuleData → Option (ℕ × Method) → Option Place → Option (ℕ × Method)
with_rest ms so_far None = so_far
with_rest ms None (Some p) = Some (said_by ms p)
with_rest ms (Some a) (Some p) = Some (of_other a (said_by ms p))

-- those that say a method
abbrev pub sayers : List ModuleData → List Place → List Place
sayers ms ps = filter (has_method ms) (filter (λ p. is_output (tag_at ms p)) ps)

module _ (ms : List ModuleData) where
  left-if : (a b c : ℕ × Method) (t : Bool) → of_other (if t then a else b) c ≡ (if t then of_other a c else of_other b c)
  left-if a b c true = refl
  left-if a b c false = refl

  right-if : (a : ℕ × Method) (p q : Place) (t : Bool) → of_other a (said_by ms (if t then p else q))
      ≡ (if t then of_other a (said_by ms p) else of_other a (said_by ms q))
  right-if a p q true = refl
  right-if a p q false = refl

  other-three : (a : ℕ × Method) (p q : Place)
      → of_other (of_other a (said_by ms p)) (said_by ms q) ≡ of_other a (said_by ms (greater ms p (Some q)))
  other-three a p q =
      let x = a.0 in
      let y = precedence_at ms p.0 in
      let z = precedence_at ms q.0 in
      left-if a (said_by ms p) (said_by ms q) (nat_lt y x)
      ∙ of-three a (said_by ms p) (said_by ms q) x y z (nat_lt y x) (nat_lt z y) (nat_lt z x) refl refl refl
      ∙ sym (right-if a p q (nat_lt z y))

  said-if : (p q : Place) (t : Bool) → (if t then said_by ms p else said_by ms q) ≡ said_by ms (if t then p else q)
  said-if p q true = refl
  said-if p q false = refl

  some-if : (t : Bool) (a b : ℕ × Method) → Some (if t then a else b) ≡ (if t then Some a else Some b)
  some-if true a b = refl
  some-if false a b = refl

  one-more : (so_far : Option (ℕ × Method)) (p : Place) (c : Option Place)
      → with_rest ms (of_two (precedence_at ms p.0) so_far (method_named (said_at ms p (codes "method")))) c
      ≡ with_rest ms so_far (Some (greater ms p c))
  one-more None p None = refl
  one-more None p (Some q) = ap Some (said-if p q (nat_lt (precedence_at ms q.0) (precedence_at ms p.0)))
  one-more (Some a) p None = sym (some-if (nat_lt (precedence_at ms p.0) a.0) a (said_by ms p))
  one-more (Some a) p (Some q) =
      ap (λ (o : Option (ℕ × Method)). with_rest ms o (Some q)) (sym (some-if (nat_lt (precedence_at ms p.0) a.0) a (said_by ms p)))
      ∙ ap Some (other-three a p q)

  -- what a declaration says, by whether it is an `xsl:output` and says a method
  abbrev said_if : Bool → Option (List ℕ) → Option Method
  said_if is_out value = if is_out then option_map method_named value else None

  abbrev in_if : Option (ℕ × Method) → Place → Bool → Option (List ℕ) → Option (ℕ × Method)
  in_if so_far p is_out value = option_map_or (of_two (precedence_at ms p.0) so_far) (said_if is_out value) so_far

  abbrev outputs : List Place → List Place
  outputs ps = filter (λ p. is_output (tag_at ms p)) ps

  passed : (so_far new whole : Option (ℕ × Method)) (p : Place) (ps : List Place) (b : Bool) (v : Option (List ℕ))
      → is_output (tag_at ms p) ≡ b → value_at ms p (codes "method") ≡ v → new ≡ output_in ms so_far p
      → with_rest ms so_far (counted ms (sayers ms (p ∷ ps))) ≡ whole → with_rest ms new (counted ms (sayers ms ps)) ≡ whole
  passed so_far new whole p ps false v e f h w =
      ap (λ (o : Option (ℕ × Method)). with_rest ms o (counted ms (sayers ms ps)))
      (h ∙ ap (λ (b : Bool). in_if so_far p b (value_at ms p (codes "method"))) e)
      ∙ sym (ap (λ (b : Bool). with_rest ms so_far (counted ms (filter (has_method ms) (cond b (p ∷ outputs ps) (outputs ps))))) e)
      ∙ w
  passed so_far new whole p ps true None e f h w =
      ap (λ (o : Option (ℕ × Method)). with_rest ms o (counted ms (sayers ms ps)))
      (h ∙ ap (λ (b : Bool). in_if so_far p b (value_at ms p (codes "method"))) e ∙ ap (in_if so_far p true) f)
      ∙ sym (ap (λ (b : Bool). with_rest ms so_far (counted ms (filter (has_method ms) (cond b (p ∷ outputs ps) (outputs ps))))) e
      ∙ ap (λ (o : Option (List ℕ)). with_rest ms so_far (counted ms (cond (is_some o) (p ∷ sayers ms ps) (sayers ms ps)))) f)
      ∙ w
  passed so_far new whole p ps true (Some x) e f h w =
      ap (λ (o : Option (ℕ × Method)). with_rest ms o (counted ms (sayers ms ps)))
      (h ∙ ap (λ (b : Bool). in_if so_far p b (value_at ms p (codes "method"))) e ∙ ap (in_if so_far p true) f
      ∙ sym (ap (λ (o : Option (List ℕ)). of_two (precedence_at ms p.0) so_far (method_named (unwrap_or o []))) f))
      ∙ one-more so_far p (counted ms (sayers ms ps))
      ∙ sym (ap (λ (b : Bool). with_rest ms so_far (counted ms (filter (has_method ms) (cond b (p ∷ outputs ps) (outputs ps))))) e
      ∙ ap (λ (o : Option (List ℕ)). with_rest ms so_far (counted ms (cond (is_some o) (p ∷ sayers ms ps) (sayers ms ps)))) f)
      ∙ w

  pub output_more : (so_far new whole : Option (ℕ × Method)) (p : Place) (ps : List Place) → new ≡ output_in ms so_far p
      → with_rest ms so_far (counted ms (sayers ms (p ∷ ps))) ≡ whole → with_rest ms new (counted ms (sayers ms ps)) ≡ whole
  output_more so_far new whole p ps = passed so_far new whole p ps (is_output (tag_at ms p)) (value_at ms p (codes "method")) refl refl

  -- all were passed
  reported : (c : Option Place) → option_map_or (λ a. a.1) (with_rest ms None c) Pyx
      ≡ option_map_or (λ p. method_named (said_at ms p (codes "method"))) c Pyx
  reported None = refl
  reported (Some p) = refl

  output_end : (so_far : Option (ℕ × Method)) (c : Option Place) → with_rest ms so_far None ≡ with_rest ms None c
      → option_map_or (λ a. a.1) so_far Pyx ≡ option_map_or (λ p. method_named (said_at ms p (codes "method"))) c Pyx
  output_end so_far c e = ap (λ (o : Option (ℕ × Method)). option_map_or (λ a. a.1) o Pyx) e ∙ reported c

  -- the method, where all were passed
  pub output_is : (so_far : Option (ℕ × Method)) (places : List Place) (i : ℕ) → length places ≤ i → places ≡ declarations ms
      → with_rest ms so_far (counted ms (sayers ms (drop i places))) ≡ with_rest ms None (counted ms (sayers ms places))
      → option_map_or (λ a. a.1) so_far Pyx ≡ method ms
  output_is so_far places i past all e =
      output_end so_far (counted ms (sayers ms places))
      (ap (λ (ps : List Place). with_rest ms so_far (counted ms (sayers ms ps))) (sym (drop_all i places past)) ∙ e)
      ∙ ap (λ (ps : List Place). option_map_or (λ p. method_named (said_at ms p (codes "method"))) (counted ms (sayers ms ps)) Pyx) all
