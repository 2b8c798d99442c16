-- Without a rule on white space no text of a source is stripped.
use Rattle.std.proofs.Common.{◌≡◌, ◌∙◌, ℕ, zero, suc, ◌&&◌, Bool, true, false, List, [], ◌∷◌, Option, None, Some, length, map, filter, get_or, refl, sym, ap}
use Rattle.std.proofs.Math.Bool.{and-false}
use Rattle.std.proofs.lemmas.List.FromFn.{length-range_with_len}
use Rattle.std.proofs.lemmas.Simd.{pick_l_whole}
use Rattle.std.specs.List.{range_with_len}
use Rattle.std.specs.Option.{option_map, option_map_or}
use Rattle.xs_rules.specs.WhiteSpace.{is_stripped, is_stripped_in, stripped, strips}
use Rattle.xs_sheet.specs.declared.declarations.StripRule.{StripRule}
use Rattle.xs_text.specs.WhiteSpace.{is_blank}
use Rattle.xs_tree.specs.Kinds.{is_element_kind, is_text_kind}
use Rattle.xs_tree.specs.Record.{Record, at, places, root_record}
use Rattle.xs_tree.specs.Stripping.{new_place, renumbered, stays, without}

-- ---- lists

three-false : (a b : Bool) → (a && b && false) ≡ false
three-false a b = and-false (a && b)

all-false : (f : ℕ → Bool) → ((n : ℕ) → f n ≡ false) → (xs : List ℕ) (k : ℕ) → get_or (map f xs) k false ≡ false
all-false f none [] k = refl
all-false f none (x ∷ xs) zero = none x
all-false f none (x ∷ xs) (suc k) = all-false f none xs k

all-stay : (p : ℕ → Bool) → ((n : ℕ) → p n ≡ true) → (xs : List ℕ) → filter p xs ≡ xs
all-stay p all [] = refl
all-stay p all (x ∷ xs) = rw (all x) (ap (λ l. x ∷ l) (all-stay p all xs))

same-map : (f g : ℕ → Record) → ((n : ℕ) → f n ≡ g n) → (xs : List ℕ) → map f xs ≡ map g xs
same-map f g same [] = refl
same-map f g same (x ∷ xs) = ap (λ y. y ∷ map f xs) (same x) ∙ ap (λ l. g x ∷ l) (same-map f g same xs)

same-option : (f : ℕ → ℕ) → ((n : ℕ) → f n ≡ n) → (o : Option ℕ) → option_map f o ≡ o
same-option f same None = refl
same-option f same (Some p) = ap (λ n. Some n) (same p)

-- ---- no node is stripped

none-strips : (r : Record) → strips [] r ≡ false
unfolding strips
none-strips r = and-false (is_element_kind r.kind)

none-in : (rs : List Record) (o : Option ℕ) → option_map_or (is_stripped_in [] rs) o false ≡ false
none-in rs None = refl
none-in rs (Some p) = rw (none-strips (at rs p)) refl

none-is : (rs : List Record) (n : ℕ) → is_stripped [] rs n ≡ false
none-is rs n = rw (none-in rs (at rs n).parent) (three-false (is_text_kind (at rs n).kind) (is_blank (at rs n).text))

module _ (rs : List Record) where
  abbrev Marks : List Bool
  Marks = stripped [] rs

  each-stays : (k : ℕ) → stays Marks rs k ≡ true
  each-stays k = rw (all-false (is_stripped [] rs) (none-is rs) (places rs) k) refl

  own-place : (n : ℕ) → new_place Marks rs n ≡ n
  own-place n = ap length (all-stay (stays Marks rs) each-stays (range_with_len 0 n)) ∙ length-range_with_len 0 n

  as-it-was : (k : ℕ) → renumbered Marks rs k ≡ at rs k
  as-it-was k = ap (λ o. record (at rs k) { parent = o }) (same-option (new_place Marks rs) own-place (at rs k).parent)

  whole : rs ≡ without Marks rs
  whole =
      sym (pick_l_whole root_record rs (length rs) refl) ∙ sym (same-map (renumbered Marks rs) (at rs) as-it-was (places rs))
      ∙ ap (map (renumbered Marks rs)) (sym (all-stay (stays Marks rs) each-stays (places rs)))

no-rules : (rules : List StripRule) → length rules ≡ 0 → rules ≡ []
no-rules [] e = refl
no-rules (r ∷ rules) e = absurd (cc)

pub stripped_without_rules : (rules : List StripRule) (rs : List Record) → length rules ≡ 0 → rs ≡ without (stripped rules rs) rs
stripped_without_rules rules rs none = whole rs ∙ ap (λ l. without (stripped l rs) rs) (sym (no-rules rules none))
