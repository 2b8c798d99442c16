-- A text is cut at each byte that may get a space.
use Rattle.std.proofs.Common.{◌≡◌, ℕ, ◌<◌, ◌==◌, Bool, true, false, if◌then◌else◌, List, [], ◌∷◌, ◌++◌, length, refl, sym, ap, ◌∙◌, append_assoc, length-append, arith}
use Rattle.std.proofs.lemmas.Bool.{or_parts, eq-eqb}
use Rattle.std.specs.List.{list_any, position_or_len, before_first, after_first}
use Rattle.xs_text.proofs.FirstByteLemmas.{after-at, before-at, first_of_any, is_the}
use Rattle.xs_text.proofs.NameLemmas.{any-before, any-past}
use Rattle.xs_making.specs.Texts.{spaced}

-- other bytes stay as they are
spaced-front : (byte : ℕ) (asks : List ℕ → Bool) (front rest : List ℕ) → list_any (λ b. b == byte) front ≡ false
    → spaced byte asks (front ++ rest) ≡ front ++ spaced byte asks rest
unfolding spaced
spaced-front byte asks [] rest none = refl
spaced-front byte asks (b ∷ bs) rest none =
    let parts = or_parts (b == byte) (list_any (λ b. b == byte) bs) none in
    rw parts.0 (ap (λ xs. b ∷ xs) (spaced-front byte asks bs rest parts.1))

spaced-none : (byte : ℕ) (asks : List ℕ → Bool) (text : List ℕ) → list_any (λ b. b == byte) text ≡ false → spaced byte asks text ≡ text
unfolding spaced
spaced-none byte asks [] none = refl
spaced-none byte asks (b ∷ bs) none =
    let parts = or_parts (b == byte) (list_any (λ b. b == byte) bs) none in
    rw parts.0 (ap (λ xs. b ∷ xs) (spaced-none byte asks bs parts.1))

-- the byte itself, and a space where one is asked for
spaced-byte : (byte : ℕ) (asks : List ℕ → Bool) (back : List ℕ)
    → spaced byte asks (byte ∷ back) ≡ (if asks back then byte ∷ 32 ∷ [] else byte ∷ []) ++ spaced byte asks back
unfolding spaced
spaced-byte byte asks back =
    rw (eq-eqb byte byte refl)
    (elim (asks back) as (λ t. (if t then byte ∷ 32 ∷ spaced byte asks back else byte ∷ spaced byte asks back)
    ≡ (if t then byte ∷ 32 ∷ [] else byte ∷ []) ++ spaced byte asks back) [ true ↦ refl | false ↦ refl ])

-- a text is cut at the first such byte
record IsCut (byte : ℕ) (text front back : List ℕ) : Type 0 where
  whole : text ≡ front ++ byte ∷ back
  none : list_any (λ b. b == byte) front ≡ false

cut_is : (byte : ℕ) (text front back : List ℕ) → front ≡ before_first (λ b. b == byte) text → back ≡ after_first (λ b. b == byte) text
    → position_or_len (λ b. b == byte) text < length text → IsCut byte text front back
cut_is byte text front back before after lt =
    let cut = first_of_any (λ b. b == byte) text (any-before (λ b. b == byte) text lt) in
    let same : cut.at ≡ byte = is_the cut.at byte cut.passes in
    let front_is : front ≡ cut.front =
    before ∙ ap (before_first (λ b. b == byte)) cut.whole ∙ before-at (λ b. b == byte) cut.front cut.at cut.back cut.none cut.passes in
    let back_is : back ≡ cut.back =
    after ∙ ap (after_first (λ b. b == byte)) cut.whole ∙ after-at (λ b. b == byte) cut.front cut.at cut.back cut.none cut.passes in
    record {
      whole =
          cut.whole ∙ ap (λ xs. xs ++ cut.at ∷ cut.back) (sym front_is) ∙ ap (λ b. front ++ b ∷ cut.back) same
          ∙ ap (λ xs. front ++ byte ∷ xs) (sym back_is);
      none = ap (list_any (λ b. b == byte)) front_is ∙ cut.none;
    }

pub spaced-step : (byte : ℕ) (asks : List ℕ → Bool) (is_spaced : Bool) (whole out new text front back : List ℕ)
    → front ≡ before_first (λ b. b == byte) text → back ≡ after_first (λ b. b == byte) text → position_or_len (λ b. b == byte) text < length text
    → is_spaced ≡ asks back → new ≡ out ++ (front ++ (if is_spaced then byte ∷ 32 ∷ [] else byte ∷ []))
    → out ++ spaced byte asks text ≡ whole → new ++ spaced byte asks back ≡ whole
spaced-step byte asks is_spaced whole out new text front back before after lt tested pushed so_far =
    let cut = cut_is byte text front back before after lt in
    let mark : List ℕ = if asks back then byte ∷ 32 ∷ [] else byte ∷ [] in
    let text_is : spaced byte asks text ≡ front ++ (mark ++ spaced byte asks back) =
    ap (spaced byte asks) cut.whole ∙ spaced-front byte asks front (byte ∷ back) cut.none
    ∙ ap (λ xs. front ++ xs) (spaced-byte byte asks back) in
    let new_is : new ≡ out ++ (front ++ mark) = pushed ∙ ap (λ b. out ++ (front ++ (if b then byte ∷ 32 ∷ [] else byte ∷ []))) tested in
    ap (λ xs. xs ++ spaced byte asks back) new_is ∙ append_assoc out (front ++ mark) (spaced byte asks back)
    ∙ ap (λ xs. out ++ xs) (append_assoc front mark (spaced byte asks back)) ∙ ap (λ xs. out ++ xs) (sym text_is) ∙ so_far

pub spaced-shorter : (byte : ℕ) (text front back : List ℕ) → front ≡ before_first (λ b. b == byte) text → back ≡ after_first (λ b. b == byte) text
    → position_or_len (λ b. b == byte) text < length text → length back < length text
spaced-shorter byte text front back before after lt =
    let cut = cut_is byte text front back before after lt in
    omega (arith, ap length cut.whole, length-append front (byte ∷ back))

pub spaced-end : (byte : ℕ) (asks : List ℕ → Bool) (whole out text : List ℕ) → position_or_len (λ b. b == byte) text ≡ length text
    → out ++ spaced byte asks text ≡ whole → out ++ text ≡ whole
spaced-end byte asks whole out text past so_far =
    ap (λ xs. out ++ xs) (sym (spaced-none byte asks text (any-past (λ b. b == byte) text past))) ∙ so_far
