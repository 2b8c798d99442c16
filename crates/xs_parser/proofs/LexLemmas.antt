-- The tokens of a text: the rules, the function and the code say the same.
use Rattle.std.proofs.Common.{◌≡◌, ◌≢◌, ℕ, zero, suc, ◌+◌, ◌-◌, ◌<◌, ◌≤◌, Bool, true, false, List, [], ◌∷◌, ◌++◌, Option, Some, None, option_map, length, drop, refl, sym, ◌∙◌, ap, subst, arith, append_assoc}
use Rattle.std.specs.Prelude.{◌==◌, if◌then◌else◌, option_and_then}
use Rattle.std.proofs.lemmas.List.{length-append, append-nil}
use Rattle.xs_parser.specs.declared.token.Lexeme.{Lexeme}
use Rattle.xs_parser.specs.declared.token.Placed.{Placed}
use Rattle.xs_parser.specs.declared.signs.Before.{Before}
use Rattle.xs_parser.specs.declared.signs.Before.TheVariants.{NoOperand}
use Rattle.xs_parser.specs.Lexing.{is_space, first, Found, found, begun, placed, lexed, lexemes_in}
use Rattle.xs_parser.specs.Spelling.{IsToken, past, Lexes, end, space, token}
use Rattle.xs_parser.proofs.TokenLemmas.{none-some, some-same, true-false, same-byte, byte-is}
use Rattle.xs_parser.proofs.SpellLemmas.{begun-IsToken}
use Rattle.xs_parser.proofs.FirstByteLemmas.{token-some}
use Rattle.xs_parser.proofs.FoundLemmas.{IsToken-begun}

-- ---- steps of the function
lexed-skip : (text rest : List ℕ) (at : ℕ) (before : Before) → lexed at (length text) before (text ++ rest) ≡ lexed (past text at) 0 before rest
unfolding lexed
lexed-skip [] rest at before = refl
lexed-skip (b ∷ text) rest at before = lexed-skip text rest (suc at) before

lexed-space : (at : ℕ) (before : Before) (b : ℕ) (bs : List ℕ) → is_space b ≡ true → lexed at 0 before (b ∷ bs) ≡ lexed (suc at) 0 before bs
unfolding lexed
lexed-space at before b bs h =
    ap (λ (t : Bool). if t then lexed (suc at) 0 before bs else option_and_then
    (λ (f : Found). option_map {U = List Placed} (λ (ts : List Placed). placed at f.lexeme ∷ ts) (lexed (suc at) (length bs - length f.rest) f.after bs))
    (begun before (b ∷ bs))) h

lexed-begun : (at : ℕ) (before : Before) (b : ℕ) (bs : List ℕ) (o : Option Found) → is_space b ≡ false → begun before (b ∷ bs) ≡ o
    → lexed at 0 before (b ∷ bs) ≡ option_and_then (λ (f : Found). option_map {U = List Placed} (λ (ts : List Placed). placed at f.lexeme ∷ ts)
    (lexed (suc at) (length bs - length f.rest) f.after bs)) o
unfolding lexed
lexed-begun at before b bs o h is =
    ap (λ (t : Bool). if t then lexed (suc at) 0 before bs else option_and_then
    (λ (f : Found). option_map {U = List Placed} (λ (ts : List Placed). placed at f.lexeme ∷ ts) (lexed (suc at) (length bs - length f.rest) f.after bs))
    (begun before (b ∷ bs))) h
    ∙ ap (option_and_then (λ (f : Found). option_map {U = List Placed} (λ (ts : List Placed). placed at f.lexeme ∷ ts)
    (lexed (suc at) (length bs - length f.rest) f.after bs))) is

behind-text : (text rest : List ℕ) → length (text ++ rest) - length rest ≡ length text
behind-text text rest = let e : length (text ++ rest) ≡ length text + length rest = length-append text rest in omega arith

lexed-token : (at : ℕ) (before after : Before) (b : ℕ) (text rest : List ℕ) (l : Lexeme) → is_space b ≡ false
    → begun before ((b ∷ text) ++ rest) ≡ Some (found l rest after)
    → lexed at 0 before ((b ∷ text) ++ rest) ≡ option_map {U = List Placed} (λ (ts : List Placed). placed at l ∷ ts) (lexed (past (b ∷ text) at) 0 after rest)
lexed-token at before after b text rest l h is =
    lexed-begun at before b (text ++ rest) (Some (found l rest after)) h is
    ∙ ap (option_map {U = List Placed} (λ (ts : List Placed). placed at l ∷ ts))
    (ap (λ n. lexed (suc at) n after (text ++ rest)) (behind-text text rest) ∙ lexed-skip text rest (suc at) after)

-- ---- the rules and the function
pub lexed-Lexes : (at : ℕ) (before : Before) (bytes : List ℕ) (ts : List Placed) → Lexes at before bytes ts → lexed at 0 before bytes ≡ Some ts
unfolding lexed
lexed-Lexes _ _ _ _ (end at before) = refl
lexed-Lexes _ _ _ _ (space at before b bs ts h more) = lexed-space at before b bs h ∙ lexed-Lexes (suc at) before bs ts more
lexed-Lexes _ _ _ _ (token at before after b text rest l ts h t more) =
    lexed-token at before after b text rest l h (begun-IsToken before (b ∷ text) rest l after t)
    ∙ ap (option_map {U = List Placed} (λ (us : List Placed). placed at l ∷ us)) (lexed-Lexes (past (b ∷ text) at) after rest ts more)

map-some : {A B : Type 0} (f : A → B) (o : Option A) (b : B) → option_map f o ≡ Some b → (a : A) × (o ≡ Some a) × (f a ≡ b)
map-some f None b h = absurd (none-some b h)
map-some f (Some a) b h = (a, refl, some-same (f a) b h)

-- what is left of a text is read by the rules
abbrev Reads : List ℕ → Type 0
Reads rest = (at : ℕ) (before : Before) (ts : List Placed) → lexed at 0 before rest ≡ Some ts → Lexes at before rest ts

token-read : (at : ℕ) (before : Before) (text : List ℕ) (f : Found) (ts : List Placed) → text ≢ [] → is_space (first text) ≡ false
    → IsToken before text f.rest f.lexeme f.after → Reads f.rest → lexed at 0 before (text ++ f.rest) ≡ Some ts → Lexes at before (text ++ f.rest) ts
token-read at before [] f ts some h t reads is = absurd (some refl)
token-read at before (b ∷ text) f ts some h t reads is =
    let m = map-some (λ (us : List Placed). placed at f.lexeme ∷ us) (lexed (past (b ∷ text) at) 0 f.after f.rest) ts
    (sym (lexed-token at before f.after b text f.rest f.lexeme h (begun-IsToken before (b ∷ text) f.rest f.lexeme f.after t)) ∙ is) in
    subst (Lexes at before ((b ∷ text) ++ f.rest)) m.2 (token at before f.after b text f.rest f.lexeme m.0 h t (reads (past (b ∷ text) at) f.after m.0 m.1))

first-of : (b : ℕ) (bs text rest : List ℕ) → text ≢ [] → b ∷ bs ≡ text ++ rest → first text ≡ b
first-of b bs [] rest some h = absurd (some refl)
first-of b bs (c ∷ text) rest some h = sym (ap first h)

length-some : (text : List ℕ) → text ≢ [] → 0 < length text
length-some [] h = absurd (h refl)
length-some (b ∷ text) h = omega arith

shorter-parts : (bytes text rest : List ℕ) → text ≢ [] → bytes ≡ text ++ rest → length rest < length bytes
shorter-parts bytes text rest some h =
    let e : length bytes ≡ length text + length rest = ap length h ∙ length-append text rest in
    let l : 0 < length text = length-some text some in
    omega arith

found-read : (n at : ℕ) (before : Before) (b : ℕ) (bs : List ℕ) (f : Found) (ts : List Placed) → ((rest : List ℕ) → length rest ≤ n → Reads rest)
    → length (b ∷ bs) ≤ suc n → is_space b ≡ false → begun before (b ∷ bs) ≡ Some f → lexed at 0 before (b ∷ bs) ≡ Some ts → Lexes at before (b ∷ bs) ts
found-read n at before b bs f ts reads le h is m =
    let t = IsToken-begun before (b ∷ bs) f is in
    let some = token-some before t.0 f.rest f.lexeme f.after t.2 in
    let less : length f.rest < length (b ∷ bs) = shorter-parts (b ∷ bs) t.0 f.rest some t.1 in
    let within : length f.rest ≤ n = omega arith in
    let white : is_space (first t.0) ≡ false = ap is_space (first-of b bs t.0 f.rest some t.1) ∙ h in
    subst (λ all. Lexes at before all ts) (sym t.1) (token-read at before t.0 f ts some white t.2 (reads f.rest within)
    (subst (λ all. lexed at 0 before all ≡ Some ts) t.1 m))

none-left : (at : ℕ) (before : Before) (b : ℕ) (bs : List ℕ) (ts : List Placed) → is_space b ≡ false → begun before (b ∷ bs) ≡ None
    → lexed at 0 before (b ∷ bs) ≡ Some ts → ⊥
none-left at before b bs ts h is m = none-some ts (sym (lexed-begun at before b bs None h is) ∙ m)

reads-step : (n : ℕ) → ((rest : List ℕ) → length rest ≤ n → Reads rest) → (b : ℕ) (bs : List ℕ) → length (b ∷ bs) ≤ suc n → Reads (b ∷ bs)
reads-step n reads b bs le at before ts m = white (is_space b) refl
  where
    reported : is_space b ≡ false → (o : Option Found) → begun before (b ∷ bs) ≡ o → Lexes at before (b ∷ bs) ts
    reported h None is = absurd (none-left at before b bs ts h is m)
    reported h (Some f) is = found-read n at before b bs f ts reads le h is m

    white : (t : Bool) → is_space b ≡ t → Lexes at before (b ∷ bs) ts
    white true h = space at before b bs ts h (reads bs (omega arith) (suc at) before ts (sym (lexed-space at before b bs h) ∙ m))
    white false h = reported h (begun before (b ∷ bs)) refl

reads-nil : Reads []
unfolding lexed
reads-nil at before ts m = subst (Lexes at before []) (some-same [] ts m) (end at before)

reads-within : (n : ℕ) (bytes : List ℕ) → length bytes ≤ n → Reads bytes
reads-within n [] le = reads-nil
reads-within zero (b ∷ bs) le = absurd (omega arith)
reads-within (suc n) (b ∷ bs) le = reads-step n (reads-within n) b bs le

pub Lexes-lexed : (at : ℕ) (before : Before) (bytes : List ℕ) (ts : List Placed) → lexed at 0 before bytes ≡ Some ts → Lexes at before bytes ts
Lexes-lexed at before bytes ts m = reads-within (length bytes) bytes (omega arith) at before ts m

-- ---- the loop of the code
past-is : (text : List ℕ) (at : ℕ) → past text at ≡ at + length text
past-is [] at = omega arith
past-is (b ∷ text) at = let e : past text (suc at) ≡ suc at + length text = past-is text (suc at) in omega arith

none-before : (o : Option (List Placed)) → o ≡ option_map {U = List Placed} (λ (ts : List Placed). [] ++ ts) o
none-before None = refl
none-before (Some ts) = refl

pub start-in : (text : List ℕ) (out : List Placed) → out ≡ [] → lexemes_in text ≡ option_map {U = List Placed} (λ (ts : List Placed). out ++ ts)
    (lexed (length text - length text) 0 NoOperand text)
start-in text out empty =
    let e : length text - length text ≡ 0 = omega arith in
    rw (empty, e) (none-before (lexed 0 0 NoOperand text))

pub space-in : (n : ℕ) (all : Option (List Placed)) (out : List Placed) (before : Before) (old new : List ℕ)
    → all ≡ option_map {U = List Placed} (λ (ts : List Placed). out ++ ts) (lexed (n - length old) 0 before old) → length old ≤ n → 0 < length old
    → is_space (first old) ≡ true → new ≡ drop 1 old → all ≡ option_map {U = List Placed} (λ (ts : List Placed). out ++ ts)
    (lexed (n - length new) 0 before new)
space-in n all out before [] new so le some h is = absurd (omega arith)
space-in n all out before (b ∷ bs) new so le some h is =
    let e : suc (n - length (b ∷ bs)) ≡ n - length bs = omega arith in
    so ∙ ap (option_map {U = List Placed} (λ (ts : List Placed). out ++ ts))
    (lexed-space (n - length (b ∷ bs)) before b bs h ∙ ap (λ k. lexed k 0 before bs) e ∙ ap (λ x. lexed (n - length x) 0 before x) (sym is))

more-out : (out : List Placed) (p : Placed) (o : Option (List Placed)) → option_map {U = List Placed} (λ (ts : List Placed). out ++ ts)
    (option_map {U = List Placed} (λ (ts : List Placed). p ∷ ts) o) ≡ option_map {U = List Placed} (λ (ts : List Placed). (out ++ p ∷ []) ++ ts) o
more-out out p None = refl
more-out out p (Some ts) = ap Some (sym (append_assoc out (p ∷ []) ts))

token-there : (n at : ℕ) (before : Before) (text : List ℕ) (f : Found) → text ≢ [] → is_space (first text) ≡ false
    → IsToken before text f.rest f.lexeme f.after → at + length text ≡ n - length f.rest
    → lexed at 0 before (text ++ f.rest) ≡ option_map {U = List Placed} (λ (ts : List Placed). placed at f.lexeme ∷ ts)
    (lexed (n - length f.rest) 0 f.after f.rest)
token-there n at before [] f some h t e = absurd (some refl)
token-there n at before (b ∷ text) f some h t e =
    lexed-token at before f.after b text f.rest f.lexeme h (begun-IsToken before (b ∷ text) f.rest f.lexeme f.after t)
    ∙ ap (λ k. option_map {U = List Placed} (λ (ts : List Placed). placed at f.lexeme ∷ ts) (lexed k 0 f.after f.rest)) (past-is (b ∷ text) at ∙ e)

pub token-in : (n at : ℕ) (all : Option (List Placed)) (out pushed : List Placed) (before : Before) (old : List ℕ) (f : Found)
    → all ≡ option_map {U = List Placed} (λ (ts : List Placed). out ++ ts) (lexed (n - length old) 0 before old) → length old ≤ n → 0 < length old
    → is_space (first old) ≡ false → begun before old ≡ Some f → at ≡ n - length old → pushed ≡ out ++ placed at f.lexeme ∷ []
    → all ≡ option_map {U = List Placed} (λ (ts : List Placed). pushed ++ ts) (lexed (n - length f.rest) 0 f.after f.rest)
token-in n at all out pushed before [] f so le some h is place push = absurd (omega arith)
token-in n at all out pushed before (b ∷ bs) f so le some h is place push =
    let t = IsToken-begun before (b ∷ bs) f is in
    let full = token-some before t.0 f.rest f.lexeme f.after t.2 in
    let white : is_space (first t.0) ≡ false = ap is_space (first-of b bs t.0 f.rest full t.1) ∙ h in
    let l : length (b ∷ bs) ≡ length t.0 + length f.rest = ap length t.1 ∙ length-append t.0 f.rest in
    let e : at + length t.0 ≡ n - length f.rest = omega arith in
    so ∙ ap (λ k. option_map {U = List Placed} (λ (ts : List Placed). out ++ ts) (lexed k 0 before (b ∷ bs))) (sym place)
    ∙ ap (λ x. option_map {U = List Placed} (λ (ts : List Placed). out ++ ts) (lexed at 0 before x)) t.1
    ∙ ap (option_map {U = List Placed} (λ (ts : List Placed). out ++ ts)) (token-there n at before t.0 f full white t.2 e)
    ∙ more-out out (placed at f.lexeme) (lexed (n - length f.rest) 0 f.after f.rest)
    ∙ ap (λ x. option_map {U = List Placed} (λ (ts : List Placed). x ++ ts) (lexed (n - length f.rest) 0 f.after f.rest)) (sym push)

pub shorter : (before : Before) (old : List ℕ) (f : Found) → begun before old ≡ Some f → length f.rest < length old
shorter before old f is =
    let t = IsToken-begun before old f is in
    shorter-parts old t.0 f.rest (token-some before t.0 f.rest f.lexeme f.after t.2) t.1

pub stop-in : (n : ℕ) (all : Option (List Placed)) (out : List Placed) (before : Before) (old : List ℕ)
    → all ≡ option_map {U = List Placed} (λ (ts : List Placed). out ++ ts) (lexed (n - length old) 0 before old) → 0 < length old
    → is_space (first old) ≡ false → begun before old ≡ None → None ≡ all
stop-in n all out before [] so some h is = absurd (omega arith)
stop-in n all out before (b ∷ bs) so some h is =
    sym (so ∙ ap (option_map {U = List Placed} (λ (ts : List Placed). out ++ ts)) (lexed-begun (n - length (b ∷ bs)) before b bs None h is))

pub end-in : (n : ℕ) (all : Option (List Placed)) (out : List Placed) (before : Before) (old : List ℕ)
    → all ≡ option_map {U = List Placed} (λ (ts : List Placed). out ++ ts) (lexed (n - length old) 0 before old) → length old ≡ 0 → Some out ≡ all
unfolding lexed
end-in n all out before [] so none = sym (so ∙ ap Some (append-nil out))
end-in n all out before (b ∷ bs) so none = absurd (omega arith)

-- what its tests and its calls say
pub not-empty : (n : ℕ) → false ≡ (n == 0) → 0 < n
not-empty zero h = absurd (true-false (0 == 0) (same-byte 0) (sym h))
not-empty (suc n) h = omega arith

pub is-empty : (n : ℕ) → true ≡ (n == 0) → n ≡ 0
is-empty n h = byte-is n 0 (sym h)

pub dropped-within : (n : ℕ) (old new : List ℕ) → new ≡ drop 1 old → length old ≤ n → length new ≤ n
dropped-within n [] new is le = subst (λ xs. length xs ≤ n) (sym is) le
dropped-within n (b ∷ bs) new is le = let h : length bs ≤ n = omega arith in subst (λ xs. length xs ≤ n) (sym is) h

pub found-some : {A : Type 0} (o : Option A) (a : A) (g : A → Found) (b : Option Found) → o ≡ Some a → option_map g o ≡ b → b ≡ Some (g a)
found-some o a g b h m = sym m ∙ ap (option_map g) h

pub found-none : {A : Type 0} (o : Option A) (g : A → Found) (b : Option Found) → o ≡ None → option_map g o ≡ b → b ≡ None
found-none o g b h m = sym m ∙ ap (option_map g) h
