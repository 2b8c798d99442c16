-- Inputs, word by word.
use Rattle.std.proofs.Common.{◌≡◌, ◌∙◌, ℕ, List, [], ◌∷◌, ◌++◌, Option, Some, None, option_map, Err, suc, ◌+◌, get_or, arith, Bor, ◌<◌, ◌≢◌, Bool, true, false, MatchOption, length, drop, not, ◌||◌, if◌then◌else◌, nat_eq, refl, sym, ap, inl, inr}
use Rattle.std.proofs.lemmas.Bool.Decides.{eqb_tells}
use Rattle.std.proofs.Math.Seq.{drop-cons}
use Rattle.std.proofs.lemmas.List.{append-nil, append_assoc}
use Rattle.std.specs.Cmp.Lexicographic.{pointwise}
use Rattle.std.specs.Str.{bytes_eq}
use Rattle.std.specs.List.{flat_map, list_any, position_or_len}
use Rattle.xs_words.specs.Choice.{Pair, Text}
use Rattle.xs_text.proofs.NameLemmas.{any-past}
use Rattle.xs_words.specs.Inputs.{all_pairs, document_in, documents_in, is_document, is_among, is_equals, pair_of, parameter_in, parameters_in}
use Rattle.xs_words.specs.Results.{Gives, HasAdded, borrowed}
use Rattle.xs_words.specs.declared.choice.WordsEnd.{WordsEnd}
use Rattle.xs_words.specs.declared.choice.WordsEnd.TheVariants.{Usage, NoMemory}
use Rattle.xs_words.specs.Steps.{given}

flat_map-borrowed : (f : Text → List Text) (words : List (Bor Text)) → flat_map (λ word. f word.now) words ≡ flat_map f (borrowed words)
flat_map-borrowed f [] = refl
flat_map-borrowed f (word ∷ words) = ap (λ t. f word.now ++ t) (flat_map-borrowed f words)

pub parameters_borrowed : (words : List (Bor Text)) → flat_map (λ word. parameter_in word.now) words ≡ parameters_in (borrowed words)
unfolding parameters_in
parameters_borrowed words = flat_map-borrowed parameter_in words

pub documents_borrowed : (words : List (Bor Text)) → flat_map (λ word. document_in word.now) words ≡ documents_in (borrowed words)
unfolding documents_in
documents_borrowed words = flat_map-borrowed document_in words

-- what was read, with what the rest is read as
abbrev pub prepended : List Pair → Option (List Pair) → Option (List Pair)
prepended done = option_map (λ more. done ++ more)

prepended-cons : (done : List Pair) (pair : Pair) (more : Option (List Pair))
    → prepended done (given more (λ pairs. Some (pair ∷ pairs))) ≡ prepended (done ++ pair ∷ []) more
prepended-cons done pair None = refl
prepended-cons done pair (Some pairs) = ap (λ t. Some t) (sym (append_assoc done (pair ∷ []) pairs))

prepended-given : (done : List Pair) (pair : Pair) (found : Option Pair) (more : Option (List Pair)) → found ≡ Some pair
    → prepended done (given found (λ pair. given more (λ pairs. Some (pair ∷ pairs)))) ≡ prepended (done ++ pair ∷ []) more
prepended-given done pair found more e =
    ap (λ (f : Option Pair). prepended done (given f (λ pair. given more (λ pairs. Some (pair ∷ pairs))))) e ∙ prepended-cons done pair more

-- one word more is read
pub pairs_step : (done : List Pair) (pair : Pair) (word : Bor Text) (rest : List (Bor Text)) → pair_of word.now ≡ Some pair
    → prepended done (all_pairs (borrowed (word ∷ rest))) ≡ prepended (done ++ pair ∷ []) (all_pairs (borrowed rest))
unfolding all_pairs
pairs_step done pair word rest e = prepended-given done pair (pair_of word.now) (all_pairs (borrowed rest)) e

-- a word that is no pair
pub pairs_end : (done : List Pair) (word : Bor Text) (rest : List (Bor Text)) → pair_of word.now ≡ None
    → prepended done (all_pairs (borrowed (word ∷ rest))) ≡ None
unfolding all_pairs
pairs_end done word rest e =
    ap (λ (f : Option Pair). prepended done (given f (λ pair. given (all_pairs (borrowed rest)) (λ pairs. Some (pair ∷ pairs))))) e

borrowed-at : (words : List (Bor Text)) (i : ℕ) (d : Bor Text) → i < length words
    → borrowed (drop i words) ≡ borrowed (get_or words i d ∷ drop (i + 1) words)
borrowed-at words i d l =
    let e : suc i ≡ i + 1 = omega arith in
    ap borrowed (drop-cons words i d l ∙ ap (λ n. get_or words i d ∷ drop n words) e)

-- the word at a place is read
pub pairs_at : (done : List Pair) (pair : Pair) (words : List (Bor Text)) (i : ℕ) (d : Bor Text) → i < length words
    → pair_of (get_or words i d).now ≡ Some pair
    → prepended done (all_pairs (borrowed (drop i words))) ≡ prepended (done ++ pair ∷ []) (all_pairs (borrowed (drop (i + 1) words)))
pairs_at done pair words i d l e =
    ap (λ t. prepended done (all_pairs t)) (borrowed-at words i d l) ∙ pairs_step done pair (get_or words i d) (drop (i + 1) words) e

-- the word at a place is refused, or there is no memory for it
pub pairs_refused : {X : Type 0} (view : X → List Pair) (done : List Pair) (words : List (Bor Text)) (i : ℕ) (d : Bor Text) (end : WordsEnd)
    → i < length words → prepended done (all_pairs (borrowed (drop i words))) ≡ all_pairs (borrowed words)
    → Gives {X = Pair} (λ pair. pair) (pair_of (get_or words i d).now) (Err end) → Gives {X = X} view (all_pairs (borrowed words)) (Err end)
pairs_refused view done words i d Usage l whole e =
    sym whole ∙ ap (λ t. prepended done (all_pairs t)) (borrowed-at words i d l) ∙ pairs_end done (get_or words i d) (drop (i + 1) words) e
pairs_refused view done words i d NoMemory l whole e = tt

-- no word is left
pub pairs_done : (done : List Pair) → prepended done (all_pairs (borrowed [])) ≡ Some done
unfolding all_pairs
pairs_done done = ap (λ (t : List Pair). Some t) (append-nil done)

-- ---- one word

-- a word without `=`
pub pair_whole : (word : Text) → position_or_len is_equals word ≡ length word → None ≡ pair_of word
unfolding pair_of
pair_whole word e = rw (any-past is_equals word e) refl

document_none : (word : Text) → ((rest : Text) → word ≢ 64 ∷ rest) → is_document word ≡ false
document_none [] h = refl
document_none (b ∷ bs) h = elim (eqb_tells b 64) [
  | inl e ↦ absurd (h bs (ap (λ (x : ℕ). x ∷ bs) e.1))
  | inr e ↦ e.0
]

document_some : (word rest : Text) → word ≡ 64 ∷ rest → (is_document word ≡ true) × (rest ≡ drop 1 word)
document_some word rest e = (ap is_document e, sym (ap (drop 1) e))

-- what stands behind a first `@`
pub document_cases : (word : Text) (r : Option (Bor Text)) → MatchOption r ((rest : Text) → word ≢ 64 ∷ rest) (λ x. word ≡ 64 ∷ x.now)
    → MatchOption r (is_document word ≡ false) (λ x. (is_document word ≡ true) × (x.now ≡ drop 1 word))
document_cases word None h = document_none word h
document_cases word (Some x) h = document_some word x.now h

-- ---- names

any-borrowed : (name : Bor Text) (names : List (Bor Text)) → list_any (λ other. pointwise nat_eq name.now other.now) names ≡ is_among name.now (borrowed names)
any-borrowed name [] = refl
any-borrowed name (n ∷ ns) = ap (λ t. bytes_eq name.now n.now || t) (any-borrowed name ns)

abbrev put_behind : List (Bor Text) → Bor Text → Bool → List (Bor Text)
put_behind names name found = if found then names else names ++ name ∷ []

borrowed-append : (names : List (Bor Text)) (name : Bor Text) → borrowed (names ++ name ∷ []) ≡ borrowed names ++ name.now ∷ []
borrowed-append [] name = refl
borrowed-append (n ∷ ns) name = ap (λ t. n.now ∷ t) (borrowed-append ns name)

added_by : (added found : Bool) (name : Bor Text) (before after : List (Bor Text)) → found ≡ is_among name.now (borrowed before) → added ≡ not found
    → after ≡ put_behind before name found → HasAdded added name.now (borrowed before) (borrowed after)
added_by true true name before after f a k = absurd (cc)
added_by true false name before after f a k = (sym f, ap borrowed k ∙ borrowed-append before name)
added_by false true name before after f a k = sym f
added_by false false name before after f a k = absurd (cc)

-- what an insertion says
pub name_added : (added : Bool) (name : Bor Text) (before after : List (Bor Text))
    → added ≡ not (list_any (λ other. pointwise nat_eq name.now other.now) before)
    → after ≡ put_behind before name (list_any (λ other. pointwise nat_eq name.now other.now) before)
    → HasAdded added name.now (borrowed before) (borrowed after)
name_added added name before after a k =
    added_by added (list_any (λ other. pointwise nat_eq name.now other.now) before) name before after (any-borrowed name before) a k
