-- The sets that a declaration uses itself, and the declarations of modules.
use Rattle.std.proofs.Common.{◌≡◌, ℕ, zero, suc, ◌+◌, ◌-◌, ◌<◌, ◌≤◌, Bool, true, false, List, [], ◌∷◌, ◌++◌, Some, map, filter, length, get_or, refl, sym, ap, ◌∙◌, arith, append_assoc, inl, inr, take}
use Rattle.std.specs.Prelude.{◌==◌, ◌&&◌, ◌||◌, slice_get, if◌then◌else◌}
use Rattle.std.specs.List.{flat_map, range_with_len}
use Rattle.std.specs.Option.{option_map, option_map_or}
use Rattle.std.proofs.lemmas.Bool.{eq-eqb, ne_eqb}
use Rattle.std.proofs.lemmas.Bool.Decides.{leb_tells}
use Rattle.std.proofs.lemmas.List.{append-nil, length-map, get_or-map, take_more}
use Rattle.std.proofs.lemmas.List.Concat.{flat_map-append}
use Rattle.std.proofs.lemmas.Option.{slice_get-map, slice_get_read}
use Rattle.xs_static.specs.Circles.{Declared}
use Rattle.xs_elements.specs.Nodes.{Name}
use Rattle.xs_elements.specs.Reading.{is_seen}
use Rattle.xs_modules.specs.declared.modules.Module.{Module}
use Rattle.xs_modules.specs.Numbering.{ModuleData}
use Rattle.xs_modules.specs.Results.{module_data}
use Rattle.xs_structure.specs.Modules.{Place}
use Rattle.xs_static.specs.Sets.{is_part, named_sets, sets_within}
use Rattle.xs_static.specs.steps.Circles.{declaration_at, declaration_from, declarations_of, seen_sets}
use Rattle.xs_static.specs.declared.walk.Walked.{Walked}
use Rattle.xs_static.specs.steps.Whole.{AreWalked, IsWalked, WalkedData, walked_data, walked_of}
use Rattle.xs_tree.proofs.WalkLemmas.{climbs-within, is_inside-within}
use Rattle.xs_tree.specs.Record.{Record, is_inside, places}
use Rattle.xs_tree.specs.Shape.{EndsAt, IsTree}

-- ---- what nodes one after another have
module _ {X : Type 0} where
  pub flat-more : (f : ℕ → List X) (m a j : ℕ) → a + m ≡ j → flat_map f (range_with_len a (suc m)) ≡ flat_map f (range_with_len a m) ++ f j
  flat-more f zero a j e = append-nil (f a) ∙ ap f (let same : a ≡ j = omega arith in same)
  flat-more f (suc m) a j e =
      let further : (a + 1) + m ≡ j = omega arith in
      ap (λ xs. f a ++ xs) (flat-more f m (a + 1) j further) ∙ sym (append_assoc (f a) (flat_map f (range_with_len (a + 1) m)) (f j))

  flat-split : (f : ℕ → List X) (m a j : ℕ)
      → flat_map f (range_with_len a (m + j)) ≡ flat_map f (range_with_len a m) ++ flat_map f (range_with_len (a + m) j)
  flat-split f zero a j =
      let zero_first : zero + j ≡ j = omega arith in
      let same : a + zero ≡ a = omega arith in
      ap (λ k. flat_map f (range_with_len a k)) zero_first ∙ ap (λ b. flat_map f (range_with_len b j)) (sym same)
  flat-split f (suc m) a j =
      let further : (a + 1) + m ≡ a + suc m = omega arith in
      let count : suc m + j ≡ suc (m + j) = omega arith in
      ap (λ k. flat_map f (range_with_len a k)) count
      ∙ ap (λ xs. f a ++ xs) (flat-split f m (a + 1) j)
      ∙ sym (append_assoc (f a) (flat_map f (range_with_len (a + 1) m)) (flat_map f (range_with_len ((a + 1) + m) j)))
      ∙ ap (λ b. (f a ++ flat_map f (range_with_len (a + 1) m)) ++ flat_map f (range_with_len b j)) further

  flat-none : (f : ℕ → List X) (m a : ℕ) → ((k : ℕ) → a ≤ k → k < a + m → f k ≡ []) → flat_map f (range_with_len a m) ≡ []
  flat-none f zero a none = refl
  flat-none f (suc m) a none =
      ap (λ xs. xs ++ flat_map f (range_with_len (a + 1) m)) (none a (omega arith) (omega arith))
      ∙ flat-none f m (a + 1) (λ k low high. none k (omega arith) (omega arith))

  flat-same : (f g : ℕ → List X) (m a : ℕ) → ((k : ℕ) → a ≤ k → k < a + m → f k ≡ g k)
      → flat_map f (range_with_len a m) ≡ flat_map g (range_with_len a m)
  flat-same f g zero a same = refl
  flat-same f g (suc m) a same =
      ap (λ xs. xs ++ flat_map f (range_with_len (a + 1) m)) (same a (omega arith) (omega arith))
      ∙ ap (λ xs. g a ++ xs) (flat-same f g m (a + 1) (λ k low high. same k (omega arith) (omega arith)))

  flat-if : {A : Type 0} (f : A → List X) (p : A → Bool) (xs : List A)
      → flat_map f (filter p xs) ≡ flat_map (λ x. if p x then f x else []) xs
  flat-if f p [] = refl
  flat-if {A = A} f p (x ∷ xs) =
      let rest = flat-if f p xs in
      let Goal : Bool → Type 0 = λ b.
      flat_map f (if b then x ∷ filter p xs else filter p xs) ≡ (if b then f x else []) ++ flat_map (λ y. if p y then f y else []) xs in
      elim (p x) as Goal [ true ↦ ap (λ ys. f x ++ ys) rest | false ↦ rest ]

-- ---- the parts of a declaration
is-false : (b : Bool) → (b ≡ true → ⊥) → b ≡ false
is-false true h = absurd (h refl)
is-false false h = refl

inside-before : (rs : List Record) (n k : ℕ) → IsTree rs → k < length rs → k < n → is_inside rs n k ≡ false
inside-before rs n k tree within lt = is-false (is_inside rs n k) (λ h. omega (arith, lt, (climbs-within rs tree k n k within h).0))

inside-behind : (rs : List Record) (n e k : ℕ) → IsTree rs → EndsAt rs n e → e ≤ k → k < length rs → is_inside rs n k ≡ false
inside-behind rs n e k tree ends low within =
    is-false (is_inside rs n k) (λ h. ends.outside (omega (arith, low, within)) ((climbs-within rs tree k n k within h).1 e ends.after low))

inside-between : (rs : List Record) (n e k : ℕ) → IsTree rs → EndsAt rs n e → n < k → k < e → is_inside rs n k ≡ true
inside-between rs n e k tree ends low high =
    (is_inside-within rs n k tree (omega (arith, high, ends.within))).1 (low, λ j x y. ends.inside j x (omega (arith, y, high)))

no-part : (rs : List Record) (n k : ℕ) (same inside : Bool) → (k == n) ≡ same → is_inside rs n k ≡ inside → same ≡ false → inside ≡ false
    → (if (same || inside) && is_seen rs k then named_sets rs k else []) ≡ []
no-part rs n k same inside e f no_same no_inside =
    ap (λ b. if (b || inside) && is_seen rs k then named_sets rs k else []) no_same
    ∙ ap (λ b. if b && is_seen rs k then named_sets rs k else []) no_inside

some-part : (rs : List Record) (n e k : ℕ) → IsTree rs → EndsAt rs n e → n ≤ k → k < e
    → (if is_part rs n k then named_sets rs k else []) ≡ seen_sets rs k
some-part rs n e k tree ends low high =
    elim (leb_tells k n) [
      | inl h ↦
          let same : (k == n) ≡ true = eq-eqb k n (omega (arith, h.1, low)) in
          ap (λ b. if (b || is_inside rs n k) && is_seen rs k then named_sets rs k else []) same
      | inr h ↦
          let other : (k == n) ≡ false = ne_eqb k n (λ q. omega (arith, q, h.1)) in
          ap (λ b. if (b || is_inside rs n k) && is_seen rs k then named_sets rs k else []) other
          ∙ ap (λ b. if b && is_seen rs k then named_sets rs k else []) (inside-between rs n e k tree ends h.1 high)
    ]

pub own-range : (rs : List Record) (n e : ℕ) → IsTree rs → n < length rs → EndsAt rs n e
    → flat_map (seen_sets rs) (range_with_len n (e - n)) ≡ sets_within rs n
own-range rs n e tree within ends =
    let low : n < e = ends.after in
    let high : e ≤ length rs = ends.within in
    let count : length rs ≡ n + ((e - n) + (length rs - e)) = omega (arith, low, high) in
    let upto : zero + n ≡ n = omega arith in
    let rest : n + (e - n) ≡ e = omega (arith, low) in
    let parts : ℕ → List Name = λ k. if is_part rs n k then named_sets rs k else [] in
    let before : flat_map parts (range_with_len 0 n) ≡ [] =
    flat-none parts n 0 (λ k a b. no-part rs n k (k == n) (is_inside rs n k) refl refl (ne_eqb k n (λ q. omega (arith, q, b)))
    (inside-before rs n k tree (omega (arith, b, within)) (omega (arith, b)))) in
    let behind : flat_map parts (range_with_len e (length rs - e)) ≡ [] =
    flat-none parts (length rs - e) e (λ k a b. no-part rs n k (k == n) (is_inside rs n k) refl refl (ne_eqb k n (λ q. omega (arith, q, a, low)))
    (inside-behind rs n e k tree ends a (omega (arith, b, high)))) in
    let between : flat_map parts (range_with_len n (e - n)) ≡ flat_map (seen_sets rs) (range_with_len n (e - n)) =
    flat-same parts (seen_sets rs) (e - n) n (λ k a b. some-part rs n e k tree ends a (omega (arith, b, low))) in
    sym (flat-if (named_sets rs) (is_part rs n) (places rs)
    ∙ ap (λ m. flat_map parts (range_with_len 0 m)) count
    ∙ flat-split parts n 0 ((e - n) + (length rs - e))
    ∙ ap (λ xs. xs ++ flat_map parts (range_with_len (zero + n) ((e - n) + (length rs - e)))) before
    ∙ ap (λ a. flat_map parts (range_with_len a ((e - n) + (length rs - e)))) upto
    ∙ flat-split parts (e - n) n (length rs - e)
    ∙ ap (λ a. flat_map parts (range_with_len n (e - n)) ++ flat_map parts (range_with_len a (length rs - e))) rest
    ∙ ap (λ xs. flat_map parts (range_with_len n (e - n)) ++ xs) behind ∙ append-nil (flat_map parts (range_with_len n (e - n)))
    ∙ between)

-- one place more
pub sets-more : (rs : List Record) (n place : ℕ) (before old new : List Name) → n ≤ place
    → old ≡ before ++ flat_map (seen_sets rs) (range_with_len n (place - n)) → new ≡ old ++ seen_sets rs place
    → new ≡ before ++ flat_map (seen_sets rs) (range_with_len n ((place + 1) - n))
sets-more rs n place before old new le was is =
    let count : (place + 1) - n ≡ suc (place - n) = omega arith in
    let here : n + (place - n) ≡ place = omega arith in
    is ∙ ap (λ xs. xs ++ seen_sets rs place) was
    ∙ append_assoc before (flat_map (seen_sets rs) (range_with_len n (place - n))) (seen_sets rs place)
    ∙ ap (λ xs. before ++ xs)
    (sym (flat-more (seen_sets rs) (place - n) n place here) ∙ ap (λ m. flat_map (seen_sets rs) (range_with_len n m)) (sym count))

-- what was added of one more child, with what is left, is the whole
pub child-more : (f : ℕ → List Name) (child : ℕ) (behind : List ℕ) (old new whole : List Name) → new ≡ old ++ f child
    → old ++ flat_map f (child ∷ behind) ≡ whole → new ++ flat_map f behind ≡ whole
child-more f child behind old new whole is was = ap (λ xs. xs ++ flat_map f behind) is ∙ append_assoc old (f child) (flat_map f behind) ∙ was

-- ---- what is known of one node
pub seen-yes : (rs : List Record) (k : ℕ) → is_seen rs k ≡ true → named_sets rs k ≡ seen_sets rs k
seen-yes rs k seen = sym (ap (λ b. if b then named_sets rs k else []) seen)

pub seen-no : (rs : List Record) (k : ℕ) → is_seen rs k ≡ false → seen_sets rs k ≡ []
seen-no rs k unseen = ap (λ b. if b then named_sets rs k else []) unseen

-- ---- what is known of one module
pub walked-at : (modules : List Module) (all : List Walked) (i : ℕ) (m : Module) (w : Walked)
    → i < length modules → m ≡ get_or modules i m → w ≡ get_or all i w → AreWalked (map module_data modules) all
    → IsWalked (module_data m).records w
walked-at modules all i m w lt m-is w-is same =
    record { standings = ap (λ (x : WalkedData). x.0) whole; scopes = ap (λ (x : WalkedData). x.1) whole }
  where
    whole : walked_data w ≡ walked_of (module_data m)
    whole =
        let long : length (map walked_data all) ≡ length modules =
        ap length same ∙ length-map (map module_data modules) walked_of ∙ length-map modules module_data in
        let count : length (map walked_data all) ≡ length all = length-map all walked_data in
        let within : i < length all = omega (arith, long, count) in
        let there : i < length (map module_data modules) = omega (arith, length-map modules module_data) in
        ap walked_data w-is ∙ sym (get_or-map walked_data all i w (walked_data w) within) ∙ ap (λ xs. get_or xs i (walked_data w)) same
        ∙ get_or-map walked_of (map module_data modules) i (module_data m) (walked_data w) there
        ∙ ap walked_of (get_or-map module_data modules i m (module_data m) lt) ∙ ap (λ x. walked_of (module_data x)) (sym m-is)

pub module-at : (modules : List Module) (i : ℕ) (m : Module) → i < length modules → m ≡ get_or modules i m
    → slice_get (map module_data modules) i ≡ Some (module_data m)
module-at modules i m lt is =
    slice_get-map module_data modules i ∙ ap (option_map module_data) (slice_get_read modules (length modules) i m refl lt is)

pub declaration-at : (ms : List ModuleData) (p : Place) (d : ModuleData) → slice_get ms p.0 ≡ Some d
    → declaration_at ms p ≡ declaration_from d.records (get_or d.lines p.1 0) p
declaration-at ms p d is =
    ap (λ o. declaration_from (option_map_or (λ (e : ModuleData). e.records) o []) (option_map_or (λ (e : ModuleData). get_or e.lines p.1 0) o 0) p) is

-- one element more
pub declarations-more : (ms : List ModuleData) (ps : List Place) (i : ℕ) (p : Place) (old new : List Declared) → i < length ps
    → p ≡ get_or ps i p → old ≡ declarations_of ms (take i ps) → new ≡ old ++ declaration_at ms p → new ≡ declarations_of ms (take (i + 1) ps)
declarations-more ms ps i p old new lt is was more =
    more ∙ ap (λ xs. xs ++ declaration_at ms p) was
    ∙ sym (ap (declarations_of ms) (take_more ps i p lt ∙ ap (λ q. take i ps ++ q ∷ []) (sym is))
    ∙ flat_map-append (declaration_at ms) (take i ps) (p ∷ [])
    ∙ ap (λ xs. declarations_of ms (take i ps) ++ xs) (append-nil (declaration_at ms p)))
