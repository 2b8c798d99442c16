-- Where the attributes of a start tag stand, after one more and after another value.
use Rattle.std.proofs.Common.{◌≡◌, ◌∙◌, ℕ, zero, suc, ap, refl, sym, Bool, true, false, List}
use Rattle.std.proofs.Common.{[], ◌∷◌, ◌++◌, Option, Some, None, length, ◌<◌, slice_set, slice_index_or, arith}
use Rattle.std.proofs.lemmas.Bool.{and_parts, true≢false}
use Rattle.std.proofs.lemmas.List.{append-nil}
use Rattle.std.proofs.lemmas.Slice.Eq.{bytes_eq-Decides}
use Rattle.std.specs.Prelude.{◌&&◌, if◌then◌else◌, option_map}
use Rattle.std.specs.Option.{option_map_or}
use Rattle.std.specs.Str.{bytes_eq}
use Rattle.xs_trace.specs.declared.event.Event.{Event}
use Rattle.xs_trace.specs.declared.event.Event.TheVariants.{Start, Space, Attr, Chars, End, Comment, Pi}
use Rattle.xs_trace.specs.Label.{Label}
use Rattle.xs_result.specs.Places.{Parts, has_parts, is_attribute, is_attribute_of, place_in, place_of, revalued, with_attribute}

-- no attributes have no places
pub no_places : (few others : List (Parts × ℕ)) (es : List Event) → few ≡ [] → others ≡ [] → es ≡ []
    → (uri local : List ℕ) → place_in (few ++ others) uri local ≡ place_of uri local es
unfolding place_of
no_places few others es none no_others nil uri local =
    ap (λ names. place_in (names ++ others) uri local) none ∙ ap (λ names. place_in names uri local) no_others ∙ ap (place_of uri local) (sym nil)

bool-same : (a b : Bool) → (a ≡ true → b ≡ true) → (b ≡ true → a ≡ true) → a ≡ b
bool-same true b f g = sym (f refl)
bool-same false true f g = g refl
bool-same false false f g = refl

bytes-turn : (xs ys : List ℕ) → bytes_eq xs ys ≡ true → bytes_eq ys xs ≡ true
bytes-turn xs ys e = (bytes_eq-Decides ys xs).1 (sym ((bytes_eq-Decides xs ys).0 e))

bytes-sym : (xs ys : List ℕ) → bytes_eq xs ys ≡ bytes_eq ys xs
bytes-sym xs ys = bool-same (bytes_eq xs ys) (bytes_eq ys xs) (bytes-turn xs ys) (bytes-turn ys xs)

-- ---- the first few names and the others

-- one of the first few
among_if : (b : Bool) (n place : ℕ) (o p : Option ℕ) → (if b then Some n else o) ≡ Some place → (o ≡ Some place → p ≡ Some place)
    → (if b then Some n else p) ≡ Some place
among_if true n place o p e more = e
among_if false n place o p e more = more e

pub among_few : (few others : List (Parts × ℕ)) (uri local : List ℕ) (place : ℕ) → place_in few uri local ≡ Some place
    → place_in (few ++ others) uri local ≡ Some place
among_few [] others uri local place h = absurd (cc)
among_few (x ∷ few) others uri local place h =
    among_if (has_parts uri local x.0) x.1 place (place_in few uri local) (place_in (few ++ others) uri local) h (among_few few others uri local place)

-- or none of them
beyond_if : (b : Bool) (n : ℕ) (o p q : Option ℕ) → (if b then Some n else o) ≡ None → (o ≡ None → p ≡ q) → (if b then Some n else p) ≡ q
beyond_if true n o p q e more = absurd (cc)
beyond_if false n o p q e more = more e

pub beyond_few : (few others : List (Parts × ℕ)) (uri local : List ℕ) → place_in few uri local ≡ None
    → place_in (few ++ others) uri local ≡ place_in others uri local
beyond_few [] others uri local h = refl
beyond_few (x ∷ few) others uri local h =
    beyond_if (has_parts uri local x.0) x.1 (place_in few uri local) (place_in (few ++ others) uri local) (place_in others uri local) h
    (beyond_few few others uri local)

-- a name that none has is none of the first few
pub not_among : (few others : List (Parts × ℕ)) (uri local : List ℕ) → place_in (few ++ others) uri local ≡ None → place_in few uri local ≡ None
not_among [] others uri local h = refl
not_among (x ∷ few) others uri local h =
    beyond_if (has_parts uri local x.0) x.1 (place_in (few ++ others) uri local) (place_in few uri local) None h (not_among few others uri local)

-- a name that has the parts of another
as_parts : (uri local : List ℕ) (name : Parts) → has_parts uri local name ≡ true → (name.0.now ≡ local) × (name.1.now ≡ uri)
as_parts uri local name h =
    let both = and_parts (bytes_eq local name.0.now) (bytes_eq uri name.1.now) h in
    (sym ((bytes_eq-Decides local name.0.now).0 both.0), sym ((bytes_eq-Decides uri name.1.now).0 both.1))

none_of : (names : List (Parts × ℕ)) (name : Parts) (uri local : List ℕ) → place_in names name.1.now name.0.now ≡ None → has_parts uri local name ≡ true
    → place_in names uri local ≡ None
none_of names name uri local new h =
    let same = as_parts uri local name h in
    sym (ap (λ u. place_in names u name.0.now) same.1 ∙ ap (λ l. place_in names uri l) same.0) ∙ new

-- a new name at the end of the first few
at_end : (few : List (Parts × ℕ)) (name : Parts) (place : ℕ) (uri local : List ℕ) (b : Bool) → has_parts uri local name ≡ b
    → (b ≡ true → place_in few uri local ≡ None)
    → place_in (few ++ (name, place) ∷ []) uri local ≡ (if b then Some place else place_in few uri local)
at_end few name place uri local true is none =
    beyond_few few ((name, place) ∷ []) uri local (none refl) ∙ ap (λ (b : Bool). if b then Some place else None) is
at_end few name place uri local false is none = by_few few
  where
    by_few : (xs : List (Parts × ℕ)) → place_in (xs ++ (name, place) ∷ []) uri local ≡ place_in xs uri local
    by_few [] = ap (λ (b : Bool). if b then Some place else None) is
    by_few (x ∷ xs) = ap (λ (o : Option ℕ). if has_parts uri local x.0 then Some x.1 else o) (by_few xs)

pub kept_in_few : (few more others same : List (Parts × ℕ)) (name : Parts) (place : ℕ) (uri local : List ℕ) → others ≡ [] → same ≡ others
    → more ≡ few ++ (name, place) ∷ [] → place_in (few ++ others) name.1.now name.0.now ≡ None
    → place_in (more ++ same) uri local ≡ (if has_parts uri local name then Some place else place_in (few ++ others) uri local)
kept_in_few few more others same name place uri local none is more_is new =
    ap (λ xs. place_in (more ++ xs) uri local) (is ∙ none)
    ∙ ap (λ xs. place_in xs uri local) (append-nil more ∙ more_is)
    ∙ at_end few name place uri local (has_parts uri local name) refl
    (λ h. none_of few name uri local (not_among few others name.1.now name.0.now new) h)
    ∙ ap (λ xs. if has_parts uri local name then Some place else place_in xs uri local) (sym (append-nil few) ∙ ap (λ xs. few ++ xs) (sym none))

-- or among the others
other_if : (few others more : List (Parts × ℕ)) (name : Parts) (place : ℕ) (uri local : List ℕ) (b : Bool) (o : Option ℕ)
    → (b ≡ true → place_in few uri local ≡ None) → place_in few uri local ≡ o
    → place_in more uri local ≡ (if b then Some place else place_in others uri local)
    → place_in (few ++ more) uri local ≡ (if b then Some place else place_in (few ++ others) uri local)
other_if few others more name place uri local true o none is put = beyond_few few more uri local (none refl) ∙ put
other_if few others more name place uri local false None none is put =
    beyond_few few more uri local is ∙ put ∙ sym (beyond_few few others uri local is)
other_if few others more name place uri local false (Some p) none is put =
    among_few few more uri local p is ∙ sym (among_few few others uri local p is)

swapped_parts : (uri local : List ℕ) (name : Parts) → (bytes_eq name.0.now local && bytes_eq name.1.now uri) ≡ has_parts uri local name
swapped_parts uri local name =
    ap (λ b. b && bytes_eq name.1.now uri) (bytes-sym name.0.now local) ∙ ap (λ b. bytes_eq local name.0.now && b) (bytes-sym name.1.now uri)

pub kept_in_others : (few same others more : List (Parts × ℕ)) (name : Parts) (place : ℕ) (uri local : List ℕ) → same ≡ few
    → place_in more uri local ≡ (if bytes_eq name.0.now local && bytes_eq name.1.now uri then Some place else place_in others uri local)
    → place_in (few ++ others) name.1.now name.0.now ≡ None
    → place_in (same ++ more) uri local ≡ (if has_parts uri local name then Some place else place_in (few ++ others) uri local)
kept_in_others few same others more name place uri local is put new =
    ap (λ xs. place_in (xs ++ more) uri local) is
    ∙ other_if few others more name place uri local (has_parts uri local name) (place_in few uri local)
    (λ h. none_of few name uri local (not_among few others name.1.now name.0.now new) h) refl
    (put ∙ ap (λ (b : Bool). if b then Some place else place_in others uri local) (swapped_parts uri local name))

-- the same attributes of each name
is-other : (uri local : List ℕ) (e : Event) → is_attribute e ≡ false → is_attribute_of uri local e ≡ false
is-other uri local (Attr name value) h = absurd (true≢false h)
is-other uri local (Start name) h = refl
is-other uri local (Space prefix more) h = refl
is-other uri local (Chars text) h = refl
is-other uri local End h = refl
is-other uri local (Comment text) h = refl
is-other uri local (Pi target value) h = refl

same-attribute : (uri local value : List ℕ) (e : Event) → is_attribute_of uri local (revalued value e) ≡ is_attribute_of uri local e
same-attribute uri local value (Attr name old) = refl
same-attribute uri local value (Start name) = refl
same-attribute uri local value (Space prefix more) = refl
same-attribute uri local value (Chars text) = refl
same-attribute uri local value End = refl
same-attribute uri local value (Comment text) = refl
same-attribute uri local value (Pi target old) = refl

none-before : (o : Option ℕ) → option_map suc o ≡ None → o ≡ None
none-before None h = refl
none-before (Some k) h = absurd (cc)

-- ---- an event that is no attribute, behind a start tag
pub place_of_pushed : (uri local : List ℕ) (es : List Event) (e : Event) → is_attribute e ≡ false
    → place_of uri local es ≡ place_of uri local (es ++ e ∷ [])
unfolding place_of
place_of_pushed uri local [] e h = ap (λ (b : Bool). if b then Some 0 else None) (sym (is-other uri local e h))
place_of_pushed uri local (x ∷ es) e h =
    ap (λ o. if is_attribute_of uri local x then Some 0 else option_map suc o) (place_of_pushed uri local es e h)

module _ (name : Label) (value : List ℕ) where
  abbrev here : Event → Bool
  here e = is_attribute_of name.uri name.local e

  abbrev place : List Event → Option ℕ
  place es = place_of name.uri name.local es

  -- ---- an attribute of a name that is new
  added-if : (es : List Event) (e : Event) (b : Bool) → (if b then Some 0 else option_map suc (place es)) ≡ None
      → (place es ≡ None → es ++ Attr name value ∷ [] ≡ with_attribute name value es)
      → e ∷ (es ++ Attr name value ∷ []) ≡ (if b then revalued value e ∷ es else e ∷ with_attribute name value es)
  added-if es e true h f = absurd (cc)
  added-if es e false h f = ap (λ xs. e ∷ xs) (f (none-before (place es) h))

  pub added : (es : List Event) → place es ≡ None → es ++ Attr name value ∷ [] ≡ with_attribute name value es
  unfolding place_of with_attribute
  added [] h = refl
  added (e ∷ es) h = added-if es e (here e) h (added es)

  -- the places of all names then
  moved : (b : Bool) (o : Option ℕ) (n : ℕ) → option_map suc (if b then Some n else o) ≡ (if b then Some (suc n) else option_map suc o)
  moved true o n = refl
  moved false o n = refl

  swapped : (a b : Bool) (o : Option ℕ) (n : ℕ) → (b ≡ true → a ≡ false) → (if a then Some 0 else (if b then Some (suc n) else option_map suc o))
      ≡ (if b then Some (suc n) else (if a then Some 0 else option_map suc o))
  swapped a true o n h = ap (λ (a : Bool). if a then Some 0 else Some (suc n)) (h refl)
  swapped true false o n h = refl
  swapped false false o n h = refl

  not-here : (es : List Event) (e : Event) (b : Bool) → (if b then Some 0 else option_map suc (place es)) ≡ None → b ≡ false
  not-here es e true h = absurd (cc)
  not-here es e false h = refl

  -- an expanded name that is that of the label
  same-name : (uri local : List ℕ) → (bytes_eq uri name.uri && bytes_eq local name.local) ≡ true → (uri ≡ name.uri) × (local ≡ name.local)
  same-name uri local h =
      let both = and_parts (bytes_eq uri name.uri) (bytes_eq local name.local) h in
      ((bytes_eq-Decides uri name.uri).0 both.0, (bytes_eq-Decides local name.local).0 both.1)

  other-here : (uri local : List ℕ) (e : Event) → here e ≡ false → (uri ≡ name.uri) × (local ≡ name.local) → is_attribute_of uri local e ≡ false
  other-here uri local e h same = ap (λ u. is_attribute_of u local e) same.0 ∙ ap (λ l. is_attribute_of name.uri l e) same.1 ∙ h

  later : (es : List Event) (b : Bool) → (if b then Some 0 else option_map suc (place es)) ≡ None → place es ≡ None
  later es true h = absurd (cc)
  later es false h = none-before (place es) h

  pub places_added : (uri local : List ℕ) (es : List Event) → place es ≡ None
      → place_of uri local (es ++ Attr name value ∷ []) ≡ (if bytes_eq uri name.uri && bytes_eq local name.local then Some (length es)
      else place_of uri local es)
  unfolding place_of
  places_added uri local [] h = refl
  places_added uri local (e ∷ es) h =
      let is = bytes_eq uri name.uri && bytes_eq local name.local in
      ap (λ o. if is_attribute_of uri local e then Some 0 else option_map suc o) (places_added uri local es (later es (here e) h))
      ∙ ap (λ o. if is_attribute_of uri local e then Some 0 else o) (moved is (place_of uri local es) (length es))
      ∙ swapped (is_attribute_of uri local e) is (place_of uri local es) (length es)
      (λ t. other-here uri local e (not-here es e (here e) h) (same-name uri local t))

  -- the entry of a name that is new
  both-ways : (a b : Bool) → (a && b) ≡ (b && a)
  both-ways true true = refl
  both-ways true false = refl
  both-ways false true = refl
  both-ways false false = refl

  pub entered : (parts : Parts) (uri local : List ℕ) (es : List Event) (number : ℕ) (old new : Option ℕ) → parts.0.now ≡ name.local
      → parts.1.now ≡ name.uri → place es ≡ None → number ≡ length es → old ≡ place_of uri local es
      → new ≡ (if has_parts uri local parts then Some number else old) → new ≡ place_of uri local (es ++ Attr name value ∷ [])
  entered parts uri local es number old new l-is u-is none number-is old-is h =
      h ∙ ap (λ x. if bytes_eq local x && bytes_eq uri parts.1.now then Some number else old) l-is
      ∙ ap (λ x. if bytes_eq local name.local && bytes_eq uri x then Some number else old) u-is
      ∙ ap (λ (b : Bool). if b then Some number else old) (both-ways (bytes_eq local name.local) (bytes_eq uri name.uri))
      ∙ ap (λ n. if bytes_eq uri name.uri && bytes_eq local name.local then Some n else old) number-is
      ∙ ap (λ o. if bytes_eq uri name.uri && bytes_eq local name.local then Some (length es) else o) old-is
      ∙ sym (places_added uri local es none)

  -- ---- another value for one that is there
  some-before : (o : Option ℕ) (k : ℕ) → option_map suc o ≡ Some (suc k) → o ≡ Some k
  some-before None k h = absurd (cc)
  some-before (Some j) k h =
      let same : suc j ≡ suc k = ap (λ o. option_map_or (λ n. n) o 0) h in
      let less : j ≡ k = omega (arith, same) in
      ap Some less

  no-suc : (k : ℕ) → Some 0 ≡ Some (suc k) → ⊥
  no-suc k h =
      let same : 0 ≡ suc k = ap (λ o. option_map_or (λ n. n) o 0) h in
      omega (arith, same)

  no-zero : (o : Option ℕ) → option_map suc o ≡ Some zero → ⊥
  no-zero None h = absurd (cc)
  no-zero (Some k) h =
      let same : suc k ≡ zero = ap (λ o. option_map_or (λ n. n) o 0) h in
      omega (arith, same)

  replaced-if : (d : Event) (es : List Event) (e : Event) (p : ℕ) (b : Bool) → (if b then Some 0 else option_map suc (place es)) ≡ Some p
      → ((k : ℕ) → place es ≡ Some k → slice_set es k (revalued value (slice_index_or es k d)) ≡ with_attribute name value es)
      → slice_set (e ∷ es) p (revalued value (slice_index_or (e ∷ es) p d)) ≡ (if b then revalued value e ∷ es else e ∷ with_attribute name value es)
  replaced-if d es e zero true h f = refl
  replaced-if d es e (suc k) true h f = absurd (no-suc k h)
  replaced-if d es e (suc k) false h f = ap (λ xs. e ∷ xs) (f k (some-before (place es) k h))
  replaced-if d es e zero false h f = absurd (no-zero (place es) h)

  pub replaced : (d : Event) (es : List Event) (p : ℕ) → place es ≡ Some p
      → slice_set es p (revalued value (slice_index_or es p d)) ≡ with_attribute name value es
  unfolding place_of with_attribute
  replaced d [] p h = absurd (cc)
  replaced d (e ∷ es) p h = replaced-if d es e p (here e) h (replaced d es)

  -- it is in the list
  within-if : (es : List Event) (p : ℕ) (b : Bool) → (if b then Some 0 else option_map suc (place es)) ≡ Some p
      → ((k : ℕ) → place es ≡ Some k → k < length es) → p < suc (length es)
  within-if es zero b h f = omega arith
  within-if es (suc k) true h f = absurd (no-suc k h)
  within-if es (suc k) false h f = let less = f k (some-before (place es) k h) in omega arith

  pub place_within : (es : List Event) (p : ℕ) → place es ≡ Some p → p < length es
  unfolding place_of
  place_within [] p h = absurd (cc)
  place_within (e ∷ es) p h = within-if es p (here e) h (place_within es)

-- the places of all names are as they were
pub places_replaced : (uri local value : List ℕ) (d : Event) (es : List Event) (p : ℕ)
    → place_of uri local es ≡ place_of uri local (slice_set es p (revalued value (slice_index_or es p d)))
unfolding place_of
places_replaced uri local value d [] p = refl
places_replaced uri local value d (e ∷ es) zero =
    ap (λ (b : Bool). if b then Some 0 else option_map suc (place_of uri local es)) (sym (same-attribute uri local value e))
places_replaced uri local value d (e ∷ es) (suc p) =
    ap (λ o. if is_attribute_of uri local e then Some 0 else option_map suc o) (places_replaced uri local value d es p)
