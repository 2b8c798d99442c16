-- Circular declarations, and the least fault of one.
use Rattle.std.proofs.Common.{◌≡◌, ℕ, Bool, true, false, List, [], ◌∷◌, ◌++◌, Option, Some, None, filter, refl, sym, ap, subst, ◌∙◌, arith, inl, inr}
use Rattle.std.specs.Prelude.{◌==◌, ◌&&◌, ◌||◌, nat_lt, nat_le, if◌then◌else◌}
use Rattle.std.specs.List.{All, flat_map}
use Rattle.std.proofs.lemmas.Bool.Decides.{nat_tests, same_from_decides}
use Rattle.std.proofs.lemmas.List.Elements.{All-head, All-tail}
use Rattle.xs_static.specs.declared.circles.Place.{Place as CirclePlace}
use Rattle.xs_static.specs.Circles.{Declared, IsFirstCircle, IsAmong, LeadsTo, SomeLeads, by_use, itself, is_at_most as is_at_most_place, used_by as used_among}
use Rattle.xs_static.specs.Circles as circles
use Rattle.xs_static.proofs.SameNameLemmas.{same-true, same-from}
use Rattle.xs_static.proofs.SearchLemmas.{in-back, in-either, in-front}
use Rattle.xs_static.proofs.UsedLemmas.{used-append, used-one}
use Rattle.xs_elements.specs.declared.tags.Tag.{Tag}
use Rattle.xs_elements.specs.declared.tags.Tag.TheVariants.{NoElement}
use Rattle.xs_elements.specs.Nodes.{Name, is_named, is_same_name, own_name}
use Rattle.xs_elements.specs.Tags.{is_attribute_set, tag_of}
use Rattle.xs_modules.specs.Numbering.{ModuleData}
use Rattle.xs_static.specs.declared.fault.StaticFault.{StaticFault}
use Rattle.xs_static.specs.Faults.{Fault, Holds, IsLeastOf, IsStaticFault, circular_set, is_at_most, number_of}
use Rattle.xs_structure.specs.Modules.{Place, line_at, records_at}
use Rattle.xs_structure.specs.Order.{declarations, declares}
use Rattle.xs_static.specs.Sets.{IsCircular, own_sets, sets_of, used_by}
use Rattle.xs_static.specs.steps.Circles.{circle_at, declaration_at, declarations_of, declared_as}
use Rattle.xs_structure.specs.Places.{IsIn}
use Rattle.xs_tree.specs.Kinds.{is_element_kind}
use Rattle.xs_tree.specs.Record.{Record, at}

-- ---- small facts
both : (a b : Bool) → (a && b) ≡ true → (a ≡ true) × (b ≡ true)
both true b h = (refl, h)
both false b h = cc

same-turned : (a b : Name) → is_same_name a b ≡ is_same_name b a
same-turned a b =
    same_from_decides {P = a ≡ b} (is_same_name a b) (is_same_name b a) (same-true a b, same-from a b)
    (λ h. sym (same-true b a h), λ e. same-from b a (sym e))

all-in : {X : Type 0} (P : X → Type 0) (x : X) (xs : List X) → All P xs → IsAmong x xs → P x
all-in P x [] all none = absurd none
all-in P x (y ∷ ys) all (inl e) = subst P e (All-head P y ys all)
all-in P x (y ∷ ys) all (inr h) = all-in P x ys (All-tail P y ys all) h

in-flat : {X Y : Type 0} (f : X → List Y) (x : X) (y : Y) (xs : List X) → IsAmong x xs → IsAmong y (f x) → IsAmong y (flat_map f xs)
in-flat f x y [] none h = absurd none
in-flat {Y = Y} f x y (z ∷ zs) (inl e) h =
    let P : List Y → Type 0 = λ ys. IsAmong y ys in in-front y (f z) (flat_map f zs) (subst P (ap f (sym e)) h)
in-flat f x y (z ∷ zs) (inr listed) h = in-back y (f z) (flat_map f zs) (in-flat f x y zs listed h)

flat-in : {X Y : Type 0} (f : X → List Y) (y : Y) (xs : List X) → IsAmong y (flat_map f xs) → (x : X) × IsAmong x xs × IsAmong y (f x)
flat-in f y [] none = absurd none
flat-in f y (z ∷ zs) h =
    elim (in-either y (f z) (flat_map f zs) h) [
      | inl a ↦ (z, inl refl, a)
      | inr b ↦ let rest = flat-in f y zs b in (rest.0, inr rest.1, rest.2)
    ]

leads-same : (f g : Name → List Name) → ((n : Name) → f n ≡ g n) → (goal n : Name) → LeadsTo f goal n → LeadsTo g goal n
leads-same f g same goal n (itself e) = itself e
leads-same f g same goal n (by_use u h leads) =
    let P : List Name → Type 0 = λ xs. IsAmong u xs in by_use u (subst P (same n) h) (leads-same f g same goal u leads)

some-same : (f g : Name → List Name) → ((n : Name) → f n ≡ g n) → (sets : List Name) (goal : Name) → SomeLeads f sets goal → SomeLeads g sets goal
some-same f g same sets goal some = (some.0, some.1, leads-same f g same goal some.0 some.2)

-- ---- what names use
used-at : (b : Bool) (o : Option Name) (rs : List Record) (line : ℕ) (p : Place) (n : Name)
    → used_among (if b then declared_as rs line p o else []) n ≡ (if b && is_named n o then own_sets rs p.1 else [])
used-at false o rs line p n = refl
used-at true None rs line p n = refl
used-at true (Some own) rs line p n =
    used-one (record { place = record { «module» = p.0; line = line }; name = own; sets = own_sets rs p.1 }) n
    ∙ ap (λ (b : Bool). if b then own_sets rs p.1 else []) (same-turned own n)

flat-more : {X Y : Type 0} (f : X → List Y) (p : X → Bool) (x : X) (xs : List X)
    → flat_map f (filter p (x ∷ xs)) ≡ (if p x then f x else []) ++ flat_map f (filter p xs)
flat-more f p x xs =
    let Goal : Bool → Type 0 = λ b. flat_map f (if b then x ∷ filter p xs else filter p xs) ≡ (if b then f x else []) ++ flat_map f (filter p xs) in
    elim (p x) as Goal [ true ↦ refl | false ↦ refl ]

used-same : (ms : List ModuleData) (ps : List Place) (n : Name)
    → used_among (declarations_of ms ps) n ≡ flat_map (sets_of ms) (filter (declares is_attribute_set ms n) ps)
used-same ms [] n = refl
used-same ms (p ∷ ps) n =
    used-append (declaration_at ms p) (declarations_of ms ps) n
    ∙ ap (λ xs. xs ++ used_among (declarations_of ms ps) n)
    (used-at (is_attribute_set (tag_of (records_at ms p.0) p.1)) (own_name (records_at ms p.0) p.1) (records_at ms p.0) (line_at ms p.0 p.1) p n)
    ∙ ap (λ xs. (if declares is_attribute_set ms n p then sets_of ms p else []) ++ xs) (used-same ms ps n)
    ∙ sym (flat-more (sets_of ms) (declares is_attribute_set ms n) p ps)

-- ---- the declaration that an element is
declared-from : (b : Bool) (o : Option Name) (rs : List Record) (line : ℕ) (p : Place) (d : Declared)
    → IsAmong d (if b then declared_as rs line p o else [])
    → ((b && is_named d.name o) ≡ true) × (d.place ≡ record { «module» = p.0; line = line }) × (d.sets ≡ own_sets rs p.1)
declared-from false o rs line p d none = absurd none
declared-from true None rs line p d none = absurd none
declared-from true (Some own) rs line p d (inl e) =
    (same-from d.name own (ap (λ (x : Declared). x.name) (sym e)), ap (λ (x : Declared). x.place) (sym e), ap (λ (x : Declared). x.sets) (sym e))
declared-from true (Some own) rs line p d (inr none) = absurd none

made-from : (b : Bool) (o : Option Name) (rs : List Record) (line : ℕ) (p : Place) (name : Name) → (b && is_named name o) ≡ true
    → (d : Declared) × IsAmong d (if b then declared_as rs line p o else []) × (d.name ≡ name) × (d.place ≡ record { «module» = p.0; line = line })
    × (d.sets ≡ own_sets rs p.1)
made-from false o rs line p name h = cc
made-from true None rs line p name h = cc
made-from true (Some own) rs line p name h =
    (record { place = record { «module» = p.0; line = line }; name = own; sets = own_sets rs p.1 }, inl refl, sym (same-true name own h), refl, refl)

-- ---- faults
element-tag : (b : Bool) (tag : Tag) → is_attribute_set (if b then tag else NoElement) ≡ true → b ≡ true
element-tag true tag h = refl
element-tag false tag h = cc

-- of all faults this one has the number 44
circular-of : (fault : Fault) (ms : List ModuleData) (p : Place) → 44 ≡ number_of fault → Holds fault ms p → IsCircular ms p
circular-of circular_set ms p e h = h
circular-of _ ms p e h = absurd (omega arith)

order : (a l b k x : ℕ) → (nat_lt a b || (a == b && nat_le l k)) ≡ true → x ≡ 44
    → (nat_lt a b || (a == b && (nat_lt l k || (l == k && nat_le 44 x)))) ≡ true
order a l b k x h e = grind (arith, nat_tests)

abbrev fault_44 : CirclePlace → StaticFault
fault_44 place = record { «module» = place.«module»; line = place.line; number = 44 }

place-order : (place q : CirclePlace) (g : StaticFault) (line : ℕ) → is_at_most_place place q ≡ true → q ≡ record { «module» = g.«module»; line = line }
    → g.line ≡ line → g.number ≡ 44 → is_at_most (fault_44 place) g ≡ true
place-order place q g line h is same number =
    let P : CirclePlace → Type 0 = λ r. is_at_most_place place r ≡ true in
    let Q : ℕ → Type 0 = λ k. is_at_most_place place (record { «module» = g.«module»; line = k }) ≡ true in
    order place.«module» place.line g.«module» g.line g.number (subst Q (sym same) (subst P is h)) number

module _ (ms : List ModuleData) where
  abbrev all : List Declared
  all = declarations_of ms (declarations ms)

  abbrev place-of : Place → CirclePlace
  place-of p = record { «module» = p.0; line = line_at ms p.0 p.1 }

  used-all : (n : Name) → used_among all n ≡ used_by ms n
  used-all n = used-same ms (declarations ms) n

  circular-at : (d : Declared) → IsAmong d all → circles.IsCircular all d → (p : Place) × IsAmong p (declarations ms) × IsCircular ms p × (d.place ≡ place-of p)
  circular-at d h circle =
      let from = flat-in (declaration_at ms) d (declarations ms) h in
      let rs = records_at ms from.0.0 in
      let made = declared-from (is_attribute_set (tag_of rs from.0.1)) (own_name rs from.0.1) rs (line_at ms from.0.0 from.0.1) from.0 d from.2 in
      let P : List Name → Type 0 = λ sets. SomeLeads (used_by ms) sets d.name in
      (from.0, from.1, (from.1, (d.name, made.0, subst P made.2 (some-same (used_among all) (used_by ms) used-all d.sets d.name circle))), made.1)

  circle-of : (p : Place) → IsCircular ms p → (d : Declared) × IsAmong d all × circles.IsCircular all d × (d.place ≡ place-of p)
  circle-of p circle =
      let rs = records_at ms p.0 in
      let made = made-from (is_attribute_set (tag_of rs p.1)) (own_name rs p.1) rs (line_at ms p.0 p.1) p circle.1.0 circle.1.1 in
      let P : List Name → Type 0 = λ sets. SomeLeads (used_among all) sets made.0.name in
      let Q : Name → Type 0 = λ name. SomeLeads (used_among all) (own_sets rs p.1) name in
      let leads = some-same (used_by ms) (used_among all) (λ n. sym (used-all n)) (own_sets rs p.1) circle.1.0 circle.1.2 in
      (made.0, in-flat (declaration_at ms) p made.0 (declarations ms) circle.0 made.1, subst P (sym made.4) (subst Q (sym made.2) leads), made.3)

  fault-at : (p : Place) → IsIn ms p → IsCircular ms p → IsStaticFault ms (fault_44 (place-of p))
  fault-at p known circle = record {
    fault = circular_set;
    number = refl;
    node = p.1;
    known_module = known.«module»;
    known_node = known.node;
    element =
        let rs = records_at ms p.0 in
        element-tag (is_element_kind (at rs p.1).kind) _
        (both (is_attribute_set (tag_of rs p.1)) (is_named circle.1.0 (own_name rs p.1)) circle.1.1).0;
    line = refl;
    holds = circle;
  }

  -- the least of the faults 44
  pub circle-law : (place : Option CirclePlace) → All (IsIn ms) (declarations ms) → IsFirstCircle all place
      → IsLeastOf (λ f. IsStaticFault ms f × (f.number ≡ 44)) (circle_at place)
  circle-law None inside none = λ f h.
      let d = circle-of (f.«module», h.0.node) (circular-of h.0.fault ms (f.«module», h.0.node) (sym h.1 ∙ h.0.number) h.0.holds) in
      none d.0 d.1 d.2
  circle-law (Some place) inside first =
      let from = circular-at first.0.0 first.0.1 first.0.2 in
      let P : CirclePlace → Type 0 = λ q. IsStaticFault ms (fault_44 q) in (
        (subst P (sym (first.0.3 ∙ from.3)) (fault-at from.0 (all-in (IsIn ms) from.0 (declarations ms) inside from.1) from.2), refl),
        λ g h.
            let d = circle-of (g.«module», h.0.node) (circular-of h.0.fault ms (g.«module», h.0.node) (sym h.1 ∙ h.0.number) h.0.holds) in
            place-order place d.0.place g (line_at ms g.«module» h.0.node) (first.1 d.0 d.1 d.2) d.3 h.0.line h.1,
      )
