-- The faults of names: those of the elements of the top level that repeat a name.
use Rattle.std.proofs.Common.{◌≡◌, ◌∙◌, ℕ, ◌<◌, ap, refl, sym, subst, arith, inl, inr, ◌⊎◌, ⊎_elim, List, [], ◌∷◌, ◌++◌, append_assoc, length, Bool, true, false, Option, Some, None}
use Rattle.std.proofs.lemmas.Bool.{and_from, and_parts, false≢true, le-leb, or_cases, or_left, or_right}
use Rattle.std.proofs.lemmas.List.Elements.{All-head, All-tail}
use Rattle.std.proofs.lemmas.List.Folds.{list_any-append}
use Rattle.std.specs.List.{All, list_any}
use Rattle.std.specs.Option.{option_map_or}
use Rattle.std.specs.Prelude.{◌&&◌, ◌||◌, nat_le}
use Rattle.xs_elements.specs.declared.tags.Tag.{Tag}
use Rattle.xs_elements.specs.Nodes.{Name, own_name}
use Rattle.xs_elements.specs.Reading.{is_seen}
use Rattle.xs_elements.specs.Tags.{is_template, is_variable, tag_of}
use Rattle.xs_modules.specs.Numbering.{ModuleData}
use Rattle.xs_static.proofs.CoveringLemmas.{are_in_append, at_most_left, at_most_right, by_number, same_number}
use Rattle.xs_static.specs.declared.fault.StaticFault.{StaticFault}
use Rattle.xs_static.specs.Faults.{Fault, double_global, double_template, number_of, Holds, IsStaticFault, is_at_most}
use Rattle.xs_static.specs.Names.{declares_again, is_double, stands_behind}
use Rattle.xs_static.specs.steps.Covering.{AreIn, HasAtMost}
use Rattle.xs_static.specs.steps.Declared.{name_faults, names_faults, repeats}
use Rattle.xs_static.specs.steps.Least.{fault_of, fault_where}
use Rattle.xs_static.specs.steps.Whole.{AreTrees}
use Rattle.xs_structure.proofs.DeclarationLemmas.{IsDeclared, all-declared, place-same, same-place}
use Rattle.xs_structure.proofs.TopLemmas.{declaration-element, declaration-seen}
use Rattle.xs_structure.specs.Modules.{Place, is_same_place, line_at, records_at}
use Rattle.xs_structure.specs.Order.{declarations}

-- ---- an element that stands behind one that passes a test
here-among : (p : Place) (done rest : List Place) → list_any (is_same_place p) (done ++ p ∷ rest) ≡ true
here-among p done rest =
    list_any-append (is_same_place p) done (p ∷ rest)
    ∙ or_right (list_any (is_same_place p) done) (is_same_place p p || list_any (is_same_place p) rest)
    (or_left (is_same_place p p) (list_any (is_same_place p) rest) (same-place p))

behind : (test : Place → Bool) (p : Place) (done rest : List Place) → list_any test done ≡ true → stands_behind test p (done ++ p ∷ rest) ≡ true
unfolding stands_behind
behind test p [] rest h = absurd (false≢true h)
behind test p (q ∷ qs) rest h =
    ⊎_elim
    (λ e. or_left (test q && list_any (is_same_place p) (qs ++ p ∷ rest)) (stands_behind test p (qs ++ p ∷ rest))
    (and_from (test q) (list_any (is_same_place p) (qs ++ p ∷ rest)) e (here-among p qs rest)))
    (λ e. or_right (test q && list_any (is_same_place p) (qs ++ p ∷ rest)) (stands_behind test p (qs ++ p ∷ rest)) (behind test p qs rest e))
    (or_cases (test q) (list_any test qs) h)

-- ---- each fault of names is a static fault
module _ (ms : List ModuleData) (trees : AreTrees ms) where
  place-static : (fault : Fault) (p : Place) → IsDeclared ms p → Holds fault ms p → IsStaticFault ms (fault_of p.0 (line_at ms p.0 p.1) (number_of fault))
  place-static fault p declared holds =
      record {
        fault = fault;
        number = refl;
        node = p.1;
        known_module = declared.within.«module»;
        known_node = declared.within.node;
        element = declaration-element (records_at ms p.0) p.1 declared.declares;
        line = refl;
        holds = holds;
      }

  repeated : (kind : Tag → Bool) (done rest : List Place) (p : Place) → declarations ms ≡ done ++ p ∷ rest → (o : Option Name)
      → option_map_or (λ name. list_any (declares_again kind ms p name) done) o false ≡ true
      → option_map_or (λ name. stands_behind (declares_again kind ms p name) p (declarations ms)) o false ≡ true
  repeated kind done rest p e None h = absurd (false≢true h)
  repeated kind done rest p e (Some name) h =
      ap (stands_behind (declares_again kind ms p name) p) e ∙ behind (declares_again kind ms p name) p done rest h

  repeats-double : (kind : Tag → Bool) (done rest : List Place) (p : Place) → declarations ms ≡ done ++ p ∷ rest → repeats kind ms done p ≡ true
      → is_double kind ms p ≡ true
  repeats-double kind done rest p e r =
      let rs = records_at ms p.0 in
      let both = and_parts (kind (tag_of rs p.1))
      (option_map_or (λ name. list_any (declares_again kind ms p name) done) (own_name rs p.1) false) r in
      and_from (kind (tag_of rs p.1))
      (option_map_or (λ name. stands_behind (declares_again kind ms p name) p (declarations ms)) (own_name rs p.1) false) both.0
      (repeated kind done rest p e (own_name rs p.1) both.1)

  where-static : (fault : Fault) (p : Place) (b : Bool) → (b ≡ true → IsStaticFault ms (fault_of p.0 (line_at ms p.0 p.1) (number_of fault)))
      → AreIn (IsStaticFault ms) (fault_where b p.0 (line_at ms p.0 p.1) (number_of fault))
  where-static fault p true h = (h refl, tt)
  where-static fault p false h = tt

  name-sound : (done rest : List Place) (p : Place) → declarations ms ≡ done ++ p ∷ rest → IsDeclared ms p → AreIn (IsStaticFault ms) (name_faults ms done p)
  name-sound done rest p e declared =
      let seen = declaration-seen (records_at ms p.0) (trees p.0 declared.within.«module») p.1 declared.within.node declared.declares in
      let rs = records_at ms p.0 in
      are_in_append (IsStaticFault ms) (fault_where (repeats is_variable ms done p) p.0 (line_at ms p.0 p.1) 41)
      (fault_where (repeats is_template ms done p) p.0 (line_at ms p.0 p.1) 42)
      (where-static double_global p (repeats is_variable ms done p) (λ h. place-static double_global p declared
      (and_from (is_seen rs p.1) (is_double is_variable ms p) seen (repeats-double is_variable done rest p e h))))
      (where-static double_template p (repeats is_template ms done p) (λ h. place-static double_template p declared
      (and_from (is_seen rs p.1) (is_double is_template ms p) seen (repeats-double is_template done rest p e h))))

  names-sound : (done rest : List Place) → declarations ms ≡ done ++ rest → All (IsDeclared ms) rest → AreIn (IsStaticFault ms) (names_faults ms done rest)
  unfolding names_faults
  names-sound done [] e all = tt
  names-sound done (p ∷ ps) e all =
      are_in_append (IsStaticFault ms) (name_faults ms done p) (names_faults ms (done ++ p ∷ []) ps)
      (name-sound done ps p e (All-head (IsDeclared ms) p ps all))
      (names-sound (done ++ p ∷ []) ps (e ∙ sym (append_assoc done (p ∷ []) ps)) (All-tail (IsDeclared ms) p ps all))

  pub names_sound : 0 < length ms → AreIn (IsStaticFault ms) (names_faults ms [] (declarations ms))
  names_sound some = names-sound [] (declarations ms) refl (all-declared ms some)

-- ---- and a name that is declared twice is met
module _ (ms : List ModuleData) (kind : Tag → Bool) (p : Place) (name : Name) (f : StaticFault) (is_kind : kind (tag_of (records_at ms p.0) p.1) ≡ true)
    (own : own_name (records_at ms p.0) p.1 ≡ Some name)
    (met : (done : List Place) → repeats kind ms done p ≡ true → HasAtMost f (name_faults ms done p)) where
  abbrev test : Place → Bool
  test = declares_again kind ms p name

  repeats-here : (done : List Place) → list_any test done ≡ true → repeats kind ms done p ≡ true
  repeats-here done h =
      and_from (kind (tag_of (records_at ms p.0) p.1))
      (option_map_or (λ name. list_any (declares_again kind ms p name) done) (own_name (records_at ms p.0) p.1) false) is_kind
      (ap (λ o. option_map_or (λ name. list_any (declares_again kind ms p name) done) o false) own ∙ h)

  IsToCome : List Place → List Place → Type 0
  IsToCome done rest = ((list_any test done && list_any (is_same_place p) rest) ≡ true) ⊎ (stands_behind test p rest ≡ true)

  still : (done : List Place) (q : Place) → list_any test done ≡ true → list_any test (done ++ q ∷ []) ≡ true
  still done q h = list_any-append test done (q ∷ []) ∙ or_left (list_any test done) (list_any test (q ∷ [])) h

  newly : (done : List Place) (q : Place) → test q ≡ true → list_any test (done ++ q ∷ []) ≡ true
  newly done q h =
      list_any-append test done (q ∷ []) ∙ or_right (list_any test done) (list_any test (q ∷ [])) (or_left (test q) false h)

  -- where the next one is this one, or comes later
  next-one : (done : List Place) (q : Place) (qs : List Place) → (IsToCome (done ++ q ∷ []) qs → HasAtMost f (names_faults ms (done ++ q ∷ []) qs))
      → list_any test done ≡ true → (is_same_place p q ≡ true) ⊎ (list_any (is_same_place p) qs ≡ true)
      → HasAtMost f (name_faults ms done q ++ names_faults ms (done ++ q ∷ []) qs)
  unfolding IsToCome
  next-one done q qs ih seen (inl same) =
      at_most_left f (name_faults ms done q) (names_faults ms (done ++ q ∷ []) qs)
      (subst (λ x. HasAtMost f (name_faults ms done x)) (place-same p q same) (met done (repeats-here done seen)))
  next-one done q qs ih seen (inr later) =
      at_most_right f (name_faults ms done q) (names_faults ms (done ++ q ∷ []) qs)
      (ih (inl (and_from (list_any test (done ++ q ∷ [])) (list_any (is_same_place p) qs) (still done q seen) later)))

  next-pair : (done : List Place) (q : Place) (qs : List Place) → (IsToCome (done ++ q ∷ []) qs → HasAtMost f (names_faults ms (done ++ q ∷ []) qs))
      → ((test q && list_any (is_same_place p) qs) ≡ true) ⊎ (stands_behind test p qs ≡ true)
      → HasAtMost f (name_faults ms done q ++ names_faults ms (done ++ q ∷ []) qs)
  unfolding IsToCome
  next-pair done q qs ih (inl h) =
      let both = and_parts (test q) (list_any (is_same_place p) qs) h in
      at_most_right f (name_faults ms done q) (names_faults ms (done ++ q ∷ []) qs)
      (ih (inl (and_from (list_any test (done ++ q ∷ [])) (list_any (is_same_place p) qs) (newly done q both.0) both.1)))
  next-pair done q qs ih (inr h) = at_most_right f (name_faults ms done q) (names_faults ms (done ++ q ∷ []) qs) (ih (inr h))

  comes : (done rest : List Place) → IsToCome done rest → HasAtMost f (names_faults ms done rest)
  unfolding IsToCome stands_behind names_faults
  comes done [] (inl h) = absurd (false≢true (and_parts (list_any test done) false h).1)
  comes done [] (inr h) = absurd (false≢true h)
  comes done (q ∷ qs) (inl h) =
      let both = and_parts (list_any test done) (list_any (is_same_place p) (q ∷ qs)) h in
      next-one done q qs (comes (done ++ q ∷ []) qs) both.0 (or_cases (is_same_place p q) (list_any (is_same_place p) qs) both.1)
  comes done (q ∷ qs) (inr h) =
      next-pair done q qs (comes (done ++ q ∷ []) qs) (or_cases (test q && list_any (is_same_place p) qs) (stands_behind test p qs) h)

  from-behind : stands_behind test p (declarations ms) ≡ true → HasAtMost f (names_faults ms [] (declarations ms))
  unfolding IsToCome
  from-behind h = comes [] (declarations ms) (inr h)

no-greater : (m line number : ℕ) → is_at_most (fault_of m line number) (fault_of m line number) ≡ true
no-greater m line number =
    same_number m m (by_number line line (nat_le number number)) refl
    (same_number line line (nat_le number number) refl (le-leb number number (omega arith)))

where-met : (m line number : ℕ) (b : Bool) → b ≡ true → HasAtMost (fault_of m line number) (fault_where b m line number)
where-met m line number true e = inl (no-greater m line number)
where-met m line number false e = absurd (false≢true e)

module _ (ms : List ModuleData) (p : Place) where
  abbrev here : ℕ → StaticFault
  here number = fault_of p.0 (line_at ms p.0 p.1) number

  double-met : (kind : Tag → Bool) (number : ℕ)
      → ((done : List Place) → repeats kind ms done p ≡ true → HasAtMost (here number) (name_faults ms done p))
      → kind (tag_of (records_at ms p.0) p.1) ≡ true
      → (o : Option Name) → own_name (records_at ms p.0) p.1 ≡ o
      → option_map_or (λ name. stands_behind (declares_again kind ms p name) p (declarations ms)) o false ≡ true
      → HasAtMost (here number) (names_faults ms [] (declarations ms))
  double-met kind number met is_kind None e h = absurd (false≢true h)
  double-met kind number met is_kind (Some name) e h = from-behind ms kind p name (here number) is_kind e met h

  is-met : (kind : Tag → Bool) (number : ℕ)
      → ((done : List Place) → repeats kind ms done p ≡ true → HasAtMost (here number) (name_faults ms done p))
      → is_double kind ms p ≡ true → HasAtMost (here number) (names_faults ms [] (declarations ms))
  is-met kind number met h =
      let both = and_parts (kind (tag_of (records_at ms p.0) p.1))
      (option_map_or (λ name. stands_behind (declares_again kind ms p name) p (declarations ms)) (own_name (records_at ms p.0) p.1) false) h in
      double-met kind number met both.0 (own_name (records_at ms p.0) p.1) refl both.1

  pub globals_met : is_double is_variable ms p ≡ true → HasAtMost (here 41) (names_faults ms [] (declarations ms))
  globals_met =
      is-met is_variable 41 (λ done r.
      at_most_left (here 41) (fault_where (repeats is_variable ms done p) p.0 (line_at ms p.0 p.1) 41)
      (fault_where (repeats is_template ms done p) p.0 (line_at ms p.0 p.1) 42)
      (where-met p.0 (line_at ms p.0 p.1) 41 (repeats is_variable ms done p) r))

  pub templates_met : is_double is_template ms p ≡ true → HasAtMost (here 42) (names_faults ms [] (declarations ms))
  templates_met =
      is-met is_template 42 (λ done r.
      at_most_right (here 42) (fault_where (repeats is_variable ms done p) p.0 (line_at ms p.0 p.1) 41)
      (fault_where (repeats is_template ms done p) p.0 (line_at ms p.0 p.1) 42)
      (where-met p.0 (line_at ms p.0 p.1) 42 (repeats is_template ms done p) r))
