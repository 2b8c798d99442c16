-- The faults that the walk meets: all are static faults, and no other than those of names and of circles is less than them.
use Rattle.std.proofs.Common.{◌≡◌, ◌∙◌, ℕ, suc, zero, ◌<◌, ◌≤◌, ap, refl, sym, subst, arith, inl, inr, ◌⊎◌, ⊎_elim, List, [], ◌∷◌, ◌++◌, length, map, Bool, true, false, Option, Some, None}
use Rattle.std.proofs.lemmas.Bool.{and_from, and_parts, both_ways, cases_lt, eq-eqb, eqb-true, false≢true, le-leb, or_cases, or_left, or_right}
use Rattle.std.specs.Option.{option_map_or}
use Rattle.std.specs.Prelude.{◌&&◌, ◌||◌, ◌==◌, nat_le, not, get_or, slice_get, if◌then◌else◌}
use Rattle.xs_elements.specs.declared.forms.Form.{Form}
use Rattle.xs_elements.specs.Forms.{sees_locals}
use Rattle.xs_elements.specs.Nodes.{Name, own_name}
use Rattle.xs_elements.specs.Reading.{is_seen}
use Rattle.xs_elements.specs.Tags.{is_call_template, is_decimal_format, tag_of}
use Rattle.xs_elements.specs.Values.{is_unsupported}
use Rattle.xs_modules.specs.Numbering.{ModuleData}
use Rattle.xs_static.proofs.CoveringLemmas.{are_in_append, at_most_left, at_most_right, by_number, same_number}
use Rattle.xs_static.proofs.ElementLemmas.{attributes_are_least, own_is_least}
use Rattle.xs_static.proofs.PlacingLemmas.{has_place, misplaced_complete, misplaced_sound}
use Rattle.xs_static.specs.Names.{is_known, calls_unknown, is_global, is_template_name}
use Rattle.xs_structure.specs.Bindings.{has_binding, shadows}
use Rattle.xs_static.specs.declared.fault.StaticFault.{StaticFault}
use Rattle.xs_static.specs.declared.names.Names.{Names}
use Rattle.xs_static.specs.Faults.{Fault, bad_syntax, unknown_function, arg_count, bad_literal, too_nested, not_pattern, bad_root, unsupported, missing_attribute, unknown_attribute, bad_attribute, misplaced, unbound_prefix, unknown_variable, shadowing, double_global, double_template, unknown_template, circular_set, forbidden, module_too_deep, number_of, shows, Holds, IsStaticFault, is_at_most, is_too_deep, some_value}
use Rattle.xs_structure.specs.Modules.{line_at, records_at}
use Rattle.xs_static.specs.Placing.{is_misplaced}
use Rattle.xs_static.specs.steps.Covering.{AreIn, HasAtMost}
use Rattle.xs_static.specs.steps.Elements.{attributes_least, own_least}
use Rattle.xs_static.specs.steps.Found.{attribute_faults, call_faults, calls_other, deep_faults, element_faults, has_global, has_template, known_at, line_in, module_faults, modules_faults, node_faults, nodes_faults, own_faults, seen_faults, shadow_faults}
use Rattle.xs_static.specs.steps.Least.{any_fault, fault_of, fault_where}
use Rattle.xs_static.specs.steps.Misplaced.{misplaced_fault, misplaced_faults, misplaced_nodes}
use Rattle.xs_static.specs.steps.Shown.{IsLeastNumber, has_in_attributes, has_own}
use Rattle.xs_static.specs.steps.Whole.{AreTrees}
use Rattle.xs_tree.specs.Kinds.{is_element_kind}
use Rattle.xs_tree.specs.Record.{Record, at}
use Rattle.xs_tree.specs.Shape.{IsTree}

-- which faults the walk meets: all but those of names and of circles
abbrev pub is_walked : Fault → Bool
is_walked double_global = false
is_walked double_template = false
is_walked circular_set = false
is_walked _ = true

-- ---- one module
module _ (ms : List ModuleData) (m : ℕ) (lines : List ℕ) (names : Names) (known_module : m < length ms) (tree : IsTree (records_at ms m))
    (same_line : (n : ℕ) → get_or lines n 0 ≡ line_at ms m n)
    (globals : (uri local : List ℕ) → has_global names uri local ≡ is_global ms (uri, local))
    (templates : (name : Name) → has_template names name ≡ is_template_name ms name) where
  abbrev rs : List Record
  rs = records_at ms m

  abbrev IsElement : ℕ → Type 0
  IsElement n = is_element_kind (at rs n).kind ≡ true

  abbrev fault_at : ℕ → ℕ → StaticFault
  fault_at n number = fault_of m (get_or lines n 0) number

  static-at : (fault : Fault) (n number : ℕ) → number ≡ number_of fault → n < length rs → IsElement n → Holds fault ms (m, n)
      → IsStaticFault ms (fault_at n number)
  static-at fault n number e within element holds =
      record {
        fault = fault;
        number = e;
        node = n;
        known_module = known_module;
        known_node = within;
        element = element;
        line = same_line n;
        holds = holds;
      }

  abbrev known_here : ℕ → Form → List ℕ → List ℕ → Bool
  known_here n form = is_known ms form (m, n)

  same-known : (n : ℕ) (form : Form) (uri local : List ℕ) → known_at names rs n form uri local ≡ known_here n form uri local
  same-known n form uri local = ap (λ (b : Bool). b || (sees_locals form && has_binding rs n (uri, local))) (globals uri local)

  same-name : (o : Option Name)
      → option_map_or (λ name. not (has_template names name)) o false ≡ option_map_or (λ name. not (is_template_name ms name)) o false
  same-name None = refl
  same-name (Some name) = ap not (templates name)

  same-calls : (n : ℕ) → calls_other names rs n ≡ calls_unknown ms (m, n)
  same-calls n = ap (λ (b : Bool). is_call_template (tag_of rs n) && b) (same-name (own_name rs n))

  -- ---- of an element that is looked at, what holds of it by one part is a fault
  own-holds : (n : ℕ) → is_seen rs n ≡ true → (f : Fault) → has_own rs n f ≡ true → Holds f ms (m, n)
  own-holds n seen bad_root h = and_from (is_seen rs n) (shows bad_root ms (m, n)) seen h
  own-holds n seen unsupported h =
      and_from (is_seen rs n) (shows unsupported ms (m, n)) seen
      (or_right (some_value rs n is_unsupported) (is_decimal_format (tag_of rs n)) h)
  own-holds n seen f h = absurd (false≢true h)

  attributes-hold : (n : ℕ) → is_seen rs n ≡ true → (f : Fault) → has_in_attributes rs n (known_here n) f ≡ true → Holds f ms (m, n)
  attributes-hold n seen bad_syntax h = and_from (is_seen rs n) (shows bad_syntax ms (m, n)) seen h
  attributes-hold n seen unknown_function h = and_from (is_seen rs n) (shows unknown_function ms (m, n)) seen h
  attributes-hold n seen arg_count h = and_from (is_seen rs n) (shows arg_count ms (m, n)) seen h
  attributes-hold n seen bad_literal h = and_from (is_seen rs n) (shows bad_literal ms (m, n)) seen h
  attributes-hold n seen too_nested h = and_from (is_seen rs n) (shows too_nested ms (m, n)) seen h
  attributes-hold n seen not_pattern h = and_from (is_seen rs n) (shows not_pattern ms (m, n)) seen h
  attributes-hold n seen unsupported h =
      and_from (is_seen rs n) (shows unsupported ms (m, n)) seen
      (or_left (some_value rs n is_unsupported) (is_decimal_format (tag_of rs n)) h)
  attributes-hold n seen missing_attribute h = and_from (is_seen rs n) (shows missing_attribute ms (m, n)) seen h
  attributes-hold n seen unknown_attribute h = and_from (is_seen rs n) (shows unknown_attribute ms (m, n)) seen h
  attributes-hold n seen bad_attribute h = and_from (is_seen rs n) (shows bad_attribute ms (m, n)) seen h
  attributes-hold n seen unbound_prefix h = and_from (is_seen rs n) (shows unbound_prefix ms (m, n)) seen h
  attributes-hold n seen unknown_variable h = and_from (is_seen rs n) (shows unknown_variable ms (m, n)) seen h
  attributes-hold n seen forbidden h = and_from (is_seen rs n) (shows forbidden ms (m, n)) seen h
  attributes-hold n seen f h = absurd (false≢true h)

  -- ---- each of the list is a static fault
  number-sound : (n : ℕ) → n < length rs → IsElement n → (p : Fault → Bool) (o : Option ℕ) → IsLeastNumber p o
      → ((f : Fault) → p f ≡ true → Holds f ms (m, n)) → AreIn (IsStaticFault ms) (any_fault m (line_in lines n) o)
  number-sound n within element p None least holds = tt
  number-sound n within element p (Some k) least holds =
      (static-at least.0.0 n k least.0.2 within element (holds least.0.0 least.0.1), tt)

  where-sound : (n : ℕ) → n < length rs → IsElement n → (f : Fault) (b : Bool) → (b ≡ true → Holds f ms (m, n))
      → AreIn (IsStaticFault ms) (fault_where b m (line_in lines n) (number_of f))
  where-sound n within element f true holds = (static-at f n (number_of f) refl within element (holds refl), tt)
  where-sound n within element f false holds = tt

  nodes-at : (ks : List ℕ) → ((k : ℕ) → has_place k ks ≡ true → IsStaticFault ms (misplaced_fault m lines k))
      → AreIn (IsStaticFault ms) (map (misplaced_fault m lines) ks)
  nodes-at [] h = tt
  nodes-at (k ∷ ks) h = (h k (or_left (k == k) (has_place k ks) (eq-eqb k k refl)), nodes-at ks (λ j i. h j (or_right (k == j) (has_place j ks) i)))

  misplaced-at : (n k : ℕ) → n < length rs → IsElement n → is_seen rs n ≡ true → has_place k (misplaced_nodes rs n) ≡ true
      → IsStaticFault ms (misplaced_fault m lines k)
  misplaced-at n k within element seen i =
      let s = misplaced_sound rs tree n k within element seen i in
      static-at misplaced k 37 refl s.0 s.1 (and_from (is_seen rs k) (is_misplaced rs k) s.2 s.3)

  seen-sound : (n : ℕ) → n < length rs → IsElement n → is_seen rs n ≡ true → AreIn (IsStaticFault ms) (seen_faults m rs lines names n)
  seen-sound n within element seen =
      let own = own_faults m rs lines n in
      let attributes = attribute_faults m rs lines names n in
      let places = misplaced_faults m rs lines n in
      let calls = call_faults m rs lines names n in
      let shadowed = shadow_faults m rs lines n in
      are_in_append (IsStaticFault ms) own (attributes ++ (places ++ (calls ++ shadowed)))
      (number-sound n within element (has_own rs n) (own_least rs n) (own_is_least rs n) (own-holds n seen))
      (are_in_append (IsStaticFault ms) attributes (places ++ (calls ++ shadowed))
      (number-sound n within element (has_in_attributes rs n (known_here n)) (attributes_least rs n (known_at names rs n))
      (attributes_are_least rs n (known_at names rs n) (known_here n) (same-known n)) (attributes-hold n seen))
      (are_in_append (IsStaticFault ms) places (calls ++ shadowed)
      (nodes-at (misplaced_nodes rs n) (λ k i. misplaced-at n k within element seen i))
      (are_in_append (IsStaticFault ms) calls shadowed
      (where-sound n within element unknown_template (calls_other names rs n)
      (λ e. and_from (is_seen rs n) (calls_unknown ms (m, n)) seen (sym (same-calls n) ∙ e)))
      (where-sound n within element shadowing (shadows rs n) (λ e. and_from (is_seen rs n) (shadows rs n) seen e)))))

  seen-if : (n : ℕ) → n < length rs → IsElement n → (b : Bool) → is_seen rs n ≡ b
      → AreIn (IsStaticFault ms) (if b then seen_faults m rs lines names n else [])
  seen-if n within element true e = seen-sound n within element e
  seen-if n within element false e = tt

  element-sound : (n : ℕ) → n < length rs → IsElement n → AreIn (IsStaticFault ms) (element_faults m rs lines names n)
  element-sound n within element =
      are_in_append (IsStaticFault ms) (deep_faults m rs lines n) (if is_seen rs n then seen_faults m rs lines names n else [])
      (where-sound n within element module_too_deep (is_too_deep rs n) (λ e. e)) (seen-if n within element (is_seen rs n) refl)

  element-if : (n : ℕ) → n < length rs → (b : Bool) → is_element_kind (at rs n).kind ≡ b
      → AreIn (IsStaticFault ms) (if b then element_faults m rs lines names n else [])
  element-if n within true e = element-sound n within e
  element-if n within false e = tt

  node-sound : (n : ℕ) → n < length rs → AreIn (IsStaticFault ms) (node_faults m rs lines names n)
  unfolding node_faults
  node-sound n within = element-if n within (is_element_kind (at rs n).kind) refl

  nodes-sound : (count : ℕ) → count ≤ length rs → AreIn (IsStaticFault ms) (nodes_faults m rs lines names count)
  unfolding nodes_faults
  nodes-sound zero h = tt
  nodes-sound (suc n) h =
      are_in_append (IsStaticFault ms) (nodes_faults m rs lines names n) (node_faults m rs lines names n)
      (nodes-sound n (omega (arith, h))) (node-sound n (omega (arith, h)))

  -- ---- and each fault has one in the list that is at most as great
  no-greater : (n k number : ℕ) → k ≤ number → is_at_most (fault_at n k) (fault_at n number) ≡ true
  no-greater n k number h =
      same_number m m (by_number (get_or lines n 0) (get_or lines n 0) (nat_le k number)) refl
      (same_number (get_or lines n 0) (get_or lines n 0) (nat_le k number) refl (le-leb k number h))

  number-complete : (n : ℕ) (p : Fault → Bool) (o : Option ℕ) → IsLeastNumber p o → (f : Fault) → p f ≡ true
      → HasAtMost (fault_at n (number_of f)) (any_fault m (line_in lines n) o)
  number-complete n p None least f h = absurd (both_ways (p f) (least f) h)
  number-complete n p (Some k) least f h = inl (no-greater n k (number_of f) (least.1 f h))

  where-complete : (n : ℕ) (f : Fault) (b : Bool) → b ≡ true → HasAtMost (fault_at n (number_of f)) (fault_where b m (line_in lines n) (number_of f))
  where-complete n f true e = inl (no-greater n (number_of f) (number_of f) (omega arith))
  where-complete n f false e = absurd (false≢true e)

  place-complete : (k x : ℕ) (xs : List ℕ) → (has_place k xs ≡ true → HasAtMost (fault_at k 37) (map (misplaced_fault m lines) xs))
      → ((x == k) ≡ true) ⊎ (has_place k xs ≡ true) → HasAtMost (fault_at k 37) (map (misplaced_fault m lines) (x ∷ xs))
  place-complete k x xs ih (inl e) =
      inl (subst (λ y. is_at_most (misplaced_fault m lines y) (fault_at k 37) ≡ true) (sym (eqb-true x k e)) (no-greater k 37 37 (omega arith)))
  place-complete k x xs ih (inr h) = inr (ih h)

  places-complete : (k : ℕ) (xs : List ℕ) → has_place k xs ≡ true → HasAtMost (fault_at k 37) (map (misplaced_fault m lines) xs)
  places-complete k [] h = absurd (false≢true h)
  places-complete k (x ∷ xs) h = place-complete k x xs (places-complete k xs) (or_cases (x == k) (has_place k xs) h)

  -- the parts of the list of an element that is looked at
  module _ (f : StaticFault) (n : ℕ) where
    abbrev own : List StaticFault
    own = own_faults m rs lines n

    abbrev by_attributes : List StaticFault
    by_attributes = attribute_faults m rs lines names n

    abbrev by_places : List StaticFault
    by_places = misplaced_faults m rs lines n

    abbrev by_calls : List StaticFault
    by_calls = call_faults m rs lines names n

    abbrev by_shadows : List StaticFault
    by_shadows = shadow_faults m rs lines n

    from-own : HasAtMost f own → HasAtMost f (seen_faults m rs lines names n)
    from-own = at_most_left f own (by_attributes ++ (by_places ++ (by_calls ++ by_shadows)))

    from-attributes : HasAtMost f by_attributes → HasAtMost f (seen_faults m rs lines names n)
    from-attributes h =
        at_most_right f own (by_attributes ++ (by_places ++ (by_calls ++ by_shadows)))
        (at_most_left f by_attributes (by_places ++ (by_calls ++ by_shadows)) h)

    from-places : HasAtMost f by_places → HasAtMost f (seen_faults m rs lines names n)
    from-places h =
        at_most_right f own (by_attributes ++ (by_places ++ (by_calls ++ by_shadows)))
        (at_most_right f by_attributes (by_places ++ (by_calls ++ by_shadows)) (at_most_left f by_places (by_calls ++ by_shadows) h))

    from-calls : HasAtMost f by_calls → HasAtMost f (seen_faults m rs lines names n)
    from-calls h =
        at_most_right f own (by_attributes ++ (by_places ++ (by_calls ++ by_shadows)))
        (at_most_right f by_attributes (by_places ++ (by_calls ++ by_shadows))
        (at_most_right f by_places (by_calls ++ by_shadows) (at_most_left f by_calls by_shadows h)))

    from-shadows : HasAtMost f by_shadows → HasAtMost f (seen_faults m rs lines names n)
    from-shadows h =
        at_most_right f own (by_attributes ++ (by_places ++ (by_calls ++ by_shadows)))
        (at_most_right f by_attributes (by_places ++ (by_calls ++ by_shadows))
        (at_most_right f by_places (by_calls ++ by_shadows) (at_most_right f by_calls by_shadows h)))

  own-complete : (n : ℕ) (f : Fault) → has_own rs n f ≡ true → HasAtMost (fault_at n (number_of f)) (seen_faults m rs lines names n)
  own-complete n f h =
      from-own (fault_at n (number_of f)) n (number-complete n (has_own rs n) (own_least rs n) (own_is_least rs n) f h)

  attributes-complete : (n : ℕ) (f : Fault) → has_in_attributes rs n (known_here n) f ≡ true
      → HasAtMost (fault_at n (number_of f)) (seen_faults m rs lines names n)
  attributes-complete n f h =
      from-attributes (fault_at n (number_of f)) n
      (number-complete n (has_in_attributes rs n (known_here n)) (attributes_least rs n (known_at names rs n))
      (attributes_are_least rs n (known_at names rs n) (known_here n) (same-known n)) f h)

  -- the list of an element is a part of that of its module
  where-so : (f : StaticFault) (fs : List StaticFault) (b : Bool) → b ≡ true → HasAtMost f fs → HasAtMost f (if b then fs else [])
  where-so f fs true e h = h
  where-so f fs false e h = absurd (false≢true e)

  from-node : (f : StaticFault) (n : ℕ) → IsElement n → HasAtMost f (element_faults m rs lines names n) → HasAtMost f (node_faults m rs lines names n)
  unfolding node_faults
  from-node f n element h = where-so f (element_faults m rs lines names n) (is_element_kind (at rs n).kind) element h

  last-node : (f : StaticFault) (n c : ℕ) → n < suc c → (n < c → HasAtMost f (nodes_faults m rs lines names c))
      → HasAtMost f (node_faults m rs lines names n) → (n < c) ⊎ (c ≤ n) → HasAtMost f (nodes_faults m rs lines names c ++ node_faults m rs lines names c)
  last-node f n c h ih x (inl l) = at_most_left f (nodes_faults m rs lines names c) (node_faults m rs lines names c) (ih l)
  last-node f n c h ih x (inr g) =
      let same : n ≡ c = omega (arith, h, g) in
      at_most_right f (nodes_faults m rs lines names c) (node_faults m rs lines names c)
      (subst (λ k. HasAtMost f (node_faults m rs lines names k)) same x)

  from-nodes : (f : StaticFault) (n count : ℕ) → n < count → HasAtMost f (node_faults m rs lines names n)
      → HasAtMost f (nodes_faults m rs lines names count)
  unfolding nodes_faults
  from-nodes f n zero h x = absurd (omega (arith, h))
  from-nodes f n (suc c) h x = last-node f n c h (λ l. from-nodes f n c l x) x (cases_lt n c)

  from-looked : (f : StaticFault) (n : ℕ) → n < length rs → IsElement n → is_seen rs n ≡ true → HasAtMost f (seen_faults m rs lines names n)
      → HasAtMost f (nodes_faults m rs lines names (length rs))
  from-looked f n within element seen h =
      from-nodes f n (length rs) within (from-node f n element
      (at_most_right f (deep_faults m rs lines n) (if is_seen rs n then seen_faults m rs lines names n else [])
      (where-so f (seen_faults m rs lines names n) (is_seen rs n) seen h)))

  -- ---- by the fault
  module _ (n : ℕ) (within : n < length rs) (element : IsElement n) where
    here : (f : Fault) → (is_seen rs n && shows f ms (m, n)) ≡ true
        → (shows f ms (m, n) ≡ true → HasAtMost (fault_at n (number_of f)) (seen_faults m rs lines names n))
        → HasAtMost (fault_at n (number_of f)) (nodes_faults m rs lines names (length rs))
    here f h x =
        let both = and_parts (is_seen rs n) (shows f ms (m, n)) h in
        from-looked (fault_at n (number_of f)) n within element both.0 (x both.1)

    there : is_seen rs n ≡ true → is_misplaced rs n ≡ true → HasAtMost (fault_at n 37) (nodes_faults m rs lines names (length rs))
    there seen h =
        let among = misplaced_complete rs tree n within element seen h in
        from-looked (fault_at n 37) among.0 among.1 among.2 among.3
        (from-places (fault_at n 37) among.0 (places-complete n (misplaced_nodes rs among.0) among.4))

    pub module_complete : (f : Fault) → is_walked f ≡ true → Holds f ms (m, n)
        → HasAtMost (fault_at n (number_of f)) (nodes_faults m rs lines names (length rs))
    module_complete bad_syntax w h = here bad_syntax h (attributes-complete n bad_syntax)
    module_complete unknown_function w h = here unknown_function h (attributes-complete n unknown_function)
    module_complete arg_count w h = here arg_count h (attributes-complete n arg_count)
    module_complete bad_literal w h = here bad_literal h (attributes-complete n bad_literal)
    module_complete too_nested w h = here too_nested h (attributes-complete n too_nested)
    module_complete not_pattern w h = here not_pattern h (attributes-complete n not_pattern)
    module_complete bad_root w h = here bad_root h (own-complete n bad_root)
    module_complete unsupported w h =
        here unsupported h (λ x.
        ⊎_elim (attributes-complete n unsupported) (own-complete n unsupported)
        (or_cases (some_value rs n is_unsupported) (is_decimal_format (tag_of rs n)) x))
    module_complete missing_attribute w h = here missing_attribute h (attributes-complete n missing_attribute)
    module_complete unknown_attribute w h = here unknown_attribute h (attributes-complete n unknown_attribute)
    module_complete bad_attribute w h = here bad_attribute h (attributes-complete n bad_attribute)
    module_complete misplaced w h =
        there (and_parts (is_seen rs n) (is_misplaced rs n) h).0 (and_parts (is_seen rs n) (is_misplaced rs n) h).1
    module_complete unbound_prefix w h = here unbound_prefix h (attributes-complete n unbound_prefix)
    module_complete unknown_variable w h = here unknown_variable h (attributes-complete n unknown_variable)
    module_complete shadowing w h =
        here shadowing h (λ x. from-shadows (fault_at n 40) n (where-complete n shadowing (shadows rs n) x))
    module_complete double_global w h = absurd (false≢true w)
    module_complete double_template w h = absurd (false≢true w)
    module_complete unknown_template w h =
        here unknown_template h (λ x.
        from-calls (fault_at n 43) n (where-complete n unknown_template (calls_other names rs n) (same-calls n ∙ x)))
    module_complete circular_set w h = absurd (false≢true w)
    module_complete forbidden w h = here forbidden h (attributes-complete n forbidden)
    module_complete module_too_deep w h =
        from-nodes (fault_at n 46) n (length rs) within (from-node (fault_at n 46) n element
        (at_most_left (fault_at n 46) (deep_faults m rs lines n) (if is_seen rs n then seen_faults m rs lines names n else [])
        (where-complete n module_too_deep (is_too_deep rs n) h)))

-- ---- all modules
module _ (ms : List ModuleData) (names : Names) (trees : AreTrees ms)
    (globals : (uri local : List ℕ) → has_global names uri local ≡ is_global ms (uri, local))
    (templates : (name : Name) → has_template names name ≡ is_template_name ms name) where
  abbrev faults_of : ℕ → Option ModuleData → List StaticFault
  faults_of m o = option_map_or (λ d. module_faults d names m) o []

  same-line : (m : ℕ) (d : ModuleData) → slice_get ms m ≡ Some d → (n : ℕ) → get_or d.lines n 0 ≡ line_at ms m n
  same-line m d e n = sym (ap (λ o. option_map_or (λ d. get_or d.lines n 0) o 0) e)

  same-records : (m : ℕ) (d : ModuleData) → slice_get ms m ≡ Some d → records_at ms m ≡ d.records
  same-records m d e = ap (λ o. option_map_or (λ d. d.records) o []) e

  one-sound : (m : ℕ) → m < length ms → (o : Option ModuleData) → slice_get ms m ≡ o → AreIn (IsStaticFault ms) (faults_of m o)
  one-sound m h None e = tt
  one-sound m h (Some d) e =
      subst (λ (rs : List Record). AreIn (IsStaticFault ms) (nodes_faults m rs d.lines names (length rs))) (same-records m d e)
      (nodes-sound ms m d.lines names h (trees m h) (same-line m d e) globals templates (length (records_at ms m)) (omega arith))

  up-to-sound : (count : ℕ) → count ≤ length ms → AreIn (IsStaticFault ms) (modules_faults ms names count)
  unfolding modules_faults
  up-to-sound zero h = tt
  up-to-sound (suc m) h =
      are_in_append (IsStaticFault ms) (modules_faults ms names m) (faults_of m (slice_get ms m)) (up-to-sound m (omega (arith, h)))
      (one-sound m (omega (arith, h)) (slice_get ms m) refl)

  -- each fault that the walk meets is a static fault
  pub walk_sound : AreIn (IsStaticFault ms) (modules_faults ms names (length ms))
  walk_sound = up-to-sound (length ms) (omega arith)

  spelled : (f : StaticFault) → (s : IsStaticFault ms f) → (d : ModuleData) → slice_get ms f.«module» ≡ Some d
      → f ≡ fault_of f.«module» (get_or d.lines s.node 0) (number_of s.fault)
  spelled f s d e =
      ap (λ (l : ℕ). fault_of f.«module» l f.number) (s.line ∙ sym (same-line f.«module» d e s.node))
      ∙ ap (fault_of f.«module» (get_or d.lines s.node 0)) s.number

  one-complete : (f : StaticFault) (s : IsStaticFault ms f) → is_walked s.fault ≡ true → (o : Option ModuleData) → slice_get ms f.«module» ≡ o
      → HasAtMost f (faults_of f.«module» o)
  one-complete f s w None e =
      let none : length (records_at ms f.«module») ≡ 0 = ap (λ o. length (option_map_or (λ (d : ModuleData). d.records) o [])) e in
      absurd (omega (arith, s.known_node, none))
  one-complete f s w (Some d) e =
      subst (λ (g : StaticFault). HasAtMost g (faults_of f.«module» (Some d))) (sym (spelled f s d e))
      (subst (λ (rs : List Record). HasAtMost (fault_of f.«module» (get_or d.lines s.node 0) (number_of s.fault))
      (nodes_faults f.«module» rs d.lines names (length rs))) (same-records f.«module» d e)
      (module_complete ms f.«module» d.lines names s.known_module (trees f.«module» s.known_module) (same-line f.«module» d e) globals templates
      s.node s.known_node s.element s.fault w s.holds))

  last-module : (f : StaticFault) (m c : ℕ) → m < suc c → (m < c → HasAtMost f (modules_faults ms names c))
      → HasAtMost f (faults_of m (slice_get ms m)) → (m < c) ⊎ (c ≤ m) → HasAtMost f (modules_faults ms names c ++ faults_of c (slice_get ms c))
  last-module f m c h ih x (inl l) = at_most_left f (modules_faults ms names c) (faults_of c (slice_get ms c)) (ih l)
  last-module f m c h ih x (inr g) =
      let same : m ≡ c = omega (arith, h, g) in
      at_most_right f (modules_faults ms names c) (faults_of c (slice_get ms c)) (subst (λ k. HasAtMost f (faults_of k (slice_get ms k))) same x)

  from-modules : (f : StaticFault) (m count : ℕ) → m < count → HasAtMost f (faults_of m (slice_get ms m))
      → HasAtMost f (modules_faults ms names count)
  unfolding modules_faults
  from-modules f m zero h x = absurd (omega (arith, h))
  from-modules f m (suc c) h x = last-module f m c h (λ l. from-modules f m c l x) x (cases_lt m c)

  -- and each static fault that the walk looks for is no less than one that it meets
  pub walk_complete : (f : StaticFault) (s : IsStaticFault ms f) → is_walked s.fault ≡ true
      → HasAtMost f (modules_faults ms names (length ms))
  walk_complete f s w = from-modules f f.«module» (length ms) s.known_module (one-complete f s w (slice_get ms f.«module») refl)
