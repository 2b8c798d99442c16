-- Patterns and keys hold no variable, no `current()` and no `key()`, where there is no static fault.
use Rattle.std.proofs.Common.{◌≡◌, ◌∙◌, ℕ, ap, refl, sym, List, [], ◌∷◌, Bool, true, false, Option, Some, None, Result, Ok, Err}
use Rattle.std.proofs.lemmas.Bool.{and_from, false≢true, or_parts}
use Rattle.std.proofs.lemmas.Option.{none-some}
use Rattle.std.specs.List.{list_all, list_any}
use Rattle.std.specs.Option.{option_map_or}
use Rattle.std.specs.Prelude.{◌&&◌, ◌||◌, codes, not, option_map}
use Rattle.std.specs.Result.{result_ok}
use Rattle.xs_compile.proofs.CleanLemmas.{shows-none, value-clean}
use Rattle.xs_compile.specs.Parsed.{Both, IsExpr, IsPattern}
use Rattle.xs_structure.specs.Parts.{pairs_at, reading_at, tag_at, value_at}
use Rattle.xs_compile.specs.Slots.{slot_at}
use Rattle.xs_structure.specs.Places.{IsIn}
use Rattle.xs_elements.specs.declared.forms.Form.{Form}
use Rattle.xs_elements.specs.declared.forms.Form.TheVariants.{KeyPattern, KeyUse, NumberPattern, TemplatePattern}
use Rattle.xs_elements.specs.declared.reading.Reading.{Reading}
use Rattle.xs_elements.specs.declared.reading.Reading.TheVariants.{Known}
use Rattle.xs_elements.specs.Reading.{allowed_form, form_by, has_read_attributes, is_seen}
use Rattle.xs_elements.specs.Tags.{tag_of}
use Rattle.xs_modules.specs.Numbering.{ModuleData}
use Rattle.xs_sheet.specs.declared.scoped.ScopedExpr.{ScopedExpr}
use Rattle.xs_sheet.specs.declared.scoped.ScopedPattern.{ScopedPattern}
use Rattle.xs_sheet.specs.Sound.{holds_no_key}
use Rattle.xs_sheet.specs.Standing.{is_free, pattern_is_free, pattern_is_free_if}
use Rattle.xs_static.specs.Expressions.{expressions_of, is_forbidden_in, trees_if}
use Rattle.xs_static.specs.Faults.{IsFirstFault, forbidden, of_form}
use Rattle.xs_structure.specs.Modules.{Place, records_at}
use Rattle.xs_tree.specs.Kinds.{is_element_kind}
use Rattle.xs_tree.specs.Record.{Record, at, attributes}
use Rattle.xs_parser.specs.declared.fault.Fault.{Fault as ParseFault}
use Rattle.xs_parser.specs.Faults.{expr_in, outcome_in, pattern_in}
use Rattle.xs_parser.specs.Lexing.{begun, lexed}
use Rattle.xs_parser.specs.Reading.{level, read, tree_by}
use Rattle.xs_xpath.specs.declared.name.Slot.{Slot}
use Rattle.xs_xpath.specs.Binding.{bound, bounds}
use Rattle.xs_xpath.specs.Patterns.{alternatives, listed}
use Rattle.xs_xpath.specs.Tree.{Tree, Trees, number, literal, variable, call, negative, chain, group, here, root, step, descend, filter, path, no_trees, first_tree}
use Rattle.xs_xpath.specs.Uses.{is_sought_call, is_sought_variable, use_any, uses, uses_current, uses_key, uses_variables}

-- ---- what an expression does not use none of its alternatives does
both-free : (a b : Bool) → a ≡ false → b ≡ false → not (a || b) ≡ true
both-free a b e f = ap (λ (x : Bool). not (x || b)) e ∙ ap not f

-- neither of two things
abbrev has_neither : (Tree → Bool) → (Tree → Bool) → Tree → Bool
has_neither one two e = not (one e || two e)

abbrev lacks : (Tree → Bool) → Tree → Bool
lacks one e = not (one e)

listed-neither : (s t : _) (es : Trees) → use_any s es ≡ false → use_any t es ≡ false → list_all (has_neither (uses s) (uses t)) (listed es) ≡ true
listed-neither s t no_trees v c = refl
listed-neither s t (first_tree e es) v c =
    let vs = or_parts (uses s e) (use_any s es) v in
    let cs = or_parts (uses t e) (use_any t es) c in
    and_from (has_neither (uses s) (uses t) e) (list_all (has_neither (uses s) (uses t)) (listed es)) (both-free (uses s e) (uses t e) vs.0 cs.0)
    (listed-neither s t es vs.1 cs.1)

one-neither : (s t : _) (e : Tree) → uses s e ≡ false → uses t e ≡ false → (has_neither (uses s) (uses t) e && true) ≡ true
one-neither s t e v c = and_from (has_neither (uses s) (uses t) e) true (both-free (uses s e) (uses t e) v c) refl

alternatives-neither : (s t : _) (e : Tree) → uses s e ≡ false → uses t e ≡ false → list_all (has_neither (uses s) (uses t)) (alternatives e) ≡ true
alternatives-neither s t (chain ops es) v c = listed-neither s t es v c
alternatives-neither s t e v c = one-neither s t e v c

listed-lack : (s : _) (es : Trees) → use_any s es ≡ false → list_all (lacks (uses s)) (listed es) ≡ true
listed-lack s no_trees k = refl
listed-lack s (first_tree e es) k =
    let ks = or_parts (uses s e) (use_any s es) k in
    and_from (lacks (uses s) e) (list_all (lacks (uses s)) (listed es)) (ap not ks.0) (listed-lack s es ks.1)

alternatives-lack : (s : _) (e : Tree) → uses s e ≡ false → list_all (lacks (uses s)) (alternatives e) ≡ true
alternatives-lack s (chain ops es) k = listed-lack s es k
alternatives-lack s e k = and_from (lacks (uses s) e) true (ap not k) refl

free-alternatives : (e : Tree) → uses_variables e ≡ false → uses_current e ≡ false → list_all is_free (alternatives e) ≡ true
free-alternatives e v c = alternatives-neither _ _ e v c

no-key-alternatives : (e : Tree) → uses_key e ≡ false → list_all holds_no_key (alternatives e) ≡ true
no-key-alternatives e k = alternatives-lack _ e k

-- ---- what represents an outcome
-- the tree of an outcome that a test refuses
record IsTree (test : Tree → Bool) (X : Type 0) (f : Tree → X) (o : Result Tree ParseFault) (x : X) : Type 0 where
  tree : Tree
  is : o ≡ Ok tree
  stands : x ≡ f tree
  refused : test tree ≡ false

some-same : {X : Type 0} (x y : X) → Some x ≡ Some y → y ≡ x
some-same x y e = ap (λ (o : Option _). option_map_or (λ z. z) o x) (sym e)

tree-of : (test : Tree → Bool) {X : Type 0} (f : Tree → X) (o : Result Tree ParseFault) (x : X) → list_any test (trees_if o) ≡ false
    → option_map f (result_ok o) ≡ Some x → IsTree test X f o x
tree-of test f (Ok e) x h s = record { tree = e; is = refl; stands = some-same (f e) x s; refused = (or_parts (test e) false h).0 }
tree-of test f (Err fault) x h s = absurd (none-some x s)

outcome-free : (o : Result Tree ParseFault) (es : List Tree) (test : Tree → Bool)
    → ((e : Tree) → test e ≡ false → (uses_variables e ≡ false) × (uses_current e ≡ false)) → list_any test (trees_if o) ≡ false
    → option_map alternatives (result_ok o) ≡ Some es → list_all is_free es ≡ true
outcome-free o es test says h s =
    let t = tree-of test alternatives o es h s in
    let no = says t.tree t.refused in
    ap (list_all is_free) t.stands ∙ free-alternatives t.tree no.0 no.1

outcome-no-key : (o : Result Tree ParseFault) (es : List Tree) (test : Tree → Bool) → ((e : Tree) → test e ≡ false → uses_key e ≡ false)
    → list_any test (trees_if o) ≡ false → option_map alternatives (result_ok o) ≡ Some es → list_all holds_no_key es ≡ true
outcome-no-key o es test says h s =
    let t = tree-of test alternatives o es h s in
    ap (list_all holds_no_key) t.stands ∙ no-key-alternatives t.tree (says t.tree t.refused)

-- what each form forbids
template-forbids : (e : Tree) → is_forbidden_in TemplatePattern e ≡ false → (uses_variables e ≡ false) × (uses_current e ≡ false)
template-forbids e h = or_parts (uses_variables e) (uses_current e) (or_parts (uses_variables e || uses_current e) false h).0

number-forbids : (e : Tree) → is_forbidden_in NumberPattern e ≡ false → (uses_variables e ≡ false) × (uses_current e ≡ false)
number-forbids e h = or_parts (uses_variables e) (uses_current e) (or_parts (uses_variables e || uses_current e) false h).0

key-forbids : (e : Tree) → is_forbidden_in KeyPattern e ≡ false → (uses_variables e ≡ false) × (uses_current e ≡ false)
key-forbids e h = or_parts (uses_variables e) (uses_current e) (or_parts (uses_variables e || uses_current e) (uses_key e) h).0

key-forbids-key : (e : Tree) → is_forbidden_in KeyPattern e ≡ false → uses_key e ≡ false
key-forbids-key e h = (or_parts (uses_variables e || uses_current e) (uses_key e) h).1

use-forbids : (e : Tree) → is_forbidden_in KeyUse e ≡ false → (uses_variables e ≡ false) × (uses_key e ≡ false)
use-forbids e h =
    let both = or_parts (uses_variables e || false) (uses_key e) h in
    ((or_parts (uses_variables e) false both.0).0, both.1)

-- ---- a variable that is bound to a slot is still one, and nothing else changes
mutual
  bound-uses : (slots : List ℕ → List ℕ → Option Slot) (s : _) → ((a b : Option Slot) → is_sought_variable s a ≡ is_sought_variable s b)
      → (e : Tree) → uses s (bound slots e) ≡ uses s e
  bound-uses slots s blind (number n) = refl
  bound-uses slots s blind (literal text) = refl
  bound-uses slots s blind (variable uri local slot) = blind (slots uri local) slot
  bound-uses slots s blind (call function es) = ap (λ (b : Bool). is_sought_call s function || b) (bounds-use slots s blind es)
  bound-uses slots s blind (negative m e) = bound-uses slots s blind e
  bound-uses slots s blind (chain ops es) = bounds-use slots s blind es
  bound-uses slots s blind (group e) = bound-uses slots s blind e
  bound-uses slots s blind here = refl
  bound-uses slots s blind root = refl
  bound-uses slots s blind (step axis which es) = bounds-use slots s blind es
  bound-uses slots s blind descend = refl
  bound-uses slots s blind (filter e es) =
      ap (λ (b : Bool). b || use_any s (bounds slots es)) (bound-uses slots s blind e) ∙ ap (λ (b : Bool). uses s e || b) (bounds-use slots s blind es)
  bound-uses slots s blind (path e es) =
      ap (λ (b : Bool). b || use_any s (bounds slots es)) (bound-uses slots s blind e) ∙ ap (λ (b : Bool). uses s e || b) (bounds-use slots s blind es)

  bounds-use : (slots : List ℕ → List ℕ → Option Slot) (s : _) → ((a b : Option Slot) → is_sought_variable s a ≡ is_sought_variable s b)
      → (es : Trees) → use_any s (bounds slots es) ≡ use_any s es
  bounds-use slots s blind no_trees = refl
  bounds-use slots s blind (first_tree e es) =
      ap (λ (b : Bool). b || use_any s (bounds slots es)) (bound-uses slots s blind e) ∙ ap (λ (b : Bool). uses s e || b) (bounds-use slots s blind es)

bound-variables : (slots : List ℕ → List ℕ → Option Slot) (e : Tree) → uses_variables (bound slots e) ≡ uses_variables e
bound-variables slots e = bound-uses slots _ (λ a b. refl) e

bound-key : (slots : List ℕ → List ℕ → Option Slot) (e : Tree) → uses_key (bound slots e) ≡ uses_key e
bound-key slots e = bound-uses slots _ (λ a b. refl) e

pub record UsesNothing (e : Tree) : Type 0 where
  pub variables : not (uses_variables e) ≡ true
  pub key : holds_no_key e ≡ true

use-free : (slots : List ℕ → List ℕ → Option Slot) (o : Result Tree ParseFault) (e : Tree) → list_any (is_forbidden_in KeyUse) (trees_if o) ≡ false
    → option_map (bound slots) (result_ok o) ≡ Some e → UsesNothing e
use-free slots o e h s =
    let t = tree-of (is_forbidden_in KeyUse) (bound slots) o e h s in
    let no = use-forbids t.tree t.refused in
    record {
      variables = ap (λ (x : Tree). not (uses_variables x)) t.stands ∙ ap not (bound-variables slots t.tree ∙ no.0);
      key = ap holds_no_key t.stands ∙ ap not (bound-key slots t.tree ∙ no.1);
    }

-- ---- the root, as the pattern of a whole module
pub slash : (pairs : List (List ℕ × List ℕ)) → pattern_in pairs (codes "/") ≡ Ok root
unfolding outcome_in lexed begun tree_by read level
slash pairs = refl

pub root_is_free : (ms : List ModuleData) (p : Place) (e : ScopedPattern) → IsPattern ms p (codes "/") e → pattern_is_free e ≡ true
root_is_free ms p e h =
    let same = some-same (root ∷ []) e.pattern
    (sym (ap (λ (o : Result Tree ParseFault). option_map alternatives (result_ok o)) (slash (pairs_at ms p))) ∙ h.pattern) in
    ap (list_all is_free) same

-- ---- an element of XSLT that is looked at
module _ (ms : List ModuleData) (accepted : IsFirstFault ms None) (p : Place) (within : IsIn ms p) where
  abbrev rs : List Record
  rs = records_at ms p.0

  abbrev holds : Form → List ℕ → Bool
  holds form value = list_any (is_forbidden_in form) (expressions_of form (pairs_at ms p) value)

  behind : (b c : Bool) → b ≡ true → (b && c) ≡ false → c ≡ false
  behind true c e h = h
  behind false c e h = absurd (false≢true e)

  module _ (seen : is_seen rs p.1 ≡ true) (element : is_element_kind (at rs p.1).kind ≡ true) (read : has_read_attributes rs p.1 ≡ true)
      (known : reading_at ms p ≡ Known) where
    -- the value of an attribute holds nothing that is forbidden in it
    pub not_forbidden : (local value : List ℕ) (form : Form) → value_at ms p local ≡ Some value → allowed_form (tag_at ms p) local ≡ Some form
        → holds form value ≡ false
    not_forbidden local value form said formed =
        value-clean rs p.1 holds [] local value form
        (behind (has_read_attributes rs p.1) (list_any (of_form rs p.1 holds) (attributes rs p.1)) read
        (shows-none ms accepted forbidden p within element (λ h. h) seen))
        said (ap (λ (r : Reading). form_by r (tag_of rs p.1) [] local) known ∙ formed)

    -- a pattern that is there
    if-free : (o : Option (List ℕ)) (e : Option ScopedPattern)
        → ((value : List ℕ) (pattern : ScopedPattern) → o ≡ Some value → IsPattern ms p value pattern → pattern_is_free pattern ≡ true)
        → Both (IsPattern ms p) o e → pattern_is_free_if e ≡ true
    if-free None None says h = refl
    if-free None (Some e) says h = absurd h
    if-free (Some value) None says h = absurd h
    if-free (Some value) (Some e) says h = says value e refl h

    pub template_pattern_free : allowed_form (tag_at ms p) (codes "match") ≡ Some TemplatePattern → (e : Option ScopedPattern)
        → Both (IsPattern ms p) (value_at ms p (codes "match")) e → pattern_is_free_if e ≡ true
    template_pattern_free formed e =
        if-free (value_at ms p (codes "match")) e
        (λ value pattern said is. outcome-free (pattern_in (pairs_at ms p) value) pattern.pattern
        (is_forbidden_in TemplatePattern) template-forbids (not_forbidden (codes "match") value TemplatePattern said formed) is.pattern)

    pub number_pattern_free : (local : List ℕ) → allowed_form (tag_at ms p) local ≡ Some NumberPattern → (e : Option ScopedPattern)
        → Both (IsPattern ms p) (value_at ms p local) e → pattern_is_free_if e ≡ true
    number_pattern_free local formed e =
        if-free (value_at ms p local) e
        (λ value pattern said is. outcome-free (pattern_in (pairs_at ms p) value) pattern.pattern
        (is_forbidden_in NumberPattern) number-forbids (not_forbidden local value NumberPattern said formed) is.pattern)

    module _ (value : List ℕ) (said : value_at ms p (codes "match") ≡ Some value) (formed : allowed_form (tag_at ms p) (codes "match") ≡ Some KeyPattern)
        (e : ScopedPattern) (is : IsPattern ms p value e) where
      pub key_pattern_free : pattern_is_free e ≡ true
      key_pattern_free =
          outcome-free (pattern_in (pairs_at ms p) value) e.pattern (is_forbidden_in KeyPattern) key-forbids
          (not_forbidden (codes "match") value KeyPattern said formed) is.pattern

      pub key_pattern_no_key : list_all holds_no_key e.pattern ≡ true
      key_pattern_no_key =
          outcome-no-key (pattern_in (pairs_at ms p) value) e.pattern (is_forbidden_in KeyPattern) key-forbids-key
          (not_forbidden (codes "match") value KeyPattern said formed) is.pattern

    pub key_use_free : (value : List ℕ) → value_at ms p (codes "use") ≡ Some value → allowed_form (tag_at ms p) (codes "use") ≡ Some KeyUse
        → (e : ScopedExpr) → IsExpr ms p value e → UsesNothing e.expr
    key_use_free value said formed e is =
        use-free (slot_at ms p) (expr_in (pairs_at ms p) value) e.expr (not_forbidden (codes "use") value KeyUse said formed) is.expr
