-- One level of attribute sets more changes nothing where no set uses itself (XSLT 1.0, 7.1.4).
use Rattle.std.proofs.Common.{◌≡◌, ◌∙◌, ℕ, zero, suc, ◌+◌, ◌≤◌, inl, inr, ap, arith, refl, sym, Bool, true, false, if◌then◌else◌, List, [], ◌∷◌, ◌++◌, Option, Some, None, length}
use Rattle.std.proofs.lemmas.Bool.{true≢false}
use Rattle.std.specs.List.{flat_map, list_all}
use Rattle.std.specs.Prelude.{◌&&◌}
use Rattle.xs_sheet.specs.Sound.{IsSound, attribute_stands, counts_of, set_is_sound}
use Rattle.xs_sheet.specs.Standing.{site_stands}
use Rattle.xs_sheet.specs.Sets.{bindings_sets, bodies_sets, body_sets, choice_sets, content_sets, fallbacks_sets, instrs_sets, kind_sets, passed_sets, sets_of, whens_sets, is_apart}
use Rattle.xs_sheet.specs.declared.body.Body.{Body, Body', Row_of-Instr, end_of-Instr, more_of-Instr}
use Rattle.xs_sheet.specs.declared.body.Choice.{Choice, Choice', Row_of-When, end_of-When, more_of-When}
use Rattle.xs_sheet.specs.declared.body.Content.{Content}
use Rattle.xs_sheet.specs.declared.body.Content.TheVariants.{Empty, Select, Body as Fragment}
use Rattle.xs_sheet.specs.declared.body.Fallbacks.{Fallbacks, Fallbacks', Row_of-Body, end_of-Body, more_of-Body}
use Rattle.xs_sheet.specs.declared.body.Instr.{Instr}
use Rattle.xs_sheet.specs.declared.body.InstrKind.{InstrKind, Variable'}
use Rattle.xs_sheet.specs.declared.body.InstrKind.TheVariants.{ApplyTemplates, CallTemplate, ApplyImports, ForEach, ValueOf, CopyOf, Copy, Number, Choose, If}
use Rattle.xs_sheet.specs.declared.body.InstrKind.TheVariants.{Text, Element, Attribute, Comment, Pi, Message, Literal, Extension}
use Rattle.xs_sheet.specs.declared.body.MadeName.{MadeName}
use Rattle.xs_sheet.specs.declared.body.NumberDecl.{NumberDecl}
use Rattle.xs_sheet.specs.declared.body.Passed.{Passed, Passed', out-Passed, Row_of-Binding, end_of-Binding, more_of-Binding}
use Rattle.xs_sheet.specs.declared.body.SortDecl.{SortDecl}
use Rattle.xs_sheet.specs.declared.body.When.{When'}
use Rattle.xs_sheet.specs.declared.declarations.AttrSet.{AttrSet}
use Rattle.xs_sheet.specs.declared.scoped.ScopedExpr.{ScopedExpr}
use Rattle.xs_sheet.specs.declared.scoped.ValueTemplate.{ValueTemplate}
use Rattle.xs_trace.specs.Label.{Label}
use Rattle.xs_trace.specs.Mark.{Tick, Put, Stop, Trace, ◌⨾◌, captured, events_of, ticks, without_puts}
use Rattle.xs_trace.specs.Run.{Answer, Gives, Faults, Lacks, Run, evaluated, give, on_answer, ◌>>=◌}
use Rattle.xs_trace.specs.declared.event.Event.{Event}
use Rattle.xs_trace.specs.declared.event.Event.TheVariants.{Start, End}
use Rattle.xs_trace.specs.declared.fault.Fault.TheVariants as fault
use Rattle.xs_trace.specs.declared.item.Site.{Site}
use Rattle.xs_tree.specs.Kinds.{is_element_kind, is_root_kind}
use Rattle.xs_tree.specs.Record.{at}
use Rattle.xs_tree.specs.declared.kinds.Kind.{Kind}
use Rattle.xs_value.specs.declared.value.Value.{Value}
use Rattle.xs_value.specs.declared.value.Value.TheVariants.{Chars as String, Piece}
use Rattle.xs_value.specs.Conversion.{fragment_text}
use Rattle.xs_making.specs.Copies.{shallow_copy}
use Rattle.xs_making.specs.Names.{result_name}
use Rattle.xs_eval_spec.specs.Results.{given}
use Rattle.xs_attribute_sets.specs.Declarations.{declarations_of}
use Rattle.xs_body_spec.specs.declared.focus.Focus.{Focus}
use Rattle.xs_body_spec.specs.declared.made.Made.{Made}
use Rattle.xs_body_spec.specs.declared.made.Made.TheVariants as made
use Rattle.xs_body_spec.specs.World.{World, all_set_levels, applied_nodes, at_node, captured_in, in_list, looped_nodes, nodes_or_children, sorted_run}
use Rattle.xs_body_spec.specs.World.{template_run, test_run, text_run, value_run, with_levels, without_rule}
use Rattle.xs_body_spec.specs.Numbers.{format_run, formatting_run, group_in, number_run, numbered_by, optional_run, written}
use Rattle.xs_body_spec.specs.Making.{attribute_events, attribute_label, name_run, namespace_run, target_run, value_events}
use Rattle.xs_body_spec.specs.Tasks.{Job, Params, Task, below, body_job, grain_over, rules_job}
use Rattle.xs_body_spec.specs.Trace.{Calls, Entry, applied, begins, bodies_trace, body_trace, by_number, by_rules, called, called_with, chars, choice_trace}
use Rattle.xs_body_spec.specs.Trace.{content_trace, copied_content, copied_node, declared_trace, each, ended_if, entered, fallbacks_trace, fitting, fragment_of}
use Rattle.xs_body_spec.specs.Trace.{imports, instr_trace, instrs_trace, literal_attributes, makes, named, overridden, passing, puts_all, row_trace, says}
use Rattle.xs_body_spec.specs.Trace.{sets_trace, spread, spread_by, unless_none, using, values_trace, whens_trace}
use Rattle.xs_body_spec.proofs.ChainLemmas.{Deep, Each, Ends, In, at-most, each-back, each-front, ends-at, in-all}

-- ---- the parts of traces
both : (x v y z : Trace Task) → x ≡ v → y ≡ z → x ⨾ y ≡ v ⨾ z
both x v y z e o = ap (λ t. t ⨾ y) e ∙ ap (λ t. v ⨾ t) o

answer-same : {A : Type 0} (p : Site) (a : Answer A) (x y : A → Trace Task) → ((v : A) → x v ≡ y v) → on_answer p a x ≡ on_answer p a y
answer-same p (Gives v) x y e = e v
answer-same p (Faults n) x y e = refl
answer-same p (Lacks g) x y e = refl

run-same : {A : Type 0} (p : Site) (r s : Run A) (x y : A → Trace Task) → r ≡ s → ((v : A) → x v ≡ y v) → evaluated p r x ≡ evaluated p s y
run-same p r s x y e h = ap (λ q. evaluated p q x) e ∙ ap (ticks p s.cost) (answer-same p s.end x y h)

caught : (x v : Trace Task) (h k : List Event → Trace Task) → x ≡ v → ((es : List Event) → h es ≡ k es) → captured x h ≡ captured v k
caught x v h k e o = ap (λ t. captured t h) e ∙ ap (λ t. without_puts v ⨾ t) (o (events_of v))

-- an entry that uses only such names
abbrev Fine : (Label → Type 0) → Entry → Type 0
Fine P (named template ps) = Unit {0}
Fine P (fitting mode ps) = Unit {0}
Fine P (overridden rule) = Unit {0}
Fine P (using names) = Each P names

-- ---- what a run takes of a focus is none of its levels
module _ (w : World) (d m : ℕ) where
  abbrev up : Focus → Focus
  up f = with_levels d m f

  children-same : (o : Option ScopedExpr) (f : Focus) (vs : List Value) → nodes_or_children w o f vs ≡ nodes_or_children w o (up f) vs
  children-same None f vs = refl
  children-same (Some e) f vs = refl

  optional-same : (o : Option ValueTemplate) (f : Focus) (vs : List Value) → optional_run w o f vs ≡ optional_run w o (up f) vs
  optional-same None f vs = refl
  optional-same (Some t) f vs = refl

  format-same : (o : Option ValueTemplate) (f : Focus) (vs : List Value) → format_run w o f vs ≡ format_run w o (up f) vs
  format-same None f vs = refl
  format-same (Some t) f vs = refl

  namespace-same : (o : Option ValueTemplate) (f : Focus) (vs : List Value) → namespace_run w o f vs ≡ namespace_run w o (up f) vs
  namespace-same None f vs = refl
  namespace-same (Some t) f vs = refl

  numbered-same : (o : Option ScopedExpr) (n : NumberDecl) (f : Focus) (vs : List Value) → numbered_by w o n f vs ≡ numbered_by w o n (up f) vs
  numbered-same None n f vs = refl
  numbered-same (Some e) n f vs = refl

  applied-same : (o : Option ScopedExpr) (sorts : List SortDecl) (f : Focus) (vs : List Value) →
      applied_nodes w o sorts f vs ≡ applied_nodes w o sorts (up f) vs
  applied-same o sorts f vs = ap (λ q. q >>= sorted_run w sorts f vs) (children-same o f vs)

  name-same : (b : Bool) (name : MadeName) (f : Focus) (vs : List Value) → name_run w b name f vs ≡ name_run w b name (up f) vs
  name-same b name f vs =
      ap (λ q. template_run w name.name f vs >>= (λ text. q >>= (λ uri. given (result_name name.scope b uri text)))) (namespace-same name.namespace f vs)

  formatting-same : (n : NumberDecl) (f : Focus) (vs : List Value) → formatting_run w n f vs ≡ formatting_run w n (up f) vs
  formatting-same n f vs =
      ap (λ q. q >>= (λ format. optional_run w n.grouping_separator f vs >>= (λ separator. optional_run w n.grouping_size f vs >>=
      (λ size. give (record { format = format; group = group_in separator size }))))) (format-same n.format f vs)
      ∙ ap (λ q. format_run w n.format (up f) vs >>= (λ format. q >>= (λ separator. optional_run w n.grouping_size f vs >>=
      (λ size. give (record { format = format; group = group_in separator size }))))) (optional-same n.grouping_separator f vs)
      ∙ ap (λ q. format_run w n.format (up f) vs >>= (λ format. optional_run w n.grouping_separator (up f) vs >>= (λ separator. q >>=
      (λ size. give (record { format = format; group = group_in separator size }))))) (optional-same n.grouping_size f vs)

  number-same : (n : NumberDecl) (f : Focus) (vs : List Value) → number_run w n f vs ≡ number_run w n (up f) vs
  number-same n f vs =
      ap (λ q. q >>= (λ numbered. formatting_run w n f vs >>= (λ formatting. give (written numbered formatting)))) (numbered-same n.value n f vs)
      ∙ ap (λ q. numbered_by w n.value n (up f) vs >>= (λ numbered. q >>= (λ formatting. give (written numbered formatting)))) (formatting-same n f vs)

  -- ---- two callees that do the same with entries that use only names of a kind, where nothing is left to tasks
  module _ (alone : w.grain ≡ None) (P : Label → Type 0) (k l : Calls) where
    module _ (same : (e : Entry) → Fine P e → (p : Site) (f : Focus) → k e p f ≡ l e p (up f)) where
      no-grain : (f : Focus) (n : ℕ) → grain_over w f n ≡ None
      no-grain f n = by_test f.is_captured w.grain alone
        where
          by_test : (b : Bool) (g : Option ℕ) → g ≡ None → (if b then None else below n g) ≡ None
          by_test true g e = refl
          by_test false g e = ap (below n) e

      each-same : (p : Site) (x y : Focus → Trace Task) (f : Focus) → ((n i : ℕ) → x (at_node n i f) ≡ y (at_node n i (up f))) → (i : ℕ) (ns : List ℕ) →
          each p x f i ns ≡ each p y (up f) i ns
      each-same p x y f h i [] = refl
      each-same p x y f h i (n ∷ ns) =
          ap (λ t. Tick p ∷ t) (both (x (at_node n i f)) (y (at_node n i (up f))) (each p x f (i + 1) ns) (each p y (up f) (i + 1) ns) (h n i)
          (each-same p x y f h (i + 1) ns))

      spread-same : (job : Job) (p : Site) (x y : Focus → Trace Task) (f : Focus) (ns : List ℕ) →
          ((n i : ℕ) → x (at_node n i f) ≡ y (at_node n i (up f))) → spread w job p x f ns ≡ spread w job p y (up f) ns
      spread-same job p x y f ns h =
          ap (λ o. spread_by o job p x f ns) (no-grain f (length ns)) ∙ each-same p x y f h 1 ns
          ∙ ap (λ o. spread_by o job p y (up f) ns) (sym (no-grain (up f) (length ns)))

      rules-same : (mode : ℕ) (ps : Params) (p : Site) (f : Focus) (ns : List ℕ) → applied w k mode ps p f ns ≡ applied w l mode ps p (up f) ns
      rules-same mode ps p f ns =
          spread-same (rules_job mode ps) p (k (fitting mode ps) p) (l (fitting mode ps) p) (in_list (length ns) f) ns
          (λ n i. same (fitting mode ps) tt p (at_node n i (in_list (length ns) f)))

      imports-same : (p : Site) (f : Focus) (o : Option ℕ) → imports k p f o ≡ imports l p (up f) o
      imports-same p f None = refl
      imports-same p f (Some rule) = ap (λ t. Tick p ∷ t) (same (overridden rule) tt p f)

      element-same : (sets : List Label) (p : Site) (f : Focus) (x y : Trace Task) → Each P sets → x ≡ y →
          k (using sets) p f ⨾ (x ⨾ Put End ∷ []) ≡ l (using sets) p (up f) ⨾ (y ⨾ Put End ∷ [])
      element-same sets p f x y h e =
          both (k (using sets) p f) (l (using sets) p (up f)) (x ⨾ Put End ∷ []) (y ⨾ Put End ∷ []) (same (using sets) h p f) (ap (λ t. t ⨾ Put End ∷ []) e)

      copy-same : (kind : Kind) (sets : List Label) (p : Site) (f : Focus) (x y : Trace Task) → Each P sets → x ≡ y →
          copied_content kind sets k p f x ≡ copied_content kind sets l p (up f) y
      copy-same kind sets p f x y h e = by_tests (is_element_kind kind) (is_root_kind kind)
        where
          by_tests : (b c : Bool) →
              (if b then k (using sets) p f ⨾ (x ⨾ Put End ∷ []) else (if c then x else []))
              ≡ (if b then l (using sets) p (up f) ⨾ (y ⨾ Put End ∷ []) else (if c then y else []))
          by_tests true c = element-same sets p f x y h e
          by_tests false true = e
          by_tests false false = refl

      attributes-same : (pairs : List (Label × ValueTemplate)) (p : Site) (f : Focus) (vs : List Value) →
          literal_attributes pairs p w f vs ≡ literal_attributes pairs p w (up f) vs
      attributes-same [] p f vs = refl
      attributes-same (a ∷ others) p f vs =
          ap (λ t. evaluated p (template_run w a.1 f vs) (λ text. puts_all p (attribute_events (attribute_label w.sheet.aliases a.0) text)) ⨾ t)
          (attributes-same others p f vs)

      tested : (b : Bool) (x y u v : Trace Task) → x ≡ y → u ≡ v → (if b then x else u) ≡ (if b then y else v)
      tested true x y u v e o = e
      tested false x y u v e o = o

      mutual
        instr-same : (kind : InstrKind) (p : Site) (f : Focus) (vs : List Value) (x y : List Value → Trace Task) → Each P (kind_sets kind) →
            ((us : List Value) → x us ≡ y us) → instr_trace kind p w k f vs x ≡ instr_trace kind p w l (up f) vs y
        instr-same (ApplyTemplates nodes passed) p f vs x y h e =
            both (evaluated p (applied_nodes w nodes.select nodes.sorts f vs)
            (λ ns. passing passed p w k f vs (λ ps. called_with w k (by_rules nodes.mode ns) ps p f)))
            (evaluated p (applied_nodes w nodes.select nodes.sorts (up f) vs)
            (λ ns. passing passed p w l (up f) vs (λ ps. called_with w l (by_rules nodes.mode ns) ps p (up f)))) (x vs) (y vs)
            (run-same p (applied_nodes w nodes.select nodes.sorts f vs) (applied_nodes w nodes.select nodes.sorts (up f) vs)
            (λ ns. passing passed p w k f vs (λ ps. called_with w k (by_rules nodes.mode ns) ps p f))
            (λ ns. passing passed p w l (up f) vs (λ ps. called_with w l (by_rules nodes.mode ns) ps p (up f)))
            (applied-same nodes.select nodes.sorts f vs) (λ ns. passing-same passed p f vs (λ ps. called_with w k (by_rules nodes.mode ns) ps p f)
            (λ ps. called_with w l (by_rules nodes.mode ns) ps p (up f)) h (λ ps. rules-same nodes.mode ps p f ns))) (e vs)
        instr-same (CallTemplate template passed) p f vs x y h e =
            both (passing passed p w k f vs (λ ps. called_with w k (by_number template) ps p f))
            (passing passed p w l (up f) vs (λ ps. called_with w l (by_number template) ps p (up f))) (x vs) (y vs)
            (passing-same passed p f vs (λ ps. called_with w k (by_number template) ps p f) (λ ps. called_with w l (by_number template) ps p (up f)) h
            (λ ps. ap (λ t. Tick p ∷ t) (same (named template ps) tt p f))) (e vs)
        instr-same ApplyImports p f vs x y h e = both (imports k p f f.rule) (imports l p (up f) f.rule) (x vs) (y vs) (imports-same p f f.rule) (e vs)
        instr-same (ForEach select sorts body) p f vs x y h e =
            let here : List ℕ → Focus = λ ns. in_list (length ns) (without_rule f) in
            let run : List ℕ → Trace Task = λ ns. spread w (body_job body vs) p (λ g. body_trace body w k g vs) (here ns) ns in
            let other : List ℕ → Trace Task = λ ns. spread w (body_job body vs) p (λ g. body_trace body w l g vs) (up (here ns)) ns in
            both (evaluated p (looped_nodes w select sorts f vs) run) (evaluated p (looped_nodes w select sorts f vs) other) (x vs) (y vs)
            (run-same p (looped_nodes w select sorts f vs) (looped_nodes w select sorts f vs) run other refl
            (λ ns. spread-same (body_job body vs) p (λ g. body_trace body w k g vs) (λ g. body_trace body w l g vs) (here ns) ns
            (λ n i. body-same body (at_node n i (here ns)) vs h))) (e vs)
        instr-same (ValueOf select) p f vs x y h e = ap (λ t. evaluated p (text_run w select f vs) (chars p) ⨾ t) (e vs)
        instr-same (CopyOf select) p f vs x y h e =
            ap (λ t. evaluated p (value_run w select f vs) (λ v. puts_all p (value_events w.tree v)) ⨾ t) (e vs)
        instr-same (Copy sets body) p f vs x y h e =
            let kind = (at w.tree f.node).kind in
            let a = body_trace body w k f vs in
            let b = body_trace body w l (up f) vs in
            both (copied_node kind sets w k p f a) (copied_node kind sets w l p (up f) b) (x vs) (y vs)
            (ap (λ t. puts_all p (shallow_copy w.tree f.node) ⨾ t) (copy-same kind sets p f a b (each-front P sets (body_sets body) h)
            (body-same body f vs (each-back P sets (body_sets body) h)))) (e vs)
        instr-same (Number decl) p f vs x y h e =
            both (evaluated p (number_run w decl f vs) (chars p)) (evaluated p (number_run w decl (up f) vs) (chars p)) (x vs) (y vs)
            (ap (λ r. evaluated p r (chars p)) (number-same decl f vs)) (e vs)
        instr-same (Choose choice) p f vs x y h e =
            both (choice_trace choice p w k f vs) (choice_trace choice p w l (up f) vs) (x vs) (y vs) (choice-same choice p f vs h) (e vs)
        instr-same (If test body) p f vs x y h e =
            let a = body_trace body w k f vs in
            let b = body_trace body w l (up f) vs in
            both (evaluated p (test_run w test f vs) (λ t. if t then a else [])) (evaluated p (test_run w test f vs) (λ t. if t then b else [])) (x vs) (y vs)
            (run-same p (test_run w test f vs) (test_run w test f vs) (λ t. if t then a else []) (λ t. if t then b else []) refl
            (λ t. tested t a b [] [] (body-same body f vs h) refl)) (e vs)
        instr-same (Text text) p f vs x y h e = ap (λ t. chars p text ⨾ t) (e vs)
        instr-same (Element name sets body) p f vs x y h e =
            let a = body_trace body w k f vs in
            let b = body_trace body w l (up f) vs in
            let begun : Trace Task → Label → Trace Task = λ t label. Put (Start label) ∷ t in
            let inner = k (using sets) p f ⨾ (a ⨾ Put End ∷ []) in
            let outer = l (using sets) p (up f) ⨾ (b ⨾ Put End ∷ []) in
            both (evaluated p (name_run w false name f vs) (begun inner)) (evaluated p (name_run w false name (up f) vs) (begun outer)) (x vs) (y vs)
            (run-same p (name_run w false name f vs) (name_run w false name (up f) vs) (begun inner) (begun outer) (name-same false name f vs)
            (λ label. ap (λ t. Put (Start label) ∷ t) (element-same sets p f a b (each-front P sets (body_sets body) h)
            (body-same body f vs (each-back P sets (body_sets body) h))))) (e vs)
        instr-same (Attribute name body) p f vs x y h e =
            let a = body_trace body w k (captured_in f) vs in
            let b = body_trace body w l (up (captured_in f)) vs in
            both (evaluated p (name_run w true name f vs) (λ label. makes (made.Attribute label) p a))
            (evaluated p (name_run w true name (up f) vs) (λ label. makes (made.Attribute label) p b)) (x vs) (y vs)
            (run-same p (name_run w true name f vs) (name_run w true name (up f) vs) (λ label. makes (made.Attribute label) p a)
            (λ label. makes (made.Attribute label) p b) (name-same true name f vs)
            (λ label. ap (makes (made.Attribute label) p) (body-same body (captured_in f) vs h))) (e vs)
        instr-same (Comment body) p f vs x y h e =
            both (makes made.Comment p (body_trace body w k (captured_in f) vs)) (makes made.Comment p (body_trace body w l (up (captured_in f)) vs)) (x vs)
            (y vs)
            (ap (makes made.Comment p) (body-same body (captured_in f) vs h)) (e vs)
        instr-same (Pi name body) p f vs x y h e =
            let a = body_trace body w k (captured_in f) vs in
            let b = body_trace body w l (up (captured_in f)) vs in
            both (evaluated p (target_run w name f vs) (λ target. makes (made.Instruction target) p a))
            (evaluated p (target_run w name f vs) (λ target. makes (made.Instruction target) p b)) (x vs) (y vs)
            (run-same p (target_run w name f vs) (target_run w name f vs) (λ target. makes (made.Instruction target) p a)
            (λ target. makes (made.Instruction target) p b) refl
            (λ target. ap (makes (made.Instruction target) p) (body-same body (captured_in f) vs h))) (e vs)
        instr-same (Message terminate body) p f vs x y h e =
            let said : List Event → Trace Task = λ es. says p (fragment_text es) ⨾ ended_if terminate p in
            both (captured (body_trace body w k (captured_in f) vs) said) (captured (body_trace body w l (up (captured_in f)) vs) said) (x vs) (y vs)
            (ap (λ t. captured t said) (body-same body (captured_in f) vs h)) (e vs)
        instr-same (Variable' site name content) p f vs x y h e =
            content-same content p f vs (λ v. x (vs ++ v ∷ [])) (λ v. y (vs ++ v ∷ [])) h (λ v. e (vs ++ v ∷ []))
        instr-same (Literal start body) p f vs x y h e =
            let a = body_trace body w k f vs in
            let b = body_trace body w l (up f) vs in
            let attributes = literal_attributes start.attributes p w f vs in
            let others = literal_attributes start.attributes p w (up f) vs in
            let own = each-front P start.sets (body_sets body) h in
            let inner = each-back P start.sets (body_sets body) h in
            both (begins w start p ⨾ (k (using start.sets) p f ⨾ (attributes ⨾ (a ⨾ Put End ∷ []))))
            (begins w start p ⨾ (l (using start.sets) p (up f) ⨾ (others ⨾ (b ⨾ Put End ∷ [])))) (x vs) (y vs)
            (ap (λ t. begins w start p ⨾ t) (both (k (using start.sets) p f) (l (using start.sets) p (up f)) (attributes ⨾ (a ⨾ Put End ∷ []))
            (others ⨾ (b ⨾ Put End ∷ [])) (same (using start.sets) own p f) (both attributes others (a ⨾ Put End ∷ []) (b ⨾ Put End ∷ [])
            (attributes-same start.attributes p f vs) (ap (λ t. t ⨾ Put End ∷ []) (body-same body f vs inner))))) (e vs)
        instr-same (Extension fallbacks) p f vs x y h e =
            both (fallbacks_trace fallbacks p w k f vs) (fallbacks_trace fallbacks p w l (up f) vs) (x vs) (y vs) (fallbacks-same fallbacks p f vs h) (e vs)

        body-same : (body : Body) (f : Focus) (vs : List Value) → Each P (body_sets body) → body_trace body w k f vs ≡ body_trace body w l (up f) vs
        body-same (Body' n row) f vs h = row-same row f vs h

        row-same : {m : _} (row : Row_of-Instr m) (f : Focus) (vs : List Value) → Each P (instrs_sets row) → row_trace row w k f vs
            ≡ row_trace row w l (up f) vs
        row-same end_of-Instr f vs h = refl
        row-same (more_of-Instr p kind rest) f vs h =
            ap (λ t. Tick p ∷ t) (instr-same kind p f vs (row_trace rest w k f) (row_trace rest w l (up f)) (each-front P (kind_sets kind) (instrs_sets rest) h)
            (λ us. row-same rest f us (each-back P (kind_sets kind) (instrs_sets rest) h)))

        content-same : (content : Content) (p : Site) (f : Focus) (vs : List Value) (x y : Value → Trace Task) → Each P (content_sets content) →
            ((v : Value) → x v ≡ y v) → content_trace content p w k f vs x ≡ content_trace content p w l (up f) vs y
        content-same Empty p f vs x y h e = e (String [])
        content-same (Select s) p f vs x y h e = run-same p (value_run w s f vs) (value_run w s f vs) x y refl e
        content-same (Fragment body) p f vs x y h e =
            caught (body_trace body w k (captured_in f) vs) (body_trace body w l (up (captured_in f)) vs) (λ es. x (Piece (fragment_of es)))
            (λ es. y (Piece (fragment_of es))) (body-same body (captured_in f) vs h) (λ es. e (Piece (fragment_of es)))

        passing-same : (passed : Passed) (p : Site) (f : Focus) (vs : List Value) (x y : Params → Trace Task) → Each P (passed_sets passed) →
            ((ps : Params) → x ps ≡ y ps) → passing passed p w k f vs x ≡ passing passed p w l (up f) vs y
        passing-same (Passed' n row) p f vs x y h e =
            let params : List Value → Params = λ us. record { bindings = (out-Passed (Passed' n row)).params; values = us } in
            values-same row p f vs [] (λ us. x (params us)) (λ us. y (params us)) h (λ us. e (params us))

        values-same : {m : _} (row : Row_of-Binding m) (p : Site) (f : Focus) (vs us : List Value) (x y : List Value → Trace Task) →
            Each P (bindings_sets row) → ((ws : List Value) → x ws ≡ y ws) → values_trace row p w k f vs us x ≡ values_trace row p w l (up f) vs us y
        values-same end_of-Binding p f vs us x y h e = e us
        values-same (more_of-Binding site name content rest) p f vs us x y h e =
            content-same content p f vs (λ v. values_trace rest p w k f vs (us ++ v ∷ []) x) (λ v. values_trace rest p w l (up f) vs (us ++ v ∷ []) y)
            (each-front P (content_sets content) (bindings_sets rest) h)
            (λ v. values-same rest p f vs (us ++ v ∷ []) x y (each-back P (content_sets content) (bindings_sets rest) h) e)

        choice-same : (choice : Choice) (p : Site) (f : Focus) (vs : List Value) → Each P (choice_sets choice) →
            choice_trace choice p w k f vs ≡ choice_trace choice p w l (up f) vs
        choice-same (Choice' n row otherwise) p f vs h =
            whens-same row p f vs (body_trace otherwise w k f vs) (body_trace otherwise w l (up f) vs) (each-front P (whens_sets row) (body_sets otherwise) h)
            (body-same otherwise f vs (each-back P (whens_sets row) (body_sets otherwise) h))

        whens-same : {m : _} (row : Row_of-When m) (p : Site) (f : Focus) (vs : List Value) (x y : Trace Task) → Each P (whens_sets row) → x ≡ y →
            whens_trace row p w k f vs x ≡ whens_trace row p w l (up f) vs y
        whens-same end_of-When p f vs x y h e = e
        whens-same (more_of-When (When' test body) rest) p f vs x y h e =
            let a = body_trace body w k f vs in
            let b = body_trace body w l (up f) vs in
            let more = whens_trace rest p w k f vs x in
            let others = whens_trace rest p w l (up f) vs y in
            run-same p (test_run w test f vs) (test_run w test f vs) (λ t. if t then a else more) (λ t. if t then b else others) refl
            (λ t. tested t a b more others (body-same body f vs (each-front P (body_sets body) (whens_sets rest) h))
            (whens-same rest p f vs x y (each-back P (body_sets body) (whens_sets rest) h) e))

        fallbacks-same : (fallbacks : Fallbacks) (p : Site) (f : Focus) (vs : List Value) → Each P (fallbacks_sets fallbacks) →
            fallbacks_trace fallbacks p w k f vs ≡ fallbacks_trace fallbacks p w l (up f) vs
        fallbacks-same (Fallbacks' n row) p f vs h = ap (unless_none row p) (bodies-same row f vs h)

        bodies-same : {m : _} (row : Row_of-Body m) (f : Focus) (vs : List Value) → Each P (bodies_sets row) →
            bodies_trace row w k f vs ≡ bodies_trace row w l (up f) vs
        bodies-same end_of-Body f vs h = refl
        bodies-same (more_of-Body body rest) f vs h =
            both (body_trace body w k f vs) (body_trace body w l (up f) vs) (bodies_trace rest w k f vs) (bodies_trace rest w l (up f) vs)
            (body-same body f vs (each-front P (body_sets body) (bodies_sets rest) h))
            (bodies-same rest f vs (each-back P (body_sets body) (bodies_sets rest) h))

      own-same : (is : List Instr) (f : Focus) (vs : List Value) → Each P (flat_map (λ i. kind_sets i.kind) is) →
          instrs_trace is w k f vs ≡ instrs_trace is w l (up f) vs
      own-same [] f vs h = refl
      own-same (i ∷ is) f vs h =
          let others = flat_map (λ (j : Instr). kind_sets j.kind) is in
          ap (λ t. Tick i.site ∷ t) (instr-same i.kind i.site f vs (instrs_trace is w k f) (instrs_trace is w l (up f))
          (each-front P (kind_sets i.kind) others h)
          (λ us. own-same is f us (each-back P (kind_sets i.kind) others h)))

      set-same : (s : AttrSet) (f : Focus) → Each P (sets_of s) →
          k (using s.sets) s.site f ⨾ instrs_trace s.attributes w k f [] ≡ l (using s.sets) s.site (up f) ⨾ instrs_trace s.attributes w l (up f) []
      set-same s f h =
          let others = flat_map (λ (i : Instr). kind_sets i.kind) s.attributes in
          both (k (using s.sets) s.site f) (l (using s.sets) s.site (up f)) (instrs_trace s.attributes w k f []) (instrs_trace s.attributes w l (up f) [])
          (same (using s.sets) (each-front P s.sets others h) s.site f) (own-same s.attributes f [] (each-back P s.sets others h))

-- ---- level by level
last : (a b c : Bool) → (a && b && c) ≡ true → c ≡ true
last true true c h = h
last true false c h = absurd (true≢false (sym h))
last false b c h = absurd (true≢false (sym h))

module _ (w : World) (alone : w.grain ≡ None) where
  abbrev EndsAt : ℕ → Label → Type 0
  EndsAt n name = Ends w.sheet.sets n name

  none-declared : (ss : List AttrSet) (k : Calls) (f : Focus) → Each (Deep w.sheet.sets zero) ss → declared_trace ss w k f ≡ []
  none-declared [] k f h = refl
  none-declared (s ∷ ss) k f h = absurd h.0

  none-put : (names : List Label) (k : Calls) (f : Focus) → Each (EndsAt zero) names → sets_trace names w k f ≡ []
  none-put [] k f h = refl
  none-put (name ∷ names) k f h =
      both (declared_trace (declarations_of w.sheet.sets name) w k f) [] (sets_trace names w k f) []
      (none-declared (declarations_of w.sheet.sets name) k f h.0) (none-put names k f h.1)

  -- with so many levels, and with one more
  abbrev AreSame : ℕ → Type 0
  AreSame n = (names : List Label) → Each (EndsAt n) names → (d : ℕ) (p : Site) (f : Focus) →
      called (using names) w d n p f ≡ called (using names) w d (suc n) p f

  callee-same : (n : ℕ) → AreSame n → (d m : ℕ) (e : Entry) → Fine (EndsAt n) e → (p : Site) (f : Focus) →
      called e w d n p f ≡ called e w d (suc n) p (up w d m f)
  callee-same n h d m (using names) fine p f = h names fine d p f
  callee-same n h zero m (named i ps) fine p f = refl
  callee-same n h (suc d) m (named i ps) fine p f = refl
  callee-same n h zero m (fitting mode ps) fine p f = refl
  callee-same n h (suc d) m (fitting mode ps) fine p f = refl
  callee-same n h zero m (overridden rule) fine p f = refl
  callee-same n h (suc d) m (overridden rule) fine p f = refl

  module _ (n : ℕ) (h : AreSame n) (d : ℕ) where
    abbrev inner : Calls
    inner e = called e w d n

    abbrev outer : Calls
    outer e = called e w d (suc n)

    declared-step : (ss : List AttrSet) (f : Focus) → Each (Deep w.sheet.sets (suc n)) ss →
        declared_trace ss w inner f ≡ declared_trace ss w outer (up w d (suc n) f)
    declared-step [] f k = refl
    declared-step (s ∷ ss) f k =
        both (inner (using s.sets) s.site f ⨾ instrs_trace s.attributes w inner f [])
        (outer (using s.sets) s.site (up w d (suc n) f) ⨾ instrs_trace s.attributes w outer (up w d (suc n) f) []) (declared_trace ss w inner f)
        (declared_trace ss w outer (up w d (suc n) f))
        (set-same w d (suc n) alone (EndsAt n) inner outer (callee-same n h d (suc n)) s f k.0) (declared-step ss f k.1)

    sets-step : (names : List Label) (f : Focus) → Each (EndsAt (suc n)) names → sets_trace names w inner f ≡ sets_trace names w outer (up w d (suc n) f)
    sets-step [] f k = refl
    sets-step (name ∷ names) f k =
        both (declared_trace (declarations_of w.sheet.sets name) w inner f) (declared_trace (declarations_of w.sheet.sets name) w outer (up w d (suc n) f))
        (sets_trace names w inner f) (sets_trace names w outer (up w d (suc n) f)) (declared-step (declarations_of w.sheet.sets name) f k.0)
        (sets-step names f k.1)

  level-same : (n : ℕ) → AreSame n
  level-same zero names h d p f = sym (none-put names (λ e. called e w d zero) (with_levels d zero f) h)
  level-same (suc n) names h d p f = sets-step n (level-same n) d names (with_levels d n f) h

  pub levels-suffice : IsSound w.sheet → (names : List Label) (depth n : ℕ) (p : Site) (f : Focus) → all_set_levels w ≤ n →
      called (using names) w depth n p f ≡ called (using names) w depth (all_set_levels w) p f
  levels-suffice sound names depth n p f h = from n h
    where
      apart : (s : AttrSet) → In s w.sheet.sets → is_apart w.sheet.sets s ≡ true
      apart s i =
          in-all (set_is_sound (counts_of w.sheet) w.sheet.sets) (is_apart w.sheet.sets) w.sheet.sets sound.sets
          (λ x. last (site_stands (counts_of w.sheet) x.site) (list_all (attribute_stands (counts_of w.sheet)) x.attributes) (is_apart w.sheet.sets x)) s i

      from : (n : ℕ) → all_set_levels w ≤ n → called (using names) w depth n p f ≡ called (using names) w depth (all_set_levels w) p f
      from zero k = let e : zero ≡ all_set_levels w = omega (arith, k) in ap (λ m. called (using names) w depth m p f) e
      from (suc n) k = elim (at-most n (all_set_levels w) k) [
        | inl e ↦ ap (λ m. called (using names) w depth m p f) (sym e)
        | inr l ↦ sym (level-same n names (ends-at w.sheet.sets apart n l names) depth p f) ∙ from n l
      ]
