-- What is put and made step by step is what is said of it.
use Rattle.std.proofs.Common.{◌≡◌, ℕ, ◌==◌, length, List, [], ◌∷◌, Option, Some, None, Bool, true, false, cond, Result, Ok, Err}
use Rattle.std.proofs.Common.{refl, sym, ap, ◌∙◌, arith}
use Rattle.std.proofs.lemmas.Bool.Decides.{nat_tests}
use Rattle.xs_sheet.specs.declared.body.LiteralStart.{LiteralStart}
use Rattle.xs_sheet.specs.declared.body.MadeName.{MadeName}
use Rattle.xs_sheet.specs.declared.declarations.Alias.{Alias}
use Rattle.xs_sheet.specs.declared.scoped.ValueTemplate.{ValueTemplate}
use Rattle.xs_trace.specs.Label.{Label}
use Rattle.xs_trace.specs.Mark.{Trace}
use Rattle.xs_trace.specs.Run.{Run, Gives, Faults, give, limited, evaluated, ◌>>=◌}
use Rattle.xs_trace.specs.State.{State, popped, top}
use Rattle.xs_trace.specs.Play.{Goes, and_then, goes, put_at, play}
use Rattle.xs_trace.specs.declared.event.Event.{Event}
use Rattle.xs_trace.specs.declared.event.Event.TheVariants as event
use Rattle.xs_trace.specs.declared.event.Event.TheVariants.{Start, Chars}
use Rattle.xs_trace.specs.declared.fault.Fault.{Fault as RunFault}
use Rattle.xs_trace.specs.declared.item.Site.{Site}
use Rattle.xs_trace.proofs.GrowthLemmas.{Grows, grows-then, stops-grow, goes-grows, put_at-grows}
use Rattle.xs_trace.proofs.PlayLemmas.{then-same, then-goes, play-then, play-put}
use Rattle.xs_trace.proofs.RunLemmas.{limited-bind, limited-end, limited-grows, play-evaluated}
use Rattle.xs_tree.specs.Record.{Record}
use Rattle.xs_value.specs.declared.value.Value.{Value}
use Rattle.xs_value.specs.declared.value.Value.TheVariants as value
use Rattle.xs_value.specs.Conversion.{text_value}
use Rattle.xs_eval_spec.specs.Results.{given}
use Rattle.xs_making.specs.Copies.{deep_copy}
use Rattle.xs_making.specs.declared.ends.MakeEnd.TheVariants as end
use Rattle.xs_making.specs.Names.{pi_target, result_name}
use Rattle.xs_making.specs.Texts.{comment_text, instruction_text}
use Rattle.xs_making.proofs.PutLemmas.{events-both, events-grow}
use Rattle.xs_body_spec.specs.declared.focus.Focus.{Focus}
use Rattle.xs_body_spec.specs.declared.made.Made.{Made}
use Rattle.xs_body_spec.specs.declared.made.Made.TheVariants as made
use Rattle.xs_body_spec.specs.World.{World, template_run}
use Rattle.xs_body_spec.specs.Making.{aliased, attribute_events, attribute_label, content_text, element_label, literal_spaces, name_run, namespace_run}
use Rattle.xs_body_spec.specs.Making.{made_events, space_events, target_run, text_events, value_events}
use Rattle.xs_body_spec.specs.Tasks.{Task}
use Rattle.xs_body_spec.specs.Trace.{begins, literal_attributes, puts, puts_all}
use Rattle.xs_body.specs.steps.Making.{attribute_steps, attributes_steps, chars_steps, copy_steps, literal_steps, made_at}
use Rattle.xs_making.specs.Putting.{events_steps}
use Rattle.xs_body.specs.steps.Making.{is_declaration, is_unbound, made_ended, made_steps, name_steps, named_steps, namespace_steps, nodes_steps}
use Rattle.xs_body.specs.steps.Making.{outcome_steps, space_steps, spaces_steps, target_steps}

-- ---- events
pub events-reported : (p : Site) (es : List Event) (s : State Task) → events_steps p es s ≡ play (puts_all p es) s
events-reported p [] s = refl
events-reported p (e ∷ es) s =
    ap (λ g. and_then g (λ u m. events_steps p es m)) (play-put p e s)
    ∙ then-same (play (puts p e) s) (λ u m. events_steps p es m) (λ u m. play (puts_all p es) m) (λ u m. events-reported p es m)
    ∙ sym (play-then (puts p e) (puts_all p es) s)

event-reported : (p : Site) (e : Event) (s : State Task) → put_at p e s ≡ events_steps p (e ∷ []) s
event-reported p e s = sym (then-goes (put_at p e s))

space-reported : (p : Site) (prefix uri : List ℕ) (s : State Task) → space_steps p prefix uri s ≡ events_steps p (space_events prefix uri) s
space-reported p prefix uri s = by_test (is_unbound uri)
  where
    by_test : (b : Bool) → cond b (goes s) (put_at p (event.Space prefix uri) s) ≡ events_steps p (cond b [] (event.Space prefix uri ∷ [])) s
    by_test true = refl
    by_test false = event-reported p (event.Space prefix uri) s

named-reported : (p : Site) (name : Label) (value : List ℕ) (s : State Task) → named_steps p name value s ≡ events_steps p (attribute_events name value) s
named-reported p name value s = by_test (is_declaration name)
  where
    by_test : (b : Bool) → cond b (goes s) (put_at p (event.Attr name value) s) ≡ events_steps p (cond b [] (event.Attr name value ∷ [])) s
    by_test true = refl
    by_test false = event-reported p (event.Attr name value) s

made-put : (m : Made) (text : List ℕ) (p : Site) (s : State Task) → made_steps m text p s ≡ events_steps p (made_events m text) s
made-put (made.Attribute name) text p s = named-reported p name text s
made-put made.Comment text p s = event-reported p (event.Comment (comment_text text)) s
made-put (made.Instruction target) text p s = event-reported p (event.Pi target (instruction_text text)) s

pub made-reported : (m : Made) (text : List ℕ) (p : Site) (s : State Task) → made_steps m text p s ≡ play (puts_all p (made_events m text)) s
made-reported m text p s = made-put m text p s ∙ events-reported p (made_events m text) s

pub ended-reported : (m : Made) (p : Site) (s : State Task) → made_ended m p s ≡ play (puts_all p (made_at m s)) (popped s)
ended-reported m p s = made-reported m (content_text (top s.captures)) p (popped s)

text-reported : (p : Site) (t : List ℕ) (s : State Task) → chars_steps p t s ≡ events_steps p (text_events t) s
text-reported p [] s = refl
text-reported p (b ∷ bs) s =
    let q : (length (b ∷ bs) == 0) ≡ false = grind (arith, nat_tests) in
    ap (λ x. cond x (goes s) (put_at p (Chars (b ∷ bs)) s)) q ∙ event-reported p (Chars (b ∷ bs)) s

-- ---- literal elements
spaces-reported : (ls : List Alias) (p : Site) (xs : List (List ℕ × List ℕ)) (s : State Task) →
    spaces_steps ls p xs s ≡ events_steps p (literal_spaces ls xs) s
spaces-reported ls p [] s = refl
spaces-reported ls p (x ∷ xs) s =
    ap (λ g. and_then g (λ u m. spaces_steps ls p xs m)) (space-reported p x.0 (aliased ls x.1) s)
    ∙ then-same (events_steps p (space_events x.0 (aliased ls x.1)) s) (λ u m. spaces_steps ls p xs m) (λ u m. events_steps p (literal_spaces ls xs) m)
    (λ u m. spaces-reported ls p xs m)
    ∙ sym (events-both p (space_events x.0 (aliased ls x.1)) (literal_spaces ls xs) s)

pub literal-reported : (w : World) (p : Site) (start : LiteralStart) (s : State Task) → literal_steps w.sheet.aliases p start s ≡ play (begins w start p) s
literal-reported w p start s =
    let ls : List Alias = w.sheet.aliases in
    let e : Event = Start (element_label ls start.name) in
    then-same (put_at p e s) (λ u m. spaces_steps ls p start.spaces m) (λ u m. events_steps p (literal_spaces ls start.spaces) m)
    (λ u m. spaces-reported ls p start.spaces m)
    ∙ events-reported p (e ∷ literal_spaces ls start.spaces) s

attribute-reported : (w : World) (p : Site) (f : Focus) (vs : List Value) (a : Label × ValueTemplate) (s : State Task) →
    attribute_steps w p f vs a s
    ≡ play (evaluated p (template_run w a.1 f vs) (λ text. puts_all p (attribute_events (attribute_label w.sheet.aliases a.0) text))) s
attribute-reported w p f vs a s =
    let es : List ℕ → List Event = λ text. attribute_events (attribute_label w.sheet.aliases a.0) text in
    let r : Run (List ℕ) = template_run w a.1 f vs in
    let name : Label = attribute_label w.sheet.aliases a.0 in
    then-same (limited p r s) (λ text m. named_steps p name text m) (λ text m. play (puts_all p (es text)) m)
    (λ text m. named-reported p name text m ∙ events-reported p (es text) m)
    ∙ sym (play-evaluated p r (λ text. puts_all p (es text)) s)

pub attributes-reported : (w : World) (p : Site) (f : Focus) (vs : List Value) (xs : List (Label × ValueTemplate)) (s : State Task) →
    attributes_steps w p f vs xs s ≡ play (literal_attributes xs p w f vs) s
attributes-reported w p f vs [] s = refl
attributes-reported w p f vs (a ∷ xs) s =
    let x : Trace Task = evaluated p (template_run w a.1 f vs) (λ text. puts_all p (attribute_events (attribute_label w.sheet.aliases a.0) text)) in
    ap (λ g. and_then g (λ u m. attributes_steps w p f vs xs m)) (attribute-reported w p f vs a s)
    ∙ then-same (play x s) (λ u m. attributes_steps w p f vs xs m) (λ u m. play (literal_attributes xs p w f vs) m)
    (λ u m. attributes-reported w p f vs xs m)
    ∙ sym (play-then x (literal_attributes xs p w f vs) s)

-- ---- copies
nodes-reported : (rs : List Record) (p : Site) (ns : List ℕ) (s : State Task) → nodes_steps rs p ns s ≡ events_steps p (value_events rs (value.Nodes ns)) s
nodes-reported rs p [] s = refl
nodes-reported rs p (n ∷ ns) s =
    then-same (events_steps p (deep_copy rs n) s) (λ u m. nodes_steps rs p ns m) (λ u m. events_steps p (value_events rs (value.Nodes ns)) m)
    (λ u m. nodes-reported rs p ns m)
    ∙ sym (events-both p (deep_copy rs n) (value_events rs (value.Nodes ns)) s)

pub copy-reported : (rs : List Record) (p : Site) (v : Value) (s : State Task) → copy_steps rs p v s ≡ play (puts_all p (value_events rs v)) s
copy-reported rs p (value.Nodes ns) s = nodes-reported rs p ns s ∙ events-reported p (value_events rs (value.Nodes ns)) s
copy-reported rs p (value.Piece es) s = events-reported p es s
copy-reported rs p (value.Chars t) s = text-reported p t s ∙ events-reported p (text_events t) s
copy-reported rs p (value.Bool b) s =
    let t : List ℕ = text_value rs (value.Bool b) in text-reported p t s ∙ events-reported p (text_events t) s
copy-reported rs p (value.Number n) s =
    let t : List ℕ = text_value rs (value.Number n) in text-reported p t s ∙ events-reported p (text_events t) s

-- ---- names
outcome-reported : {A : Type 0} (p : Site) (r : Result A RunFault) (s : State Task) → outcome_steps p r s ≡ limited p (given r) s
outcome-reported p (Ok x) s = sym (limited-end p (Gives x) s)
outcome-reported p (Err f) s = sym (limited-end p (Faults f) s)

namespace-reported : (w : World) (p : Site) (f : Focus) (vs : List Value) (o : Option ValueTemplate) (s : State Task) →
    namespace_steps w p f vs o s ≡ limited p (namespace_run w o f vs) s
namespace-reported w p f vs None s = sym (limited-end p (Gives None) s)
namespace-reported w p f vs (Some v) s =
    then-same (limited p (template_run w v f vs) s) (λ uri m. Goes (Some uri) m) (λ uri m. limited p (give (Some uri)) m)
    (λ uri m. sym (limited-end p (Gives (Some uri)) m))
    ∙ sym (limited-bind p (template_run w v f vs) (λ uri. give (Some uri)) s)

pub name-reported : (w : World) (p : Site) (f : Focus) (vs : List Value) (b : Bool) (name : MadeName) (s : State Task) →
    name_steps w p f vs b name s ≡ limited p (name_run w b name f vs) s
name-reported w p f vs b name s =
    let r : Run (List ℕ) = template_run w name.name f vs in
    let named : List ℕ → Option (List ℕ) → Result Label RunFault = λ text uri. result_name name.scope b uri text in
    let rest : List ℕ → Run Label = λ text. namespace_run w name.namespace f vs >>= (λ uri. given (named text uri)) in
    then-same (limited p r s) (λ text m. and_then (namespace_steps w p f vs name.namespace m) (λ uri n. outcome_steps p (named text uri) n))
    (λ text m. limited p (rest text) m) (λ text m.
    ap (λ g. and_then g (λ uri n. outcome_steps p (named text uri) n)) (namespace-reported w p f vs name.namespace m)
    ∙ then-same (limited p (namespace_run w name.namespace f vs) m) (λ uri n. outcome_steps p (named text uri) n)
    (λ uri n. limited p (given (named text uri)) n) (λ uri n. outcome-reported p (named text uri) n)
    ∙ sym (limited-bind p (namespace_run w name.namespace f vs) (λ uri. given (named text uri)) m))
    ∙ sym (limited-bind p r rest s)

pub target-reported : (w : World) (p : Site) (f : Focus) (vs : List Value) (name : ValueTemplate) (s : State Task) →
    target_steps w p f vs name s ≡ limited p (target_run w name f vs) s
target-reported w p f vs name s =
    let r : Run (List ℕ) = template_run w name f vs in
    then-same (limited p r s) (λ text m. outcome_steps p (pi_target text) m) (λ text m. limited p (given (pi_target text)) m)
    (λ text m. outcome-reported p (pi_target text) m)
    ∙ sym (limited-bind p r (λ text. given (pi_target text)) s)

-- ---- what was reported stays
pub space-grows : {H : Type 0} → (p : Site) (prefix uri : List ℕ) → Grows {H = H} (space_steps p prefix uri)
space-grows {H = H} p prefix uri = by_test (is_unbound uri)
  where
    by_test : (b : Bool) → Grows {H = H} {A = Unit {0}} (λ s. cond b (goes s) (put_at p (event.Space prefix uri) s))
    by_test true s = goes-grows tt s
    by_test false s = put_at-grows p (event.Space prefix uri) s

pub named-grows : {H : Type 0} → (p : Site) (name : Label) (value : List ℕ) → Grows {H = H} (named_steps p name value)
named-grows {H = H} p name value = by_test (is_declaration name)
  where
    by_test : (b : Bool) → Grows {H = H} {A = Unit {0}} (λ s. cond b (goes s) (put_at p (event.Attr name value) s))
    by_test true s = goes-grows tt s
    by_test false s = put_at-grows p (event.Attr name value) s

pub spaces-grow : {H : Type 0} → (ls : List Alias) (p : Site) (xs : List (List ℕ × List ℕ)) → Grows {H = H} (spaces_steps ls p xs)
spaces-grow ls p [] s = goes-grows tt s
spaces-grow ls p (x ∷ xs) s =
    grows-then s (space_steps p x.0 (aliased ls x.1) s) (λ u m. spaces_steps ls p xs m) (space-grows p x.0 (aliased ls x.1) s)
    (λ u. spaces-grow ls p xs)

pub literal-grows : {H : Type 0} → (ls : List Alias) (p : Site) (start : LiteralStart) → Grows {H = H} (literal_steps ls p start)
literal-grows ls p start s =
    grows-then s (put_at p (Start (element_label ls start.name)) s) (λ u m. spaces_steps ls p start.spaces m)
    (put_at-grows p (Start (element_label ls start.name)) s) (λ u. spaces-grow ls p start.spaces)

pub attributes-grow : {H : Type 0} → (w : World) (p : Site) (f : Focus) (vs : List Value) (xs : List (Label × ValueTemplate)) →
    Grows {H = H} (attributes_steps w p f vs xs)
attributes-grow w p f vs [] s = goes-grows tt s
attributes-grow w p f vs (a ∷ xs) s =
    let name : Label = attribute_label w.sheet.aliases a.0 in
    grows-then s (attribute_steps w p f vs a s) (λ u m. attributes_steps w p f vs xs m)
    (grows-then s (limited p (template_run w a.1 f vs) s) (λ text m. named_steps p name text m) (limited-grows p _ s) (λ text. named-grows p name text))
    (λ u. attributes-grow w p f vs xs)

pub nodes-grow : {H : Type 0} → (rs : List Record) (p : Site) (ns : List ℕ) → Grows {H = H} (nodes_steps rs p ns)
nodes-grow rs p [] s = goes-grows tt s
nodes-grow rs p (n ∷ ns) s =
    grows-then s (events_steps p (deep_copy rs n) s) (λ u m. nodes_steps rs p ns m) (events-grow p (deep_copy rs n) s) (λ u. nodes-grow rs p ns)

pub text-grows : {H : Type 0} → (p : Site) (t : List ℕ) → Grows {H = H} (chars_steps p t)
text-grows {H = H} p t = by_test (length t == 0)
  where
    by_test : (b : Bool) → Grows {H = H} {A = Unit {0}} (λ s. cond b (goes s) (put_at p (Chars t) s))
    by_test true s = goes-grows tt s
    by_test false s = put_at-grows p (Chars t) s

pub copies-grow : {H : Type 0} → (rs : List Record) (p : Site) (v : Value) → Grows {H = H} (copy_steps rs p v)
copies-grow rs p (value.Nodes ns) = nodes-grow rs p ns
copies-grow rs p (value.Piece es) = events-grow p es
copies-grow rs p (value.Chars t) = text-grows p t
copies-grow rs p (value.Bool b) = text-grows p (text_value rs (value.Bool b))
copies-grow rs p (value.Number n) = text-grows p (text_value rs (value.Number n))

pub outcome-grows : {H A : Type 0} → (p : Site) (r : Result A RunFault) → Grows {H = H} (outcome_steps p r)
outcome-grows p (Ok x) = goes-grows x
outcome-grows p (Err f) = stops-grow _

pub namespace-grows : {H : Type 0} → (w : World) (p : Site) (f : Focus) (vs : List Value) (o : Option ValueTemplate) →
    Grows {H = H} (namespace_steps w p f vs o)
namespace-grows w p f vs None s = goes-grows None s
namespace-grows w p f vs (Some v) s =
    grows-then s (limited p (template_run w v f vs) s) (λ uri m. Goes (Some uri) m) (limited-grows p _ s) (λ uri. goes-grows (Some uri))

pub name-grows : {H : Type 0} → (w : World) (p : Site) (f : Focus) (vs : List Value) (b : Bool) (name : MadeName) →
    Grows {H = H} (name_steps w p f vs b name)
name-grows w p f vs b name s =
    let named : List ℕ → Option (List ℕ) → Result Label RunFault = λ text uri. result_name name.scope b uri text in
    grows-then s (limited p (template_run w name.name f vs) s)
    (λ text m. and_then (namespace_steps w p f vs name.namespace m) (λ uri n. outcome_steps p (named text uri) n)) (limited-grows p _ s) (λ text m.
    grows-then m (namespace_steps w p f vs name.namespace m) (λ uri n. outcome_steps p (named text uri) n) (namespace-grows w p f vs name.namespace m)
    (λ uri. outcome-grows p (named text uri)))

pub target-grows : {H : Type 0} → (w : World) (p : Site) (f : Focus) (vs : List Value) (name : ValueTemplate) →
    Grows {H = H} (target_steps w p f vs name)
target-grows w p f vs name s =
    grows-then s (limited p (template_run w name f vs) s) (λ text m. outcome_steps p (pi_target text) m) (limited-grows p _ s)
    (λ text. outcome-grows p (pi_target text))
