-- Events whose ends close what they begin: copies, starts, and events without either.
use Rattle.std.proofs.Common.{cond, ◌≡◌, ℕ, zero, suc, List, [], ◌∷◌, ◌++◌, Bool, true, false, refl, sym, ◌∙◌, ap, subst, append_assoc, length}
use Rattle.std.specs.List.{AllByRecursion, flat_map}
use Rattle.std.specs.Prelude.{◌/◌}
use Rattle.xs_trace.specs.Mark.{GoesOn, Trace, Put, events_of, ticks}
use Rattle.xs_trace.specs.Event.{text_of}
use Rattle.xs_trace.specs.declared.event.Event.{Event}
use Rattle.xs_trace.specs.declared.event.Event.TheVariants as event
use Rattle.xs_trace.specs.declared.item.Site.{Site}
use Rattle.xs_tree.specs.declared.kinds.Kind.{Kind}
use Rattle.xs_tree.specs.declared.kinds.Kind.TheVariants.{Root, Element, Attribute, Space, Text, Comment, Pi}
use Rattle.xs_tree.specs.Record.{Record, at, attributes, children, namespaces}
use Rattle.xs_making.specs.Copies.{attribute_events, copy_within, deep_copy, label_of, leaf_events, shallow_as, space_events, start_events, tag_events, whole_as}
use Rattle.xs_making.specs.Laws.{IsWellPut}
use Rattle.xs_result_laws.specs.Events.{is_balanced}
use Rattle.xs_body_spec.specs.Tasks.{Task}
use Rattle.xs_body_spec.specs.Trace.{puts, puts_all}
use Rattle.xs_result_laws.proofs.PutLemmas.{PutsBetween, events_then, levels}

abbrev pub Shifts : Bool → Bool → List Event → Type 0
Shifts a b es = (n : ℕ) (more : List Event) → is_balanced (levels a n) (es ++ more) ≡ is_balanced (levels b n) more

pub shifts_joined : (a b c : Bool) (xs ys : List Event) → Shifts a b xs → Shifts b c ys → Shifts a c (xs ++ ys)
shifts_joined a b c xs ys s t = λ n more. ap (is_balanced (levels a n)) (append_assoc xs ys more) ∙ s n (ys ++ more) ∙ t n more

-- neither a start nor an end
abbrev pub is_flat : Event → Bool
is_flat (event.Start name) = false
is_flat (event.Space prefix uri) = true
is_flat (event.Attr name value) = true
is_flat (event.Chars text) = true
is_flat event.End = false
is_flat (event.Comment text) = true
is_flat (event.Pi target value) = true

abbrev pub AreFlat : List Event → Type 0
AreFlat es = AllByRecursion (λ e. is_flat e ≡ true) es

flat_one : (e : Event) (n : ℕ) (more : List Event) → is_flat e ≡ true → is_balanced n (e ∷ more) ≡ is_balanced n more
unfolding is_balanced
flat_one (event.Start name) n more h = absurd (cc)
flat_one (event.Space prefix uri) n more h = refl
flat_one (event.Attr name value) n more h = refl
flat_one (event.Chars text) n more h = refl
flat_one event.End n more h = absurd (cc)
flat_one (event.Comment text) n more h = refl
flat_one (event.Pi target value) n more h = refl

pub flat_shifts : (a : Bool) (es : List Event) → AreFlat es → Shifts a a es
flat_shifts a [] h = λ n more. refl
flat_shifts a (e ∷ es) h = λ n more. flat_one e (levels a n) (es ++ more) h.0 ∙ flat_shifts a es h.1 n more

pub flat_joined : (xs ys : List Event) → AreFlat xs → AreFlat ys → AreFlat (xs ++ ys)
flat_joined [] ys a b = b
flat_joined (x ∷ xs) ys a b = (a.0, flat_joined xs ys a.1 b)

flat_each : (f : ℕ → List Event) (ns : List ℕ) → ((n : ℕ) → AreFlat (f n)) → AreFlat (flat_map f ns)
flat_each f [] h = tt
flat_each f (n ∷ ns) h = flat_joined (f n) (flat_map f ns) (h n) (flat_each f ns h)

pub flat_if : (t : Bool) (e : Event) → is_flat e ≡ true → AreFlat (cond t [] (e ∷ []))
flat_if true e h = tt
flat_if false e h = (h, tt)

-- ---- of a node
begin_shifts : (name : _) → Shifts false true (event.Start name ∷ [])
unfolding is_balanced
begin_shifts name = λ n more. refl

pub end_shifts : Shifts true false (event.End ∷ [])
unfolding is_balanced
end_shifts = λ n more. refl

pub start_shifts : (name : _) (es : List Event) → AreFlat es → Shifts false true (event.Start name ∷ es)
start_shifts name es h = shifts_joined false true true (event.Start name ∷ []) es (begin_shifts name) (flat_shifts true es h)

leaf_flat : (kind : Kind) (r : Record) → AreFlat (leaf_events kind r)
leaf_flat Root r = tt
leaf_flat Element r = tt
leaf_flat Attribute r = flat_if _ (event.Attr (label_of r) r.text) refl
leaf_flat Space r = flat_if _ (event.Space _ r.text) refl
leaf_flat Text r = flat_if _ (event.Chars r.text) refl
leaf_flat Comment r = (refl, tt)
leaf_flat Pi r = (refl, tt)

spaces_flat : (rs : List Record) (n : ℕ) → AreFlat (flat_map (λ k. space_events (at rs k)) (namespaces rs n))
spaces_flat rs n = flat_each (λ k. space_events (at rs k)) (namespaces rs n) (λ k. leaf_flat Space (at rs k))

tag_shifts : (rs : List Record) (n : ℕ) → Shifts false true (tag_events rs n)
tag_shifts rs n =
    shifts_joined false true true (start_events rs n) (flat_map (λ k. attribute_events (at rs k)) (attributes rs n))
    (start_shifts (label_of (at rs n)) (flat_map (λ k. space_events (at rs k)) (namespaces rs n)) (spaces_flat rs n))
    (flat_shifts true (flat_map (λ k. attribute_events (at rs k)) (attributes rs n))
    (flat_each (λ k. attribute_events (at rs k)) (attributes rs n) (λ k. leaf_flat Attribute (at rs k))))

-- what `xsl:copy` puts of a node before its content; of an element it is its start
abbrev pub is_begun : Kind → Bool
is_begun Root = false
is_begun Element = true
is_begun Attribute = false
is_begun Space = false
is_begun Text = false
is_begun Comment = false
is_begun Pi = false

pub shallow_shifts : (kind : Kind) (rs : List Record) (n : ℕ) → Shifts false (is_begun kind) (shallow_as kind rs n)
shallow_shifts Root rs n = λ k more. refl
shallow_shifts Element rs n = start_shifts (label_of (at rs n)) (flat_map (λ k. space_events (at rs k)) (namespaces rs n)) (spaces_flat rs n)
shallow_shifts Attribute rs n = flat_shifts false (leaf_events Attribute (at rs n)) (leaf_flat Attribute (at rs n))
shallow_shifts Space rs n = flat_shifts false (leaf_events Space (at rs n)) (leaf_flat Space (at rs n))
shallow_shifts Text rs n = flat_shifts false (leaf_events Text (at rs n)) (leaf_flat Text (at rs n))
shallow_shifts Comment rs n = flat_shifts false (leaf_events Comment (at rs n)) (leaf_flat Comment (at rs n))
shallow_shifts Pi rs n = flat_shifts false (leaf_events Pi (at rs n)) (leaf_flat Pi (at rs n))

deeper_shifts : (a : Bool) (es : List Event) → Shifts false false es → Shifts a a es
deeper_shifts a es s = λ n more. s (levels a n) more

pub each_shifts : (f : ℕ → List Event) (ns : List ℕ) → ((n : ℕ) → Shifts false false (f n)) → Shifts false false (flat_map f ns)
each_shifts f [] h = λ n more. refl
each_shifts f (n ∷ ns) h = shifts_joined false false false (f n) (flat_map f ns) (h n) (each_shifts f ns h)

whole_shifts : (kind : Kind) (rs : List Record) (n : ℕ) (inside : List Event) → Shifts false false inside → Shifts false false (whole_as kind rs n inside)
whole_shifts Root rs n inside s = s
whole_shifts Element rs n inside s =
    shifts_joined false true false (tag_events rs n) (inside ++ event.End ∷ []) (tag_shifts rs n)
    (shifts_joined true true false inside (event.End ∷ []) (deeper_shifts true inside s) end_shifts)
whole_shifts Attribute rs n inside s = flat_shifts false (leaf_events Attribute (at rs n)) (leaf_flat Attribute (at rs n))
whole_shifts Space rs n inside s = flat_shifts false (leaf_events Space (at rs n)) (leaf_flat Space (at rs n))
whole_shifts Text rs n inside s = flat_shifts false (leaf_events Text (at rs n)) (leaf_flat Text (at rs n))
whole_shifts Comment rs n inside s = flat_shifts false (leaf_events Comment (at rs n)) (leaf_flat Comment (at rs n))
whole_shifts Pi rs n inside s = flat_shifts false (leaf_events Pi (at rs n)) (leaf_flat Pi (at rs n))

within_shifts : (levels_left : ℕ) (rs : List Record) (n : ℕ) → Shifts false false (copy_within levels_left rs n)
unfolding copy_within
within_shifts zero rs n = λ k more. refl
within_shifts (suc m) rs n =
    whole_shifts (at rs n).kind rs n (flat_map (copy_within m rs) (children rs n)) (each_shifts (copy_within m rs) (children rs n) (λ k. within_shifts m rs k))

pub deep_shifts : (rs : List Record) (n : ℕ) → Shifts false false (deep_copy rs n)
unfolding deep_copy
deep_shifts rs n = within_shifts (length rs) rs n

-- ---- as they are put
put_events : {H : Type 0} (p : Site) (n : ℕ) (x : Trace H) → events_of (ticks p n x) ≡ events_of x
put_events p zero x = refl
put_events p (suc n) x = put_events p n x

ticks_go : {H : Type 0} (p : Site) (n : ℕ) (x : Trace H) → GoesOn x → GoesOn (ticks p n x)
ticks_go p zero x g = g
ticks_go p (suc n) x g = ticks_go p n x g

all_events : (p : Site) (es : List Event) → events_of (puts_all p es) ≡ es
all_events p [] = refl
all_events p (e ∷ es) =
    events_then (puts p e) (puts_all p es) (ticks_go p (length (text_of e) / 256) (Put e ∷ []) tt)
    ∙ ap (λ xs. xs ++ events_of (puts_all p es)) (put_events {H = Task} p (length (text_of e) / 256) (Put e ∷ []))
    ∙ ap (λ xs. e ∷ xs) (all_events p es)

pub all_put : {a b : Bool} (p : Site) (es : List Event) → AllByRecursion IsWellPut es → Shifts a b es → PutsBetween a b (puts_all p es)
all_put {a} p es h s = record {
  named = subst (AllByRecursion IsWellPut) (sym (all_events p es)) h;
  balanced = λ g n more. ap (λ xs. is_balanced (levels a n) (xs ++ more)) (all_events p es) ∙ s n more;
}

pub balanced_none : is_balanced 0 [] ≡ true
unfolding is_balanced
balanced_none = refl
