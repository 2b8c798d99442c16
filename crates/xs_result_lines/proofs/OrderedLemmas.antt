-- A start tag whose namespace nodes come in the order of their prefixes binds what they say.
use Rattle.std.proofs.Common.{◌≡◌, ℕ, Bool, true, false, if◌then◌else◌, List, [], ◌∷◌, ◌++◌, Some, is_some, cond, refl, sym, ◌∙◌, ap, subst, unwrap_or}
use Rattle.std.specs.Prelude.{◌&&◌, filter, not}
use Rattle.std.specs.BTreeMap.{insert_entry, is_at}
use Rattle.std.specs.List.{cons_option}
use Rattle.std.specs.Ordering.{is_eq, is_lt, match_ordering, ordering_reverse}
use Rattle.std.specs.Str.{bytes_eq}
use Rattle.std.specs.declared.cmp.Ordering.{Ordering}
use Rattle.std.specs.declared.cmp.Ordering.TheVariants.{Less, Equal, Greater}
use Rattle.std.proofs.lemmas.Bool.{and_parts}
use Rattle.std.proofs.lemmas.Cmp.{nat_list_cmp_total}
use Rattle.std.proofs.lemmas.List.{append-nil}
use Rattle.std.proofs.lemmas.Slice.Eq.{bytes_eq-Decides}
use Rattle.xs_result.specs.Built.{is_empty}
use Rattle.xs_trace.specs.Label.{Label}
use Rattle.xs_trace.specs.declared.event.Event.{Event}
use Rattle.xs_trace.specs.declared.event.Event.TheVariants.{Start, Space, Attr, Chars, End, Comment, Pi}
use Rattle.xs_result_lines.specs.Bindings.{Binding, added, bindings_before, is_in_tag, needs_prefix, order_of_prefixes, space_of, spaces_in, uri_in, with_spaces}
use Rattle.xs_result_lines.specs.steps.Bound.{keep_own, may_keep}
use Rattle.xs_result_lines.specs.steps.InForce.{is_in_force, keeps_own}
use Rattle.xs_result_lines.specs.steps.Ordered.{are_ordered, begins_with_attribute, follows, has_space, keep_among, keeps_among, may_keep_among}
use Rattle.xs_result_lines.proofs.OrderLemmas.{at_itself, uri_in-first}
use Rattle.xs_result_lines.proofs.TableLemmas.{AllAfter, Rises, after_twice}
use Rattle.xs_result_lines.proofs.TagLemmas.{spaces-first, spaces-past}

-- ---- bindings in the order of their prefixes
is_less : (o : Ordering) → is_lt o ≡ true → o ≡ Less
is_less Less h = refl
is_less Equal h = absurd (cc)
is_less Greater h = absurd (cc)

greater : (p q : List ℕ) → order_of_prefixes q p ≡ Less → order_of_prefixes p q ≡ Greater
greater p q h = nat_list_cmp_total.antisymm p q ∙ ap ordering_reverse h

-- a binding before those that are added stays the first
missed : (d : Binding) (m : List Binding) (p : List ℕ) → order_of_prefixes d.0 p ≡ Less → uri_in (d ∷ m) p ≡ uri_in m p
missed d m p less = uri_in-first d m p ∙ ap (λ o. cond (is_eq o) (Some d.1) (uri_in m p)) less

added-behind : (d : Binding) (m : List Binding) (b : Binding) → order_of_prefixes d.0 b.0 ≡ Less → added (d ∷ m) b ≡ d ∷ added m b
added-behind d m b less =
    ap (λ o. if is_some o then d ∷ m else insert_entry order_of_prefixes (d ∷ m) b.0 b.1) (missed d m b.0 less)
    ∙ ap (λ o. if is_some (uri_in m b.0) then d ∷ m
    else match_ordering o ((b.0, b.1) ∷ d ∷ m) ((d.0, b.1) ∷ m) (d ∷ insert_entry order_of_prefixes m b.0 b.1)) (greater b.0 d.0 less)
    ∙ by_test (is_some (uri_in m b.0))
  where
    by_test : (t : Bool) → (if t then d ∷ m else d ∷ insert_entry order_of_prefixes m b.0 b.1)
        ≡ d ∷ (if t then m else insert_entry order_of_prefixes m b.0 b.1)
    by_test true = refl
    by_test false = refl

head-stays : (d : Binding) (m bs : List Binding) → AllAfter d.0 bs → with_spaces (d ∷ m) bs ≡ d ∷ with_spaces m bs
unfolding with_spaces
head-stays d m [] h = refl
head-stays d m (b ∷ bs) h = ap (λ n. with_spaces n bs) (added-behind d m b h.0) ∙ head-stays d (added m b) bs h.1

alone : (bs : List Binding) → Rises bs → with_spaces [] bs ≡ bs
unfolding with_spaces uri_in
alone [] h = refl
alone (b ∷ bs) h = head-stays b [] bs h.0 ∙ ap (λ xs. b ∷ xs) (alone bs h.1)

-- a binding among them
unfoldable among : List ℕ → List ℕ → List Binding → Bool
among p uri [] = false
among p uri (b ∷ bs) = if bytes_eq b.0 p && bytes_eq b.1 uri then true else among p uri bs

same : (a b : List ℕ) → bytes_eq a b ≡ true → a ≡ b
same a b h = (bytes_eq-Decides a b).0 h

before-it : (q p uri : List ℕ) (bs : List Binding) → AllAfter q bs → among p uri bs ≡ true → order_of_prefixes q p ≡ Less
unfolding among
before-it q p uri [] after h = absurd (cc)
before-it q p uri (b ∷ bs) after h = by_test (bytes_eq b.0 p && bytes_eq b.1 uri) refl h (λ g. before-it q p uri bs after.1 g)
  where
    by_test : (t : Bool) → (bytes_eq b.0 p && bytes_eq b.1 uri) ≡ t → (if t then true else among p uri bs) ≡ true
        → (among p uri bs ≡ true → order_of_prefixes q p ≡ Less) → order_of_prefixes q p ≡ Less
    by_test true is g later = subst (λ x. order_of_prefixes q x ≡ Less) (same b.0 p (and_parts (bytes_eq b.0 p) (bytes_eq b.1 uri) is).0) after.0
    by_test false is g later = later g

itself-again : (b : Binding) → added (b ∷ []) b ≡ b ∷ []
itself-again b =
    ap (λ o. if is_some o then b ∷ [] else insert_entry order_of_prefixes (b ∷ []) b.0 b.1)
    (uri_in-first b [] b.0 ∙ ap (λ t. cond t (Some b.1) (uri_in [] b.0)) (at_itself b.0))

added-before : (b own : Binding) → order_of_prefixes b.0 own.0 ≡ Less → added (own ∷ []) b ≡ b ∷ own ∷ []
unfolding uri_in
added-before b own less =
    ap (λ o. if is_some o then own ∷ [] else insert_entry order_of_prefixes (own ∷ []) b.0 b.1)
    (uri_in-first own [] b.0 ∙ ap (λ o. cond (is_eq o) (Some own.1) (uri_in [] b.0)) (greater own.0 b.0 less))
    ∙ ap (λ o. match_ordering o ((b.0, b.1) ∷ own ∷ []) ((own.0, b.1) ∷ []) (own ∷ insert_entry order_of_prefixes [] b.0 b.1)) less

own-among : (own : Binding) (bs : List Binding) → Rises bs → among own.0 own.1 bs ≡ true → with_spaces (own ∷ []) bs ≡ bs
unfolding with_spaces among
own-among own [] rises h = absurd (cc)
own-among own (b ∷ bs) rises h = by_test (bytes_eq b.0 own.0 && bytes_eq b.1 own.1) refl h (λ g. own-among own bs rises.1 g)
  where
    by_test : (t : Bool) → (bytes_eq b.0 own.0 && bytes_eq b.1 own.1) ≡ t → (if t then true else among own.0 own.1 bs) ≡ true
        → (among own.0 own.1 bs ≡ true → with_spaces (own ∷ []) bs ≡ bs) → with_spaces (added (own ∷ []) b) bs ≡ b ∷ bs
    by_test true is g later =
        let parts = and_parts (bytes_eq b.0 own.0) (bytes_eq b.1 own.1) is in
        let one : b ≡ own = ap (λ x. (x, b.1)) (same b.0 own.0 parts.0) ∙ ap (λ x. (own.0, x)) (same b.1 own.1 parts.1) in
        ap (λ x. with_spaces (added (x ∷ []) b) bs) (sym one) ∙ ap (λ n. with_spaces n bs) (itself-again b)
        ∙ head-stays b [] bs rises.0 ∙ ap (λ xs. b ∷ xs) (alone bs rises.1)
    by_test false is g later =
        ap (λ n. with_spaces n bs) (added-before b own (before-it b.0 own.0 own.1 bs rises.0 g))
        ∙ head-stays b (own ∷ []) bs rises.0 ∙ ap (λ xs. b ∷ xs) (later g)

bound-there : (p uri : List ℕ) (bs : List Binding) → Rises bs → among p uri bs ≡ true → uri_in bs p ≡ Some uri
unfolding among
bound-there p uri [] rises h = absurd (cc)
bound-there p uri (b ∷ bs) rises h = by_test (bytes_eq b.0 p && bytes_eq b.1 uri) refl h (λ g. bound-there p uri bs rises.1 g)
  where
    by_test : (t : Bool) → (bytes_eq b.0 p && bytes_eq b.1 uri) ≡ t → (if t then true else among p uri bs) ≡ true
        → (among p uri bs ≡ true → uri_in bs p ≡ Some uri) → uri_in (b ∷ bs) p ≡ Some uri
    by_test true is g later =
        let parts = and_parts (bytes_eq b.0 p) (bytes_eq b.1 uri) is in
        uri_in-first b bs p
        ∙ ap (λ t. cond t (Some b.1) (uri_in bs p)) (ap (λ x. is_at (order_of_prefixes b.0) x) (sym (same b.0 p parts.0)) ∙ at_itself b.0)
        ∙ ap (λ x. Some x) (same b.1 uri parts.1)
    by_test false is g later = missed b bs p (before-it b.0 p uri bs rises.0 g) ∙ later g

-- ---- the namespace nodes of such a tag
pub none_in : spaces_in [] ≡ []
unfolding spaces_in
none_in = refl

no-spaces : (es : List Event) → begins_with_attribute es ≡ true → are_ordered es ≡ true → spaces_in es ≡ []
unfolding are_ordered
no-spaces [] first h = none_in
no-spaces (Attr name value ∷ es) first h =
    let parts = and_parts (begins_with_attribute es) (are_ordered es) h in
    spaces-first (Attr name value) es refl ∙ no-spaces es parts.0 parts.1
no-spaces (Space prefix uri ∷ es) first h = absurd (cc)
no-spaces (Start name ∷ es) first h = absurd (cc)
no-spaces (Chars text ∷ es) first h = absurd (cc)
no-spaces (End ∷ es) first h = absurd (cc)
no-spaces (Comment text ∷ es) first h = absurd (cc)
no-spaces (Pi target value ∷ es) first h = absurd (cc)

all-follow : (prefix : List ℕ) (es : List Event) → follows prefix es ≡ true → are_ordered es ≡ true → Rises (spaces_in es) → AllAfter prefix (spaces_in es)
unfolding are_ordered
all-follow prefix [] first h rises = subst (AllAfter prefix) (sym (no-spaces [] refl h)) tt
all-follow prefix (Space other uri ∷ es) first h rises =
    let is = spaces-first (Space other uri) es refl in
    let more : Rises ((other, uri) ∷ spaces_in es) = subst Rises is rises in
    let less = is_less (order_of_prefixes prefix other) first in
    subst (AllAfter prefix) (sym is) (less, after_twice prefix (other, uri) (spaces_in es) less more.0)
all-follow prefix (Attr name value ∷ es) first h rises = subst (AllAfter prefix) (sym (no-spaces (Attr name value ∷ es) refl h)) tt
all-follow prefix (Start name ∷ es) first h rises = absurd (cc)
all-follow prefix (Chars text ∷ es) first h rises = absurd (cc)
all-follow prefix (End ∷ es) first h rises = absurd (cc)
all-follow prefix (Comment text ∷ es) first h rises = absurd (cc)
all-follow prefix (Pi target value ∷ es) first h rises = absurd (cc)

rises-spaces : (es : List Event) → are_ordered es ≡ true → Rises (spaces_in es)
unfolding are_ordered
rises-spaces [] h = subst Rises (sym (no-spaces [] refl h)) tt
rises-spaces (Space prefix uri ∷ es) h =
    let parts = and_parts (follows prefix es) (are_ordered es) h in
    let rest = rises-spaces es parts.1 in
    subst Rises (sym (spaces-first (Space prefix uri) es refl)) (all-follow prefix es parts.0 parts.1 rest, rest)
rises-spaces (Attr name value ∷ es) h =
    subst Rises (sym (spaces-first (Attr name value) es refl)) (rises-spaces es (and_parts (begins_with_attribute es) (are_ordered es) h).1)
rises-spaces (Start name ∷ es) h = absurd (cc)
rises-spaces (Chars text ∷ es) h = absurd (cc)
rises-spaces (End ∷ es) h = absurd (cc)
rises-spaces (Comment text ∷ es) h = absurd (cc)
rises-spaces (Pi target value ∷ es) h = absurd (cc)

among-spaces : (p uri : List ℕ) (es : List Event) → are_ordered es ≡ true → has_space p uri es ≡ true → among p uri (spaces_in es) ≡ true
unfolding are_ordered has_space among
among-spaces p uri [] h has = absurd (cc)
among-spaces p uri (Space prefix bound ∷ es) h has =
    ap (among p uri) (spaces-first (Space prefix bound) es refl)
    ∙ by_test (bytes_eq prefix p && bytes_eq bound uri) has (λ g. among-spaces p uri es (and_parts (follows prefix es) (are_ordered es) h).1 g)
  where
    by_test : (t : Bool) → (if t then true else has_space p uri es) ≡ true → (has_space p uri es ≡ true → among p uri (spaces_in es) ≡ true)
        → (if t then true else among p uri (spaces_in es)) ≡ true
    by_test true g later = refl
    by_test false g later = later g
among-spaces p uri (Attr name value ∷ es) h has =
    ap (among p uri) (spaces-first (Attr name value) es refl)
    ∙ among-spaces p uri es (and_parts (begins_with_attribute es) (are_ordered es) h).1 has
among-spaces p uri (Start name ∷ es) h has = absurd (cc)
among-spaces p uri (Chars text ∷ es) h has = absurd (cc)
among-spaces p uri (End ∷ es) h has = absurd (cc)
among-spaces p uri (Comment text ∷ es) h has = absurd (cc)
among-spaces p uri (Pi target value ∷ es) h has = absurd (cc)

-- what the tag binds before its attributes
pub before_is : (name : Label) (es : List Event) (p uri : List ℕ) → p ≡ name.prefix → uri ≡ name.uri → are_ordered es ≡ true → has_space p uri es ≡ true
    → bindings_before name es ≡ spaces_in es
unfolding bindings_before
before_is name es p uri of_prefix of_uri ordered has =
    own-among (name.prefix, name.uri) (spaces_in es) (rises-spaces es ordered)
    (ap (λ x. among x name.uri (spaces_in es)) (sym of_prefix) ∙ ap (λ x. among p x (spaces_in es)) (sym of_uri) ∙ among-spaces p uri es ordered has)

-- ---- attributes that keep their prefixes
in-force : (all : List Event) (p uri : List ℕ) → are_ordered all ≡ true → has_space p uri all ≡ true → is_in_force (spaces_in all) p uri ≡ true
in-force all p uri ordered has =
    ap (λ o. not (not (bytes_eq (unwrap_or o []) uri))) (bound-there p uri (spaces_in all) (rises-spaces all ordered) (among-spaces p uri all ordered has))
    ∙ ap (λ t. not (not t)) ((bytes_eq-Decides uri uri).1 refl)

keeps : (all : List Event) (name : Label) → are_ordered all ≡ true → keeps_among all name ≡ true → keeps_own (spaces_in all) name ≡ true
keeps all name ordered h = by_need (needs_prefix name) h
  where
    by_need : (t : Bool) → (if t then not (is_empty name.prefix) && has_space name.prefix name.uri all else true) ≡ true
        → (if t then not (is_empty name.prefix) && is_in_force (spaces_in all) name.prefix name.uri else true) ≡ true
    by_need true g =
        let parts = and_parts (not (is_empty name.prefix)) (has_space name.prefix name.uri all) g in
        ap (λ t. t && is_in_force (spaces_in all) name.prefix name.uri) parts.0 ∙ in-force all name.prefix name.uri ordered parts.1
    by_need false g = refl

may : (all : List Event) (e : Event) → are_ordered all ≡ true → may_keep_among all e ≡ true → may_keep (spaces_in all) e ≡ true
may all (Attr name value) ordered h = keeps all name ordered h
may all (Space prefix uri) ordered h = refl
may all (Start name) ordered h = refl
may all (Chars text) ordered h = refl
may all End ordered h = refl
may all (Comment text) ordered h = refl
may all (Pi target value) ordered h = refl

pub keep_all : (all es : List Event) → are_ordered all ≡ true → keep_among all es ≡ true → keep_own (spaces_in all) es ≡ true
unfolding keep_among keep_own
keep_all all [] ordered h = refl
keep_all all (e ∷ es) ordered h =
    let parts = and_parts (may_keep_among all e) (keep_among all es) h in
    ap (λ t. t && keep_own (spaces_in all) es) (may all e ordered parts.0) ∙ keep_all all es ordered parts.1

-- ---- one event after another
pub spaces_next : {X : Type 0} (old new : List Binding → X) (whole : X) (e : Event) (rest more : List Event) → rest ≡ e ∷ more → is_in_tag e ≡ true
    → ((bs : List Binding) → new bs ≡ old (cons_option (space_of e) bs)) → old (spaces_in rest) ≡ whole → new (spaces_in more) ≡ whole
spaces_next old new whole e rest more is inside step so_far =
    step (spaces_in more) ∙ ap old (sym (spaces-first e more inside) ∙ ap spaces_in (sym is)) ∙ so_far

pub spaces_stop : (e : Event) (rest more : List Event) → rest ≡ e ∷ more → is_in_tag e ≡ false → spaces_in rest ≡ []
spaces_stop e rest more is past = ap spaces_in is ∙ spaces-past e more past

pub spaces_end : (front whole : List Binding) (test : Binding → Bool) (rest : List Event) → spaces_in rest ≡ []
    → front ++ filter test (spaces_in rest) ≡ whole → front ≡ whole
spaces_end front whole test rest none so_far = sym (append-nil front) ∙ ap (λ bs. front ++ filter test bs) (sym none) ∙ so_far
