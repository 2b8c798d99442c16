-- The bindings in force: by the bytes of their prefixes, `xml` among them, none for no namespace, each one that may be declared; and
-- what is bound outside a start tag is bound inside.
use Rattle.std.proofs.Common.{◌≡◌, ℕ, List, [], ◌∷◌, Option, None, Some, Bool, true, false, refl, sym, ◌∙◌, ap, subst, inl, inr, cond}
use Rattle.std.specs.Prelude.{not, ◌&&◌, ◌||◌, if◌then◌else◌, codes, option_and_then, take_while}
use Rattle.std.specs.BTreeMap.{insert_entry, is_at}
use Rattle.std.specs.List.{AllByRecursion, after_first, before_first, cons_option, filter_map, list_any}
use Rattle.std.specs.List.Sorted.{IsStrictlySortedBy}
use Rattle.std.specs.Map.{keys_of, lookup, remove_entry}
use Rattle.std.specs.Ordering.{is_eq, match_ordering, ordering_reverse}
use Rattle.std.specs.Str.{bytes_eq, chars}
use Rattle.std.specs.declared.cmp.Ordering.{Ordering}
use Rattle.std.specs.declared.cmp.Ordering.TheVariants.{Less, Equal, Greater}
use Rattle.std.proofs.lemmas.Bool.{cases_Bool}
use Rattle.std.proofs.lemmas.Cmp.{nat_list_cmp_total}
use Rattle.std.proofs.lemmas.Map.Lookups.{exact_bytes}
use Rattle.std.proofs.lemmas.Slice.Eq.{bytes_eq-Decides}
use Rattle.xs_pyx.specs.Row.{Row}
use Rattle.xs_pyx.specs.Reading.{Reading, says, faulty, reading}
use Rattle.xs_pyx.specs.declared.line.Line.{Line}
use Rattle.xs_pyx.specs.declared.line.Line.TheVariants.{Start, Attr, Chars, End, Pi, Comment}
use Rattle.xs_tree.specs.Names.{order_of_texts}
use Rattle.xs_build.specs.Namespaces.{Binding, Bindings, QName, is_colon, is_empty, is_ncname, prefixed, unprefixed, is_bad_binding, outermost, bound}
use Rattle.xs_build.specs.Namespaces.{scope_with, xml_uri, qname_of, declared_prefix}
use Rattle.xs_build.specs.DocumentTree.{is_prefix, may_be_bound}
use Rattle.xs_build.specs.Start.{is_attribute_row, bound_to, binding_of, line_binding, reading_binding, declarations}

-- each prefix is before those behind it
abbrev pub Rising : Bindings → Type 0
Rising [] = Unit {0}
Rising (b ∷ bs) = AllByRecursion (λ (e : Binding). order_of_texts b.0 e.0 ≡ Less) bs × Rising bs

abbrev pub IsBinding : Binding → Type 0
IsBinding b = is_empty b.1 ≡ false

-- a binding that may be declared
abbrev pub IsAllowed : Binding → Type 0
IsAllowed b = may_be_bound b.0 b.1 ≡ true

pub record IsScope (scope : Bindings) : Type 0 where
  pub order : Rising scope
  pub allowed : AllByRecursion IsAllowed scope
  pub xml : lookup (is_at (order_of_texts (codes "xml"))) scope ≡ Some xml_uri
  pub full : AllByRecursion IsBinding scope

all_mapped : (P Q : Binding → Type 0) → ((b : Binding) → P b → Q b) → (bs : Bindings) → AllByRecursion P bs → AllByRecursion Q bs
all_mapped P Q f [] a = tt
all_mapped P Q f (b ∷ bs) a = (f b a.0, all_mapped P Q f bs a.1)

-- one more binding
all_inserted : (P : Binding → Type 0) (es : Bindings) (k v : List ℕ) → ((e : Binding) → k ≡ e.0 → P e → P (e.0, v)) → P (k, v) → AllByRecursion P es
    → AllByRecursion P (insert_entry order_of_texts es k v)
all_inserted P [] k v keeps new a = (new, tt)
all_inserted P (e ∷ es) k v keeps new a = by (order_of_texts k e.0) refl (all_inserted P es k v keeps new a.1)
  where
    by : (r : Ordering) → order_of_texts k e.0 ≡ r → AllByRecursion P (insert_entry order_of_texts es k v)
        → AllByRecursion P (match_ordering r ((k, v) ∷ e ∷ es) ((e.0, v) ∷ es) (e ∷ insert_entry order_of_texts es k v))
    by Less is h = (new, a)
    by Equal is h = (keeps e (exact_bytes k e.0 is) a.0, a.1)
    by Greater is h = (a.0, h)

rising_inserted : (es : Bindings) (k v : List ℕ) → Rising es → Rising (insert_entry order_of_texts es k v)
rising_inserted [] k v a = (tt, tt)
rising_inserted (e ∷ es) k v a = by (order_of_texts k e.0) refl (rising_inserted es k v a.1)
  where
    by : (r : Ordering) → order_of_texts k e.0 ≡ r → Rising (insert_entry order_of_texts es k v)
        → Rising (match_ordering r ((k, v) ∷ e ∷ es) ((e.0, v) ∷ es) (e ∷ insert_entry order_of_texts es k v))
    by Less is h = (
      (
        is,
        all_mapped (λ (q : Binding). order_of_texts e.0 q.0 ≡ Less) (λ (q : Binding). order_of_texts k q.0 ≡ Less)
            (λ q less. nat_list_cmp_total.trans k e.0 q.0 is less) es a.0,
      ),
      a,
    )
    by Equal is h = (a.0, a.1)
    by Greater is h = (
      all_inserted (λ (q : Binding). order_of_texts e.0 q.0 ≡ Less) es k v (λ q _ less. less) (nat_list_cmp_total.antisymm e.0 k
          ∙ ap ordering_reverse is) a.0,
      h,
    )

all_removed : (P : Binding → Type 0) (test : List ℕ → Bool) (es : Bindings) → AllByRecursion P es → AllByRecursion P (remove_entry test es)
all_removed P test [] a = tt
all_removed P test (e ∷ es) a = by (test e.0) (all_removed P test es a.1)
  where
    by : (b : Bool) → AllByRecursion P (remove_entry test es) → AllByRecursion P (cond b es (e ∷ remove_entry test es))
    by true h = a.1
    by false h = (a.0, h)

rising_removed : (test : List ℕ → Bool) (es : Bindings) → Rising es → Rising (remove_entry test es)
rising_removed test [] a = tt
rising_removed test (e ∷ es) a = by (test e.0) (rising_removed test es a.1)
  where
    by : (b : Bool) → Rising (remove_entry test es) → Rising (cond b es (e ∷ remove_entry test es))
    by true h = a.1
    by false h = (all_removed (λ (q : Binding). order_of_texts e.0 q.0 ≡ Less) test es a.0, h)

equal_at : (o : Ordering) → is_eq o ≡ true → o ≡ Equal
equal_at Less h = cc
equal_at Equal h = refl
equal_at Greater h = cc

pub same_at : (a b : List ℕ) → is_at (order_of_texts a) b ≡ true → a ≡ b
same_at a b h = exact_bytes a b (equal_at (order_of_texts a b) h)

-- what is bound stays so, unless another URI takes its place
found_inserted : (q u : List ℕ) (es : Bindings) (k v : List ℕ) → (q ≡ k → v ≡ u) → lookup (is_at (order_of_texts q)) es ≡ Some u
    → lookup (is_at (order_of_texts q)) (insert_entry order_of_texts es k v) ≡ Some u
found_inserted q u [] k v other h = cc
found_inserted q u (e ∷ es) k v other h = by (order_of_texts k e.0) refl (λ g. found_inserted q u es k v other g)
  where
    first : (b : Bool) → is_at (order_of_texts q) k ≡ b → cond b (Some v) (lookup (is_at (order_of_texts q)) (e ∷ es)) ≡ Some u
    first true is = ap Some (other (same_at q k is))
    first false is = h

    same : (b : Bool) → is_at (order_of_texts q) e.0 ≡ b → k ≡ e.0 → cond b (Some e.1) (lookup (is_at (order_of_texts q)) es) ≡ Some u
        → cond b (Some v) (lookup (is_at (order_of_texts q)) es) ≡ Some u
    same true is key g = ap Some (other (same_at q e.0 is ∙ sym key))
    same false is key g = g

    later : (b : Bool) → (lookup (is_at (order_of_texts q)) es ≡ Some u → lookup (is_at (order_of_texts q)) (insert_entry order_of_texts es k v) ≡ Some u)
        → cond b (Some e.1) (lookup (is_at (order_of_texts q)) es) ≡ Some u
        → cond b (Some e.1) (lookup (is_at (order_of_texts q)) (insert_entry order_of_texts es k v)) ≡ Some u
    later true more g = g
    later false more g = more g

    by : (r : Ordering) → order_of_texts k e.0 ≡ r
        → (lookup (is_at (order_of_texts q)) es ≡ Some u → lookup (is_at (order_of_texts q)) (insert_entry order_of_texts es k v) ≡ Some u)
        → lookup (is_at (order_of_texts q)) (match_ordering r ((k, v) ∷ e ∷ es) ((e.0, v) ∷ es) (e ∷ insert_entry order_of_texts es k v)) ≡ Some u
    by Less is more = first (is_at (order_of_texts q) k) refl
    by Equal is more = same (is_at (order_of_texts q) e.0) refl (exact_bytes k e.0 is) h
    by Greater is more = later (is_at (order_of_texts q) e.0) more h

found_removed : (q u : List ℕ) (test : List ℕ → Bool) (es : Bindings) → test q ≡ false → lookup (is_at (order_of_texts q)) es ≡ Some u
    → lookup (is_at (order_of_texts q)) (remove_entry test es) ≡ Some u
found_removed q u test [] apart h = cc
found_removed q u test (e ∷ es) apart h = by (test e.0) refl (is_at (order_of_texts q) e.0) refl h (λ g. found_removed q u test es apart g)
  where
    by : (t : Bool) → test e.0 ≡ t → (b : Bool) → is_at (order_of_texts q) e.0 ≡ b → cond b (Some e.1) (lookup (is_at (order_of_texts q)) es) ≡ Some u
        → (lookup (is_at (order_of_texts q)) es ≡ Some u → lookup (is_at (order_of_texts q)) (remove_entry test es) ≡ Some u)
        → lookup (is_at (order_of_texts q)) (cond t es (e ∷ remove_entry test es)) ≡ Some u
    by true is true at g more = absurd (let no : test q ≡ true = ap test (same_at q e.0 at) ∙ is in cc)
    by true is false at g more = g
    by false is true at g more = rw at g
    by false is false at g more = rw at (more g)

-- what may be bound
pub full_prefix : (prefix : List ℕ) → is_bad_binding prefix [] ≡ false → prefix ≡ []
unfolding is_bad_binding
full_prefix [] h = refl
full_prefix (b ∷ prefix) h = cc

xml_only : (uri : List ℕ) → is_bad_binding (codes "xml") uri ≡ false → uri ≡ xml_uri
unfolding is_bad_binding
xml_only [] h = cc
xml_only (u ∷ uri) h =
    elim (cases_Bool (bytes_eq (u ∷ uri) xml_uri)) [
      | inl t ↦ (bytes_eq-Decides (u ∷ uri) xml_uri).0 t
      | inr f ↦ absurd (let no : true ≡ false = rw f at h in cc)
    ]

pub not_bad : (prefix uri : List ℕ) → may_be_bound prefix uri ≡ true → is_bad_binding prefix uri ≡ false
not_bad prefix uri h = by (is_prefix prefix) (is_bad_binding prefix uri) h
  where
    by : (a b : Bool) → (a && not b) ≡ true → b ≡ false
    by true true h = cc
    by true false h = refl
    by false b h = cc

bound_kept : (prefix uri : List ℕ) (scope : Bindings) → may_be_bound prefix uri ≡ true → IsScope scope → IsScope (bound (prefix, uri) scope)
bound_kept prefix [] scope h s =
    let none : prefix ≡ [] = full_prefix prefix (not_bad prefix [] h) in
    record {
      order = rising_removed (is_at (order_of_texts prefix)) scope s.order;
      allowed = all_removed IsAllowed (is_at (order_of_texts prefix)) scope s.allowed;
      xml = found_removed (codes "xml") xml_uri (is_at (order_of_texts prefix)) scope (rw none refl) s.xml;
      full = all_removed IsBinding (is_at (order_of_texts prefix)) scope s.full;
    }
bound_kept prefix (u ∷ uri) scope h s = record {
  order = rising_inserted scope prefix (u ∷ uri) s.order;
  allowed = all_inserted IsAllowed scope prefix (u ∷ uri) (λ e is _. subst (λ k. may_be_bound k (u ∷ uri) ≡ true) is h) h s.allowed;
  xml = found_inserted (codes "xml") xml_uri scope prefix (u ∷ uri)
      (λ is. xml_only (u ∷ uri) (subst (λ k. is_bad_binding k (u ∷ uri) ≡ false) (sym is) (not_bad prefix (u ∷ uri) h))) s.xml;
  full = all_inserted IsBinding scope prefix (u ∷ uri) (λ e _ _. refl) refl s.full;
}

pub scope_kept : (bs : List Binding) (outer : Bindings) → AllByRecursion IsAllowed bs → IsScope outer → IsScope (scope_with bs outer)
unfolding scope_with
scope_kept [] outer a s = s
scope_kept (b ∷ bs) outer a s = bound_kept b.0 b.1 (scope_with bs outer) a.0 (scope_kept bs outer a.1 s)

-- what is bound outside is bound inside
abbrev pub has_key : List ℕ → Bindings → Bool
has_key q scope = list_any (λ (b : Binding). bytes_eq b.0 q) scope

pub key_later : (a b : Bool) → b ≡ true → (a || b) ≡ true
key_later true b h = refl
key_later false b h = h

key_more : (a b c : Bool) → (b ≡ true → c ≡ true) → (a || b) ≡ true → (a || c) ≡ true
key_more true b c f h = refl
key_more false b c f h = f h

key_inserted : (q : List ℕ) (es : Bindings) (k v : List ℕ) → has_key q es ≡ true → has_key q (insert_entry order_of_texts es k v) ≡ true
key_inserted q [] k v h = cc
key_inserted q (e ∷ es) k v h = by (order_of_texts k e.0) (key_inserted q es k v)
  where
    by : (r : Ordering) → (has_key q es ≡ true → has_key q (insert_entry order_of_texts es k v) ≡ true)
        → has_key q (match_ordering r ((k, v) ∷ e ∷ es) ((e.0, v) ∷ es) (e ∷ insert_entry order_of_texts es k v)) ≡ true
    by Less more = key_later (bytes_eq k q) (has_key q (e ∷ es)) h
    by Equal more = h
    by Greater more = key_more (bytes_eq e.0 q) (has_key q es) (has_key q (insert_entry order_of_texts es k v)) more h

key_removed : (q : List ℕ) (test : List ℕ → Bool) (es : Bindings) → ((k : List ℕ) → test k ≡ true → bytes_eq k q ≡ false) → has_key q es ≡ true
    → has_key q (remove_entry test es) ≡ true
key_removed q test [] apart h = cc
key_removed q test (e ∷ es) apart h = by (test e.0) refl (bytes_eq e.0 q) refl h (key_removed q test es apart)
  where
    by : (t : Bool) → test e.0 ≡ t → (b : Bool) → bytes_eq e.0 q ≡ b → (b || has_key q es) ≡ true
        → (has_key q es ≡ true → has_key q (remove_entry test es) ≡ true) → has_key q (cond t es (e ∷ remove_entry test es)) ≡ true
    by true is true at g more = absurd (let no : true ≡ false = sym at ∙ apart e.0 is in cc)
    by true is false at g more = g
    by false is true at g more = rw at refl
    by false is false at g more = rw at (more g)

other_key : (q : List ℕ) → is_empty q ≡ false → (k : List ℕ) → is_at (order_of_texts []) k ≡ true → bytes_eq k q ≡ false
other_key [] h k t = cc
other_key (b ∷ q) h k t = let none : [] ≡ k = same_at [] k t in rw (← none) refl

key_bound : (q prefix uri : List ℕ) (scope : Bindings) → is_empty q ≡ false → may_be_bound prefix uri ≡ true → has_key q scope ≡ true
    → has_key q (bound (prefix, uri) scope) ≡ true
key_bound q prefix [] scope some h k =
    let none : prefix ≡ [] = full_prefix prefix (not_bad prefix [] h) in
    rw none (key_removed q (is_at (order_of_texts [])) scope (other_key q some) k)
key_bound q prefix (u ∷ uri) scope some h k = key_inserted q scope prefix (u ∷ uri) k

key_kept : (q : List ℕ) (bs : List Binding) (outer : Bindings) → is_empty q ≡ false → AllByRecursion IsAllowed bs → has_key q outer ≡ true
    → has_key q (scope_with bs outer) ≡ true
unfolding scope_with
key_kept q [] outer some a k = k
key_kept q (b ∷ bs) outer some a k = key_bound q b.0 b.1 (scope_with bs outer) some a.0 (key_kept q bs outer some a.1 k)

-- what the lines of a start tag declare
abbrev IfAllowed : Option Binding → Type 0
IfAllowed None = Unit {0}
IfAllowed (Some b) = IsAllowed b

bound_allowed : (value prefix : List ℕ) → is_prefix prefix ≡ true → IfAllowed (bound_to value prefix)
bound_allowed value prefix name = by (is_bad_binding prefix value) refl
  where
    by : (b : Bool) → is_bad_binding prefix value ≡ b → IfAllowed (if b then None else Some (prefix, value))
    by true is = tt
    by false is = rw (name, is) refl

-- the parts of a QName
both : (a b : Bool) → (a && b) ≡ true → (a ≡ true) × (b ≡ true)
both true true h = (refl, refl)
both true false h = cc
both false b h = cc

or_right : (a b : Bool) → b ≡ true → (a || b) ≡ true
or_right true b h = refl
or_right false b h = h

abbrev pub IsWritten : QName → Type 0
IsWritten w = (is_prefix w.prefix ≡ true) × (is_ncname w.local ≡ true)

pub qname_parts : (name : List ℕ) (w : QName) → qname_of name ≡ Some w → IsWritten w
unfolding qname_of
qname_parts name w h = by (list_any is_colon name) h
  where
    cut : (b : Bool) (p l : List ℕ) → (is_ncname p && is_ncname l) ≡ b → (if b then Some (record { prefix = p; local = l }) else None) ≡ Some w → IsWritten w
    cut true p l is e =
        let same : record { prefix = p; local = l } ≡ w = cc in
        let parts : (is_ncname p ≡ true) × (is_ncname l ≡ true) = both (is_ncname p) (is_ncname l) is in
        subst IsWritten same (or_right (is_empty p) (is_ncname p) parts.0, parts.1)
    cut false p l is e = absurd (cc)

    plain : (b : Bool) → is_ncname name ≡ b → (if b then Some (record { prefix = []; local = name }) else None) ≡ Some w → IsWritten w
    plain true is e =
        let same : record { prefix = []; local = name } ≡ w = cc in
        subst IsWritten same (refl, is)
    plain false is e = absurd (cc)

    by : (b : Bool) → (if b then prefixed (before_first is_colon name) (after_first is_colon name) else unprefixed name) ≡ Some w → IsWritten w
    by true e = cut (is_ncname (before_first is_colon name) && is_ncname (after_first is_colon name)) (before_first is_colon name)
        (after_first is_colon name) refl e
    by false e = plain (is_ncname name) refl e

declared_name : (w : QName) (prefix : List ℕ) → IsWritten w → declared_prefix w ≡ Some prefix → is_prefix prefix ≡ true
unfolding declared_prefix
declared_name w prefix is h = by (is_empty w.prefix && bytes_eq w.local (codes "xmlns")) (bytes_eq w.prefix (codes "xmlns")) h
  where
    by : (a b : Bool) → (if a then Some [] else if b then Some w.local else None) ≡ Some prefix → is_prefix prefix ≡ true
    by true b e = let same : [] ≡ prefix = cc in subst (λ p. is_prefix p ≡ true) same refl
    by false true e = let same : w.local ≡ prefix = cc in subst (λ p. is_prefix p ≡ true) same (or_right (is_empty w.local) (is_ncname w.local) is.1)
    by false false e = absurd (cc)

then_allowed : (value : List ℕ) (prefix : Option (List ℕ)) → ((p : List ℕ) → prefix ≡ Some p → is_prefix p ≡ true)
    → IfAllowed (option_and_then (bound_to value) prefix)
then_allowed value None name = tt
then_allowed value (Some prefix) name = bound_allowed value prefix (name prefix refl)

written_name : (written : Option QName) → ((w : QName) → written ≡ Some w → IsWritten w) → (p : List ℕ) → option_and_then declared_prefix written ≡ Some p
    → is_prefix p ≡ true
written_name None is p h = cc
written_name (Some w) is p h = declared_name w p (is w refl) h

line_allowed : (line : Line) → IfAllowed (line_binding line)
unfolding binding_of
line_allowed (Start name) = tt
line_allowed (Attr name value) = then_allowed value (option_and_then declared_prefix (qname_of name)) (written_name (qname_of name) (qname_parts name))
line_allowed (Chars text) = tt
line_allowed (End name) = tt
line_allowed (Pi target text) = tt
line_allowed (Comment text) = tt

reading_allowed : (r : Reading) → IfAllowed (reading_binding r)
reading_allowed (says line) = line_allowed line
reading_allowed (faulty number) = tt

cons_allowed : (o : Option Binding) (bs : List Binding) → IfAllowed o → AllByRecursion IsAllowed bs → AllByRecursion IsAllowed (cons_option o bs)
cons_allowed None bs a rest = rest
cons_allowed (Some b) bs a rest = (a, rest)

rows_allowed : (rows : List Row) → AllByRecursion IsAllowed (filter_map (λ row. reading_binding (reading row)) rows)
rows_allowed [] = tt
rows_allowed (row ∷ rows) = cons_allowed (reading_binding (reading row)) (filter_map (λ row. reading_binding (reading row)) rows)
    (reading_allowed (reading row)) (rows_allowed rows)

-- the bindings in force at the outside, and inside a start tag
xml_allowed : may_be_bound (codes "xml") xml_uri ≡ true
unfolding is_bad_binding chars
xml_allowed = refl

pub outermost_scope : IsScope outermost
outermost_scope = record { order = (tt, tt); allowed = (xml_allowed, tt); xml = refl; full = (refl, tt) }

pub declarations_allowed : (rows : List Row) → AllByRecursion IsAllowed (declarations rows)
unfolding declarations
declarations_allowed rows = rows_allowed (take_while is_attribute_row rows)

pub declared_scope : (rows : List Row) (outer : Bindings) → IsScope outer → IsScope (scope_with (declarations rows) outer)
unfolding declarations
declared_scope rows outer s = scope_kept (declarations rows) outer (rows_allowed (take_while is_attribute_row rows)) s

pub declared_key : (q : List ℕ) (rows : List Row) (outer : Bindings) → is_empty q ≡ false → has_key q outer ≡ true
    → has_key q (scope_with (declarations rows) outer) ≡ true
unfolding declarations
declared_key q rows outer some k = key_kept q (declarations rows) outer some (rows_allowed (take_while is_attribute_row rows)) k

-- as lists of prefixes
keys_after : (k : List ℕ) (es : Bindings) → AllByRecursion (λ (e : Binding). order_of_texts k e.0 ≡ Less) es
    → AllByRecursion (λ q. order_of_texts k q ≡ Less) (keys_of es)
keys_after k [] a = tt
keys_after k (e ∷ es) a = (a.0, keys_after k es a.1)

pub keys_sorted : (scope : Bindings) → Rising scope → IsStrictlySortedBy order_of_texts (keys_of scope)
unfolding IsStrictlySortedBy
keys_sorted [] a = tt
keys_sorted (e ∷ es) a = (keys_after e.0 es a.0, keys_sorted es a.1)

-- what a prefix is bound to is among the bindings
pub found_among : (scope : Bindings) (prefix uri : List ℕ) → lookup (is_at (order_of_texts prefix)) scope ≡ Some uri
    → list_any (λ (b : Binding). bytes_eq b.0 prefix && bytes_eq b.1 uri) scope ≡ true
found_among [] prefix uri h = cc
found_among (e ∷ es) prefix uri h = by (is_at (order_of_texts prefix) e.0) refl h (λ g. found_among es prefix uri g)
  where
    rest : (b : Bool) → list_any (λ (b : Binding). bytes_eq b.0 prefix && bytes_eq b.1 uri) es ≡ true
        → (b || list_any (λ (b : Binding). bytes_eq b.0 prefix && bytes_eq b.1 uri) es) ≡ true
    rest true g = refl
    rest false g = g

    some : Some e.1 ≡ Some uri → e.1 ≡ uri
    some g = cc

    by : (b : Bool) → is_at (order_of_texts prefix) e.0 ≡ b → cond b (Some e.1) (lookup (is_at (order_of_texts prefix)) es) ≡ Some uri
        → (lookup (is_at (order_of_texts prefix)) es ≡ Some uri → list_any (λ (b : Binding). bytes_eq b.0 prefix && bytes_eq b.1 uri) es ≡ true)
        → ((bytes_eq e.0 prefix && bytes_eq e.1 uri) || list_any (λ (b : Binding). bytes_eq b.0 prefix && bytes_eq b.1 uri) es) ≡ true
    by true is g more =
        let key : bytes_eq e.0 prefix ≡ true = (bytes_eq-Decides e.0 prefix).1 (sym (same_at prefix e.0 is)) in
        let value : bytes_eq e.1 uri ≡ true = (bytes_eq-Decides e.1 uri).1 (some g) in
        rw (key, value) refl
    by false is g more = rest (bytes_eq e.0 prefix && bytes_eq e.1 uri) (more g)

empty_at : (x : List ℕ) → is_at (order_of_texts []) x ≡ is_empty x
empty_at [] = refl
empty_at (b ∷ x) = refl

pub none_default : (scope : Bindings) → lookup (is_at (order_of_texts [])) scope ≡ None → list_any (λ (b : Binding). is_empty b.0) scope ≡ false
none_default [] h = refl
none_default (e ∷ es) h = by (is_empty e.0) (subst (λ b. cond b (Some e.1) (lookup (is_at (order_of_texts [])) es) ≡ None) (empty_at e.0) h)
    (λ g. none_default es g)
  where
    by : (b : Bool) → cond b (Some e.1) (lookup (is_at (order_of_texts [])) es) ≡ None
        → (lookup (is_at (order_of_texts [])) es ≡ None → list_any (λ (b : Binding). is_empty b.0) es ≡ false)
        → (b || list_any (λ (b : Binding). is_empty b.0) es) ≡ false
    by true g more = cc
    by false g more = more g

pub none_empty : (scope : Bindings) → AllByRecursion IsBinding scope → list_any (λ (b : Binding). is_empty b.1) scope ≡ false
none_empty [] a = refl
none_empty (e ∷ es) a = rw a.0 (none_empty es a.1)
