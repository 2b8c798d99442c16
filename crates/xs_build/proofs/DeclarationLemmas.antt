-- What attribute lines declare, and which lines declare nothing whatever else stands on them.
use Rattle.std.proofs.Common.{◌≡◌, ℕ, suc, ◌+◌, List, [], ◌∷◌, ◌++◌, Bool, true, false, ◌&&◌, ◌⊎◌, Option, Some, None, take, drop, eqb, refl, sym, ◌∙◌, ap}
use Rattle.std.proofs.Common.{subst, inl, inr, arith, append_assoc, append-nil, map}
use Rattle.std.specs.Prelude.{codes, if◌then◌else◌, option_and_then, is_some}
use Rattle.std.specs.List.{list_any, position_or_len, prefix_len, before_first, starts_with, cons_option, filter_map, take_while}
use Rattle.std.specs.Option.{option_to_list}
use Rattle.std.specs.Str.{bytes_eq, is_utf8, chars}
use Rattle.std.proofs.lemmas.Bool.{cases_Bool, and_parts, eqb-true}
use Rattle.std.proofs.lemmas.List.{take-append-drop}
use Rattle.std.proofs.lemmas.Slice.Eq.{bytes_eq-Decides}
use Rattle.xs_text.specs.Escapes.{unescaped}
use Rattle.xs_pyx.specs.declared.line.Line.TheVariants.{Attr}
use Rattle.xs_pyx.specs.Row.{Row, rows_of, rows_behind, first_row, behind_row, is_line_feed}
use Rattle.xs_pyx.specs.Reading.{says, faulty, reading, kind_reading, ends_name, name_in, value_in, data_of}
use Rattle.xs_pyx.proofs.RowLemmas.{rows_first}
use Rattle.xs_build.specs.declared.scope.Declared.{Declared}
use Rattle.xs_build.specs.steps.Views.{binding}
use Rattle.xs_build.specs.Namespaces.{QName, Binding, is_colon, is_empty, is_ncname, qname_of, declared_prefix}
use Rattle.xs_build.specs.Start.{begins_with, is_attribute_row, bound_to, binding_of, reading_binding, declarations}

abbrev xmlns : List ℕ
xmlns = codes "xmlns"

-- ---- texts that begin with others
abbrev Begins : List ℕ → List ℕ → Type 0
Begins front text = (rest : List ℕ) × (text ≡ front ++ rest)

begins-is : (front text : List ℕ) → text ≡ front → Begins front text
begins-is front text e = ([], e ∙ sym (append-nil front))

begins-take : (front text : List ℕ) (k : ℕ) → Begins front (take k text) → Begins front text
begins-take front text k b =
    (b.0 ++ drop k text, sym (take-append-drop k text) ∙ ap (λ (t : List ℕ). t ++ drop k text) b.1 ∙ append_assoc front b.0 (drop k text))

-- ---- a name that declares a prefix begins with `xmlns`
given : {X : Type 0} (b : Bool) (x w : X) → (if b then Some x else None) ≡ Some w → (b ≡ true) × (x ≡ w)
given true x w e = (refl, cc)
given false x w e = absurd (cc)

ncname_some : (text : List ℕ) → is_ncname text ≡ true → is_empty text ≡ false
unfolding chars
ncname_some [] h = absurd (cc)
ncname_some (b ∷ text) h = refl

-- the prefix of a name is empty, or stands before its first colon
abbrev IsParted : List ℕ → QName → Type 0
IsParted name w = ((w.prefix ≡ []) × (w.local ≡ name)) ⊎ ((w.prefix ≡ before_first is_colon name) × (is_empty w.prefix ≡ false))

parted_at : (name prefix local : List ℕ) (w : QName) → prefix ≡ before_first is_colon name
    → (if is_ncname prefix && is_ncname local then Some (record { prefix = prefix; local = local }) else None) ≡ Some w → IsParted name w
parted_at name prefix local w before e =
    let cut : QName = record { prefix = prefix; local = local } in
    let g = given (is_ncname prefix && is_ncname local) cut w e in
    let same : prefix ≡ w.prefix = ap (λ (v : QName). v.prefix) g.1 in
    inr (sym same ∙ before, ap is_empty (sym same) ∙ ncname_some prefix (and_parts (is_ncname prefix) (is_ncname local) g.0).0)

parted_whole : (name : List ℕ) (w : QName) → (if is_ncname name then Some (record { prefix = []; local = name }) else None) ≡ Some w → IsParted name w
parted_whole name w e =
    let cut : QName = record { prefix = []; local = name } in
    let g = given (is_ncname name) cut w e in
    inl (sym (ap (λ (v : QName). v.prefix) g.1), sym (ap (λ (v : QName). v.local) g.1))

parted : (name : List ℕ) (w : QName) → qname_of name ≡ Some w → IsParted name w
unfolding qname_of
parted name w e = elim (cases_Bool (list_any is_colon name)) [
  | inl t ↦ parted_at name _ _ w refl (rw t at e)
  | inr f ↦ parted_whole name w (rw f at e)
]

empty_is : (text : List ℕ) → is_empty text ≡ true → text ≡ []
empty_is [] h = refl
empty_is (b ∷ text) h = absurd (cc)

abbrev Declares : QName → Type 0
Declares w = ((w.prefix ≡ []) × (w.local ≡ xmlns)) ⊎ (w.prefix ≡ xmlns)

declares : (w : QName) → (declared_prefix w ≡ None) ⊎ Declares w
unfolding declared_prefix
declares w = elim (cases_Bool (is_empty w.prefix && bytes_eq w.local xmlns)) [
  | inl t ↦
      let both = and_parts (is_empty w.prefix) (bytes_eq w.local xmlns) t in
      inr (inl (empty_is w.prefix both.0, (bytes_eq-Decides w.local xmlns).0 both.1))
  | inr f ↦ elim (cases_Bool (bytes_eq w.prefix xmlns)) [
    | inl t ↦ inr (inr ((bytes_eq-Decides w.prefix xmlns).0 t))
    | inr g ↦ inl (rw (f, g) refl)
  ]
]

written_begins : (name : List ℕ) (w : QName) → IsParted name w → Declares w → Begins xmlns name
written_begins name w (inl p) (inl d) = begins-is xmlns name (sym p.1 ∙ d.1)
written_begins name w (inl p) (inr d) = let e : [] ≡ xmlns = sym p.0 ∙ d in absurd (cc)
written_begins name w (inr p) (inl d) = let e : true ≡ false = sym (ap is_empty d.0) ∙ p.1 in absurd (cc)
written_begins name w (inr p) (inr d) =
    begins-take xmlns name (position_or_len is_colon name) (begins-is xmlns (before_first is_colon name) (sym p.0 ∙ d))

parts_begin : (name value : List ℕ) (o : Option QName) → qname_of name ≡ o
    → (option_and_then (bound_to value) (option_and_then declared_prefix o) ≡ None) ⊎ Begins xmlns name
parts_begin name value None e = inl refl
parts_begin name value (Some w) e = elim (declares w) [
  | inl none ↦ inl (ap (option_and_then (bound_to value)) none)
  | inr some ↦ inr (written_begins name w (parted name w e) some)
]

binding_begins : (name value : List ℕ) → (binding_of name value ≡ None) ⊎ Begins xmlns name
unfolding binding_of
binding_begins name value = parts_begin name value (qname_of name) refl

-- ---- a line that does not begin with `Axmlns` declares nothing
attribute_begins : (rest : List ℕ) → (reading_binding (says (Attr (name_in rest) (data_of (value_in rest)))) ≡ None) ⊎ Begins xmlns rest
attribute_begins rest = elim (binding_begins (name_in rest) (data_of (value_in rest))) [
  | inl none ↦ inl none
  | inr begins ↦ inr (begins-take xmlns rest (position_or_len ends_name rest) begins)
]

kind_begins : (rest : List ℕ) (ended : Bool) → (reading_binding (kind_reading (65 ∷ rest) ended) ≡ None) ⊎ Begins xmlns rest
kind_begins rest true = elim (is_some (unescaped rest)) as
    (λ s. (reading_binding (if s then says (Attr (name_in rest) (data_of (value_in rest))) else faulty 2) ≡ None) ⊎ Begins xmlns rest) [
      | true ↦ attribute_begins rest
      | false ↦ inl refl
    ]
kind_begins rest false = elim (is_some (unescaped rest)) as (λ s. (reading_binding (if s then faulty 4 else faulty 2) ≡ None) ⊎ Begins xmlns rest) [
  | true ↦ inl refl
  | false ↦ inl refl
]

row_begins : (rest : List ℕ) (ended : Bool) → (reading_binding (reading (record { bytes = 65 ∷ rest; ended = ended })) ≡ None) ⊎ Begins xmlns rest
unfolding reading
row_begins rest ended = elim (is_utf8 (65 ∷ rest)) as
    (λ u. (reading_binding (if u then kind_reading (65 ∷ rest) ended else faulty 3) ≡ None) ⊎ Begins xmlns rest) [
      | true ↦ kind_begins rest ended
      | false ↦ inl refl
    ]

one_more : (n : ℕ) → 1 + n ≡ suc n
one_more n = omega arith

first_at : (b : ℕ) (more : List ℕ) → is_line_feed b ≡ false
    → first_row (b ∷ more) ≡ record { bytes = b ∷ before_first is_line_feed more; ended = list_any is_line_feed more }
first_at b more h = rw (h, one_more (position_or_len is_line_feed more)) refl

starts_xmlns : (more : List ℕ) → Begins xmlns more → starts_with eqb (65 ∷ more) (codes "Axmlns") ≡ true
starts_xmlns more b = rw b.1 refl

quiet_at : (more : List ℕ) → starts_with eqb (65 ∷ more) (codes "Axmlns") ≡ false → reading_binding (reading (first_row (65 ∷ more))) ≡ None
quiet_at more other =
    ap (λ (row : Row). reading_binding (reading row)) (first_at 65 more refl)
    ∙ (elim (row_begins (before_first is_line_feed more) (list_any is_line_feed more)) [
      | inl none ↦ none
      | inr b ↦ let is : starts_with eqb (65 ∷ more) (codes "Axmlns") ≡ true =
          starts_xmlns more (begins-take xmlns more (position_or_len is_line_feed more) b) in absurd (cc)
    ])

pub quiet_row : (bytes : List ℕ) → begins_with 65 bytes ≡ true → starts_with eqb bytes (codes "Axmlns") ≡ false
    → None ≡ reading_binding (reading (first_row bytes))
quiet_row [] h other = absurd (cc)
quiet_row (b ∷ more) h other =
    let is : b ≡ 65 = eqb-true b 65 h in
    sym (subst (λ (a : ℕ). starts_with eqb (a ∷ more) (codes "Axmlns") ≡ false
    → reading_binding (reading (first_row (a ∷ more))) ≡ None) (sym is) (quiet_at more) other)

-- ---- line by line
cons_is : {X : Type 0} (o : Option X) (xs : List X) → cons_option o xs ≡ option_to_list o ++ xs
cons_is None xs = refl
cons_is (Some x) xs = refl

more_at : (row : Row) (rows : List Row) → is_attribute_row row ≡ true
    → declarations (row ∷ rows) ≡ option_to_list (reading_binding (reading row)) ++ declarations rows
unfolding declarations
more_at row rows h =
    rw (h, one_more (prefix_len is_attribute_row rows))
    (cons_is (reading_binding (reading row)) (filter_map (λ (r : Row). reading_binding (reading r)) (take_while is_attribute_row rows)))

stop_at : (row : Row) (rows : List Row) → is_attribute_row row ≡ false → declarations (row ∷ rows) ≡ []
unfolding declarations
stop_at row rows h = rw h refl

pub attribute_first : (b : ℕ) (more : List ℕ) → is_attribute_row (first_row (b ∷ more)) ≡ eqb b 65
attribute_first b more = elim (cases_Bool (is_line_feed b)) [
  | inl t ↦ let is : b ≡ 10 = eqb-true b 10 t in rw (t, is) refl
  | inr f ↦ ap is_attribute_row (first_at b more f)
]

declarations_more : (bytes : List ℕ) → begins_with 65 bytes ≡ true
    → declarations (rows_of bytes) ≡ option_to_list (reading_binding (reading (first_row bytes))) ++ declarations (rows_of (behind_row bytes))
declarations_more [] h = absurd (cc)
declarations_more (b ∷ more) h =
    ap declarations (rows_first (b ∷ more) (omega arith))
    ∙ more_at (first_row (b ∷ more)) (rows_of (behind_row (b ∷ more))) (attribute_first b more ∙ h)

declarations_stop : (bytes : List ℕ) → begins_with 65 bytes ≡ false → declarations (rows_of bytes) ≡ []
unfolding declarations rows_behind
declarations_stop [] h = refl
declarations_stop (b ∷ more) h =
    ap declarations (rows_first (b ∷ more) (omega arith))
    ∙ stop_at (first_row (b ∷ more)) (rows_of (behind_row (b ∷ more))) (attribute_first b more ∙ h)

-- one line more is read
pub declared_more : (old new : List Declared) (bytes behind : List ℕ) (whole : List Binding) → begins_with 65 bytes ≡ true
    → map binding new ≡ map binding old ++ option_to_list (reading_binding (reading (first_row bytes))) → behind ≡ behind_row bytes
    → map binding old ++ declarations (rows_of bytes) ≡ whole → map binding new ++ declarations (rows_of behind) ≡ whole
declared_more old new bytes behind whole h pushed is so_far =
    rw (pushed, is)
    (append_assoc (map binding old) (option_to_list (reading_binding (reading (first_row bytes)))) (declarations (rows_of (behind_row bytes)))
    ∙ ap (λ (bs : List Binding). map binding old ++ bs) (sym (declarations_more bytes h)) ∙ so_far)

-- no line is left
pub declared_all : (old : List Declared) (bytes : List ℕ) (whole : List Binding) → begins_with 65 bytes ≡ false
    → map binding old ++ declarations (rows_of bytes) ≡ whole → map binding old ≡ whole
declared_all old bytes whole h so_far =
    sym (append-nil (map binding old)) ∙ ap (λ (bs : List Binding). map binding old ++ bs) (sym (declarations_stop bytes h)) ∙ so_far
