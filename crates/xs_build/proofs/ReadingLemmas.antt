-- What a line that says something begins with, and what that makes of it in its context.
use Rattle.std.proofs.Common.{◌≡◌, ℕ, List, [], ◌∷◌, Option, None, Some, Bool, true, false, refl, sym, ◌∙◌, ap, inl, inr, arith}
use Rattle.std.specs.Prelude.{◌&&◌, ◌==◌, is_some, is_none}
use Rattle.std.specs.Str.{is_utf8}
use Rattle.std.proofs.lemmas.Bool.{cases_Bool}
use Rattle.std.proofs.lemmas.Bool.Decides.{nat_tests}
use Rattle.xs_text.specs.Escapes.{unescaped}
use Rattle.xs_pyx.specs.Row.{Row}
use Rattle.xs_pyx.specs.Reading.{says, faulty, reading, begins_line, line_of, ended_reading, rest_reading, kind_reading}
use Rattle.xs_pyx.specs.declared.line.Line.{Line}
use Rattle.xs_pyx.specs.declared.line.Line.TheVariants.{Start, Attr, Chars, End, Pi, Comment}
use Rattle.xs_build.specs.Start.{begins_with, is_attribute_row, is_text_row}
use Rattle.xs_build.specs.declared.tag_names.Expanded.{Expanded}
use Rattle.xs_build.specs.steps.Lines.{Context, bad, attribute_step, line_step, row_step}
use Rattle.xs_build.specs.steps.Rest.{fault_at}

-- the first byte of a line
abbrev pub kind_of : Line → ℕ
kind_of (Start name) = 40
kind_of (Attr name value) = 65
kind_of (Chars text) = 45
kind_of (End name) = 41
kind_of (Pi target value) = 63
kind_of (Comment text) = 67

kind_of_line : (kind : ℕ) (rest : List ℕ) → begins_line kind ≡ true → (kind == kind_of (line_of kind rest)) ≡ true
kind_of_line kind rest h =
    elim (cases_Bool (kind == 40)) [
      | inl t ↦ rw t t
      | inr a ↦ elim (cases_Bool (kind == 65)) [
        | inl t ↦ rw (a, t) t
        | inr b ↦ elim (cases_Bool (kind == 45)) [
          | inl t ↦ rw (a, b, t) t
          | inr c ↦ elim (cases_Bool (kind == 41)) [
            | inl t ↦ rw (a, b, c, t) t
            | inr d ↦ elim (cases_Bool (kind == 63)) [
              | inl t ↦ rw (a, b, c, d, t) t
              | inr e ↦ rw (a, b, c, d, e) (rw (a, b, c, d, e) at h)
            ]
          ]
        ]
      ]
    ]

ended_says : (line l : Line) (ended : Bool) → ended_reading line ended ≡ says l → line ≡ l
ended_says line l true h = cc
ended_says line l false h = cc

rest_says : (kind : ℕ) (rest : List ℕ) (ended : Bool) (l : Line) → rest_reading kind rest ended ≡ says l → line_of kind rest ≡ l
rest_says kind rest ended l h =
    elim (cases_Bool (is_some (unescaped rest))) [
      | inl t ↦ ended_says (line_of kind rest) l ended (rw t at h)
      | inr f ↦ (let no : faulty 2 ≡ says l = rw f at h in cc)
    ]

kind_says : (bytes : List ℕ) (ended : Bool) (l : Line) → kind_reading bytes ended ≡ says l → begins_with (kind_of l) bytes ≡ true
kind_says [] ended l h = cc
kind_says (kind ∷ rest) ended l h =
    elim (cases_Bool (begins_line kind)) [
      | inl t ↦ (let e : line_of kind rest ≡ l = rest_says kind rest ended l (rw t at h) in
          ap (λ m. kind == kind_of m) (sym e) ∙ kind_of_line kind rest t)
      | inr f ↦ (let no : faulty 1 ≡ says l = rw f at h in cc)
    ]

pub begins : (row : Row) (l : Line) → reading row ≡ says l → begins_with (kind_of l) row.bytes ≡ true
unfolding reading
begins row l h =
    elim (cases_Bool (is_utf8 row.bytes)) [
      | inl t ↦ kind_says row.bytes row.ended l (rw t at h)
      | inr f ↦ (let no : faulty 3 ≡ says l = rw f at h in cc)
    ]

pub begins_other : (a b : ℕ) (bytes : List ℕ) → (a == b) ≡ false → begins_with a bytes ≡ true → begins_with b bytes ≡ false
begins_other a b [] n h = refl
begins_other a b (x ∷ xs) n h = grind (arith, nat_tests)

-- a line that is no text, and one that is no attribute
pub no_text : (row : Row) (l : Line) → (kind_of l == 45) ≡ false → reading row ≡ says l → is_text_row row ≡ false
no_text row l n h = begins_other (kind_of l) 45 row.bytes n (begins row l h)

pub no_attribute : (row : Row) (l : Line) → (kind_of l == 65) ≡ false → reading row ≡ says l → is_attribute_row row ≡ false
no_attribute row l n h = begins_other (kind_of l) 65 row.bytes n (begins row l h)

pub is_text : (row : Row) (text : List ℕ) → reading row ≡ says (Chars text) → is_text_row row ≡ true
is_text row text h = begins row (Chars text) h

other_says : (c : Context) (n : ℕ) (row : Row) (rows : List Row) (l : Line) → (kind_of l == 65) ≡ false → reading row ≡ says l
    → row_step c n row rows ≡ line_step c n l rows
unfolding row_step
other_says c n row rows l k h = rw (no_attribute row l k h, h) refl

attribute_says : (c : Context) (n : ℕ) (row : Row) (rows : List Row) (name value : List ℕ) (tag : Option (List Expanded)) → c.tag ≡ tag
    → reading row ≡ says (Attr name value) → row_step c n row rows ≡ attribute_step c name value
unfolding row_step attribute_step
attribute_says c n row rows name value None e h = rw (begins row (Attr name value) h, e, h) refl
attribute_says c n row rows name value (Some seen) e h = rw (begins row (Attr name value) h, e, h) refl

-- what a line says is what counts, also of an attribute
pub row_says : (c : Context) (n : ℕ) (row : Row) (rows : List Row) (l : Line) → reading row ≡ says l → row_step c n row rows ≡ line_step c n l rows
row_says c n row rows (Start name) h = other_says c n row rows (Start name) refl h
row_says c n row rows (Attr name value) h = attribute_says c n row rows name value c.tag refl h
row_says c n row rows (Chars text) h = other_says c n row rows (Chars text) refl h
row_says c n row rows (End name) h = other_says c n row rows (End name) refl h
row_says c n row rows (Pi target value) h = other_says c n row rows (Pi target value) refl h
row_says c n row rows (Comment text) h = other_says c n row rows (Comment text) refl h

pub row_faulty : (c : Context) (n : ℕ) (row : Row) (rows : List Row) (number : ℕ) → reading row ≡ faulty number
    → row_step c n row rows ≡ bad (fault_at (is_attribute_row row && is_none c.tag) number)
unfolding row_step
row_faulty c n row rows number h =
    elim (cases_Bool (is_attribute_row row && is_none c.tag)) [
      | inl t ↦ elim (cases_Bool (number == 3)) [ inl u ↦ rw (t, h, u) refl | inr v ↦ rw (t, h, v) refl ]
      | inr f ↦ rw (f, h) refl
    ]
