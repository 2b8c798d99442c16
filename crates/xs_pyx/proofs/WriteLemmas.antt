-- What is written is read back.
use Rattle.std.proofs.Common.{◌≡◌, ◌≢◌, ℕ, zero, suc, ◌<◌, true, false, ◌||◌, List, [], ◌∷◌, ◌++◌, get_or, Option, Some, None, refl, ◌∙◌, ap, arith, lit<, append_assoc}
use Rattle.std.specs.List.{list_any}
use Rattle.std.specs.Str.{IsUtf8}
use Rattle.std.proofs.lemmas.Bool.{or_parts, or_from}
use Rattle.std.proofs.lemmas.Bool.Decides.{nat_tests}
use Rattle.std.proofs.lemmas.List.Folds.{list_any-append}
use Rattle.std.proofs.lemmas.Str.{IsUtf8-nil, IsUtf8-append, IsUtf8-from_ascii, is_utf8-from_IsUtf8}
use Rattle.xs_text.specs.Escapes.{letter_of, written_by, escaped_byte, escaped, unescaped, first_and_rest}
use Rattle.xs_text.proofs.EscapeLemmas.{escaped-nil, escaped-cons}
use Rattle.xs_text.proofs.UnescapeLemmas.{unescaped-plain, unescaped-escaped}
use Rattle.xs_text.proofs.Utf8Lemmas.{IsUtf8-escaped}
use Rattle.xs_pyx.specs.declared.line.Line.{Line}
use Rattle.xs_pyx.specs.declared.line.Line.TheVariants.{Start, Attr, Chars, End, Pi, Comment}
use Rattle.xs_pyx.specs.Row.{first_row, behind_row, is_line_feed}
use Rattle.xs_pyx.specs.Reading.{Reading, says, reading, kind_reading, ends_name, name_in, value_in}
use Rattle.xs_pyx.specs.Writing.{written, breaks_name, IsPlainName, IsPlain, HasTexts, IsReadBack}
use Rattle.xs_text.proofs.FirstByteLemmas.{before-none, before-at, after-at, any-at, any-fewer}
use Rattle.xs_pyx.proofs.ReadLemmas.{is_backslash, unescaped-front, unescaped_itself}

-- a plain name
no_blank : (b : ℕ) → breaks_name b ≡ false → ends_name b ≡ false
no_blank b h = (or_parts (ends_name b) (is_line_feed b) (or_parts (ends_name b || is_line_feed b) (is_backslash b) h).0).0

no_line_feed : (b : ℕ) → breaks_name b ≡ false → is_line_feed b ≡ false
no_line_feed b h = (or_parts (ends_name b) (is_line_feed b) (or_parts (ends_name b || is_line_feed b) (is_backslash b) h).0).1

no_backslash : (b : ℕ) → breaks_name b ≡ false → is_backslash b ≡ false
no_backslash b h = (or_parts (ends_name b || is_line_feed b) (is_backslash b) h).1

-- an escaped text holds no line feed
letter_is_none : (b l : ℕ) → letter_of b ≡ Some l → is_line_feed l ≡ false
letter_is_none b l e = grind (arith, nat_tests)

itself_is_none : (b : ℕ) → letter_of b ≡ None → is_line_feed b ≡ false
itself_is_none b e = grind (arith, nat_tests)

byte-one_line : (o : Option ℕ) (b : ℕ) → letter_of b ≡ o → list_any is_line_feed (written_by o b) ≡ false
byte-one_line None b e = or_from (is_line_feed b) false (itself_is_none b e) refl
byte-one_line (Some l) b e = or_from (is_line_feed l) false (letter_is_none b l e) refl

escaped-one_line : (text : List ℕ) → list_any is_line_feed (escaped text) ≡ false
escaped-one_line [] = ap (list_any is_line_feed) escaped-nil
escaped-one_line (b ∷ text) =
    ap (list_any is_line_feed) (escaped-cons b text) ∙ list_any-append is_line_feed (escaped_byte b) (escaped text)
    ∙ or_from _ _ (byte-one_line (letter_of b) b refl) (escaped-one_line text)

-- a line that a line feed ends
pub row-ended : (body more : List ℕ) → list_any is_line_feed body ≡ false → first_row (body ++ 10 ∷ more) ≡ record { bytes = body; ended = true }
row-ended body more none =
    rw (before-at is_line_feed body 10 more none refl, any-at is_line_feed body 10 more refl) refl

-- a line that none ends
pub row-unended : (bytes : List ℕ) → list_any is_line_feed bytes ≡ false → first_row bytes ≡ record { bytes = bytes; ended = false }
row-unended bytes none = rw (before-none is_line_feed bytes none, none) refl

ascii_one : (b : ℕ) → b < 128 → (i : ℕ) → get_or (b ∷ []) i 0 < 128
ascii_one b small zero = small
ascii_one b small (suc i) = lit< tt

ascii-utf8 : (b : ℕ) (bytes : List ℕ) → b < 128 → IsUtf8 bytes → IsUtf8 (b ∷ bytes)
ascii-utf8 b bytes small text = IsUtf8-append (b ∷ []) bytes (IsUtf8-from_ascii (b ∷ []) (ascii_one b small)) text

row-reads : (kind : ℕ) (rest : List ℕ) (said : Reading) → kind < 128 → IsUtf8 rest → kind_reading (kind ∷ rest) true ≡ said
    → reading (record { bytes = kind ∷ rest; ended = true }) ≡ said
unfolding reading
row-reads kind rest said small text is = rw (is_utf8-from_IsUtf8 (kind ∷ rest) (ascii-utf8 kind rest small text)) is

read-back : (line : Line) (kind : ℕ) (rest more : List ℕ) → written line ++ more ≡ kind ∷ rest ++ 10 ∷ more → is_line_feed kind ≡ false
    → list_any is_line_feed rest ≡ false → kind < 128 → IsUtf8 rest → kind_reading (kind ∷ rest) true ≡ says line → IsReadBack line more
read-back line kind rest more is first none small text said =
    let one_line : list_any is_line_feed (kind ∷ rest) ≡ false = or_from (is_line_feed kind) (list_any is_line_feed rest) first none in
    record {
      reads = ap (λ bytes. reading (first_row bytes)) is ∙ ap reading (row-ended (kind ∷ rest) more one_line) ∙ row-reads kind rest (says line) small text said;
      behind = ap behind_row is ∙ after-at is_line_feed (kind ∷ rest) 10 more one_line refl;
    }

-- a name and a value, with a space between them
pair-one_line : (name value : List ℕ) → list_any is_line_feed name ≡ false → list_any is_line_feed (name ++ 32 ∷ escaped value) ≡ false
pair-one_line name value none = list_any-append is_line_feed name (32 ∷ escaped value) ∙ or_from _ _ none (escaped-one_line value)

pair-utf8 : (name value : List ℕ) → IsUtf8 name → IsUtf8 value → IsUtf8 (name ++ 32 ∷ escaped value)
pair-utf8 name value n v = IsUtf8-append name (32 ∷ escaped value) n (ascii-utf8 32 (escaped value) (lit< tt) (IsUtf8-escaped value v))

pair-unescaped : (name value : List ℕ) → list_any is_backslash name ≡ false → unescaped (name ++ 32 ∷ escaped value) ≡ Some (name ++ 32 ∷ value)
pair-unescaped name value none =
    let blank : 32 ≢ 92 = omega arith in
    unescaped-front name (32 ∷ escaped value) (32 ∷ value) none (unescaped-plain 32 (escaped value) blank
    ∙ ap (λ o. first_and_rest (Some 32) o) (unescaped-escaped value))

-- a line of one name, of one text, and of a name and a value
name-back : (line : Line) (kind : ℕ) (name more : List ℕ) → written line ≡ kind ∷ name ++ 10 ∷ [] → is_line_feed kind ≡ false → kind < 128 → IsUtf8 name
    → IsPlainName name → (unescaped name ≡ Some name → kind_reading (kind ∷ name) true ≡ says line) → IsReadBack line more
name-back line kind name more is first small text plain said =
    read-back line kind name more (ap (λ bytes. bytes ++ more) is ∙ append_assoc (kind ∷ name) (10 ∷ []) more) first
    (any-fewer breaks_name is_line_feed name no_line_feed plain) small text
    (said (unescaped_itself name (any-fewer breaks_name is_backslash name no_backslash plain)))

text-back : (line : Line) (kind : ℕ) (text more : List ℕ) → written line ≡ kind ∷ escaped text ++ 10 ∷ [] → is_line_feed kind ≡ false → kind < 128
    → IsUtf8 text → (unescaped (escaped text) ≡ Some text → kind_reading (kind ∷ escaped text) true ≡ says line) → IsReadBack line more
text-back line kind text more is first small utf8 said =
    read-back line kind (escaped text) more (ap (λ bytes. bytes ++ more) is ∙ append_assoc (kind ∷ escaped text) (10 ∷ []) more) first
    (escaped-one_line text) small (IsUtf8-escaped text utf8) (said (unescaped-escaped text))

record PairReads (name value : List ℕ) : Type 0 where
  whole : unescaped (name ++ 32 ∷ escaped value) ≡ Some (name ++ 32 ∷ value)
  name_read : name_in (name ++ 32 ∷ escaped value) ≡ name
  value_read : value_in (name ++ 32 ∷ escaped value) ≡ escaped value
  meant : unescaped (escaped value) ≡ Some value

pair-reads : (name value : List ℕ) → IsPlainName name → PairReads name value
pair-reads name value plain =
    let none : list_any ends_name name ≡ false = any-fewer breaks_name ends_name name no_blank plain in
    record {
      whole = pair-unescaped name value (any-fewer breaks_name is_backslash name no_backslash plain);
      name_read = before-at ends_name name 32 (escaped value) none refl;
      value_read = after-at ends_name name 32 (escaped value) none refl;
      meant = unescaped-escaped value;
    }

pair-back : (line : Line) (kind : ℕ) (name value more : List ℕ) → written line ≡ kind ∷ name ++ 32 ∷ escaped value ++ 10 ∷ [] → is_line_feed kind ≡ false
    → kind < 128 → IsUtf8 name → IsUtf8 value → IsPlainName name → (PairReads name value → kind_reading (kind ∷ name ++ 32 ∷ escaped value) true ≡ says line)
    → IsReadBack line more
pair-back line kind name value more is first small n v plain said =
    read-back line kind (name ++ 32 ∷ escaped value) more (ap (λ bytes. bytes ++ more) is
    ∙ append_assoc (kind ∷ name ++ 32 ∷ escaped value) (10 ∷ []) more) first
    (pair-one_line name value (any-fewer breaks_name is_line_feed name no_line_feed plain)) small (pair-utf8 name value n v)
    (said (pair-reads name value plain))

pub reads_back : (line : Line) → HasTexts line → IsPlain line → (more : List ℕ) → IsReadBack line more
unfolding written
reads_back (Start name) utf8 plain more = name-back (Start name) 40 name more refl refl (lit< tt) utf8 plain (λ itself. rw itself refl)
reads_back (Attr name value) utf8 plain more =
    pair-back (Attr name value) 65 name value more refl refl (lit< tt) utf8.0 utf8.1 plain
    (λ pair. rw (pair.whole, pair.name_read, pair.value_read, pair.meant) refl)
reads_back (Chars text) utf8 plain more = text-back (Chars text) 45 text more refl refl (lit< tt) utf8 (λ back. rw back refl)
reads_back (End name) utf8 plain more = name-back (End name) 41 name more refl refl (lit< tt) utf8 plain (λ itself. rw itself refl)
reads_back (Pi target value) utf8 plain more =
    pair-back (Pi target value) 63 target value more refl refl (lit< tt) utf8.0 utf8.1 plain
    (λ pair. rw (pair.whole, pair.name_read, pair.value_read, pair.meant) refl)
reads_back (Comment text) utf8 plain more = text-back (Comment text) 67 text more refl refl (lit< tt) utf8 (λ back. rw back refl)

-- what is written is UTF-8
ended-utf8 : (text : List ℕ) → IsUtf8 text → IsUtf8 (text ++ 10 ∷ [])
ended-utf8 text u = IsUtf8-append text (10 ∷ []) u (ascii-utf8 10 [] (lit< tt) IsUtf8-nil)

pub IsUtf8-written : (line : Line) → HasTexts line → IsUtf8 (written line)
unfolding written
IsUtf8-written (Start name) u = ascii-utf8 40 (name ++ 10 ∷ []) (lit< tt) (ended-utf8 name u)
IsUtf8-written (Attr name value) u = ascii-utf8 65 (name ++ 32 ∷ escaped value ++ 10 ∷ []) (lit< tt)
    (ended-utf8 (name ++ 32 ∷ escaped value) (pair-utf8 name value u.0 u.1))
IsUtf8-written (Chars text) u = ascii-utf8 45 (escaped text ++ 10 ∷ []) (lit< tt) (ended-utf8 (escaped text) (IsUtf8-escaped text u))
IsUtf8-written (End name) u = ascii-utf8 41 (name ++ 10 ∷ []) (lit< tt) (ended-utf8 name u)
IsUtf8-written (Pi target value) u = ascii-utf8 63 (target ++ 32 ∷ escaped value ++ 10 ∷ []) (lit< tt)
    (ended-utf8 (target ++ 32 ∷ escaped value) (pair-utf8 target value u.0 u.1))
IsUtf8-written (Comment text) u = ascii-utf8 67 (escaped text ++ 10 ∷ []) (lit< tt) (ended-utf8 (escaped text) (IsUtf8-escaped text u))
