-- The relation between bytes and lines, and the function that reads them, say the same.
use Rattle.std.proofs.Common.{◌≡◌, ◌≢◌, ℕ, ◌+◌, ◌-◌, ◌<◌, ◌≤◌, Bool, true, false, cond, List, [], ◌∷◌, ◌++◌, length, drop, map, Option, Some, None, Result, Ok, Err, IsErrOf, IsSome, is_some, refl, sym, ◌∙◌, ap, subst, arith, ◌⊎◌, ◌↔◌, inl, inr}
use Rattle.std.specs.List.{list_any, before_first}
use Rattle.std.specs.Str.{IsUtf8, is_utf8}
use Rattle.std.proofs.lemmas.Bool.{cases_Bool}
use Rattle.std.proofs.lemmas.Bool.Decides.{nat_tests, eqb_tells}
use Rattle.std.proofs.lemmas.List.{length-append, length-drop}
use Rattle.std.proofs.lemmas.Str.{IsUtf8-nil, is_utf8-from_IsUtf8, IsUtf8-from_is_utf8}
use Rattle.xs_text.specs.Escapes.{unescaped, Represents, itself}
use Rattle.xs_text.proofs.UnescapeLemmas.{unescaped-nil, unescaped-Represents, Represents-unescaped}
use Rattle.xs_pyx.specs.declared.line.Line.{Line}
use Rattle.xs_pyx.specs.declared.line.Line.TheVariants.{Attr, Chars, Pi, Comment}
use Rattle.xs_pyx.specs.Row.{Row, rows_behind, rows_of, first_row, behind_row, is_line_feed}
use Rattle.xs_pyx.specs.Reading.{Reading, says, faulty, reading, ends_name, name_in, value_in, data_of, begins_line, line_of, ended_reading, rest_reading, kind_reading}
use Rattle.xs_pyx.specs.Lines.{IsWellEscaped, HasNo, IsLine, start, attribute, attribute_alone, chars, end, instruction, instruction_alone, comment, is_line_kind, HasFault, not_utf8, empty, unknown, bad_escape, no_line_feed, Says, AreLines, no_lines, first_line, AreRows, no_rows, last_row, ended_row}
use Rattle.xs_pyx.specs.declared.line.LineFault.{LineFault}
use Rattle.xs_pyx.specs.declared.line.LineFault.TheVariants.{Bad, NoMemory}
use Rattle.xs_pyx.specs.Writing.{written, IsReadBack, IsLineBefore}
use Rattle.xs_pyx.specs.Results.{TakesLine, IsFaulty, Reads, FindsLine, FindsFault, Finds, SaysLine}
use Rattle.xs_text.proofs.FirstByteLemmas.{before-none, after-none, before-at, after-at, first_of_any, is_the}
use Rattle.xs_pyx.proofs.EscapeLemmas.{Represents-append, Represents-cut}
use Rattle.xs_pyx.proofs.ReadLemmas.{reading_text, row_of_no_text}
use Rattle.xs_pyx.proofs.RowLemmas.{rows_first}
use Rattle.xs_pyx.proofs.WriteLemmas.{row-ended, row-unended}

no_escape : (b : ℕ) → b ≡ 32 → b ≢ 92
no_escape b is other = omega arith

-- ---- what the relation says is read
record PairRead (name written value : List ℕ) : Type 0 where
  whole : (text : List ℕ) × (unescaped (name ++ 32 ∷ written) ≡ Some text)
  name_read : name_in (name ++ 32 ∷ written) ≡ name
  value_read : value_in (name ++ 32 ∷ written) ≡ written
  meant : unescaped written ≡ Some value

pair-read : (name written value : List ℕ) → HasNo 32 name → IsWellEscaped name → Represents written value → PairRead name written value
pair-read name written value none escaped stands =
    record {
      whole = (
        escaped.0 ++ 32 ∷ value,
        unescaped-Represents (name ++ 32 ∷ written) (escaped.0 ++ 32 ∷ value)
            (Represents-append name (32 ∷ written) escaped.0 (32 ∷ value) escaped.1 (itself 32 written value (no_escape 32 refl) stands)),
      );
      name_read = before-at ends_name name 32 written none refl;
      value_read = after-at ends_name name 32 written none refl;
      meant = unescaped-Represents written value stands;
    }

pub kind_reading-IsLine : (bytes : List ℕ) (line : Line) (ended : Bool) → IsLine bytes line → kind_reading bytes ended ≡ ended_reading line ended
kind_reading-IsLine _ _ ended (start name escaped) = rw (unescaped-Represents name escaped.0 escaped.1) refl
kind_reading-IsLine _ _ ended (attribute name written value none escaped stands) =
    let pair = pair-read name written value none escaped stands in rw (pair.whole.1, pair.name_read, pair.value_read, pair.meant) refl
kind_reading-IsLine _ _ ended (attribute_alone name none escaped) =
    rw (unescaped-Represents name escaped.0 escaped.1, before-none ends_name name none, after-none ends_name name none, unescaped-nil) refl
kind_reading-IsLine _ _ ended (chars written text stands) = rw (unescaped-Represents written text stands) refl
kind_reading-IsLine _ _ ended (end name escaped) = rw (unescaped-Represents name escaped.0 escaped.1) refl
kind_reading-IsLine _ _ ended (instruction target written value none escaped stands) =
    let pair = pair-read target written value none escaped stands in rw (pair.whole.1, pair.name_read, pair.value_read, pair.meant) refl
kind_reading-IsLine _ _ ended (instruction_alone target none escaped) =
    rw (unescaped-Represents target escaped.0 escaped.1, before-none ends_name target none, after-none ends_name target none, unescaped-nil) refl
kind_reading-IsLine _ _ ended (comment written text stands) = rw (unescaped-Represents written text stands) refl

true_is_not_false : (b : Bool) → b ≡ true → b ≡ false → ⊥
true_is_not_false b t f = absurd (cc)

begins-kind : (kind : ℕ) (b : Bool) → is_line_kind kind ≡ b → begins_line kind ≡ b
begins-kind kind true h = grind (arith, nat_tests)
begins-kind kind false h = grind (arith, nat_tests)

kind-begins : (kind : ℕ) (b : Bool) → begins_line kind ≡ b → is_line_kind kind ≡ b
kind-begins kind true h = grind (arith, nat_tests)
kind-begins kind false h = grind (arith, nat_tests)

not_escaped : (o : Option (List ℕ)) (written : List ℕ) → unescaped written ≡ o → ¬ IsWellEscaped written → is_some o ≡ false
not_escaped None written e none = refl
not_escaped (Some text) written e none = absurd (none (text, Represents-unescaped written text e))

fault-read : (bytes : List ℕ) (ended : Bool) (number : ℕ) → HasFault (record { bytes = bytes; ended = ended }) number
    → reading (record { bytes = bytes; ended = ended }) ≡ faulty number
fault-read bytes ended _ (not_utf8 none) = row_of_no_text bytes ended none
fault-read bytes ended _ (empty is) =
    reading_text bytes ended (subst IsUtf8 (sym is) IsUtf8-nil) ∙ ap (λ bs. kind_reading bs ended) is
fault-read bytes ended _ (unknown kind rest is utf8 none) =
    reading_text bytes ended utf8 ∙ ap (λ bs. kind_reading bs ended) is
    ∙ ap (λ b. cond b (rest_reading kind rest ended) (faulty 1)) (begins-kind kind false none)
fault-read bytes ended _ (bad_escape kind rest is utf8 begins none) =
    reading_text bytes ended utf8 ∙ ap (λ bs. kind_reading bs ended) is
    ∙ ap (λ b. cond b (rest_reading kind rest ended) (faulty 1)) (begins-kind kind true begins)
    ∙ ap (λ b. cond b (ended_reading (line_of kind rest) ended) (faulty 2)) (not_escaped (unescaped rest) rest refl none)
fault-read bytes ended _ (no_line_feed line unended utf8 is) =
    reading_text bytes ended utf8 ∙ kind_reading-IsLine bytes line ended is ∙ ap (λ b. ended_reading line b) unended

pub reading-Says : (row : Row) (said : Reading) → Says row said → reading row ≡ said
reading-Says row (says line) h =
    reading_text row.bytes row.ended h.1 ∙ kind_reading-IsLine row.bytes line row.ended h.2 ∙ ap (λ b. ended_reading line b) h.0
reading-Says row (faulty number) h = fault-read row.bytes row.ended number h

-- ---- what is read the relation says
-- a name, and perhaps a space and a value
data IsPair : List ℕ → Type 0 where
  both : (name written value : List ℕ) → HasNo 32 name → IsWellEscaped name → Represents written value → IsPair (name ++ 32 ∷ written)
  alone : (name : List ℕ) → HasNo 32 name → IsWellEscaped name → IsPair name

pair_of : (rest text : List ℕ) → Represents rest text → IsPair rest
pair_of rest text h =
    elim (cases_Bool (list_any ends_name rest)) [
      | inl t ↦
          let q = first_of_any ends_name rest t in
          let space : q.at ≡ 32 = is_the q.at 32 q.passes in
          let whole : rest ≡ q.front ++ 32 ∷ q.back = q.whole ∙ ap (λ b. q.front ++ b ∷ q.back) space in
          let c = Represents-cut q.front 32 q.back text (no_escape 32 refl) refl (subst (λ (r : List ℕ). Represents r text) whole h) in
          subst IsPair (sym whole) (both q.front q.back c.1 q.none (c.0, c.2) c.3)
      | inr f ↦ alone rest f (text, h)
    ]

attribute_of : (rest : List ℕ) → IsPair rest → IsLine (65 ∷ rest) (Attr (name_in rest) (data_of (value_in rest)))
attribute_of _ (both name written value none escaped stands) =
    rw (before-at ends_name name 32 written none refl, after-at ends_name name 32 written none refl, unescaped-Represents written value stands)
    (attribute name written value none escaped stands)
attribute_of _ (alone name none escaped) =
    rw (before-none ends_name name none, after-none ends_name name none, unescaped-nil) (attribute_alone name none escaped)

instruction_of : (rest : List ℕ) → IsPair rest → IsLine (63 ∷ rest) (Pi (name_in rest) (data_of (value_in rest)))
instruction_of _ (both name written value none escaped stands) =
    rw (before-at ends_name name 32 written none refl, after-at ends_name name 32 written none refl, unescaped-Represents written value stands)
    (instruction name written value none escaped stands)
instruction_of _ (alone name none escaped) =
    rw (before-none ends_name name none, after-none ends_name name none, unescaped-nil) (instruction_alone name none escaped)

data_is : (rest text : List ℕ) → Represents rest text → text ≡ data_of rest
data_is rest text h = rw (unescaped-Represents rest text h) refl

by : (b n : ℕ) → (b ≡ n) ⊎ (b ≢ n)
by b n = elim (eqb_tells b n) [ inl h ↦ inl h.1 | inr h ↦ inr h.1 ]

no_kind : (kind : ℕ) → kind ≢ 40 → kind ≢ 65 → kind ≢ 45 → kind ≢ 41 → kind ≢ 63 → kind ≢ 67 → begins_line kind ≡ true → ⊥
no_kind kind a b c d e f h = grind (arith, nat_tests)

abbrev IsLineOf : List ℕ → ℕ → Type 0
IsLineOf rest kind = IsLine (kind ∷ rest) (line_of kind rest)

line_found : (kind : ℕ) (rest text : List ℕ) → begins_line kind ≡ true → Represents rest text → IsLine (kind ∷ rest) (line_of kind rest)
line_found kind rest text begins h =
    elim (by kind 40) [
      | inl is ↦ subst (IsLineOf rest) (sym is) (start rest (text, h))
      | inr a ↦ elim (by kind 65) [
        | inl is ↦ subst (IsLineOf rest) (sym is) (attribute_of rest (pair_of rest text h))
        | inr b ↦ elim (by kind 45) [
          | inl is ↦ subst (IsLineOf rest) (sym is) (subst (λ (t : List ℕ). IsLine (45 ∷ rest) (Chars t)) (data_is rest text h) (chars rest text h))
          | inr c ↦ elim (by kind 41) [
            | inl is ↦ subst (IsLineOf rest) (sym is) (end rest (text, h))
            | inr d ↦ elim (by kind 63) [
              | inl is ↦ subst (IsLineOf rest) (sym is) (instruction_of rest (pair_of rest text h))
              | inr e ↦ elim (by kind 67) [
                | inl is ↦ subst (IsLineOf rest) (sym is) (subst (λ (t : List ℕ). IsLine (67 ∷ rest) (Comment t)) (data_is rest text h) (comment rest text h))
                | inr f ↦ absurd (no_kind kind a b c d e f begins)
              ]
            ]
          ]
        ]
      ]
    ]

module _ (bytes : List ℕ) (ended : Bool) where
  abbrev IsSaid : Reading → Type 0
  IsSaid said = Says (record { bytes = bytes; ended = ended }) said

  ended-says : (b : Bool) (line : Line) → ended ≡ b → IsUtf8 bytes → IsLine bytes line → IsSaid (ended_reading line b)
  ended-says true line is utf8 h = (is, utf8, h)
  ended-says false line is utf8 h = no_line_feed line is utf8 h

  rest-says : (o : Option (List ℕ)) (kind : ℕ) (rest : List ℕ) → unescaped rest ≡ o → bytes ≡ kind ∷ rest → IsUtf8 bytes → begins_line kind ≡ true
      → IsSaid (cond (is_some o) (ended_reading (line_of kind rest) ended) (faulty 2))
  rest-says None kind rest e is utf8 begins =
      bad_escape kind rest is utf8 (kind-begins kind true begins) (λ escaped. let no : None ≡ Some escaped.0 = sym e
      ∙ unescaped-Represents rest escaped.0 escaped.1 in absurd (cc))
  rest-says (Some text) kind rest e is utf8 begins =
      ended-says ended (line_of kind rest) refl utf8
      (subst (λ (bs : List ℕ). IsLine bs (line_of kind rest)) (sym is) (line_found kind rest text begins (Represents-unescaped rest text e)))

  kind-says : (b : Bool) (kind : ℕ) (rest : List ℕ) → begins_line kind ≡ b → bytes ≡ kind ∷ rest → IsUtf8 bytes
      → IsSaid (cond b (rest_reading kind rest ended) (faulty 1))
  kind-says true kind rest begins is utf8 = rest-says (unescaped rest) kind rest refl is utf8 begins
  kind-says false kind rest begins is utf8 = unknown kind rest is utf8 (kind-begins kind false begins)

  text-says : (bs : List ℕ) → bytes ≡ bs → IsUtf8 bytes → IsSaid (kind_reading bs ended)
  text-says [] is utf8 = empty is
  text-says (kind ∷ rest) is utf8 = kind-says (begins_line kind) kind rest refl is utf8

  row-says : (b : Bool) → is_utf8 bytes ≡ b → IsSaid (cond b (kind_reading bytes ended) (faulty 3))
  row-says true is = text-says bytes refl (IsUtf8-from_is_utf8 bytes is)
  row-says false is = not_utf8 (λ utf8. true_is_not_false (is_utf8 bytes) (is_utf8-from_IsUtf8 bytes utf8) is)

Says-itself : (row : Row) → Says row (reading row)
unfolding reading
Says-itself row = row-says row.bytes row.ended (is_utf8 row.bytes) refl

pub Says-reading : (row : Row) (said : Reading) → reading row ≡ said → Says row said
Says-reading row said is = subst (Says row) is (Says-itself row)

pub rows_are_read : (row : Row) (said : Reading) → Says row said ↔ (reading row ≡ said)
rows_are_read row said = (reading-Says row said, Says-reading row said)

-- ---- rows
record IsCut (bytes : List ℕ) : Type 0 where
  whole : bytes ≡ before_first is_line_feed bytes ++ 10 ∷ behind_row bytes
  one_line : HasNo 10 (before_first is_line_feed bytes)

cut_of : (bytes : List ℕ) → list_any is_line_feed bytes ≡ true → IsCut bytes
cut_of bytes ended =
    let q = first_of_any is_line_feed bytes ended in
    let feed : q.at ≡ 10 = is_the q.at 10 q.passes in
    let cut : bytes ≡ q.front ++ 10 ∷ q.back = q.whole ∙ ap (λ b. q.front ++ b ∷ q.back) feed in
    let front : before_first is_line_feed bytes ≡ q.front = ap (before_first is_line_feed) q.whole
    ∙ before-at is_line_feed q.front q.at q.back q.none q.passes in
    let back : behind_row bytes ≡ q.back = ap behind_row q.whole ∙ after-at is_line_feed q.front q.at q.back q.none q.passes in
    record {
      whole = cut ∙ sym (ap (λ f. f ++ 10 ∷ behind_row bytes) front ∙ ap (λ b. q.front ++ 10 ∷ b) back);
      one_line = ap (list_any is_line_feed) front ∙ q.none;
    }

rows-ended_row : (bytes behind : List ℕ) → HasNo 10 bytes → rows_of (bytes ++ 10 ∷ behind) ≡ record { bytes = bytes; ended = true } ∷ rows_of behind
rows-ended_row bytes behind none =
    let some : 0 < length (bytes ++ 10 ∷ behind) = omega (arith, length-append bytes (10 ∷ behind)) in
    rows_first (bytes ++ 10 ∷ behind) some
    ∙ ap (λ r. r ∷ rows_of (behind_row (bytes ++ 10 ∷ behind))) (row-ended bytes behind none)
    ∙ ap (λ b. record { bytes = bytes; ended = true } ∷ rows_of b) (after-at is_line_feed bytes 10 behind none refl)

rows-last_row : (b : ℕ) (bytes : List ℕ) → HasNo 10 (b ∷ bytes) → rows_of (b ∷ bytes) ≡ record { bytes = b ∷ bytes; ended = false } ∷ []
unfolding rows_behind
rows-last_row b bytes none =
    rows_first (b ∷ bytes) (omega arith)
    ∙ ap (λ r. r ∷ rows_of (behind_row (b ∷ bytes))) (row-unended (b ∷ bytes) none)
    ∙ ap (λ rest. record { bytes = b ∷ bytes; ended = false } ∷ rows_of rest) (after-none is_line_feed (b ∷ bytes) none)

AreRows-rows : (bytes : List ℕ) (rows : List Row) → AreRows bytes rows → rows_of bytes ≡ rows
unfolding rows_behind
AreRows-rows _ _ no_rows = refl
AreRows-rows _ _ (last_row b bytes none) = rows-last_row b bytes none
AreRows-rows _ _ (ended_row bytes behind rows none more) =
    rows-ended_row bytes behind none ∙ ap (λ rs. record { bytes = bytes; ended = true } ∷ rs) (AreRows-rows behind rows more)

-- the first row of bytes that are not empty, and the rows behind it
rows_more : (ended : Bool) (b : ℕ) (bytes : List ℕ) (rows : List Row) → list_any is_line_feed (b ∷ bytes) ≡ ended → AreRows (behind_row (b ∷ bytes)) rows
    → rows_of (behind_row (b ∷ bytes)) ≡ rows → AreRows (b ∷ bytes) (first_row (b ∷ bytes) ∷ rows)
unfolding rows_behind
rows_more true b bytes rows is more same =
    let cut = cut_of (b ∷ bytes) is in
    let rest = behind_row (b ∷ bytes) in
    let front = before_first is_line_feed (b ∷ bytes) in
    let row : record { bytes = front; ended = true } ≡ first_row (b ∷ bytes) =
    ap (λ (e : Bool). let r : Row = record { bytes = front; ended = e } in r) (sym is) in
    subst (λ (r : Row). AreRows (b ∷ bytes) (r ∷ rows)) row
    (subst (λ (bs : List ℕ). AreRows bs (record { bytes = front; ended = true } ∷ rows)) (sym cut.whole) (ended_row front rest rows cut.one_line more))
rows_more false b bytes rows is more same =
    let nothing_left : [] ≡ rows = ap rows_of (sym (after-none is_line_feed (b ∷ bytes) is)) ∙ same in
    subst (λ (r : Row). AreRows (b ∷ bytes) (r ∷ rows)) (sym (row-unended (b ∷ bytes) is))
    (subst (λ (rs : List Row). AreRows (b ∷ bytes) (record { bytes = b ∷ bytes; ended = false } ∷ rs)) nothing_left (last_row b bytes is))

rows-AreRows : (rows : List Row) (bytes : List ℕ) → rows_of bytes ≡ rows → AreRows bytes rows
unfolding rows_behind
rows-AreRows [] [] e = no_rows
rows-AreRows [] (b ∷ bytes) e =
    let no : first_row (b ∷ bytes) ∷ rows_of (behind_row (b ∷ bytes)) ≡ [] = sym (rows_first (b ∷ bytes) (omega arith)) ∙ e in absurd (cc)
rows-AreRows (row ∷ rows) [] e = let no : [] ≡ row ∷ rows = e in absurd (cc)
rows-AreRows (row ∷ rows) (b ∷ bytes) e =
    let whole : first_row (b ∷ bytes) ∷ rows_of (behind_row (b ∷ bytes)) ≡ row ∷ rows = sym (rows_first (b ∷ bytes) (omega arith)) ∙ e in
    let head : first_row (b ∷ bytes) ≡ row = cc in
    let tail : rows_of (behind_row (b ∷ bytes)) ≡ rows = cc in
    subst (λ (r : Row). AreRows (b ∷ bytes) (r ∷ rows)) head
    (rows_more (list_any is_line_feed (b ∷ bytes)) b bytes rows refl (rows-AreRows rows (behind_row (b ∷ bytes)) tail) tail)

pub bytes_are_cut : (bytes : List ℕ) (rows : List Row) → AreRows bytes rows ↔ (rows_of bytes ≡ rows)
bytes_are_cut bytes rows = (AreRows-rows bytes rows, rows-AreRows rows bytes)

-- ---- the first row
line_of_row : (bytes : List ℕ) (line : Line) (taken : ℕ) → reading (first_row bytes) ≡ says line
    → (bytes ≡ before_first is_line_feed bytes ++ 10 ∷ behind_row bytes → taken ≡ length (before_first is_line_feed bytes) + 1) → FindsLine bytes line taken
line_of_row bytes line taken is count =
    let said = Says-reading (first_row bytes) (says line) is in
    let cut = cut_of bytes said.0 in
    record {
      row = before_first is_line_feed bytes;
      behind = behind_row bytes;
      whole = cut.whole;
      one_line = cut.one_line;
      utf8 = said.1;
      is_line =
          said.2;
      count = count cut.whole;
    }

-- how many bytes a line takes
taken_is : (bytes row behind : List ℕ) (taken : ℕ) → taken ≤ length bytes → drop taken bytes ≡ behind → bytes ≡ row ++ 10 ∷ behind → taken ≡ length row + 1
taken_is bytes row behind taken within left whole =
    let rest : length bytes - taken ≡ length behind = sym (length-drop taken bytes) ∙ ap length left in
    let all : length bytes ≡ length row + length (10 ∷ behind) = ap length whole ∙ length-append row (10 ∷ behind) in
    omega arith

pub finds-line : (bytes : List ℕ) (line : Line) (taken : ℕ) → TakesLine bytes line taken → FindsLine bytes line taken
finds-line bytes line taken takes =
    line_of_row bytes line taken takes.says (taken_is bytes (before_first is_line_feed bytes) (behind_row bytes) taken takes.within takes.behind)

finds-fault : (bytes : List ℕ) (number : ℕ) → IsFaulty bytes number → FindsFault bytes number
finds-fault bytes number h =
    record {
      row = first_row bytes;
      behind = rows_of (behind_row bytes);
      rows = rows-AreRows (first_row bytes ∷ rows_of (behind_row bytes)) bytes (rows_first bytes h.some);
      fault = Says-reading (first_row bytes) (faulty number) h.faulty;
    }

pub finds-reads : (r : Result (Option (Line × ℕ)) LineFault) (bytes : List ℕ) → Reads r bytes → (IsErrOf r NoMemory → SaysLine (reading (first_row bytes)))
    → Finds r bytes
finds-reads (Ok None) bytes h memory = h
finds-reads (Ok (Some found)) bytes h memory = finds-line bytes found.0 found.1 h
finds-reads (Err (Bad number)) bytes h memory = finds-fault bytes number h
finds-reads (Err NoMemory) bytes h memory =
    let line = memory refl in
    let taken = length (before_first is_line_feed bytes) + 1 in
    (line.0, taken, line_of_row bytes line.0 taken line.1 (λ whole. refl))

-- ---- whole documents
abbrev readings : List ℕ → List Reading
readings bytes = map reading (rows_of bytes)

abbrev sayings : List Line → List Reading
sayings lines = map (λ line. says line) lines

AreLines-read : (bytes : List ℕ) (lines : List Line) → AreLines bytes lines → readings bytes ≡ sayings lines
unfolding rows_behind
AreLines-read _ _ no_lines = refl
AreLines-read _ _ (first_line bytes behind line lines none utf8 is more) =
    let row : Row = record { bytes = bytes; ended = true } in
    ap (map reading) (rows-ended_row bytes behind none)
    ∙ ap (λ said. said ∷ readings behind) (reading-Says row (says line) (refl, utf8, is))
    ∙ ap (λ said. says line ∷ said) (AreLines-read behind lines more)

line_first : (bytes : List ℕ) (line : Line) (lines : List Line) → reading (first_row bytes) ≡ says line → AreLines (behind_row bytes) lines
    → AreLines bytes (line ∷ lines)
line_first bytes line lines is more =
    let said = Says-reading (first_row bytes) (says line) is in
    let cut = cut_of bytes said.0 in
    subst (λ (bs : List ℕ). AreLines bs (line ∷ lines)) (sym cut.whole)
    (first_line (before_first is_line_feed bytes) (behind_row bytes) line lines cut.one_line said.1 said.2 more)

-- before the bytes of lines, a line that is read back makes one line more
pub line_before : (line : Line) → ((more : List ℕ) → IsReadBack line more) → IsLineBefore line
line_before line back more lines are =
    line_first (written line ++ more) line lines (back more).reads (subst (λ (bs : List ℕ). AreLines bs lines) (sym (back more).behind) are)

first_reading : (b : ℕ) (bytes : List ℕ) → readings (b ∷ bytes) ≡ reading (first_row (b ∷ bytes)) ∷ readings (behind_row (b ∷ bytes))
first_reading b bytes = ap (map reading) (rows_first (b ∷ bytes) (omega arith))

read-AreLines : (lines : List Line) (bytes : List ℕ) → readings bytes ≡ sayings lines → AreLines bytes lines
unfolding rows_behind
read-AreLines [] [] e = no_lines
read-AreLines [] (b ∷ bytes) e =
    let no : reading (first_row (b ∷ bytes)) ∷ readings (behind_row (b ∷ bytes)) ≡ [] = sym (first_reading b bytes) ∙ e in
    absurd (cc)
read-AreLines (line ∷ lines) [] e = let no : [] ≡ says line ∷ sayings lines = e in absurd (cc)
read-AreLines (line ∷ lines) (b ∷ bytes) e =
    let whole : reading (first_row (b ∷ bytes)) ∷ readings (behind_row (b ∷ bytes)) ≡ says line ∷ sayings lines = sym (first_reading b bytes) ∙ e in
    let head : reading (first_row (b ∷ bytes)) ≡ says line = cc in
    let tail : readings (behind_row (b ∷ bytes)) ≡ sayings lines = cc in
    line_first (b ∷ bytes) line lines head (read-AreLines lines (behind_row (b ∷ bytes)) tail)

pub documents_are_read : (bytes : List ℕ) (lines : List Line) → AreLines bytes lines ↔ (readings bytes ≡ sayings lines)
documents_are_read bytes lines = (AreLines-read bytes lines, read-AreLines lines bytes)

-- ---- what stands behind the first space of a text that represents data
some_of : (o : Option (List ℕ)) → IsSome o → (text : List ℕ) × (o ≡ Some text)
some_of None h = absurd (cc)
some_of (Some text) h = (text, refl)

value_of_pair : (rest : List ℕ) → IsPair rest → IsSome (unescaped (value_in rest))
value_of_pair _ (both name written value none escaped stands) =
    rw (after-at ends_name name 32 written none refl, unescaped-Represents written value stands) refl
value_of_pair _ (alone name none escaped) = rw (after-none ends_name name none, unescaped-nil) refl

pub value_escaped : (rest : List ℕ) → IsSome (unescaped rest) → IsSome (unescaped (value_in rest))
value_escaped rest h =
    let some = some_of (unescaped rest) h in
    value_of_pair rest (pair_of rest some.0 (Represents-unescaped rest some.0 some.1))

-- ---- single rows
pub line_by_reading : (bytes : List ℕ) (line : Line) → reading (record { bytes = bytes; ended = true }) ≡ says line → (true ≡ true) × IsUtf8 bytes
    × IsLine bytes line
line_by_reading bytes line is = Says-reading (record { bytes = bytes; ended = true }) (says line) is

pub fault_by_reading : (bytes : List ℕ) (ended : Bool) (number : ℕ) → reading (record { bytes = bytes; ended = ended }) ≡ faulty number
    → HasFault (record { bytes = bytes; ended = ended }) number
fault_by_reading bytes ended number is = Says-reading (record { bytes = bytes; ended = ended }) (faulty number) is

pub lines_by_reading : (bytes : List ℕ) (lines : List Line) → map reading (rows_of bytes) ≡ map (λ line. says line) lines → AreLines bytes lines
lines_by_reading bytes lines are = read-AreLines lines bytes are
