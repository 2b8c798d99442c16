-- What is left to do, line by line of the bytes.
use Rattle.std.proofs.Common.{◌≡◌, ℕ, ◌<◌, ◌≤◌, List, [], ◌∷◌, Option, None, Some, Result, Ok, Err, Bool, true, false, refl, sym, ◌∙◌, ap, subst, length}
use Rattle.std.proofs.Common.{drop, arith}
use Rattle.std.specs.Prelude.{not, ◌&&◌, is_none, nat_le, if◌then◌else◌}
use Rattle.std.proofs.lemmas.Bool.Decides.{nat_tests}
use Rattle.std.proofs.lemmas.List.{length-drop}
use Rattle.xs_pyx.specs.Row.{Row, rows_of, rows_behind, first_row, behind_row}
use Rattle.xs_pyx.specs.Results.{TakesLine, IsFaulty, Reads}
use Rattle.xs_pyx.specs.declared.line.Line.{Line}
use Rattle.xs_pyx.specs.declared.rest.Rest.{Rest}
use Rattle.xs_pyx.specs.declared.view.LineView.{LineView}
use Rattle.xs_pyx.specs.Views.{reported, line_shown, HasReadable, IsReadable}
use Rattle.xs_build.specs.declared.document.Built.{Built}
use Rattle.xs_build.specs.declared.tag_names.Expanded.{Expanded}
use Rattle.xs_build.specs.declared.fault.BuildFault.{BuildFault}
use Rattle.xs_build.specs.declared.fault.BuildFault.TheVariants.{Bad, NoMemory}
use Rattle.xs_build.specs.Faults.{too_large}
use Rattle.xs_build.specs.Start.{begins_with, is_attribute_row}
use Rattle.xs_build.specs.Document.{refused, document}
use Rattle.xs_build.specs.steps.Rest.{left, concluded, fault_at, Goes}
use Rattle.xs_build.specs.steps.Invariant.{IsGood}
use Rattle.xs_build.specs.Results.{Builds}
use Rattle.xs_build.specs.steps.State.{State, stops, goes, initial, context, stepped, next_line, Steps}
use Rattle.xs_build.proofs.StepAgreementLemmas.{agreement}
use Rattle.xs_build.proofs.DeclarationLemmas.{attribute_first}
use Rattle.xs_build.proofs.InvariantLemmas.{GoodNext, good_line, good_next}
use Rattle.xs_build.proofs.RestStepLemmas.{after, after_line, after_bad, after_all, from_start}
use Rattle.xs_build.proofs.ReadingLemmas.{row_faulty}

-- the lines of bytes that have a first line
abbrev pub Divides : List ℕ → Type 0
Divides bytes = 0 < length bytes → rows_of bytes ≡ first_row bytes ∷ rows_of (behind_row bytes)

pub takes : (found : Option (LineView × ℕ)) (view : LineView) (size : ℕ) (bytes : List ℕ) → found ≡ Some (view, size) → Reads (reported (Ok found)) bytes
    → TakesLine bytes (line_shown view) size
takes found view size bytes e h = rw e at h

pub is_readable : (found : Option (LineView × ℕ)) (view : LineView) (size : ℕ) → found ≡ Some (view, size) → HasReadable (Ok found) → IsReadable view
is_readable found view size e h = rw e at h

-- behind a line that is taken there are fewer bytes
pub shorter : (bytes behind : List ℕ) (line : Line) (size : ℕ) → TakesLine bytes line size → behind ≡ drop size bytes → length behind < length bytes
shorter bytes behind line size t same = omega (arith, ap length same, length-drop size bytes, t.some, t.within)

some_bytes : (bytes : List ℕ) (size : ℕ) → 0 < size → size ≤ length bytes → 0 < length bytes
some_bytes bytes size a b = omega arith

rows_taken : (bytes behind : List ℕ) (line : Line) (size : ℕ) → TakesLine bytes line size → Divides bytes → behind ≡ drop size bytes
    → rows_of bytes ≡ first_row bytes ∷ rows_of behind
rows_taken bytes behind line size t rows same =
    rows (some_bytes bytes size t.some t.within) ∙ ap (λ b. first_row bytes ∷ rows_of b) (sym (same ∙ t.behind))

line_leaves : (s : State) (bytes behind : List ℕ) (line : Line) (size : ℕ) → IsGood s → TakesLine bytes line size → Divides bytes → behind ≡ drop size bytes
    → left s (rows_of bytes) ≡ after (stepped s line (rows_of behind)) (rows_of behind)
line_leaves s bytes behind line size g t rows same = ap (left s) (rows_taken bytes behind line size t rows same)
    ∙ after_line s (first_row bytes) (rows_of behind) line g t.says

pub line_goes : (s t : State) (bytes behind : List ℕ) (line : Line) (size : ℕ) → IsGood s → TakesLine bytes line size → Divides bytes
    → behind ≡ drop size bytes → stepped s line (rows_of behind) ≡ goes t → left s (rows_of bytes) ≡ left (next_line t) (rows_of behind)
line_goes s t bytes behind line size g takes rows same step =
    line_leaves s bytes behind line size g takes rows same ∙ ap (λ n. after n (rows_of behind)) step

pub line_good : (s t : State) (line : Line) (rows : List Row) → IsGood s → stepped s line rows ≡ goes t → IsGood (next_line t)
line_good s t line rows g step = good_next t (subst GoodNext step (good_line s line rows g))

pub line_stops : (s : State) (bytes behind : List ℕ) (line : Line) (size number at : ℕ) → IsGood s → TakesLine bytes line size → Divides bytes
    → behind ≡ drop size bytes → stepped s line (rows_of behind) ≡ stops number at → left s (rows_of bytes) ≡ refused number at
line_stops s bytes behind line size number at g takes rows same step =
    line_leaves s bytes behind line size g takes rows same ∙ ap (λ n. after n (rows_of behind)) step

begins_first : (bytes : List ℕ) → begins_with 65 bytes ≡ is_attribute_row (first_row bytes)
begins_first [] = refl
begins_first (b ∷ bytes) = sym (attribute_first b bytes)

pub no_tag : (follows : Bool) (seen : List Expanded) → is_none (if follows then Some seen else None) ≡ not follows
no_tag true seen = refl
no_tag false seen = refl

pub line_faulty : (s : State) (bytes : List ℕ) (number : ℕ) (stray : Bool) → IsFaulty bytes number → Divides bytes
    → stray ≡ (begins_with 65 bytes && is_none s.tag) → left s (rows_of bytes) ≡ refused (fault_at stray number) s.line
line_faulty s bytes number stray f rows is =
    let e : stray ≡ (is_attribute_row (first_row bytes) && is_none s.tag) = is ∙ ap (λ b. b && is_none s.tag) (begins_first bytes) in
    ap (left s) (rows f.some) ∙ after_bad s (first_row bytes) (rows_of (behind_row bytes))
    (fault_at (is_attribute_row (first_row bytes) && is_none s.tag) number)
    (row_faulty (context s) s.line (first_row bytes) (rows_of (behind_row bytes)) number f.faulty)
    ∙ ap (λ b. refused (fault_at b number) s.line) (sym e)

rows_none : rows_of [] ≡ []
unfolding rows_behind
rows_none = refl

pub line_none : (s : State) (bytes : List ℕ) → bytes ≡ [] → left s (rows_of bytes) ≡ concluded s
line_none s bytes e = ap (λ b. left s (rows_of b)) e ∙ ap (left s) rows_none ∙ after_all s

-- the exits at a bad line
pub exit_take : (e : BuildFault) (r : Result (Option Rest) BuildFault) (s t u : State) (bytes behind : List ℕ) (line : Line) (size : ℕ) → IsGood s
    → TakesLine bytes line size → Divides bytes → behind ≡ drop size bytes → Steps {X = Unit {0}} (Err e) (stepped s line (rows_of behind)) t
    → r ≡ Err e → Goes r s u bytes
exit_take (Bad number at) r s t u bytes behind line size g takes rows same step is =
    rw is (line_stops s bytes behind line size number at g takes rows same step)
exit_take NoMemory r s t u bytes behind line size g takes rows same step is = rw is tt

pub exit_read : (e : BuildFault) (r : Result Built BuildFault) (s t : State) (bytes rest : List ℕ) → Goes (Err e) s t rest
    → left s (rows_of rest) ≡ left initial (rows_of bytes) → r ≡ Err e → Builds r (left initial (rows_of bytes))
exit_read (Bad number at) r s t bytes rest h same is = rw is (sym same ∙ h)
exit_read NoMemory r s t bytes rest h same is = rw is tt

-- at the end of the bytes
pub whole : (r : Result Built BuildFault) (s t : State) (bytes rest : List ℕ) → left s (rows_of rest) ≡ concluded t
    → left s (rows_of rest) ≡ left initial (rows_of bytes) → Builds r (concluded t) → Builds r (left initial (rows_of bytes))
whole r s t bytes rest h same b = subst (Builds r) (sym h ∙ same) b

-- a document of at most as many bytes as the limit, and a longer one
pub within_limit : (limit : ℕ) (bytes : List ℕ) → length bytes ≤ limit → document limit bytes ≡ left initial (rows_of bytes)
unfolding document
within_limit limit bytes h = let yes : nat_le (length bytes) limit ≡ true = grind (arith, nat_tests) in
    rw yes (agreement (rows_of bytes) ∙ sym (from_start (rows_of bytes)))

pub beyond_limit : (limit : ℕ) (bytes : List ℕ) → limit < length bytes → document limit bytes ≡ refused too_large 0
unfolding document
beyond_limit limit bytes h = let low : nat_le (length bytes) limit ≡ false = grind (arith, nat_tests) in rw low refl
