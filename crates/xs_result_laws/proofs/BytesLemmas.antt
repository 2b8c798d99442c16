-- The bytes of what is fit represent its events.
use Rattle.std.proofs.Common.{◌≡◌, ℕ, List, [], ◌∷◌, None, Bool, true, false, refl, sym, ap, subst, length}
use Rattle.std.proofs.Common.{arith}
use Rattle.std.specs.Prelude.{nat_le, if◌then◌else◌}
use Rattle.xs_pyx.specs.Row.{rows_of}
use Rattle.xs_pyx.specs.LineLaws.{DocumentsAreRead}
use Rattle.xs_pyx.specs.Lines.{AreLines, no_lines}
use Rattle.xs_pyx.specs.declared.line.Line.{Line}
use Rattle.xs_pyx.proofs.LineLemmas.{line_before}
use Rattle.xs_pyx.proofs.WriteLemmas.{reads_back}
use Rattle.xs_trace.specs.declared.event.Event.{Event}
use Rattle.xs_tree.specs.Record.{root_record}
use Rattle.xs_build.specs.Document.{Outcome, document, outcome, refused, tree}
use Rattle.xs_build.specs.DocumentLaws.{LinesGoByStep}
use Rattle.xs_build.specs.Faults.{too_large}
use Rattle.xs_build.specs.steps.Lines.{at_start, meaning, put_before}
use Rattle.xs_result_lines.specs.Lines.{bytes_of, lines}
use Rattle.xs_result_laws.specs.ResultLaws.{Represents}
use Rattle.xs_result_laws.specs.TreeEvents.{around, events_from, plain, with_ends}
use Rattle.xs_result_laws.proofs.PlaceLemmas.{AreReadable, IsFit, lines_readable}
use Rattle.xs_result_laws.proofs.EventLemmas.{Gives, after_same, after_tag}
use Rattle.xs_result_laws.proofs.ReadLemmas.{AreSaid, lines_read}

are_lines : (ls : List Line) → AreReadable ls → AreLines (bytes_of ls) ls
unfolding bytes_of
are_lines [] h = no_lines
are_lines (l ∷ ls) h = line_before l (reads_back l h.0.0 h.0.1) (bytes_of ls) ls (are_lines ls h.1)

-- after the root
rooted : (o : Outcome) (es : List Event) → Gives o [] 1 (plain es) → Represents (put_before (root_record ∷ []) 0 o) es
unfolding events_from around with_ends
rooted (tree rs numbers) es h = h.0
rooted (refused number line) es h = h

in_limit : (limit : ℕ) (bytes : List ℕ) (es : List Event) → Represents (outcome (rows_of bytes)) es → Represents (document limit bytes) es
unfolding document
in_limit limit bytes es h = by_test (nat_le (length bytes) limit)
  where
    by_test : (b : Bool) → Represents (if b then outcome (rows_of bytes) else refused too_large 0) es
    by_test true = h
    by_test false = refl

pub fit_represents : LinesGoByStep → DocumentsAreRead → (limit : ℕ) (es : List Event) → IsFit [] false false false es
    → Represents (document limit (bytes_of (lines [] es))) es
fit_represents by_step are_read limit es fit =
    let ls = lines [] es in
    let rows = rows_of (bytes_of ls) in
    let said : AreSaid rows ls = (are_read (bytes_of ls) ls).0 (are_lines ls (lines_readable es [] false false false fit tt)) in
    let given : Gives (meaning at_start 1 rows) [] 1 (plain (after_tag es)) = lines_read es [] false false false None 1 1 rows said fit (omega arith) in
    let same : plain (after_tag es) ≡ plain es = ap plain (after_same es [] false false fit) in
    in_limit limit (bytes_of ls) es
    (subst (λ o. Represents o es) (sym (by_step rows)) (rooted (meaning at_start 1 rows) es (subst (Gives (meaning at_start 1 rows) [] 1) same given)))
