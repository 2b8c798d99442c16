-- A table is ready to be run.
use Rattle.std.proofs.Common.{◌≡◌, ◌<◌, ◌≤◌, ◌+◌, ℕ, zero, suc, List, [], ◌∷◌, drop, length, get_or, slice_get, Option, Some, None, refl, sym, ap, ◌∙◌, arith}
use Rattle.xs_trace.specs.Mark.{Tick, Put, Say, Stop, Need, Hole, Trace, ◌⨾◌, NeedsNothing}
use Rattle.xs_trace.specs.Cut.{nowhere}
use Rattle.xs_trace.specs.Fill.{fill, HolesAre}
use Rattle.xs_trace.specs.Play.{goes, and_then, play, ticked}
use Rattle.xs_trace.specs.State.{State}
use Rattle.xs_trace.proofs.CutLemmas.{then-nil}
use Rattle.xs_trace.proofs.FillLemmas.{fill-laws}
use Rattle.xs_trace.proofs.KeptLemmas.{needs-then}
use Rattle.xs_trace.proofs.PlayLemmas.{play-then, then-goes}
use Rattle.xs_pieces.specs.Tree.{ArePlaced, BeginsWithTick, Falls, filled}
use Rattle.unit_tests.specs.Table.{number_after, entry_marks, entries_marks, child_of, row_marks, own_marks, rank_in, whole_marks, IsTableReady}
use Rattle.unit_tests.specs.declared.table.Entry.{Entry}
use Rattle.unit_tests.specs.declared.table.Entry.TheVariants as entry
use Rattle.unit_tests.specs.declared.table.Row.{Row}
use Rattle.unit_tests.specs.declared.table.RowTask.{RowTask}
use Rattle.xs_pieces.proofs.TreeLemmas.{all-holes, tree-fills}

-- ---- entries are filled

fill-entry : {H K : Type 0} → (f : H → Trace K) (child : ℕ → ℕ → Trace H) (n : ℕ) (e : Entry) →
    fill f (entry_marks child n e) ≡ entry_marks (λ m k. fill f (child m k)) n e
fill-entry f child n (entry.Tick s) = refl
fill-entry f child n (entry.Put e) = refl
fill-entry f child n (entry.Say t) = refl
fill-entry f child n (entry.Stop v s) = refl
fill-entry f child n (entry.Child k) = refl

fill-entries : {H K : Type 0} → (f : H → Trace K) (child : ℕ → ℕ → Trace H) (n : ℕ) (es : List Entry) →
    fill f (entries_marks child n es) ≡ entries_marks (λ m k. fill f (child m k)) n es
fill-entries f child n [] = refl
fill-entries {H} {K} f child n (e ∷ es) =
    (fill-laws H K).joins f (entry_marks child n e) (entries_marks child (number_after e n) es)
    ∙ ap (λ (z : Trace K). z ⨾ fill f (entries_marks child (number_after e n) es)) (fill-entry f child n e)
    ∙ ap (λ (z : Trace K). entry_marks (λ m k. fill f (child m k)) n e ⨾ z) (fill-entries f child (number_after e n) es)

entries-each : {H : Type 0} → (f g : ℕ → ℕ → Trace H) → ((n k : ℕ) → f n k ≡ g n k) → (n : ℕ) (es : List Entry) → entries_marks f n es ≡ entries_marks g n es
entries-each f g h n [] = refl
entries-each {H} f g h n (e ∷ es) =
    ap (λ (z : Trace H). z ⨾ entries_marks f (number_after e n) es) (one e)
    ∙ ap (λ (z : Trace H). entry_marks g n e ⨾ z) (entries-each f g h (number_after e n) es)
  where
    one : (e : Entry) → entry_marks f n e ≡ entry_marks g n e
    one (entry.Tick s) = refl
    one (entry.Put e) = refl
    one (entry.Say t) = refl
    one (entry.Stop v s) = refl
    one (entry.Child k) = h n k

-- ---- what holes are

holes-then : {H : Type 0} → (P : H → Type 0) (x y : Trace H) → HolesAre P x → HolesAre P y → HolesAre P (x ⨾ y)
holes-then P [] y h k = k
holes-then P (Tick p ∷ x) y h k = holes-then P x y h k
holes-then P (Put e ∷ x) y h k = holes-then P x y h k
holes-then P (Say s ∷ x) y h k = holes-then P x y h k
holes-then P (Stop n p ∷ x) y h k = h
holes-then P (Need g p ∷ x) y h k = h
holes-then P (Hole c ∷ x) y h k = (h.0, holes-then P x y h.1 k)

holes-fill : {H K : Type 0} → (P : K → Type 0) (f : H → Trace K) → ((c : H) → HolesAre P (f c)) → (x : Trace H) → HolesAre P (fill f x)
holes-fill P f h [] = tt
holes-fill P f h (Tick p ∷ x) = holes-fill P f h x
holes-fill P f h (Put e ∷ x) = holes-fill P f h x
holes-fill P f h (Say s ∷ x) = holes-fill P f h x
holes-fill P f h (Stop n p ∷ x) = holes-fill P f h x
holes-fill P f h (Need g p ∷ x) = holes-fill P f h x
holes-fill P f h (Hole c ∷ x) = holes-then P (f c) (fill f x) (h c) (holes-fill P f h x)

holes-entries : {H : Type 0} → (P : H → Type 0) (child : ℕ → ℕ → H) → ((n k : ℕ) → P (child n k)) → (n : ℕ) (es : List Entry) →
    HolesAre P (entries_marks (λ m k. Hole (child m k) ∷ []) n es)
holes-entries P child h n [] = tt
holes-entries P child h n (entry.Tick s ∷ es) = holes-entries P child h n es
holes-entries P child h n (entry.Put e ∷ es) = holes-entries P child h n es
holes-entries P child h n (entry.Say t ∷ es) = holes-entries P child h n es
holes-entries P child h n (entry.Stop v s ∷ es) = tt
holes-entries P child h n (entry.Child k ∷ es) = (h n k, holes-entries P child h (suc n) es)

placed-entries : (t : RowTask) (n : ℕ) (es : List Entry) →
    ArePlaced (λ (c : RowTask). c.place) t.place n (entries_marks (λ m k. Hole (child_of t m k) ∷ []) n es)
placed-entries t n [] = tt
placed-entries t n (entry.Tick s ∷ es) = placed-entries t n es
placed-entries t n (entry.Put e ∷ es) = placed-entries t n es
placed-entries t n (entry.Say s ∷ es) = placed-entries t n es
placed-entries t n (entry.Stop v s ∷ es) = tt
placed-entries t n (entry.Child k ∷ es) = (refl, placed-entries t (suc n) es)

entries-need-nothing : {H : Type 0} → (child : ℕ → ℕ → H) (n : ℕ) (es : List Entry) → NeedsNothing (entries_marks (λ m k. Hole (child m k) ∷ []) n es)
entries-need-nothing child n [] = tt
entries-need-nothing child n (entry.Tick s ∷ es) = entries-need-nothing child n es
entries-need-nothing child n (entry.Put e ∷ es) = entries-need-nothing child n es
entries-need-nothing child n (entry.Say t ∷ es) = entries-need-nothing child n es
entries-need-nothing child n (entry.Stop v s ∷ es) = tt
entries-need-nothing child n (entry.Child k ∷ es) = entries-need-nothing child (suc n) es

-- ---- rows

begins : (rows : List Row) (t : RowTask) → BeginsWithTick (own_marks rows t)
begins rows t = by (slice_get rows t.row)
  where
    by : (o : Option Row) → BeginsWithTick (row_marks (λ n k. Hole (child_of t n k) ∷ []) o)
    by None = tt
    by (Some r) = tt

row-there : (rows : List Row) (i : ℕ) (r : Row) → slice_get rows i ≡ Some r → i < length rows
row-there [] i r e = absurd (cc)
row-there (x ∷ rows) zero r e = omega arith
row-there (x ∷ rows) (suc i) r e = let a = row-there rows i r e in omega arith

falls : (rows : List Row) → Falls (rank_in rows) (own_marks rows)
falls rows t = by (slice_get rows t.row) refl
  where
    by : (o : Option Row) → slice_get rows t.row ≡ o → HolesAre (λ c. rank_in rows c < rank_in rows t) (row_marks (λ n k. Hole (child_of t n k) ∷ []) o)
    by None e = tt
    by (Some r) e =
        let i = row-there rows t.row r e in
        holes-entries (λ c. rank_in rows c < rank_in rows t) (child_of t) (λ n k. omega (arith, i)) 0 r.entries.items

placed : (rows : List Row) (t : RowTask) → ArePlaced (λ (c : RowTask). c.place) t.place 0 (own_marks rows t)
placed rows t = by (slice_get rows t.row)
  where
    by : (o : Option Row) → ArePlaced (λ (c : RowTask). c.place) t.place 0 (row_marks (λ n k. Hole (child_of t n k) ∷ []) o)
    by None = tt
    by (Some r) = placed-entries t 0 r.entries.items

pub needs-nothing : (rows : List Row) (t : RowTask) → NeedsNothing (own_marks rows t)
needs-nothing rows t = by (slice_get rows t.row)
  where
    by : (o : Option Row) → NeedsNothing (row_marks (λ n k. Hole (child_of t n k) ∷ []) o)
    by None = tt
    by (Some r) = entries-need-nothing (child_of t) 0 r.entries.items

no-hole : (rows : List Row) (n : ℕ) (t : RowTask) → HolesAre {H = RowTask} (λ c. ⊥) (filled (own_marks rows) n t)
no-hole rows zero t = tt
no-hole rows (suc n) t = holes-fill (λ (c : RowTask). ⊥) (filled (own_marks rows) n) (no-hole rows n) (own_marks rows t)

pub whole-fills : (rows : List Row) (t : RowTask) → whole_marks rows t ≡ fill (whole_marks rows) (own_marks rows t)
unfolding whole_marks
whole-fills rows t = tree-fills (rank_in rows) (own_marks rows) (falls rows) t

whole-no-hole : (rows : List Row) (t : RowTask) → HolesAre {H = RowTask} (λ c. ⊥) (whole_marks rows t)
unfolding whole_marks
whole-no-hole rows t = no-hole rows (suc (rank_in rows t)) t

pub table-ready : IsTableReady
table-ready rows = (
  record {
    inside = λ t o. all-holes (λ c. Unit {0}) (λ c. tt) (own_marks rows t);
    placed = λ t o. placed rows t;
    root_begins = λ t o e. begins rows t;
    begins = λ t o. all-holes (λ c. BeginsWithTick (own_marks rows c)) (begins rows) (own_marks rows t);
    needs_nothing = λ t o. needs-nothing rows t;
    fills = whole-fills rows;
    no_hole = whole-no-hole rows;
  },
  falls rows,
)

-- what a task does with all children, by its row
pub whole-row : (rows : List Row) (t : RowTask) → whole_marks rows t ≡ row_marks (λ n k. whole_marks rows (child_of t n k)) (slice_get rows t.row)
whole-row rows t = whole-fills rows t ∙ by (slice_get rows t.row)
  where
    by : (o : Option Row) → fill (whole_marks rows) (row_marks (λ n k. Hole (child_of t n k) ∷ []) o) ≡ row_marks (λ n k. whole_marks rows (child_of t n k)) o
    by None = refl
    by (Some r) =
        ap (λ z. Tick r.site ∷ z)
        (fill-entries (whole_marks rows) (λ n k. Hole (child_of t n k) ∷ []) 0 r.entries.items
        ∙ entries-each (λ n k. whole_marks rows (child_of t n k) ⨾ []) (λ n k. whole_marks rows (child_of t n k))
        (λ n k. then-nil (whole_marks rows (child_of t n k))) 0 r.entries.items)

-- ---- entries are reported one after another

pub more-entries : {H : Type 0} → (child : ℕ → ℕ → Trace H) (es : List Entry) (i n : ℕ) (e : Entry) (s : State H) → i < length es → e ≡ get_or es i e →
    play (entries_marks child n (drop i es)) s ≡
    and_then (play (entry_marks child n e) s) (λ u m. play (entries_marks child (number_after e n) (drop (i + 1) es)) m)
more-entries {H} child es i n e s h is =
    ap (λ (x : List Entry). play (entries_marks child n x) s) (front es i e h is)
    ∙ play-then (entry_marks child n e) (entries_marks child (number_after e n) (drop (i + 1) es)) s
  where
    front : (es : List Entry) (i : ℕ) (e : Entry) → i < length es → e ≡ get_or es i e → drop i es ≡ e ∷ drop (i + 1) es
    front [] i e h is = absurd (omega (arith, h))
    front (x ∷ es) zero e h is = ap (λ (y : Entry). y ∷ es) (sym is)
    front (x ∷ es) (suc i) e h is =
        let j : suc (i + 1) ≡ suc i + 1 = omega arith in
        front es i e (omega (arith, h)) is ∙ ap (λ (k : ℕ). e ∷ drop k (x ∷ es)) j

-- ---- rows are reported

row-absent : (rows : List Row) (i : ℕ) → length rows ≤ i → slice_get rows i ≡ None
row-absent [] i h = refl
row-absent (x ∷ rows) zero h = absurd (omega (arith, h))
row-absent (x ∷ rows) (suc i) h = row-absent rows i (omega (arith, h))

pub row-reported : {H : Type 0} → (child : ℕ → ℕ → Trace H) (rows : List Row) (i : ℕ) (r : Row) (s : State H) → slice_get rows i ≡ Some r →
    play (row_marks child (slice_get rows i)) s ≡ and_then (ticked r.site s) (λ u m. play (entries_marks child 0 r.entries.items) m)
row-reported child rows i r s e = ap (λ o. play (row_marks child o) s) e

pub no-row-reported : {H : Type 0} → (child : ℕ → ℕ → Trace H) (rows : List Row) (i : ℕ) (s : State H) → length rows ≤ i →
    play (row_marks child (slice_get rows i)) s ≡ ticked nowhere s
no-row-reported child rows i s h = ap (λ o. play (row_marks child o) s) (row-absent rows i h) ∙ then-goes (ticked nowhere s)

pub whole-reported : (rows : List Row) (t : RowTask) (s : State RowTask) →
    play (whole_marks rows t) s ≡ play (row_marks (λ n k. whole_marks rows (child_of t n k)) (slice_get rows t.row)) s
whole-reported rows t s = ap (λ x. play x s) (whole-row rows t)

-- ---- no need

needs-fill : {H K : Type 0} → (f : H → Trace K) → ((c : H) → NeedsNothing (f c)) → (x : Trace H) → NeedsNothing x → NeedsNothing (fill f x)
needs-fill f g [] h = tt
needs-fill f g (Tick p ∷ x) h = needs-fill f g x h
needs-fill f g (Put e ∷ x) h = needs-fill f g x h
needs-fill f g (Say s ∷ x) h = needs-fill f g x h
needs-fill f g (Stop n p ∷ x) h = needs-fill f g x h
needs-fill f g (Need v p ∷ x) h = absurd h
needs-fill f g (Hole c ∷ x) h = needs-then (f c) (fill f x) (g c) (needs-fill f g x h)

levels-need : (rows : List Row) (n : ℕ) (t : RowTask) → NeedsNothing {H = RowTask} (filled (own_marks rows) n t)
levels-need rows zero t = tt
levels-need rows (suc n) t = needs-fill (filled (own_marks rows) n) (levels-need rows n) (own_marks rows t) (needs-nothing rows t)

pub whole-needs : (rows : List Row) (t : RowTask) → NeedsNothing (whole_marks rows t)
unfolding whole_marks
whole-needs rows t = levels-need rows (suc (rank_in rows t)) t
