-- What is found in the cells is what the tables have.
use Rattle.std.proofs.Common.{◌≡◌, ℕ, suc, ◌+◌, ◌<◌, ◌≤◌, Bool, true, false, cond, not, nat_lt, arith, take, List, [], ◌∷◌, ◌++◌, length, get_or, map, position, Some, None, Result, Ok, Err, refl, sym, ap, subst, ◌∙◌}
use Rattle.std.proofs.lemmas.Grind.{fold-append}
use Rattle.std.proofs.lemmas.List.{get_or-map, length-map}
use Rattle.std.proofs.lemmas.List.Elements.{All-get_or, All-push}
use Rattle.std.proofs.lemmas.List.Recursion.{is_position_or_len}
use Rattle.std.proofs.Math.ListN.{get_or-eq_default}
use Rattle.std.proofs.Math.Seq.{take-suc}
use Rattle.std.specs.List.{All, position_or_len}
use Rattle.xs_sheet.specs.declared.declarations.KeyDecl.{KeyDecl}
use Rattle.xs_trace.specs.Label.{Label}
use Rattle.xs_tree.specs.Record.{Record}
use Rattle.xs_value.specs.declared.keys.Found.{Found}
use Rattle.xs_value.specs.declared.keys.KeyEnd.{KeyEnd}
use Rattle.xs_value.specs.declared.keys.KeyEnd.TheVariants.{Fault, NoMemory}
use Rattle.xs_value.specs.Keys.{Finds}
use Rattle.xs_value.specs.Tables.{Table, is_named, nodes_of, table_at}
use Rattle.xs_keys.specs.declared.cells.KeyCell.{KeyCell}
use Rattle.xs_keys.specs.KeyTables.{declarations_of, names_of, table_of, tables_of, with_name}
use Rattle.xs_keys.specs.steps.Cells.{AreCells, IsCell, IsCellOf, IsFound, is_name}
use Rattle.xs_keys.specs.lemmas.TableLemmas.{names-few, table-nodes, table-there, tables-is, tables-long}

-- the names of one declaration more
pub names-next : (ds : List KeyDecl) (d : KeyDecl) → names_of (ds ++ d ∷ []) ≡ with_name (names_of ds) d
names-next ds d = fold-append with_name [] ds (d ∷ [])

pub names-at : (ds : List KeyDecl) (k : ℕ) (d : KeyDecl) → k < length ds → get_or ds k d ≡ d → with_name (names_of (take k ds)) d ≡ names_of (take (k + 1) ds)
names-at ds k d lt e =
    sym (names-next (take k ds) d)
    ∙ ap names_of (sym (ap (λ i. take i ds) (let z : k + 1 ≡ suc k = omega arith in z) ∙ take-suc ds k d lt ∙ ap (λ y. take k ds ++ y ∷ []) e))

-- one cell more
pub cell-added : (rs : List Record) (ds : List KeyDecl) (cells all : List KeyCell) (cell : KeyCell) (name : Label) → all ≡ cells ++ cell ∷ []
    → cell.name ≡ name → All (IsCellOf rs ds) cells → IsCell rs (declarations_of name ds) cell → All (IsCellOf rs ds) all
cell-added rs ds cells all cell name e same h is =
    subst (λ (l : List KeyCell). All (IsCellOf rs ds) l) (sym e)
    (All-push (IsCellOf rs ds) cells cell h (subst (λ (n : Label). IsCell rs (declarations_of n ds) cell) (sym same) is))

-- there are as few cells as declarations
pub few-cells : (rs : List Record) (ds : List KeyDecl) (cells : List KeyCell) (most : ℕ) → AreCells rs ds cells → length ds < most → length cells < most
few-cells rs ds cells most are lt =
    let long : length cells ≡ length (names_of ds) = sym (length-map cells (λ (c : KeyCell). c.name)) ∙ ap (λ l. length l) are.names in
    let few : length (names_of ds) ≤ length ds = names-few ds in
    omega (arith, long, few, lt)

-- a cell's table
cell-table : (rs : List Record) (ds : List KeyDecl) (cells : List KeyCell) (k : ℕ) (cell : KeyCell) → AreCells rs ds cells → k < length cells
    → get_or cells k cell ≡ cell → table_at (tables_of rs ds) k ≡ table_of rs ds cell.name
cell-table rs ds cells k cell are lt e =
    let names : length cells ≡ length (names_of ds) = sym (length-map cells (λ (c : KeyCell). c.name)) ∙ ap (λ l. length l) are.names in
    table-there rs ds k cell.name (subst (λ n. k < n) names lt)
    (ap (λ l. get_or l k cell.name) (sym are.names) ∙ get_or-map (λ (c : KeyCell). c.name) cells k cell cell.name lt ∙ ap (λ (c : KeyCell). c.name) e)

found-by : (rs : List Record) (ds : List KeyDecl) (cell : KeyCell) (t : Table) (text : List ℕ) (result : Result Found KeyEnd)
    → t ≡ table_of rs ds cell.name → IsCellOf rs ds cell → IsFound cell text result → Finds t text result
found-by rs ds cell t text (Ok found) e is h = (
  ap (λ (u : Table). u.fault) e ∙ sym is.fault ∙ h.0,
  h.1 ∙ is.nodes text ∙ sym (table-nodes rs ds cell.name text) ∙ ap (λ (u : Table). nodes_of text u.entries) (sym e),
)
found-by rs ds cell t text (Err (Fault f)) e is h = ap (λ (u : Table). u.fault) e ∙ sym is.fault ∙ h
found-by rs ds cell t text (Err NoMemory) e is h = tt

pub found-at : (rs : List Record) (ds : List KeyDecl) (cells : List KeyCell) (k : ℕ) (cell : KeyCell) (text : List ℕ) (result : Result Found KeyEnd)
    → AreCells rs ds cells → k < length cells → get_or cells k cell ≡ cell → IsFound cell text result → Finds (table_at (tables_of rs ds) k) text result
found-at rs ds cells k cell text result are lt e h =
    found-by rs ds cell (table_at (tables_of rs ds) k) text result (cell-table rs ds cells k cell are lt e)
    (subst (IsCellOf rs ds) e (All-get_or (IsCellOf rs ds) cells k cell lt are.cells)) h

-- past the last cell there is no table
pub no-table : (rs : List Record) (ds : List KeyDecl) (cells : List KeyCell) (k : ℕ) → AreCells rs ds cells → length cells ≤ k
    → table_at (tables_of rs ds) k ≡ record { uri = []; local = []; fault = None; entries = [] }
no-table rs ds cells k are le =
    let long : length (tables_of rs ds) ≡ length cells =
    tables-long rs ds ∙ ap (λ l. length l) (sym are.names) ∙ length-map cells (λ (c : KeyCell). c.name) in
    get_or-eq_default (tables_of rs ds) (record { uri = []; local = []; fault = None; entries = [] }) (subst (λ n. n ≤ k) (sym long) le)

-- ---- the number of a name
place-map : {X Y : Type 0} (p : Y → Bool) (f : X → Y) (xs : List X) → position_or_len p (map f xs) ≡ position_or_len (λ x. p (f x)) xs
place-map p f xs = is_position_or_len (λ l. position_or_len p (map f l)) (λ x. p (f x)) refl (λ y ys. by (p (f y)) (position_or_len p (map f ys))) xs
  where
    by : (b : Bool) (k : ℕ) → cond (not b) (1 + k) 0 ≡ cond b 0 (1 + k)
    by true k = refl
    by false k = refl

position-map : {X Y : Type 0} (p : Y → Bool) (f : X → Y) (xs : List X) → position p (map f xs) ≡ position (λ x. p (f x)) xs
position-map p f xs =
    ap (λ k. cond (nat_lt k (length (map f xs))) (Some k) None) (place-map p f xs)
    ∙ ap (λ n. cond (nat_lt (position_or_len (λ x. p (f x)) xs) n) (Some (position_or_len (λ x. p (f x)) xs)) None) (length-map xs f)

pub number-is : (rs : List Record) (ds : List KeyDecl) (cells : List KeyCell) (uri local : List ℕ) → AreCells rs ds cells
    → position (λ (c : KeyCell). is_name uri local c.name) cells ≡ position (is_named uri local) (tables_of rs ds)
number-is rs ds cells uri local are =
    sym (position-map (is_name uri local) (λ (c : KeyCell). c.name) cells)
    ∙ ap (position (is_name uri local)) are.names
    ∙ sym (position-map (is_named uri local) (table_of rs ds) (names_of ds))
    ∙ ap (position (is_named uri local)) (sym (tables-is rs ds))
