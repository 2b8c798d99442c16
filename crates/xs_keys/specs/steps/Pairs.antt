-- Texts with their nodes, as they are found.
use Rattle.std.specs.Prelude.{◌≡◌, ℕ, ◌+◌, ◌-◌, ◌*◌, ◌<◌, ◌==◌, Bool, false, List, [], ◌∷◌, ◌++◌, length, map, min, fold, get_or, Option, Some, None, Result, IfOk, IfSome, Vec, slice_get, if◌then◌else◌}
use denote.Ref.{Bor}
use Rattle.std.specs.declared.alloc.AllocError.{AllocError}
use Rattle.std.specs.declared.alloc.Global.{Global}
use Rattle.std.specs.List.{flat_map, range_with_len}
use Rattle.std.specs.Option.{option_map_or}
use Rattle.std.specs.Str.{bytes_eq}
use Rattle.std.specs.String.{string_bytes}
use Rattle.xs_sheet.specs.declared.declarations.KeyDecl.{KeyDecl}
use Rattle.xs_trace.specs.Run.{Answer, Gives}
use Rattle.xs_trace.specs.declared.fault.Fault.{Fault}
use Rattle.xs_tree.specs.Record.{Record}
use Rattle.xs_value.specs.declared.value.Value.{Value}
use Rattle.xs_keys.specs.declared.pairs.Gathered.{Gathered}
use Rattle.xs_keys.specs.declared.pairs.Pair.{Pair}
use Rattle.xs_keys.specs.declared.uses.Used.{Used}
use Rattle.xs_keys.specs.declared.uses.Used.TheVariants.{Nothing, Ends, Value as Valued}
use Rattle.xs_pattern.specs.MatchTables.{IsMatchTable}
use Rattle.xs_value.specs.Conversion.{IsIn}
use Rattle.xs_keys.specs.Keys.{faults_in, first_of, node_faults, texts_at, texts_in}

abbrev pub pair_of : Pair → List ℕ × ℕ
pair_of p = (string_bytes p.text, p.node)

abbrev pub pairs_in : List Pair → List (List ℕ × ℕ)
pairs_in pairs = map pair_of pairs

-- some texts with the node at n
abbrev pub paired : ℕ → List (List ℕ) → List (List ℕ × ℕ)
paired n texts = map (λ t. (t, n)) texts

-- the pairs of a declaration, and of all of a key, at the node at n
abbrev pub pairs_at : List Record → ℕ → KeyDecl → List (List ℕ × ℕ)
pairs_at rs n d = paired n (texts_at rs n d)

abbrev pub node_pairs : List Record → List KeyDecl → ℕ → List (List ℕ × ℕ)
node_pairs rs ds n = flat_map (pairs_at rs n) ds

-- the places from one to another
abbrev pub between : ℕ → ℕ → List ℕ
between start end = range_with_len start (end - start)

-- what is found from one place to another
abbrev pub pairs_between : List Record → List KeyDecl → ℕ → ℕ → List (List ℕ × ℕ)
pairs_between rs ds start end = flat_map (node_pairs rs ds) (between start end)

abbrev pub faults_between : List Record → List KeyDecl → ℕ → ℕ → List Fault
faults_between rs ds start end = flat_map (node_faults rs ds) (between start end)

-- the end of a run of places, of those of one size
abbrev pub bound : (size count : ℕ) → ℕ → ℕ
bound size count i = min (i * size) count

-- the first of two faults
abbrev pub either : Option Fault → Option Fault → Option Fault
either (Some f) o = Some f
either None o = o

-- the nodes of a text with one more, which stands there once
abbrev pub is_last : ℕ → List ℕ → Bool
is_last n ns = option_map_or (λ k. k == n) (slice_get ns (length ns - 1)) false

abbrev pub pushed : List ℕ → ℕ → List ℕ
pushed ns n = if is_last n ns then ns else ns ++ n ∷ []

abbrev pub and_pair : (text : List ℕ) → List ℕ → List ℕ × ℕ → List ℕ
and_pair text ns p = if bytes_eq text p.0 then pushed ns p.1 else ns

abbrev pub nodes_by : (text : List ℕ) → List ℕ → List (List ℕ × ℕ) → List ℕ
nodes_by text ns pairs = fold (and_pair text) ns pairs

-- a fault, if it is one of an expression
abbrev pub IsFault : List Fault → Used → Type 0
IsFault fs (Valued v) = ⊥
IsFault fs (Ends f) = fs ≡ f ∷ []
IsFault fs Nothing = fs ≡ []

-- what a `use` gave
abbrev pub IsUsed : List Record → Answer Value → Used → Type 0
IsUsed rs end (Valued v) = (end ≡ Gives v) × IsIn rs v
IsUsed rs end (Ends f) = (faults_in end ≡ f ∷ []) × ((n : ℕ) → texts_in rs n end ≡ [])
IsUsed rs end Nothing = (faults_in end ≡ []) × ((n : ℕ) → texts_in rs n end ≡ [])

-- the declarations that references lead to
abbrev pub decls_in : List (Bor KeyDecl) → List KeyDecl
decls_in members = map (λ m. m.now) members

-- tables of the nodes that match each declaration, if it has one
abbrev pub AreMatchTables : List Record → List KeyDecl → List (Option (Vec Bool Global)) → Type 0
AreMatchTables rs ds tables =
    (length tables ≡ length ds)
    × ((k : ℕ) (d : KeyDecl) (t : Option (Vec Bool Global)) → k < length ds
    → IfSome (get_or tables k t) (λ v. IsMatchTable [] rs (get_or ds k d).pattern v.items))

-- what was gathered from one place to another
pub record IsBetween (rs : List Record) (ds : List KeyDecl) (start end : ℕ) (g : Gathered) : Type 0 where
  pub pairs : pairs_in g.pairs.items ≡ pairs_between rs ds start end
  pub fault : g.fault ≡ first_of (faults_between rs ds start end)

abbrev pub IsRun : List Record → List KeyDecl → (size i : ℕ) → Result Gathered AllocError → Type 0
IsRun rs ds size i run = IfOk run (IsBetween rs ds (bound size (length rs) i) (bound size (length rs) (i + 1)))
