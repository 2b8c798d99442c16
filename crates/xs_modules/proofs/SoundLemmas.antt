-- What was read is sound.
use Rattle.std.proofs.Common.{◌≡◌, ◌∙◌, ℕ, suc, ◌+◌, ◌<◌, ◌≤◌, Bool, true, false, List, [], ◌∷◌, Option, if◌then◌else◌, is_some, not, reverse, length, refl, sym, ap, subst, arith, All}
use Rattle.std.proofs.Common.{length-append}
use Rattle.std.proofs.lemmas.List.{length-map}
use Rattle.std.proofs.lemmas.List.Elements.{All-append, All-cons, All-map, All-nil}
use Rattle.std.specs.List.{filter_map, flat_map}
use Rattle.xs_outside.specs.Edge.{Files}
use Rattle.xs_pyx.specs.Row.{Row, rows_of}
use Rattle.xs_tree.specs.Record.{Record, root_record}
use Rattle.xs_build.specs.Document.{Outcome, Place, document, tree, refused, refused_first, nodes_at, lines_at, bad_at, places, outcome}
use Rattle.xs_build.specs.Faults.{no_root, truncated}
use Rattle.xs_build.specs.LineContext.{has_start, open_name}
use Rattle.xs_build.proofs.WellFormedLemmas.DocumentLemmas.{documents_are_trees}
use Rattle.xs_modules.specs.Mentions.{Mention, named_by_words}
use Rattle.xs_modules.specs.Mentioned.{Mentioned, no_module, one, count}
use Rattle.xs_modules.specs.Numbering.{ModuleData, PartData, parts, sheet_for, ranked, numbered}
use Rattle.xs_modules.specs.Precedence.{Sheet, Imports, imports, in_order, joined, mentioned_imports, rank_of, sheets}
use Rattle.xs_modules.specs.Reading.{whole, Reads, none, all, inside, behind, most_modules}
use Rattle.xs_modules.specs.Sound.{HasLines, IsSound, IsTreeOf, no_mention, mentioned}
use Rattle.xs_modules.proofs.NumberingLemmas.{length_parts}

-- ---- a document has a line for each of its nodes

each_line : (ps : List Place) → length (flat_map lines_at ps) ≡ length (flat_map nodes_at ps)
each_line [] = refl
each_line (p ∷ ps) =
    let e = each_line ps in
    let here = length-map (nodes_at p) (λ (r : Record). length p.before + 1) in
    omega (arith, length-append (lines_at p) (flat_map lines_at ps), length-append (nodes_at p) (flat_map nodes_at ps))

whole_outcome : (bad : List (ℕ × ℕ)) (a b : Bool) (i j k l : ℕ) (nodes rs : List Record) (found lines : List ℕ)
    → refused_first bad (if a then refused i j else if b then refused k l else tree nodes found) ≡ tree rs lines → (nodes ≡ rs) × (found ≡ lines)
whole_outcome (x ∷ bad) a b i j k l nodes rs found lines e = absurd (cc)
whole_outcome [] true b i j k l nodes rs found lines e = absurd (cc)
whole_outcome [] false true i j k l nodes rs found lines e = absurd (cc)
whole_outcome [] false false i j k l nodes rs found lines e = (cc, cc)

rows_lines : (rows : List Row) (rs : List Record) (lines : List ℕ) → outcome rows ≡ tree rs lines → length lines ≡ length rs
rows_lines rows rs lines e =
    let same = whole_outcome (filter_map bad_at (places [] rows)) (not (has_start (reverse rows))) (is_some (open_name 0 (reverse rows)))
    no_root (length (reverse rows)) truncated (length (reverse rows)) (root_record ∷ flat_map nodes_at (places [] rows)) rs
    (0 ∷ flat_map lines_at (places [] rows)) lines e in
    sym (ap length same.1) ∙ ap suc (each_line (places [] rows)) ∙ ap length same.0

within : (b : Bool) (o : Outcome) (i j : ℕ) (rs : List Record) (lines : List ℕ) → (if b then o else refused i j) ≡ tree rs lines → o ≡ tree rs lines
within true o i j rs lines e = e
within false o i j rs lines e = absurd (cc)

document_lines : (limit : ℕ) (bytes : List ℕ) (rs : List Record) (lines : List ℕ) → document limit bytes ≡ tree rs lines → length lines ≡ length rs
unfolding document
document_lines limit bytes rs lines e = rows_lines (rows_of bytes) rs lines (within _ (outcome (rows_of bytes)) _ _ rs lines e)

-- ---- the tree of mentions

read_tree : (files : Option Files) {above : List (List ℕ)} {n : ℕ} {ms : List Mention} {names : List (List ℕ)} {read : Mentioned}
    → Reads files above n ms names (whole read) → IsTreeOf n ms read
read_tree files none = no_mention
read_tree files (all {rs = rs} {lines = lines} r below rest) =
    mentioned (record { document = documents_are_trees _ r.bytes rs lines r.document; each = document_lines _ r.bytes rs lines r.document })
    (read_tree files below) (read_tree files rest)
read_tree files (inside r below t) = absurd t
read_tree files (behind r below rest t) = absurd t

-- ---- its list

tree_parts : (sheet : ℕ) {n : ℕ} {ms : List Mention} {read : Mentioned} → IsTreeOf n ms read
    → All (λ (p : PartData). HasLines p.records p.lines) (parts sheet n read)
unfolding parts
tree_parts sheet no_mention = All-nil (λ (p : PartData). HasLines p.records p.lines)
tree_parts sheet (mentioned {number = n} {m = m} {rs = rs} {lines = lines} {inside = within} {next = next} lined below rest) =
    All-cons (λ (p : PartData). HasLines p.records p.lines) _ _ lined
    (All-append (λ (p : PartData). HasLines p.records p.lines) (parts (sheet_for m.is_import n sheet) (n + 1) within)
    (parts sheet (n + (1 + count within)) next)
    (tree_parts (sheet_for m.is_import n sheet) below) (tree_parts sheet rest))

some_module : {n : ℕ} {m : Mention} {ms : List Mention} {read : Mentioned} → IsTreeOf n (m ∷ ms) read → 0 < count read
unfolding count
some_module (mentioned lined below rest) = omega arith

pub length_numbered : (read : Mentioned) → length (numbered read) ≡ count read
length_numbered read = length-map (parts 0 0 read) (ranked (rank_of (sheets read))) ∙ length_parts 0 0 read

pub read_sound : (files : Option Files) (above : List (List ℕ)) (name : List ℕ) (names : List (List ℕ)) (read : Mentioned) (modules : List ModuleData)
    → Reads files above 0 (named_by_words name ∷ []) names (whole read) → modules ≡ numbered read → count read ≤ most_modules → IsSound modules
read_sound files above name names read modules reads e few =
    let is = read_tree files reads in
    let counted = ap length e ∙ length_numbered read in
    let some = some_module is in
    record {
      name = name;
      tree = read;
      is_tree = is;
      list = e;
      some = omega arith;
      few = omega arith;
      documents = subst (λ (ms : List ModuleData). All (λ (m : ModuleData). HasLines m.records m.lines) ms) (sym e)
          (All-map (λ (m : ModuleData). HasLines m.records m.lines) (ranked (rank_of (sheets read))) (parts 0 0 read) (tree_parts 0 is));
    }

-- ---- as many stylesheets as modules at most

few_sheets : (n : ℕ) (read : Mentioned) → length (in_order (imports n read)) ≤ count read
unfolding imports count
few_sheets n no_module = omega arith
few_sheets n (one m rs lines within next) =
    let inner = few_sheets (n + 1) within in
    let later = few_sheets (n + (1 + count within)) next in
    omega (arith, few_joined m.is_import n (imports (n + 1) within) (imports (n + (1 + count within)) next))
  where
    few_joined : (b : Bool) (n : ℕ) (inner later : Imports)
        → length (in_order (joined (mentioned_imports b n inner) later)) ≤ 1 + length (in_order inner) + length (in_order later)
    few_joined true n inner later = simp length-append (omega arith)
    few_joined false n inner later = simp length-append (omega arith)

pub sheets_few : (read : Mentioned) (found : List Sheet) → found ≡ sheets read → count read ≤ most_modules → length found ≤ most_modules
sheets_few read found e few = let l = few_sheets 0 read in let is = ap length e in omega arith
