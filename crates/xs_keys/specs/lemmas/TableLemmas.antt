-- The tables of keys: one for each name, their nodes in document order, their faults those of expressions.
use Rattle.std.proofs.Common.{◌≡◌, ℕ, zero, suc, ◌+◌, ◌<◌, ◌≤◌, ◌^◌, ◌&&◌, ◌||◌, Bool, true, false, cond, List, [], ◌∷◌, ◌++◌, filter, fold, length, get_or, map, bytes_eq, Some, None, refl, sym, ap, subst, ◌∙◌, arith, length-append}
use Rattle.std.proofs.lemmas.List.{get_or-map, length-map}
use Rattle.std.proofs.lemmas.List.Concat.{flat_map-cons}
use Rattle.std.proofs.lemmas.List.Elements.{All-append, All-cons, All-filter, All-from_get_or, All-head, All-map, All-nil, All-push, All-tail}
use Rattle.std.proofs.lemmas.List.FromFn.{get_or-range_with_len, length-range_with_len}
use Rattle.std.proofs.lemmas.List.Kept.{AllPairs-cons}
use Rattle.std.specs.List.{All, AllPairs, flat_map, list_any, range_with_len}
use Rattle.xs_sheet.specs.declared.declarations.KeyDecl.{KeyDecl}
use Rattle.xs_pattern_spec.specs.Matching.{is_match}
use Rattle.xs_trace.specs.Label.{Label}
use Rattle.xs_trace.specs.Run.{Answer, Gives, Faults, Lacks}
use Rattle.xs_trace.specs.declared.fault.Fault.{Fault}
use Rattle.xs_trace.specs.declared.fault.Fault.TheVariants.{Budget, Fraction, Range, NotNodes, NoKey, TooDeep, NoRule, Terminated, NoExtension, Circular}
use Rattle.xs_trace.specs.declared.fault.Fault.TheVariants.{BadResultName, UnboundResultPrefix, BadValue, TooManyEvents, NoDocument}
use Rattle.xs_tree.specs.Record.{Record, places}
use Rattle.xs_value.specs.declared.value.Value.{Value}
use Rattle.xs_value.specs.NodeSet.{IsNodeList}
use Rattle.xs_value.specs.Tables.{AreTables, Entry, IsKeyFault, Table, TablesIn, is_named, nodes_of, table_at}
use Rattle.xs_keys.specs.Keys.{expression_fault, faults_at, faults_in, first_of, has_text, key_fault, key_nodes, node_faults, node_texts, use_end}
use Rattle.xs_keys.specs.KeyTables.{declarations_of, distinct, entries_at, entry_of, is_same, names_of, table_of, tables_of, with_name}
use Rattle.xs_keys.specs.Laws.{KeyLaws}
use Rattle.xs_keys.specs.lemmas.TextLemmas.{nodes-of-entries}

-- ---- names, each once
abbrev Apart : List Label → Type 0
Apart [] = Unit {0}
Apart (x ∷ xs) = All (λ y. is_same y x ≡ false) xs × Apart xs

none-same : (name : Label) (names : List Label) → list_any (is_same name) names ≡ false → All (λ x. is_same name x ≡ false) names
none-same name [] h = All-nil (λ x. is_same name x ≡ false)
none-same name (x ∷ xs) h = by (is_same name x) refl h (λ g. none-same name xs g)
  where
    by : (b : Bool) → is_same name x ≡ b → (b || list_any (is_same name) xs) ≡ false
        → (list_any (is_same name) xs ≡ false → All (λ y. is_same name y ≡ false) xs) → All (λ y. is_same name y ≡ false) (x ∷ xs)
    by true e g i = absurd (cc g)
    by false e g i = All-cons (λ y. is_same name y ≡ false) x xs e (i g)

apart-push : (names : List Label) (name : Label) → All (λ x. is_same name x ≡ false) names → Apart names → Apart (names ++ name ∷ [])
apart-push [] name h a = (All-nil (λ y. is_same y name ≡ false), tt)
apart-push (x ∷ xs) name h a = (
  All-push (λ y. is_same y x ≡ false) xs name a.0 (All-head (λ y. is_same name y ≡ false) x xs h),
  apart-push xs name (All-tail (λ y. is_same name y ≡ false) x xs h) a.1,
)

with-apart : (names : List Label) (d : KeyDecl) → Apart names → Apart (with_name names d)
with-apart names d a = by (list_any (is_same d.name) names) refl
  where
    by : (b : Bool) → list_any (is_same d.name) names ≡ b → Apart (cond b names (names ++ d.name ∷ []))
    by true e = a
    by false e = apart-push names d.name (none-same d.name names e) a

names-apart : (ds : List KeyDecl) (names : List Label) → Apart names → Apart (fold with_name names ds)
names-apart [] names a = a
names-apart (d ∷ ds) names a = names-apart ds (with_name names d) (with-apart names d a)

with-few : (names : List Label) (d : KeyDecl) → length (with_name names d) ≤ length names + 1
with-few names d = by (list_any (is_same d.name) names)
  where
    by : (b : Bool) → length (cond b names (names ++ d.name ∷ [])) ≤ length names + 1
    by true = omega arith
    by false = let e : length (names ++ d.name ∷ []) ≡ length names + 1 = length-append names (d.name ∷ []) in omega (arith, e)

names-few-from : (ds : List KeyDecl) (names : List Label) → length (fold with_name names ds) ≤ length names + length ds
names-few-from [] names = omega arith
names-few-from (d ∷ ds) names =
    let i : length (fold with_name (with_name names d) ds) ≤ length (with_name names d) + length ds = names-few-from ds (with_name names d) in
    let w : length (with_name names d) ≤ length names + 1 = with-few names d in
    let g : length (fold with_name names (d ∷ ds)) ≤ length names + suc (length ds) = omega (arith, i, w) in g

pub names-few : (ds : List KeyDecl) → length (names_of ds) ≤ length ds
names-few ds = let i : length (fold with_name [] ds) ≤ 0 + length ds = names-few-from ds [] in omega (arith, i)

apart-pairs : (names : List Label) → Apart names → AllPairs (λ x y. is_same y x ≡ false) names
apart-pairs [] a = λ i j d lt within. absurd (omega (arith, within))
apart-pairs (x ∷ xs) a = AllPairs-cons (λ x y. is_same y x ≡ false) x xs a.0 (apart-pairs xs a.1)

-- ---- tables
abbrev no_table : Table
no_table = record { uri = []; local = []; fault = None; entries = [] }

pub tables-is : (rs : List Record) (ds : List KeyDecl) → tables_of rs ds ≡ map (table_of rs ds) (names_of ds)
unfolding tables_of
tables-is rs ds = refl

pub tables-long : (rs : List Record) (ds : List KeyDecl) → length (tables_of rs ds) ≡ length (names_of ds)
tables-long rs ds = ap (λ l. length l) (tables-is rs ds) ∙ length-map (names_of ds) (table_of rs ds)

pub table-there : (rs : List Record) (ds : List KeyDecl) (k : ℕ) (name : Label) → k < length (names_of ds) → get_or (names_of ds) k name ≡ name
    → table_at (tables_of rs ds) k ≡ table_of rs ds name
table-there rs ds k name lt e =
    ap (λ ts. table_at ts k) (tables-is rs ds) ∙ get_or-map (table_of rs ds) (names_of ds) k name no_table lt ∙ ap (table_of rs ds) e

-- what holds of each table and of none holds of the one at a place
of-each : (P : Table → Type 0) (f : Label → Table) (names : List Label) (k : ℕ) → ((name : Label) → P (f name)) → P no_table
    → P (table_at (map f names) k)
of-each P f [] k h none = none
of-each P f (x ∷ xs) zero h none = h x
of-each P f (x ∷ xs) (suc k) h none = of-each P f xs k h none

of-table : (P : Table → Type 0) (rs : List Record) (ds : List KeyDecl) (k : ℕ) → ((name : Label) → P (table_of rs ds name)) → P no_table
    → P (table_at (tables_of rs ds) k)
of-table P rs ds k h none = subst (λ ts. P (table_at ts k)) (sym (tables-is rs ds)) (of-each P (table_of rs ds) (names_of ds) k h none)

-- ---- nodes in document order
above : (p : ℕ → Bool) (a n : ℕ) → All (λ k. a < k) (filter p (range_with_len (a + 1) n))
above p a n =
    All-filter p (λ k. a < k) (range_with_len (a + 1) n)
    (All-from_get_or (λ k. a < k) (range_with_len (a + 1) n) 0 (λ i lt.
    let w : i < n = subst (λ m. i < m) (length-range_with_len (a + 1) n) lt in
    subst (λ k. a < k) (sym (get_or-range_with_len (a + 1) n i 0 w)) (omega arith)))

filter-list : (p : ℕ → Bool) (a n : ℕ) → IsNodeList (filter p (range_with_len a n))
filter-list p a zero = tt
filter-list p a (suc n) = by (p a) (filter-list p (a + 1) n)
  where
    by : (b : Bool) → IsNodeList (filter p (range_with_len (a + 1) n)) →
        IsNodeList (cond b (a ∷ filter p (range_with_len (a + 1) n)) (filter p (range_with_len (a + 1) n)))
    by true i = (above p a n, i)
    by false i = i

pub table-nodes : (rs : List Record) (ds : List KeyDecl) (name : Label) (text : List ℕ)
    → nodes_of text (table_of rs ds name).entries ≡ key_nodes rs (declarations_of name ds) text
table-nodes rs ds name text = nodes-of-entries rs (declarations_of name ds) text (places rs)

-- ---- faults
abbrev KeyFault : Fault → Type 0
KeyFault f = IsKeyFault (Some f)

expression-fault : (f : Fault) → All KeyFault (expression_fault f)
expression-fault Fraction = All-cons KeyFault Fraction [] tt (All-nil KeyFault)
expression-fault Range = All-cons KeyFault Range [] tt (All-nil KeyFault)
expression-fault NotNodes = All-cons KeyFault NotNodes [] tt (All-nil KeyFault)
expression-fault NoKey = All-cons KeyFault NoKey [] tt (All-nil KeyFault)
expression-fault Budget = All-nil KeyFault
expression-fault TooDeep = All-nil KeyFault
expression-fault NoRule = All-nil KeyFault
expression-fault Terminated = All-nil KeyFault
expression-fault NoExtension = All-nil KeyFault
expression-fault Circular = All-nil KeyFault
expression-fault BadResultName = All-nil KeyFault
expression-fault UnboundResultPrefix = All-nil KeyFault
expression-fault BadValue = All-nil KeyFault
expression-fault TooManyEvents = All-nil KeyFault
expression-fault NoDocument = All-nil KeyFault

end-faults : (end : Answer Value) → All KeyFault (faults_in end)
end-faults (Gives v) = All-nil KeyFault
end-faults (Faults f) = expression-fault f
end-faults (Lacks g) = All-nil KeyFault

at-faults : (rs : List Record) (n : ℕ) (d : KeyDecl) → All KeyFault (faults_at rs n d)
at-faults rs n d = by (is_match [] rs d.pattern n)
  where
    by : (b : Bool) → All KeyFault (cond b (faults_in (use_end rs n d)) [])
    by true = end-faults (use_end rs n d)
    by false = All-nil KeyFault

-- of the lists of items that have something, all have it
pub flat-all : {X Y : Type 0} (Q : X → Type 0) (P : Y → Type 0) (f : X → List Y) → ((x : X) → Q x → All P (f x)) → (xs : List X) → All Q xs
    → All P (flat_map f xs)
flat-all Q P f h [] a = All-nil P
flat-all {X} {Y} Q P f h (x ∷ xs) a =
    subst (λ (l : List Y). All P l) (sym (flat_map-cons f x xs))
    (All-append P (f x) (flat_map f xs) (h x (All-head Q x xs a)) (flat-all Q P f h xs (All-tail Q x xs a)))

anything : {X : Type 0} (xs : List X) → All (λ (x : X). Unit {0}) xs
anything [] = All-nil (λ x. Unit {0})
anything (x ∷ xs) = All-cons (λ y. Unit {0}) x xs tt (anything xs)

first-fault : (fs : List Fault) → All KeyFault fs → IsKeyFault (first_of fs)
first-fault [] h = tt
first-fault (f ∷ fs) h = All-head KeyFault f fs h

fault-is : (rs : List Record) (ds : List KeyDecl) → IsKeyFault (key_fault rs ds)
fault-is rs ds =
    first-fault (flat_map (node_faults rs ds) (places rs))
    (flat-all (λ n. Unit {0}) KeyFault (node_faults rs ds)
    (λ n u. flat-all (λ d. Unit {0}) KeyFault (faults_at rs n) (λ d w. at-faults rs n d) ds (anything ds)) (places rs) (anything (places rs)))

-- ---- all of it
differ-at : (names : List Label) (f : Label → Table) (j k : ℕ) → ((name : Label) → (f name).uri ≡ name.uri) → ((name : Label) → (f name).local ≡ name.local)
    → Apart names → j < k → k < length names → is_named (table_at (map f names) j).uri (table_at (map f names) j).local (table_at (map f names) k) ≡ false
differ-at [] f j k u l a lt within = absurd (omega (arith, within))
differ-at (x ∷ xs) f j k u l a lt within =
    let d = x in
    let first : table_at (map f (x ∷ xs)) j ≡ f (get_or (x ∷ xs) j d) = get_or-map f (x ∷ xs) j d no_table (omega (arith, lt, within)) in
    let second : table_at (map f (x ∷ xs)) k ≡ f (get_or (x ∷ xs) k d) = get_or-map f (x ∷ xs) k d no_table within in
    let p = get_or (x ∷ xs) j d in
    let q = get_or (x ∷ xs) k d in
    ap (λ (t : Table). is_named t.uri t.local (table_at (map f (x ∷ xs)) k)) first ∙ ap (is_named (f p).uri (f p).local) second
    ∙ ap (λ t. bytes_eq t (f p).uri && bytes_eq (f q).local (f p).local) (u q) ∙ ap (λ t. bytes_eq q.uri t && bytes_eq (f q).local (f p).local) (u p)
    ∙ ap (λ t. bytes_eq q.uri p.uri && bytes_eq t (f p).local) (l q) ∙ ap (λ t. bytes_eq q.uri p.uri && bytes_eq q.local t) (l p)
    ∙ apart-pairs (x ∷ xs) a j k d lt within

pub are_tables : (rs : List Record) (ds : List KeyDecl) → length ds < 2 ^ 32 → AreTables (tables_of rs ds)
are_tables rs ds few = record {
  few =
      let n = names-few ds in
      let t = tables-long rs ds in
      few-below (length (tables_of rs ds)) (length (names_of ds)) (length ds) (2 ^ 32) t n few;
  differ = λ j k lt within.
      subst (λ ts. is_named (table_at ts j).uri (table_at ts j).local (table_at ts k) ≡ false) (sym (tables-is rs ds))
      (differ-at (names_of ds) (table_of rs ds) j k (λ name. refl) (λ name. refl) (names-apart ds [] tt) lt (subst (λ n. k < n) (tables-long rs ds) within));
  ordered = λ k text.
      of-table (λ t. IsNodeList (nodes_of text t.entries)) rs ds k
      (λ name. subst IsNodeList (sym (table-nodes rs ds name text)) (filter-list (has_text rs (declarations_of name ds) text) 0 (length rs))) tt;
  faults = λ k. of-table (λ t. IsKeyFault t.fault) rs ds k (λ name. fault-is rs (declarations_of name ds)) tt;
}
  where
    few-below : (a b c m : ℕ) → a ≡ b → b ≤ c → c < m → a < m
    few-below a b c m e le lt = omega (arith, e, le, lt)

-- ---- nodes of the tree
all-places : (rs : List Record) → All (λ n. n < length rs) (places rs)
all-places rs =
    All-from_get_or (λ n. n < length rs) (places rs) 0 (λ i lt.
    let w : i < length rs = subst (λ m. i < m) (length-range_with_len 0 (length rs)) lt in
    subst (λ k. k < length rs) (sym (get_or-range_with_len 0 (length rs) i 0 w)) (let z : 0 + i < length rs = omega (arith, w) in z))

same-node : (rs : List Record) (n : ℕ) (us : List (List ℕ)) → n < length rs → All (λ (u : List ℕ). n < length rs) us
same-node rs n [] h = All-nil (λ u. n < length rs)
same-node rs n (u ∷ us) h = All-cons (λ u. n < length rs) u us h (same-node rs n us h)

entries-inside : (rs : List Record) (ds : List KeyDecl) → All (λ (e : Entry). e.node < length rs) (flat_map (entries_at rs ds) (places rs))
entries-inside rs ds =
    flat-all (λ n. n < length rs) (λ (e : Entry). e.node < length rs) (entries_at rs ds)
    (λ n h. All-map (λ (e : Entry). e.node < length rs) (entry_of n) (distinct (node_texts rs ds n)) (same-node rs n (distinct (node_texts rs ds n)) h))
    (places rs) (all-places rs)

each-inside : (rs : List Record) (ds : List KeyDecl) (names : List Label)
    → All (λ (name : Label). All (λ (e : Entry). e.node < length rs) (table_of rs ds name).entries) names
each-inside rs ds [] = All-nil (λ name. All (λ (e : Entry). e.node < length rs) (table_of rs ds name).entries)
each-inside rs ds (x ∷ xs) =
    All-cons (λ name. All (λ (e : Entry). e.node < length rs) (table_of rs ds name).entries) x xs (entries-inside rs (declarations_of x ds))
    (each-inside rs ds xs)

pub tables-inside : (rs : List Record) (ds : List KeyDecl) → TablesIn rs (tables_of rs ds)
tables-inside rs ds =
    subst (TablesIn rs) (sym (tables-is rs ds))
    (All-map (λ (t : Table). All (λ (e : Entry). e.node < length rs) t.entries) (table_of rs ds) (names_of ds) (each-inside rs ds (names_of ds)))

pub key-laws : (rs : List Record) (ds : List KeyDecl) → KeyLaws rs ds
key-laws rs ds = record {
  nodes = table-nodes rs ds;
  fault = λ name. refl;
  tables = λ k name lt e. table-there rs ds k name lt e;
  inside = tables-inside rs ds;
}
