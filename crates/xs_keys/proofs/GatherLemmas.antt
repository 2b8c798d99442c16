-- What is gathered run by run is what the key has.
use Rattle.std.proofs.Common.{◌≡◌, ℕ, zero, suc, ◌+◌, ◌-◌, ◌*◌, ◌/◌, ◌%◌, ◌<◌, ◌≤◌, ◌==◌, min, Bool, true, false, cond, ◌||◌, List, [], ◌∷◌, ◌++◌, filter, length, get_or, bytes_eq, Option, Some, None, slice_get, refl, sym, ap, subst, ◌∙◌, arith, append_assoc, append-nil, length-append}
use Rattle.std.proofs.Common.{div-add-mod', mod-lt, suc-mul}
use Rattle.std.proofs.lemmas.Grind.{flat_map-append}
use Rattle.std.proofs.lemmas.Grind.{fold-append}
use Rattle.std.proofs.lemmas.List.{map-append}
use Rattle.std.proofs.lemmas.List.Concat.{flat_map-cons}
use Rattle.std.proofs.lemmas.List.Elements.{All-from_get_or, All-get_or, All-head, All-nil, All-push, All-tail}
use Rattle.std.proofs.lemmas.Bool.{eq-eqb, ne_eqb}
use Rattle.std.specs.List.{All, flat_map, list_any, range_with_len}
use Rattle.std.specs.Option.{option_map_or}
use Rattle.xs_sheet.specs.declared.declarations.KeyDecl.{KeyDecl}
use Rattle.xs_trace.specs.declared.fault.Fault.{Fault}
use Rattle.xs_tree.specs.Record.{Record, places}
use Rattle.xs_keys.specs.Keys.{first_of, has_text, key_fault, key_nodes, node_faults, node_texts, texts_at}
use Rattle.xs_keys.specs.steps.Pairs.{and_pair, between, bound, either, faults_between, is_last, node_pairs, nodes_by, paired, pairs_at, pairs_between, pushed}

-- ---- places
range-split : (a m n : ℕ) → range_with_len a (m + n) ≡ range_with_len a m ++ range_with_len (a + m) n
range-split a zero n =
    let e : zero + n ≡ n = omega arith in
    let f : a + zero ≡ a = omega arith in
    rw (e, f) refl
range-split a (suc m) n =
    let e : suc m + n ≡ suc (m + n) = omega arith in
    let f : a + suc m ≡ a + 1 + m = omega arith in
    rw (e, f) (ap (λ xs. a ∷ xs) (range-split (a + 1) m n))

pub between-split : (start mid end : ℕ) → start ≤ mid → mid ≤ end → between start end ≡ between start mid ++ between mid end
between-split start mid end h k =
    let e : end - start ≡ (mid - start) + (end - mid) = omega arith in
    let f : start + (mid - start) ≡ mid = omega arith in
    ap (range_with_len start) e ∙ range-split start (mid - start) (end - mid)
    ∙ ap (λ s. range_with_len start (mid - start) ++ range_with_len s (end - mid)) f

pub between-none : (start : ℕ) → between start start ≡ []
between-none start = let e : start - start ≡ 0 = omega arith in ap (range_with_len start) e

pub between-next : (start end : ℕ) → start ≤ end → between start (end + 1) ≡ between start end ++ end ∷ []
between-next start end h =
    let e : (end + 1) - end ≡ 1 = omega arith in
    between-split start end (end + 1) h (omega arith) ∙ ap (λ n. between start end ++ range_with_len end n) e

pub bound-next : (size count i : ℕ) → bound size count i ≤ bound size count (i + 1)
bound-next size count i =
    let e : (i + 1) * size ≡ i * size + size = ap (λ k. k * size) (let s : i + 1 ≡ suc i = omega arith in s) ∙ suc-mul i size in
    subst (λ k. min (i * size) count ≤ min k count) (sym e) (omega arith)

pub bound-within : (size count i : ℕ) → bound size count i ≤ count
bound-within size count i = omega arith

pub bound-first : (size count : ℕ) → bound size count 0 ≡ 0
bound-first size count = let e : 0 * size ≡ 0 = omega arith in ap (λ k. min k count) e ∙ (let z : min 0 count ≡ 0 = omega arith in z)

pub bound-last : (size count : ℕ) → 0 < size → bound size count (count / size + 1) ≡ count
bound-last size count h =
    let e : (count / size + 1) * size ≡ count / size * size + size =
    ap (λ k. k * size) (let s : count / size + 1 ≡ suc (count / size) = omega arith in s) ∙ suc-mul (count / size) size in
    let d : count / size * size + count % size ≡ count = div-add-mod' count size in
    let m : count % size < size = mod-lt count h in
    ap (λ k. min k count) e ∙ (let z : min (count / size * size + size) count ≡ count = omega (arith, d, m) in z)

-- ---- the first fault
pub first-either : (xs ys : List Fault) → first_of (xs ++ ys) ≡ either (first_of xs) (first_of ys)
first-either [] ys = refl
first-either (x ∷ xs) ys = refl

pub either-either : (a b c : Option Fault) → either (either a b) c ≡ either a (either b c)
either-either (Some f) b c = refl
either-either None b c = refl

pub either-none : (a : Option Fault) → either a None ≡ a
either-none (Some f) = refl
either-none None = refl

-- ---- the nodes of a text
end-of : (n : ℕ) (ns : List ℕ) → slice_get (ns ++ n ∷ []) (length ns) ≡ Some n
end-of n [] = refl
end-of n (k ∷ ks) = end-of n ks

last-there : (n : ℕ) (ns : List ℕ) → is_last n (ns ++ n ∷ []) ≡ true
last-there n ns =
    let e : length (ns ++ n ∷ []) - 1 ≡ length ns = ap (λ k. k - 1) (length-append ns (n ∷ [])) ∙ (let z : length ns + 1 - 1 ≡ length ns = omega arith in z) in
    ap (λ i. option_map_or (λ k. k == n) (slice_get (ns ++ n ∷ []) i) false) e
    ∙ ap (λ o. option_map_or (λ k. k == n) o false) (end-of n ns) ∙ eq-eqb n n refl

pushed-twice : (ns : List ℕ) (n : ℕ) → pushed (pushed ns n) n ≡ pushed ns n
pushed-twice ns n = by (is_last n ns) refl
  where
    by : (b : Bool) → is_last n ns ≡ b → pushed (cond b ns (ns ++ n ∷ [])) n ≡ cond b ns (ns ++ n ∷ [])
    by true e = ap (λ b. cond b ns (ns ++ n ∷ [])) e
    by false e = ap (λ b. cond b (ns ++ n ∷ []) ((ns ++ n ∷ []) ++ n ∷ [])) (last-there n ns)

none-last : (n i : ℕ) (ns : List ℕ) → All (λ k. k < n) ns → option_map_or (λ k. k == n) (slice_get ns i) false ≡ false
none-last n i [] h = refl
none-last n zero (k ∷ ks) h = let lt : k < n = All-head (λ j. j < n) k ks h in ne_eqb k n (λ e. absurd (omega (arith, lt, e)))
none-last n (suc i) (k ∷ ks) h = none-last n i ks (All-tail (λ j. j < n) k ks h)

pushed-above : (ns : List ℕ) (n : ℕ) → All (λ k. k < n) ns → pushed ns n ≡ ns ++ n ∷ []
pushed-above ns n h = ap (λ b. cond b ns (ns ++ n ∷ [])) (none-last n (length ns - 1) ns h)

-- a node with its texts
node-texts-by : (q : List ℕ) (n : ℕ) (ts : List (List ℕ)) (acc : List ℕ) (b : Bool)
    → ((other : List ℕ) → nodes_by q other (paired n ts) ≡ cond (list_any (bytes_eq q) ts) (pushed other n) other)
    → nodes_by q (cond b (pushed acc n) acc) (paired n ts) ≡ cond (b || list_any (bytes_eq q) ts) (pushed acc n) acc
node-texts-by q n ts acc true i = i (pushed acc n) ∙ by (list_any (bytes_eq q) ts)
  where
    by : (c : Bool) → cond c (pushed (pushed acc n) n) (pushed acc n) ≡ pushed acc n
    by true = pushed-twice acc n
    by false = refl
node-texts-by q n ts acc false i = i acc

node-texts : (q : List ℕ) (n : ℕ) (ts : List (List ℕ)) (acc : List ℕ) → nodes_by q acc (paired n ts) ≡ cond (list_any (bytes_eq q) ts) (pushed acc n) acc
node-texts q n [] acc = refl
node-texts q n (t ∷ ts) acc = node-texts-by q n ts acc (bytes_eq q t) (node-texts q n ts)

paired-all : (rs : List Record) (n : ℕ) (ds : List KeyDecl) → node_pairs rs ds n ≡ paired n (node_texts rs ds n)
paired-all rs n [] = refl
paired-all rs n (d ∷ ds) =
    flat_map-cons (pairs_at rs n) d ds ∙ ap (λ l. pairs_at rs n d ++ l) (paired-all rs n ds)
    ∙ sym (map-append (λ (t : List ℕ). (t, n)) (texts_at rs n d) (node_texts rs ds n))
    ∙ ap (paired n) (sym (flat_map-cons (texts_at rs n) d ds))

-- nodes from a place on, each above those that are there
nodes-from-by : (rs : List Record) (ds : List KeyDecl) (q : List ℕ) (a k : ℕ) (acc : List ℕ) (b : Bool) → All (λ j. j < a) acc
    → ((other : List ℕ) → All (λ j. j < a + 1) other
    → nodes_by q other (flat_map (node_pairs rs ds) (range_with_len (a + 1) k)) ≡ other ++ filter (has_text rs ds q) (range_with_len (a + 1) k))
    → nodes_by q (cond b (pushed acc a) acc) (flat_map (node_pairs rs ds) (range_with_len (a + 1) k))
    ≡ acc ++ cond b (a ∷ filter (has_text rs ds q) (range_with_len (a + 1) k)) (filter (has_text rs ds q) (range_with_len (a + 1) k))
nodes-from-by rs ds q a k acc true h i =
    let rest = filter (has_text rs ds q) (range_with_len (a + 1) k) in
    let below : All (λ j. j < a + 1) acc =
    All-from_get_or (λ j. j < a + 1) acc 0 (λ p lt. let z : get_or acc p 0 < a = All-get_or (λ j. j < a) acc p 0 lt h in omega (arith, z)) in
    ap (λ l. nodes_by q l (flat_map (node_pairs rs ds) (range_with_len (a + 1) k))) (pushed-above acc a h)
    ∙ i (acc ++ a ∷ []) (All-push (λ j. j < a + 1) acc a below (omega arith))
    ∙ append_assoc acc (a ∷ []) rest
nodes-from-by rs ds q a k acc false h i =
    i acc (All-from_get_or (λ j. j < a + 1) acc 0 (λ p lt. let z : get_or acc p 0 < a = All-get_or (λ j. j < a) acc p 0 lt h in omega (arith, z)))

nodes-from : (rs : List Record) (ds : List KeyDecl) (q : List ℕ) (a k : ℕ) (acc : List ℕ) → All (λ j. j < a) acc
    → nodes_by q acc (flat_map (node_pairs rs ds) (range_with_len a k)) ≡ acc ++ filter (has_text rs ds q) (range_with_len a k)
nodes-from rs ds q a zero acc h = sym (append-nil acc)
nodes-from rs ds q a (suc k) acc h =
    ap (nodes_by q acc) (flat_map-cons (node_pairs rs ds) a (range_with_len (a + 1) k))
    ∙ fold-append (and_pair q) acc (node_pairs rs ds a) (flat_map (node_pairs rs ds) (range_with_len (a + 1) k))
    ∙ ap (λ l. nodes_by q l (flat_map (node_pairs rs ds) (range_with_len (a + 1) k)))
    (ap (nodes_by q acc) (paired-all rs a ds) ∙ node-texts q a (node_texts rs ds a) acc)
    ∙ nodes-from-by rs ds q a k acc (has_text rs ds q a) h (λ other g. nodes-from rs ds q (a + 1) k other g)

-- ---- all runs
whole-places : (rs : List Record) → between 0 (length rs) ≡ places rs
whole-places rs = let e : length rs - 0 ≡ length rs = omega arith in ap (range_with_len 0) e

pub nodes-whole : (rs : List Record) (ds : List KeyDecl) (q : List ℕ) (end : ℕ) → end ≡ length rs
    → nodes_by q [] (pairs_between rs ds 0 end) ≡ key_nodes rs ds q
nodes-whole rs ds q end e =
    ap (λ k. nodes_by q [] (pairs_between rs ds 0 k)) e
    ∙ ap (λ l. nodes_by q [] (flat_map (node_pairs rs ds) l)) (whole-places rs)
    ∙ nodes-from rs ds q 0 (length rs) [] (All-nil (λ j. j < 0))

pub fault-whole : (rs : List Record) (ds : List KeyDecl) (end : ℕ) → end ≡ length rs → first_of (faults_between rs ds 0 end) ≡ key_fault rs ds
fault-whole rs ds end e =
    ap (λ k. first_of (faults_between rs ds 0 k)) e ∙ ap (λ l. first_of (flat_map (node_faults rs ds) l)) (whole-places rs)

pub nodes-more : (rs : List Record) (ds : List KeyDecl) (q : List ℕ) (mid end : ℕ) (kept : List ℕ) (pairs : List (List ℕ × ℕ)) → mid ≤ end
    → kept ≡ nodes_by q [] (pairs_between rs ds 0 mid) → pairs ≡ pairs_between rs ds mid end
    → nodes_by q kept pairs ≡ nodes_by q [] (pairs_between rs ds 0 end)
nodes-more rs ds q mid end kept pairs h e f =
    ap (λ k. nodes_by q k pairs) e ∙ ap (nodes_by q (nodes_by q [] (pairs_between rs ds 0 mid))) f
    ∙ sym (fold-append (and_pair q) [] (pairs_between rs ds 0 mid) (pairs_between rs ds mid end))
    ∙ ap (nodes_by q []) (sym (flat_map-append (node_pairs rs ds) (between 0 mid) (between mid end)))
    ∙ ap (λ l. nodes_by q [] (flat_map (node_pairs rs ds) l)) (sym (between-split 0 mid end (omega arith) h))

pub fault-more : (rs : List Record) (ds : List KeyDecl) (mid end : ℕ) (fault next : Option Fault) → mid ≤ end
    → fault ≡ first_of (faults_between rs ds 0 mid) → next ≡ first_of (faults_between rs ds mid end)
    → either fault next ≡ first_of (faults_between rs ds 0 end)
fault-more rs ds mid end fault next h e f =
    ap (λ o. either o next) e ∙ ap (either (first_of (faults_between rs ds 0 mid))) f
    ∙ sym (first-either (faults_between rs ds 0 mid) (faults_between rs ds mid end))
    ∙ ap first_of (sym (flat_map-append (node_faults rs ds) (between 0 mid) (between mid end)))
    ∙ ap (λ l. first_of (flat_map (node_faults rs ds) l)) (sym (between-split 0 mid end (omega arith) h))

-- one node more
pub pairs-next : (rs : List Record) (ds : List KeyDecl) (start end : ℕ) (pairs next : List (List ℕ × ℕ)) → start ≤ end
    → pairs ≡ pairs_between rs ds start end → next ≡ pairs ++ node_pairs rs ds end → next ≡ pairs_between rs ds start (end + 1)
pairs-next rs ds start end pairs next h e f =
    f ∙ ap (λ l. l ++ node_pairs rs ds end) e
    ∙ ap (λ l. pairs_between rs ds start end ++ l) (sym (append-nil (node_pairs rs ds end)) ∙ sym (flat_map-cons (node_pairs rs ds) end []))
    ∙ sym (flat_map-append (node_pairs rs ds) (between start end) (end ∷ []))
    ∙ ap (flat_map (node_pairs rs ds)) (sym (between-next start end h))

pub fault-next : (rs : List Record) (ds : List KeyDecl) (start end : ℕ) (fault next : Option Fault) → start ≤ end
    → fault ≡ first_of (faults_between rs ds start end) → next ≡ either fault (first_of (node_faults rs ds end))
    → next ≡ first_of (faults_between rs ds start (end + 1))
fault-next rs ds start end fault next h e f =
    f ∙ ap (λ o. either o (first_of (node_faults rs ds end))) e
    ∙ sym (first-either (faults_between rs ds start end) (node_faults rs ds end))
    ∙ ap (λ l. first_of (faults_between rs ds start end ++ l)) (sym (append-nil (node_faults rs ds end)) ∙ sym (flat_map-cons (node_faults rs ds) end []))
    ∙ ap first_of (sym (flat_map-append (node_faults rs ds) (between start end) (end ∷ [])))
    ∙ ap (λ l. first_of (flat_map (node_faults rs ds) l)) (sym (between-next start end h))
