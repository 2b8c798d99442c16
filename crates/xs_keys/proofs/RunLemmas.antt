-- One run after another, and one pair after another.
use Rattle.std.proofs.Common.{◌≡◌, ℕ, ◌+◌, ◌/◌, ◌<◌, ◌≤◌, List, [], ◌∷◌, ◌++◌, Option, None, Result, Ok, bytes_eq, filter, if◌then◌else◌, get_or, length, map, refl, suc, sym, subst, take, ap, ◌∙◌, arith, append_assoc, append-nil}
use Rattle.std.proofs.lemmas.Grind.{flat_map-append, fold-append}
use denote.Ref.{Bor}
use Rattle.std.proofs.Math.Seq.{take-suc}
use Rattle.std.proofs.lemmas.List.{get_or-map, length-map, map-append}
use Rattle.std.proofs.lemmas.List.Concat.{flat_map-cons}
use Rattle.std.specs.declared.alloc.AllocError.{AllocError}
use Rattle.std.specs.List.{flat_map}
use Rattle.std.specs.String.{string_bytes}
use Rattle.xs_sheet.specs.declared.declarations.KeyDecl.{KeyDecl}
use Rattle.xs_trace.specs.declared.fault.Fault.{Fault}
use Rattle.xs_tree.specs.Record.{Record}
use Rattle.xs_keys.specs.declared.cells.KeyCell.{KeyCell}
use Rattle.xs_keys.specs.declared.pairs.Gathered.{Gathered}
use Rattle.xs_keys.specs.declared.pairs.Pair.{Pair}
use Rattle.std.proofs.lemmas.List.Elements.{filter-append}
use Rattle.xs_trace.specs.Label.{Label}
use Rattle.xs_keys.specs.KeyTables.{declarations_of, is_of}
use Rattle.xs_keys.specs.Keys.{faults_at, first_of, node_faults}
use Rattle.xs_keys.specs.steps.Cells.{IsCell, nodes_kept}
use Rattle.xs_keys.specs.steps.Pairs.{IsBetween, IsRun, and_pair, bound, decls_in, either, faults_between, node_pairs, nodes_by, pair_of, paired, pairs_at, pairs_between, pairs_in, pushed}
use Rattle.xs_keys.proofs.GatherLemmas.{between-none, bound-last, bound-next, either-either, fault-more, fault-next, fault-whole, first-either, nodes-more, nodes-whole, pairs-next}

-- ---- lists of which some items were taken
at-end : {X : Type 0} (front rest : List X) (x d : X) → get_or (front ++ x ∷ rest) (length front) d ≡ x
at-end [] rest x d = refl
at-end (y ∷ ys) rest x d = at-end ys rest x d

item-at : {X : Type 0} (front rest : List X) (x d : X) (whole : List X) → front ++ x ∷ rest ≡ whole → get_or whole (length front) d ≡ x
item-at {X} front rest x d whole e = subst (λ (l : List X). get_or l (length front) d ≡ x) e (at-end front rest x d)

longer : {X : Type 0} (front rest : List X) (x : X) → length front < length (front ++ x ∷ rest)
longer [] rest x = omega arith
longer (y ∷ ys) rest x = let i : length ys < length (ys ++ x ∷ rest) = longer ys rest x in omega (arith, i)

item-below : {X : Type 0} (front rest : List X) (x : X) (whole : List X) → front ++ x ∷ rest ≡ whole → length front < length whole
item-below {X} front rest x whole e = subst (λ (l : List X). length front < length l) e (longer front rest x)

one-longer : {X : Type 0} (front : List X) (x : X) → length (front ++ x ∷ []) ≡ length front + 1
one-longer [] x = refl
one-longer (y ∷ ys) x = let i : length (ys ++ x ∷ []) ≡ length ys + 1 = one-longer ys x in omega (arith, i)

pub one-taken : {X : Type 0} (front : List X) (x : X) (rest left whole : List X) → rest ≡ x ∷ left → front ++ rest ≡ whole → (front ++ x ∷ []) ++ left ≡ whole
one-taken front x rest left whole e h = append_assoc front (x ∷ []) left ∙ ap (λ l. front ++ l) (sym e) ∙ h

pub fewer-left : {X : Type 0} (x : X) (rest left : List X) (n m : ℕ) → rest ≡ x ∷ left → n ≡ length rest → m + 1 ≡ n → m ≡ length left
fewer-left x rest left n m e h one = let l : length rest ≡ suc (length left) = ap (λ l. length l) e in omega (arith, l, h, one)

pub all-taken : {X : Type 0} (front rest whole : List X) (n : ℕ) → front ++ rest ≡ whole → n ≡ length rest → n ≡ 0 → front ≡ whole
all-taken front [] whole n e h none = sym (append-nil front) ∙ e
all-taken front (x ∷ xs) whole n e h none = absurd (omega (arith, h, none))

-- ---- pairs
pub pairs-more : (text : List ℕ) (start kept next : List ℕ) (front : List Pair) (x : Pair) → kept ≡ nodes_by text start (pairs_in front)
    → next ≡ (if bytes_eq text (string_bytes x.text) then pushed kept x.node else kept) → next ≡ nodes_by text start (pairs_in (front ++ x ∷ []))
pairs-more text start kept next front x e f =
    f ∙ ap (λ k. and_pair text k (pair_of x)) e
    ∙ sym (fold-append (and_pair text) start (pairs_in front) (pair_of x ∷ []))
    ∙ ap (nodes_by text start) (sym (map-append pair_of front (x ∷ [])))

-- ---- runs
-- what was added up to a run
pub record IsAdded (rs : List Record) (ds : List KeyDecl) (end : ℕ) (kept : List ℕ → List ℕ) (first : Option Fault) : Type 0 where
  pub nodes : (text : List ℕ) → kept text ≡ nodes_by text [] (pairs_between rs ds 0 end)
  pub fault : first ≡ first_of (faults_between rs ds 0 end)

pub none-added : (rs : List Record) (ds : List KeyDecl) (end : ℕ) (kept : List ℕ → List ℕ) (fault : Option Fault) → end ≡ 0
    → ((text : List ℕ) → kept text ≡ []) → fault ≡ None → IsAdded rs ds end kept fault
none-added rs ds end kept fault e n f =
    subst (λ (k : ℕ). IsAdded rs ds k kept fault) (sym e) (record {
      nodes = λ text. n text ∙ ap (λ l. nodes_by text [] (flat_map (node_pairs rs ds) l)) (sym (between-none 0));
      fault = f ∙ ap (λ l. first_of (flat_map (node_faults rs ds) l)) (sym (between-none 0));
    })

pub run-added : (rs : List Record) (ds : List KeyDecl) (size : ℕ) (front : List (Result Gathered AllocError)) (x : Result Gathered AllocError) (g : Gathered)
    (kept next : List ℕ → List ℕ) (fault after : Option Fault) → IsAdded rs ds (bound size (length rs) (length front)) kept fault
    → IsBetween rs ds (bound size (length rs) (length front)) (bound size (length rs) (length front + 1)) g
    → ((text : List ℕ) → next text ≡ nodes_by text (kept text) (pairs_in g.pairs.items)) → after ≡ either fault g.fault
    → IsAdded rs ds (bound size (length rs) (length (front ++ x ∷ []))) next after
run-added rs ds size front x g kept next fault after so_far is nodes faults =
    let mid = bound size (length rs) (length front) in
    let end = bound size (length rs) (length front + 1) in
    subst (λ (k : ℕ). IsAdded rs ds (bound size (length rs) k) next after) (sym (one-longer front x)) (record {
      nodes = λ text. nodes text ∙ nodes-more rs ds text mid end (kept text) (pairs_in g.pairs.items) (bound-next size (length rs) (length front))
          (so_far.nodes text) is.pairs;
      fault = faults ∙ fault-more rs ds mid end fault g.fault (bound-next size (length rs) (length front)) so_far.fault is.fault;
    })

-- a run among all
pub run-there : (rs : List Record) (ds : List KeyDecl) (size count : ℕ) (runs front rest : List (Result Gathered AllocError)) (x : Result Gathered AllocError)
    (g : Gathered) → length runs ≡ count
    → ((i : ℕ) (d : Result Gathered AllocError) → i < count → IsRun rs ds size i (get_or runs i d)) → front ++ x ∷ rest ≡ runs → x ≡ Ok g
    → IsBetween rs ds (bound size (length rs) (length front)) (bound size (length rs) (length front + 1)) g
run-there rs ds size count runs front rest x g long each e is =
    subst (IsRun rs ds size (length front)) (item-at front rest x x runs e ∙ is)
    (each (length front) x (subst (λ (n : ℕ). length front < n) long (item-below front rest x runs e)))

-- after the last run
pub all-added : (rs : List Record) (ds : List KeyDecl) (size count : ℕ) (cell : KeyCell) → 0 < size → count ≡ length rs / size + 1
    → IsAdded rs ds (bound size (length rs) count) (nodes_kept cell) cell.fault → IsCell rs ds cell
all-added rs ds size count cell h e added =
    let end : bound size (length rs) count ≡ length rs = ap (bound size (length rs)) e ∙ bound-last size (length rs) h in
    record {
      nodes = λ text. added.nodes text ∙ nodes-whole rs ds text (bound size (length rs) count) end;
      fault = added.fault ∙ fault-whole rs ds (bound size (length rs) count) end;
    }

-- ---- one node more of a run
pub node-gathered : (rs : List Record) (ds : List KeyDecl) (start place node : ℕ) (was next : Gathered) → start ≤ place → node ≡ place
    → IsBetween rs ds start place was → pairs_in next.pairs.items ≡ pairs_in was.pairs.items ++ node_pairs rs ds node
    → next.fault ≡ either was.fault (first_of (node_faults rs ds node)) → IsBetween rs ds start (place + 1) next
node-gathered rs ds start place node was next h same is pairs fault = record {
  pairs =
      pairs-next rs ds start place (pairs_in was.pairs.items) (pairs_in next.pairs.items) h is.pairs
      (pairs ∙ ap (λ k. pairs_in was.pairs.items ++ node_pairs rs ds k) same);
  fault =
      fault-next rs ds start place was.fault next.fault h is.fault (fault ∙ ap (λ k. either was.fault (first_of (node_faults rs ds k))) same);
}

pub none-gathered : (rs : List Record) (ds : List KeyDecl) (start : ℕ) (g : Gathered) → g.pairs.items ≡ [] → g.fault ≡ None
    → IsBetween rs ds start start g
none-gathered rs ds start g e f = record {
  pairs = ap pairs_in e ∙ ap (flat_map (node_pairs rs ds)) (sym (between-none start));
  fault = f ∙ ap (λ l. first_of (flat_map (node_faults rs ds) l)) (sym (between-none start));
}

-- ---- one declaration more at a node
pub decl-pairs : (rs : List Record) (n : ℕ) (d : KeyDecl) (start was next : List (List ℕ × ℕ)) (front : List KeyDecl)
    → was ≡ start ++ flat_map (pairs_at rs n) front → next ≡ was ++ pairs_at rs n d → next ≡ start ++ flat_map (pairs_at rs n) (front ++ d ∷ [])
decl-pairs rs n d start was next front e f =
    f ∙ ap (λ l. l ++ pairs_at rs n d) e ∙ append_assoc start (flat_map (pairs_at rs n) front) (pairs_at rs n d)
    ∙ ap (λ l. start ++ (flat_map (pairs_at rs n) front ++ l)) (sym (append-nil (pairs_at rs n d)) ∙ sym (flat_map-cons (pairs_at rs n) d []))
    ∙ ap (λ l. start ++ l) (sym (flat_map-append (pairs_at rs n) front (d ∷ [])))

pub decl-fault : (rs : List Record) (n : ℕ) (d : KeyDecl) (start was next : Option Fault) (front : List KeyDecl)
    → was ≡ either start (first_of (flat_map (faults_at rs n) front)) → next ≡ either was (first_of (faults_at rs n d))
    → next ≡ either start (first_of (flat_map (faults_at rs n) (front ++ d ∷ [])))
decl-fault rs n d start was next front e f =
    f ∙ ap (λ o. either o (first_of (faults_at rs n d))) e
    ∙ either-either start (first_of (flat_map (faults_at rs n) front)) (first_of (faults_at rs n d))
    ∙ ap (either start) (sym (first-either (flat_map (faults_at rs n) front) (faults_at rs n d)))
    ∙ ap (λ l. either start (first_of (flat_map (faults_at rs n) front ++ l)))
    (sym (append-nil (faults_at rs n d)) ∙ sym (flat_map-cons (faults_at rs n) d []))
    ∙ ap (λ l. either start (first_of l)) (sym (flat_map-append (faults_at rs n) front (d ∷ [])))

-- ---- declarations behind references
pub decls-next : (members : List (Bor KeyDecl)) (k : ℕ) (d : Bor KeyDecl) → k < length members → get_or members k d ≡ d
    → take (k + 1) (decls_in members) ≡ take k (decls_in members) ++ d.now ∷ []
decls-next members k d lt e =
    let within : k < length (decls_in members) = subst (λ n. k < n) (sym (length-map members (λ (m : Bor KeyDecl). m.now))) lt in
    ap (λ i. take i (decls_in members)) (let z : k + 1 ≡ suc k = omega arith in z)
    ∙ take-suc (decls_in members) k d.now within
    ∙ ap (λ y. take k (decls_in members) ++ y ∷ []) (get_or-map (λ (m : Bor KeyDecl). m.now) members k d d.now lt ∙ ap (λ (m : Bor KeyDecl). m.now) e)

-- ---- one text more at a node
pub texts-next : (f : ℕ → List ℕ) (n : ℕ) (ns : List ℕ) (k x : ℕ) (start was next : List (List ℕ × ℕ)) → k < length ns → get_or ns k x ≡ x
    → was ≡ start ++ paired n (map f (take k ns)) → next ≡ was ++ (f x, n) ∷ [] → next ≡ start ++ paired n (map f (take (k + 1) ns))
texts-next f n ns k x start was next lt e so_far pushed =
    let one : take (k + 1) ns ≡ take k ns ++ x ∷ [] =
    ap (λ i. take i ns) (let z : k + 1 ≡ suc k = omega arith in z) ∙ take-suc ns k x lt ∙ ap (λ y. take k ns ++ y ∷ []) e in
    pushed ∙ ap (λ l. l ++ (f x, n) ∷ []) so_far ∙ append_assoc start (paired n (map f (take k ns))) ((f x, n) ∷ [])
    ∙ ap (λ l. start ++ l) (sym (map-append (λ (t : List ℕ). (t, n)) (map f (take k ns)) (f x ∷ [])))
    ∙ ap (λ l. start ++ paired n l) (sym (map-append f (take k ns) (x ∷ [])))
    ∙ ap (λ l. start ++ paired n (map f l)) (sym one)

pub members-next : (name : Label) (ds : List KeyDecl) (k : ℕ) (d : KeyDecl) (was next : List (Bor KeyDecl)) → k < length ds → get_or ds k d ≡ d
    → decls_in was ≡ declarations_of name (take k ds) → decls_in next ≡ decls_in was ++ declarations_of name (d ∷ [])
    → decls_in next ≡ declarations_of name (take (k + 1) ds)
members-next name ds k d was next lt e so_far one =
    one ∙ ap (λ l. l ++ declarations_of name (d ∷ [])) so_far
    ∙ sym (filter-append (is_of name) (take k ds) (d ∷ []))
    ∙ ap (filter (is_of name)) (sym (ap (λ i. take i ds) (let z : k + 1 ≡ suc k = omega arith in z) ∙ take-suc ds k d lt ∙ ap (λ y. take k ds ++ y ∷ []) e))
