-- One number compared with those of nodes, one after another.
use Rattle.std.proofs.Common.{◌≡◌, ℕ, ◌<◌, Bool, true, false, List, [], ◌∷◌, ◌++◌, length, Result, Ok, Err, refl, sym, ◌∙◌, ap, arith, subst}
use Rattle.std.proofs.lemmas.List.{append-nil, map-append, append_assoc}
use Rattle.xs_num.specs.Number.{comparison_of}
use Rattle.xs_num.specs.Text.{number_in}
use Rattle.xs_num.specs.declared.number.Number.{Number}
use Rattle.xs_num.specs.declared.number.NumFault.{NumFault}
use Rattle.xs_tree.specs.Record.{Record, string_value}
use Rattle.xs_value.specs.declared.comparison.CompareOp.{CompareOp}
use Rattle.xs_value.specs.Comparison.{by_number, holds, is_ordering, or_else, some}
use Rattle.xs_value.specs.steps.Operands.{Represents, further, node_numbers}
use Rattle.xs_value.proofs.FurtherLemmas.{RepresentsWhole, stands-more, stands-all}

-- how x compares with the numbers of nodes
abbrev pub row : List Record → CompareOp → Number → List ℕ → Result Bool NumFault
row rs op x ns = some (by_number op (Ok x)) (node_numbers rs ns)

-- a number that represents those of the nodes before the ones that are left
pub record StandsBefore (rs : List Record) (op : CompareOp) (nodes left : List ℕ) (furthest : Number) : Type 0 where
  pub before : List ℕ
  pub whole : nodes ≡ before ++ left
  pub stands : RepresentsWhole op (node_numbers rs before) furthest

-- what is left decides
pub record Row (rs : List Record) (op : CompareOp) (x : Number) (nodes left : List ℕ) (furthest : Number) : Type 0 where
  pub decides : row rs op x left ≡ row rs op x nodes
  pub stood : is_ordering op ≡ true → StandsBefore rs op nodes left furthest

row-one : (rs : List Record) (op : CompareOp) (x y : Number) (n : ℕ) (left rest : List ℕ) → left ≡ n ∷ rest → number_in (string_value rs n) ≡ Ok y
    → row rs op x left ≡ or_else (Ok (holds op (comparison_of x y))) (row rs op x rest)
row-one rs op x y n left rest e num = ap (row rs op x) e ∙ ap (λ m. or_else (by_number op (Ok x) m) (row rs op x rest)) num

one-more : (before rest : List ℕ) (n : ℕ) → before ++ n ∷ rest ≡ (before ++ n ∷ []) ++ rest
one-more before rest n = sym (append_assoc before (n ∷ []) rest)

pub row-step : (rs : List Record) (op : CompareOp) (x y f : Number) (n : ℕ) (nodes left rest : List ℕ) → left ≡ n ∷ rest → number_in (string_value rs n) ≡ Ok y
    → holds op (comparison_of x y) ≡ false → Row rs op x nodes left f → Row rs op x nodes rest (further op f y)
row-step rs op x y f n nodes left rest e num h r = record {
  decides = sym (row-one rs op x y n left rest e num ∙ ap (λ b. or_else (Ok b) (row rs op x rest)) h) ∙ r.decides;
  stood = λ o. let s = r.stood o in record {
    before = s.before ++ n ∷ [];
    whole = s.whole ∙ ap (λ l. s.before ++ l) e ∙ one-more s.before rest n;
    stands = subst (λ l. RepresentsWhole op l (further op f y))
        (sym (map-append (λ k. number_in (string_value rs k)) s.before (n ∷ []) ∙ ap (λ m. node_numbers rs s.before ++ m ∷ []) num))
        (stands-more op (node_numbers rs s.before) f y o s.stands);
  };
}

all-nodes : (rs : List Record) (op : CompareOp) (nodes : List ℕ) (f : Number) → 0 < length nodes → RepresentsWhole op (node_numbers rs nodes) f
    → Represents op (node_numbers rs nodes) f
all-nodes rs op [] f l s = absurd (omega arith)
all-nodes rs op (n ∷ ns) f l s = stands-all op (number_in (string_value rs n)) (node_numbers rs ns) f s

pub row-end : (rs : List Record) (op : CompareOp) (x f : Number) (nodes left : List ℕ) → left ≡ [] → 0 < length nodes → Row rs op x nodes left f
    → (row rs op x nodes ≡ Ok false) × (is_ordering op ≡ true → Represents op (node_numbers rs nodes) f)
row-end rs op x f nodes left e l r = (
  sym r.decides ∙ ap (row rs op x) e,
  λ o. let s = r.stood o in
      all-nodes rs op nodes f l (subst (λ k. RepresentsWhole op (node_numbers rs k) f) (sym (s.whole ∙ ap
      (λ l. s.before ++ l) e ∙ append-nil s.before)) s.stands),
)

-- ---- the nodes on the left, of which the first was compared with each number

pub rest-stands : (op : CompareOp) (ys : List (Result Number NumFault)) (e : Number) (xs : List (Result Number NumFault)) → Represents op ys e
    → some (λ x. some (by_number op x) ys) xs ≡ some (λ x. by_number op x (Ok e)) xs
rest-stands op ys e [] s = refl
rest-stands op ys e (x ∷ xs) s =
    ap (λ r. or_else r (some (λ x. some (by_number op x) ys) xs)) (s x) ∙ ap (or_else (by_number op x (Ok e))) (rest-stands op ys e xs s)

-- a fault on the left, where there is something on the right
pub fault-first : (op : CompareOp) (fault : NumFault) (ys : List (Result Number NumFault)) → 0 < length ys → some (by_number op (Err fault)) ys ≡ Err fault
fault-first op fault [] l = absurd (omega arith)
fault-first op fault (y ∷ ys) l = refl
