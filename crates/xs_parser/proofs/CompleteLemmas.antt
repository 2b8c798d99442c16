-- What the rules spell, the function reads.
use Rattle.std.proofs.Common.{◌≡◌, ℕ, zero, suc, List, [], ◌∷◌, ◌++◌, Option, Some, None, option_map, refl, sym, ◌∙◌, ap, subst, arith, append_assoc}
use Rattle.std.specs.Prelude.{option_and_then}
use Rattle.std.proofs.lemmas.List.{append-nil}
use Rattle.xs_tree.specs.declared.axes.Axis.{Axis}
use Rattle.xs_tree.specs.declared.axes.Axis.TheVariants.{Child}
use Rattle.xs_xpath.specs.declared.name.Function.{Function}
use Rattle.xs_xpath.specs.declared.name.NodeTest.{NodeTest}
use Rattle.xs_xpath.specs.declared.name.NodeTest.TheVariants.{Node}
use Rattle.xs_xpath.specs.declared.token.Operator.{Operator}
use Rattle.xs_xpath.specs.Quotients.{called}
use Rattle.xs_xpath.specs.Tree.{Tree, negative, group, here, root, step, descend, path, trees, atom_tree, chained, filtered, followed}
use Rattle.xs_parser.specs.declared.token.Token.{Token}
use Rattle.xs_parser.specs.declared.token.Token.TheVariants.{Round, Call, EndRound, Square, EndSquare, Comma, Slash, Slashes, Negate, Infix, OnAxis, Test, Dots, Atom as AtomToken}
use Rattle.xs_parser.specs.Tokens.{rank, expr_level}
use Rattle.xs_parser.specs.Grammar.{minus_signs, Spells, operands, signs, relative, only_root, absolute, anywhere, primary, Links, no_links, link, Steps, child_step, axis_step, dotted_step, Behind, nothing, a_predicate, next_step, next_anywhere, Primary, one_token, in_brackets, no_arguments, arguments, Commas, no_commas, argument}
use Rattle.xs_parser.specs.Reading.{Part, plain, whole, predicate, Ahead, tail, tested, stepped, complete, steps_in, with_slash, with_slashes, front, backwards, path_from, path_of, both, pieces, links_of, signed, operand, level, round, arguments_of, square, Frame, State, state, frame, taken, expr, read, tree_by, all_arguments}
use Rattle.xs_parser.proofs.PartLemmas.{Reads, reads-nil, reads-append, Below, below-append, below-more, below-operator, cut-operator, pieces-front, pieces-whole}

none-some : {A : Type 0} (a : A) (o : Option A) → o ≡ None → o ≡ Some a → ⊥
none-some a o h k = cc

-- ---- paths
-- steps after a slash, where a path begins with it or goes on after it
slash-behind : (ahead : Ahead) (steps : List Tree) → steps_in ahead ≡ Some steps → with_slash ahead ≡ Some (tail [] steps)
slash-behind (tail preds more) steps h = absurd (cc)
slash-behind (tested which preds more) steps h = ap (option_map (λ (ss : List Tree). tail [] ss)) h
slash-behind (stepped first more) steps h = ap (option_map (λ (ss : List Tree). tail [] ss)) h
slash-behind (complete e) steps h = absurd (cc)

slashes-behind : (ahead : Ahead) (steps : List Tree) → steps_in ahead ≡ Some steps → with_slashes ahead ≡ Some (tail [] (descend ∷ steps))
slashes-behind ahead steps h = ap (option_map (λ (ss : List Tree). tail [] (descend ∷ ss))) h

some-same : {A : Type 0} (a b : A) → Some a ≡ Some b → a ≡ b
some-same a b h = cc

path-of-steps : (ahead : Ahead) (steps : List Tree) → steps_in ahead ≡ Some steps → path_from ahead ≡ Some (path here (trees steps))
path-of-steps (tail preds more) steps h = absurd (cc)
path-of-steps (tested which preds more) steps h = ap (option_map (λ (ss : List Tree). path here (trees ss))) h
path-of-steps (stepped first more) steps h = ap (option_map (λ (ss : List Tree). path here (trees ss))) h
path-of-steps (complete e) steps h = absurd (cc)

root-of-steps : (ahead : Ahead) (steps : List Tree) → steps_in ahead ≡ Some steps → path_from (tail [] steps) ≡ Some (path root (trees steps))
root-of-steps (tail preds more) steps h = absurd (cc)
root-of-steps (tested which preds more) steps h = go (step Child which (trees preds) ∷ more) steps (some-same _ _ h) refl
  where
    go : (ss ts : List Tree) → ss ≡ ts → path_from (tail [] ss) ≡ Some (path root (trees ss)) → path_from (tail [] ts) ≡ Some (path root (trees ts))
    go ss ts is k = subst (λ all. path_from (tail [] all) ≡ Some (path root (trees all))) is k
root-of-steps (stepped first more) steps h = go (first ∷ more) steps (some-same _ _ h) refl
  where
    go : (ss ts : List Tree) → ss ≡ ts → path_from (tail [] ss) ≡ Some (path root (trees ss)) → path_from (tail [] ts) ≡ Some (path root (trees ts))
    go ss ts is k = subst (λ all. path_from (tail [] all) ≡ Some (path root (trees all))) is k
root-of-steps (complete e) steps h = absurd (cc)

-- a minus sign is before no path
path-minus : (parts : List Part) → path_of (plain Negate ∷ parts) ≡ None
path-minus parts = go (backwards parts (tail [] []))
  where
    go : (o : Option Ahead) → option_and_then path_from (option_and_then (front (plain Negate)) o) ≡ None
    go None = refl
    go (Some ahead) = refl

level-minus : (parts : List Part) → level 1 (plain Negate ∷ parts) ≡ None
unfolding level
level-minus parts = ap (λ o. both chained o (links_of (operand 0 (level 0)) (pieces 1 parts).1)) (path-minus (pieces 1 parts).0)

-- an operand without signs
operand-same : (n : ℕ) (parts : List Part) (e : Tree) → level n parts ≡ Some e → operand n (level n) parts ≡ Some e
operand-same zero parts e h = h
operand-same (suc zero) [] e h = rw h refl
operand-same (suc zero) (plain Negate ∷ parts) e h = absurd (none-some e _ (level-minus parts) h)
operand-same (suc zero) (part ∷ parts) e h = rw h refl
operand-same (suc (suc n)) parts e h = h

-- ---- what the rules spell is read, and gives the tree
record Made (k : Tree → Tree) (n : ℕ) (ts : List Token) (e : Tree) : Type 0 where
  pub parts : List Part
  pub reads : Reads k ts parts
  pub gives : level n parts ≡ Some e
  pub below : Below n parts

record MadeLinks (k : Tree → Tree) (n : ℕ) (ts : List Token) (links : List (Operator × Tree)) : Type 0 where
  pub parts : List Part
  pub more : List (Operator × List Part)
  pub reads : Reads k ts parts
  pub cuts : pieces (suc n) parts ≡ ([], more)
  pub gives : links_of (operand n (level n)) more ≡ Some links
  pub below : Below (suc n) parts

record MadeBehind (k : Tree → Tree) (ts : List Token) (preds steps : List Tree) : Type 0 where
  pub parts : List Part
  pub reads : Reads k ts parts
  pub gives : backwards parts (tail [] []) ≡ Some (tail preds steps)
  pub below : Below 0 parts

record MadeSteps (k : Tree → Tree) (ts : List Token) (steps : List Tree) : Type 0 where
  pub parts : List Part
  pub reads : Reads k ts parts
  pub ahead : Ahead
  pub gives : backwards parts (tail [] []) ≡ Some ahead
  pub stands : steps_in ahead ≡ Some steps
  pub below : Below 0 parts

-- a primary expression is one part
abbrev MadePrimary : (Tree → Tree) → List Token → Tree → Type 0
MadePrimary k ts e = Reads k ts (whole e ∷ [])

-- arguments are kept with the bracket
abbrev MadeCommas : (Tree → Tree) → List Token → List Tree → Type 0
MadeCommas k ts es =
    (function : Function) (before : List Part) (frames : List Frame) (rest : List Token)
    → read (expr k) (ts ++ rest) (state (frame (arguments_of function []) before ∷ frames) []) ≡ read (expr k) rest
    (state (frame (arguments_of function es) before ∷ frames) [])

made-operands : (k : Tree → Tree) (n : ℕ) (ts us : List Token) (e : Tree) (links : List (Operator × Tree)) → Made k n ts e → MadeLinks k n us links
    → Made k (suc n) (ts ++ us) (chained e links)
unfolding level
made-operands k n ts us e links m l = record {
  parts = m.parts ++ l.parts;
  reads = reads-append k ts us m.parts l.parts m.reads l.reads;
  gives = rw (pieces-front n (suc n) m.parts l.parts (omega arith) m.below, l.cuts, append-nil m.parts, operand-same n m.parts e m.gives, l.gives) refl;
  below = below-append (suc n) m.parts l.parts (below-more n (suc n) m.parts (omega arith) m.below) l.below;
}

made-link : (k : Tree → Tree) (n : ℕ) (op : Operator) (ts us : List Token) (e : Tree) (links : List (Operator × Tree)) → rank op ≡ suc n → Made k n ts e
    → MadeLinks k n us links → MadeLinks k n (Infix op ∷ ts ++ us) ((op, e) ∷ links)
unfolding read
made-link k n op ts us e links is m l = record {
  parts = plain (Infix op) ∷ m.parts ++ l.parts;
  more = (op, m.parts) ∷ l.more;
  reads = λ frames front rest. reads-append k ts us m.parts l.parts m.reads l.reads frames (front ++ plain (Infix op) ∷ []) rest
      ∙ ap (λ parts. read (expr k) rest (state frames parts)) (append_assoc front (plain (Infix op) ∷ []) (m.parts ++ l.parts));
  cuts = rw (cut-operator (suc n) op is, pieces-front n (suc n) m.parts l.parts (omega arith) m.below, l.cuts, append-nil m.parts) refl;
  gives = rw (operand-same n m.parts e m.gives, l.gives) refl;
  below = (below-operator (suc n) op is, below-append (suc n) m.parts l.parts (below-more n (suc n) m.parts (omega arith) m.below) l.below);
}

-- so many minus signs
abbrev minuses : ℕ → List Part → List Part
minuses zero ps = ps
minuses (suc m) ps = plain Negate ∷ minuses m ps

reads-one : (k : Tree → Tree) (t : Token) (part : Part) (ts : List Token) (ps : List Part)
    → ((s : State) → taken (expr k) t s ≡ Some (state s.frames (s.parts ++ part ∷ []))) → Reads k ts ps → Reads k (t ∷ ts) (part ∷ ps)
unfolding read
reads-one k t part ts ps is h frames front rest =
    rw (is (state frames front)) (h frames (front ++ part ∷ []) rest ∙ ap (λ parts. read (expr k) rest (state frames parts))
    (append_assoc front (part ∷ []) ps))

reads-signs : (k : Tree → Tree) (m : ℕ) (ts : List Token) (ps : List Part) → Reads k ts ps → Reads k (minus_signs m ts) (minuses m ps)
reads-signs k zero ts ps h = h
reads-signs k (suc m) ts ps h = reads-one k Negate (plain Negate) (minus_signs m ts) (minuses m ps) (λ s. refl) (reads-signs k m ts ps h)

below-signs : (n m : ℕ) (ps : List Part) → Below n ps → Below n (minuses m ps)
below-signs n zero ps h = h
below-signs n (suc m) ps h = ((λ r lt. refl), below-signs n m ps h)

signed-none : (ps : List Part) (e : Tree) → level 1 ps ≡ Some e → signed (level 1) ps ≡ Some (0, e)
signed-none [] e h = rw h refl
signed-none (plain Negate ∷ parts) e h = absurd (none-some e _ (level-minus parts) h)
signed-none (part ∷ parts) e h = rw h refl

signed-signs : (m : ℕ) (ps : List Part) (e : Tree) → level 1 ps ≡ Some e → signed (level 1) (minuses m ps) ≡ Some (m, e)
signed-signs zero ps e h = signed-none ps e h
signed-signs (suc m) ps e h = rw (signed-signs m ps e h) refl

made-signs : (k : Tree → Tree) (m : ℕ) (ts : List Token) (e : Tree) → Made k 1 ts e → Made k 2 (minus_signs (suc m) ts) (negative (suc m) e)
unfolding level
made-signs k m ts e made = record {
  parts = minuses (suc m) made.parts;
  reads = reads-signs k (suc m) ts made.parts made.reads;
  gives = rw (pieces-whole 1 2 (minuses m made.parts) (omega arith) (below-signs 1 m made.parts made.below), signed-signs m made.parts e made.gives) refl;
  below = below-more 1 2 (minuses (suc m) made.parts) (omega arith) (below-signs 1 (suc m) made.parts made.below);
}

-- ---- predicates and steps
made-predicate : (k : Tree → Tree) (ts us : List Token) (e : Tree) (preds steps : List Tree) → Made k expr_level ts e → MadeBehind k us preds steps
    → MadeBehind k (Square ∷ ts ++ EndSquare ∷ us) (k e ∷ preds) steps
unfolding read
made-predicate k ts us e preds steps m b = record {
  parts = predicate (k e) ∷ b.parts;
  reads = λ frames front rest.
      ap (λ all. read (expr k) all (state (frame square front ∷ frames) [])) (append_assoc ts (EndSquare ∷ us) rest)
      ∙ m.reads (frame square front ∷ frames) [] (EndSquare ∷ us ++ rest)
      ∙ rw m.gives (b.reads frames (front ++ predicate (k e) ∷ []) rest
      ∙ ap (λ parts. read (expr k) rest (state frames parts)) (append_assoc front (predicate (k e) ∷ []) b.parts));
  gives = rw b.gives refl;
  below = ((λ r lt. refl), b.below);
}

made-next : (k : Tree → Tree) (ts : List Token) (steps : List Tree) → MadeSteps k ts steps → MadeBehind k (Slash ∷ ts) [] steps
made-next k ts steps s = record {
  parts = plain Slash ∷ s.parts;
  reads = reads-one k Slash (plain Slash) ts s.parts (λ s. refl) s.reads;
  gives = rw s.gives (slash-behind s.ahead steps s.stands);
  below = ((λ r lt. refl), s.below);
}

made-next-anywhere : (k : Tree → Tree) (ts : List Token) (steps : List Tree) → MadeSteps k ts steps → MadeBehind k (Slashes ∷ ts) [] (descend ∷ steps)
made-next-anywhere k ts steps s = record {
  parts = plain Slashes ∷ s.parts;
  reads = reads-one k Slashes (plain Slashes) ts s.parts (λ s. refl) s.reads;
  gives = rw s.gives (slashes-behind s.ahead steps s.stands);
  below = ((λ r lt. refl), s.below);
}

made-child : (k : Tree → Tree) (which : NodeTest) (ts : List Token) (preds steps : List Tree) → MadeBehind k ts preds steps
    → MadeSteps k (Test which ∷ ts) (step Child which (trees preds) ∷ steps)
made-child k which ts preds steps b = record {
  parts = plain (Test which) ∷ b.parts;
  reads = reads-one k (Test which) (plain (Test which)) ts b.parts (λ s. refl) b.reads;
  ahead = tested which preds steps;
  gives = rw b.gives refl;
  stands = refl;
  below = ((λ r lt. refl), b.below);
}

made-axis : (k : Tree → Tree) (axis : Axis) (which : NodeTest) (ts : List Token) (preds steps : List Tree) → MadeBehind k ts preds steps
    → MadeSteps k (OnAxis axis ∷ Test which ∷ ts) (step axis which (trees preds) ∷ steps)
made-axis k axis which ts preds steps b = record {
  parts = plain (OnAxis axis) ∷ plain (Test which) ∷ b.parts;
  reads = reads-one k (OnAxis axis) (plain (OnAxis axis)) (Test which ∷ ts) (plain (Test which) ∷ b.parts) (λ s. refl)
      (reads-one k (Test which) (plain (Test which)) ts b.parts (λ s. refl) b.reads);
  ahead = stepped (step axis which (trees preds)) steps;
  gives = rw b.gives refl;
  stands = refl;
  below = ((λ r lt. refl), ((λ r lt. refl), b.below));
}

made-dots : (k : Tree → Tree) (axis : Axis) (ts : List Token) (steps : List Tree) → MadeBehind k ts [] steps
    → MadeSteps k (Dots axis ∷ ts) (step axis Node (trees []) ∷ steps)
made-dots k axis ts steps b = record {
  parts = plain (Dots axis) ∷ b.parts;
  reads = reads-one k (Dots axis) (plain (Dots axis)) ts b.parts (λ s. refl) b.reads;
  ahead = stepped (step axis Node (trees [])) steps;
  gives = rw b.gives refl;
  stands = refl;
  below = ((λ r lt. refl), b.below);
}

-- ---- paths
made-relative : (k : Tree → Tree) (ts : List Token) (steps : List Tree) → MadeSteps k ts steps → Made k 0 ts (path here (trees steps))
unfolding level
made-relative k ts steps s = record {
  parts = s.parts;
  reads = s.reads;
  gives = rw s.gives (path-of-steps s.ahead steps s.stands);
  below = s.below;
}

made-root : (k : Tree → Tree) → Made k 0 (Slash ∷ []) root
unfolding level
made-root k = record {
  parts = plain Slash ∷ [];
  reads = reads-one k Slash (plain Slash) [] [] (λ s. refl) (reads-nil k);
  gives = refl;
  below = ((λ r lt. refl), tt);
}

made-absolute : (k : Tree → Tree) (ts : List Token) (steps : List Tree) → MadeSteps k ts steps → Made k 0 (Slash ∷ ts) (path root (trees steps))
unfolding level
made-absolute k ts steps s = record {
  parts = plain Slash ∷ s.parts;
  reads = reads-one k Slash (plain Slash) ts s.parts (λ s. refl) s.reads;
  gives = ap (λ o. option_and_then path_from (option_and_then with_slash o)) s.gives ∙ ap (option_and_then path_from) (slash-behind s.ahead steps s.stands)
      ∙ root-of-steps s.ahead steps s.stands;
  below = ((λ r lt. refl), s.below);
}

made-anywhere : (k : Tree → Tree) (ts : List Token) (steps : List Tree) → MadeSteps k ts steps → Made k 0 (Slashes ∷ ts) (path root (trees (descend ∷ steps)))
unfolding level
made-anywhere k ts steps s = record {
  parts = plain Slashes ∷ s.parts;
  reads = reads-one k Slashes (plain Slashes) ts s.parts (λ s. refl) s.reads;
  gives = ap (λ o. option_and_then path_from (option_and_then with_slashes o)) s.gives ∙ ap (option_and_then path_from) (slashes-behind s.ahead steps s.stands);
  below = ((λ r lt. refl), s.below);
}

made-primary : (k : Tree → Tree) (ts us : List Token) (e : Tree) (preds steps : List Tree) → MadePrimary k ts e → MadeBehind k us preds steps
    → Made k 0 (ts ++ us) (followed (filtered e preds) steps)
unfolding level
made-primary k ts us e preds steps p b = record {
  parts = whole e ∷ b.parts;
  reads = reads-append k ts us (whole e ∷ []) b.parts p b.reads;
  gives = rw b.gives refl;
  below = ((λ r lt. refl), b.below);
}

-- ---- primary expressions
made-brackets : (k : Tree → Tree) (ts : List Token) (e : Tree) → Made k expr_level ts e → MadePrimary k (Round ∷ ts ++ EndRound ∷ []) (group (k e))
unfolding read
made-brackets k ts e m frames front rest =
    ap (λ all. read (expr k) all (state (frame round front ∷ frames) [])) (append_assoc ts (EndRound ∷ []) rest)
    ∙ m.reads (frame round front ∷ frames) [] (EndRound ∷ rest)
    ∙ rw m.gives refl

arguments-last : (k : Tree → Tree) (es : List Tree) (e : Tree) (parts : List Part) → level expr_level parts ≡ Some e
    → all_arguments (expr k) es parts ≡ Some (es ++ k e ∷ [])
unfolding level
arguments-last k [] e [] h = absurd (cc)
arguments-last k [] e (part ∷ parts) h = rw h refl
arguments-last k (a ∷ es) e parts h = rw h refl

made-arguments : (k : Tree → Tree) (function : Function) (ts us : List Token) (es : List Tree) (e : Tree) → MadeCommas k ts es → Made k expr_level us e
    → MadePrimary k (Call function ∷ ts ++ us ++ EndRound ∷ []) (called function (es ++ k e ∷ []))
unfolding read
made-arguments k function ts us es e c m frames front rest =
    ap (λ all. read (expr k) all (state (frame (arguments_of function []) front ∷ frames) []))
    (append_assoc (ts ++ us) (EndRound ∷ []) rest ∙ append_assoc ts us (EndRound ∷ rest))
    ∙ c function front frames (us ++ EndRound ∷ rest)
    ∙ m.reads (frame (arguments_of function es) front ∷ frames) [] (EndRound ∷ rest)
    ∙ rw (arguments-last k es e m.parts m.gives) refl

made-comma : (k : Tree → Tree) (ts us : List Token) (es : List Tree) (e : Tree) → MadeCommas k ts es → Made k expr_level us e
    → MadeCommas k (ts ++ us ++ Comma ∷ []) (es ++ k e ∷ [])
unfolding read
made-comma k ts us es e c m function before frames rest =
    ap (λ all. read (expr k) all (state (frame (arguments_of function []) before ∷ frames) []))
    (append_assoc (ts ++ us) (Comma ∷ []) rest ∙ append_assoc ts us (Comma ∷ rest))
    ∙ c function before frames (us ++ Comma ∷ rest)
    ∙ m.reads (frame (arguments_of function es) before ∷ frames) [] (Comma ∷ rest)
    ∙ rw m.gives refl

made-no-arguments : (k : Tree → Tree) (function : Function) → MadePrimary k (Call function ∷ EndRound ∷ []) (called function [])
unfolding read
made-no-arguments k function frames front rest = refl

mutual
  made : (k : Tree → Tree) (n : ℕ) (ts : List Token) (e : Tree) → Spells k n ts e → Made k n ts e
  made k _ _ _ (operands n ts us e links h l) = made-operands k n ts us e links (made k n ts e h) (made_links k n us links l)
  made k _ _ _ (signs m ts e h) = made-signs k m ts e (made k 1 ts e h)
  made k _ _ _ (relative ts steps h) = made-relative k ts steps (made_steps k ts steps h)
  made k _ _ _ only_root = made-root k
  made k _ _ _ (absolute ts steps h) = made-absolute k ts steps (made_steps k ts steps h)
  made k _ _ _ (anywhere ts steps h) = made-anywhere k ts steps (made_steps k ts steps h)
  made k _ _ _ (primary ts us e preds steps h l) = made-primary k ts us e preds steps (made_primary k ts e h) (made_behind k us preds steps l)

  made_links : (k : Tree → Tree) (n : ℕ) (ts : List Token) (links : List (Operator × Tree)) → Links k n ts links → MadeLinks k n ts links
  made_links k _ _ _ (no_links n) = record { parts = []; more = []; reads = reads-nil k; cuts = refl; gives = refl; below = tt }
  made_links k _ _ _ (link n op ts us e links is h l) = made-link k n op ts us e links is (made k n ts e h) (made_links k n us links l)

  made_steps : (k : Tree → Tree) (ts : List Token) (steps : List Tree) → Steps k ts steps → MadeSteps k ts steps
  made_steps k _ _ (child_step which ts preds steps h) = made-child k which ts preds steps (made_behind k ts preds steps h)
  made_steps k _ _ (axis_step axis which ts preds steps h) = made-axis k axis which ts preds steps (made_behind k ts preds steps h)
  made_steps k _ _ (dotted_step axis ts steps h) = made-dots k axis ts steps (made_behind k ts [] steps h)

  made_behind : (k : Tree → Tree) (ts : List Token) (preds steps : List Tree) → Behind k ts preds steps → MadeBehind k ts preds steps
  made_behind k _ _ _ nothing = record { parts = []; reads = reads-nil k; gives = refl; below = tt }
  made_behind k _ _ _ (a_predicate ts us e preds steps h l) = made-predicate k ts us e preds steps (made k expr_level ts e h) (made_behind k us preds steps l)
  made_behind k _ _ _ (next_step ts steps h) = made-next k ts steps (made_steps k ts steps h)
  made_behind k _ _ _ (next_anywhere ts steps h) = made-next-anywhere k ts steps (made_steps k ts steps h)

  made_primary : (k : Tree → Tree) (ts : List Token) (e : Tree) → Primary k ts e → MadePrimary k ts e
  made_primary k _ _ (one_token atom) = reads-one k (AtomToken atom) (whole (atom_tree atom)) [] [] (λ s. refl) (reads-nil k)
  made_primary k _ _ (in_brackets ts e h) = made-brackets k ts e (made k expr_level ts e h)
  made_primary k _ _ (no_arguments function) = made-no-arguments k function
  made_primary k _ _ (arguments function ts us es e h l) = made-arguments k function ts us es e (made_commas k ts es h) (made k expr_level us e l)

  made_commas : (k : Tree → Tree) (ts : List Token) (es : List Tree) → Commas k ts es → MadeCommas k ts es
  made_commas k _ _ no_commas = λ function before frames rest. refl
  made_commas k _ _ (argument ts us es e h l) = made-comma k ts us es e (made_commas k ts es h) (made k expr_level us e l)

-- what the rules spell is what the function gives, whatever is kept
pub tree_by-Spells : (k : Tree → Tree) (ts : List Token) (e : Tree) → Spells k expr_level ts e → tree_by k ts ≡ Some (k e)
unfolding read tree_by
tree_by-Spells k ts e h =
    let m = made k expr_level ts e h in
    ap (λ all. read (expr k) all (state [] [])) (sym (append-nil ts)) ∙ m.reads [] [] [] ∙ ap (option_map k) m.gives
