-- What the function reads, the rules spell.
use Rattle.std.proofs.Common.{◌≡◌, ℕ, zero, suc, Bool, true, false, List, [], ◌∷◌, ◌++◌, Option, Some, None, option_map, refl, sym, ◌∙◌, ap, subst, arith, append_assoc}
use Rattle.std.specs.Prelude.{◌==◌, if◌then◌else◌, option_and_then}
use Rattle.std.proofs.lemmas.List.{append-nil}
use Rattle.std.proofs.lemmas.Bool.Decides.{nat_tests}
use Rattle.xs_tree.specs.declared.axes.Axis.{Axis}
use Rattle.xs_tree.specs.declared.axes.Axis.TheVariants.{Child}
use Rattle.xs_xpath.specs.declared.name.NodeTest.{NodeTest}
use Rattle.xs_xpath.specs.declared.name.NodeTest.TheVariants.{Node}
use Rattle.xs_xpath.specs.declared.token.Operator.{Operator}
use Rattle.xs_xpath.specs.declared.token.Operator.TheVariants.{Or, And, Equal, Unequal, Less, LessEqual, Greater, GreaterEqual, Plus, Minus, Times, Div, FloorDiv, CeilingDiv, NearestDiv, Mod, Union}
use Rattle.xs_xpath.specs.Tree.{Tree, root, step, descend, path, trees, chained, filtered, followed}
use Rattle.xs_parser.specs.declared.token.Token.{Token}
use Rattle.xs_parser.specs.declared.token.Token.TheVariants.{Square, EndSquare, Slash, Slashes, Negate, Infix, OnAxis, Test, Dots}
use Rattle.xs_parser.specs.Tokens.{rank, expr_level}
use Rattle.xs_parser.specs.Grammar.{minus_signs, Spells, operands, signs, relative, only_root, absolute, anywhere, primary, Links, no_links, link, Steps, child_step, axis_step, dotted_step, Behind, nothing, a_predicate, next_step, next_anywhere, Primary}
use Rattle.xs_parser.specs.Reading.{Part, plain, whole, predicate, Ahead, tail, tested, stepped, complete, steps_in, with_predicate, with_whole, with_test, with_axis, with_dots, behind_slash, with_slash, with_slashes, front, backwards, path_from, path_of, cut, placed, pieces, both, links_of, joined, negated, signed, operand, level}

-- ---- what stands after an option
pub none-some : {A : Type 0} (a : A) → None ≡ Some a → ⊥
none-some a h = cc

pub some-same : {A : Type 0} (a b : A) → Some a ≡ Some b → a ≡ b
some-same a b h = cc

pub map-some : {A B : Type 0} (f : A → B) (o : Option A) (b : B) → option_map f o ≡ Some b → (a : A) × (o ≡ Some a) × (f a ≡ b)
map-some f None b h = absurd (none-some b h)
map-some f (Some a) b h = (a, refl, cc)

pub both-some : {A B C : Type 0} (f : A → B → C) (o : Option A) (p : Option B) (c : C) → both f o p ≡ Some c
    → (a : A) × (b : B) × (o ≡ Some a) × (p ≡ Some b) × (f a b ≡ c)
both-some f None p c h = absurd (none-some c h)
both-some f (Some a) None c h = absurd (none-some c h)
both-some f (Some a) (Some b) c h = (a, b, refl, refl, cc)

pub and-then-some : {A B : Type 0} (f : A → Option B) (o : Option A) (b : B) → option_and_then f o ≡ Some b → (a : A) × (o ≡ Some a) × (f a ≡ Some b)
and-then-some f None b h = absurd (none-some b h)
and-then-some f (Some a) b h = (a, refl, h)

-- ---- parts represent tokens
abbrev pub IsPart : (Tree → Tree) → List Token → Part → Type 0
IsPart k ts (plain t) = ts ≡ t ∷ []
IsPart k ts (whole e) = Primary k ts e
IsPart k ts (predicate e) = (us : List Token) × (f : Tree) × (ts ≡ Square ∷ us ++ EndSquare ∷ []) × Spells k expr_level us f × (k f ≡ e)

abbrev pub Stands : (Tree → Tree) → List Token → List Part → Type 0
Stands k ts [] = ts ≡ []
Stands k ts (part ∷ parts) = (us vs : List Token) × (ts ≡ us ++ vs) × IsPart k us part × Stands k vs parts

pub stands-append : (k : Tree → Tree) (ts us : List Token) (ps qs : List Part) → Stands k ts ps → Stands k us qs → Stands k (ts ++ us) (ps ++ qs)
stands-append k ts us [] qs h l = subst (λ all. Stands k (all ++ us) qs) (sym h) l
stands-append k ts us (p ∷ ps) qs h l = (h.0, h.1 ++ us, ap (λ all. all ++ us) h.2 ∙ append_assoc h.0 h.1 us, h.3, stands-append k h.1 us ps qs h.4 l)

-- a token at the front
stands-token : (k : Tree → Tree) (t : Token) (ts : List Token) (parts : List Part) → Stands k ts (plain t ∷ parts)
    → (us : List Token) × (ts ≡ t ∷ us) × Stands k us parts
stands-token k t ts parts h = (h.1, h.2 ∙ ap (λ us. us ++ h.1) h.3, h.4)

-- ---- paths
steps-not-nil : (k : Tree → Tree) (ts : List Token) (steps : List Tree) → Steps k ts steps → steps ≡ [] → ⊥
steps-not-nil k _ _ (child_step which ts preds steps b) h = absurd (cc)
steps-not-nil k _ _ (axis_step axis which ts preds steps b) h = absurd (cc)
steps-not-nil k _ _ (dotted_step axis ts steps b) h = absurd (cc)

behind-nil : (k : Tree → Tree) (ts : List Token) (preds steps : List Tree) → Behind k ts preds steps → preds ≡ [] → steps ≡ [] → ts ≡ []
behind-nil k _ _ _ nothing h l = refl
behind-nil k _ _ _ (a_predicate ts us e preds steps s b) h l = absurd (cc)
behind-nil k _ _ _ (next_step ts steps s) h l = absurd (steps-not-nil k ts steps s l)
behind-nil k _ _ _ (next_anywhere ts steps s) h l = absurd (cc)

behind-root : (k : Tree → Tree) (ts : List Token) (preds steps : List Tree) → Behind k ts preds steps → preds ≡ [] → (steps ≡ [] → ⊥)
    → Spells k 0 ts (path root (trees steps))
behind-root k _ _ _ nothing h l = absurd (l refl)
behind-root k _ _ _ (a_predicate ts us e preds steps s b) h l = absurd (cc)
behind-root k _ _ _ (next_step ts steps s) h l = absolute ts steps s
behind-root k _ _ _ (next_anywhere ts steps s) h l = anywhere ts steps s

abbrev Means : (Tree → Tree) → List Token → Ahead → Type 0
Means k ts (tail preds steps) = Behind k ts preds steps
Means k ts (tested which preds steps) = (us : List Token) × (ts ≡ Test which ∷ us) × Behind k us preds steps
Means k ts (stepped first steps) = Steps k ts (first ∷ steps)
Means k ts (complete e) = Spells k 0 ts e

steps-sound : (k : Tree → Tree) (ahead : Ahead) (steps : List Tree) (ts : List Token) → steps_in ahead ≡ Some steps → Means k ts ahead → Steps k ts steps
steps-sound k (tail preds more) steps ts h m = absurd (none-some steps h)
steps-sound k (tested which preds more) steps ts h m =
    subst (Steps k ts) (some-same _ _ h) (subst (λ all. Steps k all (step Child which (trees preds) ∷ more)) (sym m.1) (child_step which m.0 preds more m.2))
steps-sound k (stepped first more) steps ts h m = subst (Steps k ts) (some-same _ _ h) m
steps-sound k (complete e) steps ts h m = absurd (none-some steps h)

-- one more token in front
one-front : (t : Token) (us vs : List Token) → us ≡ t ∷ [] → us ++ vs ≡ t ∷ vs
one-front t us vs h = ap (λ all. all ++ vs) h

predicate-sound : (k : Tree → Tree) (e : Tree) (ahead next : Ahead) (us vs : List Token) → with_predicate e ahead ≡ Some next → IsPart k us (predicate e)
    → Means k vs ahead → Means k (us ++ vs) next
predicate-sound k e (tail preds steps) next us vs h p m =
    let is : us ++ vs ≡ Square ∷ p.0 ++ EndSquare ∷ vs = ap (λ all. all ++ vs) p.2 ∙ append_assoc (Square ∷ p.0) (EndSquare ∷ []) vs in
    let d : Behind k (Square ∷ p.0 ++ EndSquare ∷ vs) (k p.1 ∷ preds) steps = a_predicate p.0 vs p.1 preds steps p.3 m in
    let f : Behind k (Square ∷ p.0 ++ EndSquare ∷ vs) (e ∷ preds) steps = subst (λ x. Behind k (Square ∷ p.0 ++ EndSquare ∷ vs) (x ∷ preds) steps) p.4 d in
    subst (Means k (us ++ vs)) (some-same (tail (e ∷ preds) steps) next h) (subst (λ all. Behind k all (e ∷ preds) steps) (sym is) f)
predicate-sound k e (tested which preds steps) next us vs h p m = absurd (none-some next h)
predicate-sound k e (stepped first steps) next us vs h p m = absurd (none-some next h)
predicate-sound k e (complete f) next us vs h p m = absurd (none-some next h)

whole-sound : (k : Tree → Tree) (e : Tree) (ahead next : Ahead) (us vs : List Token) → with_whole e ahead ≡ Some next → Primary k us e → Means k vs ahead
    → Means k (us ++ vs) next
whole-sound k e (tail preds steps) next us vs h p m =
    subst (Means k (us ++ vs)) (some-same (complete (followed (filtered e preds) steps)) next h) (primary us vs e preds steps p m)
whole-sound k e (tested which preds steps) next us vs h p m = absurd (none-some next h)
whole-sound k e (stepped first steps) next us vs h p m = absurd (none-some next h)
whole-sound k e (complete f) next us vs h p m = absurd (none-some next h)

test-sound : (k : Tree → Tree) (which : NodeTest) (ahead next : Ahead) (us vs : List Token) → with_test which ahead ≡ Some next → us ≡ Test which ∷ []
    → Means k vs ahead → Means k (us ++ vs) next
test-sound k which (tail preds steps) next us vs h p m =
    subst (Means k (us ++ vs)) (some-same (tested which preds steps) next h) (vs, one-front (Test which) us vs p, m)
test-sound k which (tested other preds steps) next us vs h p m = absurd (none-some next h)
test-sound k which (stepped first steps) next us vs h p m = absurd (none-some next h)
test-sound k which (complete f) next us vs h p m = absurd (none-some next h)

axis-sound : (k : Tree → Tree) (axis : Axis) (ahead next : Ahead) (us vs : List Token) → with_axis axis ahead ≡ Some next → us ≡ OnAxis axis ∷ []
    → Means k vs ahead → Means k (us ++ vs) next
axis-sound k axis (tail preds steps) next us vs h p m = absurd (none-some next h)
axis-sound k axis (tested which preds steps) next us vs h p m =
    let is : us ++ vs ≡ OnAxis axis ∷ Test which ∷ m.0 = one-front (OnAxis axis) us vs p ∙ ap (λ all. OnAxis axis ∷ all) m.1 in
    subst (Means k (us ++ vs)) (some-same (stepped (step axis which (trees preds)) steps) next h)
    (subst (λ all. Steps k all (step axis which (trees preds) ∷ steps)) (sym is) (axis_step axis which m.0 preds steps m.2))
axis-sound k axis (stepped first steps) next us vs h p m = absurd (none-some next h)
axis-sound k axis (complete f) next us vs h p m = absurd (none-some next h)

dots-sound : (k : Tree → Tree) (axis : Axis) (ahead next : Ahead) (us vs : List Token) → with_dots axis ahead ≡ Some next → us ≡ Dots axis ∷ []
    → Means k vs ahead → Means k (us ++ vs) next
dots-sound k axis (tail [] steps) next us vs h p m =
    subst (Means k (us ++ vs)) (some-same (stepped (step axis Node (trees [])) steps) next h)
    (subst (λ all. Steps k all (step axis Node (trees []) ∷ steps)) (sym (one-front (Dots axis) us vs p)) (dotted_step axis vs steps m))
dots-sound k axis (tail (e ∷ preds) steps) next us vs h p m = absurd (none-some next h)
dots-sound k axis (tested which preds steps) next us vs h p m = absurd (none-some next h)
dots-sound k axis (stepped first steps) next us vs h p m = absurd (none-some next h)
dots-sound k axis (complete f) next us vs h p m = absurd (none-some next h)

behind-slash-sound : (k : Tree → Tree) (ahead next : Ahead) (us vs : List Token) → behind_slash ahead ≡ Some next → us ≡ Slash ∷ [] → Means k vs ahead
    → Means k (us ++ vs) next
behind-slash-sound k ahead next us vs h p m =
    let s = map-some (λ (steps : List Tree). tail [] steps) (steps_in ahead) next h in
    subst (Means k (us ++ vs)) s.2 (subst (λ all. Behind k all [] s.0) (sym (one-front Slash us vs p)) (next_step vs s.0 (steps-sound k ahead s.0 vs s.1 m)))

slash-sound : (k : Tree → Tree) (ahead next : Ahead) (us vs : List Token) → with_slash ahead ≡ Some next → us ≡ Slash ∷ [] → Means k vs ahead
    → Means k (us ++ vs) next
slash-sound k (tail [] []) next us vs h p m =
    let is : us ++ vs ≡ Slash ∷ [] = one-front Slash us vs p ∙ ap (λ all. Slash ∷ all) (behind-nil k vs [] [] m refl refl) in
    subst (Means k (us ++ vs)) (some-same (complete root) next h) (subst (λ all. Spells k 0 all root) (sym is) only_root)
slash-sound k (tail [] (s ∷ steps)) next us vs h p m = absurd (none-some next h)
slash-sound k (tail (e ∷ preds) steps) next us vs h p m = absurd (none-some next h)
slash-sound k (tested which preds steps) next us vs h p m = behind-slash-sound k (tested which preds steps) next us vs h p m
slash-sound k (stepped first steps) next us vs h p m = behind-slash-sound k (stepped first steps) next us vs h p m
slash-sound k (complete f) next us vs h p m = absurd (none-some next h)

slashes-sound : (k : Tree → Tree) (ahead next : Ahead) (us vs : List Token) → with_slashes ahead ≡ Some next → us ≡ Slashes ∷ [] → Means k vs ahead
    → Means k (us ++ vs) next
slashes-sound k ahead next us vs h p m =
    let s = map-some (λ (steps : List Tree). tail [] (descend ∷ steps)) (steps_in ahead) next h in
    subst (Means k (us ++ vs)) s.2 (subst (λ all. Behind k all [] (descend ∷ s.0)) (sym (one-front Slashes us vs p))
    (next_anywhere vs s.0 (steps-sound k ahead s.0 vs s.1 m)))

front-sound : (k : Tree → Tree) (part : Part) (ahead next : Ahead) (us vs : List Token) → front part ahead ≡ Some next → IsPart k us part → Means k vs ahead
    → Means k (us ++ vs) next
front-sound k (whole e) ahead next us vs h p m = whole-sound k e ahead next us vs h p m
front-sound k (predicate e) ahead next us vs h p m = predicate-sound k e ahead next us vs h p m
front-sound k (plain (Test which)) ahead next us vs h p m = test-sound k which ahead next us vs h p m
front-sound k (plain (OnAxis axis)) ahead next us vs h p m = axis-sound k axis ahead next us vs h p m
front-sound k (plain (Dots axis)) ahead next us vs h p m = dots-sound k axis ahead next us vs h p m
front-sound k (plain Slash) ahead next us vs h p m = slash-sound k ahead next us vs h p m
front-sound k (plain Slashes) ahead next us vs h p m = slashes-sound k ahead next us vs h p m
front-sound k (plain _) ahead next us vs h p m = absurd (none-some next h)

backwards-sound : (k : Tree → Tree) (parts : List Part) (ahead : Ahead) (ts : List Token) → backwards parts (tail [] []) ≡ Some ahead → Stands k ts parts
    → Means k ts ahead
backwards-sound k [] ahead ts h s = subst (Means k ts) (some-same (tail [] []) ahead h) (subst (λ all. Behind k all [] []) (sym s) nothing)
backwards-sound k (part ∷ parts) ahead ts h s =
    let a = and-then-some (front part) (backwards parts (tail [] [])) ahead h in
    subst (λ all. Means k all ahead) (sym s.2) (front-sound k part a.0 ahead s.0 s.1 a.2 s.3 (backwards-sound k parts a.0 s.1 a.1 s.4))

path-from-sound : (k : Tree → Tree) (ahead : Ahead) (e : Tree) (ts : List Token) → path_from ahead ≡ Some e → Means k ts ahead → Spells k 0 ts e
path-from-sound k (tail [] (s ∷ steps)) e ts h m = subst (Spells k 0 ts) (some-same _ _ h) (behind-root k ts [] (s ∷ steps) m refl (λ l. cc))
path-from-sound k (tail [] []) e ts h m = absurd (none-some e h)
path-from-sound k (tail (p ∷ preds) steps) e ts h m = absurd (none-some e h)
path-from-sound k (tested which preds steps) e ts h m =
    subst (Spells k 0 ts) (some-same _ _ h) (relative ts (step Child which (trees preds) ∷ steps)
    (subst (λ all. Steps k all (step Child which (trees preds) ∷ steps)) (sym m.1) (child_step which m.0 preds steps m.2)))
path-from-sound k (stepped first steps) e ts h m = subst (Spells k 0 ts) (some-same _ _ h) (relative ts (first ∷ steps) m)
path-from-sound k (complete f) e ts h m = subst (Spells k 0 ts) (some-same _ _ h) m

-- what a reader of parts gives is spelled
abbrev Sound : (Tree → Tree) → ℕ → (List Part → Option Tree) → Type 0
Sound k n p = (parts : List Part) (e : Tree) (ts : List Token) → p parts ≡ Some e → Stands k ts parts → Spells k n ts e

path-sound : (k : Tree → Tree) → Sound k 0 path_of
path-sound k parts e ts h s =
    let a = and-then-some path_from (backwards parts (tail [] [])) e h in
    path-from-sound k a.0 e ts a.2 (backwards-sound k parts a.0 ts a.1 s)

-- ---- pieces
abbrev LinksStand : (Tree → Tree) → ℕ → List Token → List (Operator × List Part) → Type 0
LinksStand k r ts [] = ts ≡ []
LinksStand k r ts (piece ∷ more) = (us vs : List Token) × (ts ≡ Infix piece.0 ∷ us ++ vs) × (rank piece.0 ≡ r) × Stands k us piece.1 × LinksStand k r vs more

abbrev PiecesStand : (Tree → Tree) → ℕ → List Token → List Part × List (Operator × List Part) → Type 0
PiecesStand k r ts found = (us vs : List Token) × (ts ≡ us ++ vs) × Stands k us found.0 × LinksStand k r vs found.1

cut-operator : (r : ℕ) (op other : Operator) (b : Bool) → (rank op == r) ≡ b → (if b then Some op else None) ≡ Some other → (op ≡ other) × (rank op ≡ r)
cut-operator r op other true is h = (cc, grind (arith, nat_tests))
cut-operator r op other false is h = absurd (none-some other h)

cut-sound : (r : ℕ) (part : Part) (op : Operator) → cut r part ≡ Some op → (part ≡ plain (Infix op)) × (rank op ≡ r)
cut-sound r (plain (Infix op)) other h =
    let l = cut-operator r op other (rank op == r) refl h in
    (ap (λ o. plain (Infix o)) l.0, ap rank (sym l.0) ∙ l.1)
cut-sound r _ op h = absurd (none-some op h)

placed-sound : (k : Tree → Tree) (r : ℕ) (o : Option Operator) (part : Part) (found : List Part × List (Operator × List Part)) (us vs : List Token)
    → cut r part ≡ o → IsPart k us part → PiecesStand k r vs found → PiecesStand k r (us ++ vs) (placed o part found)
placed-sound k r None part found us vs is p s = (us ++ s.0, s.1, ap (λ all. us ++ all) s.2 ∙ sym (append_assoc us s.0 s.1), (us, s.0, refl, p, s.3), s.4)
placed-sound k r (Some op) part found us vs is p s =
    let c = cut-sound r part op is in
    let one : us ≡ Infix op ∷ [] = subst (IsPart k us) c.0 p in
    ([], us ++ vs, refl, refl, (s.0, s.1, ap (λ all. all ++ vs) one ∙ ap (λ all. Infix op ∷ all) s.2, c.1, s.3, s.4))

pieces-sound : (k : Tree → Tree) (r : ℕ) (parts : List Part) (ts : List Token) → Stands k ts parts → PiecesStand k r ts (pieces r parts)
pieces-sound k r [] ts s = ([], [], s, refl, refl)
pieces-sound k r (part ∷ parts) ts s =
    subst (λ all. PiecesStand k r all (placed (cut r part) part (pieces r parts))) (sym s.2)
    (placed-sound k r (cut r part) part (pieces r parts) s.0 s.1 refl s.3 (pieces-sound k r parts s.1 s.4))

links-sound : (k : Tree → Tree) (n : ℕ) (p : List Part → Option Tree) → Sound k n p
    → (more : List (Operator × List Part)) (links : List (Operator × Tree)) (ts : List Token) → links_of p more ≡ Some links → LinksStand k (suc n) ts more
    → Links k n ts links
links-sound k n p sound [] links ts h s = subst (Links k n ts) (some-same [] links h) (subst (λ all. Links k n all []) (sym s) (no_links n))
links-sound k n p sound (piece ∷ more) links ts h s =
    let m = both-some (λ (e : Tree) (ls : List (Operator × Tree)). (piece.0, e) ∷ ls) (p piece.1) (links_of p more) links h in
    subst (Links k n ts) m.4 (subst (λ all. Links k n all ((piece.0, m.0) ∷ m.1)) (sym s.2)
    (link n piece.0 s.0 s.1 m.0 m.1 s.3 (sound piece.1 m.0 s.0 m.2 s.4) (links-sound k n p sound more m.1 s.1 m.3 s.5)))

joined-sound : (k : Tree → Tree) (n : ℕ) (p : List Part → Option Tree) → Sound k n p → Sound k (suc n) (λ parts. joined p (pieces (suc n) parts))
joined-sound k n p sound parts e ts h s =
    let found = pieces (suc n) parts in
    let m = both-some chained (p found.0) (links_of p found.1) e h in
    let l = pieces-sound k (suc n) parts ts s in
    subst (Spells k (suc n) ts) m.4 (subst (λ all. Spells k (suc n) all (chained m.0 m.1)) (sym l.2)
    (operands n l.0 l.1 m.0 m.1 (sound found.0 m.0 l.0 m.2 l.3) (links-sound k n p sound found.1 m.1 l.1 m.3 l.4)))

-- ---- signs
abbrev Signed : (Tree → Tree) → List Token → ℕ × Tree → Type 0
Signed k ts f = (us : List Token) × (ts ≡ minus_signs f.0 us) × Spells k 1 us f.1

signed-sound : (k : Tree → Tree) → Sound k 1 (level 1) → (parts : List Part) (found : ℕ × Tree) (ts : List Token) → signed (level 1) parts ≡ Some found
    → Stands k ts parts → Signed k ts found
signed-sound k sound [] found ts h s =
    let m = map-some (λ (e : Tree). (0, e)) (level 1 []) found h in
    subst (Signed k ts) m.2 (ts, refl, sound [] m.0 ts m.1 s)
signed-sound k sound (plain Negate ∷ parts) found ts h s =
    let m = map-some (λ (f : ℕ × Tree). (suc f.0, f.1)) (signed (level 1) parts) found h in
    let a = stands-token k Negate ts parts s in
    let l = signed-sound k sound parts m.0 a.0 m.1 a.2 in
    subst (Signed k ts) m.2 (l.0, a.1 ∙ ap (λ us. Negate ∷ us) l.1, l.2)
signed-sound k sound (part ∷ parts) found ts h s =
    let m = map-some (λ (e : Tree). (0, e)) (level 1 (part ∷ parts)) found h in
    subst (Signed k ts) m.2 (ts, refl, sound (part ∷ parts) m.0 ts m.1 s)

negated-sound : (k : Tree → Tree) (m : ℕ) (us : List Token) (e : Tree) → Spells k 1 us e → Spells k 2 (minus_signs m us) (negated m e)
negated-sound k zero us e h = subst (λ all. Spells k 2 all e) (append-nil us) (operands 1 us [] e [] h (no_links 1))
negated-sound k (suc m) us e h = signs m us e h

-- no operator stands between expressions of level 1
rank-not-two : (op : Operator) → rank op ≡ 2 → ⊥
rank-not-two Or h = omega arith
rank-not-two And h = omega arith
rank-not-two Equal h = omega arith
rank-not-two Unequal h = omega arith
rank-not-two Less h = omega arith
rank-not-two LessEqual h = omega arith
rank-not-two Greater h = omega arith
rank-not-two GreaterEqual h = omega arith
rank-not-two Plus h = omega arith
rank-not-two Minus h = omega arith
rank-not-two Times h = omega arith
rank-not-two Div h = omega arith
rank-not-two FloorDiv h = omega arith
rank-not-two CeilingDiv h = omega arith
rank-not-two NearestDiv h = omega arith
rank-not-two Mod h = omega arith
rank-not-two Union h = omega arith

unary-sound : (k : Tree → Tree) → Sound k 1 (level 1) → (more : List (Operator × List Part)) (first : List Part) (e : Tree) (us vs : List Token)
    → joined (operand 1 (level 1)) (first, more) ≡ Some e → Stands k us first → LinksStand k 2 vs more → Spells k 2 (us ++ vs) e
unary-sound k sound [] first e us vs h s l =
    let m = both-some chained (operand 1 (level 1) first) (Some []) e h in
    let f = map-some (λ (found : ℕ × Tree). negated found.0 found.1) (signed (level 1) first) m.0 m.2 in
    let g = signed-sound k sound first f.0 us f.1 s in
    let none : [] ≡ m.1 = cc in
    let is : negated f.0.0 f.0.1 ≡ e = f.2 ∙ ap (λ links. chained m.0 links) none ∙ m.4 in
    let all : us ++ vs ≡ minus_signs f.0.0 g.0 = ap (λ ws. us ++ ws) l ∙ append-nil us ∙ g.1 in
    subst (Spells k 2 (us ++ vs)) is (subst (λ ts. Spells k 2 ts (negated f.0.0 f.0.1)) (sym all) (negated-sound k f.0.0 g.0 f.0.1 g.2))
unary-sound k sound (piece ∷ more) first e us vs h s l = absurd (rank-not-two piece.0 l.3)

pub level-sound : (k : Tree → Tree) (n : ℕ) → Sound k n (level n)
unfolding level
level-sound k zero parts e ts h s = path-sound k parts e ts h s
level-sound k (suc zero) parts e ts h s = joined-sound k 0 (level 0) (level-sound k zero) parts e ts h s
level-sound k (suc (suc zero)) parts e ts h s =
    let l = pieces-sound k 2 parts ts s in
    subst (λ all. Spells k 2 all e) (sym l.2) (unary-sound k (level-sound k (suc zero)) (pieces 2 parts).1 (pieces 2 parts).0 e l.0 l.1 h l.3 l.4)
level-sound k (suc (suc (suc n))) parts e ts h s = joined-sound k (suc (suc n)) (level (suc (suc n))) (level-sound k (suc (suc n))) parts e ts h s
