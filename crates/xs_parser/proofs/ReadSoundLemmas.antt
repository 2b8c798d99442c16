-- What the function reads of brackets and of whole texts, the rules spell.
use Rattle.std.proofs.Common.{◌≡◌, List, [], ◌∷◌, ◌++◌, Option, Some, option_map, refl, sym, ◌∙◌, ap, subst, append_assoc}
use Rattle.std.proofs.lemmas.List.{append-nil}
use Rattle.xs_xpath.specs.declared.name.Function.{Function}
use Rattle.xs_xpath.specs.Quotients.{called}
use Rattle.xs_xpath.specs.Tree.{Tree, group, atom_tree}
use Rattle.xs_parser.specs.declared.token.Token.{Token}
use Rattle.xs_parser.specs.declared.token.Token.TheVariants.{Round, Call, EndRound, Square, EndSquare, Comma, Slash, Slashes, Negate, Infix, OnAxis, Test, Dots, Atom as AtomToken}
use Rattle.xs_parser.specs.Tokens.{expr_level}
use Rattle.xs_parser.specs.Grammar.{Spells, Primary, one_token, in_brackets, no_arguments, arguments, Commas, no_commas, argument, same, SpellsExpr}
use Rattle.xs_parser.specs.Reading.{Part, plain, whole, predicate, level, Bracket, round, arguments_of, square, Frame, State, state, frame, taken, expr, read, tree_by, tree_of, all_arguments, ended, round_ended, square_ended, continued, argued, outcome}
use Rattle.xs_parser.proofs.SoundLemmas.{none-some, some-same, map-some, and-then-some, IsPart, Stands, stands-append, level-sound}

-- what is kept of an expression
abbrev Kept : (Tree → Tree) → List Token → Tree → Type 0
Kept k ts e = (f : Tree) × Spells k expr_level ts f × (k f ≡ e)

expr-sound : (k : Tree → Tree) (parts : List Part) (e : Tree) (ts : List Token) → expr k parts ≡ Some e → Stands k ts parts → Kept k ts e
expr-sound k parts e ts h s =
    let m = map-some k (level expr_level parts) e h in
    (m.0, level-sound k expr_level parts m.0 ts m.1 s, m.2)

-- ---- brackets
abbrev Opens : (Tree → Tree) → List Token → Bracket → Type 0
Opens k ts round = ts ≡ Round ∷ []
Opens k ts (arguments_of function es) = (us : List Token) × (ts ≡ Call function ∷ us) × Commas k us es
Opens k ts square = ts ≡ Square ∷ []

-- tokens that were read, by what is kept of them
abbrev Held : (Tree → Tree) → List Frame → List Part → List Token → Type 0
Held k [] parts ts = Stands k ts parts
Held k (f ∷ frames) parts ts = (us vs ws : List Token) × (ts ≡ us ++ vs ++ ws) × Held k frames f.before us × Opens k vs f.bracket × Stands k ws parts

held-part : (k : Tree → Tree) (frames : List Frame) (parts : List Part) (part : Part) (ts us : List Token) → Held k frames parts ts → IsPart k us part
    → Held k frames (parts ++ part ∷ []) (ts ++ us)
held-part k [] parts part ts us h p = stands-append k ts us parts (part ∷ []) h (us, [], sym (append-nil us), p, refl)
held-part k (f ∷ frames) parts part ts us h p = (
  h.0,
  h.1,
  h.2 ++ us,
  ap (λ all. all ++ us) h.3 ∙ append_assoc (h.0 ++ h.1) h.2 us,
  h.4,
  h.5,
  stands-append k h.2 us parts (part ∷ []) h.6
      (us, [], sym (append-nil us), p, refl),
)

held-open : (k : Tree → Tree) (frames : List Frame) (parts : List Part) (bracket : Bracket) (ts us : List Token) → Held k frames parts ts → Opens k us bracket
    → Held k (frame bracket parts ∷ frames) [] (ts ++ us)
held-open k frames parts bracket ts us h o = (ts, us, [], sym (append-nil (ts ++ us)), h, o, refl)

-- where the later token is moved to what stands before it
assoc-end : (us vs ws ts : List Token) (t : Token) → ts ≡ us ++ vs ++ ws → us ++ (vs ++ ws ++ t ∷ []) ≡ ts ++ t ∷ []
assoc-end us vs ws ts t h =
    sym (ap (λ all. all ++ t ∷ []) h ∙ append_assoc (us ++ vs) ws (t ∷ []) ∙ append_assoc us vs (ws ++ t ∷ [])
    ∙ ap (λ all. us ++ all) (sym (append_assoc vs ws (t ∷ []))))

nil-snoc : (es : List Tree) (e : Tree) → es ++ e ∷ [] ≡ [] → ⊥
nil-snoc [] e h = absurd (cc)
nil-snoc (a ∷ es) e h = absurd (cc)

no-commas : (k : Tree → Tree) (us : List Token) (es : List Tree) → Commas k us es → es ≡ [] → us ≡ []
no-commas k _ _ no_commas h = refl
no-commas k _ _ (argument ts us es e c l) h = absurd (nil-snoc es (k e) h)

last-sound : (k : Tree → Tree) (function : Function) (es : List Tree) (parts : List Part) (all : List Tree) (us ws : List Token)
    → option_map (λ e. es ++ e ∷ []) (expr k parts) ≡ Some all → Commas k us es → Stands k ws parts
    → Primary k (Call function ∷ us ++ ws ++ EndRound ∷ []) (called function all)
last-sound k function es parts all us ws h c s =
    let m = map-some (λ (e : Tree). es ++ e ∷ []) (expr k parts) all h in
    let f = expr-sound k parts m.0 ws m.1 s in
    subst (λ xs. Primary k (Call function ∷ us ++ ws ++ EndRound ∷ []) (called function xs)) m.2
    (subst (λ e. Primary k (Call function ∷ us ++ ws ++ EndRound ∷ []) (called function (es ++ e ∷ []))) f.2 (arguments function us ws es f.0 c f.1))

arguments-sound : (k : Tree → Tree) (function : Function) (es : List Tree) (parts : List Part) (all : List Tree) (us ws : List Token)
    → all_arguments (expr k) es parts ≡ Some all → Commas k us es → Stands k ws parts
    → Primary k (Call function ∷ us ++ ws ++ EndRound ∷ []) (called function all)
arguments-sound k function [] [] all us ws h c s =
    subst (λ xs. Primary k (Call function ∷ us ++ ws ++ EndRound ∷ []) (called function xs)) (some-same [] all h)
    (subst (λ vs. Primary k (Call function ∷ vs ++ ws ++ EndRound ∷ []) (called function [])) (sym (no-commas k us [] c refl))
    (subst (λ vs. Primary k (Call function ∷ vs ++ EndRound ∷ []) (called function [])) (sym s) (no_arguments function)))
arguments-sound k function [] (part ∷ parts) all us ws h c s = last-sound k function [] (part ∷ parts) all us ws h c s
arguments-sound k function (e ∷ es) parts all us ws h c s = last-sound k function (e ∷ es) parts all us ws h c s

-- a bracket that ends is a part
abbrev EndSound : (Tree → Tree) → (Bracket → List Part → Option Part) → Token → Type 0
EndSound k end t =
    (bracket : Bracket) (parts : List Part) (part : Part) (vs ws : List Token) → end bracket parts ≡ Some part → Opens k vs bracket → Stands k ws parts
    → IsPart k (vs ++ ws ++ t ∷ []) part

round-sound : (k : Tree → Tree) → EndSound k (round_ended (expr k)) EndRound
round-sound k round parts part vs ws h o s =
    let m = map-some (λ (e : Tree). whole (group e)) (expr k parts) part h in
    let f = expr-sound k parts m.0 ws m.1 s in
    subst (IsPart k (vs ++ ws ++ EndRound ∷ [])) m.2 (subst (λ e. Primary k (vs ++ ws ++ EndRound ∷ []) (group e)) f.2
    (subst (λ all. Primary k (all ++ ws ++ EndRound ∷ []) (group (k f.0))) (sym o) (in_brackets ws f.0 f.1)))
round-sound k (arguments_of function es) parts part vs ws h o s =
    let m = map-some (λ (all : List Tree). whole (called function all)) (all_arguments (expr k) es parts) part h in
    subst (IsPart k (vs ++ ws ++ EndRound ∷ [])) m.2 (subst (λ all. Primary k (all ++ ws ++ EndRound ∷ []) (called function m.0)) (sym o.1)
    (arguments-sound k function es parts m.0 o.0 ws m.1 o.2 s))
round-sound k square parts part vs ws h o s = absurd (none-some part h)

square-sound : (k : Tree → Tree) → EndSound k (square_ended (expr k)) EndSquare
square-sound k round parts part vs ws h o s = absurd (none-some part h)
square-sound k (arguments_of function es) parts part vs ws h o s = absurd (none-some part h)
square-sound k square parts part vs ws h o s =
    let m = map-some (λ (e : Tree). predicate e) (expr k parts) part h in
    let f = expr-sound k parts m.0 ws m.1 s in
    subst (IsPart k (vs ++ ws ++ EndSquare ∷ [])) m.2 (ws, f.0, ap (λ all. all ++ ws ++ EndSquare ∷ []) o, f.1, f.2)

argued-sound : (k : Tree → Tree) (bracket other : Bracket) (parts : List Part) (vs ws : List Token) → argued (expr k) bracket parts ≡ Some other
    → Opens k vs bracket → Stands k ws parts → Opens k (vs ++ ws ++ Comma ∷ []) other
argued-sound k round other parts vs ws h o s = absurd (none-some other h)
argued-sound k (arguments_of function es) other parts vs ws h o s =
    let m = map-some (λ (e : Tree). arguments_of function (es ++ e ∷ [])) (expr k parts) other h in
    let f = expr-sound k parts m.0 ws m.1 s in
    subst (Opens k (vs ++ ws ++ Comma ∷ [])) m.2 (
      o.0 ++ ws ++ Comma ∷ [],
      ap (λ all. all ++ ws ++ Comma ∷ []) o.1,
      subst (λ e. Commas k (o.0 ++ ws ++ Comma ∷ []) (es ++ e ∷ [])) f.2
          (argument o.0 ws es f.0 o.2 f.1),
    )
argued-sound k square other parts vs ws h o s = absurd (none-some other h)

ended-sound : (k : Tree → Tree) (end : Bracket → List Part → Option Part) (t : Token) → EndSound k end t
    → (frames : List Frame) (parts : List Part) (next : State) (ts : List Token) → ended end frames parts ≡ Some next → Held k frames parts ts
    → Held k next.frames next.parts (ts ++ t ∷ [])
ended-sound k end t sound [] parts next ts h s = absurd (none-some next h)
ended-sound k end t sound (f ∷ frames) parts next ts h s =
    let m = map-some (λ (part : Part). state frames (f.before ++ part ∷ [])) (end f.bracket parts) next h in
    subst (λ (n : State). Held k n.frames n.parts (ts ++ t ∷ [])) m.2 (subst (Held k frames (f.before ++ m.0 ∷ [])) (assoc-end s.0 s.1 s.2 ts t s.3)
    (held-part k frames f.before m.0 s.0 (s.1 ++ s.2 ++ t ∷ []) s.4 (sound f.bracket parts m.0 s.1 s.2 m.1 s.5 s.6)))

continued-sound : (k : Tree → Tree) (frames : List Frame) (parts : List Part) (next : State) (ts : List Token) → continued (expr k) frames parts ≡ Some next
    → Held k frames parts ts → Held k next.frames next.parts (ts ++ Comma ∷ [])
continued-sound k [] parts next ts h s = absurd (none-some next h)
continued-sound k (f ∷ frames) parts next ts h s =
    let m = map-some (λ (bracket : Bracket). state (frame bracket f.before ∷ frames) []) (argued (expr k) f.bracket parts) next h in
    subst (λ (n : State). Held k n.frames n.parts (ts ++ Comma ∷ [])) m.2
    (subst (Held k (frame m.0 f.before ∷ frames) []) (assoc-end s.0 s.1 s.2 ts Comma s.3)
    (held-open k frames f.before m.0 s.0 (s.1 ++ s.2 ++ Comma ∷ []) s.4 (argued-sound k f.bracket m.0 parts s.1 s.2 m.1 s.5 s.6)))

-- a state that a token leads to for certain
certain : (k : Tree → Tree) (next now : State) (ts : List Token) → Some now ≡ Some next → Held k now.frames now.parts ts → Held k next.frames next.parts ts
certain k next now ts h s = subst (λ (n : State). Held k n.frames n.parts ts) (some-same now next h) s

taken-sound : (k : Tree → Tree) (t : Token) (s next : State) (ts : List Token) → taken (expr k) t s ≡ Some next → Held k s.frames s.parts ts
    → Held k next.frames next.parts (ts ++ t ∷ [])
taken-sound k Round s next ts h held = certain k next _ (ts ++ Round ∷ []) h (held-open k s.frames s.parts round ts (Round ∷ []) held refl)
taken-sound k (Call function) s next ts h held =
    certain k next _ (ts ++ Call function ∷ []) h (held-open k s.frames s.parts (arguments_of function []) ts (Call function ∷ []) held ([], refl, no_commas))
taken-sound k Square s next ts h held = certain k next _ (ts ++ Square ∷ []) h (held-open k s.frames s.parts square ts (Square ∷ []) held refl)
taken-sound k EndRound s next ts h held = ended-sound k (round_ended (expr k)) EndRound (round-sound k) s.frames s.parts next ts h held
taken-sound k EndSquare s next ts h held = ended-sound k (square_ended (expr k)) EndSquare (square-sound k) s.frames s.parts next ts h held
taken-sound k Comma s next ts h held = continued-sound k s.frames s.parts next ts h held
taken-sound k (AtomToken atom) s next ts h held =
    certain k next _ (ts ++ AtomToken atom ∷ []) h (held-part k s.frames s.parts (whole (atom_tree atom)) ts (AtomToken atom ∷ []) held (one_token atom))
taken-sound k Slash s next ts h held = certain k next _ (ts ++ Slash ∷ []) h (held-part k s.frames s.parts (plain Slash) ts (Slash ∷ []) held refl)
taken-sound k Slashes s next ts h held = certain k next _ (ts ++ Slashes ∷ []) h (held-part k s.frames s.parts (plain Slashes) ts (Slashes ∷ []) held refl)
taken-sound k Negate s next ts h held = certain k next _ (ts ++ Negate ∷ []) h (held-part k s.frames s.parts (plain Negate) ts (Negate ∷ []) held refl)
taken-sound k (Infix op) s next ts h held =
    certain k next _ (ts ++ Infix op ∷ []) h (held-part k s.frames s.parts (plain (Infix op)) ts (Infix op ∷ []) held refl)
taken-sound k (OnAxis axis) s next ts h held =
    certain k next _ (ts ++ OnAxis axis ∷ []) h (held-part k s.frames s.parts (plain (OnAxis axis)) ts (OnAxis axis ∷ []) held refl)
taken-sound k (Test which) s next ts h held =
    certain k next _ (ts ++ Test which ∷ []) h (held-part k s.frames s.parts (plain (Test which)) ts (Test which ∷ []) held refl)
taken-sound k (Dots axis) s next ts h held =
    certain k next _ (ts ++ Dots axis ∷ []) h (held-part k s.frames s.parts (plain (Dots axis)) ts (Dots axis ∷ []) held refl)

outcome-sound : (k : Tree → Tree) (frames : List Frame) (parts : List Part) (e : Tree) (ts : List Token) → outcome (expr k) frames parts ≡ Some e
    → Held k frames parts ts → Kept k ts e
outcome-sound k [] parts e ts h s = expr-sound k parts e ts h s
outcome-sound k (f ∷ frames) parts e ts h s = absurd (none-some e h)

read-sound : (k : Tree → Tree) (ts : List Token) (s : State) (e : Tree) (before : List Token) → read (expr k) ts s ≡ Some e → Held k s.frames s.parts before
    → Kept k (before ++ ts) e
unfolding read
read-sound k [] s e before h held = subst (λ all. Kept k all e) (sym (append-nil before)) (outcome-sound k s.frames s.parts e before h held)
read-sound k (t ∷ ts) s e before h held =
    let m = and-then-some (read (expr k) ts) (taken (expr k) t s) e h in
    subst (λ all. Kept k all e) (append_assoc before (t ∷ []) ts) (read-sound k ts m.0 e (before ++ t ∷ []) m.2 (taken-sound k t s m.0 before m.1 held))

-- what the function gives is what is kept of a tree that the rules spell
pub Spells-tree_by : (k : Tree → Tree) (ts : List Token) (e : Tree) → tree_by k ts ≡ Some e → (f : Tree) × Spells k expr_level ts f × (k f ≡ e)
unfolding tree_by
Spells-tree_by k ts e h = read-sound k ts (state [] []) e [] h refl

pub SpellsExpr-tree_of : (ts : List Token) (e : Tree) → tree_of ts ≡ Some e → SpellsExpr ts e
SpellsExpr-tree_of ts e h = let f = Spells-tree_by same ts e h in subst (SpellsExpr ts) f.2 f.1
