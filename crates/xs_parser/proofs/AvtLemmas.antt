-- The loop over the pieces of a value template.
use Rattle.std.proofs.Common.{◌≡◌, ◌≢◌, ℕ, ◌+◌, ◌-◌, ◌<◌, ◌≤◌, Bool, true, false, List, [], ◌∷◌, ◌++◌, Option, Some, None, option_map, Result, Ok, Err, length, refl, sym, ◌∙◌, ap, arith, append_assoc}
use Rattle.std.specs.Prelude.{nat_lt, if◌then◌else◌}
use Rattle.std.proofs.lemmas.List.{length-append, append-nil}
use Rattle.std.proofs.lemmas.Bool.Decides.{nat_tests}
use Rattle.xs_xpath.specs.declared.avt.AvtPart.{AvtPart}
use Rattle.xs_xpath.specs.AvtParts.{parts_from}
use Rattle.xs_xpath.specs.Templates.{Part}
use Rattle.xs_parser.specs.declared.avt.Written.{Written}
use Rattle.xs_parser.specs.declared.fault.Fault.{Fault}
use Rattle.xs_parser.specs.declared.fault.Fault.TheVariants.{Syntax, UnknownFunction, ArgCount, BadLiteral, TooNested, NotPattern, UnboundPrefix}
use Rattle.xs_parser.specs.steps.SoFar.{followed_by, unless, with_part}
use Rattle.xs_parser.specs.Outcome.{number_of_fault}
use Rattle.xs_parser.specs.Templates.{Piece, piece_of, piece_at, cut, lesser, joined, part_by, part_in, parts_if, template_in}
use Rattle.xs_parser.proofs.PieceLemmas.{piece-reported, cut-begun, cut-front, shorter-parts}
use Rattle.xs_parser.proofs.PlaceLemmas.{past-is}

-- ---- faults
pub lesser-syntax : (f : Fault) → lesser f Syntax ≡ Syntax
lesser-syntax Syntax = refl
lesser-syntax (UnknownFunction at) = refl
lesser-syntax (ArgCount at) = refl
lesser-syntax (BadLiteral at) = refl
lesser-syntax (TooNested at) = refl
lesser-syntax (NotPattern at) = refl
lesser-syntax (UnboundPrefix at) = refl

choose-assoc : {A : Type 0} (f g h : A) (a b c : ℕ) → (t u v : Bool) → nat_lt b a ≡ t → nat_lt c b ≡ u → nat_lt c a ≡ v
    → (if u then (if v then h else f) else (if t then g else f)) ≡ (if t then (if u then h else g) else (if v then h else f))
choose-assoc f g h a b c true true true x y z = refl
choose-assoc f g h a b c true true false x y z = absurd (grind (arith, nat_tests))
choose-assoc f g h a b c true false v x y z = refl
choose-assoc f g h a b c false true v x y z = refl
choose-assoc f g h a b c false false true x y z = absurd (grind (arith, nat_tests))
choose-assoc f g h a b c false false false x y z = refl

-- the lesser one of three
right-lesser : (f g h : Fault) (u : Bool) → nat_lt (number_of_fault h) (number_of_fault g) ≡ u → lesser f (lesser g h) ≡ (if u then lesser f h else lesser f g)
right-lesser f g h true e = ap (λ (t : Bool). lesser f (if t then h else g)) e
right-lesser f g h false e = ap (λ (t : Bool). lesser f (if t then h else g)) e

left-lesser : (f g h : Fault) (t : Bool) → nat_lt (number_of_fault g) (number_of_fault f) ≡ t → lesser (lesser f g) h ≡ (if t then lesser g h else lesser f h)
left-lesser f g h true e = ap (λ (s : Bool). lesser (if s then g else f) h) e
left-lesser f g h false e = ap (λ (s : Bool). lesser (if s then g else f) h) e

pub lesser-assoc : (f g h : Fault) → lesser f (lesser g h) ≡ lesser (lesser f g) h
lesser-assoc f g h =
    right-lesser f g h (nat_lt (number_of_fault h) (number_of_fault g)) refl
    ∙ choose-assoc f g h (number_of_fault f) (number_of_fault g) (number_of_fault h) (nat_lt (number_of_fault g) (number_of_fault f))
    (nat_lt (number_of_fault h) (number_of_fault g)) (nat_lt (number_of_fault h) (number_of_fault f)) refl refl refl
    ∙ sym (left-lesser f g h (nat_lt (number_of_fault g) (number_of_fault f)) refl)

-- ---- outcomes
nothing-behind : (all : Result (List Part) Fault) → followed_by all (Err Syntax) ≡ Err Syntax
nothing-behind (Ok parts) = refl
nothing-behind (Err f) = ap Err (lesser-syntax f)

nothing-before : (all : Result (List Part) Fault) → followed_by (Ok []) all ≡ all
nothing-before (Ok parts) = refl
nothing-before (Err f) = refl

all-before : (all : Result (List Part) Fault) → followed_by all (Ok []) ≡ all
all-before (Ok parts) = ap Ok (append-nil parts)
all-before (Err f) = refl

joined-syntax : (part : Result Part Fault) → joined part (Err Syntax) ≡ Err Syntax
joined-syntax (Ok part) = refl
joined-syntax (Err f) = ap Err (lesser-syntax f)

parts-more : (pairs : List (List ℕ × List ℕ)) (p : Piece) (o : Option (List Piece))
    → parts_if pairs (option_map {U = List Piece} (λ (ps : List Piece). p ∷ ps) o) ≡ joined (part_in pairs p) (parts_if pairs o)
parts-more pairs p None = sym (joined-syntax (part_in pairs p))
parts-more pairs p (Some ps) = refl

join-step : (fault : Option Fault) (parts : List Part) (part : Result Part Fault) (more : Result (List Part) Fault)
    → followed_by (unless fault parts) (joined part more) ≡ followed_by (with_part fault parts part) more
join-step None parts (Ok p) (Ok ps) = ap Ok (sym (append_assoc parts (p ∷ []) ps))
join-step None parts (Ok p) (Err g) = refl
join-step None parts (Err f) (Ok ps) = refl
join-step None parts (Err f) (Err g) = refl
join-step (Some f) parts (Ok p) (Ok ps) = refl
join-step (Some f) parts (Ok p) (Err g) = refl
join-step (Some f) parts (Err g) (Ok ps) = refl
join-step (Some f) parts (Err g) (Err h) = ap Err (lesser-assoc f g h)

-- ---- the loop
pub start-in : (pairs : List (List ℕ × List ℕ)) (bytes : List ℕ) (items : List AvtPart) → items ≡ []
    → template_in pairs bytes ≡ followed_by (unless None (parts_from items)) (parts_if pairs (cut (length bytes - length bytes) 0 bytes))
unfolding template_in
start-in pairs bytes items is =
    let e : length bytes - length bytes ≡ 0 = omega arith in
    sym
    (ap (λ xs. followed_by (unless None (parts_from xs)) (parts_if pairs (cut (length bytes - length bytes) 0 bytes))) is
    ∙ ap (λ k. followed_by (Ok []) (parts_if pairs (cut k 0 bytes))) e ∙ nothing-before (parts_if pairs (cut 0 0 bytes)))

pub stop-in : (pairs : List (List ℕ × List ℕ)) (n : ℕ) (all s : Result (List Part) Fault) (old : List ℕ)
    → all ≡ followed_by s (parts_if pairs (cut (n - length old) 0 old)) → 0 < length old → piece_at old ≡ None → Err Syntax ≡ all
stop-in pairs n all s [] so some is = absurd (omega arith)
stop-in pairs n all s (b ∷ bs) so some is =
    sym (so ∙ ap (λ o. followed_by s (parts_if pairs o)) (cut-begun (n - length (b ∷ bs)) b bs None is) ∙ nothing-behind s)

piece-there : (n at : ℕ) (text rest : List ℕ) (written : Written) (inner : List ℕ) → text ≢ [] → piece_at (text ++ rest) ≡ Some (written, inner, rest)
    → at + length text ≡ n - length rest
    → cut at 0 (text ++ rest) ≡ option_map {U = List Piece} (λ (ps : List Piece). piece_of at written inner ∷ ps) (cut (n - length rest) 0 rest)
piece-there n at [] rest written inner some h e = absurd (some refl)
piece-there n at (b ∷ text) rest written inner some h e =
    cut-front at b text rest written inner h ∙ ap (λ k. option_map {U = List Piece} (λ (ps : List Piece). piece_of at written inner ∷ ps) (cut k 0 rest))
    (past-is (b ∷ text) at ∙ e)

pub step-in : (pairs : List (List ℕ × List ℕ)) (n at : ℕ) (all : Result (List Part) Fault) (fault : Option Fault) (parts : List Part) (old : List ℕ)
    (written : Written) (inner rest : List ℕ) (part : Result Part Fault) (next : Result (List Part) Fault)
    → all ≡ followed_by (unless fault parts) (parts_if pairs (cut (n - length old) 0 old)) → length old ≤ n → 0 < length old
    → piece_at old ≡ Some (written, inner, rest) → at ≡ n - length old
    → part ≡ part_by pairs at written inner → next ≡ with_part fault parts part → all ≡ followed_by next (parts_if pairs (cut (n - length rest) 0 rest))
step-in pairs n at all fault parts [] written inner rest part next so le some is place hp hn = absurd (omega arith)
step-in pairs n at all fault parts (b ∷ bs) written inner rest part next so le some is place hp hn =
    let t = piece-reported b bs (written, inner, rest) is in
    let l : length (b ∷ bs) ≡ length t.0 + length rest = ap length t.1 ∙ length-append t.0 rest in
    let e : at + length t.0 ≡ n - length rest = omega arith in
    let h : piece_at (t.0 ++ rest) ≡ Some (written, inner, rest) = ap piece_at (sym t.1) ∙ is in
    so ∙ ap (λ k. followed_by (unless fault parts) (parts_if pairs (cut k 0 (b ∷ bs)))) (sym place)
    ∙ ap (λ x. followed_by (unless fault parts) (parts_if pairs (cut at 0 x))) t.1
    ∙ ap (λ o. followed_by (unless fault parts) (parts_if pairs o)) (piece-there n at t.0 rest written inner t.2 h e)
    ∙ ap (followed_by (unless fault parts)) (parts-more pairs (piece_of at written inner) (cut (n - length rest) 0 rest))
    ∙ join-step fault parts (part_by pairs at written inner) (parts_if pairs (cut (n - length rest) 0 rest))
    ∙ ap (λ p. followed_by (with_part fault parts p) (parts_if pairs (cut (n - length rest) 0 rest))) (sym hp)
    ∙ ap (λ s. followed_by s (parts_if pairs (cut (n - length rest) 0 rest))) (sym hn)

pub shorter : (old : List ℕ) (written : Written) (inner rest : List ℕ) → 0 < length old → piece_at old ≡ Some (written, inner, rest) → length rest < length old
shorter [] written inner rest some is = absurd (omega arith)
shorter (b ∷ bs) written inner rest some is =
    let t = piece-reported b bs (written, inner, rest) is in
    shorter-parts (b ∷ bs) t.0 rest t.2 t.1

pub end-in : (pairs : List (List ℕ × List ℕ)) (n : ℕ) (all s : Result (List Part) Fault) (old : List ℕ)
    → all ≡ followed_by s (parts_if pairs (cut (n - length old) 0 old)) → length old ≡ 0 → s ≡ all
unfolding cut
end-in pairs n all s [] so none = sym (so ∙ all-before s)
end-in pairs n all s (b ∷ bs) so none = absurd (omega arith)
