-- What the loop over the tokens keeps.
use Rattle.std.proofs.Common.{◌≡◌, ◌≢◌, ℕ, List, [], ◌∷◌, Option, Some, None, option_map, map, reverse, length, refl, sym, ◌∙◌, ap, arith}
use Rattle.std.proofs.lemmas.List.{length-map, length-reverse}
use Rattle.xs_xpath.specs.Tree.{Tree}
use Rattle.xs_parser.specs.declared.token.Token.{Token}
use Rattle.xs_parser.specs.declared.read.Frame.{Frame as GivenFrame}
use Rattle.xs_parser.specs.declared.read.State.{State as GivenState}
use Rattle.xs_parser.specs.Reading.{Part, Frame, State, state, taken, outcome, read, expr, tree_by}
use Rattle.xs_parser.specs.steps.States.{frame_of, state_of}

pub stop : (p : List Part → Option Tree) (all : Option Tree) (old new : List Token) (token : Token) (now : State) (o : Option GivenState)
    → all ≡ read p old now → old ≡ token ∷ new → option_map state_of o ≡ taken p token now → o ≡ None → None ≡ all
unfolding read
stop p all old new token now o so is gives none =
    let h : taken p token now ≡ None = sym gives ∙ ap (option_map state_of) none in
    rw (so, is, h) refl

pub more : (p : List Part → Option Tree) (all : Option Tree) (old new : List Token) (token : Token) (now : State) (o : Option GivenState) (next : GivenState)
    → all ≡ read p old now → old ≡ token ∷ new → option_map state_of o ≡ taken p token now → o ≡ Some next → all ≡ read p new (state_of next)
unfolding read
more p all old new token now o next so is gives some =
    let h : taken p token now ≡ Some (state_of next) = sym gives ∙ ap (option_map state_of) some in
    rw (so, is, h) refl

pub start : (keep : Tree → Tree) (tokens rest : List Token) (frames : List GivenFrame) (parts : List Part) → rest ≡ tokens → frames ≡ [] → parts ≡ []
    → tree_by keep tokens ≡ read (expr keep) rest (state (map frame_of (reverse frames)) parts)
unfolding tree_by
start keep tokens rest frames parts a b c = rw (a, b, c) refl

no-outcome : (p : List Part → Option Tree) (n : ℕ) (frames : List Frame) (parts : List Part) → length frames ≡ n → n ≢ 0 → outcome p frames parts ≡ None
no-outcome p n [] parts is ne = absurd (ne (sym is))
no-outcome p n (f ∷ frames) parts is ne = refl

pub unended : (p : List Part → Option Tree) (all : Option Tree) (n : ℕ) (old : List Token) (frames : List GivenFrame) (parts : List Part)
    → all ≡ read p old (state (map frame_of (reverse frames)) parts)
    → old ≡ [] → n ≡ length frames → n ≢ 0 → None ≡ all
unfolding read
unended p all n old frames parts so is count ne =
    rw (so, is) (sym (no-outcome p n (map frame_of (reverse frames)) parts (length-map (reverse frames) frame_of ∙ length-reverse frames ∙ sym count) ne))

pub last : (p : List Part → Option Tree) (all : Option Tree) (n : ℕ) (old : List Token) (frames : List GivenFrame) (parts : List Part)
    → all ≡ read p old (state (map frame_of (reverse frames)) parts)
    → old ≡ [] → n ≡ length frames → n ≡ 0 → p parts ≡ all
unfolding read
last p all n old [] parts so is count none = rw (so, is) refl
last p all n old (f ∷ frames) parts so is count none = absurd (omega arith)

pub empty : (n : ℕ) (xs : List Token) → n ≡ length xs → n ≡ 0 → xs ≡ []
empty n [] h is = refl
empty n (x ∷ xs) h is = absurd (omega arith)
