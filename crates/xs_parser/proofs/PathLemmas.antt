-- What the loop over the parts of a path keeps.
use Rattle.std.proofs.Common.{◌≡◌, ℕ, List, [], ◌∷◌, ◌++◌, Option, Some, None, option_map, length, refl, sym, ◌∙◌, ap, arith}
use Rattle.std.specs.Prelude.{option_and_then}
use Rattle.std.specs.Option.{option_to_list}
use Rattle.std.proofs.lemmas.List.{map-append}
use Rattle.xs_xpath.specs.Tree.{Tree}
use Rattle.xs_parser.specs.declared.part.Part.{Part as Given}
use Rattle.xs_parser.specs.declared.path.Ahead.{Ahead as GivenAhead}
use Rattle.xs_parser.specs.Reading.{Part, Ahead, front, backwards, path_from}
use Rattle.xs_parser.specs.steps.Parts.{part_of, parts_of, ahead_of}

-- the last part is the first that is read
backwards-last : (ps : List Part) (p : Part) (s : Ahead) → backwards (ps ++ p ∷ []) s ≡ option_and_then (backwards ps) (front p s)
backwards-last [] p s = go (front p s)
  where
    go : (o : Option Ahead) → o ≡ option_and_then (backwards []) o
    go None = refl
    go (Some a) = refl
backwards-last (q ∷ qs) p s = ap (option_and_then (front q)) (backwards-last qs p s) ∙ go (front p s)
  where
    go : (o : Option Ahead) → option_and_then (front q) (option_and_then (backwards qs) o) ≡ option_and_then (backwards (q ∷ qs)) o
    go None = refl
    go (Some a) = refl

-- one part less
popped : (old new : List Given) (part : Given) (s : Ahead) → old ≡ new ++ part ∷ []
    → backwards (parts_of old) s ≡ option_and_then (backwards (parts_of new)) (front (part_of part) s)
popped old new part s is =
    ap (λ ps. backwards (parts_of ps) s) is ∙ ap (λ ps. backwards ps s) (map-append part_of new (part ∷ [])) ∙ backwards-last (parts_of new) (part_of part) s

taken-off : (old new : List Given) (o : Option Given) (part : Given) → old ≡ new ++ option_to_list o → o ≡ Some part → old ≡ new ++ part ∷ []
taken-off old new o part h is = h ∙ ap (λ q. new ++ option_to_list q) is

pub more-in : (all : Option Tree) (old new : List Given) (popped-part : Option Given) (part : Given) (s : Ahead) (o : Option GivenAhead) (next : GivenAhead)
    → all ≡ option_and_then path_from (backwards (parts_of old) s) → old ≡ new ++ option_to_list popped-part → popped-part ≡ Some part
    → option_map ahead_of o ≡ front (part_of part) s → o ≡ Some next
    → all ≡ option_and_then path_from (backwards (parts_of new) (ahead_of next))
more-in all old new q part s o next so left is gives some =
    let h : front (part_of part) s ≡ Some (ahead_of next) = sym gives ∙ ap (option_map ahead_of) some in
    so ∙ ap (option_and_then path_from) (popped old new part s (taken-off old new q part left is) ∙ ap (option_and_then (backwards (parts_of new))) h)

pub stop-in : (all : Option Tree) (old new : List Given) (popped-part : Option Given) (part : Given) (s : Ahead) (o : Option GivenAhead)
    → all ≡ option_and_then path_from (backwards (parts_of old) s) → old ≡ new ++ option_to_list popped-part → popped-part ≡ Some part
    → option_map ahead_of o ≡ front (part_of part) s → o ≡ None → None ≡ all
stop-in all old new q part s o so left is gives none =
    let h : front (part_of part) s ≡ None = sym gives ∙ ap (option_map ahead_of) none in
    sym (so ∙ ap (option_and_then path_from) (popped old new part s (taken-off old new q part left is) ∙ ap (option_and_then (backwards (parts_of new))) h))

pub last-in : (all : Option Tree) (old : List Given) (n : ℕ) (s : Ahead) → all ≡ option_and_then path_from (backwards (parts_of old) s) → n ≡ length old
    → n ≡ 0 → path_from s ≡ all
last-in all [] n s so count none = sym so
last-in all (p ∷ ps) n s so count none = absurd (omega arith)
