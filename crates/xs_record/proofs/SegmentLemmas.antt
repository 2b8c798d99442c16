-- Items of segments.
use Rattle.std.proofs.Common.{◌≡◌, List, [], ◌∷◌, ◌++◌, ap, ◌∙◌, append-nil}
use Rattle.std.proofs.lemmas.Grind.{flat_map-append}
use Rattle.xs_block.specs.Chain.{Block}
use Rattle.xs_block.specs.Chain as chain
use Rattle.xs_block.proofs.ChainLemmas.{items-append}
use Rattle.xs_trace.specs.declared.item.Item.{Item}
use Rattle.xs_record.specs.Segment.{joined, items_of}

pub joined-append : (ss ts : List (List Item)) → joined (ss ++ ts) ≡ joined ss ++ joined ts
joined-append ss ts = flat_map-append (λ is. is) ss ts

pub joined-more : (ss : List (List Item)) (is : List Item) → joined (ss ++ is ∷ []) ≡ joined ss ++ is
joined-more ss is = joined-append ss (is ∷ []) ∙ ap (λ y. joined ss ++ y) (append-nil is)

-- a segment more in a chain
pub chain-more : (c d : List (Block (List Item))) (is js : List Item) → chain.items_of d ≡ chain.items_of c ++ is ∷ [] → is ≡ js →
    items_of d ≡ items_of c ++ js
chain-more c d is js e f = ap joined e ∙ joined-more (chain.items_of c) is ∙ ap (λ x. items_of c ++ x) f

-- chains that are joined
pub chain-append : (c d : List (Block (List Item))) → items_of (c ++ d) ≡ items_of c ++ items_of d
chain-append c d = ap joined (items-append c d) ∙ joined-append (chain.items_of c) (chain.items_of d)
