-- The events of a result, and when they are one document.
use Rattle.std.specs.Prelude.{◌≡◌, ℕ, zero, suc, All, List, [], ◌∷◌, Bool, true, false, not, ◌&&◌}
use Rattle.std.specs.Str.{IsUtf8}
use Rattle.xs_trace.specs.Label.{Label}
use Rattle.xs_trace.specs.declared.event.Event.{Event}
use Rattle.xs_trace.specs.declared.event.Event.TheVariants.{Start, Space, Attr, Chars, End, Comment, Pi}
use Rattle.xs_making.specs.Laws.{IsWellPut}

-- Where so many elements are open, each end closes one, and each of them ends.
unfoldable pub is_balanced : ℕ → List Event → Bool
is_balanced zero [] = true
is_balanced (suc n) [] = false
is_balanced n (Start name ∷ es) = is_balanced (suc n) es
is_balanced zero (End ∷ es) = false
is_balanced (suc n) (End ∷ es) = is_balanced n es
is_balanced n (Space prefix uri ∷ es) = is_balanced n es
is_balanced n (Attr name value ∷ es) = is_balanced n es
is_balanced n (Chars text ∷ es) = is_balanced n es
is_balanced n (Comment text ∷ es) = is_balanced n es
is_balanced n (Pi target value ∷ es) = is_balanced n es

-- Where so many elements are open, and whether one has begun outside all others: one element begins there in all, and no text stands
-- there (XML 1.0, 2.1; XPath 1.0, 5.1).
unfoldable pub has_one_top : ℕ → Bool → List Event → Bool
has_one_top n begun [] = begun
has_one_top zero begun (Start name ∷ es) = not begun && has_one_top 1 true es
has_one_top (suc n) begun (Start name ∷ es) = has_one_top (suc (suc n)) true es
has_one_top zero begun (Chars text ∷ es) = false
has_one_top (suc n) begun (Chars text ∷ es) = has_one_top (suc n) begun es
has_one_top zero begun (End ∷ es) = has_one_top zero begun es
has_one_top (suc n) begun (End ∷ es) = has_one_top n begun es
has_one_top n begun (Space prefix uri ∷ es) = has_one_top n begun es
has_one_top n begun (Attr name value ∷ es) = has_one_top n begun es
has_one_top n begun (Comment text ∷ es) = has_one_top n begun es
has_one_top n begun (Pi target value ∷ es) = has_one_top n begun es

-- a result: its elements are balanced, and each event can be written (Namespaces in XML 1.0, 2.2, 3 and 4; XML 1.0, 2.6)
pub record IsResult (es : List Event) : Type 0 where
  pub balanced : is_balanced 0 es ≡ true
  pub named : All IsWellPut es

-- ---- the texts of an event are UTF-8, as those of each event that a program has
abbrev pub HasLabelTexts : Label → Type 0
HasLabelTexts name = IsUtf8 name.uri × IsUtf8 name.local × IsUtf8 name.prefix

abbrev pub HasTexts : Event → Type 0
HasTexts (Start name) = HasLabelTexts name
HasTexts (Space prefix uri) = IsUtf8 prefix × IsUtf8 uri
HasTexts (Attr name value) = HasLabelTexts name × IsUtf8 value
HasTexts (Chars text) = IsUtf8 text
HasTexts End = Unit {0}
HasTexts (Comment text) = IsUtf8 text
HasTexts (Pi target value) = IsUtf8 target × IsUtf8 value
