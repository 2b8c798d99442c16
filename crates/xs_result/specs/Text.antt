-- The text of a result.
use Rattle.std.specs.Prelude.{ℕ, List, [], ◌∷◌, ◌++◌}
use Rattle.xs_trace.specs.declared.event.Event.{Event}
use Rattle.xs_trace.specs.declared.event.Event.TheVariants.{Start, Space, Attr, Chars, End, Comment, Pi}

abbrev pub own_text : Event → List ℕ
own_text (Chars text) = text
own_text (Start name) = []
own_text (Space prefix uri) = []
own_text (Attr name value) = []
own_text End = []
own_text (Comment text) = []
own_text (Pi target value) = []

-- the texts of all text nodes, in order (XSLT 1.0, 16.3)
unfoldable pub text_in : List Event → List ℕ
text_in [] = []
text_in (e ∷ es) = own_text e ++ text_in es
