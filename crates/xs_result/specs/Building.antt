-- What a builder has of the events that came, and what one more makes of it.
use Rattle.std.specs.Prelude.{ℕ, zero, suc, Bool, true, false, List, [], ◌∷◌, ◌++◌, Option, Some, None, if◌then◌else◌}
use Rattle.xs_trace.specs.declared.event.Event.{Event}
use Rattle.xs_trace.specs.declared.event.Event.TheVariants.{Start, Space, Attr, Chars, End, Comment, Pi}
use Rattle.xs_trace.specs.Label.{Label}
use Rattle.xs_result.specs.Built.{is_empty}
use Rattle.xs_result.specs.Places.{with_attribute}

-- a text that may be none
abbrev pub option_events : Option (List ℕ) → List Event
option_events None = []
option_events (Some text) = Chars text ∷ []

-- what stays for good, the start tag that is open, the text before the next event, and how many elements are open
pub record State : Type 0 where
  pub closed : List Event
  pub tag : List Event
  pub text : List ℕ
  pub depth : ℕ

abbrev pub nothing : State
nothing = record { closed = []; tag = []; text = []; depth = 0 }

unfoldable pub text_events : List ℕ → List Event
text_events text = if is_empty text then [] else Chars text ∷ []

-- all that came
unfoldable pub flushed : State → List Event
flushed s = s.closed ++ (s.tag ++ text_events s.text)

-- without what stays for good
abbrev pub forgotten : State → State
forgotten s = record { closed = []; tag = s.tag; text = s.text; depth = s.depth }

abbrev pub is_open : List Event → Bool
is_open [] = false
is_open (e ∷ es) = true

-- a child, or an end, behind all that came
abbrev pub behind : Event → State → State
behind e s = record { closed = flushed s ++ e ∷ []; tag = []; text = []; depth = s.depth }

abbrev pub began : Label → State → State
began name s = record { closed = flushed s; tag = Start name ∷ []; text = []; depth = suc s.depth }

abbrev pub tagged : List Event → State → State
tagged tag s = record { closed = s.closed; tag = tag; text = s.text; depth = s.depth }

abbrev pub spoken : List ℕ → State → State
spoken text s = record { closed = s.closed ++ s.tag; tag = []; text = s.text ++ text; depth = s.depth }

-- an end closes the open element, if there is one
abbrev pub ended : ℕ → State → State
ended zero s = s
ended (suc n) s = record { closed = flushed s ++ End ∷ []; tag = []; text = []; depth = n }

-- what is added to an open start tag
abbrev pub if_open : State → State → State
if_open s new = if is_open s.tag then new else s

abbrev pub if_text : List ℕ → State → State
if_text text s = if is_empty text then s else spoken text s

unfoldable pub taken : State → Event → State
taken s (Start name) = began name s
taken s (Space prefix uri) = if_open s (tagged (s.tag ++ Space prefix uri ∷ []) s)
taken s (Attr name value) = if_open s (tagged (with_attribute name value s.tag) s)
taken s (Chars text) = if_text text s
taken s End = ended s.depth s
taken s (Comment text) = behind (Comment text) s
taken s (Pi target value) = behind (Pi target value) s

unfoldable pub taken_all : State → List Event → State
taken_all s [] = s
taken_all s (e ∷ es) = taken_all (taken s e) es
