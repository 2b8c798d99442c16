-- Where the names and the texts of nodes are kept.
use Rattle.std.specs.Prelude.{ℕ, zero, suc, ◌<◌, ◌≤◌, Bool, true, false, List, [], Option, None, length, slice_get, string_bytes}
use Rattle.std.specs.Str.{IsCharBoundary}
use Rattle.std.specs.List.{slice_range}
use Rattle.std.specs.Option.{unwrap_or}
use Rattle.xs_tree.specs.declared.entries.TextPlace.{TextPlace}
use Rattle.xs_tree.specs.declared.kinds.Kind.{Kind}
use Rattle.xs_tree.specs.declared.names.Name.{Name}
use Rattle.xs_tree.specs.declared.store.Store.{Store}
use Rattle.xs_tree.specs.Growth.{Keeps, Lengthens}
use Rattle.xs_tree.specs.Kinds.{is_namespace_kind}

-- the name with a number: they count from 1 on, and 0 is the number of none
abbrev pub name_at : List Name → ℕ → Option Name
name_at names zero = None
name_at names (suc place) = slice_get names place

-- the text at a place: the URI with a number where this is a namespace node, and else a part of the buffer
abbrev pub text_in : Store → Bool → TextPlace → List ℕ
text_in s true place = unwrap_or (slice_get s.uris place.start) []
text_in s false place = slice_range (string_bytes s.text) place.start place.end

-- the text of a node of this kind
abbrev pub text_at : Store → Kind → TextPlace → List ℕ
text_at s kind place = text_in s (is_namespace_kind kind) place

-- a part of a text, cut between characters
pub record IsRange (text : List ℕ) (start end : ℕ) : Type 0 where
  pub ordered : start ≤ end
  pub from : IsCharBoundary text start
  pub to : IsCharBoundary text end

-- there is a text at a place, a URI where this is a namespace node
abbrev pub IsPlaceIn : Store → Bool → TextPlace → Type 0
IsPlaceIn s true place = place.start < length s.uris
IsPlaceIn s false place = IsRange (string_bytes s.text) place.start place.end

-- there is a text for a node of this kind at a place
abbrev pub IsTextIn : Store → Kind → TextPlace → Type 0
IsTextIn s kind place = IsPlaceIn s (is_namespace_kind kind) place

-- all that a store has stays where it is
pub record Grows (old new : Store) : Type 0 where
  pub names : Keeps old.names new.names
  pub uris : Keeps old.uris new.uris
  pub text : Lengthens (string_bytes old.text) (string_bytes new.text)
