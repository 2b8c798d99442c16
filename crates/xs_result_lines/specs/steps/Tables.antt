-- What the tables of a start tag keep.
use Rattle.std.specs.Prelude.{◌≡◌, ℕ, ◌<◌, ◌&&◌, not, Bool, true, List, Option, None, Some, if◌then◌else◌}
use Rattle.std.specs.Ordering.{is_lt}
use Rattle.std.specs.Str.{bytes_eq}
use Rattle.xs_result.specs.Built.{is_empty}
use Rattle.xs_result_lines.specs.Bindings.{Binding, binds, new_prefix, order_of_prefixes, prefix_for, uri_in}

-- each new prefix below this number is bound
abbrev pub AreBound : List Binding → ℕ → Type 0
AreBound m number = (j : ℕ) → j < number → binds m (new_prefix j) ≡ true

-- a table has the least prefix of each URI
abbrev pub HasLeast : List Binding → List Binding → Type 0
HasLeast by_uri m = (uri : List ℕ) → uri_in by_uri uri ≡ prefix_for m uri

abbrev pub is_less : List ℕ → Option (List ℕ) → Bool
is_less prefix None = true
is_less prefix (Some other) = is_lt (order_of_prefixes prefix other)

-- the lesser of a prefix and another, if there is another
abbrev pub lesser : List ℕ → Option (List ℕ) → Option (List ℕ)
lesser prefix None = Some prefix
lesser prefix (Some other) = if is_lt (order_of_prefixes prefix other) then Some prefix else Some other

-- the least prefix of some URI, where a prefix is bound to a URI besides
abbrev pub least_with : List ℕ → List ℕ → Option (List ℕ) → List ℕ → Option (List ℕ)
least_with prefix uri least some = if not (is_empty prefix) && bytes_eq uri some then lesser prefix least else least
