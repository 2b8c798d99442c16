-- The name that is asked for where a module is mentioned (XSLT 1.0, 2.6). How a reference is resolved is this project's own, since
-- names are no URIs here.
use Rattle.std.specs.Prelude.{ℕ, ◌==◌, List, [], ◌∷◌, ◌++◌, Bool, false, if◌then◌else◌}
use Rattle.std.specs.List.{list_any}

-- the byte of `/`
abbrev pub slash : ℕ
slash = 47

abbrev pub has_slash : List ℕ → Bool
has_slash name = list_any (λ b. b == slash) name

-- a name up to its last slash, nothing where it has none
unfoldable pub directory : List ℕ → List ℕ
directory [] = []
directory (b ∷ bs) = if has_slash (b ∷ bs) then b ∷ directory bs else []

abbrev pub begins_with_slash : List ℕ → Bool
begins_with_slash [] = false
begins_with_slash (b ∷ bs) = b == slash

-- The module that a reference in a module names: a reference that begins with a slash is taken as it is, and any other follows the
-- name of the module up to its last slash.
abbrev pub resolved : List ℕ → List ℕ → List ℕ
resolved from reference = if begins_with_slash reference then reference else directory from ++ reference
