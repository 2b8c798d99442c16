-- Lists that only grow, and numbers of their items.
use Rattle.std.specs.Prelude.{◌≡◌, ℕ, ◌<◌, ◌≤◌, List, ◌++◌, length, slice_get}
use Rattle.std.specs.Str.{IsUtf8}

-- what stood at a place stands there still
pub record Keeps {X : Type 0} (old new : List X) : Type 0 where
  pub longer : length old ≤ length new
  pub same : (k : ℕ) → k < length old → slice_get new k ≡ slice_get old k

-- a text with another at its end
pub record Lengthens (old new : List ℕ) : Type 0 where
  pub extra : List ℕ
  pub is : new ≡ old ++ extra
  pub utf8 : IsUtf8 old
  pub extra_utf8 : IsUtf8 extra
