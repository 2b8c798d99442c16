-- What the walk knows of a module.
use Rattle.std.specs.Prelude.{◌≡◌, length, map}
use Rattle.xs_static.specs.declared.walk.Site.{Site}
use Rattle.xs_structure.specs.Scopes.{scopes_in, scopes_of}
use Rattle.xs_structure.specs.Standing.{standing_of}
use Rattle.xs_tree.specs.Record.{places}

-- each node has a line, and the tables are those of the module
pub record IsSite (s : Site) : Type 0 where
  pub lines : length s.lines.now ≡ length s.tree.now
  pub standings : s.standings.now ≡ map (standing_of s.tree.now) (places s.tree.now)
  pub scopes : scopes_in s.scopes.now ≡ scopes_of s.tree.now
