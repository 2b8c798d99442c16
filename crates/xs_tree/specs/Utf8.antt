-- The texts of a tree and the parts of its names are UTF-8.
use Rattle.std.specs.Prelude.{List, IfSome, All}
use Rattle.std.specs.Str.{IsUtf8}
use Rattle.xs_tree.specs.declared.names.Name.{Name}
use Rattle.xs_tree.specs.Record.{Record}

-- a name of characters
pub record IsUtf8Name (name : Name) : Type 0 where
  pub uri : IsUtf8 name.uri
  pub local : IsUtf8 name.local
  pub prefix : IsUtf8 name.prefix

-- a node whose text and name are of characters
pub record IsUtf8Record (r : Record) : Type 0 where
  pub text : IsUtf8 r.text
  pub name : IfSome r.name IsUtf8Name

abbrev pub AreUtf8 : List Record → Type 0
AreUtf8 rs = All IsUtf8Record rs
