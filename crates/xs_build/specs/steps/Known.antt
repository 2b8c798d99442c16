-- Names that were read, as the table of known names has them.
use Rattle.std.specs.Prelude.{◌≡◌, Some}
use Rattle.xs_build.specs.declared.known.ReadName.{ReadName}
use Rattle.xs_build.specs.Namespaces.{QName, qname_of}

-- the parts of a name
abbrev pub parts_of : ReadName → QName
parts_of name = record { prefix = name.prefix.now; local = name.local.now }

-- the name is a QName, and these are its parts
abbrev pub IsRead : ReadName → Type 0
IsRead name = qname_of name.written.now ≡ Some (parts_of name)
