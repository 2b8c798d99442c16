-- Names of attributes without a prefix.
use Rattle.std.specs.Prelude.{◌≡◌, ℕ, true, List, [], Some, None, Ok}
use Rattle.xs_text.specs.Names.{qname_of}
use Rattle.xs_trace.specs.Label.{Label}
use Rattle.xs_making.specs.Names.{result_name}

-- whether a text is this name for an attribute, whatever is in scope
abbrev pub IsPlain : List ℕ → Label → Type 0
IsPlain text name = (scope : List (List ℕ × List ℕ)) → result_name scope true None text ≡ Ok name

-- whether its local part is
abbrev pub IsPlainName : Label → Type 0
IsPlainName name = IsPlain name.local name

-- whether a text is a QName without a prefix
abbrev pub IsUnprefixed : List ℕ → Type 0
IsUnprefixed text = qname_of text ≡ Some (record { prefix = []; local = text })

-- whether it is also the local part of a name
abbrev pub IsPlainText : Label → List ℕ → Type 0
IsPlainText name text = (name.local ≡ text) × IsUnprefixed text
