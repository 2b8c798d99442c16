-- The faults that a document may have, by their numbers. Two more are those of a line alone: 2 BadEscape and 4 NoFinalLineFeed.
use Rattle.std.specs.Prelude.{ℕ}

-- a line that is none, or an attribute that follows no start tag
abbrev pub bad_line : ℕ
bad_line = 1

-- bytes that are not UTF-8
abbrev pub bad_utf8 : ℕ
bad_utf8 = 3

-- a second element outside, other text than white space outside, or an end of another name than the innermost open element's
abbrev pub unbalanced : ℕ
unbalanced = 5

-- no element
abbrev pub no_root : ℕ
no_root = 6

-- a name that is no QName, or a target that is no NCName or is `xml`
abbrev pub bad_name : ℕ
bad_name = 7

-- a prefix that is not bound
abbrev pub unbound_prefix : ℕ
unbound_prefix = 8

-- a second attribute of one expanded name in a start tag
abbrev pub double_attribute : ℕ
double_attribute = 9

-- a declaration that is forbidden
abbrev pub bad_namespace : ℕ
bad_namespace = 10

-- more bytes than the limit, or more nodes than a tree may have
abbrev pub too_large : ℕ
too_large = 11

-- an element that is open at the end
abbrev pub truncated : ℕ
truncated = 12
