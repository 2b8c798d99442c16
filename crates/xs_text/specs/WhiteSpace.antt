-- White space. Its four characters are ASCII, so that it is the same test of a character, by its code point, and of a byte.
use Rattle.std.specs.Prelude.{ℕ, Bool, ◌||◌, ◌==◌, List}
use Rattle.std.specs.List.{list_all}

-- space, tab, carriage return or line feed: XML 1.0, 2.3, production 3; XPath 1.0, 3.7, production 39
abbrev pub is_white_space : ℕ → Bool
is_white_space c = c == 0x20 || c == 0x9 || c == 0xD || c == 0xA

-- a text of white space alone, by its characters or its bytes; the empty text is one
abbrev pub is_blank : List ℕ → Bool
is_blank text = list_all is_white_space text
