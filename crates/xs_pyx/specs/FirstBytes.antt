-- The bytes that lines begin with.
use Rattle.std.specs.Prelude.{ℕ}

-- `(`: the start of an element
abbrev pub start_byte : ℕ
start_byte = 40

-- `A`: an attribute
abbrev pub attribute_byte : ℕ
attribute_byte = 65

-- `-`: a text
abbrev pub text_byte : ℕ
text_byte = 45

-- `)`: the end of an element
abbrev pub end_byte : ℕ
end_byte = 41

-- `?`: a processing instruction
abbrev pub instruction_byte : ℕ
instruction_byte = 63

-- `C`: a comment
abbrev pub comment_byte : ℕ
comment_byte = 67

-- the space behind the name of an attribute and behind a target
abbrev pub space : ℕ
space = 32

-- the line feed at the end of each line
abbrev pub line_feed : ℕ
line_feed = 10
