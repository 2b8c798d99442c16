-- The texts of comments and processing instructions.
use Rattle.std.specs.Prelude.{ℕ, Bool, true, false, ◌==◌, ◌&&◌, ◌||◌, List, [], ◌∷◌, if◌then◌else◌}

abbrev pub is_empty : List ℕ → Bool
is_empty [] = true
is_empty (b ∷ bs) = false

abbrev pub begins_with : ℕ → List ℕ → Bool
begins_with byte [] = false
begins_with byte (b ∷ bs) = b == byte

-- a text with a space after each of these bytes after which what follows asks for one
unfoldable pub spaced : ℕ → (List ℕ → Bool) → List ℕ → List ℕ
spaced byte asks [] = []
spaced byte asks (b ∷ bs) = if b == byte && asks bs then b ∷ 32 ∷ spaced byte asks bs else b ∷ spaced byte asks bs

-- what follows a `-` is another, or nothing
abbrev pub ends_or_hyphen : List ℕ → Bool
ends_or_hyphen text = is_empty text || begins_with 45 text

-- The text of a comment: with a space after each `-` that is followed by another or ends the comment (XSLT 1.0, 7.4).
abbrev pub comment_text : List ℕ → List ℕ
comment_text text = spaced 45 ends_or_hyphen text

-- The text of a processing instruction: with a space between `?` and `>` (XSLT 1.0, 7.3).
abbrev pub instruction_text : List ℕ → List ℕ
instruction_text text = spaced 63 (begins_with 62) text
