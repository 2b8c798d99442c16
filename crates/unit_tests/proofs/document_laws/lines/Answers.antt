use Rattle.std.proofs.Common.{◌∷◌, [], refl}
use Rattle.std.specs.Prelude.{codes}
use Rattle.std.specs.Str.{is_utf8, chars}
use lib.Utf8.{encode}
use Rattle.xs_text.specs.Escapes.{unescaped}
use Rattle.xs_pyx.specs.declared.line.Line.TheVariants.{Start, Attr, Chars, Pi}
use Rattle.xs_pyx.specs.Reading.{reading}
use Rattle.xs_pyx.proofs.LineLemmas.{line_by_reading}
use Rattle.unit_tests.proofs.document_laws.lines.Goals as goal

pub returns-clause-name : goal.returns-clause-name
unfolding reading unescaped is_utf8 chars encode
returns-clause-name c = line_by_reading (codes "(a:b") (Start (codes "a:b")) refl

pub returns-clause-pair_in_name : goal.returns-clause-pair_in_name
unfolding reading unescaped is_utf8 chars encode
returns-clause-pair_in_name c = line_by_reading (codes "(a\\n") (Start (codes "a\\n")) refl

pub returns-clause-no_space : goal.returns-clause-no_space
unfolding reading unescaped is_utf8 chars encode
returns-clause-no_space c = line_by_reading (codes "Ax") (Attr (codes "x") []) refl

pub returns-clause-space_at_end : goal.returns-clause-space_at_end
unfolding reading unescaped is_utf8 chars encode
returns-clause-space_at_end c = line_by_reading (codes "Ax ") (Attr (codes "x") []) refl

pub returns-clause-two_spaces : goal.returns-clause-two_spaces
unfolding reading unescaped is_utf8 chars encode
returns-clause-two_spaces c = line_by_reading (codes "?a b c") (Pi (codes "a") (codes "b c")) refl

pub returns-clause-space_first : goal.returns-clause-space_first
unfolding reading unescaped is_utf8 chars encode
returns-clause-space_first c = line_by_reading (codes "A  x") (Attr [] (codes " x")) refl

pub returns-clause-pairs : goal.returns-clause-pairs
unfolding reading unescaped is_utf8 chars encode
returns-clause-pairs c = line_by_reading (codes "Aa\\n \\n") (Attr (codes "a\\n") (10 ∷ [])) refl

pub returns-clause-empty_text : goal.returns-clause-empty_text
unfolding reading unescaped is_utf8 chars encode
returns-clause-empty_text c = line_by_reading (codes "-") (Chars []) refl

pub returns-clause-carriage_return : goal.returns-clause-carriage_return
unfolding reading unescaped is_utf8 chars encode
returns-clause-carriage_return c = line_by_reading (45 ∷ 97 ∷ 13 ∷ []) (Chars (97 ∷ 13 ∷ [])) refl
