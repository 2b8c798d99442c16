use Rattle.std.proofs.Common.{◌∷◌, [], refl}
use Rattle.std.specs.Prelude.{codes}
use Rattle.std.specs.Str.{is_utf8, chars}
use lib.Utf8.{encode}
use Rattle.xs_text.specs.Escapes.{unescaped}
use Rattle.xs_pyx.specs.declared.line.Line.TheVariants.{Start, End}
use Rattle.xs_pyx.specs.Row.{rows_behind}
use Rattle.xs_pyx.specs.Reading.{reading}
use Rattle.xs_pyx.proofs.LineLemmas.{lines_by_reading}
use Rattle.unit_tests.proofs.document_laws.documents.Goals as goal

pub returns-clause-two : goal.returns-clause-two
unfolding rows_behind reading unescaped is_utf8 chars encode
returns-clause-two c = lines_by_reading (40 ∷ 114 ∷ 10 ∷ 41 ∷ 114 ∷ 10 ∷ []) (Start (codes "r") ∷ End (codes "r") ∷ []) refl

pub returns-clause-none : goal.returns-clause-none
unfolding rows_behind reading unescaped is_utf8 chars encode
returns-clause-none c = lines_by_reading [] [] refl
