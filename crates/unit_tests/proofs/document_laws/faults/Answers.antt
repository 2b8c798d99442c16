use Rattle.std.proofs.Common.{◌∷◌, [], true, false, refl}
use Rattle.std.specs.Prelude.{codes}
use Rattle.std.specs.Str.{is_utf8, chars}
use lib.Utf8.{encode}
use Rattle.xs_text.specs.Escapes.{unescaped}
use Rattle.xs_pyx.specs.Reading.{reading}
use Rattle.xs_pyx.proofs.LineLemmas.{fault_by_reading}
use Rattle.unit_tests.proofs.document_laws.faults.Goals as goal

pub returns-clause-not_utf8 : goal.returns-clause-not_utf8
unfolding reading unescaped is_utf8 chars encode
returns-clause-not_utf8 c = fault_by_reading (45 ∷ 92 ∷ 113 ∷ 255 ∷ []) false 3 refl

pub returns-clause-empty : goal.returns-clause-empty
unfolding reading unescaped is_utf8 chars encode
returns-clause-empty c = fault_by_reading [] true 1 refl

pub returns-clause-unknown : goal.returns-clause-unknown
unfolding reading unescaped is_utf8 chars encode
returns-clause-unknown c = fault_by_reading (codes "x\\q") false 1 refl

pub returns-clause-pair_over_space : goal.returns-clause-pair_over_space
unfolding reading unescaped is_utf8 chars encode
returns-clause-pair_over_space c = fault_by_reading (codes "A\\ b") true 2 refl

pub returns-clause-bad_pair_unended : goal.returns-clause-bad_pair_unended
unfolding reading unescaped is_utf8 chars encode
returns-clause-bad_pair_unended c = fault_by_reading (codes "-\\q") false 2 refl

pub returns-clause-last_backslash : goal.returns-clause-last_backslash
unfolding reading unescaped is_utf8 chars encode
returns-clause-last_backslash c = fault_by_reading (codes "C\\") true 2 refl

pub returns-clause-unended : goal.returns-clause-unended
unfolding reading unescaped is_utf8 chars encode
returns-clause-unended c = fault_by_reading (codes "-x") false 4 refl
