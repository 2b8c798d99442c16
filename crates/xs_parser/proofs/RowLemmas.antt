-- What the table of the axes' names says is what the definition does.
use Rattle.std.proofs.Common.{◌≡◌, ℕ, List, refl}
use Rattle.xs_xpath.specs.Rows.{first_named}
use Rattle.xs_parser.specs.Lexing.{axis_named}
use Rattle.xs_parser.specs.Axes.{axes}

pub axes_named : (name : List ℕ) → first_named axes name ≡ axis_named name
unfolding axes
axes_named name = refl
