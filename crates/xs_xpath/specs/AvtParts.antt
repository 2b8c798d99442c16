-- What the parts of a value template represent in the code.
use Rattle.std.specs.Prelude.{List, map}
use Rattle.xs_xpath.specs.declared.avt.AvtPart.{AvtPart}
use Rattle.xs_xpath.specs.declared.avt.AvtPart.TheVariants.{Fixed, Computed}
use Rattle.xs_xpath.specs.Exprs.{tree_from}
use Rattle.xs_xpath.specs.Templates.{Part, text, computed}

abbrev pub part_from : AvtPart → Part
part_from (Fixed bytes) = text bytes
part_from (Computed e) = computed (tree_from e)

abbrev pub parts_from : List AvtPart → List Part
parts_from = map part_from
