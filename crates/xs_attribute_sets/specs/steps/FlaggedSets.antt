-- FlaggedSets of the sets that reach an attribute.
use Rattle.std.specs.Prelude.{◌&&◌, ◌||◌, not, Bool, true, false, List, [], ◌∷◌}
use Rattle.std.specs.List.{list_all, list_any}
use Rattle.xs_sheet.specs.declared.body.Instr.{Instr}
use Rattle.xs_sheet.specs.declared.declarations.AttrSet.{AttrSet}
use Rattle.xs_attribute_sets.specs.declared.flags.FlaggedSets.{FlaggedSets}
use Rattle.xs_attribute_sets.specs.Indexed.{is_flagged}

abbrev pub are_none : List Instr → Bool
are_none [] = true
are_none (i ∷ is) = false

-- whether a declaration has no attribute, and uses no set that is flagged
abbrev pub is_idle : FlaggedSets → AttrSet → Bool
is_idle flags s = are_none s.attributes && not (list_any (is_flagged flags) s.sets)

-- whether each declaration is of a set that is flagged, or idle
abbrev pub is_closed_at : FlaggedSets → AttrSet → Bool
is_closed_at flags s = is_flagged flags s.name || is_idle flags s

abbrev pub is_closed : FlaggedSets → List AttrSet → Bool
is_closed flags ss = list_all (is_closed_at flags) ss
