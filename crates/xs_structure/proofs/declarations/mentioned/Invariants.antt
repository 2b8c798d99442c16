use Rattle.std.proofs.Common.{◌≡◌, ◌-◌, length, map}
use Rattle.std.specs.List.{find, range_with_len}
use Rattle.xs_modules.specs.Results.{module_data}
use Rattle.xs_structure.specs.Modules.{is_mentioned_by, mentioned}
use Rattle.xs_structure.proofs.declarations.mentioned.Given as goal

-- the first of those that are left is the first of all
abbrev pub invariant-loop-other : goal.invariant-loop-other
invariant-loop-other l =
    find (is_mentioned_by (map module_data l.modules) (l.fn.«number», l.fn.n)) (range_with_len l.other (length l.modules - l.other))
    ≡ mentioned (map module_data l.modules) (l.fn.«number», l.fn.n)
