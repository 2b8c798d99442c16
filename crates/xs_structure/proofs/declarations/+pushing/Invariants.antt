use Rattle.std.proofs.Common.{◌≡◌, ◌+◌, ◌*◌, ◌-◌, ◌++◌, drop, map}
use Rattle.std.specs.List.{flat_map}
use Rattle.xs_modules.specs.Results.{module_data}
use Rattle.xs_structure.specs.steps.Order.{declarations_of_element}
use Rattle.xs_structure.proofs.declarations.+pushing.Given as goal

-- what was added, with the content of the elements that are left, is the whole
abbrev pub invariant-push_declarations-loop-element : goal.invariant-push_declarations-loop-element
invariant-push_declarations-loop-element l =
    l.out.items ++ flat_map (λ n. declarations_of_element (l.depth - 1) (map module_data l.modules) (l.fn.«number», n)) (drop l.element-index l.element-items)
    ≡ l.initial.out.items ++ flat_map (λ n. declarations_of_element (l.depth - 1) (map module_data l.modules) (l.fn.«number», n)) l.element-items

abbrev pub decreases-push_element : goal.decreases-push_element
decreases-push_element c = 2 * c.depth + 1

abbrev pub decreases-push_declarations : goal.decreases-push_declarations
decreases-push_declarations c = 2 * c.depth
