use Rattle.std.proofs.Common.{◌+◌, ◌-◌, ◌*◌, length, take}
use Rattle.std.specs.List.{AllZip}
use Rattle.xs_compile.specs.Bodies.{IsBody, IsWhen}
use Rattle.xs_compile.specs.Declarations.{IsBinding, IsInstr}
use Rattle.xs_structure.specs.Parts.{body_at}
use Rattle.xs_compile.specs.steps.State.{modules_of, source_of}
use Rattle.xs_structure.specs.Modules.{Place, records_at}
use Rattle.xs_compile.proofs.compiler.Compiler.+bodies.Given as goal

-- how many nodes come behind the element, and of one element the order of the calls
abbrev pub decreases-body : goal.decreases-body
decreases-body l = 8 * (length (records_at (modules_of l.self.now) l.number) - l.n) + 0

abbrev pub decreases-add_instr : goal.decreases-add_instr
decreases-add_instr l = 8 * (length (records_at (modules_of l.self.now) l.number) - l.n) + 7

abbrev pub decreases-kind : goal.decreases-kind
decreases-kind l = 8 * (length (records_at (modules_of l.self.now) l.number) - l.n) + 6

abbrev pub decreases-apply_templates : goal.decreases-apply_templates
decreases-apply_templates l = 8 * (length (records_at (modules_of l.self.now) l.number) - l.n) + 5

abbrev pub decreases-call_template : goal.decreases-call_template
decreases-call_template l = 8 * (length (records_at (modules_of l.self.now) l.number) - l.n) + 5

abbrev pub decreases-for_each : goal.decreases-for_each
decreases-for_each l = 8 * (length (records_at (modules_of l.self.now) l.number) - l.n) + 5

abbrev pub decreases-test : goal.decreases-test
decreases-test l = 8 * (length (records_at (modules_of l.self.now) l.number) - l.n) + 5

abbrev pub decreases-variable : goal.decreases-variable
decreases-variable l = 8 * (length (records_at (modules_of l.self.now) l.number) - l.n) + 5

abbrev pub decreases-choose : goal.decreases-choose
decreases-choose l = 8 * (length (records_at (modules_of l.self.now) l.number) - l.n) + 5

abbrev pub decreases-whens : goal.decreases-whens
decreases-whens l = 8 * (length (records_at (modules_of l.self.now) l.number) - l.n) + 2

abbrev pub decreases-when : goal.decreases-when
decreases-when l = 8 * (length (records_at (modules_of l.self.now) l.number) - l.n) + 1

abbrev pub decreases-otherwise : goal.decreases-otherwise
decreases-otherwise l = 8 * (length (records_at (modules_of l.self.now) l.number) - l.n) + 1

abbrev pub decreases-copy : goal.decreases-copy
decreases-copy l = 8 * (length (records_at (modules_of l.self.now) l.number) - l.n) + 5

abbrev pub decreases-element : goal.decreases-element
decreases-element l = 8 * (length (records_at (modules_of l.self.now) l.number) - l.n) + 5

abbrev pub decreases-attribute : goal.decreases-attribute
decreases-attribute l = 8 * (length (records_at (modules_of l.self.now) l.number) - l.n) + 5

abbrev pub decreases-comment : goal.decreases-comment
decreases-comment l = 8 * (length (records_at (modules_of l.self.now) l.number) - l.n) + 5

abbrev pub decreases-pi : goal.decreases-pi
decreases-pi l = 8 * (length (records_at (modules_of l.self.now) l.number) - l.n) + 5

abbrev pub decreases-message : goal.decreases-message
decreases-message l = 8 * (length (records_at (modules_of l.self.now) l.number) - l.n) + 5

abbrev pub decreases-other : goal.decreases-other
decreases-other l = 8 * (length (records_at (modules_of l.self.now) l.number) - l.n) + 5

abbrev pub decreases-fallbacks : goal.decreases-fallbacks
decreases-fallbacks l = 8 * (length (records_at (modules_of l.self.now) l.number) - l.n) + 1

abbrev pub decreases-passed : goal.decreases-passed
decreases-passed l = 8 * (length (records_at (modules_of l.self.now) l.number) - l.n) + 4

abbrev pub decreases-binding : goal.decreases-binding
decreases-binding l = 8 * (length (records_at (modules_of l.self.now) l.number) - l.n) + 3

abbrev pub decreases-own_content : goal.decreases-own_content
decreases-own_content l = 8 * (length (records_at (modules_of l.self.now) l.number) - l.n) + 1

abbrev pub decreases-content : goal.decreases-content
decreases-content l = 8 * (length (records_at (modules_of l.self.now) l.number) - l.n) + 2

abbrev pub invariant-body-loop-place : goal.invariant-body-loop-place
invariant-body-loop-place l = AllZip (IsInstr (source_of l.self)) (take l.place-index l.place-items) l.instrs.items

abbrev pub invariant-whens-loop-place : goal.invariant-whens-loop-place
invariant-whens-loop-place l = AllZip (IsWhen (source_of l.self)) (take l.place-index l.place-items) l.whens.items

abbrev pub invariant-fallbacks-loop-place : goal.invariant-fallbacks-loop-place
invariant-fallbacks-loop-place l = AllZip (λ (p : Place). IsBody (source_of l.self) (body_at (modules_of l.self) p)) (take l.place-index l.place-items)
    l.bodies.items

abbrev pub invariant-passed-loop-place : goal.invariant-passed-loop-place
invariant-passed-loop-place l = AllZip (IsBinding (source_of l.self)) (take l.place-index l.place-items) l.params.items
