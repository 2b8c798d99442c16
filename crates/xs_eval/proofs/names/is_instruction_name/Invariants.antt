use Rattle.std.proofs.Common.{◌≡◌, map, drop}
use Rattle.std.specs.Prelude.{◌||◌}
use Rattle.xs_eval_spec.specs.Names.{is_copying, is_flow, is_making}
use Rattle.xs_eval.specs.steps.Names.{is_one_of, lent_text}
use Rattle.xs_eval.proofs.names.is_instruction_name.Given as goal

-- it is one of those that are left where it is one of all
abbrev pub invariant-loop-name : goal.invariant-loop-name
invariant-loop-name l = is_one_of (map lent_text (drop l.name-index l.name-items)) l.local ≡ (is_flow l.local || is_copying l.local || is_making l.local)
