-- What is kept of a result, as the state of a builder that has forgotten what stays for good.
use Rattle.std.specs.Prelude.{[]}
use Rattle.xs_result.specs.Building.{State}
use Rattle.xs_result_lines.specs.declared.pending.Pending.{Pending}

abbrev pub kept : Pending → State
kept p = record { closed = []; tag = p.tag; text = p.text; depth = p.depth }
