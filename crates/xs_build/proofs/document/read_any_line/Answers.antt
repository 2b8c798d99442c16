use Rattle.std.proofs.Common.{◌≡◌, ◌∙◌, ap, sym, Err, arith}
use Rattle.std.specs.Prelude.{◌&&◌, not}
use Rattle.std.proofs.lemmas.Result.{err_from_is_err_and}
use Rattle.xs_pyx.specs.Row.{rows_of}
use Rattle.xs_pyx.specs.Results.{TakesLine}
use Rattle.xs_pyx.specs.Faults.{number_of}
use Rattle.xs_pyx.specs.Views.{bytes_left, line_shown}
use Rattle.xs_build.specs.Start.{begins_with}
use Rattle.xs_build.specs.steps.State.{state}
use Rattle.xs_build.proofs.InvariantLemmas.{same_line}
use Rattle.xs_build.proofs.RestLemmas.{takes, shorter, line_goes, line_good, line_faulty, line_none, exit_take, no_tag}
use Rattle.xs_build.proofs.document.read_any_line.Goals as goal

pub returns-in_err-take-in-Ok-Some-clause-goes : goal.returns-in_err-take-in-Ok-Some-clause-goes
returns-in_err-take-in-Ok-Some-clause-goes c =
    let p = err_from_is_err_and c.from_residual.result c.from_residual.ensures.1 in
    exit_take c.in_err-take-in-Ok-Some.field-0.0 c.from_residual.result (state c.args.builder.now) (state c.take.new.self)
    (state c.take.new.self) (bytes_left c.args.rest) (bytes_left c.behind-behind.result) (line_shown c.in-Ok-Some.view) c.in-Ok-Some.size c.requires.good
    (takes c.in-Ok-Some.field-0 c.in-Ok-Some.view c.in-Ok-Some.size (bytes_left c.args.rest) (cc) c.in-Ok-Some.ensures.first) c.in-Ok-Some.ensures.rows
    c.behind-behind.ensures (rw c.bytes.ensures at c.in_err-take-in-Ok-Some.ensures.step) (p.1 ∙ ap Err p.2)

pub overflow_add-builder : goal.overflow_add-builder
overflow_add-builder c =
    let t : TakesLine (bytes_left c.args.rest) (line_shown c.in-Ok-Some.view) c.in-Ok-Some.size =
    takes c.in-Ok-Some.field-0 c.in-Ok-Some.view c.in-Ok-Some.size (bytes_left c.args.rest) (cc) c.in-Ok-Some.ensures.first in
    let same : c.take.new.self.line ≡ c.args.builder.now.line =
    same_line (state c.args.builder.now) (state c.take.new.self) (line_shown c.in-Ok-Some.view) (rows_of (bytes_left c.behind-behind.result))
    (rw c.bytes.ensures at c.in_ok-take-in-Ok-Some.ensures.step) in
    omega (arith, same, t.some, t.within, c.requires.few)

pub returns-in-Ok-None-clause-goes : goal.returns-in-Ok-None-clause-goes
returns-in-Ok-None-clause-goes c = line_none (state c.args.builder.now) (bytes_left c.args.rest) (rw c.in-Ok-None.field-0-is at c.in-Ok-None.ensures.first)

pub returns-in_ok-take-in-Ok-Some-clause-goes : goal.returns-in_ok-take-in-Ok-Some-clause-goes
returns-in_ok-take-in-Ok-Some-clause-goes c =
    line_goes (state c.args.builder.now) (state c.take.new.self) (bytes_left c.args.rest) (bytes_left c.behind-behind.result)
    (line_shown c.in-Ok-Some.view) c.in-Ok-Some.size c.requires.good
    (takes c.in-Ok-Some.field-0 c.in-Ok-Some.view c.in-Ok-Some.size (bytes_left c.args.rest) (cc) c.in-Ok-Some.ensures.first) c.in-Ok-Some.ensures.rows
    c.behind-behind.ensures (rw c.bytes.ensures at c.in_ok-take-in-Ok-Some.ensures.step)

pub returns-in_ok-take-in-Ok-Some-clause-good : goal.returns-in_ok-take-in-Ok-Some-clause-good
returns-in_ok-take-in-Ok-Some-clause-good c =
    line_good (state c.args.builder.now) (state c.take.new.self) (line_shown c.in-Ok-Some.view)
    (rows_of (bytes_left c.behind-behind.result)) c.requires.good
    (rw c.bytes.ensures at c.in_ok-take-in-Ok-Some.ensures.step)

pub returns-in_ok-take-in-Ok-Some-clause-line : goal.returns-in_ok-take-in-Ok-Some-clause-line
returns-in_ok-take-in-Ok-Some-clause-line c =
    let same : c.take.new.self.line ≡ c.args.builder.now.line =
    same_line (state c.args.builder.now) (state c.take.new.self) (line_shown c.in-Ok-Some.view) (rows_of (bytes_left c.behind-behind.result))
    (rw c.bytes.ensures at c.in_ok-take-in-Ok-Some.ensures.step) in
    omega (arith, same)

pub returns-in_ok-take-in-Ok-Some-clause-shorter : goal.returns-in_ok-take-in-Ok-Some-clause-shorter
returns-in_ok-take-in-Ok-Some-clause-shorter c =
    shorter (bytes_left c.args.rest) (bytes_left c.behind-behind.result) (line_shown c.in-Ok-Some.view) c.in-Ok-Some.size
    (takes c.in-Ok-Some.field-0 c.in-Ok-Some.view c.in-Ok-Some.size (bytes_left c.args.rest) (cc) c.in-Ok-Some.ensures.first) c.behind-behind.ensures

pub returns-in-Err-clause-goes : goal.returns-in-Err-clause-goes
returns-in-Err-clause-goes c =
    rw (c.bad.ensures, c.fault_at.ensures, c.number.ensures)
    (line_faulty (state c.args.builder.now) (bytes_left c.args.rest) (number_of c.in-Err.fault) c.is_stray-is_stray.result
    c.in-Err.ensures.first c.in-Err.ensures.rows
    (c.is_stray-is_stray.ensures ∙ ap (λ bs. begins_with 65 bs && not c.args.builder.now.follows) c.bytes-in-Err.ensures
    ∙ ap (λ b. begins_with 65 (bytes_left c.args.rest) && b) (sym (no_tag c.args.builder.now.follows c.args.builder.now.seen))))
