use Rattle.std.proofs.Common.{◌≡◌, ◌<◌, ◌∙◌, ap, Err, arith}
use Rattle.std.proofs.lemmas.Bool.Decides.{nat_tests}
use Rattle.std.proofs.lemmas.Result.{err_from_is_err_and}
use Rattle.xs_pyx.specs.Reading.{line_of}
use Rattle.xs_pyx.specs.Results.{TakesLine}
use Rattle.xs_pyx.specs.Row.{rows_of}
use Rattle.xs_pyx.specs.Views.{bytes_left}
use Rattle.xs_build.specs.steps.State.{state}
use Rattle.xs_build.proofs.InvariantLemmas.{same_line}
use Rattle.xs_build.proofs.RestLemmas.{exit_take, line_goes, line_good, shorter}
use Rattle.xs_build.proofs.document.read_line.Goals as goal

pub returns-in_err-take_plain-clause-goes : goal.returns-in_err-take_plain-clause-goes
returns-in_err-take_plain-clause-goes c =
    let line = c.plain_line-line.result in
    let some : 0 < line.size = grind (arith, nat_tests, c.if-line-eq0.false) in
    let p = err_from_is_err_and c.from_residual.result c.from_residual.ensures.1 in
    exit_take c.in_err-take_plain.field-0.0 c.from_residual.result (state c.args.builder.now) (state c.take_plain.new.self)
    (state c.take_plain.new.self) (bytes_left c.args.rest) (bytes_left c.behind-behind.result) (line_of line.kind line.rest.now) line.size c.requires.good
    (c.plain_line-line.ensures.takes some) c.plain_line-line.ensures.rows c.behind-behind.ensures
    (rw c.bytes.ensures at c.in_err-take_plain.ensures.step) (p.1 ∙ ap Err p.2)

pub overflow_add-builder : goal.overflow_add-builder
overflow_add-builder c =
    let line = c.plain_line-line.result in
    let some : 0 < line.size = grind (arith, nat_tests, c.if-line-eq0.false) in
    let t : TakesLine (bytes_left c.args.rest) (line_of line.kind line.rest.now) line.size = c.plain_line-line.ensures.takes some in
    let same : c.take_plain.new.self.line ≡ c.args.builder.now.line =
    same_line (state c.args.builder.now) (state c.take_plain.new.self) (line_of line.kind line.rest.now) (rows_of (bytes_left c.behind-behind.result))
    (rw c.bytes.ensures at c.in_ok-take_plain.ensures.step) in
    omega (arith, same, t.some, t.within, c.requires.few)

pub returns-clause-goes : goal.returns-clause-goes
returns-clause-goes c =
    let line = c.plain_line-line.result in
    let some : 0 < line.size = grind (arith, nat_tests, c.if-line-eq0.false) in
    line_goes (state c.args.builder.now) (state c.take_plain.new.self) (bytes_left c.args.rest) (bytes_left c.behind-behind.result)
    (line_of line.kind line.rest.now) line.size c.requires.good (c.plain_line-line.ensures.takes some) c.plain_line-line.ensures.rows
    c.behind-behind.ensures (rw c.bytes.ensures at c.in_ok-take_plain.ensures.step)

pub returns-clause-good : goal.returns-clause-good
returns-clause-good c =
    let line = c.plain_line-line.result in
    line_good (state c.args.builder.now) (state c.take_plain.new.self) (line_of line.kind line.rest.now)
    (rows_of (bytes_left c.behind-behind.result)) c.requires.good
    (rw c.bytes.ensures at c.in_ok-take_plain.ensures.step)

pub returns-clause-line : goal.returns-clause-line
returns-clause-line c =
    let line = c.plain_line-line.result in
    let same : c.take_plain.new.self.line ≡ c.args.builder.now.line =
    same_line (state c.args.builder.now) (state c.take_plain.new.self) (line_of line.kind line.rest.now) (rows_of (bytes_left c.behind-behind.result))
    (rw c.bytes.ensures at c.in_ok-take_plain.ensures.step) in
    omega (arith, same)

pub returns-clause-shorter : goal.returns-clause-shorter
returns-clause-shorter c =
    let line = c.plain_line-line.result in
    let some : 0 < line.size = grind (arith, nat_tests, c.if-line-eq0.false) in
    shorter (bytes_left c.args.rest) (bytes_left c.behind-behind.result) (line_of line.kind line.rest.now) line.size
    (c.plain_line-line.ensures.takes some) c.behind-behind.ensures
