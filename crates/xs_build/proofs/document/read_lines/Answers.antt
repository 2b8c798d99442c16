-- The exit at a bad line, where the builder and all that it holds is dropped.
use Rattle.std.proofs.Common.{◌∙◌, ap, Err}
use Rattle.std.proofs.lemmas.Result.{err_from_is_err_and}
use Rattle.xs_pyx.specs.Views.{bytes_left}
use Rattle.xs_build.specs.steps.State.{state}
use Rattle.xs_build.proofs.RestLemmas.{exit_read}
use Rattle.xs_build.proofs.document.read_lines.Goals as goal

pub returns-in_err-behind-clause-document : goal.returns-in_err-behind-clause-document
returns-in_err-behind-clause-document c =
    let p = err_from_is_err_and c.from_residual-in_err-behind.result c.from_residual-in_err-behind.ensures.1 in
    exit_read c.in_err-behind.field-0.0 c.from_residual-in_err-behind.result (state c.loop-builder.builder) (state c.read_line.new.builder)
    c.args.bytes.now (bytes_left c.loop-builder.rest) c.in_err-behind.ensures.goes c.loop-builder.invariant.same (p.1 ∙ ap Err p.2)
