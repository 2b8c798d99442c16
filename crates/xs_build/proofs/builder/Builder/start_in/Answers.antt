use Rattle.std.proofs.Common.{◌∙◌, ap, sym, Err, arith}
use Rattle.std.proofs.lemmas.Result.{err_from_is_err_and}
use Rattle.xs_build.specs.steps.Names.{full_name}
use Rattle.xs_build.specs.steps.State.{state, goes, entered}
use Rattle.xs_build.proofs.ElementLemmas.{exit_name, start_too_large, start_enters}
use Rattle.xs_build.proofs.builder.Builder.start_in.Goals as goal

pub returns-in_err-full : goal.returns-in_err-full
returns-in_err-full c =
    let p = err_from_is_err_and c.from_residual.result c.from_residual.ensures.1 in
    record {
      step = exit_name c.in_err-full.field-0.0 c.from_residual.result (state c.args.self.now) (state c.args.self.now) c.args.name.now c.args.scope
          c.in_err-full.ensures (p.1 ∙ ap Err p.2);
    }

pub returns-then-len-ge-MOST_NODES : goal.returns-then-len-ge-MOST_NODES
returns-then-len-ge-MOST_NODES c =
    rw c.bad.ensures (record {
      step = start_too_large (state c.args.self.now) c.args.name.now c.args.scope (full_name c.args.self.now.tree c.in_ok-full.full)
          c.in_ok-full.ensures.1
          (omega (arith, c.if-len-ge-MOST_NODES.true, c.len.ensures, c.len-2.ensures.count, c.args.self.now.lines.ok.0));
    })

pub returns : goal.returns
returns c = record {
  step = start_enters (state c.args.self.now) c.args.name.now c.args.scope (full_name c.args.self.now.tree c.in_ok-full.full)
      c.in_ok-full.ensures.1
      (omega (arith, c.if-len-ge-MOST_NODES.false, c.len.ensures, c.len-2.ensures.count, c.args.self.now.lines.ok.0))
      ∙ ap goes (sym (c.in_ok-enter.ensures.entered
      ∙ ap (λ n. entered (state c.args.self.now) n (full_name c.args.self.now.tree c.in_ok-full.full) c.args.scope) c.of-written.ensures));
}
