use Rattle.std.proofs.Common.{rules}
use Rattle.xs_build.specs.steps.State.{state}
use Rattle.xs_build.proofs.NameLemmas.{step_known}
use Rattle.xs_build.proofs.builder.Builder.attribute.Goals as goal

pub returns-in-Some : goal.returns-in-Some
returns-in-Some c = record {
  step = step_known c.known_attribute.result (state c.args.self.now) (state c.known_attribute.new.self) c.args.self.now.seen c.args.name.now c.args.value.now
      _ _ (search rules) c.in-Some.ensures.same c.known_attribute.ensures.step;
}
