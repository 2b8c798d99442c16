use Rattle.xs_build.proofs.builder.Builder.name_in.Goals as goal

pub returns-in-Some : goal.returns-in-Some
returns-in-Some c = c.in-Some.ensures c.args.self.now.line
