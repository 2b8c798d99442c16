use Rattle.xs_build.proofs.StepAgreementLemmas as law
use Rattle.xs_build.proofs.laws.lines_go_by_step.Goals as goal

pub returns : goal.returns
returns c = law.agreement
