use Rattle.xs_body.proofs.StepLemmas.{advances}
use Rattle.xs_body.proofs.laws.steps_agree.Goals as goal

pub returns : goal.returns
returns c = λ b t s i. advances b t i s
