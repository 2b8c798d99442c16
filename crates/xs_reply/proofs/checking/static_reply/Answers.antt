use Rattle.std.proofs.Common.{IfOk, sym, subst}
use Rattle.xs_reply.specs.Answer.{refused_file}
use Rattle.xs_reply.specs.Reply.{IsPlain}
use Rattle.xs_reply.proofs.SheetLemmas.{known_module, name_there}
use Rattle.xs_reply.proofs.checking.static_reply.Goals as goal

pub returns-clause-answer : goal.returns-clause-answer
returns-clause-answer c =
    let modules = c.args.modules.now.list.items in
    let name = name_there modules c.args.fault.module c.index-module.result.now (known_module modules c.args.fault.module c.requires)
    c.index-module.ensures in
    subst (λ n. IfOk c.refused_reply.result (IsPlain (refused_file c.args.fault.number n c.args.fault.line))) (sym name)
    c.refused_reply.ensures
