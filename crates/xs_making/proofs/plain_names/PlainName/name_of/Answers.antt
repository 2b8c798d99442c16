use Rattle.std.proofs.Common.{◌∙◌, Ok, None, ap, sym, true}
use Rattle.xs_making.specs.Names.{result_name}
use Rattle.xs_making.proofs.plain_names.PlainName.name_of.Goals as goal

pub returns : goal.returns
returns c = λ s.
    ap (result_name s true None) (sym (c.is_local.ensures c.if-not-is_local.false)) ∙ c.args.self.now.known s ∙ ap Ok (sym c.in_ok-copy.ensures.label)
