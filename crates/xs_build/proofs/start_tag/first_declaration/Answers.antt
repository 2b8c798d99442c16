use Rattle.std.proofs.Common.{◌∙◌, sym}
use Rattle.xs_build.proofs.DeclarationLemmas.{quiet_row}
use Rattle.xs_build.proofs.start_tag.first_declaration.Goals as goal

pub returns-then-not-starts_with : goal.returns-then-not-starts_with
returns-then-not-starts_with c = quiet_row c.args.bytes.now c.requires (sym c.starts_with.ensures.value ∙ c.if-not-starts_with.true)
