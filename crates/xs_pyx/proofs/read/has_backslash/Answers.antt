use Rattle.std.proofs.Common.{◌∙◌, ap}
use Rattle.std.specs.List.{list_any}
use Rattle.xs_pyx.proofs.SearchLemmas.{is_some-searched}
use Rattle.xs_pyx.proofs.ReadLemmas.{is_backslash}
use Rattle.xs_pyx.proofs.read.has_backslash.Goals as goal

pub returns : goal.returns
returns c =
    c.is_some.ensures ∙ is_some-searched is_backslash c.as_bytes.result.now c.memchr.result c.memchr.ensures
    ∙ ap (list_any is_backslash) c.as_bytes.ensures.value
