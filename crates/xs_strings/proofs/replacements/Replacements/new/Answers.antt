use Rattle.std.proofs.Common.{◌∙◌, ap, nat_eq}
use Rattle.std.specs.HashMap.{get}
use Rattle.std.specs.Str.{chars}
use Rattle.xs_strings.specs.Translation.{replacement_at}
use Rattle.xs_strings.proofs.ReplacementLemmas.{same-place}
use Rattle.xs_strings.proofs.replacements.Replacements.new.Goals as goal

pub returns : goal.returns
returns c = λ d.
    ap (λ to. replacement_at to d (get nat_eq c.in_ok-places.places d)) c.in_ok-partners.ensures
    ∙ ap (replacement_at (chars c.args.to.now) d)
    (c.in_ok-places.ensures d
    ∙ same-place d c.as_slice.result.now c.in_ok-alphabet.alphabet.items (chars c.args.from.now) c.as_slice.ensures.value c.in_ok-alphabet.ensures)
