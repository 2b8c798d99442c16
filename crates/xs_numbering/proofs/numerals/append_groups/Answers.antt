use Rattle.std.proofs.Common.{◌≡◌, ◌++◌, sym, ap, subst, ◌∙◌}
use Rattle.std.specs.Str.{IsAscii}
use Rattle.xs_numbering.proofs.GroupLemmas.{padded-ascii}
use Rattle.xs_numbering.specs.Numerals.{padded}
use Rattle.xs_numbering.proofs.numerals.append_groups.Goals as goal

pub append_grouped-requires : goal.append_grouped-requires
append_grouped-requires c =
    let is : c.as_bytes.result.now ≡ padded c.args.width c.args.number =
    c.as_bytes.ensures.value ∙ c.in_ok-append_padded.ensures
    ∙ ap (λ xs. xs ++ padded c.args.width c.args.number) c.new-digits.ensures.bytes in
    subst IsAscii (sym is) (padded-ascii c.args.width c.args.number c.ranges.number.fits)
