use Rattle.std.proofs.Common.{ℕ, sym, ◌∙◌, arith}
use Rattle.std.proofs.lemmas.List.{take_rest, length-drop}
use Rattle.xs_text.proofs.EscapeLemmas.{escaped-nil, plain_more, escaped-at_pair}
use Rattle.xs_text.proofs.escapes.first_escape.Goals as goal

pub loop-i-init : goal.loop-i-init
loop-i-init c = escaped-nil

pub returns-in-Some : goal.returns-in-Some
returns-in-Some c =
    rw take_rest (
      omega (arith, length-drop {A = ℕ}),
      escaped-at_pair c.args.text.now c.loop-i.i 0 c.in-Some.letter c.loop-i-test.true
          (sym c.escape_letter.ensures ∙ c.in-Some.is) c.loop-i.invariant,
    )

pub loop-i-preserved : goal.loop-i-preserved
loop-i-preserved c =
    plain_more c.args.text.now c.loop-i.i 0 c.loop-i-test.true (sym c.escape_letter.ensures ∙ c.in_default.is) c.loop-i.invariant
