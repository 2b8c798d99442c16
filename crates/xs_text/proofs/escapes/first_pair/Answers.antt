use Rattle.std.proofs.Common.{ℕ, ◌+◌, ◌<◌, length, arith, sym, ◌∙◌}
use Rattle.std.proofs.lemmas.List.{take_rest, length-drop}
use Rattle.xs_text.proofs.UnescapeLemmas.{IsPlain-more, unescaped-IsPlain, unescaped-at_pair, unescaped-at_other, unescaped-at_last}
use Rattle.xs_text.proofs.escapes.first_pair.Goals as goal

pub loop-i-preserved : goal.loop-i-preserved
loop-i-preserved c = IsPlain-more c.args.text.now c.loop-i.i 0 c.loop-i-test.true c.if-byte-ne92.true c.loop-i.invariant

pub returns-then-i-text : goal.returns-then-i-text
returns-then-i-text c =
    unescaped-at_last c.args.text.now c.loop-i.i 0 c.loop-i-test.true (omega arith) c.if-byte-ne92.false c.loop-i.invariant

pub returns-in-Some : goal.returns-in-Some
returns-in-Some c =
    let letter_in : c.loop-i.i + 1 < length c.args.text.now = omega arith in
    rw take_rest (
      omega (arith, length-drop {A = ℕ}),
      unescaped-at_pair c.args.text.now c.loop-i.i 0 0 c.in-Some.read letter_in c.if-byte-ne92.false
          (sym c.escaped_byte.ensures ∙ c.in-Some.is) c.loop-i.invariant,
    )

pub returns-in-None : goal.returns-in-None
returns-in-None c =
    let letter_in : c.loop-i.i + 1 < length c.args.text.now = omega arith in
    unescaped-at_other c.args.text.now c.loop-i.i 0 0 letter_in c.if-byte-ne92.false (sym c.escaped_byte.ensures ∙ c.in-None.is) c.loop-i.invariant

pub returns : goal.returns
returns c = unescaped-IsPlain c.args.text.now c.loop-i.i (omega arith) c.loop-i.invariant
