use Rattle.std.proofs.Common.{◌++◌, sym, ap, ◌∙◌, string_bytes, arith}
use Rattle.std.proofs.lemmas.List.{append-nil}
use Rattle.xs_numbering.specs.Numerals.{alphabetic}
use Rattle.xs_numbering.proofs.LetterLemmas.{alphabetic_none, letters-onto}
use Rattle.xs_numbering.proofs.numerals.+append_letters.Goals as goal

pub returns-then-number-eq0 : goal.returns-then-number-eq0
returns-then-number-eq0 t c =
    sym (append-nil (string_bytes c.args.out.now))
    ∙ ap (λ xs. string_bytes c.args.out.now ++ xs)
    (sym (ap (alphabetic c.args.case) c.if-number-eq0.true ∙ alphabetic_none c.args.case))

pub returns : goal.returns
returns t c =
    letters-onto c.append_letter.result c.args.case c.args.number (string_bytes c.args.out.now) (string_bytes c.append_letters.new.out)
    (string_bytes c.append_letter.new.out) (omega arith) c.in_ok-append_letters.ensures c.append_letter.ensures
