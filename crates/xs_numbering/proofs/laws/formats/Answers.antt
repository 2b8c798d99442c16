use Rattle.std.proofs.Common.{refl}
use Rattle.std.specs.Fmt.{digits}
use Rattle.std.specs.Str.{chars}
use Rattle.xs_numbering.specs.Formats.{pieces}
use Rattle.xs_numbering.specs.Numbers.{list_text, number_text}
use Rattle.xs_numbering.specs.Numerals.{grouped, roman, sequence}
use Rattle.xs_numbering.proofs.laws.formats.Goals as goal

pub returns-clause-tokens : goal.returns-clause-tokens
unfolding list_text pieces number_text sequence roman grouped digits chars
returns-clause-tokens c = refl

pub returns-clause-fewer : goal.returns-clause-fewer
unfolding list_text pieces number_text sequence roman grouped digits chars
returns-clause-fewer c = refl

pub returns-clause-more : goal.returns-clause-more
unfolding list_text pieces number_text sequence roman grouped digits chars
returns-clause-more c = refl

pub returns-clause-point : goal.returns-clause-point
unfolding list_text pieces number_text sequence roman grouped digits chars
returns-clause-point c = refl

pub returns-clause-no_token : goal.returns-clause-no_token
unfolding list_text pieces number_text sequence roman grouped digits chars
returns-clause-no_token c = refl

pub returns-clause-no_format : goal.returns-clause-no_format
unfolding list_text pieces number_text sequence roman grouped digits chars
returns-clause-no_format c = refl

pub returns-clause-no_number : goal.returns-clause-no_number
unfolding list_text pieces number_text sequence roman grouped digits chars
returns-clause-no_number c = refl

pub returns-clause-width : goal.returns-clause-width
unfolding list_text pieces number_text sequence roman grouped digits chars
returns-clause-width c = refl

pub returns-clause-other : goal.returns-clause-other
unfolding list_text pieces number_text sequence roman grouped digits chars
returns-clause-other c = refl

pub returns-clause-letters : goal.returns-clause-letters
unfolding list_text pieces number_text sequence roman grouped digits chars
returns-clause-letters c = refl

pub returns-clause-none : goal.returns-clause-none
unfolding list_text pieces number_text sequence roman grouped digits chars
returns-clause-none c = refl

pub returns-clause-no_width : goal.returns-clause-no_width
unfolding list_text pieces number_text sequence roman grouped digits chars
returns-clause-no_width c = refl

pub returns-clause-no_letters : goal.returns-clause-no_letters
unfolding list_text pieces number_text sequence roman grouped digits chars
returns-clause-no_letters c = refl

pub returns-clause-roman : goal.returns-clause-roman
unfolding list_text pieces number_text sequence roman grouped digits chars
returns-clause-roman c = refl

pub returns-clause-large : goal.returns-clause-large
unfolding list_text pieces number_text sequence roman grouped digits chars
returns-clause-large c = refl

pub returns-clause-groups : goal.returns-clause-groups
unfolding list_text pieces number_text sequence roman grouped digits chars
returns-clause-groups c = refl

pub returns-clause-zeros : goal.returns-clause-zeros
unfolding list_text pieces number_text sequence roman grouped digits chars
returns-clause-zeros c = refl

pub returns-clause-no_groups : goal.returns-clause-no_groups
unfolding list_text pieces number_text sequence roman grouped digits chars
returns-clause-no_groups c = refl
