-- What the names of tokens represent in a scope (XPath 1.0, 1 and 2.3).
use Rattle.std.specs.Prelude.{ℕ, List, Result, Ok, Err}
use Rattle.std.specs.Option.{unwrap_or}
use Rattle.xs_num.specs.declared.number.Number.{Number as Value}
use Rattle.xs_num.specs.declared.number.Number.TheVariants.{NaN}
use Rattle.xs_num.specs.declared.number.NumFault.{NumFault}
use Rattle.xs_num.specs.Text.{number_in}
use Rattle.xs_xpath.specs.declared.name.Function.TheVariants.{Last}
use Rattle.xs_xpath.specs.declared.name.NodeTest.TheVariants.{Uri, Name}
use Rattle.xs_xpath.specs.declared.token.Atom.TheVariants.{Number as NumberAtom, Variable as VariableAtom}
use Rattle.xs_xpath.specs.Names.{function_named, uri_of}
use Rattle.xs_parser.specs.declared.token.Token.{Token}
use Rattle.xs_parser.specs.declared.token.Token.TheVariants.{Call, Test, Atom}
use Rattle.xs_parser.specs.declared.token.Lexeme.{Lexeme}
use Rattle.xs_parser.specs.declared.token.Lexeme.TheVariants.{Ready, AnyOf, Named, Called, Variable, Number}
use Rattle.xs_parser.specs.Lexing.{unprefixed}

abbrev pub number_of : Result Value NumFault → Value
number_of (Ok n) = n
number_of (Err fault) = NaN

-- The token whose names are resolved. A function that is unknown and a number that is none of this profile are faults, and
-- represent any function and number here.
abbrev pub token_in : List (List ℕ × List ℕ) → Lexeme → Token
token_in pairs (Ready token) = token
token_in pairs (AnyOf prefix) = Test (Uri (uri_of pairs prefix))
token_in pairs (Named q) = Test (Name (uri_of pairs q.prefix) q.local)
token_in pairs (Called q) = Call (unwrap_or (unprefixed function_named q) Last)
token_in pairs (Variable q) = Atom (VariableAtom (uri_of pairs q.prefix) q.local)
token_in pairs (Number text) = Atom (NumberAtom (number_of (number_in text)))
