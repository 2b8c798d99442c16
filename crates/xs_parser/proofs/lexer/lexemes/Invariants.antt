use denote.Shadow.{shadow}
use denote.Text.{Utf8}
use Rattle.std.proofs.Common.{◌≡◌, ◌-◌, ◌≤◌, ◌++◌, List, length, option_map}
use Rattle.xs_parser.specs.declared.token.Placed.{Placed}
use Rattle.xs_parser.specs.Lexing.{lexed, lexemes_in}
use Rattle.xs_parser.proofs.lexer.lexemes.Given as goal

abbrev pub invariant-tokens : goal.invariant-tokens
invariant-tokens l = record {
  same : lexemes_in l.text ≡ option_map {U = List Placed} (λ (ts : List Placed). l.out.items ++ ts) (lexed (length l.text - length l.rest) 0 l.before l.rest);
  within : length l.rest ≤ length l.text;
  text : shadow (Utf8 l.rest);
}

abbrev pub decreases-tokens : goal.decreases-tokens
decreases-tokens l = length l.rest
