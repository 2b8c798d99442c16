-- What the getters read of matches is what their rows have.
use Rattle.std.proofs.Common.{◌≡◌, option_map}
use Rattle.clap.specs.Words.{first_value, first_of, all_of, found_of, matched_of, raw_values, Text}
use Rattle.clap.specs.declared.parser.matches.ArgMatches.{ArgMatches}
use Rattle.clap.proofs.WalkLemmas.{first_value-rows, raw_values-rows}
use Rattle.xs_words.specs.Rows.{rows_in}

pub first_value_rows : (m : ArgMatches) (id : Text) → first_value (found_of m) id ≡ first_of id (rows_in m)
first_value_rows m id = first_value-rows (found_of m) id

pub raw_values_rows : (m : ArgMatches) (id : Text) → option_map raw_values (matched_of (found_of m) id) ≡ all_of id (rows_in m)
raw_values_rows m id = raw_values-rows (found_of m) id
