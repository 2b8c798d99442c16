-- The rows that matches hold, and what the code reads of them.
use Rattle.std.specs.Prelude.{List}
use Rattle.clap.specs.Words.{Row, found_of}
use Rattle.clap.specs.Walk as walk
use Rattle.clap.specs.declared.parser.matches.ArgMatches.{ArgMatches}
use Rattle.xs_words.specs.declared.settings.Limits.{Limits as CodeLimits}
use Rattle.xs_words.specs.declared.settings.Sizes.{Sizes as CodeSizes}
use Rattle.xs_words.specs.Options.{Limits, Sizes}

abbrev pub rows_in : ArgMatches → List Row
rows_in matches = walk.rows_of (found_of matches)

abbrev pub limits_reported : CodeLimits → Limits
limits_reported limits = record { budget = limits.budget; max_events = limits.max_events; at = limits.at }

abbrev pub sizes_reported : CodeSizes → Sizes
sizes_reported sizes = record { workers = sizes.workers; grain = sizes.grain; load = sizes.load }
