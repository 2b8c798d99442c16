-- Which template rule a node takes (XSLT 1.0, 5.5), and which one after it (5.6), as they are defined by the patterns.
pub use Rattle.xs_pattern_spec.specs.Rules.{Candidate, rank_of, candidate, candidates_of, candidates, takes, rule_of, chosen, is_imported, chosen_import}
unfoldable pub use Rattle.xs_pattern_spec.specs.Rules.{chosen_among}
