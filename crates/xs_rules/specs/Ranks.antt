-- Import precedence and priority, as they are defined for the rules of patterns (XSLT 1.0, 2.6.2, 3.4 and 5.5).
pub use Rattle.xs_pattern_spec.specs.Ranks.{outranks, or_above, highest, test_priority, bare_of, bare_test, lone_step, is_here, lone_test, default_priority}
