pub mod FlaggedSets
