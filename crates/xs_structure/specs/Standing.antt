-- How a node stands in its module.
use Rattle.std.specs.Prelude.{ℕ, ◌&&◌, Bool, List, length}
use Rattle.xs_elements.specs.Nodes.{ancestors_or_self}
use Rattle.xs_elements.specs.Reading.{is_seen, reading_of}
use Rattle.xs_elements.specs.Tags.{tag_of}
use Rattle.xs_elements.specs.WhiteSpace.{preserves}
use Rattle.xs_tree.specs.Kinds.{is_namespace_kind}
use Rattle.xs_tree.specs.Record.{Record, at}
use Rattle.xs_structure.specs.declared.standing.Standing.{Standing}
use Rattle.xs_structure.specs.Excluded.{is_left_out}

-- a namespace node that is left out, by what is in force at it, which is what is in force at its element
abbrev pub is_space_left_out : List Record → ℕ → Bool
is_space_left_out rs k = is_namespace_kind (at rs k).kind && is_left_out rs k (at rs k).text

abbrev pub standing_of : List Record → ℕ → Standing
standing_of rs n = record {
  tag = tag_of rs n;
  depth = length (ancestors_or_self rs n);
  reading = reading_of rs n;
  is_seen = is_seen rs n;
  preserves = preserves rs n;
  is_left_out = is_space_left_out rs n;
}
