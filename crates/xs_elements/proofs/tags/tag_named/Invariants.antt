use Rattle.std.proofs.Common.{◌≡◌, map, drop}
use Rattle.std.specs.List.{find}
use Rattle.xs_elements.specs.Tags.{is_tag_name, named_tags, tag_data}
use Rattle.xs_elements.proofs.tags.tag_named.Given as goal

-- the first of those that are left is the first of all
abbrev pub invariant-loop-tag : goal.invariant-loop-tag
invariant-loop-tag l = find (is_tag_name l.local) (map tag_data (drop l.tag-index l.tag-items)) ≡ find (is_tag_name l.local) named_tags
