use Rattle.std.proofs.Common.{◌∙◌, ap}
use Rattle.indexmap.specs.IndexMap.{get_by}
use Rattle.xs_attribute_sets.specs.Indexed.{is_of, listed}
use Rattle.xs_attribute_sets.proofs.ListLemmas.{is_key, key-swap, key_of, put-listed}
use Rattle.xs_attribute_sets.proofs.lists.put_list.Goals as goal

pub returns : goal.returns
returns c = λ name.
    ap listed (c.in_ok-insert.ensures.updates.0 (key_of name))
    ∙ put-listed (is_key c.args.key (key_of name)) (is_of name c.args.key) c.args.list (get_by (is_of name) c.args.lists.now) (key-swap c.args.key name)
