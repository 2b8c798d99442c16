use Rattle.std.proofs.Common.{◌++◌, map, ap, ◌∙◌}
use Rattle.std.proofs.lemmas.List.{map-append}
use Rattle.xs_elements.specs.Nodes.{name_data}
use Rattle.xs_static.specs.steps.Uses.{left_in, names_in}
use Rattle.xs_static.proofs.TableLemmas.{names-put}
use Rattle.xs_static.proofs.UsedLemmas.{put-back}
use Rattle.xs_static.proofs.uses.Uses.add.Goals as goal

pub returns : goal.returns
returns c = λ n.
    let sets = map name_data c.args.sets.now in
    put-back (left_in c.args.self.now) (left_in c.take_or_none-names.new.self) (left_in (record { names = c.insert.new.self }))
    (name_data c.args.name) (map name_data c.extend_from_slice.new.self.items) sets n (c.take_or_none-names.ensures.left n)
    (ap names_in (c.in_ok-insert.ensures.updates.0 (record { ref_ptr = (0, 0); now = n.0 }, record { ref_ptr = (0, 0); now = n.1 }))
    ∙ names-put _ _ _)
    (ap (map name_data) c.in_ok-extend_from_slice.ensures.items ∙ map-append name_data c.take_or_none-names.result.items c.args.sets.now
    ∙ ap (λ xs. xs ++ sets) c.take_or_none-names.ensures.names)
