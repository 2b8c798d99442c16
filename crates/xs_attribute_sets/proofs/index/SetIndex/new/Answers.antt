use Rattle.std.proofs.Common.{◌∙◌, List, ap, filter, map}
use Rattle.std.specs.Borrow.{Bor}
use Rattle.xs_sheet.specs.declared.declarations.AttrSet.{AttrSet}
use Rattle.xs_attribute_sets.specs.Declarations.{has_name}
use Rattle.xs_attribute_sets.proofs.ServedLemmas.{served}
use Rattle.xs_attribute_sets.proofs.index.SetIndex.new.Goals as goal

pub returns : goal.returns
returns c =
    let now : List (Bor AttrSet) → List AttrSet = λ ss. map (λ s. s.now) ss in
    record {
      index = served c.args.sets.now (record { lists = c.in_ok-lists.lists; flags = c.in_ok-flags.flags })
          (λ name. c.in_ok-lists.ensures name ∙ ap (λ ss. filter (has_name name) (now ss)) c.as_slice.ensures.value
          ∙ ap (filter (has_name name)) c.in_ok-all.ensures)
          c.in_ok-flags.ensures;
    }
