use Rattle.std.proofs.Common.{◌∙◌, ap}
use Rattle.xs_record.specs.Segment.{items_of}
use Rattle.xs_profile.specs.Sites.{sites_in}
use Rattle.xs_profile.specs.steps.Table.{sites_among, table_ticks}
use Rattle.xs_profile.proofs.CountLemmas.{counts-are}
use Rattle.xs_profile.proofs.PartLemmas.{parts-are}
use Rattle.xs_profile.proofs.profile.Profile.new.Goals as goal

pub invariant_of-result : goal.invariant_of-result
invariant_of-result c =
    let sites = sites_in (items_of c.args.items.now) in
    let places =
    counts-are (table_ticks c.in_ok-table.table.modules.items) sites c.in_ok-places.places.items c.in_ok-table.ensures c.in_ok-places.ensures in (
      places,
      parts-are c.args.starts.now sites (sites_among c.as_slice.result.now) c.as_slice-2.result.now c.in_ok-parts.parts.items
          (ap sites_among c.as_slice.ensures.value ∙ c.in_ok-ordered.ensures.ordered) (c.as_slice-2.ensures.value ∙ places) c.in_ok-parts.ensures,
    )
