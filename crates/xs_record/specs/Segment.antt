-- What segments keep: the items of a run.
use Rattle.std.specs.Prelude.{◌≡◌, ◌<◌, List, [], ◌∷◌, ◌++◌}
use Rattle.std.specs.List.{flat_map}
use Rattle.xs_block.specs.Chain.{Block}
use Rattle.xs_block.specs.Chain as chain
use Rattle.xs_trace.specs.declared.item.Item.{Item}
use Rattle.xs_record.specs.Store.{pending}
use Rattle.xs_record.specs.declared.segment.Run.{Run}
use Rattle.xs_record.specs.declared.segment.Content.{Content}

-- some ticks as an item, if there are any
abbrev pub run_items : Run → List Item
run_items r = pending r.site r.ticks

-- the items of a segment, in order
abbrev pub content_items : Content → List Item
content_items c = run_items c.first ++ (run_items c.last ++ c.item.now ∷ [])

-- the items of segments, and of a chain of them, in order
abbrev pub joined : List (List Item) → List Item
joined segments = flat_map (λ items. items) segments

abbrev pub items_of : List (Block (List Item)) → List Item
items_of segments = joined (chain.items_of segments)

-- ticks that a segment has room for before an item
pub record IsSmall (r : Run) : Type 0 where
  pub ticks : r.ticks < 256
  pub «module» : r.site.«module» < 65536
  pub line : r.site.line < 65536

-- ticks of one module, for both of which it has room
pub record AreBeside (before after : Run) : Type 0 where
  pub first : IsSmall before
  pub last : IsSmall after
  pub one : before.site.«module» ≡ after.site.«module»
