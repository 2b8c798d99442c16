-- A runner may be shared between threads, and its tasks may be sent to them, since all may that they have.
use denote.Param.Send.{IsSend, IsSync, sendable}
use denote.Ref.{NamedLft}
use Rattle.std.proofs.Crossing.{crosses}
use Rattle.std.proofs.MapsCrossing.{crosses as maps}
use Rattle.xs_attribute_sets.specs.contracts.index.SetIndex as of_index
use Rattle.xs_lookup.proofs.SyncLemmas.{binding_sync, body_sync, finder_sync, instr_sync, label_sync, sheet_sync, tree_sync}
use Rattle.xs_sheet.specs.contracts.declarations.AttrSet as of_set
use Rattle.xs_sheet_pieces.specs.contracts.placed.PlacedTask as of_task
use Rattle.xs_sheet_pieces.specs.contracts.runner.SheetPieces as of_pieces
use Rattle.xs_text.proofs.SyncLemmas.{text_sync}
use Rattle.xs_text.specs.contracts.text.TextBuf as of_text
use Rattle.xs_trace.specs.contracts.event.Event as of_event
use Rattle.xs_trace.specs.contracts.event.Fragment as of_fragment
use Rattle.xs_trace.specs.contracts.event.Label as of_label
use Rattle.xs_value.specs.contracts.node_set.NodeSet as of_nodes
use Rattle.xs_value.specs.contracts.shared.SharedFragment as of_shared
use Rattle.xs_value.specs.contracts.value.Value as of_value

-- texts, names and events
text_send : IsSend (of_text.the_field).row
text_send = search (sendable, crosses, maps) depth 40 fits 20000

label_send : IsSend (of_label.the_field).row
label_send = search (sendable, crosses, maps) depth 40 fits 20000

event_sync : IsSync (of_event.the_field).row
event_sync = search (label_sync, text_sync, sendable, crosses, maps) depth 40 fits 20000

event_send : IsSend (of_event.the_field).row
event_send = search (label_send, text_send, sendable, crosses, maps) depth 40 fits 20000

fragment_sync : IsSync (of_fragment.the_field).row
fragment_sync = search (event_sync, sendable, crosses, maps) depth 40 fits 20000

fragment_send : IsSend (of_fragment.the_field).row
fragment_send = search (event_send, sendable, crosses, maps) depth 40 fits 20000

-- values
shared_sync : IsSync (of_shared.the_field).row
shared_sync = search (fragment_sync, fragment_send, sendable, crosses, maps) depth 40 fits 20000

shared_send : IsSend (of_shared.the_field).row
shared_send = search (fragment_sync, fragment_send, sendable, crosses, maps) depth 40 fits 20000

nodes_sync : IsSync (of_nodes.the_field).row
nodes_sync = search (sendable, crosses, maps) depth 40 fits 20000

nodes_send : IsSend (of_nodes.the_field).row
nodes_send = search (sendable, crosses, maps) depth 40 fits 20000

value_sync : IsSync (of_value.the_field).row
value_sync = search (text_sync, nodes_sync, shared_sync, sendable, crosses, maps) depth 40 fits 20000

value_send : IsSend (of_value.the_field).row
value_send = search (text_send, nodes_send, shared_send, sendable, crosses, maps) depth 40 fits 20000

-- attribute sets
set_row : IsSync of_set.the_row
set_row = search (label_sync, instr_sync, sendable, crosses, maps) depth 40 fits 20000

index_sync : (κ : NamedLft) → IsSync (of_index.the_row κ)
index_sync κ = search (set_row, sendable, crosses, maps) depth 40 fits 20000

-- the runner, and its tasks
pub pieces_sync : (κ : NamedLft) → IsSync (of_pieces.the_row κ)
pieces_sync κ = search (finder_sync, tree_sync, sheet_sync, index_sync, value_sync, sendable, crosses, maps) depth 40 fits 20000

pub task_send : (κ : NamedLft) → IsSend (of_task.the_row κ)
task_send κ = search (value_sync, value_send, body_sync, binding_sync, sendable, crosses, maps) depth 40 fits 20000
