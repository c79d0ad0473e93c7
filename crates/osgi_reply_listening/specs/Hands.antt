-- The reply of a hand.
use Rattle.std.specs.Prelude.{List}
use Rattle.std.specs.Option.{option_map_or}
use Rattle.osgi_bundle.specs.Rows.{row_at}
use Rattle.osgi_bundle.specs.declared.kept.BundleKept.{BundleKept}
use Rattle.osgi_listeners.specs.declared.row.ListenerRow.{ListenerRow}
use Rattle.osgi_ops.specs.declared.event.Event.{Event}
use Rattle.osgi_ops.specs.declared.reply.Reply.{Reply}
use Rattle.osgi_ops.specs.declared.reply.Reply.TheVariants.{Handed}

-- the event is handed to the listener, with the row of the depot that its owner's row shows
abbrev pub handed_reply : List BundleKept → ListenerRow → Event → Reply
handed_reply rows l event = Handed l.listener l.kind l.owner (option_map_or (λ (row : BundleKept). row.row) (row_at l.owner rows) 0) l.name event
