use Rattle.std.proofs.Common.{◌≡◌, drop}
use Rattle.toml.specs.View.{items_view}
use Rattle.subscribers.specs.Form.{all_of, subscriber_entry_of}
use Rattle.subscribers.specs.Seen.{seen_entries}
use Rattle.subscribers.proofs.Forms.{behind}
use Rattle.subscribers.proofs.tables.entries_from.Given as goal

abbrev pub invariant-loop-value : goal.invariant-loop-value
invariant-loop-value l = behind (seen_entries l.entries.items) (all_of subscriber_entry_of (items_view (drop l.value-index l.items))) ≡ all_of subscriber_entry_of (items_view l.items)
