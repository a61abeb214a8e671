use Rattle.std.proofs.Common.{◌≡◌, drop}
use Rattle.toml.specs.Data.{as_integer}
use Rattle.toml.specs.View.{items_view}
use Rattle.subscribers.specs.Form.{all_of}
use Rattle.subscribers.proofs.Forms.{behind}
use Rattle.subscribers.proofs.tables.integers_from.Given as goal

abbrev pub invariant-loop-value : goal.invariant-loop-value
invariant-loop-value l = behind l.numbers.items (all_of as_integer (items_view (drop l.value-index l.items))) ≡ all_of as_integer (items_view l.items)
