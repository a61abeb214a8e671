use Rattle.tap_entry.proofs.OneClient.{one_client}
use Rattle.tap_entry.proofs.SomeClient.{some_client}
use Rattle.tap_entry.proofs.laws.one_client.Goals as goal

pub returns : goal.returns
returns c = record { some = some_client; only = one_client }
