use Rattle.std.proofs.Common.{◌∙◌}
use Rattle.load.proofs.Members.{if_ok, numbers-differ, settings-made}
use Rattle.load.proofs.network.settings.Goals as goal

pub made-requires-clause-differ : goal.made-requires-clause-differ
made-requires-clause-differ c = numbers-differ c.deref.result.now (c.deref.ensures.value ∙ c.in-Ok.ensures)

pub returns-in-Ok : goal.returns-in-Ok
returns-in-Ok c = if_ok c.made.result _ _ (λ s h. h ∙ settings-made c.deref.result.now (c.deref.ensures.value ∙ c.in-Ok.ensures)) c.made.ensures
