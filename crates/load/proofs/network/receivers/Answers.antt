use Rattle.std.proofs.Common.{◌∙◌}
use Rattle.load.proofs.Members.{if_ok, numbers-in, listed-capcodes}
use Rattle.load.proofs.network.receivers.Goals as goal

pub new-requires : goal.new-requires
new-requires c = record { numbers = numbers-in c.deref.result.now (c.deref.ensures.value ∙ c.in-Ok.ensures) }

pub returns-in-Ok-clause-capcodes : goal.returns-in-Ok-clause-capcodes
returns-in-Ok-clause-capcodes c = if_ok c.new.result _ _ (λ g h x. h x ∙ listed-capcodes c.deref.result.now (c.deref.ensures.value ∙ c.in-Ok.ensures) x) c.new.ensures.capcodes
