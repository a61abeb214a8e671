use Rattle.subscribers.proofs.Usable.{IsUsable-from_is_usable, is_usable-from_IsUsable}
use Rattle.subscribers.proofs.laws.usable.Goals as goal

pub returns : goal.returns
returns c capcode = (IsUsable-from_is_usable capcode, is_usable-from_IsUsable capcode)
