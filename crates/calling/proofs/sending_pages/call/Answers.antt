use Rattle.std.proofs.Common.{◌++◌, ◌∙◌, ap, drop, length}
use Rattle.tap_entry.specs.Client.{all_are}
use Rattle.tap_entry.specs.declared.outcomes.Outcome.TheVariants.{NoLogon}
use Rattle.calling.proofs.CallsUp.{called_so, called_unhung, dialled_so, undialled_so}
use Rattle.calling.proofs.sending_pages.call.Goals as goal

pub returns-in-Err-clause-calls : goal.returns-in-Err-clause-calls
returns-in-Err-clause-calls g c = λ none. undialled_so c.args.pages.now _ _ _ _ _ c.in-Err.ensures (c.fill.ensures.filled ∙ ap (λ z. z ++ all_are NoLogon (drop (length z) c.args.pages.now.pages)) none)

pub returns-in-Ok-clause-calls : goal.returns-in-Ok-clause-calls
returns-in-Ok-clause-calls g c = λ none. called_so c.args.pages.now _ _ _ _ _ _ _ _ (dialled_so _ _ _ _ c.in_default.ensures) (c.talk-ending.ensures.held none) c.in-Ok.ensures

pub returns-in-Err-hang_up-clause-calls : goal.returns-in-Err-hang_up-clause-calls
returns-in-Err-hang_up-clause-calls g c = λ none. called_unhung c.args.pages.now _ _ _ _ _ _ _ _ _ (dialled_so _ _ _ _ c.in_default.ensures) (c.talk-ending.ensures.held none) c.in-Err-hang_up.ensures c.logon.ensures
