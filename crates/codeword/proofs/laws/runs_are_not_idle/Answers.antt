use Rattle.codeword.proofs.Runs.{addresses_are_not_idle, messages_are_not_idle}
use Rattle.codeword.proofs.laws.runs_are_not_idle.Goals as goal

pub returns-clause-addresses : goal.returns-clause-addresses
returns-clause-addresses c = addresses_are_not_idle

pub returns-clause-messages : goal.returns-clause-messages
returns-clause-messages c = messages_are_not_idle
