use Rattle.codeword.proofs.Said.{addresses_are_read, messages_are_read}
use Rattle.codeword.proofs.laws.words_are_read.Goals as goal

pub returns-clause-addresses : goal.returns-clause-addresses
returns-clause-addresses c = addresses_are_read

pub returns-clause-messages : goal.returns-clause-messages
returns-clause-messages c = messages_are_read
