use Rattle.tap_block.proofs.Values.{fault_read, read_has, read_has_fault, value_read}
use Rattle.tap_block.proofs.laws.value_or_fault.Goals as goal

pub returns-clause-value : goal.returns-clause-value
returns-clause-value c field value = (read_has field value, value_read field value)

pub returns-clause-fault : goal.returns-clause-fault
returns-clause-fault c field fault = (read_has_fault field fault, fault_read field fault)
