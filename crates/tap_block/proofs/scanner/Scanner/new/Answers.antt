use Rattle.tap_block.specs.Reading.{BeforeLogon}
use Rattle.tap_block.proofs.Grows.{stands_nil}
use Rattle.tap_block.proofs.scanner.Scanner.new.Goals as goal

pub returns-clause-stands : goal.returns-clause-stands
returns-clause-stands c = stands_nil BeforeLogon _ (c.new.ensures, tt)
