use Rattle.tap_block.specs.Reading.{block}
use Rattle.tap_block.proofs.Values.{escaped_read, read_has}
use Rattle.tap_block.proofs.WholeBlocks.{block_item, right_trailer, written_reads}
use Rattle.tap_block.proofs.laws.written_is_read.Goals as goal

pub returns-clause-block : goal.returns-clause-block
returns-clause-block c password body end h k = (block body end (right_trailer body end), written_reads password body end h k, block_item password body end)

pub returns-clause-escaped : goal.returns-clause-escaped
returns-clause-escaped c value h = read_has _ value (escaped_read value h)
