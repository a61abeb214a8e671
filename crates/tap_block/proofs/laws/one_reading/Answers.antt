use Rattle.std.proofs.Common.{length, arith}
use Rattle.tap_block.proofs.Exists.{cut, cut_reads}
use Rattle.tap_block.proofs.OneReading.{at_most_one}
use Rattle.tap_block.proofs.Values.{one_value}
use Rattle.tap_block.proofs.laws.one_reading.Goals as goal

pub returns-clause-reading : goal.returns-clause-reading
returns-clause-reading c password mode x =
    let reads = cut_reads (length x) password mode x (omega arith) in
    record {
      pieces = (cut (length x) password mode x).0;
      rest = (cut (length x) password mode x).1;
      reads = reads;
      only = λ others other h. at_most_one password mode others (cut (length x) password mode x).0 other (cut (length x) password mode x).1 x h reads;
    }

pub returns-clause-value : goal.returns-clause-value
returns-clause-value c field v w h k = one_value field v w h k
