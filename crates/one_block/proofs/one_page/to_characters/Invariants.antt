use Rattle.std.proofs.Common.{◌≡◌, ◌++◌, take, drop}
use Rattle.tap_block.specs.Chars.{characters}
use Rattle.one_block.proofs.one_page.to_characters.Given as goal

abbrev pub invariant-loop-byte : goal.invariant-loop-byte
invariant-loop-byte l = l.bytes ≡ characters (take l.byte-index l.fn.bytes) ++ drop l.byte-index l.fn.bytes
