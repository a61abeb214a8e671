use Rattle.std.proofs.Common.{◌≡◌, ◌*◌, ◌++◌, drop, replicate, take}
use Rattle.bits.specs.Bits.{number}
use Rattle.page_text.specs.Coding.{fill_of, text_codes, width_of}
use Rattle.page_text.specs.Groups.{code_bits}
use Rattle.page_text.proofs.packing.packed.Given as goal

-- the group so far is the number of the bits so far
abbrev pub invariant-loop-i : goal.invariant-loop-i
invariant-loop-i l = l.group ≡ number (take l.i (drop (20 * l.k) (code_bits (width_of l.coding) (text_codes l.coding l.text ++ replicate 20 (fill_of l.coding)))))
