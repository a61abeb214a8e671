use Rattle.std.proofs.Common.{◌≡◌, take}
use Rattle.page_text.specs.Coding.{characters_of, width_of}
use Rattle.page_text.specs.Texts.{codes_of}
use Rattle.page_text.proofs.reader.spell.Given as goal

-- the characters so far stand at the front
abbrev pub invariant-loop-k : goal.invariant-loop-k
invariant-loop-k l = take l.k l.into ≡ take l.k (characters_of l.coding (codes_of (width_of l.coding) l.groups))
