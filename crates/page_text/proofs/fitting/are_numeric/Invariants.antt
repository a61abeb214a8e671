use Rattle.std.proofs.Common.{take}
use Rattle.std.specs.Prelude.{All, Contains}
use Rattle.page_text.specs.Groups.{numeric_characters}
use Rattle.page_text.proofs.fitting.are_numeric.Given as goal

abbrev pub invariant-loop-c : goal.invariant-loop-c
invariant-loop-c l = All (Contains numeric_characters) (take l.c-index l.text)
