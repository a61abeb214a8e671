use Rattle.std.proofs.Common.{take}
use Rattle.std.specs.Prelude.{All}
use Rattle.page_text.specs.Fits.{IsAlpha}
use Rattle.page_text.proofs.fitting.are_alpha.Given as goal

abbrev pub invariant-loop-c : goal.invariant-loop-c
invariant-loop-c l = All IsAlpha (take l.c-index l.text)
