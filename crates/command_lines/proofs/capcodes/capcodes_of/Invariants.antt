use Rattle.std.proofs.Common.{length, IsUtf8}
use Rattle.command_lines.proofs.ListedCapcodes.{PartsRead}
use Rattle.command_lines.proofs.capcodes.capcodes_of.Given as goal

abbrev pub invariant-parts : goal.invariant-parts
invariant-parts l = PartsRead l.fn.word l.rest l.capcodes × IsUtf8 l.rest

abbrev pub decreases-parts : goal.decreases-parts
decreases-parts l = length l.rest
