use Rattle.std.proofs.Common.{◌≡◌, [], take}
use Rattle.tap_block.specs.Brief.{ScannerStandsFor}
use Rattle.tap_block.specs.Chars.{characters}
use Rattle.tap_block.specs.Reading.{AfterLogon}
use Rattle.one_block.proofs.one_page.is_silent.Given as goal

abbrev pub invariant-loop-c : goal.invariant-loop-c
invariant-loop-c l = record {
  password : l.scanner.password ≡ l.initial.scanner.password;
  silent : ScannerStandsFor AfterLogon l.initial.scanner [] [] → ScannerStandsFor AfterLogon l.scanner (characters (take l.c-index l.chars)) [];
}
