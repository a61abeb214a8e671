use Rattle.std.proofs.Common.{◌≡◌, ◌++◌, take}
use Rattle.page_text.specs.Line.{decimal_digits}
use Rattle.page_text.proofs.lines.push_digits.Given as goal

-- the digits so far are appended
abbrev pub invariant-loop-digit : goal.invariant-loop-digit
invariant-loop-digit g l = l.line.items ≡ l.initial.line.items ++ take l.digit-index (decimal_digits 7 l.number)
