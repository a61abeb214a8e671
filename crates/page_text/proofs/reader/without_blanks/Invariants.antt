use Rattle.std.proofs.Common.{◌≡◌, ◌≤◌, length, take}
use Rattle.page_text.specs.Texts.{stripped}
use Rattle.page_text.proofs.reader.without_blanks.Given as goal

-- behind the characters that are left stand blanks
abbrev pub invariant-loop-left : goal.invariant-loop-left
invariant-loop-left l = record {
  within : l.left ≤ length l.text;
  same : stripped l.blank (take l.left l.text) ≡ stripped l.blank l.text;
}

abbrev pub decreases-loop-left : goal.decreases-loop-left
decreases-loop-left l = l.left
