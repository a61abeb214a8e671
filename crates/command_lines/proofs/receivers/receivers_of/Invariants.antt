use Rattle.std.proofs.Common.{◌≡◌, ◌+◌, ◌≤◌, take, length}
use Rattle.command_lines.specs.Commands.{IsReceiverWord, Say, texts}
use Rattle.command_lines.proofs.receivers.receivers_of.Given as goal

-- the words so far say these receivers
abbrev pub invariant-loop-word : goal.invariant-loop-word
invariant-loop-word l = record {
  say : Say IsReceiverWord (take (l.word-index + 1) (texts l.fn.words)) l.receivers;
  many : length l.receivers ≡ l.word-index + 1;
  few : length l.receivers ≤ 64;
}
