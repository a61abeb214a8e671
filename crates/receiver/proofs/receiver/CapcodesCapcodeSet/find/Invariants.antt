use Rattle.std.proofs.Common.{◌≡◌, false, take}
use Rattle.receiver.specs.Listeners.{is_one_of}
use Rattle.receiver.proofs.receiver.CapcodesCapcodeSet.find.Given as goal

-- the capcodes so far have other numbers
abbrev pub invariant-loop-capcode : goal.invariant-loop-capcode
invariant-loop-capcode l = is_one_of (take l.capcode-index l.self) l.number ≡ false
