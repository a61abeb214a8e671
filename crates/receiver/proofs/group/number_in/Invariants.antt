use Rattle.std.proofs.Common.{◌≡◌, suc, ◌-◌}
use Rattle.std.specs.List.{slice_get}
use Rattle.receiver.specs.Receivers.{numbers_from, numbers_in}
use Rattle.receiver.proofs.group.number_in.Given as goal

-- what is asked for among all is what comes after so many among the rest
abbrev pub invariant-loop-n : goal.invariant-loop-n
invariant-loop-n l = slice_get (numbers_in l.set) l.k ≡ slice_get (numbers_from l.set (suc l.n) (64 - l.n)) l.before
