use Rattle.std.proofs.Common.{ℕ, ◌≡◌, true, take}
use Rattle.std.specs.BTreeMap.{keys}
use Rattle.codeword.specs.Capcodes.{IsUsable}
use Rattle.receiver.specs.Listeners.{is_one_of}
use Rattle.receiver.specs.Receivers.{has_in, is_listed, is_marked, is_paired}
use Rattle.receiver.proofs.group.Holders.of.Given as goal

-- the receivers and capcodes so far are those of the pairs so far
abbrev pub invariant-loop-number : goal.invariant-loop-number
invariant-loop-number l = record {
  usable : (c : ℕ) → is_one_of (keys l.sets) c ≡ true → IsUsable c;
  marked : (c : ℕ) → is_one_of (keys l.sets) c ≡ true → is_marked l.marks c ≡ true;
  capcodes : (c : ℕ) → is_one_of (keys l.sets) c ≡ is_listed (take l.number-index l.pairs) c;
  has : (n c : ℕ) → has_in l.sets.entries n c ≡ is_paired (take l.number-index l.pairs) n c;
}
