use Rattle.std.proofs.Common.{◌≡◌, map, take}
use Rattle.wires.specs.FakeWire.{unused}
use Rattle.wires.proofs.fake_wire.talks_of.Given as goal

abbrev pub invariant-loop-bytes : goal.invariant-loop-bytes
invariant-loop-bytes l = l.talks.items ≡ map (λ bytes. unused bytes.items l.room) (take l.bytes-index l.heard)
