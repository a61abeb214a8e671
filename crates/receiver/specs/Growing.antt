-- What begins with what: of longer bits no less is heard, and what was heard stays. docs/profile.md, "page heard".
use Rattle.std.specs.Prelude.{ℕ, Bool, map}
use Rattle.wires.specs.Fronts.{Grows}
use Rattle.receiver.specs.Heard.{heard, with_text}
use Rattle.receiver.specs.Shown.{shown}
use Rattle.receiver.specs.Slots.{entries}

-- the pages that are heard in bits begin with those that are heard in each front of them
abbrev pub PagesGrow : Type 0
PagesGrow = (listens : ℕ → Bool) → Grows (heard listens)

-- and so do the pages as they are shown
abbrev pub ShownGrow : Type 0
ShownGrow = (listens : ℕ → Bool) (has : ℕ → ℕ → Bool) → Grows (λ bits. shown has (map with_text (heard listens bits)))

-- and the entries of the table
abbrev pub EntriesGrow : Type 0
EntriesGrow = Grows entries
