-- What is printed of a front of bits is a front of what is printed of all.
use Rattle.std.proofs.Common.{◌≡◌, ℕ, ◌+◌, Bool, List, [], refl, ◌∙◌, ap}
use Rattle.std.specs.Prelude.{map}
use Rattle.std.specs.List.{concat}
use Rattle.std.proofs.lemmas.Grind.{flat_map-append}
use Rattle.wires.specs.Fronts.{Grows}
use Rattle.receiver.specs.Heard.{heard, with_text}
use Rattle.receiver.specs.Listeners.{Listener, is_one_of}
use Rattle.receiver.specs.Receivers.{has_in}
use Rattle.receiver.specs.Shown.{has_of, shown}
use Rattle.receiver.specs.Slots.{entries}
use Rattle.receiver.specs.Stretches.{first_stretches, stretches}
use Rattle.receiver.proofs.Growing.{entries-grow, shown-grow}
use Rattle.repeats.specs.Twin.{heard_twice, twins}
use Rattle.repeats.specs.TwinListeners.{TwinListener}
use Rattle.repeats.proofs.TwinGrowing.{heard_twice-grow}
use Rattle.listening.proofs.PlayedPages.{lines_of_heard-append}
use Rattle.listening.proofs.Tables.{entry_lines-append}
use Rattle.listening.specs.PageLines.{group_lines, lines_heard, lines_of_heard, play_lines, shown_line, shown_lines}
use Rattle.listening.specs.TwinLines.{lines_heard_twice, twin_group_lines}
use Rattle.listening.specs.Table.{batches_in, entry_lines, table_of}

-- what receivers print of bits begins with what they print of each front of them
pub lines_heard-grow : (listens : ℕ → Bool) (has : ℕ → ℕ → Bool) → Grows (lines_heard listens has)
lines_heard-grow listens has bits more =
    let h = shown-grow listens has bits more in
    record {
      rest = shown_lines h.rest;
      is = ap shown_lines h.is ∙ flat_map-append shown_line (shown has (map with_text (heard listens bits))) h.rest;
    }

-- and so do receivers that hear transmissions twice
pub lines_heard_twice-grow : (listens : ℕ → Bool) (has : ℕ → ℕ → Bool) → Grows (lines_heard_twice listens has)
lines_heard_twice-grow listens has bits more =
    let h = heard_twice-grow listens bits more in
    record {
      rest = lines_of_heard has h.rest;
      is = ap (lines_of_heard has) h.is ∙ lines_of_heard-append has (heard_twice listens bits) h.rest;
    }

pub twin_group_lines-grow : (group : TwinListener) → Grows (twin_group_lines group)
twin_group_lines-grow group = lines_heard_twice-grow (is_one_of group.capcodes) (has_in group.holders)

pub twin_group_lines-none : (group : TwinListener) → twin_group_lines group [] ≡ []
unfolding stretches first_stretches twins
twin_group_lines-none group = refl

pub group_lines-grow : (group : Listener) → Grows (group_lines group)
group_lines-grow group = lines_heard-grow (is_one_of group.capcodes) (has_in group.holders)

pub play_lines-grow : (receivers : List (List ℕ)) → Grows (play_lines receivers)
play_lines-grow receivers = lines_heard-grow (is_one_of (concat receivers)) (has_of receivers)

-- and so does `show`
pub table_of-grow : Grows table_of
table_of-grow bits more =
    let h = entries-grow bits more in
    record { rest = entry_lines (0 + batches_in (entries bits)) h.rest; is = ap (entry_lines 0) h.is ∙ entry_lines-append 0 (entries bits) h.rest }
