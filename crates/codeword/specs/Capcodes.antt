-- Capcodes: the addresses of receivers.
use Rattle.std.specs.Prelude.{◌≢◌, ℕ, ◌+◌, ◌*◌, ◌/◌, ◌%◌, ◌<◌, ◌^◌}
use Rattle.codeword.specs.declared.batches.TheConstants.{FRAME_SLOTS, SLOTS}

-- The high bits of a capcode stand in its address words; its low bits are the frame that its pages start in.
abbrev pub high_of : ℕ → ℕ
high_of capcode = capcode / 8

abbrev pub frame_of : ℕ → ℕ
frame_of capcode = capcode % 8

-- the frame of a slot, by its number from the first slot of a batch on
abbrev pub frame_at : ℕ → ℕ
frame_at place = place % SLOTS / FRAME_SLOTS

-- the number of the capcode whose high bits stand in a slot
abbrev pub capcode_at : ℕ → ℕ → ℕ
capcode_at place high = 8 * high + frame_at place

-- The high bits that the idle word and the sync word have. The sixteen capcodes with these aren't used.
abbrev pub idle_high : ℕ
idle_high = 250958

abbrev pub sync_high : ℕ
sync_high = 255632

pub record IsUsable (capcode : ℕ) : Type 0 where
  pub small : capcode < 2 ^ 21
  pub not_idle : high_of capcode ≢ idle_high
  pub not_sync : high_of capcode ≢ sync_high
