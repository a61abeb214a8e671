-- Runs of which each word is clean, by a test of the places of slots.
use Rattle.std.specs.Prelude.{ℕ, zero, suc, Bool, true, ◌&&◌, length}
use Rattle.page_text.specs.Page.{Page}
use Rattle.scheduler.specs.Slots.{run}

-- n slots from a place on are clean
abbrev pub all_clean : (ℕ → Bool) → ℕ → ℕ → Bool
all_clean is_clean place zero = true
all_clean is_clean place (suc n) = is_clean place && all_clean is_clean (suc place) n

-- the words of a page's run, which starts at this place, and the word in the slot after it are clean
abbrev pub run_is_clean : (ℕ → Bool) → ℕ → Page → Bool
run_is_clean is_clean place page = all_clean is_clean place (suc (length (run page)))
