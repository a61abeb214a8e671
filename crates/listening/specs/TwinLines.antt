-- The pages that are heard of transmissions that are sent twice, as they are printed. docs/profile.md, "repeated transmission" and "printed
-- line".
use Rattle.std.specs.Prelude.{ℕ, Bool, List, map}
use Rattle.std.specs.List.{concat}
use Rattle.page_text.specs.Page.{Page}
use Rattle.receiver.specs.Heard.{with_text}
use Rattle.receiver.specs.Listeners.{is_one_of}
use Rattle.receiver.specs.Receivers.{has_in}
use Rattle.receiver.specs.Shown.{has_of, shown}
use Rattle.repeats.specs.Twin.{heard_twice}
use Rattle.repeats.specs.TwinListeners.{TwinListener}
use Rattle.listening.specs.PageLines.{lines_of_heard}

-- what receivers print that hear the bits twice: `listens` says which capcodes any of them has, and `has` which receiver has which
abbrev pub lines_heard_twice : (ℕ → Bool) → (ℕ → ℕ → Bool) → List Bool → List ℕ
lines_heard_twice listens has bits = lines_of_heard has (heard_twice listens bits)

-- what the receivers of a group print that hear the bits twice
abbrev pub twin_group_lines : TwinListener → List Bool → List ℕ
twin_group_lines group = lines_heard_twice (is_one_of group.capcodes) (has_in group.holders)

-- the pages that receivers hear twice in the bits, each with the numbers of its receivers. The receivers are a list of sets of capcodes,
-- and numbered from 1
abbrev pub pairs_heard_twice : List (List ℕ) → List Bool → List (ℕ × Page)
pairs_heard_twice receivers bits = shown (has_of receivers) (map with_text (heard_twice (is_one_of (concat receivers)) bits))

-- what these receivers print that hear the bits twice
abbrev pub twice_lines : List (List ℕ) → List Bool → List ℕ
twice_lines receivers = lines_heard_twice (is_one_of (concat receivers)) (has_of receivers)
