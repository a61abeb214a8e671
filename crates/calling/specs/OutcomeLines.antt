-- The lines about the outcomes of pages: docs/profile.md, "outcomes".
use Rattle.std.specs.Prelude.{ℕ, ◌+◌, List, [], ◌∷◌, ◌++◌, Bool, true, false, codes, decimal}
use Rattle.std.specs.List.{list_all}
use Rattle.tap_entry.specs.declared.outcomes.Outcome.{Outcome}
use Rattle.tap_entry.specs.declared.outcomes.Outcome.TheVariants.{Sent, Abandoned, TriesSpent, Disconnected, NoLogon}

-- the word for an outcome
abbrev pub outcome_word : Outcome → List ℕ
outcome_word Sent = codes "sent"
outcome_word Abandoned = codes "abandoned"
outcome_word TriesSpent = codes "tries-spent"
outcome_word Disconnected = codes "disconnected"
outcome_word NoLogon = codes "no-logon"

-- the page's number, a space, the word, LF
abbrev pub outcome_line : ℕ → Outcome → List ℕ
outcome_line number outcome = decimal number ++ (codes " " ++ (outcome_word outcome ++ 10 ∷ []))

-- the lines, numbered from this number on
abbrev pub lines_from : ℕ → List Outcome → List ℕ
lines_from number [] = []
lines_from number (outcome ∷ outcomes) = outcome_line number outcome ++ lines_from (number + 1) outcomes

-- the lines of all pages
abbrev pub outcome_lines : List Outcome → List ℕ
outcome_lines outcomes = lines_from 1 outcomes

-- the page is Sent
abbrev pub is_sent : Outcome → Bool
is_sent Sent = true
is_sent other = false

-- every page is Sent
abbrev pub all_sent : List Outcome → Bool
all_sent outcomes = list_all is_sent outcomes
