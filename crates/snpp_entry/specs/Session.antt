-- A whole session.
use Rattle.entry_line.specs.Chars.{last_character}
use Rattle.std.specs.Prelude.{◌≡◌, ℕ, ◌-◌, nat_le, Bool, true, false, ◌||◌, ◌&&◌, not, if◌then◌else◌, List, [], ◌∷◌, ◌++◌, length, take, map, flat_map}
use Rattle.page_text.specs.Page.{Page}
use Rattle.page_pool.specs.Gains.{cells_of_all}
use Rattle.snpp_entry.specs.declared.answers.SnppAnswer.{SnppAnswer}
use Rattle.snpp_entry.specs.declared.answers.SnppAnswer.TheVariants.{Nothing, Ok, Bye, TooLong, Command, Twice, Missing, Pager, Text, Room}
use Rattle.snpp_entry.specs.Lines.{cut, without_cr}
use Rattle.subscribers.specs.Directory.{Directory}
use Rattle.snpp_entry.specs.Rows.{Pending, nothing, Outcome, outcome}

-- between two lines: what is pending, and the spare cells
pub record SnppCourse : Type 0 where
  pub pending : Pending
  pub spare : ℕ

-- before the first line
abbrev pub snpp_start : ℕ → SnppCourse
snpp_start spare = record { pending = nothing; spare = spare }

-- what comes of a piece
abbrev pub outcome_of_piece : Directory → SnppCourse → List ℕ → Outcome
outcome_of_piece directory s piece = outcome directory s.spare s.pending (without_cr piece)

-- what is then
abbrev pub course_after : SnppCourse → Outcome → SnppCourse
course_after s o = record { pending = o.pending; spare = s.spare - cells_of_all o.pages }

-- the answer ends the session
abbrev pub is_bye : SnppAnswer → Bool
is_bye Bye = true
is_bye Nothing = false
is_bye Ok = false
is_bye TooLong = false
is_bye Command = false
is_bye Twice = false
is_bye Missing = false
is_bye Pager = false
is_bye Text = false
is_bye Room = false

-- the answer is for the length of the session
abbrev pub is_for_length : SnppAnswer → Bool
is_for_length TooLong = true
is_for_length other = false

-- the answer ends the session: at goodbye, or for its length
abbrev pub is_final : SnppAnswer → Bool
is_final Bye = true
is_final TooLong = true
is_final other = false

-- the pieces in order, up to the first Bye
abbrev pub snpp_tell : Directory → SnppCourse → List (List ℕ) → List Outcome
snpp_tell directory s [] = []
snpp_tell directory s (piece ∷ ps) =
    outcome_of_piece directory s piece ∷ (if is_bye (outcome_of_piece directory s piece).answer then [] else snpp_tell directory (course_after s (outcome_of_piece directory s piece)) ps)

-- a Bye is among them
abbrev pub has_bye : List Outcome → Bool
has_bye [] = false
has_bye (o ∷ told) = is_bye o.answer || has_bye told

-- their answers
abbrev pub outcome_answers : List Outcome → List SnppAnswer
outcome_answers told = map (λ o. o.answer) told

-- their pages
abbrev pub outcome_pages : List Outcome → List Page
outcome_pages told = flat_map (λ o. o.pages) told

-- no Bye was among them, and so many characters are one too many
abbrev pub snpp_is_too_long : List Outcome → ℕ → Bool
snpp_is_too_long told count = not (has_bye told) && nat_le last_character count

-- the answers, and the pages that were queued
pub record SnppSession : Type 0 where
  pub answers : List SnppAnswer
  pub pages : List Page

-- the session of so many characters, of which the first 999,999 have these lines
abbrev pub snpp_session_of : List Outcome → ℕ → SnppSession
snpp_session_of told count = record {
  answers = outcome_answers told ++ (if snpp_is_too_long told count then TooLong ∷ [] else []);
  pages = outcome_pages told;
}

-- what is told of characters
abbrev pub told_of : Directory → ℕ → List ℕ → List Outcome
told_of directory spare x = snpp_tell directory (snpp_start spare) (cut (take 999999 x)).pieces

-- the session of the characters x
abbrev pub session : Directory → ℕ → List ℕ → SnppSession
session directory spare x = snpp_session_of (told_of directory spare x) (length x)

-- the answers and the pages of the front are the first of the whole
pub record SnppContinues (front whole : SnppSession) : Type 0 where
  pub answers : List SnppAnswer
  pub pages : List Page
  pub answers_are : whole.answers ≡ front.answers ++ answers
  pub pages_are : whole.pages ≡ front.pages ++ pages
