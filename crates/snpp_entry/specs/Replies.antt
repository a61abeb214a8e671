-- The bytes of the answers, and the greeting.
use Rattle.std.specs.Prelude.{ℕ, List, [], ◌∷◌, ◌++◌, codes, flat_map}
use Rattle.snpp_entry.specs.declared.answers.SnppAnswer.{SnppAnswer}
use Rattle.snpp_entry.specs.declared.answers.SnppAnswer.TheVariants.{Nothing, Ok, Bye, TooLong, Command, Twice, Missing, Pager, Text, Room}

-- a line with CR and LF
abbrev pub with_end : List ℕ → List ℕ
with_end line = line ++ 13 ∷ 10 ∷ []

-- what is said before the first line is heard
abbrev pub the_greeting : List ℕ
the_greeting = with_end (codes "220 pocsag")

-- the bytes of an answer
abbrev pub snpp_reply : SnppAnswer → List ℕ
snpp_reply Nothing = []
snpp_reply Ok = with_end (codes "250 OK")
snpp_reply Bye = with_end (codes "221 bye")
snpp_reply TooLong = with_end (codes "421 too long")
snpp_reply Command = with_end (codes "500 command")
snpp_reply Twice = with_end (codes "503 already entered")
snpp_reply Missing = with_end (codes "503 incomplete")
snpp_reply Pager = with_end (codes "550 pager")
snpp_reply Text = with_end (codes "554 text")
snpp_reply Room = with_end (codes "554 room")

-- the bytes of answers, one after another
abbrev pub snpp_replies : List SnppAnswer → List ℕ
snpp_replies answers = flat_map snpp_reply answers
