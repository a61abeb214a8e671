-- The bytes of the answers.
use Rattle.std.specs.Prelude.{ℕ, List, [], ◌∷◌, ◌++◌, codes, flat_map}
use Rattle.tap_terminal.specs.declared.answers.Answer.{Answer}
use Rattle.tap_terminal.specs.declared.answers.Answer.TheVariants.{Nothing, Id, Go, Ack, Nak, Rs, End}

-- the bytes of an answer: ID=, ACK CR ESC [ p CR, ACK CR, NAK CR, RS CR, ESC EOT CR
abbrev pub reply_of : Answer → List ℕ
reply_of Nothing = []
reply_of Id = codes "ID="
reply_of Go = 6 ∷ 13 ∷ 27 ∷ codes "[p" ++ 13 ∷ []
reply_of Ack = 6 ∷ 13 ∷ []
reply_of Nak = 21 ∷ 13 ∷ []
reply_of (Rs reason) = 30 ∷ 13 ∷ []
reply_of End = 27 ∷ 4 ∷ 13 ∷ []

-- the bytes of answers, one after another
abbrev pub replies : List Answer → List ℕ
replies answers = flat_map reply_of answers
