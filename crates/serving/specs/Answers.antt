-- The answers of a session, as they are printed. docs/profile.md, "answer line".
use Rattle.std.specs.Prelude.{ℕ, List, [], codes, flat_map}
use Rattle.tap_terminal.specs.declared.answers.Answer.{Answer}
use Rattle.tap_terminal.specs.declared.answers.Answer.TheVariants.{Ack, End, Go, Id, Nak, Nothing, Rs}
use Rattle.tap_terminal.specs.declared.answers.Reason.{Reason}
use Rattle.tap_terminal.specs.declared.answers.Reason.TheVariants.{Body, Content, Form, Room, Text, Unknown}

-- the line of a refusal
abbrev pub reason_line : Reason → List ℕ
reason_line Body = codes "RS body\n"
reason_line Content = codes "RS content\n"
reason_line Form = codes "RS form\n"
reason_line Unknown = codes "RS unknown\n"
reason_line Text = codes "RS text\n"
reason_line Room = codes "RS room\n"

-- the line of an answer; Nothing has none
abbrev pub answer_line : Answer → List ℕ
answer_line Nothing = []
answer_line Id = codes "ID\n"
answer_line Go = codes "GO\n"
answer_line Ack = codes "ACK\n"
answer_line Nak = codes "NAK\n"
answer_line (Rs reason) = reason_line reason
answer_line End = codes "END\n"

-- the lines of answers, one after another
abbrev pub answer_lines : List Answer → List ℕ
answer_lines answers = flat_map answer_line answers
