-- Worked sessions, by computation.
use Rattle.std.proofs.Common.{◌≡◌, ℕ, List, [], ◌∷◌, ◌++◌, length, refl, true, false, Option, Some, None, replicate}
use Rattle.std.specs.Prelude.{codes}
use Rattle.std.specs.Ordering.{nat_cmp}
use Rattle.std.specs.Cmp.Lexicographic.{slice_cmp, nat_list_cmp_total}
use Rattle.std.specs.FinMap.{find, from_entries, get, get-from_entries}
use Rattle.codeword.specs.declared.functions.Function.TheVariants.{Numeric, Tone1, Alpha}
use Rattle.page_text.specs.Page.{Page}
use Rattle.subscribers.specs.Parts.{Ids, Target}
use Rattle.entry_line.specs.Chars.{cr}
use Rattle.tap_block.specs.Chars.{stx, etx, eot, us, sub, esc}
use Rattle.tap_block.specs.Reading.{BeforeLogon, items_of}
use Rattle.tap_block.proofs.Exists.{cut}
use Rattle.tap_terminal.specs.declared.answers.Answer.TheVariants.{Id, Go, Ack, Nak, Rs, End}
use Rattle.tap_terminal.specs.declared.answers.Reason.TheVariants.{Body, Content, Form, Unknown, Text, Room}
use Rattle.tap_terminal.specs.declared.report.Report.{Report}
use Rattle.tap_terminal.specs.Replies.{replies}
use Rattle.subscribers.specs.Directory.{Directory}
use Rattle.tap_terminal.specs.Session.{ItemDecided, Session, tell, start, session_of}

-- six subscribers and a group
abbrev subscribers : List (List ℕ × Target)
subscribers =
    (codes "5551234", record { function = Alpha; capcodes = 8 ∷ [] })
    ∷ (codes "5550002", record { function = Numeric; capcodes = 9 ∷ [] })
    ∷ (codes "15", record { function = Tone1; capcodes = 15 ∷ [] })
    ∷ (codes "8", record { function = Tone1; capcodes = 8 ∷ [] })
    ∷ (codes "16", record { function = Tone1; capcodes = 16 ∷ [] })
    ∷ (codes "7", record { function = Alpha; capcodes = 15 ∷ [] })
    ∷ (codes "900", record { function = Alpha; capcodes = 8 ∷ 15 ∷ 2000 ∷ [] })
    ∷ []

-- their directory
abbrev directory : Directory
directory id = find (slice_cmp nat_cmp) id subscribers

-- the finite map of these entries looks ids up in the same way
as_map : (id : List ℕ) → (let ids : Ids = from_entries subscribers in get ids id) ≡ directory id
as_map id = get-from_entries nat_list_cmp_total subscribers id

-- what is decided in a session, with this password
abbrev told_with : Option (List ℕ) → ℕ → List ℕ → List ItemDecided
told_with password spare x = tell directory (start spare) (items_of password (cut (length x) password BeforeLogon x).0)

-- the session of characters
abbrev session : ℕ → List ℕ → Session
session spare x = session_of (told_with None spare x) (length x)

-- an empty line and a logon
abbrev log_on : List ℕ
log_on = cr ∷ esc ∷ codes "PG1" ++ cr ∷ []

-- goodbye
abbrev goodbye : List ℕ
goodbye = eot ∷ cr ∷ []

-- a block of these fields, with this sum
abbrev block : List ℕ → List ℕ → List ℕ → List ℕ
block id text sum = stx ∷ id ++ cr ∷ text ++ cr ∷ etx ∷ sum ++ cr ∷ []

-- a part of a transaction that goes on, with this sum
abbrev part : List ℕ → List ℕ → List ℕ
part body sum = stx ∷ body ++ us ∷ sum ++ cr ∷ []

-- a page to 8
abbrev page_8 : List ℕ → Page
page_8 text = record { capcode = 8; function = Alpha; text = text }

-- a page to 9
abbrev page_9 : List ℕ → Page
page_9 text = record { capcode = 9; function = Numeric; text = text }

-- a report of no item
abbrev nothing : Report
nothing = record { pages = 0; continued = 0; nak = 0; body = 0; content = 0; form = 0; unknown = 0; text = 0; room = 0; wrong = 0 }

-- a block with a page
abbrev hello : List ℕ
hello = block (codes "5551234") (codes "HELLO") (codes "2?<")

-- a block to nobody
abbrev to_nobody : List ℕ
to_nobody = block (codes "999") (codes "X") (codes "122")

-- a block with a page, and goodbye
one_page : session 64 (log_on ++ hello ++ goodbye)
    ≡ record { answers = Id ∷ Go ∷ Ack ∷ End ∷ []; pages = page_8 (codes "HELLO") ∷ []; report = record nothing { pages = 1 }; forced = false }
one_page = refl

-- the bytes of its replies
its_replies : replies (session 64 (log_on ++ hello ++ goodbye)).answers ≡ 0x49 ∷ 0x44 ∷ 0x3D ∷ 0x06 ∷ 0x0D ∷ 0x1B ∷ 0x5B ∷ 0x70 ∷ 0x0D ∷ 0x06 ∷ 0x0D ∷ 0x1B ∷ 0x04 ∷ 0x0D ∷ []
its_replies = refl

-- a wrong sum, and the block once more
sent_again : session 64 (log_on ++ block (codes "5551234") (codes "HELLO") (codes "2?=") ++ hello)
    ≡ record { answers = Id ∷ Go ∷ Nak ∷ Ack ∷ []; pages = page_8 (codes "HELLO") ∷ []; report = record nothing { pages = 1; nak = 1 }; forced = false }
sent_again = refl

-- an id that no subscriber has
nobody : session 64 (log_on ++ to_nobody ++ goodbye)
    ≡ record { answers = Id ∷ Go ∷ Rs Unknown ∷ End ∷ []; pages = []; report = record nothing { unknown = 1 }; forced = false }
nobody = refl

-- a content of one part
one_field : session 64 (log_on ++ stx ∷ codes "HELLO" ++ cr ∷ etx ∷ codes "186" ++ cr ∷ goodbye)
    ≡ record { answers = Id ∷ Go ∷ Rs Form ∷ End ∷ []; pages = []; report = record nothing { form = 1 }; forced = false }
one_field = refl

-- a numeric text that ends in a space, and one that doesn't
numeric : session 64 (log_on ++ block (codes "5550002") (codes "12 ") (codes "203") ++ block (codes "5550002") (codes "12") (codes "1>3"))
    ≡ record { answers = Id ∷ Go ∷ Rs Text ∷ Ack ∷ []; pages = page_9 (codes "12") ∷ []; report = record nothing { text = 1; pages = 1 }; forced = false }
numeric = refl

-- an empty text
empty_text : session 64 (log_on ++ block (codes "5550002") [] (codes "180"))
    ≡ record { answers = Id ∷ Go ∷ Ack ∷ []; pages = page_9 [] ∷ []; report = record nothing { pages = 1 }; forced = false }
empty_text = refl

-- bodies of 250 and of 251 characters
longest_body : (session 64 (log_on ++ block (codes "5551234") (replicate 241 65) (codes ">;9") ++ block (codes "5551234") (replicate 242 65) (codes ">?:"))).answers
    ≡ Id ∷ Go ∷ Ack ∷ Rs Body ∷ []
longest_body = refl

-- 250 letters
abbrev letters : List ℕ
letters = part (replicate 250 65) (codes "?9;")

-- a content of 2,250 characters, and a block behind it
longest_content : session 64 (log_on ++ letters ++ letters ++ letters ++ letters ++ letters ++ letters ++ letters ++ letters ++ letters ++ to_nobody)
    ≡ record {
      answers = Id ∷ Go ∷ Ack ∷ Ack ∷ Ack ∷ Ack ∷ Ack ∷ Ack ∷ Ack ∷ Ack ∷ Rs Content ∷ Rs Unknown ∷ [];
      pages = [];
      report = record nothing { continued = 8; content = 1; unknown = 1 };
      forced = false;
    }
longest_content = refl

-- contents of 2,200 and of 2,201 characters
content_of_2200 : (session 64 (log_on ++ letters ++ letters ++ letters ++ letters ++ letters ++ letters ++ letters ++ letters ++ part (replicate 200 65) (codes "2>9") ++ part (codes "A") (codes "062"))).answers
    ≡ Id ∷ Go ∷ Ack ∷ Ack ∷ Ack ∷ Ack ∷ Ack ∷ Ack ∷ Ack ∷ Ack ∷ Ack ∷ Rs Content ∷ []
content_of_2200 = refl

-- a field that goes on in a second block
two_parts : session 64 (log_on ++ part (codes "5551234" ++ cr ∷ codes "A" ++ sub ∷ []) (codes "1?2") ++ stx ∷ codes "MB" ++ cr ∷ etx ∷ codes "0:1" ++ cr ∷ [])
    ≡ record { answers = Id ∷ Go ∷ Ack ∷ Ack ∷ []; pages = page_8 (65 ∷ cr ∷ 66 ∷ []) ∷ []; report = record nothing { pages = 1; continued = 1 }; forced = false }
two_parts = refl

-- a text that takes all cells, and another
no_room : session 2 (log_on ++ block (codes "5551234") (replicate 64 65) (codes "1<8") ++ block (codes "5551234") (codes "A") (codes "1<9"))
    ≡ record { answers = Id ∷ Go ∷ Ack ∷ Rs Room ∷ []; pages = page_8 (replicate 64 65) ∷ []; report = record nothing { pages = 1; room = 1 }; forced = false }
no_room = refl

-- a block to the group of three
abbrev to_group : List ℕ
to_group = block (codes "900") (codes "A") (codes "0?9")

-- a page of it
abbrev group_page : ℕ → Page
group_page capcode = record { capcode = capcode; function = Alpha; text = codes "A" }

-- a page for each capcode, in their order
group_of_three : session 64 (log_on ++ to_group ++ goodbye)
    ≡ record {
      answers = Id ∷ Go ∷ Ack ∷ End ∷ [];
      pages = group_page 8 ∷ group_page 15 ∷ group_page 2000 ∷ [];
      report = record nothing { pages = 3 };
      forced = false;
    }
group_of_three = refl

-- room for two of three, which another page takes
room_for_two : session 2 (log_on ++ to_group ++ block (codes "5551234") (codes "A") (codes "1<9"))
    ≡ record { answers = Id ∷ Go ∷ Rs Room ∷ Ack ∷ []; pages = page_8 (codes "A") ∷ []; report = record nothing { pages = 1; room = 1 }; forced = false }
room_for_two = refl

-- the front of a text of 242 letters and more
abbrev front_of_text : List ℕ
front_of_text = part (codes "5551234" ++ cr ∷ replicate 242 65) (codes "?09")

-- a text of 400 characters
text_of_400 : session 64 (log_on ++ front_of_text ++ stx ∷ replicate 158 65 ++ cr ∷ etx ∷ codes "830" ++ cr ∷ [])
    ≡ record { answers = Id ∷ Go ∷ Ack ∷ Ack ∷ []; pages = page_8 (replicate 400 65) ∷ []; report = record nothing { pages = 1; continued = 1 }; forced = false }
text_of_400 = refl

-- the first 992 letters of a text
abbrev front_of_992 : List ℕ
front_of_992 = front_of_text ++ letters ++ letters ++ letters

-- a text of 1,000 characters
longest_text : session 64 (log_on ++ front_of_992 ++ stx ∷ replicate 8 65 ++ cr ∷ etx ∷ codes "21:" ++ cr ∷ [])
    ≡ record { answers = Id ∷ Go ∷ Ack ∷ Ack ∷ Ack ∷ Ack ∷ Ack ∷ []; pages = page_8 (replicate 1000 65) ∷ []; report = record nothing { pages = 1; continued = 4 }; forced = false }
longest_text = refl

-- a text of 1,001 characters
too_long_text : (session 64 (log_on ++ front_of_992 ++ stx ∷ replicate 9 65 ++ cr ∷ etx ∷ codes "25;" ++ cr ∷ [])).answers ≡ Id ∷ Go ∷ Ack ∷ Ack ∷ Ack ∷ Ack ∷ Rs Text ∷ []
too_long_text = refl

-- skipped characters, a beginning that a new STX cuts off, and a lone EOT
skipped : (session 64 (log_on ++ codes "x" ++ stx ∷ codes "junk" ++ hello ++ eot ∷ codes "y" ++ goodbye)).answers ≡ Id ∷ Go ∷ Ack ∷ End ∷ []
skipped = refl

-- three wrong lines, and one that is too late
wrong_lines : session 64 (codes "a" ++ cr ∷ codes "b" ++ cr ∷ codes "c" ++ cr ∷ codes "d" ++ cr ∷ [])
    ≡ record { answers = Nak ∷ Nak ∷ End ∷ []; pages = []; report = record nothing { wrong = 3 }; forced = true }
wrong_lines = refl

-- a logon without the password, and one with it
with_password : (session_of (told_with (Some (codes "SECRET")) 64 (esc ∷ codes "PG1" ++ cr ∷ esc ∷ codes "PG1SECRET" ++ cr ∷ [])) 18).answers ≡ Nak ∷ Go ∷ []
with_password = refl

-- a session of 999,999 characters isn't ended, and one more ends it
longest_session : (session_of [] 999999 ≡ record { answers = []; pages = []; report = nothing; forced = false })
    × (session_of [] 1000000 ≡ record { answers = End ∷ []; pages = []; report = nothing; forced = true })
longest_session = (refl, refl)
