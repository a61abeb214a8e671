-- Worked sessions, by computation.
use Rattle.std.proofs.Common.{◌≡◌, ℕ, List, [], ◌∷◌, ◌++◌, refl}
use Rattle.std.specs.Prelude.{codes}
use Rattle.std.specs.Ordering.{nat_cmp}
use Rattle.std.specs.Cmp.Lexicographic.{slice_cmp, nat_list_cmp_total}
use Rattle.std.specs.FinMap.{find, from_entries, get, get-from_entries}
use Rattle.codeword.specs.declared.functions.Function.TheVariants.{Numeric, Tone1, Alpha}
use Rattle.subscribers.specs.Parts.{Ids}
use Rattle.subscribers.specs.Parts.{Target}
use Rattle.snpp_entry.specs.declared.answers.SnppAnswer.TheVariants.{Ok, Bye, Command, Twice, Missing, Pager, Text, Room, TooLong}
use Rattle.subscribers.specs.Directory.{Directory}
use Rattle.snpp_entry.specs.Replies.{snpp_replies, the_greeting, with_end}
use Rattle.snpp_entry.specs.Reports.{snpp_report_of}
use Rattle.snpp_entry.specs.Session.{session, snpp_session_of}

-- six subscribers
abbrev subscribers : List (List ℕ × Target)
subscribers =
    (codes "5551234", record { function = Alpha; capcodes = 8 ∷ [] })
    ∷ (codes "5550002", record { function = Numeric; capcodes = 9 ∷ [] })
    ∷ (codes "15", record { function = Tone1; capcodes = 15 ∷ [] })
    ∷ (codes "8", record { function = Tone1; capcodes = 8 ∷ [] })
    ∷ (codes "16", record { function = Tone1; capcodes = 16 ∷ [] })
    ∷ (codes "7", record { function = Alpha; capcodes = 15 ∷ [] })
    ∷ []

-- their directory
abbrev directory : Directory
directory id = find (slice_cmp nat_cmp) id subscribers

-- the finite map of these entries looks ids up in the same way
as_map : (id : List ℕ) → (let ids : Ids = from_entries subscribers in get ids id) ≡ directory id
as_map id = get-from_entries nat_list_cmp_total subscribers id

-- a page, and goodbye
abbrev hello : List ℕ
hello = with_end (codes "PAGE 5551234") ++ with_end (codes "MESS HELLO") ++ with_end (codes "SEND") ++ with_end (codes "QUIT")

-- what comes of it
one_page : session directory 64 hello ≡ record { answers = Ok ∷ Ok ∷ Ok ∷ Bye ∷ []; pages = record { capcode = 8; function = Alpha; text = codes "HELLO" } ∷ [] }
one_page = refl

-- its report
one_report : snpp_report_of (session directory 64 hello).answers (session directory 64 hello).pages ≡ record { pages = 1; refused = 0 }
one_report = refl

-- what is said
one_said : the_greeting ++ snpp_replies (session directory 64 hello).answers ≡
    with_end (codes "220 pocsag") ++ with_end (codes "250 OK") ++ with_end (codes "250 OK") ++ with_end (codes "250 OK") ++ with_end (codes "221 bye")
one_said = refl

-- lines that are refused
abbrev refusals : List ℕ
refusals =
    with_end (codes "SEND") ++ with_end (codes "page 999") ++ with_end (codes "PAGE 5550002") ++ with_end (codes "MESS abc")
    ++ with_end (codes "SEND") ++ with_end (codes "SEND") ++ with_end (codes "QUIT")

-- what comes of them
no_page : session directory 64 refusals ≡ record { answers = Missing ∷ Pager ∷ Ok ∷ Ok ∷ Text ∷ Missing ∷ Bye ∷ []; pages = [] }
no_page = refl

-- their report
no_report : snpp_report_of (session directory 64 refusals).answers (session directory 64 refusals).pages ≡ record { pages = 0; refused = 4 }
no_report = refl

-- what is said
no_said : snpp_replies (session directory 64 refusals).answers ≡
    with_end (codes "503 incomplete") ++ with_end (codes "550 pager") ++ with_end (codes "250 OK") ++ with_end (codes "250 OK")
    ++ with_end (codes "554 text") ++ with_end (codes "503 incomplete") ++ with_end (codes "221 bye")
no_said = refl

-- a tone needs no text; a second id and a second text are refused; RESET drops both; a command with an argument too many
others : (session directory 64 (with_end (codes "PAGER 15") ++ with_end (codes "PAGE 8") ++ with_end (codes "SEND") ++ with_end (codes "MESS a")
    ++ with_end (codes "MESSAGE b") ++ with_end (codes "RESET x") ++ with_end (codes "rese") ++ with_end (codes "HELP") ++ codes "quit" ++ 10 ∷ codes "SEND" ++ 10 ∷ [])).answers
    ≡ Ok ∷ Twice ∷ Ok ∷ Ok ∷ Twice ∷ Command ∷ Ok ∷ Command ∷ Bye ∷ []
others = refl

-- a text that takes all cells, and another
no_room : (session directory 1 (with_end (codes "PAGE 7") ++ with_end (codes "MESS a") ++ with_end (codes "SEND") ++ with_end (codes "PAGE 7") ++ with_end (codes "MESS b") ++ with_end (codes "SEND") ++ with_end (codes "SEND"))).answers
    ≡ Ok ∷ Ok ∷ Ok ∷ Ok ∷ Ok ∷ Room ∷ Missing ∷ []
no_room = refl

-- a session of 999,999 characters isn't ended, and one more ends it
longest_session : (snpp_session_of [] 999999 ≡ record { answers = []; pages = [] }) × (snpp_session_of [] 1000000 ≡ record { answers = TooLong ∷ []; pages = [] })
longest_session = (refl, refl)
