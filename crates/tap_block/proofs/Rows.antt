-- Worked sums, readings and values, by computation.
use Rattle.std.proofs.Common.{◌≡◌, ℕ, List, [], ◌∷◌, ◌++◌, length, refl, true, false, Some, None, Ok, Err, replicate}
use Rattle.std.specs.Prelude.{codes}
use Rattle.tap_block.specs.declared.ends.End.TheVariants.{Etx, Etb, Us}
use Rattle.tap_block.specs.declared.faults.FieldFault.TheVariants.{Control, SubEnd, SubLetter}
use Rattle.entry_line.specs.Chars.{lf, cr}
use Rattle.tap_block.specs.Chars.{stx, etx, eot, etb, us, sub, esc, sum_of, written}
use Rattle.tap_block.specs.Reading.{BeforeLogon, AfterLogon, Entry, empty_line, logon, wrong_line, a_block, a_bye, items_of}
use Rattle.tap_block.specs.Fields.{read_field}
use Rattle.tap_block.proofs.Exists.{cut}

-- two fields as a content
abbrev content : List ℕ → List ℕ → List ℕ
content id text = id ++ cr ∷ (text ++ cr ∷ [])

-- the sum of a block, as it is written
abbrev sum_written : List ℕ → ℕ → List ℕ
sum_written body end = written (sum_of (stx ∷ (body ++ end ∷ [])))

-- the sums of the profile and of other blocks
sum_abc : sum_written (content (codes "123") (codes "ABC")) etx ≡ codes "17;"
sum_abc = refl

-- a body of one part
sum_one_part : sum_written (codes "123" ++ cr ∷ codes "ABC") etx ≡ codes "16>"
sum_one_part = refl

-- seven digits and five letters
sum_hello : sum_written (content (codes "5551234") (codes "HELLO")) etx ≡ codes "2?<"
sum_hello = refl

-- an empty text
sum_tone : sum_written (content (codes "15") []) etx ≡ codes "085"
sum_tone = refl

-- a field that goes on
sum_continued : sum_written (codes "5551234" ++ cr ∷ 65 ∷ sub ∷ []) us ≡ codes "1?2"
sum_continued = refl

-- a body of 250 characters
sum_of_longest : sum_written (content (codes "5551234") (replicate 241 65)) etx ≡ codes ">;9"
sum_of_longest = refl

-- a total of 16283
sum_past_4096 : sum_written (replicate 250 65) us ≡ codes "?9;"
sum_past_4096 = refl

-- the items of a session
abbrev items : List ℕ → List Entry
items x = items_of None (cut (length x) None BeforeLogon x).0

-- an empty line and a logon
abbrev log_on : List ℕ
log_on = cr ∷ (esc ∷ codes "PG1") ++ cr ∷ []

-- a content
abbrev hello : List ℕ
hello = content (codes "5551234") (codes "HELLO")

-- lines, a block with the right trailer, and EOT CR
a_session : items (log_on ++ stx ∷ hello ++ etx ∷ codes "2?<" ++ cr ∷ eot ∷ cr ∷ []) ≡ empty_line ∷ logon ∷ a_block hello Etx true ∷ a_bye ∷ []
a_session = refl

-- a wrong trailer of four characters
a_wrong_trailer : items (log_on ++ stx ∷ hello ++ etx ∷ codes "2?=4") ≡ empty_line ∷ logon ∷ a_block hello Etx false ∷ []
a_wrong_trailer = refl

-- a skipped character, a body that a new STX cuts off, a lone EOT
dropped_beginning : items (log_on ++ codes "x" ++ stx ∷ codes "junk" ++ stx ∷ hello ++ etx ∷ codes "2?<" ++ cr ∷ eot ∷ codes "y" ++ eot ∷ cr ∷ [])
    ≡ empty_line ∷ logon ∷ a_block hello Etx true ∷ a_bye ∷ []
dropped_beginning = refl

-- the three ends, and a trailer that CR ends early
ends : items (log_on ++ stx ∷ codes "A" ++ us ∷ codes "062" ++ cr ∷ stx ∷ codes "B" ++ etb ∷ cr ∷ stx ∷ etx ∷ codes "0" ++ cr ∷ [])
    ≡ empty_line ∷ logon ∷ a_block (codes "A") Us true ∷ a_block (codes "B") Etb false ∷ a_block [] Etx false ∷ []
ends = refl

-- before logon LF is dropped, and other lines are wrong
lines : items (lf ∷ cr ∷ lf ∷ codes "a" ++ cr ∷ (esc ∷ codes "PG1SECRE") ++ cr ∷ (esc ∷ codes "PG1SECRET") ++ cr ∷ []) ≡ empty_line ∷ wrong_line ∷ wrong_line ∷ logon ∷ []
lines = refl

-- with a password only the logon with these six characters counts
passwords : items_of (Some (codes "SECRET")) (cut 20 (Some (codes "SECRET")) BeforeLogon ((esc ∷ codes "PG1") ++ cr ∷ (esc ∷ codes "PG1SECRET") ++ cr ∷ [])).0 ≡ wrong_line ∷ logon ∷ []
passwords = refl

-- a body that isn't ended is the rest
the_rest : (cut 20 None AfterLogon (codes "x" ++ stx ∷ codes "AB")).1 ≡ stx ∷ codes "AB"
the_rest = refl

-- SUB and a letter spell a control character
value : read_field (codes "A" ++ sub ∷ codes "MB") ≡ Ok (65 ∷ 13 ∷ 66 ∷ [])
value = refl

-- the three faults
no_values : (read_field (65 ∷ 127 ∷ []) ≡ Err Control) × (read_field (65 ∷ sub ∷ []) ≡ Err SubEnd) × (read_field (sub ∷ codes "a") ≡ Err SubLetter)
no_values = (refl, refl, refl)
