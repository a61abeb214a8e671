-- What a client says for the marks that it hears, and what becomes of its pages: docs/profile.md, "calling", "sending a page" and
-- "leaving".
use Rattle.std.specs.Prelude.{◌≡◌, ◌≢◌, ℕ, ◌+◌, ◌*◌, ◌/◌, ◌≤◌, ◌<◌, ◌==◌, Bool, true, false, if◌then◌else◌, List, [], ◌∷◌, ◌++◌, length, take, drop, map, count_by, codes, Option, Some, None, ◌⊎◌}
use Rattle.std.specs.List.{AllByRecursion, flat_map}
use Rattle.entry_line.specs.Chars.{cr}
use Rattle.tap_block.specs.Chars.{eot, esc}
use Rattle.tap_block.specs.Fields.{escaped, block_of}
use Rattle.tap_block.specs.declared.ends.End.{End as BlockEnd}
use Rattle.tap_block.specs.declared.ends.End.TheVariants.{Etx as LastBlock, Us as FieldGoesOn}
use Rattle.page_text.specs.declared.limits.TheConstants.{LONGEST_TEXT}
use Rattle.tap_entry.specs.declared.hearing.Mark.{Mark}
use Rattle.tap_entry.specs.declared.hearing.Mark.TheVariants.{Id, Ack, Nak, Rs, End, Go}
use Rattle.tap_entry.specs.declared.outcomes.Outcome.{Outcome}
use Rattle.tap_entry.specs.declared.outcomes.Outcome.TheVariants.{Sent, Abandoned, TriesSpent, Disconnected, NoLogon}

-- a page to be sent: an id and a text
pub record PageToSend : Type 0 where
  pub id : List ℕ
  pub text : List ℕ

-- its two fields, each with its CR
abbrev pub content : PageToSend → List ℕ
content p = p.id ++ cr ∷ (escaped p.text ++ cr ∷ [])

-- how many bodies: each has 250 characters, the last one has as many or fewer
abbrev pub count_of : List ℕ → ℕ
count_of x = (length x + 249) / 250

-- the body number k, from 0
abbrev pub body_at : List ℕ → ℕ → List ℕ
body_at x k = take 250 (drop (250 * k) x)

-- the last of the blocks
abbrev pub is_last_at : List ℕ → ℕ → Bool
is_last_at x k = k + 1 == count_of x

-- the last block ends in ETX, and each before it in US
abbrev pub end_at : List ℕ → ℕ → BlockEnd
end_at x k = if is_last_at x k then LastBlock else FieldGoesOn

-- the block number k, from 0
abbrev pub block_at : List ℕ → ℕ → List ℕ
block_at x k = block_of (body_at x k) (end_at x k)

-- an Ack
abbrev pub is_ack : Mark → Bool
is_ack Ack = true
is_ack other = false

-- a Nak
abbrev pub is_nak : Mark → Bool
is_nak Nak = true
is_nak other = false

-- how many Acks
abbrev pub acks : List Mark → ℕ
acks marks = count_by is_ack marks

-- how many Naks
abbrev pub naks : List Mark → ℕ
naks marks = count_by is_nak marks

-- the marks since the last Ack, or since the start where there is none
abbrev pub AreSinceAck : List Mark → List Mark → Type 0
AreSinceAck marks last = (acks last ≡ 0) × ((marks ≡ last) ⊎ ((before : List Mark) × (marks ≡ before ++ Ack ∷ last)))

-- After these marks since its start, this mark decides a page of m blocks.
abbrev pub Decides : ℕ → List Mark → Mark → Outcome → Type 0
Decides m since Ack outcome = (acks since + 1 ≡ m) × (outcome ≡ Sent)
Decides m since Rs outcome = outcome ≡ Abandoned
Decides m since End outcome = outcome ≡ Disconnected
Decides m since Nak outcome = (last : List Mark) × AreSinceAck since last × (naks last ≡ 2) × (outcome ≡ TriesSpent)
Decides m since other outcome = ⊥

-- none of the marks decides the page
abbrev pub IsUndecided : ℕ → List Mark → Type 0
IsUndecided m since = (front : List Mark) (mark : Mark) (rest : List Mark) (outcome : Outcome) → since ≡ front ++ mark ∷ rest → Decides m front mark outcome → ⊥

-- what is said for marks after k Acks: the next block at each Ack, the same at each Nak
abbrev pub said_after : List ℕ → ℕ → List Mark → List ℕ
said_after x k [] = []
said_after x k (Ack ∷ marks) = block_at x (k + 1) ++ said_after x (k + 1) marks
said_after x k (Nak ∷ marks) = block_at x k ++ said_after x k marks
said_after x k (other ∷ marks) = said_after x k marks

-- what is said for a page: the first block at its start, and what its marks bring
abbrev pub said_for : List ℕ → List Mark → List ℕ
said_for x marks = block_at x 0 ++ said_after x 0 marks

-- what is said before the client leaves: EOT CR
abbrev pub good_bye : List ℕ
good_bye = eot ∷ cr ∷ []

-- the same outcome for every page
abbrev pub all_are : Outcome → List PageToSend → List Outcome
all_are outcome pages = map (λ _. outcome) pages

-- what follows a page's outcome: after TriesSpent the client says good-bye and no further page is sent, after Disconnected nothing is
-- said, and else the further pages are sent
abbrev pub Follows : Outcome → List PageToSend → (List Outcome → List ℕ → Type 0) → List Outcome → List ℕ → Type 0
Follows TriesSpent pages on outcomes said = (outcomes ≡ all_are Disconnected pages) × (said ≡ good_bye)
Follows Disconnected pages on outcomes said = (outcomes ≡ all_are Disconnected pages) × (said ≡ [])
Follows other pages on outcomes said = on outcomes said

-- the marks from a page's start are heard, and none decides it: it and the further pages are Disconnected
pub record StaysOpen (x : List ℕ) (pages : List PageToSend) (marks : List Mark) (outcomes : List Outcome) (said : List ℕ) : Type 0 where
  pub undecided : IsUndecided (count_of x) marks
  pub outcomes_are : outcomes ≡ all_are Disconnected pages
  pub said_is : said ≡ said_for x marks

-- one of the marks decides the page
pub record IsDecided (x : List ℕ) (pages : List PageToSend) (on : List Mark → List Outcome → List ℕ → Type 0) (marks : List Mark) (outcomes : List Outcome) (said : List ℕ) : Type 0 where
  pub since : List Mark
  pub mark : Mark
  pub rest : List Mark
  pub outcome : Outcome
  pub others : List Outcome
  pub more : List ℕ
  pub marks_are : marks ≡ since ++ mark ∷ rest
  pub undecided : IsUndecided (count_of x) since
  pub decides : Decides (count_of x) since mark outcome
  pub outcomes_are : outcomes ≡ outcome ∷ others
  pub said_is : said ≡ said_for x since ++ more
  pub follows : Follows outcome pages (on rest) others more

-- After Go: the outcomes of the pages, and what is said for them; after the last page good-bye.
abbrev pub Sends : List PageToSend → List Mark → List Outcome → List ℕ → Type 0
Sends [] marks outcomes said = (outcomes ≡ []) × (said ≡ good_bye)
Sends (page ∷ pages) marks outcomes said =
    StaysOpen (content page) (page ∷ pages) marks outcomes said
    ⊎ IsDecided (content page) pages (λ rest others more. Sends pages rest others more) marks outcomes said

-- After these marks since the first Id, this mark decides the logon: a Go, an End, or the third Nak.
abbrev pub DecidesLogon : List Mark → Mark → Type 0
DecidesLogon since Go = Unit {0}
DecidesLogon since End = Unit {0}
DecidesLogon since Nak = naks since ≡ 2
DecidesLogon since other = ⊥

-- none of the marks decides the logon
abbrev pub IsCalling : List Mark → Type 0
IsCalling since = (front : List Mark) (mark : Mark) (rest : List Mark) → since ≡ front ++ mark ∷ rest → DecidesLogon front mark → ⊥

-- the characters of a password, if there is one
abbrev pub password_text : Option (List ℕ) → List ℕ
password_text None = []
password_text (Some password) = password

-- `ESC PG1`, the password if there is one, and CR
abbrev pub logon_line : Option (List ℕ) → List ℕ
logon_line password = esc ∷ codes "PG1" ++ password_text password ++ cr ∷ []

-- what is said for the marks since the first Id: the logon line at the Id, and again at each Nak
abbrev pub logons : Option (List ℕ) → List Mark → List ℕ
logons password since = logon_line password ++ flat_map (λ m. if is_nak m then logon_line password else []) since

-- the logon was decided by this mark: Go alone logs on
abbrev pub LogsOn : Mark → List PageToSend → List Mark → List Outcome → List ℕ → Type 0
LogsOn Go pages rest outcomes said = Sends pages rest outcomes said
LogsOn other pages rest outcomes said = (outcomes ≡ all_are NoLogon pages) × (said ≡ [])

-- Before the first Id nothing but CR is said.
pub record StaysSilent (pages : List PageToSend) (marks : List Mark) (outcomes : List Outcome) (said : List ℕ) : Type 0 where
  pub no_id : AllByRecursion (λ m. m ≢ Id) marks
  pub outcomes_are : outcomes ≡ all_are NoLogon pages
  pub said_is : said ≡ cr ∷ []

-- An End before the first Id refuses.
pub record IsTurnedAway (pages : List PageToSend) (marks : List Mark) (outcomes : List Outcome) (said : List ℕ) : Type 0 where
  pub before : List Mark
  pub rest : List Mark
  pub marks_are : marks ≡ before ++ End ∷ rest
  pub no_id : AllByRecursion (λ m. m ≢ Id) before
  pub outcomes_are : outcomes ≡ all_are NoLogon pages
  pub said_is : said ≡ cr ∷ []

-- The logon was said and nothing decides it.
pub record StaysCalling (password : Option (List ℕ)) (pages : List PageToSend) (marks : List Mark) (outcomes : List Outcome) (said : List ℕ) : Type 0 where
  pub before : List Mark
  pub since : List Mark
  pub marks_are : marks ≡ before ++ Id ∷ since
  pub ignored : AllByRecursion (λ m. (m ≢ Id) × (m ≢ End)) before
  pub calling : IsCalling since
  pub outcomes_are : outcomes ≡ all_are NoLogon pages
  pub said_is : said ≡ cr ∷ logons password since

-- A mark decides it.
pub record IsAnswered (password : Option (List ℕ)) (pages : List PageToSend) (marks : List Mark) (outcomes : List Outcome) (said : List ℕ) : Type 0 where
  pub before : List Mark
  pub since : List Mark
  pub mark : Mark
  pub rest : List Mark
  pub more : List ℕ
  pub marks_are : marks ≡ before ++ Id ∷ (since ++ mark ∷ rest)
  pub ignored : AllByRecursion (λ m. (m ≢ Id) × (m ≢ End)) before
  pub calling : IsCalling since
  pub decides : DecidesLogon since mark
  pub said_is : said ≡ cr ∷ (logons password since ++ more)
  pub logs_on : LogsOn mark pages rest outcomes more

-- The client: for these marks its pages have these outcomes, and this is said.
pub data Client (password : Option (List ℕ)) (pages : List PageToSend) (marks : List Mark) (outcomes : List Outcome) (said : List ℕ) : Type 0 where
  silent : StaysSilent pages marks outcomes said → Client password pages marks outcomes said
  turned_away : IsTurnedAway pages marks outcomes said → Client password pages marks outcomes said
  still_calling : StaysCalling password pages marks outcomes said → Client password pages marks outcomes said
  answered : IsAnswered password pages marks outcomes said → Client password pages marks outcomes said

-- a page that can be sent: an id of 1 to 10 digits, and no more characters than the limit up to 0x7E
pub record IsPage (p : PageToSend) : Type 0 where
  pub id_size : length p.id ≤ 10
  pub id_some : 0 < length p.id
  pub id_digits : AllByRecursion (λ c. (48 ≤ c) × (c ≤ 57)) p.id
  pub text_size : length p.text ≤ LONGEST_TEXT
  pub text_chars : AllByRecursion (λ c. c ≤ 126) p.text
