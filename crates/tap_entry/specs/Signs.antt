-- What stands at the front of the rest of a pages file, computed.
use Rattle.std.specs.Prelude.{◌≡◌, ◌≢◌, ℕ, ◌+◌, ◌*◌, ◌≤◌, ◌==◌, nat_le, Bool, ◌&&◌, if◌then◌else◌, List, [], ◌∷◌, ◌++◌, length, map, Option, Some, None, ◌⊎◌}
use Rattle.std.specs.List.{AllByRecursion, list_all, flat_map}
use Rattle.entry_line.specs.Chars.{lf, cr, space}
use Rattle.page_text.specs.declared.limits.TheConstants.{LONGEST_TEXT}
use Rattle.tap_entry.specs.Client.{PageToSend}
use Rattle.tap_entry.specs.PagesFile.{Sign, IsSign, sign_written, char_meant, IsWritten, IsLineOf, AreLinesOf, IsPassword, first_line, digit_of, backslash, most_pages, HasNoPageLine}
use Rattle.tap_entry.specs.declared.faults.PagesFault.{PagesFault}
use Rattle.tap_entry.specs.declared.faults.PagesFault.TheVariants.{Line}

-- a character and what is behind it
abbrev pub Front : Type 0
Front = Option (ℕ × List ℕ)

-- the character of two digits
abbrev pub of_digits : Option ℕ → Option ℕ → List ℕ → Front
of_digits (Some m) (Some n) x = if nat_le (16 * m + n) 126 then Some (16 * m + n, x) else None
of_digits m n x = None

-- behind `\x`
abbrev pub hexadecimal_at : List ℕ → Front
hexadecimal_at (a ∷ b ∷ x) = of_digits (digit_of a) (digit_of b) x
hexadecimal_at x = None

-- behind a backslash
abbrev pub escape_at : List ℕ → Front
escape_at (c ∷ x) =
    if c == backslash then Some (backslash, x)
    else if c == 110 then Some (lf, x)
    else if c == 114 then Some (cr, x)
    else if c == 120 then hexadecimal_at x
    else None
escape_at [] = None

-- the character that is written there
abbrev pub sign_at : List ℕ → Front
sign_at (c ∷ x) = if c == backslash then escape_at x else if nat_le 32 c && nat_le c 126 then Some (c, x) else None
sign_at [] = None

-- a text of no more characters than the limit up to a place
pub record TextUpTo (x text rest : List ℕ) : Type 0 where
  pub size : length text ≤ LONGEST_TEXT
  pub signs : List Sign
  pub each : AllByRecursion IsSign signs
  pub form : x ≡ flat_map sign_written signs ++ rest
  pub means : text ≡ map char_meant signs

-- a text of no more characters than the limit, LF, and what is behind it
pub record BeginsText (x text behind : List ℕ) : Type 0 where
  pub characters : List ℕ
  pub written_so : IsWritten text characters
  pub size : length text ≤ LONGEST_TEXT
  pub form : x ≡ characters ++ lf ∷ behind

-- a digit
abbrev pub IsDigit : ℕ → Type 0
IsDigit c = (48 ≤ c) × (c ≤ 57)

-- an id, a space, and what is behind it
pub record BeginsId (x id behind : List ℕ) : Type 0 where
  pub size : length id ≤ 10
  pub some : 1 ≤ length id
  pub digits : AllByRecursion IsDigit id
  pub form : x ≡ id ++ space ∷ behind

-- the line of a page, and what is behind it
pub record BeginsPage (x : List ℕ) (page : PageToSend) (behind : List ℕ) : Type 0 where
  pub line : List ℕ
  pub line_is : IsLineOf page line
  pub form : x ≡ line ++ behind

-- lines of pages up to a place
pub record PagesUpTo (x : List ℕ) (pages : List PageToSend) (rest : List ℕ) : Type 0 where
  pub lines : List (List ℕ)
  pub each : AreLinesOf pages lines
  pub few : length pages ≤ most_pages
  pub form : x ≡ flat_map (λ line. line) lines ++ rest

-- the lines of pages end at a place where something stands, and this is the fault
pub record StopsAt (x : List ℕ) (fault : PagesFault) : Type 0 where
  pub pages : List PageToSend
  pub rest : List ℕ
  pub before : PagesUpTo x pages rest
  pub fault_is : fault ≡ Line (length pages + 2)
  pub some : rest ≢ []
  pub wrong : (length pages ≡ most_pages) ⊎ HasNoPageLine rest

-- a first line, and what is behind it
pub record BeginsFile (x : List ℕ) (password : Option (List ℕ)) (behind : List ℕ) : Type 0 where
  pub is_password : IsPassword password
  pub form : x ≡ first_line password ++ behind

-- a character that a password may have
abbrev pub is_visible : ℕ → Bool
is_visible c = nat_le 33 c && nat_le c 126

-- a password, if its characters are right
abbrev pub checked : List ℕ → List ℕ → Option (Option (List ℕ) × List ℕ)
checked password x = if list_all is_visible password then Some (Some password, x) else None

-- six characters and LF
abbrev pub six_at : List ℕ → Option (Option (List ℕ) × List ℕ)
six_at (a ∷ b ∷ c ∷ d ∷ e ∷ f ∷ g ∷ x) = if g == lf then checked (a ∷ b ∷ c ∷ d ∷ e ∷ f ∷ []) x else None
six_at x = None

-- behind `PG1`
abbrev pub password_at : List ℕ → Option (Option (List ℕ) × List ℕ)
password_at (c ∷ x) = if c == lf then Some (None, x) else six_at (c ∷ x)
password_at [] = None

-- the password or none of a first line
abbrev pub first_line_at : List ℕ → Option (Option (List ℕ) × List ℕ)
first_line_at (a ∷ b ∷ c ∷ x) = if (a == 80) && ((b == 71) && (c == 49)) then password_at x else None
first_line_at x = None
