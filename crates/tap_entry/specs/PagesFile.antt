-- A pages file: docs/profile.md, "pages file".
use Rattle.std.specs.Prelude.{◌≡◌, ◌≢◌, ℕ, ◌+◌, ◌-◌, ◌*◌, ◌≤◌, ◌<◌, nat_le, ◌&&◌, if◌then◌else◌, List, [], ◌∷◌, ◌++◌, length, map, codes, Option, Some, None, ◌⊎◌}
use Rattle.std.specs.List.{AllByRecursion, flat_map}
use Rattle.entry_line.specs.Chars.{lf, cr, space}
use Rattle.tap_entry.specs.declared.faults.PagesFault.{PagesFault}
use Rattle.tap_entry.specs.declared.faults.PagesFault.TheVariants.{Long, Line, Memory}
use Rattle.tap_entry.specs.Client.{PageToSend, IsPage, password_text}

-- a backslash, which begins an escape
abbrev pub backslash : ℕ
backslash = 92

-- a file has at most so many bytes, and so many pages
abbrev pub most_pages_bytes : ℕ
most_pages_bytes = 1048576

abbrev pub most_pages : ℕ
most_pages = 1000

-- the value of a hexadecimal digit, in capitals or not
abbrev pub digit_of : ℕ → Option ℕ
digit_of c =
    if nat_le 48 c && nat_le c 57 then Some (c - 48)
    else if nat_le 65 c && nat_le c 70 then Some (c - 55)
    else if nat_le 97 c && nat_le c 102 then Some (c - 87)
    else None

-- A character of a text as the file writes it.
pub data Sign : Type 0 where
  -- itself
  plain : ℕ → Sign
  -- `\\`
  a_backslash : Sign
  -- `\n`
  a_line_feed : Sign
  -- `\r`
  a_return : Sign
  -- `\x` and two digits, with their values
  hexadecimal : ℕ → ℕ → ℕ → ℕ → Sign

-- plain characters are 0x20 to 0x7E without the backslash, and two digits come to at most 0x7E
abbrev pub IsSign : Sign → Type 0
IsSign (plain c) = (32 ≤ c) × (c ≤ 126) × (c ≢ backslash)
IsSign a_backslash = Unit {0}
IsSign a_line_feed = Unit {0}
IsSign a_return = Unit {0}
IsSign (hexadecimal a b m n) = (digit_of a ≡ Some m) × (digit_of b ≡ Some n) × (16 * m + n ≤ 126)

-- how it is written
abbrev pub sign_written : Sign → List ℕ
sign_written (plain c) = c ∷ []
sign_written a_backslash = backslash ∷ backslash ∷ []
sign_written a_line_feed = backslash ∷ codes "n"
sign_written a_return = backslash ∷ codes "r"
sign_written (hexadecimal a b m n) = backslash ∷ codes "x" ++ a ∷ b ∷ []

-- the character that is meant
abbrev pub char_meant : Sign → ℕ
char_meant (plain c) = c
char_meant a_backslash = backslash
char_meant a_line_feed = lf
char_meant a_return = cr
char_meant (hexadecimal a b m n) = 16 * m + n

-- The file writes the text so.
pub record IsWritten (text characters : List ℕ) : Type 0 where
  pub signs : List Sign
  pub each : AllByRecursion IsSign signs
  pub form : characters ≡ flat_map sign_written signs
  pub means : text ≡ map char_meant signs

-- The line of a page: its id, a space, its text as the file writes it, and LF.
pub record IsLineOf (page : PageToSend) (line : List ℕ) : Type 0 where
  pub characters : List ℕ
  pub form : line ≡ page.id ++ space ∷ (characters ++ lf ∷ [])
  pub text : IsWritten page.text characters
  pub fits : IsPage page

-- the lines of pages
abbrev pub AreLinesOf : List PageToSend → List (List ℕ) → Type 0
AreLinesOf [] [] = Unit {0}
AreLinesOf (page ∷ pages) (line ∷ lines) = IsLineOf page line × AreLinesOf pages lines
AreLinesOf pages lines = ⊥

-- none, or six characters from 0x21 to 0x7E
abbrev pub IsPassword : Option (List ℕ) → Type 0
IsPassword None = Unit {0}
IsPassword (Some password) = (length password ≡ 6) × AllByRecursion (λ c. (33 ≤ c) × (c ≤ 126)) password

-- the first line: `PG1`, the password if there is one, and LF
abbrev pub first_line : Option (List ℕ) → List ℕ
first_line password = codes "PG1" ++ (password_text password ++ lf ∷ [])

-- what a file says: a password or none, and pages
pub record FileContent : Type 0 where
  pub password : Option (List ℕ)
  pub pages : List PageToSend

-- A password is right, each page can be sent, and there are at most 1,000.
pub record IsRightFile (told : FileContent) : Type 0 where
  pub password : IsPassword told.password
  pub each : AllByRecursion IsPage told.pages
  pub few : length told.pages ≤ most_pages

-- what stands for a page where there is none
abbrev pub no_page : PageToSend
no_page = record { id = []; text = [] }

-- The bytes begin with the lines of a file that says this, and these bytes are behind them.
pub record Begins (bytes : List ℕ) (told : FileContent) (behind : List ℕ) : Type 0 where
  pub lines : List (List ℕ)
  pub password : IsPassword told.password
  pub each : AreLinesOf told.pages lines
  pub few : length told.pages ≤ most_pages
  pub form : bytes ≡ first_line told.password ++ (flat_map (λ line. line) lines ++ behind)

-- The bytes are a file that says this.
pub record IsFile (bytes : List ℕ) (told : FileContent) : Type 0 where
  pub short : length bytes ≤ most_pages_bytes
  pub whole : Begins bytes told []

-- no first line begins there
abbrev pub HasNoFirstLine : List ℕ → Type 0
HasNoFirstLine bytes = (password : Option (List ℕ)) (behind : List ℕ) → IsPassword password → bytes ≡ first_line password ++ behind → ⊥

-- no line of a page begins there
abbrev pub HasNoPageLine : List ℕ → Type 0
HasNoPageLine bytes = (page : PageToSend) (line behind : List ℕ) → IsLineOf page line → bytes ≡ line ++ behind → ⊥

-- The lines before this one are right and it isn't: it is no line of a page, or it is one page too many.
pub record IsWrongLater (bytes : List ℕ) (n : ℕ) : Type 0 where
  pub told : FileContent
  pub behind : List ℕ
  pub before : Begins bytes told behind
  pub number : n ≡ length told.pages + 2
  pub some : behind ≢ []
  pub wrong : (length told.pages ≡ most_pages) ⊎ HasNoPageLine behind

-- the first wrong line, counted from 1
abbrev pub IsWrongLine : List ℕ → ℕ → Type 0
IsWrongLine bytes n = ((n ≡ 1) × HasNoFirstLine bytes) ⊎ IsWrongLater bytes n

-- The bytes are refused so. Want of memory may come with any bytes.
abbrev pub IsFileRefused : List ℕ → PagesFault → Type 0
IsFileRefused bytes Long = most_pages_bytes < length bytes
IsFileRefused bytes (Line n) = (length bytes ≤ most_pages_bytes) × IsWrongLine bytes n
IsFileRefused bytes Memory = Unit {0}
