-- The pages that are drawn, and their session. `draws` gives the draws by number. docs/profile.md, "load mode".
use Rattle.std.specs.Prelude.{ℕ, zero, suc, ◌+◌, ◌%◌, List, [], ◌∷◌, ◌++◌, map, flat_map, decimal}
use Rattle.std.specs.List.{range_with_len}
use Rattle.codeword.specs.declared.functions.Function.{Function}
use Rattle.codeword.specs.declared.functions.Function.TheVariants.{Numeric, Tone1, Tone2, Alpha}
use Rattle.entry_line.specs.Chars.{cr}
use Rattle.page_text.specs.Page.{Page}
use Rattle.tap_block.specs.Chars.{eot, esc}
use Rattle.tap_block.specs.Fields.{block_of}
use Rattle.tap_block.specs.declared.ends.End.TheVariants.{Etx}
use Rattle.load.specs.Subscribers.{id_number, capcode_number, function_number}

-- so many characters, each by a draw from this one on: one of so many kinds, from the first on
abbrev pub drawn_characters : (ℕ → ℕ) → ℕ → ℕ → ℕ → ℕ → List ℕ
drawn_characters draws k first kinds count = map (λ j. first + draws (k + j) % kinds) (range_with_len 0 count)

-- a length from 1 to the longest, by a draw
abbrev pub drawn_length : (ℕ → ℕ) → ℕ → ℕ → ℕ
drawn_length draws k longest = 1 + draws k % longest

-- the text for a function, by the draws from this one on: 1 to 20 digits, 1 to 60 capital letters, or nothing
abbrev pub drawn_text : (ℕ → ℕ) → ℕ → Function → List ℕ
drawn_text draws k Numeric = drawn_characters draws (k + 1) 48 10 (drawn_length draws k 20)
drawn_text draws k Tone1 = []
drawn_text draws k Tone2 = []
drawn_text draws k Alpha = drawn_characters draws (k + 1) 65 26 (drawn_length draws k 60)

-- how many draws it takes
abbrev pub text_draws : (ℕ → ℕ) → ℕ → Function → ℕ
text_draws draws k Numeric = 1 + drawn_length draws k 20
text_draws draws k Tone1 = 0
text_draws draws k Tone2 = 0
text_draws draws k Alpha = 1 + drawn_length draws k 60

-- the number of the subscriber of a page, by a draw
abbrev pub drawn_subscriber : (ℕ → ℕ) → ℕ → ℕ
drawn_subscriber draws k = draws k % 64

-- the page by the draws from this one on
abbrev pub drawn_page : (ℕ → ℕ) → ℕ → Page
drawn_page draws k = record {
  capcode = capcode_number (drawn_subscriber draws k);
  function = function_number (drawn_subscriber draws k);
  text = drawn_text draws (k + 1) (function_number (drawn_subscriber draws k));
}

-- the body of its block: the id, and the text
abbrev pub drawn_body : (ℕ → ℕ) → ℕ → List ℕ
drawn_body draws k = decimal (id_number (drawn_subscriber draws k)) ++ cr ∷ ((drawn_page draws k).text ++ cr ∷ [])

-- how many draws a page takes
abbrev pub page_draws : (ℕ → ℕ) → ℕ → ℕ
page_draws draws k = 1 + text_draws draws (k + 1) (function_number (drawn_subscriber draws k))

-- the number of the draw with which the page of a number begins, counted from 0. Behind the last page the noises begin
unfoldable pub page_begins : (ℕ → ℕ) → ℕ → ℕ
page_begins draws zero = 0
page_begins draws (suc m) = page_begins draws m + page_draws draws (page_begins draws m)

-- the blocks of the pages, in order
unfoldable pub drawn_blocks : (ℕ → ℕ) → ℕ → List ℕ
drawn_blocks draws count = flat_map (λ m. block_of (drawn_body draws (page_begins draws m)) Etx) (range_with_len 0 count)

-- an empty line, and a logon
abbrev pub logging_on : List ℕ
logging_on = cr ∷ esc ∷ 80 ∷ 71 ∷ 49 ∷ cr ∷ []

-- the session: logging on, a block for each page, and goodbye
abbrev pub drawn_session : (ℕ → ℕ) → ℕ → List ℕ
drawn_session draws count = logging_on ++ drawn_blocks draws count ++ eot ∷ cr ∷ []
