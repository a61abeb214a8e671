-- The groups of a text: its characters' codes as bits, run together, filled, and cut into pieces of 20.
use Rattle.std.specs.Prelude.{◌≡◌, ℕ, zero, suc, ◌+◌, ◌*◌, ◌/◌, ◌==◌, Bool, List, [], ◌∷◌, ◌++◌, length, map, flat_map, take, drop, replicate, position, unwrap_or, codes}
use Rattle.bits.specs.Bits.{rising_bits_of, number}
use Rattle.codeword.specs.declared.functions.Function.{Function}
use Rattle.codeword.specs.declared.functions.Function.TheVariants.{Numeric, Tone1, Tone2, Alpha}

-- the first n pieces of k bits
abbrev pub pieces : ℕ → ℕ → List Bool → List (List Bool)
pieces k zero bits = []
pieces k (suc n) bits = take k bits ∷ pieces k n (drop k bits)

-- codes of w bits run together, each one's least significant bit first
abbrev pub code_bits : ℕ → List ℕ → List Bool
code_bits w codes = flat_map (rising_bits_of w) codes

-- how many groups n codes of w bits need
abbrev pub group_count : ℕ → ℕ → ℕ
group_count w n = (w * n + 19) / 20

-- the groups of codes of w bits. The last group is filled with this code.
unfoldable pub groups_of : ℕ → ℕ → List ℕ → List ℕ
groups_of w fill codes = map number (pieces 20 (group_count w (length codes)) (code_bits w (codes ++ replicate 20 fill)))

-- the numeric characters, in the order of their codes 0 to 15
abbrev pub numeric_characters : List ℕ
numeric_characters = codes "0123456789*U -]["

-- the code of a numeric character
abbrev pub numeric_code : ℕ → ℕ
numeric_code c = unwrap_or (position (λ d. d == c) numeric_characters) 0

-- Numeric: four bits a character, filled with spaces, whose code is 12. Alphanumeric: seven bits a character, filled with zero
-- bits. A tone has no groups.
abbrev pub groups : Function → List ℕ → List ℕ
groups Numeric text = groups_of 4 12 (map numeric_code text)
groups Tone1 text = []
groups Tone2 text = []
groups Alpha text = groups_of 7 0 text

-- each text of n characters has so many groups
abbrev pub HasGroups : Function → ℕ → ℕ → Type 0
HasGroups function n count = (text : List ℕ) → length text ≡ n → length (groups function text) ≡ count
