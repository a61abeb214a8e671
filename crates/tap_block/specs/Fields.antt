-- Fields of a content, and their values.
use Rattle.std.specs.Prelude.{◌≡◌, ◌≢◌, ℕ, ◌+◌, ◌-◌, ◌≤◌, ◌==◌, nat_lt, nat_le, Bool, true, false, ◌&&◌, if◌then◌else◌, List, [], ◌∷◌, ◌++◌, map, Option, Some, None, Result, Ok, Err}
use Rattle.std.specs.List.{AllByRecursion, flat_map}
use Rattle.tap_block.specs.declared.faults.FieldFault.{FieldFault}
use Rattle.tap_block.specs.declared.faults.FieldFault.TheVariants.{Control, SubEnd, SubLetter}
use Rattle.entry_line.specs.Chars.{cr}
use Rattle.tap_block.specs.Chars.{sub, stx, sum_of, written, end_char}
use Rattle.tap_block.specs.declared.ends.End.{End}

-- a plain character, or SUB and a character
pub data Spelling : Type 0 where
  plain : ℕ → Spelling
  pair : ℕ → Spelling

-- plain characters are 0x20 to 0x7E, and SUB stands before 0x40 to 0x5F
abbrev pub IsSpelling : Spelling → Type 0
IsSpelling (plain c) = (32 ≤ c) × (c ≤ 126)
IsSpelling (pair c) = (64 ≤ c) × (c ≤ 95)

-- its characters
abbrev pub spelling : Spelling → List ℕ
spelling (plain c) = c ∷ []
spelling (pair c) = sub ∷ c ∷ []

-- what it spells
abbrev pub spelled : Spelling → ℕ
spelled (plain c) = c
spelled (pair c) = c - 64

-- the field is a list of spellings, and the value what they spell
pub record HasValue (field value : List ℕ) : Type 0 where
  pub spellings : List Spelling
  pub each : AllByRecursion IsSpelling spellings
  pub form : field ≡ flat_map spelling spellings
  pub spells : value ≡ map spelled spellings

-- no spelling begins at the front of the list, which is not empty, and this is why
abbrev pub IsFaultAt : FieldFault → List ℕ → Type 0
IsFaultAt Control (c ∷ f) = (c ≢ sub) × (IsSpelling (plain c) → ⊥)
IsFaultAt SubEnd (c ∷ []) = c ≡ sub
IsFaultAt SubLetter (c ∷ d ∷ f) = (c ≡ sub) × (IsSpelling (pair d) → ⊥)
IsFaultAt fault f = ⊥

-- the field is a list of spellings up to a place where none begins
pub record HasFault (field : List ℕ) (fault : FieldFault) : Type 0 where
  pub spellings : List Spelling
  pub each : AllByRecursion IsSpelling spellings
  pub behind : List ℕ
  pub form : field ≡ flat_map spelling spellings ++ behind
  pub fault_is : IsFaultAt fault behind

-- both as a function
abbrev pub is_plain : ℕ → Bool
is_plain c = nat_le 32 c && nat_le c 126

-- the test of a character behind SUB
abbrev pub is_letter : ℕ → Bool
is_letter c = nat_le 64 c && nat_le c 95

-- a value with this before it
abbrev pub front : List ℕ → Result (List ℕ) FieldFault → Result (List ℕ) FieldFault
front x (Ok value) = Ok (x ++ value)
front x (Err fault) = Err fault

-- the value, or the fault at the first place without a spelling
abbrev pub read_field : List ℕ → Result (List ℕ) FieldFault
read_field [] = Ok []
read_field (c ∷ []) = if is_plain c then Ok (c ∷ []) else Err (if c == sub then SubEnd else Control)
read_field (c ∷ d ∷ f) = elim (is_plain c) [
  | true ↦ front (c ∷ []) (read_field (d ∷ f))
  | false ↦ elim (c == sub) [
    | true ↦ elim (is_letter d) [ true ↦ front ((d - 64) ∷ []) (read_field f) | false ↦ Err SubLetter ]
    | false ↦ Err Control
  ]
]

-- the characters that spell one of a value, and those that spell all
abbrev pub escape_of : ℕ → List ℕ
escape_of c = if nat_lt c 32 then sub ∷ (c + 64) ∷ [] else c ∷ []

-- the field that spells a value
abbrev pub escaped : List ℕ → List ℕ
escaped value = flat_map escape_of value

-- the content is two parts without CR, each followed by one CR
pub record AreParts (content first second : List ℕ) : Type 0 where
  pub form : content ≡ first ++ cr ∷ (second ++ cr ∷ [])
  pub no_cr_first : AllByRecursion (λ c. c ≢ cr) first
  pub no_cr_second : AllByRecursion (λ c. c ≢ cr) second

-- the list at its first CR: what is before it and what is behind it
abbrev pub longer : ℕ → Option (List ℕ × List ℕ) → Option (List ℕ × List ℕ)
longer c None = None
longer c (Some (l, x)) = Some (c ∷ l, x)

-- cut at the first CR
abbrev pub line_cut : List ℕ → Option (List ℕ × List ℕ)
line_cut [] = None
line_cut (c ∷ x) = if c == cr then Some ([], x) else longer c (line_cut x)

-- the two parts as a function
abbrev pub second_part : List ℕ → Option (List ℕ × List ℕ) → Option (List ℕ × List ℕ)
second_part first None = None
second_part first (Some (second, [])) = Some (first, second)
second_part first (Some (second, c ∷ x)) = None

-- the first part is what stands before the first CR
abbrev pub first_part : Option (List ℕ × List ℕ) → Option (List ℕ × List ℕ)
first_part None = None
first_part (Some (first, x)) = second_part first (line_cut x)

-- both parts of a content
abbrev pub content_parts : List ℕ → Option (List ℕ × List ℕ)
content_parts content = first_part (line_cut content)

-- the content has two parts, and both have a value
pub record HasFields (content : List ℕ) (id text : List ℕ) : Type 0 where
  pub first : List ℕ
  pub second : List ℕ
  pub parts : AreParts content first second
  pub id_is : HasValue first id
  pub text_is : HasValue second text

-- a whole block with the right trailer
abbrev pub block_of : List ℕ → End → List ℕ
block_of body end = (stx ∷ body) ++ end_char end ∷ (written (sum_of ((stx ∷ body) ++ end_char end ∷ [])) ++ cr ∷ [])
