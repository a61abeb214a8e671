-- What the table of patterns holds, computed.
use Rattle.std.proofs.Common.{◌≡◌, ℕ, ◌<◌, ◌≤◌, ◌^◌, Bool, true, ◌||◌, ◌==◌, refl, sym, ◌∙◌, ap, ◌⊎◌, inl, inr, slice_index}
use Rattle.std.proofs.lemmas.Bool.{or_cases, eqb-true, ltb-true}
use Rattle.std.specs.Prelude.{nat_lt}
use Rattle.std.specs.Int.Count.{ones}
use Rattle.bch31.specs.declared.patterns.TheConstants.{PATTERNS}
use Rattle.bch31.specs.Division.{remainder}
use Rattle.bch31.proofs.Light.{all_light, all_light_at}
use Rattle.bch31.proofs.Multiples.{all_below, all_below_at}

-- the entry that stands where no pattern is: 31 ones
abbrev pub no_pattern : ℕ
no_pattern = 0x7FFFFFFF

-- the pattern is the entry at its remainder
abbrev is_found : ℕ → Bool
is_found e = slice_index PATTERNS (remainder 31 e) == e

-- so are all patterns with at most two ones
light_are_found : all_light 31 2 is_found ≡ true
unfolding all_light remainder
light_are_found = refl

-- a pattern with at most two ones is found by its remainder
pub pattern_found : (e : ℕ) → e < 2 ^ 31 → ones e ≤ 2 → slice_index PATTERNS (remainder 31 e) ≡ e
pattern_found e h o = eqb-true (slice_index PATTERNS (remainder 31 e)) e (all_light_at 31 2 is_found light_are_found e h o)

-- patterns with at most two ones and one remainder are the same
pub light_same : (p q : ℕ) → p < 2 ^ 31 → q < 2 ^ 31 → ones p ≤ 2 → ones q ≤ 2 → remainder 31 p ≡ remainder 31 q → p ≡ q
light_same p q hp hq op oq e = sym (pattern_found p hp op) ∙ ap (slice_index PATTERNS) e ∙ pattern_found q hq oq

-- an entry is no pattern, or its remainder is its place
abbrev is_sound : ℕ → Bool
is_sound i = (slice_index PATTERNS i == no_pattern) || (remainder 31 (slice_index PATTERNS i) == i)

-- so are all entries
entries_are_sound : all_below is_sound 1024 ≡ true
unfolding all_below remainder
entries_are_sound = refl

-- the same of one entry
pub pattern_sound : (i : ℕ) → i < 1024 → (slice_index PATTERNS i ≡ no_pattern) ⊎ (remainder 31 (slice_index PATTERNS i) ≡ i)
pattern_sound i h = elim (or_cases (slice_index PATTERNS i == no_pattern) (remainder 31 (slice_index PATTERNS i) == i) (all_below_at is_sound 1024 i entries_are_sound h)) [
  | inl none ↦ inl (eqb-true (slice_index PATTERNS i) no_pattern none)
  | inr some ↦ inr (eqb-true (remainder 31 (slice_index PATTERNS i)) i some)
]

-- an entry has 31 bits
abbrev is_short : ℕ → Bool
is_short i = nat_lt (slice_index PATTERNS i) 0x80000000

-- so have all entries
entries_are_short : all_below is_short 1024 ≡ true
unfolding all_below
entries_are_short = refl

-- the same of one entry
pub pattern-lt : (i : ℕ) → i < 1024 → slice_index PATTERNS i < 2 ^ 31
pattern-lt i h = ltb-true (slice_index PATTERNS i) 0x80000000 (all_below_at is_short 1024 i entries_are_short h)
