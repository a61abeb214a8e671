-- Words as command lines.
use Rattle.std.proofs.lemmas.Slice.Eq.{bytes_eq-Decides}
use Rattle.std.specs.Str.{bytes_eq}
use Rattle.std.proofs.Common.{◌≡◌, ◌≢◌, ℕ, ◌<◌, ◌≤◌, Bool, true, false, List, [], ◌∷◌, Option, Some, None, length, get_or, sym, ◌∙◌, ap, subst, arith}
use Rattle.std.specs.Prelude.{String, string_bytes}
use Rattle.std.specs.declared.alloc.Global.{Global}
use Rattle.command_lines.specs.Commands.{AreCommand, AreLine, AreStation, Command, FilesDiffer, IsCountWord, IsSeedWord, Load, One, Play, PlayLine, Send, Show, Snpp, Station, Trial, Twice, WriteLine, texts}

-- the last of four words
pub last_of_four : (words : List (String Global)) (item : String Global) (address settings air : List ℕ) (count : ℕ) → 4 ≤ length words → length words < 5
    → item ≡ get_or words 3 item → AreStation (texts words) address settings air count → IsCountWord 1000 (string_bytes item) count
last_of_four [] item address settings air count low high e h = absurd (omega (arith, low))
last_of_four (a ∷ []) item address settings air count low high e h = absurd (omega (arith, low))
last_of_four (a ∷ b ∷ []) item address settings air count low high e h = absurd (omega (arith, low))
last_of_four (a ∷ b ∷ c ∷ []) item address settings air count low high e h = absurd (omega (arith, low))
last_of_four (a ∷ b ∷ c ∷ d ∷ []) item address settings air count low high e h =
    subst (λ (w : String Global). IsCountWord 1000 (string_bytes w) count) (sym e) h.6
last_of_four (a ∷ b ∷ c ∷ d ∷ f ∷ words) item address settings air count low high e h = absurd (omega (arith, high))

-- the last of three words
pub last_of_three : (words : List (String Global)) (item : String Global) (air line : List ℕ) (seed : ℕ) → 3 ≤ length words → length words < 4
    → item ≡ get_or words 2 item → AreLine (texts words) air line seed → IsSeedWord (string_bytes item) seed
last_of_three [] item air line seed low high e h = absurd (omega (arith, low))
last_of_three (a ∷ []) item air line seed low high e h = absurd (omega (arith, low))
last_of_three (a ∷ b ∷ []) item air line seed low high e h = absurd (omega (arith, low))
last_of_three (a ∷ b ∷ c ∷ []) item air line seed low high e h = subst (λ (w : String Global). IsSeedWord (string_bytes w) seed) (sym e) h.5
last_of_three (a ∷ b ∷ c ∷ d ∷ words) item air line seed low high e h = absurd (omega (arith, high))

-- what `==` says of two words
pub same_bytes : (x y : List ℕ) (result : Bool) → result ≡ bytes_eq x y → result ≡ true → x ≡ y
same_bytes x y result e h = (bytes_eq-Decides x y).0 (sym e ∙ h)

pub other_bytes : (x y : List ℕ) (result : Bool) → result ≡ bytes_eq x y → result ≡ false → x ≢ y
other_bytes x y result e h = λ (same : x ≡ y). let h2 : bytes_eq x y ≡ true = (bytes_eq-Decides x y).1 same in cc

-- the words of `line`
pub are_line : (words : List (String Global)) (a l s : String Global) (air line word : List ℕ) (seed : ℕ) → 3 ≤ length words → length words < 4
    → a ≡ get_or words 0 a → l ≡ get_or words 1 l → s ≡ get_or words 2 s
    → air ≡ string_bytes a → line ≡ string_bytes l → word ≡ string_bytes s
    → string_bytes a ≢ [] → string_bytes l ≢ [] → air ≢ line → IsSeedWord word seed → AreLine (texts words) air line seed
are_line [] a l s air line word seed low high e f d p q r na nl ne h = absurd (omega (arith, low))
are_line (x ∷ []) a l s air line word seed low high e f d p q r na nl ne h = absurd (omega (arith, low))
are_line (x ∷ y ∷ []) a l s air line word seed low high e f d p q r na nl ne h = absurd (omega (arith, low))
are_line (x ∷ y ∷ z ∷ []) a l s air line word seed low high e f d p q r na nl ne h = (
  sym (p ∙ ap string_bytes e),
  sym (q ∙ ap string_bytes f),
  λ (i : air ≡ []). na (sym p ∙ i),
  λ (i : line ≡ []). nl (sym q ∙ i),
  ne,
  subst (λ (w : List ℕ). IsSeedWord w seed) (r ∙ ap string_bytes d) h,
)
are_line (x ∷ y ∷ z ∷ w ∷ words) a l s air line word seed low high e f d p q r na nl ne h = absurd (omega (arith, high))

-- the first two of three words are the same
pub same_files : (words : List (String Global)) (a l : String Global) (air line : List ℕ) (seed : ℕ) → 3 ≤ length words → length words < 4
    → a ≡ get_or words 0 a → l ≡ get_or words 1 l → string_bytes a ≡ string_bytes l → AreLine (texts words) air line seed → ⊥
same_files [] a l air line seed low high e f same h = absurd (omega (arith, low))
same_files (x ∷ []) a l air line seed low high e f same h = absurd (omega (arith, low))
same_files (x ∷ y ∷ []) a l air line seed low high e f same h = absurd (omega (arith, low))
same_files (x ∷ y ∷ z ∷ []) a l air line seed low high e f same h =
    h.4 (sym h.0 ∙ (ap string_bytes (sym e) ∙ (same ∙ (ap string_bytes f ∙ h.1))))
same_files (x ∷ y ∷ z ∷ w ∷ words) a l air line seed low high e f same h = absurd (omega (arith, high))

-- the two files of the words of `line` differ
line_differs : (words : List (List ℕ)) (air line : List ℕ) (seed : ℕ) → AreLine words air line seed → air ≢ line
line_differs [] air line seed h = elim h [ ]
line_differs (a ∷ []) air line seed h = elim h [ ]
line_differs (a ∷ l ∷ []) air line seed h = elim h [ ]
line_differs (a ∷ l ∷ s ∷ []) air line seed h = h.4
line_differs (a ∷ l ∷ s ∷ w ∷ words) air line seed h = elim h [ ]

pub files_differ : (words : List (List ℕ)) (command : Option Command) → AreCommand words command → FilesDiffer command
files_differ words None h = tt
files_differ [] (Some (WriteLine air line seed)) h = elim h [ ]
files_differ (name ∷ words) (Some (WriteLine air line seed)) h = line_differs words air line seed h.1
files_differ words (Some (One capcode)) h = tt
files_differ words (Some (Load seed count)) h = tt
files_differ words (Some (Play air receivers)) h = tt
files_differ words (Some (PlayLine line receivers)) h = tt
files_differ words (Some (Show air)) h = tt
files_differ words (Some (Station address settings air count)) h = tt
files_differ words (Some (Snpp address settings air count)) h = tt
files_differ words (Some (Trial settings noise receivers)) h = tt
files_differ words (Some (Twice settings noise receivers)) h = tt
files_differ words (Some (Send address pages)) h = tt
