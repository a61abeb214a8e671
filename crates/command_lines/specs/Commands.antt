-- The command lines.
use Rattle.std.specs.Prelude.{◌≡◌, ◌≢◌, ℕ, ◌≤◌, ◌<◌, ◌^◌, ◌==◌, false, List, [], ◌∷◌, length, map, Option, Some, None, String, string_bytes, codes}
use Rattle.std.specs.List.{list_any, slice_split}
use Rattle.std.specs.Str.Parse.{IsNumeral, digits_value}
use Rattle.std.specs.declared.alloc.Global.{Global}
use Rattle.codeword.specs.Capcodes.{IsUsable}

-- a command
pub data Command : Type 0 where
  -- one CAPCODE: sends the page of one block to this capcode
  One : ℕ → Command
  -- load SEED COUNT: makes a session of so many pages from this seed, and prints six lines about what is heard of them through two noises
  Load : ℕ → ℕ → Command
  -- play AIR RECEIVER ..: prints the pages that receivers, each of these capcodes, hear in the bits of this file
  Play : List ℕ → List (List ℕ) → Command
  -- play-line LINE RECEIVER ..: prints the pages that receivers, each of these capcodes, hear in the bits of the samples in this file
  PlayLine : List ℕ → List (List ℕ) → Command
  -- line AIR LINE SEED: writes the samples of the bits of one file to the other, with the edges moved by the generator of this seed
  WriteLine : List ℕ → List ℕ → ℕ → Command
  -- show AIR: prints the sync words and slots that are heard in the bits of this file
  Show : List ℕ → Command
  -- station ADDRESS SETTINGS AIR N: serves so many connections at this address, by these settings, and keeps the air in this file
  Station : List ℕ → List ℕ → List ℕ → ℕ → Command
  -- snpp ADDRESS SETTINGS AIR N: the same by the SNPP entry line
  Snpp : List ℕ → List ℕ → List ℕ → ℕ → Command
  -- trial SETTINGS NOISE RECEIVER ..: prints the answers to the session of the input, and the pages that receivers, each of these capcodes,
  -- hear through this noise
  Trial : List ℕ → List ℕ → List (List ℕ) → Command
  -- twice SETTINGS NOISE RECEIVER ..: the same, where the transmission is sent twice
  Twice : List ℕ → List ℕ → List (List ℕ) → Command
  -- send ADDRESS PAGES: sends the pages of this file as a client, to the terminal at this address
  Send : List ℕ → List ℕ → Command

-- a usable capcode in one to seven decimal digits
pub record IsCapcodeWord (word : List ℕ) (capcode : ℕ) : Type 0 where
  pub digits : IsNumeral 10 word
  pub short : length word ≤ 7
  pub value : capcode ≡ digits_value 10 word
  pub usable : IsUsable capcode

-- each word says the value in its place
abbrev pub Say : {A : Type 0} → (List ℕ → A → Type 0) → List (List ℕ) → List A → Type 0
Say Says [] [] = Unit {0}
Say Says (word ∷ words) (value ∷ values) = Says word value × Say Says words values
Say Says words values = ⊥

-- no capcode stands twice
abbrev pub Differ : List ℕ → Type 0
Differ [] = Unit {0}
Differ (capcode ∷ capcodes) = (list_any (λ c. c == capcode) capcodes ≡ false) × Differ capcodes

-- the parts of a word, which stand between its plus signs
abbrev pub plus_parts : List ℕ → List (List ℕ)
plus_parts word = slice_split (λ byte. byte == 43) word

-- One to four different usable capcodes, each in one to seven decimal digits, with a plus sign between two. They are those of one
-- receiver.
pub record IsReceiverWord (word : List ℕ) (capcodes : List ℕ) : Type 0 where
  pub say : Say IsCapcodeWord (plus_parts word) capcodes
  pub some : 0 < length capcodes
  pub few : length capcodes ≤ 4
  pub differ : Differ capcodes

-- One to 64 words, each for a receiver. Two receivers may have the same capcodes.
pub record AreReceiverWords (words : List (List ℕ)) (receivers : List (List ℕ)) : Type 0 where
  pub say : Say IsReceiverWord words receivers
  pub some : 0 < length receivers
  pub few : length receivers ≤ 64

-- a number from 1 to the most in decimal digits, with zeros in front or not
pub record IsCountWord (most : ℕ) (word : List ℕ) (count : ℕ) : Type 0 where
  pub digits : IsNumeral 10 word
  pub value : count ≡ digits_value 10 word
  pub some : 1 ≤ count
  pub few : count ≤ most

-- a number below 2^64 in decimal digits, with zeros in front or not
pub record IsSeedWord (word : List ℕ) (seed : ℕ) : Type 0 where
  pub digits : IsNumeral 10 word
  pub value : seed ≡ digits_value 10 word
  pub few : seed < 2 ^ 64

-- a file's name or an address is any word that isn't empty
abbrev pub IsName : List ℕ → Type 0
IsName word = word ≢ []

-- what follows `play` and `play-line`, and what follows `show`
abbrev pub ArePlay : List (List ℕ) → List ℕ → List (List ℕ) → Type 0
ArePlay [] air receivers = ⊥
ArePlay (word ∷ words) air receivers = (word ≡ air) × IsName air × AreReceiverWords words receivers

abbrev pub AreShow : List (List ℕ) → List ℕ → Type 0
AreShow (word ∷ []) air = (word ≡ air) × IsName air
AreShow words air = ⊥

-- what follows `line`: the two files differ
abbrev pub AreLine : List (List ℕ) → List ℕ → List ℕ → ℕ → Type 0
AreLine (a ∷ l ∷ s ∷ []) air line seed = (a ≡ air) × (l ≡ line) × IsName air × IsName line × (air ≢ line) × IsSeedWord s seed
AreLine words air line seed = ⊥

-- what follows `station` and `snpp`, and what follows `trial` and `twice`
abbrev pub AreStation : List (List ℕ) → List ℕ → List ℕ → List ℕ → ℕ → Type 0
AreStation (a ∷ s ∷ f ∷ n ∷ []) address settings air count =
    (a ≡ address) × (s ≡ settings) × (f ≡ air) × IsName address × IsName settings × IsName air × IsCountWord 1000 n count
AreStation words address settings air count = ⊥

abbrev pub AreTrial : List (List ℕ) → List ℕ → List ℕ → List (List ℕ) → Type 0
AreTrial (s ∷ f ∷ words) settings noise receivers = (s ≡ settings) × (f ≡ noise) × IsName settings × IsName noise × AreReceiverWords words receivers
AreTrial words settings noise receivers = ⊥

-- what follows `send`
abbrev pub AreSend : List (List ℕ) → List ℕ → List ℕ → Type 0
AreSend (a ∷ p ∷ []) address pages = (a ≡ address) × (p ≡ pages) × IsName address × IsName pages
AreSend words address pages = ⊥

abbrev pub AreOne : List (List ℕ) → ℕ → Type 0
AreOne (word ∷ []) capcode = IsCapcodeWord word capcode
AreOne words capcode = ⊥

-- what follows `load`
abbrev pub AreLoad : List (List ℕ) → ℕ → ℕ → Type 0
AreLoad (s ∷ c ∷ []) seed count = IsSeedWord s seed × IsCountWord 10000 c count
AreLoad words seed count = ⊥

-- the words after the program's name are this command's
abbrev pub IsCommand : List (List ℕ) → Command → Type 0
IsCommand [] command = ⊥
IsCommand (name ∷ words) (One capcode) = (name ≡ codes "one") × AreOne words capcode
IsCommand (name ∷ words) (Load seed count) = (name ≡ codes "load") × AreLoad words seed count
IsCommand (name ∷ words) (Play air receivers) = (name ≡ codes "play") × ArePlay words air receivers
IsCommand (name ∷ words) (PlayLine line receivers) = (name ≡ codes "play-line") × ArePlay words line receivers
IsCommand (name ∷ words) (WriteLine air line seed) = (name ≡ codes "line") × AreLine words air line seed
IsCommand (name ∷ words) (Show air) = (name ≡ codes "show") × AreShow words air
IsCommand (name ∷ words) (Station address settings air count) = (name ≡ codes "station") × AreStation words address settings air count
IsCommand (name ∷ words) (Snpp address settings air count) = (name ≡ codes "snpp") × AreStation words address settings air count
IsCommand (name ∷ words) (Trial settings noise receivers) = (name ≡ codes "trial") × AreTrial words settings noise receivers
IsCommand (name ∷ words) (Twice settings noise receivers) = (name ≡ codes "twice") × AreTrial words settings noise receivers
IsCommand (name ∷ words) (Send address pages) = (name ≡ codes "send") × AreSend words address pages

-- the words are this command's, or no command's
abbrev pub AreCommand : List (List ℕ) → Option Command → Type 0
AreCommand words (Some command) = IsCommand words command
AreCommand words None = (command : Command) → IsCommand words command → ⊥

abbrev pub texts : List (String Global) → List (List ℕ)
texts words = map string_bytes words

-- the two files of `line` differ
abbrev pub FilesDiffer : Option Command → Type 0
FilesDiffer (Some (WriteLine air line seed)) = air ≢ line
FilesDiffer command = Unit {0}
