-- Words that say values, one after another.
use Rattle.std.proofs.Common.{◌≡◌, ℕ, suc, List, [], ◌∷◌, ◌++◌, length, refl, ap, ap₂}
use Rattle.command_lines.specs.Commands.{Say}

-- what words say that begin with others: behind what those say, the value of the next word
pub record Behind {A : Type 0} (Says : List ℕ → A → Type 0) (front : List (List ℕ)) (word : List ℕ) (all : List A) : Type 0 where
  pub before : List A
  pub value : A
  pub rest : List A
  pub all_is : all ≡ before ++ value ∷ rest
  pub before_is : Say Says front before
  pub word_is : Says word value

further : {A : Type 0} (Says : List ℕ → A → Type 0) (w : List ℕ) (front : List (List ℕ)) (word : List ℕ) (v : A) (all : List A) → Says w v → Behind Says front word all
    → Behind Says (w ∷ front) word (v ∷ all)
further Says w front word v all h b = record {
  before = v ∷ b.before;
  value = b.value;
  rest = b.rest;
  all_is = ap (λ vs. v ∷ vs) b.all_is;
  before_is = (h, b.before_is);
  word_is = b.word_is;
}

pub Say-behind : {A : Type 0} (Says : List ℕ → A → Type 0) (front : List (List ℕ)) (word : List ℕ) (later : List (List ℕ)) (all : List A) → Say Says (front ++ word ∷ later) all
    → Behind Says front word all
Say-behind Says [] word later [] h = elim h [ ]
Say-behind Says [] word later (v ∷ all) h = record { before = []; value = v; rest = all; all_is = refl; before_is = tt; word_is = h.0 }
Say-behind Says (w ∷ front) word later [] h = elim h [ ]
Say-behind Says (w ∷ front) word later (v ∷ all) h = further Says w front word v all h.0 (Say-behind Says front word later all h.1)

pub Say-more : {A : Type 0} (Says : List ℕ → A → Type 0) (front : List (List ℕ)) (word : List ℕ) (values : List A) (v : A) → Say Says front values → Says word v
    → Say Says (front ++ word ∷ []) (values ++ v ∷ [])
Say-more Says [] word [] v h k = (k, tt)
Say-more Says [] word (d ∷ values) v h k = elim h [ ]
Say-more Says (w ∷ front) word [] v h k = elim h [ ]
Say-more Says (w ∷ front) word (d ∷ values) v h k = (h.0, Say-more Says front word values v h.1 k)

-- where each word says one value at most, so do words
pub Say-one : {A : Type 0} (Says : List ℕ → A → Type 0) → ((word : List ℕ) (v w : A) → Says word v → Says word w → w ≡ v)
    → (words : List (List ℕ)) (a b : List A) → Say Says words a → Say Says words b → b ≡ a
Say-one Says one [] [] [] h k = refl
Say-one Says one [] (v ∷ a) b h k = elim h [ ]
Say-one Says one [] [] (w ∷ b) h k = elim k [ ]
Say-one Says one (word ∷ words) [] b h k = elim h [ ]
Say-one Says one (word ∷ words) (v ∷ a) [] h k = elim k [ ]
Say-one {A} Says one (word ∷ words) (v ∷ a) (w ∷ b) h k = ap₂ (λ (x : A) (l : List A). x ∷ l) (one word v w h.0 k.0) (Say-one Says one words a b h.1 k.1)

pub length-Say : {A : Type 0} (Says : List ℕ → A → Type 0) (words : List (List ℕ)) (values : List A) → Say Says words values → length values ≡ length words
length-Say Says [] [] h = refl
length-Say Says [] (v ∷ values) h = elim h [ ]
length-Say Says (word ∷ words) [] h = elim h [ ]
length-Say Says (word ∷ words) (v ∷ values) h = ap (λ (n : ℕ). suc n) (length-Say Says words values h.1)
