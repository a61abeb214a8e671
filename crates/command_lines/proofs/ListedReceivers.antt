-- Words for receivers, one after another.
use Rattle.std.proofs.Common.{◌≡◌, ℕ, zero, suc, ◌+◌, ◌<◌, ◌≤◌, false, List, [], ◌∷◌, ◌++◌, length, length-append, take, drop, get_or, refl, inl, inr, sym, ◌∙◌, ap, subst, arith}
use Rattle.std.proofs.lemmas.Bool.{cases_lt}
use Rattle.std.proofs.lemmas.List.{length-map, take_all}
use Rattle.std.specs.Prelude.{String, string_bytes, IsTrue}
use Rattle.std.specs.declared.alloc.Global.{Global}
use Rattle.command_lines.specs.Commands.{AreReceiverWords, IsReceiverWord, Say, texts}
use Rattle.command_lines.proofs.Saying.{Say-behind, length-Say}

-- the words before one, it, and those behind it
pub texts-cut : (words : List (String Global)) (i : ℕ) (d : String Global) → i < length words
    → texts words ≡ take i (texts words) ++ string_bytes (get_or words i d) ∷ drop (suc i) (texts words)
texts-cut [] i d h = absurd (omega (arith, h))
texts-cut (w ∷ words) zero d h = refl
texts-cut (w ∷ words) (suc i) d h = ap (λ (ws : List (List ℕ)). string_bytes w ∷ ws) (texts-cut words i d (omega (arith, h)))

-- one word more
pub texts-take : (words : List (String Global)) (i : ℕ) (d : String Global) → i < length words
    → take (suc i) (texts words) ≡ take i (texts words) ++ string_bytes (get_or words i d) ∷ []
texts-take [] i d h = absurd (omega (arith, h))
texts-take (w ∷ words) zero d h = refl
texts-take (w ∷ words) (suc i) d h = ap (λ (ws : List (List ℕ)). string_bytes w ∷ ws) (texts-take words i d (omega (arith, h)))

-- the words of a list behind its first, one by one
pub texts-at : (words rest : List (String Global)) (first item : String Global) (k : ℕ) → words ≡ first ∷ rest → k < length rest → item ≡ get_or rest k item
    → (texts words ≡ take (k + 1) (texts words) ++ string_bytes item ∷ drop (k + 2) (texts words))
    × (take (k + 1 + 1) (texts words) ≡ take (k + 1) (texts words) ++ string_bytes item ∷ [])
texts-at words rest first item k e lt is =
    let one : k + 1 ≡ suc k = omega arith in
    let two : k + 2 ≡ suc (suc k) = omega arith in
    let more : suc k + 1 ≡ suc (suc k) = omega arith in
    let size : suc k < length words = omega (arith, ap length e, lt) in
    let at : get_or words (suc k) item ≡ item = ap (λ (ws : List (String Global)). get_or ws (suc k) item) e ∙ sym is in
    let cut = texts-cut words (suc k) item size in
    let grown = texts-take words (suc k) item size in
    rw (one, two, more) (
      cut ∙ ap (λ (w : String Global). take (suc k) (texts words) ++ string_bytes w ∷ drop (suc (suc k)) (texts words)) at,
      grown ∙ ap (λ (w : String Global). take (suc k) (texts words) ++ string_bytes w ∷ []) at,
    )

-- all of them
pub texts-all : (words rest : List (String Global)) (first : String Global) (k : ℕ) → words ≡ first ∷ rest → length rest ≤ k → take (k + 1) (texts words) ≡ texts words
texts-all words rest first k e le =
    take_all (k + 1) (texts words) (omega (arith, ap length e, le, length-map words (λ (w : String Global). string_bytes w)))

pub not_full : (n most : ℕ) → n ≤ most → (n ≡ most → IsTrue false) → n < most
not_full n most few h = elim (cases_lt n most) [
  | inl lt ↦ lt
  | inr le ↦ absurd (no (h (omega (arith, few, le))))
]
  where
    no : IsTrue false → ⊥
    no t = cc

-- ---- when words are refused

pub refuse_unread : (words front later : List (List ℕ)) (word : List ℕ) → words ≡ front ++ word ∷ later
    → ((capcodes : List ℕ) → IsReceiverWord word capcodes → ⊥) → (all : List (List ℕ)) → AreReceiverWords words all → ⊥
refuse_unread words front later word e none all k =
    let b = Say-behind IsReceiverWord front word later all (subst (λ (ws : List (List ℕ)). Say IsReceiverWord ws all) e k.say) in
    none b.value b.word_is

pub refuse_full : (words front later : List (List ℕ)) (word : List ℕ) → words ≡ front ++ word ∷ later → length front ≡ 64 → (all : List (List ℕ)) → AreReceiverWords words all → ⊥
refuse_full words front later word e many all k =
    omega (arith, length-Say IsReceiverWord words all k.say, ap length e, length-append front (word ∷ later), many, k.few)
