-- What words say: `kind_of` is the relation.
use Rattle.std.proofs.Common.{◌≡◌, ℕ, zero, suc, ◌+◌, ◌-◌, ◌*◌, ◌/◌, ◌%◌, ◌^◌, ◌<◌, ◌≤◌, ◌↔◌, Bool, arith, refl, ◌∙◌, ap, ap₂, inl, inr, Option, Some, None, option_map}
use Rattle.std.proofs.lemmas.Bool.{cases_lt, lt-ltb, le-ltb}
use Rattle.bch31.specs.Codeword.{front_of}
use Rattle.bch31.specs.Fix.{IsFix, fix_of}
use Rattle.bch31.proofs.Apart.{codeword-lt}
use Rattle.bch31.proofs.Fixes.{fix_of-some, fix_of-is}
use Rattle.codeword.specs.declared.functions.Function.{Function}
use Rattle.codeword.specs.declared.functions.Function.TheVariants.{Numeric, Tone1, Tone2, Alpha}
use Rattle.codeword.specs.declared.kinds.WordKind.{WordKind}
use Rattle.codeword.specs.declared.kinds.WordKind.TheVariants.{Address, Message}
use Rattle.codeword.specs.Capcodes.{high_of}
use Rattle.codeword.specs.Functions.{number_of}
use Rattle.codeword.specs.Words.{address_of, message_of}
use Rattle.codeword.specs.Kinds.{IsSmall, front_for, IsKind, function_of, kind_with, kind_from, kind_of, KindOfIsKind, AddressesAreRead, MessagesAreRead}
use Rattle.codeword.proofs.Carried.{front_of-address_of, front_of-message_of}
use Rattle.codeword.proofs.Fields.{number_of-lt}

-- the function with the number of a function
function_of-number_of : (f : Function) → function_of (number_of f) ≡ f
function_of-number_of Numeric = refl
function_of-number_of Tone1 = refl
function_of-number_of Tone2 = refl
function_of-number_of Alpha = refl

-- the number of the function with a number
number_of-function_of : (n : ℕ) → n < 4 → number_of (function_of n) ≡ n
number_of-function_of zero h = refl
number_of-function_of (suc zero) h = refl
number_of-function_of (suc (suc zero)) h = refl
number_of-function_of (suc (suc (suc zero))) h = refl
number_of-function_of (suc (suc (suc (suc n)))) h = absurd (omega arith)

-- the kind of a front where bit 1 is 0
kind_from-low : (front : ℕ) → front < 2 ^ 20 → kind_from front ≡ Address (front / 2 ^ 2) (function_of (front % 2 ^ 2))
kind_from-low front h = ap (λ (b : Bool). kind_with b front) (lt-ltb front (2 ^ 20) h)

-- the kind of a front where bit 1 is 1
kind_from-high : (front : ℕ) → 2 ^ 20 ≤ front → kind_from front ≡ Message (front - 2 ^ 20)
kind_from-high front h = ap (λ (b : Bool). kind_with b front) (le-ltb front (2 ^ 20) h)

-- the kind of the front for a kind
kind_from-front_for : (kind : WordKind) → IsSmall kind → kind_from (front_for kind) ≡ kind
kind_from-front_for (Address high f) h =
    let n : number_of f < 4 = number_of-lt f in
    let half : (high * 2 ^ 2 + number_of f) / 2 ^ 2 ≡ high = omega arith in
    let low : (high * 2 ^ 2 + number_of f) % 2 ^ 2 ≡ number_of f = omega arith in
    kind_from-low (high * 2 ^ 2 + number_of f) (omega arith) ∙ ap₂ Address half (ap function_of low ∙ function_of-number_of f)
kind_from-front_for (Message group) h =
    let rest : 2 ^ 20 + group - 2 ^ 20 ≡ group = omega arith in
    kind_from-high (2 ^ 20 + group) (omega arith) ∙ ap (λ (g : ℕ). Message g) rest

-- a front is that of its kind, and its kind is small
record IsRead (front : ℕ) (kind : WordKind) : Type 0 where
  pub read : front ≡ front_for kind
  pub small : IsSmall kind

-- each front below 2 ^ 21
front_is_read : (front : ℕ) → front < 2 ^ 21 → IsRead front (kind_from front)
front_is_read front h = elim (cases_lt front (2 ^ 20)) [
  | inl low ↦
      let n = number_of-function_of (front % 2 ^ 2) (omega arith) in
      let read : IsRead front (Address (front / 2 ^ 2) (function_of (front % 2 ^ 2))) = record { read = omega arith; small = omega arith } in
      rw (kind_from-low front low) read
  | inr high ↦
      let read : IsRead front (Message (front - 2 ^ 20)) = record { read = omega arith; small = omega arith } in
      rw (kind_from-high front high) read
]

-- the kind of a front is small
pub kind_from-small : (front : ℕ) → front < 2 ^ 21 → IsSmall (kind_from front)
kind_from-small front h = (front_is_read front h).small

-- the kind of the codeword within two bits is answered
kind_of-some : (w : ℕ) (kind : WordKind) → w < 2 ^ 32 → IsKind w kind → kind_of w ≡ Some kind
unfolding kind_of
kind_of-some w kind h k =
    ap (option_map (λ (v : ℕ). kind_from (front_of v))) (fix_of-some w k.codeword h k.fix)
    ∙ ap (λ (front : ℕ). Some (kind_from front)) k.front
    ∙ ap (λ (x : WordKind). Some x) (kind_from-front_for kind k.small)

-- the kind of a codeword within two bits
kind_of_fix : (w v : ℕ) → IsFix w v → IsKind w (kind_from (front_of v))
kind_of_fix w v f =
    let l = codeword-lt f.codeword in
    let read = front_is_read (front_of v) (omega arith) in
    record { codeword = v; fix = f; front = read.read; small = read.small }

-- what is answered is the kind of the codeword within two bits
kind_from_fix : (w : ℕ) (fix : Option ℕ) (kind : WordKind) → w < 2 ^ 32 → fix_of w ≡ fix → option_map (λ (v : ℕ). kind_from (front_of v)) fix ≡ Some kind → IsKind w kind
kind_from_fix w None kind h is e = cc
kind_from_fix w (Some v) kind h is e =
    let same : kind_from (front_of v) ≡ kind = cc in
    rw (← same) (kind_of_fix w v (fix_of-is w v h is))

-- the same of `kind_of`
kind_of-is : (w : ℕ) (kind : WordKind) → w < 2 ^ 32 → kind_of w ≡ Some kind → IsKind w kind
unfolding kind_of
kind_of-is w kind h e = kind_from_fix w (fix_of w) kind h refl e

-- `kind_of` is the relation
pub kinds : KindOfIsKind
kinds w kind h = (kind_of-is w kind h, kind_of-some w kind h)

-- an answer that is `kind_of`, by its kind
pub answer_kind : (w : ℕ) (answer : Option WordKind) → w < 2 ^ 32 → answer ≡ kind_of w → (kind : WordKind) → (answer ≡ Some kind) ↔ IsKind w kind
answer_kind w answer h is kind = rw is (kinds w kind h)

-- the answer to a word with a codeword within two bits
pub kind_of-fix : (w v : ℕ) (kind : WordKind) → Some v ≡ fix_of w → kind ≡ kind_from (front_of v) → Some kind ≡ kind_of w
unfolding kind_of
kind_of-fix w v kind is same = ap (λ (x : WordKind). Some x) same ∙ ap (option_map (λ (x : ℕ). kind_from (front_of x))) is

-- the answer to a word with none
pub kind_of-none : (w : ℕ) → None ≡ fix_of w → None ≡ kind_of w
unfolding kind_of
kind_of-none w is = ap (option_map (λ (x : ℕ). kind_from (front_of x))) is

-- an address word with at most two wrong bits
pub addresses_are_read : AddressesAreRead
addresses_are_read w c f h small fix = kind_of-some w (Address (high_of c) f) h (record {
  codeword = address_of c f;
  fix = fix;
  front = front_of-address_of c f;
  small = omega arith;
})

-- a message word with at most two wrong bits
pub messages_are_read : MessagesAreRead
messages_are_read w group h small fix = kind_of-some w (Message group) h (record {
  codeword = message_of group;
  fix = fix;
  front = front_of-message_of group;
  small = small;
})
