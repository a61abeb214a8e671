-- Samples from one edge to the next.
use Rattle.std.proofs.Common.{◌≡◌, ℕ, zero, suc, ◌+◌, ◌-◌, ◌*◌, ◌/◌, ◌%◌, ◌^◌, ◌<◌, ◌≤◌, ◌==◌, Bool, true, false, List, [], ◌∷◌, ◌++◌, append_assoc, append-nil, drop, replicate, take, bit_xor, refl, sym, ◌∙◌, ap, ap₂, subst, arith}
use Rattle.std.proofs.Math.Nat.{div-div-eq-div-mul, div-eq_of_lt, mul-add-div_right, mul-add-mod_self_right, mod-eq_of_lt}
use Rattle.std.proofs.Math.Pow.{pow_pos}
use Rattle.std.proofs.lemmas.List.{drop_all, take-append-drop}
use Rattle.std.proofs.lemmas.Nat.{one_shl}
use Rattle.std.specs.Bool.{beq}
use Rattle.std.specs.Prelude.{not}
use Rattle.bits.specs.Bits.{bit_value, bits_of, xor}
use Rattle.bits.proofs.Bytes.{bits_of-add}
use Rattle.bits.proofs.Distances.{bit_value-xor}
use Rattle.bits.proofs.Lengths.{length-bits_of}
use Rattle.bits.proofs.Numbers.{bit_value_back}
use Rattle.bits.proofs.Xors.{xor_half, xor_low}
use Rattle.wires.proofs.Pieces.{first_bit, last_bits, low_bits}
use Rattle.sampler.specs.Edges.{changes}
use Rattle.sampler.specs.Stacked.{bits_after}
use Rattle.sampler.proofs.Registers.{pow_below, zeros}
use Rattle.sampler.proofs.Steps.{counts_anew}

-- the last element, where one stands in front
abbrev last_of : Bool → List Bool → Bool
last_of v [] = v
last_of v (b ∷ bs) = last_of b bs

last-snoc : (v : Bool) (bs : List Bool) (b : Bool) → last_of v (bs ++ b ∷ []) ≡ b
last-snoc v [] b = refl
last-snoc v (x ∷ bs) b = last-snoc x bs b

changes-snoc : (v : Bool) (bs : List Bool) (b : Bool) → changes v (bs ++ b ∷ []) ≡ changes v bs ++ xor (last_of v bs) b ∷ []
changes-snoc v [] b = refl
changes-snoc v (x ∷ bs) b = ap (λ (l : List Bool). xor v x ∷ l) (changes-snoc x bs b)

last-bits : (k y : ℕ) → last_of (y / 2 ^ k % 2 == 1) (bits_of k y) ≡ (y % 2 == 1)
unfolding bits_of
last-bits zero y = let e : y / 2 ^ 0 ≡ y = omega arith in rw e refl
last-bits (suc k) y = last-snoc (y / 2 ^ suc k % 2 == 1) (bits_of k (y / 2)) (y % 2 == 1)

xor-turned : (a b : Bool) → xor a b ≡ xor b a
xor-turned true true = refl
xor-turned true false = refl
xor-turned false true = refl
xor-turned false false = refl

xor-same : (v : Bool) → xor v v ≡ false
xor-same true = refl
xor-same false = refl

equal_to : (v b : Bool) → xor v b ≡ false → b ≡ v
equal_to true true h = refl
equal_to true false h = cc
equal_to false true h = cc
equal_to false false h = refl

other_than : (v b : Bool) → xor v b ≡ true → b ≡ not v
other_than true true h = cc
other_than true false h = refl
other_than false true h = refl
other_than false false h = cc

not_equal : (v : Bool) → beq (not v) v ≡ false
not_equal true = refl
not_equal false = refl

lowest_xor : (a b : ℕ) → (bit_xor a b % 2 == 1) ≡ xor (b % 2 == 1) (a % 2 == 1)
lowest_xor a b =
    ap (λ (n : ℕ). n == 1) (xor_low a b ∙ sym (bit_value-xor (a % 2) (b % 2) (omega arith) (omega arith)))
    ∙ bit_value_back (xor (a % 2 == 1) (b % 2 == 1)) ∙ xor-turned (a % 2 == 1) (b % 2 == 1)

-- a number and its half tell where its bits change
changed_bits : (n x : ℕ) → bits_of n (bit_xor x (x / 2)) ≡ changes (x / 2 ^ n % 2 == 1) (bits_of n x)
unfolding bits_of
changed_bits zero x = refl
changed_bits (suc n) x =
    let d : x / 2 ^ suc n ≡ x / 2 / 2 ^ n = (let s : 2 ^ suc n ≡ 2 * 2 ^ n = omega arith in ap (λ (k : ℕ). x / k) s ∙ sym (div-div-eq-div-mul x 2 (2 ^ n))) in
    let v : Bool = x / 2 / 2 ^ n % 2 == 1 in
    ap₂ (λ (m : ℕ) (b : Bool). bits_of n m ++ b ∷ []) (xor_half x (x / 2)) (lowest_xor x (x / 2))
    ∙ (ap₂ (λ (l : List Bool) (b : Bool). l ++ xor b (x % 2 == 1) ∷ []) (changed_bits n (x / 2)) (sym (last-bits n (x / 2)))
    ∙ (sym (changes-snoc v (bits_of n (x / 2)) (x % 2 == 1))
    ∙ ap (λ (k : ℕ). changes (k % 2 == 1) (bits_of n (x / 2) ++ (x % 2 == 1) ∷ [])) (sym d)))

-- the edges of samples behind a last one, in registers
pub edges_of : (last : Bool) (n samples from : ℕ) → n ≤ 32 → samples < 2 ^ n → from ≡ bit_value last
    → bits_of n (bit_xor (from * 2 ^ n % 18446744073709551616 + samples) ((from * 2 ^ n % 18446744073709551616 + samples) / 2) % (1 * 2 ^ n % 18446744073709551616)) ≡ changes last (bits_of n samples)
edges_of last n samples from few small is =
    let one : 1 * 2 ^ n % 18446744073709551616 ≡ 2 ^ n = one_shl n 64 (omega (arith, few)) in
    let high : from * 2 ^ n % 18446744073709551616 ≡ bit_value last * 2 ^ n = ap (λ (k : ℕ). k * 2 ^ n % 18446744073709551616) is ∙ shifted last one in
    let x : ℕ = bit_value last * 2 ^ n + samples in
    let p = pow_pos n in
    let d : x / 2 ^ n ≡ bit_value last = mul-add-div_right p (bit_value last) samples ∙ (ap (λ (k : ℕ). bit_value last + k) (div-eq_of_lt small) ∙ omega arith) in
    let m : x % 2 ^ n ≡ samples = mul-add-mod_self_right (bit_value last) (2 ^ n) samples ∙ mod-eq_of_lt small in
    ap₂ (λ (a b : ℕ). bits_of n (bit_xor (a + samples) ((a + samples) / 2) % b)) high one
    ∙ (low_bits n (bit_xor x (x / 2)) ∙ (changed_bits n x
    ∙ ap₂ (λ (b : Bool) (l : List Bool). changes b l) (ap (λ (k : ℕ). k % 2 == 1) d ∙ lowest last) (sym (low_bits n x) ∙ ap (bits_of n) m)))
  where
    lowest : (b : Bool) → (bit_value b % 2 == 1) ≡ b
    lowest true = refl
    lowest false = refl

    shifted : (b : Bool) → 1 * 2 ^ n % 18446744073709551616 ≡ 2 ^ n → bit_value b * 2 ^ n % 18446744073709551616 ≡ bit_value b * 2 ^ n
    shifted true one = one ∙ omega arith
    shifted false one = (let z : 0 * 2 ^ n ≡ 0 = omega arith in rw z refl)

-- before the first edge all samples are equal
same_front : (k : ℕ) (v : Bool) (xs ys : List Bool) → changes v xs ≡ replicate k false ++ ys → (xs ≡ replicate k v ++ drop k xs) × (changes v (drop k xs) ≡ ys)
same_front zero v xs ys h = (refl, h)
same_front (suc k) v [] ys h = cc
same_front (suc k) v (x ∷ xs) ys h =
    let first : xor v x ≡ false = cc in
    let e : x ≡ v = equal_to v x first in
    let others : changes x xs ≡ replicate k false ++ ys = cc in
    let rest = same_front k v xs ys (subst (λ (b : Bool). changes b xs ≡ replicate k false ++ ys) e others) in
    (ap₂ (λ (b : Bool) (l : List Bool). b ∷ l) e rest.0, rest.1)

-- these are the edges of the samples that are left, behind a last one
pub record Marks (last : Bool) (left samples edges : ℕ) : Type 0 where
  pub marks : bits_of left edges ≡ changes last (bits_of left samples)
  pub small : edges < 2 ^ left

-- the samples up to the first edge, and those behind it
pub record UpToEdge (last : Bool) (left samples edges behind : ℕ) : Type 0 where
  pub within : behind < left
  pub equal : bits_of left samples ≡ replicate (left - 1 - behind) last ++ bits_of (behind + 1) samples
  pub turns : bits_of (behind + 1) samples ≡ not last ∷ bits_of behind samples
  pub marks : Marks (not last) (behind + 1) samples (edges - 2 ^ behind)

-- where the first edge is at place h
edge_at : (v : Bool) (k h samples edges : ℕ) → Marks v (k + suc h) samples edges → 2 ^ h ≤ edges → edges < 2 * 2 ^ h
    → (bits_of (k + suc h) samples ≡ replicate k v ++ bits_of (suc h) samples) × (bits_of (suc h) samples ≡ not v ∷ bits_of h samples) × (bits_of (suc h) (edges - 2 ^ h) ≡ changes (not v) (bits_of (suc h) samples))
edge_at v k h samples edges marked low high =
    let p = pow_pos h in
    let s : 2 ^ suc h ≡ 2 * 2 ^ h = omega arith in
    let r : ℕ = edges - 2 ^ h in
    let whole : edges ≡ 1 * 2 ^ h + r = omega (arith, low) in
    let r-small : r < 2 ^ h = omega (arith, low, high) in
    let none : edges / 2 ^ suc h ≡ 0 = div-eq_of_lt (omega (arith, s, high)) in
    let d : edges / 2 ^ h ≡ 1 = ap (λ (n : ℕ). n / 2 ^ h) whole ∙ (mul-add-div_right p 1 r ∙ ap (λ (n : ℕ). 1 + n) (div-eq_of_lt r-small)) in
    let m : edges % 2 ^ h ≡ r = ap (λ (n : ℕ). n % 2 ^ h) whole ∙ (mul-add-mod_self_right 1 (2 ^ h) r ∙ mod-eq_of_lt r-small) in
    let first : bits_of (suc h) edges ≡ true ∷ bits_of h edges = first_bit h edges ∙ ap (λ (n : ℕ). (n % 2 == 1) ∷ bits_of h edges) d in
    let marks : bits_of (k + suc h) edges ≡ replicate k false ++ true ∷ bits_of h edges =
    bits_of-add k (suc h) edges ∙ ap₂ (λ (xs ys : List Bool). xs ++ ys) (ap (bits_of k) none ∙ zeros k) first in
    let front = same_front k v (bits_of (k + suc h) samples) (true ∷ bits_of h edges) (sym marked.marks ∙ marks) in
    let behind : bits_of (suc h) samples ≡ drop k (bits_of (k + suc h) samples) = last_bits k (suc h) samples in
    let sample : Bool = samples / 2 ^ h % 2 == 1 in
    let begins : bits_of (suc h) samples ≡ sample ∷ bits_of h samples = first_bit h samples in
    let changed : xor v sample ∷ changes sample (bits_of h samples) ≡ true ∷ bits_of h edges = ap (changes v) (sym begins ∙ behind) ∙ front.1 in
    let here : xor v sample ≡ true = cc in
    let other : sample ≡ not v = other_than v sample here in
    let later : changes sample (bits_of h samples) ≡ bits_of h edges = cc in
    let turns : bits_of (suc h) samples ≡ not v ∷ bits_of h samples = begins ∙ ap (λ (b : Bool). b ∷ bits_of h samples) other in
    let z : r / 2 ^ h ≡ 0 = div-eq_of_lt r-small in
    let cleared : bits_of (suc h) r ≡ false ∷ bits_of h edges = first_bit h r ∙ ap₂ (λ (n : ℕ) (l : List Bool). (n % 2 == 1) ∷ l) z (ap (bits_of h) (sym m) ∙ low_bits h edges) in (
      front.0 ∙ ap (λ (l : List Bool). replicate k v ++ l) (sym behind),
      turns,
      cleared ∙ (ap₂ (λ (b : Bool) (l : List Bool). b ∷ l) (sym (xor-same (not v))) (sym later ∙ ap (λ (b : Bool). changes b (bits_of h samples)) other) ∙ sym (ap (changes (not v)) turns)),
    )

pub to_edge : (v : Bool) (left h samples edges : ℕ) → Marks v left samples edges → 2 ^ h ≤ edges → edges < 2 * 2 ^ h → UpToEdge v left samples edges h
to_edge v left h samples edges marked low high =
    let within : h < left = pow_below h left (omega (arith, low, marked.small)) in
    let k : ℕ = left - 1 - h in
    let e : k + suc h ≡ left = omega (arith, within) in
    let o : suc h ≡ h + 1 = omega arith in
    let at = edge_at v k h samples edges (subst (λ (n : ℕ). Marks v n samples edges) (sym e) marked) low high in
    let s : 2 ^ suc h ≡ 2 * 2 ^ h = omega arith in
    record {
      within = within;
      equal = subst (λ (n : ℕ). bits_of n samples ≡ replicate k v ++ bits_of (h + 1) samples) e (subst (λ (n : ℕ). bits_of (k + suc h) samples ≡ replicate k v ++ bits_of n samples) o at.0);
      turns = subst (λ (n : ℕ). bits_of n samples ≡ not v ∷ bits_of h samples) o at.1;
      marks = subst (λ (n : ℕ). Marks (not v) n samples (edges - 2 ^ h)) o (record { marks = at.2; small = omega (arith, low, high, s) });
    }

-- behind the last edge all samples are equal
pub no_edge : (v : Bool) (left samples edges : ℕ) → Marks v left samples edges → edges ≡ 0 → bits_of left samples ≡ replicate left v
no_edge v left samples edges marked z =
    let none : changes v (bits_of left samples) ≡ replicate left false ++ [] = sym marked.marks ∙ (ap (bits_of left) z ∙ (zeros left ∙ sym (append-nil (replicate left false)))) in
    let front = same_front left v (bits_of left samples) [] none in
    let l = length-bits_of left samples in
    front.0 ∙ (ap (λ (xs : List Bool). replicate left v ++ xs) (drop_all left (bits_of left samples) (omega (arith, l))) ∙ append-nil (replicate left v))

-- samples are counted up to an edge, and the count begins again there
pub turned : (v v1 v2 : Bool) (c c1 c2 k : ℕ) (all : List Bool → List Bool) (bits bits1 xs ys zs : List Bool) → ((rest : List Bool) → all rest ≡ bits ++ bits_after v c (xs ++ rest))
    → xs ≡ replicate k v ++ ys → ys ≡ not v ∷ zs → ((rest : List Bool) → bits ++ bits_after v c (replicate k v ++ rest) ≡ bits1 ++ bits_after v1 c1 rest) → v1 ≡ v → v2 ≡ not v1 → c2 ≡ 0
    → (rest : List Bool) → all rest ≡ bits1 ++ bits_after v2 c2 (ys ++ rest)
turned v v1 v2 c c1 c2 k all bits bits1 xs ys zs before equal turns counts a b z rest =
    let anew : bits_after v c1 (not v ∷ (zs ++ rest)) ≡ bits_after (not v) 0 (not v ∷ (zs ++ rest)) = counts_anew v (not v) c1 1 (zs ++ rest) (omega arith) (not_equal v) in
    let value : v2 ≡ not v = b ∙ ap not a in
    before rest ∙ (ap (λ (l : List Bool). bits ++ bits_after v c (l ++ rest)) equal ∙ (ap (λ (l : List Bool). bits ++ bits_after v c l) (append_assoc (replicate k v) ys rest)
    ∙ (counts (ys ++ rest) ∙ ap (λ (l : List Bool). bits1 ++ l) (rw (a, value, z, turns) anew))))

-- the rest of the samples is counted
pub all_counted : (v v1 : Bool) (c c1 k : ℕ) (all : List Bool → List Bool) (bits bits1 xs : List Bool) → ((rest : List Bool) → all rest ≡ bits ++ bits_after v c (xs ++ rest))
    → xs ≡ replicate k v → ((rest : List Bool) → bits ++ bits_after v c (replicate k v ++ rest) ≡ bits1 ++ bits_after v1 c1 rest) → (rest : List Bool) → all rest ≡ bits1 ++ bits_after v1 c1 rest
all_counted v v1 c c1 k all bits bits1 xs before equal counts rest = before rest ∙ (ap (λ (l : List Bool). bits ++ bits_after v c (l ++ rest)) equal ∙ counts rest)

-- the first samples that are ready are counted, and the others stay
pub first_counted : (v v1 : Bool) (c c1 n samples : ℕ) (ready ready1 bits rest : List Bool) → bits_of n samples ≡ take n ready → ready1 ≡ drop n ready
    → ((rest : List Bool) → bits_after v c (bits_of n samples ++ rest) ≡ bits ++ bits_after v1 c1 rest) → bits_after v c (ready ++ rest) ≡ bits ++ bits_after v1 c1 (ready1 ++ rest)
first_counted v v1 c c1 n samples ready ready1 bits rest first left counts =
    let whole : ready ≡ bits_of n samples ++ ready1 = sym (take-append-drop n ready) ∙ ap₂ (λ (xs ys : List Bool). xs ++ ys) (sym first) (sym left) in
    ap (λ (l : List Bool). bits_after v c (l ++ rest)) whole ∙ (ap (bits_after v c) (append_assoc (bits_of n samples) ready1 rest) ∙ counts (ready1 ++ rest))
