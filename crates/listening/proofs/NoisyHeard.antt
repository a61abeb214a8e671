-- Listening through a noise, piece by piece.
use Rattle.std.proofs.Common.{◌≡◌, ℕ, ◌+◌, ◌≤◌, ◌<◌, ◌^◌, Bool, true, false, List, [], ◌∷◌, ◌++◌, length, length-append, length-take, Result, Ok, Err, IsTrue, refl, sym, ◌∙◌, ap, ap₂, subst, arith, append_assoc, append-nil, zero, suc, ◌/◌, ◌%◌, ◌==◌, inl, inr, bit_xor, take, drop}
use Rattle.std.specs.Prelude.{replicate}
use Rattle.std.proofs.lemmas.List.{take-append-drop}
use Rattle.bits.proofs.Lengths.{length-bits_of}
use Rattle.bits.proofs.Numbers.{below_two}
use Rattle.bits.proofs.Xors.{xor_half, xor_low}
use Rattle.bits.specs.Bits.{bits_of, xor}
use Rattle.wires.specs.declared.Failed.{Failed}
use Rattle.wires.specs.Causes.{Rose}
use Rattle.wires.specs.Left.{Left, TakesPiece, Took}
use Rattle.wires.specs.Stacked.{noisy_bits}
use Rattle.wires.specs.Written.{Written}
use Rattle.wires.proofs.Left.{Took-nothing, Took-then}
use Rattle.wires.proofs.Written.{still}
use Rattle.listening.specs.Listening.{FailedAfter, Prints}
use Rattle.listening.specs.Noise.{AreZero, HeardThrough, HeardUnprinted, ListeningThrough, NoiseFailed, NoiseGives, NoiseSoFar}
use Rattle.endings.specs.Wrote.{Wrote, WroteFront}
use Rattle.std.proofs.Math.Pow.{pow_mono}
use Rattle.std.proofs.lemmas.Nat.{xor_lt}
use Rattle.listening.proofs.Listens.{Took-empty, some_long, Wrote-nothing, Wrote-then, WroteFront-then}

-- some bits more, and as many of the noise
noisy-more : (bits noise more flips : List Bool) → length noise ≡ length bits → noisy_bits (bits ++ more) (noise ++ flips) ≡ noisy_bits bits noise ++ noisy_bits more flips
noisy-more [] [] more flips e = refl
noisy-more [] (m ∷ noise) more flips e = absurd (omega (arith, e))
noisy-more (c ∷ bits) [] more flips e = absurd (omega (arith, e))
noisy-more (c ∷ bits) (m ∷ noise) more flips e = ap (λ (xs : List Bool). xor c m ∷ xs) (noisy-more bits noise more flips (omega (arith, e)))

xor-none : (b : Bool) → xor b false ≡ b
xor-none true = refl
xor-none false = refl

-- no noise, and one of zeros
noisy-none : (bits : List Bool) → noisy_bits bits [] ≡ bits
noisy-none [] = refl
noisy-none (b ∷ bits) = refl

noisy-zeros : (bits : List Bool) (n : ℕ) → noisy_bits bits (replicate n false) ≡ bits
noisy-zeros [] n = refl
noisy-zeros (b ∷ bits) zero = refl
noisy-zeros (b ∷ bits) (suc n) = ap₂ (λ (x : Bool) (xs : List Bool). x ∷ xs) (xor-none b) (noisy-zeros bits n)

-- some bits more behind the end of the noise
noisy-behind : (bits noise more : List Bool) → length noise ≤ length bits → noisy_bits (bits ++ more) noise ≡ noisy_bits bits noise ++ more
noisy-behind [] [] more h = noisy-none more
noisy-behind [] (m ∷ noise) more h = absurd (omega (arith, h))
noisy-behind (c ∷ bits) [] more h = refl
noisy-behind (c ∷ bits) (m ∷ noise) more h = ap (λ (xs : List Bool). xor c m ∷ xs) (noisy-behind bits noise more (omega (arith, h)))

noisy-past : (bits noise more flips : List Bool) → length noise ≤ length bits → AreZero flips → noisy_bits (bits ++ more) noise ≡ noisy_bits bits noise ++ noisy_bits more flips
noisy-past bits noise more flips h zeros =
    noisy-behind bits noise more h
    ∙ ap (λ (xs : List Bool). noisy_bits bits noise ++ xs) (sym (ap (noisy_bits more) zeros ∙ noisy-zeros more (length flips)))

-- a noise that goes on behind the bits
noisy-longer : (bits noise more : List Bool) → length bits ≤ length noise → noisy_bits bits (noise ++ more) ≡ noisy_bits bits noise
noisy-longer [] noise more h = refl
noisy-longer (b ∷ bits) [] more h = absurd (omega (arith, h))
noisy-longer (b ∷ bits) (n ∷ noise) more h = ap (λ (xs : List Bool). xor b n ∷ xs) (noisy-longer bits noise more (omega (arith, h)))

pub length-noisy_bits : (bits noise : List Bool) → length (noisy_bits bits noise) ≡ length bits
length-noisy_bits [] noise = refl
length-noisy_bits (b ∷ bits) [] = refl
length-noisy_bits (b ∷ bits) (n ∷ noise) = omega (arith, length-noisy_bits bits noise)

-- the noise after its next bits
abbrev pub noise_after : Bool → Bool → List Bool → List Bool → List Bool
noise_after false false noise flips = noise ++ flips
noise_after false true noise flips = noise
noise_after true ended noise flips = noise

pub noisy-after : (before after : Bool) (now next : Left Bool) (bits noise more flips : List Bool) → NoiseSoFar before now bits noise → NoiseGives {E = Failed} before after now next (Ok flips)
    → noisy_bits (bits ++ more) (noise_after before after noise flips) ≡ noisy_bits bits noise ++ noisy_bits more flips
noisy-after false false now next bits noise more flips h g = noisy-more bits noise more flips h
noisy-after false true now next bits noise more flips h g = noisy-past bits noise more flips (omega (arith, h)) g.0
noisy-after true true now next bits noise more flips h g = noisy-past bits noise more flips h.0 g.0
noisy-after true false now next bits noise more flips h g = elim g [ ]

pub took_after : (before after : Bool) (old now next : Left Bool) (noise flips : List Bool) → Took old now noise → NoiseGives {E = Failed} before after now next (Ok flips)
    → Took old next (noise_after before after noise flips)
took_after false false old now next noise flips h g = Took-then old now next noise flips h g.0
took_after false true old now next noise flips h g = subst (λ (xs : List Bool). Took old next xs) (append-nil noise) (Took-then old now next noise [] h g.1)
took_after true true old now next noise flips h g = subst (λ (x : Left Bool). Took old x noise) (sym g.1) h
took_after true false old now next noise flips h g = elim g [ ]

pub so_far_after : (before after : Bool) (now next : Left Bool) (bits noise more flips : List Bool) → NoiseSoFar before now bits noise → NoiseGives {E = Failed} before after now next (Ok flips)
    → length flips ≡ length more → 0 < length more → (next.tells ≡ now.tells) → NoiseSoFar after next (bits ++ more) (noise_after before after noise flips)
so_far_after false false now next bits noise more flips h g same some t = omega (arith, length-append noise flips, length-append bits more, h, same)
so_far_after false true now next bits noise more flips h g same some t =
    (omega (arith, length-append bits more, h), λ told. g.2 (subst IsTrue t told), omega (arith, some, length-append bits more))
so_far_after true true now next bits noise more flips h g same some t =
    (omega (arith, length-append bits more, h.0), subst (λ (x : Left Bool). IsTrue x.tells → x.left ≡ []) (sym g.1) h.1, omega (arith, some, length-append bits more))
so_far_after true false now next bits noise more flips h g same some t = elim g [ ]

pub gives_tells : (before after : Bool) (now next : Left Bool) (flips : List Bool) → NoiseGives {E = Failed} before after now next (Ok flips) → next.tells ≡ now.tells
gives_tells false false now next flips g = g.0.tells
gives_tells false true now next flips g = g.1.tells
gives_tells true true now next flips g = ap (λ (x : Left Bool). x.tells) g.1
gives_tells true false now next flips g = elim g [ ]

-- where a bit is heard, the noise was there
pub there_after : (before after : Bool) (old now next : Left Bool) (bits noise flips : List Bool) → Took old now noise → NoiseSoFar before now bits noise
    → (IsTrue old.tells → 0 < length bits → IsTrue old.there) → NoiseGives {E = Failed} before after now next (Ok flips) → IsTrue old.tells → IsTrue old.there
there_after false false old now next bits noise flips h f here g t = h.there t (g.1 (still h.tells t))
there_after false true old now next bits noise flips h f here g t = h.there t (g.3 (still h.tells t))
there_after true true old now next bits noise flips h f here g t = here t f.2
there_after true false old now next bits noise flips h f here g t = elim g [ ]

-- nothing was heard
abbrev pub through_begins : (printed : List Bool → List ℕ) (bits : List Bool) (n : Left Bool) (o : Written ℕ) → printed [] ≡ [] → ListeningThrough printed bits bits false n n o o
through_begins printed bits n o e = record {
  heard = [];
  bits_are = refl;
  noise = [];
  took = Took-nothing n;
  so_far = refl;
  there = λ t some. absurd (omega (arith, some));
  wrote = subst (λ (piece : List ℕ). Wrote o o piece) (sym e) (Wrote-nothing o);
  untouched = λ none. refl;
}

-- some bits more were heard, and what they give was printed
abbrev pub through_goes_on : {T F : Type 0} (printed : List Bool → List ℕ) (bits more left : List Bool) (before after : Bool) (old now next : Left Bool) (o0 o1 o2 : Written ℕ) (flips : List Bool) (x : T)
    → (h : ListeningThrough printed bits (more ++ left) before old now o0 o1) → NoiseGives {E = Failed} before after now next (Ok flips) → length flips ≡ length more → 0 < length more
    → Prints {E = F} printed (noisy_bits h.heard h.noise) (noisy_bits more flips) o1 o2 (Ok x)
    → ListeningThrough printed bits left after old next o0 o2
through_goes_on printed bits more left before after old now next o0 o1 o2 flips x h g same some p = record {
  heard = h.heard ++ more;
  bits_are = h.bits_are ∙ sym (append_assoc h.heard more left);
  noise = noise_after before after h.noise flips;
  took = took_after before after old now next h.noise flips h.took g;
  there = λ t any. there_after before after old now next h.heard h.noise flips h.took h.so_far h.there g t;
  so_far = so_far_after before after now next h.heard h.noise more flips h.so_far g same some (gives_tells before after now next flips g);
  wrote = subst (λ (piece : List ℕ). Wrote o0 o2 piece) (sym (ap printed (noisy-after before after now next h.heard h.noise more flips h.so_far g) ∙ p.more))
      (Wrote-then o0 o1 o2 (printed (noisy_bits h.heard h.noise)) p.piece x h.wrote p.put);
  untouched = λ none. absurd (omega (arith, some, length-append h.heard more, ap length none));
}

-- the bits of the noise so far are its first, and all that count
noise_of_all : (ended : Bool) (now : Left Bool) (bits noise : List Bool) → NoiseSoFar ended now bits noise → IsTrue now.tells → noisy_bits bits noise ≡ noisy_bits bits (noise ++ now.left)
noise_of_all false now bits noise h t = sym (noisy-longer bits noise now.left (omega (arith, h)))
noise_of_all true now bits noise h t = ap (noisy_bits bits) (sym (append-nil noise) ∙ ap (λ (xs : List Bool). noise ++ xs) (sym (h.1 t)))

noise_so_far : (ended : Bool) (old now : Left Bool) (bits noise : List Bool) → Took old now noise → NoiseSoFar ended now bits noise → IsTrue old.tells → noisy_bits bits noise ≡ noisy_bits bits old.left
noise_so_far ended old now bits noise took h t = noise_of_all ended now bits noise h (still took.tells t) ∙ ap (noisy_bits bits) (sym (took.left t))

-- no more bits of the noise were read than were heard, and fewer only where it has no more
few_read : (ended : Bool) (now : Left Bool) (bits noise : List Bool) → NoiseSoFar ended now bits noise → length noise ≤ length bits
few_read false now bits noise h = omega (arith, h)
few_read true now bits noise h = h.0

fewer_read : (ended : Bool) (old now : Left Bool) (bits noise : List Bool) → Took old now noise → NoiseSoFar ended now bits noise → IsTrue old.tells → length noise < length bits → now.left ≡ []
fewer_read false old now bits noise took h t lt = absurd (omega (arith, h, lt))
fewer_read true old now bits noise took h t lt = h.1 (still took.tells t)

-- a write failed
pub through_unprinted : {T F : Type 0} (printed : List Bool → List ℕ) (bits more left : List Bool) (before after : Bool) (old now next : Left Bool) (o0 o1 o2 : Written ℕ) (flips : List Bool) (e : F)
    → (h : ListeningThrough printed bits (more ++ left) before old now o0 o1) → NoiseGives {E = Failed} before after now next (Ok flips) → length flips ≡ length more → 0 < length more
    → Prints {T = T} printed (noisy_bits h.heard h.noise) (noisy_bits more flips) o1 o2 (Err e)
    → HeardUnprinted printed bits old next o0 o2
through_unprinted printed bits more left before after old now next o0 o1 o2 flips e h g same some p = record {
  heard = h.heard ++ more;
  rest = left;
  bits_are = h.bits_are ∙ sym (append_assoc h.heard more left);
  noise = noise_after before after h.noise flips;
  took = took_after before after old now next h.noise flips h.took g;
  of_noise = noise_so_far after old next (h.heard ++ more) (noise_after before after h.noise flips) (took_after before after old now next h.noise flips h.took g)
      (so_far_after before after now next h.heard h.noise more flips h.so_far g same some (gives_tells before after now next flips g));
  there = λ t any. there_after before after old now next h.heard h.noise flips h.took h.so_far h.there g t;
  wrote = subst (λ (piece : List ℕ). WroteFront o0 o2 piece) (sym (ap printed (noisy-after before after now next h.heard h.noise more flips h.so_far g) ∙ p.more))
      (WroteFront-then o0 o1 o2 (printed (noisy_bits h.heard h.noise)) p.piece e h.wrote p.put);
  few = few_read after next (h.heard ++ more) (noise_after before after h.noise flips)
      (so_far_after before after now next h.heard h.noise more flips h.so_far g same some (gives_tells before after now next flips g));
  fewer = fewer_read after old next (h.heard ++ more) (noise_after before after h.noise flips) (took_after before after old now next h.noise flips h.took g)
      (so_far_after before after now next h.heard h.noise more flips h.so_far g same some (gives_tells before after now next flips g));
  some = omega (arith, some, length-append h.heard more);
}

-- the noise failed
fails_now : {E : Type 0} (before after : Bool) (now next : Left Bool) (e : E) → NoiseGives before after now next (Err e) → FailedAfter now next []
fails_now false after now next e g = g
fails_now true after now next e g = elim g [ ]

-- it fails only before its end, where as many of its bits were read as were heard
fails_at : {E : Type 0} (before after : Bool) (now next : Left Bool) (e : E) (bits noise : List Bool) → NoiseSoFar before now bits noise → NoiseGives before after now next (Err e) → length noise ≡ length bits
fails_at false after now next e bits noise h g = h
fails_at true after now next e bits noise h g = elim g [ ]

pub through_failed : {E : Type 0} (printed : List Bool → List ℕ) (bits left : List Bool) (before after : Bool) (old now next : Left Bool) (o0 o : Written ℕ) (e : E)
    → (h : ListeningThrough printed bits left before old now o0 o) → NoiseGives before after now next (Err e) → 0 < length left → NoiseFailed printed bits old next o0 o
through_failed printed bits left before after old now next o0 o e h g more =
    let f = fails_now before after now next e g in
    record {
      heard = h.heard;
      rest = left;
      bits_are = h.bits_are;
      noise = h.noise;
      failed = record {
        tells = f.tells ∙ h.took.tells;
        left = λ t. h.took.left t ∙ ap (λ (xs : List Bool). h.noise ++ xs) (f.left (still h.took.tells t));
        unsteady = λ t s. f.unsteady (still h.took.tells t) (h.took.steady t s);
        faults = subst (λ (k : ℕ). Rose k next.faults) h.took.faults f.faults;
        lent = f.lent ∙ h.took.lent;
      };
      of_noise = noise_so_far before old now h.heard h.noise h.took h.so_far;
      there = λ t some. h.there t (some_long h.heard some);
      wrote = h.wrote;
      as_many = fails_at before after now next e h.heard h.noise h.so_far g;
      more = more;
    }

-- all was heard
pub through_all : (printed : List Bool → List ℕ) (bits left : List Bool) (ended : Bool) (old now : Left Bool) (o0 o : Written ℕ) → left ≡ []
    → (h : ListeningThrough printed bits left ended old now o0 o) → HeardThrough printed bits old now o0 o
through_all printed bits left ended old now o0 o none h =
    let all : h.heard ≡ bits = sym (h.bits_are ∙ (ap (λ (xs : List Bool). h.heard ++ xs) none ∙ append-nil h.heard)) in
    record {
      noise = h.noise;
      took = h.took;
      of_all = noise_so_far ended old now bits h.noise h.took (subst (λ (xs : List Bool). NoiseSoFar ended now xs h.noise) all h.so_far);
      there = λ t some. h.there t (subst (λ (xs : List Bool). 0 < length xs) (sym all) (some_long bits some));
      wrote = subst (λ (xs : List Bool). Wrote o0 o (printed (noisy_bits xs h.noise))) all h.wrote;
      few = few_read ended now bits h.noise (subst (λ (xs : List Bool). NoiseSoFar ended now xs h.noise) all h.so_far);
      fewer = fewer_read ended old now bits h.noise h.took (subst (λ (xs : List Bool). NoiseSoFar ended now xs h.noise) all h.so_far);
      untouched = λ nothing. h.untouched (all ∙ nothing);
    }

-- where a piece has a bit, a bit is left
pub some_left : (left piece rest : List Bool) → piece ++ rest ≡ left → 0 < length piece → 0 < length left
some_left left piece rest same some = omega (arith, some, length-append piece rest, ap length same)

-- as many bits were heard as the bits that are left allow
pub few_now : (printed : List Bool → List ℕ) (bits more left : List Bool) (ended : Bool) (old now : Left Bool) (o0 o : Written ℕ) (h : ListeningThrough printed bits (more ++ left) ended old now o0 o)
    → length bits < 2 ^ 32 → length (noisy_bits h.heard h.noise) + length more < 2 ^ 32
few_now printed bits more left ended old now o0 o h few =
    omega (arith, few, length-noisy_bits h.heard h.noise, ap length h.bits_are, length-append h.heard (more ++ left), length-append more left)

-- the xor of two bits, as numbers
xor_bit : (p q : ℕ) → p < 2 → q < 2 → (bit_xor p q == 1) ≡ xor (p == 1) (q == 1)
xor_bit p q hp hq = elim (below_two p hp) [
  | inl p0 ↦ elim (below_two q hq) [ inl q0 ↦ rw (p0, q0) refl | inr q1 ↦ rw (p0, q1) refl ]
  | inr p1 ↦ elim (below_two q hq) [ inl q0 ↦ rw (p1, q0) refl | inr q1 ↦ rw (p1, q1) refl ]
]

-- the bits of a xor
pub bits_of-xor : (k a b : ℕ) → bits_of k (bit_xor a b) ≡ noisy_bits (bits_of k a) (bits_of k b)
unfolding bits_of
bits_of-xor zero a b = refl
bits_of-xor (suc k) a b =
    let l = length-bits_of k (a / 2) in
    let m = length-bits_of k (b / 2) in
    ap₂ (λ (xs : List Bool) (x : Bool). xs ++ x ∷ []) (ap (bits_of k) (xor_half a b) ∙ bits_of-xor k (a / 2) (b / 2))
    (ap (λ (n : ℕ). n == 1) (xor_low a b) ∙ xor_bit (a % 2) (b % 2) (omega arith) (omega arith))
    ∙ sym (noisy-more (bits_of k (a / 2)) (bits_of k (b / 2)) ((a % 2 == 1) ∷ []) ((b % 2 == 1) ∷ []) (omega (arith, l, m)))

-- no bit of 0 is one
pub bits_of-zero : (k : ℕ) → bits_of k 0 ≡ replicate k false
unfolding bits_of
bits_of-zero zero = refl
bits_of-zero (suc k) = ap (λ (xs : List Bool). xs ++ false ∷ []) (bits_of-zero k) ∙ snoc_zero k
  where
    snoc_zero : (n : ℕ) → replicate n false ++ false ∷ [] ≡ replicate (suc n) false
    snoc_zero zero = refl
    snoc_zero (suc n) = ap (λ (xs : List Bool). false ∷ xs) (snoc_zero n)

pub zeros_come : (bits : List Bool) (k : ℕ) → bits ≡ bits_of k 0 → (length bits ≡ k) × AreZero bits
zeros_come bits k e =
    let l : length bits ≡ k = ap length e ∙ length-bits_of k 0 in
    (l, e ∙ bits_of-zero k ∙ ap (λ (n : ℕ). replicate n false) (sym l))

-- zeros are given behind the end of a noise
pub ended_gives : (ended : Bool) (now : Left Bool) (bits : List Bool) (k : ℕ) → ended ≡ true → bits ≡ bits_of k 0 → NoiseGives {E = Failed} ended ended now now (Ok bits)
ended_gives true now bits k e is = ((zeros_come bits k is).1, refl)
ended_gives false now bits k e is = absurd (let f : IsTrue false = e in cc)

-- a noise ends
pub ends_gives : (ended : Bool) (old now : Left Bool) (most : ℕ) (piece bits : List Bool) (k : ℕ) → ended ≡ false → TakesPiece {E = Failed} most old now (Ok piece) → piece ≡ [] → bits ≡ bits_of k 0
    → NoiseGives {E = Failed} ended true old now (Ok bits)
ends_gives true old now most piece bits k e t none is = absurd (let f : true ≡ false = e in cc)
ends_gives false old now most piece bits k e t none is =
    let n = Took-empty most old now piece t none in
    ((zeros_come bits k is).1, n.0, n.1, t.came)

-- the xor of numbers of so few bits
pub xor_fits : (n k a b : ℕ) → n ≡ k → n ≤ 32 → a < 2 ^ n → b < 2 ^ k → bit_xor a b < 2 ^ 32
xor_fits n k a b same few small other =
    let m : 2 ^ n ≤ 2 ^ 32 = pow_mono few in
    let l : 2 ^ k ≡ 2 ^ n = ap (λ (j : ℕ). 2 ^ j) (sym same) in
    xor_lt 32 a b (omega (arith, m, small)) (omega (arith, m, l, other))

-- the first bits of a piece, each xor the noise's bit
pub flips_first : (piece flips first : List Bool) (n a b : ℕ) → n ≡ length flips → bits_of n a ≡ take n piece → bits_of (length flips) b ≡ flips → first ≡ bits_of n (bit_xor a b)
    → first ≡ noisy_bits (take (length flips) piece) flips
flips_first piece flips first n a b is taken all e =
    e ∙ bits_of-xor n a b
    ∙ ap₂ noisy_bits (taken ∙ ap (λ (k : ℕ). take k piece) is) (ap (λ (k : ℕ). bits_of k b) is ∙ all)

-- the first n bits of a piece, and what is left
pub cut_left : (left piece rest after : List Bool) (n : ℕ) → piece ++ rest ≡ left → after ≡ drop n piece → left ≡ take n piece ++ (after ++ rest)
cut_left left piece rest after n same e =
    sym same ∙ ap (λ (xs : List Bool). xs ++ rest) (sym (take-append-drop n piece))
    ∙ append_assoc (take n piece) (drop n piece) rest ∙ ap (λ (xs : List Bool). take n piece ++ (xs ++ rest)) (sym e)

-- as many as there are flips, and some
pub first_long : (piece flips : List Bool) (n : ℕ) → length flips ≤ n → n ≡ length piece → 0 < length flips
    → (length flips ≡ length (take (length flips) piece)) × (0 < length (take (length flips) piece))
first_long piece flips n few is some = let l = length-take (length flips) piece in (omega (arith, l, few, is), omega (arith, l, few, is, some))

pub flipped_long : (made more flips : List Bool) → made ≡ noisy_bits more flips → length made ≡ length more
flipped_long made more flips e = ap length e ∙ length-noisy_bits more flips

-- what was heard then
pub then_heard : (printed : List Bool → List ℕ) (bits more left : List Bool) (before after : Bool) (old now next : Left Bool) (o0 o1 : Written ℕ) (flips made : List Bool)
    → (h : ListeningThrough printed bits (more ++ left) before old now o0 o1) → NoiseGives {E = Failed} before after now next (Ok flips) → made ≡ noisy_bits more flips
    → noisy_bits h.heard h.noise ++ made ≡ noisy_bits (h.heard ++ more) (noise_after before after h.noise flips)
then_heard printed bits more left before after old now next o0 o1 flips made h g e = ap (λ (xs : List Bool). noisy_bits h.heard h.noise ++ xs) e ∙ sym (noisy-after before after now next h.heard h.noise more flips h.so_far g)

-- a piece that is heard is the one that was made
pub prints_made : {T F : Type 0} (printed : List Bool → List ℕ) (bits piece made : List Bool) (o1 o2 : Written ℕ) (r : Result T F) → piece ≡ made → Prints printed bits piece o1 o2 r → Prints printed bits made o1 o2 r
prints_made printed bits piece made o1 o2 r e p = subst (λ (xs : List Bool). Prints printed bits xs o1 o2 r) e p

-- the bits that are left, in other words
abbrev pub with_left : (printed : List Bool → List ℕ) (bits left other : List Bool) (ended : Bool) (old now : Left Bool) (o0 o : Written ℕ) → left ≡ other
    → ListeningThrough printed bits left ended old now o0 o → ListeningThrough printed bits other ended old now o0 o
with_left printed bits left other ended old now o0 o e h = record {
  heard = h.heard;
  bits_are = h.bits_are ∙ ap (λ (rest : List Bool). h.heard ++ rest) e;
  noise = h.noise;
  took = h.took;
  so_far = h.so_far;
  there = h.there;
  wrote = h.wrote;
  untouched = h.untouched;
}
