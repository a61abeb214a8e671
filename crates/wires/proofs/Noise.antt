-- Bits with noise.
use Rattle.std.proofs.Common.{suc, drop, ◌≡◌, ◌&&◌, Bool, true, false, not, List, [], ◌∷◌, ◌++◌, length, take, Ok, Some, None, Option, unwrap_or, IsTrue, refl, sym, ◌∙◌, ap, subst, arith}
use Rattle.std.specs.Bool.{beq}
use Rattle.std.specs.Borrow.{GName}
use Rattle.bits.specs.Bits.{xor}
use Rattle.wires.specs.Ahead.{Peeks}
use Rattle.wires.specs.Held.{Held, Lent, Parts}
use Rattle.wires.specs.Left.{Left, Pops, TakesOne}
use Rattle.wires.specs.Stacked.{noisy_bits, noisy_over}
use Rattle.wires.proofs.Written.{and_both, and_one, still}

-- what the first of two parts holds
abbrev first_part : List Held → List Held
first_part (Lent n ∷ Parts k ∷ ls) = take k ls
first_part _ = []

-- bits without noise
pub noisy_bits-nil : (bs : List Bool) → noisy_bits bs [] ≡ bs
noisy_bits-nil [] = refl
noisy_bits-nil (b ∷ bs) = refl

-- no noise leaves a bit
xor_none : (b : Bool) → b ≡ xor b false
xor_none true = refl
xor_none false = refl

-- the xor of the code
xor_is : (a b : Bool) → not (beq a b) ≡ xor a b
xor_is true true = refl
xor_is true false = refl
xor_is false true = refl
xor_is false false = refl

noisy_step : (E : Type 0) (bit : Bool) (bs old new : List Bool) (r : Option Bool) → Pops {E = E} old new (Ok r) → noisy_bits (bit ∷ bs) old ≡ xor bit (unwrap_or r false) ∷ noisy_bits bs new
noisy_step E bit bs old new (Some y) h = rw h refl
noisy_step E bit bs old new None h = rw (h.0, h.1, noisy_bits-nil bs) (ap (λ (b : Bool). b ∷ bs) (xor_none bit))

pub noisy_pop : {E F : Type 0} (name : GName) (x b c d : Left Bool) (bit : Bool) (r : Option Bool) → Peeks {E = E} x (noisy_over name (Some bit) b c) (Ok true) → TakesOne {E = F} c d (Ok r)
    → TakesOne {E = F} x (noisy_over name None b d) (Ok (Some (xor bit (unwrap_or r false))))
noisy_pop {F} name x b c d bit r k h =
    let told = λ (t : IsTrue x.tells). and_both b.tells c.tells (still k.tells t) in
    record {
      tells = ap (λ (v : Bool). b.tells && v) h.tells ∙ k.tells;
      left = λ t. sym (k.left t) ∙ noisy_step F bit b.left c.left d.left r (h.left (told t).1);
      there = λ t here. k.came t;
      came = λ t. k.came t;
      steady = λ t s.
          let two = and_both b.steady c.steady (k.steady t s).1 in
          let after = h.steady (told t).1 two.1 in
          (refl, and_one b.steady d.steady two.0 after.1);
      faults = record { later = omega (arith, k.faults.kept, h.faults.kept); failed = tt; kept = omega (arith, k.faults.kept, h.faults.kept) };
      lent = ap (λ (ls : List Held). Lent name ∷ Parts (length ls) ∷ (ls ++ b.lent)) h.lent ∙ k.lent;
    }

pub noisy_turn : {E F : Type 0} (name : GName) (x b c d : Left Bool) (held after : Option Bool) (bit more flip : Bool) (r : Option Bool) → held ≡ Some bit → after ≡ None → flip ≡ unwrap_or r false → more ≡ true
    → Peeks {E = E} x (noisy_over name held b c) (Ok more) → TakesOne {E = F} c d (Ok r) → TakesOne {E = F} x (noisy_over name after b d) (Ok (Some (not (beq bit flip))))
noisy_turn {E} name x b c d held after bit more flip r h a f m k t =
    rw (a, f, xor_is bit (unwrap_or r false)) (noisy_pop name x b c d bit r (subst (λ (o : Option Bool). Peeks {E = E} x (noisy_over name o b c) (Ok true)) h (subst (λ (o : Bool). Peeks {E = E} x (noisy_over name held b c) (Ok o)) m k)) t)

take-append : (xs ys : List Held) → take (length xs) (xs ++ ys) ≡ xs
take-append [] ys = refl
take-append (x ∷ xs) ys = ap (λ (ls : List Held). x ∷ ls) (take-append xs ys)

-- what the noise holds, of what a noisy source holds
pub noisy_lent : (m n : GName) (g h : Option Bool) (a b c d : Left Bool) → (noisy_over m h b d).lent ≡ (noisy_over n g a c).lent → d.lent ≡ c.lent
noisy_lent m n g h a b c d e = sym (take-append d.lent b.lent) ∙ (ap first_part e ∙ take-append c.lent a.lent)

-- the noise changes no number of bits
pub length-noisy_bits : (bs ns : List Bool) → length (noisy_bits bs ns) ≡ length bs
length-noisy_bits [] ns = refl
length-noisy_bits (b ∷ bs) [] = refl
length-noisy_bits (b ∷ bs) (n ∷ ns) = ap suc (length-noisy_bits bs ns)

-- bits one after another have the noise one after another
pub noisy_bits-append : (bs cs ns : List Bool) → noisy_bits (bs ++ cs) ns ≡ noisy_bits bs ns ++ noisy_bits cs (drop (length bs) ns)
noisy_bits-append [] cs ns = refl
noisy_bits-append (b ∷ bs) cs [] = ap (λ (xs : List Bool). b ∷ (bs ++ xs)) (sym (noisy_bits-nil cs))
noisy_bits-append (b ∷ bs) cs (n ∷ ns) = ap (λ (xs : List Bool). xor b n ∷ xs) (noisy_bits-append bs cs ns)

-- all the bits with all the noise, from the start
pub noisy_over-start : (name : GName) (held : Option Bool) (bits bits' noise noise' : Left Bool) → held ≡ None → bits' ≡ bits → noise' ≡ noise → (noisy_over name held bits' noise').left ≡ noisy_bits bits.left noise.left
noisy_over-start name held bits bits' noise noise' h e f = rw (h, e, f) refl
