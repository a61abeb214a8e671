-- Writes one after another.
use Rattle.std.proofs.Common.{add-one, zero, suc, ◌∷◌, ◌<◌, drop, get_or, ◌≡◌, ℕ, ◌+◌, Bool, List, [], ◌++◌, length, take, Result, Ok, Err, IsOk, IsErr, IsTrue, refl, sym, ◌∙◌, ap, subst, true, false, ◌&&◌, arith, append_assoc, append-nil, length-append}
use Rattle.std.proofs.lemmas.List.{take-append-le}
use Rattle.std.proofs.Math.Seq.{take-append-add}
use Rattle.std.specs.List.{flat_map}
use Rattle.bits.proofs.Bytes.{words_bits-append}
use Rattle.bits.specs.Bits.{words_bits}
use Rattle.wires.specs.Written.{Written, Puts, Appends}
use Rattle.wires.proofs.Causes.{cause_then, cause_err}

pub still : {a b : Bool} → b ≡ a → IsTrue a → IsTrue b
still e t = subst IsTrue (sym e) t

pub and_both : (a b : Bool) → IsTrue (a && b) → IsTrue a × IsTrue b
and_both true b h = (refl, h)
and_both false b h = cc

pub and_one : (a b : Bool) → IsTrue a → IsTrue b → IsTrue (a && b)
and_one true b h k = k
and_one false b h k = h

-- a failure is no success
pub no_ok : (T E : Type 0) {B : Type 0} (e : E) → IsOk {T = T} (Err e) → B
no_ok T E e h = cc

appends_then : {A T E : Type 0} (a b c p q : List A) (r : Result T E) → b ≡ a ++ p → Appends b c q r → Appends a c (p ++ q) r
appends_then a b c p q (Ok x) h k = k ∙ (ap (λ (xs : List _). xs ++ q) h ∙ append_assoc a p q)
appends_then a b c p q (Err e) h k = (
  length p + k.0,
  omega (arith, k.1, length-append p q),
  k.2 ∙ (ap (λ (xs : List _). xs ++ take k.0 q) h ∙ (append_assoc a p (take k.0 q) ∙ ap (λ (xs : List _). a ++ xs) (sym (take-append-add p q k.0)))),
)

-- a write after one that succeeded
pub Puts-then : {A T U E F : Type 0} (a b c : Written A) (p q : List A) (x : T) (r : Result U F) → Puts {E = E} a b p (Ok x) → Puts b c q r → Puts a c (p ++ q) r
Puts-then a b c p q x r h k = record {
  tells = k.tells ∙ h.tells;
  held = λ t. appends_then a.held b.held c.held p q r (h.held t) (k.held (still h.tells t));
  room = λ t. k.room (still h.tells t) ∙ h.room t;
  steady = λ t s fits.
      let one = h.steady t s (omega (arith, length-append p q, fits)) in
      k.steady (still h.tells t) one.1 (omega (arith, length-append p q, fits, h.room t, ap length (h.held t), length-append a.held p));
  faults = cause_then h.faults k.faults;
  lent = k.lent ∙ h.lent;
}

-- a failed write of the front of a longer piece
pub Puts-cut : {A T U E F : Type 0} (a b : Written A) (p q : List A) (e : E) (r : Result U F) → IsErr r → Puts {T = T} a b p (Err e) → Puts a b (p ++ q) r
Puts-cut a b p q e (Ok x) k h = cc
Puts-cut {T} {E} a b p q e (Err f) k h = record {
  tells = h.tells;
  held = λ t. let k = h.held t in (k.0, omega (arith, k.1, length-append p q), k.2 ∙ ap (λ (xs : List _). a.held ++ xs) (sym (take-append-le k.0 p q k.1)));
  room = h.room;
  steady = λ t s fits. no_ok T E e (h.steady t s (omega (arith, length-append p q, fits))).0;
  faults = cause_err e f h.faults;
  lent = h.lent;
}

-- nothing was written
pub Puts-nothing : {A T E : Type 0} (a : Written A) (x : T) → Puts {E = E} a a [] (Ok x)
Puts-nothing a x = record {
  tells = refl;
  held = λ _. sym (append-nil a.held);
  room = λ _. refl;
  steady = λ t s _. (refl, s);
  faults = record { later = omega arith; failed = tt; kept = refl };
  lent = refl;
}

-- a piece for each of a list, up to one of them
pub flat_map-take : {X A : Type 0} (f : X → List A) (xs : List X) (i : ℕ) (d : X) → i < length xs → flat_map f (take (suc i) xs) ≡ flat_map f (take i xs) ++ f (get_or xs i d)
flat_map-take f [] i d h = absurd (omega arith)
flat_map-take f (x ∷ xs) zero d h = append-nil (f x)
flat_map-take f (x ∷ xs) (suc i) d h = ap (λ (ys : List _). f x ++ ys) (flat_map-take f xs i d (omega (arith, h))) ∙ sym (append_assoc (f x) (flat_map f (take i xs)) (f (get_or xs i d)))

pub flat_map-at : {X A : Type 0} (f : X → List A) (xs : List X) (i : ℕ) (d : X) → i < length xs → flat_map f xs ≡ (flat_map f (take i xs) ++ f (get_or xs i d)) ++ flat_map f (drop (suc i) xs)
flat_map-at f [] i d h = absurd (omega arith)
flat_map-at f (x ∷ xs) zero d h = refl
flat_map-at f (x ∷ xs) (suc i) d h = ap (λ (ys : List _). f x ++ ys) (flat_map-at f xs i d (omega (arith, h))) ∙ (sym (append_assoc (f x) (flat_map f (take i xs) ++ f (get_or xs i d)) (flat_map f (drop (suc i) xs))) ∙ ap (λ (ys : List _). ys ++ flat_map f (drop (suc i) xs)) (sym (append_assoc (f x) (flat_map f (take i xs)) (f (get_or xs i d)))))

-- a loop that writes a piece for each of a list: one turn, and a turn that fails
pub Puts-turn : {X A T U E F : Type 0} (f : X → List A) (xs : List X) (i : ℕ) (d : X) → i < length xs → (a b c : Written A) (x : T) (r : Result U F)
    → Puts {E = E} a b (flat_map f (take i xs)) (Ok x) → Puts b c (f (get_or xs i d)) r → Puts a c (flat_map f (take (i + 1) xs)) r
Puts-turn f xs i d lt a b c x r h k =
    rw (add-one, flat_map-take f xs i d lt) (Puts-then a b c (flat_map f (take i xs)) (f (get_or xs i d)) x r h k)

pub Puts-turn-fails : {X A T U V E F G : Type 0} (f : X → List A) (xs : List X) (i : ℕ) (d : X) → i < length xs → (a b c : Written A) (x : T) (e : F) (r : Result U G) → IsErr r
    → Puts {E = E} a b (flat_map f (take i xs)) (Ok x) → Puts {T = V} b c (f (get_or xs i d)) (Err e) → Puts a c (flat_map f xs) r
Puts-turn-fails f xs i d lt a b c x e r bad h k =
    rw (flat_map-at f xs i d lt) (Puts-cut a c (flat_map f (take i xs) ++ f (get_or xs i d)) (flat_map f (drop (suc i) xs)) e r bad (Puts-then a b c (flat_map f (take i xs)) (f (get_or xs i d)) x (Err e) h k))

-- words after words that were written
pub Puts_words-then : {T U E F : Type 0} (a b c : Written Bool) (p q : List ℕ) (x : T) (r : Result U F) → Puts {E = E} a b (words_bits p) (Ok x) → Puts b c (words_bits q) r → Puts a c (words_bits (p ++ q)) r
Puts_words-then a b c p q x r h k = rw (words_bits-append p q) (Puts-then a b c (words_bits p) (words_bits q) x r h k)

-- words that failed after words that were written, of all the words
pub Puts_words-fails : {T U V E F G : Type 0} (a b c : Written Bool) (p q rest words : List ℕ) (x : T) (e : F) (r : Result U G) → p ++ (q ++ rest) ≡ words → IsErr r
    → Puts {E = E} a b (words_bits p) (Ok x) → Puts {T = V} b c (words_bits q) (Err e) → Puts a c (words_bits words) r
Puts_words-fails a b c p q rest words x e r same bad h k =
    let all : words_bits (p ++ q) ++ words_bits rest ≡ words_bits words = sym (words_bits-append (p ++ q) rest) ∙ ap words_bits (append_assoc p q rest ∙ same) in
    subst (λ (bs : List Bool). Puts a c bs r) all (Puts-cut a c (words_bits (p ++ q)) (words_bits rest) e r bad (Puts_words-then a b c p q x (Err e) h k))
