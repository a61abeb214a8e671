-- Listening, piece by piece.
use Rattle.std.proofs.Common.{◌≡◌, ◌≢◌, ℕ, ◌+◌, ◌-◌, ◌^◌, ◌≤◌, ◌<◌, Bool, List, [], ◌∷◌, ◌++◌, length, length-append, take, Result, Ok, Err, Option, Some, None, refl, sym, ◌∙◌, ap, subst, arith, append-nil, append_assoc, IsTrue, ◌↔◌, false}
use Rattle.std.proofs.lemmas.List.{take-append-le}
use Rattle.std.proofs.Math.Seq.{take-append-add}
use Rattle.wires.specs.Causes.{Rose}
use Rattle.wires.specs.Left.{Left, TakesOne, TakesPiece, Took}
use Rattle.wires.specs.Pieces.{taken_of}
use Rattle.wires.specs.declared.Failed.{Failed}
use Rattle.wires.specs.Written.{Written, Puts}
use Rattle.wires.proofs.Left.{Took-nothing, Took-none, Took-one, Took-then}
use Rattle.wires.proofs.Written.{no_ok, Puts-cut, Puts-nothing, Puts-then, still}
use Rattle.wires.specs.Fronts.{Grows, IsFront}
use Rattle.listening.specs.Listening.{FailedAfter, ListenedToAll, ListenedToFault, ListenedTooLong, ListenedUnheard, ListeningTo, Prints, most_bits, put_of}
use Rattle.endings.specs.Wrote.{Wrote, WroteFront}

-- what was written is what a write that succeeded appends
pub Puts-from_wrote : {A T E : Type 0} (a b : Written A) (piece : List A) (x : T) → Wrote a b piece → Puts {E = E} a b piece (Ok x)
Puts-from_wrote a b piece x h = record {
  tells = h.tells;
  held = h.held;
  room = h.room;
  steady = λ t s fits. (refl, h.steady t s fits);
  faults = record { later = omega (arith, h.faults); failed = tt; kept = h.faults };
  lent = h.lent;
}

pub Wrote-from_puts : {A T E : Type 0} (a b : Written A) (piece : List A) (x : T) → Puts {E = E} a b piece (Ok x) → Wrote a b piece
Wrote-from_puts a b piece x h = record {
  tells = h.tells;
  held = h.held;
  room = h.room;
  steady = λ t s fits. (h.steady t s fits).1;
  faults = h.faults.kept;
  lent = h.lent;
}

pub WroteFront-from_puts : {A T E : Type 0} (a b : Written A) (piece : List A) (e : E) → Puts {T = T} a b piece (Err e) → WroteFront a b piece
WroteFront-from_puts {T} {E} a b piece e h = record {
  tells = h.tells;
  held = h.held;
  room = h.room;
  unfit = λ t s fits. no_ok T E e (h.steady t s fits).0;
  faults = h.faults.failed;
  lent = h.lent;
}

-- a write after what was written
pub Wrote-then : {A T E : Type 0} (a b c : Written A) (p q : List A) (x : T) → Wrote a b p → Puts {E = E} b c q (Ok x) → Wrote a c (p ++ q)
Wrote-then {T} {E} a b c p q x h k = Wrote-from_puts a c (p ++ q) x (Puts-then {E = E} a b c p q x (Ok x) (Puts-from_wrote a b p x h) k)

pub WroteFront-then : {A T E : Type 0} (a b c : Written A) (p q : List A) (e : E) → Wrote a b p → Puts {T = T} b c q (Err e) → WroteFront a c (p ++ q)
WroteFront-then {T} {E} a b c p q e h k = WroteFront-from_puts a c (p ++ q) e (Puts-then {U = T} {E = E} a b c p q (tt {0}) (Err e) (Puts-from_wrote a b p (tt {0}) h) k)

pub Wrote-nothing : {A : Type 0} (a : Written A) → Wrote a a []
Wrote-nothing a = Wrote-from_puts {E = Unit {0}} a a [] (tt {0}) (Puts-nothing a (tt {0}))

-- a front is no longer
pub length-front : {A : Type 0} (p q : List A) → IsFront p q → length p ≤ length q
length-front p q f = omega (arith, ap length f.is, length-append p f.rest)

-- a front of a piece is a front of each piece that begins with it
pub WroteFront-longer : {A : Type 0} (a b : Written A) (p q : List A) → WroteFront a b p → IsFront p q → WroteFront a b q
WroteFront-longer a b p q h f = record {
  tells = h.tells;
  held = λ t.
      let k = h.held t in (
        k.0,
        omega (arith, k.1, length-front p q f),
        k.2 ∙ ap (λ (xs : List _). a.held ++ xs) (sym (ap (take k.0) f.is ∙ take-append-le k.0 p f.rest k.1)),
      );
  room = h.room;
  unfit = λ t s fits. h.unfit t s (omega (arith, fits, length-front p q f));
  faults = h.faults;
  lent = h.lent;
}

-- what the bits that were read give is a front of what all give that are to be listened to
pub front_listened : (printed : List Bool → List ℕ) → Grows printed → (bits left all : List Bool) → all ≡ bits ++ left → length bits ≤ most_bits
    → IsFront (printed bits) (printed (take most_bits all))
front_listened printed g bits left all is few =
    let more = take (most_bits - length bits) left in
    let n : length bits + (most_bits - length bits) ≡ most_bits = omega (arith, few) in
    let cut : bits ++ more ≡ take most_bits all =
    sym (take-append-add bits left (most_bits - length bits)) ∙ (ap (λ (k : ℕ). take k (bits ++ left)) n ∙ ap (take most_bits) (sym is)) in
    subst (λ (z : List Bool). IsFront (printed bits) (printed z)) cut (g bits more)

pub some_long : (bits : List Bool) → bits ≢ [] → 0 < length bits
some_long [] h = absurd (h refl)
some_long (b ∷ bits) h = omega arith

-- bits are heard as they are by a listener that prints the same
pub prints_as : {T E : Type 0} (printed other : List Bool → List ℕ) (bits next : List Bool) (o1 o2 : Written ℕ) (r : Result T E)
    → other ≡ printed → Prints other bits next o1 o2 r → Prints printed bits next o1 o2 r
prints_as printed other bits next o1 o2 r e p = subst (λ (f : List Bool → List ℕ). Prints f bits next o1 o2 r) e p

-- ---- one piece

-- what the next bits print, and those behind them
pub prints_then : {T U E F : Type 0} (printed : List Bool → List ℕ) (bits p q : List Bool) (o0 o1 o2 : Written ℕ) (x : T) (r : Result U F)
    → Prints {E = E} printed bits p o0 o1 (Ok x) → Prints printed (bits ++ p) q o1 o2 r → Prints printed bits (p ++ q) o0 o2 r
prints_then {E} printed bits p q o0 o1 o2 x r h k = record {
  piece = h.piece ++ k.piece;
  more =
      ap printed (sym (append_assoc bits p q))
      ∙ (k.more ∙ (ap (λ (xs : List ℕ). xs ++ k.piece) h.more ∙ append_assoc (printed bits) h.piece k.piece));
  put = Puts-then {E = E} o0 o1 o2 h.piece k.piece x r h.put k.put;
}

-- no bit prints nothing
pub prints_none : {E : Type 0} (printed : List Bool → List ℕ) (bits : List Bool) (o : Written ℕ) → Prints {E = E} printed bits [] o o (Ok (tt {0}))
prints_none {E} printed bits o = record {
  piece = [];
  more = ap printed (append-nil bits) ∙ sym (append-nil (printed bits));
  put = Puts-nothing {E = E} o (tt {0});
}

-- of a listener whose prints grow, a write that failed put a front of what the whole piece prints
pub prints_whole : {T E : Type 0} (printed : List Bool → List ℕ) (bits piece left : List Bool) (o1 o2 : Written ℕ) (r : Result T E) → Grows printed → piece ≡ taken_of piece left ++ left
    → Prints printed bits (taken_of piece left) o1 o2 r → Prints printed bits (put_of r piece left) o1 o2 r
prints_whole printed bits piece left o1 o2 (Ok x) grows whole p = p
prints_whole {T} {E} printed bits piece left o1 o2 (Err e) grows whole p =
    let taken = taken_of piece left in
    let g = grows (bits ++ taken) left in
    record {
      piece = p.piece ++ g.rest;
      more =
          ap (λ (xs : List Bool). printed (bits ++ xs)) whole ∙ ap printed (sym (append_assoc bits taken left))
          ∙ (g.is ∙ (ap (λ (xs : List ℕ). xs ++ g.rest) p.more ∙ append_assoc (printed bits) p.piece g.rest));
      put = Puts-cut o1 o2 p.piece g.rest e (Err e) refl p.put;
    }

-- some was taken
pub taken_some : (piece left : List Bool) → piece ≡ taken_of piece left ++ left → length left < length piece → 0 < length (taken_of piece left)
taken_some piece left whole some = omega (arith, some, ap length whole, length-append (taken_of piece left) left)

-- So much of a piece was heard, and what it gives was printed.
pub record HeardOf (printed : List Bool → List ℕ) (fed now : List Bool → Type 0) (piece left : List Bool) (out0 out : Written ℕ) : Type 0 where
  pub taken : List Bool
  pub whole : piece ≡ taken ++ left
  pub fed_on : (bits : List Bool) → length bits + length piece < 2 ^ 32 → fed bits → now (bits ++ taken)
  pub prints : (bits : List Bool) → length bits + length piece < 2 ^ 32 → fed bits → Prints {T = Unit {0}} {E = Failed} printed bits taken out0 out (Ok (tt {0}))

pub heard_none : (printed : List Bool → List ℕ) (fed : List Bool → Type 0) (piece : List Bool) (o : Written ℕ) → HeardOf printed fed fed piece piece o o
heard_none printed fed piece o = record {
  taken = [];
  whole = refl;
  fed_on = λ bits lt h. subst fed (sym (append-nil bits)) h;
  prints = λ bits lt h. prints_none printed bits o;
}

-- the bits before a rest of a piece are few
few_before : (bits taken piece left : List Bool) → piece ≡ taken ++ left → 0 < length left → length bits + length piece < 2 ^ 32 → length (bits ++ taken) < 2 ^ 32
few_before bits taken piece left whole some lt = omega (arith, lt, some, ap length whole, length-append taken left, length-append bits taken)

pub heard_more : (printed other : List Bool → List ℕ) (fed now next : List Bool → Type 0) (piece left rest : List Bool) (o0 o1 o2 : Written ℕ) → other ≡ printed
    → HeardOf printed fed now piece left o0 o1 → 0 < length left → left ≡ taken_of left rest ++ rest
    → ((bits : List Bool) → length bits < 2 ^ 32 → now bits → next (bits ++ taken_of left rest))
    → ((bits : List Bool) → length bits < 2 ^ 32 → now bits → Prints {T = Unit {0}} {E = Failed} other bits (taken_of left rest) o1 o2 (Ok (tt {0})))
    → HeardOf printed fed next piece rest o0 o2
heard_more printed other fed now next piece left rest o0 o1 o2 same h some whole feeds puts = record {
  taken = h.taken ++ taken_of left rest;
  whole = h.whole ∙ (ap (λ (xs : List Bool). h.taken ++ xs) whole ∙ sym (append_assoc h.taken (taken_of left rest) rest));
  fed_on = λ bits lt f. subst next (append_assoc bits h.taken (taken_of left rest)) (feeds (bits ++ h.taken) (few_before bits h.taken piece left h.whole some lt) (h.fed_on bits lt f));
  prints = λ bits lt f.
      prints_then printed bits h.taken (taken_of left rest) o0 o1 o2 (tt {0}) (Ok (tt {0})) (h.prints bits lt f)
      (prints_as printed other (bits ++ h.taken) (taken_of left rest) o1 o2 (Ok (tt {0})) same (puts (bits ++ h.taken) (few_before bits h.taken piece left h.whole some lt) (h.fed_on bits lt f)));
}

-- a write failed
pub heard_cut : (printed other : List Bool → List ℕ) (fed now : List Bool → Type 0) (piece left : List Bool) (o0 o1 o2 : Written ℕ) (e : Failed) → other ≡ printed
    → HeardOf printed fed now piece left o0 o1 → 0 < length left
    → ((bits : List Bool) → length bits < 2 ^ 32 → now bits → Prints {T = Unit {0}} {E = Failed} other bits left o1 o2 (Err e))
    → (bits : List Bool) → length bits + length piece < 2 ^ 32 → fed bits → Prints {T = Unit {0}} {E = Failed} printed bits piece o0 o2 (Err e)
heard_cut printed other fed now piece left o0 o1 o2 e same h some puts bits lt f =
    subst (λ (xs : List Bool). Prints {T = Unit {0}} {E = Failed} printed bits xs o0 o2 (Err e)) (sym h.whole)
    (prints_then printed bits h.taken left o0 o1 o2 (tt {0}) (Err e) (h.prints bits lt f)
    (prints_as printed other (bits ++ h.taken) left o1 o2 (Err e) same (puts (bits ++ h.taken) (few_before bits h.taken piece left h.whole some lt) (h.fed_on bits lt f))))

-- nothing is left
pub heard_taken : (printed : List Bool → List ℕ) (fed now : List Bool → Type 0) (piece left : List Bool) (o0 o : Written ℕ) (h : HeardOf printed fed now piece left o0 o) → left ≡ [] → h.taken ≡ piece
heard_taken printed fed now piece left o0 o h none = sym (h.whole ∙ (ap (λ (xs : List Bool). h.taken ++ xs) none ∙ append-nil h.taken))

pub heard_fed : (printed : List Bool → List ℕ) (fed now : List Bool → Type 0) (piece left : List Bool) (o0 o : Written ℕ) → HeardOf printed fed now piece left o0 o → left ≡ []
    → (bits : List Bool) → length bits + length piece < 2 ^ 32 → fed bits → now (bits ++ piece)
heard_fed printed fed now piece left o0 o h none bits lt f =
    subst (λ (xs : List Bool). now (bits ++ xs)) (heard_taken printed fed now piece left o0 o h none) (h.fed_on bits lt f)

pub heard_prints : (printed : List Bool → List ℕ) (fed now : List Bool → Type 0) (piece left : List Bool) (o0 o : Written ℕ) → HeardOf printed fed now piece left o0 o → left ≡ []
    → (bits : List Bool) → length bits + length piece < 2 ^ 32 → fed bits → Prints {T = Unit {0}} {E = Failed} printed bits piece o0 o (Ok (tt {0}))
heard_prints printed fed now piece left o0 o h none bits lt f =
    subst (λ (xs : List Bool). Prints {T = Unit {0}} {E = Failed} printed bits xs o0 o (Ok (tt {0}))) (heard_taken printed fed now piece left o0 o h none) (h.prints bits lt f)

-- ---- pieces of a source

pub Took-piece : {A E : Type 0} (most : ℕ) (a b : Left A) (piece : List A) → TakesPiece {E = E} most a b (Ok piece) → Took a b piece
Took-piece most a b piece h = record { tells = h.tells; left = λ t. (h.left t).0; there = h.there; steady = λ t s. (h.steady t s).1; faults = h.faults.kept; lent = h.lent }

-- an empty piece came, so nothing was left
pub Took-empty : {E : Type 0} (most : ℕ) (a b : Left Bool) (piece : List Bool) → TakesPiece {E = E} most a b (Ok piece) → piece ≡ [] → Took a b [] × (IsTrue a.tells → b.left ≡ [])
Took-empty {E} most a b piece t none =
    let e : TakesPiece {E = E} most a b (Ok []) = subst (λ (p : List Bool). TakesPiece {E = E} most a b (Ok p)) none t in
    (Took-piece most a b [] e, λ k. sym (e.left k).0 ∙ (e.left k).1 refl)

-- nothing was read
abbrev pub listening_begins : (printed : List Bool → List ℕ) (b : Left Bool) (o : Written ℕ) → printed [] ≡ [] → ListeningTo printed b b o o most_bits
listening_begins printed b o e = record {
  bits = [];
  took = Took-nothing b;
  there = λ t some. absurd (omega (arith, some));
  many = refl;
  wrote = subst (λ (piece : List ℕ). Wrote o o piece) (sym e) (Wrote-nothing o);
}

-- a piece more was read, and what it gives was printed
abbrev pub listening_goes_on : {E T F : Type 0} (printed : List Bool → List ℕ) (b0 b1 b2 : Left Bool) (o0 o1 o2 : Written ℕ) (n to_come most : ℕ) (piece : List Bool) (x : T)
    → (h : ListeningTo printed b0 b1 o0 o1 n) → TakesPiece {E = E} most b1 b2 (Ok piece) → to_come + length piece ≡ n → Prints {E = F} printed h.bits piece o1 o2 (Ok x)
    → ListeningTo printed b0 b2 o0 o2 to_come
listening_goes_on printed b0 b1 b2 o0 o1 o2 n to_come most piece x h taken fits p = record {
  bits = h.bits ++ piece;
  took = Took-then b0 b1 b2 h.bits piece h.took (Took-piece most b1 b2 piece taken);
  there = λ t some. h.took.there t (taken.came (still h.took.tells t));
  many = omega (arith, length-append h.bits piece, h.many, fits);
  wrote = subst (λ (said : List ℕ). Wrote o0 o2 said) (sym p.more) (Wrote-then o0 o1 o2 (printed h.bits) p.piece x h.wrote p.put);
}

-- nothing was left
heard_end : (printed : List Bool → List ℕ) (b0 b1 b2 : Left Bool) (o0 o : Written ℕ) (n : ℕ)
    → ListeningTo printed b0 b1 o0 o n → Took b1 b2 [] → (IsTrue b1.tells → b2.left ≡ []) → (IsTrue b1.tells → IsTrue b1.there) → ListenedToAll printed b0 b2 o0 o
heard_end printed b0 b1 b2 o0 o n h took none came = record {
  bits = h.bits;
  took = subst (λ (bits : List Bool). Took b0 b2 bits) (append-nil h.bits) (Took-then b0 b1 b2 h.bits [] h.took took);
  there = λ k. h.took.there k (came (still h.took.tells k));
  whole = λ k. none (still h.took.tells k);
  few = omega (arith, h.many);
  wrote = h.wrote;
}

-- an empty piece came
pub heard_all : {E : Type 0} (printed : List Bool → List ℕ) (b0 b1 b2 : Left Bool) (o0 o : Written ℕ) (n most : ℕ) (piece : List Bool)
    → ListeningTo printed b0 b1 o0 o n → TakesPiece {E = E} most b1 b2 (Ok piece) → piece ≡ [] → ListenedToAll printed b0 b2 o0 o
heard_all printed b0 b1 b2 o0 o n most piece h t none = let e = Took-empty most b1 b2 piece t none in heard_end printed b0 b1 b2 o0 o n h e.0 e.1 t.came

-- no bit was left
pub heard_just : {E : Type 0} (printed : List Bool → List ℕ) (b0 b1 b2 : Left Bool) (o0 o : Written ℕ) (n : ℕ)
    → ListeningTo printed b0 b1 o0 o n → TakesOne {E = E} b1 b2 (Ok None) → ListenedToAll printed b0 b2 o0 o
heard_just printed b0 b1 b2 o0 o n h t = let none = Took-none b1 b2 t in heard_end printed b0 b1 b2 o0 o n h none.0 none.1 t.came

-- a further bit was left
pub heard_too_many : {E : Type 0} (printed : List Bool → List ℕ) (b0 b1 b2 : Left Bool) (o0 o : Written ℕ) (n : ℕ) (bit : Bool)
    → n ≡ 0 → ListeningTo printed b0 b1 o0 o n → TakesOne {E = E} b1 b2 (Ok (Some bit)) → ListenedTooLong printed b0 b2 o0 o
heard_too_many printed b0 b1 b2 o0 o n bit none h t = record {
  bits = h.bits;
  further = bit;
  took = Took-then b0 b1 b2 h.bits (bit ∷ []) h.took (Took-one b1 b2 bit t);
  there = λ k. h.took.there k (t.came (still h.took.tells k));
  many = omega (arith, h.many, none);
  wrote = h.wrote;
}

-- a read failed, and took nothing
pub failed_piece : {E : Type 0} (most : ℕ) (a b : Left Bool) (e : E) → TakesPiece most a b (Err e) → FailedAfter a b []
failed_piece {E} most a b e t = record {
  tells = t.tells;
  left = λ k. sym (t.left k);
  unsteady = λ k s. no_ok (List Bool) E e (t.steady k s).0;
  faults = t.faults.failed;
  lent = t.lent;
}

pub failed_one : {E : Type 0} (a b : Left Bool) (e : E) → TakesOne a b (Err e) → FailedAfter a b []
failed_one {E} a b e t = record {
  tells = t.tells;
  left = λ k. sym (t.left k);
  unsteady = λ k s. no_ok (Option Bool) E e (t.steady k s).0;
  faults = t.faults.failed;
  lent = t.lent;
}

pub heard_no_more : (printed : List Bool → List ℕ) (b0 b1 b2 : Left Bool) (o0 o : Written ℕ) (n : ℕ)
    → Grows printed → ListeningTo printed b0 b1 o0 o n → FailedAfter b1 b2 [] → ListenedToFault printed b0 b2 o0 o
heard_no_more printed b0 b1 b2 o0 o n g h f = record {
  bits = h.bits;
  failed = record {
    tells = f.tells ∙ h.took.tells;
    left = λ k. h.took.left k ∙ ap (λ (rest : List Bool). h.bits ++ rest) (f.left (still h.took.tells k));
    unsteady = λ k s. f.unsteady (still h.took.tells k) (h.took.steady k s);
    faults = subst (λ (count : ℕ). Rose count b2.faults) h.took.faults f.faults;
    lent = f.lent ∙ h.took.lent;
  };
  there = λ k some. h.there k (some_long h.bits some);
  wrote = h.wrote;
  few = omega (arith, h.many);
  of_all = λ k.
      front_listened printed g h.bits b2.left b0.left (h.took.left k ∙ ap (λ (rest : List Bool). h.bits ++ rest) (f.left (still h.took.tells k))) (omega (arith, h.many));
}

-- a write failed
pub heard_unprinted : {E T F : Type 0} (printed : List Bool → List ℕ) (b0 b1 b2 : Left Bool) (o0 o1 o2 : Written ℕ) (n most : ℕ) (piece : List Bool) (e : F)
    → Grows printed → (h : ListeningTo printed b0 b1 o0 o1 n) → TakesPiece {E = E} most b1 b2 (Ok piece) → length piece ≤ n → Prints {T = T} printed h.bits piece o1 o2 (Err e)
    → ListenedUnheard printed b0 b2 o0 o2
heard_unprinted printed b0 b1 b2 o0 o1 o2 n most piece e g h taken fits p =
    let took = Took-then b0 b1 b2 h.bits piece h.took (Took-piece most b1 b2 piece taken) in
    let few : length (h.bits ++ piece) ≤ most_bits = omega (arith, length-append h.bits piece, h.many, fits) in
    let wrote : WroteFront o0 o2 (printed (h.bits ++ piece)) =
    subst (λ (said : List ℕ). WroteFront o0 o2 said) (sym p.more) (WroteFront-then o0 o1 o2 (printed h.bits) p.piece e h.wrote p.put) in
    record {
      bits = h.bits ++ piece;
      took = took;
      there = λ k. h.took.there k (taken.came (still h.took.tells k));
      few = few;
      wrote = wrote;
      of_all = λ k.
          WroteFront-longer o0 o2 (printed (h.bits ++ piece)) (printed (take most_bits b0.left)) wrote (front_listened printed g (h.bits ++ piece) b2.left b0.left (took.left k) few);
    }

-- a piece that isn't empty has a bit
pub not_empty : (piece : List Bool) (empty : Bool) → empty ≡ false → (IsTrue empty ↔ (piece ≡ [])) → 0 < length piece
not_empty [] empty some h = absurd (let t = h.1 refl in let f : IsTrue false = subst IsTrue some t in cc)
not_empty (b ∷ piece) empty some h = omega arith
