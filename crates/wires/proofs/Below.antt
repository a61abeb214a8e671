-- What a sink over a file or over a connection does, from what the object below it did, and back.
use Rattle.std.proofs.Common.{◌≡◌, ◌≢◌, ℕ, ◌+◌, ◌-◌, ◌&&◌, nat_eq, Bool, true, false, List, [], ◌∷◌, length, drop, cond, Result, IsTrue, refl, sym, ap, subst, arith}
use Rattle.std.proofs.lemmas.Bool.Decides.{nat_tests}
use Rattle.std.proofs.lemmas.Slice.Eq.{bytes_eq-Decides}
use Rattle.std.specs.Borrow.{GName}
use Rattle.std.specs.Str.{bytes_eq}
use mathlib.Core.Path.{fun_ext}
use Rattle.wires.specs.Below.{KeepsAround, KeepsBeside, Speaks, other_files, other_line, quiet}
use Rattle.wires.specs.Files.{AppendsTo, Files}
use Rattle.wires.specs.Held.{Connection, Held, Lent, OfShelf, OfWire, OtherFiles, OtherLine, Text}
use Rattle.wires.specs.Line.{Line, Says, last}
use Rattle.wires.specs.Stacked.{file_over, saying_over}
use Rattle.wires.specs.Written.{Appends, Puts}
use Rattle.wires.proofs.Written.{and_both, and_one, still}

-- two choices by one test are alike where the second values are, unless the test holds
choice : {A : Type 0} (b : Bool) (d x y : A) → (b ≡ false → x ≡ y) → cond b d x ≡ cond b d y
choice true d x y h = refl
choice false d x y h = h refl

chosen : {A : Type 0} (b : Bool) (d x y : A) → b ≡ false → cond b d x ≡ cond b d y → x ≡ y
chosen true d x y n h = cc
chosen false d x y n h = h

no_true : (b : Bool) → (b ≡ true → ⊥) → b ≡ false
no_true true h = absurd (h refl)
no_true false h = refl

not_same : (a b : List ℕ) → bytes_eq a b ≡ false → a ≢ b
not_same a b h e = let t = (bytes_eq-Decides a b).1 e in cc

same_not : (a b : List ℕ) → a ≢ b → bytes_eq a b ≡ false
same_not a b h = no_true (bytes_eq a b) (λ t. h ((bytes_eq-Decides a b).0 t))

-- what holds at a name and at all others holds at all
at_all : {A : Type 0} (f g : List ℕ → A) (name other : List ℕ) (b : Bool) → bytes_eq other name ≡ b → f name ≡ g name → (other ≢ name → f other ≡ g other) → f other ≡ g other
at_all f g name other true t e h = let same : other ≡ name = (bytes_eq-Decides other name).0 t in subst (λ (x : List ℕ). f x ≡ g x) (sym same) e
at_all f g name other false t e h = h (not_same other name t)

other_files-same : {T E : Type 0} (name : List ℕ) (old new : Files) (piece : List ℕ) (r : Result T E) → AppendsTo old new name piece r → other_files name new ≡ other_files name old
other_files-same name old new piece r h =
    let there : new.there ≡ old.there = fun_ext (λ other. at_all new.there old.there name other (bytes_eq other name) refl h.there (λ n. (h.touches.others other n).there)) in
    let file : (other_files name new).file ≡ (other_files name old).file = fun_ext (λ other. choice (bytes_eq other name) [] (new.file other) (old.file other) (λ n. (h.touches.others other (not_same other name n)).file)) in
    let fresh : new.fresh ≡ old.fresh = fun_ext (λ other. at_all new.fresh old.fresh name other (bytes_eq other name) refl h.fresh (λ n. (h.touches.others other n).fresh)) in
    let room : (other_files name new).room ≡ (other_files name old).room = fun_ext (λ other. choice (bytes_eq other name) 0 (new.room other) (old.room other) (λ n. (h.touches.others other (not_same other name n)).room)) in
    λ i. record { there = there i; file = file i; fresh = fresh i; room = room i; fresh_room = h.touches.fresh_room i; further = h.further i }

-- an append below is a write to the file
pub file_puts : {T E : Type 0} (name : GName) (file : List ℕ) (old new : Files) (piece : List ℕ) (r : Result T E) → AppendsTo old new file piece r → Puts (file_over name file old) (file_over name file new) piece r
file_puts name file old new piece r h = record {
  tells = h.touches.tells;
  held = h.bytes;
  room = h.room;
  steady = λ t s fits.
      let two = and_both old.steady (old.fresh file) s in
      let after = h.steady t two.0 two.1 fits in
      (after.0, and_one new.steady (new.fresh file) after.1 (still h.fresh two.1));
  faults = h.touches.faults;
  lent = let others = other_files-same file old new piece r h in let below = h.touches.lent in λ i. Lent name ∷ Text file ∷ OfShelf (others i) ∷ below i;
}

-- what a sink over a file holds
abbrev shelf_of : Files → List Held → OtherFiles
shelf_of s (Lent n ∷ Text t ∷ OfShelf o ∷ ls) = o
shelf_of s _ = other_files [] s

abbrev text_of : List Held → List ℕ
text_of (Lent n ∷ Text t ∷ ls) = t
text_of _ = []

-- what a sink over a file leaves of the shelf, where what it holds is as it was
pub file_keeps : (m n : GName) (a b : List ℕ) (old new : Files) → (file_over m b new).lent ≡ (file_over n a old).lent → KeepsBeside old new a
file_keeps m n a b old new e =
    let t : b ≡ a = ap text_of e in
    let o : other_files a new ≡ other_files a old = subst (λ (x : List ℕ). other_files x new ≡ other_files a old) t (ap (shelf_of old) e) in
    record {
      others = λ other ne.
          let k = same_not other a ne in
          record {
            there = ap (λ (s : OtherFiles). s.there other) o;
            file = chosen (bytes_eq other a) [] (new.file other) (old.file other) k (ap (λ (s : OtherFiles). s.file other) o);
            fresh = ap (λ (s : OtherFiles). s.fresh other) o;
            room = chosen (bytes_eq other a) 0 (new.room other) (old.room other) k (ap (λ (s : OtherFiles). s.room other) o);
          };
      there = ap (λ (s : OtherFiles). s.there a) o;
      fresh = ap (λ (s : OtherFiles). s.fresh a) o;
      fresh_room = ap (λ (s : OtherFiles). s.fresh_room) o;
      further = ap (λ (s : OtherFiles). s.further) o;
      lent = ap (λ (ls : List Held). drop 3 ls) e;
    }

-- a write to the file, in one call or in several, is an append below
pub file_back : {T E : Type 0} (m n : GName) (a b : List ℕ) (old new : Files) (piece : List ℕ) (r : Result T E) → Puts (file_over n a old) (file_over m b new) piece r → AppendsTo old new a piece r
file_back m n a b old new piece r p =
    let same : b ≡ a = ap text_of p.lent in
    let k = file_keeps m n a b old new p.lent in
    let h : Puts (file_over n a old) (file_over m a new) piece r = subst (λ (x : List ℕ). Puts (file_over n a old) (file_over m x new) piece r) same p in
    record {
      touches = record { tells = h.tells; others = k.others; fresh_room = k.fresh_room; faults = h.faults; lent = k.lent };
      bytes = h.held;
      there = k.there;
      fresh = k.fresh;
      room = h.room;
      further = k.further;
      steady = λ t s fresh fits. let after = h.steady t (and_one old.steady (old.fresh a) s fresh) fits in (after.0, (and_both new.steady (new.fresh a) after.1).0);
    }

same_number : (k n : ℕ) → nat_eq k n ≡ true → k ≡ n
same_number k n h = grind (arith, nat_tests)

number_same : (k n : ℕ) → k ≡ n → IsTrue (nat_eq k n)
number_same k n h = grind (arith, nat_tests)

quiet_alike : (b c : Bool) (e : c ≡ b) (x y : Connection) → (b ≡ true → quiet y ≡ quiet x) → (b ≡ false → y ≡ x) → cond c (quiet y) y ≡ cond b (quiet x) x
quiet_alike true c e x y h k = rw e (h refl)
quiet_alike false c e x y h k = rw e (k refl)

other_line-same : {T E : Type 0} (old new : Line) (piece : List ℕ) (r : Result T E) → Says old new piece r → other_line new ≡ other_line old
other_line-same old new piece r h =
    let o = h.uses.opened in
    let p = h.uses.is_open in
    let test : (k : ℕ) → (new.is_open && nat_eq k (new.opened - 1)) ≡ (old.is_open && nat_eq k (old.opened - 1)) = λ k. rw (o, p) refl in
    let one : quiet (new.connection (old.opened - 1)) ≡ quiet (old.connection (old.opened - 1)) = λ i. record { heard = h.heard.heard i; rest = h.heard.rest i; said = []; turns = h.heard.turns i; room = 0 } in
    let c : (other_line new).connection ≡ (other_line old).connection = fun_ext (λ k.
    quiet_alike (old.is_open && nat_eq k (old.opened - 1)) (new.is_open && nat_eq k (new.opened - 1)) (test k) (old.connection k) (new.connection k)
    (λ t. let e = same_number k (old.opened - 1) (and_both old.is_open (nat_eq k (old.opened - 1)) t).1 in subst (λ (n : ℕ). quiet (new.connection n) ≡ quiet (old.connection n)) (sym e) one)
    (λ f. h.uses.others k (λ t e. let both = and_one old.is_open (nat_eq k (old.opened - 1)) t (number_same k (old.opened - 1) e) in cc))) in
    λ i. record { count = h.uses.keeps.count i; connection = c i; opened = o i; is_open = p i; asked = h.uses.asked i; gate = h.gate i; hear = h.hear i; hang = h.hang i }

-- a `say` below is a write to the open connection
pub saying_puts : {T E : Type 0} (name : GName) (old new : Line) (piece : List ℕ) (r : Result T E) → Says old new piece r → Puts (saying_over name old) (saying_over name new) piece r
saying_puts name old new piece r h =
    let e = h.uses.opened in
    record {
      tells = h.uses.keeps.tells;
      held = λ t. subst (λ (n : ℕ). Appends (old.connection (last old)).said (new.connection (n - 1)).said piece r) (sym e) (h.said t);
      room = λ t. subst (λ (n : ℕ). (new.connection (n - 1)).room + length (new.connection (n - 1)).said ≡ (old.connection (last old)).room + length (old.connection (last old)).said) (sym e) (h.room t);
      steady = λ t s fits.
          let two = and_both old.steady old.is_open s in
          let after = h.steady t two.0 two.1 fits in
          (after.0, and_one new.steady new.is_open after.1 (still h.uses.is_open two.1));
      faults = h.cause;
      lent = let others = other_line-same old new piece r h in let below = h.uses.keeps.lent in λ i. Lent name ∷ OfWire (others i) ∷ below i;
    }

open_alike : (b : Bool) (x y : Connection) → b ≡ true → cond b (quiet y) y ≡ cond b (quiet x) x → quiet y ≡ quiet x
open_alike true x y t h = h
open_alike false x y t h = cc

closed_alike : (b : Bool) (x y : Connection) → b ≡ false → cond b (quiet y) y ≡ cond b (quiet x) x → y ≡ x
closed_alike true x y t h = cc
closed_alike false x y t h = h

-- what a sink over the open connection holds
abbrev wire_of : Line → List Held → OtherLine
wire_of l (Lent n ∷ OfWire w ∷ ls) = w
wire_of l _ = other_line l

-- what a sink over the open connection leaves of the wire, where what it holds is as it was
pub saying_keeps : (m n : GName) (old new : Line) → (saying_over m new).lent ≡ (saying_over n old).lent → KeepsAround old new
saying_keeps m n old new h =
    let w : other_line new ≡ other_line old = ap (wire_of old) h in
    let o : new.opened ≡ old.opened = ap (λ (l : OtherLine). l.opened) w in
    let p : new.is_open ≡ old.is_open = ap (λ (l : OtherLine). l.is_open) w in
    let c : (k : ℕ) → cond (old.is_open && nat_eq k (last old)) (quiet (new.connection k)) (new.connection k) ≡ cond (old.is_open && nat_eq k (last old)) (quiet (old.connection k)) (old.connection k) = λ k.
    subst (λ (x : ℕ). cond (old.is_open && nat_eq k (x - 1)) (quiet (new.connection k)) (new.connection k) ≡ cond (old.is_open && nat_eq k (last old)) (quiet (old.connection k)) (old.connection k)) o
    (subst (λ (b : Bool). cond (b && nat_eq k (last new)) (quiet (new.connection k)) (new.connection k) ≡ cond (old.is_open && nat_eq k (last old)) (quiet (old.connection k)) (old.connection k)) p
    (ap (λ (l : OtherLine). l.connection k) w)) in
    let q : IsTrue old.is_open → quiet (new.connection (last old)) ≡ quiet (old.connection (last old)) = λ t.
    open_alike (old.is_open && nat_eq (last old) (last old)) (old.connection (last old)) (new.connection (last old)) (and_one old.is_open (nat_eq (last old) (last old)) t (number_same (last old) (last old) refl)) (c (last old)) in
    record {
      count = ap (λ (l : OtherLine). l.count) w;
      others = λ k ne. closed_alike (old.is_open && nat_eq k (last old)) (old.connection k) (new.connection k)
          (no_true (old.is_open && nat_eq k (last old)) (λ t. let two = and_both old.is_open (nat_eq k (last old)) t in ne two.0 (same_number k (last old) two.1))) (c k);
      heard = λ t. record { heard = ap (λ (x : Connection). x.heard) (q t); rest = ap (λ (x : Connection). x.rest) (q t); turns = ap (λ (x : Connection). x.turns) (q t) };
      opened = o;
      is_open = p;
      asked = ap (λ (l : OtherLine). l.asked) w;
      gate = ap (λ (l : OtherLine). l.gate) w;
      hear = ap (λ (l : OtherLine). l.hear) w;
      hang = ap (λ (l : OtherLine). l.hang) w;
      lent = ap (λ (ls : List Held). drop 2 ls) h;
    }

-- a write to the open connection, in one call or in several, as the wire sees it
pub saying_back : {T E : Type 0} (m n : GName) (old new : Line) (piece : List ℕ) (r : Result T E) → Puts (saying_over n old) (saying_over m new) piece r → Speaks old new piece r
saying_back m n old new piece r h =
    let k = saying_keeps m n old new h.lent in
    record {
      tells = h.tells;
      around = k;
      said = λ t. subst (λ (x : ℕ). Appends (old.connection (last old)).said (new.connection (x - 1)).said piece r) k.opened (h.held t);
      room = λ t. subst (λ (x : ℕ). (new.connection (x - 1)).room + length (new.connection (x - 1)).said ≡ (old.connection (last old)).room + length (old.connection (last old)).said) k.opened (h.room t);
      steady = λ t s open_now fits. let after = h.steady t (and_one old.steady old.is_open s open_now) fits in (after.0, (and_both new.steady new.is_open after.1).0);
      cause = h.faults;
    }
