-- Pieces that a listener takes.
use Rattle.std.proofs.Common.{◌≡◌, ℕ, ◌+◌, ◌<◌, inl, inr, Bool, List, [], ◌++◌, length, length-append, Option, Some, None, arith, refl, sym, ◌∙◌, ap, subst, append_assoc, append-nil}
use Rattle.std.proofs.lemmas.Bool.{cases_lt}
use Rattle.receiver.specs.Heard.{HeardPage, heard}
use Rattle.receiver.specs.Slots.{slots_in}
use Rattle.receiver.specs.Listeners.{Listener, StandsFor, is_one_of, ready_pages, ready_answer}
use Rattle.receiver.specs.declared.ready.Ready.{Ready}
use Rattle.wires.specs.Pieces.{taken_of}
use Rattle.wires.proofs.Pieces.{taken_is, taken_twice}

-- a listener took the first bits of a piece, which completed these pages, and these are left
pub record Fed (before after : Listener) (piece left : List Bool) (pages : List HeardPage) : Type 0 where
  pub whole : piece ≡ taken_of piece left ++ left
  pub capcodes : after.capcodes ≡ before.capcodes
  pub holders : after.holders ≡ before.holders
  pub stands : (bits : List Bool) → StandsFor before bits → StandsFor after (bits ++ taken_of piece left)
  pub page : (bits : List Bool) → StandsFor before bits
      → heard (is_one_of before.capcodes) (bits ++ taken_of piece left) ≡ heard (is_one_of before.capcodes) bits ++ pages

-- the steps count the slots of what was taken
abbrev pub Counts : Listener → ℕ → ℕ → List Bool → List Bool → Type 0
Counts before n m piece left = (bits : List Bool) → StandsFor before bits → m + slots_in bits ≡ n + slots_in (bits ++ taken_of piece left)

none_taken : (piece : List Bool) → taken_of piece piece ≡ []
none_taken piece = taken_is piece [] piece refl

pub fed_none : (listener : Listener) (piece : List Bool) → Fed listener listener piece piece []
fed_none listener piece =
    let t = none_taken piece in
    record {
      whole = subst (λ (xs : List Bool). piece ≡ xs ++ piece) (sym t) refl;
      capcodes = refl;
      holders = refl;
      stands = λ (bits : List Bool) (h : StandsFor listener bits). subst (λ (xs : List Bool). StandsFor listener xs) (sym (ap (λ (xs : List Bool). bits ++ xs) t ∙ append-nil bits)) h;
      page = λ (bits : List Bool) (h : StandsFor listener bits).
          ap (heard (is_one_of listener.capcodes)) (ap (λ (xs : List Bool). bits ++ xs) t ∙ append-nil bits) ∙ sym (append-nil (heard (is_one_of listener.capcodes) bits));
    }

pub counts_none : (listener : Listener) (n : ℕ) (piece : List Bool) → Counts listener n n piece piece
counts_none listener n piece bits h = ap (λ (xs : List Bool). n + slots_in xs) (sym (ap (λ (xs : List Bool). bits ++ xs) (none_taken piece) ∙ append-nil bits))

-- bits in two parts
pub both_parts : (bits piece left rest : List Bool) → piece ≡ taken_of piece left ++ left → left ≡ taken_of left rest ++ rest
    → bits ++ taken_of piece rest ≡ (bits ++ taken_of piece left) ++ taken_of left rest
both_parts bits piece left rest e f =
    ap (λ (xs : List Bool). bits ++ xs) (taken_twice piece left rest e f) ∙ sym (append_assoc bits (taken_of piece left) (taken_of left rest))

pub fed_then : (a b c : Listener) (piece left rest : List Bool) (pages : List HeardPage) → Fed a b piece left [] → Fed b c left rest pages → Fed a c piece rest pages
fed_then a b c piece left rest pages f g =
    record {
      whole =
          f.whole ∙ ap (λ (xs : List Bool). taken_of piece left ++ xs) g.whole
          ∙ sym (append_assoc (taken_of piece left) (taken_of left rest) rest)
          ∙ ap (λ (xs : List Bool). xs ++ rest) (sym (taken_twice piece left rest f.whole g.whole));
      capcodes = g.capcodes ∙ f.capcodes;
      holders = g.holders ∙ f.holders;
      stands = λ (bits : List Bool) (h : StandsFor a bits).
          subst (λ (xs : List Bool). StandsFor c xs) (sym (both_parts bits piece left rest f.whole g.whole)) (g.stands (bits ++ taken_of piece left) (f.stands bits h));
      page = λ (bits : List Bool) (h : StandsFor a bits).
          let p : heard (is_one_of a.capcodes) ((bits ++ taken_of piece left) ++ taken_of left rest) ≡ heard (is_one_of a.capcodes) (bits ++ taken_of piece left) ++ pages =
          subst (λ (cs : List ℕ). heard (is_one_of cs) ((bits ++ taken_of piece left) ++ taken_of left rest) ≡ heard (is_one_of cs) (bits ++ taken_of piece left) ++ pages) f.capcodes
          (g.page (bits ++ taken_of piece left) (f.stands bits h)) in
          ap (heard (is_one_of a.capcodes)) (both_parts bits piece left rest f.whole g.whole) ∙ p
          ∙ ap (λ (xs : List HeardPage). xs ++ pages) (f.page bits h ∙ append-nil (heard (is_one_of a.capcodes) bits));
    }

pub counts_then : (a b : Listener) (piece left rest : List Bool) (n m k : ℕ) → Fed a b piece left [] → left ≡ taken_of left rest ++ rest
    → Counts a n m piece left → Counts b m k left rest → Counts a n k piece rest
counts_then a b piece left rest n m k f e p q bits h =
    let x = p bits h in
    let y = q (bits ++ taken_of piece left) (f.stands bits h) in
    let z : slots_in (bits ++ taken_of piece rest) ≡ slots_in ((bits ++ taken_of piece left) ++ taken_of left rest) = ap slots_in (both_parts bits piece left rest f.whole e) in
    omega arith

-- where no page is answered, none is complete
pub none_ready : (answer : Option Ready) (ready : Option HeardPage) → answer ≡ None → answer ≡ ready_answer ready → ready_pages ready ≡ []
none_ready answer None e f = refl
none_ready answer (Some page) e f = cc

-- a listener took all of a piece that isn't empty, or some of it
pub less : (piece left rest : List Bool) → piece ≡ taken_of piece left ++ left → length rest < length left → length rest < length piece
less piece left rest e h = let n = ap length e in let l = length-append (taken_of piece left) left in omega arith

-- a listener took some of a piece, where what it took last is some of what was left
pub some_less : (piece left rest : List Bool) → piece ≡ taken_of piece left ++ left → left ≡ taken_of left rest ++ rest → (0 < length left → length rest < length left)
    → 0 < length piece → length rest < length piece
some_less piece left rest e f some has =
    let n = ap length e in
    let l = length-append (taken_of piece left) left in
    let m = ap length f in
    let k = length-append (taken_of left rest) rest in
    elim (cases_lt 0 (length left)) [
      | inl more ↦ let h = some more in omega arith
      | inr none ↦ omega arith
    ]
