-- The table, piece by piece.
use Rattle.std.proofs.Common.{◌≡◌, ℕ, suc, ◌+◌, ◌≤◌, Bool, List, [], ◌∷◌, ◌++◌, length, length-append, Result, Ok, refl, sym, ◌∙◌, ap, arith, append_assoc, append-nil}
use Rattle.std.specs.Prelude.{codes, Option, Some}
use Rattle.codeword.specs.declared.functions.Function.{Function}
use Rattle.codeword.specs.declared.kinds.WordKind.{WordKind}
use Rattle.codeword.specs.declared.kinds.WordKind.TheVariants.{Address, Message}
use Rattle.codeword.specs.Functions.{letter_of}
use Rattle.page_text.specs.Line.{decimal_digits}
use Rattle.wires.specs.Written.{Written, Puts}
use Rattle.wires.proofs.Written.{Puts-nothing}
use Rattle.codeword.specs.Capcodes.{capcode_at}
use Rattle.receiver.specs.Stretches.{first_stretches, stretches}
use Rattle.receiver.specs.Slots.{Batch, TableEntry, Slot, entries}
use Rattle.receiver.specs.Fronts.{FrontEnd, FrontStandsFor}
use Rattle.listening.specs.Listening.{Prints}
use Rattle.listening.specs.Table.{TableStandsFor, batch_line, batches_in, entry_lines, hex_digits, kind_text, slot_line, table_of}

pub entry_lines-append : (n : ℕ) (es fs : List TableEntry) → entry_lines n (es ++ fs) ≡ entry_lines n es ++ entry_lines (n + batches_in es) fs
entry_lines-append n [] fs = let none : n ≡ n + 0 = omega arith in ap (λ (m : ℕ). entry_lines m fs) none
entry_lines-append n (Batch ∷ es) fs =
    let more : n + 1 + batches_in es ≡ n + suc (batches_in es) = omega arith in
    ap (λ (rest : List ℕ). batch_line (n + 1) ++ rest) (entry_lines-append (n + 1) es fs ∙ ap (λ (m : ℕ). entry_lines (n + 1) es ++ entry_lines m fs) more)
    ∙ sym (append_assoc (batch_line (n + 1)) (entry_lines (n + 1) es) (entry_lines (n + suc (batches_in es)) fs))
entry_lines-append n (Slot place word ∷ es) fs =
    ap (λ (rest : List ℕ). slot_line place word ++ rest) (entry_lines-append n es fs)
    ∙ sym (append_assoc (slot_line place word) (entry_lines n es) (entry_lines (n + batches_in es) fs))

pub batches_in-append : (es fs : List TableEntry) → batches_in (es ++ fs) ≡ batches_in es + batches_in fs
batches_in-append [] fs = omega arith
batches_in-append (Batch ∷ es) fs = omega (arith, batches_in-append es fs)
batches_in-append (Slot place word ∷ es) fs = batches_in-append es fs

-- no bits have no entry
pub entries-none : entries [] ≡ []
unfolding stretches first_stretches
entries-none = refl

-- an address word in a slot, and a message word
pub kind_text-address : (place : ℕ) (kind : Option WordKind) (said : WordKind) (high : ℕ) (function : Function) → kind ≡ Some said → said ≡ Address high function
    → kind_text place kind ≡ codes "address " ++ (decimal_digits 7 (capcode_at place high) ++ (32 ∷ letter_of function ∷ []))
kind_text-address place kind said high function e f = ap (kind_text place) (e ∙ ap (λ (k : WordKind). Some k) f)

pub kind_text-message : (place : ℕ) (kind : Option WordKind) (said : WordKind) (group : ℕ) → kind ≡ Some said → said ≡ Message group
    → kind_text place kind ≡ codes "message " ++ hex_digits 5 group
kind_text-message place kind said group e f = ap (kind_text place) (e ∙ ap (λ (k : WordKind). Some k) f)

-- what a piece adds to the table is printed
prints : {T E : Type 0} (bits next : List Bool) (added : List TableEntry) (n : ℕ) (piece : List ℕ) (o1 o2 : Written ℕ) (r : Result T E)
    → n ≡ batches_in (entries bits) → entries (bits ++ next) ≡ entries bits ++ added → entry_lines n added ≡ piece → Puts o1 o2 piece r
    → Prints table_of bits next o1 o2 r
prints bits next added n piece o1 o2 r count more is put = record {
  piece = piece;
  more =
      let behind : 0 + batches_in (entries bits) ≡ n = omega (arith, count) in
      ap (entry_lines 0) more ∙ (entry_lines-append 0 (entries bits) added
      ∙ ap (λ (rest : List ℕ). entry_lines 0 (entries bits) ++ rest) (ap (λ (m : ℕ). entry_lines m added) behind ∙ is));
  put = put;
}

-- a piece that adds nothing
pub prints_nothing : {E : Type 0} (front : FrontEnd) (n : ℕ) (bits next : List Bool) (o : Written ℕ) → TableStandsFor front n bits
    → entries (bits ++ next) ≡ entries bits ++ [] → Prints {E = E} table_of bits next o o (Ok (tt {0}))
prints_nothing {E} front n bits next o h more = prints bits next [] n [] o o (Ok (tt {0})) h.batches_are more refl (Puts-nothing {E = E} o (tt {0}))

-- a piece that completes a slot
pub prints_slot : {T E : Type 0} (front : FrontEnd) (n : ℕ) (bits next : List Bool) (place word : ℕ) (o1 o2 : Written ℕ) (r : Result T E) → TableStandsFor front n bits
    → entries (bits ++ next) ≡ entries bits ++ Slot place word ∷ [] → Puts o1 o2 (slot_line place word) r → Prints table_of bits next o1 o2 r
prints_slot front n bits next place word o1 o2 r h more put =
    prints bits next (Slot place word ∷ []) n (slot_line place word) o1 o2 r h.batches_are more (append-nil (slot_line place word)) put

-- a piece that completes a sync word
pub prints_batch : {T E : Type 0} (front : FrontEnd) (n : ℕ) (bits next : List Bool) (count : ℕ) (o1 o2 : Written ℕ) (r : Result T E) → TableStandsFor front n bits
    → count ≡ n + 1 → entries (bits ++ next) ≡ entries bits ++ Batch ∷ [] → Puts o1 o2 (batch_line count) r → Prints table_of bits next o1 o2 r
prints_batch front n bits next count o1 o2 r h count_is more put =
    prints bits next (Batch ∷ []) n (batch_line count) o1 o2 r h.batches_are more (append-nil (batch_line (n + 1)) ∙ ap batch_line (sym count_is)) put

-- what the table stands for then
pub stands_on : (front after : FrontEnd) (n : ℕ) (bits next : List Bool) (added : List TableEntry) (count : ℕ) → TableStandsFor front n bits
    → FrontStandsFor after (bits ++ next) → entries (bits ++ next) ≡ entries bits ++ added → count ≡ n + batches_in added → batches_in added ≤ length next
    → TableStandsFor after count (bits ++ next)
stands_on front after n bits next added count h stands more count_is one = record {
  front_is = stands;
  batches_are = omega (arith, count_is, h.batches_are, ap batches_in more, batches_in-append (entries bits) added);
  few = omega (arith, count_is, h.few, one, length-append bits next);
}
