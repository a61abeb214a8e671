-- A transmission that is appended to a file.
use Rattle.std.proofs.Common.{◌≡◌, ℕ, ◌+◌, ◌*◌, Bool, true, false, List, [], ◌∷◌, length, drop, Result, OnOk, IsTrue, subst, ap}
use Rattle.std.specs.Prelude.{if◌then◌else◌}
use Rattle.std.specs.Borrow.{GName}
use Rattle.air.specs.Sends.{SendsTransmission}
use Rattle.bits.specs.Bits.{bytes_bits}
use Rattle.endings.proofs.OneBytes.{told_back}
use Rattle.page_pool.specs.Pool.{Pool, cells, pages}
use Rattle.wires.proofs.Below.{file_keeps}
use Rattle.wires.proofs.Written.{and_both, and_one}
use Rattle.wires.specs.Files.{Files}
use Rattle.wires.specs.Held.{Bytes, Held, Lent, Text}
use Rattle.wires.specs.Stacked.{are_bytes, bits_over, file_over}
use Rattle.wires.specs.Written.{Appends}
use Rattle.serving.specs.Serving.{SendsTo}

-- the name that a file as a sink holds
abbrev name_of : List Held → List ℕ
name_of (Lent n ∷ Text t ∷ ls) = t
name_of _ = []

-- whether what was written below is bytes, as bits over a sink hold it
abbrev are_told : List Held → Bool
are_told (Lent n ∷ Bytes b ∷ ls) = b
are_told _ = true

-- what was written over a file was appended to it
pub sends_to : {T E : Type 0} (n m a b : GName) (name name2 : List ℕ) (old new : Files) (before after : Pool) (r : Result T E)
    → SendsTransmission (pages before) (bits_over n (file_over a name old)) (bits_over m (file_over b name2 new)) r → OnOk r (after.live ≡ []) → cells after ≡ cells before → SendsTo before after old new name r
sends_to n m a b name name2 old new before after r h none same =
    let e : (file_over b name2 new).lent ≡ (file_over a name old).lent = ap (λ (ls : List Held). drop 2 ls) h.puts.lent in
    let f : name2 ≡ name = ap name_of e in
    let k = file_keeps b a name name2 old new e in
    record {
      bits = h.bits;
      is_air = h.air;
      tells = h.puts.tells;
      bits_are = λ t. subst (λ (z : List ℕ). Appends (bytes_bits (old.file name)) (bytes_bits (new.file z)) h.bits r) f (h.puts.held t);
      bytes_stay = λ t.
          subst (λ (z : List ℕ). are_bytes (new.file z) ≡ are_bytes (old.file name)) f (told_back old.tells new.tells (are_bytes (old.file name)) (are_bytes (new.file name2)) h.puts.tells t (ap are_told h.puts.lent));
      there = k.there;
      fresh = k.fresh;
      room = λ t. subst (λ (z : List ℕ). 8 * new.room z + length (bytes_bits (new.file z)) ≡ 8 * old.room name + length (bytes_bits (old.file name))) f (h.puts.room t);
      others = k.others;
      fresh_room = k.fresh_room;
      further = k.further;
      lent = k.lent;
      steady = λ t s fresh fits. let q = h.puts.steady t (and_one old.steady (old.fresh name) s fresh) fits in (q.0, (and_both new.steady (new.fresh name2) q.1).0);
      cause = h.puts.faults;
      emptied = none;
      cells_stay = same;
    }
