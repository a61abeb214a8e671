-- A page that is sent over a sink of bytes.
use Rattle.std.proofs.Common.{◌≡◌, ℕ, Bool, List, [], ◌∷◌, drop, Result, Ok, Err, sym, ◌∙◌, ap, subst}
use Rattle.std.specs.Borrow.{GName}
use Rattle.page_text.specs.Page.{Page}
use Rattle.air.specs.Air.{IsAir}
use Rattle.air.specs.Sends.{SendsTransmission as AirSends}
use Rattle.wires.specs.Held.{Bytes, Held, Lent}
use Rattle.wires.specs.Stacked.{bits_over}
use Rattle.wires.specs.Written.{Puts, Written}
use Rattle.wires.proofs.Written.{no_ok}
use Rattle.one_block.specs.Sends.{SendsPage, SendsAll}

-- what a sink of bytes got, by the bits over it
same_lent : (from to : GName) (b c : Bool) (old new : List Held) → ◌≡◌ {A = List Held} (Lent to ∷ Bytes c ∷ new) (Lent from ∷ Bytes b ∷ old) → ◌≡◌ {A = List Held} (Bytes c ∷ new) (Bytes b ∷ old)
same_lent from to b c old new e = ap (drop 1) e

sends_all : {T E : Type 0} (from to : GName) (old new : Written ℕ) (bits : List Bool) (r : Result T E) → Puts (bits_over from old) (bits_over to new) bits r → SendsAll old new bits r
sends_all from to old new bits (Ok x) h = record {
  tells = h.tells;
  held = h.held;
  room = h.room;
  steady = λ t s fits. (h.steady t s fits).1;
  faults = h.faults.kept;
  lent = same_lent from to _ _ old.lent new.lent h.lent;
}
sends_all {T} {E} from to old new bits (Err e) h = record {
  tells = h.tells;
  held = h.held;
  room = h.room;
  unfit = λ t s fits. no_ok T E e (h.steady t s fits).0;
  faults = h.faults.failed;
  lent = same_lent from to _ _ old.lent new.lent h.lent;
}

same_name : (from to : GName) (old new : List Held) → ◌≡◌ {A = List Held} (Lent to ∷ new) (Lent from ∷ old) → to ≡ from
same_name from to old new e = cc

-- A page was sent over a sink that was lent, or a front of its transmission. The sink comes back as it was left, where the reference
-- is still the one that was lent.
pub page_sends : {Out T E : Type 0} (state : Out → Written ℕ) (accepted : List Page) (page : Page) (name from to : GName) (old below left final : Out)
    (r : Result T E) → accepted ≡ page ∷ [] → below ≡ old → from ≡ name → (name ≡ to → final ≡ left)
    → AirSends accepted (bits_over from (state below)) (bits_over to (state left)) r → SendsPage page (state old) (state final) r
page_sends state accepted page name from to old below left final r is e n back h =
    let same : to ≡ from = same_name from to _ _ h.puts.lent in
    let came : final ≡ left = back (sym n ∙ sym same) in
    let sent : SendsAll (state below) (state left) h.bits r = sends_all from to (state below) (state left) h.bits r h.puts in
    record {
      bits = h.bits;
      air = subst (λ (a : List Page). IsAir a h.bits) is h.air;
      sends = subst (λ (o : _). SendsAll (state o) (state final) h.bits r) e (subst (λ (o : _). SendsAll (state below) (state o) h.bits r) (sym came) sent);
    }
