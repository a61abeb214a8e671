-- What a call of a wire in memory does, from what it does exactly.
use Rattle.std.proofs.Common.{zero, suc, map, Global, Vec, ◌≡◌, ◌≢◌, ℕ, ◌+◌, ◌-◌, ◌<◌, ◌≤◌, nat_eq, nat_le, inl, inr, Bool, true, false, List, [], ◌∷◌, ◌++◌, length, take, drop, set, get_or, min, Result, Ok, Err, IsTrue, IsFalse, refl, sym, ◌∙◌, ap, subst, arith, append-nil, length-append, take-append-drop}
use Rattle.std.proofs.lemmas.Bool.Decides.{nat_tests}
use Rattle.std.proofs.lemmas.List.{length-map, get_or-set_same, get_or-set_other, length-set}
use Rattle.wires.specs.Causes.{HasCause, next_count}
use Rattle.wires.specs.FakeWire.{AllBlankFrom, CountsKind, DialsInMemory, HangsUpInMemory, HearsInMemory, ListensInMemory, OpensInMemory, SaysInMemory, WireInMemory, gate_fault, hang_fault, hear_fault, heard_on, last_of, said_on, say_fault, unused, wire_tells}
use Rattle.wires.specs.Held.{Connection}
use Rattle.wires.specs.Left.{Consumes}
use Rattle.wires.specs.Line.{Dials, HangsUp, Hears, IsBlank, KeepsLineAndHang, Listens, Opens, Says, TurnsAfter, Uses}
use Rattle.wires.specs.Silent.{LineFaults, silent_connection}
use Rattle.wires.proofs.Calls.{steady_later, steady_next}

-- the count of the kind of the call has its cause
kind_cause : {T E : Type 0} (fault : LineFaults → LineFaults) (count : LineFaults → ℕ) (old new : WireInMemory) (r : Result T E) → CountsKind fault old new r
    → ((f : LineFaults) → count (fault f) ≡ next_count (count f)) → count old.faults ≤ count new.faults → HasCause (count old.faults) (count new.faults) r
kind_cause fault count old new (Ok x) h e le = record { later = le; failed = tt; kept = ap count h.kept }
kind_cause fault count old new (Err x) h e le = record { later = le; failed = let one = ap count h.counted ∙ e old.faults in omega (arith, one); kept = tt }

-- the counts of other kinds stay
kind_stays : {T E : Type 0} (fault : LineFaults → LineFaults) (count : LineFaults → ℕ) (old new : WireInMemory) (r : Result T E) → CountsKind fault old new r
    → ((f : LineFaults) → count (fault f) ≡ count f) → count new.faults ≡ count old.faults
kind_stays fault count old new (Ok x) h e = ap count h.kept
kind_stays fault count old new (Err x) h e = ap count h.counted ∙ e old.faults

gate_others : {T E : Type 0} (old new : WireInMemory) (r : Result T E) → CountsKind gate_fault old new r → KeepsLineAndHang (wire_tells old) (wire_tells new)
gate_others old new r h = record {
  hear = kind_stays gate_fault (λ f. f.hear) old new r h (λ f. refl);
  say = kind_stays gate_fault (λ f. f.say) old new r h (λ f. refl);
  hang = kind_stays gate_fault (λ f. f.hang) old new r h (λ f. refl);
}

-- connections on which nothing was heard or said
all_unused : (heard : List (Vec ℕ Global)) (room k : ℕ) → k < length heard → IsBlank (get_or (map (λ bytes. unused bytes.items room) heard) k silent_connection)
all_unused [] room k lt = absurd (omega (arith, lt))
all_unused (x ∷ xs) room zero lt = record { heard = refl; said = refl; turns = refl }
all_unused (x ∷ xs) room (suc k) lt = all_unused xs room k (omega (arith, lt))

pub all_blank : (heard : List (Vec ℕ Global)) (room : ℕ) (cs : List Connection) → cs ≡ map (λ bytes. unused bytes.items room) heard → AllBlankFrom 0 cs
all_blank heard room cs e k le lt = rw e (all_unused heard room k (omega (arith, lt, ap length e, length-map heard (λ (bytes : Vec ℕ Global). unused bytes.items room))))

is_open_then : (b : Bool) → (IsFalse b → ⊥) → IsTrue b
is_open_then true h = refl
is_open_then false h = absurd (h refl)

open_not : (b : Bool) → IsTrue b → IsFalse b → ⊥
open_not true t f = cc
open_not false t f = cc

below_unless : (b : Bool) (m n : ℕ) → nat_le n m ≡ b → (n ≤ m → ⊥) → m < n
below_unless true m n e h = absurd (h (grind (arith, nat_tests, e)))
below_unless false m n e h = grind (arith, nat_tests, e)

at_most : (b : Bool) (m n : ℕ) → nat_le m n ≡ b → (n < m → ⊥) → m ≤ n
at_most true m n e h = grind (arith, nat_tests, e)
at_most false m n e h = absurd (h (grind (arith, nat_tests, e)))

steady_fails : (old : WireInMemory) {A : Type 0} → IsTrue (wire_tells old).steady → IsTrue (Rattle.wires.specs.Calls.next_fails old.calls) → A
steady_fails old s t = let no = steady_next old.calls s in cc

pub listens_exactly : {T E : Type 0} (old new : WireInMemory) (at : List ℕ) (r : Result T E) → ListensInMemory old new at r → old.calls.made ≤ new.calls.made → old.faults.gate ≤ new.faults.gate
    → AllBlankFrom old.opened old.connections → Listens (wire_tells old) (wire_tells new) at r
listens_exactly old new at (Ok x) h made faults blank = record {
  keeps = record { tells = refl; count = ap length h.connections; lent = refl };
  blank = λ _. blank;
  connections = λ k. ap (λ (cs : List Connection). get_or cs k silent_connection) h.connections;
  asked = λ _. h.asked;
  opened = h.opened;
  is_open = h.is_open;
  steady = λ _ s. (refl, steady_later old.calls new.calls h.counts.calls.failing made s);
  cause = kind_cause gate_fault (λ f. f.gate) old new (Ok x) h.counts (λ f. refl) faults;
  others = gate_others old new (Ok x) h.counts;
}
listens_exactly old new at (Err e) h made faults blank = record {
  keeps = record { tells = refl; count = ap length h.connections; lent = refl };
  blank = λ _. blank;
  connections = λ k. ap (λ (cs : List Connection). get_or cs k silent_connection) h.connections;
  asked = λ _. h.asked;
  opened = h.opened;
  is_open = h.is_open;
  steady = λ _ s. steady_fails old s (h.fails.0 refl);
  cause = kind_cause gate_fault (λ f. f.gate) old new (Err e) h.counts (λ f. refl) faults;
  others = gate_others old new (Err e) h.counts;
}

none_left : (came : Bool) (opened count : ℕ) → (IsTrue came → opened < count) × (opened < count → IsTrue came) → (IsFalse came → count ≤ opened) × (count ≤ opened → IsFalse came)
none_left true opened count h = (λ f. cc, λ le. let lt = h.0 refl in absurd (omega (arith, lt, le)))
none_left false opened count h = (λ f. at_most (nat_le count opened) count opened refl (λ lt. let t = h.1 lt in cc), λ le. refl)

pub opens_exactly : {E : Type 0} (old new : WireInMemory) (r : Result Bool E) → OpensInMemory old new r → old.calls.made ≤ new.calls.made → old.faults.gate ≤ new.faults.gate
    → AllBlankFrom old.opened old.connections → Opens (wire_tells old) (wire_tells new) r
opens_exactly old new (Ok came) h made faults blank = record {
  keeps = record { tells = refl; count = ap length h.connections; lent = refl };
  blank = λ _. blank;
  connections = λ k. ap (λ (cs : List Connection). get_or cs k silent_connection) h.connections;
  asked = h.asked;
  opened = λ _ t. (h.came.0 t, (h.opened t).0, (h.opened t).1);
  none = λ _. none_left came old.opened (length old.connections) h.came;
  not_opened = λ _. h.none;
  failed = λ _. tt;
  steady = λ _ s. (refl, steady_later old.calls new.calls h.counts.calls.failing made s);
  cause = kind_cause gate_fault (λ f. f.gate) old new (Ok came) h.counts (λ f. refl) faults;
  others = gate_others old new (Ok came) h.counts;
}
opens_exactly old new (Err e) h made faults blank = record {
  keeps = record { tells = refl; count = ap length h.connections; lent = refl };
  blank = λ _. blank;
  connections = λ k. ap (λ (cs : List Connection). get_or cs k silent_connection) h.connections;
  asked = h.asked;
  opened = λ _. tt;
  none = λ _. tt;
  not_opened = λ _. tt;
  failed = λ _. h.failed;
  steady = λ _ s. steady_fails old s (h.fails.0 refl);
  cause = kind_cause gate_fault (λ f. f.gate) old new (Err e) h.counts (λ f. refl) faults;
  others = gate_others old new (Err e) h.counts;
}

pub dials_exactly : {T E : Type 0} (old new : WireInMemory) (at : List ℕ) (r : Result T E) → DialsInMemory old new at r → old.calls.made ≤ new.calls.made → old.faults.gate ≤ new.faults.gate
    → AllBlankFrom old.opened old.connections → Dials (wire_tells old) (wire_tells new) at r
dials_exactly old new at (Ok x) h made faults blank = record {
  keeps = record { tells = refl; count = ap length h.connections; lent = refl };
  blank = λ _. blank;
  connections = λ k. ap (λ (cs : List Connection). get_or cs k silent_connection) h.connections;
  asked = λ _. h.asked;
  opened = λ _. (below_unless (nat_le (length old.connections) old.opened) old.opened (length old.connections) refl (λ le. let bad = h.fails.1 (inr le) in cc), h.opened.0, h.opened.1);
  failed = λ _. tt;
  steady = λ _ s _. (refl, steady_later old.calls new.calls h.counts.calls.failing made s);
  cause = kind_cause gate_fault (λ f. f.gate) old new (Ok x) h.counts (λ f. refl) faults;
  others = gate_others old new (Ok x) h.counts;
}
dials_exactly old new at (Err e) h made faults blank = record {
  keeps = record { tells = refl; count = ap length h.connections; lent = refl };
  blank = λ _. blank;
  connections = λ k. ap (λ (cs : List Connection). get_or cs k silent_connection) h.connections;
  asked = λ _. h.asked;
  opened = λ _. tt;
  failed = λ _. h.failed;
  steady = λ _ s lt. elim (h.fails.0 refl) [ inl t ↦ steady_fails old s t | inr le ↦ absurd (omega (arith, le, lt)) ];
  cause = kind_cause gate_fault (λ f. f.gate) old new (Err e) h.counts (λ f. refl) faults;
  others = gate_others old new (Err e) h.counts;
}

pub hangs_up_exactly : {T E : Type 0} (old new : WireInMemory) (r : Result T E) → HangsUpInMemory old new r → old.calls.made ≤ new.calls.made → old.faults.hang ≤ new.faults.hang
    → AllBlankFrom old.opened old.connections → HangsUp (wire_tells old) (wire_tells new) r
hangs_up_exactly old new (Ok x) h made faults blank = record {
  keeps = record { tells = refl; count = ap length h.connections; lent = refl };
  blank = λ _. blank;
  connections = λ k. ap (λ (cs : List Connection). get_or cs k silent_connection) h.connections;
  asked = h.asked;
  opened = h.opened;
  shut = λ _. h.shut;
  closed = λ _ _. is_open_then old.is_open (λ f. let bad = h.fails.1 (inr f) in cc);
  steady = λ _ s _. (refl, steady_later old.calls new.calls h.counts.calls.failing made s);
  cause = kind_cause hang_fault (λ f. f.hang) old new (Ok x) h.counts (λ f. refl) faults;
  gate = kind_stays hang_fault (λ f. f.gate) old new (Ok x) h.counts (λ f. refl);
  hear = kind_stays hang_fault (λ f. f.hear) old new (Ok x) h.counts (λ f. refl);
  say = kind_stays hang_fault (λ f. f.say) old new (Ok x) h.counts (λ f. refl);
}
hangs_up_exactly old new (Err e) h made faults blank = record {
  keeps = record { tells = refl; count = ap length h.connections; lent = refl };
  blank = λ _. blank;
  connections = λ k. ap (λ (cs : List Connection). get_or cs k silent_connection) h.connections;
  asked = h.asked;
  opened = h.opened;
  shut = λ _. h.shut;
  closed = λ _ k. cc;
  steady = λ _ s o. elim (h.fails.0 refl) [ inl t ↦ steady_fails old s t | inr f ↦ absurd (open_not old.is_open o f) ];
  cause = kind_cause hang_fault (λ f. f.hang) old new (Err e) h.counts (λ f. refl) faults;
  gate = kind_stays hang_fault (λ f. f.gate) old new (Err e) h.counts (λ f. refl);
  hear = kind_stays hang_fault (λ f. f.hear) old new (Err e) h.counts (λ f. refl);
  say = kind_stays hang_fault (λ f. f.say) old new (Err e) h.counts (λ f. refl);
}

-- a call that changed at most the open connection
uses : (old new : WireInMemory) (c : Connection) → new.connections ≡ set old.connections (old.opened - 1) c → IsTrue old.is_open → new.opened ≡ old.opened → new.is_open ≡ old.is_open
    → new.asked ≡ old.asked → AllBlankFrom old.opened old.connections → Uses (wire_tells old) (wire_tells new)
uses old new c e o opened open_stays asked blank = record {
  keeps = record { tells = refl; count = ap length e ∙ length-set old.connections (old.opened - 1) c; lent = refl };
  blank = λ _. blank;
  others = λ k ne. ap (λ (cs : List Connection). get_or cs k silent_connection) e ∙ get_or-set_other old.connections (old.opened - 1) k c silent_connection (ne o);
  opened = opened;
  is_open = open_stays;
  asked = asked;
}

uses_none : (old new : WireInMemory) → new.connections ≡ old.connections → new.opened ≡ old.opened → new.is_open ≡ old.is_open → new.asked ≡ old.asked → AllBlankFrom old.opened old.connections
    → Uses (wire_tells old) (wire_tells new)
uses_none old new e opened open_stays asked blank = record {
  keeps = record { tells = refl; count = ap length e; lent = refl };
  blank = λ _. blank;
  others = λ k ne. ap (λ (cs : List Connection). get_or cs k silent_connection) e;
  opened = opened;
  is_open = open_stays;
  asked = asked;
}

-- the open connection after a call that changed it
changed : (old new : WireInMemory) (c : Connection) → new.connections ≡ set old.connections (old.opened - 1) c → 0 < old.opened → old.opened ≤ length old.connections → get_or new.connections (old.opened - 1) silent_connection ≡ c
changed old new c e some within = ap (λ (cs : List Connection). get_or cs (old.opened - 1) silent_connection) e ∙ get_or-set_same old.connections (old.opened - 1) c silent_connection (omega (arith, some, within))

none_heard : (n : ℕ) (c : Connection) (buffer : List ℕ) (cut : ℕ) → n ≡ min (min (length c.rest) (length buffer)) cut → 0 < length buffer → 0 < cut → (n ≡ 0 → length c.rest ≡ 0) × (length c.rest ≡ 0 → n ≡ 0)
none_heard n c buffer cut e some positive = (λ z. omega (arith, e, z, some, positive), λ z. omega (arith, e, z))

empty : (xs : List ℕ) → length xs ≡ 0 → xs ≡ []
empty [] h = refl
empty (x ∷ xs) h = absurd (omega (arith, h))

consumed : (E : Type 0) (n : ℕ) (c : Connection) (buffer : List ℕ) (cut : ℕ) → n ≡ min (min (length c.rest) (length buffer)) cut → take n buffer ≡ take n c.rest → 0 < length buffer → 0 < cut
    → Consumes {E = E} c.rest (heard_on c n).rest buffer (Ok n)
consumed E n c buffer cut e same some positive =
    let none = none_heard n c buffer cut e some positive in
    (sym (ap (λ (xs : List ℕ). xs ++ drop n c.rest) same ∙ take-append-drop n c.rest), (λ z. empty c.rest (none.0 z), λ z. none.1 (ap length z)))

turned : (E : Type 0) (n : ℕ) (b : Bool) (c : Connection) → nat_eq n 0 ≡ b → TurnsAfter {E = E} c (heard_on c n) (Ok n)
turned E n true c e = let z : n ≡ 0 = grind (arith, nat_tests, e) in (λ _. rw e refl, λ lt. absurd (omega (arith, z, lt)), refl)
turned E n false c e = let some : n ≢ 0 = grind (arith, nat_tests, e) in (λ z. absurd (some z), λ _. rw e refl, refl)

pub hears_exactly : {E : Type 0} (old new : WireInMemory) (buffer : List ℕ) (r : Result ℕ E) → HearsInMemory old new buffer r → old.calls.made ≤ new.calls.made → old.faults.hear ≤ new.faults.hear
    → AllBlankFrom old.opened old.connections → 0 < length buffer → 0 < old.cut → old.opened ≤ length old.connections → (IsTrue old.is_open → 0 < old.opened) → Hears (wire_tells old) (wire_tells new) buffer r
hears_exactly {E} old new buffer (Ok n) h made faults blank some cut within begun =
    let o : IsTrue old.is_open = is_open_then old.is_open (λ f. let bad = h.fails.1 (inr f) in cc) in
    let c = last_of old in
    let e : get_or new.connections (old.opened - 1) silent_connection ≡ heard_on c n = changed old new (heard_on c n) h.heard (begun o) within in
    record {
      uses = uses old new (heard_on c n) h.heard o h.opened h.is_open h.asked blank;
      within = omega (arith, h.count);
      closed = λ _ _. o;
      rest = λ _ _. subst (λ (x : Connection). Consumes {E = E} c.rest x.rest buffer (Ok n)) (sym e) (consumed E n c buffer old.cut h.count h.bytes some cut);
      turns = λ _ _. subst (λ (x : Connection). TurnsAfter {E = E} c x (Ok n)) (sym e) (turned E n (nat_eq n 0) c refl);
      said = record { said = ap (λ (x : Connection). x.said) e; room = ap (λ (x : Connection). x.room) e };
      steady = λ _ s _. (refl, steady_later old.calls new.calls h.counts.calls.failing made s);
      cause = kind_cause hear_fault (λ f. f.hear) old new (Ok n) h.counts (λ f. refl) faults;
      gate = kind_stays hear_fault (λ f. f.gate) old new (Ok n) h.counts (λ f. refl);
      say = kind_stays hear_fault (λ f. f.say) old new (Ok n) h.counts (λ f. refl);
      hang = kind_stays hear_fault (λ f. f.hang) old new (Ok n) h.counts (λ f. refl);
    }
hears_exactly {E} old new buffer (Err x) h made faults blank some cut within begun =
    let e : get_or new.connections (old.opened - 1) silent_connection ≡ last_of old = ap (λ (cs : List Connection). get_or cs (old.opened - 1) silent_connection) h.failed in
    record {
      uses = uses_none old new h.failed h.opened h.is_open h.asked blank;
      within = tt;
      closed = λ _ k. cc;
      rest = λ _ _. ap (λ (c : Connection). c.rest) e;
      turns = λ _ _. (ap (λ (c : Connection). c.turns) e, ap (λ (c : Connection). c.heard) e);
      said = record { said = ap (λ (c : Connection). c.said) e; room = ap (λ (c : Connection). c.room) e };
      steady = λ _ s o. elim (h.fails.0 refl) [ inl t ↦ steady_fails old s t | inr f ↦ absurd (open_not old.is_open o f) ];
      cause = kind_cause hear_fault (λ f. f.hear) old new (Err x) h.counts (λ f. refl) faults;
      gate = kind_stays hear_fault (λ f. f.gate) old new (Err x) h.counts (λ f. refl);
      say = kind_stays hear_fault (λ f. f.say) old new (Err x) h.counts (λ f. refl);
      hang = kind_stays hear_fault (λ f. f.hang) old new (Err x) h.counts (λ f. refl);
    }

pub says_exactly : {T E : Type 0} (old new : WireInMemory) (piece : List ℕ) (r : Result T E) → SaysInMemory old new piece r → old.calls.made ≤ new.calls.made → old.faults.say ≤ new.faults.say
    → AllBlankFrom old.opened old.connections → old.opened ≤ length old.connections → (IsTrue old.is_open → 0 < old.opened) → Says (wire_tells old) (wire_tells new) piece r
says_exactly {T} {E} old new piece (Ok x) h made faults blank within begun =
    let o : IsTrue old.is_open = is_open_then old.is_open (λ f. let bad = h.fails.1 (inr (inl f)) in cc) in
    let c = last_of old in
    let fits : length piece ≤ c.room = at_most (nat_le (length piece) c.room) (length piece) c.room refl (λ lt. let bad = h.fails.1 (inr (inr lt)) in cc) in
    let e : get_or new.connections (old.opened - 1) silent_connection ≡ said_on c piece = changed old new (said_on c piece) h.said (begun o) within in
    record {
      uses = uses old new (said_on c piece) h.said o h.opened h.is_open h.asked blank;
      closed = λ _ _. o;
      said = λ _. ap (λ (y : Connection). y.said) e;
      room = λ _. omega (arith, fits, ap (λ (y : Connection). y.room) e, ap (λ (y : Connection). length y.said) e, length-append c.said piece);
      heard = record { heard = ap (λ (y : Connection). y.heard) e; rest = ap (λ (y : Connection). y.rest) e; turns = ap (λ (y : Connection). y.turns) e };
      steady = λ _ s _ _. (refl, steady_later old.calls new.calls h.counts.calls.failing made s);
      cause = kind_cause say_fault (λ f. f.say) old new (Ok x) h.counts (λ f. refl) faults;
      gate = kind_stays say_fault (λ f. f.gate) old new (Ok x) h.counts (λ f. refl);
      hear = kind_stays say_fault (λ f. f.hear) old new (Ok x) h.counts (λ f. refl);
      hang = kind_stays say_fault (λ f. f.hang) old new (Ok x) h.counts (λ f. refl);
    }
says_exactly {T} {E} old new piece (Err x) h made faults blank within begun =
    let c = last_of old in
    let e : get_or new.connections (old.opened - 1) silent_connection ≡ c = ap (λ (cs : List Connection). get_or cs (old.opened - 1) silent_connection) h.failed in
    record {
      uses = uses_none old new h.failed h.opened h.is_open h.asked blank;
      closed = λ _ k. cc;
      said = λ _. (0, omega arith, ap (λ (y : Connection). y.said) e ∙ sym (append-nil c.said));
      room = λ _. ap (λ (y : Connection). y.room + length y.said) e;
      heard = record { heard = ap (λ (y : Connection). y.heard) e; rest = ap (λ (y : Connection). y.rest) e; turns = ap (λ (y : Connection). y.turns) e };
      steady = λ _ s o fits. elim (h.fails.0 refl) [ inl t ↦ steady_fails old s t | inr k ↦ elim k [ inl f ↦ absurd (open_not old.is_open o f) | inr lt ↦ absurd (omega (arith, lt, fits)) ] ];
      cause = kind_cause say_fault (λ f. f.say) old new (Err x) h.counts (λ f. refl) faults;
      gate = kind_stays say_fault (λ f. f.gate) old new (Err x) h.counts (λ f. refl);
      hear = kind_stays say_fault (λ f. f.hear) old new (Err x) h.counts (λ f. refl);
      hang = kind_stays say_fault (λ f. f.hang) old new (Err x) h.counts (λ f. refl);
    }
