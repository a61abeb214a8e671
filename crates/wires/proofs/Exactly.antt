-- What a call of a fake does, from what it does exactly.
use Rattle.std.proofs.Common.{◌≡◌, ℕ, ◌<◌, ◌≤◌, inl, inr, List, [], ◌∷◌, ◌++◌, length, take, min, Result, Ok, Err, IsTrue, refl, sym, ◌∙◌, ap, arith, append-nil, take-append-drop}
use Rattle.wires.specs.Calls.{CallsMade, Counts, next_fails}
use Rattle.wires.specs.Causes.{HasCause}
use Rattle.wires.specs.Fakes.{PutsInMemory, SinkInMemory, SourceInMemory, TakesInMemory, sink_tells, source_tells}
use Rattle.wires.specs.Left.{Takes}
use Rattle.wires.specs.Written.{Puts}
use Rattle.wires.proofs.Calls.{steady_later, steady_next}

-- a call that was counted has its cause
pub cause_counted : {T E : Type 0} (old new : CallsMade) (r : Result T E) → old.faults ≤ new.faults → Counts old new r → HasCause old.faults new.faults r
cause_counted old new (Ok x) le h = record { later = le; failed = tt; kept = h.kept }
cause_counted old new (Err e) le h = record { later = le; failed = omega (arith, h.fault); kept = tt }

nothing_left : (n : ℕ) (left : List ℕ) (room cut : ℕ) → n ≡ min (min (length left) room) cut → 0 < room → 0 < cut → n ≡ 0 → left ≡ []
nothing_left n [] room cut e r k z = refl
nothing_left n (x ∷ xs) room cut e r k z = absurd (omega arith)

none_moved : (n : ℕ) (left : List ℕ) (room cut : ℕ) → n ≡ min (min (length left) room) cut → left ≡ [] → n ≡ 0
none_moved n left room cut e z = omega (arith, ap length z, e)

pub takes_exactly : {E : Type 0} (old new : SourceInMemory) (buffer : List ℕ) (r : Result ℕ E) → TakesInMemory old new buffer r
    → old.calls.faults ≤ new.calls.faults → old.calls.made ≤ new.calls.made → 0 < length buffer → 0 < old.cut → Takes (source_tells old) (source_tells new) buffer r
takes_exactly {E} old new buffer (Ok n) h faults made some cut = record {
  tells = refl;
  within = omega (arith, h.count);
  left = λ _. (sym (ap (λ (xs : List ℕ). xs ++ new.left) h.moved.0 ∙ (ap (λ (xs : List ℕ). take n old.left ++ xs) h.moved.1 ∙ take-append-drop n old.left)), (nothing_left n old.left (length buffer) old.cut h.count some cut, none_moved n old.left (length buffer) old.cut h.count));
  there = λ _ _. refl;
  came = λ _. refl;
  steady = λ _ s. (refl, steady_later old.calls new.calls h.calls.failing made s);
  faults = cause_counted old.calls new.calls (Ok n) faults h.calls;
  lent = refl;
}
takes_exactly {E} old new buffer (Err e) h faults made some cut = record {
  tells = refl;
  within = tt;
  left = λ _. h.failed;
  there = λ _ _. refl;
  came = λ _. tt;
  steady = λ _ s. let no = steady_next old.calls s in let yes : IsTrue (next_fails old.calls) = h.fails.0 refl in cc;
  faults = cause_counted old.calls new.calls (Err e) faults h.calls;
  lent = refl;
}

pub puts_exactly : {T E : Type 0} (old new : SinkInMemory) (piece : List ℕ) (r : Result T E) → PutsInMemory old new piece r
    → old.calls.faults ≤ new.calls.faults → old.calls.made ≤ new.calls.made → length old.bytes ≤ old.room → length new.bytes ≤ new.room → Puts (sink_tells old) (sink_tells new) piece r
puts_exactly old new piece (Ok x) h faults made before now = record {
  tells = refl;
  held = λ _. h.appended;
  room = λ _. omega (arith, h.room);
  steady = λ _ s _. (refl, steady_later old.calls new.calls h.calls.failing made s);
  faults = cause_counted old.calls new.calls (Ok x) faults h.calls;
  lent = refl;
}
puts_exactly old new piece (Err e) h faults made before now = record {
  tells = refl;
  held = λ _. (0, omega arith, h.failed ∙ sym (append-nil old.bytes));
  room = λ _. omega (arith, h.room);
  steady = λ _ s fits. elim (h.fails.0 refl) [ inl t ↦ let no = steady_next old.calls s in cc | inr lt ↦ absurd (omega arith) ];
  faults = cause_counted old.calls new.calls (Err e) faults h.calls;
  lent = refl;
}
