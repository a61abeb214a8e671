-- What a call of a shelf in memory does, from what it does exactly.
use Rattle.std.proofs.Common.{◌≡◌, ◌≢◌, ℕ, ◌+◌, ◌<◌, ◌≤◌, ◌&&◌, ◌||◌, nat_le, inl, inr, ◌⊎◌, Bool, true, false, List, [], length, Option, Some, None, is_some, Result, Ok, Err, IsTrue, refl, sym, ◌∙◌, ap, subst, arith, append-nil, length-append, length-drop}
use Rattle.std.proofs.lemmas.Bool.Decides.{nat_tests}
use Rattle.wires.specs.Causes.{HasCause}
use Rattle.wires.specs.FakeShelf.{AppendsInMemory, FileInMemory, FilesInMemory, FreshensInMemory, ReadsInMemory, ShelfInMemory, bytes_of, file_of, fresh_of, look, room_of, shelf_tells}
use Rattle.wires.specs.Files.{AppendsTo, Freshens, ReadsAt, SameAt, Touches}
use Rattle.wires.specs.Held.{OtherFiles}
use Rattle.wires.proofs.Calls.{steady_later, steady_next}
use Rattle.wires.proofs.Exactly.{cause_counted}
use Rattle.wires.proofs.Written.{and_one}

-- what is told of the files alone
abbrev told : FilesInMemory → OtherFiles
told s = record {
  there = λ n. is_some (look s.files n);
  file = λ n. bytes_of (look s.files n);
  fresh = λ n. fresh_of (look s.files n);
  room = λ n. room_of (look s.files n);
  fresh_room = s.most;
  further = s.further;
}

is_here : (o : Option FileInMemory) → (o ≡ None → ⊥) → IsTrue (is_some o)
is_here None h = absurd (h refl)
is_here (Some f) h = refl

not_here : (o : Option FileInMemory) → o ≡ None → IsTrue (is_some o) → ⊥
not_here None e t = cc
not_here (Some f) e t = cc

pub reads_exactly : {E : Type 0} (old new : ShelfInMemory) (name : List ℕ) (from : ℕ) (buffer : List ℕ) (r : Result ℕ E) → ReadsInMemory old new name from buffer r
    → old.calls.faults ≤ new.calls.faults → old.calls.made ≤ new.calls.made → 0 < length buffer → ReadsAt (shelf_tells old) (shelf_tells new) name from buffer r
reads_exactly old new name from buffer (Ok n) h faults made some = record {
  tells = refl;
  files = ap told h.stored;
  within = omega (arith, h.copied.count);
  there = λ _. is_here (file_of old name) (λ e. let bad = h.fails.1 (inr e) in cc);
  bytes = λ _. (h.copied.moved, omega (arith, h.copied.count));
  at_end = λ _. (λ z. omega (arith, h.copied.count, z, some, length-drop from (bytes_of (file_of old name))), λ e. omega (arith, h.copied.count, e, length-drop from (bytes_of (file_of old name))));
  size = λ _. h.copied.size;
  steady = λ _ s _. (refl, steady_later old.calls new.calls h.calls.failing made s);
  faults = cause_counted old.calls new.calls (Ok n) faults h.calls;
  lent = refl;
}
reads_exactly old new name from buffer (Err e) h faults made some = record {
  tells = refl;
  files = ap told h.stored;
  within = tt;
  there = λ _. tt;
  bytes = λ _. tt;
  at_end = λ _. tt;
  size = λ _. tt;
  steady = λ _ s there. elim (h.fails.0 refl) [ inl t ↦ let no = steady_next old.calls s in cc | inr none ↦ absurd (not_here (file_of old name) none there) ];
  faults = cause_counted old.calls new.calls (Err e) faults h.calls;
  lent = refl;
}

-- a name at which the same file is found
same_at : (old new : ShelfInMemory) (name : List ℕ) → file_of new name ≡ file_of old name → SameAt (shelf_tells old) (shelf_tells new) name
same_at old new name e = record { there = ap is_some e; file = ap bytes_of e; fresh = ap fresh_of e; room = ap room_of e }

touches : {T E : Type 0} (old new : ShelfInMemory) (name : List ℕ) (r : Result T E) → ((other : List ℕ) → other ≢ name → file_of new other ≡ file_of old other) → new.stored.most ≡ old.stored.most
    → HasCause old.calls.faults new.calls.faults r → Touches (shelf_tells old) (shelf_tells new) name r
touches old new name r others most cause = record { tells = refl; others = λ other ne. same_at old new other (others other ne); fresh_room = most; faults = cause; lent = refl }

can : (a b : Bool) (n : ℕ) → IsTrue a ⊎ (IsTrue b × (n ≤ 255)) → IsTrue (a || (b && nat_le n 255))
can true b n h = refl
can false b n (inl t) = cc
can false b n (inr h) = and_one b (nat_le n 255) h.0 (let le = h.1 in grind (arith, nat_tests, le))

found_fresh : (o : Option FileInMemory) (name : List ℕ) (most : ℕ) → o ≡ Some (record { name = name; bytes = []; fresh = true; most = most })
    → (bytes_of o ≡ []) × IsTrue (is_some o) × IsTrue (fresh_of o) × (room_of o ≡ most)
found_fresh o name most e = rw e (refl, refl, refl, omega arith)

pub freshens_exactly : {T E : Type 0} (old new : ShelfInMemory) (name : List ℕ) (r : Result T E) → FreshensInMemory old new name r → old.calls.faults ≤ new.calls.faults → old.calls.made ≤ new.calls.made
    → Freshens (shelf_tells old) (shelf_tells new) name r
freshens_exactly old new name (Ok x) h faults made =
    let k = found_fresh (file_of new name) name old.stored.most h.freshened.fresh in
    record {
      touches = touches old new name (Ok x) h.freshened.others h.freshened.most (cause_counted old.calls new.calls (Ok x) faults h.calls);
      ok = λ _. k;
      failed = λ _. tt;
      there = λ _ _. k.1;
      further = λ _. h.freshened.further;
      used = λ _. h.freshened.used;
      steady = λ _ s _. (refl, steady_later old.calls new.calls h.calls.failing made s);
    }
freshens_exactly old new name (Err e) h faults made = record {
  touches = touches old new name (Err e) (λ other ne. ap (λ (s : FilesInMemory). look s.files other) h.failed) (ap (λ (s : FilesInMemory). s.most) h.failed) (cause_counted old.calls new.calls (Err e) faults h.calls);
  ok = λ _. tt;
  failed = λ _. inl (ap (λ (s : FilesInMemory). bytes_of (look s.files name)) h.failed);
  there = λ _ t. subst (λ (s : FilesInMemory). IsTrue (is_some (look s.files name))) (sym h.failed) t;
  further = λ _. tt;
  used = λ _. tt;
  steady = λ _ s proper. elim (h.fails.0 refl) [ inl t ↦ let no = steady_next old.calls s in cc | inr f ↦ let yes = can (is_some (file_of old name)) old.stored.further (length name) proper in cc ];
}

pub appends_exactly : {T E : Type 0} (old new : ShelfInMemory) (name piece : List ℕ) (r : Result T E) → AppendsInMemory old new name piece r → old.calls.faults ≤ new.calls.faults → old.calls.made ≤ new.calls.made
    → AppendsTo (shelf_tells old) (shelf_tells new) name piece r
appends_exactly old new name piece (Ok x) h faults made = record {
  touches = touches old new name (Ok x) h.appended.others h.most (cause_counted old.calls new.calls (Ok x) faults h.calls);
  bytes = λ _. h.appended.bytes;
  there = h.appended.there;
  fresh = h.appended.fresh;
  room = λ _. omega (arith, h.appended.room, ap length h.appended.bytes, length-append (bytes_of (file_of old name)) piece);
  further = h.further;
  steady = λ _ s _ _. (refl, steady_later old.calls new.calls h.calls.failing made s);
}
appends_exactly old new name piece (Err e) h faults made =
    let same : file_of new name ≡ file_of old name = ap (λ (fs : List FileInMemory). look fs name) h.failed in
    record {
      touches = touches old new name (Err e) (λ other ne. ap (λ (fs : List FileInMemory). look fs other) h.failed) h.most (cause_counted old.calls new.calls (Err e) faults h.calls);
      bytes = λ _. (0, omega arith, ap bytes_of same ∙ sym (append-nil (bytes_of (file_of old name))));
      there = ap is_some same;
      fresh = ap fresh_of same;
      room = λ _. ap (λ (o : Option FileInMemory). room_of o + length (bytes_of o)) same;
      further = h.further;
      steady = λ _ s fresh fits. elim (h.fails.0 refl) [
        | inl t ↦ let no = steady_next old.calls s in cc
        | inr f ↦ let yes = and_one (fresh_of (file_of old name)) (nat_le (length piece) (room_of (file_of old name))) fresh (grind (arith, nat_tests, fits)) in cc
      ];
    }
