-- A file that is read piece by piece.
use Rattle.std.proofs.Common.{◌≡◌, ℕ, ◌+◌, ◌≤◌, ◌<◌, List, ◌++◌, length, length-append, take, drop, Result, Ok, Err, IsTrue, refl, sym, ◌∙◌, ap, subst, arith}
use Rattle.std.proofs.Math.Seq.{take-add}
use Rattle.std.proofs.lemmas.List.{length-take-le, take_all}
use Rattle.wires.specs.Causes.{Rose}
use Rattle.wires.specs.Files.{Files, ReadsAt, all_files}
use Rattle.wires.specs.Held.{OtherFiles}
use Rattle.wires.proofs.Written.{no_ok, still}
use Rattle.station.specs.ReadFile.{KeepsFiles, ReadInto, Unharmed, Unreadable, most_of_file}

pub unharmed_at_first : (name : List ℕ) (a : Files) → Unharmed name a a
unharmed_at_first name a = record {
  kept = record { tells = refl; files = refl; lent = refl };
  faults = refl;
  steady = λ t s here. s;
}

there_stays : (name : List ℕ) (a b : Files) → all_files b ≡ all_files a → IsTrue (a.there name) → IsTrue (b.there name)
there_stays name a b e h = subst IsTrue (sym (ap (λ (o : OtherFiles). o.there name) e)) h

kept_then : {E : Type 0} (name : List ℕ) (a b c : Files) (from : ℕ) (buffer : List ℕ) (r : Result ℕ E) → KeepsFiles a b → ReadsAt b c name from buffer r → KeepsFiles a c
kept_then name a b c from buffer r k h = record { tells = h.tells ∙ k.tells; files = h.files ∙ k.files; lent = h.lent ∙ k.lent }

-- a read more
pub unharmed_then : {E : Type 0} (name : List ℕ) (a b c : Files) (from : ℕ) (buffer : List ℕ) (n : ℕ) → Unharmed name a b → ReadsAt {E = E} b c name from buffer (Ok n) → Unharmed name a c
unharmed_then {E} name a b c from buffer n k h = record {
  kept = kept_then {E = E} name a b c from buffer (Ok n) k.kept h;
  faults = h.faults.kept ∙ k.faults;
  steady = λ t s here. (h.steady (still k.kept.tells t) (k.steady t s here) (there_stays name a b k.kept.files here)).1;
}

-- what was read was there
pub there_then : {E : Type 0} (name : List ℕ) (a b c : Files) (from : ℕ) (buffer : List ℕ) (n : ℕ) → Unharmed name a b → ReadsAt {E = E} b c name from buffer (Ok n)
    → IsTrue a.tells → IsTrue (a.there name)
there_then {E} name a b c from buffer n k h t = subst IsTrue (ap (λ (o : OtherFiles). o.there name) k.kept.files) (h.there (still k.kept.tells t))

-- a read that failed
pub unreadable_then : {E : Type 0} (name : List ℕ) (a b c : Files) (from : ℕ) (buffer : List ℕ) (e : E) → Unharmed name a b → ReadsAt b c name from buffer (Err e) → Unreadable name a c
unreadable_then {E} name a b c from buffer e k h = record {
  kept = kept_then {E = E} name a b c from buffer (Err e) k.kept h;
  unsteady = λ t s here. no_ok ℕ E e (h.steady (still k.kept.tells t) (k.steady t s here) (there_stays name a b k.kept.files here)).0;
  faults = subst (λ (n : ℕ). Rose n c.faults) k.faults h.faults.failed;
}

file_stays : (name : List ℕ) (a b : Files) → all_files b ≡ all_files a → b.file name ≡ a.file name
file_stays name a b e = ap (λ (o : OtherFiles). o.file name) e

-- a piece more
pub bytes_then : {E : Type 0} (name : List ℕ) (a b c : Files) (bytes buffer : List ℕ) (n : ℕ) → Unharmed name a b → ReadsAt {E = E} b c name (length bytes) buffer (Ok n)
    → (IsTrue a.tells → bytes ≡ take (length bytes) (a.file name)) → IsTrue a.tells → bytes ++ take n buffer ≡ take (length (bytes ++ take n buffer)) (a.file name)
bytes_then name a b c bytes buffer n k h before t =
    let file = file_stays name a b k.kept.files in
    let piece = h.bytes (still k.kept.tells t) in
    let size : length (bytes ++ take n buffer) ≡ length bytes + n = (let two = length-take-le n buffer h.within in omega (arith, length-append bytes (take n buffer), two)) in
    ap (λ (xs : List ℕ). xs ++ take n buffer) (before t)
    ∙ (ap (λ (xs : List ℕ). take (length bytes) (a.file name) ++ xs) (piece.0 ∙ ap (λ (f : List ℕ). take n (drop (length bytes) f)) file)
    ∙ (sym (take-add (length bytes) n (a.file name)) ∙ ap (λ (m : ℕ). take m (a.file name)) (sym size)))

-- the file ends here
pub read_to_end : {E : Type 0} (name : List ℕ) (a b c : Files) (bytes buffer : List ℕ) (n : ℕ) → n ≡ 0 → length bytes ≤ most_of_file → Unharmed name a b
    → ReadsAt {E = E} b c name (length bytes) buffer (Ok n) → (IsTrue a.tells → bytes ≡ take (length bytes) (a.file name)) → ReadInto name a c bytes
read_to_end {E} name a b c bytes buffer n none few k h before = record {
  unharmed = unharmed_then {E = E} name a b c (length bytes) buffer n k h;
  there = there_then {E = E} name a b c (length bytes) buffer n k h;
  bytes_are = λ t.
      let short : length (a.file name) ≤ length bytes = subst (λ (f : List ℕ). length f ≤ length bytes) (file_stays name a b k.kept.files) ((h.at_end (still k.kept.tells t)).0 none) in
      before t ∙ (take_all (length bytes) (a.file name) short ∙ sym (take_all most_of_file (a.file name) (omega (arith, short, few))));
}

-- as much was read as is read at most
pub read_to_limit : (name : List ℕ) (a b : Files) (bytes : List ℕ) → most_of_file ≤ length bytes → length bytes ≤ most_of_file → Unharmed name a b
    → (IsTrue a.tells → 0 < length bytes → IsTrue (a.there name)) → (IsTrue a.tells → bytes ≡ take (length bytes) (a.file name)) → ReadInto name a b bytes
read_to_limit name a b bytes many few k here before = record {
  unharmed = k;
  there = λ t. here t (omega (arith, many));
  bytes_are = λ t. let same : length bytes ≡ most_of_file = omega (arith, many, few) in before t ∙ ap (λ (m : ℕ). take m (a.file name)) same;
}
