-- A file that is read whole into the front of a buffer.
use Rattle.std.proofs.Common.{◌≡◌, ℕ, ◌+◌, ◌<◌, ◌≤◌, List, [], ◌++◌, length, length-append, take, drop, length-drop, Ok, Err, IsTrue, refl, sym, ◌∙◌, ap, subst, arith}
use Rattle.std.proofs.Math.Seq.{take-add}
use Rattle.std.proofs.lemmas.List.{length-take-le, take_all}
use Rattle.wires.specs.Causes.{Rose}
use Rattle.wires.specs.Files.{Files, ReadsAt, all_files}
use Rattle.wires.specs.Held.{OtherFiles}
use Rattle.wires.proofs.Written.{no_ok, still}
use Rattle.line_writer.specs.LineFile.{ReadTooLong, ReadWhole, WasRead, WasUnread}

-- So many bytes of a file were read, which are these, and no file changed.
pub record ReadSo (name : List ℕ) (bytes : List ℕ) (old now : Files) : Type 0 where
  pub tells : now.tells ≡ old.tells
  pub files : all_files now ≡ all_files old
  pub steady : IsTrue old.tells → IsTrue old.steady → IsTrue (old.there name) → IsTrue now.steady
  pub faults : now.faults ≡ old.faults
  pub lent : now.lent ≡ old.lent
  pub bytes_are : IsTrue old.tells → bytes ≡ take (length bytes) (old.file name)

there_as : (name : List ℕ) (a b : Files) → all_files b ≡ all_files a → b.there name ≡ a.there name
there_as name a b e = ap (λ (o : OtherFiles). o.there name) e

file_as : (name : List ℕ) (a b : Files) → all_files b ≡ all_files a → b.file name ≡ a.file name
file_as name a b e = ap (λ (o : OtherFiles). o.file name) e

pub read_begins : (name : List ℕ) (a : Files) → ReadSo name [] a a
read_begins name a = record { tells = refl; files = refl; steady = λ t s here. s; faults = refl; lent = refl; bytes_are = λ t. refl }

was_read : {E : Type 0} (name : List ℕ) (a b c : Files) (bytes buffer : List ℕ) (from n : ℕ) → ReadSo name bytes a b → ReadsAt {E = E} b c name from buffer (Ok n) → WasRead name a c
was_read {E} name a b c bytes buffer from n k h =
    let there : IsTrue a.tells → IsTrue (a.there name) = λ t. subst IsTrue (there_as name a b k.files) (h.there (still k.tells t)) in
    record {
      tells = h.tells ∙ k.tells;
      files = h.files ∙ k.files;
      there = there;
      steady = λ t s. (h.steady (still k.tells t) (k.steady t s (there t)) (still (there_as name a b k.files) (there t))).1;
      faults = h.faults.kept ∙ k.faults;
      lent = h.lent ∙ k.lent;
    }

-- a read more
pub read_goes_on : {E : Type 0} (name : List ℕ) (a b c : Files) (bytes buffer more : List ℕ) (from n : ℕ) → ReadSo name bytes a b → ReadsAt {E = E} b c name from buffer (Ok n) → from ≡ length bytes
    → more ≡ bytes ++ take n buffer → ReadSo name more a c
read_goes_on {E} name a b c bytes buffer more from n k h place is =
    let w = was_read {E = E} name a b c bytes buffer from n k h in
    record {
      tells = w.tells;
      files = w.files;
      steady = λ t s here. w.steady t s;
      faults = w.faults;
      lent = w.lent;
      bytes_are = λ t.
          let piece = (h.bytes (still k.tells t)).0 in
          let size : length (bytes ++ take n buffer) ≡ length bytes + n = (let two = length-take-le n buffer h.within in omega (arith, length-append bytes (take n buffer), two)) in
          let first : bytes ++ take n buffer ≡ take (length (bytes ++ take n buffer)) (a.file name) =
          ap (λ (xs : List ℕ). xs ++ take n buffer) (k.bytes_are t)
          ∙ (ap (λ (xs : List ℕ). take (length bytes) (a.file name) ++ xs) (piece ∙ (ap (λ (m : ℕ). take n (drop m (b.file name))) place ∙ ap (λ (f : List ℕ). take n (drop (length bytes) f)) (file_as name a b k.files)))
          ∙ (sym (take-add (length bytes) n (a.file name)) ∙ ap (λ (m : ℕ). take m (a.file name)) (sym size))) in
          subst (λ (xs : List ℕ). xs ≡ take (length xs) (a.file name)) (sym is) first;
    }

-- the file ends here
pub read_to_end : {E : Type 0} (name : List ℕ) (a b c : Files) (bytes buffer : List ℕ) (from n most : ℕ) → ReadSo name bytes a b → ReadsAt {E = E} b c name from buffer (Ok n) → from ≡ length bytes → n ≡ 0
    → length bytes ≤ most → ReadWhole name most a c bytes
read_to_end {E} name a b c bytes buffer from n most k h place none few = record {
  read = was_read {E = E} name a b c bytes buffer from n k h;
  few = few;
  bytes_are = λ t.
      let end : length (b.file name) ≤ from = (h.at_end (still k.tells t)).0 none in
      let short : length (a.file name) ≤ length bytes = omega (arith, end, place, ap length (file_as name a b k.files)) in
      k.bytes_are t ∙ take_all (length bytes) (a.file name) short;
}

-- more follows
pub read_beyond : {E : Type 0} (name : List ℕ) (a b c : Files) (bytes buffer : List ℕ) (from n most : ℕ) → ReadSo name bytes a b → ReadsAt {E = E} b c name from buffer (Ok n) → most ≤ from → 0 < n → ReadTooLong name most a c
read_beyond {E} name a b c bytes buffer from n most k h far some = record {
  read = was_read {E = E} name a b c bytes buffer from n k h;
  many = λ t.
      let piece = (h.bytes (still k.tells t)).1 in
      omega (arith, piece, length-drop from (b.file name), some, far, ap length (file_as name a b k.files));
}

-- a read that failed
pub read_fails : {E : Type 0} (name : List ℕ) (a b c : Files) (bytes buffer : List ℕ) (from : ℕ) (e : E) → ReadSo name bytes a b → ReadsAt b c name from buffer (Err e) → WasUnread name a c
read_fails {E} name a b c bytes buffer from e k h = record {
  tells = h.tells ∙ k.tells;
  files = h.files ∙ k.files;
  unsteady = λ t s here. no_ok ℕ E e (h.steady (still k.tells t) (k.steady t s here) (still (there_as name a b k.files) here)).0;
  faults = subst (λ (n : ℕ). Rose n c.faults) k.faults h.faults.failed;
  lent = h.lent ∙ k.lent;
}
