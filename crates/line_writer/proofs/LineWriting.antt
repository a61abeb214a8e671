-- A line that is written: its file is made fresh, a file is read, and its samples are appended.
use Rattle.std.proofs.Common.{◌≡◌, ◌≢◌, inl, inr, ℕ, ◌*◌, ◌≤◌, List, [], ◌++◌, length, take, drop, Result, Ok, Err, IsTrue, IsFalse, sym, ◌∙◌, ap, subst, arith}
use Rattle.std.proofs.lemmas.List.{take-append-drop}
use Rattle.bits.specs.Bits.{bytes_bits}
use Rattle.bits.proofs.Lengths.{length-bytes_bits}
use Rattle.endings.specs.declared.statuses.Status.{Status}
use Rattle.endings.specs.declared.statuses.Status.TheVariants.{FileFault, TooLong}
use Rattle.sampler.specs.Strayed.{strayed}
use Rattle.wires.specs.declared.Failed.{Failed}
use Rattle.wires.specs.Causes.{Rose}
use Rattle.wires.specs.Files.{AppendsTo, Files, Freshens, SameAt, all_files}
use Rattle.wires.specs.Fronts.{IsFront}
use Rattle.wires.specs.Held.{OtherFiles}
use Rattle.wires.proofs.Fronts.{front_append}
use Rattle.wires.proofs.Written.{no_ok, still}
use Rattle.line_writer.specs.LineFile.{AppendsBits, AreBytesOf, AreSamples, LineFault, MadeFresh, OthersStand, ReadWhole, ReadsWhole, WritesLine, WroteLine}
use Rattle.line_writer.proofs.SampleCount.{length-strayed}

same_then : (a b c : Files) (n : List ℕ) → SameAt a b n → SameAt b c n → SameAt a c n
same_then a b c n h k = record { there = k.there ∙ h.there; file = k.file ∙ h.file; fresh = k.fresh ∙ h.fresh; room = k.room ∙ h.room }

same_files : (a b : Files) (n : List ℕ) → all_files b ≡ all_files a → SameAt a b n
same_files a b n e = record {
  there = ap (λ (o : OtherFiles). o.there n) e;
  file = ap (λ (o : OtherFiles). o.file n) e;
  fresh = ap (λ (o : OtherFiles). o.fresh n) e;
  room = ap (λ (o : OtherFiles). o.room n) e;
}

-- The file `line` was made fresh, nothing was appended to it, and no other file changed.
record FreshLine (line : List ℕ) (old now : Files) : Type 0 where
  others : OthersStand line old now
  made : MadeFresh line old now
  empty : IsTrue old.tells → now.file line ≡ []

fresh_line : {T : Type 0} (line : List ℕ) (a b : Files) (x : T) → Freshens {E = Failed} a b line (Ok x) → FreshLine line a b
fresh_line line a b x h = record {
  others = record { tells = h.touches.tells; others = h.touches.others; fresh_room = h.touches.fresh_room; lent = h.touches.lent };
  made = record {
    there = λ t. (h.ok t).1;
    fresh = λ t. (h.ok t).2;
    room = λ t. omega (arith, (h.ok t).3, ap length (h.ok t).0);
    further = λ t there. h.further t there;
    used = λ t none. h.used t none;
  };
  empty = λ t. (h.ok t).0;
}

-- it stays so where no file changes
still_fresh : (line : List ℕ) (a b c : Files) → FreshLine line a b → c.tells ≡ b.tells → all_files c ≡ all_files b → c.lent ≡ b.lent → FreshLine line a c
still_fresh line a b c h tells files lent =
    let same : (n : List ℕ) → SameAt b c n = λ n. same_files b c n files in
    let further : c.further ≡ b.further = ap (λ (o : OtherFiles). o.further) files in
    record {
      others = record {
        tells = tells ∙ h.others.tells;
        others = λ n ne. same_then a b c n (h.others.others n ne) (same n);
        fresh_room = ap (λ (o : OtherFiles). o.fresh_room) files ∙ h.others.fresh_room;
        lent = lent ∙ h.others.lent;
      };
      made = record {
        there = λ t. still (same line).there (h.made.there t);
        fresh = λ t. still (same line).fresh (h.made.fresh t);
        room = λ t. omega (arith, h.made.room t, (same line).room, ap length (same line).file);
        further = λ t there. further ∙ h.made.further t there;
        used = λ t none. ((h.made.used t none).0, subst IsFalse (sym further) (h.made.used t none).1);
      };
      empty = λ t. (same line).file ∙ h.empty t;
    }

-- what was appended to it is what it holds
made_longer : {T E : Type 0} (line piece : List ℕ) (a c d : Files) (r : Result T E) → FreshLine line a c → AppendsTo c d line piece r → OthersStand line a d × MadeFresh line a d
made_longer line piece a c d r h k = (
  record {
    tells = k.touches.tells ∙ h.others.tells;
    others = λ n ne. same_then a c d n (h.others.others n ne) (k.touches.others n ne);
    fresh_room = k.touches.fresh_room ∙ h.others.fresh_room;
    lent = k.touches.lent ∙ h.others.lent;
  },
  record {
    there = λ t. still k.there (h.made.there t);
    fresh = λ t. still k.fresh (h.made.fresh t);
    room = λ t. k.room (still h.others.tells t) ∙ h.made.room t;
    further = λ t there. k.further ∙ h.made.further t there;
    used = λ t none. ((h.made.used t none).0, subst IsFalse (sym k.further) (h.made.used t none).1);
  },
)

-- ---- by status

pub line_not_fresh : {T : Type 0} (air line : List ℕ) (seed : ℕ) (a b : Files) (e : Failed) → Freshens {T = T} a b line (Err e) → LineFault air line seed a b
line_not_fresh {T} air line seed a b e h = record {
  others = record { tells = h.touches.tells; others = h.touches.others; fresh_room = h.touches.fresh_room; lent = h.touches.lent };
  faults = h.touches.faults.failed;
  at = inl (record {
    stands = λ t. h.failed t;
    there = h.there;
    unfit = λ t s fits. no_ok T Failed e (h.steady t s fits).0;
  });
}

air_there : (air line : List ℕ) (a b : Files) → air ≢ line → OthersStand line a b → IsTrue (b.there air) → IsTrue (a.there air)
air_there air line a b ne h t = subst IsTrue (h.others air ne).there t

air_long : (air line : List ℕ) (a b : Files) → air ≢ line → OthersStand line a b → length (b.file air) ≡ length (a.file air)
air_long air line a b ne h = ap length (h.others air ne).file

pub air_not_read : {T : Type 0} (air line buffer : List ℕ) (seed : ℕ) (a b c : Files) (x : T) (status : Status) → air ≢ line → Freshens {E = Failed} a b line (Ok x) → length buffer ≡ 8388608
    → ReadsWhole air buffer b c (Err status) → WritesLine air line seed a c status
air_not_read air line buffer seed a b c x TooLong ne h long k =
    let f = fresh_line line a b x h in
    let g = still_fresh line a b c f k.read.tells k.read.files k.read.lent in
    record {
      others = g.others;
      made = g.made;
      there = λ t. air_there air line a b ne f.others (k.read.there (still f.others.tells t));
      many = λ t. omega (arith, k.many (still f.others.tells t), long, air_long air line a b ne f.others);
      empty = g.empty;
      steady = λ t s fits. k.read.steady (still f.others.tells t) (h.steady t s fits).1;
      faults = k.read.faults ∙ h.touches.faults.kept;
    }
air_not_read air line buffer seed a b c x FileFault ne h long k =
    let f = fresh_line line a b x h in
    let g = still_fresh line a b c f k.tells k.files k.lent in
    record {
      others = g.others;
      faults = subst (λ (n : ℕ). Rose n c.faults) h.touches.faults.kept k.faults;
      at = inr (inl (record {
        made = g.made;
        empty = g.empty;
        unfit = λ t s fits there. k.unsteady (still f.others.tells t) (h.steady t s fits).1 (still (f.others.others air ne).there there);
      }));
    }
air_not_read air line buffer seed a b c x other ne h long k = absurd k

-- what was read into the front of a buffer
pub air_read : (air buffer seen : List ℕ) (n : ℕ) (b c : Files) → seen ≡ buffer → length buffer ≡ 8388608 → ReadsWhole air buffer b c (Ok n) → ReadWhole air 8388608 b c (take n seen)
air_read air buffer seen n b c same long h =
    subst (λ (xs : List ℕ). ReadWhole air 8388608 b c (take n xs)) (sym same) (subst (λ (most : ℕ). ReadWhole air most b c (take n buffer)) long h.1)

-- the samples of what was read are those of the file, and there are eight bytes of them for each of its bytes
of_air : (air line got bytes : List ℕ) (seed : ℕ) (a b c : Files) → air ≢ line → OthersStand line a b → ReadWhole air 8388608 b c got → AreBytesOf (strayed (bytes_bits got) seed) bytes → IsTrue a.tells → AreSamples bytes (a.file air) seed
of_air air line got bytes seed a b c ne f k are t =
    subst (λ (xs : List ℕ). AreSamples bytes xs seed) (k.bytes_are (still f.tells t) ∙ (f.others air ne).file) are

long_samples : (got bytes : List ℕ) (seed : ℕ) → AreBytesOf (strayed (bytes_bits got) seed) bytes → length bytes ≡ 8 * length got
long_samples got bytes seed are = omega (arith, ap length are.bits_are, length-bytes_bits bytes, length-strayed (bytes_bits got) seed, length-bytes_bits got)

got_long : (air line got : List ℕ) (a b c : Files) → air ≢ line → OthersStand line a b → ReadWhole air 8388608 b c got → IsTrue a.tells → length got ≡ length (a.file air)
got_long air line got a b c ne f k t = ap length (k.bytes_are (still f.tells t) ∙ (f.others air ne).file)

-- there is room for the samples
fits_fresh : (air line got bytes : List ℕ) (seed : ℕ) (a b c : Files) → air ≢ line → OthersStand line a b → ReadWhole air 8388608 b c got → AreBytesOf (strayed (bytes_bits got) seed) bytes → FreshLine line a c
    → IsTrue a.tells → 8 * length (a.file air) ≤ a.fresh_room → length bytes ≤ c.room line
fits_fresh air line got bytes seed a b c ne f k are g t fits =
    omega (arith, long_samples got bytes seed are, got_long air line got a b c ne f k t, g.made.room t, ap length (g.empty t), fits)

pub line_written : {T U : Type 0} (air line got : List ℕ) (seed : ℕ) (a b c d : Files) (x : T) (y : U) → air ≢ line → Freshens {E = Failed} a b line (Ok x) → ReadWhole air 8388608 b c got
    → AppendsBits {E = Failed} line (strayed (bytes_bits got) seed) c d (Ok y) → WroteLine air line seed a d
line_written air line got seed a b c d x y ne h k p =
    let f = fresh_line line a b x h in
    let g = still_fresh line a b c f k.read.tells k.read.files k.read.lent in
    let m = made_longer {E = Failed} line p.bytes a c d (Ok y) g p.appends in
    record {
      others = m.0;
      made = m.1;
      there = λ t. air_there air line a b ne f.others (k.read.there (still f.others.tells t));
      few = λ t. omega (arith, k.few, got_long air line got a b c ne f.others k t);
      holds = λ t.
          let held : d.file line ≡ p.bytes = p.appends.bytes (still g.others.tells t) ∙ ap (λ (xs : List ℕ). xs ++ p.bytes) (g.empty t) in
          subst (λ (xs : List ℕ). AreSamples xs (a.file air) seed) (sym held) (of_air air line got p.bytes seed a b c ne f.others k p.are t);
      steady = λ t s fits room.
          let after = k.read.steady (still f.others.tells t) (h.steady t s fits).1 in
          (p.appends.steady (still g.others.tells t) after (g.made.fresh t) (fits_fresh air line got p.bytes seed a b c ne f.others k p.are g t room)).1;
      faults = p.appends.touches.faults.kept ∙ (k.read.faults ∙ h.touches.faults.kept);
    }

-- the front of a list that was appended to nothing
front_only : (old new bytes : List ℕ) → old ≡ [] → (n : ℕ) × (n ≤ length bytes) × (new ≡ old ++ take n bytes) → IsFront new bytes
front_only old new bytes none (n, few, is) =
    let e : new ≡ take n bytes = is ∙ ap (λ (xs : List ℕ). xs ++ take n bytes) none in
    subst (λ (xs : List ℕ). IsFront xs bytes) (sym e) (subst (λ (xs : List ℕ). IsFront (take n bytes) xs) (take-append-drop n bytes) (front_append (take n bytes) (drop n bytes)))

pub line_cut : {T U : Type 0} (air line got : List ℕ) (seed : ℕ) (a b c d : Files) (x : T) (e : Failed) → air ≢ line → Freshens {E = Failed} a b line (Ok x) → ReadWhole air 8388608 b c got
    → AppendsBits {T = U} line (strayed (bytes_bits got) seed) c d (Err e) → LineFault air line seed a d
line_cut {T} {U} air line got seed a b c d x e ne h k p =
    let f = fresh_line line a b x h in
    let g = still_fresh line a b c f k.read.tells k.read.files k.read.lent in
    let m = made_longer {T = U} line p.bytes a c d (Err e) g p.appends in
    let same : c.faults ≡ a.faults = k.read.faults ∙ h.touches.faults.kept in
    record {
      others = m.0;
      faults = subst (λ (n : ℕ). Rose n d.faults) same p.appends.touches.faults.failed;
      at = inr (inr (record {
        made = m.1;
        there = λ t. air_there air line a b ne f.others (k.read.there (still f.others.tells t));
        few = λ t. omega (arith, k.few, got_long air line got a b c ne f.others k t);
        bytes = p.bytes;
        samples = of_air air line got p.bytes seed a b c ne f.others k p.are;
        front = λ t. front_only (c.file line) (d.file line) p.bytes (g.empty t) (p.appends.bytes (still g.others.tells t));
        unfit = λ t s fits room.
            let after = k.read.steady (still f.others.tells t) (h.steady t s fits).1 in
            no_ok U Failed e (p.appends.steady (still g.others.tells t) after (g.made.fresh t) (fits_fresh air line got p.bytes seed a b c ne f.others k p.are g t room)).0;
      }));
    }
