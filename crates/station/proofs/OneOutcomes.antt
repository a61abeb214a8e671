-- What `play`, `play-line` and `show` come to where no call fails.
use Rattle.std.proofs.Common.{◌≡◌, ◌≢◌, ℕ, ◌<◌, ◌≤◌, Bool, List, [], ◌∷◌, ◌++◌, append-nil, append_assoc, length, length-append, take, IsTrue, refl, sym, ◌∙◌, ap, arith}
use Rattle.std.specs.Prelude.{if◌then◌else◌, nat_le}
use Rattle.std.proofs.lemmas.Bool.{le-leb, lt-leb}
use Rattle.bits.specs.Bits.{bytes_bits}
use Rattle.sampler.specs.Runs.{sampled_bits}
use Rattle.wires.proofs.Written.{and_one}
use Rattle.wires.specs.Files.{Files}
use Rattle.wires.specs.Left.{Left}
use Rattle.wires.specs.Written.{Written}
use Rattle.endings.specs.declared.statuses.Status.{Status}
use Rattle.endings.specs.declared.statuses.Status.TheVariants.{Done, FileFault, Memory, OutFault, TooLong}
use Rattle.listening.specs.HeardFile.{HearsFile, Plays, file_bits}
use Rattle.listening.specs.HeardLine.{HasListenedToSamples, HearsSamples, PlaysSamples, sampled_file_bits}
use Rattle.listening.specs.Listening.{HasListened, ListenedToAll, most_bits}
use Rattle.station.specs.OneOutcome.{FitFile, OnePlay, OnePlayLine, OneShow, bits_listened}
use Rattle.listening.specs.PageLines.{play_lines}
use Rattle.listening.specs.Table.{table_of}
use Rattle.endings.specs.Wrote.{FitFor}
use Rattle.station.proofs.LeftAlike.{kept_alike, same_said}
use Rattle.std.proofs.lemmas.List.{take_all}
use Rattle.listening.proofs.FewBits.{few_of_first}
use Rattle.listening.proofs.WellListened.{read_first, read_whole}

-- the status, where so many bits are to be listened to
abbrev status_of : ℕ → Status
status_of n = if nat_le n most_bits then Done else TooLong

-- what listening to bits comes to
pub record ComesTo (printed : List Bool → List ℕ) (bits : List Bool) (out0 out : Written ℕ) (status : Status) : Type 0 where
  pub status_is : status ≡ status_of (length bits)
  pub held : out.held ≡ out0.held ++ printed (take most_bits bits)

comes_to : (printed : List Bool → List ℕ) (old new : Left Bool) (out0 out : Written ℕ) (status : Status) → IsTrue old.tells → IsTrue old.steady → FitFor out0 (printed (take most_bits old.left))
    → HasListened printed old new out0 out status → ComesTo printed old.left out0 out status
comes_to printed old new out0 out Done t s fit h =
    let all : old.left ≡ h.bits = h.took.left t ∙ (ap (λ (z : List Bool). h.bits ++ z) (h.whole t) ∙ append-nil h.bits) in
    let few : length old.left ≤ most_bits = omega (arith, h.few, ap length all) in
    record {
      status_is = ap (λ (b : Bool). if b then Done else TooLong) (sym (le-leb (length old.left) most_bits few));
      held = h.wrote.held fit.tells ∙ ap (λ (z : List Bool). out0.held ++ printed z) (sym (read_whole printed old new out0 out h t));
    }
comes_to printed old new out0 out TooLong t s fit h =
    let all : old.left ≡ h.bits ++ (h.further ∷ new.left) = h.took.left t ∙ append_assoc h.bits (h.further ∷ []) new.left in
    let long : most_bits < length old.left = omega (arith, h.many, ap length all, length-append h.bits (h.further ∷ new.left)) in
    record {
      status_is = ap (λ (b : Bool). if b then Done else TooLong) (sym (lt-leb (length old.left) most_bits long));
      held = h.wrote.held fit.tells ∙ ap (λ (z : List Bool). out0.held ++ printed z) (sym (read_first printed old new out0 out h t));
    }
comes_to printed old new out0 out FileFault t s fit h = absurd (h.failed.unsteady t s)
comes_to printed old new out0 out OutFault t s fit h = absurd ((h.of_all t).unfit fit.tells fit.steady fit.room)
comes_to printed old new out0 out other t s fit h = elim h [ ]

-- two that come to the same
same : (printed : List Bool → List ℕ) (bits : List Bool) (out0 out out2 : Written ℕ) (status another : Status) → ComesTo printed bits out0 out status → ComesTo printed bits out0 out2 another
    → (another ≡ status) × (out2.held ≡ out.held)
same printed bits out0 out out2 status another h k = (k.status_is ∙ sym h.status_is, k.held ∙ sym h.held)

-- hearing a file comes to what listening to its bits does
file_comes_to : (printed : List Bool → List ℕ) (name : List ℕ) (old new : Files) (out0 out : Written ℕ) (status : Status) → FitFile name old → FitFor out0 (printed (bits_listened name old))
    → HearsFile printed name old new out0 out status → ComesTo printed (bytes_bits (old.file name)) out0 out status
file_comes_to printed name old new out0 out status file fit h =
    comes_to printed (file_bits name old) h.rest out0 out status file.tells (and_one old.steady (old.there name) file.steady file.there) fit h.listens

had_memory : (printed : List Bool → List ℕ) (name : List ℕ) (old new : Files) (out0 out : Written ℕ) (status : Status) → status ≢ Memory → Plays printed name old new out0 out status
    → HearsFile printed name old new out0 out status
had_memory printed name old new out0 out Memory some h = absurd (some refl)
had_memory printed name old new out0 out status some h = h

pub one_play : OnePlay
one_play receivers air old new other status another file fit h k some some2 =
    let a = had_memory (play_lines receivers) air old.shelf new.shelf old.streams.out new.streams.out status some h.row in
    let b = had_memory (play_lines receivers) air old.shelf other.shelf old.streams.out other.streams.out another some2 k.row in
    let s = same (play_lines receivers) (bytes_bits (old.shelf.file air)) old.streams.out new.streams.out other.streams.out status another
    (file_comes_to (play_lines receivers) air old.shelf new.shelf old.streams.out new.streams.out status file fit a)
    (file_comes_to (play_lines receivers) air old.shelf other.shelf old.streams.out other.streams.out another file fit b) in
    (s.0, kept_alike old new other a.files b.files (same_said old.wire new.wire other.wire h.wire k.wire) s.1)

-- ---- samples

-- what listening to the bits of so many samples comes to
pub record SamplesComeTo (printed : List Bool → List ℕ) (count : ℕ) (bits : List Bool) (out0 out : Written ℕ) (status : Status) : Type 0 where
  pub status_is : status ≡ status_of count
  pub held : out.held ≡ out0.held ++ printed bits

-- all bits were printed
all_printed : (printed : List Bool → List ℕ) (old new : Left Bool) (out0 out : Written ℕ) → IsTrue old.tells → IsTrue out0.tells → ListenedToAll printed old new out0 out
    → out.held ≡ out0.held ++ printed old.left
all_printed printed old new out0 out t told h =
    let all : old.left ≡ h.bits = h.took.left t ∙ (ap (λ (z : List Bool). h.bits ++ z) (h.whole t) ∙ append-nil h.bits) in
    h.wrote.held told ∙ ap (λ (z : List Bool). out0.held ++ printed z) (sym all)

samples_come_to : (printed : List Bool → List ℕ) (count : ℕ) (old new : Left Bool) (out0 out : Written ℕ) (status : Status) → IsTrue old.tells → IsTrue old.steady → length old.left ≤ most_bits
    → FitFor out0 (printed old.left) → HasListenedToSamples printed count old new out0 out status → SamplesComeTo printed count old.left out0 out status
samples_come_to printed count old new out0 out Done t s few fit h = record {
  status_is = ap (λ (b : Bool). if b then Done else TooLong) (sym (le-leb count most_bits (h.1 t)));
  held = all_printed printed old new out0 out t fit.tells h.0;
}
samples_come_to printed count old new out0 out TooLong t s few fit h = record {
  status_is = ap (λ (b : Bool). if b then Done else TooLong) (sym (lt-leb count most_bits (h.1 t)));
  held = all_printed printed old new out0 out t fit.tells h.0;
}
samples_come_to printed count old new out0 out FileFault t s few fit h = absurd (h.failed.unsteady t s)
samples_come_to printed count old new out0 out OutFault t s few fit h =
    absurd ((h.of_all t).unfit fit.tells fit.steady (omega (arith, fit.room, ap (λ (z : List Bool). length (printed z)) (take_all most_bits old.left few))))
samples_come_to printed count old new out0 out other t s few fit h = elim h [ ]

line_comes_to : (printed : List Bool → List ℕ) (name : List ℕ) (old new : Files) (out0 out : Written ℕ) (status : Status) → FitFile name old → FitFor out0 (printed (sampled_bits (bits_listened name old)))
    → HearsSamples printed name old new out0 out status → SamplesComeTo printed (length (bytes_bits (old.file name))) (sampled_bits (bits_listened name old)) out0 out status
line_comes_to printed name old new out0 out status file fit h =
    samples_come_to printed (length (bytes_bits (old.file name))) (sampled_file_bits name old) h.rest out0 out status file.tells (and_one old.steady (old.there name) file.steady file.there)
    (few_of_first most_bits (bytes_bits (old.file name))) fit h.listens

had_memory_for_samples : (printed : List Bool → List ℕ) (name : List ℕ) (old new : Files) (out0 out : Written ℕ) (status : Status) → status ≢ Memory → PlaysSamples printed name old new out0 out status
    → HearsSamples printed name old new out0 out status
had_memory_for_samples printed name old new out0 out Memory some h = absurd (some refl)
had_memory_for_samples printed name old new out0 out status some h = h

pub one_play_line : OnePlayLine
one_play_line receivers line old new other status another file fit h k some some2 =
    let a = had_memory_for_samples (play_lines receivers) line old.shelf new.shelf old.streams.out new.streams.out status some h.row in
    let b = had_memory_for_samples (play_lines receivers) line old.shelf other.shelf old.streams.out other.streams.out another some2 k.row in
    let x = line_comes_to (play_lines receivers) line old.shelf new.shelf old.streams.out new.streams.out status file fit a in
    let y = line_comes_to (play_lines receivers) line old.shelf other.shelf old.streams.out other.streams.out another file fit b in
    (y.status_is ∙ sym x.status_is, kept_alike old new other a.files b.files (same_said old.wire new.wire other.wire h.wire k.wire) (y.held ∙ sym x.held))

pub one_show : OneShow
one_show air old new other status another file fit h k =
    let s = same table_of (bytes_bits (old.shelf.file air)) old.streams.out new.streams.out other.streams.out status another
    (file_comes_to table_of air old.shelf new.shelf old.streams.out new.streams.out status file fit h.row)
    (file_comes_to table_of air old.shelf other.shelf old.streams.out other.streams.out another file fit k.row) in
    (s.0, kept_alike old new other h.row.files k.row.files (same_said old.wire new.wire other.wire h.wire k.wire) s.1)
