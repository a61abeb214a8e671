-- What was heard of a file, from what was heard of the bits over it.
use Rattle.std.proofs.Common.{◌≡◌, ℕ, ◌++◌, Bool, List, [], ◌∷◌, drop, refl, ◌∙◌, ap, subst}
use Rattle.std.specs.Borrow.{GName}
use Rattle.wires.proofs.Written.{and_both}
use Rattle.wires.specs.Files.{Files, all_files}
use Rattle.wires.specs.Held.{Held, Lent, OfShelf, OtherFiles, Text}
use Rattle.wires.specs.Left.{Left, Took}
use Rattle.wires.specs.Stacked.{shelf_bits}
use Rattle.wires.specs.Written.{Written}
use Rattle.endings.specs.declared.statuses.Status.{Status}
use Rattle.endings.specs.declared.statuses.Status.TheVariants.{BadPages, BadSum, BadText, Done, FileFault, InputFault, LogonRefused, Memory, NotBlock, OutFault, Settings, SomeUnsent, TooLong, Usage, WireFault}
use Rattle.listening.specs.HeardFile.{HearsFile, file_bits}
use Rattle.listening.specs.Listening.{HasListened}
use Rattle.listening.proofs.WellListened.{listened_well}

-- the bits, holding these of others
abbrev pub holding : List Held → Left Bool → Left Bool
holding held b = record { tells = b.tells; left = b.left; there = b.there; steady = b.steady; faults = b.faults; lent = held }

pub took_holding : (held : List Held) (a b : Left Bool) (bits : List Bool) → Took a b bits → Took (holding held a) (holding held b) bits
took_holding held a b bits h = record { tells = h.tells; left = h.left; there = h.there; steady = h.steady; faults = h.faults; lent = refl }

-- what was listened to doesn't depend on what the bits hold
pub listens_holding : (printed : List Bool → List ℕ) (held : List Held) (a b : Left Bool) (o0 o : Written ℕ) (status : Status) → HasListened printed a b o0 o status
    → HasListened printed (holding held a) (holding held b) o0 o status
listens_holding printed held a b o0 o Done h = record { bits = h.bits; took = took_holding held a b h.bits h.took; there = h.there; whole = h.whole; few = h.few; wrote = h.wrote }
listens_holding printed held a b o0 o TooLong h = record {
  bits = h.bits;
  further = h.further;
  took = took_holding held a b (h.bits ++ h.further ∷ []) h.took;
  there = h.there;
  many = h.many;
  wrote = h.wrote;
}
listens_holding printed held a b o0 o FileFault h = record {
  bits = h.bits;
  failed = record { tells = h.failed.tells; left = h.failed.left; unsteady = h.failed.unsteady; faults = h.failed.faults; lent = refl };
  there = h.there;
  wrote = h.wrote;
  few = h.few;
  of_all = h.of_all;
}
listens_holding printed held a b o0 o OutFault h = record { bits = h.bits; took = took_holding held a b h.bits h.took; there = h.there; few = h.few; wrote = h.wrote; of_all = h.of_all }
listens_holding printed held a b o0 o Usage h = h
listens_holding printed held a b o0 o Settings h = h
listens_holding printed held a b o0 o WireFault h = h
listens_holding printed held a b o0 o InputFault h = h
listens_holding printed held a b o0 o NotBlock h = h
listens_holding printed held a b o0 o BadSum h = h
listens_holding printed held a b o0 o BadText h = h
listens_holding printed held a b o0 o LogonRefused h = h
listens_holding printed held a b o0 o SomeUnsent h = h
listens_holding printed held a b o0 o Memory h = h
listens_holding printed held a b o0 o BadPages h = h

-- what the bits told of whether they tell, and what they hold of others, is as it was
pub kept : (printed : List Bool → List ℕ) (a b : Left Bool) (o0 o : Written ℕ) (status : Status) → HasListened printed a b o0 o status → (b.tells ≡ a.tells) × (b.lent ≡ a.lent)
kept printed a b o0 o Done h = (h.took.tells, h.took.lent)
kept printed a b o0 o TooLong h = (h.took.tells, h.took.lent)
kept printed a b o0 o FileFault h = (h.failed.tells, h.failed.lent)
kept printed a b o0 o OutFault h = (h.took.tells, h.took.lent)
kept printed a b o0 o Usage h = elim h [ ]
kept printed a b o0 o Settings h = elim h [ ]
kept printed a b o0 o WireFault h = elim h [ ]
kept printed a b o0 o InputFault h = elim h [ ]
kept printed a b o0 o NotBlock h = elim h [ ]
kept printed a b o0 o BadSum h = elim h [ ]
kept printed a b o0 o BadText h = elim h [ ]
kept printed a b o0 o LogonRefused h = elim h [ ]
kept printed a b o0 o SomeUnsent h = elim h [ ]
kept printed a b o0 o Memory h = elim h [ ]
kept printed a b o0 o BadPages h = elim h [ ]

-- the files that bits over a shelf hold
abbrev files_of : Files → List Held → OtherFiles
files_of s (Lent n ∷ Text t ∷ OfShelf o ∷ rest) = o
files_of s _ = all_files s

-- bits of a file of which none was taken
fresh_bits : (n : GName) (name same : List ℕ) (ready : List Bool) (from : ℕ) (old now : Files) → ready ≡ [] → from ≡ 0 → same ≡ name → now ≡ old
    → holding old.lent (shelf_bits n same ready from now) ≡ file_bits name old
fresh_bits n name same ready from old now r f s e = rw (r, f, s, e) refl

pub hears_file : (printed : List Bool → List ℕ) (m n : GName) (name same then : List ℕ) (ready later : List Bool) (from at : ℕ) (old now new : Files) (o0 o : Written ℕ) (status : Status)
    → ready ≡ [] → from ≡ 0 → same ≡ name → now ≡ old
    → HasListened printed (shelf_bits n same ready from now) (shelf_bits m then later at new) o0 o status
    → HearsFile printed name old new o0 o status
hears_file printed m n name same then ready later from at old now new o0 o status r f s e h =
    let k = kept printed (shelf_bits n same ready from now) (shelf_bits m then later at new) o0 o status h in
    let rest = holding old.lent (shelf_bits m then later at new) in
    let l : HasListened printed (file_bits name old) rest o0 o status =
    subst (λ (b : Left Bool). HasListened printed b rest o0 o status) (fresh_bits n name same ready from old now r f s e) (listens_holding printed old.lent _ _ o0 o status h) in
    record {
      rest = rest;
      listens = l;
      faults = refl;
      steady = λ t. (and_both new.steady (new.there then) t).0;
      tells = k.0 ∙ ap (λ (x : Files). x.tells) e;
      files = ap (files_of old) k.1 ∙ ap all_files e;
      lent = ap (λ (held : List Held). drop 3 held) k.1 ∙ ap (λ (x : Files). x.lent) e;
      out_well = listened_well printed (file_bits name old) rest o0 o status l;
    }
