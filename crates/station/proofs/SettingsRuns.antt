-- The commands `station`, `snpp`, `trial` and `twice`, from their parts.
use Rattle.std.proofs.Common.{◌≡◌, inl, inr, ℕ, Bool, List, [], ◌∷◌, drop, refl, sym, ◌∙◌, ap, subst}
use Rattle.std.specs.Borrow.{GName}
use Rattle.subscribers.specs.Parts.{Parts}
use Rattle.wires.proofs.Written.{and_both}
use Rattle.wires.specs.Files.{Files, all_files}
use Rattle.wires.specs.Held.{Held, Lent, OfShelf, OtherFiles, Text}
use Rattle.wires.specs.Left.{Left}
use Rattle.wires.specs.Stacked.{shelf_bits}
use Rattle.wires.specs.Written.{Written}
use Rattle.station.specs.declared.outcomes.Outcome.{Outcome}
use Rattle.station.specs.declared.outcomes.Outcome.TheVariants.{Ended, Misread, Refused}
use Rattle.endings.specs.declared.statuses.Status.{Status}
use Rattle.endings.specs.declared.statuses.Status.TheVariants.{BadPages, BadSum, BadText, Done, FileFault, InputFault, LogonRefused, Memory, NotBlock, OutFault, Settings, SomeUnsent, TooLong, Usage, WireFault}
use Rattle.station.specs.ReadFile.{HasNoSettings, ReadSettings}
use Rattle.serving.specs.Protocols.{Protocol}
use Rattle.serving.specs.Serving.{Around, HasServed}
use Rattle.station.specs.StationRows.{AreFileBits, ServedBy, StationRow, TrialRow, TriedBy, TriesFile, lines_by, with_shelf}
use Rattle.serving.specs.Sent.{Times}
use Rattle.serving.specs.Trying.{Tries}
use Rattle.serving.proofs.TriedWell.{tried_well}

-- `station` and `snpp` without settings
pub unset_station : (p : Protocol) (address settings air : List ℕ) (count : ℕ) (old : Around) (shelf : Files) (outcome : Outcome) → HasNoSettings settings old.shelf shelf outcome
    → StationRow p address settings air count old (with_shelf old shelf) outcome
unset_station p address settings air count old shelf (Refused fault) h = (h, record { wire = refl; out = refl })
unset_station p address settings air count old shelf (Misread fault) h = elim h [ ]
unset_station p address settings air count old shelf (Ended status) (inl h) =
    subst (λ (s : Status). StationRow p address settings air count old (with_shelf old shelf) (Ended s)) (sym h.0) (inl (h.1, record { wire = refl; out = refl }))
unset_station p address settings air count old shelf (Ended status) (inr h) =
    subst (λ (s : Status). StationRow p address settings air count old (with_shelf old shelf) (Ended s)) (sym h.0) (h.1, record { wire = refl; out = refl })

-- `trial` or `twice` without settings
pub unset_trial : (times : Times) (settings noise : List ℕ) (receivers : List (List ℕ)) (input : Left ℕ) (old new : Files) (out : Written ℕ) (outcome : Outcome) → HasNoSettings settings old new outcome
    → TrialRow times settings noise receivers input input old new out out outcome
unset_trial times settings noise receivers input old new out (Refused fault) h = (h, refl, refl)
unset_trial times settings noise receivers input old new out (Misread fault) h = elim h [ ]
unset_trial times settings noise receivers input old new out (Ended status) (inl h) =
    subst (λ (s : Status). TrialRow times settings noise receivers input input old new out out (Ended s)) (sym h.0) (inl (h.1, refl, refl))
unset_trial times settings noise receivers input old new out (Ended status) (inr h) =
    subst (λ (s : Status). TrialRow times settings noise receivers input input old new out out (Ended s)) (sym h.0) (h.1, refl, refl)

-- connections were served by settings
served_by : (p : Protocol) (address settings air : List ℕ) (count : ℕ) (old new : Around) (parts s : Parts) (shelf : Files) (n : ℕ) (status : Status) → s ≡ parts → n ≡ parts.cells
    → ReadSettings settings old.shelf shelf parts → HasServed p s n (with_shelf old shelf) new address air count status → ServedBy p address settings air count old new status
served_by p address settings air count old new parts s shelf n status e k read h = record {
  parts = parts;
  shelf = shelf;
  read = read;
  served = subst (λ (m : ℕ). HasServed p parts m (with_shelf old shelf) new address air count status) k
      (subst (λ (q : Parts). HasServed p q n (with_shelf old shelf) new address air count status) e h);
}

pub station_row : (p : Protocol) (address settings air : List ℕ) (count : ℕ) (old new : Around) (parts s : Parts) (shelf : Files) (n : ℕ) (status : Status) → s ≡ parts → n ≡ parts.cells
    → ReadSettings settings old.shelf shelf parts → HasServed p s n (with_shelf old shelf) new address air count status → StationRow p address settings air count old new (Ended status)
station_row p address settings air count old new parts s shelf n Memory e k read h = elim h [ ]
station_row p address settings air count old new parts s shelf n FileFault e k read h = inr (served_by p address settings air count old new parts s shelf n FileFault e k read h)
station_row p address settings air count old new parts s shelf n Usage e k read h = served_by p address settings air count old new parts s shelf n Usage e k read h
station_row p address settings air count old new parts s shelf n Settings e k read h = served_by p address settings air count old new parts s shelf n Settings e k read h
station_row p address settings air count old new parts s shelf n WireFault e k read h = served_by p address settings air count old new parts s shelf n WireFault e k read h
station_row p address settings air count old new parts s shelf n OutFault e k read h = served_by p address settings air count old new parts s shelf n OutFault e k read h
station_row p address settings air count old new parts s shelf n InputFault e k read h = served_by p address settings air count old new parts s shelf n InputFault e k read h
station_row p address settings air count old new parts s shelf n NotBlock e k read h = served_by p address settings air count old new parts s shelf n NotBlock e k read h
station_row p address settings air count old new parts s shelf n BadSum e k read h = served_by p address settings air count old new parts s shelf n BadSum e k read h
station_row p address settings air count old new parts s shelf n BadText e k read h = served_by p address settings air count old new parts s shelf n BadText e k read h
station_row p address settings air count old new parts s shelf n TooLong e k read h = served_by p address settings air count old new parts s shelf n TooLong e k read h
station_row p address settings air count old new parts s shelf n LogonRefused e k read h = served_by p address settings air count old new parts s shelf n LogonRefused e k read h
station_row p address settings air count old new parts s shelf n SomeUnsent e k read h = served_by p address settings air count old new parts s shelf n SomeUnsent e k read h
station_row p address settings air count old new parts s shelf n BadPages e k read h = served_by p address settings air count old new parts s shelf n BadPages e k read h
station_row p address settings air count old new parts s shelf n Done e k read h = served_by p address settings air count old new parts s shelf n Done e k read h

-- the files that bits over a shelf hold
abbrev files_of : Files → List Held → OtherFiles
files_of s (Lent n ∷ Text t ∷ OfShelf o ∷ rest) = o
files_of s _ = all_files s

-- whether the noise tells, and what it holds of others, is as it was
tries_kept : (times : Times) (parts : Parts) (spare : ℕ) (printed : List Bool → List ℕ) (i0 i : Left ℕ) (a b : Left Bool) (o0 o : Written ℕ) (status : Status)
    → Tries times parts spare printed i0 i a b o0 o status → (b.tells ≡ a.tells) × (b.lent ≡ a.lent)
tries_kept times parts spare printed i0 i a b o0 o Done h = (h.took_flips.tells, h.took_flips.lent)
tries_kept times parts spare printed i0 i a b o0 o FileFault h = (h.failed.tells, h.failed.lent)
tries_kept times parts spare printed i0 i a b o0 o InputFault h = (ap (λ (x : Left Bool). x.tells) h.noise_is, ap (λ (x : Left Bool). x.lent) h.noise_is)
tries_kept times parts spare printed i0 i a b o0 o OutFault (inl h) = (ap (λ (x : Left Bool). x.tells) h.noise_is, ap (λ (x : Left Bool). x.lent) h.noise_is)
tries_kept times parts spare printed i0 i a b o0 o OutFault (inr h) = (h.took_flips.tells, h.took_flips.lent)
tries_kept times parts spare printed i0 i a b o0 o Usage h = elim h [ ]
tries_kept times parts spare printed i0 i a b o0 o Settings h = elim h [ ]
tries_kept times parts spare printed i0 i a b o0 o WireFault h = elim h [ ]
tries_kept times parts spare printed i0 i a b o0 o NotBlock h = elim h [ ]
tries_kept times parts spare printed i0 i a b o0 o BadSum h = elim h [ ]
tries_kept times parts spare printed i0 i a b o0 o BadText h = elim h [ ]
tries_kept times parts spare printed i0 i a b o0 o TooLong h = elim h [ ]
tries_kept times parts spare printed i0 i a b o0 o LogonRefused h = elim h [ ]
tries_kept times parts spare printed i0 i a b o0 o SomeUnsent h = elim h [ ]
tries_kept times parts spare printed i0 i a b o0 o BadPages h = elim h [ ]
tries_kept times parts spare printed i0 i a b o0 o Memory h = elim h [ ]

file_bits_are : (n : GName) (name same : List ℕ) (ready : List Bool) (from : ℕ) (old now : Files) → ready ≡ [] → from ≡ 0 → same ≡ name → now ≡ old
    → AreFileBits name old (shelf_bits n same ready from now)
file_bits_are n name same ready from old now r f s e = record {
  tells = ap (λ (x : Files). x.tells) e;
  left = rw (r, f, s, e) refl;
  there = rw (r, s, e) refl;
  steady = rw (s, e) refl;
  faults = ap (λ (x : Files). x.faults) e;
}

pub tries_file : (times : Times) (parts : Parts) (spare : ℕ) (printed : List Bool → List ℕ) (m n : GName) (name same then : List ℕ) (ready later : List Bool) (from at : ℕ) (i0 i : Left ℕ) (old now new : Files)
    (o0 o : Written ℕ) (status : Status) → ready ≡ [] → from ≡ 0 → same ≡ name → now ≡ old
    → Tries times parts spare printed i0 i (shelf_bits n same ready from now) (shelf_bits m then later at new) o0 o status
    → TriesFile times parts spare printed name i0 i old new o0 o status
tries_file times parts spare printed m n name same then ready later from at i0 i old now new o0 o status r f s e h =
    let k = tries_kept times parts spare printed i0 i (shelf_bits n same ready from now) (shelf_bits m then later at new) o0 o status h in
    record {
      bits = shelf_bits n same ready from now;
      rest = shelf_bits m then later at new;
      bits_are = file_bits_are n name same ready from old now r f s e;
      tries = h;
      kept = record {
        tells = k.0 ∙ ap (λ (x : Files). x.tells) e;
        files = ap (files_of old) k.1 ∙ ap all_files e;
        lent = ap (λ (held : List Held). drop 3 held) k.1 ∙ ap (λ (x : Files). x.lent) e;
      };
      faults = refl;
      steady = λ t. (and_both new.steady (new.there then) t).0;
      out_well = tried_well times parts spare printed i0 i (shelf_bits n same ready from now) (shelf_bits m then later at new) o0 o status h;
    }

-- the session of an input was tried by settings
tried_by : (times : Times) (settings noise : List ℕ) (receivers : List (List ℕ)) (i0 i : Left ℕ) (old new : Files) (o0 o : Written ℕ) (parts s : Parts) (shelf : Files) (n : ℕ) (printed : List Bool → List ℕ) (status : Status)
    → s ≡ parts → n ≡ parts.cells → printed ≡ lines_by times receivers → ReadSettings settings old shelf parts → TriesFile times s n printed noise i0 i shelf new o0 o status
    → TriedBy times settings noise receivers i0 i old new o0 o status
tried_by times settings noise receivers i0 i old new o0 o parts s shelf n printed status e k p read h = record {
  parts = parts;
  shelf = shelf;
  read = read;
  tried = subst (λ (f : List Bool → List ℕ). TriesFile times parts parts.cells f noise i0 i shelf new o0 o status) p
      (subst (λ (m : ℕ). TriesFile times parts m printed noise i0 i shelf new o0 o status) k
      (subst (λ (q : Parts). TriesFile times q n printed noise i0 i shelf new o0 o status) e h));
}

pub trial_row : (times : Times) (settings noise : List ℕ) (receivers : List (List ℕ)) (i0 i : Left ℕ) (old new : Files) (o0 o : Written ℕ) (parts s : Parts) (shelf : Files) (n : ℕ) (printed : List Bool → List ℕ) (status : Status)
    → s ≡ parts → n ≡ parts.cells → printed ≡ lines_by times receivers → ReadSettings settings old shelf parts → TriesFile times s n printed noise i0 i shelf new o0 o status
    → TrialRow times settings noise receivers i0 i old new o0 o (Ended status)
trial_row times settings noise receivers i0 i old new o0 o parts s shelf n printed Memory e k p read h = elim h.tries [ ]
trial_row times settings noise receivers i0 i old new o0 o parts s shelf n printed FileFault e k p read h =
    inr (tried_by times settings noise receivers i0 i old new o0 o parts s shelf n printed FileFault e k p read h)
trial_row times settings noise receivers i0 i old new o0 o parts s shelf n printed Usage e k p read h =
    tried_by times settings noise receivers i0 i old new o0 o parts s shelf n printed Usage e k p read h
trial_row times settings noise receivers i0 i old new o0 o parts s shelf n printed Settings e k p read h =
    tried_by times settings noise receivers i0 i old new o0 o parts s shelf n printed Settings e k p read h
trial_row times settings noise receivers i0 i old new o0 o parts s shelf n printed WireFault e k p read h =
    tried_by times settings noise receivers i0 i old new o0 o parts s shelf n printed WireFault e k p read h
trial_row times settings noise receivers i0 i old new o0 o parts s shelf n printed OutFault e k p read h =
    tried_by times settings noise receivers i0 i old new o0 o parts s shelf n printed OutFault e k p read h
trial_row times settings noise receivers i0 i old new o0 o parts s shelf n printed InputFault e k p read h =
    tried_by times settings noise receivers i0 i old new o0 o parts s shelf n printed InputFault e k p read h
trial_row times settings noise receivers i0 i old new o0 o parts s shelf n printed NotBlock e k p read h =
    tried_by times settings noise receivers i0 i old new o0 o parts s shelf n printed NotBlock e k p read h
trial_row times settings noise receivers i0 i old new o0 o parts s shelf n printed BadSum e k p read h =
    tried_by times settings noise receivers i0 i old new o0 o parts s shelf n printed BadSum e k p read h
trial_row times settings noise receivers i0 i old new o0 o parts s shelf n printed BadText e k p read h =
    tried_by times settings noise receivers i0 i old new o0 o parts s shelf n printed BadText e k p read h
trial_row times settings noise receivers i0 i old new o0 o parts s shelf n printed TooLong e k p read h =
    tried_by times settings noise receivers i0 i old new o0 o parts s shelf n printed TooLong e k p read h
trial_row times settings noise receivers i0 i old new o0 o parts s shelf n printed LogonRefused e k p read h =
    tried_by times settings noise receivers i0 i old new o0 o parts s shelf n printed LogonRefused e k p read h
trial_row times settings noise receivers i0 i old new o0 o parts s shelf n printed SomeUnsent e k p read h =
    tried_by times settings noise receivers i0 i old new o0 o parts s shelf n printed SomeUnsent e k p read h
trial_row times settings noise receivers i0 i old new o0 o parts s shelf n printed BadPages e k p read h =
    tried_by times settings noise receivers i0 i old new o0 o parts s shelf n printed BadPages e k p read h
trial_row times settings noise receivers i0 i old new o0 o parts s shelf n printed Done e k p read h =
    tried_by times settings noise receivers i0 i old new o0 o parts s shelf n printed Done e k p read h
