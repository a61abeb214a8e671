-- The pages of a file, from its bytes in memory.
use Rattle.std.proofs.Common.{◌≡◌, inl, inr, ℕ, ◌≤◌, ◌<◌, List, length, take, refl, sym, ◌∙◌, subst, arith}
use Rattle.std.proofs.lemmas.Bool.{cases_lt}
use Rattle.std.proofs.lemmas.List.{length-take-le, take_all}
use Rattle.tap_entry.specs.PagesFile.{IsFile, IsFileRefused, FileContent, most_pages_bytes}
use Rattle.tap_entry.specs.declared.faults.PagesFault.{PagesFault}
use Rattle.tap_entry.specs.declared.faults.PagesFault.TheVariants as Pages
use Rattle.wires.specs.Files.{Files}
use Rattle.wires.specs.Line.{Line}
use Rattle.wires.specs.Written.{Written}
use Rattle.station.specs.declared.outcomes.Outcome.TheVariants.{Ended}
use Rattle.endings.specs.declared.statuses.Status.{Status}
use Rattle.endings.specs.declared.statuses.Status.TheVariants.{FileFault, Memory}
use Rattle.calling.specs.Calls.{HasSent}
use Rattle.station.specs.ReadFile.{IsUnread, ReadInto, most_of_file}
use Rattle.station.specs.SendRows.{ReadPages, SendRow, pages_outcome}
use Rattle.serving.specs.Serving.{Around}

-- a front of a file that is short is the whole of it
whole : (bytes : List ℕ) → length (take most_of_file bytes) ≤ most_pages_bytes → take most_of_file bytes ≡ bytes
whole bytes h = elim (cases_lt most_pages_bytes (length bytes)) [
  | inl long ↦ (let n = length-take-le most_of_file bytes (omega (arith, long)) in absurd (omega (arith, n, h)))
  | inr few ↦ take_all most_of_file bytes (omega (arith, few))
]

long_too : (bytes : List ℕ) → most_pages_bytes < length (take most_of_file bytes) → most_pages_bytes < length bytes
long_too bytes h = elim (cases_lt most_pages_bytes (length bytes)) [
  | inl long ↦ long
  | inr few ↦ subst (λ (xs : List ℕ). most_pages_bytes < length xs) (take_all most_of_file bytes (omega (arith, few))) h
]

is_file : (bytes : List ℕ) (told : FileContent) → IsFile (take most_of_file bytes) told → IsFile bytes told
is_file bytes told h = subst (λ (xs : List ℕ). IsFile xs told) (whole bytes h.short) h

is_refused : (bytes : List ℕ) (fault : PagesFault) → IsFileRefused (take most_of_file bytes) fault → IsFileRefused bytes fault
is_refused bytes Pages.Long h = long_too bytes h
is_refused bytes (Pages.Line n) h = subst (λ (xs : List ℕ). IsFileRefused xs (Pages.Line n)) (whole bytes h.0) h
is_refused bytes Pages.Memory h = tt

-- the file says these pages
pub read_pages : (name : List ℕ) (a b : Files) (bytes seen : List ℕ) (told : FileContent) → seen ≡ bytes → ReadInto name a b bytes → IsFile seen told → ReadPages name a b told
read_pages name a b bytes seen told same read file = record {
  unharmed = read.unharmed;
  there = read.there;
  pages_are = λ t. is_file (a.file name) told (subst (λ (xs : List ℕ). IsFile xs told) (same ∙ read.bytes_are t) file);
  seen = seen;
  of_seen = file;
}

-- the file is refused
pub refused_row : (address name : List ℕ) (w : Line) (a b : Files) (o : Written ℕ) (bytes seen : List ℕ) (fault : PagesFault) → seen ≡ bytes → ReadInto name a b bytes
    → IsFileRefused seen fault → SendRow address name (record { wire = w; shelf = a; out = o }) (record { wire = w; shelf = b; out = o }) (pages_outcome fault)
refused_row address name w a b o bytes seen Pages.Memory same read refused = (read.unharmed, record { wire = refl; out = refl })
refused_row address name w a b o bytes seen fault same read refused = (
  record {
    unharmed = read.unharmed;
    there = read.there;
    refused = λ t. is_refused (a.file name) fault (subst (λ (xs : List ℕ). IsFileRefused xs fault) (same ∙ read.bytes_are t) refused);
    seen = seen;
    of_seen = refused;
  },
  record { wire = refl; out = refl },
)

-- the file wasn't read
pub unread_row : (address name : List ℕ) (w : Line) (a b : Files) (o : Written ℕ) (status : Status) → IsUnread name a b status
    → SendRow address name (record { wire = w; shelf = a; out = o }) (record { wire = w; shelf = b; out = o }) (Ended status)
unread_row address name w a b o status (inl h) =
    subst (λ (s : Status). SendRow address name (record { wire = w; shelf = a; out = o }) (record { wire = w; shelf = b; out = o }) (Ended s)) (sym h.0)
    (h.1, record { wire = refl; out = refl })
unread_row address name w a b o status (inr h) =
    subst (λ (s : Status). SendRow address name (record { wire = w; shelf = a; out = o }) (record { wire = w; shelf = b; out = o }) (Ended s)) (sym h.0)
    (h.1, record { wire = refl; out = refl })

-- the pages were sent
pub sent_row : (address name : List ℕ) (old new : Around) (told : FileContent) (status : Status) → ReadPages name old.shelf new.shelf told → HasSent told address old.wire new.wire old.out new.out status
    → SendRow address name old new (Ended status)
sent_row address name old new told Memory read sends = elim sends.sends [ ]
sent_row address name old new told FileFault read sends = elim sends.sends [ ]
sent_row address name old new told status read sends = record { told = told; read = read; sends = sends }
