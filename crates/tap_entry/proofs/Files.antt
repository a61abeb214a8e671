-- A whole pages file.
use Rattle.std.proofs.Common.{◌≡◌, ℕ, ◌≤◌, List, [], ◌∷◌, ◌++◌, length, refl, ap, sym, ◌∙◌, subst, Option, ◌⊎◌, inl, inr}
use Rattle.std.specs.List.{AllByRecursion}
use Rattle.tap_entry.specs.declared.faults.PagesFault.{PagesFault}
use Rattle.tap_entry.specs.declared.faults.PagesFault.TheVariants.{Memory}
use Rattle.tap_entry.specs.Client.{PageToSend, IsPage}
use Rattle.tap_entry.specs.PagesFile.{AreLinesOf, first_line, FileContent, IsRightFile, Begins, IsFile, IsFileRefused, most_pages_bytes}
use Rattle.tap_entry.specs.Signs.{PagesUpTo, BeginsFile, StopsAt}

all_pages : (pages : List PageToSend) (lines : List (List ℕ)) → AreLinesOf pages lines → AllByRecursion IsPage pages
all_pages [] [] h = tt
all_pages [] (l ∷ lines) h = elim h [ ]
all_pages (p ∷ pages) [] h = elim h [ ]
all_pages (p ∷ pages) (l ∷ lines) h = (h.0.fits, all_pages pages lines h.1)

abbrev told : Option (List ℕ) → List PageToSend → FileContent
told password pages = record { password = password; pages = pages }

-- a file begins with its first line and the lines of its pages
pub begins_of : (x : List ℕ) (password : Option (List ℕ)) (rest : List ℕ) (pages : List PageToSend) (behind : List ℕ) → BeginsFile x password rest → PagesUpTo rest pages behind → Begins x (told password pages) behind
begins_of x password rest pages behind h k = record {
  lines = k.lines;
  password = h.is_password;
  each = k.each;
  few = k.few;
  form = h.form ∙ ap (λ z. first_line password ++ z) k.form;
}

pub told_of : (x : List ℕ) (password : Option (List ℕ)) (rest : List ℕ) (pages : List PageToSend) → BeginsFile x password rest → PagesUpTo rest pages [] → IsRightFile (told password pages)
told_of x password rest pages h k = record { password = h.is_password; each = all_pages pages k.lines k.each; few = k.few }

pub file_of : (x : List ℕ) (password : Option (List ℕ)) (rest : List ℕ) (pages : List PageToSend) → length x ≤ most_pages_bytes → BeginsFile x password rest → PagesUpTo rest pages [] → IsFile x (told password pages)
file_of x password rest pages s h k = record { short = s; whole = begins_of x password rest pages [] h k }

-- a fault behind the first line
pub refused_of : (x : List ℕ) (password : Option (List ℕ)) (rest : List ℕ) (fault : PagesFault) → length x ≤ most_pages_bytes → BeginsFile x password rest → (fault ≡ Memory) ⊎ StopsAt rest fault → IsFileRefused x fault
refused_of x password rest fault s h (inl e) = subst (IsFileRefused x) (sym e) tt
refused_of x password rest fault s h (inr k) = subst (IsFileRefused x) (sym k.fault_is) (
  s,
  inr (record {
    told = told password k.pages;
    behind = k.rest;
    before = begins_of x password rest k.pages k.rest h k.before;
    number = refl;
    some = k.some;
    wrong = k.wrong;
  }),
)
