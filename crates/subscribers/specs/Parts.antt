-- What settings hold.
use Rattle.std.specs.Prelude.{ℕ, List, Option, refl}
use Rattle.std.specs.Coded.{Coded, code_by, coded×, coded_ℕ, coded_list, coded_option}
use Rattle.std.specs.FinMap.{FinMap, code}
use Rattle.std.specs.Ordering.{nat_cmp}
use Rattle.std.specs.Cmp.Lexicographic.{slice_cmp}
use Rattle.codeword.specs.declared.functions.Function.{Function}
use Rattle.codeword.specs.contracts.functions.Function.{the_row}

-- What an id stands for: the function of its pages, and its capcodes in their order, one of a subscriber and 1 to 16 of a group.
pub record Target : Type 0 where
  pub function : Function
  pub capcodes : List ℕ

-- Targets are stored as the pair of their fields.
abbrev pub target_code : Coded Target
target_code = code_by (Function × List ℕ) (coded× the_row.coded (coded_list coded_ℕ)) (λ t. (t.function, t.capcodes)) (λ p. record { function = p.0; capcodes = p.1 }) (λ _. refl)

-- A finite map from ids to what they stand for.
abbrev pub Ids : Type 0
Ids = FinMap (slice_cmp nat_cmp) Target

-- The number of cells, the password or none, and the map of ids.
pub record Parts : Type 0 where
  pub cells : ℕ
  pub password : Option (List ℕ)
  pub ids : Ids

-- Parts are stored as the triple of their fields.
abbrev pub parts_code : Coded Parts
parts_code =
    code_by (ℕ × (Option (List ℕ) × Ids)) (coded× coded_ℕ (coded× (coded_option (coded_list coded_ℕ)) (code (coded_list coded_ℕ) target_code)))
    (λ p. (p.cells, (p.password, p.ids))) (λ t. record { cells = t.0; password = t.1.0; ids = t.1.1 }) (λ _. refl)
