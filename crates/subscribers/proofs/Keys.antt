-- The keys of a table, as its map has them.
use Rattle.std.proofs.Common.{◌≡◌, ℕ, List, [], ◌∷◌, ◌&&◌, string_bytes, refl, ap}
use Rattle.std.specs.List.{list_all, list_any}
use Rattle.std.specs.Map as tree
use Rattle.std.specs.Str.{bytes_eq}
use Rattle.toml.proofs.Views.{Entry}
use Rattle.toml.specs.View.{members_view}
use Rattle.subscribers.specs.Form.{has_only}

-- The test of each key of the map is the test of each key of the table.
pub has_only-view : (names : List (List ℕ)) (es : List Entry) → list_all (λ k. list_any (bytes_eq (string_bytes k)) names) (tree.keys_of es) ≡ has_only names (members_view es)
unfolding has_only
has_only-view names [] = refl
has_only-view names (e ∷ es) = ap (λ b. list_any (bytes_eq (string_bytes e.0)) names && b) (has_only-view names es)
