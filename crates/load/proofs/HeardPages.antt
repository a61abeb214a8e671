-- The pages that are heard: they depend on the capcodes that are listened to alone, and are to these.
use Rattle.std.proofs.Common.{◌≡◌, ℕ, suc, ◌==◌, Bool, true, false, ◌&&◌, nat_le, List, [], ◌∷◌, ◌++◌, map, flat_map, length, Option, Some, None, refl, ap, ap₂, subst, ◌∙◌}
use Rattle.std.proofs.lemmas.Bool.{and_parts, both_ways, ne_eqb}
use Rattle.std.proofs.lemmas.List.{map-append}
use Rattle.std.proofs.lemmas.List.Elements.{filter-append}
use Rattle.codeword.specs.Capcodes.{capcode_at}
use Rattle.codeword.specs.declared.functions.Function.{Function}
use Rattle.codeword.specs.declared.kinds.WordKind.{WordKind}
use Rattle.codeword.specs.declared.kinds.WordKind.TheVariants.{Address, Message}
use Rattle.page_text.specs.declared.limits.TheConstants.{MOST_GROUPS}
use Rattle.page_text.specs.Page.{Page}
use Rattle.receiver.specs.Heard.{HeardPage, groups_to_address, heard, kinds_in, page_if, page_with, pages_from, stretch_pages, with_text}
use Rattle.receiver.specs.Shown.{pages_in}
use Rattle.receiver.specs.Stretches.{stretches}

module _ (f g : ℕ → Bool) (same : (c : ℕ) → f c ≡ g c) where
  same-page_with : (place : ℕ) (kind : Option WordKind) (groups : Option (List ℕ)) → page_with f place kind groups ≡ page_with g place kind groups
  same-page_with place None groups = refl
  same-page_with place (Some (Message group)) groups = refl
  same-page_with place (Some (Address high function)) None = refl
  same-page_with place (Some (Address high function)) (Some groups) =
      ap (λ (b : Bool). page_if (b && nat_le (length groups) MOST_GROUPS) (capcode_at place high) function groups) (same (capcode_at place high))

  same-pages_from : (place : ℕ) (kinds : List (Option WordKind)) → pages_from f place kinds ≡ pages_from g place kinds
  unfolding pages_from
  same-pages_from place [] = refl
  same-pages_from place (kind ∷ kinds) = ap₂ (λ (x y : List HeardPage). x ++ y) (same-page_with place kind (groups_to_address kinds)) (same-pages_from (suc place) kinds)

  same-stretches : (xs : List (List ℕ)) → flat_map (stretch_pages f) xs ≡ flat_map (stretch_pages g) xs
  same-stretches [] = refl
  same-stretches (x ∷ xs) = ap₂ (λ (y z : List HeardPage). y ++ z) (same-pages_from 0 (kinds_in x)) (same-stretches xs)

  -- the same capcodes hear the same pages
  pub heard-same : (bits : List Bool) → heard f bits ≡ heard g bits
  heard-same bits = same-stretches (stretches bits)

module _ (f : ℕ → Bool) (c : ℕ) (not_listened : f c ≡ false) where
  abbrev of_c : List HeardPage → List Page
  of_c pages = pages_in (λ capcode. capcode == c) (map with_text pages)

  of_c-append : (xs ys : List HeardPage) → of_c xs ≡ [] → of_c ys ≡ [] → of_c (xs ++ ys) ≡ []
  of_c-append xs ys h k =
      ap (pages_in (λ capcode. capcode == c)) (map-append with_text xs ys)
      ∙ filter-append (λ (page : Page). page.capcode == c) (map with_text xs) (map with_text ys)
      ∙ ap₂ (λ (x y : List Page). x ++ y) h k

  none-page_if : (b : Bool) (capcode : ℕ) (function : Function) (groups : List ℕ) → (b ≡ true → f capcode ≡ true) → of_c (page_if b capcode function groups) ≡ []
  none-page_if false capcode function groups h = refl
  none-page_if true capcode function groups h =
      let other : (capcode == c) ≡ false = ne_eqb capcode c (λ e. both_ways (f c) not_listened (subst (λ (x : ℕ). f x ≡ true) e (h refl))) in
      rw other refl

  none-page_with : (place : ℕ) (kind : Option WordKind) (groups : Option (List ℕ)) → of_c (page_with f place kind groups) ≡ []
  none-page_with place None groups = refl
  none-page_with place (Some (Message group)) groups = refl
  none-page_with place (Some (Address high function)) None = refl
  none-page_with place (Some (Address high function)) (Some groups) =
      none-page_if (f (capcode_at place high) && nat_le (length groups) MOST_GROUPS) (capcode_at place high) function groups
      (λ e. (and_parts (f (capcode_at place high)) (nat_le (length groups) MOST_GROUPS) e).0)

  none-pages_from : (place : ℕ) (kinds : List (Option WordKind)) → of_c (pages_from f place kinds) ≡ []
  unfolding pages_from
  none-pages_from place [] = refl
  none-pages_from place (kind ∷ kinds) =
      of_c-append (page_with f place kind (groups_to_address kinds)) (pages_from f (suc place) kinds) (none-page_with place kind (groups_to_address kinds)) (none-pages_from (suc place) kinds)

  none-stretches : (xs : List (List ℕ)) → of_c (flat_map (stretch_pages f) xs) ≡ []
  none-stretches [] = refl
  none-stretches (x ∷ xs) = of_c-append (stretch_pages f x) (flat_map (stretch_pages f) xs) (none-pages_from 0 (kinds_in x)) (none-stretches xs)

  -- no page is heard of a capcode that isn't listened to
  pub heard-none : (bits : List Bool) → pages_in (λ capcode. capcode == c) (map with_text (heard f bits)) ≡ []
  heard-none bits = none-stretches (stretches bits)
