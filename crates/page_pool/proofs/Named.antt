-- The page that a ticket names.
use Rattle.std.proofs.Common.{◌≡◌, ℕ, List, [], ◌∷◌, ◌++◌, map, length, refl, sym, ◌∙◌, ap}
use Rattle.std.proofs.lemmas.List.FromFn.{length-map-range_with_len}
use Rattle.page_pool.specs.Chain.{walk}
use Rattle.page_pool.specs.Pool.{Live}
use Rattle.page_pool.specs.Layout.{after_of, byte_at, text_in_cells, entry, IsRegion}
use Rattle.page_pool.specs.declared.heads.Head.{Head}
use Rattle.page_pool.specs.declared.heads.Ends.{Ends}
use Rattle.page_pool.proofs.Facts as facts

-- an image splits the list of images where its origin splits the list
pub record Split (g : ℕ → Live) (xs : List ℕ) (e : Live) : Type 0 where
  pub front : List ℕ
  pub c : ℕ
  pub back : List ℕ
  pub is : xs ≡ front ++ c ∷ back
  pub named : g c ≡ e

-- a split of the images comes from a split of the list
pub map_split : (g : ℕ → Live) (xs : List ℕ) (b : List Live) (e : Live) (a : List Live) → map g xs ≡ b ++ e ∷ a → Split g xs e
map_split g [] [] e a h = absurd (cc)
map_split g [] (d ∷ b) e a h = absurd (cc)
map_split g (x ∷ xs) [] e a h = record { front = []; c = x; back = xs; is = refl; named = cc }
map_split g (x ∷ xs) (d ∷ b) e a h =
    let t : map g xs ≡ b ++ e ∷ a = cc in
    let s = map_split g xs b e a t in
    record { front = x ∷ s.front; c = s.c; back = s.back; is = ap (λ l. x ∷ l) s.is; named = s.named }

-- how long a text is
pub length-text : (bytes cells : List ℕ) (n : ℕ) → length (text_in_cells bytes cells n) ≡ n
length-text bytes cells n = length-map-range_with_len (byte_at bytes cells) 0 n

-- the head's cell stands in the order
pub found : (bytes links : List ℕ) (hs : List Head) (free spare first last count : ℕ) (frames : List Ends) (r : IsRegion bytes links hs free spare first last count frames)
    (t : ℕ) (b : List Live) (e : Live) (a : List Live) → map (entry bytes links hs) (walk (after_of hs) count first) ≡ b ++ e ∷ a → e.ticket ≡ t
    → (front : List ℕ) × (back : List ℕ) × (r.order ≡ front ++ t ∷ back)
found bytes links hs free spare first last count frames r t b e a h n =
    let s = map_split (entry bytes links hs) r.order b e a (ap (map (entry bytes links hs)) (sym (facts.order_is bytes links hs free spare first last count frames r)) ∙ h) in
    let c : s.c ≡ t = ap (λ (v : Live). v.ticket) s.named ∙ n in
    (s.front, s.back, s.is ∙ ap (λ z. s.front ++ z ∷ s.back) c)
