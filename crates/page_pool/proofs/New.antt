-- An empty region.
use Rattle.std.proofs.Common.{◌≡◌, ℕ, zero, suc, ◌+◌, ◌*◌, ◌<◌, ◌≤◌, false, cond, inl, inr, List, [], length, replicate, refl, sym, ◌∙◌, ap, arith}
use Rattle.std.specs.List.{range_with_len}
use Rattle.std.specs.Option.{is_some}
use Rattle.std.proofs.lemmas.List.FromFn.{length-range_with_len}
use Rattle.std.proofs.lemmas.List.{length-replicate}
use Rattle.std.proofs.lemmas.Bool.Decides.{eqb_tells}
use Rattle.page_pool.specs.Chain.{first_or, Chain, times}
use Rattle.page_pool.specs.Layout.{NONE, head, link_of, ends, IsRegion}
use Rattle.page_pool.specs.declared.heads.Head.{Head}
use Rattle.page_pool.specs.declared.heads.Ends.{Ends}

-- cells that are linked each to the next are a chain
pub chain_range : (f : ℕ → ℕ) (a n e : ℕ) → ((k : ℕ) → a ≤ k → k + 1 < a + n → f k ≡ k + 1) → ((k : ℕ) → k + 1 ≡ a + n → a ≤ k → f k ≡ e) → Chain f (range_with_len a n) e
chain_range f a zero e next last = tt
chain_range f a (suc zero) e next last = (last a (omega arith) (omega arith), tt)
chain_range f a (suc (suc n)) e next last =
    (next a (omega arith) (omega arith), chain_range f (a + 1) (suc n) e (λ k l h. next k (omega (arith, l)) (omega (arith, h))) (λ k h l. last k (omega (arith, h)) (omega (arith, l))))

-- no smaller number stands in a range
times-low : (x a n : ℕ) → x < a → times x (range_with_len a n) ≡ 0
times-low x a zero h = refl
times-low x a (suc n) h = let r = times-low x (a + 1) n (omega (arith, h)) in
    elim (eqb_tells x a) [ inl e ↦ absurd (omega (arith, e.1, h)) | inr e ↦ ap (λ b. cond b 1 0 + times x (range_with_len (a + 1) n)) e.0 ∙ omega (arith, r) ]

-- each number of a range stands in it once
pub times-range : (x a n : ℕ) → a ≤ x → x < a + n → times x (range_with_len a n) ≡ 1
times-range x a zero l h = absurd (omega (arith, l, h))
times-range x a (suc n) l h =
    elim (eqb_tells x a) [
      | inl e ↦ let r = times-low x (a + 1) n (omega (arith, e.1)) in ap (λ b. cond b 1 0 + times x (range_with_len (a + 1) n)) e.0 ∙ omega (arith, r)
      | inr e ↦ let r = times-range x (a + 1) n (omega (arith, e.1, l)) (omega (arith, h)) in ap (λ b. cond b 1 0 + times x (range_with_len (a + 1) n)) e.0 ∙ omega (arith, r)
    ]

-- no larger number stands in a range
pub times-beyond : (x a n : ℕ) → a + n ≤ x → times x (range_with_len a n) ≡ 0
times-beyond x a zero h = refl
times-beyond x a (suc n) h = let r = times-beyond x (a + 1) n (omega (arith, h)) in
    elim (eqb_tells x a) [ inl e ↦ absurd (omega (arith, e.1, h)) | inr e ↦ ap (λ b. cond b 1 0 + times x (range_with_len (a + 1) n)) e.0 ∙ omega (arith, r) ]

-- each head of a new pool
head-replicate : (n : ℕ) (h : Head) (c : ℕ) → c < n → head (replicate n h) c ≡ h
head-replicate zero h c l = absurd (omega (arith, l))
head-replicate (suc n) h zero l = refl
head-replicate (suc n) h (suc c) l = head-replicate n h c (omega (arith, l))

-- the ends of each frame of a new pool
ends-replicate : (n : ℕ) (e : Ends) (f : ℕ) → f < n → ends (replicate n e) f ≡ e
ends-replicate zero e f l = absurd (omega (arith, l))
ends-replicate (suc n) e zero l = refl
ends-replicate (suc n) e (suc f) l = ends-replicate n e f (omega (arith, l))

-- the first of a range
first_range : (n e : ℕ) → 0 < n → 0 ≡ first_or (range_with_len 0 n) e
first_range zero e h = absurd (omega (arith, h))
first_range (suc n) e h = refl

-- a new pool
pub empty : (bytes links : List ℕ) (hs : List Head) (h : Head) (n : ℕ) → 0 < n → n ≤ 65536 → hs ≡ replicate n h → is_some h.address ≡ false → length hs ≡ n → length links ≡ n → length bytes ≡ 32 * n
    → ((k : ℕ) → k + 1 < length links → link_of links k ≡ k + 1) → ((k : ℕ) → k + 1 ≡ length links → link_of links k ≡ NONE)
    → IsRegion bytes links hs 0 n NONE NONE 0 (replicate 8 (record { first = NONE; last = NONE }))
empty bytes links hs h n some most is dead size links_size bytes_size next last = record {
  order = [];
  unused = range_with_len 0 n;
  onward = tt;
  backward = tt;
  first_is = refl;
  last_is = refl;
  count_is = refl;
  frames_are = let e : Ends = record { first = NONE; last = NONE } in length-replicate 8 e;
  peers = λ f l. let e : Ends = record { first = NONE; last = NONE } in let is : ends (replicate 8 e) f ≡ e = ends-replicate 8 e f l in record { onward = tt; backward = tt; first_is = ap (λ z. z.first) is; last_is = ap (λ z. z.last) is };
  free_chain = chain_range (link_of links) 0 n NONE (λ k l z. next k (omega (arith, z, links_size))) (λ k z l. last k (omega (arith, z, links_size)));
  free_is = first_range n NONE some;
  spare_is = sym (length-range_with_len 0 n);
  chains = λ c k. absurd (omega (arith, k));
  once = λ c l. times-range c 0 n (omega arith) (omega (arith, l, size));
  within = λ c l. times-beyond c 0 n (omega (arith, l, size));
  total = length-range_with_len 0 n ∙ sym size;
  live = λ c l. ap (λ z. is_some (head z c).address) is ∙ ap (λ (z : Head). is_some z.address) (head-replicate n h c (omega (arith, l, size))) ∙ dead;
  fits = λ c k. absurd (omega (arith, k));
  links_cells = links_size ∙ sym size;
  bytes_cells = omega (arith, bytes_size, size);
  some = omega (arith, some, size);
  most = omega (arith, most, size);
}
