-- What writes to heads leave.
use Rattle.std.proofs.Common.{◌≡◌, ◌≢◌, ℕ, zero, suc, ◌<◌, false, List, [], ◌∷◌, length, refl, sym, ◌∙◌, ap, subst}
use Rattle.std.proofs.lemmas.List.{get_or-set_same, get_or-set_other, length-set}
use Rattle.std.specs.Prelude.{slice_set}
use Rattle.page_pool.specs.Layout.{blank, head, before_of, after_of, peer_before, peer_after, unlinked, linked}
use Rattle.std.proofs.Common.{Option}
use Rattle.std.specs.Option.{is_some}
use Rattle.page_pool.specs.declared.heads.Address.{Address}
use Rattle.page_pool.specs.declared.heads.Head.{Head}

-- a part that the write leaves as it was
pub keeps : {X : Type 0} (p : Head → X) (hs : List Head) (c : ℕ) (h : Head) (x : ℕ) → p h ≡ p (head hs c) → p (head (slice_set hs c h) x) ≡ p (head hs x)
keeps p [] c h x e = refl
keeps p (k ∷ hs) zero h zero e = e
keeps p (k ∷ hs) zero h (suc x) e = refl
keeps p (k ∷ hs) (suc c) h zero e = refl
keeps p (k ∷ hs) (suc c) h (suc x) e = keeps p hs c h x e

-- the head that was written
pub head-same : (hs : List Head) (c : ℕ) (h : Head) → c < length hs → head (slice_set hs c h) c ≡ h
head-same hs c h l = get_or-set_same hs c h blank l

-- another head
pub head-other : (hs : List Head) (c : ℕ) (h : Head) (x : ℕ) → x ≢ c → head (slice_set hs c h) x ≡ head hs x
head-other hs c h x ne = get_or-set_other hs c x h blank ne

-- the address and the length of a head
pub record Fixed : Type 0 where
  pub address : Option Address
  pub length : ℕ

-- what of a head no link changes
abbrev pub fixed : Head → Fixed
fixed h = record { address = h.address; length = h.length }

-- no other head loses its address
pub unlinked-fixed : (hs : List Head) (t x : ℕ) → x ≢ t → fixed (head (unlinked hs t) x) ≡ fixed (head hs x)
unlinked-fixed hs t x ne = ap (fixed) (head-other _ t _ x ne) ∙ keeps (fixed) _ (head hs t).peer_after _ x refl ∙ keeps (fixed) _ (head hs t).peer_before _ x refl ∙ keeps (fixed) _ (head hs t).after _ x refl ∙ keeps (fixed) _ (head hs t).before _ x refl

-- the links on of all but the page before it
pub unlinked-after_other : (hs : List Head) (t x : ℕ) → x ≢ (head hs t).before → after_of (unlinked hs t) x ≡ after_of hs x
unlinked-after_other hs t x ne = keeps (λ h. h.after) _ t _ x refl ∙ keeps (λ h. h.after) _ (head hs t).peer_after _ x refl ∙ keeps (λ h. h.after) _ (head hs t).peer_before _ x refl ∙ keeps (λ h. h.after) _ (head hs t).after _ x refl ∙ ap (λ h. h.after) (head-other _ (head hs t).before _ x ne)

-- the page before it leads to the page after it
pub unlinked-after_at : (hs : List Head) (t : ℕ) → (head hs t).before < length hs → after_of (unlinked hs t) (head hs t).before ≡ after_of hs t
unlinked-after_at hs t l = keeps (λ h. h.after) _ t _ (head hs t).before refl ∙ keeps (λ h. h.after) _ (head hs t).peer_after _ (head hs t).before refl ∙ keeps (λ h. h.after) _ (head hs t).peer_before _ (head hs t).before refl ∙ keeps (λ h. h.after) _ (head hs t).after _ (head hs t).before refl ∙ ap (λ h. h.after) (head-same _ (head hs t).before _ l)

-- the links back of all but the page after it
pub unlinked-before_other : (hs : List Head) (t x : ℕ) → x ≢ (head hs t).after → before_of (unlinked hs t) x ≡ before_of hs x
unlinked-before_other hs t x ne = keeps (λ h. h.before) _ t _ x refl ∙ keeps (λ h. h.before) _ (head hs t).peer_after _ x refl ∙ keeps (λ h. h.before) _ (head hs t).peer_before _ x refl ∙ ap (λ h. h.before) (head-other _ (head hs t).after _ x ne) ∙ keeps (λ h. h.before) _ (head hs t).before _ x refl

-- the page after it leads back to the page before it
pub unlinked-before_at : (hs : List Head) (t : ℕ) → (head hs t).after < length hs → before_of (unlinked hs t) (head hs t).after ≡ before_of hs t
unlinked-before_at hs t l = keeps (λ h. h.before) _ t _ (head hs t).after refl ∙ keeps (λ h. h.before) _ (head hs t).peer_after _ (head hs t).after refl ∙ keeps (λ h. h.before) _ (head hs t).peer_before _ (head hs t).after refl ∙ ap (λ h. h.before) (head-same _ (head hs t).after _ (subst (λ n. (head hs t).after < n) (sym (length-set _ (head hs t).before _)) l))

-- the links on within the frame
pub unlinked-peer_after_other : (hs : List Head) (t x : ℕ) → x ≢ (head hs t).peer_before → peer_after (unlinked hs t) x ≡ peer_after hs x
unlinked-peer_after_other hs t x ne = keeps (λ h. h.peer_after) _ t _ x refl ∙ keeps (λ h. h.peer_after) _ (head hs t).peer_after _ x refl ∙ ap (λ h. h.peer_after) (head-other _ (head hs t).peer_before _ x ne) ∙ keeps (λ h. h.peer_after) _ (head hs t).after _ x refl ∙ keeps (λ h. h.peer_after) _ (head hs t).before _ x refl

-- the page before it in its frame leads to the page after it
pub unlinked-peer_after_at : (hs : List Head) (t : ℕ) → (head hs t).peer_before < length hs → peer_after (unlinked hs t) (head hs t).peer_before ≡ peer_after hs t
unlinked-peer_after_at hs t l = keeps (λ h. h.peer_after) _ t _ (head hs t).peer_before refl ∙ keeps (λ h. h.peer_after) _ (head hs t).peer_after _ (head hs t).peer_before refl ∙ ap (λ h. h.peer_after) (head-same _ (head hs t).peer_before _ (subst (λ n. (head hs t).peer_before < n) (sym (length-set _ (head hs t).after _ ∙ length-set _ (head hs t).before _)) l))

-- the links back within the frame
pub unlinked-peer_before_other : (hs : List Head) (t x : ℕ) → x ≢ (head hs t).peer_after → peer_before (unlinked hs t) x ≡ peer_before hs x
unlinked-peer_before_other hs t x ne = keeps (λ h. h.peer_before) _ t _ x refl ∙ ap (λ h. h.peer_before) (head-other _ (head hs t).peer_after _ x ne) ∙ keeps (λ h. h.peer_before) _ (head hs t).peer_before _ x refl ∙ keeps (λ h. h.peer_before) _ (head hs t).after _ x refl ∙ keeps (λ h. h.peer_before) _ (head hs t).before _ x refl

-- the page after it in its frame leads back to the page before it
pub unlinked-peer_before_at : (hs : List Head) (t : ℕ) → (head hs t).peer_after < length hs → peer_before (unlinked hs t) (head hs t).peer_after ≡ peer_before hs t
unlinked-peer_before_at hs t l = keeps (λ h. h.peer_before) _ t _ (head hs t).peer_after refl ∙ ap (λ h. h.peer_before) (head-same _ (head hs t).peer_after _ (subst (λ n. (head hs t).peer_after < n) (sym (length-set _ (head hs t).peer_before _ ∙ length-set _ (head hs t).after _ ∙ length-set _ (head hs t).before _)) l))

-- there are as many heads
pub length-unlinked : (hs : List Head) (t : ℕ) → length (unlinked hs t) ≡ length hs
length-unlinked hs t = length-set _ t _ ∙ length-set _ (head hs t).peer_after _ ∙ length-set _ (head hs t).peer_before _ ∙ length-set _ (head hs t).after _ ∙ length-set _ (head hs t).before _

-- which of the others have an address
pub unlinked-live_other : (hs : List Head) (t x : ℕ) → x ≢ t → is_some (head (unlinked hs t) x).address ≡ is_some (head hs x).address
unlinked-live_other hs t x ne = ap (λ (h : Head). is_some h.address) (head-other _ t _ x ne) ∙ keeps (λ (h : Head). is_some h.address) _ (head hs t).peer_after _ x refl ∙ keeps (λ (h : Head). is_some h.address) _ (head hs t).peer_before _ x refl ∙ keeps (λ (h : Head). is_some h.address) _ (head hs t).after _ x refl ∙ keeps (λ (h : Head). is_some h.address) _ (head hs t).before _ x refl

-- it has none
pub unlinked-live_at : (hs : List Head) (t : ℕ) → t < length hs → is_some (head (unlinked hs t) t).address ≡ false
unlinked-live_at hs t l = ap (λ (h : Head). is_some h.address) (head-same _ t _ (subst (λ n. t < n) (sym (length-set _ (head hs t).peer_after _ ∙ length-set _ (head hs t).peer_before _ ∙ length-set _ (head hs t).after _ ∙ length-set _ (head hs t).before _)) l))

module _ (hs : List Head) (c : ℕ) (h : Head) where
  -- no other head changes its address
  pub linked-fixed_other : (x : ℕ) → x ≢ c → fixed (head (linked hs c h) x) ≡ fixed (head hs x)
  linked-fixed_other x ne = keeps (fixed) _ h.peer_before _ x refl ∙ keeps (fixed) _ h.before _ x refl ∙ ap (fixed) (head-other hs c h x ne)

  -- its address and length
  pub linked-fixed_at : c < length hs → fixed (head (linked hs c h) c) ≡ fixed h
  linked-fixed_at l = keeps (fixed) _ h.peer_before _ c refl ∙ keeps (fixed) _ h.before _ c refl ∙ ap (fixed) (head-same hs c h l)

  -- which of the others have an address
  pub linked-live_other : (x : ℕ) → x ≢ c → is_some (head (linked hs c h) x).address ≡ is_some (head hs x).address
  linked-live_other x ne = keeps (λ (k : Head). is_some k.address) _ h.peer_before _ x refl ∙ keeps (λ (k : Head). is_some k.address) _ h.before _ x refl ∙ ap (λ (k : Head). is_some k.address) (head-other hs c h x ne)

  -- whether it has one
  pub linked-live_at : c < length hs → is_some (head (linked hs c h) c).address ≡ is_some h.address
  linked-live_at l = keeps (λ (k : Head). is_some k.address) _ h.peer_before _ c refl ∙ keeps (λ (k : Head). is_some k.address) _ h.before _ c refl ∙ ap (λ (k : Head). is_some k.address) (head-same hs c h l)

  -- the links back of the others
  pub linked-before_other : (x : ℕ) → x ≢ c → before_of (linked hs c h) x ≡ before_of hs x
  linked-before_other x ne = keeps (λ k. k.before) _ h.peer_before _ x refl ∙ keeps (λ k. k.before) _ h.before _ x refl ∙ ap (λ k. k.before) (head-other hs c h x ne)

  -- its link back
  pub linked-before_at : c < length hs → before_of (linked hs c h) c ≡ h.before
  linked-before_at l = keeps (λ k. k.before) _ h.peer_before _ c refl ∙ keeps (λ k. k.before) _ h.before _ c refl ∙ ap (λ k. k.before) (head-same hs c h l)

  -- the links back of the others within the frame
  pub linked-peer_before_other : (x : ℕ) → x ≢ c → peer_before (linked hs c h) x ≡ peer_before hs x
  linked-peer_before_other x ne = keeps (λ k. k.peer_before) _ h.peer_before _ x refl ∙ keeps (λ k. k.peer_before) _ h.before _ x refl ∙ ap (λ k. k.peer_before) (head-other hs c h x ne)

  -- its link back within the frame
  pub linked-peer_before_at : c < length hs → peer_before (linked hs c h) c ≡ h.peer_before
  linked-peer_before_at l = keeps (λ k. k.peer_before) _ h.peer_before _ c refl ∙ keeps (λ k. k.peer_before) _ h.before _ c refl ∙ ap (λ k. k.peer_before) (head-same hs c h l)

  -- the links on of all but the last page
  pub linked-after_other : (x : ℕ) → x ≢ c → x ≢ h.before → after_of (linked hs c h) x ≡ after_of hs x
  linked-after_other x ne nb = keeps (λ k. k.after) _ h.peer_before _ x refl ∙ ap (λ k. k.after) (head-other _ h.before _ x nb ∙ head-other hs c h x ne)

  -- the last page leads to it
  pub linked-after_last : h.before < length hs → after_of (linked hs c h) h.before ≡ c
  linked-after_last l = keeps (λ k. k.after) _ h.peer_before _ h.before refl ∙ ap (λ k. k.after) (head-same _ h.before _ (subst (λ n. h.before < n) (sym (length-set hs c h)) l))

  -- its link on
  pub linked-after_at : c < length hs → c ≢ h.before → after_of (linked hs c h) c ≡ h.after
  linked-after_at l nb = keeps (λ k. k.after) _ h.peer_before _ c refl ∙ ap (λ k. k.after) (head-other _ h.before _ c nb ∙ head-same hs c h l)

  -- the links on within the frame
  pub linked-peer_after_other : (x : ℕ) → x ≢ c → x ≢ h.peer_before → peer_after (linked hs c h) x ≡ peer_after hs x
  linked-peer_after_other x ne nb = ap (λ k. k.peer_after) (head-other _ h.peer_before _ x nb) ∙ keeps (λ k. k.peer_after) _ h.before _ x refl ∙ ap (λ k. k.peer_after) (head-other hs c h x ne)

  -- the last page of its frame leads to it
  pub linked-peer_after_last : h.peer_before < length hs → peer_after (linked hs c h) h.peer_before ≡ c
  linked-peer_after_last l = ap (λ k. k.peer_after) (head-same _ h.peer_before _ (subst (λ n. h.peer_before < n) (sym (length-set _ h.before _ ∙ length-set hs c h)) l))

  -- its link on within the frame
  pub linked-peer_after_at : c < length hs → c ≢ h.peer_before → peer_after (linked hs c h) c ≡ h.peer_after
  linked-peer_after_at l nb = ap (λ k. k.peer_after) (head-other _ h.peer_before _ c nb) ∙ keeps (λ k. k.peer_after) _ h.before _ c refl ∙ ap (λ k. k.peer_after) (head-same hs c h l)

  -- there are as many heads
  pub length-linked : length (linked hs c h) ≡ length hs
  length-linked = length-set _ h.peer_before _ ∙ length-set _ h.before _ ∙ length-set hs c h
