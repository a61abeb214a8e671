-- What the ids of the settings stand for: their capcodes are usable, and are those of the receivers.
use Rattle.std.proofs.Common.{◌≡◌, ℕ, zero, suc, ◌+◌, ◌<◌, ◌≤◌, ◌==◌, Bool, true, false, cond, List, [], ◌∷◌, map, Option, Some, inl, inr, arith, ap, subst, sym, ◌∙◌}
use Rattle.std.proofs.lemmas.Bool.{cases_order, eq-eqb, eqb-true, or_cases, or_left, or_right}
use Rattle.std.proofs.lemmas.List.Elements.{All-cons, All-nil, All-weaker}
use Rattle.std.specs.Cmp.Lexicographic.{nat_list_cmp_total}
use Rattle.std.specs.FinMap.{get-from_entries}
use Rattle.std.specs.FinMap.Entries.{find}
use Rattle.std.specs.List.{AllByRecursion, range_with_len}
use Rattle.std.specs.Ordering.{eq_by_cmp}
use Rattle.std.specs.Prelude.{All}
use Rattle.codeword.specs.Capcodes.{IsUsable}
use Rattle.page_pool.specs.Pool.{page}
use Rattle.page_text.specs.Page.{IsAcceptable, Page}
use Rattle.receiver.specs.Listeners.{is_one_of}
use Rattle.subscribers.proofs.Directories.{id_cmp}
use Rattle.subscribers.specs.Directory.{directory_of}
use Rattle.subscribers.specs.Entries.{Listed}
use Rattle.subscribers.specs.Made.{numbered}
use Rattle.subscribers.specs.Parts.{Target}
use Rattle.tap_terminal.specs.Session.{IsSession, Session}
use Rattle.load.specs.Subscribers.{capcode_number, function_number, id_number, load_capcodes, load_settings, subscribers_before}
use Rattle.load.proofs.Accepted.{All-session}

-- the capcode is usable, and one of those of the receivers
abbrev pub IsListed : ℕ → Type 0
IsListed capcode = IsUsable capcode × (is_one_of load_capcodes capcode ≡ true)

usable : (i : ℕ) → i < 64 → IsUsable (capcode_number i)
usable i less = record { small = omega (arith, less); not_idle = λ e. omega (arith, less, e); not_sync = λ e. omega (arith, less, e) }

is_among : (a n i : ℕ) → a ≤ i → i < a + n → is_one_of (map capcode_number (range_with_len a n)) (capcode_number i) ≡ true
is_among a zero i above below = absurd (omega (arith, above, below))
is_among a (suc n) i above below = elim (cases_order a i) [
  | inl same ↦ or_left (capcode_number a == capcode_number i) (is_one_of (map capcode_number (range_with_len (a + 1) n)) (capcode_number i)) (eq-eqb (capcode_number a) (capcode_number i) (ap capcode_number same))
  | inr (inl less) ↦
      or_right (capcode_number a == capcode_number i) (is_one_of (map capcode_number (range_with_len (a + 1) n)) (capcode_number i))
      (is_among (a + 1) n i (omega (arith, less)) (omega (arith, below)))
  | inr (inr more) ↦ absurd (omega (arith, above, more))
]

is_listed_number : (i : ℕ) → i < 64 → IsListed (capcode_number i)
unfolding load_capcodes
is_listed_number i less = (usable i less, is_among 0 64 i (omega arith) (omega (arith, less)))

-- all capcodes of what an id stands for
abbrev AreListed : Target → Type 0
AreListed t = All IsListed t.capcodes

-- of entries of the map
abbrev AllListed : List Listed → Type 0
AllListed ids = AllByRecursion (λ (i : Listed). AreListed i.1) ids

all_listed : (a n : ℕ) → a + n ≤ 64 → AllListed (map numbered (map (λ i. (id_number i, capcode_number i, function_number i)) (range_with_len a n)))
all_listed a zero few = tt
all_listed a (suc n) few = (All-cons IsListed (capcode_number a) [] (is_listed_number a (omega (arith, few))) (All-nil IsListed), all_listed (a + 1) n (omega (arith, few)))

listed_first : (b : Bool) (s other : Target) (o : Option Target) → AreListed other → (o ≡ Some s → AreListed s) → cond b (Some other) o ≡ Some s → AreListed s
listed_first true s other o u later h = subst AreListed (let same : other ≡ s = cc in same) u
listed_first false s other o u later h = later h

listed_find : (ids : List Listed) (id : List ℕ) (s : Target) → AllListed ids → find id_cmp id ids ≡ Some s → AreListed s
listed_find [] id s u h = absurd cc
listed_find (i ∷ ids) id s u h = listed_first (eq_by_cmp id_cmp id i.0) s i.1 (find id_cmp id ids) u.0 (listed_find ids id s u.1) h

listed_by : (id : List ℕ) (s : Target) → directory_of load_settings id ≡ Some s → AreListed s
unfolding load_settings
listed_by id s h =
    listed_find (map numbered (subscribers_before 64)) id s (all_listed 0 64 (omega arith)) (sym (get-from_entries nat_list_cmp_total (map numbered (subscribers_before 64)) id) ∙ h)

-- a page that can be accepted, to one of the receivers
abbrev pub IsForOne : Page → Type 0
IsForOne p = IsAcceptable p × (is_one_of load_capcodes p.capcode ≡ true)

pub all_for_one : (password : Option (List ℕ)) (spare : ℕ) (x : List ℕ) (session : Session) → IsSession password (directory_of load_settings) spare x session → All IsForOne session.pages
all_for_one password spare x session h =
    All-session IsForOne (directory_of load_settings)
    (λ id s text known fits. All-weaker IsListed (λ c. IsForOne (page c s.function text)) (λ c l. (record { usable = l.0; fits = fits }, l.1)) s.capcodes (listed_by id s known)) password spare x session h

-- the capcodes of the receivers are usable
usable_capcode : (a n c : ℕ) → a + n ≤ 64 → is_one_of (map capcode_number (range_with_len a n)) c ≡ true → IsUsable c
usable_capcode a zero c few h = absurd cc
usable_capcode a (suc n) c few h = elim (or_cases (capcode_number a == c) (is_one_of (map capcode_number (range_with_len (a + 1) n)) c) h) [
  | inl e ↦ subst IsUsable (eqb-true (capcode_number a) c e) (usable a (omega (arith, few)))
  | inr e ↦ usable_capcode (a + 1) n c (omega (arith, few)) e
]

pub usable_receivers : (c : ℕ) → is_one_of load_capcodes c ≡ true → IsUsable c
unfolding load_capcodes
usable_receivers c h = usable_capcode 0 64 c (omega arith) h
