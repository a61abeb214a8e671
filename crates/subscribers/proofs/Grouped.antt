-- The capcodes of a group, one after another.
use Rattle.std.proofs.Common.{◌≡◌, ◌==◌, ℕ, suc, ◌+◌, ◌<◌, ◌≤◌, ℤ, Bool, true, false, cond, not, ◌&&◌, ◌||◌, nat_le, List, [], ◌∷◌, ◌++◌, length, get_or, take, drop, Option, Some, None, option_map, option_and_then, refl, sym, ap, ◌∙◌, arith}
use Rattle.std.proofs.lemmas.Bool.{eq-eqb, eqb-false}
use Rattle.std.proofs.lemmas.Bool.Decides.{nat_tests}
use Rattle.std.proofs.lemmas.List.{take-append-drop}
use Rattle.std.proofs.Math.Seq.{take-suc, drop-cons}
use Rattle.std.proofs.Common.{eqb-true}
use Rattle.std.specs.List.{list_any}
use Rattle.subscribers.specs.Entries.{is_between, most_members, capcode_of, capcodes_of, all_differ, if_all_differ, members_of}

-- Both, where both are there.
abbrev both_lists : Option (List ℕ) → Option (List ℕ) → Option (List ℕ)
both_lists o q = option_and_then (λ xs. option_map (λ ys. xs ++ ys) q) o

alone : (q : Option (List ℕ)) → q ≡ both_lists (Some []) q
alone None = refl
alone (Some ys) = refl

moved : (o : Option ℕ) (p q : Option (List ℕ)) → option_and_then (λ c. option_map (λ cs. c ∷ cs) (both_lists p q)) o ≡ both_lists (option_and_then (λ c. option_map (λ cs. c ∷ cs) p) o) q
moved None p q = refl
moved (Some c) None q = refl
moved (Some c) (Some xs) None = refl
moved (Some c) (Some xs) (Some ys) = refl

capcodes_of-append : (a b : List ℤ) → capcodes_of (a ++ b) ≡ both_lists (capcodes_of a) (capcodes_of b)
capcodes_of-append [] b = alone (capcodes_of b)
capcodes_of-append (n ∷ a) b = ap (λ o. option_and_then (λ c. option_map (λ cs. c ∷ cs) o) (capcode_of n)) (capcodes_of-append a b) ∙ moved (capcode_of n) (capcodes_of a) (capcodes_of b)

-- A capcode stands among these.
is_among : ℕ → List ℕ → Bool
is_among c cs = list_any (λ x. c == x) cs

same_is : (c : ℕ) → (c == c) ≡ true
same_is c = eq-eqb c c refl

or_true : (b : Bool) → (b || true) ≡ true
or_true true = refl
or_true false = refl

and_false : (b : Bool) → (b && false) ≡ false
and_false true = refl
and_false false = refl

among_behind : (c : ℕ) (ms ys : List ℕ) → list_any (λ x. c == x) (ms ++ c ∷ ys) ≡ true
among_behind c [] ys = ap (λ b. b || list_any (λ x. c == x) ys) (same_is c)
among_behind c (m ∷ ms) ys = ap (λ b. (c == m) || b) (among_behind c ms ys) ∙ or_true (c == m)

-- One that stands there already.
twice_at : (b : Bool) (c m : ℕ) (ms ys : List ℕ) → (c == m) ≡ b → (list_any (λ x. c == x) ms ≡ true → all_differ (ms ++ c ∷ ys) ≡ false) → (b || list_any (λ x. c == x) ms) ≡ true → all_differ (m ∷ (ms ++ c ∷ ys)) ≡ false
twice_at true c m ms ys e later h =
    ap (λ x. not (list_any (λ y. x == y) (ms ++ c ∷ ys)) && all_differ (ms ++ c ∷ ys)) (sym (eqb-true c m e))
    ∙ ap (λ b. not b && all_differ (ms ++ c ∷ ys)) (among_behind c ms ys)
twice_at false c m ms ys e later h = ap (λ b. not (list_any (λ x. m == x) (ms ++ c ∷ ys)) && b) (later h) ∙ and_false _

all_differ-twice : (c : ℕ) (ms ys : List ℕ) → list_any (λ x. c == x) ms ≡ true → all_differ (ms ++ c ∷ ys) ≡ false
all_differ-twice c [] ys h = absurd (cc)
all_differ-twice c (m ∷ ms) ys h = twice_at (c == m) c m ms ys refl (all_differ-twice c ms ys) h

-- One that doesn't stand there yet.
both_false : (a b : Bool) → (a || b) ≡ false → (a ≡ false) × (b ≡ false)
both_false true b h = absurd (cc)
both_false false b h = (refl, h)

both_true : (a b : Bool) → (a && b) ≡ true → (a ≡ true) × (b ≡ true)
both_true true b h = (refl, h)
both_true false b h = absurd (cc)

other_way : (c m : ℕ) → (c == m) ≡ false → (m == c) ≡ false
other_way c m h = by_test (m == c) refl
  where
    by_test : (t : Bool) → (m == c) ≡ t → t ≡ false
    by_test true e = absurd (eqb-false c m h (sym (eqb-true m c e)))
    by_test false e = refl

not_among : (m c : ℕ) (ms : List ℕ) → list_any (λ x. m == x) ms ≡ false → (m == c) ≡ false → list_any (λ x. m == x) (ms ++ c ∷ []) ≡ false
not_among m c [] h e = ap (λ b. b || false) e
not_among m c (x ∷ ms) h e =
    let (a, b) = both_false (m == x) (list_any (λ x. m == x) ms) h in
    ap (λ t. t || list_any (λ x. m == x) (ms ++ c ∷ [])) a ∙ not_among m c ms b e

not_true : (b : Bool) → not b ≡ true → b ≡ false
not_true true h = absurd (cc)
not_true false h = refl

pub all_differ-push : (c : ℕ) (ms : List ℕ) → all_differ ms ≡ true → list_any (λ x. c == x) ms ≡ false → all_differ (ms ++ c ∷ []) ≡ true
all_differ-push c [] h n = refl
all_differ-push c (m ∷ ms) h n =
    let (a, b) = both_true (not (list_any (λ x. m == x) ms)) (all_differ ms) h in
    let (d, e) = both_false (c == m) (list_any (λ x. c == x) ms) n in
    ap (λ t. not t && all_differ (ms ++ c ∷ [])) (not_among m c ms (not_true _ a) (other_way c m d)) ∙ all_differ-push c ms b e

module _ (numbers : List ℤ) (k : ℕ) (n : ℤ) (ms : List ℕ) (within : k < length numbers) (so_far : capcodes_of (take k numbers) ≡ Some ms) where
  split : capcodes_of numbers ≡ both_lists (capcodes_of (take k numbers)) (capcodes_of (get_or numbers k n ∷ drop (suc k) numbers))
  split =
      ap capcodes_of (sym (take-append-drop k numbers) ∙ ap (λ l. take k numbers ++ l) (drop-cons numbers k n within))
      ∙ capcodes_of-append (take k numbers) (get_or numbers k n ∷ drop (suc k) numbers)

  pub capcodes_of-more : (c : ℕ) → capcode_of (get_or numbers k n) ≡ Some c → capcodes_of (take (k + 1) numbers) ≡ Some (ms ++ c ∷ [])
  capcodes_of-more c u =
      let more : k + 1 ≡ suc k = omega arith in
      ap (λ m. capcodes_of (take m numbers)) more
      ∙ ap capcodes_of (take-suc numbers k n within)
      ∙ capcodes_of-append (take k numbers) (get_or numbers k n ∷ [])
      ∙ ap (λ o. both_lists o (capcodes_of (get_or numbers k n ∷ []))) so_far
      ∙ ap (λ o. both_lists (Some ms) (option_and_then (λ c. option_map (λ cs. c ∷ cs) (Some [])) o)) u

  no_members : (o : Option (List ℕ)) → capcodes_of numbers ≡ o → option_and_then if_all_differ o ≡ None → members_of numbers ≡ None
  unfolding members_of
  no_members o e h = ap (λ p. cond (is_between 1 most_members (length numbers)) (option_and_then if_all_differ p) None) e ∙ ap (λ p. cond (is_between 1 most_members (length numbers)) p None) h ∙ none (is_between 1 most_members (length numbers))
    where
      none : (b : Bool) → cond b (let o : Option (List ℕ) = None in o) None ≡ None
      none true = refl
      none false = refl

  pub members_of-unusable : capcode_of (get_or numbers k n) ≡ None → members_of numbers ≡ None
  members_of-unusable u =
      no_members None
      (split ∙ ap (λ o. both_lists o (capcodes_of (get_or numbers k n ∷ drop (suc k) numbers))) so_far
      ∙ ap (λ o. both_lists (Some ms) (option_and_then (λ c. option_map (λ cs. c ∷ cs) (capcodes_of (drop (suc k) numbers))) o)) u)
      refl

  with_twice : (c : ℕ) (o : Option (List ℕ)) → list_any (λ x. c == x) ms ≡ true → option_and_then if_all_differ (both_lists (Some ms) (option_map (λ cs. c ∷ cs) o)) ≡ None
  with_twice c None h = refl
  with_twice c (Some ys) h = ap (λ b. cond b (Some (ms ++ c ∷ ys)) None) (all_differ-twice c ms ys h)

  pub members_of-twice : (c : ℕ) → capcode_of (get_or numbers k n) ≡ Some c → list_any (λ x. c == x) ms ≡ true → members_of numbers ≡ None
  members_of-twice c u h =
      no_members _
      (split ∙ ap (λ o. both_lists o (capcodes_of (get_or numbers k n ∷ drop (suc k) numbers))) so_far
      ∙ ap (λ o. both_lists (Some ms) (option_and_then (λ c. option_map (λ cs. c ∷ cs) (capcodes_of (drop (suc k) numbers))) o)) u)
      (with_twice c (capcodes_of (drop (suc k) numbers)) h)

-- Too few or too many.
pub members_of-none : (numbers : List ℤ) → is_between 1 most_members (length numbers) ≡ false → members_of numbers ≡ None
unfolding members_of
members_of-none numbers h = ap (λ b. cond b (option_and_then if_all_differ (capcodes_of numbers)) None) h

-- The number of capcodes, by the tests of the code.
pub too_few : (n : ℕ) → (n == 0) ≡ true → is_between 1 most_members n ≡ false
too_few n h = ap (is_between 1 most_members) (eqb-true n 0 h)

pub too_many : (n : ℕ) → most_members < n → is_between 1 most_members n ≡ false
too_many n h = let e : nat_le n most_members ≡ false = grind (arith, nat_tests) in ap (λ b. nat_le 1 n && b) e ∙ and_false (nat_le 1 n)

pub enough : (n : ℕ) → (n == 0) ≡ false → n ≤ most_members → is_between 1 most_members n ≡ true
enough n some most =
    let e : nat_le n most_members ≡ true = grind (arith, nat_tests) in
    let not_none = eqb-false n 0 some in
    let f : nat_le 1 n ≡ true = grind (arith, nat_tests) in
    ap (λ b. b && nat_le n most_members) f ∙ e

-- A capcode among others, by the test of the code.
either_way : (a b : ℕ) → (a == b) ≡ (b == a)
either_way a b = by_test (a == b) refl
  where
    by_test : (t : Bool) → (a == b) ≡ t → t ≡ (b == a)
    by_test true e = sym (eq-eqb b a (sym (eqb-true a b e)))
    by_test false e = sym (other_way a b e)

pub among_these : (c : ℕ) (ms : List ℕ) → list_any (λ x. x == c) ms ≡ list_any (λ x. c == x) ms
among_these c [] = refl
among_these c (m ∷ ms) = ap (λ b. b || list_any (λ x. x == c) ms) (either_way m c) ∙ ap (λ b. (c == m) || b) (among_these c ms)

-- The capcodes of a group are as many as its numbers.
capcodes_of-length : (ns : List ℤ) (cs : List ℕ) → capcodes_of ns ≡ Some cs → length cs ≡ length ns
capcodes_of-length [] cs h = let e : cs ≡ [] = cc in ap length e
capcodes_of-length (n ∷ ns) cs h = longer (capcode_of n) (capcodes_of ns) (capcodes_of-length ns) h
  where
    longer : (o : Option ℕ) (q : Option (List ℕ)) → ((ds : List ℕ) → q ≡ Some ds → length ds ≡ length ns) → option_and_then (λ c. option_map (λ ds. c ∷ ds) q) o ≡ Some cs → length cs ≡ suc (length ns)
    longer None q more e = absurd (cc)
    longer (Some c) None more e = absurd (cc)
    longer (Some c) (Some ds) more e = let same : cs ≡ c ∷ ds = cc in ap length same ∙ ap suc (more ds refl)

-- A group has 1 to 16 capcodes.
pub members_of-between : (numbers : List ℤ) (ms : List ℕ) → Some ms ≡ members_of numbers → is_between 1 most_members (length ms) ≡ true
unfolding members_of
members_of-between numbers ms h = by_test (is_between 1 most_members (length numbers)) (capcodes_of numbers) refl refl h
  where
    of_these : (cs : List ℕ) (b : Bool) → Some ms ≡ cond b (Some cs) None → ms ≡ cs
    of_these cs true e = cc
    of_these cs false e = absurd (cc)

    by_test : (b : Bool) (o : Option (List ℕ)) → is_between 1 most_members (length numbers) ≡ b → capcodes_of numbers ≡ o → Some ms ≡ cond b (option_and_then if_all_differ o) None → is_between 1 most_members (length ms) ≡ true
    by_test false o t e g = absurd (cc)
    by_test true None t e g = absurd (cc)
    by_test true (Some cs) t e g = ap (λ l. is_between 1 most_members (length l)) (of_these cs (all_differ cs) g) ∙ ap (is_between 1 most_members) (capcodes_of-length numbers cs e) ∙ t

pub members_of-some : (numbers : List ℤ) (ms : List ℕ) → Some ms ≡ members_of numbers → 1 ≤ length ms
members_of-some numbers ms h = let t = both_true (nat_le 1 (length ms)) (nat_le (length ms) most_members) (members_of-between numbers ms h) in let e : nat_le 1 (length ms) ≡ true = t.0 in grind (arith, nat_tests)

pub members_of-most : (numbers : List ℤ) (ms : List ℕ) → Some ms ≡ members_of numbers → length ms ≤ most_members
members_of-most numbers ms h = let t = both_true (nat_le 1 (length ms)) (nat_le (length ms) most_members) (members_of-between numbers ms h) in let e : nat_le (length ms) most_members ≡ true = t.1 in grind (arith, nat_tests)

-- All of them.
pub members_of-all : (numbers : List ℤ) (ms : List ℕ) → is_between 1 most_members (length numbers) ≡ true → capcodes_of numbers ≡ Some ms → all_differ ms ≡ true → members_of numbers ≡ Some ms
unfolding members_of
members_of-all numbers ms h e d =
    ap (λ b. cond b (option_and_then if_all_differ (capcodes_of numbers)) None) h ∙ ap (option_and_then if_all_differ) e ∙ ap (λ b. cond b (Some ms) None) d
