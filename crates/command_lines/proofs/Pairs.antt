-- Receivers as pairs of a number and a capcode, and what a group of them prints.
use Rattle.std.proofs.Common.{◌≡◌, ℕ, zero, suc, ◌+◌, ◌≤◌, ◌==◌, ◌||◌, ◌&&◌, Bool, true, false, List, [], ◌∷◌, ◌++◌, length, take, get_or, ◌<◌, Result, Ok, Err, arith, refl, sym, ◌∙◌, ap, ap₂, subst, append-nil, append_assoc}
use Rattle.std.specs.Prelude.{All, IfOk}
use Rattle.std.specs.List.{concat}
use Rattle.std.proofs.lemmas.List.{length-take, map-append, take_all, take_more}
use Rattle.std.proofs.lemmas.List.Elements.{All-nil, All-cons}
use Rattle.std.proofs.lemmas.List.Folds.{list_any-append}
use mathlib.Core.Path.{fun_ext}
use Rattle.receiver.specs.Listeners.{Listener, is_one_of}
use Rattle.receiver.specs.Receivers.{has_in, is_listed, is_paired, most_receivers}
use Rattle.receiver.specs.Shown.{has_of}
use Rattle.repeats.specs.TwinListeners.{TwinListener}
use Rattle.listening.specs.PageLines.{group_lines, lines_heard, play_lines}
use Rattle.listening.specs.TwinLines.{lines_heard_twice, twice_lines, twin_group_lines}
use Rattle.command_lines.specs.Pairs.{paired_with, pairs_from}

-- ---- the capcodes of the pairs are those of the receivers

listed-with : (number : ℕ) (capcodes : List ℕ) (pairs : List (ℕ × ℕ)) (c : ℕ) → is_listed (paired_with number capcodes ++ pairs) c ≡ (is_one_of capcodes c || is_listed pairs c)
listed-with number [] pairs c = refl
listed-with number (x ∷ capcodes) pairs c =
    ap (λ (t : Bool). (x == c) || t) (listed-with number capcodes pairs c) ∙ or_more (x == c) (is_one_of capcodes c) (is_listed pairs c)
  where
    or_more : (p q r : Bool) → (p || (q || r)) ≡ ((p || q) || r)
    or_more true q r = refl
    or_more false q r = refl

pub listed-pairs : (number : ℕ) (receivers : List (List ℕ)) (c : ℕ) → is_listed (pairs_from number receivers) c ≡ is_one_of (concat receivers) c
listed-pairs number [] c = refl
listed-pairs number (capcodes ∷ receivers) c =
    listed-with number capcodes (pairs_from (suc number) receivers) c
    ∙ ap (λ (t : Bool). is_one_of capcodes c || t) (listed-pairs (suc number) receivers c)
    ∙ sym (list_any-append (λ x. x == c) capcodes (concat receivers))

-- ---- each number is paired with the capcodes of its receiver

paired-with : (number : ℕ) (capcodes : List ℕ) (pairs : List (ℕ × ℕ)) (m c : ℕ)
    → is_paired (paired_with number capcodes ++ pairs) m c ≡ (((number == m) && is_one_of capcodes c) || is_paired pairs m c)
paired-with number [] pairs m c = no_more (number == m) (is_paired pairs m c)
  where
    no_more : (p r : Bool) → r ≡ ((p && false) || r)
    no_more true r = refl
    no_more false r = refl
paired-with number (x ∷ capcodes) pairs m c =
    ap (λ (t : Bool). ((number == m) && (x == c)) || t) (paired-with number capcodes pairs m c) ∙ or_more (number == m) (x == c) (is_one_of capcodes c) (is_paired pairs m c)
  where
    or_more : (n p q r : Bool) → ((n && p) || ((n && q) || r)) ≡ ((n && (p || q)) || r)
    or_more true true q r = refl
    or_more true false q r = refl
    or_more false p q r = refl

at_other : (n p r : Bool) → n ≡ false → r ≡ false → ((n && p) || r) ≡ false
at_other false p r e h = h
at_other true p r e h = cc

at_own : (n p r : Bool) → n ≡ true → r ≡ false → ((n && p) || r) ≡ p
at_own true true r e h = refl
at_own true false r e h = h
at_own false p r e h = cc

at_later : (n p r s : Bool) → n ≡ false → r ≡ s → ((n && p) || r) ≡ s
at_later false p r s e h = h
at_later true p r s e h = cc

paired-before : (number : ℕ) (receivers : List (List ℕ)) (m c : ℕ) → m < number → is_paired (pairs_from number receivers) m c ≡ false
paired-before number [] m c lt = refl
paired-before number (capcodes ∷ receivers) m c lt =
    paired-with number capcodes (pairs_from (suc number) receivers) m c
    ∙ at_other (number == m) (is_one_of capcodes c) (is_paired (pairs_from (suc number) receivers) m c) (grind arith) (paired-before (suc number) receivers m c (omega (arith, lt)))

paired-own : (number : ℕ) (receivers : List (List ℕ)) (m k c : ℕ) → m ≡ number + k → is_paired (pairs_from number receivers) m c ≡ is_one_of (get_or receivers k []) c
paired-own number [] m k c e = refl
paired-own number (capcodes ∷ receivers) m zero c e =
    paired-with number capcodes (pairs_from (suc number) receivers) m c
    ∙ at_own (number == m) (is_one_of capcodes c) (is_paired (pairs_from (suc number) receivers) m c) (grind arith) (paired-before (suc number) receivers m c (omega (arith, e)))
paired-own number (capcodes ∷ receivers) m (suc k) c e =
    paired-with number capcodes (pairs_from (suc number) receivers) m c
    ∙ at_later (number == m) (is_one_of capcodes c) (is_paired (pairs_from (suc number) receivers) m c) (is_one_of (get_or receivers k []) c) (grind arith)
    (paired-own (suc number) receivers m k c (omega (arith, e)))

pub paired-has : (receivers : List (List ℕ)) (number c : ℕ) → is_paired (pairs_from 1 receivers) number c ≡ has_of receivers number c
paired-has receivers zero c = paired-before 1 receivers 0 c (omega arith)
paired-has receivers (suc k) c = paired-own 1 receivers (suc k) k c (omega arith)

-- a paired capcode is listed
paired-listed : (pairs : List (ℕ × ℕ)) (number c : ℕ) → is_paired pairs number c ≡ true → is_listed pairs c ≡ true
paired-listed [] number c h = h
paired-listed (pair ∷ pairs) number c h = one (pair.0 == number) (pair.1 == c) (paired-listed pairs number c) h
  where
    one : (a b : Bool) → (is_paired pairs number c ≡ true → is_listed pairs c ≡ true) → ((a && b) || is_paired pairs number c) ≡ true → (b || is_listed pairs c) ≡ true
    one a true later e = refl
    one true false later e = later e
    one false false later e = later e

-- a receiver's capcodes are among those of all
pub has-listed : (receivers : List (List ℕ)) (number c : ℕ) → has_of receivers number c ≡ true → is_one_of (concat receivers) c ≡ true
has-listed receivers number c h = sym (listed-pairs 1 receivers c) ∙ paired-listed (pairs_from 1 receivers) number c (paired-has receivers number c ∙ h)

-- ---- numbers from 1 to 64

abbrev IsNumbered : ℕ × ℕ → Type 0
IsNumbered pair = (1 ≤ pair.0) × (pair.0 ≤ most_receivers)

between-with : (number : ℕ) (capcodes : List ℕ) (pairs : List (ℕ × ℕ)) → 1 ≤ number → number ≤ most_receivers → All IsNumbered pairs → All IsNumbered (paired_with number capcodes ++ pairs)
between-with number [] pairs some most h = h
between-with number (c ∷ capcodes) pairs some most h = All-cons IsNumbered (number, c) (paired_with number capcodes ++ pairs) (some, most) (between-with number capcodes pairs some most h)

between-pairs : (number : ℕ) (receivers : List (List ℕ)) → 1 ≤ number → number + length receivers ≤ 65 → All IsNumbered (pairs_from number receivers)
between-pairs number [] some most = All-nil IsNumbered
between-pairs number (capcodes ∷ receivers) some most =
    between-with number capcodes (pairs_from (suc number) receivers) some (omega (arith, most)) (between-pairs (suc number) receivers (omega arith) (omega (arith, most)))

pub between : (receivers : List (List ℕ)) (items : List (ℕ × ℕ)) → items ≡ pairs_from 1 receivers → length receivers ≤ 64
    → All (λ (pair : ℕ × ℕ). (1 ≤ pair.0) × (pair.0 ≤ most_receivers)) items
between receivers items is few = subst (λ (ps : List (ℕ × ℕ)). All IsNumbered ps) (sym is) (between-pairs 1 receivers (omega arith) (omega (arith, few)))

-- ---- pairs, one after another

pub with-turn : (number : ℕ) (capcodes : List ℕ) (first items : List (ℕ × ℕ)) (i item : ℕ) → i < length capcodes → item ≡ get_or capcodes i item
    → items ≡ first ++ paired_with number (take i capcodes) → items ++ (number, item) ∷ [] ≡ first ++ paired_with number (take (i + 1) capcodes)
with-turn number capcodes first items i item lt is so =
    ap (λ (ps : List (ℕ × ℕ)). ps ++ (number, item) ∷ []) so
    ∙ append_assoc first (paired_with number (take i capcodes)) ((number, item) ∷ [])
    ∙ ap (λ (ps : List (ℕ × ℕ)). first ++ ps)
    (sym (map-append (λ (c : ℕ). (number, c)) (take i capcodes) (item ∷ []))
    ∙ ap (λ (c : ℕ). paired_with number (take i capcodes ++ c ∷ [])) is
    ∙ ap (paired_with number) (sym (take_more capcodes i item lt)))

pub with-all : (number : ℕ) (capcodes : List ℕ) (first items : List (ℕ × ℕ)) (i : ℕ) → length capcodes ≤ i → items ≡ first ++ paired_with number (take i capcodes)
    → items ≡ first ++ paired_with number capcodes
with-all number capcodes first items i le so = so ∙ ap (λ (cs : List ℕ). first ++ paired_with number cs) (take_all i capcodes le)

pairs-push : (number : ℕ) (receivers : List (List ℕ)) (capcodes : List ℕ) → pairs_from number (receivers ++ capcodes ∷ []) ≡ pairs_from number receivers ++ paired_with (number + length receivers) capcodes
pairs-push number [] capcodes = let e : number ≡ number + 0 = omega arith in append-nil (paired_with number capcodes) ∙ ap (λ (n : ℕ). paired_with n capcodes) e
pairs-push number (r ∷ receivers) capcodes =
    let e : suc number + length receivers ≡ number + suc (length receivers) = omega arith in
    ap (λ (ps : List (ℕ × ℕ)). paired_with number r ++ ps)
    (pairs-push (suc number) receivers capcodes ∙ ap (λ (n : ℕ). pairs_from (suc number) receivers ++ paired_with n capcodes) e)
    ∙ sym (append_assoc (paired_with number r) (pairs_from (suc number) receivers) (paired_with (number + suc (length receivers)) capcodes))

pub pairs-turn : (receivers : List (List ℕ)) (items more : List (ℕ × ℕ)) (i number : ℕ) (item : List ℕ) → i < length receivers → item ≡ get_or receivers i item → number ≡ i + 1
    → items ≡ pairs_from 1 (take i receivers) → more ≡ items ++ paired_with number item → more ≡ pairs_from 1 (take (i + 1) receivers)
pairs-turn receivers items more i number item lt is at so grown =
    let n : 1 + length (take i receivers) ≡ number = omega (arith, length-take i receivers, at, lt) in
    grown
    ∙ ap (λ (ps : List (ℕ × ℕ)). ps ++ paired_with number item) so
    ∙ ap (λ (k : ℕ). pairs_from 1 (take i receivers) ++ paired_with k item) (sym n)
    ∙ sym (pairs-push 1 (take i receivers) item)
    ∙ ap (λ (r : List ℕ). pairs_from 1 (take i receivers ++ r ∷ [])) is
    ∙ ap (pairs_from 1) (sym (take_more receivers i item lt))

pub pairs-all : (receivers : List (List ℕ)) (items : List (ℕ × ℕ)) (i : ℕ) → length receivers ≤ i → items ≡ pairs_from 1 (take i receivers) → items ≡ pairs_from 1 receivers
pairs-all receivers items i le so = so ∙ ap (pairs_from 1) (take_all i receivers le)

-- ---- what a group prints

-- which capcodes are listened to, and which receiver has which
same_listens : (capcodes : List ℕ) (receivers : List (List ℕ)) (pairs : List (ℕ × ℕ)) → pairs ≡ pairs_from 1 receivers → ((c : ℕ) → is_one_of capcodes c ≡ is_listed pairs c)
    → is_one_of capcodes ≡ is_one_of (concat receivers)
same_listens capcodes receivers pairs is same = fun_ext (λ (c : ℕ). same c ∙ ap (λ (ps : List (ℕ × ℕ)). is_listed ps c) is ∙ listed-pairs 1 receivers c)

same_has : (holders : List (ℕ × ℕ)) (receivers : List (List ℕ)) (pairs : List (ℕ × ℕ)) → pairs ≡ pairs_from 1 receivers → ((number c : ℕ) → has_in holders number c ≡ is_paired pairs number c)
    → has_in holders ≡ has_of receivers
same_has holders receivers pairs is has =
    fun_ext (λ (number : ℕ). fun_ext (λ (c : ℕ). has number c ∙ ap (λ (ps : List (ℕ × ℕ)). is_paired ps number c) is ∙ paired-has receivers number c))

-- it depends on which receiver has which capcode, and not on how that is kept
group_prints : (group : Listener) (receivers : List (List ℕ)) (pairs : List (ℕ × ℕ)) → pairs ≡ pairs_from 1 receivers
    → ((c : ℕ) → is_one_of group.capcodes c ≡ is_listed pairs c) → ((number c : ℕ) → has_in group.holders number c ≡ is_paired pairs number c)
    → group_lines group ≡ play_lines receivers
group_prints group receivers pairs is same has =
    ap₂ lines_heard (same_listens group.capcodes receivers pairs is same) (same_has group.holders receivers pairs is has)

pub made_prints : {E : Type 0} (made : Result Listener E) (receivers : List (List ℕ)) (pairs : List (ℕ × ℕ)) → pairs ≡ pairs_from 1 receivers
    → IfOk made (λ g. (c : ℕ) → is_one_of g.capcodes c ≡ is_listed pairs c) → IfOk made (λ g. (number c : ℕ) → has_in g.holders number c ≡ is_paired pairs number c)
    → IfOk made (λ g. group_lines g ≡ play_lines receivers)
made_prints (Ok group) receivers pairs is same has = group_prints group receivers pairs is same has
made_prints (Err e) receivers pairs is same has = tt

-- and so it is with a group that hears transmissions twice
pub made_twice_prints : {E : Type 0} (made : Result TwinListener E) (receivers : List (List ℕ)) (pairs : List (ℕ × ℕ)) → pairs ≡ pairs_from 1 receivers
    → IfOk made (λ g. (c : ℕ) → is_one_of g.capcodes c ≡ is_listed pairs c) → IfOk made (λ g. (number c : ℕ) → has_in g.holders number c ≡ is_paired pairs number c)
    → IfOk made (λ g. twin_group_lines g ≡ twice_lines receivers)
made_twice_prints (Ok group) receivers pairs is same has =
    ap₂ lines_heard_twice (same_listens group.capcodes receivers pairs is same) (same_has group.holders receivers pairs is has)
made_twice_prints (Err e) receivers pairs is same has = tt
