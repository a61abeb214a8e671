-- The capcodes of a receiver's word, one part after another.
use Rattle.std.proofs.Common.{◌≡◌, ◌≢◌, ℕ, ◌==◌, ◌<◌, ◌≤◌, ◌||◌, Bool, true, false, List, [], ◌∷◌, ◌++◌, length, length-append, append_assoc, get_or, Option, Some, None, refl, sym, ◌∙◌, ap, subst, arith, ne_eqb}
use Rattle.std.specs.Prelude.{All, MatchOption}
use Rattle.std.specs.List.{list_any}
use Rattle.std.proofs.lemmas.List.Elements.{All-from_get_or}
use Rattle.std.proofs.lemmas.List.Splits.{slice_split_at, slice_split_none}
use Rattle.command_lines.specs.Commands.{Differ, IsCapcodeWord, IsReceiverWord, Say, plus_parts}
use Rattle.command_lines.specs.ReadWords.{GrowsBy, IsNext}
use Rattle.command_lines.proofs.Saying.{Say-behind, Say-more, Say-one}

-- ---- capcodes that differ

no_or : (a b : Bool) → (a || b) ≡ false → (a ≡ false) × (b ≡ false)
no_or false b h = (refl, h)
no_or true b h = cc

swapped : (a b : ℕ) → (a == b) ≡ false → (b == a) ≡ false
swapped a b h = grind arith

both_no : (a b : Bool) → a ≡ false → b ≡ false → (a || b) ≡ false
both_no false b h k = k
both_no true b h k = cc

not_behind : (x c : ℕ) (capcodes : List ℕ) → list_any (λ d. d == x) capcodes ≡ false → (c == x) ≡ false → list_any (λ d. d == x) (capcodes ++ c ∷ []) ≡ false
not_behind x c [] h k = both_no (c == x) false k refl
not_behind x c (d ∷ capcodes) h k =
    let n = no_or (d == x) (list_any (λ e. e == x) capcodes) h in
    both_no (d == x) (list_any (λ e. e == x) (capcodes ++ c ∷ [])) n.0 (not_behind x c capcodes n.1 k)

pub Differ-more : (capcodes : List ℕ) (c : ℕ) → Differ capcodes → list_any (λ d. d == c) capcodes ≡ false → Differ (capcodes ++ c ∷ [])
Differ-more [] c h k = (refl, tt)
Differ-more (x ∷ capcodes) c h k =
    let n = no_or (x == c) (list_any (λ d. d == c) capcodes) k in
    (not_behind x c capcodes h.0 (swapped x c n.0), Differ-more capcodes c h.1 n.1)

among_behind : (x c : ℕ) (capcodes rest : List ℕ) → (c == x) ≡ true → list_any (λ d. d == x) (capcodes ++ c ∷ rest) ≡ false → ⊥
among_behind x c [] rest k h = let n = no_or (c == x) (list_any (λ d. d == x) rest) h in true_false (sym k ∙ n.0)
  where
    true_false : true ≡ false → ⊥
    true_false e = cc
among_behind x c (d ∷ capcodes) rest k h = among_behind x c capcodes rest k (no_or (d == x) (list_any (λ e. e == x) (capcodes ++ c ∷ rest)) h).1

turned : (a b : ℕ) → (a == b) ≡ true → (b == a) ≡ true
turned a b e = grind arith

twice_or : (x c : ℕ) (capcodes rest : List ℕ) (same : Bool) → (x == c) ≡ same → (same || list_any (λ d. d == c) capcodes) ≡ true
    → list_any (λ d. d == x) (capcodes ++ c ∷ rest) ≡ false → (list_any (λ d. d == c) capcodes ≡ true → ⊥) → ⊥
twice_or x c capcodes rest true e k h later = among_behind x c capcodes rest (turned x c e) h
twice_or x c capcodes rest false e k h later = later k

pub Differ-twice : (capcodes rest : List ℕ) (c : ℕ) → list_any (λ d. d == c) capcodes ≡ true → Differ (capcodes ++ c ∷ rest) → ⊥
Differ-twice [] rest c k h = cc
Differ-twice (x ∷ capcodes) rest c k h = twice_or x c capcodes rest (x == c) refl k h.0 (λ m. Differ-twice capcodes rest c m h.1)

-- ---- a word has one value at most

pub one_capcode : (word : List ℕ) (a b : ℕ) → IsCapcodeWord word a → IsCapcodeWord word b → b ≡ a
one_capcode word a b h k = k.value ∙ sym h.value

pub one_receiver : (word : List ℕ) (a b : List ℕ) → IsReceiverWord word a → IsReceiverWord word b → b ≡ a
one_receiver word a b h k = Say-one IsCapcodeWord one_capcode (plus_parts word) a b h.say k.say

-- ---- parts

-- bytes that aren't this one
no_byte : (c : ℕ) (bs : List ℕ) → ((i : ℕ) → i < length bs → get_or bs i 0 ≢ c) → All (λ b. (b == c) ≡ false) bs
no_byte c bs h = All-from_get_or (λ b. (b == c) ≡ false) bs 0 (λ i lt. ne_eqb (get_or bs i 0) c (h i lt))

pub plus_parts-at : (word part more : List ℕ) → word ≡ part ++ 43 ∷ more → ((i : ℕ) → i < length part → get_or part i 0 ≢ 43) → plus_parts word ≡ part ∷ plus_parts more
plus_parts-at word part more e h = ap plus_parts e ∙ slice_split_at (λ b. b == 43) part 43 more (no_byte 43 part h) refl

pub plus_parts-last : (word : List ℕ) → ((i : ℕ) → i < length word → get_or word i 0 ≢ 43) → plus_parts word ≡ word ∷ []
plus_parts-last word h = slice_split_none (λ b. b == 43) word (no_byte 43 word h)

-- The first parts of a word were read, up to this rest, and these are their capcodes.
pub record PartsRead (word rest capcodes : List ℕ) : Type 0 where
  pub front : List (List ℕ)
  pub cut : plus_parts word ≡ front ++ plus_parts rest
  pub say : Say IsCapcodeWord front capcodes
  pub some : 0 < length capcodes
  pub few : length capcodes ≤ 4
  pub differ : Differ capcodes

pub first_read : (word first more : List ℕ) (c : ℕ) → plus_parts word ≡ first ∷ plus_parts more → IsCapcodeWord first c → PartsRead word more (c ∷ [])
first_read word first more c e h = record {
  front = first ∷ [];
  cut = e;
  say = (h, tt);
  some = omega arith;
  few = omega arith;
  differ = (refl, tt);
}

pub next_read : (word rest part more capcodes grown : List ℕ) → PartsRead word rest capcodes → plus_parts rest ≡ part ∷ plus_parts more → GrowsBy capcodes part grown → PartsRead word more grown
next_read word rest part more capcodes grown h e g = subst (λ (cs : List ℕ). PartsRead word more cs) (sym g.more_is) (record {
  front = h.front ++ part ∷ [];
  cut = h.cut ∙ ap (λ ps. h.front ++ ps) e ∙ sym (append_assoc h.front (part ∷ []) (plus_parts more));
  say = Say-more IsCapcodeWord h.front part capcodes g.capcode h.say g.next.word_is;
  some = omega (arith, length-append capcodes (g.capcode ∷ []));
  few = omega (arith, length-append capcodes (g.capcode ∷ []), g.next.few);
  differ = Differ-more capcodes g.capcode h.differ g.next.new;
})

-- ---- when a word is refused

pub refuse_next : (word rest part : List ℕ) (later : List (List ℕ)) (capcodes : List ℕ) → PartsRead word rest capcodes → plus_parts rest ≡ part ∷ later
    → ((c : ℕ) → IsNext capcodes part c → ⊥) → (all : List ℕ) → IsReceiverWord word all → ⊥
refuse_next word rest part later capcodes h e none all k =
    let b = Say-behind IsCapcodeWord h.front part later all (subst (λ (ws : List (List ℕ)). Say IsCapcodeWord ws all) (h.cut ∙ ap (λ ps. h.front ++ ps) e) k.say) in
    let same : b.before ≡ capcodes = Say-one IsCapcodeWord one_capcode h.front capcodes b.before h.say b.before_is in
    let is : all ≡ capcodes ++ b.value ∷ b.rest = b.all_is ∙ ap (λ cs. cs ++ b.value ∷ b.rest) same in
    none b.value (record {
      word_is = b.word_is;
      few = omega (arith, ap length is, length-append capcodes (b.value ∷ b.rest), k.few);
      new = not_twice capcodes b.rest b.value (list_any (λ d. d == b.value) capcodes) refl (subst Differ is k.differ);
    })
  where
    not_twice : (cs rest : List ℕ) (c : ℕ) (among : Bool) → list_any (λ d. d == c) cs ≡ among → Differ (cs ++ c ∷ rest) → list_any (λ d. d == c) cs ≡ false
    not_twice cs rest c true m d = absurd (Differ-twice cs rest c m d)
    not_twice cs rest c false m d = m

pub refuse_first : (word first : List ℕ) (later : List (List ℕ)) → plus_parts word ≡ first ∷ later → ((c : ℕ) → IsCapcodeWord first c → ⊥) → (all : List ℕ) → IsReceiverWord word all → ⊥
refuse_first word first later e none all k =
    let b = Say-behind IsCapcodeWord [] first later all (subst (λ (ws : List (List ℕ)). Say IsCapcodeWord ws all) e k.say) in
    none b.value b.word_is

-- ---- the end of a word

is_receiver : (word rest capcodes grown : List ℕ) → PartsRead word rest capcodes → plus_parts rest ≡ rest ∷ [] → GrowsBy capcodes rest grown → IsReceiverWord word grown
is_receiver word rest capcodes grown h e g = subst (λ (cs : List ℕ). IsReceiverWord word cs) (sym g.more_is) (record {
  say = subst (λ (ws : List (List ℕ)). Say IsCapcodeWord ws (capcodes ++ g.capcode ∷ [])) (sym (h.cut ∙ ap (λ ps. h.front ++ ps) e))
      (Say-more IsCapcodeWord h.front rest capcodes g.capcode h.say g.next.word_is);
  some = omega (arith, length-append capcodes (g.capcode ∷ []));
  few = omega (arith, length-append capcodes (g.capcode ∷ []), g.next.few);
  differ = Differ-more capcodes g.capcode h.differ g.next.new;
})

pub word_read : (word rest capcodes : List ℕ) (r : Option (List ℕ)) → PartsRead word rest capcodes → plus_parts rest ≡ rest ∷ []
    → MatchOption r ((c : ℕ) → IsNext capcodes rest c → ⊥) (λ more. GrowsBy capcodes rest more)
    → MatchOption r ((all : List ℕ) → IsReceiverWord word all → ⊥) (λ all. IsReceiverWord word all)
word_read word rest capcodes None h e n = refuse_next word rest rest [] capcodes h e n
word_read word rest capcodes (Some grown) h e g = is_receiver word rest capcodes grown h e g

pub alone_read : (word : List ℕ) (c : ℕ) → plus_parts word ≡ word ∷ [] → IsCapcodeWord word c → IsReceiverWord word (c ∷ [])
alone_read word c e h = record {
  say = subst (λ (ws : List (List ℕ)). Say IsCapcodeWord ws (c ∷ [])) (sym e) (h, tt);
  some = omega arith;
  few = omega arith;
  differ = (refl, tt);
}
