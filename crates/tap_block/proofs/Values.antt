-- Spellings, values and faults of fields.
use Rattle.std.proofs.Common.{◌≡◌, ◌≢◌, ℕ, ◌+◌, ◌-◌, ◌<◌, ◌≤◌, ◌==◌, cond, Bool, true, false, ◌&&◌, List, [], ◌∷◌, ◌++◌, length, map, refl, ap, sym, ◌∙◌, subst, append_assoc, append-nil, arith, Result, Ok, Err, inl, inr, nat_lt, nat_le, take, slice_set}
use Rattle.std.proofs.lemmas.List.{take_more_set}
use Rattle.std.specs.List.{AllByRecursion, flat_map}
use Rattle.std.proofs.lemmas.Bool.{cases_lt}
use Rattle.std.proofs.lemmas.Bool.Decides.{nat_tests}
use Rattle.tap_block.specs.declared.faults.FieldFault.{FieldFault}
use Rattle.tap_block.specs.declared.faults.FieldFault.TheVariants.{Control, SubEnd, SubLetter}
use Rattle.tap_block.specs.Chars.{sub}
use Rattle.tap_block.specs.Fields.{Spelling, plain, pair, IsSpelling, spelling, spelled, HasValue, is_plain, is_letter, front, read_field, escaped, IsFaultAt, HasFault}
use Rattle.tap_block.proofs.First.{equal, not_equal}

-- nothing before a value
pub front_nil : (r : Result (List ℕ) FieldFault) → front [] r ≡ r
front_nil (Ok x) = refl
front_nil (Err e) = refl

-- two lists before a value
pub front_front : (x y : List ℕ) (r : Result (List ℕ) FieldFault) → front x (front y r) ≡ front (x ++ y) r
front_front x y (Ok z) = ap (λ w. Ok w) (sym (append_assoc x y z))
front_front x y (Err e) = refl

-- the test of a plain character
plain_test : (c : ℕ) → 32 ≤ c → c ≤ 126 → (nat_le 32 c && nat_le c 126) ≡ true
plain_test c h k = grind (arith, nat_tests)

-- the test of a letter behind SUB
letter_test : (c : ℕ) → 64 ≤ c → c ≤ 95 → (nat_le 64 c && nat_le c 95) ≡ true
letter_test c h k = grind (arith, nat_tests)

-- the steps of reading a field
pub read_plain : (c : ℕ) (f : List ℕ) → 32 ≤ c → c ≤ 126 → read_field (c ∷ f) ≡ front (c ∷ []) (read_field f)
read_plain c [] h k = rw (plain_test c h k) refl
read_plain c (d ∷ f) h k = rw (plain_test c h k, read_field) refl

-- SUB and a letter at the front
pub read_pair : (d : ℕ) (f : List ℕ) → 64 ≤ d → d ≤ 95 → read_field (sub ∷ d ∷ f) ≡ front ((d - 64) ∷ []) (read_field f)
read_pair d f h k = rw (letter_test d h k, read_field) refl

-- the loop's step
pub told_on : (into : List ℕ) (n c : ℕ) (rest behind field : List ℕ) → n < length into
    → read_field rest ≡ front (c ∷ []) (read_field behind) → front (take n into) (read_field rest) ≡ read_field field
    → front (take (n + 1) (slice_set into n c)) (read_field behind) ≡ read_field field
told_on into n c rest behind field h e k =
    rw (take_more_set into n c h) (sym (front_front (take n into) (c ∷ []) (read_field behind)) ∙ ap (front (take n into)) (sym e) ∙ k)

-- a field has a value exactly if it is read so
pub value_read : (field value : List ℕ) → HasValue field value → read_field field ≡ Ok value
value_read field value h = ap read_field h.form ∙ spellings_read h.spellings h.each ∙ ap (λ v. Ok v) (sym h.spells)
  where
    spellings_read : (ss : List Spelling) → AllByRecursion IsSpelling ss → read_field (flat_map spelling ss) ≡ Ok (map spelled ss)
    spellings_read [] p = refl
    spellings_read (plain c ∷ ss) p = read_plain c (flat_map spelling ss) p.0.0 p.0.1 ∙ ap (front (c ∷ [])) (spellings_read ss p.1)
    spellings_read (pair d ∷ ss) p = read_pair d (flat_map spelling ss) p.0.0 p.0.1 ∙ ap (front ((d - 64) ∷ [])) (spellings_read ss p.1)

-- two values of one field are one
pub one_value : (field v w : List ℕ) → HasValue field v → HasValue field w → v ≡ w
one_value field v w h k = let e = value_read field v h in let f = value_read field w k in cc

-- what the tests of characters say
plain_if : (c : ℕ) → is_plain c ≡ true → (32 ≤ c) × (c ≤ 126)
plain_if c h = grind (arith, nat_tests)

-- no other character passes the test
unplain_if : (c : ℕ) → is_plain c ≡ false → IsSpelling (plain c) → ⊥
unplain_if c h k = let t = plain_test c k.0 k.1 in cc

-- a letter passes its test
letter_if : (c : ℕ) → is_letter c ≡ true → (64 ≤ c) × (c ≤ 95)
letter_if c h = grind (arith, nat_tests)

-- no other character passes it
unletter_if : (c : ℕ) → is_letter c ≡ false → IsSpelling (pair c) → ⊥
unletter_if c h k = let t = letter_test c k.0 k.1 in cc

-- the test of SUB
equal_if : (c : ℕ) → (c == sub) ≡ true → c ≡ sub
equal_if c e = grind (arith, nat_tests)

-- no other character passes that
unequal_if : (c : ℕ) → (c == sub) ≡ false → c ≢ sub
unequal_if c e h = let t = equal c sub h in cc

-- the test of a character that is not plain
not_plain : (c : ℕ) → (IsSpelling (plain c) → ⊥) → (nat_le 32 c && nat_le c 126) ≡ false
not_plain c h = tested (nat_le 32 c && nat_le c 126) refl
  where
    tested : (b : Bool) → (nat_le 32 c && nat_le c 126) ≡ b → b ≡ false
    tested true e = absurd (h (plain_if c e))
    tested false e = refl

-- the test of a character that is no letter
not_letter : (c : ℕ) → (IsSpelling (pair c) → ⊥) → (nat_le 64 c && nat_le c 95) ≡ false
not_letter c h = tested (nat_le 64 c && nat_le c 95) refl
  where
    tested : (b : Bool) → (nat_le 64 c && nat_le c 95) ≡ b → b ≡ false
    tested true e = absurd (h (letter_if c e))
    tested false e = refl

-- where no spelling begins, the fault is read
at_fault : (fault : FieldFault) (f : List ℕ) → IsFaultAt fault f → read_field f ≡ Err fault
at_fault Control (c ∷ []) h = rw (not_plain c h.1, not_equal c sub h.0) refl
at_fault Control (c ∷ d ∷ f) h = rw (not_plain c h.1, not_equal c sub h.0, read_field) refl
at_fault SubEnd (c ∷ []) h = ap (λ k. read_field (k ∷ [])) h
at_fault SubLetter (c ∷ d ∷ f) h = ap (λ k. read_field (k ∷ d ∷ f)) h.0 ∙ rw (not_letter d h.1, read_field) refl
at_fault Control [] h = elim h [ ]
at_fault SubEnd [] h = elim h [ ]
at_fault SubEnd (c ∷ d ∷ f) h = elim h [ ]
at_fault SubLetter [] h = elim h [ ]
at_fault SubLetter (c ∷ []) h = elim h [ ]

-- a field with a fault is read as this fault
pub fault_read : (field : List ℕ) (fault : FieldFault) → HasFault field fault → read_field field ≡ Err fault
fault_read field fault h = ap read_field h.form ∙ spellings_read h.spellings h.each
  where
    spellings_read : (ss : List Spelling) → AllByRecursion IsSpelling ss → read_field (flat_map spelling ss ++ h.behind) ≡ Err fault
    spellings_read [] p = at_fault fault h.behind h.fault_is
    spellings_read (plain c ∷ ss) p = read_plain c (flat_map spelling ss ++ h.behind) p.0.0 p.0.1 ∙ ap (front (c ∷ [])) (spellings_read ss p.1)
    spellings_read (pair d ∷ ss) p = read_pair d (flat_map spelling ss ++ h.behind) p.0.0 p.0.1 ∙ ap (front ((d - 64) ∷ [])) (spellings_read ss p.1)

-- what is read is a value or a fault
abbrev ReadIs : List ℕ → Result (List ℕ) FieldFault → Type 0
ReadIs field (Ok value) = HasValue field value
ReadIs field (Err fault) = HasFault field fault

-- one spelling more at the front
with_spelling : (s : Spelling) (f : List ℕ) (r : Result (List ℕ) FieldFault) → IsSpelling s → ReadIs f r → ReadIs (spelling s ++ f) (front (spelled s ∷ []) r)
with_spelling s f (Ok value) p h = record {
  spellings = s ∷ h.spellings;
  each = (p, h.each);
  form = ap (λ z. spelling s ++ z) h.form;
  spells = ap (λ z. spelled s ∷ z) h.spells;
}
with_spelling s f (Err fault) p h = record {
  spellings = s ∷ h.spellings;
  each = (p, h.each);
  behind = h.behind;
  form = ap (λ z. spelling s ++ z) h.form ∙ sym (append_assoc (spelling s) (flat_map spelling h.spellings) h.behind);
  fault_is = h.fault_is;
}

-- a fault at the first place
first_fault : (field : List ℕ) (fault : FieldFault) → IsFaultAt fault field → HasFault field fault
first_fault field fault h = record { spellings = []; each = tt; behind = field; form = refl; fault_is = h }

-- what a field is read as holds of it
pub read_is : (field : List ℕ) → ReadIs field (read_field field)
read_is [] = record { spellings = []; each = tt; form = refl; spells = refl }
read_is (c ∷ []) = one (is_plain c) refl
  where
    last : (b : Bool) → (c == sub) ≡ b → is_plain c ≡ false → HasFault (c ∷ []) (cond b SubEnd Control)
    last true e n = first_fault (c ∷ []) SubEnd (equal_if c e)
    last false e n = first_fault (c ∷ []) Control (unequal_if c e, unplain_if c n)

    one : (b : Bool) → is_plain c ≡ b → ReadIs (c ∷ []) (cond b (Ok (c ∷ [])) (Err (cond (c == sub) SubEnd Control)))
    one true e = record { spellings = plain c ∷ []; each = (plain_if c e, tt); form = refl; spells = refl }
    one false e = last (c == sub) refl e
read_is (c ∷ d ∷ f) = first (is_plain c) refl (read_is (d ∷ f)) (read_is f)
  where
    letter : (b : Bool) → is_letter d ≡ b → ReadIs f (read_field f) → ReadIs (sub ∷ d ∷ f) (elim b [ true ↦ front ((d - 64) ∷ []) (read_field f) | false ↦ Err SubLetter ])
    letter true e h = with_spelling (pair d) f (read_field f) (letter_if d e) h
    letter false e h = first_fault (sub ∷ d ∷ f) SubLetter (refl, unletter_if d e)

    second : (b : Bool) → (c == sub) ≡ b → is_plain c ≡ false → ReadIs f (read_field f)
        → ReadIs (c ∷ d ∷ f) (elim b [ true ↦ elim (is_letter d) [ true ↦ front ((d - 64) ∷ []) (read_field f) | false ↦ Err SubLetter ] | false ↦ Err Control ])
    second true e n h = subst (λ k. ReadIs (k ∷ d ∷ f) (elim (is_letter d) [ true ↦ front ((d - 64) ∷ []) (read_field f) | false ↦ Err SubLetter ])) (sym (equal_if c e)) (letter (is_letter d) refl h)
    second false e n h = first_fault (c ∷ d ∷ f) Control (unequal_if c e, unplain_if c n)

    first : (b : Bool) → is_plain c ≡ b → ReadIs (d ∷ f) (read_field (d ∷ f)) → ReadIs f (read_field f)
        → ReadIs (c ∷ d ∷ f) (elim b [ true ↦ front (c ∷ []) (read_field (d ∷ f)) | false ↦ elim (c == sub) [ true ↦ elim (is_letter d) [ true ↦ front ((d - 64) ∷ []) (read_field f) | false ↦ Err SubLetter ] | false ↦ Err Control ] ])
    first true e h k = with_spelling (plain c) (d ∷ f) (read_field (d ∷ f)) (plain_if c e) h
    first false e h k = second (c == sub) refl e k

-- a field that is read so has this value
pub read_has : (field value : List ℕ) → read_field field ≡ Ok value → HasValue field value
read_has field value e = let P : Result (List ℕ) FieldFault → Type 0 = λ r. ReadIs field r in subst P e (read_is field)

-- a field that is read as a fault has it
pub read_has_fault : (field : List ℕ) (fault : FieldFault) → read_field field ≡ Err fault → HasFault field fault
read_has_fault field fault e = let P : Result (List ℕ) FieldFault → Type 0 = λ r. ReadIs field r in subst P e (read_is field)

-- the field that spells a value is read as this value
pub escaped_read : (value : List ℕ) → AllByRecursion (λ c. c ≤ 126) value → read_field (escaped value) ≡ Ok value
escaped_read [] h = refl
escaped_read (c ∷ value) h = elim (cases_lt c 32) [
  | inl k ↦ (let t : nat_lt c 32 ≡ true = grind (arith, nat_tests) in
      let r : (c + 64) - 64 ≡ c = omega arith in
      ap (λ b. read_field (cond b (sub ∷ (c + 64) ∷ []) (c ∷ []) ++ escaped value)) t
      ∙ read_pair (c + 64) (escaped value) (omega arith) (omega arith) ∙ ap (λ v. front (((c + 64) - 64) ∷ []) v) (escaped_read value h.1) ∙ ap (λ d. Ok (d ∷ value)) r)
  | inr k ↦ (let t : nat_lt c 32 ≡ false = grind (arith, nat_tests) in
      ap (λ b. read_field (cond b (sub ∷ (c + 64) ∷ []) (c ∷ []) ++ escaped value)) t
      ∙ read_plain c (escaped value) k h.0 ∙ ap (front (c ∷ [])) (escaped_read value h.1))
]

-- the loop's end: what was told so far is the value, or the fault that is found
pub value_told : (told rest field : List ℕ) → length rest ≡ 0 → front told (read_field rest) ≡ read_field field → HasValue field told
value_told told [] field e k = read_has field told (sym k ∙ ap (λ v. Ok v) (append-nil told))
value_told told (c ∷ rest) field e k = absurd (omega (arith, e))

-- the fault behind what was told so far
pub fault_told : (told rest field : List ℕ) (fault : FieldFault) → read_field rest ≡ Err fault → front told (read_field rest) ≡ read_field field → HasFault field fault
fault_told told rest field fault e k = read_has_fault field fault (sym k ∙ ap (front told) e)
