-- Samples that are read ahead of their bits.
use Rattle.std.proofs.Common.{◌≡◌, ◌≢◌, ℕ, suc, ◌+◌, ◌-◌, ◌<◌, ◌≤◌, ◌||◌, Bool, true, false, List, [], ◌∷◌, ◌++◌, length, length-append, take, Option, Result, Some, None, Ok, Err, IsErr, IsTrue, refl, sym, ◌∙◌, ap, ap₂, subst, arith, rules}
use Rattle.std.proofs.Math.Seq.{take-append-add}
use Rattle.std.proofs.lemmas.Grind.{common_steps}
use Rattle.std.proofs.lemmas.Bool.Decides.{nat_tests}
use Rattle.std.specs.Prelude.{IsSome, MatchOption, is_some, nat_lt, OnOk}
use Rattle.wires.specs.Ahead.{Fills}
use Rattle.wires.specs.Causes.{HasCause}
use Rattle.wires.specs.Held.{Follows}
use Rattle.wires.specs.Left.{Left, Pops, PopsSome, TakesOne, TakesPiece, Took}
use Rattle.wires.specs.Stacked.{some_or}
use Rattle.wires.proofs.Causes.{cause_ok, cause_err, cause_none}
use Rattle.wires.proofs.Written.{still}
use Rattle.sampler.specs.Stacked.{Counted, PassesAll, bits_after, counted_bits, follows, follows_after, sampled_over}
use Rattle.sampler.proofs.Runs.{at_end}

-- the first samples, of which some were read
take-front : (limit : ℕ) (p xs ys : List Bool) → length p ≤ limit → xs ≡ p ++ ys → p ++ take (limit - length p) ys ≡ take limit xs
take-front limit p xs ys le e =
    let n : length p + (limit - length p) ≡ limit = omega (arith, le) in
    sym (ap (take limit) e ∙ (ap (λ (k : ℕ). take k (p ++ ys)) (sym n) ∙ take-append-add p ys (limit - length p)))

-- something was there before, where an answer came
there_read : (f : Bool) (ready : List Bool) (b : Bool) → ready ≡ [] → IsTrue b → IsTrue (f || some_or ready b)
there_read true ready b z h = refl
there_read false ready b z h = rw z h

there_ready : (f : Bool) (ready : List Bool) (b : Bool) → ready ≢ [] → IsTrue (f || some_or ready b)
there_ready true ready b h = refl
there_ready false [] b h = absurd (h refl)
there_ready false (x ∷ ready) b h = refl

-- no samples are left
nothing : (c : Counted) (xs : List Bool) → c.ready ≡ [] → xs ≡ [] → counted_bits c xs ≡ []
nothing c xs z e = ap₂ (λ (r ys : List Bool). bits_after c.last c.count (r ++ ys)) z e ∙ at_end c.last c.count

take-none : (n : ℕ) (l : List Bool) → l ≡ [] → take n l ≡ []
take-none n l e = rw e (grind (arith, common_steps))

-- whether a sample follows is the same where some samples were taken
fewer_left : (limit : ℕ) (p xs ys : List Bool) → length p ≤ limit → xs ≡ p ++ ys → nat_lt (limit - length p) (length ys) ≡ nat_lt limit (length xs)
fewer_left limit p xs ys le e = let n : length xs ≡ length p + length ys = ap length e ∙ length-append p ys in rw n (grind (arith, nat_tests, le))

same_after : (limit : ℕ) (t u : Bool) (p xs ys : List Bool) → length p ≤ limit → u ≡ t → (IsTrue t → xs ≡ p ++ ys) → follows_after (limit - length p) None u ys ≡ follows_after limit None t xs
same_after limit t false p xs ys le e k = rw (← e) refl
same_after limit false true p xs ys le e k = cc
same_after limit true true p xs ys le e k = fewer_left limit p xs ys le (k refl)

held : (a b : Bool) (x y : Left Bool) → a ≡ b → x.lent ≡ y.lent → Follows a ∷ x.lent ≡ Follows b ∷ y.lent
held a b x y e h = rw (e, h) refl

pub not_asked : (further : Option Bool) (limit : ℕ) → (IsSome further → limit ≡ 0) → 0 < limit → further ≡ None
not_asked None limit h k = refl
not_asked (Some b) limit h k = absurd (omega (arith, h (search rules), k))

-- samples are read
pub reads : {E : Type 0} (most : ℕ) (c : Counted) (limit : ℕ) (further : Option Bool) (p : List Bool) (more : Bool) (x y : Left Bool) → c.ready ≡ [] → further ≡ None → most ≤ limit → TakesPiece {E = E} most x y (Ok p)
    → Fills {E = E} (sampled_over c limit further x) (sampled_over (record { ready = p; last = c.last; count = c.count }) (limit - length p) further y) p (Ok more)
reads most c limit further p more x y z n le h =
    let few : length p ≤ limit = omega (arith, le, h.few) in
    let front = λ (t : IsTrue x.tells). (h.left t).0 in
    record {
      tells = h.tells;
      left = λ t. ap (bits_after c.last c.count) (take-front limit p x.left y.left few (front t)) ∙ sym (ap (λ (r : List Bool). bits_after c.last c.count (r ++ take limit x.left)) z);
      there = λ t here. there_read (is_some further) c.ready x.there z (h.came t);
      came = λ t. there_read (is_some further) c.ready x.there z (h.came t);
      end = λ t e. nothing c (take limit x.left) z (take-none limit x.left ((h.left t).1 e));
      steady = λ t s. (refl, (h.steady t s).1);
      faults = cause_ok p more h.faults;
      lent = rw n (held _ _ y x (same_after limit x.tells y.tells p x.left y.left few h.tells front) h.lent);
    }

-- the further sample was asked for before
pub was_asked : {E : Type 0} (c : Counted) (limit : ℕ) (further : Option Bool) (x : Left Bool) → c.ready ≡ [] → limit ≡ 0 → is_some further ≡ true
    → Fills {T = Unit {0}} {E = E} (sampled_over c limit further x) (sampled_over c limit further x) [] (Ok (tt {0}))
was_asked c limit None x z n s = cc
was_asked c limit (Some b) x z n s = record {
  tells = refl;
  left = λ t. refl;
  there = λ t here. here;
  came = λ t. refl;
  end = λ t e. nothing c (take limit x.left) z (rw n refl);
  steady = λ t s. (refl, s);
  faults = cause_none (tt {0}) x.faults;
  lent = refl;
}

pub lt-some : (n : ℕ) → nat_lt 0 (suc n) ≡ true
lt-some n = grind (arith, nat_tests)

same_asked : (E : Type 0) (t u : Bool) (xs ys : List Bool) (r : Option Bool) → u ≡ t → (IsTrue t → Pops {E = E} xs ys (Ok r)) → follows_after 0 (Some (is_some r)) u ys ≡ follows_after 0 None t xs
same_asked E t false xs ys r e k = rw (← e) refl
same_asked E false true xs ys r e k = cc
same_asked E true true xs ys (Some b) e k = rw (k refl) (sym (lt-some (length ys)))
same_asked E true true xs ys None e k = rw (k refl).0 refl

-- it is asked for
pub asks : {E F : Type 0} (c : Counted) (limit : ℕ) (further : Option Bool) (x y : Left Bool) (r : Option Bool) → c.ready ≡ [] → limit ≡ 0 → further ≡ None → TakesOne {E = E} x y (Ok r)
    → Fills {T = Unit {0}} {E = F} (sampled_over c limit further x) (sampled_over c limit (Some (is_some r)) y) [] (Ok (tt {0}))
asks {E} c limit further x y r z n f h = rw (n, f) (record {
  tells = h.tells;
  left = λ t. refl;
  there = λ t here. there_read false c.ready x.there z (h.came t);
  came = λ t. there_read false c.ready x.there z (h.came t);
  end = λ t e. nothing c [] z refl;
  steady = λ t s. (refl, (h.steady t s).1);
  faults = cause_ok r (tt {0}) h.faults;
  lent = held _ _ y x (same_asked E x.tells y.tells x.left y.left r h.tells h.left) h.lent;
})

-- a read ahead takes nothing
pub filled : {T E : Type 0} (a b : Left Bool) (ready : List Bool) (v : T) → Fills {E = E} a b ready (Ok v) → Took a b []
filled a b ready v h = record { tells = h.tells; left = λ t. sym (h.left t); there = h.there; steady = λ t s. (h.steady t s).1; faults = h.faults.kept; lent = h.lent }

-- bits of samples that are ready
pub gives_some : {E : Type 0} (most : ℕ) (c c' : Counted) (limit : ℕ) (further : Option Bool) (x : Left Bool) (p : List Bool) → c.ready ≢ [] → ((rest : List Bool) → counted_bits c rest ≡ p ++ counted_bits c' rest) → length p ≤ most → p ≢ []
    → TakesPiece {E = E} most (sampled_over c limit further x) (sampled_over c' limit further x) (Ok p)
gives_some most c c' limit further x p some gives few h = record {
  tells = refl;
  few = few;
  left = λ t. (gives (take limit x.left), λ e. absurd (h e));
  there = λ t here. there_ready (is_some further) c.ready x.there some;
  came = λ t. there_ready (is_some further) c.ready x.there some;
  steady = λ t s. (refl, s);
  faults = cause_none p x.faults;
  lent = refl;
}

-- the same, where it isn't said that there are any
pub passes : (c c' : Counted) (limit : ℕ) (further : Option Bool) (x : Left Bool) (p : List Bool) → c.ready ≢ [] → ((rest : List Bool) → counted_bits c rest ≡ p ++ counted_bits c' rest)
    → Took (sampled_over c limit further x) (sampled_over c' limit further x) p
passes c c' limit further x p some gives = record {
  tells = refl;
  left = λ t. gives (take limit x.left);
  there = λ t here. there_ready (is_some further) c.ready x.there some;
  steady = λ t s. s;
  faults = refl;
  lent = refl;
}

pops_from : {E : Type 0} (a b c : List Bool) (r : Result (List Bool) E) → a ≡ b → PopsSome b c r → PopsSome a c r
pops_from {E} a b c r e h = subst (λ (l : List Bool). PopsSome {E = E} l c r) (sym e) h

cause_from : {T E : Type 0} {a b c : ℕ} {r : Result T E} → b ≡ a → HasCause b c r → HasCause a c r
cause_from {c} {r} e h = subst (λ (n : ℕ). HasCause n c r) e h

came_from : {T E : Type 0} (a b : Left Bool) (r : Result T E) → Took a b [] → (IsTrue b.tells → OnOk r (IsTrue b.there)) → IsTrue a.tells → OnOk r (IsTrue a.there)
came_from a b (Ok o) h k t = h.there t (k (still h.tells t))
came_from a b (Err e) h k t = tt

-- after reads that took nothing
pub then_piece : {E : Type 0} (most : ℕ) (a b c : Left Bool) (r : Result (List Bool) E) → Took a b [] → TakesPiece most b c r → TakesPiece most a c r
then_piece most a b c r h k = record {
  tells = k.tells ∙ h.tells;
  few = k.few;
  left = λ t. pops_from a.left b.left c.left r (h.left t) (k.left (still h.tells t));
  there = λ t here. h.there t (k.there (still h.tells t) here);
  came = λ t. came_from a b r h k.came t;
  steady = λ t s. k.steady (still h.tells t) (h.steady t s);
  faults = cause_from h.faults k.faults;
  lent = k.lent ∙ h.lent;
}

-- no sample is left
pub gives_none : {T E : Type 0} (most : ℕ) (a b : Left Bool) (ready p : List Bool) (v : T) → ready ≡ [] → p ≡ [] → Fills {E = E} a b ready (Ok v) → TakesPiece {E = E} most a b (Ok p)
gives_none most a b ready p v e z h = rw z (record {
  tells = h.tells;
  few = omega arith;
  left = λ t. (sym (h.left t), λ _. h.end t e);
  there = h.there;
  came = h.came;
  steady = λ t s. (refl, (h.steady t s).1);
  faults = cause_ok v [] h.faults;
  lent = h.lent;
})

-- a read failed
pub gives_fault : {T E F : Type 0} (most : ℕ) (a b : Left Bool) (ready : List Bool) (e : E) (r : Result (List Bool) F) → IsErr r → Fills {T = T} a b ready (Err e) → TakesPiece most a b r
gives_fault most a b ready e (Ok p) k h = cc
gives_fault most a b ready e (Err f) k h = record {
  tells = h.tells;
  few = tt;
  left = h.left;
  there = h.there;
  came = λ t. tt;
  steady = λ t s. (let c = (h.steady t s).0 in cc);
  faults = cause_err e f h.faults;
  lent = h.lent;
}

-- the end is reached after some bits
pub ends : {E : Type 0} (a b c : Left Bool) (taken ready : List Bool) (v more : Bool) → Took a b taken → Fills {E = E} b c ready (Ok v) → ready ≡ [] → (IsTrue b.tells → more ≡ follows b.lent) → PassesAll {E = E} a c (Ok more)
ends a b c taken ready v more h k z f = record {
  tells = k.tells ∙ h.tells;
  left = λ t. k.left (still h.tells t) ∙ k.end (still h.tells t) z;
  follows = λ t. f (still h.tells t) ∙ ap follows h.lent;
  there = λ t. h.there t (k.came (still h.tells t));
  steady = λ t s. (refl, (k.steady (still h.tells t) (h.steady t s)).1);
  faults = cause_from h.faults (cause_ok v more k.faults);
  lent = k.lent ∙ h.lent;
}

pub ends_failing : {T E F : Type 0} (a b c : Left Bool) (taken ready : List Bool) (e : E) (r : Result Bool F) → IsErr r → Took a b taken → Fills {T = T} b c ready (Err e) → PassesAll a c r
ends_failing a b c taken ready e (Ok m) i h k = cc
ends_failing a b c taken ready e (Err f) i h k = record {
  tells = k.tells ∙ h.tells;
  left = λ t. tt;
  follows = λ t. tt;
  there = λ t. tt;
  steady = λ t s. (let c = (k.steady (still h.tells t) (h.steady t s)).0 in cc);
  faults = cause_from h.faults (cause_err e f k.faults);
  lent = k.lent ∙ h.lent;
}

empty : (xs : List Bool) → length xs ≡ 0 → xs ≡ []
empty [] h = refl
empty (x ∷ xs) h = absurd (omega (arith, h))

one_left : (E : Type 0) (p after xs ys : List Bool) (r : Option Bool) → length p ≤ 1 → MatchOption r ((p ≡ []) × (after ≡ [])) (λ bit. p ≡ bit ∷ after) → (xs ≡ p ++ ys) × (p ≡ [] → xs ≡ []) → Pops {E = E} xs ys (Ok r)
one_left E p after xs ys None few h k = (k.1 h.0, sym (ap (λ (l : List Bool). l ++ ys) h.0) ∙ sym k.0 ∙ k.1 h.0)
one_left E p after xs ys (Some b) few h k =
    let n : after ≡ [] = empty after (omega (arith, few, ap length h)) in
    k.0 ∙ ap (λ (l : List Bool). l ++ ys) (h ∙ ap (λ (l : List Bool). b ∷ l) n)

-- one bit as a piece of one
pub one_of_piece : {E : Type 0} (a b : Left Bool) (p after : List Bool) (r : Option Bool) → MatchOption r ((p ≡ []) × (after ≡ [])) (λ bit. p ≡ bit ∷ after) → TakesPiece {E = E} 1 a b (Ok p) → TakesOne {E = E} a b (Ok r)
one_of_piece {E} a b p after r m h = record {
  tells = h.tells;
  left = λ t. one_left E p after a.left b.left r h.few m (h.left t);
  there = h.there;
  came = h.came;
  steady = λ t s. (refl, (h.steady t s).1);
  faults = cause_ok p r h.faults;
  lent = h.lent;
}

pub none_of : (o : Option Bool) → is_some o ≡ false → o ≡ None
none_of None h = refl
none_of (Some b) h = cc
