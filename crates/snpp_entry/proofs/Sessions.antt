-- How a session goes on.
use Rattle.std.proofs.Common.{◌≡◌, ℕ, ◌+◌, ◌-◌, ◌<◌, ◌≤◌, cond, Bool, true, false, not, ◌||◌, ◌&&◌, List, [], ◌∷◌, ◌++◌, length, take, refl, ap, sym, ◌∙◌, subst, append_assoc, append-nil, arith, length-append, nat_le, ◌⊎◌, inl, inr}
use Rattle.std.proofs.lemmas.Bool.{cases_lt}
use Rattle.std.proofs.lemmas.Bool.Decides.{nat_tests}
use Rattle.std.proofs.lemmas.Grind.{flat_map-append}
use Rattle.std.proofs.lemmas.List.{take_all, take-append-le, map-append}
use Rattle.std.proofs.Math.Seq.{take-append-add}
use Rattle.snpp_entry.specs.declared.answers.SnppAnswer.{SnppAnswer}
use Rattle.snpp_entry.specs.declared.answers.SnppAnswer.TheVariants.{TooLong}
use Rattle.snpp_entry.specs.Lines.{Cut, cut, uncut}
use Rattle.subscribers.specs.Directory.{Directory}
use Rattle.snpp_entry.specs.Rows.{Outcome}
use Rattle.entry_line.specs.Chars.{last_character}
use Rattle.snpp_entry.specs.Session.{SnppCourse, SnppSession, session, snpp_session_of, snpp_start, outcome_of_piece, course_after, is_bye, snpp_tell, has_bye, outcome_answers, outcome_pages, snpp_is_too_long, told_of, SnppContinues}
use Rattle.snpp_entry.specs.State.{snpp_course_at, SnppIsOver}
use Rattle.snpp_entry.proofs.Pieces.{cut_on-append, grown}

-- told before a Bye and after it
told_open : (b : Bool) (o : Outcome) (told longer more : List Outcome) → (has_bye told ≡ false → longer ≡ told ++ more)
    → (b || has_bye (cond b [] told)) ≡ false → o ∷ cond b [] longer ≡ (o ∷ cond b [] told) ++ more
told_open true o told longer more again h = absurd cc
told_open false o told longer more again h = ap (λ z. o ∷ z) (again h)

-- a Bye is told last
told_ended : (b : Bool) (o : Outcome) (told longer : List Outcome) → (has_bye told ≡ true → longer ≡ told)
    → (b || has_bye (cond b [] told)) ≡ true → o ∷ cond b [] longer ≡ o ∷ cond b [] told
told_ended true o told longer again h = refl
told_ended false o told longer again h = ap (λ z. o ∷ z) (again h)

-- before a Bye, further pieces are told after the others
pub tell-append_open : (directory : Directory) (s : SnppCourse) (ps more : List (List ℕ)) → has_bye (snpp_tell directory s ps) ≡ false
    → snpp_tell directory s (ps ++ more) ≡ snpp_tell directory s ps ++ snpp_tell directory (snpp_course_at directory s ps) more
tell-append_open directory s [] more h = refl
tell-append_open directory s (p ∷ ps) more h =
    told_open (is_bye (outcome_of_piece directory s p).answer) _ _ _ _ (λ k. tell-append_open directory (course_after s (outcome_of_piece directory s p)) ps more k) h

-- after a Bye no further piece is told
pub tell-append_ended : (directory : Directory) (s : SnppCourse) (ps more : List (List ℕ)) → has_bye (snpp_tell directory s ps) ≡ true
    → snpp_tell directory s (ps ++ more) ≡ snpp_tell directory s ps
tell-append_ended directory s [] more h = absurd cc
tell-append_ended directory s (p ∷ ps) more h =
    told_ended (is_bye (outcome_of_piece directory s p).answer) _ _ _ (λ k. tell-append_ended directory (course_after s (outcome_of_piece directory s p)) ps more k) h

-- what pieces come to, front by front
pub course_at-append : (directory : Directory) (s : SnppCourse) (ps more : List (List ℕ)) → snpp_course_at directory s (ps ++ more) ≡ snpp_course_at directory (snpp_course_at directory s ps) more
course_at-append directory s [] more = refl
course_at-append directory s (p ∷ ps) more = course_at-append directory (course_after s (outcome_of_piece directory s p)) ps more

-- three tests
or_assoc : (a b c : Bool) → (a || (b || c)) ≡ ((a || b) || c)
or_assoc true b c = refl
or_assoc false b c = refl

-- a Bye in one of two lists
pub has_bye-append : (a b : List Outcome) → has_bye (a ++ b) ≡ (has_bye a || has_bye b)
has_bye-append [] b = refl
has_bye-append (o ∷ a) b = ap (λ z. is_bye o.answer || z) (has_bye-append a b) ∙ or_assoc (is_bye o.answer) (has_bye a) (has_bye b)

-- a session by whether it is too long
abbrev pub by_length : List Outcome → Bool → SnppSession
by_length told b = record { answers = outcome_answers told ++ cond b (TooLong ∷ []) []; pages = outcome_pages told }

-- two tests of which the second fails
and_false : (a b : Bool) → b ≡ false → (a && b) ≡ false
and_false true b h = h
and_false false b h = refl

-- a session of at most 999,999 characters isn't too long
pub short_settled : (told : List Outcome) (count : ℕ) → count ≤ 999999 → snpp_is_too_long told count ≡ false
short_settled told count h = and_false (not (has_bye told)) (nat_le last_character count) (grind (arith, nat_tests))

-- a session with a Bye isn't
pub ended_settled : (told : List Outcome) (count : ℕ) → has_bye told ≡ true → snpp_is_too_long told count ≡ false
ended_settled told count h = ap (λ b. not b && nat_le last_character count) h

-- a session without a Bye of more characters is
pub too_long : (told : List Outcome) (count : ℕ) → has_bye told ≡ false → 1000000 ≤ count → snpp_is_too_long told count ≡ true
too_long told count h few = let long : nat_le last_character count ≡ true = grind (arith, nat_tests) in ap (λ b. not b && nat_le last_character count) h ∙ long

-- a session whose length doesn't end it
abbrev pub sum_up : List Outcome → SnppSession
sum_up told = record { answers = outcome_answers told; pages = outcome_pages told }

-- the same session
pub settled : (told : List Outcome) (count : ℕ) → snpp_is_too_long told count ≡ false → snpp_session_of told count ≡ sum_up told
settled told count h = ap (by_length told) h ∙ ap (λ (a : List SnppAnswer). record { answers = a; pages = outcome_pages told }) (append-nil (outcome_answers told))

-- the session of at most 999,999 characters
pub short_session : (directory : Directory) (spare : ℕ) (x : List ℕ) → length x ≤ 999999 → session directory spare x ≡ sum_up (snpp_tell directory (snpp_start spare) (cut x).pieces)
short_session directory spare x h =
    ap (λ (z : List ℕ). snpp_session_of (snpp_tell directory (snpp_start spare) (cut z).pieces) (length x)) (take_all 999999 x h)
    ∙ settled (snpp_tell directory (snpp_start spare) (cut x).pieces) (length x) (short_settled (snpp_tell directory (snpp_start spare) (cut x).pieces) (length x) h)

-- the pieces of more characters
pub more_pieces : (x y : List ℕ) → (more : List (List ℕ)) × ((cut (x ++ y)).pieces ≡ (cut x).pieces ++ more)
more_pieces x y = let g = grown (cut x) y in (g.0, ap (λ (k : Cut). k.pieces) (cut_on-append uncut x y) ∙ g.1)

-- the front of a list and more
pub take_over : (n : ℕ) (x y : List ℕ) → length x ≤ n → take n (x ++ y) ≡ x ++ take (n - length x) y
take_over n x y h = let e : n ≡ length x + (n - length x) = omega arith in ap (λ k. take k (x ++ y)) e ∙ take-append-add x y (n - length x)

-- the session of more characters than x, by further pieces
record Longer (directory : Directory) (spare : ℕ) (x y : List ℕ) : Type 0 where
  more : List (List ℕ)
  session_is : session directory spare (x ++ y) ≡ snpp_session_of (snpp_tell directory (snpp_start spare) ((cut x).pieces ++ more)) (length (x ++ y))

-- where x has at most 999,999
longer : (directory : Directory) (spare : ℕ) (x y : List ℕ) → length x ≤ 999999 → Longer directory spare x y
longer directory spare x y h =
    let m = more_pieces x (take (999999 - length x) y) in record {
      more = m.0;
      session_is = ap (λ (z : List ℕ). snpp_session_of (snpp_tell directory (snpp_start spare) (cut z).pieces) (length (x ++ y))) (take_over 999999 x y h)
          ∙ ap (λ (z : List (List ℕ)). snpp_session_of (snpp_tell directory (snpp_start spare) z) (length (x ++ y))) m.1;
    }

-- a Bye ends the session
pub over_by_bye : (directory : Directory) (spare : ℕ) (x : List ℕ) → length x ≤ 999999 → has_bye (snpp_tell directory (snpp_start spare) (cut x).pieces) ≡ true → SnppIsOver directory spare x
over_by_bye directory spare x few ended y =
    let told = snpp_tell directory (snpp_start spare) (cut x).pieces in
    let l = longer directory spare x y few in
    l.session_is ∙ ap (λ (z : List Outcome). snpp_session_of z (length (x ++ y))) (tell-append_ended directory (snpp_start spare) (cut x).pieces l.more ended)
    ∙ settled told (length (x ++ y)) (ended_settled told (length (x ++ y)) ended) ∙ sym (short_session directory spare x few)

-- two lengths that are too long
same_length : (told : List Outcome) (m n : ℕ) → 1000000 ≤ m → 1000000 ≤ n → snpp_session_of told n ≡ snpp_session_of told m
same_length told m n h k =
    let a : nat_le last_character m ≡ true = grind (arith, nat_tests) in
    let b : nat_le last_character n ≡ true = grind (arith, nat_tests) in
    ap (λ z. by_length told (not (has_bye told) && z)) (b ∙ sym a)

-- after a million characters nothing is heard
pub over_by_length : (directory : Directory) (spare : ℕ) (x : List ℕ) → 1000000 ≤ length x → SnppIsOver directory spare x
over_by_length directory spare x many y =
    let long : 1000000 ≤ length (x ++ y) = simp length-append (omega (arith, many)) in
    ap (λ (z : List ℕ). snpp_session_of (snpp_tell directory (snpp_start spare) (cut z).pieces) (length (x ++ y))) (take-append-le 999999 x y (omega (arith, many)))
    ∙ same_length (told_of directory spare x) (length x) (length (x ++ y)) many long

-- the millionth character of a session without Bye
pub full_session : (directory : Directory) (spare : ℕ) (x : List ℕ) (c : ℕ) → length x ≡ 999999 → has_bye (snpp_tell directory (snpp_start spare) (cut x).pieces) ≡ false
    → session directory spare (x ++ c ∷ []) ≡ by_length (snpp_tell directory (snpp_start spare) (cut x).pieces) true
full_session directory spare x c full no_bye =
    let told = snpp_tell directory (snpp_start spare) (cut x).pieces in
    let front : take 999999 (x ++ c ∷ []) ≡ x = take-append-le 999999 x (c ∷ []) (omega (arith, full)) ∙ take_all 999999 x (omega (arith, full)) in
    let long : 1000000 ≤ length (x ++ c ∷ []) = simp length-append (omega (arith, full)) in
    ap (λ (z : List ℕ). snpp_session_of (snpp_tell directory (snpp_start spare) (cut z).pieces) (length (x ++ c ∷ []))) front
    ∙ ap (by_length told) (too_long told (length (x ++ c ∷ [])) no_bye long)

-- more was told
told_more : (told rest : List Outcome) (count : ℕ) → SnppContinues (sum_up told) (snpp_session_of (told ++ rest) count)
told_more told rest count = record {
  answers = outcome_answers rest ++ cond (snpp_is_too_long (told ++ rest) count) (TooLong ∷ []) [];
  pages = outcome_pages rest;
  answers_are = ap (λ z. z ++ cond (snpp_is_too_long (told ++ rest) count) (TooLong ∷ []) []) (map-append (λ (o : Outcome). o.answer) told rest)
      ∙ append_assoc (outcome_answers told) (outcome_answers rest) (cond (snpp_is_too_long (told ++ rest) count) (TooLong ∷ []) []);
  pages_are = flat_map-append (λ (o : Outcome). o.pages) told rest;
}

-- the same session
same : (front whole : SnppSession) → whole ≡ front → SnppContinues front whole
same front whole h = record {
  answers = [];
  pages = [];
  answers_are = ap (λ (s : SnppSession). s.answers) h ∙ sym (append-nil front.answers);
  pages_are = ap (λ (s : SnppSession). s.pages) h ∙ sym (append-nil front.pages);
}

-- the answers and the pages of a front are the first of all
pub fronts : (directory : Directory) (spare : ℕ) (x y : List ℕ) → SnppContinues (session directory spare x) (session directory spare (x ++ y))
fronts directory spare x y = by_size (cases_lt (length x) 1000000)
  where
    told : List Outcome
    told = snpp_tell directory (snpp_start spare) (cut x).pieces

    by_end : (b : Bool) → has_bye told ≡ b → length x ≤ 999999 → SnppContinues (session directory spare x) (session directory spare (x ++ y))
    by_end true e short = same _ _ (over_by_bye directory spare x short e y)
    by_end false e short =
        let l = longer directory spare x y short in
        subst (λ s. SnppContinues (session directory spare x) s) (sym (l.session_is ∙ ap (λ (z : List Outcome). snpp_session_of z (length (x ++ y))) (tell-append_open directory (snpp_start spare) (cut x).pieces l.more e)))
        (subst (λ s. SnppContinues s (snpp_session_of (told ++ snpp_tell directory (snpp_course_at directory (snpp_start spare) (cut x).pieces) l.more) (length (x ++ y)))) (sym (short_session directory spare x short))
        (told_more told (snpp_tell directory (snpp_course_at directory (snpp_start spare) (cut x).pieces) l.more) (length (x ++ y))))

    by_size : (length x < 1000000) ⊎ (1000000 ≤ length x) → SnppContinues (session directory spare x) (session directory spare (x ++ y))
    by_size (inl few) = by_end (has_bye told) refl (omega (arith, few))
    by_size (inr many) = same _ _ (over_by_length directory spare x many y)
