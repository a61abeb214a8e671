-- How a session goes on.
use Rattle.std.proofs.Common.{◌≡◌, ℕ, ◌+◌, ◌-◌, ◌≤◌, cond, Bool, true, false, not, ◌||◌, ◌&&◌, List, [], ◌∷◌, ◌++◌, length, take, refl, ap, sym, ◌∙◌, subst, append_assoc, append-nil, arith, Option, length-append, nat_le}
use Rattle.std.specs.Option.{option_to_list}
use Rattle.std.proofs.lemmas.List.{take_all, take-append-le}
use Rattle.std.proofs.lemmas.Bool.Decides.{nat_tests}
use Rattle.std.proofs.Math.Seq.{take-append-add}
use Rattle.tap_block.specs.Brief.{ScannerState, ScannerStandsFor}
use Rattle.tap_block.specs.Reading.{Entry, BeforeLogon, Reads, items_of}
use Rattle.tap_block.specs.Step.{scanner_step}
use Rattle.tap_block.proofs.Grows.{stands_on, step-password}
use Rattle.tap_block.proofs.OneReading.{at_most_one}
use Rattle.tap_terminal.specs.declared.answers.Answer.{Answer}
use Rattle.tap_terminal.specs.declared.answers.Answer.TheVariants.{End}
use Rattle.subscribers.specs.Directory.{Directory}
use Rattle.entry_line.specs.Chars.{last_character}
use Rattle.tap_terminal.specs.Session.{Course, ItemDecided, Session, start, decide, tell, has_end, is_end, is_wrong, has_wrong_end, is_too_long, answers_of, pages_of, report_of, session_of, IsSession}
use Rattle.tap_terminal.specs.State.{course_at, sum_up, IsOver}

-- told before an End and after it
told_open : (b : Bool) (t : ItemDecided) (told longer more : List ItemDecided) → (has_end told ≡ false → longer ≡ told ++ more)
    → (b || has_end (cond b [] told)) ≡ false → t ∷ cond b [] longer ≡ (t ∷ cond b [] told) ++ more
told_open true t told longer more again h = absurd cc
told_open false t told longer more again h = ap (λ z. t ∷ z) (again h)

-- an End is told last
told_ended : (b : Bool) (t : ItemDecided) (told longer : List ItemDecided) → (has_end told ≡ true → longer ≡ told)
    → (b || has_end (cond b [] told)) ≡ true → t ∷ cond b [] longer ≡ t ∷ cond b [] told
told_ended true t told longer again h = refl
told_ended false t told longer again h = ap (λ z. t ∷ z) (again h)

-- before an End, further items are told after the others
pub tell-append_open : (directory : Directory) (s : Course) (items more : List Entry) → has_end (tell directory s items) ≡ false
    → tell directory s (items ++ more) ≡ tell directory s items ++ tell directory (course_at directory s items) more
tell-append_open directory s [] more h = refl
tell-append_open directory s (e ∷ es) more h =
    told_open (is_end (decide directory s e).told.answer) _ _ _ _ (λ k. tell-append_open directory (decide directory s e).course es more k) h

-- after an End no further item is told
pub tell-append_ended : (directory : Directory) (s : Course) (items more : List Entry) → has_end (tell directory s items) ≡ true
    → tell directory s (items ++ more) ≡ tell directory s items
tell-append_ended directory s [] more h = absurd cc
tell-append_ended directory s (e ∷ es) more h =
    told_ended (is_end (decide directory s e).told.answer) _ _ _ (λ k. tell-append_ended directory (decide directory s e).course es more k) h

-- what items come to, front by front
pub course_at-append : (directory : Directory) (s : Course) (items more : List Entry) → course_at directory s (items ++ more) ≡ course_at directory (course_at directory s items) more
course_at-append directory s [] more = refl
course_at-append directory s (e ∷ es) more = course_at-append directory (decide directory s e).course es more

-- three tests
or_assoc : (a b c : Bool) → (a || (b || c)) ≡ ((a || b) || c)
or_assoc true b c = refl
or_assoc false b c = refl

-- an End in one of two lists
pub has_end-append : (a b : List ItemDecided) → has_end (a ++ b) ≡ (has_end a || has_end b)
has_end-append [] b = refl
has_end-append (t ∷ a) b = ap (λ z. is_end t.answer || z) (has_end-append a b) ∙ or_assoc (is_end t.answer) (has_end a) (has_end b)

-- the End of a wrong line in one of two lists
pub has_wrong_end-append : (a b : List ItemDecided) → has_wrong_end (a ++ b) ≡ (has_wrong_end a || has_wrong_end b)
has_wrong_end-append [] b = refl
has_wrong_end-append (t ∷ a) b = ap (λ z. (is_wrong t.item && is_end t.answer) || z) (has_wrong_end-append a b) ∙ or_assoc (is_wrong t.item && is_end t.answer) (has_wrong_end a) (has_wrong_end b)

-- one told without End
no_wrong_by : (w e f g : Bool) → (e || f) ≡ false → (f ≡ false → g ≡ false) → ((w && e) || g) ≡ false
no_wrong_by w true f g h k = absurd cc
no_wrong_by true false f g h k = k h
no_wrong_by false false f g h k = k h

-- where no End is, no wrong line was answered End
pub no_wrong_end : (told : List ItemDecided) → has_end told ≡ false → has_wrong_end told ≡ false
no_wrong_end [] h = refl
no_wrong_end (t ∷ told) h = no_wrong_by (is_wrong t.item) (is_end t.answer) (has_end told) (has_wrong_end told) h (λ k. no_wrong_end told k)

-- a session by whether it is too long
abbrev pub by_length : List ItemDecided → Bool → Session
by_length told b = record {
  answers = answers_of told ++ cond b (End ∷ []) [];
  pages = pages_of told;
  report = report_of told;
  forced = has_wrong_end told || b;
}

-- one test or none
or_false : (b : Bool) → (b || false) ≡ b
or_false true = refl
or_false false = refl

-- two facts on a session
same_session : (told : List ItemDecided) (a : List Answer) (f : Bool) → a ≡ answers_of told → f ≡ has_wrong_end told
    → ◌≡◌ {A = Session} (record { answers = a; pages = pages_of told; report = report_of told; forced = f }) (sum_up told)
same_session told a f h k = rw (h, k) refl

-- a session that isn't too long
pub settled : (told : List ItemDecided) (count : ℕ) → is_too_long told count ≡ false → session_of told count ≡ sum_up told
settled told count h = ap (by_length told) h ∙ same_session told _ _ (append-nil (answers_of told)) (or_false (has_wrong_end told))

-- a session with an End isn't too long
pub ended_settled : (told : List ItemDecided) (count : ℕ) → has_end told ≡ true → is_too_long told count ≡ false
ended_settled told count h = ap (λ b. not b && nat_le last_character count) h

-- two tests of which the second fails
and_false : (a b : Bool) → b ≡ false → (a && b) ≡ false
and_false true b h = h
and_false false b h = refl

-- a session of at most 999,999 characters isn't too long
pub short_settled : (told : List ItemDecided) (count : ℕ) → count ≤ 999999 → is_too_long told count ≡ false
short_settled told count h = and_false (not (has_end told)) (nat_le last_character count) (grind (arith, nat_tests))

-- a session without End of more characters is too long
pub too_long : (told : List ItemDecided) (count : ℕ) → has_end told ≡ false → 1000000 ≤ count → is_too_long told count ≡ true
too_long told count h few = let long : nat_le last_character count ≡ true = grind (arith, nat_tests) in ap (λ b. not b && nat_le last_character count) h ∙ long

-- a scanner that stands for x stands for more after more characters
pub record Extended (s : ScannerState) (x y : List ℕ) (items : List Entry) : Type 0 where
  pub new : ScannerState
  pub more : List Entry
  pub stands : ScannerStandsFor BeforeLogon new (x ++ y) (items ++ more)
  pub password_is : new.password ≡ s.password

-- fed with these characters
pub extend : (y : List ℕ) (s : ScannerState) (x : List ℕ) (items : List Entry) → ScannerStandsFor BeforeLogon s x items → Extended s x y items
extend [] s x items h = record {
  new = s;
  more = [];
  stands = subst (λ (z : List ℕ). ScannerStandsFor BeforeLogon s z (items ++ [])) (sym (append-nil x)) (subst (λ (z : List Entry). ScannerStandsFor BeforeLogon s x z) (sym (append-nil items)) h);
  password_is = refl;
}
extend (c ∷ y) s x items h =
    let k = stands_on BeforeLogon s x items c h in
    let e = extend y (scanner_step s c).held (x ++ c ∷ []) (items ++ option_to_list k.further) k.stands in
    record {
      new = e.new;
      more = option_to_list k.further ++ e.more;
      stands = subst (λ (z : List ℕ). ScannerStandsFor BeforeLogon e.new z (items ++ (option_to_list k.further ++ e.more))) (append_assoc x (c ∷ []) y)
          (subst (λ (z : List Entry). ScannerStandsFor BeforeLogon e.new ((x ++ c ∷ []) ++ y) z) (append_assoc items (option_to_list k.further) e.more) e.stands);
      password_is = e.password_is ∙ step-password s c;
    }

-- the session of a list by the items of its front
pub session_from : (password : Option (List ℕ)) (directory : Directory) (spare : ℕ) (s : ScannerState) (x z : List ℕ) (items : List Entry) → ScannerStandsFor BeforeLogon s z items
    → s.password ≡ password → take 999999 x ≡ z
    → IsSession password directory spare x (session_of (tell directory (start spare) items) (length x))
session_from password directory spare s x z items h e f =
    subst (λ w. IsSession w directory spare x (session_of (tell directory (start spare) items) (length x))) e (record {
      pieces = h.pieces;
      rest = h.rest;
      reads = subst (λ w. Reads s.password BeforeLogon h.pieces h.rest w) (sym f) h.reads;
      session_is = ap (λ w. session_of (tell directory (start spare) w) (length x)) h.items_are;
    })

-- the front of a list and more
pub take_over : (n : ℕ) (x y : List ℕ) → length x ≤ n → take n (x ++ y) ≡ x ++ take (n - length x) y
take_over n x y h = let e : n ≡ length x + (n - length x) = omega arith in ap (λ k. take k (x ++ y)) e ∙ take-append-add x y (n - length x)

-- an End among the items ends the session
pub over_by_end : (password : Option (List ℕ)) (directory : Directory) (spare : ℕ) (s : ScannerState) (x : List ℕ) (items : List Entry) → ScannerStandsFor BeforeLogon s x items
    → s.password ≡ password → length x ≤ 999999 → has_end (tell directory (start spare) items) ≡ true
    → IsOver password directory spare x (sum_up (tell directory (start spare) items))
over_by_end password directory spare s x items h e few ended y =
    let k = extend (take (999999 - length x) y) s x items h in
    let f : tell directory (start spare) (items ++ k.more) ≡ tell directory (start spare) items = tell-append_ended directory (start spare) items k.more ended in
    let g = session_from password directory spare k.new (x ++ y) (x ++ take (999999 - length x) y) (items ++ k.more) k.stands (k.password_is ∙ e) (take_over 999999 x y few) in
    let r : session_of (tell directory (start spare) (items ++ k.more)) (length (x ++ y)) ≡ sum_up (tell directory (start spare) items) =
    ap (λ w. session_of w (length (x ++ y))) f ∙ settled (tell directory (start spare) items) (length (x ++ y)) (ended_settled (tell directory (start spare) items) (length (x ++ y)) ended) in
    subst (λ w. IsSession password directory spare (x ++ y) w) r g

-- a session that the length ended
abbrev pub cut_off : List ItemDecided → Session
cut_off told = by_length told true

-- the millionth character ends it
pub over_by_length : (password : Option (List ℕ)) (directory : Directory) (spare : ℕ) (s : ScannerState) (x : List ℕ) (items : List Entry) (c : ℕ) → ScannerStandsFor BeforeLogon s x items
    → s.password ≡ password → length x ≡ 999999 → has_end (tell directory (start spare) items) ≡ false
    → IsOver password directory spare (x ++ c ∷ []) (cut_off (tell directory (start spare) items))
over_by_length password directory spare s x items c h e full open_ y =
    let f : take 999999 ((x ++ c ∷ []) ++ y) ≡ x = ap (take 999999) (append_assoc x (c ∷ []) y) ∙ take-append-le 999999 x ((c ∷ []) ++ y) (omega arith) ∙ take_all 999999 x (omega arith) in
    let long : 1000000 ≤ length ((x ++ c ∷ []) ++ y) = simp (length-append, length-append) (omega (arith, full)) in
    subst (λ w. IsSession password directory spare ((x ++ c ∷ []) ++ y) w) (ap (by_length (tell directory (start spare) items)) (too_long (tell directory (start spare) items) (length ((x ++ c ∷ []) ++ y)) open_ long))
    (session_from password directory spare s ((x ++ c ∷ []) ++ y) x items h e f)

-- a list has one session
pub one_session : (password : Option (List ℕ)) (directory : Directory) (spare : ℕ) (x : List ℕ) (a b : Session)
    → IsSession password directory spare x a → IsSession password directory spare x b → a ≡ b
one_session password directory spare x a b h k =
    h.session_is ∙ ap (λ w. session_of (tell directory (start spare) (items_of password w)) (length x)) (at_most_one password BeforeLogon h.pieces k.pieces h.rest k.rest (take 999999 x) h.reads k.reads).0 ∙ sym k.session_is
