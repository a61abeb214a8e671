-- One character further in a session.
use Rattle.std.proofs.Common.{◌≡◌, ℕ, ◌+◌, ◌-◌, ◌<◌, ◌≤◌, ◌==◌, cond, Bool, true, false, ◌||◌, List, [], ◌∷◌, ◌++◌, length, refl, ap, sym, ◌∙◌, subst, append_assoc, append-nil, arith, length-append}
use Rattle.std.specs.Prelude.{count_by}
use Rattle.std.proofs.lemmas.List.Sums.{sum_by-append}
use Rattle.std.proofs.lemmas.Grind.{flat_map-append}
use Rattle.std.proofs.lemmas.List.{map-append}
use Rattle.page_text.specs.Page.{Page}
use Rattle.page_pool.specs.Pool.{Pool}
use Rattle.snpp_entry.specs.declared.answers.SnppAnswer.{SnppAnswer}
use Rattle.snpp_entry.specs.declared.answers.SnppAnswer.TheVariants.{Nothing, Ok, Bye, TooLong, Command, Twice, Missing, Pager, Text, Room}
use Rattle.snpp_entry.specs.declared.report.SnppReport.{SnppReport}
use Rattle.snpp_entry.specs.Lines.{Cut, cut, without_cr}
use Rattle.subscribers.specs.Directory.{Directory}
use Rattle.snpp_entry.specs.Rows.{Pending, Outcome, outcome}
use Rattle.snpp_entry.specs.Reports.{snpp_report_of, snpp_added, is_refusal}
use Rattle.snpp_entry.specs.Session.{SnppCourse, SnppSession, session, snpp_start, outcome_of_piece, course_after, is_bye, snpp_tell, has_bye, outcome_answers, outcome_pages}
use Rattle.entry_line.specs.Kept.{push_within, count_within}
use Rattle.snpp_entry.specs.State.{SnppState, snpp_course_at, AreKept, SnppIsOpenAt, SnppIsOver, SnppStandsAt, SnppStands, SnppHearsOn, IsOutcomeDone, snpp_said}
use Rattle.snpp_entry.proofs.Pieces.{kept_more, cut-lf, cut-other}
use Rattle.page_pool.proofs.Gains.{gains_left}
use Rattle.snpp_entry.proofs.Outcomes.{usual}
use Rattle.snpp_entry.proofs.Sessions.{tell-append_open, course_at-append, has_bye-append, sum_up, by_length, short_session, over_by_bye, over_by_length, full_session}

-- how many of two lists
count_by-append : {X : Type 0} (p : X → Bool) (xs ys : List X) → count_by p (xs ++ ys) ≡ count_by p xs + count_by p ys
count_by-append p xs ys = sum_by-append (λ x. cond (p x) 1 0) xs ys

-- reports by their numbers
same_report : (m n j k : ℕ) → m ≡ n → j ≡ k → ◌≡◌ {A = SnppReport} (record { pages = m; refused = j }) (record { pages = n; refused = k })
same_report m n j k h e = rw (h, e) refl

-- one answer more
pub report_of-push : (answers : List SnppAnswer) (pages : List Page) (answer : SnppAnswer) (more : List Page)
    → snpp_report_of (answers ++ answer ∷ []) (pages ++ more) ≡ snpp_added (snpp_report_of answers pages) answer (length more)
report_of-push answers pages answer more =
    same_report _ _ _ _ (length-append pages more) (count_by-append is_refusal answers (answer ∷ []) ∙ ap (λ n. count_by is_refusal answers + n) (one answer))
  where
    one : (a : SnppAnswer) → count_by is_refusal (a ∷ []) ≡ cond (is_refusal a) 1 0
    one Nothing = refl
    one Ok = refl
    one Bye = refl
    one TooLong = refl
    one Command = refl
    one Twice = refl
    one Missing = refl
    one Pager = refl
    one Text = refl
    one Room = refl

-- TooLong isn't counted
uncounted : (r : SnppReport) → snpp_added r TooLong 0 ≡ r
uncounted r = same_report _ _ _ _ (omega arith) (omega arith)

-- what an open Snpp stands for
open_of : (directory : Directory) (spare : ℕ) (t : SnppState) (x : List ℕ) (left : ℕ) → t.over ≡ false → SnppStands directory spare t x left → SnppIsOpenAt directory spare t x left
open_of directory spare t x left h k = subst (λ b. SnppStandsAt b directory spare t x left) h k.at_end

-- a session that is over
over_of : (directory : Directory) (spare : ℕ) (t : SnppState) (x : List ℕ) (left : ℕ) → t.over ≡ true → SnppStands directory spare t x left → SnppIsOver directory spare x
over_of directory spare t x left h k = subst (λ b. SnppStandsAt b directory spare t x left) h k.at_end

-- once over, a character changes nothing
pub closed_on : (directory : Directory) (spare : ℕ) (t : SnppState) (x : List ℕ) (c : ℕ) (pool : Pool) → t.over ≡ true → SnppStands directory spare t x pool.spare
    → SnppHearsOn directory spare t x c Nothing pool pool
closed_on directory spare t x c pool h k =
    let over = over_of directory spare t x pool.spare h k in
    let same = over (c ∷ []) in
    record {
      gained = [];
      stands = record {
        at_end = subst (λ b. SnppStandsAt b directory spare t (x ++ c ∷ []) pool.spare) (sym h) (λ y. ap (session directory spare) (append_assoc x (c ∷ []) y) ∙ over (c ∷ y) ∙ sym same);
        report_is = k.report_is ∙ ap (λ (s : SnppSession). snpp_report_of s.answers s.pages) (sym same);
      };
      answers_are = ap (λ (s : SnppSession). s.answers) same ∙ sym (append-nil (session directory spare x).answers);
      pages_are = ap (λ (s : SnppSession). s.pages) same ∙ sym (append-nil (session directory spare x).pages);
      pool = refl;
    }

-- the millionth character
pub full_on : (directory : Directory) (spare : ℕ) (t new : SnppState) (x : List ℕ) (c : ℕ) (pool : Pool) → t.over ≡ false → t.heard ≡ 999999 → new.over ≡ true → new.report ≡ t.report
    → SnppStands directory spare t x pool.spare → SnppHearsOn directory spare new x c TooLong pool pool
full_on directory spare t new x c pool h full over report k =
    let o = open_of directory spare t x pool.spare h k in
    let size : length x ≡ 999999 = sym o.heard ∙ full in
    let told = snpp_tell directory (snpp_start spare) (cut x).pieces in
    let before : session directory spare x ≡ sum_up told = short_session directory spare x o.few in
    let then : session directory spare (x ++ c ∷ []) ≡ by_length told true = full_session directory spare x c size o.no_bye in
    record {
      gained = [];
      stands = record {
        at_end = subst (λ b. SnppStandsAt b directory spare new (x ++ c ∷ []) pool.spare) (sym over) (over_by_length directory spare (x ++ c ∷ []) (simp length-append (omega (arith, size))));
        report_is = report ∙ k.report_is ∙ ap (λ (s : SnppSession). snpp_report_of s.answers s.pages) before
            ∙ sym (ap (λ (s : SnppSession). snpp_report_of s.answers s.pages) then ∙ ap (snpp_report_of (outcome_answers told ++ TooLong ∷ [])) (sym (append-nil (outcome_pages told)))
            ∙ report_of-push (outcome_answers told) (outcome_pages told) TooLong [] ∙ uncounted (snpp_report_of (outcome_answers told) (outcome_pages told)));
      };
      answers_are = ap (λ (s : SnppSession). s.answers) then ∙ ap (λ (s : SnppSession). s.answers ++ TooLong ∷ []) (sym before);
      pages_are = ap (λ (s : SnppSession). s.pages) then ∙ ap (λ (s : SnppSession). s.pages) (sym before) ∙ sym (append-nil (session directory spare x).pages);
      pool = refl;
    }

-- a character that ends no line
pub quiet_on : (directory : Directory) (spare : ℕ) (t new : SnppState) (x : List ℕ) (c : ℕ) (pool : Pool) → t.over ≡ false → t.heard < 999999 → (c == 10) ≡ false
    → new.heard ≡ t.heard + 1 → new.pending ≡ t.pending → new.report ≡ t.report → new.over ≡ false → new.kept ≡ push_within 1101 t.kept c → new.count ≡ count_within 1102 t.count
    → SnppStands directory spare t x pool.spare → SnppHearsOn directory spare new x c Nothing pool pool
quiet_on directory spare t new x c pool h few other heard pending report over kept count k =
    let o = open_of directory spare t x pool.spare h k in
    let short : length (x ++ c ∷ []) ≤ 999999 = (let e = o.heard in simp length-append (omega (arith, e, few))) in
    let cut_is = cut-other x c other in
    let pieces_are : (cut (x ++ c ∷ [])).pieces ≡ (cut x).pieces = ap (λ (k : Cut). k.pieces) cut_is in
    let same : session directory spare (x ++ c ∷ []) ≡ session directory spare x =
    short_session directory spare (x ++ c ∷ []) short ∙ ap (λ (z : List (List ℕ)). sum_up (snpp_tell directory (snpp_start spare) z)) pieces_are ∙ sym (short_session directory spare x o.few) in
    let more = kept_more (cut x).rest t.kept t.count c o.kept in
    record {
      gained = [];
      stands = record {
        at_end = subst (λ b. SnppStandsAt b directory spare new (x ++ c ∷ []) pool.spare) (sym over) (record {
          heard = heard ∙ (let e = o.heard in simp length-append (omega arith));
          few = short;
          kept = record {
            kept_are = kept ∙ more.kept_are ∙ ap (λ (k : Cut). Rattle.std.proofs.Common.take 1101 k.rest) (sym cut_is);
            count_is = count ∙ more.count_is ∙ ap (λ (k : Cut). Rattle.std.proofs.Common.min (length k.rest) 1102) (sym cut_is);
          };
          no_bye = ap (λ (z : List (List ℕ)). has_bye (snpp_tell directory (snpp_start spare) z)) pieces_are ∙ o.no_bye;
          course = ap (snpp_course_at directory (snpp_start spare)) pieces_are ∙ o.course ∙ ap (λ (p : Pending). record { pending = p; spare = pool.spare }) (sym pending);
        });
        report_is = report ∙ k.report_is ∙ ap (λ (s : SnppSession). snpp_report_of s.answers s.pages) (sym same);
      };
      answers_are = ap (λ (s : SnppSession). s.answers) same ∙ sym (append-nil (session directory spare x).answers);
      pages_are = ap (λ (s : SnppSession). s.pages) same ∙ sym (append-nil (session directory spare x).pages);
      pool = refl;
    }

-- what is told of one piece
told_one : (directory : Directory) (s : SnppCourse) (piece : List ℕ) → snpp_tell directory s (piece ∷ []) ≡ outcome_of_piece directory s piece ∷ []
told_one directory s piece = ap (λ z. outcome_of_piece directory s piece ∷ z) (either (is_bye (outcome_of_piece directory s piece).answer))
  where
    either : (b : Bool) → cond b (let z : List Outcome = [] in z) [] ≡ []
    either true = refl
    either false = refl

-- one test or none
or_false : (b : Bool) → (b || false) ≡ b
or_false true = refl
or_false false = refl

-- One line further: what is told, and where it comes to.
record Further (directory : Directory) (spare : ℕ) (x : List ℕ) (c : ℕ) (o : Outcome) (s : SnppCourse) : Type 0 where
  told_is : snpp_tell directory (snpp_start spare) (cut (x ++ c ∷ [])).pieces ≡ snpp_tell directory (snpp_start spare) (cut x).pieces ++ o ∷ []
  bye_is : has_bye (snpp_tell directory (snpp_start spare) (cut (x ++ c ∷ [])).pieces) ≡ is_bye o.answer
  course_is : snpp_course_at directory (snpp_start spare) (cut (x ++ c ∷ [])).pieces ≡ course_after s o
  rest_is : (cut (x ++ c ∷ [])).rest ≡ []

-- an LF
further : (directory : Directory) (spare : ℕ) (x : List ℕ) (c : ℕ) (s : SnppCourse) → (c == 10) ≡ true → has_bye (snpp_tell directory (snpp_start spare) (cut x).pieces) ≡ false
    → snpp_course_at directory (snpp_start spare) (cut x).pieces ≡ s → Further directory spare x c (outcome_of_piece directory s (cut x).rest) s
further directory spare x c s lf no_bye course =
    let cut_is = cut-lf x c lf in
    let told = snpp_tell directory (snpp_start spare) (cut x).pieces in
    let told_is : snpp_tell directory (snpp_start spare) (cut (x ++ c ∷ [])).pieces ≡ told ++ outcome_of_piece directory s (cut x).rest ∷ [] =
    ap (λ (k : Cut). snpp_tell directory (snpp_start spare) k.pieces) cut_is ∙ tell-append_open directory (snpp_start spare) (cut x).pieces ((cut x).rest ∷ []) no_bye
    ∙ ap (λ z. told ++ z) (told_one directory (snpp_course_at directory (snpp_start spare) (cut x).pieces) (cut x).rest ∙ ap (λ (s : SnppCourse). outcome_of_piece directory s (cut x).rest ∷ []) course) in
    record {
      told_is = told_is;
      bye_is = ap has_bye told_is ∙ has_bye-append told (outcome_of_piece directory s (cut x).rest ∷ []) ∙ ap (λ b. b || (is_bye (outcome_of_piece directory s (cut x).rest).answer || false)) no_bye ∙ or_false _;
      course_is = ap (λ (k : Cut). snpp_course_at directory (snpp_start spare) k.pieces) cut_is ∙ course_at-append directory (snpp_start spare) (cut x).pieces ((cut x).rest ∷ [])
          ∙ ap (λ (s : SnppCourse). course_after s (outcome_of_piece directory s (cut x).rest)) course;
      rest_is = ap (λ (k : Cut). k.rest) cut_is;
    }

-- a character that ends a line
pub line_on : (directory : Directory) (spare : ℕ) (t new : SnppState) (x : List ℕ) (c : ℕ) (answer : SnppAnswer) (count : ℕ) (before after : Pool)
    → t.over ≡ false → t.heard < 999999 → (c == 10) ≡ true
    → new.heard ≡ t.heard + 1 → new.kept ≡ [] → new.count ≡ 0 → new.over ≡ is_bye answer → new.report ≡ snpp_added t.report answer count
    → ((piece : List ℕ) → AreKept piece t.kept t.count → IsOutcomeDone (outcome directory before.spare t.pending (without_cr piece)) answer count new.pending before after)
    → SnppStands directory spare t x before.spare → SnppHearsOn directory spare new x c answer before after
line_on directory spare t new x c answer count before after h few lf heard kept none over report done k =
    let o = open_of directory spare t x before.spare h k in
    let short : length (x ++ c ∷ []) ≤ 999999 = (let e = o.heard in simp length-append (omega (arith, e, few))) in
    let s : SnppCourse = record { pending = t.pending; spare = before.spare } in
    let piece = (cut x).rest in
    let d : Outcome = outcome directory before.spare t.pending (without_cr piece) in
    let j = done piece o.kept in
    let f : Further directory spare x c d s = further directory spare x c s lf o.no_bye o.course in
    let told = snpp_tell directory (snpp_start spare) (cut x).pieces in
    let now : session directory spare x ≡ sum_up told = short_session directory spare x o.few in
    let then : session directory spare (x ++ c ∷ []) ≡ sum_up (told ++ d ∷ []) = short_session directory spare (x ++ c ∷ []) short ∙ ap sum_up f.told_is in
    let answers_then : outcome_answers (told ++ d ∷ []) ≡ outcome_answers told ++ answer ∷ [] = map-append (λ (o : Outcome). o.answer) told (d ∷ []) ∙ ap (λ a. outcome_answers told ++ a ∷ []) (sym j.answer_is) in
    let pages_then : outcome_pages (told ++ d ∷ []) ≡ outcome_pages told ++ d.pages = flat_map-append (λ (o : Outcome). o.pages) told (d ∷ []) ∙ ap (λ z. outcome_pages told ++ z) (append-nil d.pages) in
    let said_is : snpp_said answer ≡ answer ∷ [] = ap snpp_said j.answer_is ∙ (usual directory before.spare t.pending (without_cr piece)).is_said ∙ ap (λ a. a ∷ []) (sym j.answer_is) in
    record {
      gained = d.pages;
      stands = record {
        at_end = subst (λ b. SnppStandsAt b directory spare new (x ++ c ∷ []) after.spare) (sym over) (at_end (is_bye answer) o j f short (f.bye_is ∙ ap is_bye (sym j.answer_is)));
        report_is = report ∙ ap (λ (r : SnppReport). snpp_added r answer count) (k.report_is ∙ ap (λ (s : SnppSession). snpp_report_of s.answers s.pages) now)
            ∙ ap (snpp_added (snpp_report_of (outcome_answers told) (outcome_pages told)) answer) j.count_is
            ∙ sym (ap (λ (s : SnppSession). snpp_report_of s.answers s.pages) then ∙ ap (λ a. snpp_report_of a (outcome_pages (told ++ d ∷ []))) answers_then ∙ ap (snpp_report_of (outcome_answers told ++ answer ∷ [])) pages_then
            ∙ report_of-push (outcome_answers told) (outcome_pages told) answer d.pages);
      };
      answers_are = ap (λ (s : SnppSession). s.answers) then ∙ answers_then ∙ ap (λ z. outcome_answers told ++ z) (sym said_is) ∙ ap (λ (s : SnppSession). s.answers ++ snpp_said answer) (sym now);
      pages_are = ap (λ (s : SnppSession). s.pages) then ∙ pages_then ∙ ap (λ (s : SnppSession). s.pages ++ d.pages) (sym now);
      pool = j.pool;
    }
  where
    at_end : (b : Bool) → SnppIsOpenAt directory spare t x before.spare → IsOutcomeDone (outcome directory before.spare t.pending (without_cr (cut x).rest)) answer count new.pending before after
        → Further directory spare x c (outcome directory before.spare t.pending (without_cr (cut x).rest)) (record { pending = t.pending; spare = before.spare })
        → length (x ++ c ∷ []) ≤ 999999
        → has_bye (snpp_tell directory (snpp_start spare) (cut (x ++ c ∷ [])).pieces) ≡ b → SnppStandsAt b directory spare new (x ++ c ∷ []) after.spare
    at_end true o j f short bye = over_by_bye directory spare (x ++ c ∷ []) short bye
    at_end false o j f short bye = record {
      heard = heard ∙ (let e = o.heard in simp length-append (omega arith));
      few = short;
      kept = record {
        kept_are = kept ∙ ap (Rattle.std.proofs.Common.take 1101) (sym f.rest_is);
        count_is = none ∙ ap (λ (r : List ℕ). Rattle.std.proofs.Common.min (length r) 1102) (sym f.rest_is);
      };
      no_bye = bye;
      course = f.course_is ∙ rw (j.pending_is, gains_left before after _ j.pool) refl;
    }
