-- One character further in a session.
use Rattle.std.proofs.Common.{◌≡◌, ℕ, ◌+◌, ◌<◌, ◌≤◌, cond, Bool, true, false, not, ◌||◌, ◌&&◌, List, [], ◌∷◌, ◌++◌, length, map, refl, ap, sym, ◌∙◌, subst, append_assoc, append-nil, arith, Option, Some, None, length-append, ◌⊎◌, inl, inr}
use Rattle.std.specs.List.{flat_map}
use Rattle.std.specs.Option.{option_to_list, option_map}
use Rattle.std.proofs.lemmas.List.Concat.{flat_map-append}
use Rattle.std.proofs.lemmas.List.{map-append, take_all}
use Rattle.page_text.specs.Page.{Page}
use Rattle.page_pool.specs.Pool.{Pool}
use Rattle.tap_block.specs.declared.items.Item.{Item}
use Rattle.tap_block.specs.Brief.{ScannerState, ScannerStandsFor, ReadsOn, answer_of, BodyIs}
use Rattle.tap_block.specs.Reading.{Entry, empty_line, logon, wrong_line, a_block, a_bye, BeforeLogon}
use Rattle.tap_terminal.specs.declared.answers.Answer.{Answer}
use Rattle.tap_terminal.specs.declared.answers.Answer.TheVariants.{Nothing, End}
use Rattle.tap_terminal.specs.declared.answers.Judgement.{Judgement}
use Rattle.tap_terminal.specs.declared.report.Report.{Report}
use Rattle.tap_terminal.specs.declared.terminal.Stage.{Stage}
use Rattle.tap_terminal.specs.declared.terminal.Stage.TheVariants.{Open, Ended, Forced}
use Rattle.tap_terminal.specs.Reports.{Counter, counter_of, counters_of, counts, added_pages}
use Rattle.subscribers.specs.Directory.{Directory}
use Rattle.tap_terminal.specs.Session.{Course, ItemDecided, Session, start, decide, tell, has_end, has_wrong_end, is_end, is_wrong, answers_of, pages_of, report_of, IsSession}
use Rattle.tap_terminal.specs.State.{TerminalState, course_at, course_of, sum_up, IsOpenAt, IsOver, StandsAt, Stands, HearsOn, IsItemJudged, KeepsSession, said, is_open, is_forced, stage_after}
use Rattle.tap_terminal.proofs.Reports.{counts-push_all}
use Rattle.tap_terminal.proofs.Verdicts.{item_said}
use Rattle.tap_terminal.proofs.Sessions.{tell-append_open, course_at-append, has_end-append, has_wrong_end-append, no_wrong_end, settled, short_settled, cut_off, over_by_end, over_by_length, session_from}

-- a session that is over, at its stage
over_at : (st : Stage) (password : Option (List ℕ)) (directory : Directory) (spare : ℕ) (t : TerminalState) (x : List ℕ) (session : Session) (left : ℕ)
    → is_open st ≡ false → IsOver password directory spare x session → StandsAt st password directory spare t x session left
over_at Open password directory spare t x session left h k = absurd cc
over_at Ended password directory spare t x session left h k = k
over_at Forced password directory spare t x session left h k = k

-- a closed stage is that of a session that is over
at_over : (st : Stage) (password : Option (List ℕ)) (directory : Directory) (spare : ℕ) (t : TerminalState) (x : List ℕ) (session : Session) (left : ℕ)
    → is_open st ≡ false → StandsAt st password directory spare t x session left → IsOver password directory spare x session
at_over Open password directory spare t x session left h k = absurd cc
at_over Ended password directory spare t x session left h k = k
at_over Forced password directory spare t x session left h k = k

-- both closed stages
pub closed_stage : (st : Stage) → (st ≡ Ended) ⊎ (st ≡ Forced) → is_open st ≡ false
closed_stage st (inl h) = ap is_open h
closed_stage st (inr h) = ap is_open h

-- once over, a character changes nothing
pub closed_on : (password : Option (List ℕ)) (directory : Directory) (spare : ℕ) (t : TerminalState) (x : List ℕ) (c : ℕ) (session : Session) (pool : Pool)
    → is_open t.stage ≡ false → Stands password directory spare t x session pool.spare
    → HearsOn password directory spare t x c session Nothing pool pool
closed_on password directory spare t x c session pool h k = record {
  longer = session;
  gained = [];
  stands = record { at_stage = over_at t.stage password directory spare t (x ++ c ∷ []) session pool.spare h longer; report_is = k.report_is; forced_is = k.forced_is };
  answers_are = sym (append-nil session.answers);
  pages_are = sym (append-nil session.pages);
  pool = refl;
} where
  longer : IsOver password directory spare (x ++ c ∷ []) session
  longer y = subst (λ z. IsSession password directory spare z session) (sym (append_assoc x (c ∷ []) y)) (at_over t.stage password directory spare t x session pool.spare h k.at_stage (c ∷ y))

-- what an open terminal stands for
open_of : (password : Option (List ℕ)) (directory : Directory) (spare : ℕ) (t : TerminalState) (x : List ℕ) (session : Session) (left : ℕ)
    → t.stage ≡ Open → Stands password directory spare t x session left → IsOpenAt password directory spare t x session left
open_of password directory spare t x session left h k = subst (λ st. StandsAt st password directory spare t x session left) h k.at_stage

-- one test holds
or_true : (b : Bool) → (b || true) ≡ true
or_true true = refl
or_true false = refl

-- the millionth character
pub full_on : (password : Option (List ℕ)) (directory : Directory) (spare : ℕ) (t new : TerminalState) (x : List ℕ) (c : ℕ) (session : Session) (pool : Pool)
    → t.stage ≡ Open → t.heard ≡ 999999 → new.stage ≡ Forced → new.report ≡ t.report → Stands password directory spare t x session pool.spare
    → HearsOn password directory spare new x c session End pool pool
full_on password directory spare t new x c session pool h e f r k =
    let o = open_of password directory spare t x session pool.spare h k in
    let told = tell directory (start spare) o.items in
    record {
      longer = cut_off told;
      gained = [];
      stands = record {
        at_stage = over_at new.stage password directory spare new (x ++ c ∷ []) (cut_off told) pool.spare (ap is_open f)
            (over_by_length password directory spare t.scanner x o.items c o.scanner o.password_is (sym o.heard ∙ e) o.no_end);
        report_is = r ∙ k.report_is ∙ ap (λ (z : Session). z.report) o.session_is;
        forced_is = ap is_forced f ∙ sym (or_true (has_wrong_end told));
      };
      answers_are = ap (λ (z : Session). z.answers ++ End ∷ []) (sym o.session_is);
      pages_are = ap (λ (z : Session). z.pages) (sym o.session_is) ∙ sym (append-nil session.pages);
      pool = refl;
    }

-- a character that completes nothing
pub quiet_on : (password : Option (List ℕ)) (directory : Directory) (spare : ℕ) (t new : TerminalState) (x : List ℕ) (c : ℕ) (session : Session) (pool : Pool)
    → t.stage ≡ Open → t.heard < 999999 → new.heard ≡ t.heard + 1 → new.joined ≡ t.joined → new.wrong ≡ t.wrong → new.report ≡ t.report → new.stage ≡ Open
    → new.scanner.password ≡ t.scanner.password
    → ((items : List Entry) → ScannerStandsFor BeforeLogon t.scanner x items → ReadsOn BeforeLogon new.scanner x items c None)
    → Stands password directory spare t x session pool.spare
    → HearsOn password directory spare new x c session Nothing pool pool
quiet_on password directory spare t new x c session pool h few heard joined wrong report stage same reads k =
    let o = open_of password directory spare t x session pool.spare h k in
    let r = reads o.items o.scanner in
    record {
      longer = session;
      gained = [];
      stands = record {
        at_stage = subst (λ st. StandsAt st password directory spare new (x ++ c ∷ []) session pool.spare) (sym stage) (record {
          items = o.items;
          scanner = nothing r.further r.answer_is o.items r.stands;
          password_is = same ∙ o.password_is;
          heard = heard ∙ (let e = o.heard in simp length-append (omega arith));
          few = (let e = o.heard in simp length-append (omega arith));
          no_end = o.no_end;
          course = o.course ∙ ap (λ (z : List ℕ × ℕ). record { joined = z.0; spare = pool.spare; wrong = z.1 }) (pair (sym joined) (sym wrong));
          session_is = o.session_is;
        });
        report_is = report ∙ k.report_is;
        forced_is = ap is_forced (stage ∙ sym h) ∙ k.forced_is;
      };
      answers_are = sym (append-nil session.answers);
      pages_are = sym (append-nil session.pages);
      pool = refl;
    }
  where
    pair : {a b : List ℕ} {m n : ℕ} → a ≡ b → m ≡ n → ◌≡◌ {A = List ℕ × ℕ} (a, m) (b, n)
    pair e f = cc

    nothing : (further : Option Entry) → ◌≡◌ {A = Option Item} None (option_map answer_of further) → (items : List Entry)
        → ScannerStandsFor BeforeLogon new.scanner (x ++ c ∷ []) (items ++ option_to_list further) → ScannerStandsFor BeforeLogon new.scanner (x ++ c ∷ []) items
    nothing None e items s = subst (λ z. ScannerStandsFor BeforeLogon new.scanner (x ++ c ∷ []) z) (append-nil items) s
    nothing (Some entry) e items s = absurd cc

-- what is told of one item
told_one : (directory : Directory) (s : Course) (e : Entry) → tell directory s (e ∷ []) ≡ (decide directory s e).told ∷ []
told_one directory s e = ap (λ z. (decide directory s e).told ∷ z) (either (is_end (decide directory s e).told.answer))
  where
    either : (b : Bool) → cond b (let z : List ItemDecided = [] in z) [] ≡ []
    either true = refl
    either false = refl

-- a stage that is open
is_open_true : (st : Stage) → is_open st ≡ true → st ≡ Open
is_open_true Open h = refl
is_open_true Ended h = absurd cc
is_open_true Forced h = absurd cc

-- one test or none
or_false : (b : Bool) → (b || false) ≡ b
or_false true = refl
or_false false = refl

-- One item further: what is told, and where it comes to.
pub record Further (directory : Directory) (spare : ℕ) (items : List Entry) (e : Entry) (m : Course) : Type 0 where
  pub answers_are : answers_of (tell directory (start spare) (items ++ e ∷ [])) ≡ answers_of (tell directory (start spare) items) ++ (decide directory m e).told.answer ∷ []
  pub pages_are : pages_of (tell directory (start spare) (items ++ e ∷ [])) ≡ pages_of (tell directory (start spare) items) ++ (decide directory m e).told.pages
  pub report_is : report_of (tell directory (start spare) (items ++ e ∷ [])) ≡ added_pages (report_of (tell directory (start spare) items)) (counter_of (answer_of (decide directory m e).told.item) (decide directory m e).told.answer) (length (decide directory m e).told.pages)
  pub end_is : has_end (tell directory (start spare) (items ++ e ∷ [])) ≡ is_end (decide directory m e).told.answer
  pub wrong_is : has_wrong_end (tell directory (start spare) (items ++ e ∷ [])) ≡ (is_wrong (decide directory m e).told.item && is_end (decide directory m e).told.answer)
  pub course_is : course_at directory (start spare) (items ++ e ∷ []) ≡ (decide directory m e).course

-- what an item told is counted as
abbrev counters_told : ItemDecided → List Counter
counters_told t = counters_of (answer_of t.item) t.answer (length t.pages)

-- one item more is counted
report_push : (told : List ItemDecided) (t : ItemDecided) → report_of (told ++ t ∷ []) ≡ added_pages (report_of told) (counter_of (answer_of t.item) t.answer) (length t.pages)
report_push told t =
    ap counts (flat_map-append counters_told told (t ∷ []) ∙ ap (λ z. flat_map counters_told told ++ z) (append-nil (counters_told t)))
    ∙ counts-push_all (flat_map counters_told told) (counter_of (answer_of t.item) t.answer) (length t.pages)

-- while no End was told
pub one_further : (directory : Directory) (spare : ℕ) (items : List Entry) (e : Entry) (m : Course) → has_end (tell directory (start spare) items) ≡ false
    → course_at directory (start spare) items ≡ m → Further directory spare items e m
one_further directory spare items e m h k =
    let told_is : tell directory (start spare) (items ++ e ∷ []) ≡ tell directory (start spare) items ++ (decide directory m e).told ∷ [] =
    tell-append_open directory (start spare) items (e ∷ []) h
    ∙ ap (λ z. tell directory (start spare) items ++ z) (told_one directory (course_at directory (start spare) items) e ∙ ap (λ s. (decide directory s e).told ∷ []) k) in
    record {
      answers_are = ap answers_of told_is ∙ map-append (λ (t : ItemDecided). t.answer) (tell directory (start spare) items) ((decide directory m e).told ∷ []);
      pages_are = ap pages_of told_is ∙ flat_map-append (λ (t : ItemDecided). t.pages) (tell directory (start spare) items) ((decide directory m e).told ∷ [])
          ∙ ap (λ z. pages_of (tell directory (start spare) items) ++ z) (append-nil (decide directory m e).told.pages);
      report_is = ap report_of told_is ∙ report_push (tell directory (start spare) items) (decide directory m e).told;
      end_is = ap has_end told_is ∙ has_end-append (tell directory (start spare) items) ((decide directory m e).told ∷ []) ∙ ap (λ b. b || (is_end (decide directory m e).told.answer || false)) h ∙ or_false _;
      wrong_is = ap has_wrong_end told_is ∙ has_wrong_end-append (tell directory (start spare) items) ((decide directory m e).told ∷ [])
          ∙ ap (λ b. b || ((is_wrong (decide directory m e).told.item && is_end (decide directory m e).told.answer) || false)) (no_wrong_end (tell directory (start spare) items) h) ∙ or_false _;
      course_is = course_at-append directory (start spare) items (e ∷ []) ∙ ap (λ s. (decide directory s e).course) k;
    }

-- the item that is decided is the item
item_is : (directory : Directory) (m : Course) (e : Entry) → (decide directory m e).told.item ≡ e
item_is directory m empty_line = refl
item_is directory m logon = refl
item_is directory m wrong_line = refl
item_is directory m (a_block b e right) = refl
item_is directory m a_bye = refl

-- the stage after an item is open where its answer isn't End
open_after : (e : Entry) (answer : Answer) → is_open (stage_after e answer) ≡ not (is_end answer)
open_after e answer = by_end (is_end answer) (is_wrong e)
  where
    by_end : (a b : Bool) → is_open (cond a (cond b Forced Ended) Open) ≡ not a
    by_end true true = refl
    by_end true false = refl
    by_end false b = refl

-- it is forced where a wrong line was answered End
forced_after : (e : Entry) (answer : Answer) → is_forced (stage_after e answer) ≡ (is_wrong e && is_end answer)
forced_after e answer = by_end (is_end answer) (is_wrong e)
  where
    by_end : (a b : Bool) → is_forced (cond a (cond b Forced Ended) Open) ≡ (b && a)
    by_end true true = refl
    by_end true false = refl
    by_end false true = refl
    by_end false false = refl

-- a character that completes an item, which is judged and then counted
pub item_on : (password : Option (List ℕ)) (directory : Directory) (spare : ℕ) (t mid judged : TerminalState) (report : Report) (x : List ℕ) (c : ℕ) (session : Session)
    (item : Item) (judgement : Judgement) (before after : Pool)
    → t.stage ≡ Open → t.heard < 999999 → mid.heard ≡ t.heard + 1 → mid.joined ≡ t.joined → mid.wrong ≡ t.wrong → mid.report ≡ t.report
    → mid.scanner.password ≡ t.scanner.password
    → ((items : List Entry) → ScannerStandsFor BeforeLogon t.scanner x items → ReadsOn BeforeLogon mid.scanner x items c (Some item))
    → ((e : Entry) → item ≡ answer_of e → BodyIs (Some e) mid.scanner.kept → IsItemJudged directory mid judged e judgement before after)
    → KeepsSession mid judged → report ≡ added_pages judged.report (counter_of item judgement.answer) judgement.pages
    → Stands password directory spare t x session before.spare
    → HearsOn password directory spare (record judged { report = report }) x c session judgement.answer before after
item_on password directory spare t mid judged report x c session item judgement before after h few heard joined wrong kept same reads judges keeps counted k =
    let o = open_of password directory spare t x session before.spare h k in
    let r = reads o.items o.scanner in
    found r.further r.answer_is r.body_is o r.stands
  where
    pair : {a b : List ℕ} {m n : ℕ} → a ≡ b → m ≡ n → ◌≡◌ {A = List ℕ × ℕ} (a, m) (b, n)
    pair e f = cc

    m : Course
    m = course_of mid before.spare

    new : TerminalState
    new = record judged { report = report }

    found : (further : Option Entry) → ◌≡◌ {A = Option Item} (Some item) (option_map answer_of further) → BodyIs further mid.scanner.kept
        → (o : IsOpenAt password directory spare t x session before.spare)
        → ScannerStandsFor BeforeLogon mid.scanner (x ++ c ∷ []) (o.items ++ option_to_list further)
        → HearsOn password directory spare new x c session judgement.answer before after
    found None e b o s = absurd cc
    found (Some entry) e b o s =
        let item_is_entry : item ≡ answer_of entry = (cc) in
        let j = judges entry item_is_entry b in
        let f = one_further directory spare o.items entry m o.no_end (o.course ∙ ap (λ (z : List ℕ × ℕ). record { joined = z.0; spare = before.spare; wrong = z.1 }) (pair (sym joined) (sym wrong))) in
        let told = tell directory (start spare) (o.items ++ entry ∷ []) in
        let answer = judgement.answer in
        let said_is : said answer ≡ (decide directory m entry).told.answer ∷ [] = ap said j.answer_is ∙ item_said directory m entry in
        let short : length (x ++ c ∷ []) ≤ 999999 = (let q = o.heard in simp length-append (omega arith)) in
        let report_is : report ≡ report_of told =
        counted ∙ ap (λ (z : Report). added_pages z (counter_of item answer) judgement.pages) (keeps.report ∙ kept ∙ k.report_is ∙ ap (λ (z : Session). z.report) o.session_is)
        ∙ ap (λ (z : Item). added_pages (report_of (tell directory (start spare) o.items)) (counter_of z answer) judgement.pages) (item_is_entry ∙ ap answer_of (sym (item_is directory m entry)))
        ∙ ap (λ (z : Answer). added_pages (report_of (tell directory (start spare) o.items)) (counter_of (answer_of (decide directory m entry).told.item) z) judgement.pages) j.answer_is
        ∙ ap (λ (z : ℕ). added_pages (report_of (tell directory (start spare) o.items)) (counter_of (answer_of (decide directory m entry).told.item) (decide directory m entry).told.answer) z) j.pages_are
        ∙ sym f.report_is in
        let forced_is : is_forced judged.stage ≡ has_wrong_end told =
        ap is_forced j.stage ∙ forced_after entry answer ∙ ap (λ (z : Entry). is_wrong z && is_end answer) (sym (item_is directory m entry))
        ∙ ap (λ (z : Answer). is_wrong (decide directory m entry).told.item && is_end z) j.answer_is ∙ sym f.wrong_is in
        record {
          longer = sum_up told;
          gained = (decide directory m entry).told.pages;
          stands = record { at_stage = goes (is_end answer) refl entry o s j f short; report_is = report_is; forced_is = forced_is };
          answers_are = f.answers_are ∙ ap (λ z. answers_of (tell directory (start spare) o.items) ++ z) (sym said_is) ∙ ap (λ (z : Session). z.answers ++ said answer) (sym o.session_is);
          pages_are = f.pages_are ∙ ap (λ (z : Session). z.pages ++ (decide directory m entry).told.pages) (sym o.session_is);
          pool = j.pool;
        }
      where
        goes : (b : Bool) → is_end judgement.answer ≡ b → (entry : Entry) → (o : IsOpenAt password directory spare t x session before.spare)
            → ScannerStandsFor BeforeLogon mid.scanner (x ++ c ∷ []) (o.items ++ entry ∷ []) → IsItemJudged directory mid judged entry judgement before after → Further directory spare o.items entry m
            → length (x ++ c ∷ []) ≤ 999999
            → StandsAt judged.stage password directory spare new (x ++ c ∷ []) (sum_up (tell directory (start spare) (o.items ++ entry ∷ []))) after.spare
        goes true q entry o s j f short =
            let ended : has_end (tell directory (start spare) (o.items ++ entry ∷ [])) ≡ true = f.end_is ∙ ap is_end (sym j.answer_is) ∙ q in
            over_at judged.stage password directory spare new (x ++ c ∷ []) (sum_up (tell directory (start spare) (o.items ++ entry ∷ []))) after.spare
            (ap is_open j.stage ∙ open_after entry judgement.answer ∙ ap not q)
            (over_by_end password directory spare mid.scanner (x ++ c ∷ []) (o.items ++ entry ∷ []) s (same ∙ o.password_is) short ended)
        goes false q entry o s j f short =
            subst (λ st. StandsAt st password directory spare new (x ++ c ∷ []) (sum_up (tell directory (start spare) (o.items ++ entry ∷ []))) after.spare)
            (sym (is_open_true judged.stage (ap is_open j.stage ∙ open_after entry judgement.answer ∙ ap not q))) (record {
              items = o.items ++ entry ∷ [];
              scanner = subst (λ z. ScannerStandsFor BeforeLogon z (x ++ c ∷ []) (o.items ++ entry ∷ [])) (sym keeps.scanner) s;
              password_is = ap (λ (z : ScannerState). z.password) keeps.scanner ∙ same ∙ o.password_is;
              heard = keeps.heard ∙ heard ∙ (let q = o.heard in simp length-append (omega arith));
              few = short;
              no_end = f.end_is ∙ ap is_end (sym j.answer_is) ∙ q;
              course = f.course_is ∙ j.course;
              session_is = refl;
            })

-- what a terminal stands for is the session of these characters
at_session : (st : Stage) (password : Option (List ℕ)) (directory : Directory) (spare : ℕ) (t : TerminalState) (x : List ℕ) (session : Session) (left : ℕ)
    → StandsAt st password directory spare t x session left → IsSession password directory spare x session
at_session Ended password directory spare t x session left k = subst (λ z. IsSession password directory spare z session) (append-nil x) (k [])
at_session Forced password directory spare t x session left k = subst (λ z. IsSession password directory spare z session) (append-nil x) (k [])
at_session Open password directory spare t x session left o =
    subst (λ z. IsSession password directory spare x z) (settled (tell directory (start spare) o.items) (length x) (short_settled (tell directory (start spare) o.items) (length x) o.few) ∙ sym o.session_is)
    (session_from password directory spare t.scanner x x o.items o.scanner o.password_is (take_all 999999 x o.few))

-- at every stage
pub stands_session : (password : Option (List ℕ)) (directory : Directory) (spare : ℕ) (t : TerminalState) (x : List ℕ) (session : Session) (left : ℕ)
    → Stands password directory spare t x session left → IsSession password directory spare x session
stands_session password directory spare t x session left k = at_session t.stage password directory spare t x session left k.at_stage
