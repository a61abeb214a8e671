-- Serving goes on by one session, or ends.
use Rattle.std.proofs.Common.{◌≡◌, ℕ, ◌+◌, ◌*◌, ◌<◌, ◌≤◌, inl, inr, Bool, true, false, List, [], ◌∷◌, ◌++◌, append-nil, append_assoc, length, length-append, take, drop, Result, Ok, Err, IsTrue, IsFalse, refl, sym, ◌∙◌, ap, subst, arith}
use Rattle.std.proofs.lemmas.List.{take-append-drop}
use Rattle.air.specs.Air.{IsAir}
use Rattle.bits.specs.Bits.{bytes_bits}
use Rattle.page_pool.specs.Pool.{Live, Pool, cells, in_use, pages}
use Rattle.page_text.specs.Page.{Page}
use Rattle.subscribers.specs.Parts.{Parts}
use Rattle.wires.proofs.Written.{no_ok, still}
use Rattle.wires.specs.Causes.{Rose}
use Rattle.wires.specs.Files.{Files, Freshens, SameAt}
use Rattle.wires.specs.Line.{Line, Listens, Opens}
use Rattle.wires.specs.Stacked.{are_bytes}
use Rattle.wires.specs.Written.{AppendsFront, Puts, Written}
use Rattle.serving.specs.declared.session.SessionEnd.{SessionEnd}
use Rattle.serving.specs.Protocols.{Protocol, StateIn, line_in, queued_in}
use Rattle.serving.specs.Leaves.{state_after}
use Rattle.serving.specs.ReportLine.{longest_line}
use Rattle.serving.specs.Served.{FileAfter, FitOut, FitShelf, Served, airs, line_for, lines}
use Rattle.serving.specs.Serving.{Around, AtAppendFault, AtDone, AtFreshFault, AtOutFault, AtWireFault, SendsTo, SoFar}
use Rattle.serving.specs.Sessions.{Closes, Ran}
use Rattle.serving.proofs.Connections.{airs-append, came, lines-append, listened, next_failed, none_came, turn-append, turn-wait}
use Rattle.serving.proofs.InTurn.{turn-keeps, turn-shut}
use Rattle.serving.proofs.WholeSessions.{turn-while_fit}

-- a session that was served and sent
abbrev pub made : {T E : Type 0} (p : Protocol) (settings : Parts) (spare : ℕ) (mid after : Line) (empty pool pool2 : Pool) (state : StateIn p) (end : SessionEnd) (f f2 : Files) (name : List ℕ) (r : Result T E)
    → empty.live ≡ [] → Ran p settings spare mid after empty pool state end → Closes p settings spare mid after → SendsTo pool pool2 f f2 name r → Served p settings spare
made p settings spare mid after empty pool pool2 state end f f2 name r none ran closes sends = record {
  before = mid;
  after = after;
  empty = empty;
  pool = pool;
  state = state;
  end = end;
  bits = sends.bits;
  no_page = none;
  ran = ran;
  closes = closes;
  is_air = subst (λ (ps : List Page). IsAir ps sends.bits) (ran.pages_are ∙ ap (λ (es : List Live). pages (record { live = es; spare = 0; region = [] }) ++ queued_in p ran.session) none) sends.is_air;
}

pub same_then : (a b c : Files) (n : List ℕ) → SameAt a b n → SameAt b c n → SameAt a c n
same_then a b c n h k = record { there = k.there ∙ h.there; file = k.file ∙ h.file; fresh = k.fresh ∙ h.fresh; room = k.room ∙ h.room }

-- how much was written where a write failed
abbrev front_at : {A : Type 0} (b : Bool) (old new piece : List A) → (IsTrue b → AppendsFront old new piece) → (n : ℕ) × (IsTrue b → new ≡ old ++ take n piece)
front_at true old new piece h = let k = h refl in (k.0, λ _. k.2)
front_at false old new piece h = (0, λ f. cc)

-- the session of a pool whose cells are all spare
pub ran_here : (p : Protocol) (settings : Parts) (spare : ℕ) (mid after : Line) (before pool : Pool) (state : StateIn p) (end : SessionEnd) → before.spare ≡ spare
    → Ran p settings before.spare mid after before pool state end → Ran p settings spare mid after before pool state end
ran_here p settings spare mid after before pool state end e ran = subst (λ (n : ℕ). Ran p settings n mid after before pool state end) e ran

pub closes_here : (p : Protocol) (settings : Parts) (spare : ℕ) (mid after : Line) (before : Pool) → before.spare ≡ spare → Closes p settings before.spare mid after → Closes p settings spare mid after
closes_here p settings spare mid after before e closes = subst (λ (n : ℕ). Closes p settings n mid after) e closes

-- what `next` answered
pub opened_so : {E : Type 0} (was mid : Line) (b v : Bool) → b ≡ v → Opens {E = E} was mid (Ok b) → Opens {E = E} was mid (Ok v)
opened_so {E} was mid b v e h = subst (λ (x : Bool). Opens {E = E} was mid (Ok x)) e h

-- `next` found no further connection
abbrev pub at_done : {E : Type 0} (p : Protocol) (settings : Parts) (spare most : ℕ) (first : Around) (w mid : Line) (f : Files) (o : Written ℕ) (address name : List ℕ) (pool : Pool) (ss : List (Served p settings spare))
    → SoFar first (record { wire = w; shelf = f; out = o }) address name most pool ss → length ss ≤ most → Opens {E = E} w mid (Ok false) → AtDone p settings spare first (record { wire = mid; shelf = f; out = o }) address name most
at_done p settings spare most first w mid f o address name pool ss so few h = record {
  sessions = ss;
  few = few;
  wire = turn-wait first.wire w mid ss so.wire (none_came w mid h);
  asked = λ t. h.asked ∙ so.asked t;
  shut = λ t _. (h.not_opened (still (turn-keeps first.wire w ss so.wire).tells t) refl).1;
  well = λ t st. turn-while_fit first.wire mid ss (turn-wait first.wire w mid ss so.wire (none_came w mid h)) t st;
  file = so.file;
  file_well = so.file_well;
  out = so.out;
  out_well = so.out_well;
  gate = h.cause.kept ∙ so.gate;
  shelf_faults = so.shelf_faults;
  out_faults = so.out_faults;
  all = inr (λ t. let told = still (turn-keeps first.wire w ss so.wire).tells t in let q = (h.none told).0 refl in omega (arith, q, (h.not_opened told refl).0, h.keeps.count));
}

-- `next` failed
abbrev pub at_wire_fault : {E : Type 0} (p : Protocol) (settings : Parts) (spare most : ℕ) (first : Around) (w mid : Line) (f : Files) (o : Written ℕ) (address name : List ℕ) (pool : Pool) (e : E) (ss : List (Served p settings spare))
    → SoFar first (record { wire = w; shelf = f; out = o }) address name most pool ss → length ss < most → Opens w mid (Err e) → AtWireFault p settings spare first (record { wire = mid; shelf = f; out = o }) address name most
at_wire_fault {E} p settings spare most first w mid f o address name pool e ss so few h = record {
  sessions = ss;
  few = inl few;
  wire = turn-wait first.wire w mid ss so.wire (next_failed w mid e h);
  asked = λ t. h.asked ∙ so.asked t;
  well = λ t st. turn-while_fit first.wire mid ss (turn-wait first.wire w mid ss so.wire (next_failed w mid e h)) t st;
  unfit = λ t st fit. no_ok Bool E e (h.steady (still (turn-keeps first.wire w ss so.wire).tells t) ((turn-while_fit first.wire w ss so.wire t st).all fit).steady).0;
  file = so.file;
  file_well = so.file_well;
  out = so.out;
  out_well = so.out_well;
  gate = subst (λ (n : ℕ). Rose n mid.gate) so.gate h.cause.failed;
  shelf_faults = so.shelf_faults;
  out_faults = so.out_faults;
}

-- over a fit shelf the append is proper
pub append_fits : {T E F : Type 0} (p : Protocol) (settings : Parts) (spare most : ℕ) (first : Around) (w : Line) (f f2 : Files) (o : Written ℕ) (address name : List ℕ) (pool pool1 pool2 : Pool) (r : Result T E) (ss : List (Served p settings spare)) (s : Served p settings spare)
    → SoFar first (record { wire = w; shelf = f; out = o }) address name most pool ss → length ss + 1 ≤ most → Opens {E = F} w s.before (Ok true) → (sends : SendsTo pool1 pool2 f f2 name r) → s.bits ≡ sends.bits
    → FitShelf p settings spare first.wire first.shelf name most → length sends.bits ≤ 8 * f.room name
append_fits p settings spare most first w f f2 o address name pool pool1 pool2 r ss s so few h sends same fit =
    let total : length (airs (ss ++ s ∷ [])) ≤ 8 * first.shelf.fresh_room = fit.fits s.after (ss ++ s ∷ []) (turn-append first.wire w ss s so.wire (came w s.before h)) (omega (arith, few, length-append ss (s ∷ []))) in
    let split : length (airs (ss ++ s ∷ [])) ≡ length (airs ss) + length sends.bits = ap length (airs-append ss s) ∙ (length-append (airs ss) s.bits ∙ ap (λ (b : List Bool). length (airs ss) + length b) same) in
    let room : 8 * f.room name + length (airs ss) ≡ 8 * first.shelf.fresh_room = so.file.room fit.tells in
    omega (arith, total, split, room)

-- the append failed
abbrev pub at_append_fault : {T E F : Type 0} (p : Protocol) (settings : Parts) (spare most : ℕ) (first : Around) (w mid after : Line) (f f2 : Files) (o : Written ℕ) (address name : List ℕ) (empty pool pool2 : Pool) (state : StateIn p) (end : SessionEnd) (e : E) (ss : List (Served p settings spare))
    → SoFar first (record { wire = w; shelf = f; out = o }) address name most empty ss → length ss + 1 ≤ most → Opens {E = F} w mid (Ok true) → Ran p settings spare mid after empty pool state end → Closes p settings spare mid after
    → SendsTo {T = T} pool pool2 f f2 name (Err e) → AtAppendFault p settings spare first (record { wire = after; shelf = f2; out = o }) address name most
at_append_fault {T} {E} p settings spare most first w mid after f f2 o address name empty pool pool2 state end e ss so few h ran closes sends =
    let s = made p settings spare mid after empty pool pool2 state end f f2 name (Err e) so.no_page ran closes sends in
    let cut = front_at f.tells (bytes_bits (f.file name)) (bytes_bits (f2.file name)) sends.bits sends.bits_are in
    let told : IsTrue first.shelf.tells → IsTrue f.tells = λ t. still so.file.tells t in
    let held : IsTrue first.shelf.tells → bytes_bits (f2.file name) ≡ airs ss ++ take cut.0 sends.bits = λ t. cut.1 (told t) ∙ ap (λ (z : List Bool). z ++ take cut.0 sends.bits) (so.file.bits_are t) in
    record {
      sessions = ss;
      unsent = s;
      front = take cut.0 sends.bits;
      few = omega (arith, few, length-append ss (s ∷ []));
      wire = turn-append first.wire w ss s so.wire (came w mid h);
      asked = λ t. ran.line.asked ∙ (h.asked ∙ so.asked t);
      well = λ t st. turn-while_fit first.wire after (ss ++ s ∷ []) (turn-append first.wire w ss s so.wire (came w mid h)) t st;
      front_is = record { rest = drop cut.0 sends.bits; is = sym (take-append-drop cut.0 sends.bits) };
      file = record {
        tells = sends.tells ∙ so.file.tells;
        there = λ t. still sends.there (so.file.there t);
        bits_are = held;
        of_bytes = λ t. still (sends.bytes_stay (told t)) (so.file.of_bytes t);
        fresh = λ t. still sends.fresh (so.file.fresh t);
        room = λ t. omega (arith, sends.room (told t), so.file.room t, ap length (held t), ap length (so.file.bits_are t));
        others = λ n ne. same_then first.shelf f f2 n (so.file.others n ne) (sends.others n ne);
        fresh_room = sends.fresh_room ∙ so.file.fresh_room;
        further = λ t there. sends.further ∙ so.file.further t there;
        used = λ t none. let q = so.file.used t none in (q.0, subst IsFalse (sym sends.further) q.1);
        lent = sends.lent ∙ so.file.lent;
      };
      unfit = λ fit. no_ok T E e (sends.steady (told fit.tells) (so.file_well fit) (so.file.fresh fit.tells) (append_fits p settings spare most first w f f2 o address name empty pool pool2 (Err e) ss s so few h sends refl fit)).0;
      out = so.out;
      out_well = so.out_well;
      gate = omega (arith, ran.line.gate, h.cause.kept, so.gate);
      shelf_faults = subst (λ (n : ℕ). Rose n f2.faults) so.shelf_faults sends.cause.failed;
      out_faults = so.out_faults;
    }

-- the transmission was appended
pub file_more : {T E : Type 0} (p : Protocol) (settings : Parts) (spare : ℕ) (f0 f f2 : Files) (name : List ℕ) (pool pool2 : Pool) (x : T) (ss : List (Served p settings spare)) (s : Served p settings spare) → FileAfter f0 f name (airs ss)
    → (sends : SendsTo {E = E} pool pool2 f f2 name (Ok x)) → s.bits ≡ sends.bits → FileAfter f0 f2 name (airs (ss ++ s ∷ []))
file_more p settings spare f0 f f2 name pool pool2 x ss s h sends a =
    let all : IsTrue f0.tells → bytes_bits (f2.file name) ≡ airs (ss ++ s ∷ []) =
    λ t. sends.bits_are (still h.tells t) ∙ (ap (λ (z : List Bool). z ++ sends.bits) (h.bits_are t) ∙ (ap (λ (z : List Bool). airs ss ++ z) (sym a) ∙ sym (airs-append ss s))) in
    record {
      tells = sends.tells ∙ h.tells;
      there = λ t. still sends.there (h.there t);
      bits_are = all;
      of_bytes = λ t. still (sends.bytes_stay (still h.tells t)) (h.of_bytes t);
      fresh = λ t. still sends.fresh (h.fresh t);
      room = λ t. omega (arith, sends.room (still h.tells t), h.room t, ap length (all t), ap length (h.bits_are t));
      others = λ n ne. same_then f0 f f2 n (h.others n ne) (sends.others n ne);
      fresh_room = sends.fresh_room ∙ h.fresh_room;
      further = λ t there. sends.further ∙ h.further t there;
      used = λ t none. let q = h.used t none in (q.0, subst IsFalse (sym sends.further) q.1);
      lent = sends.lent ∙ h.lent;
    }

-- over a fit output the line is proper
pub line_fits : (p : Protocol) (settings : Parts) (spare most : ℕ) (first : Around) (w : Line) (f : Files) (o : Written ℕ) (address name : List ℕ) (pool : Pool) (ss : List (Served p settings spare)) (line : List ℕ)
    → SoFar first (record { wire = w; shelf = f; out = o }) address name most pool ss → length ss + 1 ≤ most → length line ≤ longest_line → FitOut first.out most → length line ≤ o.room
line_fits p settings spare most first w f o address name pool ss line so few short fit =
    let room : o.room + length (lines 1 ss) ≡ first.out.room = so.out.room fit.tells in
    omega (arith, room, so.short, few, short, fit.fits)

-- putting the line failed
abbrev pub at_out_fault : {T U E F G : Type 0} (p : Protocol) (settings : Parts) (spare most : ℕ) (first : Around) (w mid after : Line) (f f2 : Files) (o o2 : Written ℕ) (address name : List ℕ) (empty pool pool2 : Pool) (state : StateIn p) (end : SessionEnd) (number : ℕ) (x : T) (e : E) (ss : List (Served p settings spare))
    → SoFar first (record { wire = w; shelf = f; out = o }) address name most empty ss → length ss + 1 ≡ number → number ≤ most → Opens {E = F} w mid (Ok true) → (ran : Ran p settings spare mid after empty pool state end) → Closes p settings spare mid after
    → SendsTo {E = G} pool pool2 f f2 name (Ok x) → length (line_in p number end ran.session) ≤ longest_line → Puts {T = U} o o2 (line_in p number end ran.session) (Err e)
    → AtOutFault p settings spare first (record { wire = after; shelf = f2; out = o2 }) address name most
at_out_fault {T} {U} {E} p settings spare most first w mid after f f2 o o2 address name empty pool pool2 state end number x e ss so num few h ran closes sends short puts =
    let s = made p settings spare mid after empty pool pool2 state end f f2 name (Ok x) so.no_page ran closes sends in
    let cut = front_at o.tells o.held o2.held (line_in p number end ran.session) puts.held in
    let told : IsTrue first.out.tells → IsTrue o.tells = λ t. still so.out.tells t in
    let front = take cut.0 (line_in p number end ran.session) in
    let held : IsTrue first.out.tells → o2.held ≡ first.out.held ++ (lines 1 ss ++ front) =
    λ t. cut.1 (told t) ∙ (ap (λ (z : List ℕ). z ++ front) (so.out.held t) ∙ append_assoc first.out.held (lines 1 ss) front) in
    record {
      sessions = ss;
      unreported = s;
      front = front;
      few = omega (arith, num, few, length-append ss (s ∷ []));
      wire = turn-append first.wire w ss s so.wire (came w mid h);
      asked = λ t. ran.line.asked ∙ (h.asked ∙ so.asked t);
      well = λ t st. turn-while_fit first.wire after (ss ++ s ∷ []) (turn-append first.wire w ss s so.wire (came w mid h)) t st;
      file = file_more p settings spare first.shelf f f2 name pool pool2 x ss s so.file sends refl;
      file_well = λ fit. (sends.steady (still so.file.tells fit.tells) (so.file_well fit) (so.file.fresh fit.tells) (append_fits p settings spare most first w f f2 o address name empty pool pool2 (Ok x) ss s so (omega (arith, num, few)) h sends refl fit)).1;
      front_is = record {
        rest = drop cut.0 (line_in p number end ran.session);
        is = ap (λ (n : ℕ). line_in p n end ran.session) num ∙ sym (take-append-drop cut.0 (line_in p number end ran.session));
      };
      out = record {
        tells = puts.tells ∙ so.out.tells;
        held = held;
        room = λ t. omega (arith, puts.room (told t), so.out.room t, ap length (held t), ap length (so.out.held t), length-append first.out.held (lines 1 ss ++ front), length-append first.out.held (lines 1 ss));
        lent = puts.lent ∙ so.out.lent;
      };
      unfit = λ fit. no_ok U E e (puts.steady (told fit.tells) (so.out_well fit) (line_fits p settings spare most first w f o address name empty ss (line_in p number end ran.session) so (omega (arith, num, few)) short fit)).0;
      gate = omega (arith, ran.line.gate, h.cause.kept, so.gate);
      shelf_faults = sends.cause.kept ∙ so.shelf_faults;
      out_faults = subst (λ (n : ℕ). Rose n o2.faults) so.out_faults puts.faults.failed;
    }

-- all cells of an empty pool are spare
pub all_spare : (pool : Pool) → pool.live ≡ [] → cells pool ≡ pool.spare
all_spare pool none = let e : in_use pool.live ≡ 0 = ap in_use none in omega (arith, e)

-- the terminal after one session more
pub last_state : {p : Protocol} {settings : Parts} {spare : ℕ} (first : StateIn p) (ss : List (Served p settings spare)) (s : Served p settings spare) → state_after first (ss ++ s ∷ []) ≡ s.state
last_state first [] s = refl
last_state first (x ∷ ss) s = last_state x.state ss s

-- one session more was served, sent and reported
pub one_more : {T U E F G : Type 0} (p : Protocol) (settings : Parts) (spare most : ℕ) (first : Around) (w mid after : Line) (f f2 : Files) (o o2 : Written ℕ) (address name : List ℕ) (empty pool pool2 : Pool) (state : StateIn p) (end : SessionEnd) (number : ℕ) (x : T) (y : U) (begun : StateIn p) (ss : List (Served p settings spare))
    → SoFar first (record { wire = w; shelf = f; out = o }) address name most empty ss → length ss + 1 ≡ number → number ≤ most → Opens {E = F} w mid (Ok true) → (ran : Ran p settings spare mid after empty pool state end) → Closes p settings spare mid after
    → SendsTo {E = G} pool pool2 f f2 name (Ok x) → length (line_in p number end ran.session) ≤ longest_line → Puts {E = E} o o2 (line_in p number end ran.session) (Ok y)
    → (sessions : List (Served p settings spare)) × SoFar first (record { wire = after; shelf = f2; out = o2 }) address name most pool2 sessions × (state ≡ state_after begun sessions)
    × (length sessions ≡ number)
one_more p settings spare most first w mid after f f2 o o2 address name empty pool pool2 state end number x y begun ss so num few h ran closes sends short puts =
    let s = made p settings spare mid after empty pool pool2 state end f f2 name (Ok x) so.no_page ran closes sends in
    let told : IsTrue first.out.tells → IsTrue o.tells = λ t. still so.out.tells t in
    let line : line_in p number end ran.session ≡ line_for (1 + length ss) s =
    (let e : number ≡ 1 + length ss = omega (arith, num) in ap (λ (n : ℕ). line_in p n end ran.session) e) in
    let more : lines 1 (ss ++ s ∷ []) ≡ lines 1 ss ++ line_in p number end ran.session = lines-append 1 ss s ∙ ap (λ (z : List ℕ). lines 1 ss ++ z) (sym line) in
    let held : IsTrue first.out.tells → o2.held ≡ first.out.held ++ lines 1 (ss ++ s ∷ []) =
    λ t. puts.held (told t) ∙ (ap (λ (z : List ℕ). z ++ line_in p number end ran.session) (so.out.held t) ∙ (append_assoc first.out.held (lines 1 ss) (line_in p number end ran.session) ∙ ap (λ (z : List ℕ). first.out.held ++ z) (sym more))) in (
      ss ++ s ∷ [],
      record {
        wire = turn-append first.wire w ss s so.wire (came w mid h);
        asked = λ t. ran.line.asked ∙ (h.asked ∙ so.asked t);
        file = file_more p settings spare first.shelf f f2 name pool pool2 x ss s so.file sends refl;
        file_well = λ fit. (sends.steady (still so.file.tells fit.tells) (so.file_well fit) (so.file.fresh fit.tells) (append_fits p settings spare most first w f f2 o address name empty pool pool2 (Ok x) ss s so (omega (arith, num, few)) h sends refl fit)).1;
        out = record {
          tells = puts.tells ∙ so.out.tells;
          held = held;
          room = λ t. omega (arith, puts.room (told t), so.out.room t, ap length (held t), ap length (so.out.held t), length-append first.out.held (lines 1 (ss ++ s ∷ [])), length-append first.out.held (lines 1 ss));
          lent = puts.lent ∙ so.out.lent;
        };
        out_well = λ fit. (puts.steady (told fit.tells) (so.out_well fit) (line_fits p settings spare most first w f o address name empty ss (line_in p number end ran.session) so (omega (arith, num, few)) short fit)).1;
        short = omega (arith, so.short, short, ap length more, length-append (lines 1 ss) (line_in p number end ran.session), length-append ss (s ∷ []));
        gate = omega (arith, ran.line.gate, h.cause.kept, so.gate);
        shelf_faults = sends.cause.kept ∙ so.shelf_faults;
        out_faults = puts.faults.kept ∙ so.out_faults;
        no_page = sends.emptied;
        all_spare = sym (all_spare pool2 sends.emptied) ∙ (sends.cells_stay ∙ (ran.cells_stay ∙ (all_spare empty so.no_page ∙ so.all_spare)));
      },
      sym (last_state begun ss s),
      omega (arith, num, length-append ss (s ∷ [])),
    )

-- the file was made fresh
pub file_begins : {T E : Type 0} (f0 f : Files) (name : List ℕ) (x : T) → Freshens {E = E} f0 f name (Ok x) → FileAfter f0 f name []
file_begins f0 f name x fr = record {
  tells = fr.touches.tells;
  there = λ t. (fr.ok t).1;
  bits_are = λ t. ap bytes_bits (fr.ok t).0;
  of_bytes = λ t. still (ap are_bytes (fr.ok t).0) refl;
  fresh = λ t. (fr.ok t).2;
  room = λ t. omega (arith, (fr.ok t).3);
  others = fr.touches.others;
  fresh_room = fr.touches.fresh_room;
  further = fr.further;
  used = fr.used;
  lent = fr.touches.lent;
}

-- `fresh` failed
abbrev pub at_fresh : {T E : Type 0} (p : Protocol) (settings : Parts) (spare most : ℕ) (w0 : Line) (f0 f : Files) (o : Written ℕ) (name : List ℕ) (e : E) → Freshens {T = T} f0 f name (Err e)
    → AtFreshFault p settings spare (record { wire = w0; shelf = f0; out = o }) (record { wire = w0; shelf = f; out = o }) name most
at_fresh {T} {E} p settings spare most w0 f0 f o name e fr = record {
  wire = refl;
  out = refl;
  tells = fr.touches.tells;
  file = fr.failed;
  there = fr.there;
  fresh_room = fr.touches.fresh_room;
  others = fr.touches.others;
  lent = fr.touches.lent;
  unfit = λ fit. no_ok T E e (fr.steady fit.tells fit.steady fit.proper).0;
  shelf_faults = fr.touches.faults.failed;
}

-- `listen` failed
abbrev pub at_listen : {T E F : Type 0} (p : Protocol) (settings : Parts) (spare most : ℕ) (w0 w : Line) (f0 f : Files) (o : Written ℕ) (address name : List ℕ) (x : T) (e : F) → Freshens {E = E} f0 f name (Ok x) → Listens {T = T} w0 w address (Err e)
    → AtWireFault p settings spare (record { wire = w0; shelf = f0; out = o }) (record { wire = w; shelf = f; out = o }) address name most
at_listen {T} {E} {F} p settings spare most w0 w f0 f o address name x e fr h = record {
  sessions = [];
  few = inr refl;
  wire = listened w0 w address (Err e) h;
  asked = h.asked;
  well = λ t st. turn-while_fit w0 w [] (listened w0 w address (Err e) h) t st;
  unfit = λ t st _. no_ok T F e (h.steady t st).0;
  file = file_begins f0 f name x fr;
  file_well = λ fit. (fr.steady fit.tells fit.steady fit.proper).1;
  out = record { tells = refl; held = λ _. sym (append-nil o.held); room = λ _. omega arith; lent = refl };
  out_well = λ fit. fit.steady;
  gate = h.cause.failed;
  shelf_faults = fr.touches.faults.kept;
  out_faults = refl;
}

-- serving begins
pub begun : {T U E F : Type 0} (p : Protocol) (settings : Parts) (spare most : ℕ) (w0 w : Line) (f0 f : Files) (o : Written ℕ) (address name : List ℕ) (pool : Pool) (x : T) (y : U) → Freshens {E = E} f0 f name (Ok x) → Listens {E = F} w0 w address (Ok y) → pool.live ≡ [] → pool.spare ≡ spare
    → SoFar {p = p} {settings = settings} {spare = spare} (record { wire = w0; shelf = f0; out = o }) (record { wire = w; shelf = f; out = o }) address name most pool []
begun p settings spare most w0 w f0 f o address name pool x y fr h none all = record {
  wire = listened w0 w address (Ok y) h;
  asked = h.asked;
  file = file_begins f0 f name x fr;
  file_well = λ fit. (fr.steady fit.tells fit.steady fit.proper).1;
  out = record { tells = refl; held = λ _. sym (append-nil o.held); room = λ _. omega arith; lent = refl };
  out_well = λ fit. fit.steady;
  short = omega arith;
  gate = h.cause.kept;
  shelf_faults = fr.touches.faults.kept;
  out_faults = refl;
  no_page = none;
  all_spare = all;
}

-- as many connections as were wanted were served
abbrev pub all_served : (p : Protocol) (settings : Parts) (spare most : ℕ) (first now : Around) (address name : List ℕ) (pool : Pool) (ss : List (Served p settings spare)) → SoFar first now address name most pool ss → length ss ≡ most → AtDone p settings spare first now address name most
all_served p settings spare most first now address name pool ss so n = record {
  sessions = ss;
  few = omega (arith, n);
  all = inl n;
  wire = so.wire;
  asked = so.asked;
  shut = λ t d. turn-shut first.wire now.wire ss so.wire t (elim d [ inl some ↦ inl (omega (arith, some, n)) | inr f ↦ inr f ]);
  well = λ t st. turn-while_fit first.wire now.wire ss so.wire t st;
  file = so.file;
  file_well = so.file_well;
  out = so.out;
  out_well = so.out_well;
  gate = so.gate;
  shelf_faults = so.shelf_faults;
  out_faults = so.out_faults;
}
