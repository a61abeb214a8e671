-- What was heard of the samples in a file, from what was heard of the bits of samples over it.
use Rattle.std.proofs.Common.{◌≡◌, ◌≢◌, ℕ, ◌<◌, ◌≤◌, Bool, true, false, List, [], ◌∷◌, ◌++◌, append-nil, append_assoc, drop, length, length-append, take, Option, None, Result, Ok, Err, IsTrue, refl, sym, ◌∙◌, ap, subst, arith}
use Rattle.std.specs.Prelude.{if◌then◌else◌, nat_lt}
use Rattle.std.specs.Borrow.{GName}
use Rattle.std.proofs.lemmas.Bool.Decides.{nat_tests}
use Rattle.bits.specs.Bits.{bytes_bits}
use Rattle.sampler.specs.Runs.{sampled_bits}
use Rattle.sampler.specs.Stacked.{Counted, PassesAll, follows, lent_source, sampled_over}
use Rattle.wires.proofs.Written.{and_both, no_ok}
use Rattle.wires.specs.Causes.{Rose}
use Rattle.wires.specs.Files.{Files, all_files}
use Rattle.wires.specs.Fronts.{IsFront}
use Rattle.wires.specs.Held.{Follows, Held, Lent, OfShelf, OtherFiles, Text}
use Rattle.wires.specs.Left.{Left, Took}
use Rattle.wires.specs.Stacked.{shelf_bits}
use Rattle.wires.specs.Written.{Written}
use Rattle.endings.specs.declared.statuses.Status.{Status}
use Rattle.endings.specs.declared.statuses.Status.TheVariants.{Done, FileFault, OutFault, TooLong}
use Rattle.endings.specs.Wrote.{FitFor, StaysWell}
use Rattle.listening.specs.HeardLine.{HasListenedToSamples, HearsSampled, HearsSamples, most_sampled_bits, sampled_file_bits}
use Rattle.listening.specs.Listening.{FailedAfter, HasListened, ListenedToAll, ListenedToFault, ListenedTooLong, OutWell, most_bits}
use Rattle.listening.proofs.FewBits.{few_of_first}
use Rattle.listening.proofs.HeardFiles.{holding, kept, listens_holding}
use Rattle.listening.proofs.WellListened.{read_whole}

-- ---- all bits were heard

-- the bits, with these left
abbrev pub leaving : List Bool → Left Bool → Left Bool
leaving bits b = record { tells = b.tells; left = bits; there = b.there; steady = b.steady; faults = b.faults; lent = b.lent }

-- all bits were heard, and then the end was reached
all_to_end : {E : Type 0} (printed : List Bool → List ℕ) (a b e : Left Bool) (o0 o : Written ℕ) (more : Bool) → ListenedToAll printed a b o0 o → PassesAll {E = E} b e (Ok more) → ListenedToAll printed a e o0 o
all_to_end printed a b e o0 o more h p = record {
  bits = h.bits;
  took = record {
    tells = p.tells ∙ h.took.tells;
    left = λ t.
        let u : IsTrue b.tells = subst IsTrue (sym h.took.tells) t in
        h.took.left t ∙ ap (λ (xs : List Bool). h.bits ++ xs) (h.whole t ∙ sym (p.left u));
    there = λ t u. h.there t;
    steady = λ t s. (p.steady (subst IsTrue (sym h.took.tells) t) (h.took.steady t s)).1;
    faults = p.faults.kept ∙ h.took.faults;
    lent = p.lent ∙ h.took.lent;
  };
  there = h.there;
  whole = λ t. p.left (subst IsTrue (sym h.took.tells) t);
  few = h.few;
  wrote = h.wrote;
}

-- all bits were heard, and a read failed before the end was reached
fault_at_end : {E : Type 0} (printed : List Bool → List ℕ) (a b e : Left Bool) (o0 o : Written ℕ) (x : E) → ListenedToAll printed a b o0 o → PassesAll b e (Err x)
    → ListenedToFault printed a (leaving b.left e) o0 o
fault_at_end {E} printed a b e o0 o x h p = record {
  bits = h.bits;
  failed = record {
    tells = p.tells ∙ h.took.tells;
    left = h.took.left;
    unsteady = λ t s. no_ok Bool E x (p.steady (subst IsTrue (sym h.took.tells) t) (h.took.steady t s)).0;
    faults = subst (λ (n : ℕ). Rose n e.faults) h.took.faults p.faults.failed;
    lent = p.lent ∙ h.took.lent;
  };
  there = λ t some. h.there t;
  wrote = h.wrote;
  few = h.few;
  of_all = λ t. record { rest = []; is = ap printed (read_whole printed a b o0 o h t) ∙ sym (append-nil (printed h.bits)) };
}

-- an output that stays well does so at another status
well_at : (printed : List Bool → List ℕ) (a : Left Bool) (o0 o : Written ℕ) (status another : Status) → another ≢ OutFault → OutWell printed a o0 o status → OutWell printed a o0 o another
well_at printed a o0 o status another ne w = λ t fit. (ne, (w t fit).1)

well_too_long : (printed : List Bool → List ℕ) (a : Left Bool) (o0 o : Written ℕ) (status : Status) → OutWell printed a o0 o status → OutWell printed a o0 o TooLong
well_too_long printed a o0 o status w = well_at printed a o0 o status TooLong (λ e. cc) w

well_done : (printed : List Bool → List ℕ) (a : Left Bool) (o0 o : Written ℕ) (status : Status) → OutWell printed a o0 o status → OutWell printed a o0 o Done
well_done printed a o0 o status w = well_at printed a o0 o status Done (λ e. cc) w

well_failed : (printed : List Bool → List ℕ) (a : Left Bool) (o0 o : Written ℕ) (status : Status) → OutWell printed a o0 o status → OutWell printed a o0 o FileFault
well_failed printed a o0 o status w = well_at printed a o0 o status FileFault (λ e. cc) w

-- ---- whether a further sample follows

-- a further sample follows after the limit, or none does
no_more : (limit n : ℕ) → false ≡ nat_lt limit n → n ≤ limit
no_more limit n e = grind (arith, nat_tests)

some_more : (limit n : ℕ) → true ≡ nat_lt limit n → limit < n
some_more limit n e = grind (arith, nat_tests)

-- what was answered at the end is whether one follows
answered : {E : Type 0} (a b e : Left Bool) (tells : Bool) (limit n : ℕ) (more : Bool) → a.tells ≡ tells → b.tells ≡ a.tells → b.lent ≡ a.lent → (IsTrue tells → follows a.lent ≡ nat_lt limit n)
    → PassesAll {E = E} b e (Ok more) → IsTrue tells → more ≡ nat_lt limit n
answered a b e tells limit n more is same lent told p t =
    p.follows (subst IsTrue (sym (same ∙ is)) t) ∙ (ap follows lent ∙ told t)

-- ---- by status

-- no more bits are heard than so many samples have
too_many : {B : Type 0} (printed : List Bool → List ℕ) (a b : Left Bool) (o0 o : Written ℕ) → length a.left ≤ most_bits → ListenedTooLong printed a b o0 o → IsTrue a.tells → B
too_many printed a b o0 o few h t =
    let all : a.left ≡ h.bits ++ (h.further ∷ b.left) = h.took.left t ∙ append_assoc h.bits (h.further ∷ []) b.left in
    absurd (omega (arith, few, h.many, ap length all, length-append h.bits (h.further ∷ b.left)))

-- what was heard where not all bits were
not_all : (printed : List Bool → List ℕ) (count : ℕ) (a b : Left Bool) (o0 o : Written ℕ) (status : Status) → status ≢ Done → length a.left ≤ most_bits → HasListened printed a b o0 o status
    → HasListenedToSamples printed count a b o0 o status
not_all printed count a b o0 o Done ne few h = absurd (ne refl)
not_all printed count a b o0 o TooLong ne few h = (
  record {
    bits = h.bits;
    took = record {
      tells = h.took.tells;
      left = λ t. too_many printed a b o0 o few h t;
      there = h.took.there;
      steady = h.took.steady;
      faults = h.took.faults;
      lent = h.took.lent;
    };
    there = h.there;
    whole = λ t. too_many printed a b o0 o few h t;
    few = omega (arith, h.many);
    wrote = h.wrote;
  },
  λ t. too_many printed a b o0 o few h t,
)
not_all printed count a b o0 o FileFault ne few h = h
not_all printed count a b o0 o OutFault ne few h = h
not_all printed count a b o0 o other ne few h = elim h [ ]

samples_holding : (printed : List Bool → List ℕ) (count : ℕ) (held : List Held) (a b : Left Bool) (o0 o : Written ℕ) (status : Status) → HasListenedToSamples printed count a b o0 o status
    → HasListenedToSamples printed count (holding held a) (holding held b) o0 o status
samples_holding printed count held a b o0 o Done h = (listens_holding printed held a b o0 o Done h.0, h.1)
samples_holding printed count held a b o0 o TooLong h = (listens_holding printed held a b o0 o Done h.0, h.1)
samples_holding printed count held a b o0 o FileFault h = listens_holding printed held a b o0 o FileFault h
samples_holding printed count held a b o0 o OutFault h = listens_holding printed held a b o0 o OutFault h
samples_holding printed count held a b o0 o other h = elim h [ ]

samples_kept : (printed : List Bool → List ℕ) (count : ℕ) (a b : Left Bool) (o0 o : Written ℕ) (status : Status) → HasListenedToSamples printed count a b o0 o status → (b.tells ≡ a.tells) × (b.lent ≡ a.lent)
samples_kept printed count a b o0 o Done h = kept printed a b o0 o Done h.0
samples_kept printed count a b o0 o TooLong h = kept printed a b o0 o Done h.0
samples_kept printed count a b o0 o FileFault h = kept printed a b o0 o FileFault h
samples_kept printed count a b o0 o OutFault h = kept printed a b o0 o OutFault h
samples_kept printed count a b o0 o other h = elim h [ ]

-- ---- the samples below

-- no sample was counted
abbrev pub uncounted : Counted
uncounted = record { ready = []; last = false; count = 0 }

-- the bits of samples of which none was read
fresh_samples : (n : GName) (limit : ℕ) (x : Left Bool) → limit ≡ most_bits → holding x.lent (sampled_over uncounted limit None (lent_source n x)) ≡ most_sampled_bits x
fresh_samples n limit x l = rw l refl

hears_sampled : (printed : List Bool → List ℕ) (m n : GName) (left : List Bool) (limit to_come : ℕ) (c : Counted) (asked : Option Bool) (x y a : Left Bool) (o0 o : Written ℕ) (status : Status)
    → limit ≡ most_bits → a ≡ sampled_over uncounted limit None (lent_source n x)
    → HasListenedToSamples printed (length x.left) a (leaving left (sampled_over c to_come asked (lent_source m y))) o0 o status
    → OutWell printed a o0 o status
    → HearsSampled printed x y o0 o status
hears_sampled printed m n left limit to_come c asked x y a o0 o status l is h w =
    let rest = leaving left (sampled_over c to_come asked (lent_source m y)) in
    let k = samples_kept printed (length x.left) a rest o0 o status h in
    let eq : holding x.lent a ≡ most_sampled_bits x = ap (holding x.lent) is ∙ fresh_samples n limit x l in
    record {
      rest = holding x.lent rest;
      listens = subst (λ (b : Left Bool). HasListenedToSamples printed (length x.left) b (holding x.lent rest) o0 o status) eq (samples_holding printed (length x.left) x.lent a rest o0 o status h);
      faults = refl;
      steady = λ t. t;
      tells = k.0 ∙ ap (λ (b : Left Bool). b.tells) is;
      lent = ap (λ (held : List Held). drop 2 held) (k.1 ∙ ap (λ (b : Left Bool). b.lent) is);
      out_well = subst (λ (b : Left Bool). OutWell printed b o0 o status) eq w;
    }

-- so few bits have the samples that are read
few_left : (limit : ℕ) (x a : Left Bool) → limit ≡ most_bits → a.left ≡ sampled_bits (take limit x.left) → length a.left ≤ most_bits
few_left limit x a l is = let h = few_of_first limit x.left in omega (arith, h, l, ap length is)

-- all bits were heard where the status is Done
heard_all : (printed : List Bool → List ℕ) (a b : Left Bool) (o0 o : Written ℕ) (status : Status) → status ≡ Done → HasListened printed a b o0 o status → ListenedToAll printed a b o0 o
heard_all printed a b o0 o status is h = subst (λ (s : Status). HasListened printed a b o0 o s) is h

-- ---- what hearing samples comes to

-- not all bits were heard
pub heard_some : (printed : List Bool → List ℕ) (m n : GName) (limit to_come : ℕ) (c : Counted) (asked : Option Bool) (x y a : Left Bool) (o0 o : Written ℕ) (status : Status)
    → limit ≡ most_bits → a ≡ sampled_over uncounted limit None (lent_source n x) → a.left ≡ sampled_bits (take limit x.left)
    → status ≢ Done → HasListened printed a (sampled_over c to_come asked (lent_source m y)) o0 o status → OutWell printed a o0 o status
    → HearsSampled printed x y o0 o status
heard_some printed m n limit to_come c asked x y a o0 o status l is left ne h w =
    let b = sampled_over c to_come asked (lent_source m y) in
    hears_sampled printed m n b.left limit to_come c asked x y a o0 o status l is (not_all printed (length x.left) a b o0 o status ne (few_left limit x a l left) h) w

-- all bits were heard, and whether a further sample follows was answered
pub heard_to_end : {E : Type 0} (printed : List Bool → List ℕ) (m n : GName) (limit to_come : ℕ) (c : Counted) (asked : Option Bool) (x y a b : Left Bool) (o0 o : Written ℕ) (status : Status) (more : Bool)
    → limit ≡ most_bits → a ≡ sampled_over uncounted limit None (lent_source n x) → (IsTrue x.tells → follows a.lent ≡ nat_lt limit (length x.left))
    → status ≡ Done → HasListened printed a b o0 o status → OutWell printed a o0 o status
    → PassesAll {E = E} b (sampled_over c to_come asked (lent_source m y)) (Ok more)
    → HearsSampled printed x y o0 o (if more then TooLong else Done)
heard_to_end {E} printed m n limit to_come c asked x y a b o0 o status more l is told done h w p =
    let all = heard_all printed a b o0 o status done h in
    let tells : a.tells ≡ x.tells = ap (λ (z : Left Bool). z.tells) is in
    let answer = answered a b (sampled_over c to_come asked (lent_source m y)) x.tells limit (length x.left) more tells all.took.tells all.took.lent told p in
    by_answer more answer (all_to_end printed a b (sampled_over c to_come asked (lent_source m y)) o0 o more all p) tells
  where
    by_answer : (yes : Bool) → (IsTrue x.tells → yes ≡ nat_lt limit (length x.left)) → ListenedToAll printed a (sampled_over c to_come asked (lent_source m y)) o0 o
        → a.tells ≡ x.tells → HearsSampled printed x y o0 o (if yes then TooLong else Done)
    by_answer true answer all tells =
        let b = sampled_over c to_come asked (lent_source m y) in
        hears_sampled printed m n b.left limit to_come c asked x y a o0 o TooLong l is
        (all, λ t. let k = some_more limit (length x.left) (answer (subst IsTrue tells t)) in omega (arith, k, l)) (well_too_long printed a o0 o status w)
    by_answer false answer all tells =
        let b = sampled_over c to_come asked (lent_source m y) in
        hears_sampled printed m n b.left limit to_come c asked x y a o0 o Done l is
        (all, λ t. let k = no_more limit (length x.left) (answer (subst IsTrue tells t)) in omega (arith, k, l)) (well_done printed a o0 o status w)

-- all bits were heard, and a read failed before that was answered
pub heard_to_fault : {E : Type 0} (printed : List Bool → List ℕ) (m n : GName) (limit to_come : ℕ) (c : Counted) (asked : Option Bool) (x y a b : Left Bool) (o0 o : Written ℕ) (status : Status) (e : E)
    → limit ≡ most_bits → a ≡ sampled_over uncounted limit None (lent_source n x)
    → status ≡ Done → HasListened printed a b o0 o status → OutWell printed a o0 o status
    → PassesAll b (sampled_over c to_come asked (lent_source m y)) (Err e)
    → HearsSampled printed x y o0 o FileFault
heard_to_fault printed m n limit to_come c asked x y a b o0 o status e l is done h w p =
    let all = heard_all printed a b o0 o status done h in
    hears_sampled printed m n b.left limit to_come c asked x y a o0 o FileFault l is
    (fault_at_end printed a b (sampled_over c to_come asked (lent_source m y)) o0 o e all p) (well_failed printed a o0 o status w)

-- ---- the reference to the samples

-- the name of the reference to the samples that their bits hold
abbrev pub lender_of : GName → List Held → GName
lender_of other (Follows f ∷ Lent n ∷ rest) = n
lender_of other _ = other

-- it is the one that they were made over
pub lender_heard : (printed : List Bool → List ℕ) (m n : GName) (limit to_come : ℕ) (c : Counted) (asked : Option Bool) (x y a : Left Bool) (o0 o : Written ℕ) (status : Status)
    → a ≡ sampled_over uncounted limit None (lent_source n x) → HasListened printed a (sampled_over c to_come asked (lent_source m y)) o0 o status → m ≡ n
lender_heard printed m n limit to_come c asked x y a o0 o status is h =
    let k = kept printed a (sampled_over c to_come asked (lent_source m y)) o0 o status h in
    ap (lender_of m) (k.1 ∙ ap (λ (b : Left Bool). b.lent) is)

pub lender_at_end : {E : Type 0} (printed : List Bool → List ℕ) (m n : GName) (limit to_come : ℕ) (c : Counted) (asked : Option Bool) (x y a b : Left Bool) (o0 o : Written ℕ) (status : Status) (r : Result Bool E)
    → a ≡ sampled_over uncounted limit None (lent_source n x)
    → HasListened printed a b o0 o status → PassesAll b (sampled_over c to_come asked (lent_source m y)) r → m ≡ n
lender_at_end printed m n limit to_come c asked x y a b o0 o status r is h p =
    let k = kept printed a b o0 o status h in
    ap (lender_of m) (p.lent ∙ (k.1 ∙ ap (λ (z : Left Bool). z.lent) is))

-- ---- the shelf below

-- the files that bits over a shelf hold
abbrev files_below : Files → List Held → OtherFiles
files_below s (Lent n ∷ Text t ∷ OfShelf o ∷ rest) = o
files_below s _ = all_files s

-- samples that are the bits of a file were heard
pub hears_samples : (printed : List Bool → List ℕ) (m n : GName) (name same after : List ℕ) (ready later : List Bool) (from at : ℕ) (old now new : Files) (o0 o : Written ℕ) (status : Status)
    → ready ≡ [] → from ≡ 0 → same ≡ name → now ≡ old
    → HearsSampled printed (shelf_bits n same ready from now) (shelf_bits m after later at new) o0 o status
    → HearsSamples printed name old new o0 o status
hears_samples printed m n name same after ready later from at old now new o0 o status r f s e h =
    let x = shelf_bits n same ready from now in
    let eq : holding old.lent (most_sampled_bits x) ≡ sampled_file_bits name old = rw (r, f, s, e) refl in
    let count : length x.left ≡ length (bytes_bits (old.file name)) = rw (r, f, s, e) refl in
    let listens = samples_holding printed (length x.left) old.lent (most_sampled_bits x) h.rest o0 o status h.listens in
    record {
      rest = holding old.lent h.rest;
      listens = subst (λ (b : Left Bool). HasListenedToSamples printed (length (bytes_bits (old.file name))) b (holding old.lent h.rest) o0 o status) eq
          (subst (λ (k : ℕ). HasListenedToSamples printed k (holding old.lent (most_sampled_bits x)) (holding old.lent h.rest) o0 o status) count listens);
      faults = h.faults;
      steady = λ t. (and_both new.steady (new.there after) (h.steady t)).0;
      tells = h.tells ∙ ap (λ (z : Files). z.tells) e;
      files = ap (files_below old) h.lent ∙ ap all_files e;
      lent = ap (λ (held : List Held). drop 3 held) h.lent ∙ ap (λ (z : Files). z.lent) e;
      out_well = subst (λ (b : Left Bool). OutWell printed b o0 o status) eq h.out_well;
    }
