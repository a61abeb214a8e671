-- Looking a name up in a list of files, and changing the file of a name.
use Rattle.std.proofs.Common.{◌&&◌, nat_le, length-append, IsTrue, IsFalse, is_some, ◌++◌, ◌≡◌, ◌≢◌, ℕ, zero, suc, ◌-◌, ◌+◌, ◌<◌, ◌≤◌, map, All, IfSome, Bool, true, false, List, [], ◌∷◌, length, take, get_or, set, Option, Some, None, cond, refl, sym, ◌∙◌, ap, subst, arith}
use Rattle.std.specs.Prelude.{String, Vec}
use Rattle.std.specs.declared.alloc.Global.{Global}
use Rattle.std.specs.Str.{bytes_eq}
use Rattle.std.proofs.lemmas.Slice.Eq.{bytes_eq-Decides}
use Rattle.std.proofs.lemmas.Bool.Decides.{nat_tests}
use Rattle.wires.specs.FakeShelf.{FileInMemory, IsPlace, look, AppendsIn, CopiesIn, FreshensIn, can_append, can_freshen, fresh_file, stored, fresh_of, bytes_of}
use Rattle.wires.proofs.Written.{and_both}

pub no_true : (b : Bool) → (b ≡ true → ⊥) → b ≡ false
no_true true h = absurd (h refl)
no_true false h = refl

-- a test that went one way
went_false : {A : Type 0} (b : Bool) (x y : A) → b ≡ false → cond b x y ≡ y
went_false true x y e = cc
went_false false x y e = refl

found_none : {A : Type 0} (b : Bool) (x : A) (y : Option A) → cond b (Some x) y ≡ None → (b ≡ false) × (y ≡ None)
found_none true x y e = cc
found_none false x y e = (refl, e)

pub place_here : (fs : List FileInMemory) (name : List ℕ) (i : ℕ) (d : FileInMemory) → look (take i fs) name ≡ None → i < length fs → bytes_eq (get_or fs i d).name name ≡ true → IsPlace fs name i
place_here [] name i d h lt t = absurd (omega arith)
place_here (f ∷ fs) name zero d h lt t = t
place_here (f ∷ fs) name (suc i) d h lt t =
    let two = found_none (bytes_eq f.name name) f (look (take i fs) name) h in
    (two.0, place_here fs name i d two.1 (omega arith) t)

pub look_more : (fs : List FileInMemory) (name : List ℕ) (i : ℕ) (d : FileInMemory) → look (take i fs) name ≡ None → i < length fs → bytes_eq (get_or fs i d).name name ≡ false → look (take (i + 1) fs) name ≡ None
look_more [] name i d h lt t = absurd (omega arith)
look_more (f ∷ fs) name zero d h lt t = went_false (bytes_eq f.name name) (Some f) None t
look_more (f ∷ fs) name (suc i) d h lt t =
    let two = found_none (bytes_eq f.name name) f (look (take i fs) name) h in
    let rest : look (take (i + 1) fs) name ≡ None = look_more fs name i d two.1 (omega arith) t in
    let e : suc i + 1 ≡ suc (i + 1) = omega arith in
    rw e (went_false (bytes_eq f.name name) (Some f) (look (take (i + 1) fs) name) two.0 ∙ rest)

-- a file changed in its place, under its own name
pub look_set-same : (fs : List FileInMemory) (name : List ℕ) (i : ℕ) (new : FileInMemory) → IsPlace fs name i → bytes_eq new.name name ≡ true → look (set fs i new) name ≡ Some new
look_set-same (f ∷ fs) name zero new p t = rw t refl
look_set-same (f ∷ fs) name (suc i) new p t = went_false (bytes_eq f.name name) (Some f) (look (set fs i new) name) p.0 ∙ look_set-same fs name i new p.1 t
look_set-same [] name i new p t = absurd p

-- and under any other
pub look_set-other : (fs : List FileInMemory) (name other : List ℕ) (i : ℕ) (new : FileInMemory) → IsPlace fs name i → new.name ≡ name → other ≢ name → look (set fs i new) other ≡ look fs other
look_set-other [] name other i new p e ne = absurd p
look_set-other (f ∷ fs) name other zero new p e ne =
    let a : bytes_eq new.name other ≡ false = no_true (bytes_eq new.name other) (λ t. ne (sym ((bytes_eq-Decides new.name other).0 t) ∙ e)) in
    let b : bytes_eq f.name other ≡ false = no_true (bytes_eq f.name other) (λ t. ne (sym ((bytes_eq-Decides f.name other).0 t) ∙ (bytes_eq-Decides f.name name).0 p)) in
    went_false (bytes_eq new.name other) (Some new) (look fs other) a ∙ sym (went_false (bytes_eq f.name other) (Some f) (look fs other) b)
look_set-other (f ∷ fs) name other (suc i) new p e ne =
    ap (cond (bytes_eq f.name other) (Some f)) (look_set-other fs name other i new p.1 e ne)

-- what is found at the place
pub look_place : (fs : List FileInMemory) (name : List ℕ) (i : ℕ) (d : FileInMemory) → IsPlace fs name i → (look fs name ≡ Some (get_or fs i d)) × ((get_or fs i d).name ≡ name)
look_place [] name i d p = absurd p
look_place (f ∷ fs) name zero d p = (rw p refl, (bytes_eq-Decides f.name name).0 p)
look_place (f ∷ fs) name (suc i) d p = let r = look_place fs name i d p.1 in (went_false (bytes_eq f.name name) (Some f) (look fs name) p.0 ∙ r.0, r.1)

-- a file that is set where it stands already
set_again : (fs : List FileInMemory) (i : ℕ) (old : FileInMemory) → old ≡ get_or fs i old → i < length fs → set fs i old ≡ fs
set_again [] i old is lt = absurd (omega arith)
set_again (f ∷ fs) zero old is lt = ap (λ (x : FileInMemory). x ∷ fs) is
set_again (f ∷ fs) (suc i) old is lt = ap (λ (xs : List FileInMemory). f ∷ xs) (set_again fs i old is (omega (arith, lt)))

-- the file at a place, by its name
pub at_place : (fs : List FileInMemory) (name : List ℕ) (i : ℕ) (file : FileInMemory) → IsPlace fs name i → file ≡ get_or fs i file → look fs name ≡ Some file
at_place fs name i file p is = (look_place fs name i file p).0 ∙ ap (λ (x : FileInMemory). Some x) (sym is)

room_less : (most n : ℕ) (piece bytes : List ℕ) → n ≡ length bytes → IsTrue (nat_le (length piece) (most - n)) → (most - length (bytes ++ piece)) + length piece ≡ most - n
room_less most n piece bytes e t = let le : length piece ≤ most - n = grind (arith, nat_tests, t) in omega (arith, le, e, length-append bytes piece)

pub cannot_append : (fs : List FileInMemory) (name piece : List ℕ) → look fs name ≡ None → false ≡ can_append fs name piece
cannot_append fs name piece h = rw h refl

pub appends_where : (fs : List FileInMemory) (name piece : List ℕ) (i : ℕ) (old : FileInMemory) (b : Bool) → IsPlace fs name i → old ≡ get_or fs i old
    → b ≡ (old.fresh && nat_le (length piece) (old.most - length old.bytes)) → b ≡ can_append fs name piece
appends_where fs name piece i old b p is e = rw (at_place fs name i old p is) e

pub appends_at : (fs : List FileInMemory) (name piece : List ℕ) (i : ℕ) (old new : FileInMemory) (b : Bool) → IsPlace fs name i → old ≡ get_or fs i old
    → b ≡ (old.fresh && nat_le (length piece) (old.most - length old.bytes)) → (IsTrue b → new ≡ record { name = old.name; bytes = old.bytes ++ piece; fresh = old.fresh; most = old.most })
    → IsTrue b → AppendsIn fs (set fs i new) name piece
appends_at fs name piece i old new b p is e d t =
    let at = look_place fs name i old p in
    let found : look fs name ≡ Some old = at_place fs name i old p is in
    let named : new.name ≡ name = ap (λ (x : FileInMemory). x.name) (d t) ∙ (ap (λ (x : FileInMemory). x.name) is ∙ at.1) in
    let after : look (set fs i new) name ≡ Some new = look_set-same fs name i new p ((bytes_eq-Decides new.name name).1 named) in
    let fits : IsTrue (nat_le (length piece) (old.most - length old.bytes)) = (and_both old.fresh (nat_le (length piece) (old.most - length old.bytes)) (subst IsTrue e t)).1 in
    record {
      bytes = ap bytes_of after ∙ (ap (λ (x : FileInMemory). x.bytes) (d t) ∙ ap (λ (bs : List ℕ). bs ++ piece) (sym (ap bytes_of found)));
      there = ap is_some after ∙ sym (ap is_some found);
      fresh = ap fresh_of after ∙ (ap (λ (x : FileInMemory). x.fresh) (d t) ∙ sym (ap fresh_of found));
      room = rw (after, found, d t) (room_less old.most (length old.bytes) piece old.bytes refl fits);
      others = λ other ne. look_set-other fs name other i new p named ne;
    }

pub appends_not : (fs : List FileInMemory) (i : ℕ) (old new : FileInMemory) → i < length fs → old ≡ get_or fs i old → new ≡ old → set fs i new ≡ fs
appends_not fs i old new lt is e = rw e (set_again fs i old is lt)

pub can_freshen_there : (fs : List FileInMemory) (name : List ℕ) (i most : ℕ) (old : FileInMemory) (had : Bool) → IsPlace fs name i → old ≡ get_or fs i old → true ≡ can_freshen (record { files = fs; further = had; most = most }) name
can_freshen_there fs name i most old had p is = rw (at_place fs name i old p is) refl

some_not : (o : Option FileInMemory) (f : FileInMemory) → o ≡ Some f → IsFalse (is_some o) → ⊥
some_not o f e h = let t : IsFalse (is_some (Some f)) = subst (λ (x : Option FileInMemory). IsFalse (is_some x)) e h in let u : true ≡ false = t in cc

pub freshens_at : (fs : List FileInMemory) (name : List ℕ) (i most : ℕ) (old new : FileInMemory) (had : Bool) → IsPlace fs name i → i < length fs → old ≡ get_or fs i old
    → new ≡ fresh_file old.name old.most → All (λ (f : FileInMemory). f.most ≡ most) fs
    → FreshensIn (record { files = fs; further = had; most = most }) (record { files = set fs i new; further = had; most = most }) name
freshens_at fs name i most old new had p lt is n all =
    let at = look_place fs name i old p in
    let named : old.name ≡ name = ap (λ (x : FileInMemory). x.name) is ∙ at.1 in
    let roomy : old.most ≡ most = ap (λ (x : FileInMemory). x.most) is ∙ all i old lt in
    let whole : fresh_file old.name old.most ≡ fresh_file name most = λ j. fresh_file (named j) (roomy j) in
    let called : new.name ≡ name = ap (λ (x : FileInMemory). x.name) n ∙ named in
    record {
      fresh = look_set-same fs name i new p ((bytes_eq-Decides new.name name).1 called) ∙ ap (λ (x : FileInMemory). Some x) (n ∙ whole);
      others = λ other ne. look_set-other fs name other i new p called ne;
      further = λ s. refl;
      used = λ f. absurd (some_not (look fs name) (get_or fs i old) at.0 f);
      most = refl;
    }

look_push-same : (fs : List FileInMemory) (name : List ℕ) (new : FileInMemory) → look fs name ≡ None → bytes_eq new.name name ≡ true → look (fs ++ new ∷ []) name ≡ Some new
look_push-same [] name new h t = rw t refl
look_push-same (f ∷ fs) name new h t =
    let two = found_none (bytes_eq f.name name) f (look fs name) h in
    went_false (bytes_eq f.name name) (Some f) (look (fs ++ new ∷ []) name) two.0 ∙ look_push-same fs name new two.1 t

look_push-other : (fs : List FileInMemory) (other : List ℕ) (new : FileInMemory) → bytes_eq new.name other ≡ false → look (fs ++ new ∷ []) other ≡ look fs other
look_push-other [] other new f = went_false (bytes_eq new.name other) (Some new) None f
look_push-other (x ∷ fs) other new f = ap (cond (bytes_eq x.name other) (Some x)) (look_push-other fs other new f)

pub freshens_further : (fs : List FileInMemory) (name : List ℕ) (most : ℕ) (new : FileInMemory) (had has : Bool) → look fs name ≡ None → new ≡ fresh_file name most → IsTrue had → IsFalse has
    → FreshensIn (record { files = fs; further = had; most = most }) (record { files = fs ++ new ∷ []; further = has; most = most }) name
freshens_further fs name most new had has none n h k =
    let called : new.name ≡ name = ap (λ (x : FileInMemory). x.name) n in
    let absent : is_some (look fs name) ≡ false = ap is_some none in
    record {
      fresh = look_push-same fs name new none ((bytes_eq-Decides new.name name).1 called) ∙ ap (λ (x : FileInMemory). Some x) n;
      others = λ other ne. look_push-other fs other new (no_true (bytes_eq new.name other) (λ t. ne (sym ((bytes_eq-Decides new.name other).0 t) ∙ called)));
      further = λ s. absurd (let e : false ≡ true = sym absent ∙ s in cc);
      used = λ f. (h, k);
      most = refl;
    }

pub can_freshen_further : (fs : List FileInMemory) (name : List ℕ) (most : ℕ) (had b : Bool) → look fs name ≡ None → b ≡ (had && nat_le (length name) 255) → b ≡ can_freshen (record { files = fs; further = had; most = most }) name
can_freshen_further fs name most had b h e = rw h e

pub bytes_at : (fs : List FileInMemory) (name : List ℕ) (file : FileInMemory) (bytes : List ℕ) → look fs name ≡ Some file → bytes ≡ file.bytes → IsTrue (is_some (look fs name)) × (bytes ≡ bytes_of (look fs name))
bytes_at fs name file bytes found is = rw found (refl, is)

pub copies_at : (fs : List FileInMemory) (name : List ℕ) (from : ℕ) (buffer : List ℕ) (n : ℕ) (file : FileInMemory) → look fs name ≡ Some file → CopiesIn file.bytes from buffer n
    → IsTrue (is_some (look fs name)) × CopiesIn (bytes_of (look fs name)) from buffer n
copies_at fs name from buffer n file found h = rw found (refl, h)

pub some_holds : (o : Option ℕ) (x most : ℕ) → o ≡ Some x → IfSome o (λ s. s ≡ most) → x ≡ most
some_holds o x most e h = subst (λ (p : Option ℕ). IfSome p (λ s. s ≡ most)) e h

pub all_stored : (files : List (String Global × Vec ℕ Global)) (most : ℕ) → All (λ (f : FileInMemory). f.most ≡ most) (map (λ p. stored p most) files)
all_stored [] most k d lt = absurd (omega arith)
all_stored (p ∷ ps) most zero d lt = refl
all_stored (p ∷ ps) most (suc k) d lt = all_stored ps most k d (omega (arith, lt))
