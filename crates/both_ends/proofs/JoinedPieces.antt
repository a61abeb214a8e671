-- A piece that may stand at the front of a list is the first piece of every reading.
use Rattle.std.proofs.Common.{◌≡◌, ℕ, List, [], ◌∷◌, ◌++◌, true, refl, ap, sym, ◌∙◌, subst, arith, Option}
use Rattle.std.specs.Prelude.{nat_eq}
use lib.Pointwise.{pointwise}
use Rattle.tap_block.specs.declared.ends.End.{End}
use Rattle.entry_line.specs.Chars.{cr}
use Rattle.tap_block.specs.Chars.{stx, end_char, written, sum_of}
use Rattle.tap_block.specs.Fields.{block_of}
use Rattle.tap_block.specs.Reading.{Mode, AfterLogon, InputPiece, block, piece_text, IsBody, IsTrailer, IsPieceBefore, Reads, mode_after, items_of, a_block}
use Rattle.tap_block.proofs.First.{first_piece, found, equal}

-- two pieces in one place are one
same_piece : (mode : Mode) (p q : InputPiece) (n m : List ℕ) → IsPieceBefore mode p n → IsPieceBefore mode q m → piece_text p ++ n ≡ piece_text q ++ m → ◌≡◌ {A = InputPiece × List ℕ} (p, n) (q, m)
same_piece mode p q n m hp hq e =
    let a = found mode p n hp in
    let b = found mode q m hq in
    let c = ap (λ x. first_piece mode x) e in
    cc

-- the further pieces
pub record GoesFirst (password : Option (List ℕ)) (mode : Mode) (p : InputPiece) (next : List ℕ) (ps : List InputPiece) (r : List ℕ) : Type 0 where
  pub others : List InputPiece
  pub form : ps ≡ p ∷ others
  pub reads : Reads password (mode_after password p mode) others r next

pub goes_first : (password : Option (List ℕ)) (mode : Mode) (p : InputPiece) (next : List ℕ) (ps : List InputPiece) (r x : List ℕ) → x ≡ piece_text p ++ next
    → IsPieceBefore mode p next → Reads password mode ps r x → GoesFirst password mode p next ps r
goes_first password mode p next [] r x e h k = absurd (k.1 p next (sym k.0 ∙ e) h)
goes_first password mode p next (q ∷ qs) r x e h k =
    let same = same_piece mode q p k.0 next k.2 h (sym k.1 ∙ e) in record {
      others = qs;
      form = ap (λ (z : InputPiece × List ℕ). z.0 ∷ qs) same;
      reads = subst (λ (z : InputPiece × List ℕ). Reads password (mode_after password z.0 mode) qs r z.1) same k.3;
    }

-- a written sum and its CR are a trailer
pub written_trailer : (n : ℕ) → IsTrailer (written n ++ cr ∷ [])
written_trailer n = ((λ h. omega (arith, h)), (λ h. omega (arith, h)), (λ h. omega (arith, h)))

same_text : (x : List ℕ) → pointwise nat_eq x x ≡ true
same_text [] = refl
same_text (c ∷ x) = rw (equal c c refl, same_text x) refl

-- a written block at the front is read as this block
pub record BlockFirst (password : Option (List ℕ)) (body : List ℕ) (e : End) (next : List ℕ) (ps : List InputPiece) (r : List ℕ) : Type 0 where
  pub others : List InputPiece
  pub items : items_of password ps ≡ a_block body e true ∷ items_of password others
  pub reads : Reads password AfterLogon others r next

pub block_first : (password : Option (List ℕ)) (body : List ℕ) (e : End) (next : List ℕ) (ps : List InputPiece) (r x : List ℕ) → IsBody body
    → x ≡ block_of body e ++ next → Reads password AfterLogon ps r x → BlockFirst password body e next ps r
block_first password body e next ps r x h form k =
    let g = goes_first password AfterLogon (block body e (written (sum_of ((stx ∷ body) ++ end_char e ∷ [])) ++ cr ∷ [])) next ps r x form (h, written_trailer _) k in record {
      others = g.others;
      items = ap (items_of password) g.form ∙ ap (λ b. a_block body e b ∷ items_of password g.others) (same_text (written (sum_of ((stx ∷ body) ++ end_char e ∷ [])) ++ cr ∷ []));
      reads = g.reads;
    }
