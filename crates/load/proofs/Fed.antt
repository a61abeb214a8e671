-- A session that is fed, with one character more.
use Rattle.std.proofs.Common.{◌≡◌, ℕ, ◌+◌, ◌<◌, List, [], ◌∷◌, ◌++◌, length, get_or, take, add-one, append_assoc, ap, sym, ◌∙◌}
use Rattle.std.proofs.Math.Seq.{take-suc}
use Rattle.std.proofs.lemmas.List.{map-append}
use Rattle.entry_line.specs.Chars.{char_of, cr}
use Rattle.page_pool.specs.Pool.{Pool}
use Rattle.subscribers.specs.Directory.{directory_of}
use Rattle.subscribers.specs.Parts.{Parts}
use Rattle.tap_block.specs.Chars.{characters, eot}
use Rattle.tap_block.specs.Fields.{block_of}
use Rattle.tap_block.specs.declared.ends.End.TheVariants.{Etx}
use Rattle.tap_terminal.specs.Session.{Session}
use Rattle.tap_terminal.specs.State.{HearsOn, Stands, TerminalState}
use Rattle.tap_terminal.specs.declared.answers.Answer.{Answer}
use Rattle.tap_terminal.proofs.Verdicts.{gains_pages}
use Rattle.load.specs.Feeding.{IsFed}
use Rattle.load.specs.Generated.{drawn_blocks, drawn_body, drawn_session, logging_on, page_begins}
use Rattle.load.proofs.Drawn.{drawn_blocks-more, drawn_blocks-none}

module _ (settings : Parts) (spare : ℕ) (old new : TerminalState) (before after : Pool) where
  -- one character more
  pub fed-more : (x : List ℕ) (c : ℕ) (answer : Answer) → IsFed settings spare old before x
      → ((session : Session) → Stands settings.password (directory_of settings) spare old x session before.spare → HearsOn settings.password (directory_of settings) spare new x c session answer before after)
      → IsFed settings spare new after (x ++ c ∷ [])
  fed-more x c answer fed hears =
      let h : HearsOn settings.password (directory_of settings) spare new x c fed.session answer before after = hears fed.session fed.stands in
      record {
        session = h.longer;
        stands = h.stands;
        pages_are = gains_pages before after h.gained h.pool ∙ ap (λ l. l ++ h.gained) fed.pages_are ∙ sym h.pages_are;
      }

-- the characters of a list, up to one more
pub characters-more : (x bytes : List ℕ) (i : ℕ) → i < length bytes → (x ++ characters (take i bytes)) ++ char_of (get_or bytes i 0) ∷ [] ≡ x ++ characters (take (i + 1) bytes)
characters-more x bytes i within =
    append_assoc x (characters (take i bytes)) (char_of (get_or bytes i 0) ∷ [])
    ∙ ap (λ l. x ++ l) (sym (map-append char_of (take i bytes) (get_or bytes i 0 ∷ [])))
    ∙ ap (λ l. x ++ characters l) (sym (take-suc bytes i 0 within))
    ∙ ap (λ n. x ++ characters (take n bytes)) (sym (add-one i))

-- the characters of a session so far, and of a further block
pub blocks-more : (draws : ℕ → ℕ) (m : ℕ) (body : List ℕ) → body ≡ drawn_body draws (page_begins draws m)
    → characters (logging_on ++ drawn_blocks draws m) ++ characters (block_of body Etx) ≡ characters (logging_on ++ drawn_blocks draws (m + 1))
blocks-more draws m body is =
    sym (map-append char_of (logging_on ++ drawn_blocks draws m) (block_of body Etx))
    ∙ ap characters (append_assoc logging_on (drawn_blocks draws m) (block_of body Etx))
    ∙ ap (λ b. characters (logging_on ++ (drawn_blocks draws m ++ block_of b Etx))) is
    ∙ ap (λ l. characters (logging_on ++ l)) (drawn_blocks-more draws m)

pub no_blocks : (draws : ℕ → ℕ) → characters logging_on ≡ characters (logging_on ++ drawn_blocks draws 0)
no_blocks draws = ap (λ l. characters (logging_on ++ l)) (sym (drawn_blocks-none draws))

-- the characters of the whole session
pub whole-session : (draws : ℕ → ℕ) (count : ℕ) → characters (logging_on ++ drawn_blocks draws count) ++ characters (eot ∷ cr ∷ []) ≡ characters (drawn_session draws count)
whole-session draws count = sym (map-append char_of (logging_on ++ drawn_blocks draws count) (eot ∷ cr ∷ []))
