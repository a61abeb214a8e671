-- The pages of a group are counted, over a further front of a word.
use Rattle.std.proofs.lemmas.Bool.{false≢true}
use Rattle.std.proofs.Common.{◌≡◌, ℕ, IsTrue, ◌<◌, ◌+◌, Bool, true, false, List, [], ◌∷◌, ◌++◌, length, Option, Some, None, is_some, append-nil, append_assoc, length-append, arith, refl, subst, ap, sym, ◌∙◌}
use Rattle.receiver.specs.Heard.{HeardPage, heard}
use Rattle.receiver.specs.Listeners.{Listener, StandsFor, is_one_of, ready_answer, ready_pages}
use Rattle.receiver.specs.declared.ready.Ready.{Ready}
use Rattle.load.specs.Counting.{HasCounted}

-- of a word this piece is left
abbrev pub CountsOn : Listener → ℕ → Listener → ℕ → List Bool → List Bool → Type 0
CountsOn first before now count word piece =
    (bits : List Bool) → HasCounted first before bits → (taken : List Bool) × (word ≡ taken ++ piece) × HasCounted now count (bits ++ taken)

pub some_page : (r : Option HeardPage) (a : Option Ready) → a ≡ ready_answer r → is_some a ≡ true → length (ready_pages r) ≡ 1
some_page None a h s = absurd (cc)
some_page (Some page) a h s = refl

pub no_page : (r : Option HeardPage) (a : Option Ready) → a ≡ ready_answer r → is_some a ≡ false → length (ready_pages r) ≡ 0
no_page None a h s = refl
no_page (Some page) a h s = absurd (cc)

module _ (first : Listener) (before : ℕ) (word : List Bool) (old new : Listener) (piece rest t : List Bool) where
  pub counts-more : (count n : ℕ) → CountsOn first before old count word piece → new.capcodes ≡ old.capcodes → piece ≡ t ++ rest
      → ((bits : List Bool) → StandsFor old bits → StandsFor new (bits ++ t))
      → ((bits : List Bool) → StandsFor old bits → heard (is_one_of old.capcodes) (bits ++ t) ≡ heard (is_one_of old.capcodes) bits ++ ready_pages new.ready)
      → length (ready_pages new.ready) ≡ n → CountsOn first before new (count + n) word rest
  counts-more count n so_far capcodes whole stands page size = λ bits h.
      let (taken, is, counted) = so_far bits h in
      let more : count + n ≡ length (heard (is_one_of old.capcodes) ((bits ++ taken) ++ t)) =
      ap (λ m. m + n) counted.count_is
      ∙ ap (λ m. length (heard (is_one_of old.capcodes) (bits ++ taken)) + m) (sym size)
      ∙ sym (length-append (heard (is_one_of old.capcodes) (bits ++ taken)) (ready_pages new.ready))
      ∙ sym (ap length (page (bits ++ taken) counted.stands)) in (
        taken ++ t,
        is ∙ ap (λ l. taken ++ l) whole ∙ sym (append_assoc taken t rest),
        record {
          stands = subst (StandsFor new) (append_assoc bits taken t) (stands (bits ++ taken) counted.stands);
          count_is = more ∙ ap (λ l. length (heard (is_one_of old.capcodes) l)) (append_assoc bits taken t)
              ∙ ap (λ cs. length (heard (is_one_of cs) (bits ++ (taken ++ t)))) (sym capcodes);
        },
      )

pub counts-none : (group : Listener) (count : ℕ) (word : List Bool) → CountsOn group count group count word word
counts-none group count word = λ bits h. ([], refl, subst (HasCounted group count) (sym (append-nil bits)) h)

pub counts-all : (first : Listener) (before : ℕ) (now : Listener) (count : ℕ) (word piece : List Bool) → CountsOn first before now count word piece → piece ≡ []
    → (bits : List Bool) → HasCounted first before bits → HasCounted now count (bits ++ word)
counts-all first before now count word piece so_far end = λ bits h.
    let (taken, is, counted) = so_far bits h in
    subst (λ l. HasCounted now count (bits ++ l)) (sym (is ∙ ap (λ l. taken ++ l) end ∙ append-nil taken)) counted

pub nonempty : (xs : List Bool) → (xs ≡ [] → IsTrue false) → 0 < length xs
nonempty [] h = absurd (false≢true (h refl))
nonempty (x ∷ xs) h = omega arith
