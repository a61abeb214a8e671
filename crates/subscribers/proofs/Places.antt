-- What the entries add to the map of ids: the earlier ones, and the later ones behind them.
use Rattle.std.proofs.Common.{◌≡◌, List, [], ◌∷◌, ◌++◌, map, Result, Ok, Err, refl, ap, ◌∙◌}
use Rattle.std.proofs.lemmas.List.{map-append}
use Rattle.subscribers.specs.Entries.{IdEntry, with_earlier, listed, joined_results, all_or_first_fault, listed_all}
use Rattle.subscribers.specs.declared.faults.SettingsFault.{SettingsFault}

-- Mapping one after another.
same_map_of : {A : Type 0} (xs : List A) → xs ≡ map (λ x. x) xs
same_map_of [] = refl
same_map_of (x ∷ xs) = ap (λ l. x ∷ l) (same_map_of xs)

pub map_twice : {A B C : Type 0} (f : A → B) (g : B → C) (xs : List A) → map g (map f xs) ≡ map (λ x. g (f x)) xs
map_twice f g [] = refl
map_twice f g (x ∷ xs) = ap (λ l. g (f x) ∷ l) (map_twice f g xs)

-- A place behind some entries.
abbrev pub behind : List IdEntry → List IdEntry × IdEntry → List IdEntry × IdEntry
behind es p = (es ++ p.0, p.1)

abbrev pub later : IdEntry → List IdEntry × IdEntry → List IdEntry × IdEntry
later e p = (e ∷ p.0, p.1)

pub places-append : (a b : List IdEntry) → with_earlier (a ++ b) ≡ with_earlier a ++ map (behind a) (with_earlier b)
places-append [] b = same_map_of (with_earlier b)
places-append (e ∷ a) b =
    ap (λ l. ([], e) ∷ l) (ap (map (later e)) (places-append a b)
    ∙ map-append (later e) (with_earlier a) (map (behind a) (with_earlier b))
    ∙ ap (λ l. map (later e) (with_earlier a) ++ l) (map_twice (behind a) (later e) (with_earlier b)))

-- Two answers one after the other: all of both, or the first fault.
abbrev pub after : {A : Type 0} → List A → Result (List A) SettingsFault → Result (List A) SettingsFault
after xs (Ok ys) = Ok (xs ++ ys)
after xs (Err fault) = Err fault

abbrev pub both : {A : Type 0} → Result (List A) SettingsFault → Result (List A) SettingsFault → Result (List A) SettingsFault
both (Ok xs) r = after xs r
both (Err fault) r = Err fault

after_none : {A : Type 0} (r : Result (List A) SettingsFault) → r ≡ after [] r
after_none (Ok ys) = refl
after_none (Err fault) = refl

joined-both : {A : Type 0} (r : Result A SettingsFault) (s t : Result (List A) SettingsFault) → joined_results r (both s t) ≡ both (joined_results r s) t
joined-both (Ok x) (Ok xs) (Ok ys) = refl
joined-both (Ok x) (Ok xs) (Err fault) = refl
joined-both (Ok x) (Err fault) t = refl
joined-both (Err fault) s t = refl

all-append : {A : Type 0} (rs ss : List (Result A SettingsFault)) → all_or_first_fault (rs ++ ss) ≡ both (all_or_first_fault rs) (all_or_first_fault ss)
all-append [] ss = after_none (all_or_first_fault ss)
all-append (r ∷ rs) ss = ap (joined_results r) (all-append rs ss) ∙ joined-both r (all_or_first_fault rs) (all_or_first_fault ss)

-- What the later entries add, behind the earlier ones.
pub listed_all-append : (a b : List IdEntry) → listed_all (a ++ b) ≡ both (listed_all a) (all_or_first_fault (map (λ p. listed (behind a p)) (with_earlier b)))
unfolding listed_all
listed_all-append a b =
    ap (λ l. all_or_first_fault (map listed l)) (places-append a b)
    ∙ ap all_or_first_fault (map-append listed (with_earlier a) (map (behind a) (with_earlier b)))
    ∙ all-append (map listed (with_earlier a)) (map listed (map (behind a) (with_earlier b)))
    ∙ ap (λ l. both (all_or_first_fault (map listed (with_earlier a))) (all_or_first_fault l)) (map_twice (behind a) listed (with_earlier b))
