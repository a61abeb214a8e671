-- The form of a file, of an entry and of a group, by what stands at their keys.
use Rattle.std.proofs.Common.{◌≡◌, ℕ, ℤ, true, false, List, [], ◌∷◌, ◌++◌, codes, Option, Some, None, option_map, option_and_then, unwrap_or, append_assoc, refl, ap}
use Rattle.toml.specs.Data.{Data, Items, item, Members, get_member, as_str, as_integer, as_array}
use Rattle.subscribers.specs.declared.document.Version.{Version}
use Rattle.subscribers.specs.Form.{SubscriberEntry, GroupEntry, Form, file_keys, entry_keys, group_keys, has_only, required, optional, entry_in, subscriber_entry_of, group_in, group_entry_of, all_of, array_of, form_of}

module _ (ms : Members) where
  pub entry_in-other_key : false ≡ has_only entry_keys ms → None ≡ entry_in ms
  unfolding entry_in
  entry_in-other_key k = rw (← k)

  pub entry_in-no_id : true ≡ has_only entry_keys ms → None ≡ required as_str (codes "id") ms → None ≡ entry_in ms
  unfolding entry_in
  entry_in-no_id k i = rw (← k, ← i)

  pub entry_in-no_capcode : (i : List ℕ) → true ≡ has_only entry_keys ms → Some i ≡ required as_str (codes "id") ms → None ≡ required as_integer (codes "capcode") ms → None ≡ entry_in ms
  unfolding entry_in
  entry_in-no_capcode i k a b = rw (← k, ← a, ← b)

  pub entry_in-no_class : (i : List ℕ) (n : ℤ) → true ≡ has_only entry_keys ms → Some i ≡ required as_str (codes "id") ms → Some n ≡ required as_integer (codes "capcode") ms → None ≡ required as_str (codes "class") ms → None ≡ entry_in ms
  unfolding entry_in
  entry_in-no_class i n k a b c = rw (← k, ← a, ← b, ← c)

  pub entry_in-all : (i : List ℕ) (n : ℤ) (s : List ℕ) → true ≡ has_only entry_keys ms → Some i ≡ required as_str (codes "id") ms → Some n ≡ required as_integer (codes "capcode") ms → Some s ≡ required as_str (codes "class") ms
      → Some (record { id = i; capcode = n; class = s }) ≡ entry_in ms
  unfolding entry_in
  entry_in-all i n s k a b c = rw (← k, ← a, ← b, ← c)

  pub group_in-other_key : false ≡ has_only group_keys ms → group_in ms ≡ None
  unfolding group_in
  group_in-other_key k = rw (← k)

  pub group_in-no_id : true ≡ has_only group_keys ms → None ≡ required as_str (codes "id") ms → group_in ms ≡ None
  unfolding group_in
  group_in-no_id k i = rw (← k, ← i)

  no_class : (o : Option (List ℤ)) (i : List ℕ) → option_and_then (λ cs. option_and_then (λ s. Some (let g : GroupEntry = record { id = i; capcodes = cs; class = s } in g)) None) o ≡ None
  no_class None i = refl
  no_class (Some cs) i = refl

  pub group_in-no_class : (i : List ℕ) → true ≡ has_only group_keys ms → Some i ≡ required as_str (codes "id") ms → None ≡ required as_str (codes "class") ms → group_in ms ≡ None
  unfolding group_in
  group_in-no_class i k a c = rw (← k, ← a, ← c) (no_class _ i)

  pub group_in-no_capcodes : (i : List ℕ) → true ≡ has_only group_keys ms → Some i ≡ required as_str (codes "id") ms → required (array_of as_integer) (codes "capcodes") ms ≡ None → group_in ms ≡ None
  unfolding group_in
  group_in-no_capcodes i k a b = rw (← k, ← a, b)

  pub group_in-all : (i : List ℕ) (cs : List ℤ) (s : List ℕ) → true ≡ has_only group_keys ms → Some i ≡ required as_str (codes "id") ms → required (array_of as_integer) (codes "capcodes") ms ≡ Some cs → Some s ≡ required as_str (codes "class") ms
      → group_in ms ≡ Some (record { id = i; capcodes = cs; class = s })
  unfolding group_in
  group_in-all i cs s k a b c = rw (← k, ← a, b, ← c)

module _ (version : Version) (ms : Members) where
  pub form_of-other_key : false ≡ has_only (file_keys version) ms → form_of version ms ≡ None
  unfolding form_of
  form_of-other_key k = rw (← k)

  pub form_of-no_cells : true ≡ has_only (file_keys version) ms → None ≡ required as_integer (codes "cells") ms → form_of version ms ≡ None
  unfolding form_of
  form_of-no_cells k a = rw (← k, ← a)

  pub form_of-no_password : (n : ℤ) → true ≡ has_only (file_keys version) ms → Some n ≡ required as_integer (codes "cells") ms → None ≡ optional as_str (codes "password") ms → form_of version ms ≡ None
  unfolding form_of
  form_of-no_password n k a b = rw (← k, ← a, ← b)

  pub form_of-no_entries : (n : ℤ) (p : Option (List ℕ)) → true ≡ has_only (file_keys version) ms → Some n ≡ required as_integer (codes "cells") ms → Some p ≡ optional as_str (codes "password") ms → optional (array_of subscriber_entry_of) (codes "subscriber") ms ≡ None → form_of version ms ≡ None
  unfolding form_of
  form_of-no_entries n p k a b c = rw (← k, ← a, ← b, c)

  -- the entries and the groups, where both are there
  with_both : Option (Option (List SubscriberEntry)) → Option (Option (List GroupEntry)) → ℤ → Option (List ℕ) → Option Form
  with_both es gs n p = option_and_then (λ es. option_and_then (λ gs. Some (let f : Form = record { cells = n; password = p; entries = unwrap_or es []; groups = unwrap_or gs [] } in f)) gs) es

  no_groups : (o : Option (Option (List SubscriberEntry))) (n : ℤ) (p : Option (List ℕ)) → with_both o None n p ≡ None
  unfolding with_both
  no_groups None n p = refl
  no_groups (Some es) n p = refl

  pub form_of-no_groups : (n : ℤ) (p : Option (List ℕ)) → true ≡ has_only (file_keys version) ms → Some n ≡ required as_integer (codes "cells") ms → Some p ≡ optional as_str (codes "password") ms → optional (array_of group_entry_of) (codes "group") ms ≡ None → form_of version ms ≡ None
  unfolding form_of with_both
  form_of-no_groups n p k a b c = rw (← k, ← a, ← b, c) (no_groups (optional (array_of subscriber_entry_of) (codes "subscriber") ms) n p)

  both_there : (o : Option (Option (List SubscriberEntry))) (q : Option (Option (List GroupEntry))) (n : ℤ) (p : Option (List ℕ)) (es : List SubscriberEntry) (gs : List GroupEntry)
      → option_map (λ l. unwrap_or l []) o ≡ Some es → option_map (λ l. unwrap_or l []) q ≡ Some gs
      → with_both o q n p ≡ Some (record { cells = n; password = p; entries = es; groups = gs })
  unfolding with_both
  both_there None q n p es gs e f = absurd (cc)
  both_there (Some l) None n p es gs e f = absurd (cc)
  both_there (Some l) (Some m) n p es gs e f = cc

  pub form_of-all : (n : ℤ) (p : Option (List ℕ)) (es : List SubscriberEntry) (gs : List GroupEntry) → true ≡ has_only (file_keys version) ms → Some n ≡ required as_integer (codes "cells") ms → Some p ≡ optional as_str (codes "password") ms
      → option_map (λ l. unwrap_or l []) (optional (array_of subscriber_entry_of) (codes "subscriber") ms) ≡ Some es
      → option_map (λ l. unwrap_or l []) (optional (array_of group_entry_of) (codes "group") ms) ≡ Some gs
      → form_of version ms ≡ Some (record { cells = n; password = p; entries = es; groups = gs })
  unfolding form_of with_both
  form_of-all n p es gs k a b c d = rw (← k, ← a, ← b) (both_there _ _ n p es gs c d)

-- An array at a key, by what stands there.
module _ {A : Type 0} (kind : Data → Option A) (key : List ℕ) (ms : Members) where
  pub read_none : None ≡ get_member key ms → option_map (λ l. unwrap_or l []) (optional (array_of kind) key ms) ≡ Some []
  unfolding optional
  read_none e = rw (← e)

  pub read_other : (d : Data) → Some d ≡ get_member key ms → None ≡ as_array d → optional (array_of kind) key ms ≡ None
  unfolding optional
  read_other d e a = rw (← e, ← a)

  pub read_array : (d : Data) (ds : Items) → Some d ≡ get_member key ms → Some ds ≡ as_array d → optional (array_of kind) key ms ≡ option_map Some (all_of kind ds)
  unfolding optional
  read_array d ds e a = rw (← e, ← a)

  pub required_none : None ≡ get_member key ms → required (array_of kind) key ms ≡ None
  unfolding required
  required_none e = rw (← e)

  pub required_other : (d : Data) → Some d ≡ get_member key ms → None ≡ as_array d → required (array_of kind) key ms ≡ None
  unfolding required
  required_other d e a = rw (← e, ← a)

  pub required_array : (d : Data) (ds : Items) → Some d ≡ get_member key ms → Some ds ≡ as_array d → required (array_of kind) key ms ≡ all_of kind ds
  unfolding required
  required_array d ds e a = rw (← e, ← a)

-- The items before the rest.
abbrev pub behind : {A : Type 0} → List A → Option (List A) → Option (List A)
behind xs o = option_map (λ more. xs ++ more) o

-- One more item in front of the rest.
moved : {A : Type 0} (xs : List A) (x : A) (o : Option (List A)) → behind (xs ++ x ∷ []) o ≡ behind xs (option_map (λ more. x ∷ more) o)
moved xs x None = refl
moved xs x (Some more) = ap Some (append_assoc xs (x ∷ []) more)

-- One more item that is of the kind, and one that isn't.
pub behind-item : {A : Type 0} (kind : Data → Option A) (xs : List A) (d : Data) (ds : Items) (x : A) → Some x ≡ kind d → behind (xs ++ x ∷ []) (all_of kind ds) ≡ behind xs (all_of kind (item d ds))
behind-item kind xs d ds x h = rw (← h) (moved xs x (all_of kind ds))

pub behind-no_item : {A : Type 0} (kind : Data → Option A) (xs : List A) (d : Data) (ds : Items) → None ≡ kind d → behind xs (all_of kind (item d ds)) ≡ None
behind-no_item kind xs d ds h = rw (← h)
