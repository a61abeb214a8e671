-- What an entry gives its id, or its fault, by the parts of the entry.
use Rattle.std.proofs.Common.{◌≡◌, ℕ, Bool, true, false, List, [], ◌∷◌, Some, None, Ok, Err}
use Rattle.codeword.specs.declared.functions.Function.{Function}
use Rattle.subscribers.specs.Entries.{is_id, capcode_of, members_of, function_of_class, subscriber_of, group_of}
use Rattle.subscribers.specs.Form.{SubscriberEntry, GroupEntry}
use Rattle.subscribers.specs.declared.faults.SettingsFault.TheVariants.{Id, IdTwice, Capcode, Class, GroupId, GroupIdTwice, GroupMembers, GroupClass}

module _ (n : ℕ) (t : Bool) (e : SubscriberEntry) where
  pub subscriber_of-no_id : false ≡ is_id e.id → subscriber_of n t e ≡ Err (Id n)
  unfolding subscriber_of
  subscriber_of-no_id i = rw (← i)

  pub subscriber_of-twice : true ≡ is_id e.id → t ≡ true → subscriber_of n t e ≡ Err (IdTwice n)
  unfolding subscriber_of
  subscriber_of-twice i w = rw (← i, w)

  pub subscriber_of-no_capcode : true ≡ is_id e.id → t ≡ false → None ≡ capcode_of e.capcode → subscriber_of n t e ≡ Err (Capcode n)
  unfolding subscriber_of
  subscriber_of-no_capcode i w c = rw (← i, w, ← c)

  pub subscriber_of-no_class : (k : ℕ) → true ≡ is_id e.id → t ≡ false → Some k ≡ capcode_of e.capcode → None ≡ function_of_class e.class → subscriber_of n t e ≡ Err (Class n)
  unfolding subscriber_of
  subscriber_of-no_class k i w c f = rw (← i, w, ← c, ← f)

  pub subscriber_of-all : (k : ℕ) (f : Function) → true ≡ is_id e.id → t ≡ false → Some k ≡ capcode_of e.capcode → Some f ≡ function_of_class e.class → subscriber_of n t e ≡ Ok (record { function = f; capcodes = k ∷ [] })
  unfolding subscriber_of
  subscriber_of-all k f i w c g = rw (← i, w, ← c, ← g)

module _ (n : ℕ) (t : Bool) (g : GroupEntry) where
  pub group_of-no_id : false ≡ is_id g.id → group_of n t g ≡ Err (GroupId n)
  unfolding group_of
  group_of-no_id i = rw (← i)

  pub group_of-twice : true ≡ is_id g.id → t ≡ true → group_of n t g ≡ Err (GroupIdTwice n)
  unfolding group_of
  group_of-twice i w = rw (← i, w)

  pub group_of-no_members : true ≡ is_id g.id → t ≡ false → None ≡ members_of g.capcodes → group_of n t g ≡ Err (GroupMembers n)
  unfolding group_of
  group_of-no_members i w m = rw (← i, w, ← m)

  pub group_of-no_class : (cs : List ℕ) → true ≡ is_id g.id → t ≡ false → Some cs ≡ members_of g.capcodes → None ≡ function_of_class g.class → group_of n t g ≡ Err (GroupClass n)
  unfolding group_of
  group_of-no_class cs i w m f = rw (← i, w, ← m, ← f)

  pub group_of-all : (cs : List ℕ) (f : Function) → true ≡ is_id g.id → t ≡ false → Some cs ≡ members_of g.capcodes → Some f ≡ function_of_class g.class → group_of n t g ≡ Ok (record { function = f; capcodes = cs })
  unfolding group_of
  group_of-all cs f i w m c = rw (← i, w, ← m, ← c)
