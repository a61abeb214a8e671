use Rattle.std.proofs.Common.{ℕ, List, ap, sym, ◌∙◌}
use Rattle.std.specs.BTreeMap.{keys}
use Rattle.std.specs.Map.{keys_of}
use Rattle.receiver.specs.Listeners.{is_one_of}
use Rattle.receiver.proofs.Capcodes.{has_key-is_one_of, none_found}
use Rattle.receiver.proofs.group.HoldersCapcodeSet.find.Goals as goal

pub returns-in_default : goal.returns-in_default
returns-in_default c =
    ap (λ (es : List (ℕ × ℕ)). is_one_of (keys_of es) c.args.number) (sym c.self.view_is)
    ∙ none_found (keys c.self.inside.sets) c.args.number c.self.invariant.0 c.in_default.ensures

pub returns-then-contains_key : goal.returns-then-contains_key
returns-then-contains_key c = (
  c.in-Some.ensures.1,
  ap (λ (es : List (ℕ × ℕ)). is_one_of (keys_of es) c.args.number) (sym c.self.view_is)
      ∙ sym (has_key-is_one_of c.self.inside.sets.entries c.args.number) ∙ sym c.contains_key.ensures ∙ c.if-contains_key.true,
)

pub returns-else-contains_key : goal.returns-else-contains_key
returns-else-contains_key c =
    ap (λ (es : List (ℕ × ℕ)). is_one_of (keys_of es) c.args.number) (sym c.self.view_is)
    ∙ sym (has_key-is_one_of c.self.inside.sets.entries c.args.number) ∙ sym c.contains_key.ensures ∙ c.if-contains_key.false
