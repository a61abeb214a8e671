use Rattle.std.proofs.Common.{Some, option_map, sym, ap, ◌∙◌}
use Rattle.std.specs.Cmp.Lexicographic.{nat_list_cmp_total}
use Rattle.std.specs.FinMap.{get, get-from_entries}
use Rattle.subscribers.specs.Placed.{target_at}
use Rattle.subscribers.proofs.Directories.{find-seen_ids, IsPlaceIn-found}
use Rattle.subscribers.proofs.directory.Directory.find.Goals as goal

pub target_in-requires : goal.target_in-requires
target_in-requires c =
    rw c.deref.ensures.value (IsPlaceIn-found c.self.inside.capcodes.items c.args.id.now c.self.inside.ids.entries c.in-Some.place.now c.self.invariant (sym c.in-Some.ensures.value))

pub returns-in-Some : goal.returns-in-Some
returns-in-Some c =
    let id = c.args.id.now in
    let cs = c.self.inside.capcodes.items in
    ap Some (c.target_in.ensures ∙ ap (λ l. target_at l c.in-Some.place.now) c.deref.ensures.value)
    ∙ ap (option_map (target_at cs)) c.in-Some.ensures.value ∙ sym (find-seen_ids cs id c.self.inside.ids.entries)
    ∙ sym (get-from_entries nat_list_cmp_total _ id) ∙ ap (λ m. get m id) c.self.view_is

pub returns-in-None : goal.returns-in-None
returns-in-None c =
    let id = c.args.id.now in
    let cs = c.self.inside.capcodes.items in
    ap (option_map (target_at cs)) c.in-None.ensures.value ∙ sym (find-seen_ids cs id c.self.inside.ids.entries)
    ∙ sym (get-from_entries nat_list_cmp_total _ id) ∙ ap (λ m. get m id) c.self.view_is
