use Rattle.std.proofs.Common.{sym, ap, length}
use Rattle.vax_asm.proofs.Places.{places_put, places_kept, same_places, is_none}
use Rattle.vax_asm.proofs.labels.LabelTable.with.Goals.{then-not-contains_key+in_ok-insert, else-not-contains_key}
use Rattle.vax_asm.proofs.labels.LabelTable.with.Goals as goal

pub invariant_of-result : goal.invariant_of-result
invariant_of-result c = elim c.if-not-contains_key.branch [
  | then-not-contains_key+in_ok-insert w ↦ same_places _ _ _ _ (sym c.in_ok-push.ensures.items) (sym w.places-is)
      (places_put c.self.inside.definitions.items c.args.definition c.self.inside.places w.insert.new.self (length w.as_slice.result.now) c.self.invariant (is_none _ w.if-not-contains_key.ensures)
      (ap length w.as_slice.ensures.value) w.in_ok-insert.ensures.updates)
  | else-not-contains_key w ↦ same_places _ _ _ _ (sym c.in_ok-push.ensures.items) (sym w.places-is)
      (places_kept c.self.inside.definitions.items c.args.definition c.self.inside.places c.self.invariant (sym w.if-not-contains_key.ensures))
]
