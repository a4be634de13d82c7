use Rattle.std.proofs.Common.{◌+◌, Some, sym, ap, ◌∙◌, arith}
use Rattle.proc_table.proofs.SlotLemmas.{length-records_of}
use Rattle.proc_table.proofs.KeyLemmas.{Changes-after, IsKeyed-vacant, IsTable-from_sound, sound_taken}
use Rattle.proc_table.proofs.table.ProcTable.add.Goals as goal

pub returns-then-len-eq-ROOM-clause-answer : goal.returns-then-len-eq-ROOM-clause-answer
returns-then-len-eq-ROOM-clause-answer c =
    let count = length-records_of c.self.inside.records.slots in
    rw (← c.self.view_is) (grind (arith, count, c.if-len-eq-ROOM.true, c.len.ensures))

pub invariant_of-self : goal.invariant_of-self
invariant_of-self c =
    let absent = rw (← c.self.view_is) at c.requires in
    sound_taken c.self.inside.records c.insert_reserved.new.self c.insert_reserved.result c.len.result c.args.p c.self.invariant c.len.ensures c.if-len-eq-ROOM.false absent
    c.insert_reserved.ensures.was_vacant c.insert_reserved.ensures.updates c.insert_reserved.ensures.len c.insert_reserved.ensures.capacity

pub returns-then-len-eq-ROOM-clause-sound : goal.returns-then-len-eq-ROOM-clause-sound
returns-then-len-eq-ROOM-clause-sound c = rw (← c.self.view_is) (IsTable-from_sound c.self.inside.records c.self.invariant)

pub returns-clause-sound : goal.returns-clause-sound
returns-clause-sound c =
    let absent = rw (← c.self.view_is) at c.requires in
    IsTable-from_sound c.insert_reserved.new.self
    (sound_taken c.self.inside.records c.insert_reserved.new.self c.insert_reserved.result c.len.result c.args.p c.self.invariant c.len.ensures c.if-len-eq-ROOM.false absent
    c.insert_reserved.ensures.was_vacant c.insert_reserved.ensures.updates c.insert_reserved.ensures.len c.insert_reserved.ensures.capacity)

pub returns-clause-answer : goal.returns-clause-answer
returns-clause-answer c =
    let count = length-records_of c.self.inside.records.slots in
    rw (← c.self.view_is) (grind (arith, count, c.if-len-eq-ROOM.false, c.len.ensures))

pub returns-clause-records : goal.returns-clause-records
returns-clause-records c =
    let absent = rw (← c.self.view_is) at c.requires in
    rw (← c.self.view_is) (
      Changes-after c.self.inside.records c.insert_reserved.new.self c.insert_reserved.result c.args.p.pid (Some c.args.p)
          c.insert_reserved.ensures.updates (IsKeyed-vacant _ _ _ c.insert_reserved.ensures.was_vacant absent) c.self.invariant.apart,
      length-records_of c.insert_reserved.new.self.slots ∙ c.insert_reserved.ensures.len ∙ ap (λ n. n + 1) (sym (length-records_of c.self.inside.records.slots)),
    )
