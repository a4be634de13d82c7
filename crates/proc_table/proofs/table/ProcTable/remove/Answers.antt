use Rattle.std.proofs.Common.{None, refl, sym, ◌∙◌, arith}
use Rattle.proc_table.proofs.SlotLemmas.{found_not, length-records_of, none_some}
use Rattle.proc_table.proofs.KeyLemmas.{found-held, IsKeyed-held, Changes-after, IsTable-from_sound, sound_left}
use Rattle.proc_table.proofs.table.ProcTable.remove.Goals as goal

pub returns-in_err-key-clause-value : goal.returns-in_err-key-clause-value
returns-in_err-key-clause-value c =
    rw (← c.self.view_is, found_not c.args.pid c.self.inside.records.slots c.in_err-key.ensures.absent) (grind (arith, c.from_residual.ensures))

pub returns-in_err-key-clause-records : goal.returns-in_err-key-clause-records
returns-in_err-key-clause-records c = record {
  changed = rw (← c.self.view_is) (found_not c.args.pid c.self.inside.records.slots c.in_err-key.ensures.absent);
  others = λ other differs. refl;
}

pub returns-clause-value : goal.returns-clause-value
returns-clause-value c =
    rw (← c.self.view_is) (sym c.remove.ensures.value ∙ found-held c.self.inside.records c.in_ok-key.key c.args.pid c.self.invariant.apart c.in_ok-key.ensures.found)

pub returns-clause-records : goal.returns-clause-records
returns-clause-records c =
    rw (← c.self.view_is) (
    Changes-after c.self.inside.records c.remove.new.self c.in_ok-key.key c.args.pid None c.remove.ensures.updates
    (IsKeyed-held _ _ _ None c.self.invariant.apart c.in_ok-key.ensures.found (λ p some. absurd (none_some p some))) c.self.invariant.apart
    )

pub returns-clause-count : goal.returns-clause-count
returns-clause-count c =
    let before = length-records_of c.self.inside.records.slots in
    let after = length-records_of c.remove.new.self.slots in
    rw (← c.self.view_is) (omega (arith, before, after, c.remove.ensures.len))

pub returns-in_err-key-clause-sound : goal.returns-in_err-key-clause-sound
returns-in_err-key-clause-sound c = rw (← c.self.view_is) (IsTable-from_sound c.self.inside.records c.self.invariant)

pub returns-clause-sound : goal.returns-clause-sound
returns-clause-sound c =
    IsTable-from_sound c.remove.new.self
    (sound_left c.self.inside.records c.remove.new.self c.in_ok-key.key c.args.pid c.self.invariant c.in_ok-key.ensures.found c.remove.ensures.updates c.remove.ensures.len
    c.remove.ensures.capacity)

pub invariant_of-self : goal.invariant_of-self
invariant_of-self c =
    sound_left c.self.inside.records c.remove.new.self c.in_ok-key.key c.args.pid c.self.invariant c.in_ok-key.ensures.found c.remove.ensures.updates c.remove.ensures.len
    c.remove.ensures.capacity
