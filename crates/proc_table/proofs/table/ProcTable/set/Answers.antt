use Rattle.std.proofs.Common.{ℕ, Some, is_some, refl, sym, ap, ◌∙◌, arith}
use Rattle.slab.specs.Slab.{Slab, with_value}
use Rattle.slab.proofs.SlabLemmas.{Updates-with_value}
use Rattle.proc_table.specs.declared.process.Proc.{Proc}
use Rattle.proc_table.specs.Fields.{HasPid, AreKeysApart, IsSound}
use Rattle.proc_table.proofs.SlotLemmas.{some_same, found_not, length-records_of}
use Rattle.proc_table.proofs.KeyLemmas.{found-held, IsKeyed, IsKeyed-held, ContainsKey-held, slab_len-with_value, Changes-after, AreKeysApart-after, IsTable-from_sound}
use Rattle.proc_table.proofs.table.ProcTable.set.Goals as goal

keyed : (s : Slab Proc) (key : ℕ) (p : Proc) → AreKeysApart s → HasPid s key p.pid → IsKeyed s key p.pid (Some p)
keyed s key p apart held = IsKeyed-held s key p.pid (Some p) apart held (λ q same. sym (ap (λ (x : Proc). x.pid) (some_same p q same)))

pub returns-in_default-clause-answer : goal.returns-in_default-clause-answer
returns-in_default-clause-answer c =
    rw (← c.self.view_is, found_not c.args.p.pid c.self.inside.records.slots c.in_default.ensures.absent) refl

still_sound : (s : Slab Proc) (key : ℕ) (p : Proc) → IsSound s → HasPid s key p.pid → IsSound (with_value s key p)
still_sound s key p sound held = record {
  few = let few = sound.few in omega (arith, few, slab_len-with_value s key p.pid p held);
  room = sound.room;
  apart =
      AreKeysApart-after s (with_value s key p) key p.pid (Some p)
      (Updates-with_value s key p (ContainsKey-held _ _ _ held)) (keyed _ _ _ sound.apart held) sound.apart;
}

pub invariant_of-self : goal.invariant_of-self
invariant_of-self c = still_sound c.self.inside.records c.in-Some.key c.args.p c.self.invariant c.in-Some.ensures.found

pub returns-in_default-clause-sound : goal.returns-in_default-clause-sound
returns-in_default-clause-sound c = rw (← c.self.view_is) (IsTable-from_sound c.self.inside.records c.self.invariant)

pub returns-clause-sound : goal.returns-clause-sound
returns-clause-sound c =
    IsTable-from_sound (with_value c.self.inside.records c.in-Some.key c.args.p) (still_sound c.self.inside.records c.in-Some.key c.args.p c.self.invariant c.in-Some.ensures.found)

pub returns-clause-answer : goal.returns-clause-answer
returns-clause-answer c =
    let held = c.in-Some.ensures.found in
    rw (← c.self.view_is) (sym (ap is_some (sym (found-held c.self.inside.records c.in-Some.key c.args.p.pid c.self.invariant.apart held) ∙ held.there)))

pub returns-clause-records : goal.returns-clause-records
returns-clause-records c _ =
    let s = c.self.inside.records in
    let held = c.in-Some.ensures.found in
    rw (← c.self.view_is) (
    Changes-after s (with_value s c.in-Some.key c.args.p) c.in-Some.key c.args.p.pid (Some c.args.p)
    (Updates-with_value s c.in-Some.key c.args.p (ContainsKey-held _ _ _ held)) (keyed _ _ _ c.self.invariant.apart held) c.self.invariant.apart
    )

pub returns-clause-count : goal.returns-clause-count
returns-clause-count c =
    let s = c.self.inside.records in
    let held = c.in-Some.ensures.found in
    rw (← c.self.view_is) (
    length-records_of (with_value s c.in-Some.key c.args.p).slots
    ∙ slab_len-with_value s c.in-Some.key c.args.p.pid c.args.p held ∙ sym (length-records_of s.slots)
    )
