use Rattle.std.proofs.Common.{◌≡◌, true, sym, ◌∙◌, subst, arith}
use Rattle.core_map.specs.Slots.{slot_at, is_slot_dirty}
use Rattle.table_steps.specs.Tables.{Tables}
use Rattle.table_steps.specs.Known.{Known}
use Rattle.table_steps.specs.Machine.{Standing, lists_of}
use Rattle.table_steps.specs.Moves.{WroteBytes}
use Rattle.table_steps.specs.UserMemory.{IsOwnPage}
use Rattle.table_steps.proofs.Touches.{InFrame}
use Rattle.table_steps.proofs.WritesTogether.{CanWrite}
use Rattle.table_steps.proofs.UserFrames.{own_home}
use Rattle.machine_state.specs.declared.machine.Machine.TheInside.{Inside}
use Rattle.machine_state.proofs.PageWrites.{can_write, known_then, frame_then, resident_then, wrote_again, bytes_run, bytes_ran}
use Rattle.machine_state.proofs.machine.Machine.write_bytes.Goals as goal

pub is_dirty-requires : goal.is_dirty-requires
is_dirty-requires c =
    let m : Inside = c.self.inside in
    let q = c.args.page in
    let f = c.args.frame in
    let can : CanWrite m.tables q f m.journal.items m.stopped =
    can_write m c.args.self.now q f c.self.invariant c.self.view_is c.requires.running c.stands.ensures c.requires.valid c.requires.writable in
    resident_then m.tables q f m.journal.items m.stopped can

pub put_bytes-requires : goal.put_bytes-requires
put_bytes-requires c =
    let m : Inside = c.self.inside in
    let q = c.args.page in
    let f = c.args.frame in
    let can : CanWrite m.tables q f m.journal.items m.stopped =
    can_write m c.args.self.now q f c.self.invariant c.self.view_is c.requires.running c.stands.ensures c.requires.valid c.requires.writable in
    record { resident = resident_then m.tables q f m.journal.items m.stopped can; within = c.requires.within }

pub invariant_of-self : goal.invariant_of-self
invariant_of-self c =
    let m : Inside = c.self.inside in
    let q = c.args.page in
    let f = c.args.frame in
    let bytes = c.args.bytes.now in
    let u : Tables = record m.tables { core = c.put_bytes.new.self } in
    let can : CanWrite m.tables q f m.journal.items m.stopped =
    can_write m c.args.self.now q f c.self.invariant c.self.view_is c.requires.running c.stands.ensures c.requires.valid c.requires.writable in
    let dirty : is_slot_dirty (slot_at m.tables.core.slots f) ≡ true = sym c.is_dirty.ensures ∙ c.if-is_dirty.true in
    let wrote : WroteBytes m.tables u q f c.args.at bytes =
    wrote_again m.tables c.put_bytes.new.self q f c.args.at bytes m.journal.items m.stopped can dirty c.put_bytes.ensures.free c.put_bytes.ensures.slots in
    bytes_run m c.args.self.now u q f c.args.at bytes c.self.invariant c.self.view_is c.requires.running can c.requires.some wrote

pub returns-then-is_dirty : goal.returns-then-is_dirty
returns-then-is_dirty c =
    let m : Inside = c.self.inside in
    let q = c.args.page in
    let f = c.args.frame in
    let bytes = c.args.bytes.now in
    let u : Tables = record m.tables { core = c.put_bytes.new.self } in
    let can : CanWrite m.tables q f m.journal.items m.stopped =
    can_write m c.args.self.now q f c.self.invariant c.self.view_is c.requires.running c.stands.ensures c.requires.valid c.requires.writable in
    let dirty : is_slot_dirty (slot_at m.tables.core.slots f) ≡ true = sym c.is_dirty.ensures ∙ c.if-is_dirty.true in
    let wrote : WroteBytes m.tables u q f c.args.at bytes =
    wrote_again m.tables c.put_bytes.new.self q f c.args.at bytes m.journal.items m.stopped can dirty c.put_bytes.ensures.free c.put_bytes.ensures.slots in
    bytes_ran m c.args.self.now u q f c.args.at bytes c.self.view_is can c.requires.valid c.requires.some c.requires.within wrote

pub write_bytes-requires : goal.write_bytes-requires
write_bytes-requires c =
    let m : Inside = c.self.inside in
    let q = c.args.page in
    let f = c.args.frame in
    let can : CanWrite m.tables q f m.journal.items m.stopped =
    can_write m c.args.self.now q f c.self.invariant c.self.view_is c.requires.running c.stands.ensures c.requires.valid c.requires.writable in
    let k : Known (lists_of m.tables) = known_then m.tables q f m.journal.items m.stopped can in
    let i : InFrame (lists_of m.tables) q f = frame_then m.tables q f m.journal.items m.stopped can in
    record {
      home = own_home (lists_of m.tables) c.args.index q c.requires.writable (subst (λ (s : Standing). IsOwnPage s.kernel.place c.args.index q) (sym c.self.view_is) c.requires.own);
      resident = resident_then m.tables q f m.journal.items m.stopped can;
      below = i.below;
      within = c.requires.within;
      above = i.above;
      small =
          let a = i.below in
          let b = k.tied.few_frames in
          omega arith;
    }

pub invariant_of-self-2 : goal.invariant_of-self-2
invariant_of-self-2 c =
    let m : Inside = c.self.inside in
    let q = c.args.page in
    let f = c.args.frame in
    let can : CanWrite m.tables q f m.journal.items m.stopped =
    can_write m c.args.self.now q f c.self.invariant c.self.view_is c.requires.running c.stands.ensures c.requires.valid c.requires.writable in
    bytes_run m c.args.self.now c.write_bytes.new.self q f c.args.at c.args.bytes.now c.self.invariant c.self.view_is c.requires.running can c.requires.some c.write_bytes.ensures

pub returns : goal.returns
returns c =
    let m : Inside = c.self.inside in
    let q = c.args.page in
    let f = c.args.frame in
    let can : CanWrite m.tables q f m.journal.items m.stopped =
    can_write m c.args.self.now q f c.self.invariant c.self.view_is c.requires.running c.stands.ensures c.requires.valid c.requires.writable in
    bytes_ran m c.args.self.now c.write_bytes.new.self q f c.args.at c.args.bytes.now c.self.view_is can c.requires.valid c.requires.some c.requires.within c.write_bytes.ensures
