use Rattle.std.proofs.Common.{◌+◌, false, List, [], ◌∷◌, ◌++◌, length, IsSome, refl, sym, ap, ◌∙◌, subst, arith, rules}
use Rattle.vm_facts.specs.declared.entry.Entry.{Entry}
use Rattle.vm_facts.specs.declared.entry.Entry.TheVariants as entries
use Rattle.kernel_model.specs.Kernel.{Kernel, in_step}
use Rattle.kernel_laws.proofs.Machine.Swaps.{u_found}
use Rattle.table_steps.specs.Tables.{Tables}
use Rattle.table_steps.specs.Machine.{Standing, kernel_by}
use Rattle.table_steps.specs.Calls.{CanComeIn}
use Rattle.table_steps.specs.Swapping.{AreStored, AsksU, KeepsIn, IsIn}
use Rattle.machine_state.proofs.Standings.{running, stands_now}
use Rattle.machine_state.proofs.Stepping.{Stepped, stepped}
use Rattle.table_steps.proofs.MovedRecords.{IsOutThere}
use Rattle.machine_state.proofs.Goings.{Gone, with_records, in_is, gone_steps, block_place, u_asked, read_regs, in_keeps, entering, entering_alive, entering_lasts}
use Rattle.table_steps.proofs.KernelLawsSoundSteps.{in_sound}
use Rattle.table_steps.proofs.NumbersApart.{in_numbered}
use Rattle.table_steps.proofs.PageLawsDueEntries.{entry_due}
use Rattle.machine_state.proofs.HoldingSteps.{regs_keep}
use Rattle.machine_state.proofs.machine.Machine.u_in.Given.{Over}
use Rattle.machine_state.proofs.machine.Machine.u_in.Goals as goal

pub u_block-block-requires : goal.u_block-block-requires
u_block-block-requires u c =
    let m = c.self.inside in
    let t : Tables = m.tables in
    let k : Kernel = kernel_by t m.journal.items m.stopped in
    let can : CanComeIn k c.args.pid = subst (λ (s : Standing). CanComeIn s.kernel c.args.pid) (sym c.self.view_is) c.requires.can in
    let o : IsOutThere t.processes c.args.pid (Kernel.processes k) = entering t m.journal.items m.stopped c.args.pid can in
    let r = running m c.args.self.now c.self.invariant c.self.view_is c.requires.ready in
    u_found t.book.size k c.args.pid r.sound (entering_alive t.processes c.args.pid (Kernel.processes k) o)

pub read-requires : goal.read-requires
read-requires u c =
    let m = c.self.inside in
    let t : Tables = m.tables in
    let k : Kernel = kernel_by t m.journal.items m.stopped in
    let r = running m c.args.self.now c.self.invariant c.self.view_is c.requires.ready in
    let e = sym c.u_block-block.ensures in
    let p = block_place t.book.size k c.args.pid c.u_block-block.result r.sound e in
    record {
      even = p.even;
      inside =
          let now = stands_now m c.args.self.now c.self.invariant c.self.view_is c.requires.ready.running.runs in
          let within = p.within in
          let area = c.requires.area in
          let size = now.stands.book in
          let ps = ap (λ (s : Standing). s.params.swap_blocks) c.self.view_is in
          omega arith;
    }

pub move_record-requires : goal.move_record-requires
move_record-requires u c =
    let m = c.self.inside in
    let t : Tables = m.tables in
    let k : Kernel = kernel_by t m.journal.items m.stopped in
    let can : CanComeIn k c.args.pid = subst (λ (s : Standing). CanComeIn s.kernel c.args.pid) (sym c.self.view_is) c.requires.can in
    let o : IsOutThere t.processes c.args.pid (Kernel.processes k) = entering t m.journal.items m.stopped c.args.pid can in
    subst IsSome (sym o.found) refl

step : (u : Over) (c : goal.After-push_reserved u)
    → Stepped c.self.inside
    (record c.self.inside {
      tables = with_records c.self.inside.tables c.move_record.new.processes;
      journal = c.push_reserved.new.self;
      room = c.make_room.new.room;
    }) c.args.self.now
    (in_step (kernel_by c.self.inside.tables c.self.inside.journal.items c.self.inside.stopped) c.args.pid c.regs_in-regs.result)
step u c =
    let m = c.self.inside in
    let t : Tables = m.tables in
    let k : Kernel = kernel_by t m.journal.items m.stopped in
    let can : CanComeIn k c.args.pid = subst (λ (s : Standing). CanComeIn s.kernel c.args.pid) (sym c.self.view_is) c.requires.can in
    let o : IsOutThere t.processes c.args.pid (Kernel.processes k) = entering t m.journal.items m.stopped c.args.pid can in
    let r = running m c.args.self.now c.self.invariant c.self.view_is c.requires.ready in
    let g : Gone m c.move_record.new.processes c.push_reserved.new.self.items c.args.pid c.regs_in-regs.result false c.next_place-since.result (entries.SwapIn c.args.pid) = record {
      moved = c.move_record.ensures;
      lasts = entering_lasts t.processes c.args.pid (Kernel.processes k) c.move_record.ensures.was o c.move_record.ensures.found;
      since_is = c.next_place-since.ensures ∙ ap (λ (j : List Entry). length j + 1) (c.as_slice.ensures.value ∙ c.make_room.ensures.same);
      journal_is = c.push_reserved.ensures.items ∙ ap (λ (j : List Entry). j ++ entries.SwapIn c.args.pid ∷ []) c.make_room.ensures.same;
    } in
    stepped m _ c.args.self.now _ c.self.invariant c.self.view_is c.requires.ready
    (gone_steps m (record m { journal = c.push_reserved.new.self; room = c.make_room.new.room }) _ _ _ _ _ _ (in_step k c.args.pid c.regs_in-regs.result) g
    (stands_now m c.args.self.now c.self.invariant c.self.view_is c.requires.ready.running.runs) r.tied (in_is m _ _ _ _ _ g)
    (in_sound t.book.size k c.args.pid c.regs_in-regs.result r.sound) (in_numbered k c.args.pid c.regs_in-regs.result r.numbered)
    (entry_due [] _ k.place (entries.SwapIn c.args.pid) r.sound.owner.frames tt tt r.due)
    (regs_keep k (in_step k c.args.pid c.regs_in-regs.result) c.args.pid c.regs_in-regs.result refl (λ sid h. h)) c.in_ok-make_room.ensures.ok.0 c.make_room.ensures.room)

pub invariant_of-self-in-Done : goal.invariant_of-self-in-Done
invariant_of-self-in-Done u c = (step u c).inside

pub returns-in-Done : goal.returns-in-Done
returns-in-Done u c =
    let m = c.self.inside in
    let k : Kernel = kernel_by m.tables m.journal.items m.stopped in
    let z = step u c in
    let a : AreStored k c.args.pid (u.D.SwapDev.image c.args.swap.now) c.regs_in-regs.result =
    read_regs k c.args.pid c.u_block-block.result c.read.new.buf c.regs_in-regs.result (u.D.SwapDev.image c.args.swap.now)
    (sym c.u_block-block.ensures) c.regs_in-regs.ensures c.in-Done.ensures.done in
    let w : AsksU k c.args.pid (u.D.SwapDev.image c.args.swap.now) (u.D.SwapDev.image c.read.new.self) =
    u_asked k c.args.pid c.u_block-block.result (u.D.SwapDev.image c.args.swap.now) (u.D.SwapDev.image c.read.new.self) (sym c.u_block-block.ensures)
    c.read.ensures.image in
    record {
      step = z.says (λ (k l : Kernel). IsIn k l c.args.pid (u.D.SwapDev.image c.args.swap.now)) (record { regs = c.regs_in-regs.result; stored = a; step = refl });
      rest = search rules;
      keeps =
          z.says (λ (k l : Kernel). KeepsIn k l c.args.pid (u.D.SwapDev.image c.args.swap.now) (u.D.SwapDev.image c.read.new.self))
          (in_keeps k c.args.pid c.regs_in-regs.result (u.D.SwapDev.image c.args.swap.now) (u.D.SwapDev.image c.read.new.self) a w);
      asked = subst (λ (s : Standing). AsksU s.kernel c.args.pid (u.D.SwapDev.image c.args.swap.now) (u.D.SwapDev.image c.read.new.self)) c.self.view_is w;
      left = search rules;
      uncalled = search rules;
      stop = search rules;
      cause = search rules;
      failed = search rules;
      full = search rules;
      goes_on = z.goes_on;
      outside = record { leads = search rules; blocks = search rules; read_faults = search rules; write_faults = search rules };
    }

pub returns-in-Failed-clause-left : goal.returns-in-Failed-clause-left
returns-in-Failed-clause-left u c =
    let m = c.self.inside in
    let k : Kernel = kernel_by m.tables m.journal.items m.stopped in
    subst (λ (s : Standing). AsksU s.kernel c.args.pid (u.D.SwapDev.image c.args.swap.now) (u.D.SwapDev.image c.read.new.self)) c.self.view_is
    (u_asked k c.args.pid c.u_block-block.result (u.D.SwapDev.image c.args.swap.now) (u.D.SwapDev.image c.read.new.self) (sym c.u_block-block.ensures)
    c.read.ensures.image)
