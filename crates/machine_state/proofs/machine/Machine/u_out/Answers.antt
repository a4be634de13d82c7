use Rattle.std.proofs.Common.{◌≡◌, ℕ, ◌+◌, ◌*◌, ◌≤◌, true, List, [], ◌∷◌, ◌++◌, length, Some, refl, sym, ap, ◌∙◌, subst, arith, rules}
use Rattle.vm_facts.specs.SwapImages.{SwapImage}
use Rattle.vm_facts.specs.declared.entry.Entry.{Entry}
use Rattle.vm_facts.specs.declared.entry.Entry.TheVariants as entries
use Rattle.kernel_model.specs.Kernel.{Kernel, out_step}
use Rattle.table_steps.specs.Tables.{Tables}
use Rattle.table_steps.specs.Machine.{Standing, kernel_by}
use Rattle.table_steps.specs.Calls.{CanGoOut}
use Rattle.table_steps.specs.Swapping.{WritesU, SpoilsU, KeepsOut}
use Rattle.machine_state.proofs.Standings.{running, stands_now}
use Rattle.machine_state.proofs.Stepping.{Stepped, stepped}
use Rattle.machine_state.proofs.Goings.{Gone, with_records, out_is, gone_steps, Leaving, leaving, leaving_alive, leaving_held, leaving_lasts, bytes_are, block_place, written, u_spoiled, out_keeps}
use Rattle.flat_state.specs.Flat.{cleared}
use Rattle.kernel_laws.proofs.Machine.Swaps.{u_found}
use Rattle.table_steps.proofs.KernelLawsSoundSteps.{out_sound}
use Rattle.table_steps.proofs.NumbersApart.{out_numbered}
use Rattle.table_steps.proofs.PageLawsDueEntries.{entry_due}
use Rattle.machine_state.proofs.HoldingSteps.{regs_keep}
use Rattle.machine_state.proofs.machine.Machine.u_out.Given.{Over}
use Rattle.machine_state.proofs.machine.Machine.u_out.Goals as goal

pub u_page_of-page-requires : goal.u_page_of-page-requires
u_page_of-page-requires u c =
    let m = c.self.inside in
    let t : Tables = m.tables in
    let k : Kernel = kernel_by t m.journal.items m.stopped in
    let can : CanGoOut k c.args.pid = subst (λ (s : Standing). CanGoOut s.kernel c.args.pid) (sym c.self.view_is) c.requires.can in
    let l : Leaving t k c.args.pid = leaving t m.journal.items m.stopped c.args.pid can in
    record { holds = (l.sid, leaving_held t k c.args.pid l, l.space) }

pub u_block-block-requires : goal.u_block-block-requires
u_block-block-requires u c =
    let m = c.self.inside in
    let t : Tables = m.tables in
    let k : Kernel = kernel_by t m.journal.items m.stopped in
    let can : CanGoOut k c.args.pid = subst (λ (s : Standing). CanGoOut s.kernel c.args.pid) (sym c.self.view_is) c.requires.can in
    let l : Leaving t k c.args.pid = leaving t m.journal.items m.stopped c.args.pid can in
    let r = running m c.args.self.now c.self.invariant c.self.view_is c.requires.ready in
    u_found t.book.size k c.args.pid r.sound (leaving_alive t k c.args.pid l)

pub write-requires : goal.write-requires
write-requires u c =
    let m = c.self.inside in
    let t : Tables = m.tables in
    let k : Kernel = kernel_by t m.journal.items m.stopped in
    let r = running m c.args.self.now c.self.invariant c.self.view_is c.requires.ready in
    let e = sym c.u_block-block.ensures in
    let p = block_place t.book.size k c.args.pid c.u_block-block.result r.sound e in
    record {
      even = p.even;
      inside =
          let now = stands_now m c.args.self.now c.self.invariant c.self.view_is c.requires.ready.running.runs in
          let within = p.within in
          let area = c.requires.area in
          let size = now.stands.book in
          let ps = ap (λ (s : Standing). s.params.swap_blocks) c.self.view_is in
          omega arith;
    }

step : (u : Over) (c : goal.After-push_reserved u)
    → Stepped c.self.inside
    (record c.self.inside {
      tables = with_records c.self.inside.tables c.move_record.new.processes;
      journal = c.push_reserved.new.self;
      room = c.make_room.new.room;
    }) c.args.self.now
    (out_step (kernel_by c.self.inside.tables c.self.inside.journal.items c.self.inside.stopped) c.args.pid)
step u c =
    let m = c.self.inside in
    let t : Tables = m.tables in
    let k : Kernel = kernel_by t m.journal.items m.stopped in
    let can : CanGoOut k c.args.pid = subst (λ (s : Standing). CanGoOut s.kernel c.args.pid) (sym c.self.view_is) c.requires.can in
    let l : Leaving t k c.args.pid = leaving t m.journal.items m.stopped c.args.pid can in
    let r = running m c.args.self.now c.self.invariant c.self.view_is c.requires.ready in
    let g : Gone m c.move_record.new.processes c.push_reserved.new.self.items c.args.pid c.no_regs.result true c.next_place-since.result (entries.SwapOut c.args.pid) = record {
      moved = c.move_record.ensures;
      lasts = leaving_lasts t k c.args.pid c.move_record.ensures.was l c.move_record.ensures.found;
      since_is = c.next_place-since.ensures ∙ ap (λ (j : List Entry). length j + 1) (c.as_slice.ensures.value ∙ c.make_room.ensures.same);
      journal_is = c.push_reserved.ensures.items ∙ ap (λ (j : List Entry). j ++ entries.SwapOut c.args.pid ∷ []) c.make_room.ensures.same;
    } in
    stepped m _ c.args.self.now _ c.self.invariant c.self.view_is c.requires.ready
    (gone_steps m (record m { journal = c.push_reserved.new.self; room = c.make_room.new.room }) _ _ _ _ _ _ (out_step k c.args.pid) g
    (stands_now m c.args.self.now c.self.invariant c.self.view_is c.requires.ready.running.runs) r.tied (out_is m _ _ _ _ _ g c.no_regs.ensures)
    (out_sound t.book.size k c.args.pid r.sound) (out_numbered k c.args.pid r.numbered) (entry_due [] _ k.place (entries.SwapOut c.args.pid) r.sound.owner.frames tt tt r.due)
    (regs_keep k (out_step k c.args.pid) c.args.pid cleared refl (λ sid h. h)) c.in_ok-make_room.ensures.ok.0 c.make_room.ensures.room)

pub invariant_of-self-in-Done : goal.invariant_of-self-in-Done
invariant_of-self-in-Done u c = (step u c).inside

pub returns-in-Done : goal.returns-in-Done
returns-in-Done u c =
    let m = c.self.inside in
    let t : Tables = m.tables in
    let k : Kernel = kernel_by t m.journal.items m.stopped in
    let can : CanGoOut k c.args.pid = subst (λ (s : Standing). CanGoOut s.kernel c.args.pid) (sym c.self.view_is) c.requires.can in
    let l : Leaving t k c.args.pid = leaving t m.journal.items m.stopped c.args.pid can in
    let z = step u c in
    let w : WritesU k c.args.pid (u.D.SwapDev.image c.args.swap.now) (u.D.SwapDev.image c.write.new.self) =
    written k c.args.pid c.u_block-block.result c.u_page_of-page.result (u.D.SwapDev.image c.args.swap.now) (u.D.SwapDev.image c.write.new.self) (sym c.u_block-block.ensures)
    (bytes_are t m.journal.items m.stopped c.args.pid c.u_page_of-page.result l c.u_page_of-page.ensures) c.in-Done.ensures.done in
    record {
      step = z.is ∙ ap (λ (s : Standing). out_step s.kernel c.args.pid) c.self.view_is;
      rest = search rules;
      keeps =
          let r = running m c.args.self.now c.self.invariant c.self.view_is c.requires.ready in
          let now = stands_now m c.args.self.now c.self.invariant c.self.view_is c.requires.ready.running.runs in
          let area = c.requires.area in
          let size = now.stands.book in
          let ps = ap (λ (s : Standing). s.params.swap_blocks) c.self.view_is in
          let long : (image : SwapImage) → u.D.SwapDev.image c.args.swap.now ≡ Some image → 512 * t.book.size ≤ length image.bytes =
          λ image i. let long = u.met.D.SwapDev.whole c.args.swap.now image i in omega arith in
          z.says (λ (k l : Kernel). KeepsOut k l (u.D.SwapDev.image c.args.swap.now) (u.D.SwapDev.image c.write.new.self))
          (out_keeps t.book.size t k c.args.pid (u.D.SwapDev.image c.args.swap.now) (u.D.SwapDev.image c.write.new.self) l r.sound r.numbered can.resident c.u_page_of-page.result
          c.u_page_of-page.ensures long w);
      swapped = subst (λ (s : Standing). WritesU s.kernel c.args.pid (u.D.SwapDev.image c.args.swap.now) (u.D.SwapDev.image c.write.new.self)) c.self.view_is w;
      spoiled = search rules;
      uncalled = search rules;
      stop = search rules;
      cause = search rules;
      failed = search rules;
      full = search rules;
      goes_on = z.goes_on;
      outside = record { leads = search rules; blocks = search rules; read_faults = search rules; write_faults = search rules };
    }

pub returns-in-Failed-clause-spoiled : goal.returns-in-Failed-clause-spoiled
returns-in-Failed-clause-spoiled u c =
    let m = c.self.inside in
    let k : Kernel = kernel_by m.tables m.journal.items m.stopped in
    subst (λ (s : Standing). SpoilsU s.kernel c.args.pid (u.D.SwapDev.image c.args.swap.now) (u.D.SwapDev.image c.write.new.self)) c.self.view_is
    (u_spoiled k c.args.pid c.u_block-block.result (u.D.SwapDev.image c.args.swap.now) (u.D.SwapDev.image c.write.new.self) (sym c.u_block-block.ensures)
    c.in-Failed.ensures.failed)
