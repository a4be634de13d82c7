use Rattle.std.proofs.Common.{sym, subst}
use Rattle.table_steps.specs.Machine.{Standing}
use Rattle.table_steps.specs.UserMemory.{IsLaidOut}
use Rattle.machine_state.proofs.Layouts.{layout_after}
use Rattle.machine_state.proofs.user_memory.SpaceMemory.put_page.Goals as goal

pub invariant_of-self : goal.invariant_of-self
invariant_of-self c =
    let l = c.args.self.now.layout in
    let w = c.write_bytes.ensures in
    record {
      laid_out = subst (λ (s : Standing). IsLaidOut s.kernel l.index l.sid l.image l.text_len l.data_len l.stack_len) (sym w.machine)
          (layout_after c.args.self.now.machine.now.kernel c.args.page w.frame c.args.at c.args.bytes.now l.index l.sid l.image l.text_len l.data_len l.stack_len c.args.self.now.laid_out);
    }
