use Rattle.std.proofs.Common.{sym, subst}
use Rattle.table_steps.specs.Machine.{Standing}
use Rattle.table_steps.specs.UserMemory.{IsLaidOut}
use Rattle.machine_state.proofs.Downwards.{layout_down}
use Rattle.machine_state.proofs.user_memory.SpaceMemory.put_page_down.Goals as goal

pub invariant_of-self : goal.invariant_of-self
invariant_of-self c =
    let l = c.args.self.now.layout in
    let w = c.write_down.ensures in
    record {
      laid_out = subst (λ (s : Standing). IsLaidOut s.kernel l.index l.sid l.image l.text_len l.data_len l.stack_len) (sym w.machine)
          (layout_down c.args.self.now.machine.now.kernel c.args.page w.frame c.args.at c.args.longwords.now l.index l.sid l.image l.text_len l.data_len l.stack_len c.args.self.now.laid_out);
    }
