use Rattle.std.proofs.Common.{sym, subst}
use Rattle.table_steps.specs.Machine.{Standing}
use Rattle.table_steps.specs.UserMemory.{IsLaidOut}
use Rattle.machine_state.proofs.Layouts.{layout_kept}
use Rattle.machine_state.proofs.user_memory.SpaceMemory.write_page.Goals as goal

pub invariant_of-self : goal.invariant_of-self
invariant_of-self c =
    let l = c.args.self.now.layout in
    record {
      laid_out = subst (λ (s : Standing). IsLaidOut s.kernel l.index l.sid l.image l.text_len l.data_len l.stack_len) (sym c.write_byte.ensures.step)
          (layout_kept c.args.self.now.machine.now.kernel c.args.page c.in-Some.frame c.args.at c.args.byte l.index l.sid l.image l.text_len l.data_len l.stack_len c.args.self.now.laid_out);
    }
