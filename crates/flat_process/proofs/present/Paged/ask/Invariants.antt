use Rattle.std.proofs.Common.{◌≡◌, ◌-◌, [], length}
use Rattle.flat_state.specs.Space.{Space, answers_of}
use Rattle.flat_state.specs.Flat.{Process, FlatState}
use Rattle.user_vax.specs.Program.{accesses}
use Rattle.flat_model.specs.Calls.{reply_of}
use Rattle.flat_process.specs.Holdings.{no_process, no_space}
use Rattle.flat_process.specs.Present.{pages_of, gathered}
use Rattle.flat_process.proofs.present.Paged.ask.Given as goal

abbrev pub invariant-loop-address : goal.invariant-loop-address
invariant-loop-address l = record {
  space : l.self.space ≡ l.fn.self.space;
  pages : (F : FlatState) (p : Process) (s : Space)
      → gathered l.self.pages.items (pages_of l.fn.self.space (accesses (answers_of l.fn.self.space) (reply_of l.programs F p s l.call l.regs)))
      ≡ gathered l.fn.self.pages.items (pages_of l.fn.self.space (accesses (answers_of l.fn.self.space) (reply_of l.programs F p s l.call l.regs)));
}

abbrev pub decreases-loop-address : goal.decreases-loop-address
decreases-loop-address l =
    length (gathered l.fn.self.pages.items (pages_of l.fn.self.space (accesses (answers_of l.fn.self.space)
    (reply_of l.programs (record { processes = []; next_pid = 0; next_sid = 0 }) no_process no_space l.call l.regs)))) - length l.self.pages.items
