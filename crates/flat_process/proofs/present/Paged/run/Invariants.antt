use Rattle.std.proofs.Common.{◌≡◌, ◌-◌, length}
use Rattle.user_vax.specs.Program.{accesses}
use Rattle.user_vax.specs.Instruction.{instruction}
use Rattle.flat_state.specs.Space.{answers_of}
use Rattle.flat_process.specs.Present.{pages_of, gathered}
use Rattle.flat_process.proofs.present.Paged.run.Given as goal

abbrev pub invariant-loop-address : goal.invariant-loop-address
invariant-loop-address l = record {
  space : l.self.space ≡ l.fn.self.space;
  registers : l.regs ≡ l.fn.regs;
  pages :
      gathered l.self.pages.items (pages_of l.fn.self.space (accesses (answers_of l.fn.self.space) (instruction l.fn.regs)))
      ≡ gathered l.fn.self.pages.items (pages_of l.fn.self.space (accesses (answers_of l.fn.self.space) (instruction l.fn.regs)));
}

abbrev pub decreases-loop-address : goal.decreases-loop-address
decreases-loop-address l =
    length (gathered l.fn.self.pages.items (pages_of l.fn.self.space (accesses (answers_of l.fn.self.space) (instruction l.fn.regs)))) - length l.self.pages.items
