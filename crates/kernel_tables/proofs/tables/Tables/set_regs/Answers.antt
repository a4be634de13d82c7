use Rattle.std.proofs.Common.{◌≡◌, ℕ, Option, Some, IsSome, refl, sym, ap, ◌∙◌, subst}
use Rattle.proc_table.specs.declared.process.Proc.{Proc as Record}
use Rattle.proc_table.specs.Records.{find, Changes}
use Rattle.kernel_tables.proofs.Records.{found_pid}
use Rattle.kernel_tables.proofs.tables.Tables.set_regs.Goals as goal

pub set_process-requires : goal.set_process-requires
set_process-requires c =
    let n : c.process-process.result.pid ≡ c.args.pid = found_pid c.args.pid c.args.self.now.processes c.process-process.result c.process-process.ensures.record in
    subst (λ (o : Option Record). IsSome o) (sym (ap (λ (k : ℕ). find k c.args.self.now.processes) n ∙ c.process-process.ensures.record)) refl

pub returns : goal.returns
returns c = record {
  was = c.process-process.result;
  there = c.process-process.ensures.record;
  changes = subst (λ (k : ℕ). Changes c.args.self.now.processes c.set_process.new.self.processes k (Some (record c.process-process.result { regs = c.args.regs.now })))
      (found_pid c.args.pid c.args.self.now.processes c.process-process.result c.process-process.ensures.record) c.set_process.ensures.record;
  sound = c.process-process.ensures.sound;
  still_sound = c.set_process.ensures.sound;
  rest = c.set_process.ensures.rest;
}
