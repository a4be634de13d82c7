use Rattle.std.proofs.Common.{◌≡◌, ℕ, Some, is_some, ap, ◌∙◌, subst}
use Rattle.proc_table.specs.Records.{find, Changes}
use Rattle.kernel_tables.proofs.Records.{found_pid}
use Rattle.table_steps.proofs.u_pages.move_record.Goals as goal

pub returns : goal.returns
returns c =
    let at : c.record_of-process.result.pid ≡ c.args.pid = found_pid c.args.pid c.args.processes.now c.record_of-process.result c.record_of-process.ensures.found in
    let known = c.set-known.ensures.answer ∙ ap is_some (ap (λ (n : ℕ). find n c.args.processes.now) at ∙ c.record_of-process.ensures.found) in
    record {
      was = c.record_of-process.result;
      found = c.record_of-process.ensures.found;
      changes = subst (λ (n : ℕ). Changes c.args.processes.now c.set-known.new.self n (Some (record c.record_of-process.result { regs = c.args.regs; out = c.args.out; since = c.args.since }))) at
          (c.set-known.ensures.records known);
      before = c.record_of-process.ensures.table;
      after = c.set-known.ensures.sound;
    }
