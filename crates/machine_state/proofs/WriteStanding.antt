-- What a machine stands for when bytes were written.
use Rattle.std.proofs.Common.{◌≡◌, ℕ, List, sym, ap, ◌∙◌}
use Rattle.vm_facts.specs.declared.page.Page.{Page}
use Rattle.kernel_model.specs.Kernel.{Kernel, write_step}
use Rattle.table_steps.specs.Tables.{Tables}
use Rattle.machine_state.specs.declared.machine.Machine.TheInside.{Inside}
use Rattle.table_steps.specs.Machine.{kernel_by}
use Rattle.table_steps.specs.Moves.{WroteBytes}
use Rattle.table_steps.specs.UserMemory.{write_run}
use Rattle.machine_state.specs.Fields.{standing_of}
use Rattle.table_steps.proofs.Writes.{Writing, write_kernel, wrote_itself, wrote_tables}

pub write_standing : (m : Inside) (u : Tables) (q : Page) (f at byte : ℕ) → Writing m.tables u q f at byte
    → standing_of (record m { tables = u }) ≡ record (standing_of m) { kernel = write_step (standing_of m).kernel q f at byte }
write_standing m u q f at byte w =
    ap (λ (x : Tables). standing_of (record m { tables = x })) w.wrote.rest
    ∙ ap (λ (k : Kernel). record (standing_of m) { kernel = k }) (write_kernel m.tables (wrote_tables m.tables u) q f at byte m.journal.items m.stopped (wrote_itself m.tables u q f at byte w))

pub run_standing : (m : Inside) (u : Tables) (q : Page) (f at : ℕ) (bytes : List ℕ) → WroteBytes m.tables u q f at bytes
    → kernel_by u m.journal.items m.stopped ≡ write_run (kernel_by m.tables m.journal.items m.stopped) q f at bytes
    → standing_of (record m { tables = u }) ≡ record (standing_of m) { kernel = write_run (standing_of m).kernel q f at bytes }
run_standing m u q f at bytes w kernel =
    ap (λ (x : Tables). standing_of (record m { tables = x })) w.rest
    ∙ ap (λ (k : Kernel). record (standing_of m) { kernel = k }) (ap (λ (x : Tables). kernel_by x m.journal.items m.stopped) (sym w.rest) ∙ kernel)
