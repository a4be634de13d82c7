-- The kernel runs on when pages moved.
use Rattle.std.proofs.Common.{ℕ, List, [], length, ap, arith}
use Rattle.vm_facts.specs.declared.page.Page.{Page}
use Rattle.vm_facts.specs.declared.entry.Entry.{Entry}
use Rattle.vm_facts.specs.declared.entry.Entry.TheVariants as entries
use Rattle.flat_state.specs.Journal.{append}
use Rattle.flat_state.specs.PageNames.{pages_from}
use Rattle.page_model.specs.Pages.{frame_of}
use Rattle.page_model.specs.Placement.{state_of}
use Rattle.page_model.specs.Reading.{source_for}
use Rattle.page_model.specs.PageBytes.{ReadsFrom}
use Rattle.page_model.specs.Conditions.{CanPlace, EntryShared}
use Rattle.page_model.specs.Dues.{NotDue, LeavesDue}
use Rattle.kernel_model.specs.Kernel.{Kernel, zero_step, copy_step, plain_step, get_step, done_step}
use Rattle.kernel_model.specs.Sound.{Sound}
use Rattle.kernel_laws.proofs.Kept.Pages.{writable_shared}
use Rattle.table_steps.proofs.Runs.{each_page_imp}
use Rattle.table_steps.proofs.KernelLawsSoundSteps.{zero_sound, copy_sound, plain_sound, done_sound}
use Rattle.table_steps.proofs.NumbersApart.{zero_numbered, copy_numbered, plain_numbered, done_numbered}
use Rattle.table_steps.proofs.PageLawsDueEntries.{entry_due}
use Rattle.table_steps.proofs.Gets.{reads_fresh}
use Rattle.table_steps.specs.Calls.{CanCopy}
use Rattle.table_steps.specs.Conditions.{CanZero, CanBringIn}
use Rattle.table_steps.specs.Machine.{KernelRuns}
use Rattle.table_steps.specs.Tied.{Tied}
use Rattle.table_steps.specs.View.{Lists}

module _ (size : ℕ) (k : Kernel) (l w : Lists) (r : KernelRuns k l size) (tied : Tied w) where
  pub zero_runs : (q : Page) → CanZero k.place q → LeavesDue k.place (entries.Zero q) → KernelRuns (zero_step k q) w size
  zero_runs q can due =
      let enter : CanPlace k.place (entries.Zero q) = record { there = can.there; frameless = ap frame_of can.unfilled } in
      record {
        sound = zero_sound size k q r.sound enter (writable_shared k.place q can.writable);
        numbered = zero_numbered k q r.numbered;
        due = entry_due [] 0 k.place (entries.Zero q) r.sound.owner.frames enter due r.due;
        tied = tied;
      }

  pub copy_runs : (q parent : Page) → CanCopy k.place q parent → LeavesDue k.place (entries.Copy q) → KernelRuns (copy_step k q) w size
  copy_runs q parent can due =
      let enter : CanPlace k.place (entries.Copy q) = record { there = can.there; frameless = ap frame_of can.unfilled } in
      record {
        sound = copy_sound size k q r.sound enter (writable_shared k.place q can.writable);
        numbered = copy_numbered k q r.numbered;
        due = entry_due [] 0 k.place (entries.Copy q) r.sound.owner.frames enter due r.due;
        tied = tied;
      }

  pub plain_runs : (locked : List Page) (e : Entry) → CanPlace k.place e → LeavesDue k.place e → Sound size (plain_step k locked e) → KernelRuns (plain_step k locked e) w size
  plain_runs locked e can due sound = record {
    sound = sound;
    numbered = plain_numbered k locked e r.numbered;
    due = entry_due locked (length (append k.journal e)) k.place e r.sound.owner.frames can due r.due;
    tied = tied;
  }

  pub get_runs : (q : Page) (lo n : ℕ) → CanBringIn k.place q lo n → KernelRuns (get_step k q lo n) w size
  get_runs q lo n can =
      plain_runs [] (entries.Get q lo n) can.enter
      (each_page_imp (ReadsFrom k.place (source_for (state_of k.place q)) q) (NotDue k.place.due) (pages_from q lo n) can.reads
      (λ s e. reads_fresh k.place (source_for (state_of k.place q)) q s r.due e))
      (plain_sound size k [] (entries.Get q lo n) r.sound can.enter can.shared (let l = can.room in omega arith))

  pub reclaim_runs : (q : Page) → EntryShared k.place (entries.Reclaim q) → KernelRuns (plain_step k [] (entries.Reclaim q)) w size
  reclaim_runs q shared =
      plain_runs [] (entries.Reclaim q) tt tt (plain_sound size k [] (entries.Reclaim q) r.sound tt shared (let l = r.sound.few_transfers in omega arith))

  pub done_runs : (read : List (List ℕ)) → KernelRuns (done_step k read) w size
  done_runs read = record {
    sound = done_sound size k read r.sound;
    numbered = done_numbered k read r.numbered;
    due = entry_due [] 0 k.place entries.Done r.sound.owner.frames tt tt r.due;
    tied = tied;
  }
