-- A memory of which some pages alone are there, over the frames of a machine.
use Rattle.std.specs.Prelude.{◌≡◌, ℕ, List}
use Rattle.std.specs.Borrow.{MutBor}
use Rattle.vm_facts.specs.Answers.{Answers, ByteWrite, written}
use Rattle.vm_facts.specs.declared.page.Page.{Page}
use Rattle.user_step.specs.Slots.{may_where}
use Rattle.page_model.specs.Placement.{Placement}
use Rattle.kernel_model.specs.Kernel.{Kernel}
use Rattle.machine_state.specs.declared.user_memory.Layout.{Layout}
use Rattle.machine_state.specs.Machine.{Standing}
use Rattle.machine_state.specs.Lent.{WroteThrough}
use Rattle.machine_state.specs.UserMemory.{page_in, kernel_answers}
use Rattle.flat_model.specs.Shown.{is_shown, read_where}

-- what a memory of a space answers of which these pages alone are shown
abbrev pub only : Placement → ℕ → List Page → Answers → Answers
only p sid pages memory = record {
  read = λ address. read_where (is_shown pages (page_in p sid address)) (memory.read address);
  may_write = λ address. may_where (is_shown pages (page_in p sid address)) (memory.may_write address);
}

-- what the space with this number answers then
abbrev pub shown_in : Kernel → ℕ → List Page → Answers
shown_in k sid pages = only k.place sid pages (kernel_answers k sid)

-- bytes of shown pages were written, and the same pages are shown
pub record WroteShown (m : MutBor Standing) (l : Layout) (pages : List Page) (ws : List ByteWrite) (n : MutBor Standing) (k : Layout)
    (after : List Page) : Type 0 where
  pub through : WroteThrough m l ws n k
  pub kept : after ≡ pages
  pub answers : shown_in n.now.kernel k.sid after ≡ written (shown_in m.now.kernel l.sid pages) ws
