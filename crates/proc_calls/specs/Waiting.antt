-- What a wait comes to among the kernel's processes. `wait_reply` of flat_model says the same of a flat state, whose
-- processes are the kernel's where `SameTables` of kernel_model holds.
use Rattle.std.specs.Prelude.{◌≡◌, ℕ, ◌<◌, ◌==◌, ◌&&◌, Bool, false, List, find, Option, Some, None}
use Rattle.vm_facts.specs.declared.regs.Regs.{Regs}
use Rattle.flat_state.specs.declared.change.Change.TheVariants.{Reap}
use Rattle.flat_model.specs.declared.calls.Reply.{Reply}
use Rattle.flat_model.specs.declared.calls.Reply.TheVariants.{Fails, Does, Waits}
use Rattle.flat_model.specs.Calls.{no_children, replied_both}
use Rattle.kernel_model.specs.Kernel.{Life, New, HoldsSpace, LendsSpace, Ended, Proc, Kernel}
use Rattle.kernel_model.specs.ChangeStep.{is_ended}
use Rattle.kernel_model.specs.Sound.{lives}
use Rattle.proc_table.specs.declared.process.Proc.{Proc as Record}
use Rattle.proc_table.specs.declared.process.Life.TheVariants as records
use Rattle.proc_table.specs.Records.{find as find_record}
use Rattle.proc_calls.specs.declared.children.Children.{Children}
use Rattle.proc_calls.specs.declared.children.Children.TheVariants as children

-- a child of this process
abbrev pub is_child : ℕ → Proc → Bool
is_child pid q = q.parent == pid

-- a child that has ended
abbrev pub is_ended_child : ℕ → Proc → Bool
is_ended_child pid q = q.parent == pid && is_ended q.life

-- the status with which a process ended; 0 where it hasn't
abbrev pub exit_status : Life → ℕ
exit_status New = 0
exit_status (HoldsSpace sid) = 0
exit_status (LendsSpace sid child) = 0
exit_status (Ended status) = status

-- of the first child, and the first that has ended: the processes stand by rising pid
abbrev pub wait_by_records : Option Proc → Option Proc → Regs → Reply
wait_by_records None ended regs = Fails no_children
wait_by_records (Some child) None regs = Waits
wait_by_records (Some child) (Some z) regs = Does (replied_both regs z.pid (exit_status z.life)) (Reap z.pid)

-- what a wait of this process replies among these
abbrev pub wait_among : List Proc → ℕ → Regs → Reply
wait_among ps pid regs = wait_by_records (find (is_child pid) ps) (find (is_ended_child pid) ps) regs

-- what a wait of this process replies
abbrev pub wait_answer : Kernel → ℕ → Regs → Reply
wait_answer k pid regs = wait_among k.processes pid regs

-- What a process waits for, by the records of the processes.

-- what is found, as a reply
abbrev pub reply_by : Children → Regs → Reply
reply_by children.None regs = Fails no_children
reply_by children.Living regs = Waits
reply_by (children.Zombie child status) regs = Does (replied_both regs child status) (Reap child)

-- a child that is found as a zombie has ended
abbrev pub HasEnded : List Proc → Children → Type 0
HasEnded ps (children.Zombie child status) = lives ps child ≡ false
HasEnded ps _ = Unit {0}

-- the records with these numbers, of which none is a zombie child
abbrev pub NoneEnded : (ℕ → Type 0) → List Record → ℕ → Type 0
NoneEnded P ps parent = (n status : ℕ) (p : Record) → P n → find_record n ps ≡ Some p → p.parent ≡ parent → p.state ≡ records.Zombie status → ⊥

-- the records with these numbers, of which none is a child
abbrev pub NoChild : (ℕ → Type 0) → List Record → ℕ → Type 0
NoChild P ps parent = (n : ℕ) (p : Record) → P n → find_record n ps ≡ Some p → p.parent ≡ parent → ⊥

-- the record of this number is a child's
pub record IsChild (ps : List Record) (parent n : ℕ) : Type 0 where
  pub there : Record
  pub found : find_record n ps ≡ Some there
  pub its : there.parent ≡ parent

-- one of the records is a child's
pub record HasChild (ps : List Record) (parent : ℕ) : Type 0 where
  pub child : ℕ
  pub is : IsChild ps parent child

-- the record of this number is a child's, and a zombie with this status
pub record IsZombieChild (ps : List Record) (parent n status : ℕ) : Type 0 where
  pub there : Record
  pub found : find_record n ps ≡ Some there
  pub its : there.parent ≡ parent
  pub ended : there.state ≡ records.Zombie status

-- the records whose numbers these are have these children
abbrev pub FoundAmong : (ℕ → Type 0) → List Record → ℕ → Children → Type 0
FoundAmong P ps parent children.None = NoChild P ps parent
FoundAmong P ps parent children.Living = HasChild ps parent × NoneEnded P ps parent
FoundAmong P ps parent (children.Zombie child status) = IsZombieChild ps parent child status × NoneEnded (λ n. (0 < n) × (n < child)) ps parent
