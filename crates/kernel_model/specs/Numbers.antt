-- Numbers of spaces and of processes: no two are one, those to come are larger than all, and who lives is a resident.
use Rattle.std.specs.Prelude.{◌≡◌, ℕ, Bool, true, false, map}
use Rattle.page_model.specs.Change.{Change}
use Rattle.page_model.specs.Change.TheVariants.{Resize, Fork, Lend, Exec, End}
use Rattle.page_model.specs.Numbers.{AllDistinct, AllBelow}
use Rattle.page_model.specs.Pages.{numbered}
use Rattle.page_model.specs.Placement.{Placement, space_number}
use Rattle.page_model.specs.Conditions.{LosesPages}
use Rattle.page_model.specs.PuttingOut.{IsResident}
use Rattle.page_model.specs.Swapper.{is_settled}
use Rattle.kernel_model.specs.Kernel.{Life, Kernel, Proc}
use Rattle.kernel_model.specs.Sound.{lives}
use Rattle.kernel_model.specs.ChangeStep.{space_of_life, life_of_proc, gave_back}
use Rattle.kernel_model.specs.Taken.{MayReap}
use Rattle.kernel_model.specs.Asks.{HasSpace}

-- each process that has not ended is in, or out
abbrev pub EachResides : Kernel → Type 0
EachResides k = (pid : ℕ) → lives k.processes pid ≡ true → IsResident k.place pid

-- no two spaces and no two processes have one number, those to come are larger, and who lives is in or out
pub record Numbered (k : Kernel) : Type 0 where
  pub spaces_differ : AllDistinct (map space_number k.place.spaces)
  pub spaces_below : AllBelow k.next_sid (map space_number k.place.spaces)
  pub pids_differ : AllDistinct (map (λ (p : Proc). p.pid) k.processes)
  pub pids_below : AllBelow k.next_pid (map (λ (p : Proc). p.pid) k.processes)
  pub residents : EachResides k

-- a child has the next number
abbrev pub TakesNext : Kernel → Change → Type 0
TakesNext k (Fork child) = child ≡ k.next_pid
TakesNext k (Lend child) = child ≡ k.next_pid
TakesNext k _ = Unit {0}

-- What is known of a process's space before its change: it is there, and settled where it goes or loses pages.
abbrev pub ReadySpace : Placement → ℕ → Bool → Change → Type 0
ReadySpace p sid borrowed (Resize data_pages stack_pages) = HasSpace p sid × (LosesPages p sid data_pages stack_pages → is_settled p sid ≡ true)
ReadySpace p sid borrowed (Fork child) = HasSpace p sid
ReadySpace p sid borrowed (Exec image top) = borrowed ≡ false → HasSpace p sid × (is_settled p sid ≡ true)
ReadySpace p sid borrowed (End status) = borrowed ≡ false → HasSpace p sid × (is_settled p sid ≡ true)
ReadySpace p sid borrowed _ = Unit {0}

-- a process that lives and has this, before a change of it
pub record ReadyBy (k : Kernel) (pid : ℕ) (life : Life) (change : Change) : Type 0 where
  pub alive : lives k.processes pid ≡ true
  pub next : TakesNext k change
  pub reaps : MayReap k.processes change
  pub space : ReadySpace k.place (space_of_life life) (gave_back life) change

-- what is known of the process of this number before its change, by what it has
abbrev pub ReadyFor : Kernel → ℕ → Change → Type 0
ReadyFor k pid change = ReadyBy k pid (life_of_proc (numbered (λ (p : Proc). p.pid) pid k.processes)) change

-- a space that goes or loses pages passes the test of settling
abbrev pub SettlesFor : Placement → ℕ → Change → Type 0
SettlesFor p sid (Resize data_pages stack_pages) = LosesPages p sid data_pages stack_pages → is_settled p sid ≡ true
SettlesFor p sid (Exec image top) = is_settled p sid ≡ true
SettlesFor p sid (End status) = is_settled p sid ≡ true
SettlesFor p sid _ = Unit {0}
