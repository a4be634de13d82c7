-- What a change of a process asks of the tables, and the tables after it.
use Rattle.std.specs.Prelude.{◌≡◌, ℕ, ◌<◌, true, false, [], length, map, Option, Some, None}
use Rattle.kernel_tables.specs.Records.{find}
use Rattle.flat_state.specs.Numbers.{AllDistinct, AllBelow}
use Rattle.flat_state.specs.declared.change.Change.{Change}
use Rattle.flat_state.specs.declared.change.Change.TheVariants.{Fork, Lend}
use Rattle.swap_book.specs.Book.{with_holdings}
use Rattle.page_model.specs.Placement.{Placement}
use Rattle.page_model.specs.Place.{Changing, place_change}
use Rattle.page_model.specs.Conditions.{IsSettled, CanChange, CanForget, MayForget}
use Rattle.kernel_model.specs.Kernel.{Proc}
use Rattle.kernel_model.specs.Unit.{has_lender}
use Rattle.kernel_model.specs.Asks.{HasSpace}
use Rattle.kernel_model.specs.Numbers.{ReadySpace}
use Rattle.kernel_model.specs.Taken.{MayReap}
use Rattle.kernel_model.specs.ChangeStep.{space_of_life, gave_back, procs_after, holdings_after, pid_after, sid_after, starts_with}
use Rattle.kernel_tables.specs.declared.tables.Tables.{Tables}
use Rattle.kernel_tables.specs.Rising.{sids_of}
use Rattle.kernel_tables.specs.Alike.{AreRecords}
use Rattle.kernel_tables.specs.Lives.{space_of_record}
use Rattle.kernel_tables.specs.View.{starts_of, placement_of, frames_of}
use Rattle.kernel_tables.specs.Tied.{Tied}
use Rattle.kernel_tables.specs.Known.{Known}
use Rattle.kernel_tables.specs.Machine.{lists_of, images_of}
use Rattle.kernel_tables.specs.Changing.{GaveUp, processes_in, process_in}
use Rattle.kernel_tables.specs.Applying.{MayAct, IsWholeChange, leaves_space, makes_process}

-- the placement that the tables stand for
abbrev pub placement_in : Tables → Placement
placement_in t = placement_of (lists_of t)

-- A space that a process leaves.

-- a space that may be given up
pub record MayGiveUp (t : Tables) (sid : ℕ) : Type 0 where
  pub there : HasSpace (placement_in t) sid
  pub settled : IsSettled (placement_in t) sid
  pub forgets : CanForget (placement_in t) sid

-- the space that a process leaves, if it leaves one, may be given up
abbrev pub MayLeave : Tables → Option ℕ → Type 0
MayLeave t None = Unit {0}
MayLeave t (Some sid) = MayGiveUp t sid

-- a process without a space leaves none
abbrev pub LeftSpace : Tables → Tables → Option ℕ → Type 0
LeftSpace t u None = u ≡ t
LeftSpace t u (Some sid) = GaveUp t u sid

-- the space in which the process of this number runs, if it has one
abbrev pub space_at : Tables → ℕ → Option ℕ
space_at t pid = space_of_record (find pid t.processes)

-- The change.

-- a child has the next number
abbrev pub NamesNext : ℕ → Change → Type 0
NamesNext next (Fork child) = child ≡ next
NamesNext next (Lend child) = child ≡ next
NamesNext next _ = Unit {0}

-- No page is due. The process is there, and what it has allows the change: its space is there, and settled where it goes
-- or loses pages; who is reaped ended before; who leaves a space borrowed none.
pub record MayApply (t : Tables) (pid : ℕ) (change : Change) : Type 0 where
  pub known : Known (lists_of t)
  pub clear : t.fills.items ≡ []
  pub below : AllBelow t.next_sid (sids_of t.spaces)
  pub records : AreRecords t.processes t.next_pid
  pub differ : AllDistinct (map (λ (q : Proc). q.pid) (processes_in t))
  pub process : Proc
  pub there : process_in t pid ≡ Some process
  pub acts : MayAct process.life change
  pub space : ReadySpace (placement_in t) (space_of_life process.life) (gave_back process.life) change
  pub can : CanChange (placement_in t) (space_of_life process.life) (gave_back process.life) t.next_sid change
  pub forgets : MayForget (lists_of t).facts (placement_in t) (space_of_life process.life) (gave_back process.life) t.next_sid change
  pub next : NamesNext t.next_pid change
  pub reaps : MayReap (processes_in t) change
  pub alone : leaves_space change ≡ true → has_lender (processes_in t) pid ≡ false
  pub whole : IsWholeChange (images_of t) change
  pub few : makes_process change ≡ true → length (processes_in t) < 64

-- what the change of this process goes by, in the tables, in from this place in the journal on
abbrev pub changing_tables : Tables → Proc → ℕ → Changing
changing_tables t p since = record {
  images = (lists_of t).facts;
  pid = p.pid;
  sid = space_of_life p.life;
  borrowed = gave_back p.life;
  next_sid = t.next_sid;
  at = since;
}

-- the tables are as the kernel is after the change, with what is known of them; the sizes, the images and the transfers
-- in flight are as before
pub record Applied (t u : Tables) (p : Proc) (since : ℕ) (change : Change) : Type 0 where
  pub place : placement_in u ≡ place_change (changing_tables t p since) (placement_in t) change
  pub frames : frames_of (lists_of u) ≡ frames_of (lists_of t)
  pub tied : Tied (lists_of u)
  pub book : u.book ≡ with_holdings t.book (holdings_after (changing_tables t p since) t.book.holdings (placement_in t) (placement_in u) change)
  pub processes : processes_in u ≡ procs_after (processes_in t) p t.next_sid change
  pub records : AreRecords u.processes u.next_pid
  pub next_pid : u.next_pid ≡ pid_after t.next_pid change
  pub next_sid : u.next_sid ≡ sid_after t.next_sid change
  pub starts : starts_of u.fills.items ≡ starts_with (starts_of t.fills.items) t.next_sid change
  pub params : u.params ≡ t.params
  pub images : u.images ≡ t.images
  pub ring : u.ring ≡ t.ring

-- whichever the process is, and since whenever a child is in
abbrev pub AppliesAs : Tables → Tables → ℕ → ℕ → Change → Type 0
AppliesAs t u pid since change = (p : Proc) → process_in t pid ≡ Some p → Applied t u p since change
