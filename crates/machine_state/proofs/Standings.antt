-- What holds of a machine beside its kernel.
use Rattle.std.proofs.Common.{◌≡◌, ℕ, ◌-◌, ◌<◌, Bool, false, List, [], length, take, Option, Some, None, Vec, refl, sym, ap, ◌∙◌, subst, arith}
use Rattle.std.proofs.lemmas.List.{take_all}
use Rattle.std.specs.Vec.{vec_len, vec_capacity}
use Rattle.vm_facts.specs.declared.entry.Entry.{Entry}
use Rattle.table_steps.specs.Joined.{instructions_in, last_says}
use Rattle.swap_book.specs.Holdings.{Holdings}
use Rattle.swap_book.specs.Placing.{place_all}
use Rattle.machine_state.specs.declared.machine.Machine.TheInside.{Inside}
use Rattle.table_steps.specs.Machine.{Standing, KernelRuns, WereFound, lists_of, kernel_by, before_of}
use Rattle.machine_state.specs.Fields.{standing_of, HasRoom, RunsNow, RunsInside}
use Rattle.machine_state.specs.Going.{CanGoOn}
use Rattle.machine_state.specs.Holders.{HoldersStand}
use Rattle.kernel_model.specs.Kernel.{Kernel}
use Rattle.table_steps.specs.Tables.{Tables}

-- a machine that runs, with no pieces found for an entry to come
pub running : (m : Inside) (s : Standing) → RunsInside m → standing_of m ≡ s → CanGoOn s
    → KernelRuns (kernel_by m.tables m.journal.items m.stopped) (lists_of m.tables) m.tables.book.size
running m s h e g =
    let n : RunsNow m = h.running (ap (λ (x : Standing). x.kernel.stopped) e ∙ g.running.runs) in
    let same : before_of m.tables ≡ m.tables.book.holdings = ap (λ (x : Standing). x.before) e ∙ g.whole ∙ sym (ap (λ (x : Standing). x.kernel.holdings) e) in
    subst (λ (hs : Holdings). KernelRuns (record (kernel_by m.tables m.journal.items m.stopped) { holdings = hs }) (lists_of m.tables) m.tables.book.size) same n.stands.runs

pub stands_now : (m : Inside) (s : Standing) → RunsInside m → standing_of m ≡ s → s.kernel.stopped ≡ false → RunsNow m
stands_now m s h e r = h.running (ap (λ (x : Standing). x.kernel.stopped) e ∙ r)

-- the machine runs by its fields
pub runs_by : (m : Inside) (s : Standing) → standing_of m ≡ s → s.kernel.stopped ≡ false → m.stopped ≡ false
runs_by m s e r = ap (λ (x : Standing). x.kernel.stopped) e ∙ r

-- a machine that runs has its journal within its bound
pub runs_within : (m : Inside) → m.stopped ≡ false → (m.stopped ≡ false → RunsNow m) → RunsInside m
runs_within m e now = record { within = (now e).stands.within; running = now }

pub whole_now : (m : Inside) (s : Standing) → standing_of m ≡ s → s.before ≡ s.kernel.holdings → before_of m.tables ≡ m.tables.book.holdings
whole_now m s e w = ap (λ (x : Standing). x.before) e ∙ w ∙ sym (ap (λ (x : Standing). x.kernel.holdings) e)

-- no room was made for an instruction
pub no_room : {A : Type 0} (room : Option ℕ) (journal : Vec Entry A) (limit : ℕ) → room ≡ None → HasRoom room journal limit
no_room None journal limit e = tt
no_room (Some pid) journal limit e = absurd cc

-- room was made for an instruction of a process
pub room_of : (m : Inside) (pid : ℕ) → RunsNow m → m.room ≡ Some pid → last_says (instructions_in pid) m.journal.items ≡ None
    → (length m.journal.items < m.tables.params.journal) × (vec_len m.journal < vec_capacity m.journal)
room_of m pid n e = subst (λ (o : Option ℕ). HasRoom o m.journal m.tables.params.journal) e n.room

-- who holds a space, whatever the journals say
pub holders_by : (t w : Tables) (j i : List Entry) (b a : Bool) (k : Kernel) → kernel_by w i a ≡ k → (HoldersStand (kernel_by t j b) → HoldersStand k)
    → HoldersStand (kernel_by t [] false) → HoldersStand (kernel_by w [] false)
holders_by t w j i b a k is keeps h =
    let now : HoldersStand (kernel_by w i a) = subst HoldersStand (sym is) (keeps (record { spaces = h.spaces; once = h.once })) in
    record { spaces = now.spaces; once = now.once }

-- no pieces wait
pub all_before : (hs : Holdings) → take (length hs - 0) hs ≡ hs
all_before hs = take_all (length hs - 0) hs (omega arith)

pub found_none : (size : ℕ) (hs : Holdings) → WereFound size hs hs
unfolding place_all
found_none size hs = record { pieces = []; found = refl }
