-- Machines that go on after entries.
use Rattle.std.proofs.Common.{◌≡◌, ℕ, ◌/◌, ◌%◌, List, [], ◌∷◌, Option, Some, None, refl, sym, ap, ◌∙◌, subst, arith}
use Rattle.std.specs.Prelude.{IsSome}
use Rattle.vm_facts.specs.Answers.{ByteWrite}
use Rattle.vm_facts.specs.declared.page.Page.{Page}
use Rattle.vm_facts.specs.declared.page.PageState.{PageState}
use Rattle.vm_facts.specs.declared.page.PageState.TheVariants.{Unfilled, Valid, Invalid, Coming, Going, OnSwap}
use Rattle.vm_facts.specs.declared.page.Page.TheVariants as pages
use Rattle.vm_facts.specs.declared.regs.Regs.{Regs}
use Rattle.vm_facts.specs.declared.entry.Entry.{Entry}
use Rattle.vm_facts.specs.declared.entry.Entry.TheVariants as entries
use Rattle.aout_image.specs.declared.Image.{Image}
use Rattle.swap_book.specs.Holdings.{Holdings}
use Rattle.flat_state.specs.declared.change.Change.{Change}
use Rattle.flat_state.specs.Journal.{counted, instructions_of, IsPlain}
use Rattle.flat_state.specs.declared.spot.Spot.{Spot}
use Rattle.flat_state.specs.declared.spot.Spot.TheVariants.{Text, Data, Stack, Below, Outside}
use Rattle.page_model.specs.Placement.{state_of}
use Rattle.kernel_model.specs.Kernel.{Proc, Kernel, note_step, write_by_state}
use Rattle.kernel_model.specs.ChangeStep.{change_if, ran_by, pass_step, changing_of}
use Rattle.kernel_model.specs.Unit.{proc_of}
use Rattle.machine_state.specs.Machine.{Standing}
use Rattle.machine_state.specs.Applying.{facts_named}
use Rattle.machine_state.specs.UserMemory.{spot_in, write_page, write_spot, write_in, writes_in}
use Rattle.swapper.specs.LastMoves.{last_moves}
use Rattle.proc_calls.specs.Answered.{Entered}
use Rattle.proc_calls.specs.Callers.{IsCaller}
use Rattle.proc_calls.specs.Growth.{with_pieces}
use Rattle.proc_calls.proofs.Callers.{caller_there}
use Rattle.proc_calls.proofs.Forks.{IsBehind}
use Rattle.step_units.specs.Entries.{LeavesNone}
use Rattle.step_units.specs.Ready.{CountsOn, Continues}
use Rattle.step_units.proofs.Placements.{Keeps, keeps_self, keeps_both, touch_keeps, change_frames}
use Rattle.step_units.proofs.Journals.{last_plain, last_ran, counts_one}
use Rattle.step_units.proofs.Running.{entry_on}
use Rattle.step_units.proofs.Behind.{place_due}

-- Nothing is due, and the process is there.
pub record MayEnter (m : Standing) (pid : ℕ) : Type 0 where
  pub clear : m.kernel.place.due ≡ []
  pub there : IsSome (proc_of m.kernel pid)

pub may_enter : (m : Standing) (pid : ℕ) → IsCaller m pid → MayEnter m pid
may_enter m pid c = record { clear = c.clear; there = caller_there m.kernel pid c.lends }

-- The kernel after its entry.

behind_by : (images : List Image) (k : Kernel) (regs : Regs) (e : Entry) (change : Change) (o : Option Proc) → IsSome o
    → IsBehind k (change_if images k regs e change o) e
behind_by images k regs e change None s = absurd cc
behind_by images k regs e change (Some p) s = record {
  frames = change_frames (changing_of images k p e) k.place change;
  journal = refl;
}

clear_by : (images : List Image) (k : Kernel) (regs : Regs) (e : Entry) (change : Change) (o : Option Proc) → LeavesNone change
    → (let l = change_if images k regs e change o in l.place.due ≡ k.place.due)
clear_by images k regs e change None n = refl
clear_by images k regs e change (Some p) n = place_due (changing_of images k p e) k.place change n

module _ (old new : Standing) (pid : ℕ) (regs : Regs) (e : Entry) (change : Change) where
  entered_behind : IsSome (proc_of old.kernel pid) → Entered old new pid regs e change → IsBehind old.kernel new.kernel e
  entered_behind s h =
      subst (λ (l : Kernel). IsBehind old.kernel l e) (sym h.step) (behind_by (facts_named old.images) old.kernel regs e change (proc_of old.kernel pid) s)

  -- The machine.

  -- where a process is there that made an entry, the machine runs on
  pub entered_runs : IsSome (proc_of old.kernel pid) → Entered old new pid regs e change → CountsOn old new (counted e)
  entered_runs s h =
      let b = entered_behind s h in
      record {
        params = ap (λ (m : Standing). m.params) h.rest;
        images = ap (λ (m : Standing). m.images) h.rest;
        frames = b.frames;
        counted = counts_one old.kernel.journal new.kernel.journal e b.journal;
      }

  -- it goes on
  pub entered_on : MayEnter old pid → IsPlain e → LeavesNone change → Entered old new pid regs e change → Continues old new (counted e)
  entered_on s plain n h =
      let b = entered_behind s.there h in
      entry_on old new e (record { params = ap (λ (m : Standing). m.params) h.rest; images = ap (λ (m : Standing). m.images) h.rest })
      (ap (λ (l : Kernel). l.place.due) h.step ∙ clear_by (facts_named old.images) old.kernel regs e change (proc_of old.kernel pid) n ∙ s.clear)
      b.frames b.journal (last_plain old.kernel.journal e plain)

  pub entry_continues : IsCaller old pid → IsPlain e → LeavesNone change → Entered old new pid regs e change → Continues old new (counted e)
  entry_continues c plain n h = entered_on (may_enter old pid c) plain n h

-- what goes on from a machine with the same but for its holdings goes on from it
pub from_found : (old new : Standing) (found : Holdings) (n : ℕ) → Continues (with_pieces old found) new n → Continues old new n
from_found old new found n c = record { params = c.params; images = c.images; clear = c.clear; frames = c.frames; low = c.low; counted = c.counted }

pub found_enters : (m : Standing) (found : Holdings) (pid : ℕ) → MayEnter m pid → MayEnter (with_pieces m found) pid
found_enters m found pid s = record { clear = s.clear; there = s.there }

pub found_continues : (old new : Standing) (found : Holdings) (pid : ℕ) (regs : Regs) (e : Entry) (change : Change) → IsCaller old pid → IsPlain e
    → LeavesNone change
    → Entered (with_pieces old found) new pid regs e change → Continues old new (counted e)
found_continues old new found pid regs e change c plain n h =
    from_found old new found (counted e) (entered_on (with_pieces old found) new pid regs e change (found_enters old found pid (may_enter old pid c)) plain n h)

-- The journal alone, and instructions.

pub note_continues : (old new : Standing) (e : Entry) → old.kernel.place.due ≡ [] → IsPlain e
    → new ≡ record old { kernel = note_step old.kernel e; room = None } → Continues old new (counted e)
note_continues old new e d plain h =
    subst (λ (m : Standing). Continues old m (counted e)) (sym h)
    (entry_on old (record old { kernel = note_step old.kernel e; room = None }) e (record { params = refl; images = refl }) d refl refl (last_plain old.kernel.journal e plain))

pub ran_continues : (old new : Standing) (pid : ℕ) (regs : Regs) → old.kernel.place.due ≡ []
    → new ≡ record old { kernel = ran_by old.kernel pid regs (entries.Ran pid 1); room = None } → Continues old new 1
ran_continues old new pid regs d h =
    subst (λ (m : Standing). Continues old m 1) (sym h)
    (entry_on old (record old { kernel = ran_by old.kernel pid regs (entries.Ran pid 1); room = None }) (entries.Ran pid 1) (record { params = refl; images = refl }) d refl refl
    (last_ran old.kernel.journal pid 1))

-- a kernel with the same but for processes, marks and bytes
record SameJournal (k l : Kernel) : Type 0 where
  keeps : Keeps k.place l.place
  journal : l.journal ≡ k.journal

same_on : (old : Standing) (l : Kernel) (room : Option ℕ) → old.kernel.place.due ≡ [] → SameJournal old.kernel l
    → (let new : Standing = record old { kernel = l; room = room } in Continues old new 0)
same_on old l room d s = record {
  params = refl;
  images = refl;
  clear = s.keeps.due ∙ d;
  frames = s.keeps.count;
  low = let same = ap last_moves s.journal in omega arith;
  counted = let same = ap instructions_of s.journal in omega arith;
}

same_self : (k : Kernel) → SameJournal k k
same_self k = record { keeps = keeps_self k.place; journal = refl }

same_then : (k l m : Kernel) → SameJournal k l → SameJournal l m → SameJournal k m
same_then k l m s t = record { keeps = keeps_both k.place l.place m.place s.keeps t.keeps; journal = t.journal ∙ s.journal }

pub room_continues : (old new : Standing) (made : Option ℕ) → old.kernel.place.due ≡ [] → new ≡ record old { room = made } → Continues old new 0
room_continues old new made d h = subst (λ (m : Standing). Continues old m 0) (sym h) (same_on old old.kernel made d (same_self old.kernel))

pub pass_continues : (old new : Standing) (from to : ℕ) → old.kernel.place.due ≡ []
    → new ≡ record old { kernel = pass_step old.kernel from to } → Continues old new 0
pass_continues old new from to d h =
    subst (λ (m : Standing). Continues old m 0) (sym h)
    (same_on old (pass_step old.kernel from to) old.room d (record { keeps = keeps_self old.kernel.place; journal = refl }))

-- Writes.

page_written : (k : Kernel) (q : Page) (at byte : ℕ) → SameJournal k (write_page k q at byte)
page_written k q at byte = go (state_of k.place q)
  where
    go : (s : PageState) → SameJournal k (write_by_state k q s at byte)
    go (Valid f) = record { keeps = touch_keeps k.place q; journal = refl }
    go Unfilled = same_self k
    go (Invalid f) = same_self k
    go (Coming f) = same_self k
    go (Going f) = same_self k
    go OnSwap = same_self k

byte_written : (k : Kernel) (sid : ℕ) (w : ByteWrite) → SameJournal k (write_in k sid w)
byte_written k sid w = go (spot_in k.place sid w.address)
  where
    go : (s : Spot) → SameJournal k (write_spot k sid s w.byte)
    go (Text i) = same_self k
    go (Data i) = page_written k (pages.Data sid (i / 1024)) (i % 1024) w.byte
    go (Stack i) = page_written k (pages.Stack sid (i / 1024)) (i % 1024) w.byte
    go Below = same_self k
    go Outside = same_self k

all_written : (k : Kernel) (sid : ℕ) (ws : List ByteWrite) → SameJournal k (writes_in k sid ws)
all_written k sid [] = same_self k
all_written k sid (w ∷ ws) = same_then k (write_in k sid w) (writes_in (write_in k sid w) sid ws) (byte_written k sid w) (all_written (write_in k sid w) sid ws)

pub writes_continue : (old new : Standing) (sid : ℕ) (ws : List ByteWrite) → old.kernel.place.due ≡ []
    → new ≡ record old { kernel = writes_in old.kernel sid ws } → Continues old new 0
writes_continue old new sid ws d h =
    subst (λ (m : Standing). Continues old m 0) (sym h) (same_on old (writes_in old.kernel sid ws) old.room d (all_written old.kernel sid ws))
