-- A process goes out or comes in: what becomes of the machine.
use Rattle.std.proofs.Common.{◌≡◌, ◌≢◌, ℕ, ◌+◌, ◌*◌, ◌<◌, ◌≤◌, Bool, true, false, List, [], ◌∷◌, ◌++◌, length, map, Option, Some, None, IsSome, refl, sym, ap, ◌∙◌, subst}
use Rattle.std.specs.Prelude.{option_map}
use Rattle.std.proofs.lemmas.List.{length-append, length-map}
use Rattle.std.proofs.lemmas.Option.{same_Some}
use Rattle.flat_state.specs.Flat.{cleared}
use Rattle.vm_facts.specs.declared.entry.Entry.{Entry}
use Rattle.vm_facts.specs.declared.entry.Entry.TheVariants as entries
use Rattle.vm_facts.specs.declared.page.Page.TheVariants.{Data, Stack}
use Rattle.vm_facts.specs.declared.regs.Regs.{Regs}
use Rattle.vm_facts.specs.SwapImages.{SwapImage}
use Rattle.io_edge.specs.SwapImage.{bytes_told, HoldsPage, ReadsPage, page_written, WritesPage, SpoilsPage}
use Rattle.core_map.specs.declared.slot.Slot.{Slot as Token}
use Rattle.table_steps.specs.Space.{Places}
use Rattle.proc_table.specs.declared.process.Proc.{Proc as Record}
use Rattle.proc_table.specs.declared.process.Life.{Life as RecordLife}
use Rattle.proc_table.specs.declared.process.Life.TheVariants as lives
use Rattle.proc_table.specs.Records.{find}
use Rattle.swap_book.specs.declared.Owner.TheVariants as owners
use Rattle.swap_book.specs.Holdings.{block_in}
use Rattle.swap_book.specs.Book.{IsPlace, ArePlacesApart}
use Rattle.swap_book.proofs.PlaceLaws.{places_apart_of}
use Rattle.page_model.specs.Pages.{numbered}
use Rattle.page_model.specs.Placement.{Placement, Residence, space_number, slots_of}
use Rattle.page_model.specs.Place.{moved}
use Rattle.page_model.specs.Swapper.{is_out}
use Rattle.page_model.specs.Dues.{DueStand}
use Rattle.page_model.specs.Stored.{stored_at, store_at}
use Rattle.kernel_model.specs.Kernel.{Kernel, Proc, HoldsSpace, with_regs, out_step, in_step}
use Rattle.kernel_model.specs.SwapRequests.{read_at, write_at}
use Rattle.kernel_model.specs.ChangeStep.{space_of_life}
use Rattle.kernel_model.specs.Sound.{Sound, has_life, lives_in, lives as lives_at}
use Rattle.kernel_model.specs.Numbers.{Numbered}
use Rattle.kernel_model.specs.Coupled.{Coupled}
use Rattle.kernel_model.specs.UPage.{u_page, regs_in}
use Rattle.kernel_model.specs.Unit.{u_bytes, proc_of}
use Rattle.table_steps.proofs.Swaps.{out_coupled, in_coupled_any}
use Rattle.table_steps.specs.Tables.{Tables}
use Rattle.machine_state.specs.declared.machine.Machine.TheInside.{Inside}
use Rattle.table_steps.specs.KernelTablesShown.{space_shown}
use Rattle.table_steps.specs.View.{placement_of}
use Rattle.table_steps.specs.Alike.{AreRecords}
use Rattle.table_steps.specs.Lives.{space_by, space_of_record}
use Rattle.table_steps.specs.Machine.{life_shown, proc_shown, KernelRuns, Stands, lists_of, kernel_by, before_of}
use Rattle.table_steps.specs.Calls.{CanGoOut, CanComeIn}
use Rattle.table_steps.specs.Done.{StandsTold}
use Rattle.table_steps.specs.Swapping.{u_block, Lasts, MovedRecord, IsUPage, AreStored, WritesU, AsksU, SpoilsU, KeepsOut, KeepsIn}
use Rattle.table_steps.proofs.Kernels.{kernel_ext}
use Rattle.table_steps.proofs.Lives.{HasRecord, record_of}
use Rattle.table_steps.proofs.Stills.{pushed}
use Rattle.table_steps.proofs.UserFrames.{numbered_shown}
use Rattle.table_steps.proofs.MovedRecords.{moved_processes, moved_residents, moved_records, IsOutThere, out_there}
use Rattle.table_steps.proofs.Moved.{tied_moved}
use Rattle.table_steps.specs.Tied.{Tied}
use Rattle.machine_state.specs.Fields.{RunsNow}
use Rattle.machine_state.specs.Holders.{HoldersStand}
use Rattle.machine_state.proofs.Holding.{life_has}
use Rattle.machine_state.proofs.Stepping.{Steps}

-- The step.

abbrev pub with_records : Tables → List Record → Tables
with_records t ps = record t { processes = ps }

-- one process has another record, and the journal one more entry
pub record Gone (m : Inside) (ps : List Record) (journal : List Entry) (pid : ℕ) (regs : Regs) (out : Bool) (since : ℕ) (e : Entry) : Type 0 where
  pub moved : MovedRecord m.tables.processes ps pid regs out since
  pub lasts : Lasts moved.was.state
  pub since_is : since ≡ length m.journal.items + 1
  pub journal_is : journal ≡ m.journal.items ++ e ∷ []

module _ (m : Inside) (ps : List Record) (journal : List Entry) (pid : ℕ) (regs : Regs) (since : ℕ) where
  abbrev was : Kernel
  was = kernel_by m.tables m.journal.items m.stopped

  place_is : (out : Bool) (e : Entry) → Gone m ps journal pid regs out since e
      → placement_of (lists_of (with_records m.tables ps)) ≡ moved (placement_of (lists_of m.tables)) pid out (length (m.journal.items ++ e ∷ []))
  place_is out e g =
      let p : Placement = placement_of (lists_of m.tables) in
      ap (λ (rs : List Residence). record p { residents = rs }) (moved_residents m.tables.processes ps m.tables.next_pid pid regs out since g.moved g.lasts)
      ∙ ap (moved p pid out) (g.since_is ∙ sym (length-append m.journal.items (e ∷ [])))

  pub out_is : Gone m ps journal pid regs true since (entries.SwapOut pid) → regs ≡ cleared
      → kernel_by (with_records m.tables ps) journal m.stopped ≡ out_step (kernel_by m.tables m.journal.items m.stopped) pid
  out_is g c = kernel_ext (kernel_by (with_records m.tables ps) journal m.stopped) (out_step was pid) (place_is true (entries.SwapOut pid) g) refl
      (moved_processes m.tables.processes ps m.tables.next_pid pid regs true since g.moved ∙ ap (λ (r : Regs). map (with_regs pid r) was.processes) c)
      refl refl refl refl g.journal_is refl

  pub in_is : Gone m ps journal pid regs false since (entries.SwapIn pid)
      → kernel_by (with_records m.tables ps) journal m.stopped ≡ in_step (kernel_by m.tables m.journal.items m.stopped) pid regs
  in_is g = kernel_ext (kernel_by (with_records m.tables ps) journal m.stopped) (in_step was pid regs) (place_is false (entries.SwapIn pid) g) refl
      (moved_processes m.tables.processes ps m.tables.next_pid pid regs false since g.moved) refl refl refl refl g.journal_is refl

-- with the kernel of the step
pub gone_steps : (m n : Inside) (ps : List Record) (pid : ℕ) (regs : Regs) (out : Bool) (since : ℕ) (e : Entry) (k : Kernel)
    → Gone m ps n.journal.items pid regs out since e → RunsNow m → Tied (lists_of m.tables) → kernel_by (with_records m.tables ps) n.journal.items m.stopped ≡ k
    → Sound m.tables.book.size k → Numbered k → DueStand k.place → (HoldersStand (kernel_by m.tables m.journal.items m.stopped) → HoldersStand k)
    → length m.journal.items < m.tables.params.journal → n.room ≡ None
    → Steps m (record m { tables = with_records m.tables ps; journal = n.journal; room = n.room }) k
gone_steps m n ps pid regs out since e k g now tied is sound numbered due holders room none = record {
  kept = record {
    params = refl;
    images = refl;
    book = refl;
    found = refl;
    next_pid = refl;
    next_sid = refl;
    records = moved_records m.tables.processes ps m.tables.next_pid pid regs out since g.moved now.stands.records;
  };
  is = is;
  runs = record { sound = sound; numbered = numbered; due = due; tied = tied_moved (lists_of m.tables) _ tied };
  ring = now.stands.ring;
  images = λ sid. refl;
  holders = holders;
  grown = pushed m.journal.items m.journal.items n.journal.items e m.tables.params.journal refl g.journal_is room;
  stopped = refl;
  lost = refl;
  room = none;
}

-- Who goes out.

pub record Leaving (t : Tables) (k : Kernel) (pid : ℕ) : Type 0 where
  pub sid : ℕ
  pub process : Proc
  pub kept : proc_of k pid ≡ Some process
  pub holds : process.life ≡ HoldsSpace sid
  pub found : Record
  pub there : find pid t.processes ≡ Some found
  pub shows : proc_shown found ≡ process
  pub state : found.state ≡ lives.Holds sid
  pub space : IsSome (numbered (λ (s : Places). s.sid) sid t.spaces)

state_is : (l : RecordLife) (sid : ℕ) → life_shown l ≡ HoldsSpace sid → l ≡ lives.Holds sid
state_is lives.New sid e = absurd cc
state_is (lives.Holds n) sid e = let same : n ≡ sid = cc in ap lives.Holds same
state_is (lives.Lends n child) sid e = absurd cc
state_is (lives.Zombie status) sid e = absurd cc

space_there : (slots : List Token) (ss : List Places) (sid : ℕ) → numbered space_number sid (map (space_shown slots) ss) ≢ None
    → IsSome (numbered (λ (s : Places). s.sid) sid ss)
space_there slots ss sid h = go (numbered (λ (s : Places). s.sid) sid ss) refl
  where
    go : (o : Option Places) → numbered (λ (s : Places). s.sid) sid ss ≡ o → IsSome o
    go None e = absurd (h (numbered_shown slots ss sid ∙ ap (option_map (space_shown slots)) e))
    go (Some s) e = refl

pub leaving : (t : Tables) (j : List Entry) (b : Bool) (pid : ℕ) → CanGoOut (kernel_by t j b) pid → Leaving t (kernel_by t j b) pid
leaving t j b pid can =
    let k : Kernel = kernel_by t j b in
    let q = life_has (proc_of k pid) can.sid can.holds in
    let r : HasRecord t.processes pid q.0 = record_of t.processes t.next_pid pid q.0 q.1 in
    record {
      sid = can.sid;
      process = q.0;
      kept = q.1;
      holds = q.2;
      found = r.found;
      there = r.there;
      shows = r.shows;
      state = state_is r.found.state can.sid (ap (λ (p : Proc). p.life) r.shows ∙ q.2);
      space = space_there t.core.slots t.spaces can.sid can.there;
    }

pub leaving_alive : (t : Tables) (k : Kernel) (pid : ℕ) → Leaving t k pid → lives_at k.processes pid ≡ true
leaving_alive t k pid l = ap lives_in l.kept ∙ ap has_life l.holds

pub leaving_held : (t : Tables) (k : Kernel) (pid : ℕ) (l : Leaving t k pid) → space_of_record (find pid t.processes) ≡ Some l.sid
leaving_held t k pid l = ap space_of_record l.there ∙ ap space_by l.state

holding_lasts : (l : RecordLife) (sid : ℕ) → l ≡ lives.Holds sid → Lasts l
holding_lasts l sid e = subst Lasts (sym e) tt

pub leaving_lasts : (t : Tables) (k : Kernel) (pid : ℕ) (was : Record) → Leaving t k pid → find pid t.processes ≡ Some was → Lasts was.state
leaving_lasts t k pid was l f = subst (λ (x : Record). Lasts x.state) (same_Some l.found was (sym l.there ∙ f)) (holding_lasts l.found.state l.sid l.state)

data_length : (t : Tables) (sid : ℕ) (s : Places) → numbered (λ (s : Places). s.sid) sid t.spaces ≡ Some s
    → length (slots_of (placement_of (lists_of t)) (Data sid 0)) ≡ length s.data
data_length t sid s e =
    ap (λ (o : Option Rattle.page_model.specs.Pages.SpacePages). length (Rattle.page_model.specs.Pages.data_in o))
    (numbered_shown t.core.slots t.spaces sid ∙ ap (option_map (space_shown t.core.slots)) e)
    ∙ length-map s.data (Rattle.table_steps.specs.KernelTablesShown.slot_shown t.core.slots)

stack_length : (t : Tables) (sid : ℕ) (s : Places) → numbered (λ (s : Places). s.sid) sid t.spaces ≡ Some s
    → length (slots_of (placement_of (lists_of t)) (Stack sid 0)) ≡ length s.stack
stack_length t sid s e =
    ap (λ (o : Option Rattle.page_model.specs.Pages.SpacePages). length (Rattle.page_model.specs.Pages.stack_in o))
    (numbered_shown t.core.slots t.spaces sid ∙ ap (option_map (space_shown t.core.slots)) e)
    ∙ length-map s.stack (Rattle.table_steps.specs.KernelTablesShown.slot_shown t.core.slots)

-- the bytes that are written are the kernel's u page
pub bytes_are : (t : Tables) (j : List Entry) (b : Bool) (pid : ℕ) (bytes : List ℕ) → Leaving t (kernel_by t j b) pid → IsUPage t pid bytes
    → bytes ≡ u_bytes (kernel_by t j b) (proc_of (kernel_by t j b) pid)
bytes_are t j b pid bytes l u =
    let k : Kernel = kernel_by t j b in
    let same : proc_shown u.process ≡ l.process = ap proc_shown (same_Some u.process l.found (sym u.found ∙ l.there)) ∙ l.shows in
    let at : space_of_life l.process.life ≡ u.sid = ap (λ (p : Proc). space_of_life p.life) (sym same) ∙ ap (λ (x : RecordLife). space_of_life (life_shown x)) u.holds in
    u.page
    ∙ ap (λ (n : ℕ). u_page u.process.regs n (length u.space.stack)) (sym (data_length t u.sid u.space u.there))
    ∙ ap (λ (n : ℕ). u_page u.process.regs (length (slots_of k.place (Data u.sid 0))) n) (sym (stack_length t u.sid u.space u.there))
    ∙ ap (λ (n : ℕ). u_page u.process.regs (length (slots_of k.place (Data n 0))) (length (slots_of k.place (Stack n 0)))) (sym at)
    ∙ ap (λ (r : Regs). u_page r (length (slots_of k.place (Data (space_of_life l.process.life) 0))) (length (slots_of k.place (Stack (space_of_life l.process.life) 0))))
    (ap (λ (p : Proc). p.regs) same)
    ∙ ap (u_bytes k) (sym l.kept)

-- Blocks.

pub block_place : (size : ℕ) (k : Kernel) (pid block : ℕ) → Sound size k → block_in k.holdings (owners.U pid) 0 ≡ Some block
    → IsPlace size k.holdings (owners.U pid) block
block_place size k pid block s e =
    let a : ArePlacesApart size k.holdings = places_apart_of size k.holdings s.owner.blocks.book in
    a.own (owners.U pid) 0 block e

-- The device.

module _ (k : Kernel) (pid block : ℕ) where
  pub written : (bytes : List ℕ) (before after : Option SwapImage) → u_block k pid ≡ Some block
      → bytes ≡ u_bytes k (proc_of k pid) → WritesPage before block bytes after → WritesU k pid before after
  written bytes None after e b h = h
  written bytes (Some image) after e b h =
      h ∙ ap (λ (x : List ℕ). Some (page_written image block x)) b ∙ ap (λ (o : Option ℕ). Some (write_at image o (u_bytes k (proc_of k pid)))) (sym e)

  pub u_asked : (before after : Option SwapImage) → u_block k pid ≡ Some block → ReadsPage before block after → AsksU k pid before after
  u_asked None after e h = h
  u_asked (Some image) after e h = h ∙ ap (λ (o : Option ℕ). Some (read_at image o)) (sym e)

  pub u_spoiled : (before after : Option SwapImage) → u_block k pid ≡ Some block → SpoilsPage before block after → SpoilsU k pid before after
  u_spoiled None after e h = h.2
  u_spoiled (Some image) after e h = (h.0, h.1, h.2 ∙ ap (λ (o : Option ℕ). Some (write_at image o h.0)) (sym e))

  pub read_regs : (bytes : List ℕ) (regs : Regs) (image : Option SwapImage) → u_block k pid ≡ Some block
      → regs ≡ regs_in bytes → HoldsPage (bytes_told image) block bytes → AreStored k pid image regs
  read_regs bytes regs None e r h = tt
  read_regs bytes regs (Some image) e r h = r ∙ ap regs_in (h ∙ sym (ap (stored_at image.bytes) e))

-- Coupling.

pub out_keeps : (size : ℕ) (t : Tables) (k : Kernel) (pid : ℕ) (before after : Option SwapImage) → Leaving t k pid → Sound size k → Numbered k
    → is_out k.place pid ≡ false
    → (bytes : List ℕ) → IsUPage t pid bytes → ((image : SwapImage) → before ≡ Some image → 512 * size ≤ length image.bytes) → WritesU k pid before after
    → KeepsOut k (out_step k pid) before after
out_keeps size t k pid None after l s n out bytes u long w images flat c = absurd c
out_keeps size t k pid (Some image) after l s n out bytes u long w images flat c =
    let q : Proc = l.process in
    let alive : has_life q.life ≡ true = ap has_life l.holds in
    let regs : u.process.regs ≡ q.regs = ap (λ (p : Proc). p.regs) (ap proc_shown (same_Some u.process l.found (sym u.found ∙ l.there)) ∙ l.shows) in
    subst (λ (o : Option SwapImage). StandsTold (out_step k pid) images o flat) (sym w)
    (subst (λ (o : Option Proc). Coupled (out_step k pid) images (store_at image.bytes (u_block k pid) (u_bytes k o)) flat) (sym l.kept)
    (out_coupled size k images image.bytes flat pid q s (long image refl) l.kept alive (subst Rattle.kernel_model.specs.UPage.AreRegs regs u.regs) (n.residents pid (leaving_alive t k pid l)) out c))

pub in_keeps : (k : Kernel) (pid : ℕ) (regs : Regs) (before after : Option SwapImage) → AreStored k pid before regs → AsksU k pid before after
    → KeepsIn k (in_step k pid regs) pid before after
in_keeps k pid regs None after a e images flat may c = absurd c
in_keeps k pid regs (Some image) after a e images flat may c =
    subst (λ (o : Option SwapImage). StandsTold (in_step k pid regs) images o flat) (sym e)
    (in_coupled_any k images image.bytes flat pid regs may.process may.here may.out may.regs a c)

-- Who comes in.

pub entering : (t : Tables) (j : List Entry) (b : Bool) (pid : ℕ) → CanComeIn (kernel_by t j b) pid
    → IsOutThere t.processes pid (Kernel.processes (kernel_by t j b))
entering t j b pid can = out_there t.processes t.next_pid pid can.out

lasting_lives : (l : RecordLife) → Lasts l → has_life (life_shown l) ≡ true
lasting_lives lives.New h = refl
lasting_lives (lives.Holds sid) h = refl
lasting_lives (lives.Lends sid child) h = refl
lasting_lives (lives.Zombie status) h = absurd h

pub entering_alive : (ps : List Record) (pid : ℕ) (procs : List Proc) → IsOutThere ps pid procs → lives_at procs pid ≡ true
entering_alive ps pid procs o = ap lives_in o.kept ∙ lasting_lives o.was.state o.lasts

pub entering_lasts : (ps : List Record) (pid : ℕ) (procs : List Proc) (was : Record) → IsOutThere ps pid procs → find pid ps ≡ Some was → Lasts was.state
entering_lasts ps pid procs was o f = subst (λ (x : Record). Lasts x.state) (same_Some o.was was (sym o.found ∙ f)) o.lasts
