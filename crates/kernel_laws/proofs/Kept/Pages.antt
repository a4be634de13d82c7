-- Each unit that moves pages, or nothing, keeps the invariant.
use Rattle.std.proofs.Common.{◌≡◌, ℕ, ◌*◌, ◌<◌, ◌≤◌, true, false, List, [], ◌∷◌, length, Option, Some, None, Ok, refl, sym, ap, ◌∙◌, subst, arith}
use Rattle.vm_facts.specs.declared.page.Page.{Page}
use Rattle.vm_facts.specs.declared.page.Page.TheVariants.{Data, Stack, Text}
use Rattle.vm_facts.specs.declared.entry.Entry.{Entry}
use Rattle.vm_facts.specs.declared.entry.Entry.TheVariants as entries
use Rattle.vm_facts.specs.declared.regs.Regs.{Regs}
use Rattle.swap_book.specs.declared.Owner.TheVariants as owners
use Rattle.swap_book.specs.Holdings.{Holdings, block_in}
use Rattle.flat_state.specs.Flat.{NamedImage}
use Rattle.flat_state.specs.Journal.{append}
use Rattle.page_model.specs.Pages.{Zeros, frame_of}
use Rattle.page_model.specs.Placement.{Placement, Due, Start, CopyOf, slots_of, due_of_page, filling_of}
use Rattle.page_model.specs.Place.{place_entry, space_of_holding}
use Rattle.page_model.specs.PuttingOut.{IsResident}
use Rattle.page_model.specs.Stored.{stored_at, store_at}
use Rattle.page_model.specs.Conditions.{CanEnter, CanPlace, CanBegin, HaveParts, IsShared}
use Rattle.page_model.specs.Dues.{DueStand, IsDue, LeavesDue}
use Rattle.page_model.specs.Ownership.{OneOwner, OwnsFrames}
use Rattle.page_model.specs.PageBytes.{IsWritable}
use Rattle.kernel_model.specs.Kernel.{Kernel, Proc, zero_step, out_step}
use Rattle.kernel_model.specs.ChangeStep.{space_of_life}
use Rattle.kernel_model.specs.UPage.{AreRegs, regs_in}
use Rattle.kernel_model.specs.Coupled.{Coupled, KeepsRegs}
use Rattle.kernel_model.specs.Sound.{Sound, lives, lives_in, has_life}
use Rattle.kernel_model.specs.Numbers.{Numbered}
use Rattle.kernel_model.specs.Stands.{Stands}
use Rattle.kernel_model.specs.Unit.{KernelState, ZeroUnit, CopyUnit, GetUnit, ReclaimUnit, HandsUnit, PutUnit, DoneUnit, NoteUnit, FindUnit, OutUnit, InUnit, kernel_after, u_bytes}
use Rattle.kernel_model.specs.Invariant.{WereFound, Invariant, Acts, IsNoCopy, IsCopied, MayZero, MayCopy, MayGet, MayPut, MayLeave, MayReturn, May}
use Rattle.page_laws.proofs.Due.Entries.{entry_due}
use Rattle.page_laws.proofs.Moves.Parts.{entry_parts}
use Rattle.kernel_laws.proofs.Sound.Steps.{entry_sound, plain_sound, zero_sound, copy_sound, done_sound, note_sound, out_sound, in_sound}
use Rattle.kernel_laws.proofs.Sound.NumbersApart.{plain_numbered, zero_numbered, copy_numbered, done_numbered, note_numbered, out_numbered, in_numbered}
use Rattle.kernel_laws.proofs.Machine.Done.{done_coupled_step, image_length}
use Rattle.kernel_laws.proofs.Machine.Moves.{note_coupled, get_coupled_step, reclaim_coupled_step, hand_coupled_step, push_coupled_step, zero_coupled, start_coupled, copy_coupled}
use Rattle.kernel_laws.proofs.Machine.Processes.{Stepping, stepping}
use Rattle.kernel_laws.proofs.Machine.Swaps.{out_coupled, out_length, in_coupled_any}
use Rattle.kernel_laws.proofs.Machine.Tables.{regs_at}
use Rattle.kernel_laws.proofs.Stands.Steps.{note_stands, get_stands, reclaim_stands, hand_stands, push_stands, done_stands, zero_stands, copy_stands, out_stands, in_stands}

-- What is due and each transfer's pages, by the placement.

owned : (size : ℕ) (k : Kernel) → Sound size k → OwnsFrames k.place
owned size k s = let o : OneOwner size (lives k.processes) k.place k.holdings = s.owner in o.frames

dues_kept : (size : ℕ) (images : List NamedImage) (m : KernelState) (locked : List Page) (at : ℕ) (e : Entry) → Invariant size images m
    → CanPlace m.kernel.place e → LeavesDue m.kernel.place e
    → DueStand (place_entry locked at m.kernel.place e)
dues_kept size images m locked at e i c l = entry_due locked at m.kernel.place e (owned size m.kernel i.sound) c l i.dues

parts_kept : (size : ℕ) (images : List NamedImage) (m : KernelState) (locked : List Page) (at : ℕ) (e : Entry) → Invariant size images m
    → CanPlace m.kernel.place e → CanBegin m.kernel.place e
    → HaveParts (Placement.transfers (place_entry locked at m.kernel.place e))
parts_kept size images m locked at e i c b = entry_parts locked at m.kernel.place e (owned size m.kernel i.sound) c b i.parts

-- Fills.

-- a page that is filled with zeros is one of data or stack
pub zeros_writable : (p : Placement) (q : Page) → filling_of p q ≡ Zeros → IsWritable q
zeros_writable p (Text image v) e = absurd cc
zeros_writable p _ e = tt

-- and takes a frame wherever it is
pub writable_shared : (p : Placement) (q : Page) → IsWritable q → IsShared p q
writable_shared p (Text image v) w = absurd w
writable_shared p _ w = tt

pub zero_kept : (size : ℕ) (images : List NamedImage) (m : KernelState) (q : Page) → Invariant size images m → MayZero m.kernel.place q
    → Invariant size images (kernel_after images m (ZeroUnit q))
zero_kept size images m q i may = record {
  sound = zero_sound size k q i.sound enter (writable_shared k.place q writable);
  numbered = zero_numbered k q i.numbered;
  coupled = coupled (due_of_page k.place.due q) refl may.own;
  stands = zero_stands images k m.flat q st;
  dues = dues_kept size images m [] 0 (entries.Zero q) i enter may.once;
  parts = parts_kept size images m [] 0 (entries.Zero q) i enter tt;
  numbers = i.numbers;
  lenders = i.lenders;
  room = i.room;
  found = i.found;
}
  where
    k : Kernel
    k = m.kernel

    st : Stands images k m.flat
    st = i.stands

    writable : IsWritable q
    writable = zeros_writable k.place q may.zeros

    enter : CanEnter k.place q
    enter = record { there = may.there; frameless = ap frame_of may.unfilled }

    coupled : (d : Option Due) → due_of_page k.place.due q ≡ d → IsNoCopy d → Coupled (zero_step k q) images m.image m.flat
    coupled None e n = zero_coupled size k images m.image m.flat q i.sound st.starts enter writable may.some may.unfilled e may.zeros i.coupled
    coupled (Some (Start r)) e n = start_coupled size k images m.image m.flat q r i.sound enter writable may.some may.unfilled e i.coupled
    coupled (Some (CopyOf r parent)) e n = absurd n

pub copy_kept : (size : ℕ) (images : List NamedImage) (m : KernelState) (q : Page) → Invariant size images m → MayCopy m.kernel.place q
    → Invariant size images (kernel_after images m (CopyUnit q))
copy_kept size images m q i may = go (due_of_page k.place.due q) refl may.parent
  where
    k : Kernel
    k = m.kernel

    go : (d : Option Due) → due_of_page k.place.due q ≡ d → IsCopied k.place d → Invariant size images (kernel_after images m (CopyUnit q))
    go None e n = absurd n
    go (Some (Start r)) e n = absurd n
    go (Some (CopyOf r parent)) e (f, v) =
        let d : IsDue k.place q (CopyOf r parent) = i.dues q (CopyOf r parent) e in
        let enter : CanEnter k.place q = record { there = d.there; frameless = ap frame_of d.unfilled } in
        record {
          sound = copy_sound size k q i.sound enter (writable_shared k.place q d.writable);
          numbered = copy_numbered k q i.numbered;
          coupled = copy_coupled size k images m.image m.flat q r parent f i.sound enter d.writable may.some d.unfilled e v i.coupled;
          stands = copy_stands images k m.flat q r parent e i.stands;
          dues = dues_kept size images m [] 0 (entries.Copy q) i enter may.once;
          parts = parts_kept size images m [] 0 (entries.Copy q) i enter tt;
          numbers = i.numbers;
          lenders = i.lenders;
          room = i.room;
          found = i.found;
        }

-- Transfers.

pub get_kept : (size : ℕ) (images : List NamedImage) (m : KernelState) (q : Page) (lo n : ℕ) → Invariant size images m → MayGet m.kernel.place q lo n
    → Invariant size images (kernel_after images m (GetUnit q lo n))
get_kept size images m q lo n i may = let k : Kernel = m.kernel in record {
  sound = plain_sound size k [] (entries.Get q lo n) i.sound may.enter may.shared (let l = may.few in omega arith);
  numbered = plain_numbered k [] (entries.Get q lo n) i.numbered;
  coupled = get_coupled_step size k images m.image m.flat q lo n i.sound may.enter may.reads i.coupled;
  stands = get_stands images k m.flat q lo n i.stands;
  dues = dues_kept size images m [] 0 (entries.Get q lo n) i may.enter may.fresh;
  parts = parts_kept size images m [] 0 (entries.Get q lo n) i may.enter (may.pages, may.some);
  numbers = i.numbers;
  lenders = i.lenders;
  room = i.room;
  found = i.found;
}

pub reclaim_kept : (size : ℕ) (images : List NamedImage) (m : KernelState) (q : Page) → Invariant size images m → IsShared m.kernel.place q
    → Invariant size images (kernel_after images m (ReclaimUnit q))
reclaim_kept size images m q i shared = let k : Kernel = m.kernel in let so : Sound size k = i.sound in record {
  sound = plain_sound size k [] (entries.Reclaim q) i.sound tt shared (let l = so.few_transfers in omega arith);
  numbered = plain_numbered k [] (entries.Reclaim q) i.numbered;
  coupled = reclaim_coupled_step size k images m.image m.flat q i.sound i.coupled;
  stands = reclaim_stands images k m.flat q i.stands;
  dues = dues_kept size images m [] 0 (entries.Reclaim q) i tt tt;
  parts = parts_kept size images m [] 0 (entries.Reclaim q) i tt tt;
  numbers = i.numbers;
  lenders = i.lenders;
  room = i.room;
  found = i.found;
}

pub hands_kept : (size : ℕ) (images : List NamedImage) (m : KernelState) (locked : List Page) → Invariant size images m
    → May size images m (HandsUnit locked) → Invariant size images (kernel_after images m (HandsUnit locked))
hands_kept size images m locked i few = let k : Kernel = m.kernel in record {
  sound = entry_sound size k locked (entries.Hands 1) i.sound tt tt few;
  numbered = plain_numbered k locked (entries.Hands 1) i.numbered;
  coupled = hand_coupled_step size k images m.image m.flat locked i.sound i.coupled;
  stands = hand_stands images k m.flat locked i.stands;
  dues = dues_kept size images m locked 0 (entries.Hands 1) i tt tt;
  parts = parts_kept size images m locked 0 (entries.Hands 1) i tt tt;
  numbers = i.numbers;
  lenders = i.lenders;
  room = i.room;
  found = i.found;
}

pub put_kept : (size : ℕ) (images : List NamedImage) (m : KernelState) (q : Page) (n : ℕ) → Invariant size images m → MayPut m.kernel.place q n
    → Invariant size images (kernel_after images m (PutUnit q n))
put_kept size images m q n i may = let k : Kernel = m.kernel in record {
  sound = entry_sound size k [] (entries.Put q n) i.sound (may.first, may.seats) tt may.few;
  numbered = plain_numbered k [] (entries.Put q n) i.numbered;
  coupled = push_coupled_step size k images m.image m.flat q n i.sound may.first may.seats i.coupled;
  stands = push_stands images k m.flat q n i.stands;
  dues = dues_kept size images m [] 0 (entries.Put q n) i (may.first, may.seats) tt;
  parts = parts_kept size images m [] 0 (entries.Put q n) i (may.first, may.seats) may.pages;
  numbers = i.numbers;
  lenders = i.lenders;
  room = i.room;
  found = i.found;
}

pub done_kept : (size : ℕ) (images : List NamedImage) (m : KernelState) (read : List (List ℕ)) → Invariant size images m
    → May size images m (DoneUnit read) → Invariant size images (kernel_after images m (DoneUnit read))
done_kept size images m read i are = let k : Kernel = m.kernel in let st : Stands images k m.flat = i.stands in record {
  sound = done_sound size k read i.sound;
  numbered = done_numbered k read i.numbered;
  coupled = done_coupled_step size k images m.image m.flat read i.sound st.texts i.room are i.coupled;
  stands = done_stands size images k m.flat read i.sound i.stands;
  dues = dues_kept size images m [] 0 entries.Done i tt tt;
  parts = parts_kept size images m [] 0 entries.Done i tt tt;
  numbers = i.numbers;
  lenders = i.lenders;
  room = subst (λ (n : ℕ). 512 * size ≤ n) (sym (image_length size k images m.image m.flat i.sound st.texts i.room i.coupled)) i.room;
  found = i.found;
}

-- An entry alone, and pieces that are found.

pub note_kept : (size : ℕ) (images : List NamedImage) (m : KernelState) (e : Entry) → Invariant size images m
    → Invariant size images (kernel_after images m (NoteUnit e))
note_kept size images m e i = let k : Kernel = m.kernel in record {
  sound = note_sound size k e i.sound;
  numbered = note_numbered k e i.numbered;
  coupled = note_coupled k images m.image m.flat e i.coupled;
  stands = note_stands images k m.flat e i.stands;
  dues = i.dues;
  parts = i.parts;
  numbers = i.numbers;
  lenders = i.lenders;
  room = i.room;
  found = i.found;
}

pub find_kept : (size : ℕ) (images : List NamedImage) (m : KernelState) (found : Holdings) → Invariant size images m
    → WereFound size m.kernel.holdings found → Invariant size images (kernel_after images m (FindUnit found))
find_kept size images m found i were = record {
  sound = i.sound;
  numbered = i.numbered;
  coupled = i.coupled;
  stands = i.stands;
  dues = i.dues;
  parts = i.parts;
  numbers = i.numbers;
  lenders = i.lenders;
  room = i.room;
  found = were;
}

-- Processes that go out and come in.

pub out_kept : (size : ℕ) (images : List NamedImage) (m : KernelState) (pid : ℕ) → Invariant size images m → MayLeave m.kernel m.flat pid
    → Invariant size images (kernel_after images m (OutUnit pid))
out_kept size images m pid i may =
    let k : Kernel = m.kernel in
    let n : Numbered k = i.numbered in
    let c : Coupled k images m.image m.flat = i.coupled in
    let acts : Acts k m.flat pid may.process may.space = may.acts in
    let g : Stepping k m.flat pid may.process may.space = stepping k m.flat pid may.process may.space c.tables acts.here acts.holds in
    let at : Option ℕ = block_in k.holdings (owners.U pid) 0 in
    let sid : ℕ = space_of_life g.proc.life in
    let life : has_life g.proc.life ≡ true = ap has_life g.life in
    let resides : IsResident k.place pid = n.residents pid (ap lives_in g.kept ∙ life) in
    let own_regs : g.proc.regs ≡ may.process.regs =
    subst (λ (z : Rattle.std.proofs.Common.Bool). KeepsRegs k m.image z may.process g.proc.regs (space_of_holding may.process.holding)) acts.resident
    (regs_at k images m.image m.flat c pid may.process g.proc g.found g.kept) in
    let are : AreRegs g.proc.regs = subst AreRegs (sym own_regs) may.regs in
    record {
      sound = out_sound size k pid i.sound;
      numbered = out_numbered k pid i.numbered;
      coupled = subst (λ (o : Option Proc). Coupled (out_step k pid) images (store_at m.image at (u_bytes k o)) m.flat) (sym g.kept)
          (out_coupled size k images m.image m.flat pid g.proc i.sound i.room g.kept life are resides acts.resident i.coupled);
      stands = out_stands images k m.flat pid may.process may.space acts.here acts.holds i.stands;
      dues = dues_kept size images m [] (length (append k.journal (entries.SwapOut pid))) (entries.SwapOut pid) i tt tt;
      parts = parts_kept size images m [] (length (append k.journal (entries.SwapOut pid))) (entries.SwapOut pid) i tt tt;
      numbers = i.numbers;
      lenders = i.lenders;
      room = subst (λ (o : Option Proc). 512 * size ≤ length (store_at m.image at (u_bytes k o))) (sym g.kept)
          (subst (λ (n : ℕ). 512 * size ≤ n)
          (sym (out_length size k m.image pid g.proc (length (slots_of k.place (Data sid 0))) (length (slots_of k.place (Stack sid 0))) i.sound i.room g.kept life are)) i.room);
      found = i.found;
    }

pub in_kept : (size : ℕ) (images : List NamedImage) (m : KernelState) (pid : ℕ) → Invariant size images m → MayReturn m.kernel m.flat pid
    → Invariant size images (kernel_after images m (InUnit pid))
in_kept size images m pid i may = let k : Kernel = m.kernel in let regs : Regs = regs_in (stored_at m.image (block_in k.holdings (owners.U pid) 0)) in record {
  sound = in_sound size k pid regs i.sound;
  numbered = in_numbered k pid regs i.numbered;
  coupled = in_coupled_any k images m.image m.flat pid regs may.process may.here may.out may.regs refl i.coupled;
  stands = in_stands images k m.flat pid regs i.stands;
  dues = dues_kept size images m [] (length (append k.journal (entries.SwapIn pid))) (entries.SwapIn pid) i tt tt;
  parts = parts_kept size images m [] (length (append k.journal (entries.SwapIn pid))) (entries.SwapIn pid) i tt tt;
  numbers = i.numbers;
  lenders = i.lenders;
  room = i.room;
  found = i.found;
}
