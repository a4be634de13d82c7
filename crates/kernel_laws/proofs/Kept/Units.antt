-- Each unit keeps the invariant, and so does each list of units.
use Rattle.std.proofs.Common.{ℕ, List, [], ◌∷◌, sym, subst}
use Rattle.vm_facts.specs.Answers.{ByteWrite}
use Rattle.vm_facts.specs.declared.page.Page.{Page}
use Rattle.vm_facts.specs.declared.entry.Entry.{Entry}
use Rattle.vm_facts.specs.declared.regs.Regs.{Regs}
use Rattle.flat_state.specs.Flat.{NamedImage}
use Rattle.flat_state.specs.declared.change.Change.TheVariants.{Keep}
use Rattle.page_model.specs.Conditions.{HaveParts}
use Rattle.kernel_model.specs.Kernel.{Kernel}
use Rattle.kernel_model.specs.Start.{ImagesFit}
use Rattle.kernel_model.specs.Unit.{KernelUnit, ZeroUnit, CopyUnit, GetUnit, ReclaimUnit, HandsUnit, PutUnit, DoneUnit, WriteUnit, NoteUnit, RanUnit, FindUnit, ChangeUnit, OutUnit, InUnit, KernelState, kernel_after, states_after}
use Rattle.kernel_model.specs.Invariant.{Invariant, Acts, MayWriteByte, MayRun, May, MayAll}
use Rattle.page_laws.proofs.Due.Changes.{touch_due}
use Rattle.kernel_laws.proofs.Flat.Numbers.{writes_numbered, changes_numbered}
use Rattle.kernel_laws.proofs.Flat.Lenders.{writes_lent, changes_lent}
use Rattle.kernel_laws.proofs.Sound.Steps.{write_sound, ran_sound, touch_transfers}
use Rattle.kernel_laws.proofs.Sound.NumbersApart.{write_numbered, ran_numbered}
use Rattle.kernel_laws.proofs.Machine.Writes.{write_coupled}
use Rattle.kernel_laws.proofs.Machine.Swaps.{ran_coupled}
use Rattle.kernel_laws.proofs.Stands.Changes.{write_stands, ran_stands}
use Rattle.kernel_laws.proofs.Kept.Pages.{zero_kept, copy_kept, get_kept, reclaim_kept, hands_kept, put_kept, done_kept, note_kept, find_kept, out_kept, in_kept}
use Rattle.kernel_laws.proofs.Kept.Changes.{change_kept}

-- What a process does in an instruction.

write_kept : (size : ℕ) (images : List NamedImage) (m : KernelState) (pid : ℕ) (w : ByteWrite) (q : Page) (f at : ℕ) → Invariant size images m
    → MayWriteByte m.kernel m.flat pid w q f at
    → Invariant size images (kernel_after images m (WriteUnit pid w q f at))
write_kept size images m pid w q f at i may = let k : Kernel = m.kernel in let a : Acts k m.flat pid may.process may.space = may.acts in record {
  sound = write_sound size k q f at w.byte i.sound;
  numbered = write_numbered k q f at w.byte i.numbered;
  coupled = write_coupled size k images m.image m.flat pid may.process may.space w q f at i.sound may.clear i.numbers a.here a.holds may.byte may.valid i.coupled;
  stands = write_stands images k m.flat pid may.process may.space w q f at a.here a.holds i.stands;
  dues = touch_due k.place q i.dues;
  parts = subst HaveParts (sym (touch_transfers k.place q)) i.parts;
  numbers = writes_numbered m.flat pid (w ∷ []) may.process may.space a.here a.holds i.numbers;
  lenders = writes_lent m.flat pid (w ∷ []) may.process may.space a.here a.holds i.lenders;
  room = i.room;
  found = i.found;
}

ran_kept : (size : ℕ) (images : List NamedImage) (m : KernelState) (pid : ℕ) (regs : Regs) (e : Entry) → Invariant size images m
    → MayRun m.kernel m.flat pid → Invariant size images (kernel_after images m (RanUnit pid regs e))
ran_kept size images m pid regs e i may = let k : Kernel = m.kernel in let a : Acts k m.flat pid may.process may.space = may.acts in record {
  sound = ran_sound size k pid regs e i.sound;
  numbered = ran_numbered k pid regs e i.numbered;
  coupled = ran_coupled k images m.image m.flat pid regs e may.process may.space a.here a.holds a.resident i.coupled;
  stands = ran_stands images k m.flat pid regs e may.process may.space a.here a.holds a.resident i.stands;
  dues = i.dues;
  parts = i.parts;
  numbers = changes_numbered images m.flat pid regs Keep may.process may.space a.here a.holds tt i.numbers;
  lenders = changes_lent images m.flat pid regs Keep may.process may.space a.here a.holds tt i.numbers i.lenders;
  room = i.room;
  found = i.found;
}

-- All units.

pub unit_kept : (size : ℕ) (images : List NamedImage) (m : KernelState) (u : KernelUnit) → ImagesFit images → Invariant size images m
    → May size images m u → Invariant size images (kernel_after images m u)
unit_kept size images m (ZeroUnit q) fits i may = zero_kept size images m q i may
unit_kept size images m (CopyUnit q) fits i may = copy_kept size images m q i may
unit_kept size images m (GetUnit q lo n) fits i may = get_kept size images m q lo n i may
unit_kept size images m (ReclaimUnit q) fits i may = reclaim_kept size images m q i may
unit_kept size images m (HandsUnit locked) fits i may = hands_kept size images m locked i may
unit_kept size images m (PutUnit q n) fits i may = put_kept size images m q n i may
unit_kept size images m (DoneUnit read) fits i may = done_kept size images m read i may
unit_kept size images m (WriteUnit pid w q f at) fits i may = write_kept size images m pid w q f at i may
unit_kept size images m (NoteUnit e) fits i may = note_kept size images m e i
unit_kept size images m (RanUnit pid regs e) fits i may = ran_kept size images m pid regs e i may
unit_kept size images m (FindUnit found) fits i may = find_kept size images m found i may
unit_kept size images m (ChangeUnit pid regs e change) fits i may = change_kept size images m pid regs e change fits i may
unit_kept size images m (OutUnit pid) fits i may = out_kept size images m pid i may
unit_kept size images m (InUnit pid) fits i may = in_kept size images m pid i may

pub units_kept : (size : ℕ) (images : List NamedImage) (us : List KernelUnit) (m : KernelState) → ImagesFit images → Invariant size images m
    → MayAll size images m us → Invariant size images (states_after images m us)
units_kept size images [] m fits i may = i
units_kept size images (u ∷ us) m fits i may = units_kept size images us (kernel_after images m u) fits (unit_kept size images m u fits i may.0) may.1
