-- A first process starts: its image in a space of the next number, and then it itself.
use Rattle.std.proofs.Common.{◌≡◌, ℕ, zero, suc, ◌+◌, ◌-◌, ◌<◌, ◌≤◌, false, List, [], ◌∷◌, length, Option, Some, None, Result, Ok, Err, slice_get, refl, sym, ap, subst, arith}
use Rattle.std.specs.Prelude.{filter_map, OnOk}
use Rattle.std.specs.List.{range_with_len}
use Rattle.std.proofs.lemmas.Option.{same_Some}
use Rattle.vm_facts.specs.declared.regs.Regs.{Regs}
use Rattle.vm_facts.specs.declared.stop.NoMemory.{NoMemory}
use Rattle.proc_table.specs.declared.process.Proc.{Proc as Record}
use Rattle.proc_table.specs.Records.{find}
use Rattle.aout_image.specs.declared.Image.{Image}
use Rattle.flat_state.specs.Flat.{start_page, start_regs}
use Rattle.kernel_model.specs.Kernel.{Proc, HoldsSpace}
use Rattle.table_steps.specs.Tables.{Tables}
use Rattle.table_steps.specs.Alike.{AreRecords}
use Rattle.table_steps.specs.Sourced.{ImageNamed, AreNames, named_at}
use Rattle.table_steps.specs.Machine.{processes_of, proc_of_record, images_of}
use Rattle.table_steps.specs.Changing.{EnteredImage, HasOneMore}
use Rattle.machine_state.specs.Beginning.{BeganFirst}
use Rattle.table_steps.proofs.Records.{keeps_none, keeps_some}

-- Names.

short_at : (ns : List ImageNamed) (place : ℕ) (n : ImageNamed) → AreNames ns → slice_get ns place ≡ Some n → length n.name < 64
short_at [] place n h e = absurd cc
short_at (m ∷ ns) zero n h e = subst (λ (x : ImageNamed). length x.name < 64) (same_Some m n e) h.1
short_at (m ∷ ns) (suc place) n h e = short_at ns place n h.2 e

pub short_name : (ns : List ImageNamed) (image : ℕ) (n : ImageNamed) → AreNames ns → named_at ns image ≡ Some n → length n.name < 64
short_name ns zero n h e = absurd cc
short_name ns (suc place) n h e = short_at ns place n h e

-- Processes are no more than there were numbers.

few_kept : {A : Type 0} (g : ℕ → Option A) (a n : ℕ) → length (filter_map g (range_with_len a n)) ≤ n
few_kept g a zero = omega arith
few_kept {A = A} g a (suc n) = go (g a) refl (few_kept g (a + 1) n)
  where
    go : (o : Option A) → g a ≡ o → length (filter_map g (range_with_len (a + 1) n)) ≤ n → length (filter_map g (range_with_len a (suc n))) ≤ suc n
    go None e h = let k = ap (λ (xs : List A). length xs) (keeps_none g a (range_with_len (a + 1) n) e) in omega (arith, k, h)
    go (Some x) e h = let k = ap (λ (xs : List A). length xs) (keeps_some g a (range_with_len (a + 1) n) x e) in omega (arith, k, h)

pub few_processes : (ps : List Record) (next : ℕ) → length (processes_of ps next) ≤ next - 1
few_processes ps next = few_kept (λ pid. proc_of_record (find pid ps)) 1 (next - 1)

-- What a space that comes leaves as it was.

pub same_records : (t m : Tables) (image : ℕ) (facts : Image) (top : List ℕ) → EnteredImage t m image facts top → AreRecords t.processes t.next_pid
    → AreRecords m.processes m.next_pid
same_records t m image facts top e h =
    subst (λ (n : ℕ). AreRecords m.processes n) (sym (ap (λ (x : Tables). x.next_pid) e.rest))
    (subst (λ (ps : List Record). AreRecords ps t.next_pid) (sym (ap (λ (x : Tables). x.processes) e.rest)) h)

-- The whole.

abbrev first_proc : ℕ → Regs → ℕ → Proc
first_proc pid regs sid = record { pid = pid; parent = 0; regs = regs; life = HoldsSpace sid; asleep = false }

pub began : (t m u : Tables) (image sid : ℕ) (n : ImageNamed) (regs : Regs) (top : List ℕ) (r : Result (Unit {0}) NoMemory)
    → named_at (images_of t) image ≡ Some n
    → EnteredImage t m image n.facts top → regs ≡ start_regs n.facts.entry (n.name ∷ []) → top ≡ start_page (n.name ∷ []) → sid ≡ t.next_sid
    → OnOk r (HasOneMore m u (first_proc m.next_pid regs sid) 0) → OnOk r (BeganFirst t u image)
began t m u image sid n regs top (Err e) is entered registers page number more = tt
began t m u image sid n regs top (Ok x) is entered registers page number more = record {
  named = n;
  is = is;
  entered_in = m;
  entered = subst (EnteredImage t m image n.facts) page entered;
  one_more =
      let pid : m.next_pid ≡ t.next_pid = ap (λ (y : Tables). y.next_pid) entered.rest in
      subst (λ (k : ℕ). HasOneMore m u (first_proc k (start_regs n.facts.entry (n.name ∷ [])) t.next_sid) 0) pid
      (subst (λ (k : ℕ). HasOneMore m u (first_proc m.next_pid (start_regs n.facts.entry (n.name ∷ [])) k) 0) number
      (subst (λ (y : Regs). HasOneMore m u (first_proc m.next_pid y sid) 0) registers more));
}
