-- What the writes of an instruction leave as it is.
use Rattle.std.proofs.Common.{◌≡◌, ℕ, ◌/◌, ◌%◌, List, [], ◌∷◌, refl, ap, ◌∙◌}
use Rattle.vm_facts.specs.Answers.{ByteWrite}
use Rattle.vm_facts.specs.declared.page.Page.{Page}
use Rattle.vm_facts.specs.declared.page.Page.TheVariants.{Text, Data, Stack}
use Rattle.vm_facts.specs.declared.page.PageState.{PageState}
use Rattle.vm_facts.specs.declared.page.PageState.TheVariants.{Unfilled, Valid, Invalid, Coming, Going, OnSwap}
use Rattle.flat_state.specs.declared.spot.Spot.{Spot}
use Rattle.flat_state.specs.declared.spot.Spot.TheVariants as spots
use Rattle.page_model.specs.Pages.{numbered}
use Rattle.page_model.specs.Moves.{touch_to}
use Rattle.page_model.specs.Placement.{Placement, Residence, state_of}
use Rattle.page_model.specs.Swapper.{residence_of, is_out}
use Rattle.kernel_model.specs.ChangeStep.{life_of_proc}
use Rattle.kernel_model.specs.Kernel.{Kernel, Proc, HoldsSpace, write_by_state}
use Rattle.machine_state.specs.Calls.{life_in}
use Rattle.machine_state.specs.Going.{CanGoOn}
use Rattle.machine_state.specs.Machine.{Standing}
use Rattle.machine_state.specs.UserMemory.{CanLend, spot_in, write_spot, write_in, writes_in}

touched_residents : (p : Placement) (q : Page) (s : PageState) → (touch_to p q s).residents ≡ p.residents
touched_residents p (Data sid v) (Valid f) = refl
touched_residents p (Stack sid v) (Valid f) = refl
touched_residents p (Text image v) s = refl
touched_residents p (Data sid v) Unfilled = refl
touched_residents p (Data sid v) (Invalid f) = refl
touched_residents p (Data sid v) (Coming f) = refl
touched_residents p (Data sid v) (Going f) = refl
touched_residents p (Data sid v) OnSwap = refl
touched_residents p (Stack sid v) Unfilled = refl
touched_residents p (Stack sid v) (Invalid f) = refl
touched_residents p (Stack sid v) (Coming f) = refl
touched_residents p (Stack sid v) (Going f) = refl
touched_residents p (Stack sid v) OnSwap = refl

-- the journal, the processes, and who is out
pub record SameTables (k l : Kernel) : Type 0 where
  pub journal : l.journal ≡ k.journal
  pub processes : l.processes ≡ k.processes
  pub residents : l.place.residents ≡ k.place.residents

same_self : (k : Kernel) → SameTables k k
same_self k = record { journal = refl; processes = refl; residents = refl }

byte_same : (k : Kernel) (q : Page) (s : PageState) (at byte : ℕ) → SameTables k (write_by_state k q s at byte)
byte_same k q (Valid f) at byte = record { journal = refl; processes = refl; residents = touched_residents k.place q (state_of k.place q) }
byte_same k q Unfilled at byte = same_self k
byte_same k q (Invalid f) at byte = same_self k
byte_same k q (Coming f) at byte = same_self k
byte_same k q (Going f) at byte = same_self k
byte_same k q OnSwap at byte = same_self k

spot_same : (k : Kernel) (sid : ℕ) (spot : Spot) (byte : ℕ) → SameTables k (write_spot k sid spot byte)
spot_same k sid (spots.Text i) byte = same_self k
spot_same k sid (spots.Data i) byte = byte_same k (Data sid (i / 1024)) (state_of k.place (Data sid (i / 1024))) (i % 1024) byte
spot_same k sid (spots.Stack i) byte = byte_same k (Stack sid (i / 1024)) (state_of k.place (Stack sid (i / 1024))) (i % 1024) byte
spot_same k sid spots.Below byte = same_self k
spot_same k sid spots.Outside byte = same_self k

same_then : (k l m : Kernel) → SameTables k l → SameTables l m → SameTables k m
same_then k l m s t = record {
  journal = t.journal ∙ s.journal;
  processes = t.processes ∙ s.processes;
  residents = t.residents ∙ s.residents;
}

pub writes_same : (ws : List ByteWrite) (k : Kernel) (sid : ℕ) → SameTables k (writes_in k sid ws)
writes_same [] k sid = same_self k
writes_same (w ∷ ws) k sid = same_then k (write_in k sid w) (writes_in (write_in k sid w) sid ws) (spot_same k sid (spot_in k.place sid w.address) w.byte) (writes_same ws (write_in k sid w) sid)

-- so where the machine can go on the process is there and in as before
pub wrote_lends : (old new : Standing) (pid sid : ℕ) (ws : List ByteWrite) → new ≡ record old { kernel = writes_in old.kernel sid ws } → CanGoOn new
    → CanLend old.kernel pid → CanLend new.kernel pid
wrote_lends old new pid sid ws e ready c =
    let s = writes_same ws old.kernel sid in
    let holds : life_in new.kernel pid ≡ HoldsSpace c.sid =
    ap (λ (m : Standing). life_in m.kernel pid) e ∙ ap (λ (ps : List Proc). life_of_proc (numbered (λ (p : Proc). p.pid) pid ps)) s.processes ∙ c.holds in
    record {
      sid = c.sid;
      holds = holds;
      there = ready.running.holders.spaces pid c.sid holds;
      resident = ap (λ (m : Standing). is_out m.kernel.place pid) e ∙ ap (λ (rs : List Residence). (residence_of rs pid).out) s.residents ∙ c.resident;
    }
