-- The record of a process that holds a space.
use Rattle.std.proofs.Common.{◌≡◌, ℕ, List, Some, None, sym, ap, ◌∙◌, subst}
use Rattle.proc_table.specs.declared.process.Proc.{Proc as Record}
use Rattle.proc_table.specs.declared.process.Life.{Life as RecordLife}
use Rattle.proc_table.specs.declared.process.Life.TheVariants as lives
use Rattle.proc_table.specs.Records.{find}
use Rattle.page_model.specs.Pages.{numbered}
use Rattle.kernel_model.specs.Kernel.{Kernel, Proc}
use Rattle.kernel_model.specs.ChangeStep.{life_of_proc}
use Rattle.machine_state.specs.Machine.{processes_of}
use Rattle.machine_state.specs.Lives.{space_by, space_of_record}
use Rattle.machine_state.proofs.Lives.{holds_space}
use Rattle.swapper.specs.Putting.{HoldsThere}

module _ (k : Kernel) (ps : List Record) (next pid : ℕ) where
  pub held_sid : (sid : ℕ) → k.processes ≡ processes_of ps next → HoldsThere k pid sid → space_of_record (find pid ps) ≡ Some sid
  held_sid sid e h =
      holds_space ps next pid sid (sym (ap (λ (qs : List Proc). life_of_proc (numbered (λ (p : Proc). p.pid) pid qs)) e) ∙ h.holds)

  pub none_held : k.processes ≡ processes_of ps next → (sid : ℕ) × HoldsThere k pid sid → find pid ps ≡ None → ⊥
  none_held e h n = let x = sym (ap space_of_record n) ∙ held_sid h.0 e h.1 in absurd cc

  pub state_held : (p : Record) → k.processes ≡ processes_of ps next → (sid : ℕ) × HoldsThere k pid sid → find pid ps ≡ Some p
      → (sid : ℕ) × HoldsThere k pid sid × (p.state ≡ lives.Holds sid)
  state_held p e h f = (h.0, h.1, by p.state h.0 (sym (ap space_of_record f) ∙ held_sid h.0 e h.1))
    where
      by : (l : RecordLife) (sid : ℕ) → space_by l ≡ Some sid → l ≡ lives.Holds sid
      by lives.New sid x = absurd cc
      by (lives.Holds n) sid x = cc
      by (lives.Lends n child) sid x = absurd cc
      by (lives.Zombie status) sid x = absurd cc

  pub held_there : (sid : ℕ) (p : Record) → k.processes ≡ processes_of ps next → (sid : ℕ) × HoldsThere k pid sid → find pid ps ≡ Some p
      → p.state ≡ lives.Holds sid → HoldsThere k pid sid
  held_there sid p e h f s =
      let x = state_held p e h f in
      let same : lives.Holds x.0 ≡ lives.Holds sid = sym x.2 ∙ s in
      let number : x.0 ≡ sid = cc in
      subst (HoldsThere k pid) number x.1
