-- Whether a process is out, by its record.
use Rattle.std.proofs.Common.{◌≡◌, ℕ, ◌+◌, nat_lt, ◌&&◌, true, false, List, Option, Some, None, refl, sym, ap, ◌∙◌}
use Rattle.std.proofs.lemmas.Bool.{and_parts}
use Rattle.vm_facts.specs.SwapImages.{SwapImage}
use Rattle.proc_table.specs.declared.process.Proc.{Proc as Record}
use Rattle.proc_table.specs.declared.process.Life.{Life as RecordLife}
use Rattle.proc_table.specs.declared.process.Life.TheVariants as lives
use Rattle.proc_table.specs.Records.{find}
use Rattle.io_edge.specs.FileHolding.{NamedFile}
use Rattle.flat_state.specs.Flat.{Inputs, FlatState, can_step}
use Rattle.page_model.specs.Pages.{numbered}
use Rattle.page_model.specs.Placement.{Placement}
use Rattle.page_model.specs.Swapper.{is_out}
use Rattle.kernel_model.specs.Kernel.{Kernel, New, HoldsSpace, Proc, life_of}
use Rattle.kernel_model.specs.ChangeStep.{life_of_proc}
use Rattle.kernel_model.specs.Coupled.{Outline, SameTables}
use Rattle.economy_laws.proofs.Swaps.{found_at}
use Rattle.economy_laws.proofs.Tables.{kept_at, outline_at}
use Rattle.machine_state.specs.Alike.{AreRecords}
use Rattle.machine_state.specs.Calls.{life_in}
use Rattle.machine_state.specs.Machine.{Standing, life_shown, proc_of_record as shown_of, processes_of, residents_of}
use Rattle.machine_state.proofs.Listed.{process_is}
use Rattle.machine_state.proofs.Records.{found_pid}
use Rattle.economy_laws.proofs.Acts.{Stepper, stepper}
use Rattle.run_model.specs.State.{State}
use Rattle.run_model.specs.Next.{turn_instructions}
use Rattle.proc_run.proofs.Numbers.{placed}
use Rattle.vm_core.specs.Closing.{TurnAt}

module _ (k : Kernel) (ps : List Record) (pid : ℕ) (procs : k.processes ≡ processes_of ps k.next_pid) (residents : k.place.residents ≡ residents_of ps k.next_pid)
    (known : AreRecords ps k.next_pid) where
  life_by : life_in k pid ≡ life_of_proc (shown_of (find pid ps))
  life_by = ap (λ (qs : List Proc). life_of_proc (numbered (λ (p : Proc). p.pid) pid qs)) procs ∙ ap life_of_proc (process_is ps k.next_pid pid known)

  -- one that has no record holds no space
  pub none_there : find pid ps ≡ None → (sid : ℕ) → life_in k pid ≡ HoldsSpace sid → is_out k.place pid ≡ false
  none_there e sid h = absurd (let x : New ≡ HoldsSpace sid = sym (life_by ∙ ap (λ (o : Option Record). life_of_proc (shown_of o)) e) ∙ h in cc)

  -- nor does one of another life
  pub none_held : (p : Record) → find pid ps ≡ Some p → ((sid : ℕ) → p.state ≡ lives.Holds sid → ⊥) → (sid : ℕ) → life_in k pid ≡ HoldsSpace sid → is_out k.place pid ≡ false
  none_held p e n sid h = absurd (go p.state refl (sym (life_by ∙ ap (λ (o : Option Record). life_of_proc (shown_of o)) e) ∙ h))
    where
      go : (l : RecordLife) → p.state ≡ l → life_shown l ≡ HoldsSpace sid → ⊥
      go lives.New s x = cc
      go (lives.Holds other) s x = n other s
      go (lives.Lends other child) s x = cc
      go (lives.Zombie status) s x = cc

  pub out_held : (p : Record) (sid : ℕ) → find pid ps ≡ Some p → p.state ≡ lives.Holds sid → p.out ≡ is_out k.place pid
  out_held p sid e s =
      let b = known.known pid p e in
      (placed k.place ps k.next_pid pid p sid residents b.0 b.1 e s).0 ∙ ap (is_out k.place) (found_pid pid ps p e)

-- who can step in the flat machine holds a space in the kernel
pub steps_hold : (k : Kernel) (flat : FlatState) (pid : ℕ) → SameTables k flat → can_step flat pid ≡ true → (sid : ℕ) × (life_in k pid ≡ HoldsSpace sid)
steps_hold k flat pid tables c =
    let w : Stepper flat pid = stepper flat pid c in
    let found = found_at flat pid w.process w.here in
    let kept = kept_at k.processes flat.processes tables.processes pid w.process found.1 in
    let outline = outline_at k.processes flat.processes tables.processes pid kept.0 w.process kept.1 found.1 in
    (w.space.sid, ap life_of_proc kept.1 ∙ ap (λ (o : Outline). o.life) outline ∙ ap life_of w.holds)

pub held_in : (m : Standing) (pid counted since : ℕ) (holds : Option (List NamedFile)) (i : Option SwapImage)
    → ((sid : ℕ) → life_in m.kernel pid ≡ HoldsSpace sid → is_out m.kernel.place pid ≡ false)
    → (A : Inputs) (s : State) (image : SwapImage) → TurnAt m holds i counted since pid A s image → is_out s.place pid ≡ false
held_in m pid counted since holds i f A s image at =
    let steps = (and_parts (can_step s.point.flat pid) (nat_lt s.count A.limit && nat_lt s.count (since + turn_instructions)) at.on).0 in
    let held = steps_hold m.kernel s.point.flat pid at.stands.machine.at.stands.keeps.coupled.tables steps in
    ap (λ (p : Placement). is_out p pid) (sym at.stands.machine.at.stands.place) ∙ f held.0 held.1
