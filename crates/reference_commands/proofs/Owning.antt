-- Who owns what where a run in memory stands.
use Rattle.std.proofs.Common.{◌≡◌, ℕ, ◌≤◌, Bool, true, false, List, length, map, ◌∙◌, arith}
use Rattle.flat_state.specs.Flat.{Inputs}
use Rattle.kernel_model.specs.Start.{kept_of}
use Rattle.machine_state.specs.Machine.{Standing}
use Rattle.run_model.specs.State.{State}
use Rattle.run_laws.specs.Machine.{StandsAt}
use Rattle.run_command.specs.Full.{RunFull, RunOver}
use Rattle.run_stats.specs.Owners.{owners_text, owners_lines}
use Rattle.run_stats.proofs.Registers.{machine_told}
use Rattle.reference_commands.specs.Answering.{blank_stores, SaysOwners}

-- the lines of a machine that stands at a state, for which no pieces wait
pub lines_there : (A : Inputs) (s : State) (m : Standing) (over : Bool) (image : List ℕ) → StandsAt A s m.kernel image → m.before ≡ m.kernel.holdings
    → m.params.swap_blocks ≡ A.swap_blocks
    → owners_lines m over ≡ owners_text (length m.kernel.journal) over s.place s.holdings A.swap_blocks (map kept_of s.point.flat.processes)
lines_there A s m over image at whole size = machine_told A s m over (record { image = image; at = at; whole = whole; size = size })

pub owned_over : (A : Inputs) (entries : ℕ) (m : Standing) (text : List ℕ) → m.params.journal ≡ entries → m.params.swap_blocks ≡ A.swap_blocks
    → length m.kernel.journal ≤ m.params.journal → RunOver A m (blank_stores A.swap_blocks) → text ≡ owners_lines m true → SaysOwners entries A text
owned_over A entries m text bound size within over told = record {
  journal = m.kernel.journal;
  state = over.state;
  made = over.made;
  over = true;
  ends = (over.none, omega (arith, bound, within));
  told = told ∙ lines_there A over.state m true _ over.stands.at over.stands.whole size;
}

pub owned_full : (A : Inputs) (entries : ℕ) (m : Standing) (text : List ℕ) → m.params.journal ≡ entries → m.params.swap_blocks ≡ A.swap_blocks
    → length m.kernel.journal ≤ m.params.journal → RunFull A m (blank_stores A.swap_blocks) → text ≡ owners_lines m false → SaysOwners entries A text
owned_full A entries m text bound size within full told = record {
  journal = m.kernel.journal;
  state = full.state;
  made = full.made;
  over = false;
  ends = (let reached = full.bound in omega (arith, bound, within, reached), (full.unit, full.next, full.longer));
  told = told ∙ lines_there A full.state m false _ full.stands.at full.stands.whole size;
}
