-- The whole statement on `owners`: its text is these parts in order, and each tells what is so.
use Rattle.std.specs.Prelude.{◌≡◌, ℕ, Bool, List, ◌++◌, length, map}
use Rattle.std.specs.List.{flat_map}
use Rattle.vm_facts.specs.declared.entry.Entry.TheVariants as noted
use Rattle.flat_state.specs.Flat.{Inputs}
use Rattle.page_model.specs.Holdings.{Holdings}
use Rattle.page_model.specs.Placement.{Placement}
use Rattle.kernel_model.specs.Kernel.{Proc}
use Rattle.kernel_model.specs.Start.{kept_of}
use Rattle.machine_state.specs.Machine.{Standing}
use Rattle.run_model.specs.State.{State}
use Rattle.run_model.specs.Next.{owners_of}
use Rattle.run_laws.specs.Machine.{StandsAt}
use Rattle.owner_lines.specs.Owners.{entries_line, hands_line, transfers_from, process_lines, due_line, owners_text, owners_lines as machine_text}
use Rattle.owner_lines.specs.Lines.{FrameLine, frame_text, counted, free_one, used_one, moving_one, Extent, extent_text, blocks_told}
use Rattle.owner_lines.specs.Told.{FramesTold, SwapTold}

-- The text is its parts in this order, of which those of the frames and of the swap area tell all of them and what is so.
pub record OwnersTold (entries : ℕ) (over : Bool) (p : Placement) (hs : Holdings) (size : ℕ) (processes : List Proc) (text : List ℕ) : Type 0 where
  pub frames : List FrameLine
  pub swap : List Extent
  pub parts : text ≡ entries_line entries over ++ hands_line p ++ flat_map frame_text frames ++ transfers_from hs 1 p.transfers
      ++ flat_map (process_lines p) processes ++ flat_map due_line p.due ++ flat_map extent_text swap
  pub frames_so : FramesTold p frames
  pub swap_so : SwapTold size hs swap
  -- the lines of each kind are as many, and the blocks that are held, as the journal's entry of owners says
  pub numbers : owners_of p hs ≡ noted.Owners (counted free_one frames) (counted used_one frames) (counted moving_one frames) (blocks_told swap)

-- what is printed at a state of a run, after so many entries
abbrev pub text_at : Inputs → ℕ → Bool → State → List ℕ
text_at A entries over s = owners_text entries over s.place s.holdings A.swap_blocks (map kept_of s.point.flat.processes)

-- it is so told of that state
abbrev pub IsToldAt : Inputs → ℕ → Bool → State → List ℕ → Type 0
IsToldAt A entries over s text = OwnersTold entries over s.place s.holdings A.swap_blocks (map kept_of s.point.flat.processes) text

-- A machine in which no pieces of swap wait stands at a state of a run: its frames, its records and the swap image have the bytes and
-- registers of the flat machine.
pub record IsMachineAt (A : Inputs) (s : State) (m : Standing) : Type 0 where
  pub image : List ℕ
  pub at : StandsAt A s m.kernel image
  pub whole : m.before ≡ m.kernel.holdings
  pub size : m.params.swap_blocks ≡ A.swap_blocks
