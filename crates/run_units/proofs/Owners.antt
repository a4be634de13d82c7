-- Who owns the frames and blocks, by the flat state's processes.
use Rattle.std.proofs.Common.{◌≡◌, ℕ, ◌==◌, Bool, true, false, cond, List, [], ◌∷◌, map, Some, refl, sym, ap, ◌∙◌}
use Rattle.swap_book.specs.Owners.{u_pieces}
use Rattle.flat_state.specs.Flat.{Holding, Holds, Lends, Zombie, Process, FlatState, Inputs}
use Rattle.page_model.specs.Pages.{numbered}
use Rattle.page_model.specs.Ownership.{OneOwner, OwnsBlocks, u_blocks}
use Rattle.kernel_model.specs.Kernel.{Proc, life_of}
use Rattle.kernel_model.specs.Coupled.{SameTables}
use Rattle.kernel_model.specs.Sound.{Sound, has_life, lives_in, lives}
use Rattle.kernel_model.specs.Start.{kept_of}
use Rattle.economy_laws.proofs.Lists.{found_is}
use Rattle.run_model.specs.State.{State}
use Rattle.run_model.specs.After.{snapshot_of}
use Rattle.economy_laws.specs.Standing.{Placed, machine_of}
use Rattle.economy_laws.specs.RunLawsRunning.{IsRun}
use Rattle.run_units.specs.Owners.{living_with, living_if, is_living, IsOwned}

living_kept : (ps : List Process) (pid : ℕ) → lives (map kept_of ps) pid ≡ living_if (numbered (λ (q : Process). q.pid) pid ps)
living_kept [] pid = refl
living_kept (q ∷ qs) pid = go (q.pid == pid) (living_kept qs pid)
  where
    held : (h : Holding) → has_life (life_of h) ≡ living_with h
    held (Holds s) = refl
    held (Lends sid child) = refl
    held (Zombie status) = refl

    go : (b : Bool) → lives (map kept_of qs) pid ≡ living_if (numbered (λ (p : Process). p.pid) pid qs)
        → lives_in (cond b (Some (kept_of q)) (numbered (λ (p : Proc). p.pid) pid (map kept_of qs))) ≡ living_if (cond b (Some q) (numbered (λ (p : Process). p.pid) pid qs))
    go true e = held q.holding
    go false e = e

living_same : (flat : FlatState) (pid : ℕ) → lives (map kept_of flat.processes) pid ≡ is_living flat pid
living_same flat pid = living_kept flat.processes pid ∙ ap living_if (sym (found_is flat.processes pid))

pub run_owned : (A : Inputs) (s : State) → IsRun A s → IsOwned A (snapshot_of s)
run_owned A s r =
    let placed : Placed A s.point.flat s.place s.holdings = r.placed in
    let sound : Sound A.swap_blocks (machine_of s.point.flat s.place s.holdings) = placed.sound in
    let owner : OneOwner A.swap_blocks (lives (map kept_of s.point.flat.processes)) s.place s.holdings = sound.owner in
    let blocks : OwnsBlocks A.swap_blocks (lives (map kept_of s.point.flat.processes)) s.place s.holdings = owner.blocks in
    let tables : SameTables (machine_of s.point.flat s.place s.holdings) s.point.flat = placed.tables in
    record {
      owners = record {
        frames = owner.frames;
        blocks = record {
          book = blocks.book;
          data_held = blocks.data_held;
          stack_held = blocks.stack_held;
          text_held = blocks.text_held;
          u_held = λ pid. blocks.u_held pid ∙ ap (λ (b : Bool). u_pieces (u_blocks b)) (living_same s.point.flat pid);
        };
        aside = owner.aside;
        places = owner.places;
      };
      spaces = tables.spaces;
    }
