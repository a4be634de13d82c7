-- What stands of a machine stands of a state with the same tables.
use Rattle.std.proofs.Common.{◌≡◌, ℕ, Bool, false, List, [], ◌∷◌, length, map, Option, Some, None, refl, sym, ap, ◌∙◌, subst}
use Rattle.kernel_laws.proofs.Machine.Starts.{start_outlines}
use Rattle.flat_state.specs.Flat.{Process, FlatState, Inputs}
use Rattle.page_model.specs.Pages.{numbered}
use Rattle.page_model.specs.Placement.{Placement}
use Rattle.page_model.specs.Conditions.{HaveParts}
use Rattle.page_model.specs.Dues.{DueStand}
use Rattle.page_model.specs.Ownership.{OneOwner}
use Rattle.kernel_model.specs.Kernel.{Kernel, Proc}
use Rattle.kernel_model.specs.Coupled.{Outline, outline_kept, SameTables}
use Rattle.kernel_model.specs.Sound.{has_life, lives_in, lives, Sound}
use Rattle.kernel_model.specs.Start.{kept_of}
use Rattle.flat_state.specs.Numbers.{AllBelow, AllDistinct}
use Rattle.kernel_model.specs.Numbers.{Numbered}
use Rattle.kernel_model.specs.Stands.{Stands}
use Rattle.kernel_laws.proofs.Sound.Steps.{alive_owner}
use Rattle.kernel_laws.proofs.Flat.Numbered.{image_by, numbered_image}
use Rattle.kernel_laws.proofs.Machine.Tables.{kept_pid, tables_of}
use Rattle.kernel_laws.proofs.Flat.Lists.{pid_of}
use Rattle.kernel_laws.proofs.Machine.Processes.{pids_same}
use Rattle.run_laws.specs.Standing.{machine_of, EachOnce, Placed}
use Rattle.run_laws.proofs.Paging.{bare_sound}

abbrev alive_by : Option Outline → Bool
alive_by None = false
alive_by (Some o) = has_life o.life

lives_by : (o : Option Proc) → lives_in o ≡ alive_by (image_by outline_kept o)
lives_by None = refl
lives_by (Some p) = refl

-- who lives is seen by the outlines
pub lives_same : (ks ls : List Proc) → map outline_kept ks ≡ map outline_kept ls → (n : ℕ) → lives ks n ≡ lives ls n
lives_same ks ls e n =
    lives_by (numbered kept_pid n ks) ∙ ap alive_by (sym (numbered_image outline_kept kept_pid (λ (o : Outline). o.pid) (λ x. refl) n ks) ∙ ap (numbered (λ (o : Outline). o.pid) n) e
    ∙ numbered_image outline_kept kept_pid (λ (o : Outline). o.pid) (λ x. refl) n ls)
    ∙ sym (lives_by (numbered kept_pid n ls))

pub kept_numbers : (ps : List Process) → map (λ (p : Proc). p.pid) (map kept_of ps) ≡ map pid_of ps
kept_numbers [] = refl
kept_numbers (p ∷ ps) = ap (λ (l : List ℕ). p.pid ∷ l) (kept_numbers ps)

-- a machine with the tables of a flat state
pub from_machine : (A : Inputs) (flat : FlatState) (k : Kernel) → Sound A.swap_blocks k → Numbered k → SameTables k flat → Stands A.images k flat
    → DueStand k.place → EachOnce k.place.due
    → HaveParts k.place.transfers → length k.place.holds ≡ A.frames → Placed A flat k.place k.holdings
from_machine A flat k so n t st d o h f =
    let w : OneOwner A.swap_blocks (lives k.processes) k.place k.holdings = so.owner in
    let e : map outline_kept (map kept_of flat.processes) ≡ map outline_kept k.processes = start_outlines flat.processes ∙ sym t.processes in
    let p : map (λ (x : Proc). x.pid) (map kept_of flat.processes) ≡ map (λ (x : Proc). x.pid) k.processes = kept_numbers flat.processes ∙ sym (pids_same k.processes flat.processes t.processes) in
    record {
      sound = bare_sound A.swap_blocks flat k.place k.holdings
          (alive_owner A.swap_blocks (lives k.processes) (lives (map kept_of flat.processes)) k.place k.holdings (lives_same (map kept_of flat.processes) k.processes e) w) so.hands so.few_transfers;
      numbered = record {
        spaces_differ = n.spaces_differ;
        spaces_below = subst (λ (m : ℕ). AllBelow m (map Rattle.page_model.specs.Placement.space_number k.place.spaces)) t.next_sid n.spaces_below;
        pids_differ = subst AllDistinct (sym p) n.pids_differ;
        pids_below = subst (λ (m : ℕ). AllBelow m (map (λ (x : Proc). x.pid) (map kept_of flat.processes))) t.next_pid (subst (AllBelow k.next_pid) (sym p) n.pids_below);
        residents = λ m a. n.residents m (sym (lives_same (map kept_of flat.processes) k.processes e m) ∙ a);
      };
      tables = tables_of (machine_of flat k.place k.holdings) flat (start_outlines flat.processes) refl refl t.spaces;
      stands = record { starts = λ q e. refl; texts = st.texts; out = st.out };
      dues = d;
      once = o;
      parts = h;
      frames = f;
    }
