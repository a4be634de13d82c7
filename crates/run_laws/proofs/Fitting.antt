-- In each run with few instructions all registers are longwords; so are those of a process that goes out.
use Rattle.std.proofs.Common.{◌≡◌, ℕ, ◌+◌, ◌*◌, ◌<◌, ◌≤◌, ◌^◌, ◌==◌, List, [], ◌∷◌, ◌++◌, length, refl, arith}
use Rattle.vm_facts.specs.declared.entry.Entry.{Entry}
use Rattle.vm_facts.specs.declared.entry.Entry.TheVariants as entries
use Rattle.swap_book.specs.Holdings.{Holdings}
use Rattle.flat_state.specs.Flat.{Process, Inputs}
use Rattle.flat_state.specs.Journal.{appended}
use Rattle.kernel_model.specs.Kernel.{Kernel}
use Rattle.flat_laws.specs.Longwords.{ProcessesFit, AllImages}
use Rattle.flat_laws.proofs.Registers.{found_regs}
use Rattle.flat_laws.proofs.Runs.{run_fits}
use Rattle.run_model.specs.State.{State, start}
use Rattle.run_model.specs.After.{after}
use Rattle.run_model.specs.Lawful.{Follows, Reaches, IsLawful}
use Rattle.run_model.specs.Swapped.{swapped}
use Rattle.run_model.proofs.Followed.{followed_on}
use Rattle.run_laws.specs.Running.{CanRun}
use Rattle.run_laws.specs.Machine.{IsGiven, Next}
use Rattle.run_laws.specs.Images.{HasSwapped}
use Rattle.run_laws.proofs.Finishing.{units_below}
use Rattle.run_laws.proofs.Wholes.{reached_lawful}
use Rattle.run_laws.proofs.SwapImages.{OutFits, OutsFit, given_at, run_swaps}

pub reached_fits : (A : Inputs) (hs : Holdings) (journal : List Entry) (s : State) → CanRun A hs → AllImages A.images
    → length A.first + 1 + A.limit < 2 ^ 32 → Reaches A journal s → ProcessesFit s.point.flat.processes
reached_fits A hs journal s c w l r =
    let k : IsLawful A journal s = reached_lawful A hs journal s c r in
    let n = units_below A r.units (start A r.holdings) s r.follows (omega arith) in
    let m = k.count in
    run_fits A journal s.point w (omega arith) k.flat

follows_fit : (A : Inputs) (hs : Holdings) (us : List Entry) (t : State) → CanRun A hs → AllImages A.images → length A.first + 1 + A.limit < 2 ^ 32
    → Follows A (start A hs) us t → ProcessesFit t.point.flat.processes
follows_fit A hs us t c w l f = reached_fits A hs (appended [] us) t c w l (record { holdings = hs; found = c.pieces; units = us; follows = f; joined = refl })

out_fits : (s : State) (u : Entry) → ProcessesFit s.point.flat.processes → OutFits s u
out_fits s (entries.SwapOut pid) h = λ q e. (found_regs (λ (x : Process). x.pid == pid) s.point.flat.processes q e h).0
out_fits s _ h = tt

outs_from : (A : Inputs) (hs : Holdings) (vs us : List Entry) (s t : State) → CanRun A hs → AllImages A.images → length A.first + 1 + A.limit < 2 ^ 32
    → Follows A (start A hs) vs s → Follows A s us t → OutsFit A s us
outs_from A hs vs [] s t c w l f g = tt
outs_from A hs vs (u ∷ us) s t c w l f g = (
  out_fits s u (follows_fit A hs vs s c w l f),
  outs_from A hs (vs ++ u ∷ []) us (after A s u) t c w l (followed_on A (start A hs) s (after A s u) vs (u ∷ []) f (g.0, refl)) g.1,
)

-- what a machine is told of a process that goes out
pub given_out : (A : Inputs) (s : State) (k : Kernel) (image : List ℕ) (read : List (List ℕ)) (pid : ℕ) → Next A s k image (entries.SwapOut pid)
    → ProcessesFit s.point.flat.processes → IsGiven A s k image read (entries.SwapOut pid)
given_out A s k image read pid x h = given_at A s k image (entries.SwapOut pid) x (out_fits s (entries.SwapOut pid) h)

pub run_swapped : (A : Inputs) (hs : Holdings) (us journal : List Entry) (t : State) (image : List ℕ) → CanRun A hs → AllImages A.images
    → length A.first + 1 + A.limit < 2 ^ 32 → Follows A (start A hs) us t → appended [] us ≡ journal
    → 512 * A.swap_blocks ≤ length image → HasSwapped A t (swapped A journal image)
run_swapped A hs us journal t image c w l f j room = run_swaps A hs us journal t image c f j (outs_from A hs [] us (start A hs) t c w l refl f) room
