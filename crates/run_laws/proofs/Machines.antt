-- A machine with its bytes along a whole run.
use Rattle.std.proofs.Common.{◌≡◌, ap, ℕ, ◌*◌, ◌≤◌, true, false, List, [], ◌∷◌, length, Option, Some, refl, sym, ◌∙◌, subst}
use Rattle.vm_facts.specs.SwapImages.{SwapImage}
use Rattle.vm_facts.specs.declared.page.Page.{Page}
use Rattle.vm_facts.specs.declared.entry.Entry.{Entry}
use Rattle.vm_facts.specs.declared.entry.Entry.TheVariants as entries
use Rattle.swap_book.specs.declared.Owner.TheVariants as owners
use Rattle.swap_book.specs.Holdings.{Holdings, block_in}
use Rattle.flat_state.specs.Flat.{Inputs}
use Rattle.page_model.specs.Placement.{Starting}
use Rattle.kernel_model.specs.Coupled.{Coupled, AreRead, beside_kernel}
use Rattle.kernel_model.specs.Kernel.{Kernel, Proc, plain_step, zero_step, copy_step, get_step, reclaim_step, push_step, done_step, note_step, out_step, in_step, image_after}
use Rattle.kernel_model.specs.UPage.{AreRegs, regs_in}
use Rattle.page_model.specs.Stored.{stored_at, store_at}
use Rattle.kernel_model.specs.Start.{ImagesFit, AreStarting, start_kernel}
use Rattle.std.proofs.lemmas.Option.{same_Some}
use Rattle.kernel_laws.proofs.Machine.Starts.{start_coupled_all, all_in}
use Rattle.kernel_laws.proofs.Stands.Starts.{start_beside}
use Rattle.run_model.specs.State.{State, start}
use Rattle.run_model.specs.Snapshot.{starting}
use Rattle.run_model.specs.Wanted.{locked}
use Rattle.run_model.specs.After.{after}
use Rattle.run_model.specs.Lawful.{Follows}
use Rattle.run_laws.specs.Running.{IsRun, CanRun}
use Rattle.flat_model.specs.Run.{step_at}
use Rattle.flat_state.specs.Change.{apply_writes}
use Rattle.run_laws.proofs.Written.{Mid}
use Rattle.run_laws.proofs.MachineUnits.{mid_stands, stands_behind, unit_stands}
use Rattle.kernel_model.specs.Unit.{proc_of, u_bytes}
use Rattle.run_laws.specs.Machine.{written_step, taken_step, EndsStep, process_step, ran_step, unit_step, unit_image, unit_swap, IsGiven, StandsAt, Makes, MakesSwap, IsJournalEntry, Completes, Next}
use Rattle.run_laws.proofs.Execs.{execs_fit}
use Rattle.run_laws.proofs.Beginning.{are_starting, run_start}
use Rattle.run_laws.proofs.Wholes.{unit_run}

pub unit_keeps : (A : Inputs) (s : State) (k : Kernel) (image : List ℕ) (read : List (List ℕ)) (u : Entry) → Next A s k image u
    → IsGiven A s k image read u → StandsAt A (after A s u) (unit_step A s k image read u) (unit_image k image u)
unit_keeps A s k image read u x g = unit_stands A s k image read u x.images (execs_fit A) x.run x.at x.next g

pub units_keep : (A : Inputs) (us : List Entry) (s t : State) (k l : Kernel) (image behind : List ℕ) → ImagesFit A.images → IsRun A s
    → StandsAt A s k image → Makes A s k image us t l behind → StandsAt A t l behind
units_keep A [] s t k l image behind images r at m = subst (λ (x : State). StandsAt A x l behind) m.0 (subst (λ (x : Kernel). StandsAt A s x behind) m.1 (subst (StandsAt A s k) m.2 at))
units_keep A (u ∷ us) s t k l image behind images r at m =
    units_keep A us (after A s u) t (unit_step A s k image m.1.0 u) l (unit_image k image u) behind images (unit_run A s u images r m.0)
    (unit_keeps A s k image m.1.0 u (record { images = images; run = r; at = at; next = m.0 }) m.1.1) m.1.2

pub makes_follows : (A : Inputs) (us : List Entry) (s t : State) (k l : Kernel) (image behind : List ℕ) → Makes A s k image us t l behind → Follows A s us t
makes_follows A [] s t k l image behind m = m.0
makes_follows A (u ∷ us) s t k l image behind m = (m.0, makes_follows A us (after A s u) t (unit_step A s k image m.1.0 u) l (unit_image k image u) behind m.1.2)

-- With the swap device as it is told.

-- the same of its bytes
pub bytes_made : (A : Inputs) (us : List Entry) (s t : State) (k l : Kernel) (image behind : SwapImage) → MakesSwap A s k image us t l behind
    → Makes A s k image.bytes us t l behind.bytes
bytes_made A [] s t k l image behind m = (m.0, m.1, ap (λ (i : SwapImage). i.bytes) m.2)
bytes_made A (u ∷ us) s t k l image behind m =
    (m.0, (m.1.0, m.1.1, bytes_made A us (after A s u) t (unit_step A s k image.bytes m.1.0 u) l (unit_swap A k image u) behind m.1.2))

pub swaps_keep : (A : Inputs) (us : List Entry) (s t : State) (k l : Kernel) (image behind : SwapImage) → ImagesFit A.images → IsRun A s
    → StandsAt A s k image.bytes → MakesSwap A s k image us t l behind → StandsAt A t l behind.bytes
swaps_keep A us s t k l image behind images r at m =
    units_keep A us s t k l image.bytes behind.bytes images r at (bytes_made A us s t k l image behind m)

pub swaps_follow : (A : Inputs) (us : List Entry) (s t : State) (k l : Kernel) (image behind : SwapImage) → MakesSwap A s k image us t l behind
    → Follows A s us t
swaps_follow A us s t k l image behind m = makes_follows A us s t k l image.bytes behind.bytes (bytes_made A us s t k l image behind m)

pub start_keeps : (A : Inputs) (hs : Holdings) (frames : List (List ℕ)) (image : List ℕ) → CanRun A hs → length frames ≡ A.frames
    → 512 * A.swap_blocks ≤ length image
    → StandsAt A (start A hs) (start_kernel A (starting A.images A.first) hs frames) image
start_keeps A hs frames image c f room =
    let first : List Starting = starting A.images A.first in
    let are : AreStarting A.images A.first first = are_starting A.images A.first c.first in
    let r : IsRun A (start A hs) = run_start A hs c.images c.first c.frames c.pieces in
    stands_behind A (start A hs) (start_kernel A first hs frames) image r.placed (record {
      place = refl;
      holdings = refl;
      journal = refl;
      coupled = start_coupled_all A first hs frames image are c.images;
      stands = start_beside A first hs frames are c.images;
      frames = f;
      room = room;
      out_regs = λ pid q out e. absurd (let z : true ≡ false = sym out ∙ all_in first 1 pid in cc);
    })

-- Each kind of unit by itself.

module _ (A : Inputs) (s : State) (k : Kernel) (image : List ℕ) where
  pub zero_keeps : (q : Page) → Next A s k image (entries.Zero q) → StandsAt A (after A s (entries.Zero q)) (zero_step k q) image
  zero_keeps q x = unit_keeps A s k image [] (entries.Zero q) x tt

  pub copy_keeps : (q : Page) → Next A s k image (entries.Copy q) → StandsAt A (after A s (entries.Copy q)) (copy_step k q) image
  copy_keeps q x = unit_keeps A s k image [] (entries.Copy q) x tt

  pub get_keeps : (q : Page) (lo n : ℕ) → Next A s k image (entries.Get q lo n) → StandsAt A (after A s (entries.Get q lo n)) (get_step k q lo n) image
  get_keeps q lo n x = unit_keeps A s k image [] (entries.Get q lo n) x tt

  pub reclaim_keeps : (q : Page) → Next A s k image (entries.Reclaim q) → StandsAt A (after A s (entries.Reclaim q)) (reclaim_step k q) image
  reclaim_keeps q x = unit_keeps A s k image [] (entries.Reclaim q) x tt

  pub hands_keep : (n : ℕ) → Next A s k image (entries.Hands n) → StandsAt A (after A s (entries.Hands n)) (plain_step k (locked A s) (entries.Hands n)) image
  hands_keep n x = unit_keeps A s k image [] (entries.Hands n) x tt

  pub put_keeps : (q : Page) (n : ℕ) → Next A s k image (entries.Put q n) → StandsAt A (after A s (entries.Put q n)) (push_step k q n) image
  put_keeps q n x = unit_keeps A s k image [] (entries.Put q n) x tt

  pub done_keeps : (read : List (List ℕ)) → Next A s k image entries.Done → AreRead (beside_kernel k A.images image s.point.flat) k.place.transfers read
      → StandsAt A (after A s entries.Done) (done_step k read) (image_after k image)
  done_keeps read x g = unit_keeps A s k image read entries.Done x g

  pub out_keeps : (pid : ℕ) (p : Proc) → Next A s k image (entries.SwapOut pid) → proc_of k pid ≡ Some p → AreRegs p.regs
      → StandsAt A (after A s (entries.SwapOut pid)) (out_step k pid) (store_at image (block_in k.holdings (owners.U pid) 0) (u_bytes k (Some p)))
  out_keeps pid p x e are = subst (λ (o : Option Proc). StandsAt A (after A s (entries.SwapOut pid)) (out_step k pid) (store_at image (block_in k.holdings (owners.U pid) 0) (u_bytes k o))) e
      (unit_keeps A s k image [] (entries.SwapOut pid) x (λ q f. subst (λ (y : Proc). AreRegs y.regs) (same_Some p q (sym e ∙ f)) are))

  pub in_keeps : (pid : ℕ) → Next A s k image (entries.SwapIn pid)
      → StandsAt A (after A s (entries.SwapIn pid)) (in_step k pid (regs_in (stored_at image (block_in k.holdings (owners.U pid) 0)))) image
  in_keeps pid x = unit_keeps A s k image [] (entries.SwapIn pid) x tt

  pub note_keeps : (u : Entry) → Next A s k image u → IsJournalEntry u → StandsAt A (after A s u) (note_step k u) image
  note_keeps (entries.Event line) x n = unit_keeps A s k image [] (entries.Event line) x tt
  note_keeps (entries.Turn pid) x n = unit_keeps A s k image [] (entries.Turn pid) x tt
  note_keeps (entries.Out pid bytes) x n = unit_keeps A s k image [] (entries.Out pid bytes) x tt
  note_keeps (entries.Refused pid) x n = unit_keeps A s k image [] (entries.Refused pid) x tt
  note_keeps (entries.Owners a b c d) x n = unit_keeps A s k image [] (entries.Owners a b c d) x tt
  note_keeps _ x n = absurd n

module _ (A : Inputs) (s : State) (k : Kernel) (image : List ℕ) (pid : ℕ) where
  pub ran_keeps : (n : ℕ) → Next A s k image (entries.Ran pid n) → StandsAt A (after A s (entries.Ran pid n)) (ran_step A s k pid n) image
  ran_keeps n x = unit_keeps A s k image [] (entries.Ran pid n) x tt

  pub step_keeps : (u : Entry) → Next A s k image u → Completes pid u → StandsAt A (after A s u) (process_step A s k pid u) image
  step_keeps (entries.Grew p n) x c =
      subst (λ (y : ℕ). StandsAt A (after A s (entries.Grew p n)) (process_step A s k y (entries.Grew p n)) image) c (unit_keeps A s k image [] (entries.Grew p n) x tt)
  step_keeps (entries.Call p n r r0 r1) x c =
      subst (λ (y : ℕ). StandsAt A (after A s (entries.Call p n r r0 r1)) (process_step A s k y (entries.Call p n r r0 r1)) image) c (unit_keeps A s k image [] (entries.Call p n r r0 r1) x tt)
  step_keeps (entries.Sleeps p) x c =
      subst (λ (y : ℕ). StandsAt A (after A s (entries.Sleeps p)) (process_step A s k y (entries.Sleeps p)) image) c (unit_keeps A s k image [] (entries.Sleeps p) x tt)
  step_keeps (entries.Ended p n) x c =
      subst (λ (y : ℕ). StandsAt A (after A s (entries.Ended p n)) (process_step A s k y (entries.Ended p n)) image) c (unit_keeps A s k image [] (entries.Ended p n) x tt)
  step_keeps _ x c = absurd c

  -- in the middle of a step
  mid_keeps : (u : Entry) → Next A s k image u → EndsStep pid u
      → Mid A (apply_writes s.point.flat pid (step_at A s.point pid).writes) (written_step A s k pid) image
      × Coupled (taken_step A s k pid) A.images image (apply_writes s.point.flat pid (step_at A s.point pid).writes)
  mid_keeps (entries.Ran p n) x c = mid_stands A s k image (entries.Ran p n) pid x.images (execs_fit A) x.run x.at x.next tt (ap (λ (y : ℕ). Some y) c)
  mid_keeps (entries.Grew p n) x c = mid_stands A s k image (entries.Grew p n) pid x.images (execs_fit A) x.run x.at x.next tt (ap (λ (y : ℕ). Some y) c)
  mid_keeps (entries.Call p n r r0 r1) x c = mid_stands A s k image (entries.Call p n r r0 r1) pid x.images (execs_fit A) x.run x.at x.next tt (ap (λ (y : ℕ). Some y) c)
  mid_keeps (entries.Sleeps p) x c = mid_stands A s k image (entries.Sleeps p) pid x.images (execs_fit A) x.run x.at x.next tt (ap (λ (y : ℕ). Some y) c)
  mid_keeps (entries.Ended p n) x c = mid_stands A s k image (entries.Ended p n) pid x.images (execs_fit A) x.run x.at x.next tt (ap (λ (y : ℕ). Some y) c)
  mid_keeps _ x c = absurd c

  pub written_keeps : (u : Entry) → Next A s k image u → EndsStep pid u
      → Coupled (written_step A s k pid) A.images image (apply_writes s.point.flat pid (step_at A s.point pid).writes)
  written_keeps u x c = let m : Mid A (apply_writes s.point.flat pid (step_at A s.point pid).writes) (written_step A s k pid) image = (mid_keeps u x c).0 in m.coupled

  pub taken_keeps : (u : Entry) → Next A s k image u → EndsStep pid u
      → Coupled (taken_step A s k pid) A.images image (apply_writes s.point.flat pid (step_at A s.point pid).writes)
  taken_keeps u x c = (mid_keeps u x c).1
