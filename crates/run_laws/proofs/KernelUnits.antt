-- The machine after a unit of a run is the kernel's, after the units of which that unit is made.
use Rattle.std.proofs.Common.{◌≡◌, ℕ, Bool, List, [], ◌∷◌, ◌++◌, Option, Some, None, refl, sym, ap, ◌∙◌}
use Rattle.vm_facts.specs.Answers.{ByteWrite}
use Rattle.vm_facts.specs.declared.page.Page.{Page}
use Rattle.vm_facts.specs.declared.page.PageState.{PageState}
use Rattle.vm_facts.specs.declared.page.PageState.TheVariants.{Unfilled, Valid, Invalid, Coming, Going, OnSwap}
use Rattle.vm_facts.specs.declared.entry.Entry.{Entry}
use Rattle.vm_facts.specs.declared.entry.Entry.TheVariants as entries
use Rattle.flat_state.specs.Space.{Space, address_in}
use Rattle.flat_state.specs.Flat.{Holding, Holds, Lends, Zombie, Process, FlatState, NamedImage, Inputs, process_of}
use Rattle.flat_state.specs.Change.{is_borrower}
use Rattle.flat_state.specs.Journal.{IsUnit}
use Rattle.page_model.specs.Placement.{state_of}
use Rattle.page_model.specs.Place.{facts_of}
use Rattle.kernel_model.specs.Kernel.{Kernel, Proc, plain_step, write_by_state}
use Rattle.kernel_model.specs.Coupled.{Coupled}
use Rattle.kernel_model.specs.Unit.{KernelUnit, WriteUnit, RanUnit, FindUnit, ChangeUnit, KernelState, has_lender, passing_change, kernel_after, states_after}
use Rattle.kernel_laws.proofs.Kept.Borrowed.{borrows_is}
use Rattle.flat_model.specs.Touched.{page_tested}
use Rattle.flat_model.specs.Run.{step_at}
use Rattle.run_model.specs.State.{State}
use Rattle.run_model.specs.Wanted.{locked}
use Rattle.run_model.specs.Next.{next_unit}
use Rattle.run_laws.specs.Machine.{place_in, frame_written, write_byte, write_bytes, write_held, process_written, written_step, taken_step, process_step, unit_step, unit_image, Keeps, StandsAt}
use Rattle.run_laws.specs.KernelUnits.{resting, write_unit, byte_units, write_units, held_units, process_units, written_units, step_units, units_behind}
use Rattle.run_laws.proofs.Lawful.{next_is_unit}

-- Bytes that are written.

-- another machine, and whatever flat state
abbrev Now : KernelState → Kernel → FlatState → KernelState
Now m k flat = record { kernel = k; found = m.found; image = m.image; flat = flat }

-- these units lead to this machine, before others
abbrev Leads : List NamedImage → KernelState → List KernelUnit → Kernel → Type 0
Leads images m us k = (flat : FlatState) × ((vs : List KernelUnit) → states_after images m (us ++ vs) ≡ states_after images (Now m k flat) vs)

writes_lead : (images : List NamedImage) (pid : ℕ) (s : Space) (ws : List ByteWrite) (m : KernelState)
    → Leads images m (write_units pid m.kernel s ws) (write_bytes m.kernel s ws)
writes_lead images pid s [] m = (m.flat, λ vs. refl)
writes_lead images pid s (w ∷ ws) m = go (page_tested s (address_in s w.address)) (writes_lead images pid s ws)
  where
    at : ℕ
    at = place_in (address_in s w.address)

    by : (q : Page) (t : PageState) → ((l : KernelState) → Leads images l (write_units pid l.kernel s ws) (write_bytes l.kernel s ws))
        → Leads images m (write_unit pid w q at t ++ write_units pid (write_by_state m.kernel q t at w.byte) s ws) (write_bytes (write_by_state m.kernel q t at w.byte) s ws)
    by q (Valid f) ih = let r = ih (kernel_after images m (WriteUnit pid w q f at)) in (r.0, λ vs. r.1 vs)
    by q Unfilled ih = ih m
    by q (Invalid f) ih = ih m
    by q (Coming f) ih = ih m
    by q (Going f) ih = ih m
    by q OnSwap ih = ih m

    go : (o : Option Page) → ((l : KernelState) → Leads images l (write_units pid l.kernel s ws) (write_bytes l.kernel s ws))
        → Leads images m (byte_units pid m.kernel w at o ++ write_units pid (frame_written m.kernel o at w.byte) s ws) (write_bytes (frame_written m.kernel o at w.byte) s ws)
    go None ih = ih m
    go (Some q) ih = by q (state_of m.kernel.place q) ih

process_leads : (images : List NamedImage) (pid : ℕ) (ws : List ByteWrite) (o : Option Process) (m : KernelState)
    → Leads images m (process_units pid m.kernel ws o) (process_written m.kernel o ws)
process_leads images pid ws None m = (m.flat, λ vs. refl)
process_leads images pid ws (Some q) m = go q.holding
  where
    go : (h : Holding) → Leads images m (held_units pid m.kernel ws h) (write_held m.kernel h ws)
    go (Holds s) = writes_lead images pid s ws m
    go (Lends sid child) = (m.flat, λ vs. refl)
    go (Zombie status) = (m.flat, λ vs. refl)

-- the table of processes stays
writes_table : (s : Space) (ws : List ByteWrite) (k : Kernel) → (write_bytes k s ws).processes ≡ k.processes
writes_table s [] k = refl
writes_table s (w ∷ ws) k = writes_table s ws (write_byte k s w) ∙ go (page_tested s (address_in s w.address))
  where
    by : (q : Page) (t : PageState) → Kernel.processes (write_by_state k q t (place_in (address_in s w.address)) w.byte) ≡ k.processes
    by q (Valid f) = refl
    by q Unfilled = refl
    by q (Invalid f) = refl
    by q (Coming f) = refl
    by q (Going f) = refl
    by q OnSwap = refl

    go : (o : Option Page) → Kernel.processes (frame_written k o (place_in (address_in s w.address)) w.byte) ≡ k.processes
    go None = refl
    go (Some q) = by q (state_of k.place q)

written_table : (k : Kernel) (o : Option Process) (ws : List ByteWrite) → Kernel.processes (process_written k o ws) ≡ k.processes
written_table k None ws = refl
written_table k (Some q) ws = go q.holding
  where
    go : (h : Holding) → Kernel.processes (write_held k h ws) ≡ k.processes
    go (Holds s) = writes_table s ws k
    go (Lends sid child) = refl
    go (Zombie status) = refl

-- Steps.

step_behind : (A : Inputs) (s : State) (k : Kernel) (image : List ℕ) (pid : ℕ) (e : Entry) → StandsAt A s k image
    → (KernelState.kernel (states_after A.images (resting s k image) (step_units A s k pid e)) ≡ process_step A s k pid e)
    × (KernelState.image (states_after A.images (resting s k image) (step_units A s k pid e)) ≡ image)
step_behind A s k image pid e at =
    let kp : Keeps A s.point.flat k image = at.keeps in
    let c : Coupled k A.images image s.point.flat = kp.coupled in
    let l : Kernel = written_step A s k pid in
    let r : Leads A.images (resting s k image) (written_units A s k pid) l = process_leads A.images pid (step_at A s.point pid).writes (process_of s.point.flat pid) (resting s k image) in
    let us : List KernelUnit = FindUnit (Kernel.holdings (taken_step A s k pid)) ∷ ChangeUnit pid (step_at A s.point pid).regs e (step_at A s.point pid).change ∷ [] in
    let here : states_after A.images (resting s k image) (step_units A s k pid e) ≡ states_after A.images (Now (resting s k image) l r.0) us = r.1 us in
    let lender : has_lender l.processes pid ≡ is_borrower s.point.flat.processes pid =
    ap (λ (ps : List Proc). has_lender ps pid) (written_table k (process_of s.point.flat pid) (step_at A s.point pid).writes) ∙ borrows_is k s.point.flat pid c.tables in (
      ap (λ (m : KernelState). m.kernel) here
          ∙ ap (λ (b : Bool). passing_change b (facts_of A.images) (taken_step A s k pid) pid (step_at A s.point pid).regs e (step_at A s.point pid).change) lender,
      ap (λ (m : KernelState). m.image) here,
    )

pub unit_behind : (A : Inputs) (s : State) (k : Kernel) (image : List ℕ) (read : List (List ℕ)) (u : Entry) → StandsAt A s k image → next_unit A s ≡ Some u
    → (KernelState.kernel (states_after A.images (resting s k image) (units_behind A s k read u)) ≡ unit_step A s k image read u)
    × (KernelState.image (states_after A.images (resting s k image) (units_behind A s k read u)) ≡ unit_image k image u)
unit_behind A s k image read u at h = go u (next_is_unit A s u h)
  where
    go : (u : Entry) → IsUnit u → (KernelState.kernel (states_after A.images (resting s k image) (units_behind A s k read u)) ≡ unit_step A s k image read u)
        × (KernelState.image (states_after A.images (resting s k image) (units_behind A s k read u)) ≡ unit_image k image u)
    go (entries.Ran pid n) i =
        let r : Leads A.images (resting s k image) (written_units A s k pid) (written_step A s k pid) =
        process_leads A.images pid (step_at A s.point pid).writes (process_of s.point.flat pid) (resting s k image) in
        let e = r.1 (RanUnit pid (step_at A s.point pid).regs (entries.Ran pid n) ∷ []) in
        (ap (λ (m : KernelState). m.kernel) e, ap (λ (m : KernelState). m.image) e)
    go (entries.Grew pid pages) i = step_behind A s k image pid (entries.Grew pid pages) at
    go (entries.Call pid number carry r0 r1) i = step_behind A s k image pid (entries.Call pid number carry r0 r1) at
    go (entries.Sleeps pid) i = step_behind A s k image pid (entries.Sleeps pid) at
    go (entries.Ended pid status) i = step_behind A s k image pid (entries.Ended pid status) at
    go (entries.Hands n) i = (ap (λ (n : ℕ). plain_step k (locked A s) (entries.Hands n)) (sym i), refl)
    go (entries.Zero q) i = (refl, refl)
    go (entries.Copy q) i = (refl, refl)
    go (entries.Get q lo n) i = (refl, refl)
    go (entries.Reclaim q) i = (refl, refl)
    go (entries.Put q n) i = (refl, refl)
    go entries.Done i = (refl, refl)
    go (entries.SwapOut pid) i = (refl, refl)
    go (entries.SwapIn pid) i = (refl, refl)
    go (entries.Event line) i = (refl, refl)
    go (entries.Turn pid) i = (refl, refl)
    go (entries.Out pid bytes) i = (refl, refl)
    go (entries.Refused pid) i = (refl, refl)
    go (entries.Owners a b c d) i = (refl, refl)
