-- A machine with its bytes that stands at a state of a paged run stands at the next one, after the unit's own step.
use Rattle.std.proofs.Common.{◌≡◌, inl, inr, ℕ, not, true, false, List, Option, Some, None, refl, sym, ap, ◌∙◌, subst}
use Rattle.vm_facts.specs.declared.entry.Entry.{Entry}
use Rattle.vm_facts.specs.declared.entry.Entry.TheVariants as entries
use Rattle.flat_state.specs.Flat.{Holding, Holds, Lends, Zombie, Process, FlatState, Inputs, process_of}
use Rattle.flat_state.specs.Change.{is_borrower}
use Rattle.flat_state.specs.Journal.{IsUnit}
use Rattle.page_model.specs.Placement.{Placement}
use Rattle.page_model.specs.Swapper.{is_out, is_settled, first_seated}
use Rattle.page_model.specs.Place.{pages_of_space}
use Rattle.page_model.specs.Dues.{DueStand}
use Rattle.kernel_model.specs.Kernel.{Kernel}
use Rattle.kernel_model.specs.Coupled.{AreRead, beside_kernel}
use Rattle.kernel_model.specs.Start.{ImagesFit}
use Rattle.flat_model.specs.Run.{Point, process_of_entry}
use Rattle.run_model.specs.declared.mark.Mark.TheVariants as marks
use Rattle.run_model.specs.State.{State}
use Rattle.run_model.specs.Wanted.{locked}
use Rattle.run_model.specs.After.{after}
use Rattle.run_model.proofs.After.{after_journal}
use Rattle.run_laws.specs.Machine.{unit_step, unit_image, IsGiven, Keeps, StandsAt}
use Rattle.run_laws.proofs.CoupledKinds.{Stays}
use Rattle.run_laws.proofs.CoupledUnits.{Goes, Machine, page_step, page_image}
use Rattle.run_laws.proofs.Machines.{unit_keeps}
use Rattle.run_laws.proofs.MachineUnits.{stands_behind, brought, are_brought, goes_behind, in_behind, off_behind, page_is, image_is, given_read, read_unused}
use Rattle.paged_model.specs.declared.reason.Reason.TheVariants as reasons
use Rattle.paged_model.specs.Reasons.{unless, or_reason}
use Rattle.paged_model.specs.Moves.{due_first, zero_reason, copy_reason, get_reason}
use Rattle.paged_model.specs.Leaving.{may_not_go, still_seated, out_by, out_if, out_reason, in_if, in_reason, put_reason}
use Rattle.paged_model.specs.Steps.{begun, step_reason}
use Rattle.paged_model.specs.Runs.{paged_after, unit_reason}
use Rattle.paged_model.proofs.Reasoned.{or_none, unless_none}
use Rattle.paged_model.proofs.PartReasons.{not_true}
use Rattle.paged_laws.specs.Paged.{Steady, under_dispatch, IsPaged}
use Rattle.paged_laws.proofs.Acted.{Steps, steps}
use Rattle.paged_laws.proofs.Awaiting.{unit_paged}
use Rattle.paged_laws.proofs.Coupling.{done_goes, hand_goes, zero_goes, copy_goes, get_goes, reclaim_goes, put_goes, event_goes, turn_goes, owners_goes}
use Rattle.paged_laws.proofs.Permitted.{holds_of}
use Rattle.paged_laws.proofs.Steady.{same_point, same_place, same_holdings, run_so}
use Rattle.paged_laws.proofs.Virtual.{next_so}

-- A process.

same_step : (A : Inputs) (s : State) (k : Kernel) (image : List ℕ) (read : List (List ℕ)) (u : Entry) (v pid : ℕ) → process_of_entry u ≡ Some pid
    → (unit_step A (under_dispatch s v) k image read u ≡ unit_step A s k image read u) × IsGiven A (under_dispatch s v) k image read u
same_step A s k image read (entries.Ran p n) v pid e = (refl, tt)
same_step A s k image read (entries.Out p bytes) v pid e = (refl, tt)
same_step A s k image read (entries.Grew p n) v pid e = (refl, tt)
same_step A s k image read (entries.Call p n c r0 r1) v pid e = (refl, tt)
same_step A s k image read (entries.Refused p) v pid e = (refl, tt)
same_step A s k image read (entries.Sleeps p) v pid e = (refl, tt)
same_step A s k image read (entries.Ended p n) v pid e = (refl, tt)
same_step A s k image read _ v pid e = absurd cc

-- a machine stands at a state whatever the mark is
pub stands_marked : (A : Inputs) (s : State) (pid : ℕ) (k : Kernel) (image : List ℕ) → StandsAt A s k image → StandsAt A (under_dispatch s pid) k image
stands_marked A s pid k image x = record { place = x.place; holdings = x.holdings; journal = x.journal; keeps = x.keeps }

process_stands : (A : Inputs) (s : State) (k : Kernel) (image : List ℕ) (read : List (List ℕ)) (pid : ℕ) (u : Entry) → ImagesFit A.images → Steady A s
    → StandsAt A s k image → step_reason A s pid u ≡ None → process_of_entry u ≡ Some pid
    → StandsAt A (paged_after A s u) (unit_step A s k image read u) (unit_image k image u)
process_stands A s k image read pid u images st at e own =
    let so : Steps A s pid u = steps A s pid u e in
    let v : State = under_dispatch s pid in
    let m = marks.Dispatch pid 1 s.count in
    let x : StandsAt A (after A v u) (unit_step A v k image read u) (unit_image k image u) =
    unit_keeps A v k image read u (record { images = images; run = run_so A s pid u st e own; at = stands_marked A s pid k image at; next = next_so A s pid u so })
    (same_step A s k image read u pid pid own).1 in
    subst (λ (l : Kernel). StandsAt A (paged_after A s u) l (unit_image k image u)) (same_step A s k image read u pid pid own).0 (record {
      place = x.place ∙ same_place A s m u pid own;
      holdings = x.holdings ∙ same_holdings A s m u pid own;
      journal = x.journal ∙ after_journal A v u ∙ sym (after_journal A s u);
      keeps = subst (λ (q : Point). Keeps A q.flat (unit_step A v k image read u) (unit_image k image u)) (same_point A s m u pid own) x.keeps;
    })

-- The others.

marked : (A : Inputs) (s : State) (u : Entry) (l : Kernel) (j : List ℕ) → StandsAt A (after A s u) l j → StandsAt A (paged_after A s u) l j
marked A s u l j x = record { place = x.place; holdings = x.holdings; journal = x.journal; keeps = x.keeps }

-- a unit that takes no process out or in, by what it does to the coupling, whatever was read
page_stands : (A : Inputs) (s : State) (k : Kernel) (image : List ℕ) (read : List (List ℕ)) (u : Entry) → ImagesFit A.images → IsUnit u → IsPaged A s
    → StandsAt A s k image → unit_reason A s u ≡ None → process_of_entry u ≡ None → Stays u → IsGiven A s k image read u
    → ((r : List (List ℕ)) → Machine A.swap_blocks k A.images image s.point.flat r → Goes k A.images image s.point.flat (locked A s) r u)
    → StandsAt A (paged_after A s u) (unit_step A s k image read u) (unit_image k image u)
page_stands A s k image read u images unit x at h n y given goes =
    let kp : Keeps A s.point.flat k image = at.keeps in
    let t : IsPaged A (paged_after A s u) = unit_paged A s u images unit x h in
    let by : (r : List (List ℕ)) → AreRead (beside_kernel k A.images image s.point.flat) k.place.transfers r
    → StandsAt A (after A s u) (page_step k (locked A s) r u) (page_image k image u) = λ r are.
    stands_behind A (after A s u) (page_step k (locked A s) r u) (page_image k image u) t.steady.placed
    (goes_behind A s k image r u x.steady.placed at
    (goes r (record { sound = kp.sound; stands = kp.stands; room = kp.room; are = are; coupled = kp.coupled })) n y) in
    let b = beside_kernel k A.images image s.point.flat in
    let whole : StandsAt A (after A s u) (page_step k (locked A s) read u) (page_image k image u) = elim (given_read A s k image read u given) [
      | inl none ↦ subst (λ (l : Kernel). StandsAt A (after A s u) l (page_image k image u)) (read_unused A s k read (brought b k.place.transfers) u none)
          (by (brought b k.place.transfers) (are_brought b k.place.transfers))
      | inr z ↦ by read z.1
    ] in
    marked A s u (unit_step A s k image read u) (unit_image k image u)
    (subst (λ (l : Kernel). StandsAt A (after A s u) l (unit_image k image u)) (page_is A s k image read u n y)
    (subst (StandsAt A (after A s u) (page_step k (locked A s) read u)) (image_is k image u y) whole))

-- a reason of the machine's placement is one of the state's
here : {X : Type 0} (A : Inputs) (s : State) (k : Kernel) (image : List ℕ) (reason : Placement → Option X) → StandsAt A s k image → reason s.place ≡ None
    → reason k.place ≡ None
here A s k image reason at e = ap reason at.place ∙ e

due_here : (A : Inputs) (s : State) (k : Kernel) (image : List ℕ) → IsPaged A s → StandsAt A s k image → DueStand k.place
due_here A s k image x at = subst DueStand (sym at.place) x.steady.placed.dues

-- who goes out is in
resident_of : (F : FlatState) (p : Placement) (pid : ℕ) → out_reason F p pid ≡ None → is_out p pid ≡ false
resident_of F p pid e = go (process_of F pid) (or_none (due_first p.due) (out_if F p pid (process_of F pid)) e).1
  where
    free : may_not_go F p pid ≡ None → is_out p pid ≡ false
    free z =
        not_true (is_out p pid)
        (unless_none (not (is_out p pid)) (reasons.IsOut pid)
        (or_none (unless (not (is_borrower F.processes pid)) (reasons.Borrowed pid)) (unless (not (is_out p pid)) (reasons.IsOut pid)) z).1)

    by : (h : Holding) → out_by F p pid h ≡ None → is_out p pid ≡ false
    by (Holds s) z =
        free (or_none (may_not_go F p pid) (or_reason (unless (is_settled p s.sid) reasons.Unsettled) (still_seated p (first_seated p (pages_of_space p s.sid)))) z).0
    by (Lends lent child) z = absurd cc
    by (Zombie status) z = absurd cc

    go : (o : Option Process) → out_if F p pid o ≡ None → is_out p pid ≡ false
    go None z = absurd cc
    go (Some q) z = by q.holding z

-- who comes in is out
out_of : (F : FlatState) (p : Placement) (pid : ℕ) → in_reason F p pid ≡ None → is_out p pid ≡ true
out_of F p pid e = go (process_of F pid) (or_none (due_first p.due) (in_if p pid (process_of F pid)) e).1
  where
    go : (o : Option Process) → in_if p pid o ≡ None → is_out p pid ≡ true
    go None z = absurd cc
    go (Some q) z = unless_none (is_out p pid) (reasons.IsIn pid) z

pub unit_stands : (A : Inputs) (s : State) (k : Kernel) (image : List ℕ) (read : List (List ℕ)) (u : Entry) → ImagesFit A.images → IsUnit u → IsPaged A s
    → StandsAt A s k image → unit_reason A s u ≡ None → IsGiven A s k image read u
    → StandsAt A (paged_after A s u) (unit_step A s k image read u) (unit_image k image u)
unfolding unit_reason
unit_stands A s k image read (entries.Ran p n) images unit x at h g = process_stands A s k image read p (entries.Ran p n) images x.steady at h refl
unit_stands A s k image read (entries.Out p bytes) images unit x at h g = process_stands A s k image read p (entries.Out p bytes) images x.steady at h refl
unit_stands A s k image read (entries.Grew p n) images unit x at h g = process_stands A s k image read p (entries.Grew p n) images x.steady at h refl
unit_stands A s k image read (entries.Call p n c r0 r1) images unit x at h g = process_stands A s k image read p (entries.Call p n c r0 r1) images x.steady at h refl
unit_stands A s k image read (entries.Refused p) images unit x at h g = process_stands A s k image read p (entries.Refused p) images x.steady at h refl
unit_stands A s k image read (entries.Sleeps p) images unit x at h g = process_stands A s k image read p (entries.Sleeps p) images x.steady at h refl
unit_stands A s k image read (entries.Ended p n) images unit x at h g = process_stands A s k image read p (entries.Ended p n) images x.steady at h refl
unit_stands A s k image read (entries.Event line) images unit x at h g =
    page_stands A s k image read (entries.Event line) images unit x at h refl tt g (λ r y. event_goes A.swap_blocks k A.images image s.point.flat (locked A s) r y line)
unit_stands A s k image read (entries.Turn pid) images unit x at h g =
    page_stands A s k image read (entries.Turn pid) images unit x at h refl tt g (λ r y. turn_goes A.swap_blocks k A.images image s.point.flat (locked A s) r y pid)
unit_stands A s k image read (entries.Owners f u m o) images unit x at h g =
    page_stands A s k image read (entries.Owners f u m o) images unit x at h refl tt g (λ r y. owners_goes A.swap_blocks k A.images image s.point.flat (locked A s) r y f u m o)
unit_stands A s k image read (entries.Zero q) images unit x at h g =
    page_stands A s k image read (entries.Zero q) images unit x at h refl tt g (λ r y. zero_goes A.swap_blocks k A.images image s.point.flat (locked A s) r y q
    (here A s k image (λ p. zero_reason p q) at (or_none (begun s.point.last) (zero_reason s.place q) h).1))
unit_stands A s k image read (entries.Copy q) images unit x at h g =
    page_stands A s k image read (entries.Copy q) images unit x at h refl tt g (λ r y. copy_goes A.swap_blocks k A.images image s.point.flat (locked A s) r y q
    (due_here A s k image x at) (here A s k image (λ p. copy_reason p q) at (or_none (begun s.point.last) (copy_reason s.place q) h).1))
unit_stands A s k image read (entries.Get q lo n) images unit x at h g =
    page_stands A s k image read (entries.Get q lo n) images unit x at h refl tt g (λ r y. get_goes A.swap_blocks k A.images image s.point.flat (locked A s) r y q lo n
    (due_here A s k image x at) (here A s k image (λ p. get_reason p q lo n) at (or_none (begun s.point.last) (get_reason s.place q lo n) h).1))
unit_stands A s k image read (entries.Reclaim q) images unit x at h g =
    page_stands A s k image read (entries.Reclaim q) images unit x at h refl tt g (λ r y. reclaim_goes A.swap_blocks k A.images image s.point.flat (locked A s) r y q)
unit_stands A s k image read (entries.Hands n) images unit x at h g =
    page_stands A s k image read (entries.Hands n) images unit x at h refl tt g
    (λ r y. subst (λ (m : ℕ). Goes k A.images image s.point.flat (locked A s) r (entries.Hands m)) (sym unit) (hand_goes A.swap_blocks k A.images image s.point.flat (locked A s) r y))
unit_stands A s k image read (entries.Put q n) images unit x at h g =
    page_stands A s k image read (entries.Put q n) images unit x at h refl tt g (λ r y. put_goes A.swap_blocks k A.images image s.point.flat (locked A s) r y q n
    (here A s k image (λ p. put_reason s.point.flat p q n) at (or_none (begun s.point.last) (put_reason s.point.flat s.place q n) h).1))
unit_stands A s k image read entries.Done images unit x at h g =
    page_stands A s k image read entries.Done images unit x at h refl tt g (λ r y. done_goes A.swap_blocks k A.images image s.point.flat (locked A s) r y)
unit_stands A s k image read (entries.SwapOut pid) images unit x at h g =
    let e : out_reason s.point.flat s.place pid ≡ None = (or_none (begun s.point.last) (out_reason s.point.flat s.place pid) h).1 in
    let t : IsPaged A (paged_after A s (entries.SwapOut pid)) = unit_paged A s (entries.SwapOut pid) images unit x h in
    marked A s (entries.SwapOut pid) (unit_step A s k image read (entries.SwapOut pid)) (unit_image k image (entries.SwapOut pid))
    (stands_behind A (after A s (entries.SwapOut pid)) (unit_step A s k image read (entries.SwapOut pid)) (unit_image k image (entries.SwapOut pid)) t.steady.placed
    (off_behind A s k image pid x.steady.placed at g (resident_of s.point.flat s.place pid e) (holds_of s.point.flat s.place pid e)))
unit_stands A s k image read (entries.SwapIn pid) images unit x at h g =
    let e : in_reason s.point.flat s.place pid ≡ None = (or_none (begun s.point.last) (in_reason s.point.flat s.place pid) h).1 in
    let t : IsPaged A (paged_after A s (entries.SwapIn pid)) = unit_paged A s (entries.SwapIn pid) images unit x h in
    marked A s (entries.SwapIn pid) (unit_step A s k image read (entries.SwapIn pid)) image
    (stands_behind A (after A s (entries.SwapIn pid)) (unit_step A s k image read (entries.SwapIn pid)) image t.steady.placed
    (in_behind A s k image pid x.steady.placed at (out_of s.point.flat s.place pid e)))
