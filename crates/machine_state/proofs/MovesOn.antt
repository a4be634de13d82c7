-- The step of an entry that moves pages and no bytes, from what the calls of the tables leave.
use Rattle.std.proofs.Common.{◌≡◌, inl, inr, ℕ, ◌≤◌, List, [], ◌∷◌, length, None, refl, sym, ap, ◌∙◌, subst}
use Rattle.vm_facts.specs.declared.page.Page.{Page}
use Rattle.vm_facts.specs.declared.entry.Entry.{Entry}
use Rattle.swap_book.specs.Holdings.{Holdings}
use Rattle.swap_book.specs.Book.{IsBook}
use Rattle.transfer_ring.specs.declared.transfer.Outbound.{Outbound}
use Rattle.transfer_ring.specs.declared.transfer.Transfer.{Transfer as Flight}
use Rattle.transfer_ring.specs.declared.transfer.Transfer.TheVariants as flights
use Rattle.flat_state.specs.Journal.{append}
use Rattle.page_model.specs.Placement.{Placement}
use Rattle.page_model.specs.Place.{place_entry}
use Rattle.page_model.specs.Conditions.{CanPlace, EntryShared}
use Rattle.page_model.specs.Dues.{LeavesDue}
use Rattle.kernel_model.specs.Kernel.{Kernel, plain_step}
use Rattle.table_steps.proofs.KernelLawsSoundSteps.{entry_sound}
use Rattle.table_steps.specs.Tables.{Tables}
use Rattle.machine_state.specs.declared.machine.Machine.TheInside.{Inside}
use Rattle.table_steps.specs.Alike.{AreRecords}
use Rattle.table_steps.specs.Sourced.{ImageNamed, IsFlightSourced, AreOwnBlocks, AreSourced}
use Rattle.table_steps.specs.View.{placement_of, starts_of}
use Rattle.table_steps.specs.Machine.{KernelRuns, Stands, lists_of, kernel_by, images_of, image_at, before_of, processes_of}
use Rattle.table_steps.specs.Launches.{HaveOwnBlocks, IsOwnWrite, AddsWrite, MovedOn}
use Rattle.table_steps.proofs.Kernels.{kernel_ext}
use Rattle.table_steps.proofs.Sources.{own_place}
use Rattle.machine_state.proofs.HoldingSteps.{page_keeps}
use Rattle.machine_state.proofs.Stepping.{Steps}
use Rattle.machine_state.proofs.StepRuns.{plain_runs}
use Rattle.table_steps.proofs.Stills.{appended, sourced_more}

-- What is known of such a step.
pub record Moving (m : Inside) (u : Tables) (p : Placement) (locked : List Page) (e : Entry) : Type 0 where
  pub runs : KernelRuns (kernel_by m.tables m.journal.items m.stopped) (lists_of m.tables) m.tables.book.size
  pub moved : MovedOn m.tables u p
  pub is : p ≡ place_entry locked (length (append m.journal.items e)) (placement_of (lists_of m.tables)) e
  pub can : CanPlace (placement_of (lists_of m.tables)) e
  pub shared : EntryShared (placement_of (lists_of m.tables)) e
  pub leaves : LeavesDue (placement_of (lists_of m.tables)) e
  pub few : length p.transfers ≤ 16

-- The sources of the ring.

own_blocks : (hs : Holdings) (size : ℕ) (xs : List Outbound) → IsBook size hs → HaveOwnBlocks hs xs → AreOwnBlocks hs size xs
own_blocks hs size [] book h = tt
own_blocks hs size (x ∷ xs) book h = (own_place size hs x.page x.block book h.0, own_blocks hs size xs book h.1)

own_flight : (ns : List ImageNamed) (f : ℕ → ℕ) (hs : Holdings) (size : ℕ) (x : Flight) → IsBook size hs → IsOwnWrite hs x → IsFlightSourced ns f hs size x
own_flight ns f hs size (flights.Read demanded parts) book h = absurd h
own_flight ns f hs size (flights.Write parts) book h = own_blocks hs size parts.items book h

pub added_sources : (ns : List ImageNamed) (f : ℕ → ℕ) (hs : Holdings) (size : ℕ) (old new : List Flight) → IsBook size hs → AddsWrite hs old new
    → AreSourced ns f hs size old → AreSourced ns f hs size new
added_sources ns f hs size old new book (inl e) h = subst (AreSourced ns f hs size) (sym e) h
added_sources ns f hs size old new book (inr a) h = subst (AreSourced ns f hs size) (sym a.1) (sourced_more ns f hs size old a.0 h (own_flight ns f hs size a.0 book a.2))

pub moving_steps : (m n : Inside) (p : Placement) (locked : List Page) (e : Entry) → Moving m n.tables p locked e
    → Stands m.tables m.journal.items m.stopped → before_of m.tables ≡ m.tables.book.holdings
    → n.journal.items ≡ append m.journal.items e → length n.journal.items ≤ m.tables.params.journal
    → n.stopped ≡ m.stopped → n.lost ≡ m.lost → n.room ≡ None
    → Steps m n (plain_step (kernel_by m.tables m.journal.items m.stopped) locked e)
moving_steps m n p locked e g stands whole journal within stopped lost room =
    let t : Tables = m.tables in
    let u : Tables = n.tables in
    let k : Kernel = kernel_by t m.journal.items m.stopped in
    let rest = g.moved.rest in
    record {
      kept = record {
        params = ap (λ (x : Tables). x.params) rest;
        images = ap (λ (x : Tables). x.images.items) rest;
        book = ap (λ (x : Tables). x.book) rest;
        found = ap (λ (x : Tables). x.found) rest;
        next_pid = ap (λ (x : Tables). x.next_pid) rest;
        next_sid = ap (λ (x : Tables). x.next_sid) rest;
        records = subst (λ (x : Tables). AreRecords x.processes x.next_pid) (sym rest) stands.records;
      };
      is = kernel_ext (kernel_by u n.journal.items n.stopped) (plain_step k locked e) (g.moved.place ∙ g.is) (ap (λ (x : Tables). x.book.holdings) rest)
          (ap (λ (x : Tables). processes_of x.processes x.next_pid) rest) (ap (λ (x : Tables). x.next_pid) rest) (ap (λ (x : Tables). x.next_sid) rest)
          (ap (λ (x : Tables). starts_of x.fills.items) rest) g.moved.frames journal stopped;
      runs = plain_runs t.book.size k (lists_of t) (lists_of u) g.runs g.moved.tied locked e g.can g.leaves
          (entry_sound t.book.size k locked e g.runs.sound g.can g.shared (subst (λ (q : Placement). length q.transfers ≤ 16) g.is g.few));
      ring = added_sources (images_of t) (image_at t) (before_of t) t.book.size t.ring u.ring (subst (IsBook t.book.size) (sym whole) g.runs.sound.owner.blocks.book)
          (subst (λ (hs : Holdings). AddsWrite hs t.ring u.ring) (sym whole) g.moved.ring) stands.ring;
      images = g.moved.images;
      holders = page_keeps k (plain_step k locked e) locked (length (append m.journal.items e)) e refl refl;
      grown = appended m.journal.items n.journal.items e t.params.journal journal within;
      stopped = stopped;
      lost = lost;
      room = room;
    }
