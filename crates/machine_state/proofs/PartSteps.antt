-- The step of a part of a move, from what the call of the tables leaves.
use Rattle.std.proofs.Common.{◌≡◌, ◌≤◌, ℕ, List, length, None, refl, sym, ap, ◌∙◌, subst}
use Rattle.vm_facts.specs.declared.entry.Entry.{Entry}
use Rattle.swap_book.specs.Holdings.{Holdings}
use Rattle.swap_book.specs.Book.{IsBook}
use Rattle.page_model.specs.Ownership.{OneOwner}
use Rattle.kernel_laws.proofs.Stays.{steady_stays}
use Rattle.kernel_laws.proofs.Others.{stays_same}
use Rattle.kernel_model.specs.Kernel.{Kernel}
use Rattle.kernel_model.specs.Coupled.{beside_kernel}
use Rattle.kernel_model.specs.Sound.{Sound, lives}
use Rattle.kernel_model.specs.declared.part.HandPart.{HandPart}
use Rattle.kernel_model.specs.HandParts.{PartComes, part_place, part_step}
use Rattle.kernel_laws.proofs.PartLeaves.{Parted, parted}
use Rattle.kernel_laws.proofs.PartMachines.{part_due, part_sound, part_numbered, part_coupled}
use Rattle.table_steps.specs.Tables.{Tables}
use Rattle.table_steps.specs.Alike.{AreRecords}
use Rattle.table_steps.specs.Conditions.{KeepsFlat, SameEverywhere}
use Rattle.table_steps.specs.Launches.{AddsWrite, MovedOn}
use Rattle.table_steps.specs.View.{placement_of, starts_of}
use Rattle.table_steps.specs.Machine.{KernelRuns, Standing, lists_of, kernel_by, images_of, image_at, before_of, processes_of}
use Rattle.table_steps.proofs.Kernels.{kernel_ext}
use Rattle.machine_state.specs.declared.machine.Machine.TheInside.{Inside}
use Rattle.machine_state.specs.Fields.{standing_of, RunsNow, RunsInside}
use Rattle.machine_state.specs.Going.{CanGoOn}
use Rattle.machine_state.proofs.HoldingSteps.{shaped_keeps}
use Rattle.machine_state.proofs.MovesOn.{added_sources}
use Rattle.machine_state.proofs.Standings.{running, stands_now, whole_now}
use Rattle.machine_state.proofs.Stepping.{Steps}

left_of : (size : ℕ) (k : Kernel) (x : HandPart) → Sound size k → PartComes k.place x → Parted k.place (part_place k.place x)
left_of size k x so c = let o : OneOwner size (lives k.processes) k.place k.holdings = so.owner in parted k.place x o.frames c

part_runs : (size : ℕ) (k : Kernel) (x : HandPart) (t u : Tables) → KernelRuns k (lists_of t) size → PartComes k.place x
    → MovedOn t u (part_place k.place x) → KernelRuns (part_step k x) (lists_of u) size
part_runs size k x t u r c m =
    let so : Sound size k = r.sound in
    let o : OneOwner size (lives k.processes) k.place k.holdings = so.owner in
    record {
      sound = part_sound size k x so c;
      numbered = part_numbered size k x so c r.numbered;
      due = part_due k.place x o.frames c r.due;
      tied = m.tied;
    }

pub part_steps : (m n : Inside) (s : Standing) (x : HandPart) → RunsInside m → standing_of m ≡ s → CanGoOn s
    → PartComes (placement_of (lists_of m.tables)) x → MovedOn m.tables n.tables (part_place (placement_of (lists_of m.tables)) x)
    → n.journal ≡ m.journal → n.stopped ≡ m.stopped → n.lost ≡ m.lost → n.room ≡ None
    → Steps m n (part_step (kernel_by m.tables m.journal.items m.stopped) x)
part_steps m n s x h e g c moved journal stopped lost room =
    let t : Tables = m.tables in
    let u : Tables = n.tables in
    let k : Kernel = kernel_by t m.journal.items m.stopped in
    let r : KernelRuns k (lists_of t) t.book.size = running m s h e g in
    let so : Sound t.book.size k = r.sound in
    let d : Parted k.place (part_place k.place x) = left_of t.book.size k x so c in
    let now : RunsNow m = stands_now m s h e g.running.runs in
    let whole = whole_now m s e g.whole in
    let rest = moved.rest in
    let items : n.journal.items ≡ m.journal.items = ap (λ j. j.items) journal in
    record {
      kept = record {
        params = ap (λ (y : Tables). y.params) rest;
        images = ap (λ (y : Tables). y.images.items) rest;
        book = ap (λ (y : Tables). y.book) rest;
        found = ap (λ (y : Tables). y.found) rest;
        next_pid = ap (λ (y : Tables). y.next_pid) rest;
        next_sid = ap (λ (y : Tables). y.next_sid) rest;
        records = subst (λ (y : Tables). AreRecords y.processes y.next_pid) (sym rest) now.stands.records;
      };
      is = kernel_ext (kernel_by u n.journal.items n.stopped) (part_step k x) moved.place (ap (λ (y : Tables). y.book.holdings) rest)
          (ap (λ (y : Tables). processes_of y.processes y.next_pid) rest) (ap (λ (y : Tables). y.next_pid) rest) (ap (λ (y : Tables). y.next_sid) rest)
          (ap (λ (y : Tables). starts_of y.fills.items) rest) moved.frames items stopped;
      runs = part_runs t.book.size k x t u r c moved;
      ring = added_sources (images_of t) (image_at t) (before_of t) t.book.size t.ring u.ring (subst (IsBook t.book.size) (sym whole) so.owner.blocks.book)
          (subst (λ (hs : Holdings). AddsWrite hs t.ring u.ring) (sym whole) moved.ring) now.stands.ring;
      images = moved.images;
      holders = shaped_keeps k (part_step k x) refl d.shaped;
      grown = record {
        within = subst (λ (js : List Entry). length js ≤ t.params.journal) (sym items) now.stands.within;
        some = λ z. sym items ∙ z;
      };
      stopped = stopped;
      lost = lost;
      room = room;
    }

pub part_keeps : (size : ℕ) (k : Kernel) (x : HandPart) → Sound size k → PartComes k.place x → KeepsFlat k (part_step k x)
part_keeps size k x so c images image flat = part_coupled size k x so c images image flat

pub part_alike : (size : ℕ) (k : Kernel) (x : HandPart) → Sound size k → PartComes k.place x → SameEverywhere k (part_step k x)
part_alike size k x so c images image flat w =
    let d : Parted k.place (part_place k.place x) = left_of size k x so c in
    let s = stays_same k.place (part_place k.place x) (beside_kernel k images image flat) w (steady_stays k.place (part_place k.place x) d.steady) in
    record { frames = s.frames; swap = s.swap; start = s.start }
