use Rattle.std.proofs.Common.{◌≡◌, ℕ, ◌*◌, ◌<◌, ◌≤◌, List, [], ◌∷◌, ◌++◌, Bool, true, length, map, drop, Some, Result, Ok, refl, sym, ap, ◌∙◌, subst, arith, rules}
use Rattle.vm_facts.specs.SwapImages.{SwapImage}
use Rattle.vm_facts.specs.declared.entry.Entry.{Entry}
use Rattle.vm_facts.specs.declared.stop.Stop.{Stop}
use Rattle.vm_facts.specs.declared.entry.Entry.TheVariants as entries
use Rattle.transfer_ring.specs.declared.transfer.Finished.TheVariants as answers
use Rattle.page_model.specs.Placement.{FromSwap, FromFile, image_of}
use Rattle.kernel_model.specs.Kernel.{Kernel, done_step}
use Rattle.kernel_model.specs.Sound.{TextFits}
use Rattle.table_steps.specs.View.{transfer_shown}
use Rattle.table_steps.specs.Done.{sources, ReadsTold, StandsTold, SpoilsAfter, OldestReadsFrom}
use Rattle.machine_state.proofs.Ends.{brought}
use Rattle.transfer_ring.specs.declared.transfer.Transfer.{Transfer as Flight}
use Rattle.table_steps.specs.Tables.{Tables}
use Rattle.table_steps.specs.Sourced.{AreSourced, files_named}
use Rattle.table_steps.specs.Files.{AreFiles, AreImages}
use Rattle.table_steps.specs.Machine.{Standing, lists_of, kernel_by, image_at, images_of, before_of}
use Rattle.machine_state.proofs.Knowing.{known_of, known_now}
use Rattle.machine_state.proofs.Standings.{running, stands_now}
use Rattle.machine_state.proofs.Stepping.{Kept, Stepped, stepped}
use Rattle.machine_state.proofs.HoldingSteps.{page_keeps}
use Rattle.machine_state.proofs.StepRuns.{done_runs}
use Rattle.table_steps.proofs.Stills.{pushed}
use Rattle.machine_state.proofs.Reaches.{reachable}
use Rattle.machine_state.proofs.Dones.{Came, came, done_back, was_lists, back_known, Doing, done_kernel, before, rest_sourced, done_image, done_told, spoiled_image, asked_image, unasked_image, done_keeps}
use Rattle.machine_state.proofs.FailedReads.{file_failed, swap_read_failed}
use Rattle.io_edge.specs.FileRequests.{after_requests}
use Rattle.machine_state.specs.FilesAsked.{oldest_asked, NotedAfter, OldestAskedUpTo}
use Rattle.machine_state.proofs.SwapAsked.{SwapDone, SwapAskedAfter}
use Rattle.machine_state.proofs.Besides.{done_beside, spoiled_beside, asked_beside, filled_beside, told_beside, stands_beside, stands_alone}
use Rattle.machine_state.proofs.Noting.{oldest_notes, done_notes, file_notes, swap_notes, write_notes}
use Rattle.machine_state.proofs.Losing.{lost}
use Rattle.machine_state.proofs.machine.Machine.done.Given.{Over}
use Rattle.machine_state.proofs.machine.Machine.done.Goals as goal

pub complete_oldest-requires : goal.complete_oldest-requires
complete_oldest-requires g c =
    let now = stands_now c.self.inside c.args.self.now c.self.invariant c.self.view_is c.requires.asks.ready.running.runs in
    let t : Tables = c.self.inside.tables in
    let area = c.requires.asks.backed.area in
    let size = now.stands.book in
    let p = ap (λ (s : Standing). s.params.swap_blocks) c.self.view_is in
    reachable (images_of t) (image_at t) (before_of t) t.book.size (g.D.SwapDev.blocks c.args.swap.now) (g.F.Files.holds c.args.files.now) t.ring (omega arith)
    (subst (λ (s : Standing). AreFiles s.images (g.F.Files.holds c.args.files.now)) (sym c.self.view_is) c.requires.asks.backed.files) now.stands.ring

pub land-requires : goal.land-requires
land-requires g c =
    let t : Tables = c.self.inside.tables in
    let k = known_now c.self.inside c.args.self.now c.self.invariant c.self.view_is c.requires.asks.ready c.stands.ensures in
    let e = came t.ring (g.F.Files.holds c.args.files.now) (g.D.SwapDev.image c.args.swap.now) (g.D.SwapDev.image c.complete_oldest.new.swap) _ c.in-Done.ensures.ends (λ i. let x = i in cc) in
    back_known t c.complete_oldest.new.self e.oldest c.in-Done.transfer (was_lists t c.complete_oldest.new.self e.rest e.oldest e.ring_is c.in-Done.ensures.rest)
    (done_back e.oldest c.in-Done.transfer _ _ _ e.ends) k

back : (g : Over) (c : goal.After-push_reserved g)
    → Came c.self.inside.tables.ring (g.F.Files.holds c.args.files.now) (g.D.SwapDev.image c.args.swap.now) (g.D.SwapDev.image c.complete_oldest.new.swap)
    (answers.Done c.in-Done.transfer)
back g c = came _ _ _ _ _ c.in-Done.ensures.ends (λ i. let x = i in cc)

step : (g : Over) (c : goal.After-push_reserved g)
    → Stepped c.self.inside
    (record c.self.inside { tables = c.land.new.tables; journal = c.push_reserved.new.self; room = c.make_room.new.room }) c.args.self.now
    (done_step (kernel_by c.self.inside.tables c.self.inside.journal.items c.self.inside.stopped) (brought c.in-Done.transfer))
step g c =
    let t : Tables = c.self.inside.tables in
    let w : Tables = c.land.new.tables in
    let k : Kernel = kernel_by t c.self.inside.journal.items c.self.inside.stopped in
    let n : Flight = c.in-Done.transfer in
    let r = running c.self.inside c.args.self.now c.self.invariant c.self.view_is c.requires.asks.ready in
    let e = back g c in
    let d : Doing t w c.complete_oldest.new.self e.oldest n = record {
      known = known_of c.self.inside c.stands.ensures r;
      was = was_lists t c.complete_oldest.new.self e.rest e.oldest e.ring_is c.in-Done.ensures.rest;
      back = done_back e.oldest n _ _ _ e.ends;
      place = c.land.ensures.place;
      all = c.land.ensures.all;
    } in
    let journal : c.push_reserved.new.self.items ≡ c.self.inside.journal.items ++ entries.Done ∷ [] =
    c.push_reserved.ensures.items ∙ ap (λ (j : List Entry). j ++ entries.Done ∷ []) c.make_room.ensures.same in
    let left : w.ring ≡ e.rest = ap (λ (x : Tables). x.ring) d.all.rest ∙ c.in-Done.ensures.rest ∙ ap (drop 1) e.ring_is in
    let now = stands_now c.self.inside c.args.self.now c.self.invariant c.self.view_is c.requires.asks.ready.running.runs in
    stepped c.self.inside _ c.args.self.now _ c.self.invariant c.self.view_is c.requires.asks.ready (record {
      kept = subst (Kept t) (sym d.all.rest) (record { params = refl; images = refl; book = refl; found = refl; next_pid = refl; next_sid = refl; records = now.stands.records });
      is = ap (λ (j : List Entry). kernel_by w j c.self.inside.stopped) journal ∙ done_kernel t w c.complete_oldest.new.self e.oldest n c.self.inside.journal.items c.self.inside.stopped d;
      runs = done_runs t.book.size k (lists_of t) _ r d.all.tied (brought n);
      ring = subst (AreSourced (images_of t) (image_at t) (before_of t) t.book.size) (sym left)
          (rest_sourced (images_of t) (image_at t) (before_of t) t.book.size t.ring e.rest e.oldest e.ring_is now.stands.ring);
      images = d.all.images;
      holders = page_keeps k (done_step k (brought n)) [] 0 entries.Done refl refl;
      grown = pushed _ _ _ _ _ refl journal c.in_ok-make_room.ensures.ok.0;
      stopped = refl;
      lost = refl;
      room = c.make_room.ensures.room;
    })

pub invariant_of-self-in-Done : goal.invariant_of-self-in-Done
invariant_of-self-in-Done g c = (step g c).inside

pub returns-in-Done : goal.returns-in-Done
returns-in-Done g c =
    let t : Tables = c.self.inside.tables in
    let r = running c.self.inside c.args.self.now c.self.invariant c.self.view_is c.requires.asks.ready in
    let e = back g c in
    let n : Flight = c.in-Done.transfer in
    let b : Kernel = kernel_by t c.self.inside.journal.items c.self.inside.stopped in
    let f = before c.self.inside c.args.self.now e.oldest e.rest c.self.invariant c.self.view_is c.requires.asks.ready c.stands.ensures e.ring_is in
    let z = step g c in
    let files = subst (λ (s : Standing). AreFiles s.images (g.F.Files.holds c.args.files.now)) (sym c.self.view_is) c.requires.asks.backed.files in
    let noted : g.F.Files.notes c.complete_oldest.new.files ≡ after_requests
    (oldest_asked (files_named c.args.self.now.images) (image_of c.args.self.now.kernel.place) c.args.self.now.kernel.place.transfers)
    (g.F.Files.notes c.args.files.now) =
    subst (λ (s : Standing). let r : Result Bool Stop = Ok true in NotedAfter r (files_named s.images) s.kernel.place (g.F.Files.notes c.args.files.now)
    (g.F.Files.notes c.complete_oldest.new.files)) c.self.view_is
    (done_notes t (images_of t) b e.oldest n e.rest t.book.size (g.F.Files.notes c.args.files.now) (g.F.Files.notes c.complete_oldest.new.files) f
    (oldest_notes t.ring e.oldest e.rest _ _ _ e.ring_is c.in-Done.ensures.notes)) in
    record {
      idle = search rules;
      still = search rules;
      step = λ _.
          record {
            some = subst (λ (s : Standing). 0 < length s.kernel.place.transfers) c.self.view_is (subst (λ (ts : List Flight). 0 < length (map transfer_shown ts)) (sym e.ring_is) (omega arith));
            read = brought n;
            step = z.is ∙ ap (λ (s : Standing). done_step s.kernel (brought n)) c.self.view_is;
            told = told_beside (sources c.args.self.now (g.F.Files.holds c.args.files.now)) (g.D.SwapDev.image c.args.swap.now) c.args.self.now.kernel (brought n) (g.F.Files.notes c.args.files.now)
                (subst (λ (s : Standing). ReadsTold (sources s (g.F.Files.holds c.args.files.now)) (g.D.SwapDev.image c.args.swap.now) s.kernel (brought n)) c.self.view_is
                (done_told t (images_of t) b e.oldest n e.rest t.book.size (g.F.Files.holds c.args.files.now) (g.D.SwapDev.image c.args.swap.now)
                (g.D.SwapDev.image c.complete_oldest.new.swap) f e.ends files c.land.ensures.whole));
          };
      rest = λ _. z.rest;
      keeps = λ images flat loads fits stood.
          let area = c.requires.asks.backed.area in
          let size = (stands_now c.self.inside c.args.self.now c.self.invariant c.self.view_is c.requires.asks.ready.running.runs).stands.book in
          let p = ap (λ (s : Standing). s.params.swap_blocks) c.self.view_is in
          let long : (image : SwapImage) → (g.D.SwapDev.image c.args.swap.now) ≡ Some image → 512 * t.book.size ≤ length image.bytes =
          λ image i. let m = g.met.D.SwapDev.whole c.args.swap.now image i in omega arith in
          stands_beside _ images (g.D.SwapDev.image c.complete_oldest.new.swap) flat (g.F.Files.notes c.complete_oldest.new.files)
          (z.says (λ (k l : Kernel). TextFits images k.place → StandsTold k images (g.D.SwapDev.image c.args.swap.now) flat → StandsTold l images (g.D.SwapDev.image c.complete_oldest.new.swap) flat)
          (λ now_fits. done_keeps t (images_of t) b e.oldest n e.rest t.book.size (g.F.Files.holds c.args.files.now) (g.D.SwapDev.image c.args.swap.now)
          (g.D.SwapDev.image c.complete_oldest.new.swap) images flat f e.ends r.sound files
          (subst (λ (s : Standing). AreImages s.images (g.F.Files.holds c.args.files.now) images) (sym c.self.view_is) loads) c.land.ensures.whole now_fits long)
          fits (stands_alone c.args.self.now.kernel images (g.D.SwapDev.image c.args.swap.now) flat (g.F.Files.notes c.args.files.now) stood));
      swapped = done_beside (files_named c.args.self.now.images) c.args.self.now.kernel (g.D.SwapDev.image c.args.swap.now) (g.D.SwapDev.image c.complete_oldest.new.swap)
          (g.F.Files.notes c.args.files.now) (g.F.Files.notes c.complete_oldest.new.files)
          (subst (λ (s : Standing). SwapDone s.kernel (g.D.SwapDev.image c.args.swap.now) (g.D.SwapDev.image c.complete_oldest.new.swap)) c.self.view_is (done_image t (images_of t) b e.oldest
          c.in-Done.transfer e.rest t.book.size (g.F.Files.holds c.args.files.now) (g.D.SwapDev.image c.args.swap.now) (g.D.SwapDev.image c.complete_oldest.new.swap) f e.ends))
          noted;
      spoiled = search rules;
      noted = noted;
      stop = search rules;
      cause = search rules;
      lost = search rules;
      full = search rules;
      outside = record {
        files = record { leads = search rules; holds = search rules; open_faults = search rules; page_faults = search rules };
        swap = record { leads = search rules; blocks = search rules; read_faults = search rules; write_faults = search rules };
      };
      goes_on = z.goes_on;
    }

pub returns-in-SwapWriteFault-clause-spoiled : goal.returns-in-SwapWriteFault-clause-spoiled
returns-in-SwapWriteFault-clause-spoiled g c =
    let t : Tables = c.self.inside.tables in
    let e : Came t.ring (g.F.Files.holds c.args.files.now) (g.D.SwapDev.image c.args.swap.now) (g.D.SwapDev.image c.complete_oldest.new.swap) (answers.SwapWriteFault c.in-SwapWriteFault.transfer) =
    came t.ring (g.F.Files.holds c.args.files.now) (g.D.SwapDev.image c.args.swap.now) (g.D.SwapDev.image c.complete_oldest.new.swap)
    (answers.SwapWriteFault c.in-SwapWriteFault.transfer) c.in-SwapWriteFault.ensures.ends (λ i. let x = i in cc) in
    let b : Kernel = kernel_by t c.self.inside.journal.items c.self.inside.stopped in
    let f = before c.self.inside c.args.self.now e.oldest e.rest c.self.invariant c.self.view_is c.requires.asks.ready c.stands.ensures e.ring_is in
    spoiled_beside c.args.self.now.kernel (g.D.SwapDev.image c.args.swap.now) (g.D.SwapDev.image c.complete_oldest.new.swap) (g.F.Files.notes c.args.files.now)
    (g.F.Files.notes c.complete_oldest.new.files)
    (subst (λ (s : Standing). SpoilsAfter s.kernel (g.D.SwapDev.image c.args.swap.now) (g.D.SwapDev.image c.complete_oldest.new.swap)) c.self.view_is (spoiled_image t (images_of t) b e.oldest
    c.in-SwapWriteFault.transfer e.rest t.book.size (g.F.Files.holds c.args.files.now) (g.D.SwapDev.image c.args.swap.now) (g.D.SwapDev.image c.complete_oldest.new.swap) f e.ends))
    (write_notes t (images_of t) b e.oldest c.in-SwapWriteFault.transfer e.rest t.book.size (g.F.Files.notes c.args.files.now) (g.F.Files.notes c.complete_oldest.new.files)
    (oldest_notes t.ring e.oldest e.rest _ _ _ e.ring_is c.in-SwapWriteFault.ensures.notes))

pub returns-in-FileFault-clause-spoiled : goal.returns-in-FileFault-clause-spoiled
returns-in-FileFault-clause-spoiled g c =
    let t : Tables = c.self.inside.tables in
    let now = stands_now c.self.inside c.args.self.now c.self.invariant c.self.view_is c.requires.asks.ready.running.runs in
    let e : Came t.ring (g.F.Files.holds c.args.files.now) (g.D.SwapDev.image c.args.swap.now) (g.D.SwapDev.image c.complete_oldest.new.swap) (answers.FileFault c.in-FileFault.transfer) =
    came t.ring (g.F.Files.holds c.args.files.now) (g.D.SwapDev.image c.args.swap.now) (g.D.SwapDev.image c.complete_oldest.new.swap)
    (answers.FileFault c.in-FileFault.transfer) c.in-FileFault.ensures.ends (λ i. let x = i in cc) in
    let b : Kernel = kernel_by t c.self.inside.journal.items c.self.inside.stopped in
    let f = before c.self.inside c.args.self.now e.oldest e.rest c.self.invariant c.self.view_is c.requires.asks.ready c.stands.ensures e.ring_is in
    filled_beside (files_named c.args.self.now.images) c.args.self.now.kernel (g.D.SwapDev.image c.args.swap.now) (g.D.SwapDev.image c.complete_oldest.new.swap)
    (g.F.Files.notes c.args.files.now) (g.F.Files.notes c.complete_oldest.new.files)
    (subst (λ (s : Standing). OldestReadsFrom FromFile s.kernel.place.transfers) c.self.view_is
    (file_failed (images_of t) (image_at t) (before_of t) t.book.size t.ring c.in-FileFault.transfer (g.F.Files.holds c.args.files.now) (g.D.SwapDev.image c.args.swap.now)
    (g.D.SwapDev.image c.complete_oldest.new.swap) now.stands.ring c.in-FileFault.ensures.ends))
    (unasked_image t (images_of t) b e.oldest c.in-FileFault.transfer e.rest t.book.size (g.F.Files.holds c.args.files.now) (g.D.SwapDev.image c.args.swap.now)
    (g.D.SwapDev.image c.complete_oldest.new.swap) f
    (file_failed (images_of t) (image_at t) (before_of t) t.book.size t.ring c.in-FileFault.transfer (g.F.Files.holds c.args.files.now) (g.D.SwapDev.image c.args.swap.now)
    (g.D.SwapDev.image c.complete_oldest.new.swap) now.stands.ring c.in-FileFault.ensures.ends) e.ends)
    (subst (λ (s : Standing). OldestAskedUpTo (files_named s.images) (image_of s.kernel.place) s.kernel.place.transfers (g.F.Files.notes c.args.files.now)
    (g.F.Files.notes c.complete_oldest.new.files)) c.self.view_is
    (file_notes t (images_of t) b e.oldest c.in-FileFault.transfer e.rest t.book.size (g.F.Files.notes c.args.files.now) (g.F.Files.notes c.complete_oldest.new.files) f
    (file_failed (images_of t) (image_at t) (before_of t) t.book.size t.ring c.in-FileFault.transfer (g.F.Files.holds c.args.files.now)
    (g.D.SwapDev.image c.args.swap.now) (g.D.SwapDev.image c.complete_oldest.new.swap) now.stands.ring c.in-FileFault.ensures.ends)
    (oldest_notes t.ring e.oldest e.rest _ _ _ e.ring_is c.in-FileFault.ensures.notes)))

pub returns-in-SwapReadFault-clause-spoiled : goal.returns-in-SwapReadFault-clause-spoiled
returns-in-SwapReadFault-clause-spoiled g c =
    let t : Tables = c.self.inside.tables in
    let now = stands_now c.self.inside c.args.self.now c.self.invariant c.self.view_is c.requires.asks.ready.running.runs in
    let e : Came t.ring (g.F.Files.holds c.args.files.now) (g.D.SwapDev.image c.args.swap.now) (g.D.SwapDev.image c.complete_oldest.new.swap) (answers.SwapReadFault c.in-SwapReadFault.transfer) =
    came t.ring (g.F.Files.holds c.args.files.now) (g.D.SwapDev.image c.args.swap.now) (g.D.SwapDev.image c.complete_oldest.new.swap)
    (answers.SwapReadFault c.in-SwapReadFault.transfer) c.in-SwapReadFault.ensures.ends (λ i. let x = i in cc) in
    let b : Kernel = kernel_by t c.self.inside.journal.items c.self.inside.stopped in
    let f = before c.self.inside c.args.self.now e.oldest e.rest c.self.invariant c.self.view_is c.requires.asks.ready c.stands.ensures e.ring_is in
    asked_beside (files_named c.args.self.now.images) c.args.self.now.kernel (g.D.SwapDev.image c.args.swap.now) (g.D.SwapDev.image c.complete_oldest.new.swap)
    (g.F.Files.notes c.args.files.now) (g.F.Files.notes c.complete_oldest.new.files)
    (subst (λ (s : Standing). OldestReadsFrom FromSwap s.kernel.place.transfers) c.self.view_is
    (swap_read_failed (images_of t) (image_at t) (before_of t) t.book.size t.ring c.in-SwapReadFault.transfer (g.F.Files.holds c.args.files.now) (g.D.SwapDev.image c.args.swap.now)
    (g.D.SwapDev.image c.complete_oldest.new.swap) now.stands.ring c.in-SwapReadFault.ensures.ends))
    (subst (λ (s : Standing). SwapAskedAfter s.kernel (g.D.SwapDev.image c.args.swap.now) (g.D.SwapDev.image c.complete_oldest.new.swap)) c.self.view_is
    (asked_image t (images_of t) b e.oldest c.in-SwapReadFault.transfer e.rest t.book.size (g.F.Files.holds c.args.files.now) (g.D.SwapDev.image c.args.swap.now)
    (g.D.SwapDev.image c.complete_oldest.new.swap) f
    (swap_read_failed (images_of t) (image_at t) (before_of t) t.book.size t.ring c.in-SwapReadFault.transfer (g.F.Files.holds c.args.files.now) (g.D.SwapDev.image c.args.swap.now)
    (g.D.SwapDev.image c.complete_oldest.new.swap) now.stands.ring c.in-SwapReadFault.ensures.ends) e.ends))
    (swap_notes t (images_of t) b e.oldest c.in-SwapReadFault.transfer e.rest t.book.size (g.F.Files.notes c.args.files.now) (g.F.Files.notes c.complete_oldest.new.files) f
    (swap_read_failed (images_of t) (image_at t) (before_of t) t.book.size t.ring c.in-SwapReadFault.transfer (g.F.Files.holds c.args.files.now)
    (g.D.SwapDev.image c.args.swap.now) (g.D.SwapDev.image c.complete_oldest.new.swap) now.stands.ring c.in-SwapReadFault.ensures.ends)
    (oldest_notes t.ring e.oldest e.rest _ _ _ e.ring_is c.in-SwapReadFault.ensures.notes))

pub returns-in-FileFault-clause-cause : goal.returns-in-FileFault-clause-cause
returns-in-FileFault-clause-cause g c =
    let t : Tables = c.self.inside.tables in
    let now = stands_now c.self.inside c.args.self.now c.self.invariant c.self.view_is c.requires.asks.ready.running.runs in
    subst (λ (s : Standing). OldestReadsFrom FromFile s.kernel.place.transfers) c.self.view_is
    (file_failed (images_of t) (image_at t) (before_of t) t.book.size t.ring c.in-FileFault.transfer (g.F.Files.holds c.args.files.now) (g.D.SwapDev.image c.args.swap.now)
    (g.D.SwapDev.image c.complete_oldest.new.swap) now.stands.ring c.in-FileFault.ensures.ends)

pub returns-in-SwapReadFault-clause-cause : goal.returns-in-SwapReadFault-clause-cause
returns-in-SwapReadFault-clause-cause g c =
    let t : Tables = c.self.inside.tables in
    let now = stands_now c.self.inside c.args.self.now c.self.invariant c.self.view_is c.requires.asks.ready.running.runs in
    subst (λ (s : Standing). OldestReadsFrom FromSwap s.kernel.place.transfers) c.self.view_is
    (swap_read_failed (images_of t) (image_at t) (before_of t) t.book.size t.ring c.in-SwapReadFault.transfer (g.F.Files.holds c.args.files.now) (g.D.SwapDev.image c.args.swap.now)
    (g.D.SwapDev.image c.complete_oldest.new.swap) now.stands.ring c.in-SwapReadFault.ensures.ends)

pub returns-in-FileFault-clause-lost : goal.returns-in-FileFault-clause-lost
returns-in-FileFault-clause-lost g c =
    let t : Tables = c.self.inside.tables in
    let e : Came t.ring (g.F.Files.holds c.args.files.now) (g.D.SwapDev.image c.args.swap.now) (g.D.SwapDev.image c.complete_oldest.new.swap) (answers.FileFault c.in-FileFault.transfer) =
    came t.ring (g.F.Files.holds c.args.files.now) (g.D.SwapDev.image c.args.swap.now) (g.D.SwapDev.image c.complete_oldest.new.swap)
    (answers.FileFault c.in-FileFault.transfer) c.in-FileFault.ensures.ends (λ i. let x = i in cc) in
    lost c.self.inside c.complete_oldest.new.self e.rest e.oldest c.args.self.now c.make_room.new.journal.items c.lose.new.stopped _ e.ring_is c.in-FileFault.ensures.rest
    (known_now c.self.inside c.args.self.now c.self.invariant c.self.view_is c.requires.asks.ready c.stands.ensures) c.self.view_is
    c.make_room.ensures.same c.lose.ensures

pub returns-in-SwapReadFault-clause-lost : goal.returns-in-SwapReadFault-clause-lost
returns-in-SwapReadFault-clause-lost g c =
    let t : Tables = c.self.inside.tables in
    let e : Came t.ring (g.F.Files.holds c.args.files.now) (g.D.SwapDev.image c.args.swap.now) (g.D.SwapDev.image c.complete_oldest.new.swap) (answers.SwapReadFault c.in-SwapReadFault.transfer) =
    came t.ring (g.F.Files.holds c.args.files.now) (g.D.SwapDev.image c.args.swap.now) (g.D.SwapDev.image c.complete_oldest.new.swap)
    (answers.SwapReadFault c.in-SwapReadFault.transfer) c.in-SwapReadFault.ensures.ends (λ i. let x = i in cc) in
    lost c.self.inside c.complete_oldest.new.self e.rest e.oldest c.args.self.now c.make_room.new.journal.items c.lose-in-SwapReadFault.new.stopped _ e.ring_is c.in-SwapReadFault.ensures.rest
    (known_now c.self.inside c.args.self.now c.self.invariant c.self.view_is c.requires.asks.ready c.stands.ensures) c.self.view_is
    c.make_room.ensures.same c.lose-in-SwapReadFault.ensures

pub returns-in-SwapWriteFault-clause-lost : goal.returns-in-SwapWriteFault-clause-lost
returns-in-SwapWriteFault-clause-lost g c =
    let t : Tables = c.self.inside.tables in
    let e : Came t.ring (g.F.Files.holds c.args.files.now) (g.D.SwapDev.image c.args.swap.now) (g.D.SwapDev.image c.complete_oldest.new.swap) (answers.SwapWriteFault c.in-SwapWriteFault.transfer) =
    came t.ring (g.F.Files.holds c.args.files.now) (g.D.SwapDev.image c.args.swap.now) (g.D.SwapDev.image c.complete_oldest.new.swap)
    (answers.SwapWriteFault c.in-SwapWriteFault.transfer) c.in-SwapWriteFault.ensures.ends (λ i. let x = i in cc) in
    lost c.self.inside c.complete_oldest.new.self e.rest e.oldest c.args.self.now c.make_room.new.journal.items c.lose-in-SwapWriteFault.new.stopped _ e.ring_is c.in-SwapWriteFault.ensures.rest
    (known_now c.self.inside c.args.self.now c.self.invariant c.self.view_is c.requires.asks.ready c.stands.ensures) c.self.view_is
    c.make_room.ensures.same c.lose-in-SwapWriteFault.ensures

pub returns-in-FileFault-clause-noted : goal.returns-in-FileFault-clause-noted
returns-in-FileFault-clause-noted g c =
    let t : Tables = c.self.inside.tables in
    let now = stands_now c.self.inside c.args.self.now c.self.invariant c.self.view_is c.requires.asks.ready.running.runs in
    let e : Came t.ring (g.F.Files.holds c.args.files.now) (g.D.SwapDev.image c.args.swap.now) (g.D.SwapDev.image c.complete_oldest.new.swap) (answers.FileFault c.in-FileFault.transfer) =
    came t.ring (g.F.Files.holds c.args.files.now) (g.D.SwapDev.image c.args.swap.now) (g.D.SwapDev.image c.complete_oldest.new.swap)
    (answers.FileFault c.in-FileFault.transfer) c.in-FileFault.ensures.ends (λ i. let x = i in cc) in
    let b : Kernel = kernel_by t c.self.inside.journal.items c.self.inside.stopped in
    let f = before c.self.inside c.args.self.now e.oldest e.rest c.self.invariant c.self.view_is c.requires.asks.ready c.stands.ensures e.ring_is in
    subst (λ (s : Standing). OldestAskedUpTo (files_named s.images) (image_of s.kernel.place) s.kernel.place.transfers (g.F.Files.notes c.args.files.now)
    (g.F.Files.notes c.complete_oldest.new.files)) c.self.view_is
    (file_notes t (images_of t) b e.oldest c.in-FileFault.transfer e.rest t.book.size (g.F.Files.notes c.args.files.now) (g.F.Files.notes c.complete_oldest.new.files) f
    (file_failed (images_of t) (image_at t) (before_of t) t.book.size t.ring c.in-FileFault.transfer (g.F.Files.holds c.args.files.now)
    (g.D.SwapDev.image c.args.swap.now) (g.D.SwapDev.image c.complete_oldest.new.swap) now.stands.ring c.in-FileFault.ensures.ends)
    (oldest_notes t.ring e.oldest e.rest _ _ _ e.ring_is c.in-FileFault.ensures.notes))

pub returns-in-SwapReadFault-clause-noted : goal.returns-in-SwapReadFault-clause-noted
returns-in-SwapReadFault-clause-noted g c =
    let t : Tables = c.self.inside.tables in
    let now = stands_now c.self.inside c.args.self.now c.self.invariant c.self.view_is c.requires.asks.ready.running.runs in
    let e : Came t.ring (g.F.Files.holds c.args.files.now) (g.D.SwapDev.image c.args.swap.now) (g.D.SwapDev.image c.complete_oldest.new.swap) (answers.SwapReadFault c.in-SwapReadFault.transfer) =
    came t.ring (g.F.Files.holds c.args.files.now) (g.D.SwapDev.image c.args.swap.now) (g.D.SwapDev.image c.complete_oldest.new.swap)
    (answers.SwapReadFault c.in-SwapReadFault.transfer) c.in-SwapReadFault.ensures.ends (λ i. let x = i in cc) in
    let b : Kernel = kernel_by t c.self.inside.journal.items c.self.inside.stopped in
    let f = before c.self.inside c.args.self.now e.oldest e.rest c.self.invariant c.self.view_is c.requires.asks.ready c.stands.ensures e.ring_is in
    swap_notes t (images_of t) b e.oldest c.in-SwapReadFault.transfer e.rest t.book.size (g.F.Files.notes c.args.files.now) (g.F.Files.notes c.complete_oldest.new.files) f
    (swap_read_failed (images_of t) (image_at t) (before_of t) t.book.size t.ring c.in-SwapReadFault.transfer (g.F.Files.holds c.args.files.now)
    (g.D.SwapDev.image c.args.swap.now) (g.D.SwapDev.image c.complete_oldest.new.swap) now.stands.ring c.in-SwapReadFault.ensures.ends)
    (oldest_notes t.ring e.oldest e.rest _ _ _ e.ring_is c.in-SwapReadFault.ensures.notes)

pub returns-in-SwapWriteFault-clause-noted : goal.returns-in-SwapWriteFault-clause-noted
returns-in-SwapWriteFault-clause-noted g c =
    let t : Tables = c.self.inside.tables in
    let e : Came t.ring (g.F.Files.holds c.args.files.now) (g.D.SwapDev.image c.args.swap.now) (g.D.SwapDev.image c.complete_oldest.new.swap) (answers.SwapWriteFault c.in-SwapWriteFault.transfer) =
    came t.ring (g.F.Files.holds c.args.files.now) (g.D.SwapDev.image c.args.swap.now) (g.D.SwapDev.image c.complete_oldest.new.swap)
    (answers.SwapWriteFault c.in-SwapWriteFault.transfer) c.in-SwapWriteFault.ensures.ends (λ i. let x = i in cc) in
    let b : Kernel = kernel_by t c.self.inside.journal.items c.self.inside.stopped in
    write_notes t (images_of t) b e.oldest c.in-SwapWriteFault.transfer e.rest t.book.size (g.F.Files.notes c.args.files.now) (g.F.Files.notes c.complete_oldest.new.files)
    (oldest_notes t.ring e.oldest e.rest _ _ _ e.ring_is c.in-SwapWriteFault.ensures.notes)
