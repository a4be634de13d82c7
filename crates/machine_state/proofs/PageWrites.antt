-- The bytes of a page are written: what that asks of the machine, and what holds of it then.
use Rattle.std.proofs.Common.{◌≡◌, ℕ, ◌+◌, ◌<◌, ◌≤◌, Bool, true, false, IsTrue, List, length, set, Some, refl, sym, ap, ◌∙◌, subst, arith}
use Rattle.vm_facts.specs.declared.page.Page.{Page}
use Rattle.vm_facts.specs.Lists.{overwritten}
use Rattle.vm_facts.specs.declared.page.PageState.TheVariants.{Valid}
use Rattle.vm_facts.specs.declared.entry.Entry.{Entry}
use Rattle.vax_pte.specs.declared.Place.TheVariants as places
use Rattle.core_map.specs.declared.slot.Slot.{Slot as Token}
use Rattle.core_map.specs.declared.slot.Slot.TheVariants as tokens
use Rattle.core_map.specs.Slots.{slot_at, is_resident, is_slot_dirty, with_bytes, with_dirty}
use Rattle.core_map.specs.Frames.{Frames, IsSoundMap}
use Rattle.page_model.specs.Placement.{state_of}
use Rattle.page_model.specs.PageBytes.{IsWritable}
use Rattle.page_model.specs.Ownership.{OwnsFrames}
use Rattle.table_steps.specs.KernelTablesShown.{entry_in}
use Rattle.table_steps.specs.Tables.{Tables}
use Rattle.table_steps.specs.Known.{Known}
use Rattle.table_steps.specs.Moves.{WroteBytes}
use Rattle.table_steps.specs.Machine.{Standing, lists_of, kernel_by}
use Rattle.table_steps.specs.UserMemory.{AreWhole, WroteRun, write_run}
use Rattle.table_steps.proofs.Touches.{InFrame, in_frame}
use Rattle.table_steps.proofs.WritesTogether.{CanWrite, CameTo, came_to}
use Rattle.table_steps.proofs.UserFrames.{known_by, held_whole}
use Rattle.machine_state.specs.declared.machine.Machine.TheInside.{Inside}
use Rattle.machine_state.specs.Fields.{standing_of, HasRoom, RunsNow, RunsInside}
use Rattle.machine_state.proofs.Dirty.{named_dirty}
use Rattle.machine_state.proofs.KeptEntry.{kept_entry}
use Rattle.machine_state.proofs.Standings.{stands_now, runs_by, runs_within, holders_by}
use Rattle.machine_state.proofs.HoldingSteps.{run_keeps}
use Rattle.machine_state.proofs.WriteStanding.{run_standing}

pub can_write : (m : Inside) (s : Standing) (q : Page) (f : ℕ) → RunsInside m → standing_of m ≡ s → s.kernel.stopped ≡ false
    → IsSoundMap m.tables.core.free m.tables.core.slots → state_of s.kernel.place q ≡ Valid f → IsWritable q
    → CanWrite m.tables q f m.journal.items m.stopped
can_write m s q f h e r core valid w = record {
  core = core;
  stands = (stands_now m s h e r).stands;
  valid = subst (λ (x : Standing). state_of x.kernel.place q ≡ Valid f) (sym e) valid;
  writable = w;
}

-- What is known of the page.

module _ (t : Tables) (q : Page) (f : ℕ) (j : List Entry) (b : Bool) (can : CanWrite t q f j b) where
  pub known_then : Known (lists_of t)
  known_then = known_by t j b can.core can.stands

  pub frame_then : InFrame (lists_of t) q f
  frame_then = in_frame (lists_of t) q f known_then can.valid

  pub resident_then : IsTrue (is_resident (slot_at t.core.slots f))
  resident_then = let i : InFrame (lists_of t) q f = frame_then in subst (λ (s : Token). IsTrue (is_resident s)) (sym i.resident) refl

-- a frame that is marked stays so
dirty_stays : (s : Token) (at : ℕ) (bytes : List ℕ) → is_slot_dirty s ≡ true → with_bytes s at bytes ≡ with_dirty (with_bytes s at bytes) true
dirty_stays (tokens.Free token page) at bytes e = refl
dirty_stays (tokens.Resident token page dirty) at bytes e = ap (λ (d : Bool). tokens.Resident (record token { bytes = overwritten token.bytes at bytes }) page d) e
dirty_stays tokens.Away at bytes e = refl

-- where the mark of its frame says that a page is dirty, its entry says so too: then its bytes are all that is written
pub wrote_again : (t : Tables) (core : Frames) (q : Page) (f at : ℕ) (bytes : List ℕ) (j : List Entry) (b : Bool) → CanWrite t q f j b
    → is_slot_dirty (slot_at t.core.slots f) ≡ true → core.free ≡ t.core.free
    → core.slots ≡ set t.core.slots f (with_bytes (slot_at t.core.slots f) at bytes)
    → WroteBytes t (record t { core = core }) q f at bytes
wrote_again t core q f at bytes j b can dirty free slots =
    let k : Known (lists_of t) = known_then t q f j b can in
    let named : entry_in t.spaces q ≡ Some (places.Frame f true true) =
    named_dirty (lists_of t) q f k can.writable can.valid (frame_then t q f j b can) dirty in
    record {
      free = free;
      slots = slots ∙ ap (λ (s : Token). set t.core.slots f s) (dirty_stays (slot_at t.core.slots f) at bytes dirty);
      spaces = sym (kept_entry t.spaces q (places.Frame f true true) can.writable k.differ named);
      rest = refl;
    }

-- The machine then.

came_by : (t u : Tables) (q : Page) (f at : ℕ) (bytes : List ℕ) (j : List Entry) (b : Bool) → CanWrite t q f j b → 0 < length bytes
    → WroteBytes t u q f at bytes → CameTo t u q f at bytes j b
came_by t u q f at bytes j b can some = came_to t u q f at bytes j b can (λ e. absurd (let none : length bytes ≡ 0 = ap length e in omega (arith, none, some)))

pub bytes_run : (m : Inside) (s : Standing) (u : Tables) (q : Page) (f at : ℕ) (bytes : List ℕ) → RunsInside m → standing_of m ≡ s → s.kernel.stopped ≡ false
    → CanWrite m.tables q f m.journal.items m.stopped → 0 < length bytes → WroteBytes m.tables u q f at bytes
    → RunsInside (record m { tables = u })
bytes_run m s u q f at bytes h e r can some wrote =
    runs_within (record m { tables = u }) (runs_by m s e r) (λ _.
    let now : RunsNow m = stands_now m s h e r in
    let came : CameTo m.tables u q f at bytes m.journal.items m.stopped = came_by m.tables u q f at bytes m.journal.items m.stopped can some wrote in
    record {
      stands = came.stands;
      holders = holders_by m.tables u m.journal.items m.journal.items m.stopped m.stopped _ came.kernel
          (run_keeps (kernel_by m.tables m.journal.items m.stopped) q f at bytes) now.holders;
      none_lost = now.none_lost;
      room = subst (λ (x : Tables). HasRoom m.room m.journal x.params.journal) (sym wrote.rest) now.room;
    })

pub bytes_ran : (m : Inside) (s : Standing) (u : Tables) (q : Page) (f at : ℕ) (bytes : List ℕ) → standing_of m ≡ s
    → CanWrite m.tables q f m.journal.items m.stopped → state_of s.kernel.place q ≡ Valid f → 0 < length bytes → at + length bytes ≤ 1024
    → WroteBytes m.tables u q f at bytes
    → WroteRun s (standing_of (record m { tables = u })) q at bytes
bytes_ran m s u q f at bytes e can valid some within wrote =
    let k : Known (lists_of m.tables) = known_then m.tables q f m.journal.items m.stopped can in
    let came : CameTo m.tables u q f at bytes m.journal.items m.stopped = came_by m.tables u q f at bytes m.journal.items m.stopped can some wrote in
    record {
      frame = f;
      valid = valid;
      within = within;
      machine =
          run_standing m u q f at bytes wrote came.kernel
          ∙ ap (λ (x : Standing). record x { kernel = write_run x.kernel q f at bytes }) e;
      owner = subst (λ (x : Standing). OwnsFrames x.kernel.place) e k.owns;
      whole = subst (λ (x : Standing). AreWhole x.kernel) e (held_whole (lists_of m.tables) k);
    }
