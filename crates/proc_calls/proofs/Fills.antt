-- A new stack page is filled: what the fill asks, and what is so after it.
use Rattle.std.proofs.Common.{◌≡◌, ℕ, inr, Bool, cond, List, [], ◌∷◌, Option, Some, refl, sym, ap, ◌∙◌, subst}
use Rattle.std.specs.Prelude.{Result, Err, Ok, MatchResult, None}
use Rattle.vm_facts.specs.SwapImages.{SwapImage}
use Rattle.vm_facts.specs.declared.page.Page.{Page}
use Rattle.vm_facts.specs.declared.entry.Entry.{Entry}
use Rattle.vm_facts.specs.declared.entry.Entry.TheVariants as entries
use Rattle.vm_facts.specs.declared.stop.Stop.{Stop}
use Rattle.io_edge.specs.FileHolding.{NamedFile}
use Rattle.flat_state.proofs.PageNames.{same_page_self}
use Rattle.page_model.specs.Placement.{Placement, Due, Start, due_of_page}
use Rattle.page_model.specs.Serve.{Forces, force}
use Rattle.page_model.specs.Ownership.{OwnsFrames}
use Rattle.page_model.specs.Dues.{IsDue}
use Rattle.page_laws.proofs.Moves.Stays.{Stays, force_stays}
use Rattle.page_laws.proofs.Ownership.Serve.{force_owner}
use Rattle.kernel_model.specs.Kernel.{Kernel, zero_step}
use Rattle.machine_state.specs.Machine.{Standing}
use Rattle.machine_state.specs.Due.{IsFirstStart}
use Rattle.machine_state.specs.Going.{CanGoOn}
use Rattle.machine_state.specs.Conditions.{CanZero}
use Rattle.machine_state.specs.Done.{KeepsThrough}
use Rattle.machine_state.specs.Performing.{IsAtBound, Performs, StopsForRoom}
use Rattle.fault_fill.specs.Made.{ground}
use Rattle.fault_fill.specs.Stops.{StopsAt}
use Rattle.fault_fill.proofs.Keeping.{made_shaped, keeps_flat, keeps_both}
use Rattle.fault_fill.proofs.Stopping.{call_stops, plain_room}
use Rattle.fault_fill.specs.Forced.{Forced}
use Rattle.proc_calls.specs.Filling.{IsStartFirst, FillsStart, StopsFilling}

-- what is due stays as a frame is forced
due_stays : (us : List Entry) (p r : Placement) (locked : List Page) → OwnsFrames p → Forces us p locked r → r.due ≡ p.due
due_stays [] p r locked o s = ap (λ (x : Placement). x.due) (sym s)
due_stays (e ∷ us) p r locked o s =
    due_stays us (force p locked) r locked (force_owner p locked o) s.2 ∙ (let t : Stays p (force p locked) = force_stays p locked o in t.due)

start_at : (page : Page) (ds : List Due) → due_of_page (Start page ∷ ds) page ≡ Some (Start page)
start_at page ds = ap (λ (b : Bool). cond b (Some (Start page)) (due_of_page ds page)) (same_page_self page)

pub can_fill : (page : Page) (old roomy : Standing) (holds : Option (List NamedFile)) (i j : Option SwapImage) → CanGoOn old
    → CanGoOn roomy → IsStartFirst old.kernel.place page → Forced [] old roomy holds i j → CanZero roomy.kernel.place page
can_fill page old roomy holds i j on later s f =
    let e : roomy.kernel.place.due ≡ Start page ∷ s.others = due_stays f.units old.kernel.place roomy.kernel.place [] on.running.sound.owner.frames f.forces ∙ s.first in
    let due : IsDue roomy.kernel.place page (Start page) = later.running.due page (Start page) (ap (λ (ds : List Due). due_of_page ds page) e ∙ start_at page s.others) in
    record {
      writable = due.writable;
      there = due.there;
      unfilled = due.unfilled;
      zeros = due.zeros;
      first = subst (λ (ds : List Due). IsFirstStart ds page) (sym e) refl;
      frame = f.free;
    }

pub filled_by : {Alike : Kernel → Kernel → Type 0} (r : Result (Unit {0}) Stop) (page : Page) (old roomy new : Standing) (holds later : Option (List NamedFile))
    (i j : Option SwapImage) → later ≡ holds → Forced [] old roomy holds i j → KeepsThrough old roomy holds i j
    → Performs (zero_step roomy.kernel page) Alike r roomy new → StopsForRoom (IsAtBound roomy) r roomy new → roomy.before ≡ roomy.kernel.holdings
    → MatchResult r (λ x. FillsStart page old new holds i j) (StopsFilling (entries.Zero page) [] old new holds i j)
filled_by (Ok x) page old roomy new holds later i j e f keeps p s whole = record {
  roomy = roomy;
  forces = f;
  fills = p.rest ∙ ap (λ (k : Kernel). let s : Standing = record roomy { kernel = k; room = None } in s) p.step;
  keeps = keeps_both old roomy new holds later i j j f.makes.beside.images (made_shaped (ground old holds []) f.units old.kernel roomy.kernel i j f.makes.made) e keeps
      (keeps_flat roomy new later j p.keeps);
}
filled_by (Err stop) page old roomy new holds later i j e f keeps p s whole =
    let at : StopsAt (entries.Zero page) roomy new j j stop =
    call_stops {A = Unit {0}} (Err stop) (entries.Zero page) roomy new j (λ x h. h) (λ x. refl)
    (plain_room {A = Unit {0}} (Err stop) (entries.Zero page) roomy new tt s) whole in
    inr (record { reached = roomy; far = f; stops = at })
