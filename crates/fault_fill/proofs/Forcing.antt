-- A frame that is forced serves a page that needs one.
use Rattle.std.proofs.Common.{◌≡◌, true, List, [], ◌∷◌, length, Option, Some, None, ap, ◌∙◌, subst, arith}
use Rattle.vm_facts.specs.SwapImages.{SwapImage}
use Rattle.vm_facts.specs.declared.page.Page.{Page}
use Rattle.vm_facts.specs.declared.stop.Stop.{Stop}
use Rattle.vm_facts.specs.declared.entry.Entry.{Entry}
use Rattle.io_edge.specs.FileHolding.{NamedFile}
use Rattle.page_model.specs.Pages.{frame_of}
use Rattle.page_model.specs.Placement.{Placement, state_of}
use Rattle.page_model.specs.Serve.{force, Forces}
use Rattle.page_model.specs.Ownership.{OwnsFrames}
use Rattle.page_laws.proofs.Moves.Stays.{Stays, force_stays}
use Rattle.page_laws.proofs.Ownership.Serve.{force_owner}
use Rattle.clock_hands.specs.Machine.{Standing}
use Rattle.clock_hands.specs.Done.{KeepsThrough}
use Rattle.clock_hands.specs.Stops.{StopsWhile}
use Rattle.clock_hands.specs.Forced.{Forced, forcing_frame}
use Rattle.fault_fill.specs.Serving.{serving_page}
use Rattle.fault_fill.specs.Units.{NoneMade, NeedsFrame, ComesTo, Further}
use Rattle.fault_fill.specs.declared.served.Served.{Served}
use Rattle.fault_fill.specs.declared.served.Served.TheVariants as served
use Rattle.fault_fill.proofs.Leading.{came_to}
use Rattle.fault_fill.proofs.Serving.{unit_forces, forces_serve, forces_some}

-- a page that has no frame still has none after units that force one
still_frameless : (us : List Entry) (p r : Placement) (locked : List Page) (q : Page) → OwnsFrames p → frame_of (state_of p q) ≡ None
    → Forces us p locked r → frame_of (state_of r q) ≡ None
still_frameless [] p r locked q o n h = subst (λ (x : Placement). frame_of (state_of x q) ≡ None) h n
still_frameless (e ∷ us) p r locked q o n h =
    let s : Stays p (force p locked) = force_stays p locked o in
    still_frameless us (force p locked) r locked q (force_owner p locked o) (s.frames q ∙ n) h.2

pub room_further : (locked : List Page) (q : Page) (old next new : Standing) (holds later : Option (List NamedFile)) (i h j : Option SwapImage)
    (came : Option Served) (answer : Served)
    → came ≡ Some answer → answer ≡ served.NoFrame → ComesTo came q old next holds i h → later ≡ holds → OwnsFrames old.kernel.place → Forced locked next new later h j
    → KeepsThrough next new later h j → Further locked q old new holds i j
room_further locked q old next new holds later i h j came answer is same made e o f keeps = record {
  serves = record {
    units = d.units;
    leads = forces_serve d.units old.kernel.place new.kernel.place locked q o n.1.frameless d.forces;
    makes = d.makes;
    keeps = kept;
  };
  some = forces_some d.units old.kernel.place new.kernel.place locked d.forces n.1.none d.free;
  low = λ none. (let a = d.free in let b = ap length none in absurd (omega arith));
}
  where
    n : NoneMade old next i h × NeedsFrame old.kernel.place q
    n = came_to came answer served.NoFrame q old next holds i h is same made

    d : Forced locked old new holds i j
    d =
        subst (λ (s : Standing). Forced locked s new holds i j) n.0.machine
        (subst (λ (x : Option SwapImage). Forced locked next new holds x j) n.0.image (subst (λ (x : Option (List NamedFile)). Forced locked next new x h j) e f))

    kept : KeepsThrough old new holds i j
    kept =
        subst (λ (s : Standing). KeepsThrough s new holds i j) n.0.machine
        (subst (λ (x : Option SwapImage). KeepsThrough next new holds x j) n.0.image (subst (λ (x : Option (List NamedFile)). KeepsThrough next new x h j) e keeps))

pub room_stops : (locked : List Page) (q : Page) (old next new : Standing) (holds later : Option (List NamedFile)) (i h j : Option SwapImage)
    (stop : Stop) (came : Option Served) (answer : Served)
    → came ≡ Some answer → answer ≡ served.NoFrame → ComesTo came q old next holds i h → later ≡ holds → OwnsFrames old.kernel.place → StopsWhile (forcing_frame locked) next new later h j stop
    → StopsWhile (serving_page true locked q) old new holds i j stop
room_stops locked q old next new holds later i h j stop came answer is same made e o f = record {
  units = d.units;
  at = d.at;
  image = d.image;
  leads = forces_serve d.units old.kernel.place d.at.place locked q o n.1.frameless d.leads.forces;
  made = d.made;
  entry = d.entry;
  next = unit_forces d.at.place q (still_frameless d.units old.kernel.place d.at.place locked q o n.1.frameless d.leads.forces) d.leads.none ∙ d.next;
  stops = d.stops;
}
  where
    n : NoneMade old next i h × NeedsFrame old.kernel.place q
    n = came_to came answer served.NoFrame q old next holds i h is same made

    d : StopsWhile (forcing_frame locked) old new holds i j stop
    d =
        subst (λ (s : Standing). StopsWhile (forcing_frame locked) s new holds i j stop) n.0.machine
        (subst (λ (x : Option SwapImage). StopsWhile (forcing_frame locked) next new holds x j stop) n.0.image
        (subst (λ (x : Option (List NamedFile)). StopsWhile (forcing_frame locked) next new x h j stop) e f))
