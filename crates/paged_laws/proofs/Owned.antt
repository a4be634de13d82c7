-- What stands at the states of a paged run from its start on.
use Rattle.std.proofs.Common.{◌≡◌, List, None}
use Rattle.vm_facts.specs.declared.entry.Entry.{Entry}
use Rattle.swap_book.specs.Holdings.{Holdings}
use Rattle.flat_state.specs.Flat.{Inputs}
use Rattle.flat_state.specs.Journal.{units_of}
use Rattle.kernel_model.specs.Sound.{Sound}
use Rattle.run_model.specs.State.{start}
use Rattle.run_laws.specs.Standing.{machine_of}
use Rattle.run_laws.specs.Running.{CanRun}
use Rattle.run_laws.proofs.Wholes.{start_run}
use Rattle.paged_model.specs.Runs.{first_misstep}
use Rattle.paged_model.proofs.Fronts.{front_units}
use Rattle.paged_laws.specs.Led.{led_to, PlacedAt, OwnedAt}
use Rattle.paged_laws.proofs.AllUnits.{units_are}
use Rattle.paged_laws.specs.Paged.{Steady}
use Rattle.paged_laws.proofs.Steady.{run_steady, units_steady}

pub front_steady : (A : Inputs) (hs : Holdings) (es : List Entry) → CanRun A hs → first_misstep A hs es ≡ None → Steady A (led_to A hs es)
front_steady A hs es c e =
    units_steady A (start A hs) (units_of es) c.images (units_are es) (run_steady A (start A hs) (start_run A hs c)) (front_units A (start A hs) 1 es e)

pub run_placed : (A : Inputs) (hs : Holdings) (es : List Entry) → CanRun A hs → first_misstep A hs es ≡ None → PlacedAt A (led_to A hs es)
run_placed A hs es c e = let s : Steady A (led_to A hs es) = front_steady A hs es c e in s.placed

pub run_owned : (A : Inputs) (hs : Holdings) (es : List Entry) → CanRun A hs → first_misstep A hs es ≡ None → OwnedAt A (led_to A hs es)
run_owned A hs es c e =
    let p : PlacedAt A (led_to A hs es) = run_placed A hs es c e in
    let so : Sound A.swap_blocks (machine_of (led_to A hs es).point.flat (led_to A hs es).place (led_to A hs es).holdings) = p.sound in
    so.owner
