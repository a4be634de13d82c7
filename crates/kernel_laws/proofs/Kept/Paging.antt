-- The units that paging makes may be made: those of forcing and of serving, a read of a page with its run, and a write by
-- which a process goes out.
use Rattle.std.proofs.Common.{◌≡◌, ℕ, ◌<◌, ◌≤◌, Bool, List, [], ◌∷◌, length, Some, refl, sym, ap, subst, arith}
use Rattle.vm_facts.specs.declared.page.Page.{Page}
use Rattle.vm_facts.specs.declared.entry.Entry.{Entry}
use Rattle.vm_facts.specs.declared.entry.Entry.TheVariants as entries
use Rattle.flat_state.specs.Flat.{NamedImage}
use Rattle.flat_state.specs.PageNames.{pages_from, number_of}
use Rattle.page_model.specs.Placement.{Placement, Transfer, IsThere, state_of}
use Rattle.page_model.specs.Runs.{run_in, spare_frames}
use Rattle.page_model.specs.Place.{place_entry}
use Rattle.page_model.specs.Reading.{source_for}
use Rattle.page_model.specs.Serve.{force_entry, serve_unit, entry_of_serving}
use Rattle.page_model.specs.Swapper.{put_out_unit}
use Rattle.page_model.specs.Conditions.{EachPage, CanEnter, CanPlace, CanBegin, HasSeat, IsShared}
use Rattle.page_model.specs.Dues.{NotDue}
use Rattle.page_model.specs.PageBytes.{ReadsFrom}
use Rattle.kernel_model.specs.Kernel.{Kernel}
use Rattle.kernel_model.specs.Coupled.{Coupled, AreRead, beside_kernel}
use Rattle.kernel_model.specs.Sound.{Sound}
use Rattle.kernel_model.specs.Unit.{KernelState, unit_for}
use Rattle.kernel_model.specs.Invariant.{Invariant, IsNoCopy, MayGet, MayPut, May}
use Rattle.page_laws.proofs.Ownership.Serve.{run_in_enters}
use Rattle.page_laws.proofs.Bytes.Runs.{run_in_reads}
use Rattle.page_laws.proofs.Due.Entries.{run_in_due, not_again}
use Rattle.page_laws.proofs.Moves.Parts.{run_some}
use Rattle.page_laws.proofs.Moves.Transfers.{entry_count}
use Rattle.page_laws.proofs.Moves.Units.{unit_is}
use Rattle.page_laws.proofs.Swapper.PuttingOut.{unit_case, unit_can, unit_few}
use Rattle.std.proofs.lemmas.Bool.{leb-false}
use Rattle.page_laws.proofs.Swapper.PuttingOut as out
use Rattle.page_laws.proofs.Moves.Cases.{serving_cases, read_frameless, read_source, some_of}

pub read_allowed : (size : ℕ) (images : List NamedImage) (m : KernelState) (q : Page) → Invariant size images m → CanEnter m.kernel.place q
    → ReadsFrom m.kernel.place (source_for (state_of m.kernel.place q)) q q → NotDue m.kernel.place.due q → IsShared m.kernel.place q
    → 0 < length m.kernel.place.free → length m.kernel.place.transfers < 16 → MayGet m.kernel.place q (run_in m.kernel.place q).lo (run_in m.kernel.place q).n
read_allowed size images m q i enter reads due shared some few =
    let k : Kernel = m.kernel in
    let c : Coupled k images m.image m.flat = i.coupled in
    record {
      enter = run_in_enters k.place q enter;
      reads = run_in_reads k.place (beside_kernel k images m.image m.flat) q c.pages reads;
      fresh = run_in_due k.place q i.dues due;
      shared = shared;
      pages = run_some k.place q (state_of k.place q) (spare_frames k.place);
      some = some;
      few = few;
    }

pub put_allowed : (size : ℕ) (images : List NamedImage) (m : KernelState) (pid sid : ℕ) (q : Page) (n : ℕ) → Invariant size images m
    → put_out_unit m.kernel.place pid sid ≡ entries.Put q n → MayPut m.kernel.place q n
put_allowed size images m pid sid q n i e =
    let p : Placement = m.kernel.place in
    let so : Sound size m.kernel = i.sound in
    let can : HasSeat p q × EachPage (HasSeat p) (pages_from q (number_of q) n) = subst (CanPlace p) e (unit_can p pid sid) in
    record {
      first = can.0;
      seats = can.1;
      pages = subst (CanBegin p) e (unit_case (CanBegin p) p pid sid (λ t ts h. tt) (λ v h j d. out.run_some p v) (λ h j. tt));
      few = subst (λ (x : Entry). length (Placement.transfers (place_entry [] 0 p x)) ≤ 16) e (unit_few [] 0 p pid sid so.few_transfers);
    }

-- Serving a page.

-- with no transfer in flight the hands may move
pub force_allowed : (size : ℕ) (images : List NamedImage) (m : KernelState) (locked : List Page) (read : List (List ℕ))
    → AreRead (beside_kernel m.kernel images m.image m.flat) m.kernel.place.transfers read
    → May size images m (unit_for locked read (force_entry m.kernel.place.transfers))
force_allowed size images m locked read are = go m.kernel.place.transfers refl
  where
    p : Placement
    p = m.kernel.place

    go : (ts : List Transfer) → p.transfers ≡ ts → May size images m (unit_for locked read (force_entry ts))
    go [] e = let l = entry_count locked 0 p (entries.Hands 1) in let z = ap length e in omega (arith, l, z)
    go (t ∷ ts) e = are

pub serve_allowed : (size : ℕ) (images : List NamedImage) (m : KernelState) (locked : List Page) (read : List (List ℕ)) (q : Page) (now : Bool) (e : Entry)
    → Invariant size images m
    → IsThere m.kernel.place q → IsShared m.kernel.place q → NotDue m.kernel.place.due q
    → AreRead (beside_kernel m.kernel images m.image m.flat) m.kernel.place.transfers read → serve_unit m.kernel.place q now ≡ Some e
    → May size images m (unit_for locked read e)
serve_allowed size images m locked read q now e i there shared due are h =
    subst P (sym (unit_is p q now e h).1) (serving_cases (λ x. P (entry_of_serving x)) p q (λ f s. are) (λ f s. shared) (λ f s. are)
    (λ n l. force_allowed size images m locked read are)
    (λ f fs l s x. record { there = there; unfilled = s; zeros = x; own = subst IsNoCopy (sym due) tt; once = not_again p.due q due; some = some_of p f fs l })
    (λ f fs l r b. are)
    (λ f fs l r b. read_allowed size images m q i (record { there = there; frameless = read_frameless p q r }) (read_source p q due r) due shared
    (some_of p f fs l) (leb-false 16 (length p.transfers) b)))
  where
    p : Placement
    p = m.kernel.place

    P : Entry → Type 0
    P d = May size images m (unit_for locked read d)
