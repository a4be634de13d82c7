-- A unit that moves pages, and may come, keeps a machine with its bytes coupled, whatever the policy is.
use Rattle.std.proofs.Common.{◌≡◌, ℕ, List, [], ◌∷◌, None, refl, sym, ap, ◌∙◌}
use Rattle.vm_facts.specs.declared.page.Page.{Page}
use Rattle.vm_facts.specs.declared.entry.Entry.TheVariants as entries
use Rattle.flat_state.specs.Flat.{FlatState, NamedImage}
use Rattle.page_model.specs.Pages.{frame_of}
use Rattle.page_model.specs.Placement.{Due, Start, CopyOf, due_of_page}
use Rattle.page_model.specs.Conditions.{CanEnter}
use Rattle.page_model.specs.Dues.{DueStand, IsDue}
use Rattle.kernel_model.specs.Kernel.{Kernel, start_bytes}
use Rattle.kernel_model.specs.Sound.{Sound}
use Rattle.kernel_model.specs.Stands.{Stands}
use Rattle.kernel_laws.proofs.Machine.Moves.{note_coupled, get_coupled_step, reclaim_coupled_step, zero_coupled}
use Rattle.kernel_laws.proofs.Sound.Steps.{first_length}
use Rattle.kernel_laws.proofs.Stands.Steps.{note_stands, get_stands, reclaim_stands, zero_stands}
use Rattle.run_laws.proofs.Allowed.{first_due}
use Rattle.run_laws.proofs.CoupledUnits.{Machine, Goes, goes_done, goes_hand, goes_put, goes_start, goes_copy}
use Rattle.run_laws.specs.Standing.{IsAllowed}
use Rattle.paged_model.specs.Coming.{FirstStart, ZeroComes, CopyComes, GetComes}
use Rattle.paged_model.specs.Moves.{zero_reason, copy_reason, get_reason}
use Rattle.paged_model.specs.Leaving.{put_reason}
use Rattle.paged_model.proofs.Brought.{get_comes}
use Rattle.paged_model.proofs.Comes.{zero_comes}
use Rattle.paged_model.proofs.Copied.{copy_comes}
use Rattle.paged_laws.proofs.Permitted.{Permitted, put_permitted}

module _ (size : ℕ) (k : Kernel) (images : List NamedImage) (image : List ℕ) (flat : FlatState) (locked : List Page) (read : List (List ℕ))
    (y : Machine size k images image flat read) where
  pub done_goes : Goes k images image flat locked read entries.Done
  done_goes = goes_done size k images image flat locked read y

  pub hand_goes : Goes k images image flat locked read (entries.Hands 1)
  hand_goes = goes_hand size k images image flat locked read y

  pub zero_goes : (q : Page) → zero_reason k.place q ≡ None → Goes k images image flat locked read (entries.Zero q)
  zero_goes q e = go k.place.due refl z.first
    where
      z : ZeroComes k.place q
      z = zero_comes k.place q e

      enters : CanEnter k.place q
      enters = record { there = z.there; frameless = ap frame_of z.unfilled }

      stands : Stands images k flat
      stands = y.stands

      go : (ds : List Due) → k.place.due ≡ ds → FirstStart ds q → Goes k images image flat locked read (entries.Zero q)
      go [] i f = record {
        coupled = zero_coupled size k images image flat q y.sound stands.starts enters z.writable z.free z.unfilled (ap (λ (ds : List Due). due_of_page ds q) i) z.zeros y.coupled;
        stands = zero_stands images k flat q y.stands;
        tokens = first_length k.place.free k.frames (start_bytes k.starts q);
      }
      go (Start r ∷ ds) i f =
          goes_start size k images image flat locked read q r y enters z.writable z.free z.unfilled
          (ap (λ (xs : List Due). due_of_page xs q) i ∙ ap (due_of_page (Start r ∷ ds)) (sym f) ∙ first_due (Start r) ds)
      go (CopyOf r parent ∷ ds) i f = absurd f

  pub copy_goes : (q : Page) → DueStand k.place → copy_reason k.place q ≡ None → Goes k images image flat locked read (entries.Copy q)
  copy_goes q due e =
      let parent : Page = (copy_comes k.place q e).0 in
      let z : CopyComes k.place q parent = (copy_comes k.place q e).1 in
      let first = ap (λ (ds : List Due). due_of_page ds q) z.first ∙ first_due (CopyOf q parent) z.others in
      let was : IsDue k.place q (CopyOf q parent) = due q (CopyOf q parent) first in
      goes_copy size k images image flat locked read q q parent z.frame y (record { there = z.there; frameless = ap frame_of was.unfilled }) was.writable z.free was.unfilled first
      z.valid

  pub get_goes : (q : Page) (lo n : ℕ) → DueStand k.place → get_reason k.place q lo n ≡ None → Goes k images image flat locked read (entries.Get q lo n)
  get_goes q lo n due e =
      let z : GetComes k.place q lo n = get_comes k.place q lo n due e in
      record {
        coupled = get_coupled_step size k images image flat q lo n y.sound z.enter z.reads y.coupled;
        stands = get_stands images k flat q lo n y.stands;
        tokens = refl;
      }

  pub reclaim_goes : (q : Page) → Goes k images image flat locked read (entries.Reclaim q)
  reclaim_goes q = record { coupled = reclaim_coupled_step size k images image flat q y.sound y.coupled; stands = reclaim_stands images k flat q y.stands; tokens = refl }

  pub put_goes : (q : Page) (n : ℕ) → put_reason flat k.place q n ≡ None → Goes k images image flat locked read (entries.Put q n)
  put_goes q n e =
      let so : Sound size k = y.sound in
      let p : Permitted flat locked 0 k.place (entries.Put q n) = put_permitted flat locked 0 k.place q n so.few_transfers e in
      let a : IsAllowed k.place (entries.Put q n) = p.allowed in
      goes_put size k images image flat locked read q n y a.can.0 a.can.1

  pub event_goes : (line : ℕ) → Goes k images image flat locked read (entries.Event line)
  event_goes line = record {
    coupled = note_coupled k images image flat (entries.Event line) y.coupled;
    stands = note_stands images k flat (entries.Event line) y.stands;
    tokens = refl;
  }

  pub turn_goes : (pid : ℕ) → Goes k images image flat locked read (entries.Turn pid)
  turn_goes pid = record {
    coupled = note_coupled k images image flat (entries.Turn pid) y.coupled;
    stands = note_stands images k flat (entries.Turn pid) y.stands;
    tokens = refl;
  }

  pub owners_goes : (f u m h : ℕ) → Goes k images image flat locked read (entries.Owners f u m h)
  owners_goes f u m h = record {
    coupled = note_coupled k images image flat (entries.Owners f u m h) y.coupled;
    stands = note_stands images k flat (entries.Owners f u m h) y.stands;
    tokens = refl;
  }
