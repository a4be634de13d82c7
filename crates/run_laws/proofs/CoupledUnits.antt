-- What paging entries do to a machine with bytes; and a unit of serving keeps it coupled, whatever unit it is.
use Rattle.std.proofs.Common.{◌≡◌, ℕ, ◌*◌, ◌<◌, ◌≤◌, false, List, [], ◌∷◌, length, Some, refl, ap}
use Rattle.flat_state.specs.Flat.{FlatState, NamedImage}
use Rattle.vm_facts.specs.declared.page.Page.{Page}
use Rattle.vm_facts.specs.declared.page.PageState.TheVariants.{Unfilled, Valid}
use Rattle.vm_facts.specs.declared.entry.Entry.{Entry}
use Rattle.vm_facts.specs.declared.entry.Entry.TheVariants as entries
use Rattle.flat_state.specs.PageNames.{number_of, pages_from}
use Rattle.page_model.specs.Pages.{Zeros, frame_of, is_valid}
use Rattle.page_model.specs.Placement.{Start, CopyOf, IsThere, due_of_page, state_of, filling_of}
use Rattle.page_model.specs.Runs.{run_in}
use Rattle.page_model.specs.Reading.{read_entry}
use Rattle.page_model.specs.Serve.{is_full, serve_entry, entry_of_serving}
use Rattle.page_model.specs.Conditions.{CanEnter, EachPage, HasSeat}
use Rattle.page_model.specs.PageBytes.{IsWritable}
use Rattle.page_model.specs.Dues.{NotDue}
use Rattle.kernel_model.specs.Kernel.{Kernel, plain_step, image_after, zero_step, copy_step, get_step, reclaim_step, push_step, done_step, note_step}
use Rattle.kernel_model.specs.Sound.{Sound}
use Rattle.kernel_model.specs.Coupled.{AreRead, Coupled, beside_kernel}
use Rattle.kernel_model.specs.Stands.{Stands}
use Rattle.kernel_laws.proofs.Sound.Steps.{first_length, landed_length}
use Rattle.kernel_laws.proofs.Stands.Steps.{get_stands, reclaim_stands, hand_stands, push_stands, done_stands, zero_stands, copy_stands}
use Rattle.kernel_laws.proofs.Machine.Done.{done_coupled_step}
use Rattle.kernel_laws.proofs.Kept.Pages.{zeros_writable}
use Rattle.kernel_laws.proofs.Machine.Moves.{push_coupled_step, start_coupled, copy_coupled, read_coupled_step, reclaim_coupled_step, hand_coupled_step, zero_coupled}
use Rattle.page_laws.proofs.Moves.Cases.{forcing_entry, serving_cases, IsRead, read_frameless, read_source, some_of}

-- the machine after a paging entry, and the swap image
abbrev pub page_step : Kernel → List Page → List (List ℕ) → Entry → Kernel
page_step k locked read (entries.Zero q) = zero_step k q
page_step k locked read (entries.Copy q) = copy_step k q
page_step k locked read (entries.Get q lo n) = get_step k q lo n
page_step k locked read (entries.Reclaim q) = reclaim_step k q
page_step k locked read (entries.Hands n) = plain_step k locked (entries.Hands n)
page_step k locked read (entries.Put q n) = push_step k q n
page_step k locked read entries.Done = done_step k read
page_step k locked read e = note_step k e

abbrev pub page_image : Kernel → List ℕ → Entry → List ℕ
page_image k image entries.Done = image_after k image
page_image k image e = image

-- the machine is coupled, what the coupling asks beside it is so, and what was read for the oldest transfer is told
pub record Machine (size : ℕ) (k : Kernel) (images : List NamedImage) (image : List ℕ) (flat : FlatState) (read : List (List ℕ)) : Type 0 where
  pub sound : Sound size k
  pub stands : Stands images k flat
  pub room : 512 * size ≤ length image
  pub are : AreRead (beside_kernel k images image flat) k.place.transfers read
  pub coupled : Coupled k images image flat

-- so it is after the entry
pub record Goes (k : Kernel) (images : List NamedImage) (image : List ℕ) (flat : FlatState) (locked : List Page) (read : List (List ℕ))
    (e : Entry) : Type 0 where
  pub coupled : Coupled (page_step k locked read e) images (page_image k image e) flat
  pub stands : Stands images (page_step k locked read e) flat
  pub tokens : length (Kernel.frames (page_step k locked read e)) ≡ length k.frames

module _ (size : ℕ) (k : Kernel) (images : List NamedImage) (image : List ℕ) (flat : FlatState) (locked : List Page) (read : List (List ℕ)) where
  pub goes_done : Machine size k images image flat read → Goes k images image flat locked read entries.Done
  goes_done x = let t = x.stands in record {
    coupled = done_coupled_step size k images image flat read x.sound t.texts x.room x.are x.coupled;
    stands = done_stands size images k flat read x.sound x.stands;
    tokens = landed_length k.place.transfers read k.frames;
  }

  pub goes_hand : Machine size k images image flat read → Goes k images image flat locked read (entries.Hands 1)
  goes_hand x = record {
    coupled = hand_coupled_step size k images image flat locked x.sound x.coupled;
    stands = hand_stands images k flat locked x.stands;
    tokens = refl;
  }

  pub goes_put : (q : Page) (n : ℕ) → Machine size k images image flat read → HasSeat k.place q → EachPage (HasSeat k.place) (pages_from q (number_of q) n)
      → Goes k images image flat locked read (entries.Put q n)
  goes_put q n x h hs = record {
    coupled = push_coupled_step size k images image flat q n x.sound h hs x.coupled;
    stands = push_stands images k flat q n x.stands;
    tokens = refl;
  }

  pub goes_start : (q r : Page) → Machine size k images image flat read → CanEnter k.place q → IsWritable q → 0 < length k.place.free
      → state_of k.place q ≡ Unfilled → due_of_page k.place.due q ≡ Some (Start r) → Goes k images image flat locked read (entries.Zero q)
  goes_start q r x c w some e d = record {
    coupled = start_coupled size k images image flat q r x.sound c w some e d x.coupled;
    stands = zero_stands images k flat q x.stands;
    tokens = first_length k.place.free k.frames (Rattle.kernel_model.specs.Kernel.start_bytes k.starts q);
  }

  pub goes_copy : (q r parent : Page) (f : ℕ) → Machine size k images image flat read → CanEnter k.place q → IsWritable q → 0 < length k.place.free
      → state_of k.place q ≡ Unfilled → due_of_page k.place.due q ≡ Some (CopyOf r parent) → state_of k.place parent ≡ Valid f
      → Goes k images image flat locked read (entries.Copy q)
  goes_copy q r parent f x c w some e d v = record {
    coupled = copy_coupled size k images image flat q r parent f x.sound c w some e d v x.coupled;
    stands = copy_stands images k flat q r parent d x.stands;
    tokens = first_length k.place.free k.frames (Rattle.kernel_model.specs.Kernel.copied_bytes k (due_of_page k.place.due q));
  }

  pub serve_goes : (q : Page) → Machine size k images image flat read → IsThere k.place q → NotDue k.place.due q → is_valid (state_of k.place q) ≡ false
      → Goes k images image flat locked read (serve_entry k.place q)
  serve_goes q y there due nv = serving_cases (λ x. P (entry_of_serving x)) k.place q (λ f s. ends) (λ f s. reclaims)
      (λ f s. ends) (λ n l. forcing_entry P (goes_hand y) ends k.place.transfers) zeros (λ f fs l r b. ends) reads
    where
      P : Entry → Type 0
      P e = Goes k images image flat locked read e

      so : Sound size k
      so = y.sound

      ends : P entries.Done
      ends = goes_done y

      reads : (f : ℕ) (fs : List ℕ) → k.place.free ≡ f ∷ fs → IsRead k.place q → is_full k.place ≡ false → P (read_entry k.place q)
      reads f fs l r b = record {
        coupled = read_coupled_step size k images image flat q so (record { there = there; frameless = read_frameless k.place q r }) (read_source k.place q due r) y.coupled;
        stands = get_stands images k flat q (run_in k.place q).lo (run_in k.place q).n y.stands;
        tokens = refl;
      }

      zeros : (f : ℕ) (fs : List ℕ) → k.place.free ≡ f ∷ fs → state_of k.place q ≡ Unfilled → filling_of k.place q ≡ Zeros → P (entries.Zero q)
      zeros f fs l e x = let t = y.stands in record {
        coupled = zero_coupled size k images image flat q so t.starts (record { there = there; frameless = ap frame_of e }) (zeros_writable k.place q x)
            (some_of k.place f fs l) e due x y.coupled;
        stands = zero_stands images k flat q y.stands;
        tokens = first_length k.place.free k.frames (Rattle.kernel_model.specs.Kernel.start_bytes k.starts q);
      }

      reclaims : P (entries.Reclaim q)
      reclaims = record { coupled = reclaim_coupled_step size k images image flat q so y.coupled; stands = reclaim_stands images k flat q y.stands; tokens = refl }
