-- What a part of a move leaves of a machine with its bytes.
use Rattle.std.proofs.Common.{◌≢◌, ℕ, List, None, refl, sym, ◌∙◌, subst}
use Rattle.flat_state.specs.Flat.{FlatState, NamedImage}
use Rattle.flat_state.specs.Numbers.{AllDistinct, AllBelow}
use Rattle.page_model.specs.Pages.{numbered}
use Rattle.page_model.specs.Placement.{Placement, Residence}
use Rattle.page_model.specs.Ownership.{OwnsFrames, OneOwner}
use Rattle.page_model.specs.Dues.{DueStand}
use Rattle.page_laws.proofs.Moves.KeptHands.{KeepsHands, steady_keep}
use Rattle.page_laws.proofs.Moves.Stays.{Steady, steady_stays}
use Rattle.page_laws.proofs.Due.Entries.{stays_due}
use Rattle.kernel_model.specs.Kernel.{Kernel}
use Rattle.kernel_model.specs.Sound.{Sound, lives}
use Rattle.kernel_model.specs.Numbers.{Numbered}
use Rattle.kernel_model.specs.Coupled.{Coupled, beside_kernel}
use Rattle.kernel_model.specs.Stands.{Stands}
use Rattle.kernel_laws.proofs.Machine.Moves.{alike_coupled, file_same, paged_coupled}
use Rattle.kernel_laws.proofs.Stands.Steps.{stands_still}
use Rattle.kernel_model.specs.declared.part.HandPart.{HandPart}
use Rattle.kernel_model.specs.HandParts.{PartComes, part_place, part_step}
use Rattle.kernel_laws.proofs.PartLeaves.{Parted, parted}

-- Of a placement.

pub part_keep : (p : Placement) (x : HandPart) → OwnsFrames p → PartComes p x → KeepsHands p (part_place p x)
part_keep p x o c = let d : Parted p (part_place p x) = parted p x o c in steady_keep p (part_place p x) d.steady

pub part_due : (p : Placement) (x : HandPart) → OwnsFrames p → PartComes p x → DueStand p → DueStand (part_place p x)
part_due p x o c = let d : Parted p (part_place p x) = parted p x o c in stays_due p (part_place p x) (steady_stays p (part_place p x) d.steady)

-- Of a machine.

module _ (size : ℕ) (k : Kernel) (x : HandPart) (so : Sound size k) (c : PartComes k.place x) where
  owner : OneOwner size (lives k.processes) k.place k.holdings
  owner = so.owner

  pub left : Parted k.place (part_place k.place x)
  left = parted k.place x owner.frames c

  pub part_sound : Sound size (part_step k x)
  part_sound =
      let h : KeepsHands k.place (part_place k.place x) = part_keep k.place x owner.frames c in
      record {
        owner = left.one size (lives k.processes) k.holdings owner;
        tokens = so.tokens ∙ sym h.frames;
        hands = h.stand so.hands;
        few_transfers = left.few so.few_transfers;
      }

  pub part_numbered : Numbered k → Numbered (part_step k x)
  part_numbered n = record {
    spaces_differ = subst AllDistinct (sym left.numbers) n.spaces_differ;
    spaces_below = subst (AllBelow k.next_sid) (sym left.numbers) n.spaces_below;
    pids_differ = n.pids_differ;
    pids_below = n.pids_below;
    residents = λ pid a. subst (λ (rs : List Residence). numbered (λ (r : Residence). r.pid) pid rs ≢ None) (sym left.shaped.residents) (n.residents pid a);
  }

  pub part_coupled : (images : List NamedImage) (image : List ℕ) (flat : FlatState) → Coupled k images image flat
      → Coupled (part_step k x) images image flat
  part_coupled images image flat cp = paged_coupled k (part_step k x) images image flat refl refl refl refl left.shaped
      (alike_coupled (part_place k.place x) (beside_kernel k images image flat) (beside_kernel (part_step k x) images image flat)
      (λ w. record { frames = refl; swap = refl; file = file_same images k.place (part_place k.place x) left.shaped w; start = refl; memory = refl })
      (left.couples (beside_kernel k images image flat) cp.pages)) cp

  pub part_stands : (images : List NamedImage) (flat : FlatState) → Stands images k flat → Stands images (part_step k x) flat
  part_stands images flat s = let t : Steady k.place (part_place k.place x) = left.steady in stands_still images k (part_step k x) flat refl t.due left.shaped s
