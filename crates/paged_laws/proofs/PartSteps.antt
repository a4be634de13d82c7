-- After the line of a part of a move all stands that stood.
use Rattle.std.proofs.Common.{◌≡◌, ◌≢◌, ℕ, List, length, None, refl, sym, ap, ◌∙◌, subst}
use Rattle.swap_book.specs.Holdings.{Holdings}
use Rattle.flat_state.specs.Flat.{FlatState, Inputs, spaces_of}
use Rattle.flat_state.specs.Space.{Space}
use Rattle.flat_state.specs.Numbers.{AllDistinct, AllBelow}
use Rattle.page_model.specs.Pages.{numbered}
use Rattle.page_model.specs.Placement.{Placement, Residence}
use Rattle.page_model.specs.Swapper.{residence_of}
use Rattle.page_model.specs.Ownership.{OneOwner}
use Rattle.page_laws.proofs.Moves.KeptHands.{KeepsHands}
use Rattle.page_laws.proofs.Moves.Stays.{Steady as Still}
use Rattle.kernel_model.specs.Kernel.{Kernel}
use Rattle.kernel_model.specs.Sound.{Sound, lives}
use Rattle.kernel_model.specs.Numbers.{Numbered}
use Rattle.kernel_model.specs.Coupled.{SameTables}
use Rattle.kernel_laws.proofs.Machine.Shapes.{fit_shaped}
use Rattle.kernel_laws.proofs.Stands.Steps.{stands_still}
use Rattle.kernel_model.specs.declared.part.HandPart.{HandPart}
use Rattle.kernel_model.specs.HandParts.{PartComes, part_place, part_step}
use Rattle.kernel_laws.proofs.PartLeaves.{Parted, parted}
use Rattle.kernel_laws.proofs.PartMachines.{part_keep, part_due, part_sound, part_numbered, part_coupled, part_stands}
use Rattle.run_model.specs.State.{State}
use Rattle.run_laws.specs.Machine.{OutRegs, Keeps, StandsAt}
use Rattle.run_laws.specs.Standing.{machine_of, EachOnce, Placed}
use Rattle.run_laws.proofs.Paging.{bare_sound}
use Rattle.paged_model.specs.Reasons.{or_reason}
use Rattle.paged_model.specs.Steps.{begun}
use Rattle.paged_model.specs.Parts.{part_reason}
use Rattle.paged_model.proofs.PartReasons.{part_comes}
use Rattle.paged_model.proofs.Reasoned.{or_none}
use Rattle.paged_laws.specs.Paged.{Steady, IsPaged}
use Rattle.paged_laws.proofs.Awaiting.{none_begun}

part_placed : (A : Inputs) (flat : FlatState) (p : Placement) (hs : Holdings) (x : HandPart) → PartComes p x → Placed A flat p hs
    → Placed A flat (part_place p x) hs
part_placed A flat p hs x c s =
    let k : Kernel = machine_of flat p hs in
    let so : Sound A.swap_blocks k = s.sound in
    let o : OneOwner A.swap_blocks (lives k.processes) p hs = so.owner in
    let d : Parted p (part_place p x) = parted p x o.frames c in
    let h : KeepsHands p (part_place p x) = part_keep p x o.frames c in
    let t : SameTables k flat = s.tables in
    let n : Numbered k = s.numbered in
    let still : Still p (part_place p x) = d.steady in
    record {
      sound = bare_sound A.swap_blocks flat (part_place p x) hs (d.one A.swap_blocks (lives k.processes) hs o) (h.stand so.hands) (d.few so.few_transfers);
      numbered = record {
        spaces_differ = subst AllDistinct (sym d.numbers) n.spaces_differ;
        spaces_below = subst (AllBelow flat.next_sid) (sym d.numbers) n.spaces_below;
        pids_differ = n.pids_differ;
        pids_below = n.pids_below;
        residents = λ pid a. subst (λ (rs : List Residence). numbered (λ (r : Residence). r.pid) pid rs ≢ None) (sym d.shaped.residents) (n.residents pid a);
      };
      tables = record {
        processes = t.processes;
        next_pid = refl;
        next_sid = refl;
        spaces = λ sid. fit_shaped p (part_place p x) (numbered (λ (y : Space). y.sid) sid (spaces_of flat)) sid d.shaped (t.spaces sid);
      };
      stands = stands_still A.images k (machine_of flat (part_place p x) hs) flat refl still.due d.shaped s.stands;
      dues = part_due p x o.frames c s.dues;
      once = subst EachOnce (sym still.due) s.once;
      parts = d.filled s.parts;
      frames = ap length still.holds ∙ s.frames;
    }

-- the state after the line
abbrev pub parted_state : State → HandPart → State
parted_state s x = record s { place = part_place s.place x }

part_steady : (A : Inputs) (s : State) (x : HandPart) → PartComes s.place x → Steady A s → Steady A (parted_state s x)
part_steady A s x c st = record {
  placed = part_placed A s.point.flat s.place s.holdings x c st.placed;
  numbers = st.numbers;
  lenders = st.lenders;
  texts = st.texts;
  sized = st.sized;
  says = st.says;
}

pub line_comes : (s : State) (x : HandPart) → or_reason (begun s.point.last) (part_reason s.place x) ≡ None
    → (begun s.point.last ≡ None) × PartComes s.place x
line_comes s x e = let o = or_none (begun s.point.last) (part_reason s.place x) e in (o.0, part_comes s.place x o.1)

pub part_paged : (A : Inputs) (s : State) (x : HandPart) → IsPaged A s → or_reason (begun s.point.last) (part_reason s.place x) ≡ None
    → IsPaged A (parted_state s x)
part_paged A s x h e =
    let c = line_comes s x e in
    record { steady = part_steady A s x c.1 h.steady; awaits = none_begun A (parted_state s x) s.point.last c.0 }

-- A machine with its bytes.

out_still : (p q : Placement) (flat : FlatState) → q.residents ≡ p.residents → OutRegs p flat → OutRegs q flat
out_still p q flat e o pid r out there = o pid r (sym (ap (λ (rs : List Residence). (residence_of rs pid).out) e) ∙ out) there

pub part_stands_at : (A : Inputs) (s : State) (k : Kernel) (image : List ℕ) (x : HandPart) → StandsAt A s k image
    → or_reason (begun s.point.last) (part_reason s.place x) ≡ None → StandsAt A (parted_state s x) (part_step k x) image
part_stands_at A s k image x at e =
    let m : Keeps A s.point.flat k image = at.keeps in
    let c : PartComes k.place x = subst (λ (p : Placement). PartComes p x) (sym at.place) (line_comes s x e).1 in
    let so : Sound A.swap_blocks k = m.sound in
    let o : OneOwner A.swap_blocks (lives k.processes) k.place k.holdings = so.owner in
    let d : Parted k.place (part_place k.place x) = parted k.place x o.frames c in
    record {
      place = ap (λ (p : Placement). part_place p x) at.place;
      holdings = at.holdings;
      journal = at.journal;
      keeps = record {
        sound = part_sound A.swap_blocks k x so c;
        numbered = part_numbered A.swap_blocks k x so c m.numbered;
        coupled = part_coupled A.swap_blocks k x so c A.images image s.point.flat m.coupled;
        stands = part_stands A.swap_blocks k x so c A.images s.point.flat m.stands;
        room = m.room;
        out_regs = out_still k.place (part_place k.place x) s.point.flat d.shaped.residents m.out_regs;
      };
    }
