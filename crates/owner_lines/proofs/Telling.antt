-- The lines of all frames, and the whole text.
use Rattle.std.proofs.Common.{◌≡◌, ℕ, suc, ◌+◌, ◌-◌, ◌<◌, Bool, List, [], ◌∷◌, ◌++◌, length, refl, sym, ap, ◌∙◌, arith}
use Rattle.std.specs.List.{flat_map}
use Rattle.vm_facts.specs.declared.entry.Entry.TheVariants as noted
use Rattle.vm_facts.specs.Lists.{times}
use Rattle.page_model.specs.Holdings.{Holdings}
use Rattle.page_model.specs.Frames.{count_up}
use Rattle.page_model.specs.Pages.{frame_of}
use Rattle.page_model.specs.Placement.{Moving, Placement, IsFrame, parts_of, flying}
use Rattle.page_model.specs.Ownership.{OwnsFrames, OneOwner}
use Rattle.kernel_model.specs.Kernel.{Proc}
use Rattle.run_model.specs.Next.{owners_of, blocks_held}
use Rattle.page_laws.proofs.Starts.{count_once}
use Rattle.page_laws.proofs.Moves.Steps.{frame_of_moving, frame_there}
use Rattle.owner_lines.specs.Owners.{entries_line, hands_line, frame_lines, transfers_from, process_lines, due_line, swap_lines, owners_text}
use Rattle.owner_lines.specs.Lines.{FrameLine, frame_text, counted, free_one, used_one, moving_one, blocks_told}
use Rattle.owner_lines.specs.Told.{FramesTold}
use Rattle.owner_lines.specs.Account.{OwnersTold}
use Rattle.owner_lines.proofs.PlacesInARow.{row_length, each_once}
use Rattle.owner_lines.proofs.Carrying.{IsCarried, carried}
use Rattle.owner_lines.proofs.Framing.{Lines, lines_of}
use Rattle.owner_lines.proofs.Places.{places_once}
use Rattle.owner_lines.proofs.Area.{area, area_spelled, area_told, area_counted}

abbrev AllLines : Placement → Type 0
AllLines p = Lines p (count_up 1 (length p.holds))

all_lines : (p : Placement) → OwnsFrames p → AllLines p
all_lines p owns = lines_of p owns 1 (length p.holds) (omega arith) (omega arith)

all_told : (p : Placement) → OwnsFrames p → (all : AllLines p) → FramesTold p all.lines
all_told p owns all = record { frames = all.frames; so = all.so; places = places_once p all.lines owns all.frames all.so }

pub frames_told_so : (p : Placement) → OwnsFrames p → (lines : List FrameLine) × (frame_lines p ≡ flat_map frame_text lines) × FramesTold p lines
frames_told_so p owns =
    let all : AllLines p = all_lines p owns in
    (all.lines, all.text, all_told p owns all)

-- The numbers of frames.

length_flying : (ms : List Moving) → length (flying ms) ≡ length ms
length_flying [] = refl
length_flying (m ∷ ms) = ap suc (length_flying ms)

in_row : (p : Placement) (f : ℕ) → IsFrame p f → times f (count_up 1 (length p.holds)) ≡ 1
in_row p f w = let low = w.0 in let high = w.1 in count_once f 1 (length p.holds) (omega (arith, low)) (omega (arith, high))

frees : (p : Placement) → OwnsFrames p → (all : AllLines p) → length p.free ≡ counted free_one all.lines
frees p owns all = sym (all.free ∙ each_once (count_up 1 (length p.holds)) p.free (λ f l. in_row p f (owns.frames f l)))

movings : (p : Placement) → OwnsFrames p → (all : AllLines p) → length (parts_of p.transfers) ≡ counted moving_one all.lines
movings p owns all = sym (length_flying (parts_of p.transfers)) ∙ sym (all.moving ∙ each_once (count_up 1 (length p.holds)) (flying (parts_of p.transfers)) once)
  where
    once : (f : ℕ) → 0 < times f (flying (parts_of p.transfers)) → times f (count_up 1 (length p.holds)) ≡ 1
    once f l =
        let c : IsCarried p 1 f p.transfers = carried p 1 f p.transfers owns.moves l in
        in_row p f (frame_there p.holds f c.page (owns.names c.page f (ap frame_of c.state ∙ frame_of_moving c.transfer.errand f)))

numbered : (p : Placement) (hs : Holdings) (free used moving held : ℕ) → length p.free ≡ free
    → length p.holds - (length p.free + length (parts_of p.transfers)) ≡ used
    → length (parts_of p.transfers) ≡ moving → blocks_held hs ≡ held → owners_of p hs ≡ noted.Owners free used moving held
numbered p hs free used moving held a b c d =
    ap (λ (n : ℕ). noted.Owners n (length p.holds - (length p.free + length (parts_of p.transfers))) (length (parts_of p.transfers)) (blocks_held hs)) a
    ∙ ap (λ (n : ℕ). noted.Owners free n (length (parts_of p.transfers)) (blocks_held hs)) b
    ∙ ap (λ (n : ℕ). noted.Owners free used n (blocks_held hs)) c
    ∙ ap (λ (n : ℕ). noted.Owners free used moving n) d

-- The text.

pub owners_told_so : (entries size : ℕ) (over : Bool) (lives : ℕ → Bool) (p : Placement) (hs : Holdings) (processes : List Proc) → OneOwner size lives p hs
    → OwnersTold entries over p hs size processes (owners_text entries over p hs size processes)
unfolding owners_text
owners_told_so entries size over lives p hs processes one =
    let owns : OwnsFrames p = one.frames in
    let all : AllLines p = all_lines p owns in
    let free = frees p owns all in
    let moving = movings p owns all in
    let whole = all.whole in
    let row = row_length 1 (length p.holds) in
    let swap = area size hs in
    record {
      frames = all.lines;
      swap = swap;
      parts =
          ap (λ (t : List ℕ). entries_line entries over ++ hands_line p ++ t ++ transfers_from hs 1 p.transfers
          ++ flat_map (process_lines p) processes ++ flat_map due_line p.due ++ swap_lines size hs) all.text
          ∙ ap (λ (t : List ℕ). entries_line entries over ++ hands_line p ++ flat_map frame_text all.lines ++ transfers_from hs 1 p.transfers
          ++ flat_map (process_lines p) processes ++ flat_map due_line p.due ++ t) (area_spelled size hs);
      frames_so = all_told p owns all;
      swap_so = area_told size hs one.blocks.book;
      numbers = numbered p hs (counted free_one all.lines) (counted used_one all.lines) (counted moving_one all.lines) (blocks_told swap)
          free (omega (arith, free, moving, whole, row)) moving (sym (area_counted size hs));
    }
