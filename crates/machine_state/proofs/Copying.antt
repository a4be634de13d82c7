-- The step of `Copy`, from what the calls of the tables leave.
use Rattle.std.proofs.Common.{◌≡◌, inl, ℕ, ◌<◌, Bool, true, cond, List, [], ◌∷◌, ◌++◌, length, map, drop, Some, refl, sym, ap, ◌∙◌, subst, arith, None}
use Rattle.std.proofs.lemmas.List.{length-set, get_or-set_other}
use Rattle.vm_facts.specs.declared.page.Page.{Page}
use Rattle.vm_facts.specs.declared.page.PageState.{PageState}
use Rattle.vm_facts.specs.declared.page.PageState.TheVariants.{Valid}
use Rattle.vm_facts.specs.declared.entry.Entry.{Entry}
use Rattle.vm_facts.specs.declared.entry.Entry.TheVariants as entries
use Rattle.frame_state.specs.Frame.{Frame}
use Rattle.core_map.specs.declared.slot.Slot.{Slot as Token}
use Rattle.core_map.specs.declared.slot.Slot.TheVariants as tokens
use Rattle.core_map.specs.Slots.{slot_at, token_of, slot_page}
use Rattle.page_model.specs.Frames.{set_frame}
use Rattle.page_model.specs.Pages.{frame_of}
use Rattle.flat_state.specs.PageNames.{same_page}
use Rattle.page_model.specs.Placement.{Placement, Due, CopyOf, due_page, due_of_page, state_of, IsThere}
use Rattle.page_model.specs.Moves.{fill}
use Rattle.page_model.specs.Place.{filled, due_after}
use Rattle.page_model.specs.Conditions.{EachPage}
use Rattle.page_model.specs.Dues.{NotDue}
use Rattle.page_model.specs.PageBytes.{Bytes, SamePage, IsWritable, with_frame, bytes_in}
use Rattle.kernel_model.specs.Kernel.{Kernel, copied_bytes, frame_bytes, page_bytes, put_first, copy_step}
use Rattle.kernel_model.specs.Sound.{Sound}
use Rattle.kernel_model.specs.Coupled.{beside_kernel}
use Rattle.flat_state.proofs.PageNames.{same_page_self}
use Rattle.table_steps.proofs.Others.{filled_same}
use Rattle.table_steps.proofs.Moves.{copy_coupled}
use Rattle.table_steps.specs.Tables.{Tables}
use Rattle.table_steps.specs.DueFill.{DueFill}
use Rattle.table_steps.specs.DueFill.TheVariants as fills
use Rattle.table_steps.specs.View.{Lists, flown_at, bytes_by, due_shown, starts_of, placement_of, frames_of}
use Rattle.table_steps.specs.Due.{DueOnce}
use Rattle.table_steps.specs.Steps.{taken_frame, seated_in}
use Rattle.table_steps.specs.Moves.{TookFrame, SeatedPage, FinishedFill}
use Rattle.table_steps.specs.Machine.{KernelRuns, lists_of, kernel_by}
use Rattle.table_steps.specs.Known.{Known}
use Rattle.table_steps.specs.Calls.{CanCopy}
use Rattle.table_steps.specs.Conditions.{KeepsFlat, SameElsewhere}
use Rattle.table_steps.proofs.Evicts.{Head}
use Rattle.table_steps.proofs.Fills.{Took, took_is, fill_is, seat_frames}
use Rattle.table_steps.proofs.Held.{bytes_at}
use Rattle.table_steps.proofs.Zeros.{zeroed, took_lists, seated_lists, finished_lists}
use Rattle.table_steps.proofs.Kernels.{kernel_ext, zeroed_ties}
use Rattle.table_steps.proofs.Kept.{Ties, none_due}
use Rattle.table_steps.proofs.Residing.{Resides, seat_resides}

-- What is due.

pub due_next : (ds : List DueFill) (q parent : Page) (others : List Due) → map due_shown ds ≡ CopyOf q parent ∷ others
    → map due_shown (drop 1 ds) ≡ due_after (map due_shown ds) q
due_next [] q parent others e = absurd cc
due_next (fills.Start r bytes ∷ ds) q parent others e = absurd cc
due_next (fills.Copy child from ∷ ds) q parent others e =
    let same : child ≡ q = cc in
    sym (ap (λ (b : Bool). cond b (map due_shown ds) (CopyOf child from ∷ map due_shown ds)) (ap (λ (x : Page). same_page x q) same ∙ same_page_self q))

starts_next : (ds : List DueFill) (q parent : Page) (others : List Due) → map due_shown ds ≡ CopyOf q parent ∷ others → starts_of (drop 1 ds) ≡ starts_of ds
starts_next [] q parent others e = absurd cc
starts_next (fills.Start r bytes ∷ ds) q parent others e = absurd cc
starts_next (fills.Copy child from ∷ ds) q parent others e = refl

due_copied : (ds : List Due) (q parent : Page) (others : List Due) → ds ≡ CopyOf q parent ∷ others → due_of_page ds q ≡ Some (CopyOf q parent)
due_copied ds q parent others e = ap (λ (x : List Due). due_of_page x q) e ∙ ap (λ (b : Bool). cond b (Some (CopyOf q parent)) (due_of_page others q)) (same_page_self q)

pub left_due : (ds : List DueFill) (q parent : Page) (others : List Due) → DueOnce ds → map due_shown ds ≡ CopyOf q parent ∷ others
    → NotDue (due_after (map due_shown ds) q) q
left_due [] q parent others o e = absurd cc
left_due (fills.Start r bytes ∷ ds) q parent others o e = absurd cc
left_due (fills.Copy child from ∷ ds) q parent others o e =
    let same : child ≡ q = cc in
    subst (λ (b : Bool). NotDue (cond b (map due_shown ds) (CopyOf child from ∷ map due_shown ds)) q) (sym (ap (λ (x : Page). same_page x q) same ∙ same_page_self q))
    (none_due (map due_shown ds) q (subst (λ (x : Page). EachPage (λ (y : Page). y ≡ x → ⊥) (map due_page (map due_shown ds))) same o.0))

-- The step.

module _ (t u v w : Tables) (token copy : Frame) (q parent : Page) (f : ℕ) (others : List Due) where
  pub record Copying : Type 0 where
    pub known : Known (lists_of t)
    pub took : TookFrame t u token
    pub is : copy ≡ record { number = token.number; bytes = (token_of (slot_at t.core.slots f)).bytes }
    pub seat : SeatedPage u v copy q true
    pub finish : FinishedFill v w
    pub writable : IsWritable q
    pub there : IsThere (placement_of (lists_of t)) q
    pub valid : state_of (placement_of (lists_of t)) parent ≡ Valid f
    pub due : map due_shown t.fills.items ≡ CopyOf q parent ∷ others
    pub once : DueOnce t.fills.items

  copying_lists : Copying → lists_of w ≡ zeroed (lists_of t) token.number (slot_page (slot_at t.core.slots token.number)) u.core.free copy q
  copying_lists z =
      finished_lists v w z.finish
      ∙ ap (λ (ds : List DueFill). record (lists_of v) { fills = drop 1 ds }) (ap (λ (x : Tables). x.fills.items) z.seat.rest ∙ ap (λ (x : Tables). x.fills.items) z.took.rest)
      ∙ ap (λ (l : Lists). record l { fills = drop 1 t.fills.items }) (seated_lists u v copy q true z.seat ∙ ap (λ (l : Lists). seated_in l copy q true) (took_lists t u token z.took))

  pub copying_rest : Copying → w ≡ record t { core = v.core; spaces = v.spaces; fills = w.fills }
  copying_rest z =
      z.finish.rest
      ∙ ap (λ (x : Tables). record x { fills = w.fills }) z.seat.rest
      ∙ ap (λ (x : Tables). record x { core = v.core; spaces = v.spaces; fills = w.fills }) z.took.rest

  pub copy_ties : Copying → frame_of (state_of (placement_of (lists_of t)) q) ≡ None → Ties (lists_of t) (lists_of w)
  copy_ties z none =
      subst (Ties (lists_of t)) (sym (copying_lists z))
      (zeroed_ties (lists_of t) token.number (slot_page (slot_at t.core.slots token.number)) u.core.free copy q z.known refl z.writable z.there none)

  -- the first free frame was taken_frame
  copying_took : Copying → Took (lists_of t) (taken_frame (lists_of t) token.number (slot_page (slot_at t.core.slots token.number)) u.core.free) copy.number
  copying_took z =
      let page = slot_page (slot_at t.core.slots token.number) in
      let head : Head (lists_of t) token.number token page u.core.free = record { free = z.took.free; was = z.took.was } in
      subst (Took (lists_of t) (taken_frame (lists_of t) token.number page u.core.free)) (sym (ap (λ (x : Frame). x.number) z.is))
      (took_is (lists_of t) token.number token page u.core.free z.known head)

  copy_place : Copying → placement_of (lists_of w) ≡ filled (placement_of (lists_of t)) q
  copy_place z =
      let l : Lists = taken_frame (lists_of t) token.number (slot_page (slot_at t.core.slots token.number)) u.core.free in
      ap placement_of (copying_lists z)
      ∙ ap (λ (p : Placement). record p { due = map due_shown (drop 1 t.fills.items) }) (fill_is (lists_of t) l copy q (copying_took z) z.writable z.there refl)
      ∙ ap (λ (ds : List Due). record (fill (placement_of (lists_of t)) q) { due = ds }) (due_next t.fills.items q parent others z.due)

-- the bytes of the parent's page
copied_is : (t : Tables) (journal : List Entry) (stopped : Bool) (q parent : Page) (f : ℕ) (others : List Due) → Known (lists_of t)
    → state_of (placement_of (lists_of t)) parent ≡ Valid f
    → map due_shown t.fills.items ≡ CopyOf q parent ∷ others
    → copied_bytes (kernel_by t journal stopped) (due_of_page (map due_shown t.fills.items) q) ≡ (token_of (slot_at t.core.slots f)).bytes
copied_is t journal stopped q parent f others known valid due =
    let k : Kernel = kernel_by t journal stopped in
    let r : Resides (lists_of t) parent f = seat_resides (lists_of t) parent f known (record { state = inl valid }) in
    ap (copied_bytes k) (due_copied (map due_shown t.fills.items) q parent others due)
    ∙ ap (λ (s : PageState). Rattle.kernel_model.specs.Kernel.bytes_at k (frame_of s)) valid
    ∙ bytes_at (lists_of t) f r.above r.below
    ∙ ap (λ (y : Token). bytes_by y (flown_at (lists_of t).flown f)) r.slot
    ∙ sym (ap (λ (y : Token). (token_of y).bytes) r.slot)

pub copy_kernel : (t u v w : Tables) (token copy : Frame) (q parent : Page) (f : ℕ) (others : List Due) (journal : List Entry) (stopped : Bool)
    → Copying t u v w token copy q parent f others
    → kernel_by w (journal ++ entries.Copy q ∷ []) stopped ≡ copy_step (kernel_by t journal stopped) q
copy_kernel t u v w token copy q parent f others journal stopped z =
    let g : ℕ = token.number in
    let l : Lists = taken_frame (lists_of t) g (slot_page (slot_at t.core.slots g)) u.core.free in
    let rest = copying_rest t u v w token copy q parent f others z in
    let n : copy.number ≡ g = ap (λ (x : Frame). x.number) z.is in
    kernel_ext (kernel_by w (journal ++ entries.Copy q ∷ []) stopped) (copy_step (kernel_by t journal stopped) q)
    (copy_place t u v w token copy q parent f others z)
    (ap (λ (x : Tables). x.book.holdings) rest)
    (ap (λ (x : Tables). Rattle.table_steps.specs.Machine.processes_of x.processes x.next_pid) rest)
    (ap (λ (x : Tables). x.next_pid) rest)
    (ap (λ (x : Tables). x.next_sid) rest)
    (ap (λ (x : Lists). starts_of x.fills) (copying_lists t u v w token copy q parent f others z) ∙ starts_next t.fills.items q parent others z.due)
    (ap frames_of (copying_lists t u v w token copy q parent f others z)
    ∙ seat_frames (lists_of t) l copy q true (copying_took t u v w token copy q parent f others z)
    (λ h d. ap (λ (y : Token). bytes_by y (flown_at (lists_of t).flown h)) (get_or-set_other t.core.slots g h tokens.Away tokens.Away (λ e. d (e ∙ sym n))))
    (length-set t.core.slots g tokens.Away)
    ∙ ap (λ (h : ℕ). set_frame (frames_of (lists_of t)) h copy.bytes) n
    ∙ ap (set_frame (frames_of (lists_of t)) g) (ap (λ (x : Frame). x.bytes) z.is ∙ sym (copied_is t journal stopped q parent f others z.known z.valid z.due))
    ∙ sym (ap (λ (fs : List ℕ). put_first fs (frames_of (lists_of t)) (copied_bytes (kernel_by t journal stopped) (due_of_page (map due_shown t.fills.items) q))) z.took.free))
    refl
    refl

pub copy_keeps : (size : ℕ) (k : Kernel) (q parent : Page) → Sound size k → CanCopy k.place q parent → KeepsFlat k (copy_step k q)
copy_keeps size k q parent so can images image flat c =
    copy_coupled size k images image flat q q parent can.frame so (record { there = can.there; frameless = ap frame_of can.unfilled }) can.writable can.free can.unfilled
    (due_copied k.place.due q parent can.others can.first) can.valid c

pub head_is : (fs : List ℕ) → 0 < length fs → (f : ℕ) × (rest : List ℕ) × (fs ≡ f ∷ rest)
head_is [] l = absurd (omega arith)
head_is (f ∷ rest) l = (f, rest, refl)

pub copy_same : (size : ℕ) (k : Kernel) (q parent : Page) → Sound size k → CanCopy k.place q parent → SameElsewhere k (copy_step k q) q
copy_same size k q parent so can images image flat w n =
    let h = head_is k.place.free can.free in
    let bytes : List ℕ = copied_bytes k (due_of_page k.place.due q) in
    let b : Bytes = beside_kernel k images image flat in
    let s : SamePage k.place (filled k.place q) b (with_frame b h.0 bytes) w = filled_same k.place q h.0 h.1 b bytes w so.owner.frames h.2 n in
    record {
      frames = λ g j x y. subst (λ (fs : List ℕ). bytes_in (record b { frames = put_first fs k.frames bytes }) j ≡ bytes_in b g) (sym h.2) (s.frames g j x y);
      swap = refl;
      start = refl;
    }
