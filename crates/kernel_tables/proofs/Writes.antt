-- The call that writes one byte.
use Rattle.std.proofs.Common.{◌≡◌, ℕ, ◌<◌, Bool, true, List, length, map, set, refl, sym, ap, ◌∙◌, subst, set-set}
use Rattle.std.proofs.lemmas.List.{length-set, get_or-set_same, get_or-set_other}
use Rattle.vm_facts.specs.declared.page.Page.{Page}
use Rattle.vm_facts.specs.declared.page.PageState.TheVariants.{Valid}
use Rattle.vm_facts.specs.declared.entry.Entry.{Entry}
use Rattle.vax_pte.specs.declared.Place.TheVariants as places
use Rattle.core_map.specs.declared.slot.Slot.{Slot as Token}
use Rattle.core_map.specs.declared.slot.Slot.TheVariants as tokens
use Rattle.core_map.specs.Slots.{slot_at, with_byte, with_bytes, with_dirty}
use Rattle.space_map.specs.Space.{Places}
use Rattle.page_model.specs.Pages.{frame_of}
use Rattle.page_model.specs.Placement.{state_of}
use Rattle.page_model.specs.PageBytes.{IsWritable}
use Rattle.page_model.specs.Dues.{DueStand}
use Rattle.kernel_model.specs.Kernel.{Kernel, write_step}
use Rattle.kernel_model.specs.Sound.{Sound}
use Rattle.kernel_model.specs.Numbers.{Numbered}
use Rattle.kernel_laws.proofs.Sound.Steps.{write_sound}
use Rattle.kernel_laws.proofs.Sound.NumbersApart.{write_numbered}
use Rattle.kernel_laws.proofs.PageLawsDueChanges.{touch_due}
use Rattle.kernel_tables.specs.declared.tables.Tables.{Tables}
use Rattle.kernel_tables.specs.Shown.{placed}
use Rattle.kernel_tables.specs.View.{placement_of, frames_of}
use Rattle.kernel_tables.specs.Known.{Known}
use Rattle.kernel_tables.specs.Moves.{WroteByte}
use Rattle.kernel_tables.specs.Machine.{KernelRuns, Stands, lists_of, kernel_by, before_of, images_of, image_at}
use Rattle.page_model.specs.Holdings.{Holdings}
use Rattle.kernel_tables.proofs.Stills.{images_heads, sourced_still}
use Rattle.kernel_tables.proofs.Entries.{head_of, placed_heads}
use Rattle.kernel_tables.proofs.Likes.{placed_alike, placed_filled, frame_fits}
use Rattle.kernel_tables.proofs.Kept.{Ties, tied_still, still_there}
use Rattle.kernel_tables.proofs.Kernels.{kernel_ext}
use Rattle.kernel_tables.proofs.Touches.{InFrame, in_frame, written, write_place, write_frames}
use Rattle.kernel_tables.proofs.Marks.{dirty_place, marks_placed, marks_here, alone_in, set_resident, resident_page, resident_mark}
use Rattle.kernel_tables.proofs.Knows.{texts_here}
use Rattle.kernel_tables.proofs.Comes.{shared_entry}
use Rattle.kernel_laws.proofs.PageLawsMovesSteps.{page_in}
use Rattle.kernel_laws.proofs.Kept.Pages.{writable_shared}

pub marked_byte : (old one two : List Token) (f at byte : ℕ) → f < length old → one ≡ set old f (with_byte (slot_at old f) at byte)
    → two ≡ set one f (with_dirty (slot_at one f) true)
    → two ≡ set old f (with_dirty (with_byte (slot_at old f) at byte) true)
marked_byte old one two f at byte l e1 e2 =
    let x : Token = with_byte (slot_at old f) at byte in
    e2 ∙ ap (λ (ss : List Token). set ss f (with_dirty (slot_at ss f) true)) e1
    ∙ ap (λ (s : Token). set (set old f x) f (with_dirty s true)) (get_or-set_same old f x tokens.Away l)
    ∙ set-set old f x (with_dirty x true)

pub marked_bytes : (old one two : List Token) (f at : ℕ) (bytes : List ℕ) → f < length old → one ≡ set old f (with_bytes (slot_at old f) at bytes)
    → two ≡ set one f (with_dirty (slot_at one f) true)
    → two ≡ set old f (with_dirty (with_bytes (slot_at old f) at bytes) true)
marked_bytes old one two f at bytes l e1 e2 =
    let x : Token = with_bytes (slot_at old f) at bytes in
    e2 ∙ ap (λ (ss : List Token). set ss f (with_dirty (slot_at ss f) true)) e1
    ∙ ap (λ (s : Token). set (set old f x) f (with_dirty s true)) (get_or-set_same old f x tokens.Away l)
    ∙ set-set old f x (with_dirty x true)

pub record Writing (t u : Tables) (q : Page) (f at byte : ℕ) : Type 0 where
  pub known : Known (lists_of t)
  pub valid : state_of (placement_of (lists_of t)) q ≡ Valid f
  pub writable : IsWritable q
  pub wrote : WroteByte t u q f at byte

writing_lists : (t u : Tables) (q : Page) (f at byte : ℕ) (w : Writing t u q f at byte) (i : InFrame (lists_of t) q f)
    → lists_of u ≡ written (lists_of t) q f (tokens.Resident (record i.token { bytes = set i.token.bytes at byte }) q true)
writing_lists t u q f at byte w i =
    let s : Token = tokens.Resident (record i.token { bytes = set i.token.bytes at byte }) q true in
    ap lists_of w.wrote.rest
    ∙ ap (λ (ss : List Token). record (lists_of t) { slots = ss; free = u.core.free; spaces = u.spaces })
    (w.wrote.slots ∙ ap (λ (x : Token). set t.core.slots f (with_dirty (with_byte x at byte) true)) i.resident)
    ∙ ap (λ (fs : List ℕ). record (lists_of t) { slots = set t.core.slots f s; free = fs; spaces = u.spaces }) w.wrote.free
    ∙ ap (λ (ss : List Places). record (lists_of t) { slots = set t.core.slots f s; spaces = ss }) w.wrote.spaces

pub write_kernel : (t u : Tables) (q : Page) (f at byte : ℕ) (journal : List Entry) (stopped : Bool) → Writing t u q f at byte
    → kernel_by u journal stopped ≡ write_step (kernel_by t journal stopped) q f at byte
write_kernel t u q f at byte journal stopped w =
    let i : InFrame (lists_of t) q f = in_frame (lists_of t) q f w.known w.valid in
    let l = writing_lists t u q f at byte w i in
    let rest = w.wrote.rest in
    kernel_ext (kernel_by u journal stopped) (write_step (kernel_by t journal stopped) q f at byte)
    (ap placement_of l ∙ write_place (lists_of t) q f (record i.token { bytes = set i.token.bytes at byte }) w.known w.writable w.valid i)
    (ap (λ (x : Tables). x.book.holdings) rest)
    (ap (λ (x : Tables). Rattle.kernel_tables.specs.Machine.processes_of x.processes x.next_pid) rest)
    (ap (λ (x : Tables). x.next_pid) rest)
    (ap (λ (x : Tables). x.next_sid) rest)
    (ap (λ (x : Tables). Rattle.kernel_tables.specs.View.starts_of x.fills.items) rest)
    (ap frames_of l ∙ write_frames (lists_of t) q f at byte i)
    refl
    refl

-- the same machine with other tables
abbrev pub wrote_tables : Tables → Tables → Tables
wrote_tables t u = record t { core = u.core; spaces = u.spaces }

pub wrote_itself : (t u : Tables) (q : Page) (f at byte : ℕ) → Writing t u q f at byte → Writing t (wrote_tables t u) q f at byte
wrote_itself t u q f at byte w = record { known = w.known; valid = w.valid; writable = w.writable; wrote = record { free = w.wrote.free; slots = w.wrote.slots; spaces = w.wrote.spaces; rest = refl } }

write_runs : (t u : Tables) (q : Page) (f at byte : ℕ) (j : List Entry) (b : Bool) (hs : Holdings)
    → KernelRuns (record (kernel_by t j b) { holdings = hs }) (lists_of t) t.book.size → Writing t u q f at byte
    → KernelRuns (record (kernel_by u j b) { holdings = hs }) (lists_of u) t.book.size
write_runs t u q f at byte j b hs r w =
    let k : Kernel = record (kernel_by t j b) { holdings = hs } in
    let i : InFrame (lists_of t) q f = in_frame (lists_of t) q f w.known w.valid in
    let is : record (kernel_by u j b) { holdings = hs } ≡ write_step k q f at byte = ap (λ (x : Kernel). record x { holdings = hs }) (write_kernel t u q f at byte j b w) in
    let s : Token = tokens.Resident (record i.token { bytes = set i.token.bytes at byte }) q true in
    let ties : Ties (lists_of t) (lists_of u) = subst (Ties (lists_of t)) (sym (writing_lists t u q f at byte w i)) (record {
      slots = length-set t.core.slots f s;
      facts = refl;
      heads = placed_heads t.spaces q (places.Frame f true true);
      entries = λ x h. still_there t.spaces q x (places.Frame f true true) h;
      alike = λ h. placed_alike t.spaces q (places.Frame f true true) h;
      filled = λ h. placed_filled (lists_of t).facts t.spaces q (places.Frame f true true) (frame_fits q f true true) h;
      counts = λ i. refl;
      marked = marks_placed (lists_of t) (record (lists_of t) { slots = set t.core.slots f s; spaces = map (placed q (places.Frame f true true)) t.spaces }) q f (places.Frame f true true)
          (texts_here (lists_of t) w.known) (λ h d. get_or-set_other t.core.slots f h s tokens.Away d) refl (λ i v d l. refl) (alone_in (lists_of t) q f w.known (ap frame_of w.valid))
          (λ a r mark h. let y = set_resident t.core.slots f s a r mark h in
          marks_here t.spaces t.texts (places.Frame f true true) q r mark (shared_entry (lists_of t) q w.known.tied (writable_shared (placement_of (lists_of t)) q w.writable)
          (page_in (placement_of (lists_of t)) q f (ap frame_of w.valid))) (resident_page (record i.token { bytes = set i.token.bytes at byte }) a q r true mark y)
          (resident_mark (record i.token { bytes = set i.token.bytes at byte }) a q r true mark y ∙ sym (dirty_place t.texts f q w.writable)));
      whole = λ x. x;
      once = λ x. x;
    }) in
    record {
      sound = subst (Sound t.book.size) (sym is) (write_sound t.book.size k q f at byte r.sound);
      numbered = subst Numbered (sym is) (write_numbered k q f at byte r.numbered);
      due = subst (λ (x : Kernel). DueStand x.place) (sym is) (touch_due k.place q r.due);
      tied = tied_still (lists_of t) (lists_of u) ties r.tied;
    }

-- the machine still stands
pub write_stands : (t u : Tables) (q : Page) (f at byte : ℕ) (j : List Entry) (b : Bool) → Stands t j b → Writing t u q f at byte → Stands u j b
write_stands t u q f at byte j b s w =
    let v : Tables = wrote_tables t u in
    let heads : map head_of v.spaces ≡ map head_of t.spaces = ap (map head_of) w.wrote.spaces ∙ placed_heads t.spaces q (places.Frame f true true) in
    subst (λ (x : Tables). Stands x j b) (sym w.wrote.rest) (record {
      runs = write_runs t v q f at byte j b (before_of t) s.runs (wrote_itself t u q f at byte w);
      ring = sourced_still (images_of t) (image_at t) (image_at v) (before_of t) t.book.size t.ring (images_heads t v heads) s.ring;
      within = s.within;
      book = s.book;
      found = s.found;
      records = s.records;
      named = s.named;
      numbers = s.numbers;
    })
