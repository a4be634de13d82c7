-- The kernel of a machine, from the calls of its tables.
use Rattle.std.proofs.Common.{◌≡◌, ℕ, Bool, true, List, [], ◌∷◌, ◌++◌, set, refl, sym, ap, ◌∙◌, subst, Option, None}
use Rattle.std.proofs.lemmas.List.{length-set, get_or-set_other}
use Rattle.vm_facts.specs.declared.page.Page.{Page}
use Rattle.vm_facts.specs.declared.entry.Entry.{Entry}
use Rattle.vm_facts.specs.declared.entry.Entry.TheVariants as entries
use Rattle.frame_state.specs.Frame.{Frame}
use Rattle.core_map.specs.Slots.{slot_at, slot_page as token_page}
use Rattle.core_map.specs.declared.slot.Slot.TheVariants as tokens
use Rattle.page_model.specs.Holdings.{Holdings}
use Rattle.page_model.specs.Pages.{frame_of}
use Rattle.page_model.specs.Placement.{Placement, IsThere, state_of}
use Rattle.page_model.specs.PageBytes.{IsWritable}
use Rattle.kernel_model.specs.Kernel.{Kernel, Proc, StartBytes, zero_step}
use Rattle.kernel_tables.specs.declared.tables.Tables.{Tables}
use Rattle.kernel_tables.specs.View.{Lists, starts_of, placement_of, frames_of}
use Rattle.kernel_tables.specs.Due.{first_bytes}
use Rattle.kernel_tables.specs.Steps.{evicted}
use Rattle.kernel_tables.specs.Machine.{lists_of, kernel_by}
use Rattle.kernel_tables.proofs.Entries.{placed_heads}
use Rattle.kernel_tables.proofs.Evicts.{Head}
use Rattle.kernel_tables.proofs.Zeros.{Zeroing, zeroed, zeroing_lists, zero_place, zero_frames, starts_first}
use Rattle.kernel_tables.proofs.Likes.{placed_alike, evicted_alike, placed_filled, evicted_filled, frame_fits}
use Rattle.kernel_tables.proofs.Kept.{Ties, still_there, evicted_there, evicted_heads, whole_rest, once_rest}
use Rattle.kernel_tables.proofs.Marks.{marks_entered, marks_here, dirty_place, set_resident, resident_page, resident_mark}
use Rattle.kernel_tables.specs.Known.{Known}
use Rattle.kernel_tables.proofs.Fills.{entry_there}

pub kernel_ext : (a b : Kernel) → a.place ≡ b.place → a.holdings ≡ b.holdings → a.processes ≡ b.processes → a.next_pid ≡ b.next_pid
    → a.next_sid ≡ b.next_sid → a.starts ≡ b.starts
    → a.frames ≡ b.frames → a.journal ≡ b.journal → a.stopped ≡ b.stopped → a ≡ b
kernel_ext a b e1 e2 e3 e4 e5 e6 e7 e8 e9 =
    ap (λ (x : Placement). record a { place = x }) e1
    ∙ ap (λ (x : Holdings). record a { place = b.place; holdings = x }) e2
    ∙ ap (λ (x : List Proc). record a { place = b.place; holdings = b.holdings; processes = x }) e3
    ∙ ap (λ (x : ℕ). record a { place = b.place; holdings = b.holdings; processes = b.processes; next_pid = x }) e4
    ∙ ap (λ (x : ℕ). record a { place = b.place; holdings = b.holdings; processes = b.processes; next_pid = b.next_pid; next_sid = x }) e5
    ∙ ap (λ (x : List StartBytes). record b { starts = x; frames = a.frames; journal = a.journal; stopped = a.stopped }) e6
    ∙ ap (λ (x : List (List ℕ)). record b { frames = x; journal = a.journal; stopped = a.stopped }) e7
    ∙ ap (λ (x : List Entry). record b { journal = x; stopped = a.stopped }) e8
    ∙ ap (λ (x : Bool). record b { stopped = x }) e9

-- The step of `Zero`.

module _ (t u v w : Tables) (token filling : Frame) (q : Page) where
  pub zeroing_rest : Zeroing t u v w token filling q → w ≡ record t { core = v.core; spaces = v.spaces; fills = w.fills }
  zeroing_rest z =
      z.finish.rest
      ∙ ap (λ (x : Tables). record x { fills = w.fills }) z.seat.rest
      ∙ ap (λ (x : Tables). record x { core = v.core; spaces = v.spaces; fills = w.fills }) z.took.rest

  zeroing_head : Zeroing t u v w token filling q → Head (lists_of t) token.number token (token_page (slot_at t.core.slots token.number)) u.core.free
  zeroing_head z = record { free = z.took.free; was = z.took.was }

  pub zero_kernel : (journal : List Entry) (stopped : Bool) → Zeroing t u v w token filling q
      → kernel_by w (journal ++ entries.Zero q ∷ []) stopped ≡ zero_step (kernel_by t journal stopped) q
  zero_kernel journal stopped z =
      let l = zeroing_lists t u v w token filling q z in
      let r = zeroing_rest z in
      let h = zeroing_head z in
      let page = token_page (slot_at t.core.slots token.number) in
      let bytes : filling.bytes ≡ first_bytes t.fills.items = ap (λ (x : Frame). x.bytes) z.bytes ∙ ap (λ (x : Tables). first_bytes x.fills.items) z.took.rest in
      kernel_ext (kernel_by w (journal ++ entries.Zero q ∷ []) stopped) (zero_step (kernel_by t journal stopped) q)
      (ap placement_of l ∙ zero_place (lists_of t) token.number token filling page u.core.free q z.known h (ap (λ (x : Frame). x.number) z.bytes) z.writable z.there z.first)
      (ap (λ (x : Tables). x.book.holdings) r)
      (ap (λ (x : Tables). Rattle.kernel_tables.specs.Machine.processes_of x.processes x.next_pid) r)
      (ap (λ (x : Tables). x.next_pid) r)
      (ap (λ (x : Tables). x.next_sid) r)
      (ap (λ (x : Lists). starts_of x.fills) l ∙ starts_first t.fills.items q z.once z.first)
      (ap frames_of l ∙ zero_frames (lists_of t) token.number token filling page u.core.free q z.known h (ap (λ (x : Frame). x.number) z.bytes) bytes z.first)
      refl
      refl

pub zeroed_ties : (t : Lists) (f : ℕ) (page : Option Page) (rest : List ℕ) (filling : Frame) (q : Page) → Known t
    → token_page (slot_at t.slots f) ≡ page → IsWritable q → IsThere (placement_of t) q
    → frame_of (state_of (placement_of t) q) ≡ None → Ties t (zeroed t f page rest filling q)
zeroed_ties t f page rest filling q k e w there none = record {
  slots = length-set (set t.slots f tokens.Away) filling.number (tokens.Resident filling q true) ∙ length-set t.slots f tokens.Away;
  facts = refl;
  heads = placed_heads (evicted t.texts page t.spaces) q (Rattle.vax_pte.specs.declared.Place.TheVariants.Frame filling.number true true) ∙ evicted_heads t.texts page t.spaces;
  entries = λ r h. still_there (evicted t.texts page t.spaces) q r (Rattle.vax_pte.specs.declared.Place.TheVariants.Frame filling.number true true) (evicted_there t.texts page t.spaces r h);
  alike = λ h. placed_alike (evicted t.texts page t.spaces) q (Rattle.vax_pte.specs.declared.Place.TheVariants.Frame filling.number true true) (evicted_alike t.texts page t.spaces h);
  filled = λ h. placed_filled t.facts (evicted t.texts page t.spaces) q (Rattle.vax_pte.specs.declared.Place.TheVariants.Frame filling.number true true) (frame_fits q filling.number true true)
      (evicted_filled t.facts t.texts page t.spaces h);
  counts = λ i. refl;
  marked = marks_entered t f filling.number page rest q (Rattle.vax_pte.specs.declared.Place.TheVariants.Frame filling.number true true) (zeroed t f page rest filling q) k e none
      (λ h d. get_or-set_other (set t.slots f tokens.Away) filling.number h (tokens.Resident filling q true) tokens.Away d) refl refl
      (λ token r mark h. let x = set_resident (set t.slots f tokens.Away) filling.number (tokens.Resident filling q true) token r mark h in
      marks_here (evicted t.texts page t.spaces) t.texts (Rattle.vax_pte.specs.declared.Place.TheVariants.Frame filling.number true true) q r mark
      (evicted_there t.texts page t.spaces q (entry_there t q w there))
      (resident_page filling token q r true mark x) (resident_mark filling token q r true mark x ∙ sym (dirty_place t.texts filling.number q w)));
  whole = whole_rest t.fills;
  once = once_rest t.fills;
}

pub zero_ties : (t u v w : Tables) (token filling : Frame) (q : Page) → Zeroing t u v w token filling q
    → frame_of (state_of (placement_of (lists_of t)) q) ≡ None → Ties (lists_of t) (lists_of w)
zero_ties t u v w token filling q z none =
    subst (Ties (lists_of t)) (sym (zeroing_lists t u v w token filling q z))
    (zeroed_ties (lists_of t) token.number (token_page (slot_at t.core.slots token.number)) u.core.free filling q z.known refl z.writable z.there none)
