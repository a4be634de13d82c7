-- The call that writes bytes of a page at once comes to what so many calls for one byte each come to: a page that is dirty
-- stays so.
use Rattle.std.proofs.Common.{◌≡◌, ℕ, ◌+◌, ◌<◌, Bool, true, List, [], ◌∷◌, length, map, set, Option, Some, None, refl, sym, ap, ◌∙◌, subst, set-set}
use Rattle.std.proofs.lemmas.List.{get_or-set_same, set-get_or}
use Rattle.vm_facts.specs.declared.page.Page.{Page}
use Rattle.vm_facts.specs.declared.page.Page.TheVariants.{Data, Stack, Text}
use Rattle.vm_facts.specs.declared.page.PageState.{PageState}
use Rattle.vm_facts.specs.declared.page.PageState.TheVariants.{Valid}
use Rattle.vm_facts.specs.declared.entry.Entry.{Entry}
use Rattle.vax_pte.specs.declared.Place.{Place}
use Rattle.vax_pte.specs.declared.Place.TheVariants as places
use Rattle.core_map.specs.declared.slot.Slot.{Slot as Token}
use Rattle.core_map.specs.declared.slot.Slot.TheVariants as tokens
use Rattle.core_map.specs.Slots.{slot_at, is_resident, with_byte, with_bytes, with_dirty}
use Rattle.core_map.specs.Frames.{IsSoundMap}
use Rattle.core_map.proofs.SlotLemmas.{is_resident-with_byte, sound_byte, sound_dirty}
use Rattle.space_map.specs.Space.{Places, place_in, with_place}
use Rattle.page_model.specs.Pages.{frame_of}
use Rattle.page_model.specs.Placement.{Placement, state_of}
use Rattle.page_model.specs.PageBytes.{IsWritable}
use Rattle.page_model.specs.Moves.{touch, touch_to}
use Rattle.kernel_model.specs.Kernel.{Kernel, write_step}
use Rattle.kernel_laws.proofs.PageLawsListsPages.{put_state}
use Rattle.kernel_laws.proofs.PageLawsMovesSteps.{page_in}
use Rattle.kernel_tables.specs.declared.tables.Tables.{Tables}
use Rattle.kernel_tables.specs.Shown.{placed, placed_by}
use Rattle.kernel_tables.specs.View.{placement_of}
use Rattle.kernel_tables.specs.Known.{Known}
use Rattle.kernel_tables.specs.Moves.{WroteByte, WroteBytes}
use Rattle.kernel_tables.specs.Machine.{Stands, lists_of, kernel_by}
use Rattle.kernel_tables.specs.UserMemory.{write_run}
use Rattle.kernel_tables.proofs.Touches.{InFrame, in_frame}
use Rattle.kernel_tables.proofs.Writes.{Writing, marked_byte, write_kernel, write_stands}
use Rattle.kernel_tables.proofs.UserFrames.{known_by}

-- A page that takes its place twice has it.

place_twice : (o : Option Place) (q : Page) (x : Place) (s : Places) → placed_by o q x (with_place s q x) ≡ with_place s q x
place_twice None q x s = refl
place_twice (Some was) (Data sid v) x s = ap (λ (ps : List Place). record s { «data» = ps }) (set-set s.data v x x)
place_twice (Some was) (Stack sid v) x s = ap (λ (ps : List Place). record s { stack = ps }) (set-set s.stack v x x)
place_twice (Some was) (Text image v) x s = ap (λ (ps : List Place). record s { text = ps }) (set-set s.text v x x)

placed_twice : (q : Page) (x : Place) (s : Places) → placed q x (placed q x s) ≡ placed q x s
placed_twice q x s = go (place_in s q) refl
  where
    go : (o : Option Place) → place_in s q ≡ o → placed q x (placed_by o q x s) ≡ placed_by o q x s
    go None e = ap (λ (p : Option Place). placed_by p q x s) e
    go (Some was) e = place_twice (place_in (with_place s q x) q) q x s

all_twice : (q : Page) (x : Place) (ss : List Places) → map (placed q x) (map (placed q x) ss) ≡ map (placed q x) ss
all_twice q x [] = refl
all_twice q x (s ∷ ss) =
    ap (λ (y : Places). y ∷ map (placed q x) (map (placed q x) ss)) (placed_twice q x s)
    ∙ ap (λ (ys : List Places). placed q x s ∷ ys) (all_twice q x ss)

-- The slot of a frame.

bytes_one : (s : Token) (at byte : ℕ) (bytes : List ℕ)
    → with_dirty (with_bytes (with_dirty (with_byte s at byte) true) (at + 1) bytes) true ≡ with_dirty (with_bytes s at (byte ∷ bytes)) true
bytes_one (tokens.Free token page) at byte bytes = refl
bytes_one (tokens.Resident token page dirty) at byte bytes = refl
bytes_one tokens.Away at byte bytes = refl

bytes_none : (s : Token) (at : ℕ) → with_bytes s at [] ≡ s
bytes_none (tokens.Free token page) at = refl
bytes_none (tokens.Resident token page dirty) at = refl
bytes_none tokens.Away at = refl

dirty_twice : (s : Token) → with_dirty (with_dirty s true) true ≡ with_dirty s true
dirty_twice (tokens.Free token page) = refl
dirty_twice (tokens.Resident token page dirty) = refl
dirty_twice tokens.Away = refl

-- The tables.

-- after a byte of a page in this frame was written
abbrev with_one : Tables → Page → ℕ → ℕ → ℕ → Tables
with_one t q f at byte = record t {
  core = record t.core { slots = set t.core.slots f (with_dirty (with_byte (slot_at t.core.slots f) at byte) true) };
  spaces = map (placed q (places.Frame f true true)) t.spaces;
}

wrote_one : (t : Tables) (q : Page) (f at byte : ℕ) → WroteByte t (with_one t q f at byte) q f at byte
wrote_one t q f at byte = record { free = refl; slots = refl; spaces = refl; rest = refl }

-- the page in this frame is dirty, by the frame's mark and by its entries
pub record IsMarked (t : Tables) (q : Page) (f : ℕ) : Type 0 where
  pub mark : with_dirty (slot_at t.core.slots f) true ≡ slot_at t.core.slots f
  pub entries : map (placed q (places.Frame f true true)) t.spaces ≡ t.spaces

one_marks : (t : Tables) (q : Page) (f at byte : ℕ) → f < length t.core.slots → IsMarked (with_one t q f at byte) q f
one_marks t q f at byte below =
    let x : Token = with_dirty (with_byte (slot_at t.core.slots f) at byte) true in
    let here : slot_at (set t.core.slots f x) f ≡ x = get_or-set_same t.core.slots f x tokens.Away below in
    record {
      mark = ap (λ (s : Token). with_dirty s true) here ∙ dirty_twice (with_byte (slot_at t.core.slots f) at byte) ∙ sym here;
      entries = all_twice q (places.Frame f true true) t.spaces;
    }

-- after the first byte the others are left
wrote_others : (t u : Tables) (q : Page) (f at byte : ℕ) (bytes : List ℕ) → f < length t.core.slots → WroteBytes t u q f at (byte ∷ bytes)
    → WroteBytes (with_one t q f at byte) u q f (at + 1) bytes
wrote_others t u q f at byte bytes below w =
    let x : Token = with_dirty (with_byte (slot_at t.core.slots f) at byte) true in
    let here : slot_at (set t.core.slots f x) f ≡ x = get_or-set_same t.core.slots f x tokens.Away below in
    record {
      free = w.free;
      slots =
          w.slots ∙ sym (
          ap (λ (s : Token). set (set t.core.slots f x) f (with_dirty (with_bytes s (at + 1) bytes) true)) here
          ∙ set-set t.core.slots f x (with_dirty (with_bytes x (at + 1) bytes) true)
          ∙ ap (λ (s : Token). set t.core.slots f s) (bytes_one (slot_at t.core.slots f) at byte bytes)
          );
      spaces = w.spaces ∙ sym (all_twice q (places.Frame f true true) t.spaces);
      rest = w.rest;
    }

-- with no byte nothing changes of a page that is dirty
wrote_no_byte : (t u : Tables) (q : Page) (f at : ℕ) → IsMarked t q f → WroteBytes t u q f at [] → u ≡ t
wrote_no_byte t u q f at m w =
    let slots : u.core.slots ≡ t.core.slots =
    w.slots ∙ ap (λ (s : Token). set t.core.slots f (with_dirty s true)) (bytes_none (slot_at t.core.slots f) at)
    ∙ ap (λ (s : Token). set t.core.slots f s) m.mark ∙ set-get_or t.core.slots f tokens.Away in
    w.rest
    ∙ ap (λ (fs : List ℕ). record t { core = record { free = fs; slots = u.core.slots }; spaces = u.spaces }) w.free
    ∙ ap (λ (ss : List Token). record t { core = record { free = t.core.free; slots = ss }; spaces = u.spaces }) slots
    ∙ ap (λ (ss : List Places). record t { spaces = ss }) (w.spaces ∙ m.entries)

-- The machine.

touched_valid : (p : Placement) (q : Page) (f : ℕ) → IsWritable q → state_of p q ≡ Valid f → state_of (touch p q) q ≡ Valid f
touched_valid p q f w e = subst (λ (s : PageState). state_of (touch_to p q s) q ≡ Valid f) (sym e) (go q w e)
  where
    go : (q : Page) → IsWritable q → state_of p q ≡ Valid f → state_of (touch_to p q (Valid f)) q ≡ Valid f
    go (Data n v) w e = put_state p (Data n v) (Valid f) true (page_in p (Data n v) f (ap frame_of e))
    go (Stack n v) w e = put_state p (Stack n v) (Valid f) true (page_in p (Stack n v) f (ap frame_of e))
    go (Text n v) w e = absurd w

-- what the tables come to, and stand for
pub record CameTo (t u : Tables) (q : Page) (f at : ℕ) (bytes : List ℕ) (j : List Entry) (b : Bool) : Type 0 where
  pub stands : Stands u j b
  pub kernel : kernel_by u j b ≡ write_run (kernel_by t j b) q f at bytes

module _ (t : Tables) (q : Page) (f : ℕ) where
  -- a page that can be written
  pub record CanWrite (j : List Entry) (b : Bool) : Type 0 where
    pub core : IsSoundMap t.core.free t.core.slots
    pub stands : Stands t j b
    pub valid : state_of (placement_of (lists_of t)) q ≡ Valid f
    pub writable : IsWritable q

  writing_one : (at byte : ℕ) (j : List Entry) (b : Bool) → CanWrite j b → Writing t (with_one t q f at byte) q f at byte
  writing_one at byte j b c = record { known = known_by t j b c.core c.stands; valid = c.valid; writable = c.writable; wrote = wrote_one t q f at byte }

  one_kernel : (at byte : ℕ) (j : List Entry) (b : Bool) → CanWrite j b → kernel_by (with_one t q f at byte) j b ≡ write_step (kernel_by t j b) q f at byte
  one_kernel at byte j b c = write_kernel t (with_one t q f at byte) q f at byte j b (writing_one at byte j b c)

  frame_below : (j : List Entry) (b : Bool) → CanWrite j b → InFrame (lists_of t) q f
  frame_below j b c = in_frame (lists_of t) q f (known_by t j b c.core c.stands) c.valid

can_again : (t : Tables) (q : Page) (f at byte : ℕ) (j : List Entry) (b : Bool) → CanWrite t q f j b → CanWrite (with_one t q f at byte) q f j b
can_again t q f at byte j b c =
    let i : InFrame (lists_of t) q f = frame_below t q f j b c in
    let was : Token = slot_at t.core.slots f in
    let y : Token = with_byte was at byte in
    let one : List Token = set t.core.slots f y in
    let resident : is_resident was ≡ true = ap is_resident i.resident in
    let still : is_resident (slot_at one f) ≡ true = ap is_resident (get_or-set_same t.core.slots f y tokens.Away i.below) ∙ is_resident-with_byte was at byte ∙ resident in
    record {
      core = subst (IsSoundMap t.core.free) (marked_byte t.core.slots one (set one f (with_dirty (slot_at one f) true)) f at byte i.below refl refl)
          (sound_dirty t.core.free one f true (sound_byte t.core.free t.core.slots f at byte c.core resident) still);
      stands = write_stands t (with_one t q f at byte) q f at byte j b c.stands (writing_one t q f at byte j b c);
      valid = subst (λ (k : Kernel). state_of k.place q ≡ Valid f) (sym (one_kernel t q f at byte j b c))
          (touched_valid (placement_of (lists_of t)) q f c.writable c.valid);
      writable = c.writable;
    }

-- the first byte marks the page, whether it was dirty or not
pub came_to : (t u : Tables) (q : Page) (f at : ℕ) (bytes : List ℕ) (j : List Entry) (b : Bool) → CanWrite t q f j b → (bytes ≡ [] → IsMarked t q f)
    → WroteBytes t u q f at bytes → CameTo t u q f at bytes j b
came_to t u q f at [] j b c m w =
    let same : u ≡ t = wrote_no_byte t u q f at (m refl) w in
    record { stands = subst (λ (x : Tables). Stands x j b) (sym same) c.stands; kernel = ap (λ (x : Tables). kernel_by x j b) same }
came_to t u q f at (byte ∷ bytes) j b c m w =
    let i : InFrame (lists_of t) q f = frame_below t q f j b c in
    let rest : CameTo (with_one t q f at byte) u q f (at + 1) bytes j b =
    came_to (with_one t q f at byte) u q f (at + 1) bytes j b (can_again t q f at byte j b c) (λ e. one_marks t q f at byte i.below)
    (wrote_others t u q f at byte bytes i.below w) in
    record { stands = rest.stands; kernel = rest.kernel ∙ ap (λ (k : Kernel). write_run k q f (at + 1) bytes) (one_kernel t q f at byte j b c) }
