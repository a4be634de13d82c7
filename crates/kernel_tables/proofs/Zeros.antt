-- The step of `Zero`, from what the calls of the tables leave.
use Rattle.std.proofs.Common.{◌≡◌, ℕ, Bool, true, false, cond, not, List, [], ◌∷◌, map, drop, set, Option, refl, sym, ap, ◌∙◌, subst}
use Rattle.std.proofs.lemmas.List.{length-set, get_or-set_other}
use Rattle.vm_facts.specs.declared.page.Page.{Page}
use Rattle.frame_state.specs.Frame.{Frame}
use Rattle.core_map.specs.declared.slot.Slot.{Slot as Token}
use Rattle.core_map.specs.declared.slot.Slot.TheVariants as tokens
use Rattle.core_map.specs.Slots.{slot_at, slot_page}
use Rattle.space_map.specs.Space.{Places}
use Rattle.page_model.specs.Frames.{set_frame}
use Rattle.flat_state.specs.PageNames.{same_page}
use Rattle.page_model.specs.Placement.{Placement, Due, Start, due_page, IsThere}
use Rattle.page_model.specs.Moves.{fill}
use Rattle.page_model.specs.Place.{filled, due_after}
use Rattle.page_model.specs.Conditions.{EachPage}
use Rattle.page_model.specs.PageBytes.{IsWritable}
use Rattle.kernel_model.specs.Kernel.{StartBytes, start_bytes, starts_after, put_first}
use Rattle.flat_state.proofs.PageNames.{same_page_is, same_page_self}
use Rattle.kernel_tables.specs.declared.tables.Tables.{Tables}
use Rattle.kernel_tables.specs.declared.fill.DueFill.{DueFill}
use Rattle.kernel_tables.specs.declared.fill.DueFill.TheVariants as fills
use Rattle.kernel_tables.specs.View.{Lists, flown_at, bytes_by, due_shown, starts_of, placement_of, frames_of}
use Rattle.kernel_tables.specs.Due.{first_bytes, IsFirstStart, DueOnce}
use Rattle.kernel_tables.specs.Steps.{taken_frame, seated_in}
use Rattle.kernel_tables.specs.Moves.{TookFrame, SeatedPage, FinishedFill}
use Rattle.kernel_tables.specs.Machine.{lists_of}
use Rattle.kernel_tables.specs.Known.{Known}
use Rattle.kernel_tables.proofs.Evicts.{Head}
use Rattle.kernel_tables.proofs.Fills.{Took, took_is, fill_is, seat_frames}

-- Due fills.

pub due_first : (ds : List DueFill) (q : Page) → IsFirstStart (map due_shown ds) q → map due_shown (drop 1 ds) ≡ due_after (map due_shown ds) q
due_first [] q h = refl
due_first (fills.Start r bytes ∷ ds) q h = sym (ap (λ (b : Bool). cond b (map due_shown ds) (Start r ∷ map due_shown ds)) (ap (λ (x : Page). same_page r x) (sym h) ∙ same_page_self r))
due_first (fills.Copy child parent ∷ ds) q h = absurd h

pub bytes_first : (ds : List DueFill) (q : Page) → IsFirstStart (map due_shown ds) q → first_bytes ds ≡ start_bytes (starts_of ds) q
bytes_first [] q h = refl
bytes_first (fills.Start r bytes ∷ ds) q h = sym (ap (λ (b : Bool). cond b bytes (start_bytes (starts_of ds) q)) (ap (λ (x : Page). same_page r x) (sym h) ∙ same_page_self r))
bytes_first (fills.Copy child parent ∷ ds) q h = absurd h

-- the bytes that are kept for other pages stay
pub others_kept : (ds : List DueFill) (q : Page) → EachPage (λ (r : Page). r ≡ q → ⊥) (map due_page (map due_shown ds))
    → starts_after (starts_of ds) q ≡ starts_of ds
others_kept [] q h = refl
others_kept (fills.Copy child parent ∷ ds) q h = others_kept ds q h.1
others_kept (fills.Start r bytes ∷ ds) q h = go (same_page r q) refl (others_kept ds q h.1)
  where
    go : (b : Bool) → same_page r q ≡ b → starts_after (starts_of ds) q ≡ starts_of ds → starts_after (starts_of (fills.Start r bytes ∷ ds)) q ≡ starts_of (fills.Start r bytes ∷ ds)
    go true e rest = absurd (h.0 (same_page_is r q e))
    go false e rest =
        ap (λ (b : Bool). cond (not b) (record { page = r; bytes = bytes } ∷ starts_after (starts_of ds) q) (starts_after (starts_of ds) q)) e
        ∙ ap (λ (ss : List StartBytes). record { page = r; bytes = bytes } ∷ ss) rest

pub starts_first : (ds : List DueFill) (q : Page) → DueOnce ds → IsFirstStart (map due_shown ds) q → starts_of (drop 1 ds) ≡ starts_after (starts_of ds) q
starts_first [] q o h = refl
starts_first (fills.Copy child parent ∷ ds) q o h = absurd h
starts_first (fills.Start r bytes ∷ ds) q o h =
    sym (ap (λ (b : Bool). cond (not b) (record { page = r; bytes = bytes } ∷ starts_after (starts_of ds) q) (starts_after (starts_of ds) q))
    (ap (λ (x : Page). same_page r x) (sym h) ∙ same_page_self r)
    ∙ others_kept ds q (subst (λ (x : Page). EachPage (λ (y : Page). y ≡ x → ⊥) (map due_page (map due_shown ds))) h o.0))

-- The lists.

pub took_lists : (t u : Tables) (token : Frame) → TookFrame t u token
    → lists_of u ≡ taken_frame (lists_of t) token.number (slot_page (slot_at t.core.slots token.number)) u.core.free
took_lists t u token k =
    ap lists_of k.rest
    ∙ ap (λ (ss : List Token). record (lists_of t) { slots = ss; free = u.core.free; spaces = u.spaces }) k.slots
    ∙ ap (λ (ss : List Places). record (lists_of t) { slots = set t.core.slots token.number tokens.Away; free = u.core.free; spaces = ss }) k.spaces

pub seated_lists : (t u : Tables) (token : Frame) (q : Page) (dirty : Bool) → SeatedPage t u token q dirty → lists_of u ≡ seated_in (lists_of t) token q dirty
seated_lists t u token q dirty k =
    ap lists_of k.rest
    ∙ ap (λ (ss : List Token). record (lists_of t) { slots = ss; free = u.core.free; spaces = u.spaces }) k.slots
    ∙ ap (λ (fs : List ℕ). record (lists_of t) { slots = set t.core.slots token.number (tokens.Resident token q dirty); free = fs; spaces = u.spaces }) k.free
    ∙ ap (λ (ss : List Places). record (lists_of t) { slots = set t.core.slots token.number (tokens.Resident token q dirty); spaces = ss }) k.spaces

pub finished_lists : (t u : Tables) → FinishedFill t u → lists_of u ≡ record (lists_of t) { fills = drop 1 t.fills.items }
finished_lists t u k = ap lists_of k.rest ∙ ap (λ (ds : List DueFill). record (lists_of t) { fills = ds }) k.fills

-- The kernel.

pub record Zeroing (t u v w : Tables) (token filling : Frame) (q : Page) : Type 0 where
  pub known : Known (lists_of t)
  pub took : TookFrame t u token
  pub bytes : filling ≡ record { number = token.number; bytes = first_bytes u.fills.items }
  pub seat : SeatedPage u v filling q true
  pub finish : FinishedFill v w
  pub writable : IsWritable q
  pub there : IsThere (placement_of (lists_of t)) q
  pub first : IsFirstStart (map due_shown t.fills.items) q
  pub once : DueOnce t.fills.items

-- the lists after the step
abbrev pub zeroed : Lists → ℕ → Option Page → List ℕ → Frame → Page → Lists
zeroed t f page rest filling q = record (seated_in (taken_frame t f page rest) filling q true) { fills = drop 1 t.fills }

pub zeroing_lists : (t u v w : Tables) (token filling : Frame) (q : Page) → Zeroing t u v w token filling q
    → lists_of w ≡ zeroed (lists_of t) token.number (slot_page (slot_at t.core.slots token.number)) u.core.free filling q
zeroing_lists t u v w token filling q z =
    finished_lists v w z.finish
    ∙ ap (λ (ds : List DueFill). record (lists_of v) { fills = drop 1 ds }) (ap (λ (x : Tables). x.fills.items) z.seat.rest ∙ ap (λ (x : Tables). x.fills.items) z.took.rest)
    ∙ ap (λ (l : Lists). record l { fills = drop 1 t.fills.items }) (seated_lists u v filling q true z.seat ∙ ap (λ (l : Lists). seated_in l filling q true) (took_lists t u token z.took))

pub zero_place : (t : Lists) (f : ℕ) (token filling : Frame) (page : Option Page) (rest : List ℕ) (q : Page) → Known t → Head t f token page rest
    → filling.number ≡ f → IsWritable q
    → IsThere (placement_of t) q → IsFirstStart (map due_shown t.fills) q
    → placement_of (zeroed t f page rest filling q) ≡ filled (placement_of t) q
zero_place t f token filling page rest q k h n w there first =
    let u : Lists = taken_frame t f page rest in
    let took : Took t u filling.number = subst (Took t u) (sym n) (took_is t f token page rest k h) in
    ap (λ (p : Placement). record p { due = map due_shown (drop 1 t.fills) }) (fill_is t u filling q took w there refl)
    ∙ ap (λ (ds : List Due). record (fill (placement_of t) q) { due = ds }) (due_first t.fills q first)

pub zero_frames : (t : Lists) (f : ℕ) (token filling : Frame) (page : Option Page) (rest : List ℕ) (q : Page) → Known t → Head t f token page rest
    → filling.number ≡ f
    → filling.bytes ≡ first_bytes t.fills → IsFirstStart (map due_shown t.fills) q
    → frames_of (zeroed t f page rest filling q) ≡ put_first t.free (frames_of t) (start_bytes (starts_of t.fills) q)
zero_frames t f token filling page rest q k h n b first =
    let u : Lists = taken_frame t f page rest in
    let took : Took t u filling.number = subst (Took t u) (sym n) (took_is t f token page rest k h) in
    seat_frames t u filling q true took
    (λ g d. ap (λ (y : Token). bytes_by y (flown_at t.flown g)) (get_or-set_other t.slots f g tokens.Away tokens.Away (λ e. d (e ∙ sym n))))
    (length-set t.slots f tokens.Away)
    ∙ ap (λ (g : ℕ). set_frame (frames_of t) g filling.bytes) n
    ∙ ap (set_frame (frames_of t) f) (b ∙ bytes_first t.fills q first)
    ∙ sym (ap (λ (fs : List ℕ). put_first fs (frames_of t) (start_bytes (starts_of t.fills) q)) h.free)
