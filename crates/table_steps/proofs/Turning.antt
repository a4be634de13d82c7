-- A page moves on with its frame: of the placement, that is `turn`.
use Rattle.std.proofs.Common.{◌≡◌, ◌≢◌, ℕ, ◌-◌, List, length, map, Some, refl, sym, ap, ◌∙◌}
use Rattle.std.specs.List.{range_with_len}
use Rattle.vm_facts.specs.declared.page.Page.{Page}
use Rattle.vm_facts.specs.declared.page.Page.TheVariants.{Text}
use Rattle.vm_facts.specs.declared.page.PageState.{PageState}
use Rattle.vax_pte.specs.declared.Place.{Place}
use Rattle.core_map.specs.Slots.{slot_at}
use Rattle.text_table.specs.Texts.{is_saved, text_numbered, Text as SharedText}
use Rattle.page_model.specs.Pages.{Slot, Filling, Zeros, frame_of, filling_behind}
use Rattle.page_model.specs.Placement.{Placement, slot_of, state_of, page_of, put}
use Rattle.page_model.specs.Moves.{turn}
use Rattle.page_model.specs.Conditions.{IsShared}
use Rattle.std.proofs.lemmas.Option.{same_Some}
use Rattle.page_laws.proofs.Moves.Steps.{page_in}
use Rattle.space_map.specs.Space.{Places}
use Rattle.kernel_tables.specs.Shown.{entry_in, placed}
use Rattle.kernel_tables.specs.Found.{frame_holding}
use Rattle.kernel_tables.specs.View.{Lists, page_held, bytes_held, placement_of, frames_of, due_shown}
use Rattle.kernel_tables.specs.Tied.{Tied}
use Rattle.kernel_tables.specs.Known.{Known}
use Rattle.kernel_tables.specs.Due.{AreWhole, DueOnce}
use Rattle.kernel_tables.specs.Alike.{EachSpace, IsFilled, AreAlike}
use Rattle.kernel_tables.proofs.Entries.{head_of, placed_heads}
use Rattle.kernel_tables.proofs.Likes.{FitsPage, placed_alike, placed_filled}
use Rattle.kernel_tables.proofs.Shows.{SameLists, segments_are}
use Rattle.kernel_tables.proofs.Held.{placement_ext}
use Rattle.kernel_tables.proofs.Arrives.{page_shown, Arrives, arrives_moved, arrived}
use Rattle.kernel_tables.proofs.Evicts.{frames_same}
use Rattle.kernel_tables.proofs.Kept.{tied_still, still_there}
use Rattle.kernel_tables.proofs.Comes.{shared_entry}
use Rattle.kernel_tables.proofs.Marks.{placed_mark, marks_placed, marks_here, alone_in}
use Rattle.kernel_tables.specs.Marked.{AreMarked}
use Rattle.kernel_tables.proofs.Knows.{texts_here}
use Rattle.core_map.specs.declared.slot.Slot.TheVariants as tokens
use Rattle.kernel_tables.specs.Steps.{dirty_shown}
use Rattle.frame_state.specs.Frame.{Frame}

module _ (t n : Lists) (q : Page) (f : ℕ) (place : Place) (s : PageState) (m : Rattle.std.proofs.Common.Bool) where
  -- What is known of such a step: its page has this place then, which shows this state and mark, and each frame holds
  -- the page and the bytes that it held.
  pub record Turning : Type 0 where
    pub known : Known t
    pub shared : IsShared (placement_of t) q
    pub named : frame_of (state_of (placement_of t) q) ≡ Some f
    pub others : (g : ℕ) → g ≢ f → slot_at n.slots g ≡ slot_at t.slots g
    pub count : length n.slots ≡ length t.slots
    pub cached : (i v : ℕ) → Text i v ≢ q → frame_holding n.slots (Text i v) ≡ frame_holding t.slots (Text i v)
    pub held : (g : ℕ) → page_held n g ≡ page_held t g
    pub bytes : (g : ℕ) → bytes_held n g ≡ bytes_held t g
    pub spaces : n.spaces ≡ map (placed q place) t.spaces
    pub texts : n.texts ≡ t.texts
    pub facts : n.facts ≡ t.facts
    pub fills : n.fills ≡ t.fills
    pub residents : n.residents ≡ t.residents
    pub front : n.front ≡ t.front
    pub back : n.back ≡ t.back
    pub shows : page_shown n q place ≡ record { state = s; mark = m; filling = Zeros }
    pub filling : (y : Filling) → filling_behind s y ≡ Zeros
    pub marks : AreMarked t.slots t.spaces t.texts → (a : Frame) (r : Page) (mark : Rattle.std.proofs.Common.Bool)
        → slot_at n.slots f ≡ tokens.Resident a r mark → (r ≡ q) × (mark ≡ placed_mark t.texts place q)
    pub fits : FitsPage q place

  pub turn_is : Turning → placement_of n ≡ turn (placement_of t) q s m n.free n.transfers
  turn_is d =
      let p : Placement = placement_of t in
      let holds : page_of p f ≡ Some q = d.known.owns.names q f d.named in
      let there = page_in p q f d.named in
      let a : Arrives t n q f place = record {
        differ = d.known.differ;
        apart = λ w x e. x (same_Some w q (sym (d.known.owns.names w f e) ∙ holds));
        slots = d.others;
        cached = d.cached;
        spaces = d.spaces;
        saved = λ i v x l. ap (λ (ts : List SharedText). is_saved (text_numbered ts i) v) d.texts;
        facts = d.facts;
        there = there;
        entry = shared_entry t q d.known.tied d.shared there;
      } in
      let b : SameLists n (put p q s m) = segments_are t n q f s m (arrives_moved t n q f place a)
      (record {
        there = there;
        slot = arrived t n q f place a ∙ d.shows ∙ ap (λ (z : Filling). let w : Slot = record { state = s; mark = m; filling = z } in w) (sym (d.filling (slot_of p q).filling));
      }) in
      placement_ext (placement_of n) (turn p q s m n.free n.transfers) b.spaces b.texts
      (ap (λ (k : ℕ). map (page_held n) (range_with_len 1 (k - 1))) d.count ∙ frames_same (page_held t) (page_held n) (range_with_len 1 (length t.slots - 1)) d.held)
      refl refl d.front d.back d.residents (ap (map due_shown) d.fills)

  pub turn_frames : Turning → frames_of n ≡ frames_of t
  turn_frames d =
      ap (λ (k : ℕ). map (bytes_held n) (range_with_len 1 (k - 1))) d.count ∙ frames_same (bytes_held t) (bytes_held n) (range_with_len 1 (length t.slots - 1)) d.bytes

  pub turn_heads : Turning → map head_of n.spaces ≡ map head_of t.spaces
  turn_heads d = ap (map head_of) d.spaces ∙ placed_heads t.spaces q place

pub turn_tied : (t n : Lists) (q : Page) (f : ℕ) (place : Place) (s : PageState) (m : Rattle.std.proofs.Common.Bool) → Turning t n q f place s m → Tied n
turn_tied t n q f place s m d = tied_still t n (record {
  slots = d.count;
  facts = d.facts;
  heads = turn_heads t n q f place s m d;
  entries = λ r h. subst_spaces (λ (ss : List Places). Rattle.std.proofs.Common.IsSome (entry_in ss r)) (still_there t.spaces q r place h);
  alike = λ h. subst_spaces AreAlike (placed_alike t.spaces q place h);
  filled = λ h. subst_spaces (EachSpace (IsFilled t.facts)) (placed_filled t.facts t.spaces q place d.fits h);
  counts = λ i. ap (λ (ts : List SharedText). (text_numbered ts i).sharers) d.texts;
  marked = λ k. marks_placed t n q f place (texts_here t d.known) d.others d.spaces (λ i v x l. ap (λ (ts : List SharedText). is_saved (text_numbered ts i) v) d.texts) (alone_in t q f d.known d.named)
      (λ a r mark h. let y = d.marks k a r mark h in
      Rattle.std.proofs.Common.subst (λ (ss : List Places). mark ≡ dirty_shown ss n.texts r) (sym d.spaces)
      (Rattle.std.proofs.Common.subst (λ (ts : List SharedText). mark ≡ dirty_shown (map (placed q place) t.spaces) ts r) (sym d.texts)
      (marks_here t.spaces t.texts place q r mark (shared_entry t q d.known.tied d.shared (page_in (placement_of t) q f d.named)) y.0 y.1))) k;
  whole = λ h. Rattle.std.proofs.Common.subst AreWhole (sym d.fills) h;
  once = λ h. Rattle.std.proofs.Common.subst DueOnce (sym d.fills) h;
}) d.known.tied
  where
    subst_spaces : (P : List Places → Type 0) → P (map (placed q place) t.spaces) → P n.spaces
    subst_spaces P h = Rattle.std.proofs.Common.subst P (sym d.spaces) h
