-- A space whose pages were forgotten goes, and with the last space that shares it its image's text is left: what the
-- placement is then.
use Rattle.std.proofs.Common.{◌≡◌, ◌≢◌, inl, inr, ℕ, zero, suc, ◌+◌, ◌-◌, ◌<◌, ◌≤◌, Bool, false, List, [], ◌∷◌, length, map, option_map, Option, Some, None, IsSome, refl, sym, ap, ◌∙◌, subst, arith}
use Rattle.std.specs.List.{range_with_len}
use Rattle.std.proofs.lemmas.Bool.{cases_lt}
use Rattle.std.proofs.lemmas.Option.{same_Some}
use Rattle.vm_facts.specs.declared.page.Page.TheVariants.{Text}
use Rattle.vm_facts.specs.declared.page.PageState.{PageState}
use Rattle.vm_facts.specs.declared.page.PageState.TheVariants.{Unfilled, Valid, Invalid, Coming, Going, OnSwap}
use Rattle.vax_pte.specs.declared.Place.{Place}
use Rattle.vax_pte.specs.declared.Place.TheVariants as places
use Rattle.aout_image.specs.Image.{text_pages_of}
use Rattle.core_map.specs.declared.slot.Slot.{Slot as Token}
use Rattle.core_map.specs.Slots.{slot_at, slot_page as token_page}
use Rattle.core_map.specs.Frames.{Frames}
use Rattle.space_map.specs.Space.{Places, place_in}
use Rattle.text_table.specs.Texts.{Text as SharedText, is_saved, text_numbered}
use Rattle.flat_state.specs.PageNames.{pages_from}
use Rattle.page_model.specs.Pages.{Slot, Zeros, SpacePages, numbered}
use Rattle.page_model.specs.Placement.{Placement, image_number, slots_of, slot_of, state_of}
use Rattle.page_model.specs.Moves.{leave_by, leave_page, leave_all, listed}
use Rattle.page_laws.proofs.Moves.Puts.{KeptByPuts}
use Rattle.page_laws.proofs.Blocks.Changes.{rest_of}
use Rattle.kernel_tables.specs.Shown.{slot_shown, text_shown, space_shown, entry_in}
use Rattle.kernel_tables.specs.TableViewShown.{is_away, idle_state, state_shown}
use Rattle.kernel_tables.specs.Found.{cached_by, cached_place, frame_holding}
use Rattle.kernel_tables.specs.View.{Lists, pages_in, flown_at, text_place_by, page_held, bytes_held, placement_of, frames_of}
use Rattle.kernel_tables.specs.Known.{Known}
use Rattle.kernel_tables.specs.Alike.{EachSpace, IsFilled, facts_in}
use Rattle.kernel_tables.specs.Gone.{without_space, sharing, HasWholeText}
use Rattle.kernel_tables.proofs.Entries.{text_miss}
use Rattle.kernel_tables.proofs.Same.{slots_ext, texts_ext}
use Rattle.kernel_tables.proofs.Shows.{text_at, text_past, text_numbers, texts_differ, texts_shown, text_length, put_images}
use Rattle.kernel_tables.proofs.Held.{placement_ext}
use Rattle.kernel_tables.proofs.Evicts.{frames_same}
use Rattle.table_steps.proofs.LeftFrames.{SameFrames, same_away_at, same_held_at, same_bytes_at, same_found, holding_page}
use Rattle.table_steps.proofs.LeftPages.{Rests, rest_slot, rest_state}
use Rattle.kernel_tables.proofs.Removed.{each_rest, rest_shown, rest_entry, rest_like, first_entry, only_space, found_each, sharing_each}
use Rattle.kernel_tables.proofs.AddedTied.{facts_pages, facts_number}

-- Each frame has its token and its page as before, on the free list or off it: then an entry shows what it showed.

module _ (a b : List Token) (s : SameFrames a b) where
  same_state : (x : Place) → state_shown b x ≡ state_shown a x
  same_state (places.Frame f false changed) = ap (λ (away : Bool). idle_state f away changed) (same_away_at a b s f)
  same_state _ = refl

  same_slots : (xs : List Place) → map (slot_shown b) xs ≡ map (slot_shown a) xs
  same_slots [] = refl
  same_slots (x ∷ xs) =
      ap (λ (y : PageState). record (slot_shown a x) { state = y } ∷ map (slot_shown b) xs) (same_state x)
      ∙ ap (λ (ys : List Slot). slot_shown a x ∷ ys) (same_slots xs)

  same_space : (x : Places) → space_shown b x ≡ space_shown a x
  same_space x =
      ap (λ (ys : List Slot). record (space_shown b x) { data_pages = ys }) (same_slots x.data)
      ∙ ap (λ (ys : List Slot). record (space_shown a x) { stack_pages = ys }) (same_slots x.stack)

  pub same_spaces : (ss : List Places) → map (space_shown b) ss ≡ map (space_shown a) ss
  same_spaces [] = refl
  same_spaces (x ∷ xs) =
      ap (λ (y : SpacePages). y ∷ map (space_shown b) xs) (same_space x) ∙ ap (λ (ys : List SpacePages). space_shown a x ∷ ys) (same_spaces xs)

-- The tables then.
abbrev pub gone_to : Lists → Frames → ℕ → List SharedText → Lists
gone_to l m sid texts = record l { slots = m.slots; free = m.free; spaces = without_space sid l.spaces; texts = texts }

module _ (l : Lists) (m : Frames) (sid : ℕ) (texts : List SharedText) (s : SameFrames l.slots m.slots) where
  held_same : map (page_held (gone_to l m sid texts)) (range_with_len 1 (length m.slots - 1)) ≡ map (page_held l) (range_with_len 1 (length l.slots - 1))
  held_same =
      ap (λ (k : ℕ). map (page_held (gone_to l m sid texts)) (range_with_len 1 (k - 1))) s.count
      ∙ frames_same (page_held l) (page_held (gone_to l m sid texts)) (range_with_len 1 (length l.slots - 1)) (λ f. same_held_at l.slots m.slots s f (flown_at l.flown f))

  pub bytes_same : frames_of (gone_to l m sid texts) ≡ frames_of l
  bytes_same =
      ap (λ (k : ℕ). map (bytes_held (gone_to l m sid texts)) (range_with_len 1 (k - 1))) s.count
      ∙ frames_same (bytes_held l) (bytes_held (gone_to l m sid texts)) (range_with_len 1 (length l.slots - 1)) (λ f. same_bytes_at l.slots m.slots s f (flown_at l.flown f))

  pub spaces_same : map (space_shown m.slots) (without_space sid l.spaces) ≡ rest_of sid (map (space_shown l.slots) l.spaces)
  spaces_same = same_spaces l.slots m.slots s (without_space sid l.spaces) ∙ rest_shown l.slots sid l.spaces

  -- a page of text whose entry and mark are the same
  pub same_text : (j v : ℕ) → (v < pages_in 1 j l.facts → entry_in (without_space sid l.spaces) (Text j v) ≡ entry_in l.spaces (Text j v))
      → (v < pages_in 1 j l.facts → is_saved (text_numbered texts j) v ≡ is_saved (text_numbered l.texts j) v)
      → slot_of (placement_of (gone_to l m sid texts)) (Text j v) ≡ slot_of (placement_of l) (Text j v)
  same_text j v e k = elim (cases_lt v (pages_in 1 j l.facts)) [
    | inl b ↦
        text_at (gone_to l m sid texts) j v b
        ∙ ap (λ (o : Option Place). text_shown m.slots (is_saved (text_numbered texts j) v) (text_place_by o m.slots (Text j v) v)) (e b)
        ∙ ap (λ (x : Bool). text_shown m.slots x (text_place_by (entry_in l.spaces (Text j v)) m.slots (Text j v) v)) (k b)
        ∙ ap (λ (x : PageState). let z : Slot = record { state = x; mark = is_saved (text_numbered l.texts j) v; filling = Zeros } in z) (state (entry_in l.spaces (Text j v)))
        ∙ sym (text_at l j v b)
    | inr b ↦ text_past (gone_to l m sid texts) j v b ∙ sym (text_past l j v b)
  ]
    where
      state : (o : Option Place)
          → state_shown m.slots (text_place_by o m.slots (Text j v) v) ≡ state_shown l.slots (text_place_by o l.slots (Text j v) v)
      state None = ap (λ (o : Option ℕ). state_shown m.slots (cached_by o v)) (same_found l.slots m.slots (Text j v) s) ∙ same_state l.slots m.slots s (cached_place l.slots (Text j v) v)
      state (Some x) = same_state l.slots m.slots s x

  -- a page of text that no space shares any more, of which nothing is saved
  pub left_text : (i v : ℕ) → v < pages_in 1 i l.facts → entry_in (without_space sid l.spaces) (Text i v) ≡ None
      → is_saved (text_numbered texts i) v ≡ false
      → ((f : ℕ) → token_page (slot_at l.slots f) ≡ Some (Text i v) → is_away (slot_at l.slots f) ≡ false)
      → slot_of (placement_of (gone_to l m sid texts)) (Text i v) ≡ rest_slot (frame_holding l.slots (Text i v))
  left_text i v b e k here =
      text_at (gone_to l m sid texts) i v b
      ∙ ap (λ (o : Option Place). text_shown m.slots (is_saved (text_numbered texts i) v) (text_place_by o m.slots (Text i v) v)) e
      ∙ ap (λ (x : Bool). text_shown m.slots x (cached_place m.slots (Text i v) v)) k
      ∙ ap (λ (x : PageState). let z : Slot = record { state = x; mark = false; filling = Zeros } in z)
      (ap (λ (o : Option ℕ). state_shown m.slots (cached_by o v)) (same_found l.slots m.slots (Text i v) s) ∙ same_state l.slots m.slots s (cached_place l.slots (Text i v) v)
      ∙ state (frame_holding l.slots (Text i v)) refl)
    where
      state : (o : Option ℕ) → frame_holding l.slots (Text i v) ≡ o → state_shown l.slots (cached_by o v) ≡ rest_state o
      state None h = refl
      state (Some f) h = ap (λ (x : Bool). idle_state f x false) (here f (holding_page l.slots f (Text i v) h))

  -- and the placement
  pub gone_ext : (p : Placement) → p.spaces ≡ rest_of sid (placement_of l).spaces
      → map image_number p.texts ≡ map image_number (placement_of l).texts → p.holds ≡ (placement_of l).holds → p.free ≡ m.free
      → p.transfers ≡ l.transfers → p.front ≡ l.front → p.back ≡ l.back → p.residents ≡ l.residents → p.due ≡ (placement_of l).due
      → ((j v : ℕ) → length (slots_of p (Text j v)) ≡ length (slots_of (placement_of l) (Text j v))) → ((j v : ℕ) → slot_of (placement_of (gone_to l m sid texts)) (Text j v) ≡ slot_of p (Text j v))
      → placement_of (gone_to l m sid texts) ≡ p
  gone_ext p spaces numbers holds free transfers front back residents due lengths each =
      let long : (j : ℕ) → length (slots_of (placement_of (gone_to l m sid texts)) (Text j 0)) ≡ length (slots_of (placement_of l) (Text j 0)) = λ j.
      ap length (texts_shown (gone_to l m sid texts) 1 j l.facts) ∙ text_length (gone_to l m sid texts) j (pages_in 1 j l.facts)
      ∙ sym (ap length (texts_shown l 1 j l.facts) ∙ text_length l j (pages_in 1 j l.facts)) in
      placement_ext (placement_of (gone_to l m sid texts)) p (spaces_same ∙ sym spaces)
      (texts_ext (placement_of (gone_to l m sid texts)).texts p.texts (text_numbers l (gone_to l m sid texts) 1 l.facts ∙ sym numbers) (texts_differ (gone_to l m sid texts) 1 l.facts)
      (λ j. slots_ext (slots_of (placement_of (gone_to l m sid texts)) (Text j 0)) (slots_of p (Text j 0)) (long j ∙ sym (lengths j 0)) (λ v. each j v)))
      (held_same ∙ sym holds) (sym free) (sym transfers) (sym front) (sym back) (sym residents) (sym due)

-- What leaving a page of text keeps.
pub record Keeps (p q : Placement) : Type 0 where
  pub spaces : q.spaces ≡ p.spaces
  pub holds : q.holds ≡ p.holds
  pub transfers : q.transfers ≡ p.transfers

leave_keeps : (p : Placement) (i v : ℕ) → Keeps p (leave_page p (Text i v))
leave_keeps p i v = go (state_of p (Text i v)) (listed p (Text i v))
  where
    go : (s : PageState) (n : ℕ) → Keeps p (leave_by p (Text i v) s n)
    go (Valid f) n = record { spaces = refl; holds = refl; transfers = refl }
    go (Invalid f) zero = record { spaces = refl; holds = refl; transfers = refl }
    go (Invalid f) (suc n) = record { spaces = refl; holds = refl; transfers = refl }
    go OnSwap n = record { spaces = refl; holds = refl; transfers = refl }
    go Unfilled n = record { spaces = refl; holds = refl; transfers = refl }
    go (Coming f) n = record { spaces = refl; holds = refl; transfers = refl }
    go (Going f) n = record { spaces = refl; holds = refl; transfers = refl }

pub leave_all_keeps : (i lo n : ℕ) (p : Placement) → Keeps p (leave_all p (pages_from (Text i 0) lo n))
leave_all_keeps i lo zero p = record { spaces = refl; holds = refl; transfers = refl }
leave_all_keeps i lo (suc n) p =
    let a = leave_keeps p i lo in
    let b = leave_all_keeps i (lo + 1) n (leave_page p (Text i lo)) in
    record { spaces = b.spaces ∙ a.spaces; holds = b.holds ∙ a.holds; transfers = b.transfers ∙ a.transfers }

pub numbers_by_puts : KeptByPuts (λ p q. map image_number q.texts ≡ map image_number p.texts)
numbers_by_puts = record {
  still = λ p q s t r. ap (map image_number) t;
  both = λ p q r a b. b ∙ a;
  puts = λ p v s m. put_images p v s m;
}

module _ (l : Lists) (sid : ℕ) (s : Places) where
  -- The space that goes, whose image's text rests where nobody else shares it.
  pub record Gives : Type 0 where
    pub known : Known l
    pub there : numbered (λ (x : Places). x.sid) sid l.spaces ≡ Some s
    pub whole : HasWholeText (without_space sid l.spaces) s.image
    pub rest : sharing (without_space sid l.spaces) s.image ≡ None → (v : ℕ) → v < pages_in 1 s.image l.facts → Rests l (Text s.image v)

  pub image_low : Known l → numbered (λ (x : Places). x.sid) sid l.spaces ≡ Some s → (1 ≤ s.image) × (s.image ≤ 16)
  image_low k e =
      let h = found_each (IsFilled l.facts) l.spaces sid s e k.tied.filled in
      let b = facts_number 1 s.image l.facts s.facts h.0.facts_are in
      let few = k.tied.few_images in
      let x = b.0 in
      let y = b.1 in
      (omega arith, omega arith)

  pub gives_image : Gives → (1 ≤ s.image) × (s.image ≤ 16)
  gives_image g = image_low g.known g.there

  pub gives_pages : Gives → pages_in 1 s.image l.facts ≡ text_pages_of s.facts
  gives_pages g = let h = found_each (IsFilled l.facts) l.spaces sid s g.there g.known.tied.filled in facts_pages 1 s.image l.facts s.facts h.0.facts_are

  -- a page of another image's text has its entry yet
  pub other_entry : Gives → (j v : ℕ) → j ≢ s.image → entry_in (without_space sid l.spaces) (Text j v) ≡ entry_in l.spaces (Text j v)
  other_entry g j v n = rest_entry sid (Text j v) l.spaces (each_imp l.spaces (only_space l.spaces sid s g.known.differ g.there))
    where
      each_imp : (ss : List Places) → EachSpace (λ x. x.sid ≡ sid → x ≡ s) ss → EachSpace (λ x. x.sid ≡ sid → place_in x (Text j v) ≡ None) ss
      each_imp [] h = tt
      each_imp (x ∷ xs) h = ((λ e. text_miss x j v (λ k. n (k ∙ ap (λ (y : Places). y.image) (h.0 e)))), each_imp xs h.1)

-- and one of the image's own, where another space shares it
pub own_entry : (l : Lists) (sid : ℕ) (s x : Places) → Gives l sid s → sharing (without_space sid l.spaces) s.image ≡ Some x → (v : ℕ)
    → v < pages_in 1 s.image l.facts
    → (y : Place) × (entry_in (without_space sid l.spaces) (Text s.image v) ≡ Some y) × (entry_in l.spaces (Text s.image v) ≡ Some y)
own_entry l sid s x g e v b =
    let rest : List Places = without_space sid l.spaces in
    let f = sharing_each (IsFilled l.facts) rest s.image x e (each_rest (IsFilled l.facts) sid l.spaces g.known.tied.filled) in
    let pages : pages_in 1 s.image l.facts ≡ text_pages_of x.facts = facts_pages 1 s.image l.facts x.facts (subst (λ (i : ℕ). facts_in 1 i l.facts ≡ Some x.facts) f.1 f.0.facts_are) in
    let long : length x.text ≡ text_pages_of x.facts = same_Some (length x.text) (text_pages_of x.facts)
    (sym (ap (option_map (λ (z : Places). length z.text)) e) ∙ g.whole ∙ ap (option_map (λ (z : Places). text_pages_of z.facts)) e) in
    let some = some_of (entry_in rest (Text s.image v)) (first_entry rest s.image v x e (omega arith)) in
    (some.0, some.1, rest_like sid l.spaces s.image v some.0 g.known.tied.alike some.1)
  where
    some_of : (o : Option Place) → IsSome o → (y : Place) × (o ≡ Some y)
    some_of None h = absurd cc
    some_of (Some y) h = (y, refl)
