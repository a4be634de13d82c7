-- A space whose pages were forgotten goes, and with the last space that shares it its image's text: what is known of the
-- tables then.
use Rattle.std.proofs.Common.{◌≡◌, ◌≢◌, inl, inr, ℕ, zero, suc, ◌-◌, ◌<◌, ◌≤◌, not, Bool, false, List, [], ◌∷◌, length, map, get_or, Option, Some, None, IsSome, refl, sym, ap, ◌∙◌, subst, arith}
use Rattle.std.proofs.lemmas.Bool.{cases_eq, cases_lt}
use Rattle.vm_facts.specs.declared.page.Page.{Page}
use Rattle.vm_facts.specs.declared.page.Page.TheVariants.{Data, Stack, Text}
use Rattle.vm_facts.specs.declared.page.PageState.{PageState}
use Rattle.frame_state.specs.Frame.{Frame}
use Rattle.core_map.specs.declared.slot.Slot.{Slot as Token}
use Rattle.core_map.specs.declared.slot.Slot.TheVariants as tokens
use Rattle.core_map.specs.Slots.{slot_at, slot_page as token_page}
use Rattle.core_map.specs.Frames.{Frames, IsSoundMap}
use Rattle.space_map.specs.Space.{Places, place_in}
use Rattle.text_table.specs.Texts.{Text as SharedText, is_saved, text_numbered, table_with_text, left as left_by_one}
use Rattle.page_model.specs.Pages.{Slot, no_slot, SpacePages, numbered, data_in, stack_in, frame_of}
use Rattle.page_model.specs.Placement.{Placement, space_number, slots_of, slot_of, state_of, sharers, sharers_in}
use Rattle.page_model.specs.Moves.{leave_all}
use Rattle.page_model.specs.Place.{remove_space, pages_of_text, leave_text, leave_text_by}
use Rattle.page_model.specs.Ownership.{OwnsFrames, TextAside}
use Rattle.page_laws.proofs.Lists.Local.{none_some}
use Rattle.page_laws.proofs.Moves.Puts.{SameRest, rest_by_puts, leave_all_kept}
use Rattle.page_laws.proofs.Moves.Steps.{page_in}
use Rattle.page_laws.proofs.Blocks.Changes.{leave_all_length}
use Rattle.page_laws.proofs.Due.Changes.{leave_all_other}
use Rattle.page_laws.proofs.Lists.Runs.{pages_from_each}
use Rattle.page_laws.proofs.Ownership.Changes.{removed_same}
use Rattle.kernel_tables.specs.Shown.{space_shown, entry_in, changed_named}
use Rattle.kernel_tables.specs.TableViewShown.{is_away}
use Rattle.kernel_tables.specs.View.{Lists, pages_in, placement_of, flown_at}
use Rattle.kernel_tables.specs.Known.{Known}
use Rattle.kernel_tables.specs.Tied.{Tied}
use Rattle.kernel_tables.specs.Steps.{dirty_shown}
use Rattle.kernel_tables.specs.Alike.{EachSpace, IsFilled, HasFewPages}
use Rattle.kernel_tables.specs.Gone.{without_space, sharing, left_by, left_pages}
use Rattle.kernel_tables.proofs.Entries.{data_miss, stack_miss}
use Rattle.kernel_tables.proofs.Shows.{pages_low, text_at, text_within, text_past, texts_shown, text_length}
use Rattle.kernel_tables.proofs.Held.{held_at, above_zero, below_length}
use Rattle.kernel_tables.proofs.Knows.{held_named, texts_here, page_is_held}
use Rattle.kernel_tables.proofs.Kept.{sharers_heads}
use Rattle.table_steps.proofs.TextsLeft.{left_same, left_other, last_saved, others_saved}
use Rattle.table_steps.proofs.LeftFrames.{SameFrames, AreListed, frames_self, pages_same, pages_resident, pages_gone}
use Rattle.table_steps.proofs.LeftPages.{first_pages, LeftTo, leave_pages}
use Rattle.kernel_tables.proofs.Removed.{each_rest, each_all, rest_shown, rest_entry, rest_alike, rest_differs, sharers_gone, sharers_stay, none_shares, some_shares, none_entry, only_space}
use Rattle.table_steps.proofs.LeftSpace.{Gives, Keeps, gone_to, gone_ext, same_text, left_text, leave_all_keeps, numbers_by_puts, gives_image, other_entry, own_entry, spaces_same}

abbrev core_of : Lists → Frames
core_of l = record { free = l.free; slots = l.slots }

-- The core map then, and the tables.
abbrev pub map_then : Lists → ℕ → Places → Frames
map_then l sid s = left_by (sharing (without_space sid l.spaces) s.image) (core_of l) s.image (pages_in 1 s.image l.facts)

abbrev pub texts_then : Lists → Places → List SharedText
texts_then l s = table_with_text l.texts s.image (left_by_one (text_numbered l.texts s.image))

abbrev pub gone : Lists → ℕ → Places → Lists
gone l sid s = gone_to l (map_then l sid s) sid (texts_then l s)

abbrev state_at : List Slot → ℕ → PageState
state_at xs v = (get_or xs v no_slot).state

-- Sharers.

pub shared_by : (l : Lists) (sid : ℕ) (s : Places) → Known l → numbered (λ (x : Places). x.sid) sid l.spaces ≡ Some s
    → (1 ≤ s.image) × (s.image ≤ 16)
    → (text_numbered l.texts s.image).sharers ≡ suc (sharers_in s.image (map (space_shown l.slots) (without_space sid l.spaces)))
shared_by l sid s k e b = k.tied.counted s.image b.0 b.1 ∙ sharers_gone l.slots sid s l.spaces k.differ e

pub rest_sharers : (l : Lists) (sid i : ℕ)
    → sharers (remove_space (placement_of l) sid) i ≡ sharers_in i (map (space_shown l.slots) (without_space sid l.spaces))
rest_sharers l sid i = sym (ap (sharers_in i) (rest_shown l.slots sid l.spaces))

leave_none : (p : Placement) (i n : ℕ) → n ≡ 0 → leave_text_by p i n ≡ leave_all p (pages_of_text p i)
leave_none p i n e = ap (leave_text_by p i) e

leave_some : (p : Placement) (i n : ℕ) → 0 < n → leave_text_by p i n ≡ p
leave_some p i zero l = absurd (omega arith)
leave_some p i (suc n) l = refl

-- Another space shares the text.

module _ (l : Lists) (sid : ℕ) (s : Places) (g : Gives l sid s) where
  low : (j v : ℕ) → v < pages_in 1 j l.facts → 1 ≤ j
  low j v b = let h = pages_low 1 j l.facts (omega arith) in h.0

  shared_texts : (x : Places) → sharing (without_space sid l.spaces) s.image ≡ Some x → (j v : ℕ) → 1 ≤ j
      → is_saved (text_numbered (texts_then l s) j) v ≡ is_saved (text_numbered l.texts j) v
  shared_texts x e j v b = elim (cases_eq j s.image) [
    | inl h ↦
        let n = shared_by l sid s g.known g.there (gives_image l sid s g) in
        let more = some_shares l.slots (without_space sid l.spaces) s.image x e in
        subst (λ (k : ℕ). is_saved (text_numbered (texts_then l s) k) v ≡ is_saved (text_numbered l.texts k) v) (sym h)
        (ap (λ (y : SharedText). is_saved y v) (left_same l.texts s.image (left_by_one (text_numbered l.texts s.image)) (omega arith))
        ∙ others_saved (text_numbered l.texts s.image) v (λ one. absurd (omega arith)))
    | inr n ↦ ap (λ (y : SharedText). is_saved y v) (left_other l.texts s.image j (left_by_one (text_numbered l.texts s.image)) (gives_image l sid s g).0 b n)
  ]

  shared_entry : (x : Places) → sharing (without_space sid l.spaces) s.image ≡ Some x → (j v : ℕ) → v < pages_in 1 j l.facts
      → entry_in (without_space sid l.spaces) (Text j v) ≡ entry_in l.spaces (Text j v)
  shared_entry x e j v b = elim (cases_eq j s.image) [
    | inl h ↦
        let o = own_entry l sid s x g e v (subst (λ (k : ℕ). v < pages_in 1 k l.facts) h b) in
        subst (λ (k : ℕ). entry_in (without_space sid l.spaces) (Text k v) ≡ entry_in l.spaces (Text k v)) (sym h) (o.1 ∙ sym o.2)
    | inr n ↦ other_entry l sid s g j v n
  ]

  place_shared : (x : Places) → sharing (without_space sid l.spaces) s.image ≡ Some x
      → placement_of (gone_to l (core_of l) sid (texts_then l s)) ≡ leave_text (remove_space (placement_of l) sid) s.image
  place_shared x e =
      let p : Placement = remove_space (placement_of l) sid in
      let more = some_shares l.slots (without_space sid l.spaces) s.image x e in
      let n = rest_sharers l sid s.image in
      gone_ext l (core_of l) sid (texts_then l s) (frames_self l.slots) p refl refl refl refl refl refl refl refl refl (λ j v. refl)
      (λ j v. same_text l (core_of l) sid (texts_then l s) (frames_self l.slots) j v (shared_entry x e j v) (λ b. shared_texts x e j v (low j v b)))
      ∙ sym (leave_some p s.image (sharers p s.image) (omega arith))

  -- Nobody shares it.

  one_shared : sharing (without_space sid l.spaces) s.image ≡ None → (text_numbered l.texts s.image).sharers ≡ 1
  one_shared e = let n = shared_by l sid s g.known g.there (gives_image l sid s g) in let z = none_shares l.slots (without_space sid l.spaces) s.image e in omega arith

  last_texts : sharing (without_space sid l.spaces) s.image ≡ None → (v : ℕ) → is_saved (text_numbered (texts_then l s) s.image) v ≡ false
  last_texts e v =
      let one = one_shared e in
      ap (λ (y : SharedText). is_saved y v) (left_same l.texts s.image (left_by_one (text_numbered l.texts s.image)) (omega arith)) ∙ last_saved (text_numbered l.texts s.image) v one

  listed_core : AreListed (core_of l)
  listed_core f = g.known.core.listed f

  not_away : (i v f : ℕ) → token_page (slot_at l.slots f) ≡ Some (Text i v) → is_away (slot_at l.slots f) ≡ false
  not_away i v f = go (slot_at l.slots f)
    where
      go : (x : Token) → token_page x ≡ Some (Text i v) → is_away x ≡ false
      go (tokens.Free token page) e = refl
      go (tokens.Resident token page dirty) e = refl
      go tokens.Away e = none_some (Text i v) e

  long : (i v : ℕ) → length (slots_of (placement_of l) (Text i v)) ≡ pages_in 1 i l.facts
  long i v = ap length (texts_shown l 1 i l.facts) ∙ text_length l i (pages_in 1 i l.facts)

  place_last : sharing (without_space sid l.spaces) s.image ≡ None
      → placement_of (gone_to l (left_pages (core_of l) s.image (pages_in 1 s.image l.facts)) sid (texts_then l s)) ≡ leave_text (remove_space (placement_of l) sid) s.image
  place_last e =
      let i : ℕ = s.image in
      let n : ℕ = pages_in 1 i l.facts in
      let p : Placement = remove_space (placement_of l) sid in
      let m : Frames = left_pages (core_of l) i n in
      let left : Placement = leave_all p (first_pages i n) in
      let same : SameFrames l.slots m.slots = pages_same (core_of l) i n in
      let keeps : Keeps p left = leave_all_keeps i 0 n p in
      let stays : SameRest p left = leave_all_kept rest_by_puts (first_pages i n) p in
      let to : LeftTo l p left i n m =
      leave_pages l p i n (core_of l) g.known refl refl listed_core (λ w b. let h = long i w in let k : w < length (slots_of p (Text i w)) = omega arith in k) (λ w. refl)
      (λ w b. ap (λ (x : Slot). x.filling) (text_at l i w b)) (λ w b. g.rest e w b) in
      let each : (j v : ℕ) → slot_of (placement_of (gone_to l m sid (texts_then l s))) (Text j v) ≡ slot_of left (Text j v) = λ j v.
      let image_is : (j v w : ℕ) → Text j v ≡ Text i w → j ≡ i = λ j v w k. cc in
      let own : (v : ℕ) → slot_of (placement_of (gone_to l m sid (texts_then l s))) (Text i v) ≡ slot_of left (Text i v) = λ v. elim (cases_lt v n) [
        | inl b ↦ left_text l m sid (texts_then l s) same i v b (none_entry (without_space sid l.spaces) i v e) (last_texts e v) (not_away i v) ∙ sym (to.before v b)
        | inr b ↦ text_past (gone_to l m sid (texts_then l s)) i v b ∙ sym (to.behind v b ∙ text_past l i v b)
      ] in
      elim (cases_eq j i) [
        | inl h ↦ subst (λ (k : ℕ). slot_of (placement_of (gone_to l m sid (texts_then l s))) (Text k v) ≡ slot_of left (Text k v)) (sym h) (own v)
        | inr d ↦
            same_text l m sid (texts_then l s) same j v (λ b. other_entry l sid s g j v d)
            (λ b. ap (λ (y : SharedText). is_saved y v) (left_other l.texts i j (left_by_one (text_numbered l.texts i)) (gives_image l sid s g).0 (low j v b) d))
            ∙ sym (leave_all_other (first_pages i n) p (Text j v) (pages_from_each (λ r. Text j v ≢ r) (Text i 0) 0 n (λ w a b k. d (image_is j v w k))))
      ] in
      let z = none_shares l.slots (without_space sid l.spaces) i e in
      gone_ext l m sid (texts_then l s) same left keeps.spaces (leave_all_kept numbers_by_puts (first_pages i n) p) keeps.holds to.free keeps.transfers stays.front stays.back stays.residents stays.due
      (λ j v. leave_all_length (first_pages i n) p (Text j v)) each
      ∙ sym (leave_none p i (sharers p i) (rest_sharers l sid i ∙ z) ∙ ap (λ (k : ℕ). leave_all p (first_pages i k)) (long i 0))

  -- Either way.

  pub place_is : placement_of (gone l sid s) ≡ leave_text (remove_space (placement_of l) sid) s.image
  place_is = go (sharing (without_space sid l.spaces) s.image) refl
    where
      go : (o : Option Places) → sharing (without_space sid l.spaces) s.image ≡ o
          → placement_of (gone_to l (left_by o (core_of l) s.image (pages_in 1 s.image l.facts)) sid (texts_then l s)) ≡ leave_text (remove_space (placement_of l) sid) s.image
      go None e = place_last e
      go (Some x) e = place_shared x e

  -- each frame has its token and page; what is off the free list was so; and no page of a text that nobody shares is
  pub then_same : SameFrames l.slots (gone l sid s).slots
  then_same = go (sharing (without_space sid l.spaces) s.image)
    where
      go : (o : Option Places) → SameFrames l.slots (left_by o (core_of l) s.image (pages_in 1 s.image l.facts)).slots
      go None = pages_same (core_of l) s.image (pages_in 1 s.image l.facts)
      go (Some x) = frames_self l.slots

  then_resident : (f : ℕ) (token : Frame) (q : Page) (mark : Bool) → slot_at (gone l sid s).slots f ≡ tokens.Resident token q mark
      → slot_at l.slots f ≡ tokens.Resident token q mark
  then_resident f token q mark = go (sharing (without_space sid l.spaces) s.image)
    where
      go : (o : Option Places) → slot_at (left_by o (core_of l) s.image (pages_in 1 s.image l.facts)).slots f ≡ tokens.Resident token q mark
          → slot_at l.slots f ≡ tokens.Resident token q mark
      go None h = pages_resident (core_of l) s.image (pages_in 1 s.image l.facts) f token q mark h
      go (Some x) h = h

  then_gone : (f : ℕ) (token : Frame) (v : ℕ) (mark : Bool) → sharing (without_space sid l.spaces) s.image ≡ None
      → slot_at (gone l sid s).slots f ≡ tokens.Resident token (Text s.image v) mark → pages_in 1 s.image l.facts ≤ v
  then_gone f token v mark e h =
      pages_gone (core_of l) s.image (pages_in 1 s.image l.facts) f token v mark g.known.core.unique
      (subst (λ (o : Option Places). slot_at (left_by o (core_of l) s.image (pages_in 1 s.image l.facts)).slots f ≡ tokens.Resident token (Text s.image v) mark) e h)

  -- a page of the space that went is in no frame
  gone_data : (v : ℕ) → frame_of (state_of (placement_of (gone l sid s)) (Data sid v)) ≡ None
  gone_data v = ap (λ (ss : List SpacePages). frame_of (state_at (data_in (numbered space_number sid ss)) v)) (spaces_same l (map_then l sid s) sid (texts_then l s) then_same)
      ∙ ap (λ (o : Option SpacePages). frame_of (state_at (data_in o) v)) (removed_same sid (placement_of l).spaces)

  gone_stack : (v : ℕ) → frame_of (state_of (placement_of (gone l sid s)) (Stack sid v)) ≡ None
  gone_stack v = ap (λ (ss : List SpacePages). frame_of (state_at (stack_in (numbered space_number sid ss)) v)) (spaces_same l (map_then l sid s) sid (texts_then l s) then_same)
      ∙ ap (λ (o : Option SpacePages). frame_of (state_at (stack_in o) v)) (removed_same sid (placement_of l).spaces)

  module _ (owns : OwnsFrames (placement_of (gone l sid s))) where
    named_then : (f : ℕ) (token : Frame) (q : Page) (mark : Bool) → slot_at (gone l sid s).slots f ≡ tokens.Resident token q mark
        → frame_of (state_of (placement_of (gone l sid s)) q) ≡ Some f
    named_then f token q mark h =
        let on : slot_at (gone l sid s).slots f ≢ tokens.Away = λ n. let z : tokens.Resident token q mark ≡ tokens.Away = sym h ∙ n in cc in
        let was : slot_at l.slots f ≢ tokens.Away = λ n. let z : tokens.Resident token q mark ≡ tokens.Away = sym (then_resident f token q mark h) ∙ n in cc in
        owns.named f q (held_at (gone l sid s) f (above_zero l.free l.slots f g.known.core was) (below_length (gone l sid s).slots f on)
        ∙ page_is_held (slot_at (gone l sid s).slots f) q (flown_at l.flown f) (ap token_page h))

    -- so what it says of a page off the free list is as before
    dirty_then : (f : ℕ) (token : Frame) (q : Page) (mark : Bool) → slot_at (gone l sid s).slots f ≡ tokens.Resident token q mark
        → dirty_shown (without_space sid l.spaces) (texts_then l s) q ≡ dirty_shown l.spaces l.texts q
    dirty_then f token (Data n v) mark h = elim (cases_eq n sid) [
      | inl e ↦ none_some f (sym (gone_data v) ∙ ap (λ (k : ℕ). frame_of (state_of (placement_of (gone l sid s)) (Data k v))) (sym e) ∙ named_then f token (Data n v) mark h)
      | inr d ↦ ap changed_named (rest_entry sid (Data n v) l.spaces (each_all (λ x. x.sid ≡ sid → place_in x (Data n v) ≡ None) l.spaces (λ x e. data_miss x n v (λ k. d (k ∙ e)))))
    ]
    dirty_then f token (Stack n v) mark h = elim (cases_eq n sid) [
      | inl e ↦ none_some f (sym (gone_stack v) ∙ ap (λ (k : ℕ). frame_of (state_of (placement_of (gone l sid s)) (Stack k v))) (sym e) ∙ named_then f token (Stack n v) mark h)
      | inr d ↦ ap changed_named (rest_entry sid (Stack n v) l.spaces (each_all (λ x. x.sid ≡ sid → place_in x (Stack n v) ≡ None) l.spaces (λ x e. stack_miss x n v (λ k. d (k ∙ e)))))
    ]
    dirty_then f token (Text j v) mark h = ap not (go (sharing (without_space sid l.spaces) s.image) refl)
      where
        was : slot_at l.slots f ≡ tokens.Resident token (Text j v) mark
        was = then_resident f token (Text j v) mark h

        here : (1 ≤ j) × (j ≤ 16) × (v < 2048)
        here = texts_here l g.known f j v (ap token_page was)

        within : v < pages_in 1 j l.facts
        within = text_within l j v (page_in (placement_of l) (Text j v) f (held_named l f (Text j v) g.known (ap token_page was)))

        go : (o : Option Places) → sharing (without_space sid l.spaces) s.image ≡ o
            → is_saved (text_numbered (texts_then l s) j) v ≡ is_saved (text_numbered l.texts j) v
        go None e = elim (cases_eq j s.image) [
          | inl k ↦
              let past : pages_in 1 s.image l.facts ≤ v = then_gone f token v mark e (h ∙ ap (λ (i : ℕ). tokens.Resident token (Text i v) mark) k) in
              let b : v < pages_in 1 s.image l.facts = subst (λ (i : ℕ). v < pages_in 1 i l.facts) k within in
              absurd (omega arith)
          | inr d ↦ ap (λ (y : SharedText). is_saved y v) (left_other l.texts s.image j (left_by_one (text_numbered l.texts s.image)) (gives_image l sid s g).0 here.0 d)
        ]
        go (Some x) e = shared_texts x e j v here.0

    counted_then : (j : ℕ) → 1 ≤ j → j ≤ 16 → (text_numbered (texts_then l s) j).sharers ≡ sharers (placement_of (gone l sid s)) j
    counted_then j a b = elim (cases_eq j s.image) [
      | inl h ↦ subst (λ (k : ℕ). (text_numbered (texts_then l s) k).sharers ≡ sharers (placement_of (gone l sid s)) k) (sym h)
          (let n = shared_by l sid s g.known g.there (gives_image l sid s g) in
          let k : (text_numbered (texts_then l s) s.image).sharers ≡ (text_numbered l.texts s.image).sharers - 1 =
          ap (λ (y : SharedText). y.sharers) (left_same l.texts s.image (left_by_one (text_numbered l.texts s.image)) (omega arith)) in
          k ∙ (omega arith) ∙ sharers_heads l.slots (gone l sid s).slots (without_space sid l.spaces) (without_space sid l.spaces) s.image refl)
      | inr d ↦
          ap (λ (y : SharedText). y.sharers) (left_other l.texts s.image j (left_by_one (text_numbered l.texts s.image)) (gives_image l sid s g).0 a d)
          ∙ g.known.tied.counted j a b
          ∙ sym (sharers_stay l.slots sid j l.spaces (each_imp l.spaces (only_space l.spaces sid s g.known.differ g.there) d))
          ∙ sharers_heads l.slots (gone l sid s).slots (without_space sid l.spaces) (without_space sid l.spaces) j refl
    ]
      where
        each_imp : (ss : List Places) → EachSpace (λ x. x.sid ≡ sid → x ≡ s) ss → j ≢ s.image
            → EachSpace (λ x. x.sid ≡ sid → x.image ≢ j) ss
        each_imp [] h d = tt
        each_imp (x ∷ xs) h d = ((λ e k. d (sym k ∙ ap (λ (y : Places). y.image) (h.0 e))), each_imp xs h.1 d)

    shared_then : (j v : ℕ) → 0 < sharers (placement_of (gone l sid s)) j → v < pages_in 1 j l.facts
        → IsSome (entry_in (without_space sid l.spaces) (Text j v))
    shared_then j v n b = elim (cases_eq j s.image) [
      | inl h ↦ own (sharing (without_space sid l.spaces) s.image) refl h
      | inr d ↦
          let stay = sharers_stay l.slots sid j l.spaces (each_imp l.spaces (only_space l.spaces sid s g.known.differ g.there) d) in
          let same = sharers_heads l.slots (gone l sid s).slots (without_space sid l.spaces) (without_space sid l.spaces) j refl in
          subst IsSome (sym (other_entry l sid s g j v d)) (g.known.tied.shared j v (let k : 0 < sharers_in j (map (space_shown l.slots) l.spaces) = omega arith in k) b)
    ]
      where
        each_imp : (ss : List Places) → EachSpace (λ x. x.sid ≡ sid → x ≡ s) ss → j ≢ s.image
            → EachSpace (λ x. x.sid ≡ sid → x.image ≢ j) ss
        each_imp [] h d = tt
        each_imp (x ∷ xs) h d = ((λ e k. d (sym k ∙ ap (λ (y : Places). y.image) (h.0 e))), each_imp xs h.1 d)

        own : (o : Option Places) → sharing (without_space sid l.spaces) s.image ≡ o → j ≡ s.image
            → IsSome (entry_in (without_space sid l.spaces) (Text j v))
        own None e h =
            let z = none_shares (gone l sid s).slots (without_space sid l.spaces) s.image e in
            absurd (let k : 0 < sharers (placement_of (gone l sid s)) s.image = subst (λ (i : ℕ). 0 < sharers (placement_of (gone l sid s)) i) h n in omega arith)
        own (Some x) e h =
            let o = own_entry l sid s x g e v (subst (λ (k : ℕ). v < pages_in 1 k l.facts) h b) in
            subst (λ (k : ℕ). IsSome (entry_in (without_space sid l.spaces) (Text k v))) (sym h) (subst IsSome (sym o.1) refl)

    pub tied_then : Tied (gone l sid s)
    tied_then =
        let k : Tied l = g.known.tied in
        record {
          few_frames = let n = k.few_frames in let e = then_same.count in omega arith;
          few_images = k.few_images;
          sound = k.sound;
          small_texts = k.small_texts;
          few_pages = each_rest HasFewPages sid l.spaces k.few_pages;
          shared = shared_then;
          alike = rest_alike sid l.spaces k.alike;
          filled = each_rest (IsFilled l.facts) sid l.spaces k.filled;
          counted = counted_then;
          marked = λ f token q mark h. k.marked f token q mark (then_resident f token q mark h) ∙ sym (dirty_then f token q mark h);
          whole = k.whole;
          once = k.once;
        }

    pub known_then : IsSoundMap (gone l sid s).free (gone l sid s).slots → TextAside (placement_of (gone l sid s)) → Known (gone l sid s)
    known_then core aside = record {
      core = core;
      owns = owns;
      aside = aside;
      tied = tied_then;
      differ = rest_differs sid l.spaces g.known.differ;
      numbers = g.known.numbers;
    }
