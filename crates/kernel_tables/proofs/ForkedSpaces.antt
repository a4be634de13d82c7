-- A space with a copy of its parent's pages.
use Rattle.std.proofs.Common.{◌≡◌, inl, inr, ℕ, zero, suc, ◌+◌, false, List, [], ◌∷◌, ◌++◌, length, map, option_map, Option, Some, None, slice_get}
use Rattle.std.proofs.Common.{refl, sym, ap, ◌∙◌, subst, arith}
use Rattle.std.proofs.lemmas.Bool.{cases_eq}
use Rattle.std.proofs.lemmas.Bool.Decides.{nat_tests}
use Rattle.std.proofs.lemmas.Option.{same_Some}
use Rattle.std.proofs.lemmas.List.FromFn.{length-map-range_with_len}
use Rattle.std.specs.declared.alloc.Global.{Global}
use Rattle.std.specs.declared.collections.VecDeque.{VecDeque}
use Rattle.vm_facts.specs.declared.page.Page.TheVariants.{Data, Stack}
use Rattle.vax_pte.specs.declared.Place.{Place}
use Rattle.vax_pte.specs.declared.Place.TheVariants as places
use Rattle.vax_pte.specs.Words.{IsInRange}
use Rattle.aout_image.specs.declared.Image.{Image}
use Rattle.aout_image.specs.Image.{image_data_pages, IsSound as IsSoundImage}
use Rattle.space_map.specs.Space.{Places, first_place, first_places}
use Rattle.flat_state.specs.Numbers.{AllBelow}
use Rattle.page_model.specs.Pages.{Slot, SpacePages, numbered, data_in, stack_in}
use Rattle.page_model.specs.Placement.{Placement, Due, space_number, image_in}
use Rattle.page_model.specs.Place.{child_slot, copies_from, fork_space}
use Rattle.kernel_model.specs.Asks.{HasSpace}
use Rattle.kernel_tables.specs.declared.fill.DueFill.{DueFill}
use Rattle.kernel_tables.specs.declared.tables.Tables.{Tables}
use Rattle.kernel_tables.specs.Rising.{sids_of}
use Rattle.kernel_tables.specs.Alike.{EachSpace, IsFilled, HasFewPages, facts_in}
use Rattle.kernel_tables.specs.Shown.{slot_shown, space_shown}
use Rattle.kernel_tables.specs.View.{Lists, placement_of, frames_of, due_shown, starts_of}
use Rattle.kernel_tables.specs.Machine.{lists_of}
use Rattle.kernel_tables.specs.New.{AreSound}
use Rattle.kernel_tables.specs.Known.{Known}
use Rattle.kernel_tables.specs.Added.{with_space, IsFresh, IsNewSpace, AddedSpace}
use Rattle.kernel_tables.specs.Changing.{Forked}
use Rattle.kernel_tables.specs.Forking.{forked, space_fills, with_forked, AreInRange}
use Rattle.kernel_tables.proofs.Entries.{data_hit, stack_hit}
use Rattle.kernel_tables.proofs.UserFrames.{numbered_shown, get_below}
use Rattle.kernel_tables.proofs.AddedPlace.{added_place, place_added}
use Rattle.kernel_tables.proofs.AddedTied.{added_known}
use Rattle.kernel_tables.proofs.AddedTables.{known_fills, added_lists}
use Rattle.kernel_tables.proofs.Forks.{fork_starts_nothing, fork_whole, fork_once, entries_forked, fork_due}
use Rattle.kernel_tables.proofs.Shows.{length_map}

abbrev pages_by : ℕ → ℕ → List Slot → List Slot → SpacePages
pages_by sid image data_pages stack_pages = record { sid = sid; image = image; data_pages = data_pages; stack_pages = stack_pages }

-- a child's space, and what is due of it, by its parent's
abbrev child_by : ℕ → Option SpacePages → SpacePages
child_by child o = pages_by child (image_in o) (map child_slot (data_in o)) (map child_slot (stack_in o))

abbrev due_by : ℕ → ℕ → Option SpacePages → List Due
due_by child parent o = copies_from (Data child) (Data parent) 0 (data_in o) ++ copies_from (Stack child) (Stack parent) 0 (stack_in o)

-- The parent.

pub space_of_number : (P : Places → Type 0) (ss : List Places) (n : ℕ) (s : Places) → EachSpace P ss → numbered (λ (s : Places). s.sid) n ss ≡ Some s
    → P s × (s.sid ≡ n)
space_of_number P [] n s h e = absurd cc
space_of_number P (x ∷ xs) n s h e = elim (cases_eq x.sid n) [
  | inl is ↦
      let k : numbered (λ (s : Places). s.sid) n (x ∷ xs) ≡ Some x = grind (arith, nat_tests) in
      let same : x ≡ s = same_Some x s (sym k ∙ e) in
      (subst P same h.0, ap (λ (y : Places). y.sid) (sym same) ∙ is)
  | inr not ↦
      let k : numbered (λ (s : Places). s.sid) n (x ∷ xs) ≡ numbered (λ (s : Places). s.sid) n xs = grind (arith, nat_tests) in
      space_of_number P xs n s h.1 (sym k ∙ e)
]

-- a space that the placement has is among the maps
pub space_there : (t : Lists) (n : ℕ) → HasSpace (placement_of t) n → numbered (λ (s : Places). s.sid) n t.spaces ≡ None → ⊥
space_there t n has e = has (numbered_shown t.slots t.spaces n ∙ ap (option_map (space_shown t.slots)) e)

facts_sound : (n image : ℕ) (more : List Image) (facts : Image) → AreSound more → facts_in n image more ≡ Some facts → IsSoundImage facts
facts_sound n image [] facts s e = absurd cc
facts_sound n image (x ∷ more) facts s e = elim (cases_eq n image) [
  | inl is ↦
      let k : facts_in n image (x ∷ more) ≡ Some x = grind (arith, nat_tests) in
      subst IsSoundImage (same_Some x facts (sym k ∙ e)) s.0
  | inr not ↦
      let k : facts_in n image (x ∷ more) ≡ facts_in (n + 1) image more = grind (arith, nat_tests) in
      facts_sound (n + 1) image more facts s.1 (sym k ∙ e)
]

-- so many pages of a new segment
pub first_length : (facts : Image) (n : ℕ) → length (first_places facts false n) ≡ n
first_length facts n = length-map-range_with_len (first_place facts false) 0 n

at_map : {A B : Type 0} (f : A → B) (xs : List A) (v : ℕ) (y : B) → slice_get (map f xs) v ≡ Some y → (x : A) × (slice_get xs v ≡ Some x) × (y ≡ f x)
at_map f [] v y e = absurd cc
at_map f (x ∷ xs) zero y e = (x, refl, sym (same_Some (f x) y e))
at_map f (x ∷ xs) (suc v) y e = at_map f xs v y e

module _ (t : Lists) (parent : ℕ) (s : Places) (known : Known t) (found : numbered (λ (s : Places). s.sid) parent t.spaces ≡ Some s) where
  filled : IsFilled t.facts s
  filled = (space_of_number (IsFilled t.facts) t.spaces parent s known.tied.filled found).0

  few : HasFewPages s
  few = (space_of_number HasFewPages t.spaces parent s known.tied.few_pages found).0

  pub number : s.sid ≡ parent
  number = (space_of_number HasFewPages t.spaces parent s known.tied.few_pages found).1

  pub parent_facts : facts_in 1 s.image t.facts ≡ Some s.facts
  parent_facts = filled.facts_are

  pub parent_sound : IsSoundImage s.facts
  parent_sound = facts_sound 1 s.image t.facts s.facts known.tied.sound parent_facts

  -- the child's entries wait for a fill, as the parent's did where they were never filled
  data_fresh : (v : ℕ) (x : Place) → slice_get s.data v ≡ Some x → IsFresh (image_data_pages s.facts) v (forked x)
  data_fresh v (places.Image w) e = filled.entries (Data s.sid v) w (data_hit s s.sid v refl ∙ e)
  data_fresh v _ e = tt

  stack_fresh : (v : ℕ) (x : Place) → slice_get s.stack v ≡ Some x → forked x ≡ places.Zero
  stack_fresh v (places.Image w) e = absurd (filled.entries (Stack s.sid v) w (stack_hit s s.sid v refl ∙ e))
  stack_fresh v _ e = refl

  pub data_in_range : AreInRange s.data
  data_in_range v (places.Image w) e =
      let is = data_fresh v (places.Image w) e in
      let l = get_below s.data v (places.Image w) e in
      let m = few.0 in
      omega (arith, is.0)
  data_in_range v _ e = tt

  pub stack_in_range : AreInRange s.stack
  stack_in_range v x e = subst IsInRange (sym (stack_fresh v x e)) tt

  -- The child.

  pub child_is_new : (c : Places) → AllBelow c.sid (sids_of t.spaces) → c.image ≡ s.image → c.facts ≡ s.facts → IsNewSpace t (with_forked c s)
  child_is_new c above image facts = record {
    above = above;
    facts_are = ap (λ (i : ℕ). facts_in 1 i t.facts) image ∙ parent_facts ∙ ap (λ (x : Image). Some x) (sym facts);
    few = (
      let m = few.0 in let l = length_map forked s.data in omega arith,
      let m = few.1 in let l = length_map forked s.stack in omega arith,
    );
    fresh_data = λ v x e.
        let was = at_map forked s.data v x e in
        subst (λ (y : Image). IsFresh (image_data_pages y) v x) (sym facts)
        (subst (IsFresh (image_data_pages s.facts) v) (sym was.2) (data_fresh v was.0 was.1));
    fresh_stack = λ v x e. let was = at_map forked s.stack v x e in was.2 ∙ stack_fresh v was.0 was.1;
  }

  parent_shown : numbered space_number parent (placement_of t).spaces ≡ Some (space_shown t.slots s)
  parent_shown = numbered_shown t.slots t.spaces parent ∙ ap (option_map (space_shown t.slots)) found

  child_shown : (c : Places) → c.image ≡ s.image
      → space_shown t.slots (with_forked c s) ≡ child_by c.sid (numbered space_number parent (placement_of t).spaces)
  child_shown c image =
      let data_was : List Slot = map (slot_shown t.slots) (map forked s.data) in
      let stack_was : List Slot = map (slot_shown t.slots) (map forked s.stack) in
      let data_now : List Slot = map child_slot (map (slot_shown t.slots) s.data) in
      ap (λ (i : ℕ). pages_by c.sid i data_was stack_was) image
      ∙ ap (λ (xs : List Slot). pages_by c.sid s.image xs stack_was) (entries_forked t.slots s.data)
      ∙ ap (λ (xs : List Slot). pages_by c.sid s.image data_now xs) (entries_forked t.slots s.stack)
      ∙ ap (child_by c.sid) (sym parent_shown)

  child_due : (child : ℕ) → map due_shown (space_fills child s) ≡ due_by child parent (numbered space_number parent (placement_of t).spaces)
  child_due child =
      fork_due t.slots child s
      ∙ ap (λ (n : ℕ). due_by child n (Some (space_shown t.slots s))) number
      ∙ ap (due_by child parent) (sym parent_shown)

  pub fork_place : (c : Places) → c.image ≡ s.image → added_place t (with_forked c s) (space_fills c.sid s) ≡ fork_space (placement_of t) parent c.sid
  fork_place c image =
      let p : Placement = placement_of t in
      let o : Option SpacePages = numbered space_number parent p.spaces in
      ap (λ (x : SpacePages). record p { spaces = p.spaces ++ x ∷ []; due = map due_shown (space_fills c.sid s) }) (child_shown c image)
      ∙ ap (λ (ds : List Due). record p { spaces = p.spaces ++ child_by c.sid o ∷ []; due = ds }) (child_due c.sid)

-- The whole.

pub record Forking (t v : Tables) (fills : VecDeque DueFill Global) (parent : ℕ) (s c : Places) : Type 0 where
  pub known : Known (lists_of t)
  pub below : AllBelow t.next_sid (sids_of t.spaces)
  pub found : numbered (λ (s : Places). s.sid) parent t.spaces ≡ Some s
  pub sid : c.sid ≡ t.next_sid
  pub image : c.image ≡ s.image
  pub facts : c.facts ≡ s.facts
  pub planned : fills.items ≡ space_fills c.sid s
  pub added : AddedSpace (record t { fills = fills }) v (with_forked c s)

pub planned_known : (t : Lists) (fills : List DueFill) (child : ℕ) (s : Places) → Known t → fills ≡ space_fills child s → Known (record t { fills = fills })
planned_known t fills child s known e =
    subst (λ (ds : List DueFill). Known (record t { fills = ds })) (sym e) (known_fills t (space_fills child s) known (fork_whole child s) (fork_once child s))

pub forked_space : (t v : Tables) (fills : VecDeque DueFill Global) (parent : ℕ) (s c : Places) → Forking t v fills parent s c → Forked t v parent
forked_space t v fills parent s c f =
    let l : Lists = lists_of t in
    let n : Places = with_forked c s in
    let ds : List DueFill = space_fills c.sid s in
    let new : IsNewSpace l n =
    child_is_new l parent s f.known f.found c (subst (λ (k : ℕ). AllBelow k (sids_of t.spaces)) (sym f.sid) f.below) f.image f.facts in
    let rest : v ≡ record t { spaces = v.spaces; texts = v.texts; fills = v.fills; next_sid = v.next_sid } =
    f.added.rest
    ∙ ap (λ (xs : VecDeque DueFill Global). record t { spaces = v.spaces; texts = v.texts; fills = xs; next_sid = v.next_sid })
    (sym (ap (λ (x : Tables). x.fills) f.added.rest)) in
    let due : v.fills.items ≡ ds = ap (λ (x : Tables). x.fills.items) f.added.rest ∙ f.planned in
    let lists : lists_of v ≡ with_space l n ds = added_lists t v n ds f.added.spaces f.added.texts due rest in
    record {
      shows = record {
        place =
            ap placement_of lists ∙ place_added l n ds ∙ fork_place l parent s f.known f.found c f.image
            ∙ ap (fork_space (placement_of l) parent) f.sid;
        frames = ap frames_of lists;
        known = subst Known (sym lists) (added_known l n ds f.known f.added.table new (fork_whole c.sid s) (fork_once c.sid s));
      };
      starts = ap starts_of due ∙ fork_starts_nothing c.sid s;
      number = f.added.number;
      rest = rest;
    }
