-- A space that is given up: what it leaves of spaces, residents, blocks and coupled pages.
use Rattle.std.proofs.Common.{◌≡◌, ◌≢◌, ◌⊎◌, inl, inr, ℕ, zero, suc, ◌<◌, Bool, true, false, not, List, [], length, get_or, Option, Some, None, refl, sym, ap, ◌∙◌, subst, arith}
use Rattle.std.proofs.lemmas.Bool.{cases_eq}
use Rattle.page_laws.proofs.Due.Changes.{leave_all_due}
use Rattle.vm_facts.specs.declared.page.Page.{Page}
use Rattle.vm_facts.specs.declared.page.Page.TheVariants.{Data, Stack, Text}
use Rattle.vm_facts.specs.declared.page.PageState.TheVariants.{Invalid}
use Rattle.swap_book.specs.declared.Owner.{Owner}
use Rattle.swap_book.specs.declared.Owner.TheVariants as owners
use Rattle.swap_book.specs.Holdings.{Holdings, block_in, kept}
use Rattle.page_model.specs.Pages.{Slot, SpacePages, no_slot, numbered, data_in, stack_in, is_dirty_by}
use Rattle.flat_state.specs.PageNames.{number_of}
use Rattle.page_model.specs.Frames.{at_frame}
use Rattle.page_model.specs.Placement.{Placement, Transfer, Due, space_number, slots_of, is_dirty, due_of_page, errand_at, parts_of, image_of, sharers, IsThere}
use Rattle.page_model.specs.Moves.{drop_all}
use Rattle.page_model.specs.Place.{data_count, stack_count, data_from, stack_from, remove_space, pages_of_space, pages_of_text, leave_text, leave_text_by, give_up, give_up_unless}
use Rattle.page_model.specs.Conditions.{IsSettled}
use Rattle.page_model.specs.Ownership.{OwnsFrames, TextAside, IsAside, block_of}
use Rattle.page_model.specs.PageBytes.{Bytes, IsInFrame, KeepsUnfilled, KeepsBy, Keeps, CouplesPages}
use Rattle.kernel_model.specs.ChangeStep.{text_given_back, space_given_back, given_back_unless}
use Rattle.page_laws.proofs.Lists.Runs.{each_page_append}
use Rattle.page_laws.proofs.Ownership.Spaces.{drop_all_other, drop_all_length}
use Rattle.page_laws.proofs.Ownership.Changes.{removed_other, removed_same, gone_owner}
use Rattle.page_laws.proofs.Ownership.Entries.{settled_from}
use Rattle.page_laws.proofs.Bytes.Couples.{NoCopy, Unmoved}
use Rattle.page_laws.proofs.Bytes.Pages.{keeps_at}
use Rattle.page_laws.proofs.Bytes.Changes.{changed_coupled, drop_all_rest, removed_there, apart_data, apart_stack}
use Rattle.page_laws.proofs.Bytes.Spaces.{leave_text_coupled}
use Rattle.kernel_laws.proofs.Machine.Shapes.{shape_in, Shaped, shaped_self, drop_all_shaped, leave_all_shaped}
use Rattle.kernel_laws.proofs.Machine.Breaks.{block_kept}

-- Spaces.

leave_text_shaped : (p : Placement) (image : ℕ) → Shaped p (leave_text p image)
leave_text_shaped p image = go (sharers p image)
  where
    go : (n : ℕ) → Shaped p (leave_text_by p image n)
    go zero = leave_all_shaped (pages_of_text p image) p
    go (suc n) = shaped_self p

leave_text_due : (p : Placement) (image : ℕ) → (leave_text p image).due ≡ p.due
leave_text_due p image = go (sharers p image)
  where
    go : (n : ℕ) → (leave_text_by p image n).due ≡ p.due
    go zero = leave_all_due (pages_of_text p image) p
    go (suc n) = refl

-- what giving up leaves: another space with its shape, nothing of this one, and all else
pub record Gone (p q : Placement) (borrowed : Bool) (sid : ℕ) : Type 0 where
  pub other : (n : ℕ) → (borrowed ≡ false → n ≢ sid) → shape_in (numbered space_number n q.spaces) ≡ shape_in (numbered space_number n p.spaces)
  pub own : borrowed ≡ false → numbered space_number sid q.spaces ≡ None
  pub residents : q.residents ≡ p.residents
  pub due : q.due ≡ p.due

pub none_kept : (o r : Option SpacePages) → shape_in r ≡ shape_in o → o ≡ None → r ≡ None
none_kept o None e h = refl
none_kept None (Some x) e h = absurd cc
none_kept (Some y) (Some x) e h = absurd cc

gone : (p : Placement) (sid : ℕ) → Gone p (give_up p sid) false sid
gone p sid =
    let dropped : Placement = drop_all p (pages_of_space p sid) in
    let drop : Shaped p dropped = drop_all_shaped (pages_of_space p sid) p in
    let text : Shaped (remove_space dropped sid) (give_up p sid) = leave_text_shaped (remove_space dropped sid) (image_of p sid) in
    record {
      other = λ n d. text.spaces n ∙ ap shape_in (removed_other sid n dropped.spaces (d refl)) ∙ drop.spaces n;
      own = λ e. none_kept (numbered space_number sid (remove_space dropped sid).spaces) (numbered space_number sid (give_up p sid).spaces) (text.spaces sid) (removed_same sid dropped.spaces);
      residents = text.residents ∙ drop.residents;
      due = leave_text_due (remove_space dropped sid) (image_of p sid) ∙ (drop_all_rest (pages_of_space p sid) p).1;
    }

pub gone_unless : (borrowed : Bool) (p : Placement) (sid : ℕ) → Gone p (give_up_unless borrowed p sid) borrowed sid
gone_unless true p sid = record { other = λ n d. refl; own = λ e. absurd cc; residents = refl; due = refl }
gone_unless false p sid = gone p sid

-- a page of a space that is there is of another one
pub gone_data : (p q : Placement) (borrowed : Bool) (sid m v : ℕ) → Gone p q borrowed sid → IsThere q (Data m v) → borrowed ≡ false → m ≢ sid
gone_data p q borrowed sid m v g there b e =
    absurd (let w : v < length (slots_of q (Data sid v)) = subst (λ (n : ℕ). IsThere q (Data n v)) e there in let z = ap (λ (o : Option SpacePages). length (data_in o)) (g.own b) in omega arith)

pub gone_stack : (p q : Placement) (borrowed : Bool) (sid m v : ℕ) → Gone p q borrowed sid → IsThere q (Stack m v) → borrowed ≡ false → m ≢ sid
gone_stack p q borrowed sid m v g there b e =
    absurd (let w : v < length (slots_of q (Stack sid v)) = subst (λ (n : ℕ). IsThere q (Stack n v)) e there in let z = ap (λ (o : Option SpacePages). length (stack_in o)) (g.own b) in omega arith)

-- Pages.

removed_keeps : (p : Placement) (sid : ℕ) (b : Bytes) → CouplesPages p b → CouplesPages (remove_space (drop_all p (pages_of_space p sid)) sid) b
removed_keeps p sid b k =
    let dropped : Placement = drop_all p (pages_of_space p sid) in
    let q : Placement = remove_space dropped sid in
    let rest : (dropped.transfers ≡ p.transfers) × (dropped.due ≡ p.due) = drop_all_rest (pages_of_space p sid) p in
    let one : (w : Page) → IsThere q w → (IsThere p w × Unmoved p q b b w) ⊎ Keeps q b w = λ w there.
    let r = removed_there dropped sid w there in
    inl (
      (let e = drop_all_length (pages_of_space p sid) p w in let h = ap length r.2 in omega arith),
      record {
        slot = ap (λ (xs : List Slot). get_or xs (number_of w) no_slot) r.2
            ∙ drop_all_other (pages_of_space p sid) p w (each_page_append (λ x. w ≢ x) (data_from sid 0 (data_count p sid)) (stack_from sid 0 (stack_count p sid))
            (apart_data sid 0 (data_count p sid) w (λ v l. r.0 v)) (apart_stack sid 0 (stack_count p sid) w (λ v l. r.1 v)));
        due = ap (λ (ds : List Due). due_of_page ds w) rest.1;
        frames = λ g e. (refl, ap (λ (ts : List Transfer). errand_at (parts_of ts) g) rest.0);
        swap = refl;
        file = refl;
        start = refl;
        memory = refl;
        copied = inl (λ x. refl);
      },
    ) in
    changed_coupled p q b b k one k.text (λ i v. ap (λ (ds : List Due). due_of_page ds (Text i v)) rest.1 ∙ k.text_due i v)

pub unless_coupled : (borrowed : Bool) (p : Placement) (sid : ℕ) (b : Bytes) → OwnsFrames p → (borrowed ≡ false → IsSettled p sid) → CouplesPages p b
    → CouplesPages (give_up_unless borrowed p sid) b
unless_coupled true p sid b o s k = k
unless_coupled false p sid b o s k = leave_text_coupled (remove_space (drop_all p (pages_of_space p sid)) sid) (image_of p sid) b
    (gone_owner p sid o (settled_from p sid (s refl) 0 (data_count p sid) 0 (stack_count p sid))) (removed_keeps p sid b k)

-- text that isn't saved, and isn't in flight
abbrev pub AsideText : Placement → Page → Type 0
AsideText p w = (image : ℕ) × (v : ℕ) × (w ≡ Text image v) × IsAside p (Text image v)

-- what stands beside a page that is there, but for blocks that it doesn't need
pub record OtherBytes (p : Placement) (b c : Bytes) (w : Page) : Type 0 where
  pub file : c.file w ≡ b.file w
  pub start : c.start w ≡ b.start w
  pub memory : c.memory w ≡ b.memory w
  pub swap : (c.swap w ≡ b.swap w) ⊎ AsideText p w

aside_keeps : (p : Placement) (b c : Bytes) (image v : ℕ) → CouplesPages p b → c.frames ≡ b.frames → c.memory (Text image v) ≡ b.memory (Text image v)
    → c.file (Text image v) ≡ c.memory (Text image v)
    → IsThere p (Text image v) → IsAside p (Text image v) → Keeps p c (Text image v)
aside_keeps p b c image v k f m t there a = elim a.rests [
  | inl e ↦ subst (KeepsBy p c (Text image v)) (sym e) (subst (λ (d : Option Due). KeepsUnfilled c (Text image v) d Rattle.page_model.specs.Pages.OfImage) (sym (k.text_due image v)) t, a.unsaved)
  | inr e ↦ (let i : IsInFrame b (is_dirty p (Text image v)) e.0 (Text image v) = keeps_at p b (Text image v) (Invalid e.0) k there e.1 in
      subst (KeepsBy p c (Text image v)) (sym e.1) (record {
        here = ap (λ (fs : List (List ℕ)). at_frame fs e.0 []) f ∙ i.here ∙ sym m;
        there = λ d. absurd (let j : is_dirty p (Text image v) ≡ true = ap not a.unsaved in let h : true ≡ false = sym j ∙ d in cc);
      }))
]

pub other_coupled : (p : Placement) (b c : Bytes) → CouplesPages p b → ((w : Page) → NoCopy (due_of_page p.due w)) → c.frames ≡ b.frames
    → ((w : Page) → IsThere p w → OtherBytes p b c w)
    → ((image v : ℕ) → c.file (Text image v) ≡ c.memory (Text image v)) → CouplesPages p c
other_coupled p b c k due f h text =
    let one : (w : Page) → IsThere p w → (IsThere p w × Unmoved p p b c w) ⊎ Keeps p c w = λ w there.
    let o : OtherBytes p b c w = h w there in
    elim o.swap [
      | inl s ↦ inl (
        there,
        record {
          slot = refl;
          due = refl;
          frames = λ g e. (ap (λ (fs : List (List ℕ)). at_frame fs g []) f, refl);
          swap = s;
          file = o.file;
          start = o.start;
          memory = o.memory;
          copied = inr (due w);
        },
      )
      | inr a ↦ inr (subst (Keeps p c) (sym a.2) (aside_keeps p b c a.0 a.1 k f (subst (λ (x : Page). c.memory x ≡ b.memory x) a.2 o.memory) (text a.0 a.1) (subst (IsThere p) a.2 there) a.3))
    ] in
    changed_coupled p p b c k one text k.text_due

-- Blocks.

-- what isn't given back stays
given_back_other : (hs : Holdings) (sid image left : ℕ) (owner : Owner) (v : ℕ) → owners.Data sid ≢ owner → owners.Stack sid ≢ owner
    → (left ≡ 0 → owners.Text image ≢ owner)
    → block_in (space_given_back hs sid image left) owner v ≡ block_in hs owner v
given_back_other hs sid image left owner v d s t = go left t
  where
    spaces : block_in (kept (owners.Stack sid) 0 (kept (owners.Data sid) 0 hs)) owner v ≡ block_in hs owner v
    spaces = block_kept (owners.Stack sid) owner 0 v (kept (owners.Data sid) 0 hs) (λ e. absurd (s e)) ∙ block_kept (owners.Data sid) owner 0 v hs (λ e. absurd (d e))

    go : (n : ℕ) → (n ≡ 0 → owners.Text image ≢ owner) → block_in (text_given_back n (kept (owners.Stack sid) 0 (kept (owners.Data sid) 0 hs)) image) owner v ≡ block_in hs owner v
    go zero h = block_kept (owners.Text image) owner 0 v (kept (owners.Stack sid) 0 (kept (owners.Data sid) 0 hs)) (λ e. absurd (h refl e)) ∙ spaces
    go (suc n) h = spaces

data_owner : (a b : ℕ) → owners.Data a ≡ owners.Data b → a ≡ b
data_owner a b e = cc

stack_owner : (a b : ℕ) → owners.Stack a ≡ owners.Stack b → a ≡ b
stack_owner a b e = cc

text_owner : (a b : ℕ) → owners.Text a ≡ owners.Text b → a ≡ b
text_owner a b e = cc

-- each page that is there has the blocks that it had, or is text that nobody shares
pub unless_blocks : (borrowed : Bool) (hs : Holdings) (p q : Placement) (sid image : ℕ) (w : Page) → Gone p q borrowed sid → TextAside q → IsThere q w
    → (block_of (given_back_unless borrowed hs sid image (sharers q image)) w ≡ block_of hs w) ⊎ AsideText q w
unless_blocks true hs p q sid image w g a there = inl refl
unless_blocks false hs p q sid image (Data m v) g a there =
    inl (given_back_other hs sid image (sharers q image) (owners.Data m) v (λ e. gone_data p q false sid m v g there refl (sym (data_owner sid m e))) (λ e. cc) (λ z e. cc))
unless_blocks false hs p q sid image (Stack m v) g a there =
    inl (given_back_other hs sid image (sharers q image) (owners.Stack m) v (λ e. cc) (λ e. gone_stack p q false sid m v g there refl (sym (stack_owner sid m e))) (λ z e. cc))
unless_blocks false hs p q sid image (Text i v) g a there = elim (cases_eq (sharers q image) 0) [
  | inl z ↦ elim (cases_eq i image) [
    | inl e ↦ inr (i, v, refl, a i v (ap (sharers q) e ∙ z))
    | inr d ↦ inl (given_back_other hs sid image (sharers q image) (owners.Text i) v (λ e. cc) (λ e. cc) (λ y e. d (sym (text_owner image i e))))
  ]
  | inr z ↦ inl (given_back_other hs sid image (sharers q image) (owners.Text i) v (λ e. cc) (λ e. cc) (λ y e. z y))
]

pub unless_u : (borrowed : Bool) (hs : Holdings) (sid image left n : ℕ)
    → block_in (given_back_unless borrowed hs sid image left) (owners.U n) 0 ≡ block_in hs (owners.U n) 0
unless_u true hs sid image left n = refl
unless_u false hs sid image left n = given_back_other hs sid image left (owners.U n) 0 (λ e. cc) (λ e. cc) (λ z e. cc)
