-- What the steps of a placement leave of its frames and of what is due.
use Rattle.std.proofs.Common.{◌≡◌, ℕ, zero, suc, ◌-◌, Bool, true, false, cond, List, [], ◌∷◌, ◌++◌, length, Option, Some, None, refl, sym, ap, ◌∙◌}
use Rattle.vm_facts.specs.declared.page.Page.{Page}
use Rattle.vm_facts.specs.declared.page.Page.TheVariants.{Stack}
use Rattle.vm_facts.specs.declared.entry.Entry.{Entry}
use Rattle.vm_facts.specs.declared.entry.Entry.TheVariants as entries
use Rattle.aout_image.specs.declared.Image.{Image}
use Rattle.flat_state.specs.declared.change.Change.{Change}
use Rattle.flat_state.specs.declared.change.Change.TheVariants as changes
use Rattle.flat_state.specs.PageNames.{number_of, pages_from}
use Rattle.flat_state.proofs.PageNames.{same_page_self}
use Rattle.page_model.specs.Placement.{Placement, Due, Start, image_of, sharers}
use Rattle.page_model.specs.Moves.{get_run, reclaim, done, touch, drop_all}
use Rattle.page_model.specs.Hands.{advance, hand_moves}
use Rattle.page_model.specs.Serve.{force, Forces}
use Rattle.page_model.specs.Place.{due_after, put_step, place_entry, remove_space, pages_of_space, pages_of_text, leave_text_by, leave_text, give_up, give_up_unless, facts_numbered, enter_image, resize, data_from, stack_from, data_count, stack_count, place_change, Changing}
use Rattle.page_model.specs.Reading.{read_errand}
use Rattle.page_laws.proofs.Moves.Puts.{KeptByPuts, get_run_kept, reclaim_kept, put_step_kept, move_kept, moves_kept, done_kept, touch_kept, drop_all_kept, leave_all_kept, entry_kept}
use Rattle.page_laws.proofs.Moves.Cases.{force_cases}

-- as many frames
pub record SameFrames (p q : Placement) : Type 0 where
  pub count : length q.holds ≡ length p.holds

frames_by_puts : KeptByPuts SameFrames
frames_by_puts = record {
  still = λ p q a b r. record { count = r.count };
  both = λ p q r s t. record { count = t.count ∙ s.count };
  puts = λ p v s m. record { count = refl };
}

pub entry_frames : (locked : List Page) (at : ℕ) (p : Placement) (e : Entry) → length (place_entry locked at p e).holds ≡ length p.holds
entry_frames locked at p e =
    let s : SameFrames p (place_entry locked at p e) =
    entry_kept frames_by_puts (λ p ds. record { count = refl }) (λ p. record { count = refl }) (λ p pid out at. record { count = refl }) locked at p e in
    s.count

-- as many, and the same is due
pub record Keeps (p q : Placement) : Type 0 where
  pub due : q.due ≡ p.due
  pub count : length q.holds ≡ length p.holds

keeps_by_puts : KeptByPuts Keeps
keeps_by_puts = record {
  still = λ p q a b r. record { due = r.due; count = r.count };
  both = λ p q r s t. record { due = t.due ∙ s.due; count = t.count ∙ s.count };
  puts = λ p v s m. record { due = refl; count = refl };
}

pub keeps_self : (p : Placement) → Keeps p p
keeps_self p = record { due = refl; count = refl }

pub keeps_both : (p q r : Placement) → Keeps p q → Keeps q r → Keeps p r
keeps_both p q r s t = record { due = t.due ∙ s.due; count = t.count ∙ s.count }

keeps_advance : (p : Placement) → Keeps p (advance p)
keeps_advance p = record { due = refl; count = refl }

pub done_keeps : (p : Placement) → Keeps p (done p)
done_keeps p = done_kept keeps_by_puts p

pub touch_keeps : (p : Placement) (q : Page) → Keeps p (touch p q)
touch_keeps p q = touch_kept keeps_by_puts p q

-- Entries.

-- where nothing is due, nothing is after an entry
pub entry_clear : (locked : List Page) (at : ℕ) (p : Placement) (e : Entry) → p.due ≡ [] → (place_entry locked at p e).due ≡ []
entry_clear locked at p (entries.Zero q) h = ap (λ (ds : List Due). due_after ds q) h
entry_clear locked at p (entries.Copy q) h = ap (λ (ds : List Due). due_after ds q) h
entry_clear locked at p (entries.Get q lo n) h =
    let s : Keeps p (get_run p (read_errand p q) (pages_from q lo n)) = get_run_kept keeps_by_puts p (read_errand p q) (pages_from q lo n) in s.due ∙ h
entry_clear locked at p (entries.Reclaim q) h = let s : Keeps p (reclaim p q) = reclaim_kept keeps_by_puts p q in s.due ∙ h
entry_clear locked at p (entries.Hands n) h = let s : Keeps p (hand_moves p locked n) = moves_kept keeps_by_puts keeps_advance n p locked in s.due ∙ h
entry_clear locked at p (entries.Put q n) h =
    let s : Keeps p (put_step p q (pages_from q (number_of q) n)) = put_step_kept keeps_by_puts p q (pages_from q (number_of q) n) in s.due ∙ h
entry_clear locked at p entries.Done h = let s : Keeps p (done p) = done_kept keeps_by_puts p in s.due ∙ h
entry_clear locked at p (entries.SwapOut pid) h = h
entry_clear locked at p (entries.SwapIn pid) h = h
entry_clear locked at p _ h = h

-- units that force a frame leave what is due
force_keeps : (p : Placement) (locked : List Page) → Keeps p (force p locked)
force_keeps p locked = force_cases (Keeps p) p locked (λ e. move_kept keeps_by_puts keeps_advance p locked) (λ t ts e. done_kept keeps_by_puts p)

pub forces_due : (us : List Entry) (p r : Placement) (locked : List Page) → Forces us p locked r → r.due ≡ p.due
forces_due [] p r locked f = sym (ap (λ (x : Placement). x.due) f)
forces_due (e ∷ us) p r locked f = let s = force_keeps p locked in forces_due us (force p locked) r locked f.2 ∙ s.due

-- the first page that is due is filled
pub first_gone : (q : Page) (ds : List Due) → due_after (Start q ∷ ds) q ≡ ds
first_gone q ds = ap (λ (b : Bool). cond b ds (Start q ∷ ds)) (same_page_self q)

-- Changes.

give_up_keeps : (p : Placement) (sid : ℕ) → Keeps p (give_up p sid)
give_up_keeps p sid =
    let d = drop_all p (pages_of_space p sid) in
    let s : Keeps p d = drop_all_kept keeps_by_puts (pages_of_space p sid) p in
    let l = left (remove_space d sid) (image_of p sid) in
    record { due = l.due ∙ s.due; count = l.count ∙ s.count }
  where
    left : (r : Placement) (image : ℕ) → Keeps r (leave_text r image)
    left r image = go (sharers r image)
      where
        go : (n : ℕ) → Keeps r (leave_text_by r image n)
        go zero = leave_all_kept keeps_by_puts (pages_of_text r image) r
        go (suc n) = keeps_self r

give_up_unless_keeps : (borrowed : Bool) (p : Placement) (sid : ℕ) → Keeps p (give_up_unless borrowed p sid)
give_up_unless_keeps true p sid = keeps_self p
give_up_unless_keeps false p sid = give_up_keeps p sid

resize_keeps : (p : Placement) (sid data_now stack_now : ℕ) → Keeps p (resize p sid data_now stack_now)
resize_keeps p sid data_now stack_now =
    let gone = data_from sid data_now (data_count p sid - data_now) ++ stack_from sid stack_now (stack_count p sid - stack_now) in
    let s : Keeps p (drop_all p gone) = drop_all_kept keeps_by_puts gone p in
    record { due = s.due; count = s.count }

entered_frames : (p : Placement) (sid image : ℕ) (o : Option Image) → length (enter_image p sid image o).holds ≡ length p.holds
entered_frames p sid image None = refl
entered_frames p sid image (Some facts) = refl

-- a change leaves as many frames
pub change_frames : (c : Changing) (p : Placement) (change : Change)
    → length (place_change c p change).holds ≡ length p.holds
change_frames c p changes.Keep = refl
change_frames c p (changes.Resize data_now stack_now) = let s = resize_keeps p c.sid data_now stack_now in s.count
change_frames c p (changes.Fork child) = refl
change_frames c p (changes.Lend child) = refl
change_frames c p (changes.Exec image top) =
    let e = enter_image p c.next_sid image (facts_numbered c.images image) in
    let s = give_up_unless_keeps c.borrowed e c.sid in
    s.count ∙ entered_frames p c.next_sid image (facts_numbered c.images image)
change_frames c p (changes.Reap child) = refl
change_frames c p changes.Sleep = refl
change_frames c p (changes.End status) = let s = give_up_unless_keeps c.borrowed p c.sid in s.count

-- after an image nothing is due once the new stack page was filled
entered_filled : (p : Placement) (sid image : ℕ) (o : Option Image) → p.due ≡ [] → due_after (enter_image p sid image o).due (Stack sid 0) ≡ []
entered_filled p sid image None h = ap (λ (ds : List Due). due_after ds (Stack sid 0)) h
entered_filled p sid image (Some facts) h = first_gone (Stack sid 0) []

pub exec_filled : (c : Changing) (p : Placement) (image : ℕ) (top : List ℕ) → p.due ≡ []
    → due_after (place_change c p (changes.Exec image top)).due (Stack c.next_sid 0) ≡ []
exec_filled c p image top h =
    let s = give_up_unless_keeps c.borrowed (enter_image p c.next_sid image (facts_numbered c.images image)) c.sid in
    ap (λ (ds : List Due). due_after ds (Stack c.next_sid 0)) s.due ∙ entered_filled p c.next_sid image (facts_numbered c.images image) h
