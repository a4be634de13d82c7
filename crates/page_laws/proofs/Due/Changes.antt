-- What is due stands after each change of a process.
use Rattle.std.proofs.Common.{◌≡◌, ◌≢◌, ℕ, zero, suc, ◌<◌, Bool, true, false, List, [], ◌∷◌, ◌++◌, length, get_or, cond, Option, Some, None, refl, sym, ap, ◌∙◌, subst}
use Rattle.vm_facts.specs.declared.page.Page.{Page}
use Rattle.vm_facts.specs.declared.page.Page.TheVariants.{Data, Stack, Text}
use Rattle.page_model.specs.Change.{Change}
use Rattle.page_model.specs.Change.TheVariants.{Resize, Fork, Lend, Exec, End}
use Rattle.page_model.specs.Pages.{Slot, no_slot, data_in, stack_in}
use Rattle.page_model.specs.PageNames.{number_of, same_page}
use Rattle.page_model.specs.Placement.{Placement, Due, Start, CopyOf, due_of_page, filling_by, slots_of, slot_of, sharers, image_of}
use Rattle.page_model.specs.Moves.{touch, drop_all, leave_page, leave_all}
use Rattle.page_model.specs.Place.{Changing, data_count, stack_count, data_from, stack_from, fork_space, enter_space, enter_image, remove_space, pages_of_space, pages_of_text, leave_text, leave_text_by, give_up, give_up_unless, place_change, facts_numbered}
use Rattle.page_model.specs.Conditions.{EachPage, IsNew, CanChange, ApartFrom}
use Rattle.page_model.specs.PageBytes.{IsWritable}
use Rattle.page_model.specs.Dues.{HasSource, IsDue, DueStand}
use Rattle.page_laws.proofs.Moves.Puts.{rest_by_puts, leave_all_kept}
use Rattle.page_laws.proofs.Lists.Local.{none_some}
use Rattle.std.proofs.lemmas.Option.{same_Some}
use Rattle.page_model.proofs.PageNames.{same_page_is}
use Rattle.page_laws.proofs.Lists.Runs.{each_page_append, pages_from_each}
use Rattle.page_laws.proofs.Ownership.Spaces.{drop_all_other, drop_all_length}
use Rattle.page_laws.proofs.Ownership.Changes.{dropped_pages, removed_other}
use Rattle.page_laws.proofs.Blocks.Changes.{leave_other}
use Rattle.page_laws.proofs.Bytes.Changes.{drop_all_rest}
use Rattle.page_laws.proofs.Blocks.Changes.{leave_text_length}
use Rattle.page_laws.proofs.Moves.Stays.{steady_stays}
use Rattle.page_laws.proofs.Bytes.Others.{touch_steady}
use Rattle.page_laws.proofs.Due.Entries.{stays_due, resident_due}
use Rattle.page_laws.proofs.Due.Spaces.{fork_due, enter_due}
use Rattle.aout_image.specs.declared.Image.{Image}
use Rattle.page_laws.proofs.Lists.Pages.{key_of}

-- nothing is due
pub none_due : (p : Placement) → p.due ≡ [] → DueStand p
none_due p e q d h = none_some d (ap (λ (ds : List Due). due_of_page ds q) (sym e) ∙ h)

-- A user write fills no page and moves none.
pub touch_due : (p : Placement) (q : Page) → DueStand p → DueStand (touch p q)
touch_due p q = stays_due p (touch p q) (steady_stays p (touch p q) (touch_steady p q))

-- A space that goes leaves the pages of other spaces alone.

not_of_space : (w : Page) (sid dn sn : ℕ) → key_of w ≢ sid → EachPage (λ r. w ≢ r) (data_from sid 0 dn ++ stack_from sid 0 sn)
not_of_space w sid dn sn n = each_page_append (λ r. w ≢ r) (data_from sid 0 dn) (stack_from sid 0 sn)
    (pages_from_each (λ r. w ≢ r) (Data sid 0) 0 dn (λ v l m e. n (ap key_of e)))
    (pages_from_each (λ r. w ≢ r) (Stack sid 0) 0 sn (λ v l m e. n (ap key_of e)))

not_of_text : (w : Page) (image n : ℕ) → IsWritable w → EachPage (λ r. w ≢ r) (Rattle.page_model.specs.PageNames.pages_from (Text image 0) 0 n)
not_of_text (Data sid v) image n i = pages_from_each (λ r. Data sid v ≢ r) (Text image 0) 0 n (λ w l m e. absurd cc)
not_of_text (Stack sid v) image n i = pages_from_each (λ r. Stack sid v ≢ r) (Text image 0) 0 n (λ w l m e. absurd cc)
not_of_text (Text j v) image n i = absurd i

pub leave_all_other : (qs : List Page) (p : Placement) (w : Page) → EachPage (λ r. w ≢ r) qs → slot_of (leave_all p qs) w ≡ slot_of p w
leave_all_other [] p w n = refl
leave_all_other (v ∷ qs) p w n = leave_all_other qs (leave_page p v) w n.1 ∙ leave_other p v w n.0

leave_text_other : (p : Placement) (image : ℕ) (w : Page) → IsWritable w → slot_of (leave_text p image) w ≡ slot_of p w
leave_text_other p image w i = go (sharers p image)
  where
    go : (n : ℕ) → slot_of (leave_text_by p image n) w ≡ slot_of p w
    go zero = leave_all_other (pages_of_text p image) p w (not_of_text w image (length (slots_of p (Text image 0))) i)
    go (suc n) = refl

remove_slots : (p : Placement) (sid : ℕ) (w : Page) → IsWritable w → key_of w ≢ sid → slots_of (remove_space p sid) w ≡ slots_of p w
remove_slots p sid (Data t v) i n = ap data_in (removed_other sid t p.spaces n)
remove_slots p sid (Stack t v) i n = ap stack_in (removed_other sid t p.spaces n)
remove_slots p sid (Text j v) i n = absurd i

pub give_up_slot : (p : Placement) (sid : ℕ) (w : Page) → IsWritable w → key_of w ≢ sid → slot_of (give_up p sid) w ≡ slot_of p w
give_up_slot p sid w i n =
    let d : Placement = drop_all p (pages_of_space p sid) in
    leave_text_other (remove_space d sid) (image_of p sid) w i ∙ ap (λ (xs : List Slot). get_or xs (number_of w) no_slot) (remove_slots d sid w i n)
    ∙ drop_all_other (pages_of_space p sid) p w (not_of_space w sid (data_count p sid) (stack_count p sid) n)

pub give_up_length : (p : Placement) (sid : ℕ) (w : Page) → IsWritable w → key_of w ≢ sid → length (slots_of (give_up p sid) w) ≡ length (slots_of p w)
give_up_length p sid w i n =
    let d : Placement = drop_all p (pages_of_space p sid) in
    leave_text_length (remove_space d sid) (image_of p sid) w ∙ ap length (remove_slots d sid w i n) ∙ drop_all_length (pages_of_space p sid) p w

pub leave_all_due : (qs : List Page) (p : Placement) → (leave_all p qs).due ≡ p.due
leave_all_due qs p = (leave_all_kept rest_by_puts qs p).due

give_up_due : (p : Placement) (sid : ℕ) → (give_up p sid).due ≡ p.due
give_up_due p sid = go (sharers r (image_of p sid)) ∙ (drop_all_rest (pages_of_space p sid) p).1
  where
    r : Placement
    r = remove_space (drop_all p (pages_of_space p sid)) sid

    go : (n : ℕ) → (leave_text_by r (image_of p sid) n).due ≡ r.due
    go zero = leave_all_due (pages_of_text r (image_of p sid)) r
    go (suc n) = refl

pub unless_due : (borrowed : Bool) (p : Placement) (sid : ℕ) → (give_up_unless borrowed p sid).due ≡ p.due
unless_due true p sid = refl
unless_due false p sid = give_up_due p sid

-- what is due of a space, and what it is copied from
abbrev OfOthers : ℕ → Page → Due → Type 0
OfOthers sid q (Start r) = key_of q ≢ sid
OfOthers sid q (CopyOf r parent) = (key_of q ≢ sid) × (key_of parent ≢ sid)

page_other : (sid : ℕ) (q : Page) (d : Due) → OfOthers sid q d → key_of q ≢ sid
page_other sid q (Start r) o = o
page_other sid q (CopyOf r parent) o = o.0

source_stands : (p : Placement) (sid : ℕ) (q : Page) (d : Due) → OfOthers sid q d → HasSource p d → HasSource (give_up p sid) d
source_stands p sid q (Start r) o h = tt
source_stands p sid q (CopyOf r parent) o h = (h.0, λ e. h.1 (sym (ap (λ (x : Slot). x.state) (give_up_slot p sid parent h.0 o.1)) ∙ e))

-- Giving up a space, of which nothing is due or to be copied.
pub given_due : (p : Placement) (sid : ℕ) → ((q : Page) (d : Due) → due_of_page p.due q ≡ Some d → OfOthers sid q d) → DueStand p → DueStand (give_up p sid)
given_due p sid o s q d e =
    let found : due_of_page p.due q ≡ Some d = ap (λ (ds : List Due). due_of_page ds q) (sym (give_up_due p sid)) ∙ e in
    let was : IsDue p q d = s q d found in
    let other : key_of q ≢ sid = page_other sid q d (o q d found) in
    let slot : slot_of (give_up p sid) q ≡ slot_of p q = give_up_slot p sid q was.writable other in
    record {
      writable = was.writable;
      there = subst (λ (n : ℕ). number_of q < n) (sym (give_up_length p sid q was.writable other)) was.there;
      unfilled = ap (λ (x : Slot). x.state) slot ∙ was.unfilled;
      zeros = ap (λ (x : Slot). filling_by q x.filling) slot ∙ was.zeros;
      source = source_stands p sid q d (o q d found) was.source;
    }

start_others : (sid next : ℕ) (q : Page) (d : Due) → next ≢ sid → due_of_page (Start (Stack next 0) ∷ []) q ≡ Some d → OfOthers sid q d
start_others sid next q d n e = go (same_page (Stack next 0) q) refl e
  where
    go : (b : Bool) → same_page (Stack next 0) q ≡ b → cond b (Some (Start (Stack next 0))) None ≡ Some d → OfOthers sid q d
    go false h k = none_some d k
    go true h k = subst (OfOthers sid q) (same_Some (Start (Stack next 0)) d k) (subst (λ (x : Page). key_of x ≢ sid) (same_page_is (Stack next 0) q h) n)

exec_due : (borrowed : Bool) (p : Placement) (next image sid : ℕ) (facts : Option Image) → p.due ≡ [] → IsNew p next → (borrowed ≡ false → next ≢ sid)
    → DueStand (give_up_unless borrowed (enter_image p next image facts) sid)
exec_due true p next image sid None e new a = none_due p e
exec_due false p next image sid None e new a = none_due (give_up p sid) (give_up_due p sid ∙ e)
exec_due true p next image sid (Some facts) e new a = enter_due p next image facts new
exec_due false p next image sid (Some facts) e new a = given_due (enter_space p next image facts) sid (λ q d h. start_others sid next q d (a refl) h) (enter_due p next image facts new)

-- A change that comes while nothing is due.
pub change_due : (who : Changing) (p : Placement) (change : Change) → p.due ≡ []
    → CanChange p who.sid who.borrowed who.next_sid change
    → ApartFrom who.sid who.borrowed who.next_sid change → DueStand (place_change who p change)
change_due who p (Resize d s) e c a = none_due (place_change who p (Resize d s)) ((drop_all_rest (dropped_pages p who.sid d s) p).1 ∙ e)
change_due who p (Fork child) e c a = resident_due (fork_space p who.sid who.next_sid) (place_change who p (Fork child)).residents (fork_due p who.sid who.next_sid c)
change_due who p (Lend child) e c a = none_due (place_change who p (Lend child)) e
change_due who p (Exec image top) e c a = exec_due who.borrowed p who.next_sid image who.sid (facts_numbered who.images image) e c.0 a
change_due who p (End status) e c a = none_due (place_change who p (End status)) (unless_due who.borrowed p who.sid ∙ e)
change_due who p _ e c a = none_due p e
