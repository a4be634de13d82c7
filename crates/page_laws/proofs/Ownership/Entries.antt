-- Each entry keeps the ownership of frames.
use Rattle.std.proofs.Common.{◌≡◌, ℕ, ◌-◌, Bool, true, false, List, ◌++◌, Option, Some, None, inl, inr, refl, sym, subst, arith}
use Rattle.vm_facts.specs.declared.page.Page.{Page}
use Rattle.vm_facts.specs.declared.page.Page.TheVariants.{Data, Stack}
use Rattle.vm_facts.specs.declared.entry.Entry.{Entry}
use Rattle.vm_facts.specs.declared.entry.Entry.TheVariants as entries
use Rattle.page_model.specs.Flat.{FlatState, process_of}
use Rattle.page_model.specs.Change.{Change}
use Rattle.page_model.specs.Change.TheVariants.{Resize, Fork, Lend, Exec, End}
use Rattle.page_model.specs.PageNames.{number_of, pages_from}
use Rattle.page_model.specs.Placement.{Placement, state_of}
use Rattle.page_model.specs.Moves.{fill, touch_all}
use Rattle.page_model.specs.Place.{Changing, changing_in, filled, moved, data_from, stack_from, data_count, stack_count, give_up_unless, enter_image, fork_space, place_change, place_entry, place_step, space_of_process, facts_numbered}
use Rattle.page_model.specs.FlatStateChange.{is_borrower}
use Rattle.page_model.specs.Reading.{source_for}
use Rattle.page_model.specs.Conditions.{AtRest, AllAtRest, CanEnter, IsNew, IsSettled, LosesPages, CanPlace, CanChange}
use Rattle.page_model.specs.Ownership.{OwnsFrames}
use Rattle.page_laws.proofs.Ownership.Pages.{fill_owner, reclaim_owner}
use Rattle.page_laws.proofs.Lists.Runs.{each_page_append, pages_from_each, pages_from_apart}
use Rattle.page_laws.proofs.Ownership.Runs.{get_run_owner, put_step_owner, done_owner}
use Rattle.page_laws.proofs.Ownership.Hands.{moves_owner}
use Rattle.page_laws.proofs.Ownership.Changes.{alike_owner, dropped_pages, resize_owner, fork_owner, enter_space_owner, give_up_owner, begin_residence_owner, end_residence_owner, touch_all_owner}
use Rattle.aout_image.specs.declared.Image.{Image}

pub filled_owner : (p : Placement) (q : Page) → OwnsFrames p → CanEnter p q → OwnsFrames (filled p q)
filled_owner p q o c = alike_owner (fill p q) (filled p q) (fill_owner p q o c) refl refl refl (λ w. (refl, refl))

pub place_entry_owner : (locked : List Page) (at : ℕ) (p : Placement) (e : Entry) → OwnsFrames p → CanPlace p e → OwnsFrames (place_entry locked at p e)
place_entry_owner locked at p (entries.Zero q) o c = filled_owner p q o c
place_entry_owner locked at p (entries.Get q lo n) o c = get_run_owner p (source_for (state_of p q)) q (pages_from q lo n) o c (pages_from_apart q lo n)
place_entry_owner locked at p (entries.Copy q) o c = filled_owner p q o c
place_entry_owner locked at p (entries.Reclaim q) o c = reclaim_owner p q o
place_entry_owner locked at p (entries.Hands n) o c = moves_owner n p locked o
place_entry_owner locked at p (entries.Put q n) o c = put_step_owner p q (pages_from q (number_of q) n) o c.0 c.1 (pages_from_apart q (number_of q) n)
place_entry_owner locked at p entries.Done o c = done_owner p o
place_entry_owner locked at p (entries.SwapOut pid) o c = alike_owner p (moved p pid true at) o refl refl refl (λ w. (refl, refl))
place_entry_owner locked at p (entries.SwapIn pid) o c = alike_owner p (moved p pid false at) o refl refl refl (λ w. (refl, refl))
place_entry_owner locked at p _ o c = o

-- all pages of a settled space rest
pub settled_from : (p : Placement) (sid : ℕ) → IsSettled p sid → (d dn s sn : ℕ) → AllAtRest p (data_from sid d dn ++ stack_from sid s sn)
settled_from p sid k d dn s sn = each_page_append (λ q. AtRest (state_of p q)) (data_from sid d dn) (stack_from sid s sn)
    (pages_from_each (λ q. AtRest (state_of p q)) (Data sid d) d dn (λ w l m. k.data_rests w))
    (pages_from_each (λ q. AtRest (state_of p q)) (Stack sid s) s sn (λ w l m. k.stack_rests w))

-- so do those that a smaller size drops, where that asks for a settled space
lost_from : (p : Placement) (sid d s : ℕ) → (LosesPages p sid d s → IsSettled p sid)
    → AllAtRest p (data_from sid d (data_count p sid - d) ++ stack_from sid s (stack_count p sid - s))
lost_from p sid d s k = each_page_append (λ q. AtRest (state_of p q)) (data_from sid d (data_count p sid - d)) (stack_from sid s (stack_count p sid - s))
    (pages_from_each (λ q. AtRest (state_of p q)) (Data sid d) d (data_count p sid - d) (λ w l m. let r : IsSettled p sid = k (inl (omega arith)) in r.data_rests w))
    (pages_from_each (λ q. AtRest (state_of p q)) (Stack sid s) s (stack_count p sid - s) (λ w l m. let r : IsSettled p sid = k (inr (omega arith)) in r.stack_rests w))

give_up_unless_owner : (borrowed : Bool) (p : Placement) (sid : ℕ) → OwnsFrames p → (borrowed ≡ false → IsSettled p sid)
    → OwnsFrames (give_up_unless borrowed p sid)
give_up_unless_owner true p sid o k = o
give_up_unless_owner false p sid o k = give_up_owner p sid o (settled_from p sid (k refl) 0 (data_count p sid) 0 (stack_count p sid))

pub enter_image_owner : (p : Placement) (sid image : ℕ) (facts : Option Image) → OwnsFrames p → IsNew p sid → OwnsFrames (enter_image p sid image facts)
enter_image_owner p sid image None o n = o
enter_image_owner p sid image (Some facts) o n = enter_space_owner p sid image facts o n

-- a new image leaves all pages of a settled space at rest
pub enter_settled : (p : Placement) (next_sid image sid : ℕ) (facts : Option Image) → OwnsFrames p → IsNew p next_sid → IsSettled p sid
    → IsSettled (enter_image p next_sid image facts) sid
enter_settled p next_sid image sid None o n k = k
enter_settled p next_sid image sid (Some facts) o n k = record {
  data_rests = λ v. subst AtRest (sym ((Rattle.page_laws.proofs.Ownership.Changes.enter_alike p next_sid image facts n (Data sid v)).0)) (k.data_rests v);
  stack_rests = λ v. subst AtRest (sym ((Rattle.page_laws.proofs.Ownership.Changes.enter_alike p next_sid image facts n (Stack sid v)).0)) (k.stack_rests v);
}

pub place_change_owner : (who : Changing) (p : Placement) (change : Change) → OwnsFrames p
    → CanChange p who.sid who.borrowed who.next_sid change
    → OwnsFrames (place_change who p change)
place_change_owner who p (Resize d s) o c = resize_owner p who.sid d s o (lost_from p who.sid d s c)
place_change_owner who p (Fork child) o c = begin_residence_owner (fork_space p who.sid who.next_sid) child who.at (fork_owner p who.sid who.next_sid o c)
place_change_owner who p (Lend child) o c = begin_residence_owner p child who.at o
place_change_owner who p (Exec image top) o c =
    give_up_unless_owner who.borrowed (enter_image p who.next_sid image (facts_numbered who.images image)) who.sid (enter_image_owner p who.next_sid image (facts_numbered who.images image) o c.0)
    (λ e. enter_settled p who.next_sid image who.sid (facts_numbered who.images image) o c.0 (c.1 e))
place_change_owner who p (End status) o c = end_residence_owner (give_up_unless who.borrowed p who.sid) who.pid (give_up_unless_owner who.borrowed p who.sid o c)
place_change_owner who p _ o c = o

pub place_step_owner : (images : List Image) (flat : FlatState) (pid at : ℕ) (written : List Page) (change : Change) (p : Placement) → OwnsFrames p
    → CanChange (touch_all p written) (space_of_process (process_of flat pid)) (is_borrower flat.processes pid) flat.next_sid change
    → OwnsFrames (place_step images flat pid at written change p)
place_step_owner images flat pid at written change p o c =
    place_change_owner (changing_in images flat pid at) (touch_all p written) change (touch_all_owner written p o) c
