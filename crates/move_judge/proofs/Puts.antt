-- Where pages may leave their frames the call may be made.
use Rattle.std.proofs.Common.{◌≡◌, ℕ, ◌<◌, ◌≤◌, ◌==◌, nat_lt, nat_le, ◌&&◌, Bool, true, false, [], None, refl, sym, subst, arith}
use Rattle.std.proofs.lemmas.Bool.{eqb-true, and_parts}
use Rattle.std.proofs.lemmas.Bool.Decides.{nat_tests}
use Rattle.vm_facts.specs.declared.page.Page.{Page}
use Rattle.vm_facts.specs.declared.page.Page.TheVariants.{Data, Stack, Text}
use Rattle.flat_state.specs.PageNames.{number_of, beside, pages_from}
use Rattle.page_model.specs.Placement.{Placement, state_of, is_dirty}
use Rattle.page_model.specs.Runs.{is_seated, most_written}
use Rattle.page_model.specs.Conditions.{EachPage, HasSeat, IsShared}
use Rattle.page_model.specs.PageBytes.{IsWritable}
use Rattle.page_laws.proofs.Ownership.Runs.{seated_seat}
use Rattle.machine_state.specs.Calls.{AreAlike, CanPush}
use Rattle.paged_model.specs.declared.reason.Reason.TheVariants as reasons
use Rattle.paged_model.specs.Reasons.{unless, or_reason}
use Rattle.paged_model.specs.Moves.{is_there, if_there, no_room, wrong_length, each_page, apart}
use Rattle.paged_model.specs.Leaving.{unseated_if, unseated, put_along, put_reason_by}
use Rattle.paged_model.proofs.Reasoned.{or_none, unless_none}
use Rattle.paged_model.proofs.There.{if_there_none}
use Rattle.paged_model.proofs.Brought.{each_run, room_left}
use Rattle.paged_model.proofs.PartReasons.{unseated_some}
use Rattle.swapper.specs.Putting.{IsOfSegment}

-- Pages of a space.

pub own_shared : (p : Placement) (sid : ℕ) (q : Page) → IsOfSegment sid q → IsShared p q
own_shared p sid (Data s v) h = tt
own_shared p sid (Stack s v) h = tt
own_shared p sid (Text image v) h = absurd h

pub own_along : (p : Placement) (sid : ℕ) (q : Page) → IsOfSegment sid q → (v : ℕ) → IsShared p (beside q v)
own_along p sid (Data s v) h w = tt
own_along p sid (Stack s v) h w = tt
own_along p sid (Text image v) h w = absurd h

own_writable : (sid : ℕ) (q : Page) → IsOfSegment sid q → IsWritable q
own_writable sid (Data s v) h = tt
own_writable sid (Stack s v) h = tt
own_writable sid (Text image v) h = absurd h

-- How many pages.

pub few_pages : (n : ℕ) → wrong_length n ≡ None → (0 < n) × (n ≤ 16)
few_pages n e =
    let both = and_parts (nat_lt 0 n) (nat_le n most_written) (unless_none (nat_lt 0 n && nat_le n most_written) reasons.WrongLength e) in
    let one : nat_lt 0 n ≡ true = both.0 in
    let other : nat_le n 16 ≡ true = both.1 in
    (grind (arith, nat_tests, one), grind (arith, nat_tests, other))

-- Pages in frames off the free list.

pub seat_true : (p : Placement) (q : Page) → unseated p q ≡ None → is_seated p q ≡ true
seat_true p q e = go (is_seated p q) refl e
  where
    go : (b : Bool) → is_seated p q ≡ b → unseated_if p q b ≡ None → b ≡ true
    go true i x = refl
    go false i x = absurd (unseated_some q (state_of p q) x)

seat_of : (p : Placement) (q : Page) → unseated p q ≡ None → HasSeat p q
seat_of p q e = seated_seat p q (seat_true p q e)

-- what is asked of a page that is written along
record Goes (p : Placement) (q : Page) : Type 0 where
  seat : HasSeat p q
  dirty : is_dirty p q ≡ true

along_goes : (p : Placement) (q : Page) (i : ℕ) → put_along p q (beside q i) ≡ None → Goes p (beside q i)
along_goes p q i e =
    let w = beside q i in
    let a = if_there_none (is_there p w) w (or_reason (unseated p w) (or_reason (unless (is_dirty p w) (reasons.IsClean w)) (apart q w))) e in
    let b = or_none (unseated p w) (or_reason (unless (is_dirty p w) (reasons.IsClean w)) (apart q w)) a.1 in
    let c = or_none (unless (is_dirty p w) (reasons.IsClean w)) (apart q w) b.1 in
    record { seat = seat_of p w b.0; dirty = unless_none (is_dirty p w) (reasons.IsClean w) c.0 }

one_from : (p : Placement) (q : Page) → HasSeat p q → EachPage (HasSeat p) (pages_from q (number_of q) 1)
one_from p (Data sid v) h = (h, tt)
one_from p (Stack sid v) h = (h, tt)
one_from p (Text image v) h = (h, tt)

pub put_can : (p : Placement) (sid : ℕ) (q : Page) (n : ℕ) → IsOfSegment sid q → p.due ≡ []
    → if_there (is_there p q) q (or_reason (wrong_length n) (or_reason (unseated p q) (put_reason_by p q n (is_dirty p q)))) ≡ None → CanPush p q n
put_can p sid q n own clear e =
    let a = if_there_none (is_there p q) q (or_reason (wrong_length n) (or_reason (unseated p q) (put_reason_by p q n (is_dirty p q)))) e in
    let b = or_none (wrong_length n) (or_reason (unseated p q) (put_reason_by p q n (is_dirty p q))) a.1 in
    let c = or_none (unseated p q) (put_reason_by p q n (is_dirty p q)) b.1 in
    let few = few_pages n b.0 in
    go few.0 few.1 (seat_of p q c.0) (is_dirty p q) refl c.1
  where
    go : 0 < n → n ≤ 16 → HasSeat p q → (b : Bool) → is_dirty p q ≡ b → put_reason_by p q n b ≡ None → CanPush p q n
    go some most seat true i x =
        let o = or_none (each_page (put_along p q) (pages_from q (number_of q) n)) (no_room p) x in
        record {
          clear = clear;
          writable = own_writable sid q own;
          some = some;
          most = most;
          seats = each_run q (put_along p q) (HasSeat p) (λ j h. let g : Goes p (beside q j) = along_goes p q j h in g.seat) (number_of q) n o.0;
          alike = subst (AreAlike p q n) (sym i)
              (each_run q (put_along p q) (λ r. is_dirty p r ≡ true) (λ j h. let g : Goes p (beside q j) = along_goes p q j h in g.dirty) (number_of q) n o.0, room_left p o.1);
        }
    go some most seat false i x =
        let one : n ≡ 1 = eqb-true n 1 (unless_none (n == 1) (reasons.IsClean q) x) in
        record {
          clear = clear;
          writable = own_writable sid q own;
          some = some;
          most = most;
          seats = subst (λ (m : ℕ). EachPage (HasSeat p) (pages_from q (number_of q) m)) (sym one) (one_from p q seat);
          alike = subst (AreAlike p q n) (sym i) one;
        }
