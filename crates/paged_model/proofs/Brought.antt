-- Where no reason is given a read may begin.
use Rattle.std.proofs.Common.{◌≡◌, ℕ, suc, zero, ◌+◌, ◌<◌, ◌≤◌, nat_lt, nat_le, ◌&&◌, not, Bool, true, false, List, [], ◌∷◌, length, Option, Some, None, refl, sym, ap, ◌∙◌, subst, arith}
use Rattle.std.proofs.lemmas.Bool.Decides.{nat_tests}
use Rattle.vm_facts.specs.declared.page.Page.{Page}
use Rattle.vm_facts.specs.declared.page.Page.TheVariants.{Data, Stack, Text}
use Rattle.vm_facts.specs.declared.page.PageState.{PageState}
use Rattle.vm_facts.specs.declared.page.PageState.TheVariants.{Unfilled, Valid, Invalid, Coming, Going, OnSwap}
use Rattle.flat_state.specs.PageNames.{number_of, beside, pages_from}
use Rattle.flat_state.proofs.PageNames.{same_page_is}
use Rattle.page_model.specs.Pages.{Filling, Zeros, OfImage, frame_of, is_unfilled, is_on_swap}
use Rattle.page_model.specs.Placement.{Placement, Source, FromSwap, FromFile, Due, state_of, filling_of, due_of_page, IsThere}
use Rattle.page_model.specs.Conditions.{EachPage, CanEnter}
use Rattle.page_model.specs.Dues.{DueStand, IsDue, NotDue}
use Rattle.page_model.specs.PageBytes.{ReadsFrom}
use Rattle.page_model.specs.Reading.{source_for}
use Rattle.page_model.specs.Runs.{most_written}
use Rattle.page_model.specs.Serve.{is_full}
use Rattle.paged_model.specs.declared.reason.Reason.{Reason}
use Rattle.paged_model.specs.declared.reason.Reason.TheVariants as reasons
use Rattle.paged_model.specs.Reasons.{unless, or_reason}
use Rattle.paged_model.specs.Moves.{is_there, has_zeros, few_frames, no_room, unshared, wrong_length, each_page, apart, comes_along, reads_with, read_reason, not_among, run_reason, get_by, get_reason}
use Rattle.paged_model.proofs.Reasoned.{or_none, unless_none}
use Rattle.paged_model.specs.Coming.{GetComes}
use Rattle.paged_model.proofs.There.{true_there, if_there_none}
use Rattle.paged_model.proofs.Comes.{shared_is}

-- what no page of a run gives a reason against is so of each
pub each_run : (q : Page) (reason : Page → Option Reason) (P : Page → Type 0) → ((i : ℕ) → reason (beside q i) ≡ None → P (beside q i)) → (lo n : ℕ)
    → each_page reason (pages_from q lo n) ≡ None → EachPage P (pages_from q lo n)
each_run q reason P f lo zero e = tt
each_run q reason P f lo (suc n) e =
    let o = or_none (reason (beside q lo)) (each_page reason (pages_from q (lo + 1) n)) e in (f lo o.0, each_run q reason P f (lo + 1) n o.1)

on_swap : (s : PageState) → is_on_swap s ≡ true → s ≡ OnSwap
on_swap OnSwap e = refl
on_swap Unfilled e = absurd cc
on_swap (Valid f) e = absurd cc
on_swap (Invalid f) e = absurd cc
on_swap (Coming f) e = absurd cc
on_swap (Going f) e = absurd cc

unfilled : (s : PageState) → is_unfilled s ≡ true → s ≡ Unfilled
unfilled Unfilled e = refl
unfilled OnSwap e = absurd cc
unfilled (Valid f) e = absurd cc
unfilled (Invalid f) e = absurd cc
unfilled (Coming f) e = absurd cc
unfilled (Going f) e = absurd cc

of_image : (x : Filling) → not (has_zeros x) ≡ true → x ≡ OfImage
of_image OfImage e = refl
of_image Zeros e = absurd cc

zeros_not : Zeros ≡ OfImage → ⊥
zeros_not e = let b : true ≡ false = ap has_zeros e in absurd cc

-- what is filled from a file isn't due
pub file_not_due : (p : Placement) (q : Page) → DueStand p → filling_of p q ≡ OfImage → NotDue p.due q
file_not_due p q s f = go (due_of_page p.due q) refl
  where
    go : (o : Option Due) → due_of_page p.due q ≡ o → o ≡ None
    go None e = refl
    go (Some d) e = let was : IsDue p q d = s q d e in absurd (zeros_not (sym was.zeros ∙ f))

-- a page that comes along with one that is read from its file
file_reads : (p : Placement) (q : Page) (i : ℕ) → DueStand p → state_of p q ≡ Unfilled → filling_of p q ≡ OfImage
    → comes_along p q (beside q i) ≡ true → ReadsFrom p FromFile q (beside q i)
file_reads p (Text image v) i s e f c =
    (unfilled (state_of p (Text image i)) c, refl, file_not_due p (Text image i) s refl, λ w. absurd w)
file_reads p (Data sid v) i s e f c =
    subst (λ (w : Page). ReadsFrom p FromFile (Data sid v) w) (same_page_is (Data sid v) (Data sid i) c) (e, f, file_not_due p (Data sid v) s f, λ w. refl)
file_reads p (Stack sid v) i s e f c =
    subst (λ (w : Page). ReadsFrom p FromFile (Stack sid v) w) (same_page_is (Stack sid v) (Stack sid i) c) (e, f, file_not_due p (Stack sid v) s f, λ w. refl)

reads_frameless : (p : Placement) (source : Source) (q w : Page) → ReadsFrom p source q w → frame_of (state_of p w) ≡ None
reads_frameless p FromSwap q w r = ap frame_of r
reads_frameless p FromFile q w r = ap frame_of r.0

-- what a read asks of each page of its run
record Reads (p : Placement) (source : Source) (q w : Page) : Type 0 where
  there : IsThere p w
  reads : ReadsFrom p source q w

enters : (p : Placement) (source : Source) (q : Page) (ws : List Page) → EachPage (Reads p source q) ws → EachPage (CanEnter p) ws
enters p source q [] e = tt
enters p source q (w ∷ ws) e =
    let x : Reads p source q w = e.0 in (record { there = x.there; frameless = reads_frameless p source q w x.reads }, enters p source q ws e.1)

all_read : (p : Placement) (source : Source) (q : Page) (ws : List Page) → EachPage (Reads p source q) ws → EachPage (ReadsFrom p source q) ws
all_read p source q [] e = tt
all_read p source q (w ∷ ws) e = let x : Reads p source q w = e.0 in (x.reads, all_read p source q ws e.1)

-- each page of a run that is read from the file
file_run : (p : Placement) (q : Page) (lo n : ℕ) → DueStand p → state_of p q ≡ Unfilled → filling_of p q ≡ OfImage
    → each_page (read_reason p q Unfilled) (pages_from q lo n) ≡ None → EachPage (Reads p FromFile q) (pages_from q lo n)
file_run p q lo n d e f g =
    each_run q (read_reason p q Unfilled) (Reads p FromFile q)
    (λ i r. let a = if_there_none (is_there p (beside q i)) (beside q i) (reads_with p q Unfilled (beside q i)) r in
    record {
      there = true_there p (beside q i) a.0;
      reads = file_reads p q i d e f (unless_none (comes_along p q (beside q i)) (reasons.ReadElsewhere (beside q i)) a.1);
    })
    lo n g

-- and from swap
swap_reads : (p : Placement) (q : Page) (lo n : ℕ) → each_page (read_reason p q OnSwap) (pages_from q lo n) ≡ None
    → EachPage (Reads p FromSwap q) (pages_from q lo n)
swap_reads p q lo n g =
    each_run q (read_reason p q OnSwap) (Reads p FromSwap q)
    (λ i r. let a = if_there_none (is_there p (beside q i)) (beside q i) (reads_with p q OnSwap (beside q i)) r in
    let b = or_none (unless (is_on_swap (state_of p (beside q i))) (reasons.ReadElsewhere (beside q i))) (apart q (beside q i)) a.1 in
    record {
      there = true_there p (beside q i) a.0;
      reads = on_swap (state_of p (beside q i)) (unless_none (is_on_swap (state_of p (beside q i))) (reasons.ReadElsewhere (beside q i)) b.0);
    })
    lo n g

-- Counts.

frames_enough : (fs : List ℕ) (n : ℕ) → few_frames fs n ≡ None → n ≤ length fs
frames_enough [] n e = absurd cc
frames_enough (f ∷ fs) n e =
    let b : nat_le n (length (f ∷ fs)) ≡ true = unless_none (nat_le n (length (f ∷ fs))) (reasons.FewFrames (length (f ∷ fs))) e in grind (arith, nat_tests)

pub room_left : (p : Placement) → no_room p ≡ None → length p.transfers < 16
room_left p e =
    let b : not (is_full p) ≡ true = unless_none (not (is_full p)) reasons.FullFlight e in grind (arith, nat_tests)

record IsAmong (v lo n : ℕ) : Type 0 where
  some : 0 < n
  most : n ≤ 16
  low : lo ≤ v
  high : v < lo + n

pub both_true : (a b : Bool) → (a && b) ≡ true → (a ≡ true) × (b ≡ true)
both_true true true e = (refl, refl)
both_true true false e = absurd cc
both_true false b e = absurd cc

among : (q : Page) (lo n : ℕ) → not_among q lo n ≡ None → IsAmong (number_of q) lo n
among q lo n e =
    let o = or_none (wrong_length n) (unless (nat_le lo (number_of q) && nat_lt (number_of q) (lo + n)) (reasons.NotAmong q)) e in
    let a = both_true (nat_lt 0 n) (nat_le n most_written) (unless_none (nat_lt 0 n && nat_le n most_written) reasons.WrongLength o.0) in
    let b =
    both_true (nat_le lo (number_of q)) (nat_lt (number_of q) (lo + n))
    (unless_none (nat_le lo (number_of q) && nat_lt (number_of q) (lo + n)) (reasons.NotAmong q) o.1) in
    record {
      some = (let x : nat_lt 0 n ≡ true = a.0 in grind (arith, nat_tests));
      most = (let x : nat_le n 16 ≡ true = a.1 in grind (arith, nat_tests));
      low = (let x : nat_le lo (number_of q) ≡ true = b.0 in grind (arith, nat_tests));
      high = (let x : nat_lt (number_of q) (lo + n) ≡ true = b.1 in grind (arith, nat_tests));
    }

brought : (p : Placement) (q : Page) (source : Source) (s : PageState) (lo n : ℕ) → IsThere p q → unshared p q ≡ None → source_for s ≡ source
    → state_of p q ≡ s → IsAmong (number_of q) lo n → EachPage (Reads p source q) (pages_from q lo n) → few_frames p.free n ≡ None → no_room p ≡ None
    → GetComes p q lo n
brought p q source s lo n there shared i e a reads frames room = record {
  there = there;
  shared = shared_is p q shared;
  some = a.some;
  most = a.most;
  low = a.low;
  high = a.high;
  enter = enters p source q (pages_from q lo n) reads;
  reads =
      subst (λ (x : Source). EachPage (ReadsFrom p x q) (pages_from q lo n)) (sym (ap source_for e ∙ i)) (all_read p source q (pages_from q lo n) reads);
  frames = frames_enough p.free n frames;
  room = room_left p room;
}

-- the parts of a run that may be read
run_parts : (p : Placement) (q : Page) (s : PageState) (lo n : ℕ) → or_reason (not_among q lo n) (run_reason p q s lo n) ≡ None
    → IsAmong (number_of q) lo n × (each_page (read_reason p q s) (pages_from q lo n) ≡ None) × (few_frames p.free n ≡ None) × (no_room p ≡ None)
run_parts p q s lo n e =
    let a = or_none (not_among q lo n) (run_reason p q s lo n) e in
    let b = or_none (each_page (read_reason p q s) (pages_from q lo n)) (or_reason (few_frames p.free n) (no_room p)) a.1 in
    let c = or_none (few_frames p.free n) (no_room p) b.1 in
    (among q lo n a.0, b.0, c.0, c.1)

pub get_comes : (p : Placement) (q : Page) (lo n : ℕ) → DueStand p → get_reason p q lo n ≡ None → GetComes p q lo n
get_comes p q lo n d e =
    let a = if_there_none (is_there p q) q (or_reason (unshared p q) (get_by p q (state_of p q) lo n)) e in
    let b = or_none (unshared p q) (get_by p q (state_of p q) lo n) a.1 in
    go (true_there p q a.0) b.0 (state_of p q) refl b.1
  where
    go : IsThere p q → unshared p q ≡ None → (s : PageState) → state_of p q ≡ s → get_by p q s lo n ≡ None → GetComes p q lo n
    go there sh OnSwap i r =
        let x = run_parts p q OnSwap lo n r in brought p q FromSwap OnSwap lo n there sh refl i x.0 (swap_reads p q lo n x.1) x.2 x.3
    go there sh Unfilled i r =
        let o = or_none (unless (not (has_zeros (filling_of p q))) (reasons.OfZeros q)) (or_reason (not_among q lo n) (run_reason p q Unfilled lo n)) r in
        let x = run_parts p q Unfilled lo n o.1 in
        let f : filling_of p q ≡ OfImage = of_image (filling_of p q) (unless_none (not (has_zeros (filling_of p q))) (reasons.OfZeros q) o.0) in
        brought p q FromFile Unfilled lo n there sh refl i x.0 (file_run p q lo n d i f x.1) x.2 x.3
    go there sh (Valid f) i r = absurd cc
    go there sh (Invalid f) i r = absurd cc
    go there sh (Coming f) i r = absurd cc
    go there sh (Going f) i r = absurd cc
