-- The step of `Get`, from what the calls of the tables leave.
use Rattle.std.proofs.Common.{◌≡◌, ℕ, zero, suc, ◌+◌, ◌<◌, ◌≤◌, Bool, List, [], ◌∷◌, ◌++◌, map, Option, Some, None, refl, sym, ap, ◌∙◌, subst, arith, append-nil, append_assoc}
use Rattle.std.proofs.lemmas.List.{map-append}
use Rattle.vm_facts.specs.declared.page.Page.{Page}
use Rattle.vm_facts.specs.declared.page.Page.TheVariants.{Data, Text}
use Rattle.vm_facts.specs.declared.page.PageState.TheVariants.{Unfilled, OnSwap}
use Rattle.vm_facts.specs.declared.entry.Entry.{Entry}
use Rattle.vm_facts.specs.declared.entry.Entry.TheVariants as entries
use Rattle.transfer_ring.specs.declared.transfer.Inbound.{Inbound}
use Rattle.transfer_ring.specs.declared.transfer.Transfer.{Transfer as Flight}
use Rattle.transfer_ring.specs.Sound.{IsRun, Rise, IsBefore}
use Rattle.flat_state.specs.PageNames.{pages_from, beside}
use Rattle.page_model.specs.Placement.{Placement, Transfer, Errand, Reads, Source, FromSwap, FromFile, Due, state_of, due_of_page}
use Rattle.page_model.specs.Moves.{get_run}
use Rattle.page_model.specs.Steps.{begin, get_all}
use Rattle.page_model.specs.Reading.{read_errand, source_for}
use Rattle.page_model.specs.Conditions.{EachPage, CanEnter, IsShared}
use Rattle.page_model.specs.PageBytes.{ReadsFrom, SamePage}
use Rattle.page_model.specs.Dues.{DueStand, NotDue, IsDue}
use Rattle.kernel_model.specs.Kernel.{Kernel, get_step}
use Rattle.kernel_model.specs.Sound.{Sound}
use Rattle.kernel_model.specs.Coupled.{beside_kernel}
use Rattle.page_laws.proofs.Moves.InSteps.{get_steps}
use Rattle.page_laws.proofs.Lists.Runs.{each_page_imp, pages_from_apart}
use Rattle.kernel_tables.proofs.Moves.{get_coupled_step}
use Rattle.page_laws.proofs.Bytes.Others.{get_run_same}
use Rattle.kernel_tables.specs.declared.tables.Tables.{Tables}
use Rattle.kernel_tables.specs.View.{Flown, in_part, inbound_flown, transfer_shown, flown_in, flown, starts_of, placement_of, frames_of}
use Rattle.kernel_tables.specs.Known.{Known, MayBring}
use Rattle.kernel_tables.specs.Machine.{lists_of, kernel_by, images_of, image_at, processes_of}
use Rattle.kernel_tables.specs.Moves.{BeganRead, opened}
use Rattle.kernel_tables.specs.Sourced.{IsFlightSourced}
use Rattle.kernel_tables.specs.Steps.{source_by}
use Rattle.kernel_tables.specs.Tied.{Tied}
use Rattle.kernel_tables.specs.Conditions.{CanBringIn, KeepsFlat, SameOutside}
use Rattle.table_steps.proofs.Opens.{opened_place, opened_frames, opened_known}
use Rattle.kernel_tables.proofs.Kernels.{kernel_ext}
use Rattle.page_laws.proofs.Ends.Serving.{pages_length}
use Rattle.page_laws.proofs.Blocks.Steps.{beside_shared}

-- What is asked of the run.

run_shared : (p : Placement) (q : Page) (lo n : ℕ) → IsShared p q → EachPage (IsShared p) (pages_from q lo n)
run_shared p q lo zero h = tt
run_shared p q lo (suc n) h = (beside_shared p q lo h, run_shared p q (lo + 1) n h)

begun_shared : (p : Placement) (e : Errand) (w : Page) → IsShared p w → IsShared (begin p e) w
begun_shared p e (Text i v) c = c
begun_shared p e _ c = tt

pub may_bring : (t : Tables) (s : Source) (q : Page) (lo n : ℕ) → Known (lists_of t) → CanBringIn (placement_of (lists_of t)) q lo n
    → MayBring (opened t [] s q) q lo n
may_bring t s q lo n k can =
    let p : Placement = placement_of (lists_of t) in
    let e : Errand = Reads s q in
    record {
      known = opened_known t s q k;
      enter = subst (λ (p : Placement). EachPage (CanEnter p) (pages_from q lo n)) (sym (opened_place t s q))
          (each_page_imp (CanEnter p) (CanEnter (begin p e)) (pages_from q lo n) can.enter (λ w c. record { there = c.there; frameless = c.frameless }));
      apart = pages_from_apart q lo n;
      shared = subst (λ (p : Placement). EachPage (IsShared p) (pages_from q lo n)) (sym (opened_place t s q))
          (each_page_imp (IsShared p) (IsShared (begin p e)) (pages_from q lo n) (run_shared p q lo n can.shared) (begun_shared p e));
      frames = can.frames;
    }

-- The transfer.

pub flown-append : (ts us : List Flight) → flown (ts ++ us) ≡ flown ts ++ flown us
flown-append [] us = refl
flown-append (t ∷ ts) us = ap (λ (xs : List Flown). flown_in t ++ xs) (flown-append ts us) ∙ sym (append_assoc (flown_in t) (flown ts) (flown us))

pub flight_lists : (u w : Tables) (x : Flight) (ps : List Inbound) (s : Source) (q : Page) → w ≡ record u { ring = w.ring } → w.ring ≡ u.ring ++ x ∷ []
    → transfer_shown x ≡ record { errand = Reads s q; parts = map in_part ps } → flown_in x ≡ map inbound_flown ps → lists_of w ≡ opened u ps s q
flight_lists u w x ps s q r e i f =
    ap lists_of r
    ∙ ap (λ (ts : List Transfer). record (lists_of u) { transfers = ts; flown = flown w.ring })
    (ap (map transfer_shown) e ∙ map-append transfer_shown u.ring (x ∷ []) ∙ ap (λ (y : Transfer). map transfer_shown u.ring ++ y ∷ []) i)
    ∙ ap (λ (fs : List Flown). record (lists_of u) { transfers = map transfer_shown u.ring ++ record { errand = Reads s q; parts = map in_part ps } ∷ []; flown = fs })
    (ap flown e ∙ flown-append u.ring (x ∷ []) ∙ ap (λ (fs : List Flown). flown u.ring ++ fs) (append-nil (flown_in x) ∙ f))

-- The pages of a run rise.
before_next : (q : Page) (lo : ℕ) → IsBefore (beside q lo) (beside q (lo + 1))
before_next (Data i v) lo = (refl, omega arith)
before_next _ lo = (refl, omega arith)

rising : (q : Page) (lo n : ℕ) → Rise (beside q lo) (pages_from q (lo + 1) n)
rising q lo zero = tt
rising q lo (suc n) = (before_next q lo, rising q (lo + 1) n)

pub run_rises : (q : Page) (lo n : ℕ) → 0 < n → n ≤ 16 → IsRun (pages_from q lo n)
run_rises q lo zero s m = absurd (omega arith)
run_rises q lo (suc n) s m = (omega (arith, pages_length q (lo + 1) n), rising q lo n)

-- What a read that begins leaves, of which all pages have their frames.
pub record Getting (t u w : Tables) (ps : List Inbound) (x : Flight) (b : Bool) (q : Page) (lo n : ℕ) : Type 0 where
  pub from : source_by b ≡ source_for (state_of (placement_of (lists_of t)) q)
  pub place : placement_of (opened u ps (source_by b) q) ≡ get_all (placement_of (opened t [] (source_by b) q)) (Reads (source_by b) q) (pages_from q lo n)
  pub frames : frames_of (opened u ps (source_by b) q) ≡ frames_of (opened t [] (source_by b) q)
  pub known : Known (opened u ps (source_by b) q)
  pub images : (sid : ℕ) → image_at u sid ≡ image_at t sid
  pub sourced : IsFlightSourced (images_of t) (image_at t) t.book.holdings t.book.size x
  pub rest : u ≡ record t { core = u.core; spaces = u.spaces }
  pub ring_rest : w ≡ record u { ring = w.ring }
  pub ring : w.ring ≡ u.ring ++ x ∷ []
  pub shown : transfer_shown x ≡ record { errand = Reads (source_by b) q; parts = map in_part ps }
  pub flying : flown_in x ≡ map inbound_flown ps

pub began_read : (t u w : Tables) (ps : List Inbound) (x : Flight) (b : Bool) (q : Page) (lo n : ℕ) → Getting t u w ps x b q lo n → BeganRead t w q lo n
began_read t u w ps x b q lo n g =
    let s : Source = source_by b in
    let l = flight_lists u w x ps s q g.ring_rest g.ring g.shown g.flying in
    record {
      place = ap placement_of l ∙ g.place ∙ ap (λ (p : Placement). get_all p (Reads s q) (pages_from q lo n)) (opened_place t s q)
          ∙ get_steps (placement_of (lists_of t)) (Reads s q) (pages_from q lo n)
          ∙ ap (λ (y : Source). get_run (placement_of (lists_of t)) (Reads y q) (pages_from q lo n)) g.from;
      frames = ap frames_of l ∙ g.frames ∙ opened_frames t s q;
      tied = subst Tied (sym l) g.known.tied;
      images = λ sid. ap (λ (y : Tables). image_at y sid) g.ring_rest ∙ g.images sid;
      flight = x;
      ring = g.ring ∙ ap (λ (y : Tables). y.ring ++ x ∷ []) g.rest;
      sourced = g.sourced;
      rest = g.ring_rest ∙ ap (λ (y : Tables). record y { ring = w.ring }) g.rest ∙ ap (λ (y : Tables). record t { core = y.core; ring = w.ring; spaces = y.spaces }) (sym g.ring_rest);
    }

-- The step.

pub get_kernel : (t w : Tables) (q : Page) (lo n : ℕ) (journal : List Entry) (stopped : Bool) → BeganRead t w q lo n
    → kernel_by w (journal ++ entries.Get q lo n ∷ []) stopped ≡ get_step (kernel_by t journal stopped) q lo n
get_kernel t w q lo n journal stopped g =
    let r = g.rest in
    kernel_ext (kernel_by w (journal ++ entries.Get q lo n ∷ []) stopped) (get_step (kernel_by t journal stopped) q lo n)
    g.place
    (ap (λ (y : Tables). y.book.holdings) r)
    (ap (λ (y : Tables). processes_of y.processes y.next_pid) r)
    (ap (λ (y : Tables). y.next_pid) r)
    (ap (λ (y : Tables). y.next_sid) r)
    (ap (λ (y : Tables). starts_of y.fills.items) r)
    g.frames
    refl
    refl

-- what is due is unfilled with zeros or as its parent's page is, and what is read from its file isn't due
pub reads_fresh : (p : Placement) (s : Source) (q r : Page) → DueStand p → ReadsFrom p s q r → NotDue p.due r
reads_fresh p FromFile q r d e = e.2
reads_fresh p FromSwap q r d e = go (due_of_page p.due r) refl
  where
    go : (o : Option Due) → due_of_page p.due r ≡ o → o ≡ None
    go None h = refl
    go (Some x) h = absurd (let i : IsDue p r x = d r x h in let y : Unfilled ≡ OnSwap = sym i.unfilled ∙ e in cc)

pub get_keeps : (size : ℕ) (k : Kernel) (q : Page) (lo n : ℕ) → Sound size k → CanBringIn k.place q lo n → KeepsFlat k (get_step k q lo n)
get_keeps size k q lo n so can images image flat c = get_coupled_step size k images image flat q lo n so can.enter can.reads c

pub get_same : (size : ℕ) (k : Kernel) (q : Page) (lo n : ℕ) → Sound size k → CanBringIn k.place q lo n → SameOutside k (get_step k q lo n) (pages_from q lo n)
get_same size k q lo n so can images image flat w d =
    let s : SamePage k.place (get_run k.place (read_errand k.place q) (pages_from q lo n)) (beside_kernel k images image flat) (beside_kernel k images image flat) w =
    get_run_same k.place (source_for (state_of k.place q)) q (pages_from q lo n) (beside_kernel k images image flat) w so.owner.frames can.enter (pages_from_apart q lo n) d in
    record { frames = s.frames; swap = s.swap; start = s.start }
