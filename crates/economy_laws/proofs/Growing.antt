-- What `Grew` leaves: the pages that were there stay as they are.
use Rattle.std.proofs.Common.{◌≡◌, ◌⊎◌, inl, inr, ℕ, ◌+◌, ◌-◌, ◌<◌, ◌≤◌, ◌&&◌, nat_lt, nat_le, Bool, true, false, List, [], ◌∷◌, ◌++◌, length, get_or, Option, Some, None, Result, Err, refl, sym, ap, ◌∙◌, subst, arith}
use Rattle.std.proofs.lemmas.Bool.{cases_eq}
use Rattle.std.proofs.lemmas.Bool.Decides.{nat_tests}
use Rattle.std.proofs.lemmas.List.{get_or_past}
use Rattle.flat_state.specs.Space.{Space, stack_top, stack_reach, spot_by, spot_at, address_in, byte_at, may_write_at, answers_of}
use Rattle.flat_state.specs.Flat.{Holding, Holds, Lends, Zombie, Process, Inputs, process_of}
use Rattle.vm_facts.specs.declared.page.Page.{Page}
use Rattle.vm_facts.specs.declared.page.Page.TheVariants.{Data, Stack, Text}
use Rattle.vm_facts.specs.declared.entry.Entry.TheVariants as entries
use Rattle.user_vax.specs.Instruction.{instruction}
use Rattle.user_vax.specs.Program.{Program, Refuses, Reads, Tests, run, after_read, after_test}
use Rattle.user_vax.specs.declared.refused.Refused.{Refused}
use Rattle.user_vax.specs.declared.refused.Refused.TheVariants.{Below}
use Rattle.flat_state.specs.declared.change.Change.TheVariants.{Resize}
use Rattle.flat_state.specs.declared.spot.Spot.{Spot}
use Rattle.flat_state.specs.declared.spot.Spot.TheVariants as spots
use Rattle.kernel_model.specs.Coupled.{Fits, SameTables}
use Rattle.page_model.specs.Pages.{Slot, no_slot, SpacePages, numbered, changed, data_in, stack_in, is_valid}
use Rattle.page_model.specs.Placement.{Placement, space_number, state_of}
use Rattle.page_model.specs.Moves.{touch_all, drop_all}
use Rattle.page_model.specs.Place.{changing_in, sized, cut_space, resize, data_count, stack_count, data_from, stack_from, place_change, space_of_process, facts_of}
use Rattle.page_model.specs.Swapper.{is_out}
use Rattle.page_laws.proofs.Lists.Pages.{mapped, changed_same, changed_other}
use Rattle.page_laws.proofs.Lists.Runs.{each_page_imp}
use Rattle.page_laws.proofs.Ownership.Changes.{cut, sized_within}
use Rattle.run_laws.proofs.FlatLawsAsking.{own_space}
use Rattle.flat_model.specs.Instruction.{instruction_in}
use Rattle.flat_model.specs.Run.{step_at, is_refused}
use Rattle.run_model.specs.State.{State}
use Rattle.flat_model.specs.Step.{Step, data_pages_of, pages_down_to}
use Rattle.flat_model.specs.Touched.{touched}
use Rattle.run_model.specs.Wanted.{AllValid}
use Rattle.run_model.specs.After.{place_at, after}
use Rattle.run_model.specs.Snapshot.{written_in, written_by, pages_written}
use Rattle.run_model.specs.Kinds.{ProcessRuns}
use Rattle.run_laws.specs.Standing.{machine_of, Placed}
use Rattle.run_laws.proofs.Acts.{Stepper, stepper, Completes, completes}
use Rattle.run_laws.proofs.Flows.{Acted, Settles, Refuses, Steps, acted, on_steps}
use Rattle.economy_laws.specs.Stretch.{Extends, TouchesMore, AllGrown, GrowthTouches}
use Rattle.economy_laws.proofs.Stretching.{open_last}
use Rattle.economy_laws.proofs.Sleeping.{Does, does}
use Rattle.economy_laws.proofs.Steps.{Grows, grows_of}
use Rattle.run_laws.proofs.Forms.{step_is}
use Rattle.economy_laws.proofs.Idle.{open_due}

-- Sizes.

sized_valid : (n v : ℕ) (xs : List Slot) → length xs ≤ n → is_valid (get_or xs v no_slot).state ≡ true → is_valid (get_or (sized n xs) v no_slot).state ≡ true
sized_valid n v xs l h =
    let le_or : (a b : ℕ) → (a < b) ⊎ (b ≤ a) = λ a b. grind arith in
    elim (le_or v (length xs)) [
      | inl m ↦ let k = sized_within n v xs (omega arith) in ap is_valid k.0 ∙ h
      | inr m ↦ absurd (let k = get_or_past xs v no_slot m in let z : true ≡ false = sym h ∙ ap (λ (x : Slot). is_valid x.state) k in cc)
    ]

cut_data_valid : (d s v : ℕ) (o : Option SpacePages) → length (data_in o) ≤ d → is_valid (get_or (data_in o) v no_slot).state ≡ true
    → is_valid (get_or (data_in (mapped (cut d s) o)) v no_slot).state ≡ true
cut_data_valid d s v None l h = h
cut_data_valid d s v (Some x) l h = sized_valid d v x.data_pages l h

cut_stack_valid : (d s v : ℕ) (o : Option SpacePages) → length (stack_in o) ≤ s → is_valid (get_or (stack_in o) v no_slot).state ≡ true
    → is_valid (get_or (stack_in (mapped (cut d s) o)) v no_slot).state ≡ true
cut_stack_valid d s v None l h = h
cut_stack_valid d s v (Some x) l h = sized_valid s v x.stack_pages l h

cut_valid : (p : Placement) (sid d s : ℕ) (w : Page) → data_count p sid ≤ d → stack_count p sid ≤ s → is_valid (state_of p w) ≡ true
    → is_valid (state_of (cut_space p sid d s) w) ≡ true
cut_valid p sid d s (Data t v) ld ls h = elim (cases_eq t sid) [
  | inl e ↦ subst (λ (x : ℕ). is_valid (get_or (data_in (numbered space_number x p.spaces)) v no_slot).state ≡ true
      → is_valid (get_or (data_in (numbered space_number x (changed space_number sid (cut d s) p.spaces))) v no_slot).state ≡ true) (sym e)
      (λ k. subst (λ (y : Option SpacePages). is_valid (get_or (data_in y) v no_slot).state ≡ true) (sym (changed_same space_number sid (cut d s) (λ x. refl) p.spaces))
      (cut_data_valid d s v (numbered space_number sid p.spaces) ld k)) h
  | inr n ↦ subst (λ (y : Option SpacePages). is_valid (get_or (data_in y) v no_slot).state ≡ true) (sym (changed_other space_number sid t (cut d s) (λ x. refl) n p.spaces)) h
]
cut_valid p sid d s (Stack t v) ld ls h = elim (cases_eq t sid) [
  | inl e ↦ subst (λ (x : ℕ). is_valid (get_or (stack_in (numbered space_number x p.spaces)) v no_slot).state ≡ true
      → is_valid (get_or (stack_in (numbered space_number x (changed space_number sid (cut d s) p.spaces))) v no_slot).state ≡ true) (sym e)
      (λ k. subst (λ (y : Option SpacePages). is_valid (get_or (stack_in y) v no_slot).state ≡ true) (sym (changed_same space_number sid (cut d s) (λ x. refl) p.spaces))
      (cut_stack_valid d s v (numbered space_number sid p.spaces) ls k)) h
  | inr n ↦ subst (λ (y : Option SpacePages). is_valid (get_or (stack_in y) v no_slot).state ≡ true) (sym (changed_other space_number sid t (cut d s) (λ x. refl) n p.spaces)) h
]
cut_valid p sid d s (Text i v) ld ls h = h

-- no page goes
resize_cut : (p : Placement) (sid d s : ℕ) → data_count p sid ≤ d → stack_count p sid ≤ s → resize p sid d s ≡ cut_space p sid d s
resize_cut p sid d s ld ls = go (data_count p sid - d) (stack_count p sid - s) (omega arith) (omega arith)
  where
    go : (a b : ℕ) → a ≡ 0 → b ≡ 0 → cut_space (drop_all p (data_from sid d a ++ stack_from sid s b)) sid d s ≡ cut_space p sid d s
    go a b e f = ap (λ (x : ℕ). cut_space (drop_all p (data_from sid d x ++ stack_from sid s b)) sid d s) e ∙ ap (λ (x : ℕ). cut_space (drop_all p (data_from sid d 0 ++ stack_from sid s x)) sid d s) f

-- Where the stack grows.

pub below_spot : {X : Type 0} (s : Space) (p : Program X) (a : ℕ) → run (answers_of s) p ≡ Err (Below a) → address_in s a ≡ spots.Below
below_spot s (Reads b next) a h =
    let same : (let r : Result ℕ Refused = Err (Below b) in r) ≡ Err (Below a) → b ≡ a = λ e. cc in
    go (address_in s b) refl (λ byte k. below_spot s (next byte) a k) h
  where
    go : (spot : Spot) → address_in s b ≡ spot → ((byte : ℕ) → run (answers_of s) (next byte) ≡ Err (Below a) → address_in s a ≡ spots.Below)
        → after_read (byte_at s spot) b (λ byte. run (answers_of s) (next byte)) ≡ Err (Below a) → address_in s a ≡ spots.Below
    go (spots.Text i) e more k = more (Rattle.std.specs.Prelude.slice_index s.text_bytes i) k
    go (spots.Data i) e more k = more (Rattle.std.specs.Prelude.slice_index s.data_bytes i) k
    go (spots.Stack i) e more k = more (Rattle.std.specs.Prelude.slice_index s.stack_bytes i) k
    go spots.Below e more k = subst (λ (x : ℕ). address_in s x ≡ spots.Below) (let z : b ≡ a = cc in z) e
    go spots.Outside e more k = absurd cc
below_spot s (Tests b next) a h = go (address_in s b) refl (λ k. below_spot s next a k) h
  where
    go : (spot : Spot) → address_in s b ≡ spot → (run (answers_of s) next ≡ Err (Below a) → address_in s a ≡ spots.Below) → after_test (may_write_at spot) b (run (answers_of s) next) ≡ Err (Below a)
        → address_in s a ≡ spots.Below
    go (spots.Text i) e more k = absurd cc
    go (spots.Data i) e more k = more k
    go (spots.Stack i) e more k = more k
    go spots.Below e more k = subst (λ (x : ℕ). address_in s x ≡ spots.Below) (let z : b ≡ a = cc in z) e
    go spots.Outside e more k = absurd cc
below_spot s _ a h = absurd cc

-- an address below the stack lies under all its bytes
pub spot_below : (a b len address : ℕ) → spot_at a b len address ≡ spots.Below → address + len + 1 ≤ stack_top
unfolding spot_at
spot_below a b len address h =
    go (nat_lt address a) (nat_lt address (a + b)) (nat_le (stack_top - len) address && nat_lt address stack_top) (nat_le (stack_top - stack_reach) address && nat_lt address stack_top) refl refl h
  where
    both : (x y : Bool) → (x && y) ≡ true → (x ≡ true) × (y ≡ true)
    both true true e = (refl, refl)
    both true false e = absurd cc
    both false y e = absurd cc

    not_first : (x y : Bool) → (x && y) ≡ false → y ≡ true → x ≡ false
    not_first true y e f = absurd (let z : true ≡ false = sym f ∙ e in cc)
    not_first false y e f = refl

    under : (x y : ℕ) → nat_le x y ≡ false → y < x
    under x y e = grind (arith, nat_tests)

    go : (x y z w : Bool) → (nat_le (stack_top - len) address && nat_lt address stack_top) ≡ z → (nat_le (stack_top - stack_reach) address && nat_lt address stack_top) ≡ w
        → spot_by x y z w a address ≡ spots.Below → address + len + 1 ≤ stack_top
    go true y z w e f k = absurd cc
    go false true z w e f k = absurd cc
    go false false true w e f k = absurd cc
    go false false false true e f k = let m = under (stack_top - len) address
        (not_first (nat_le (stack_top - len) address) (nat_lt address stack_top) e (both (nat_le (stack_top - stack_reach) address) (nat_lt address stack_top) f).1) in omega arith
    go false false false false e f k = absurd cc

-- All of it.

none_written : (o : Option Process) → written_by o [] ≡ []
none_written None = refl
none_written (Some q) = go q.holding
  where
    go : (h : Holding) → written_in h [] ≡ []
    go (Holds s) = refl
    go (Lends sid child) = refl
    go (Zombie status) = refl

-- the space has as many pages in the placement
room_for : (s : Space) (o : Option SpacePages) (a : ℕ) → Fits (Some s) o → a + length s.stack_bytes + 1 ≤ stack_top
    → (length (data_in o) ≤ data_pages_of s) × (length (stack_in o) ≤ pages_down_to a)
room_for s None a f l = absurd f
room_for s (Some x) a f l = let d = f.data_size in let k = f.stack_size in (omega arith, omega arith)

grew_place : (A : Inputs) (s : State) (pid pages sid d t : ℕ) → pages_written s.point.flat pid (step_at A s.point pid) ≡ []
    → space_of_process (process_of s.point.flat pid) ≡ sid → (step_at A s.point pid).change ≡ Resize d t
    → (after A s (entries.Grew pid pages)).place ≡ resize s.place sid d t
unfolding after
grew_place A s pid pages sid d t w h e =
    ap (place_change (changing_in (facts_of A.images) s.point.flat pid (place_at s (entries.Grew pid pages))) (touch_all s.place (pages_written s.point.flat pid (step_at A s.point pid)))) e
    ∙ ap (λ (x : ℕ). resize (touch_all s.place (pages_written s.point.flat pid (step_at A s.point pid))) x d t) h
    ∙ ap (λ (ws : List Page). resize (touch_all s.place ws) sid d t) w

pub all_grown : (A : Inputs) → GrowthTouches A → AllGrown A
all_grown A touches s pid pages r h = by (acted A s pid (entries.Grew pid pages) d.act)
  where
    d : Does A s (entries.Grew pid pages) pid
    d = does A s (entries.Grew pid pages) pid h refl

    by : Acted A s pid (entries.Grew pid pages) → TouchesMore A s (after A s (entries.Grew pid pages)) pid
    by (Settles i) = absurd cc
    by (Refuses i) = absurd cc
    by (Steps f g i) =
        let run : ProcessRuns A s pid d.now = d.runs in
        let steps = on_steps A s s.mark pid d.now run.on in
        let w : Stepper s.point.flat pid = stepper s.point.flat pid steps in
        let q : Process = w.process in
        let sp : Space = w.space in
        let c : Completes A s.point pid (entries.Grew pid pages) = completes A s.point pid (entries.Grew pid pages) tt i in
        let es : (step_at A s.point pid).entries ≡ entries.Grew pid pages ∷ [] =
        sym (open_due s.point.last pid (step_at A s.point pid).entries (open_last A s (entries.Grew pid pages) pid r h refl refl)) ∙ c.due in
        let st = step_is A s.point.flat pid (is_refused s.point.last pid) w.process w.space w.here w.holds in
        let gr : Grows A.images s.point.flat w.process w.space (is_refused s.point.last pid) (instruction_in w.space q.regs) =
        grows_of A.images s.point.flat w.process w.space (is_refused s.point.last pid) (instruction_in w.space q.regs) pid pages (sym (ap (λ (S : Step). S.entries) st) ∙ es) in
        let change : (step_at A s.point pid).change ≡ Resize (data_pages_of w.space) (pages_down_to gr.address) = ap (λ (S : Step). S.change) (st ∙ gr.step) in
        let writes : (step_at A s.point pid).writes ≡ [] = ap (λ (S : Step). S.writes) (st ∙ gr.step) in
        let low = spot_below (length sp.text_bytes) (length sp.data_bytes) (length sp.stack_bytes) gr.address (below_spot w.space (instruction q.regs) gr.address gr.below) in
        let placed : Placed A s.point.flat s.place s.holdings = r.placed in
        let tables : SameTables (machine_of s.point.flat s.place s.holdings) s.point.flat = placed.tables in
        let fits = subst (λ (o : Option Space). Fits o (numbered space_number sp.sid s.place.spaces)) (own_space s.point.flat pid w.process w.space r.numbers w.here w.holds) (tables.spaces sp.sid) in
        let room = room_for w.space (numbered space_number sp.sid s.place.spaces) gr.address fits low in
        let pl : (after A s (entries.Grew pid pages)).place ≡ cut_space s.place sp.sid (data_pages_of w.space) (pages_down_to gr.address) =
        grew_place A s pid pages sp.sid (data_pages_of w.space) (pages_down_to gr.address)
        (ap (written_by (process_of s.point.flat pid)) writes ∙ none_written (process_of s.point.flat pid))
        (ap space_of_process w.here ∙ ap Rattle.page_model.specs.Place.space_of_holding w.holds) change
        ∙ resize_cut s.place sp.sid (data_pages_of w.space) (pages_down_to gr.address) room.0 room.1 in
        let t : Extends (touched A s.point.flat pid) (touched A (after A s (entries.Grew pid pages)).point.flat pid) = touches s pid pages r h in
        record {
          next = t.next;
          more = t.more;
          touches = t.is;
          valid = λ v. subst (λ (p : Placement). AllValid p (touched A s.point.flat pid)) (sym pl)
              (each_page_imp (λ x. is_valid (state_of s.place x) ≡ true) (λ x. is_valid (state_of (cut_space s.place sp.sid (data_pages_of w.space) (pages_down_to gr.address)) x) ≡ true)
              (touched A s.point.flat pid) v
              (λ x k. cut_valid s.place sp.sid (data_pages_of w.space) (pages_down_to gr.address) x room.0 room.1 k));
          flights = let z = ap (λ (p : Placement). length p.transfers) pl in omega arith;
          clear = ap (λ (p : Placement). p.due) pl ∙ run.clear;
          resident = λ o. ap (λ (p : Placement). is_out p pid) pl ∙ o;
        }
