-- A whole run: a counted instruction leaves fewer to count, a line fewer lines, and a turn in which none is counted fewer
-- such turns.
use Rattle.std.proofs.Common.{◌≡◌, ◌⊎◌, inl, inr, ℕ, zero, suc, ◌+◌, ◌-◌, ◌<◌, ◌≤◌, nat_lt, Bool, true, false, List, [], ◌∷◌, length, Option, Some, None, refl, sym, ap, ◌∙◌, subst, arith}
use Rattle.std.proofs.lemmas.Bool.{ltb-true, ltb-false}
use Rattle.run_laws.proofs.Acts.{ok_same}
use Rattle.vm_facts.specs.declared.entry.Entry.{Entry}
use Rattle.vm_facts.specs.declared.entry.Entry.TheVariants as entries
use Rattle.swap_book.specs.Holdings.{Holdings}
use Rattle.flat_state.specs.Flat.{Inputs, process_of}
use Rattle.flat_state.specs.Journal.{appended, counted, IsUnit}
use Rattle.page_model.specs.Place.{space_of_process}
use Rattle.page_laws.proofs.Moves.Units.{unit_is}
use Rattle.page_laws.proofs.Swapper.PuttingOut.{unit_case}
use Rattle.kernel_model.specs.Start.{ImagesFit}
use Rattle.flat_model.specs.Run.{process_of_entry}
use Rattle.run_model.specs.State.{State, start}
use Rattle.run_model.specs.Wanted.{locked}
use Rattle.run_model.specs.After.{after}
use Rattle.run_model.specs.Next.{when, turn_of, next_turned, last_turned, line_or_turn, next_mark, next_unit}
use Rattle.run_model.specs.Kinds.{Kind, Fills, Brings, Copies, ServesWanted, Acts, ProcessComes, Interrupts, HandsMove, ProcessGoes, Notes, Begins}
use Rattle.run_model.specs.Lawful.{Follows, Reaches, IsLawful, IsFinished}
use Rattle.run_model.proofs.Followed.{followed_once}
use Rattle.run_model.proofs.After.{after_count}
use Rattle.run_model.proofs.NextUnits.{kind_of}
use Rattle.run_laws.specs.Running.{IsRun, CanRun, ReadyToStep}
use Rattle.run_laws.proofs.Flows.{Acted, Settles, Refuses, Steps, acted, steps_own}
use Rattle.run_laws.proofs.Lawful.{next_is_unit}
use Rattle.run_laws.proofs.Plain.{IsPaging, serve_paging, zero_paging, copy_paging, move_paging}
use Rattle.run_laws.proofs.Settling.{IsMark}
use Rattle.run_laws.proofs.Wholes.{start_run, unit_run, unit_ready, reached_run, reached_lawful}
use Rattle.economy_laws.specs.Stretch.{turns, turns_of, counts, NoneCounts, ready_count}
use Rattle.economy_laws.specs.Finishes.{Finishes}
use Rattle.economy_laws.proofs.Idle.{few_turns}
use Rattle.economy_laws.proofs.Finishing.Stages.{is_boundary, Stage}
use Rattle.economy_laws.proofs.Finishing.Marks.{still_ends}
use Rattle.economy_laws.proofs.Finishing.Processes.{process_ends}
use Rattle.run_laws.proofs.Turning.{mark_is_next}

-- Within a stage the run finishes.
stage_ends : (A : Inputs) (P : State → Type 0) (s : State) → Stage A P → P s → Finishes A s
stage_ends A P s g p = still_ends A P s g (process_ends A P s g p) p

-- What boundaries are.

-- a line comes while there are some, and a turn after them
mark_lines : (A : Inputs) (s : State) (u : Entry) → next_mark A s ≡ Some u
    → ((s.lines < length A.lines) × (turns u ≡ 0)) ⊎ ((length A.lines ≤ s.lines) × (turns u ≡ 1))
mark_lines A s u h = go (nat_lt s.count A.limit) (nat_lt s.lines (length A.lines)) refl h
  where
    some : (x : Entry) → Some x ≡ Some u → u ≡ x
    some x e = cc

    turn : (o : Option ℕ) → turn_of o ≡ Some u → turns u ≡ 1
    turn None e = absurd cc
    turn (Some pid) e = ap turns (some (entries.Turn pid) e)

    go : (a b : Bool) → nat_lt s.lines (length A.lines) ≡ b → when a (line_or_turn s b) ≡ Some u → ((s.lines < length A.lines) × (turns u ≡ 0)) ⊎ ((length A.lines ≤ s.lines) × (turns u ≡ 1))
    go false b k e = absurd cc
    go true true k e = inl (ltb-true s.lines (length A.lines) k, ap turns (some (entries.Event (s.lines + 1)) e))
    go true false k e = inr (ltb-false s.lines (length A.lines) k, turn (next_turned s.point.flat (last_turned s.mark)) e)

-- a unit counts an instruction, or is a mark, or is neither and takes no line
data Bounds (A : Inputs) (s : State) (u : Entry) : Type 0 where
  Counts : counts u ≡ true → (pid : ℕ) → process_of_entry u ≡ Some pid → Bounds A s u
  Line : IsMark u → (after A s u).lines ≡ s.lines + 1 → turns u ≡ 0 → Bounds A s u
  Turning : IsMark u → (after A s u).lines ≡ s.lines → turns u ≡ 1 → counts u ≡ false → Bounds A s u

bounds : (A : Inputs) (s : State) (u : Entry) → is_boundary u ≡ true → Bounds A s u
unfolding after
bounds A s (entries.Event line) e = Line tt refl refl
bounds A s (entries.Turn p) e = Turning tt refl refl refl
bounds A s (entries.Ran p n) e = Counts refl p refl
bounds A s (entries.Call p n c r0 r1) e = Counts refl p refl
bounds A s (entries.Ended p n) e = Counts refl p refl
bounds A s _ e = absurd cc

quiet_lines : (A : Inputs) (s : State) (u : Entry) → is_boundary u ≡ false → (after A s u).lines ≡ s.lines
unfolding after
quiet_lines A s (entries.Event line) e = absurd cc
quiet_lines A s _ e = refl

quiet_counts : (u : Entry) → is_boundary u ≡ false → (counts u ≡ false) × (turns u ≡ 0)
quiet_counts (entries.Event line) e = absurd cc
quiet_counts (entries.Turn p) e = absurd cc
quiet_counts (entries.Ran p n) e = absurd cc
quiet_counts (entries.Call p n c r0 r1) e = absurd cc
quiet_counts (entries.Ended p n) e = absurd cc
quiet_counts _ e = (refl, refl)

pub counts_one : (u : Entry) → IsUnit u → counts u ≡ true → counted u ≡ 1
counts_one (entries.Ran p n) k e = k
counts_one (entries.Call p n c r0 r1) k e = refl
counts_one (entries.Ended p n) k e = refl
counts_one _ k e = absurd cc

-- How many turns are left, till an instruction is counted.
abbrev TurnsLeft : Inputs → State → ℕ → Type 0
TurnsLeft A s k = (us : List Entry) (t : State) → Follows A s us t → NoneCounts us → turns_of us ≤ k

turns_less : (A : Inputs) (s : State) (u : Entry) (k : ℕ) → TurnsLeft A s k → next_unit A s ≡ Some u → counts u ≡ false
    → (turns u ≤ k) × TurnsLeft A (after A s u) (k - turns u)
turns_less A s u k l h n = (
  (let a = l (u ∷ []) (after A s u) (h, refl) (n, tt) in omega arith),
  λ us t f m. let a = l (u ∷ us) t (h, f) (n, m) in omega arith,
)

-- the states of a stage: so many instructions, lines and turns are left at most
record Within (A : Inputs) (n l k : ℕ) (s : State) : Type 0 where
  run : IsRun A s
  limit : A.limit ≤ s.count + n
  lines : length A.lines ≤ s.lines + l
  turns : length A.lines ≤ s.lines → TurnsLeft A s k

within_on : (A : Inputs) (n l k : ℕ) (s : State) (u : Entry) → ImagesFit A.images → Within A n l k s → next_unit A s ≡ Some u → is_boundary u ≡ false
    → Within A n l k (after A s u)
within_on A n l k s u images w h b = record {
  run = unit_run A s u images w.run h;
  limit = omega (arith, after_count A s u, w.limit);
  lines = omega (arith, quiet_lines A s u b, w.lines);
  turns = λ z us t f m. let a = w.turns (omega (arith, quiet_lines A s u b)) (u ∷ us) t (h, f) ((quiet_counts u b).0, m) in omega arith;
}

-- after a counted instruction, and after a line
abbrev Fewer : Inputs → ℕ → Type 0
Fewer A n = (t : State) → IsRun A t → t.count ≤ A.limit → A.limit < t.count + n → Finishes A t

abbrev Later : Inputs → ℕ → ℕ → Type 0
Later A n l = (t : State) → IsRun A t → A.limit ≤ t.count + n → t.lines ≤ length A.lines → length A.lines < t.lines + l → Finishes A t

between_turns : (k : ℕ) (A : Inputs) (n l : ℕ) (s : State) → ImagesFit A.images → 64 ≤ A.frames → Fewer A n → Later A n l
    → ((t : State) → 0 < k → Within A n l (k - 1) t → Finishes A t) → Within A n l k s → Finishes A s
between_turns k A n l s images frames fewer later more w = stage_ends A (Within A n l k) s (record {
  images = images;
  frames = frames;
  run = λ t x. x.run;
  keeps = λ t u x h b. within_on A n l k t u images x h b;
  ends = λ t u x h b. by t u x h (bounds A t u b);
}) w
  where
    by : (t : State) (u : Entry) → Within A n l k t → next_unit A t ≡ Some u → Bounds A t u → Finishes A (after A t u)
    by t u x h (Counts c pid e) =
        let r : ReadyToStep A t pid = unit_ready A t u pid h e in
        let a = after_count A t u in
        let b = counts_one u (next_is_unit A t u h) c in
        let d = r.below in
        fewer (after A t u) (unit_run A t u images x.run h) (omega arith) (omega (arith, x.limit))
    by t u x h (Line m e z) = elim (mark_lines A t u (mark_is_next A t u m h)) [
      | inl y ↦ later (after A t u) (unit_run A t u images x.run h) (omega (arith, after_count A t u, x.limit)) (let a = y.0 in omega arith) (omega (arith, x.lines))
      | inr y ↦ absurd (let a = y.1 in omega arith)
    ]
    by t u x h (Turning m e z c) = elim (mark_lines A t u (mark_is_next A t u m h)) [
      | inl y ↦ absurd (let a = y.1 in omega arith)
      | inr y ↦
          let on = turns_less A t u k (x.turns y.0) h c in
          more (after A t u) (let a = on.0 in omega arith) (record {
            run = unit_run A t u images x.run h;
            limit = omega (arith, after_count A t u, x.limit);
            lines = omega (arith, x.lines);
            turns = λ past. subst (λ (j : ℕ). TurnsLeft A (after A t u) (k - j)) z on.1;
          })
    ]

turns_end : (k : ℕ) (A : Inputs) (n l : ℕ) (s : State) → ImagesFit A.images → 64 ≤ A.frames → Fewer A n → Later A n l → Within A n l k s → Finishes A s
turns_end zero A n l s images frames fewer later w = between_turns zero A n l s images frames fewer later (λ t some x. absurd (omega arith)) w
turns_end (suc k) A n l s images frames fewer later w = between_turns (suc k) A n l s images frames fewer later
    (λ t some x. turns_end k A n l t images frames fewer later (subst (λ (j : ℕ). Within A n l j t) (let e : suc k - 1 ≡ k = omega arith in e) x)) w

-- so many turns are left as processes can step
line_within : (A : Inputs) (n l : ℕ) (s : State) → ImagesFit A.images → IsRun A s → A.limit ≤ s.count + n → length A.lines ≤ s.lines + l
    → Within A n l (ready_count s.point.flat.processes) s
line_within A n l s images r c m = record {
  run = r;
  limit = c;
  lines = m;
  turns = λ past us t f z. few_turns A s t us images r past f z;
}

lines_end : (l : ℕ) (A : Inputs) (n : ℕ) (s : State) → ImagesFit A.images → 64 ≤ A.frames → Fewer A n → IsRun A s → A.limit ≤ s.count + n
    → length A.lines ≤ s.lines + l → Finishes A s
lines_end zero A n s images frames fewer r c m =
    turns_end (ready_count s.point.flat.processes) A n zero s images frames fewer (λ t rt ct low high. absurd (omega arith)) (line_within A n zero s images r c m)
lines_end (suc l) A n s images frames fewer r c m = turns_end (ready_count s.point.flat.processes) A n (suc l) s images frames fewer
    (λ t rt ct low high. lines_end l A n t images frames fewer rt ct (omega arith)) (line_within A n (suc l) s images r c m)

counts_end : (n : ℕ) (A : Inputs) (s : State) → ImagesFit A.images → 64 ≤ A.frames → IsRun A s → A.limit ≤ s.count + n → Finishes A s
counts_end zero A s images frames r c = lines_end (length A.lines) A zero s images frames (λ t rt low high. absurd (omega arith)) r c (omega arith)
counts_end (suc n) A s images frames r c = lines_end (length A.lines) A (suc n) s images frames (λ t rt low high. counts_end n A t images frames rt (omega arith)) r c (omega arith)

-- Next units lead from each state of a run to one that has none.
pub run_ends : (A : Inputs) (s : State) → ImagesFit A.images → 64 ≤ A.frames → IsRun A s → Finishes A s
run_ends A s images frames r = counts_end A.limit A s images frames r (omega arith)

start_ends : (A : Inputs) (hs : Holdings) → CanRun A hs → 64 ≤ A.frames → Finishes A (start A hs)
start_ends A hs c frames = run_ends A (start A hs) c.images frames (start_run A hs c)

pub run_finishes : (A : Inputs) (hs : Holdings) → CanRun A hs → 64 ≤ A.frames → (journal : List Entry) × ((s : State) × IsFinished A journal s)
run_finishes A hs c frames =
    let k : Finishes A (start A hs) = start_ends A hs c frames in
    let r : Reaches A (appended [] k.units) k.last = record { holdings = hs; found = c.pieces; units = k.units; follows = k.leads; joined = refl } in
    (appended [] k.units, (k.last, record { lawful = reached_lawful A hs (appended [] k.units) k.last c r; none = k.none }))

-- So does each run that has begun.
pub reached_finishes : (A : Inputs) (hs : Holdings) (journal : List Entry) (s : State) → CanRun A hs → 64 ≤ A.frames → Reaches A journal s → Finishes A s
reached_finishes A hs journal s c frames r = run_ends A s c.images frames (reached_run A hs journal s c r)

-- No list of next units is longer than that which leads to the end.

no_more : (A : Inputs) (s t r : State) (us vs : List Entry) → Follows A s us t → next_unit A t ≡ None → Follows A s vs r → length vs ≤ length us
no_more A s t r us [] f n g = omega arith
no_more A s t r [] (v ∷ vs) f n g = absurd (let z : None ≡ Some v = sym n ∙ ap (next_unit A) (sym f) ∙ g.0 in cc)
no_more A s t r (u ∷ us) (v ∷ vs) f n g =
    let same : u ≡ v = (let z : Some u ≡ Some v = sym f.0 ∙ g.0 in cc) in
    let k = no_more A (after A s u) t r us vs f.1 n (subst (λ (x : Entry). Follows A (after A s x) vs r) (sym same) g.1) in
    omega arith

pub run_bounded : (A : Inputs) (hs : Holdings) → CanRun A hs → 64 ≤ A.frames
    → (most : ℕ) × ((us : List Entry) (t : State) → Follows A (start A hs) us t → length us ≤ most)
run_bounded A hs c frames = let k : Finishes A (start A hs) = start_ends A hs c frames in (length k.units, λ us t f. no_more A (start A hs) k.last t k.units us k.leads k.none f)

-- Two finished runs of the same inputs are one.

followed_same : (A : Inputs) (s t r : State) (us vs : List Entry) → Follows A s us t → next_unit A t ≡ None → Follows A s vs r → next_unit A r ≡ None
    → (us ≡ vs) × (t ≡ r)
followed_same A s t r us vs f n g m = followed_once A s t r us vs f g (let a = no_more A s t r us vs f n g in let b = no_more A s r t vs us g m f in omega arith)

pub finished_once : (A : Inputs) (journal other : List Entry) (s t : State) → IsFinished A journal s → IsFinished A other t → (journal ≡ other) × (s ≡ t)
finished_once A journal other s t f g =
    let l : IsLawful A journal s = f.lawful in
    let m : IsLawful A other t = g.lawful in
    let x : Reaches A journal s = l.reaches in
    let y : Reaches A other t = m.reaches in
    let k = followed_same A (start A x.holdings) s t x.units y.units x.follows f.none
    (subst (λ (hs : Holdings). Follows A (start A hs) y.units t) (ok_same y.holdings x.holdings (sym y.found ∙ x.found)) y.follows) g.none in
    (sym x.joined ∙ ap (appended []) k.0 ∙ y.joined, k.1)
