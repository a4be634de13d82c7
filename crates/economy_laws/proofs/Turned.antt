-- Between two boundaries a process that runs does what it does in a turn of the closing phase.
use Rattle.std.proofs.Common.{◌≡◌, ℕ, ◌+◌, ◌<◌, ◌&&◌, nat_lt, Bool, true, false, List, [], ◌∷◌, length, Option, Some, refl, sym, ap, ◌∙◌, subst, arith}
use Rattle.std.proofs.lemmas.Bool.Decides.{nat_tests}
use Rattle.std.proofs.lemmas.Bool.{and_parts}
use Rattle.vm_facts.specs.declared.page.Page.{Page}
use Rattle.vm_facts.specs.declared.entry.Entry.{Entry}
use Rattle.vm_facts.specs.declared.entry.Entry.TheVariants as entries
use Rattle.flat_state.specs.Flat.{Inputs, can_step}
use Rattle.flat_state.specs.Journal.{append, counted}
use Rattle.page_model.specs.Placement.{Placement, Due, Start, CopyOf}
use Rattle.page_model.specs.Place.{place_entry}
use Rattle.page_model.specs.Serve.{serve_unit, Serving, NotNeeded, AtOnce, ByWaiting, serving, unit_of_serving}
use Rattle.page_model.specs.Swapper.{is_out}
use Rattle.run_model.specs.declared.mark.Mark.{Mark}
use Rattle.run_model.specs.declared.mark.Mark.TheVariants as marks
use Rattle.run_model.specs.State.{State}
use Rattle.run_model.specs.Wanted.{running, wanted, locked_by, locked}
use Rattle.run_model.specs.Snapshot.{touched_of, before_absent}
use Rattle.run_model.specs.After.{place_at, after}
use Rattle.run_model.specs.Act.{must_refuse, must_settle, act_by, act_if, act}
use Rattle.run_model.specs.Next.{when, or_else, fill_unit, copy_unit_by, due_unit, goes_on, work_by, work, turn_by, turn_instructions, under, next_mark, next_unit}
use Rattle.run_model.specs.Kinds.{GoesOn, ProcessRuns, Comes, Kind, Fills, Brings, Copies, ServesWanted, Acts, ProcessComes, Interrupts, HandsMove, ProcessGoes, Notes, Begins}
use Rattle.run_model.specs.Lawful.{Follows}
use Rattle.run_model.proofs.NextUnits.{kind_of}
use Rattle.run_model.proofs.After.{after_count}
use Rattle.run_laws.specs.Flowing.{Awaits, WaitsBy, Flows}
use Rattle.run_laws.specs.Running.{IsRun}
use Rattle.run_laws.proofs.Flows.{runs_work}
use Rattle.economy_laws.proofs.Left.{wanted_on}
use Rattle.economy_laws.proofs.Finishing.Stages.{is_boundary, IsLasting, mark_boundary, mark_lasts}
use Rattle.economy_laws.proofs.Finishing.Dues.{due_next as due_turn}

-- none of these units is a boundary
abbrev pub Quiet : List Entry → Type 0
Quiet [] = Unit {0}
Quiet (u ∷ us) = (is_boundary u ≡ false) × Quiet us

-- the state in a turn of this process, which began when so many instructions were counted, all lines being taken
abbrev pub turned : Inputs → State → ℕ → ℕ → State
turned A s pid k = record s { mark = marks.Turn pid k; lines = length A.lines }

-- under this mark the process runs, and when so many instructions are counted such a turn isn't over
abbrev pub TurnsFor : Mark → ℕ → ℕ → ℕ → Type 0
TurnsFor (marks.Dispatch p count since) pid k n = (p ≡ pid) × (n < k + 1000)
TurnsFor (marks.Turn p since) pid k n = (p ≡ pid) × (since ≡ k)
TurnsFor _ pid k n = ⊥

for_running : (m : Mark) (pid k n : ℕ) → TurnsFor m pid k n → running m ≡ Some pid
for_running (marks.Dispatch p count since) pid k n f = ap (λ (x : ℕ). Some x) f.0
for_running (marks.Turn p since) pid k n f = ap (λ (x : ℕ). Some x) f.0
for_running _ pid k n f = absurd f

for_lasts : (m : Mark) (pid k n : ℕ) → TurnsFor m pid k n → IsLasting m
for_lasts (marks.Dispatch p count since) pid k n f = tt
for_lasts (marks.Turn p since) pid k n f = tt
for_lasts _ pid k n f = absurd f

-- it goes on so
goes_turn : (A : Inputs) (s : State) (m : Mark) (pid k p : ℕ) (now : Bool) → TurnsFor m pid k s.count → GoesOn A s m p now
    → (p ≡ pid) × (goes_on A s pid (k + turn_instructions) ≡ true)
goes_turn A s (marks.Dispatch q count since) pid k p false f g =
    let same : p ≡ pid = sym g.0 ∙ f.0 in
    let parts = and_parts (can_step s.point.flat p) (nat_lt s.count A.limit && nat_lt s.count (since + count)) g.1 in
    let below = and_parts (nat_lt s.count A.limit) (nat_lt s.count (since + count)) parts.1 in
    (same, all (can_step s.point.flat pid) (nat_lt s.count A.limit) (nat_lt s.count (k + 1000)) (ap (can_step s.point.flat) (sym same) ∙ parts.0) below.0 (less s.count (k + 1000) f.1))
  where
    less : (a b : ℕ) → a < b → nat_lt a b ≡ true
    less a b e = grind (arith, nat_tests)

    all : (x y z : Bool) → x ≡ true → y ≡ true → z ≡ true → (x && (y && z)) ≡ true
    all true true true a b c = refl
    all false y z a b c = absurd cc
    all true false z a b c = absurd cc
    all true true false a b c = absurd cc
goes_turn A s (marks.Turn q since) pid k p true f g =
    let same : p ≡ pid = sym g.0 ∙ f.0 in
    (same, ap (λ (x : ℕ). goes_on A s x (k + 1000)) (sym same) ∙ ap (λ (x : ℕ). goes_on A s p (x + 1000)) (sym f.1) ∙ g.1)
goes_turn A s _ pid k p now f g = absurd g

runs_turn : (A : Inputs) (s : State) (pid k p : ℕ) (now : Bool) → TurnsFor s.mark pid k s.count → ProcessRuns A s p now → (p ≡ pid) × ProcessRuns A
    (turned A s pid k) pid true
runs_turn A s pid k p now f r =
    let g = goes_turn A s s.mark pid k p now f r.on in
    (g.0, record { clear = r.clear; on = (refl, g.1); resident = ap (is_out s.place) (sym g.0) ∙ r.resident })

-- What is wanted and locked.

wanted_turn : (A : Inputs) (s : State) (pid k : ℕ) → running s.mark ≡ Some pid → s.place.due ≡ [] → wanted A (turned A s pid k) ≡ wanted A s
wanted_turn A s pid k m d = wanted_on A (turned A s pid k) pid refl d ∙ sym (wanted_on A s pid m d)

locked_turn : (A : Inputs) (s : State) (pid k : ℕ) → running s.mark ≡ Some pid → locked A (turned A s pid k) ≡ locked A s
locked_turn A s pid k m = go s.place.due
  where
    go : (ds : List Due) → locked_by A (turned A s pid k) ds ≡ locked_by A s ds
    go [] = ap (λ (o : Option ℕ). before_absent s.place (touched_of A s.point.flat o)) (sym m)
    go (Start q ∷ ds) = refl
    go (CopyOf q parent ∷ ds) = refl

-- The next unit.

pub under_turn : (A : Inputs) (s : State) (u : Entry) → s.place.due ≡ [] → under A s s.mark ≡ Some u → next_unit A s ≡ Some u
unfolding next_unit
under_turn A s u d h = ap (λ (x : List Due). or_else (due_unit s.place x) (or_else (under A s s.mark) (next_mark A s))) d ∙ ap (λ (o : Option Entry). or_else o (next_mark A s)) h

works_turn : (A : Inputs) (s : State) (pid : ℕ) (u : Entry) → ProcessRuns A s pid true → work A s pid true ≡ Some u → next_unit A s ≡ Some u
works_turn A s pid u r h = under_turn A s u r.clear (runs_work A s pid true r ∙ h)

-- a page that is served without waiting is so served in a turn
pub served_now : (p : Placement) (q : Page) (now : Bool) (u : Entry) → serve_unit p q now ≡ Some u → serve_unit p q true ≡ Some u
served_now p q true u h = h
served_now p q false u h = go (serving p q) h
  where
    go : (x : Serving) → unit_of_serving x false ≡ Some u → unit_of_serving x true ≡ Some u
    go NotNeeded h = absurd cc
    go (AtOnce e) h = h
    go (ByWaiting e) h = absurd cc

act_turn : (A : Inputs) (s : State) (pid k : ℕ) → act A (turned A s pid k) pid ≡ act A s pid
unfolding act
act_turn A s pid k = can (can_step s.point.flat pid)
  where
    by : (r t : Bool) → act_by A (turned A s pid k) pid r t ≡ act_by A s pid r t
    by true t = refl
    by false true = refl
    by false false = refl

    can : (b : Bool) → act_if b A (turned A s pid k) pid ≡ act_if b A s pid
    can true = by (must_refuse A s pid) (must_settle A s pid)
    can false = refl

comes_turn : (A : Inputs) (s : State) (m : Mark) (pid k p : ℕ) → TurnsFor m pid k s.count → Comes A s m p
    → (p ≡ pid) × (goes_on A s pid (k + turn_instructions) ≡ true) × (is_out s.place pid ≡ true)
comes_turn A s (marks.Turn q since) pid k p f c =
    let same : p ≡ pid = sym c.0 ∙ f.0 in
    (same, (goes_turn A s (marks.Turn q since) pid k p true f (c.0, c.1)).1, ap (is_out s.place) (sym same) ∙ c.2)
comes_turn A s (marks.Dispatch q count since) pid k p f c = absurd c
comes_turn A s _ pid k p f c = absurd f

next_turn : (A : Inputs) (s : State) (pid k : ℕ) (u : Entry) → TurnsFor s.mark pid k s.count → next_unit A s ≡ Some u → is_boundary u ≡ false
    → next_unit A (turned A s pid k) ≡ Some u
next_turn A s pid k u f h n = go (kind_of A s u h)
  where
    on : running s.mark ≡ Some pid
    on = for_running s.mark pid k s.count f

    some : (x y : Entry) → x ≡ y → Some y ≡ Some x
    some x y e = ap (λ (z : Entry). Some z) (sym e)

    other : (m : Mark) → s.mark ≡ m → (TurnsFor m pid k s.count → ⊥) → next_unit A (turned A s pid k) ≡ Some u
    other m e never = absurd (never (subst (λ (x : Mark). TurnsFor x pid k s.count) e f))

    in_turn : (b : Bool) → b ≡ true → (o : Bool) → o ≡ true → when b (turn_by A (turned A s pid k) pid o) ≡ Some (entries.SwapIn pid)
    in_turn true e true i = refl
    in_turn false e o i = absurd cc
    in_turn true e false i = absurd cc

    go : Kind A s u → next_unit A (turned A s pid k) ≡ Some u
    go (Fills q ds e i) = due_turn A (turned A s pid k) (Start q) ds e ∙ some u (fill_unit s.place (entries.Zero q)) i
    go (Brings q parent ds e i) = due_turn A (turned A s pid k) (CopyOf q parent) ds e ∙ ap (λ (o : Option Entry). Some (copy_unit_by s.place q o)) i
    go (Copies q parent ds e j i) =
        due_turn A (turned A s pid k) (CopyOf q parent) ds e ∙ ap (λ (o : Option Entry). Some (copy_unit_by s.place q o)) j ∙ some u (fill_unit s.place (entries.Copy q)) i
    go (ServesWanted p now q r w i) =
        let x = runs_turn A s pid k p now f r in
        works_turn A (turned A s pid k) pid u x.1 (ap (work_by A (turned A s pid k) pid true) (wanted_turn A s pid k on r.clear ∙ w) ∙ served_now s.place q now u i)
    go (Acts p now r w a) =
        let x = runs_turn A s pid k p now f r in
        works_turn A (turned A s pid k) pid u x.1 (ap (work_by A (turned A s pid k) pid true) (wanted_turn A s pid k on r.clear ∙ w) ∙ act_turn A s pid k ∙ ap (act A s) (sym x.0) ∙ a)
    go (ProcessComes p e c i) =
        let x = comes_turn A s s.mark pid k p f c in
        under_turn A (turned A s pid k) u e (in_turn (goes_on A s pid (k + turn_instructions)) x.1 (is_out s.place pid) x.2 ∙ some u (entries.SwapIn pid) (i ∙ ap (λ (y : ℕ). entries.SwapIn y) x.0))
    go (Interrupts e j i) = other marks.Interrupt j (λ z. z)
    go (HandsMove count e j l w i) = other (marks.Hands count) j (λ z. z)
    go (ProcessGoes p e j i) = other (marks.PutOut p) j (λ z. z)
    go (Notes e j i) = other marks.Audit j (λ z. z)
    go (Begins e j i) = absurd (let z : true ≡ false = sym (mark_boundary A s u i) ∙ n in cc)

-- What it leaves.

-- a paging entry with these pages locked
moved_with : Inputs → State → ℕ → ℕ → Entry → List Page → State
moved_with A s pid k u pages = record s {
  place = place_entry pages (place_at s u) s.place u;
  mark = marks.Turn pid k;
  lines = length A.lines;
  journal = append s.journal u;
}

after_turn : (A : Inputs) (s : State) (pid k : ℕ) (u : Entry) → running s.mark ≡ Some pid → is_boundary u ≡ false
    → after A (turned A s pid k) u ≡ turned A (after A s u) pid k
unfolding after moved_with
after_turn A s pid k (entries.Event line) m n = absurd cc
after_turn A s pid k (entries.Turn p) m n = absurd cc
after_turn A s pid k (entries.Ran p i) m n = absurd cc
after_turn A s pid k (entries.Call p i c r0 r1) m n = absurd cc
after_turn A s pid k (entries.Ended p i) m n = absurd cc
after_turn A s pid k (entries.Out p bytes) m n = refl
after_turn A s pid k (entries.Grew p i) m n = refl
after_turn A s pid k (entries.Refused p) m n = refl
after_turn A s pid k (entries.Sleeps p) m n = refl
after_turn A s pid k (entries.Zero q) m n = ap (moved_with A s pid k (entries.Zero q)) (locked_turn A s pid k m)
after_turn A s pid k (entries.Get q lo i) m n = ap (moved_with A s pid k (entries.Get q lo i)) (locked_turn A s pid k m)
after_turn A s pid k (entries.Copy q) m n = ap (moved_with A s pid k (entries.Copy q)) (locked_turn A s pid k m)
after_turn A s pid k (entries.Reclaim q) m n = ap (moved_with A s pid k (entries.Reclaim q)) (locked_turn A s pid k m)
after_turn A s pid k (entries.Hands i) m n = ap (moved_with A s pid k (entries.Hands i)) (locked_turn A s pid k m)
after_turn A s pid k (entries.Put q i) m n = ap (moved_with A s pid k (entries.Put q i)) (locked_turn A s pid k m)
after_turn A s pid k entries.Done m n = ap (moved_with A s pid k entries.Done) (locked_turn A s pid k m)
after_turn A s pid k (entries.SwapOut p) m n = ap (moved_with A s pid k (entries.SwapOut p)) (locked_turn A s pid k m)
after_turn A s pid k (entries.SwapIn p) m n = ap (moved_with A s pid k (entries.SwapIn p)) (locked_turn A s pid k m)
after_turn A s pid k (entries.Owners a b c d) m n = refl

pub quiet_counts : (u : Entry) → is_boundary u ≡ false → counted u ≡ 0
quiet_counts (entries.Ran p i) n = absurd cc
quiet_counts (entries.Call p i c r0 r1) n = absurd cc
quiet_counts (entries.Ended p i) n = absurd cc
quiet_counts _ n = refl

pub record InTurn (A : Inputs) (s : State) (pid k : ℕ) (us : List Entry) : Type 0 where
  pub last : State
  pub follows : Follows A (turned A s pid k) us last

-- these units are those of the turn
pub in_turn : (A : Inputs) (us : List Entry) (s t : State) (pid k : ℕ) → TurnsFor s.mark pid k s.count → Follows A s us t → Quiet us → InTurn A s pid k us
in_turn A [] s t pid k f g q = record { last = turned A s pid k; follows = refl }
in_turn A (u ∷ us) s t pid k f g q =
    let mark : (after A s u).mark ≡ s.mark = mark_lasts A s u (for_lasts s.mark pid k s.count f) q.0 in
    let count : (after A s u).count ≡ s.count = omega (arith, after_count A s u, quiet_counts u q.0) in
    let on : TurnsFor (after A s u).mark pid k (after A s u).count =
    subst (λ (m : Mark). TurnsFor m pid k (after A s u).count) (sym mark) (subst (λ (n : ℕ). TurnsFor s.mark pid k n) (sym count) f) in
    let more : InTurn A (after A s u) pid k us = in_turn A us (after A s u) t pid k on g.1 q.1 in
    record {
      last = more.last;
      follows = (next_turn A s pid k u f g.0 q.0, subst (λ (x : State). Follows A x us more.last) (sym (after_turn A s pid k u (for_running s.mark pid k s.count f) q.0)) more.follows);
    }

-- What stands in it.

waits_turn : (A : Inputs) (s : State) (pid k : ℕ) → TurnsFor s.mark pid k s.count → (o : Option Entry) → WaitsBy A s o → WaitsBy A (turned A s pid k) o
waits_turn A s pid k f o w = go o w
  where
    awaits : (p : ℕ) → Awaits A s p → Awaits A (turned A s pid k) p
    awaits p a =
        let x = runs_turn A s pid k p a.now f a.runs in
        let run : ProcessRuns A (turned A s pid k) p true = subst (λ (y : ℕ). ProcessRuns A (turned A s pid k) y true) (sym x.0) x.1 in
        let r : ProcessRuns A s p a.now = a.runs in
        record { now = true; runs = run; unwanted = wanted_turn A s pid k (for_running s.mark pid k s.count f) r.clear ∙ a.unwanted; left = a.left }

    go : (o : Option Entry) → WaitsBy A s o → WaitsBy A (turned A s pid k) o
    go (Some (entries.Refused p)) w = awaits p w
    go (Some (entries.Out p bytes)) w = awaits p w
    go _ w = tt

pub run_turn : (A : Inputs) (s : State) (pid k : ℕ) → TurnsFor s.mark pid k s.count → IsRun A s → IsRun A (turned A s pid k)
run_turn A s pid k f r =
    let flows : Flows A s = r.flows in
    record {
      placed = r.placed;
      numbers = r.numbers;
      lenders = r.lenders;
      texts = r.texts;
      sized = r.sized;
      flows = record { says = flows.says; waits = waits_turn A s pid k f s.point.last flows.waits };
      mark = tt;
    }
