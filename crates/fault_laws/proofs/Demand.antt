-- A plan that brings in no more than a memory: it holds pages till it needs their frames, and lets go what isn't in memory.
use Rattle.std.proofs.Common.{◌≡◌, ℕ, ◌+◌, ◌<◌, ◌≤◌, Bool, true, false, cond, List, [], ◌∷◌, ◌++◌, length, Option, Some, None, refl, sym, ap, ◌∙◌, arith, inl, inr}
use Rattle.std.specs.Prelude.{◌==◌}
use Rattle.std.proofs.lemmas.Bool.{false≢true, cases_Bool, cases_lt, eq-eqb, ne_eqb, lt-ltb, or_left, or_right}
use Rattle.vm_facts.specs.Lists.{without_first}
use Rattle.page_opt.specs.declared.Victim.{Victim}
use Rattle.page_opt.specs.Plans.{Run, has, due, entered, left, then, served, serve, runs, all_left, faults_of, plan_faults}
use Rattle.page_opt.specs.Cache.{IsCache}
use Rattle.page_opt.proofs.Counts.{hasnt_times, tally-without, length-without}
use Rattle.page_opt.proofs.Members.{times_enter}
use Rattle.page_opt.proofs.Least.{empty_cache}
use Rattle.fault_laws.specs.Memory.{Moment, used_in, lacking, brought, IsMoment, IsMemory, HasPlan, NoneFewer}
use Rattle.fault_laws.proofs.Lacking.{lacking_through, enter_fewer, without_other, leave_same, IsIdle, some_idle}

-- what is held, with these victims to come and these faults so far
abbrev run_of : List ℕ → List Victim → ℕ → Run
run_of held victims faults = record { cache = held; victims = victims; faults = faults }

-- victims that serve the references from here on, with at most so many faults at the end
record Planned (n at : ℕ) (refs held : List ℕ) (faults most : ℕ) : Type 0 where
  victims : List Victim
  last : List ℕ
  total : ℕ
  serves : runs n at refs (Some (run_of held victims faults)) ≡ Some (run_of last [] total)
  few : total ≤ most
  later : (k : ℕ) → k < at → due k victims ≡ None

-- One reference.

serve_hit : (n at p : ℕ) (held : List ℕ) (victims : List Victim) (faults : ℕ) → has p held ≡ true → due at victims ≡ None
    → serve n at p (run_of held victims faults) ≡ Some (run_of held victims faults)
unfolding serve served
serve_hit n at p held victims faults there none =
    ap (λ (b : Bool). served n p b (due at victims) (run_of held victims faults)) there ∙
    ap (λ (o : Option ℕ). served n p true o (run_of held victims faults)) none

enter_room : (n p : ℕ) (held : List ℕ) (victims : List Victim) (faults : ℕ) → length held < n
    → entered n p (run_of held victims faults) ≡ Some (run_of (p ∷ held) victims (faults + 1))
unfolding entered
enter_room n p held victims faults room =
    ap (λ (b : Bool). cond b (Some (run_of (p ∷ held) victims (faults + 1))) None) (lt-ltb (length held) n room)

serve_room : (n at p : ℕ) (held : List ℕ) (victims : List Victim) (faults : ℕ) → has p held ≡ false → length held < n → due at victims ≡ None
    → serve n at p (run_of held victims faults) ≡ Some (run_of (p ∷ held) victims (faults + 1))
unfolding serve served
serve_room n at p held victims faults away room none =
    ap (λ (b : Bool). served n p b (due at victims) (run_of held victims faults)) away ∙
    ap (λ (o : Option ℕ). served n p false o (run_of held victims faults)) none ∙
    enter_room n p held victims faults room

due_first : (at v : ℕ) (victims : List Victim) → due at (record { at = at; page = v } ∷ victims) ≡ Some v
unfolding due
due_first at v victims = ap (λ (b : Bool). cond b (Some v) None) (eq-eqb at at refl)

due_before : (k at v : ℕ) (victims : List Victim) → k < at → due k (record { at = at; page = v } ∷ victims) ≡ None
unfolding due
due_before k at v victims l = ap (λ (b : Bool). cond b (Some v) None) (ne_eqb at k (λ e. absurd (omega arith)))

serve_full : (n at p v : ℕ) (held : List ℕ) (victims : List Victim) (faults : ℕ) → has p held ≡ false → has v held ≡ true → length (without_first v held) < n
    → serve n at p (run_of held (record { at = at; page = v } ∷ victims) faults) ≡ Some (run_of (p ∷ without_first v held) victims (faults + 1))
unfolding serve served left then
serve_full n at p v held victims faults away there room =
    let whole : List Victim = record { at = at; page = v } ∷ victims in
    ap (λ (b : Bool). served n p b (due at whole) (run_of held whole faults)) away ∙
    ap (λ (o : Option ℕ). served n p false o (run_of held whole faults)) (due_first at v victims) ∙
    ap (λ (b : Bool). then (entered n p) (cond b (Some (run_of (without_first v held) victims faults)) None)) there ∙
    enter_room n p (without_first v held) victims faults room

-- A plan for the references after one is a plan for all.

first_served : (n at p : ℕ) (refs held after : List ℕ) (before victims : List Victim) (last : List ℕ) (faults more total : ℕ)
    → serve n at p (run_of held before faults) ≡ Some (run_of after victims more)
    → runs n (at + 1) refs (Some (run_of after victims more)) ≡ Some (run_of last [] total)
    → runs n at (p ∷ refs) (Some (run_of held before faults)) ≡ Some (run_of last [] total)
unfolding runs then
first_served n at p refs held after before victims last faults more total s r = ap (λ (o : Option Run). runs n (at + 1) refs o) s ∙ r

planned_hit : (n at p : ℕ) (refs held : List ℕ) (faults most : ℕ) → has p held ≡ true → Planned n (at + 1) refs held faults most
    → Planned n at (p ∷ refs) held faults most
planned_hit n at p refs held faults most there k = record {
  victims = k.victims;
  last = k.last;
  total = k.total;
  serves = first_served n at p refs held held k.victims k.victims k.last faults faults k.total (serve_hit n at p held k.victims faults there (k.later at (omega arith))) k.serves;
  few = k.few;
  later = λ i l. k.later i (omega arith);
}

planned_room : (n at p : ℕ) (refs held : List ℕ) (faults most : ℕ) → has p held ≡ false → length held < n → Planned n (at + 1) refs (p ∷ held) (faults + 1) most
    → Planned n at (p ∷ refs) held faults most
planned_room n at p refs held faults most away room k = record {
  victims = k.victims;
  last = k.last;
  total = k.total;
  serves = first_served n at p refs held (p ∷ held) k.victims k.victims k.last faults (faults + 1) k.total (serve_room n at p held k.victims faults away room (k.later at (omega arith))) k.serves;
  few = k.few;
  later = λ i l. k.later i (omega arith);
}

planned_full : (n at p v : ℕ) (refs held : List ℕ) (faults most : ℕ) → has p held ≡ false → has v held ≡ true → length (without_first v held) < n
    → Planned n (at + 1) refs (p ∷ without_first v held) (faults + 1) most → Planned n at (p ∷ refs) held faults most
planned_full n at p v refs held faults most away there room k = record {
  victims = record { at = at; page = v } ∷ k.victims;
  last = k.last;
  total = k.total;
  serves = first_served n at p refs held (p ∷ without_first v held) (record { at = at; page = v } ∷ k.victims) k.victims k.last faults (faults + 1) k.total
      (serve_full n at p v held k.victims faults away there room) k.serves;
  few = k.few;
  later = λ i l. due_before i at v k.victims l;
}

-- What is held after a reference.

pub enter_cache : (n p : ℕ) (held : List ℕ) → has p held ≡ false → length held < n → IsCache n held → IsCache n (p ∷ held)
enter_cache n p held away room c = record { once = λ q. times_enter p q held (hasnt_times p held away) c.once; small = omega arith }

leave_cache : (n v : ℕ) (held : List ℕ) → has v held ≡ true → IsCache n held → IsCache n (without_first v held)
leave_cache n v held there c = record {
  once = λ q. let t = tally-without (λ r. r == q) v held there in let o = c.once q in omega arith;
  small = let l = length-without v held there in let s = c.small in omega arith;
}

-- what wasn't held still isn't, once another page left
still_away : (p v : ℕ) (held : List ℕ) → has p held ≡ false → has v held ≡ true → has p (without_first v held) ≡ false
still_away p v held away there =
    without_other v p held (λ e. false≢true (sym away ∙ ap (λ (r : ℕ). has r held) e ∙ there)) ∙ away

-- These references have a plan, whatever is held: one with at most so many faults, where the faults so far and the pages of
-- the memory that aren't held are within a budget.
abbrev HavePlan : ℕ → ℕ → List ℕ → List ℕ → ℕ → ℕ → Type 0
HavePlan n at refs pages budget most =
    (held : List ℕ) (faults : ℕ) → IsCache n held → faults + lacking held pages ≤ budget → Planned n at refs held faults most

-- a reference to a page that isn't held is a fault, and one page less of the memory isn't held
fault_plans : (n at p : ℕ) (refs pages held : List ℕ) (faults budget most : ℕ) → IsCache n pages → IsCache n held → has p pages ≡ true → has p held ≡ false
    → faults + lacking held pages ≤ budget → HavePlan n (at + 1) refs pages budget most → Planned n at (p ∷ refs) held faults most
fault_plans n at p refs pages held faults budget most m c there away l rest = elim (cases_lt (length held) n) [
  | inl room ↦
      let fewer = enter_fewer p held pages there away in
      planned_room n at p refs held faults most away room (rest (p ∷ held) (faults + 1) (enter_cache n p held away room c) (omega arith))
  | inr full ↦ leave (some_idle n p held pages c m full there away)
]
  where
    leave : (v : ℕ) × IsIdle held pages v → Planned n at (p ∷ refs) held faults most
    leave (v, idle) =
        let shorter = length-without v held idle.there in
        let small = c.small in
        let gone = still_away p v held away idle.there in
        let same = leave_same v held pages idle.away in
        let fewer = enter_fewer p (without_first v held) pages there gone in
        planned_full n at p v refs held faults most away idle.there (omega arith)
        (rest (p ∷ without_first v held) (faults + 1) (enter_cache n p (without_first v held) gone (omega arith) (leave_cache n v held idle.there c)) (omega arith))

use_plans : (n at p : ℕ) (refs pages : List ℕ) (budget most : ℕ) → IsCache n pages → has p pages ≡ true → HavePlan n (at + 1) refs pages budget most
    → HavePlan n at (p ∷ refs) pages budget most
use_plans n at p refs pages budget most m there rest = λ held faults c l. elim (cases_Bool (has p held)) [
  | inl hit ↦ planned_hit n at p refs held faults most hit (rest held faults c l)
  | inr away ↦ fault_plans n at p refs pages held faults budget most m c there away l rest
]

-- the references of one moment, and then those of the later ones
uses_plan : (used : List ℕ) (n at : ℕ) (later pages : List ℕ) (budget most : ℕ) → IsCache n pages → ((p : ℕ) → has p used ≡ true → has p pages ≡ true)
    → ((k : ℕ) → HavePlan n k later pages budget most) → HavePlan n at (used ++ later) pages budget most
unfolding has
uses_plan [] n at later pages budget most m there rest = rest at
uses_plan (p ∷ ps) n at later pages budget most m there rest =
    use_plans n at p (ps ++ later) pages budget most m (there p (or_left (p == p) (has p ps) (eq-eqb p p refl)))
    (uses_plan ps n (at + 1) later pages budget most m (λ q h. there q (or_right (p == q) (has q ps) h)) rest)

none_due : (k : ℕ) → due k [] ≡ None
unfolding due
none_due k = refl

moments_plan : (moments : List Moment) (n at : ℕ) (before : List ℕ) (budget most : ℕ) → IsMemory n moments → budget + brought before moments ≤ most
    → HavePlan n at (used_in moments) before budget most
unfolding runs
moments_plan [] n at before budget most is top =
    λ held faults c l. record { victims = []; last = held; total = faults; serves = refl; few = omega arith; later = λ k i. none_due k }
moments_plan (m ∷ ms) n at before budget most is top = λ held faults c l.
    let here : IsMoment n m = is.0 in
    let now : IsCache n m.pages = here.held in
    let through = lacking_through held before m.pages now.once in
    uses_plan m.used n at (used_in ms) m.pages (budget + lacking before m.pages) most now here.there
    (λ k. moments_plan ms n k m.pages (budget + lacking before m.pages) most is.1 (omega arith)) held faults c (omega arith)

-- The laws.

pub memory_planned : (n : ℕ) (moments : List Moment) → IsMemory n moments → HasPlan (used_in moments) n (brought [] moments)
unfolding plan_faults faults_of all_left
memory_planned n moments m =
    let k : Planned n 1 (used_in moments) [] 0 (brought [] moments) = moments_plan moments n 1 [] 0 (brought [] moments) m (omega arith) [] 0 (empty_cache n) (omega arith) in
    record { victims = k.victims; faults = k.total; plan = ap faults_of k.serves; few = k.few }

pub memory_least : (n least : ℕ) (moments : List Moment) → IsMemory n moments → NoneFewer (used_in moments) n least → least ≤ brought [] moments
memory_least n least moments m none =
    let k : HasPlan (used_in moments) n (brought [] moments) = memory_planned n moments m in
    let l = none k.victims k.faults k.plan in
    let f = k.few in
    omega arith
