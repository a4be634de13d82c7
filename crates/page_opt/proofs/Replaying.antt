-- One reference of a plan, played by the code, is the step that the plan's definition takes.
use Rattle.std.proofs.Common.{◌≡◌, ℕ, ◌+◌, ◌<◌, ◌≤◌, Bool, true, false, not, cond, List, [], ◌∷◌, length, drop, get_or, Option, Some, None, refl, sym, ap, ap₂, ◌∙◌, subst, arith, inl, inr}
use Rattle.std.specs.Prelude.{◌==◌, ◌||◌, ◌&&◌, slice_get, is_some}
use Rattle.std.proofs.lemmas.Bool.{cases_eq, eq-eqb, ne_eqb, lt-ltb, le-ltb, false≢true, true≢false}
use Rattle.std.specs.BTreeSet.{BTreeSet, btree_set_len}
use Rattle.page_opt.specs.declared.Victim.{Victim}
use Rattle.page_opt.specs.declared.replay.Replay.{Replay}
use Rattle.page_opt.specs.Plans.{Run, has, due, entered, left, then, served, serve, runs, all_left, faults_of, plan_faults}
use Rattle.vm_facts.specs.Lists.{without_first}
use Rattle.page_opt.specs.Held.{in_set, Changes}
use Rattle.page_opt.specs.Replayed.{Tracks, run_of, Leaving, Entering, Serving, Replays}
use Rattle.page_opt.proofs.Counts.{hasnt_times, tally-without, length-without}
use Rattle.std.proofs.lemmas.List.{drop_more, drop_all}
use Rattle.page_opt.proofs.Served.{runs_none}
use Rattle.page_opt.proofs.Members.{times_enter, has_first, has-without}
use Rattle.std.proofs.Math.Bool.{and-true, and-false}

pub all_used : (victims : List Victim) (faults : ℕ) → length victims ≡ 0 → Some faults ≡ all_left victims faults
unfolding all_left
all_used [] faults e = refl
all_used (v ∷ vs) faults e = absurd (omega arith)

pub some_over : (victims : List Victim) (faults : ℕ) → (length victims ≡ 0 → ⊥) → None ≡ all_left victims faults
unfolding all_left
some_over [] faults e = absurd (e refl)
some_over (v ∷ vs) faults e = refl

pub due_first : (at : ℕ) (victims : List Victim) (v : Victim) → Some v ≡ slice_get victims 0 → due at victims ≡ cond (v.at == at) (Some v.page) None
unfolding due
due_first at [] v e = cc
due_first at (w ∷ ws) v e = let same : w ≡ v = cc in ap (λ (x : Victim). cond (x.at == at) (Some x.page) None) same

pub due_none : (at : ℕ) (victims : List Victim) → None ≡ slice_get victims 0 → None ≡ due at victims
unfolding due
due_none at [] e = refl
due_none at (w ∷ ws) e = cc

pub tracks_none : (s : BTreeSet ℕ) → ((q : ℕ) → in_set s q ≡ false) → btree_set_len s ≡ 0 → Tracks [] s
unfolding has
tracks_none s none empty = record { same = none; size = empty; once = λ q. omega arith }

tracks_entered : (page : ℕ) (cache : List ℕ) (s t : BTreeSet ℕ) → Tracks cache s → has page cache ≡ false → Changes s t page true
    → btree_set_len t ≡ btree_set_len s + 1 → Tracks (page ∷ cache) t
tracks_entered page cache s t k away c e = record {
  same = λ q. elim (cases_eq q page) [
    | inl same ↦
        ap (in_set t) same ∙ c.here ∙
        sym (has_first page q cache ∙ ap (λ (b : Bool). b || has q cache) (eq-eqb q page same))
    | inr other ↦
        c.other q other ∙ k.same q ∙
        sym (has_first page q cache ∙ ap (λ (b : Bool). b || has q cache) (ne_eqb q page other))
  ];
  size = let z = k.size in omega arith;
  once = λ q. times_enter page q cache (hasnt_times page cache away) k.once;
}

tracks_left : (v : ℕ) (cache : List ℕ) (s t : BTreeSet ℕ) → Tracks cache s → has v cache ≡ true → Changes s t v false
    → btree_set_len t + 1 ≡ btree_set_len s → Tracks (without_first v cache) t
tracks_left v cache s t k there c e = record {
  same = λ q. elim (cases_eq q v) [
    | inl same ↦
        ap (in_set t) same ∙ c.here ∙
        sym (has-without v q cache k.once there ∙ ap (λ (b : Bool). has q cache && not b) (eq-eqb q v same) ∙ and-false (has q cache))
    | inr other ↦
        c.other q other ∙ k.same q ∙
        sym (has-without v q cache k.once there ∙ ap (λ (b : Bool). has q cache && not b) (ne_eqb q v other) ∙ and-true (has q cache))
  ];
  size = let z = k.size in let l = length-without v cache there in omega arith;
  once = λ q. let o = k.once q in let f = tally-without (λ r. r == q) v cache there in omega arith;
}

-- the page enters the run where the code lets it enter
abbrev EntersRun : ℕ → ℕ → Run → Replay → Bool → Type 0
EntersRun n page run s true = (later : List ℕ) × Tracks later s.cache × (entered n page run ≡ Some (run_of later s)) × (s.faults ≤ run.faults + 1)
EntersRun n page run s false = entered n page run ≡ None

enters_run : (n page : ℕ) (cache : List ℕ) (victims : List Victim) (faults : ℕ) (m s : Replay) (ok : Bool) → Tracks cache m.cache
    → m.victims.now ≡ victims → m.faults ≡ faults → has page cache ≡ false
    → Entering n page m s ok → EntersRun n page (record { cache = cache; victims = victims; faults = faults }) s ok
unfolding entered
enters_run n page cache victims faults m s true k same_victims same_faults away e =
    let room = e.room in let z = k.size in (
      page ∷ cache,
      tracks_entered page cache m.cache s.cache k away e.cache (e.size (k.same page ∙ away)),
      ap (λ (b : Bool). cond b (Some (record { cache = page ∷ cache; victims = victims; faults = faults + 1 })) None) (lt-ltb (length cache) n (omega arith)) ∙
          ap (λ (vs : List Victim). Some (record { cache = page ∷ cache; victims = vs; faults = faults + 1 })) (sym (e.victims ∙ same_victims)) ∙
          ap (λ (k : ℕ). Some (record { cache = page ∷ cache; victims = s.victims.now; faults = k })) (sym (e.faults ∙ ap (λ (k : ℕ). k + 1) same_faults)),
      let f = e.faults in omega arith,
    )
enters_run n page cache victims faults m s false k same_victims same_faults away e =
    let z = k.size in
    ap (λ (b : Bool). cond b (Some (record { cache = page ∷ cache; victims = victims; faults = faults + 1 })) None) (le-ltb (length cache) n (omega arith))

-- a hit
pub replay_hit : (n at page : ℕ) (cache : List ℕ) (r : Replay) (o : Option ℕ) (ok : Bool) → Tracks cache r.cache → in_set r.cache page ≡ true
    → o ≡ due at r.victims.now
    → is_some o ≡ not ok → Serving n at page cache r r ok
unfolding serve served
replay_hit n at page cache r None true k there d e = record {
  later = cache;
  tracks = k;
  step =
      ap (λ (b : Bool). served n page b (due at r.victims.now) (run_of cache r)) (sym (k.same page) ∙ there) ∙
      ap (λ (o : Option ℕ). served n page true o (run_of cache r)) (sym d);
  faults = omega arith;
}
replay_hit n at page cache r None false k there d e = absurd (false≢true e)
replay_hit n at page cache r (Some v) true k there d e = absurd (true≢false e)
replay_hit n at page cache r (Some v) false k there d e =
    ap (λ (b : Bool). served n page b (due at r.victims.now) (run_of cache r)) (sym (k.same page) ∙ there) ∙
    ap (λ (o : Option ℕ). served n page true o (run_of cache r)) (sym d)

-- a fault whose victim isn't there
pub replay_stuck : (n at page : ℕ) (cache : List ℕ) (r m : Replay) (o : Option ℕ) → Tracks cache r.cache → in_set r.cache page ≡ false
    → o ≡ due at r.victims.now
    → Leaving o r m false → Serving n at page cache r m false
unfolding serve served left then
replay_stuck n at page cache r m None k away d l = absurd (false≢true l.yes)
replay_stuck n at page cache r m (Some v) k away d l =
    ap (λ (b : Bool). served n page b (due at r.victims.now) (run_of cache r)) (sym (k.same page) ∙ away) ∙
    ap (λ (o : Option ℕ). served n page false o (run_of cache r)) (sym d) ∙
    ap (λ (b : Bool). then (entered n page) (cond b (Some (record { cache = without_first v cache; victims = drop 1 r.victims.now; faults = r.faults })) None)) (sym (k.same v) ∙ sym l.test)

-- another fault
pub replay_fault : (n at page : ℕ) (cache : List ℕ) (r m s : Replay) (o : Option ℕ) (ok : Bool) → Tracks cache r.cache → in_set r.cache page ≡ false
    → o ≡ due at r.victims.now
    → Leaving o r m true → Entering n page m s ok → Serving n at page cache r s ok
unfolding serve served left then
replay_fault n at page cache r m s o ok k away d l e = go o d l
  where
    start : serve n at page (run_of cache r) ≡ served n page false (due at r.victims.now) (run_of cache r)
    start = ap (λ (b : Bool). served n page b (due at r.victims.now) (run_of cache r)) (sym (k.same page) ∙ away)

    finish : (run : Run) (ok : Bool) → serve n at page (run_of cache r) ≡ entered n page run → run.faults ≡ r.faults → EntersRun n page run s ok → Serving n at page cache r s ok
    finish run true e f g = record { later = g.0; tracks = g.1; step = e ∙ g.2; faults = let z = g.3 in omega arith }
    finish run false e f g = e ∙ g

    go : (o : Option ℕ) → o ≡ due at r.victims.now → Leaving o r m true → Serving n at page cache r s ok
    go None d l =
        finish (run_of cache r) ok
        (start ∙ ap (λ (o : Option ℕ). served n page false o (run_of cache r)) (sym d))
        refl
        (enters_run n page cache r.victims.now r.faults m s ok (subst (λ t. Tracks cache t) (sym l.cache) k) l.victims l.faults (sym (k.same page) ∙ away) e)
    go (Some v) d l =
        let there : has v cache ≡ true = sym (k.same v) ∙ sym l.test in
        let page_away : has page cache ≡ false = sym (k.same page) ∙ away in
        finish (record { cache = without_first v cache; victims = drop 1 r.victims.now; faults = r.faults }) ok
        (start ∙ ap (λ (o : Option ℕ). served n page false o (run_of cache r)) (sym d) ∙
        ap (λ (b : Bool). then (entered n page) (cond b (Some (record { cache = without_first v cache; victims = drop 1 r.victims.now; faults = r.faults })) None)) there)
        refl
        (enters_run n page (without_first v cache) (drop 1 r.victims.now) r.faults m s ok
        (tracks_left v cache r.cache m.cache k there l.cache l.size) (l.victims refl) l.faults
        (has-without v page cache k.once there ∙ ap (λ (b : Bool). b && not (page == v)) page_away) e)

pub due_there : (at : ℕ) (victims : List Victim) (o : Option ℕ) → o ≡ due at victims → is_some o ≡ true → 0 < length victims
unfolding due
due_there at [] o e h = absurd (false≢true (ap (λ (x : Option ℕ). is_some x) (sym e) ∙ h))
due_there at (v ∷ vs) o e h = omega arith

-- ---- the loop over the references

pub replays_start : (refs : List ℕ) (n : ℕ) (victims : List Victim) (r : Replay) → Tracks [] r.cache → r.victims.now ≡ victims → r.faults ≡ 0
    → Replays refs n 0 victims r
unfolding plan_faults
replays_start refs n victims r k v f = record {
  cache = [];
  tracks = k;
  run = ap₂ (λ (vs : List Victim) (m : ℕ). faults_of (runs n 1 refs (Some (record { cache = []; victims = vs; faults = m })))) v f;
  few = omega arith;
}

-- what a run of the references from i on comes to, the first of them served
runs_step : (refs : List ℕ) (n i : ℕ) (run : Run) (o : Option Run) → i < length refs → serve n (i + 1) (get_or refs i 0) run ≡ o
    → runs n (i + 1) (drop i refs) (Some run) ≡ runs n (i + 1 + 1) (drop (i + 1) refs) o
unfolding runs then
runs_step refs n i run o l e =
    ap (λ (ps : List ℕ). runs n (i + 1) ps (Some run)) (drop_more refs i 0 l) ∙
    ap (λ (x : Option Run). runs n (i + 1 + 1) (drop (i + 1) refs) x) e

module _ (refs : List ℕ) (n i : ℕ) (victims : List Victim) (r : Replay) where
  pub replays_next : (s : Replay) (ok : Bool) → i < length refs → Replays refs n i victims r
      → ((cache : List ℕ) → Tracks cache r.cache → Serving n (i + 1) (get_or refs i 0) cache r s ok) → ok ≡ true → Replays refs n (i + 1) victims s
  replays_next s true l p step e =
      let g = step p.cache p.tracks in
      record {
        cache = g.later;
        tracks = g.tracks;
        run =
            ap (λ (o : Option Run). faults_of o) (sym (runs_step refs n i (run_of p.cache r) (Some (run_of g.later s)) l g.step)) ∙ p.run;
        few = let f = p.few in let m = g.faults in omega arith;
      }
  replays_next s false l p step e = absurd (false≢true e)

  pub replays_fail : (s : Replay) (ok : Bool) → i < length refs → Replays refs n i victims r
      → ((cache : List ℕ) → Tracks cache r.cache → Serving n (i + 1) (get_or refs i 0) cache r s ok) → ok ≡ false → None ≡ plan_faults refs n victims
  unfolding faults_of
  replays_fail s true l p step e = absurd (true≢false e)
  replays_fail s false l p step e =
      ap (λ (o : Option Run). faults_of o) (sym (runs_none n (i + 1 + 1) (drop (i + 1) refs))) ∙
      ap (λ (o : Option Run). faults_of o) (sym (runs_step refs n i (run_of p.cache r) None l (step p.cache p.tracks))) ∙
      p.run

  pub replays_end : length refs ≤ i → Replays refs n i victims r → all_left r.victims.now r.faults ≡ plan_faults refs n victims
  unfolding runs faults_of
  replays_end last p =
      subst (λ (ps : List ℕ). faults_of (runs n (i + 1) ps (Some (run_of p.cache r))) ≡ plan_faults refs n victims) (drop_all i refs last) p.run
