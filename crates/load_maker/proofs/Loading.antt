-- A load's run, unit by unit: its processes stand at their stages, and what each unit counts is spent.
use Rattle.std.proofs.Common.{◌≡◌, ◌⊎◌, inl, inr, ℕ, ◌+◌, ◌*◌, ◌<◌, ◌≤◌, ◌==◌, Bool, true, false, cond, not, ◌&&◌, List, [], ◌∷◌, length, Option, Some, None, Result, Ok, Err, ℤ, refl, sym, ap, ◌∙◌, subst, arith}
use Rattle.std.specs.Prelude.{if◌then◌else◌, is_ok}
use Rattle.std.proofs.lemmas.Bool.{eqb-true}
use Rattle.std.proofs.lemmas.Option.{same_Some}
use Rattle.vm_facts.specs.declared.entry.Entry.{Entry}
use Rattle.vm_facts.specs.declared.entry.Entry.TheVariants as entries
use Rattle.user_vax.specs.Effects.{Effect}
use Rattle.user_vax.specs.Instruction.{instruction}
use Rattle.user_vax.specs.declared.refused.Refused.{Refused}
use Rattle.user_vax.specs.declared.refused.Refused.TheVariants.{Miss, Below, Signal}
use Rattle.swap_book.specs.Holdings.{Holdings}
use Rattle.swap_book.specs.Placing.{place_all, fits}
use Rattle.flat_state.specs.Space.{Space}
use Rattle.flat_state.specs.Flat.{Holds, Process, FlatState, NamedImage, Inputs, holds_space, is_ready, ready_if, process_of, can_step}
use Rattle.flat_state.specs.declared.change.Change.{Change}
use Rattle.flat_state.specs.Change.{replaced, apply_change, apply_writes}
use Rattle.flat_state.specs.Numbers.{IsNumbered}
use Rattle.flat_state.specs.Journal.{counted}
use Rattle.kernel_model.specs.Start.{ImagesFit}
use Rattle.flat_model.specs.declared.calls.Reply.{Reply}
use Rattle.flat_model.specs.declared.calls.Reply.TheVariants as replies
use Rattle.flat_model.specs.declared.calls.SystemCall.{SystemCall}
use Rattle.flat_model.specs.Calls.{call_of}
use Rattle.flat_model.specs.Instruction.{instruction_in}
use Rattle.flat_model.specs.Step.{Step, replied_step, reply_behind, called_step, step_behind, step_of, flat_step}
use Rattle.flat_model.specs.Run.{Point, is_refused, step_at, due, entry_of_step as next_of_step, behind, process_of_entry}
use Rattle.flat_model.specs.Asked.{change_wanted, wanted_in, wanted_if, asks_by, asks, given_up}
use Rattle.run_model.specs.State.{State}
use Rattle.run_model.specs.After.{after}
use Rattle.run_model.specs.Act.{must_refuse, must_settle, act_by, act_if, act, awaits, IsNext, LastSays}
use Rattle.run_model.specs.Next.{next_unit}
use Rattle.run_model.specs.Kinds.{ProcessRuns as RunsUnder}
use Rattle.run_model.specs.Lawful.{Follows}
use Rattle.run_model.proofs.NextUnits.{kind_of}
use Rattle.run_laws.specs.Flowing.{Flows}
use Rattle.run_laws.specs.Running.{IsRun}
use Rattle.run_laws.proofs.Finishing.{never_misses}
use Rattle.run_laws.proofs.Flows.{Acted, Settles, Refuses, Steps as ActsSteps, acted, next_or, steps_own, steps_shape, Ends, out_of, out_after, IsOut, plain_point, on_steps}
use Rattle.run_laws.proofs.Forms.{Formed, step_is}
use Rattle.run_laws.proofs.Acts.{Stepped, stepped_form, Completes, completes, Arrives, arrives, held_is}
use Rattle.run_laws.proofs.Wholes.{unit_run}
use Rattle.run_laws.proofs.Others.{number_of_found}
use Rattle.economy_laws.proofs.Sleeping.{Does, does}
use Rattle.economy_laws.proofs.Counting.{counted_in}
use Rattle.flat_laws.specs.Others.{is_refusal}
use Rattle.run_laws.proofs.Units.{plain_holdings}
use Rattle.process_counts.specs.Counts.{output_length}
use Rattle.load_maker.specs.Stages.{Stage, is_gone, IsAt, StandsAtStage, Lives, Ended}
use Rattle.load_maker.specs.Left.{images_for, instructions_left, forks_left, ends_left, bytes_left, blocks_left, total}
use Rattle.load_maker.proofs.Pieces.{AllUnder, asked, Placed, all_fit, given_under}
use Rattle.load_maker.proofs.Standings.{Put, Found, found, heads}
use Rattle.load_maker.proofs.Sleepers.{none_zero}
use Rattle.load_maker.proofs.Going.{step_from}
use Rattle.load_maker.proofs.Changing.{Steps}
use Rattle.load_maker.proofs.Family.{forks_of, ends_of, Spent, Family, Came, Went, One, Two, Stepping, went}

-- ---- where a step leads

replied_after : (images : List NamedImage) (F : FlatState) (p : Process) (call : SystemCall) (effect : Effect) (reply : Reply)
    → (let S : Step = replied_step images F p call effect reply in S.after ≡ apply_change images (apply_writes F p.pid S.writes) p.pid S.regs S.change)
replied_after images F p call effect (replies.Fails error) = refl
replied_after images F p call effect (replies.Does regs change) = refl
replied_after images F p call effect (replies.Writes bytes) = refl
replied_after images F p call effect replies.Waits = refl
replied_after images F p call effect (replies.Exits status) = refl

behind_after : (images : List NamedImage) (F : FlatState) (p : Process) (s : Space) (effect : Effect) (o : Option ℤ)
    → (let S : Step = step_behind images F p s false effect o in S.after ≡ apply_change images (apply_writes F p.pid S.writes) p.pid S.regs S.change)
behind_after images F p s effect None = refl
behind_after images F p s effect (Some number) = go (call_of number)
  where
    go : (o : Option SystemCall)
        → (let S : Step = called_step images F p s false effect o in S.after ≡ apply_change images (apply_writes F p.pid S.writes) p.pid S.regs S.change)
    go None = refl
    go (Some call) = replied_after images F p call effect (reply_behind images F p s false call effect)

of_after : (images : List NamedImage) (F : FlatState) (p : Process) (s : Space) (r : Result Effect Refused) → ((a : ℕ) (w : Bool) → r ≡ Err (Miss a w) → ⊥)
    → (let S : Step = step_of images F p s false r in S.after ≡ apply_change images (apply_writes F p.pid S.writes) p.pid S.regs S.change)
of_after images F p s (Ok effect) none = behind_after images F p s effect effect.call
of_after images F p s (Err (Miss a w)) none = absurd (none a w refl)
of_after images F p s (Err (Below a)) none = refl
of_after images F p s (Err (Signal number)) none = refl

steps_of : (images : List NamedImage) (F : FlatState) (pid : ℕ) (p : Process) (s : Space) → process_of F pid ≡ Some p → p.holding ≡ Holds s → p.pid ≡ pid
    → Steps images F pid p s (step_from images F p s)
steps_of images F pid p s f h n = record {
  found = f;
  holds = h;
  number = n;
  after = subst (λ (m : ℕ). (let S : Step = step_from images F p s in S.after ≡ apply_change images (apply_writes F m S.writes) m S.regs S.change)) n
      (of_after images F p s (instruction_in s p.regs) (λ a w e. never_misses s (instruction p.regs) a w e));
}

went_in : (pages : ℕ) (stages : List Stage) (images : List NamedImage) (F : FlatState) (pid : ℕ) (p : Process) (k : Stage)
    (h : Stepping pages stages F pid p k) → is_gone k ≡ false
    → images ≡ images_for pages → (let at : IsAt pages k p = h.at in
    Steps images F pid p at.space (step_from images F p at.space) → Went pages stages images F p at.space (step_from images F p at.space))
went_in pages stages images F pid p k h g e steps =
    subst (λ (x : List NamedImage). (let at : IsAt pages k p = h.at in Steps x F pid p at.space (step_from x F p at.space) → Went pages stages x F p at.space (step_from x F p at.space)))
    (sym e)
    (went pages stages F pid p k h g) steps

-- ---- what stands at a state

-- the bytes that are out, whose reply is still to come
abbrev pub pending : Option Entry → ℕ
pending (Some (entries.Out p bytes)) = length bytes
pending _ = 0

pub record Stands (pages : ℕ) (stages : List Stage) (high : ℕ) (s : State) : Type 0 where
  pub family : Family pages stages (let F : FlatState = (let q : Point = s.point in q.flat) in F.processes)
  pub few : total heads stages ≤ 8
  pub served : (pid : ℕ) → is_refused (let q : Point = s.point in q.last) pid ≡ false
  pub under : AllUnder high s.holdings
  pub room : high + 2 * total blocks_left stages ≤ 8192

-- what a unit spends
pub record Spends (pages : ℕ) (old new : List Stage) (u : Entry) (before behind : ℕ) : Type 0 where
  pub instructions : total (instructions_left pages) old ≡ counted u + total (instructions_left pages) new
  pub forks : total forks_left old ≡ forks_of u + total forks_left new
  pub ends : total ends_left old ≡ ends_of u + total ends_left new
  pub bytes : total bytes_left old + behind ≡ output_length u + (total bytes_left new + before)
  pub refused : is_refusal u ≡ false

module _ (pages : ℕ) (stages : List Stage) where
  pub record Goes (s t : State) (u : Entry) : Type 0 where
    pub now : List Stage
    pub high : ℕ
    pub stands : Stands pages now high t
    pub spends : Spends pages stages now u (pending (let q : Point = s.point in q.last)) (pending (let q : Point = t.point in q.last))

  -- ---- a unit that is no flat entry

  plain_spends : (u : Entry) (n : ℕ) → process_of_entry u ≡ None → Spends pages stages stages u n n
  plain_spends (entries.Ran p m) n e = absurd cc
  plain_spends (entries.Out p bytes) n e = absurd cc
  plain_spends (entries.Grew p m) n e = absurd cc
  plain_spends (entries.Call p m c r0 r1) n e = absurd cc
  plain_spends (entries.Refused p) n e = absurd cc
  plain_spends (entries.Sleeps p) n e = absurd cc
  plain_spends (entries.Ended p m) n e = absurd cc
  plain_spends _ n e = record { instructions = omega arith; forks = omega arith; ends = omega arith; bytes = omega arith; refused = refl }

  plain_goes : (high : ℕ) (A : Inputs) (s : State) (u : Entry) → Stands pages stages high s → process_of_entry u ≡ None → Goes s (after A s u) u
  plain_goes high A s u st e =
      let same : (after A s u).point ≡ s.point = plain_point A s u e in
      record {
        now = stages;
        high = high;
        stands = record {
          family = subst (λ (x : Point). Family pages stages (let F : FlatState = x.flat in F.processes)) (sym same) st.family;
          few = st.few;
          served = subst (λ (x : Point). (pid : ℕ) → is_refused x.last pid ≡ false) (sym same) st.served;
          under = subst (AllUnder high) (sym (plain_holdings A s u e)) st.under;
          room = st.room;
        };
        spends = subst (λ (x : Point). Spends pages stages stages u (pending (let q : Point = s.point in q.last)) (pending x.last)) (sym same) (plain_spends u _ e);
      }

-- ---- the last flat entry, and what is due after it

-- one entry of a step completes it, and no bytes are pending before
one_due : (o : Option Entry) (pid : ℕ) (e u : Entry) → awaits o pid ≡ true → due o pid (e ∷ []) ≡ u ∷ [] → (e ≡ u) × (pending o ≡ 0)
one_due (Some (entries.Out q bytes)) pid e u a h = absurd (let n : [] ≡ u ∷ [] = sym (ap (λ (b : Bool). if b then [] else e ∷ []) a) ∙ h in cc)
one_due _ pid e u a h = (cc, refl)

-- of a step of one entry no bytes come first
one_out : (o : Option Entry) (pid : ℕ) (e u v : Entry) → due o pid (e ∷ []) ≡ u ∷ v ∷ [] → ⊥
one_out (Some (entries.Out q bytes)) pid e u v h = go (q == pid) h
  where
    go : (b : Bool) → (if b then [] else e ∷ []) ≡ u ∷ v ∷ [] → ⊥
    go true k = absurd cc
    go false k = absurd cc
one_out _ pid e u v h = absurd cc

-- bytes and their reply: before the reply the bytes are pending
pub data Last (o : Option Entry) (pid : ℕ) (e u : Entry) : Type 0 where
  Behind : (q : ℕ) (bytes : List ℕ) → o ≡ Some (entries.Out q bytes) → q ≡ pid → e ≡ u → Last o pid e u

two_due : (o : Option Entry) (pid : ℕ) (d e u : Entry) → due o pid (d ∷ e ∷ []) ≡ u ∷ [] → Last o pid e u
two_due (Some (entries.Out q bytes)) pid d e u h = go (q == pid) refl h
  where
    go : (b : Bool) → (q == pid) ≡ b → (if b then e ∷ [] else d ∷ e ∷ []) ≡ u ∷ [] → Last (Some (entries.Out q bytes)) pid e u
    go true k l = Behind q bytes refl (eqb-true q pid k) cc
    go false k l = absurd cc
two_due _ pid d e u h = absurd cc

-- bytes come first, with none pending before, where who writes is awaited
two_out : (o : Option Entry) (pid : ℕ) (d e u v : Entry) → awaits o pid ≡ true → due o pid (d ∷ e ∷ []) ≡ u ∷ v ∷ [] → pending o ≡ 0
two_out (Some (entries.Out q bytes)) pid d e u v a h = absurd (let n : e ∷ [] ≡ u ∷ v ∷ [] = sym (ap (λ (b : Bool). if b then e ∷ [] else d ∷ e ∷ []) a) ∙ h in cc)
two_out _ pid d e u v a h = refl

ends_pending : (u : Entry) → Ends u → pending (Some u) ≡ 0
ends_pending (entries.Out p bytes) e = absurd e
ends_pending _ e = refl

ends_served : (u : Entry) (pid : ℕ) → Ends u → is_refused (Some u) pid ≡ false
ends_served (entries.Refused p) pid e = absurd e
ends_served _ pid e = refl

ends_unrefused : (u : Entry) → Ends u → is_refusal u ≡ false
ends_unrefused (entries.Refused p) e = absurd e
ends_unrefused _ e = refl

-- ---- what the process that steps finds

-- what the process asks for finds its places
pub record Fitting (A : Inputs) (s : State) (pid : ℕ) (t : Space) (S : Step) (high : ℕ) : Type 0 where
  pub placed : Placed high A.swap_blocks s.holdings (change_wanted A.images (let q : Point = s.point in q.flat) t S.change)
  pub never : must_refuse A s pid ≡ false

fitting : (A : Inputs) (s : State) (pid : ℕ) (p : Process) (t : Space) (S : Step) (high : ℕ) → can_step s.point.flat pid ≡ true
    → process_of s.point.flat pid ≡ Some p → p.holding ≡ Holds t
    → flat_step A s.point.flat pid false ≡ S → is_refused s.point.last pid ≡ false
    → Placed high A.swap_blocks s.holdings (change_wanted A.images s.point.flat t S.change) → Fitting A s pid t S high
unfolding asks
fitting A s pid p t S high c f h is served placed = record { placed = placed; never = never }
  where
    change : Bool → Change
    change b = (flat_step A s.point.flat pid b).change

    asked_is : asks A s.point.flat pid ≡ change_wanted A.images s.point.flat t S.change
    asked_is = ap (λ (b : Bool). asks_by b A s.point.flat pid) c ∙ (ap (wanted_if A.images s.point.flat (change false)) f ∙ (ap (wanted_in A.images s.point.flat (change false)) h
        ∙ ap (λ (x : Step). change_wanted A.images s.point.flat t x.change) is))

    fit : fits A.swap_blocks s.holdings (asks A s.point.flat pid) ≡ true
    fit = ap (fits A.swap_blocks s.holdings) asked_is ∙ ap (λ (r : Result Holdings ℕ). is_ok r) placed.found

    never : must_refuse A s pid ≡ false
    never = ap (λ (b : Bool). not (is_refused s.point.last pid) && not b) fit ∙ never_so (is_refused s.point.last pid)
      where
        never_so : (b : Bool) → (not b && not true) ≡ false
        never_so true = refl
        never_so false = refl

-- what a process does that is refused nothing
acts_on : (A : Inputs) (s : State) (pid : ℕ) (u : Entry) → must_refuse A s pid ≡ false → act A s pid ≡ Some u → process_of_entry u ≡ Some pid
    → (must_settle A s pid ≡ false) × (next_of_step A s.point pid ≡ Some u)
unfolding act
acts_on A s pid u never h own = can (can_step s.point.flat pid) h
  where
    by : (r t : Bool) → must_refuse A s pid ≡ r → must_settle A s pid ≡ t → act_by A s pid r t ≡ Some u
        → (must_settle A s pid ≡ false) × (next_of_step A s.point pid ≡ Some u)
    by true t f g e = absurd (let no : true ≡ false = sym f ∙ never in cc)
    by false true f g e = absurd (let is : entries.Done ≡ u = same_Some entries.Done u e in let no : None ≡ Some pid = ap process_of_entry is ∙ own in cc)
    by false false f g e = (g, e)

    can : (b : Bool) → act_if b A s pid ≡ Some u → (must_settle A s pid ≡ false) × (next_of_step A s.point pid ≡ Some u)
    can true e = by (must_refuse A s pid) (must_settle A s pid) refl refl e
    can false e = absurd cc

-- who acts is awaited
awaits_own : (A : Inputs) (s : State) (pid : ℕ) (u : Entry) → process_of_entry u ≡ Some pid → (process_of_entry u ≡ None) ⊎ IsNext A s u
    → awaits s.point.last pid ≡ true
awaits_own A s pid u own (inl none) = absurd (let no : None ≡ Some pid = sym none ∙ own in cc)
awaits_own A s pid u own (inr next) = go (acted A s next.pid u next.next)
  where
    same : (n : ℕ) → process_of_entry u ≡ Some n → n ≡ pid
    same n e = same_Some n pid (sym e ∙ own)

    go : Acted A s next.pid u → awaits s.point.last pid ≡ true
    go (Settles i) = absurd (let no : None ≡ Some pid = sym (ap process_of_entry i) ∙ own in cc)
    go (Refuses i) = subst (λ (n : ℕ). awaits s.point.last n ≡ true) (same next.pid (ap process_of_entry i)) next.awaited
    go (ActsSteps f g i) = subst (λ (n : ℕ). awaits s.point.last n ≡ true) (same next.pid (steps_own A s.point next.pid u i)) next.awaited

-- who can step is awake
awake_of : (F : FlatState) (pid : ℕ) (p : Process) → process_of F pid ≡ Some p → can_step F pid ≡ true → p.asleep ≡ false
awake_of F pid p f c = go p.asleep refl
  where
    ready : is_ready p ≡ true
    ready = sym (ap ready_if f) ∙ c

    go : (b : Bool) → p.asleep ≡ b → p.asleep ≡ false
    go true e = absurd (let no : false ≡ true = sym (ap (λ (b : Bool). if b then false else holds_space p.holding) e) ∙ ready in cc)
    go false e = e

-- ---- a unit of a process

-- all that is known of the process, its step and what it asks for
record Known (pages : ℕ) (stages : List Stage) (high : ℕ) (A : Inputs) (s : State) (pid : ℕ) : Type 0 where
  pub process : Process
  pub space : Space
  pub here : process_of s.point.flat pid ≡ Some process
  pub holds : process.holding ≡ Holds space
  pub number : process.pid ≡ pid
  pub step : step_at A s.point pid ≡ step_from A.images s.point.flat process space
  pub went : Went pages stages A.images s.point.flat process space (step_from A.images s.point.flat process space)

pub record IsLoadRun (pages : ℕ) (A : Inputs) : Type 0 where
  pub low : 40 ≤ pages
  pub high : pages < 65
  pub images : A.images ≡ images_for pages
  pub swap : A.swap_blocks ≡ 8192

known_of : (pages : ℕ) (stages : List Stage) (high : ℕ) (A : Inputs) (s : State) (pid : ℕ) → IsLoadRun pages A → IsRun A s → Stands pages stages high s
    → can_step s.point.flat pid ≡ true
    → Known pages stages high A s pid
known_of pages stages high A s pid load r st can = by (process_of s.point.flat pid) refl can
  where
    fam : Family pages stages s.point.flat.processes
    fam = st.family

    nums : IsNumbered s.point.flat
    nums = r.numbers

    with_process : (p : Process) → process_of s.point.flat pid ≡ Some p → Found pages stages s.point.flat.processes p → Known pages stages high A s pid
    with_process p f w = on w.stage w.stands w.put
      where
        number : p.pid ≡ pid
        number = number_of_found s.point.flat.processes pid p f

        on : (k : Stage) → StandsAtStage pages k p
            → ((q : Process) (new : Stage) → q.pid ≡ p.pid → StandsAtStage pages new q → Put pages stages k new (replaced s.point.flat.processes q))
            → Known pages stages high A s pid
        on k (Ended e status z a) put = absurd (let no : false ≡ true = sym (ap ready_if f ∙ zombie_idle) ∙ can in cc)
          where
            zombie_idle : is_ready p ≡ false
            zombie_idle = ap (λ (c : Bool). if c then false else holds_space p.holding) a ∙ ap holds_space z
        on k (Lives g at) put =
            let h : Stepping pages stages s.point.flat pid p k = record {
              low = load.low;
              high = load.high;
              family = fam;
              found = f;
              number = number;
              awake = awake_of s.point.flat pid p f can;
              at = at;
              put = put;
              own = nums.pids;
              none = none_zero s.point.flat.processes nums.parents;
              few = st.few;
            } in
            record {
              process = p;
              space = at.space;
              here = f;
              holds = at.holds;
              number = number;
              step = ap (flat_step A s.point.flat pid) (st.served pid) ∙ step_is A s.point.flat pid false p at.space f at.holds;
              went = went_in pages stages A.images s.point.flat pid p k h g load.images (steps_of A.images s.point.flat pid p at.space f at.holds number);
            }

    by : (o : Option Process) → process_of s.point.flat pid ≡ o → can_step s.point.flat pid ≡ true → Known pages stages high A s pid
    by None f c = absurd (let no : false ≡ true = sym (ap ready_if f) ∙ c in cc)
    by (Some p) f c = with_process p f (found pages stages s.point.flat.processes pid p fam.stand f)

bytes_of : (p q : ℕ) (a b : List ℕ) (xs ys : List Entry) → entries.Out p a ∷ xs ≡ entries.Out q b ∷ ys → a ≡ b
bytes_of p q a b xs ys e = cc

-- a unit that completes the step
ends_goes : (pages : ℕ) (stages : List Stage) (high : ℕ) (A : Inputs) (s : State) (pid : ℕ) (u : Entry) → IsLoadRun pages A → IsRun A s
    → Stands pages stages high s → awaits s.point.last pid ≡ true
    → (h : Stepped A s u) → h.pid ≡ pid → (k : Known pages stages high A s pid)
    → Placed high A.swap_blocks s.holdings (change_wanted A.images s.point.flat k.space
    (let S : Step = step_from A.images s.point.flat k.process k.space in S.change))
    → Goes pages stages s (after A s u) u
ends_goes pages stages high A s pid u load r st awaited h same k placed = by k.went
  where
    F : FlatState
    F = s.point.flat

    S : Step
    S = step_from A.images F k.process k.space

    next : next_of_step A s.point pid ≡ Some u
    next = subst (λ (n : ℕ). next_of_step A s.point n ≡ Some u) same h.next

    own : process_of_entry u ≡ Some pid
    own = steps_own A s.point pid u next

    c : Completes A s.point pid u
    c = completes A s.point pid u h.ends next

    a : Arrives A s pid u
    a = arrives A s pid u h.ends own

    point : (after A s u).point ≡ (let q : Point = record { flat = S.after; last = Some u } in q)
    point = a.point ∙ (ap (behind s.point (step_at A s.point pid).after) c.due ∙ ap (λ (x : Step). let q : Point = record { flat = x.after; last = Some u } in q) k.step)

    form : Formed A.images F k.process k.space (is_refused s.point.last pid) (step_at A s.point pid)
    form = subst (λ (n : ℕ). Formed A.images F k.process k.space (is_refused s.point.last n) (step_at A s.point n)) same
        (stepped_form A s u h (record { process = k.process; space = k.space; here = subst (λ (n : ℕ). process_of F n ≡ Some k.process) (sym same) k.here; holds = k.holds }) r.numbers)

    held : (after A s u).holdings ≡ given_up F (step_at A s.point pid).after pid k.space (step_at A s.point pid).change placed.now
    held = a.holdings ∙ held_is A s pid u k.process k.space placed.now h.ends own k.here k.holds (c.suits (step_at A s.point pid).change form.suits)
        (ap (λ (x : Step). place_all A.swap_blocks s.holdings (change_wanted A.images F k.space x.change)) k.step ∙ placed.found)

    due_is : due s.point.last pid S.entries ≡ u ∷ []
    due_is = ap (λ (x : Step). due s.point.last pid x.entries) (sym k.step) ∙ c.due

    ended : (e : Entry) (out : ℕ) → e ≡ u → output_length e ≡ 0 → pending s.point.last ≡ out → Came pages stages A.images F k.space S e out
        → Goes pages stages s (after A s u) u
    ended e out is silent before came =
        let x : Spent pages stages came.now e out (asked (change_wanted A.images F k.space S.change)) = came.spent in
        let y : Spent pages stages came.now u out (asked (change_wanted A.images F k.space S.change)) = subst (λ (v : Entry). Spent pages stages came.now v out
        (asked (change_wanted A.images F k.space S.change))) is x in
        let none : output_length u ≡ 0 = sym (ap output_length is) ∙ silent in
        record {
          now = came.now;
          high = high + 2 * asked (change_wanted A.images F k.space S.change);
          stands = record {
            family = subst (λ (q : Point). Family pages came.now (let G : FlatState = q.flat in G.processes)) (sym point) came.family;
            few = let l = y.heads in let m = st.few in omega (arith, l, m);
            served = subst (λ (q : Point). (n : ℕ) → is_refused q.last n ≡ false) (sym point) (λ n. ends_served u n h.ends);
            under = subst (AllUnder (high + 2 * asked (change_wanted A.images F k.space S.change))) (sym held)
                (given_under (high + 2 * asked (change_wanted A.images F k.space S.change)) F (step_at A s.point pid).after pid k.space (step_at A s.point pid).change placed.now
                placed.under);
            room = let l = y.blocks in let m = st.room in omega (arith, l, m);
          };
          spends = record {
            instructions = y.instructions;
            forks = y.forks;
            ends = y.ends;
            bytes = let l = y.bytes in let m : pending (let q : Point = (after A s u).point in q.last) ≡ 0 = ap (λ (q : Point). pending q.last) point ∙ ends_pending u h.ends in omega
                (arith, l, m, none, before);
            refused = ends_unrefused u h.ends;
          };
        }

    by : Went pages stages A.images F k.process k.space S → Goes pages stages s (after A s u) u
    by (One e es silent came) =
        let d = one_due s.point.last pid e u awaited (ap (due s.point.last pid) (sym es) ∙ due_is) in ended e 0 d.0 silent d.1 came
    by (Two bytes e es silent came) = two (two_due s.point.last pid (entries.Out (let p : Process = k.process in p.pid) bytes) e u (ap (due s.point.last pid) (sym es) ∙ due_is))
      where
        two : Last s.point.last pid e u → Goes pages stages s (after A s u) u
        two (Behind q others was is same_entry) = ended e (length bytes) same_entry silent (ap pending was ∙ ap length same_bytes) came
          where
            flows : Flows A s
            flows = r.flows

            says : LastSays A F (Some (entries.Out q others))
            says = subst (LastSays A F) was flows.says

            first : entries.Out q others ∷ says.0 ≡ entries.Out (let p : Process = k.process in p.pid) bytes ∷ e ∷ []
            first = sym says.1 ∙ (ap (λ (n : ℕ). let X : Step = flat_step A F n false in X.entries) is
                ∙ (ap (λ (b : Bool). let X : Step = flat_step A F pid b in X.entries) (sym (st.served pid)) ∙ (ap (λ (X : Step). X.entries) k.step ∙ es)))

            same_bytes : others ≡ bytes
            same_bytes = bytes_of q (let p : Process = k.process in p.pid) others bytes says.0 (e ∷ []) first

-- bytes that come before their reply
out_goes : (pages : ℕ) (stages : List Stage) (high : ℕ) (A : Inputs) (s : State) (pid : ℕ) (bytes : List ℕ) → Stands pages stages high s
    → awaits s.point.last pid ≡ true
    → next_of_step A s.point pid ≡ Some (entries.Out pid bytes) → (k : Known pages stages high A s pid)
    → Goes pages stages s (after A s (entries.Out pid bytes)) (entries.Out pid bytes)
out_goes pages stages high A s pid bytes st awaited next k = by k.went
  where
    F : FlatState
    F = s.point.flat

    S : Step
    S = step_from A.images F k.process k.space

    o : IsOut A s.point pid pid bytes
    o = out_of A s.point pid pid bytes next

    due_is : due s.point.last pid S.entries ≡ entries.Out pid bytes ∷ o.reply ∷ []
    due_is = ap (λ (x : Step). due s.point.last pid x.entries) (sym k.step) ∙ o.due

    goes : pending s.point.last ≡ 0 → Goes pages stages s (after A s (entries.Out pid bytes)) (entries.Out pid bytes)
    goes none = subst (λ (t : State). Goes pages stages s t (entries.Out pid bytes)) (sym (out_after A s pid pid bytes o)) (record {
      now = stages;
      high = high;
      stands = record { family = st.family; few = st.few; served = λ n. refl; under = st.under; room = st.room };
      spends = record { instructions = omega arith; forks = omega arith; ends = omega arith; bytes = omega (arith, none); refused = refl };
    })

    by : Went pages stages A.images F k.process k.space S → Goes pages stages s (after A s (entries.Out pid bytes)) (entries.Out pid bytes)
    by (One e es silent came) = absurd (one_out s.point.last pid e (entries.Out pid bytes) o.reply (ap (due s.point.last pid) (sym es) ∙ due_is))
    by (Two others e es silent came) =
        goes (two_out s.point.last pid (entries.Out (let p : Process = k.process in p.pid) others) e (entries.Out pid bytes) o.reply awaited (ap (due s.point.last pid) (sym es) ∙ due_is))

-- what a step asks for finds its places
placed_for : (pages : ℕ) (stages : List Stage) (high : ℕ) (A : Inputs) (s : State) (pid : ℕ) → IsLoadRun pages A → Stands pages stages high s
    → (k : Known pages stages high A s pid)
    → Placed high A.swap_blocks s.holdings (change_wanted A.images s.point.flat k.space
    (let S : Step = step_from A.images s.point.flat k.process k.space in S.change))
placed_for pages stages high A s pid load st k = by k.went
  where
    S : Step
    S = step_from A.images s.point.flat k.process k.space

    come : (e : Entry) (out : ℕ) → Came pages stages A.images s.point.flat k.space S e out
        → Placed high A.swap_blocks s.holdings (change_wanted A.images s.point.flat k.space S.change)
    come e out c =
        let x : Spent pages stages c.now e out (asked (change_wanted A.images s.point.flat k.space S.change)) = c.spent in
        all_fit high A.swap_blocks s.holdings (change_wanted A.images s.point.flat k.space S.change) st.under c.within
        (subst (λ (n : ℕ). high + 2 * asked (change_wanted A.images s.point.flat k.space S.change) ≤ n) (sym load.swap) (let l = x.blocks in let m = st.room in omega (arith, l, m)))

    by : Went pages stages A.images s.point.flat k.process k.space S
        → Placed high A.swap_blocks s.holdings (change_wanted A.images s.point.flat k.space S.change)
    by (One e es silent c) = come e 0 c
    by (Two bytes e es silent c) = come e (length bytes) c

-- each next unit
pub goes : (pages : ℕ) (stages : List Stage) (high : ℕ) (A : Inputs) (s : State) (u : Entry) → IsLoadRun pages A → IsRun A s → Stands pages stages high s
    → next_unit A s ≡ Some u
    → Goes pages stages s (after A s u) u
goes pages stages high A s u load r st h = by (process_of_entry u) refl
  where
    flows : Flows A s
    flows = r.flows

    acting : (pid : ℕ) → process_of_entry u ≡ Some pid → Does A s u pid → Goes pages stages s (after A s u) u
    acting pid own d = step (acts_on A s pid u fit.never d.act own)
      where
        run : RunsUnder A s pid d.now
        run = d.runs

        can : can_step s.point.flat pid ≡ true
        can = on_steps A s s.mark pid d.now run.on

        k : Known pages stages high A s pid
        k = known_of pages stages high A s pid load r st can

        placed : Placed high A.swap_blocks s.holdings (change_wanted A.images s.point.flat k.space
            (let S : Step = step_from A.images s.point.flat k.process k.space in S.change))
        placed = placed_for pages stages high A s pid load st k

        awaited : awaits s.point.last pid ≡ true
        awaited = awaits_own A s pid u own (next_or A s u flows.waits (kind_of A s u h))

        fit : Fitting A s pid k.space (step_from A.images s.point.flat k.process k.space) high
        fit = fitting A s pid k.process k.space (step_from A.images s.point.flat k.process k.space) high can k.here k.holds
            (ap (flat_step A s.point.flat pid) (sym (st.served pid)) ∙ k.step) (st.served pid) placed

        step : (must_settle A s pid ≡ false) × (next_of_step A s.point pid ≡ Some u) → Goes pages stages s (after A s u) u
        step x = shape (steps_shape A s.point pid u x.1)
          where
            shape : Ends u ⊎ ((bytes : List ℕ) × (u ≡ entries.Out pid bytes)) → Goes pages stages s (after A s u) u
            shape (inl e) =
                ends_goes pages stages high A s pid u load r st awaited (record { pid = pid; now = d.now; runs = d.runs; ends = e; unrefused = fit.never; unsettling = x.0; next = x.1 })
                refl k placed
            shape (inr e) =
                subst (λ (v : Entry). Goes pages stages s (after A s v) v) (sym e.1)
                (out_goes pages stages high A s pid e.0 st awaited (x.1 ∙ ap (λ (v : Entry). Some v) e.1) k)

    by : (o : Option ℕ) → process_of_entry u ≡ o → Goes pages stages s (after A s u) u
    by None e = plain_goes pages stages high A s u st e
    by (Some pid) e = acting pid e (does A s u pid h e)

-- ---- all units

-- 1 for a refusal
abbrev pub refusals_of : Entry → ℕ
refusals_of u = cond (is_refusal u) 1 0

pub record Through (pages : ℕ) (stages : List Stage) (s t : State) (us : List Entry) : Type 0 where
  pub now : List Stage
  pub high : ℕ
  pub stands : Stands pages now high t
  pub instructions : total (instructions_left pages) stages ≡ counted_in counted us + total (instructions_left pages) now
  pub forks : total forks_left stages ≡ counted_in forks_of us + total forks_left now
  pub ends : total ends_left stages ≡ counted_in ends_of us + total ends_left now
  pub bytes : total bytes_left stages + pending (let q : Point = t.point in q.last) ≡ counted_in output_length us +
      (total bytes_left now + pending (let q : Point = s.point in q.last))
  pub refused : counted_in refusals_of us ≡ 0

chain : (a b c d e : ℕ) → a ≡ b + c → c ≡ d + e → a ≡ b + d + e
chain a b c d e h k = omega (arith, h, k)

chain_bytes : (a p q r o n b m : ℕ) → a + q ≡ o + (b + p) → b + r ≡ n + (m + q) → a + r ≡ o + n + (m + p)
chain_bytes a p q r o n b m h k = omega (arith, h, k)

none : (a b : ℕ) → a ≡ 0 → b ≡ 0 → a + b ≡ 0
none a b h k = omega (arith, h, k)

pub through : (pages : ℕ) (us : List Entry) (stages : List Stage) (high : ℕ) (A : Inputs) (s t : State) → IsLoadRun pages A → ImagesFit A.images
    → IsRun A s → Stands pages stages high s → Follows A s us t
    → Through pages stages s t us
through pages [] stages high A s t load images r st f = subst (λ (x : State). Through pages stages s x []) f (record {
  now = stages;
  high = high;
  stands = st;
  instructions = omega arith;
  forks = omega arith;
  ends = omega arith;
  bytes = omega arith;
  refused = refl;
})
through pages (u ∷ us) stages high A s t load images r st f =
    let g : Goes pages stages s (after A s u) u = goes pages stages high A s u load r st f.0 in
    let x : Spends pages stages g.now u (pending s.point.last) (pending (after A s u).point.last) = g.spends in
    let y : Through pages g.now (after A s u) t us = through pages us g.now g.high A (after A s u) t load images (unit_run A s u images r f.0) g.stands f.1 in
    record {
      now = y.now;
      high = y.high;
      stands = y.stands;
      instructions = chain _ (counted u) _ (counted_in counted us) _ x.instructions y.instructions;
      forks = chain _ (forks_of u) _ (counted_in forks_of us) _ x.forks y.forks;
      ends = chain _ (ends_of u) _ (counted_in ends_of us) _ x.ends y.ends;
      bytes = chain_bytes _ (pending s.point.last) (pending (after A s u).point.last) _ (output_length u) (counted_in output_length us) _ _ x.bytes y.bytes;
      refused = none (refusals_of u) (counted_in refusals_of us) (ap (λ (b : Bool). cond b 1 0) x.refused) y.refused;
    }
