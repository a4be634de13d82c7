-- A unit of the flat machine: one of the process is its next own step, and one of another leaves what it has.
use Rattle.std.proofs.Common.{◌≡◌, ◌≢◌, ℕ, suc, ◌+◌, ◌==◌, Bool, true, false, cond, if◌then◌else◌, List, [], ◌∷◌, Option, Some, None, Result, Ok, Err, ℤ, refl, sym, ap, ◌∙◌, subst, arith}
use Rattle.std.proofs.lemmas.Bool.{eqb-true}
use Rattle.std.proofs.lemmas.Option.{same_Some}
use Rattle.vm_facts.specs.Answers.{ByteWrite}
use Rattle.vm_facts.specs.declared.regs.Regs.{Regs}
use Rattle.vm_facts.specs.declared.entry.Entry.{Entry}
use Rattle.vm_facts.specs.declared.entry.Entry.TheVariants as entries
use Rattle.user_vax.specs.Effects.{Effect}
use Rattle.user_vax.specs.declared.refused.Refused.{Refused}
use Rattle.user_vax.specs.declared.refused.Refused.TheVariants.{Miss, Below, Signal}
use Rattle.flat_state.specs.Space.{Space, puts}
use Rattle.flat_state.specs.Flat.{Holds, Process, FlatState, NamedImage, Inputs, process_of}
use Rattle.flat_state.specs.Numbers.{IsNumbered}
use Rattle.flat_state.specs.declared.change.Change.TheVariants.{Keep, Resize}
use Rattle.flat_state.specs.Change.{resized, changed_by, changed_if, apply_change, wrote_by, wrote_if, apply_writes}
use Rattle.flat_model.specs.declared.calls.Reply.{Reply}
use Rattle.flat_model.specs.declared.calls.Reply.TheVariants as replies
use Rattle.flat_model.specs.declared.calls.SystemCall.{SystemCall}
use Rattle.flat_model.specs.Calls.{call_of}
use Rattle.flat_model.specs.Instruction.{instruction_in}
use Rattle.flat_model.specs.Step.{Step, data_pages_of, pages_down_to, replied_step, reply_behind, called_step, step_behind, step_of, flat_step}
use Rattle.flat_model.specs.Run.{Point, is_refused, step_at, behind_first, due, due_at, behind, point_after, same_entry, is_first_of, process_of_entry, may_follow, ComesAt, led_to, flat_entry, flat_units}
use Rattle.flat_model.proofs.Coming.{Came, came, stands}
use Rattle.flat_laws.proofs.Numbers.{step_numbered}
use Rattle.flat_laws.proofs.Others.{number_of_found}
use Rattle.flat_laws.proofs.Finding.{found_after}
use Rattle.flat_laws.proofs.Forms.{step_is}
use Rattle.flat_laws.specs.Alone.{Belongings, own_ran, own_behind, own_step, own_steps, HasBelongings, is_by, makes_no_call, steps_by, ComesAlone, RunsAsAlone}
use Rattle.flat_laws.proofs.Keeping.{Kept, step_kept}

-- ---- its own step

-- after bytes that it wrote, and a change of its registers alone, or of its segments
wrote_own : (F : FlatState) (pid : ℕ) (q : Process) (s : Space) (ws : List ByteWrite) → process_of F pid ≡ Some q → q.holding ≡ Holds s → process_of
    (apply_writes F pid ws) pid ≡ Some (record q { holding = Holds (puts s ws) })
unfolding apply_writes
wrote_own F pid q s ws e h =
    let n : q.pid ≡ pid = number_of_found F.processes pid q e in
    ap (λ (G : FlatState). process_of G pid) (ap (wrote_if F ws) e ∙ ap (wrote_by F q ws) h) ∙ found_after F pid q (record q { holding = Holds (puts s ws) }) e n

kept_own : (images : List NamedImage) (F : FlatState) (pid : ℕ) (q : Process) (s : Space) (regs : Regs) → process_of F pid ≡ Some q → q.holding ≡ Holds s
    → process_of (apply_change images F pid regs Keep) pid ≡ Some (record q { regs = regs })
unfolding apply_change
kept_own images F pid q s regs e h =
    let n : q.pid ≡ pid = number_of_found F.processes pid q e in
    ap (λ (G : FlatState). process_of G pid) (ap (changed_if images F regs Keep) e ∙ ap (changed_by images F (record q { regs = regs }) Keep) h) ∙ found_after F pid q (record q { regs = regs }) e n

sized_own : (images : List NamedImage) (F : FlatState) (pid : ℕ) (q : Process) (s : Space) (regs : Regs) (d t : ℕ) → process_of F pid ≡ Some q
    → q.holding ≡ Holds s
    → process_of (apply_change images F pid regs (Resize d t)) pid ≡ Some (record q { regs = regs; holding = Holds (resized s d t) })
unfolding apply_change
sized_own images F pid q s regs d t e h =
    let n : q.pid ≡ pid = number_of_found F.processes pid q e in
    ap (λ (G : FlatState). process_of G pid) (ap (changed_if images F regs (Resize d t)) e ∙ ap (changed_by images F (record q { regs = regs }) (Resize d t)) h)
    ∙ found_after F pid q (record q { regs = regs; holding = Holds (resized s d t) }) e n

-- the next own step, and that this step makes it, with one entry
record Stepped (S : Step) (pid : ℕ) (o : Belongings) : Type 0 where
  own : Belongings
  steps : own_step (Some o) ≡ Some own
  has : HasBelongings S.after pid own
  entry : Entry
  one : S.entries ≡ entry ∷ []

-- what the first entry that is due is, where it is plain
FirstPlain : List Entry → Entry → Type 0
FirstPlain es u = is_first_of es u ≡ true → makes_no_call u ≡ true → ⊥

never_plain : (e u : Entry) (es : List Entry) → makes_no_call e ≡ false → FirstPlain (e ∷ es) u
unfolding FirstPlain
never_plain (entries.Ran p n) u es k h i = absurd cc
never_plain (entries.Grew p n) u es k h i = absurd cc
never_plain e (entries.Ran p n) es k h i = other e k h
  where
    other : (x : Entry) → makes_no_call x ≡ false → same_entry x (entries.Ran p n) ≡ true → ⊥
    other (entries.Ran q m) k h = absurd cc
    other _ k h = absurd cc
never_plain e (entries.Grew p n) es k h i = other e k h
  where
    other : (x : Entry) → makes_no_call x ≡ false → same_entry x (entries.Grew p n) ≡ true → ⊥
    other (entries.Grew q m) k h = absurd cc
    other _ k h = absurd cc
never_plain e _ es k h i = absurd cc

replied_never : (images : List NamedImage) (F : FlatState) (p : Process) (call : SystemCall) (effect : Effect) (reply : Reply) (u : Entry) → FirstPlain
    (replied_step images F p call effect reply).entries u
replied_never images F p call effect (replies.Fails error) u = never_plain _ u [] refl
replied_never images F p call effect (replies.Does regs change) u = never_plain _ u [] refl
replied_never images F p call effect (replies.Writes []) u = never_plain _ u [] refl
replied_never images F p call effect (replies.Writes (byte ∷ bytes)) u = never_plain _ u _ refl
replied_never images F p call effect replies.Waits u = never_plain _ u [] refl
replied_never images F p call effect (replies.Exits status) u = never_plain _ u [] refl

called_never : (images : List NamedImage) (F : FlatState) (p : Process) (s : Space) (refused : Bool) (effect : Effect) (o : Option SystemCall) (u : Entry)
    → FirstPlain (called_step images F p s refused effect o).entries u
called_never images F p s refused effect None u = never_plain _ u [] refl
called_never images F p s refused effect (Some call) u = replied_never images F p call effect (reply_behind images F p s refused call effect) u

-- a step whose first entry is plain is the next own step
stepped_own : (images : List NamedImage) (F : FlatState) (pid : ℕ) (p : Process) (s : Space) (r : Result Effect Refused) (o : Belongings) (u : Entry)
    → process_of F pid ≡ Some p → p.holding ≡ Holds s → p.regs ≡ o.regs → p.asleep ≡ false → s ≡ o.space → instruction_in s p.regs ≡ r
    → is_first_of (step_of images F p s false r).entries u ≡ true → makes_no_call u ≡ true → Stepped (step_of images F p s false r) pid o
unfolding FirstPlain
stepped_own images F pid p s r o u here holds regs awake space is first plain = go r is first
  where
    n : p.pid ≡ pid
    n = number_of_found F.processes pid p here

    own_is : (x : Result Effect Refused) → instruction_in s p.regs ≡ x → own_step (Some o) ≡ own_behind s p.regs x
    own_is x i =
        ap (λ (t : Space). own_behind t o.regs (instruction_in t o.regs)) (sym space) ∙ ap (λ (g : Regs). own_behind s g (instruction_in s g)) (sym regs) ∙ ap (own_behind s p.regs) i

    ran : (effect : Effect) (c : Option ℤ) → effect.call ≡ c → instruction_in s p.regs ≡ Ok effect → is_first_of (step_behind images F p s false effect c).entries u ≡ true
        → Stepped (step_behind images F p s false effect c) pid o
    ran effect None e i f =
        let wrote = wrote_own F pid p s effect.writes here holds in
        let kept = kept_own images (apply_writes F pid effect.writes) pid (record p { holding = Holds (puts s effect.writes) }) (puts s effect.writes) effect.regs wrote refl in
        record {
          own = record { space = puts s effect.writes; regs = effect.regs };
          steps = own_is (Ok effect) i ∙ ap (own_ran s effect) e;
          has = record {
            process = record p { holding = Holds (puts s effect.writes); regs = effect.regs };
            here = subst (λ (m : ℕ). process_of (apply_change images (apply_writes F m effect.writes) m effect.regs Keep) pid ≡ Some
                (record p { holding = Holds (puts s effect.writes); regs = effect.regs })) (sym n) kept;
            holds = refl;
            regs = refl;
            awake = awake;
          };
          entry = _;
          one = refl;
        }
    ran effect (Some number) e i f = absurd (called_never images F p s false effect (call_of number) u f plain)

    grown : (address : ℕ) → instruction_in s p.regs ≡ Err (Below address) → Stepped (step_of images F p s false (Err (Below address))) pid o
    grown address i =
        let wrote = wrote_own F pid p s [] here holds in
        let kept = sized_own images (apply_writes F pid []) pid (record p { holding = Holds (puts s []) }) (puts s []) p.regs (data_pages_of s) (pages_down_to address) wrote refl in
        record {
          own = record { space = resized s (data_pages_of s) (pages_down_to address); regs = p.regs };
          steps = own_is (Err (Below address)) i;
          has = record {
            process = record p { holding = Holds (resized s (data_pages_of s) (pages_down_to address)) };
            here = subst (λ (m : ℕ). process_of (apply_change images (apply_writes F m []) m p.regs (Resize (data_pages_of s) (pages_down_to address))) pid
                ≡ Some (record p { holding = Holds (resized s (data_pages_of s) (pages_down_to address)) })) (sym n) kept;
            holds = refl;
            regs = refl;
            awake = awake;
          };
          entry = _;
          one = refl;
        }

    none : is_first_of [] u ≡ true → ⊥
    none h = absurd cc

    go : (x : Result Effect Refused) → instruction_in s p.regs ≡ x → is_first_of (step_of images F p s false x).entries u ≡ true → Stepped (step_of images F p s false x) pid o
    go (Ok effect) i f = ran effect effect.call refl i f
    go (Err (Miss address write)) i f = absurd (none f)
    go (Err (Below address)) i f = grown address i
    go (Err (Signal number)) i f = absurd (never_plain (entries.Ended p.pid number) u [] refl f plain)

-- ---- a unit

-- what is due after it is left where it was
-- after an entry of a process the flat state is that before, or that after its step
data Leads (A : Inputs) (p q : Point) (pid : ℕ) : Type 0 where
  Stays : q.flat ≡ p.flat → Leads A p q pid
  Steps : q.flat ≡ (step_at A p pid).after → ((step_at A p pid).entries ≡ [] → ⊥) → Leads A p q pid

some_entries : (o : Option Entry) (pid : ℕ) (es : List Entry) (e : Entry) → due o pid es ≡ e ∷ [] → es ≡ [] → ⊥
some_entries (Some (entries.Out p bytes)) pid es e h none = go (p == pid) (sym (ap (λ (xs : List Entry). if p == pid then behind_first xs else xs) none) ∙ h)
  where
    go : (b : Bool) → (if b then behind_first [] else []) ≡ e ∷ [] → ⊥
    go true k = absurd cc
    go false k = absurd cc
some_entries _ pid es e h none = absurd (let z : [] ≡ e ∷ [] = sym none ∙ h in cc)

behind_leads : (A : Inputs) (p q : Point) (pid : ℕ) (es : List Entry) → due_at A p pid ≡ es → behind p (step_at A p pid).after es ≡ q → Leads A p q pid
behind_leads A p q pid [] d e = Stays (ap (λ (x : Point). x.flat) (sym e))
behind_leads A p q pid (x ∷ []) d e = Steps (ap (λ (y : Point). y.flat) (sym e)) (some_entries p.last pid (step_at A p pid).entries x d)
behind_leads A p q pid (x ∷ y ∷ es) d e = Stays (ap (λ (z : Point). z.flat) (sym e))

leads : (A : Inputs) (p q : Point) (pid : ℕ) (u : Entry) → led_to A p pid u ≡ q → Leads A p q pid
leads A p q pid (entries.Refused n) e = Stays (ap (λ (x : Point). x.flat) (sym e))
leads A p q pid u e = behind_leads A p q pid (due_at A p pid) refl e

-- a plain entry may follow where nothing of a step is there yet
open_due : (o : Option Entry) (pid : ℕ) (u : Entry) → may_follow o u ≡ true → makes_no_call u ≡ true → (is_refused o pid ≡ false) ×
    ((es : List Entry) → due o pid es ≡ es)
open_due (Some (entries.Refused p)) pid (entries.Ran q n) m i = absurd cc
open_due (Some (entries.Refused p)) pid (entries.Grew q n) m i = absurd cc
open_due (Some (entries.Refused p)) pid _ m i = absurd cc
open_due (Some (entries.Out p bytes)) pid (entries.Ran q n) m i = absurd cc
open_due (Some (entries.Out p bytes)) pid (entries.Grew q n) m i = absurd cc
open_due (Some (entries.Out p bytes)) pid _ m i = absurd cc
open_due _ pid u m i = (refl, λ es. refl)

-- a plain one of the process is its next own step
unit_own : (A : Inputs) (p q : Point) (u : Entry) (pid : ℕ) (o : Belongings) → HasBelongings p.flat pid o → may_follow p.last u ≡ true → makes_no_call u ≡ true
    → is_first_of (due_at A p pid) u ≡ true → point_after A p pid ≡ q → (own : Belongings) × ((own_step (Some o) ≡ Some own) × HasBelongings q.flat pid own)
unit_own A p q u pid o h follows plain same is =
    let open_is = open_due p.last pid u follows plain in
    let st : step_at A p pid ≡ step_of A.images p.flat h.process o.space false (instruction_in o.space (let x : Process = h.process in x.regs)) =
    ap (flat_step A p.flat pid) open_is.0 ∙ step_is A p.flat pid false h.process o.space h.here h.holds in
    let due_is : due_at A p pid ≡ (step_of A.images p.flat h.process o.space false (instruction_in o.space (let x : Process = h.process in x.regs))).entries =
    open_is.1 (step_at A p pid).entries ∙ ap (λ (S : Step). S.entries) st in
    let first = ap (λ (es : List Entry). is_first_of es u) (sym due_is) ∙ same in
    let x : Stepped (step_of A.images p.flat h.process o.space false (instruction_in o.space (let x : Process = h.process in x.regs))) pid o =
    stepped_own A.images p.flat pid h.process o.space (instruction_in o.space (let x : Process = h.process in x.regs)) o u h.here h.holds h.regs h.awake refl refl first plain in
    let flat : q.flat ≡ (step_of A.images p.flat h.process o.space false (instruction_in o.space (let x : Process = h.process in x.regs))).after =
    ap (λ (y : Point). y.flat) (sym is) ∙ ap (λ (es : List Entry). (behind p (step_at A p pid).after es).flat) (due_is ∙ x.one) ∙ ap (λ (S : Step). S.after) st in
    (x.own, (x.steps, subst (λ (F : FlatState). HasBelongings F pid x.own) (sym flat) x.has))

-- one of another leaves what it has
unit_other : (A : Inputs) (p q : Point) (of pid : ℕ) (o : Belongings) → IsNumbered p.flat → of ≢ pid → HasBelongings p.flat pid o → Leads A p q of
    → HasBelongings q.flat pid o
unit_other A p q of pid o nums other h (Stays e) = subst (λ (F : FlatState). HasBelongings F pid o) (sym e) h
unit_other A p q of pid o nums other h (Steps e some) =
    let k : Kept (step_at A p of).after.processes pid o = step_kept A p.flat of (is_refused p.last of) pid o nums other some
    (record { process = h.process; here = h.here; holds = h.holds; regs = h.regs; woke = h.awake }) in
    subst (λ (F : FlatState). HasBelongings F pid o) (sym e) (record { process = k.process; here = k.here; holds = k.holds; regs = k.regs; awake = k.woke })

unit_numbered : (A : Inputs) (p q : Point) (of : ℕ) → IsNumbered p.flat → Leads A p q of → IsNumbered q.flat
unit_numbered A p q of nums (Stays e) = subst IsNumbered (sym e) nums
unit_numbered A p q of nums (Steps e some) = subst IsNumbered (sym e) (step_numbered A p.flat of (is_refused p.last of) nums)

-- a plain entry isn't a refusal
plain_of : (A : Inputs) (p q : Point) (pid : ℕ) (u : Entry) → makes_no_call u ≡ true → Came A p q pid u
    → (is_first_of (due_at A p pid) u ≡ true) × (point_after A p pid ≡ q)
plain_of A p q pid (entries.Ran n m) i c = let d : ComesAt A p pid (entries.Ran n m) = c.comes in (d.next, c.leads)
plain_of A p q pid (entries.Grew n m) i c = let d : ComesAt A p pid (entries.Grew n m) = c.comes in (d.next, c.leads)
plain_of A p q pid _ i c = absurd cc

-- ---- units in a row

-- one more step of its own, or none
more_steps : (n : ℕ) (o r : Belongings) (F : FlatState) (pid : ℕ) → own_step (Some o) ≡ Some r → ComesAlone n r F pid → ComesAlone (1 + n) o F pid
more_steps n o r F pid e c = record {
  own = c.own;
  steps_to = subst (λ (m : ℕ). own_steps m (Some o) ≡ Some c.own) (let z : suc n ≡ 1 + n = omega arith in z) (ap (own_steps n) e ∙ c.steps_to);
  has = c.has;
}

no_steps : (n : ℕ) (o : Belongings) (F : FlatState) (pid : ℕ) → ComesAlone n o F pid → ComesAlone (0 + n) o F pid
no_steps n o F pid c = subst (λ (m : ℕ). ComesAlone m o F pid) (let z : n ≡ 0 + n = omega arith in z) c

pub runs_alone : RunsAsAlone
unfolding flat_units
runs_alone A from to [] pid o nums h none e = record { own = o; steps_to = refl; has = subst (λ (p : Point). HasBelongings p.flat pid o) (same_Some from to e) h }
runs_alone A from to (u ∷ us) pid o nums h none e = go (flat_entry A from u) refl e (λ p r n k f. runs_alone A p to us pid r n k none.1 f)
  where
    by : (p : Point) (x : Option ℕ) → process_of_entry u ≡ x → flat_entry A from u ≡ Some p
        → ((r : Belongings) → IsNumbered p.flat → HasBelongings p.flat pid r → ComesAlone (steps_by pid us) r to.flat pid) → ComesAlone (cond (is_by pid x) 1 0 + steps_by pid us) o to.flat pid
    by p None i f more =
        let same : from ≡ p = same_Some from p (sym (stands A from u i) ∙ f) in
        no_steps (steps_by pid us) o to.flat pid (more o (subst (λ (q : Point). IsNumbered q.flat) same nums) (subst (λ (q : Point). HasBelongings q.flat pid o) same h))
    by p (Some n) i f more = at (n == pid) refl
      where
        x : Came A from p n u
        x = came A from p n u i f

        at : (b : Bool) → (n == pid) ≡ b → ComesAlone (cond b 1 0 + steps_by pid us) o to.flat pid
        at true j =
            let same : n ≡ pid = eqb-true n pid j in
            let plain : makes_no_call u ≡ true = none.0 (ap (is_by pid) i ∙ j) in
            let mine : Came A from p pid u = subst (λ (m : ℕ). Came A from p m u) same x in
            let here : ComesAt A from pid u = mine.comes in
            let y = plain_of A from p pid u plain mine in
            let z = unit_own A from p u pid o h here.follows plain y.0 y.1 in
            more_steps (steps_by pid us) o z.0 to.flat pid (z.1).0 (more z.0 (unit_numbered A from p pid nums (leads A from p pid u mine.leads)) (z.1).1)
        at false j =
            let l : Leads A from p n = leads A from p n u x.leads in
            no_steps (steps_by pid us) o to.flat pid (more o (unit_numbered A from p n nums l)
            (unit_other A from p n pid o nums (λ same. absurd (let z : true ≡ false = sym (Rattle.std.proofs.Common.eq-eqb n pid same) ∙ j in cc)) h l))

    go : (x : Option Point) → flat_entry A from u ≡ x → flat_units A x us ≡ Some to
        → ((p : Point) (r : Belongings) → IsNumbered p.flat → HasBelongings p.flat pid r → flat_units A (Some p) us ≡ Some to → ComesAlone (steps_by pid us) r to.flat pid)
        → ComesAlone (cond (is_by pid (process_of_entry u)) 1 0 + steps_by pid us) o to.flat pid
    go None i f more = absurd cc
    go (Some p) i f more = by p (process_of_entry u) refl i (λ r n k. more p r n k f)
