-- After the end of the only process nothing more is done.
use Rattle.std.proofs.Common.{◌≡◌, ℕ, ◌==◌, Bool, true, false, cond, ◌||◌, List, [], ◌∷◌, filter, Option, Some, None, Result, Ok, Err, ℤ, refl, sym, ap, ◌∙◌, subst, if◌then◌else◌}
use Rattle.std.proofs.lemmas.Option.{same_Some}
use Rattle.vm_facts.specs.Answers.{ByteWrite}
use Rattle.flat_state.specs.Space.{Space}
use Rattle.flat_state.specs.Flat.{Holding, Holds, Lends, Zombie, Process, FlatState, NamedImage, Inputs, process_of, can_step}
use Rattle.vm_facts.specs.declared.entry.Entry.{Entry}
use Rattle.vm_facts.specs.declared.entry.Entry.TheVariants as entries
use Rattle.user_vax.specs.Effects.{Effect}
use Rattle.user_vax.specs.declared.refused.Refused.{Refused}
use Rattle.user_vax.specs.declared.refused.Refused.TheVariants.{Miss, Below, Signal}
use Rattle.flat_state.specs.Change.{apply_writes}
use Rattle.flat_model.specs.declared.calls.Reply.{Reply}
use Rattle.flat_model.specs.declared.calls.Reply.TheVariants as replies
use Rattle.flat_model.specs.declared.calls.SystemCall.{SystemCall}
use Rattle.flat_model.specs.Calls.{call_of}
use Rattle.flat_model.specs.Instruction.{instruction_in}
use Rattle.flat_model.specs.Step.{Step, ended_step, step_of, step_behind, called_step, replied_step, step_holding, step_if, flat_step, reply_behind}
use Rattle.flat_model.specs.Run.{Point, is_refused, step_at, behind_first, due, due_at, behind, same_entry, is_first_of, process_of_entry, is_due, ComesAt, led_to, flat_entry, flat_units}
use Rattle.flat_model.proofs.Coming.{Came, came}
use Rattle.flat_laws.specs.Visible.{is_visible, is_end, has_end}
use Rattle.flat_laws.proofs.Sole.{Only, only_found, only_written, end_applied}
use Rattle.flat_laws.proofs.Steps.{only_entry}
use Rattle.flat_laws.proofs.Acts.{ArePlainActs}
use Rattle.flat_laws.proofs.Comparing.{none_follows}

-- of these entries only the last one may be an end, and where it is, this is so
abbrev EndsWith : List Entry → Type 0 → Type 0
EndsWith [] Over = Unit {0}
EndsWith (e ∷ []) Over = is_end e ≡ true → Over
EndsWith (e ∷ f ∷ es) Over = (is_end e ≡ false) × EndsWith (f ∷ es) Over

-- where the step ends the process, it can step no more
abbrev Stops : ℕ → Step → Type 0
Stops pid step = EndsWith step.entries (can_step step.after pid ≡ false)

module _ (n : ℕ) (images : List NamedImage) (F : FlatState) (p : Process) where
  stops_ended : (ws : List ByteWrite) (status : ℕ) → Only n F.processes → Stops p.pid (ended_step images F p ws status)
  stops_ended ws status k = λ h. end_applied n images (apply_writes F p.pid ws) p.pid p.regs status (only_written n F p.pid ws k)

  stops_replied : (call : SystemCall) (effect : Effect) (reply : Reply) → Only n F.processes → Stops p.pid (replied_step images F p call effect reply)
  stops_replied call effect (replies.Writes []) k = λ h. absurd cc
  stops_replied call effect (replies.Writes (byte ∷ bytes)) k = (refl, (λ h. absurd cc))
  stops_replied call effect (replies.Exits status) k = stops_ended effect.writes status k
  stops_replied call effect _ k = λ h. absurd cc

  stops_called : (s : Space) (refused : Bool) (effect : Effect) (call : Option SystemCall) → Only n F.processes
      → Stops p.pid (called_step images F p s refused effect call)
  stops_called s refused effect None k = stops_ended effect.writes 12 k
  stops_called s refused effect (Some call) k = stops_replied call effect (reply_behind images F p s refused call effect) k

  stops_behind : (s : Space) (refused : Bool) (effect : Effect) (number : Option ℤ) → Only n F.processes
      → Stops p.pid (step_behind images F p s refused effect number)
  stops_behind s refused effect None k = λ h. absurd cc
  stops_behind s refused effect (Some number) k = stops_called s refused effect (call_of number) k

  stops_of : (s : Space) (refused : Bool) (result : Result Effect Refused) → Only n F.processes → Stops p.pid (step_of images F p s refused result)
  stops_of s refused (Ok effect) k = stops_behind s refused effect effect.call k
  stops_of s refused (Err (Miss a w)) k = tt
  stops_of s true (Err (Below a)) k = stops_ended [] 11 k
  stops_of s false (Err (Below a)) k = λ h. absurd cc
  stops_of s refused (Err (Signal number)) k = stops_ended [] number k

stops_step : (n : ℕ) (A : Inputs) (F : FlatState) (pid : ℕ) (refused : Bool) → Only n F.processes → Stops n (flat_step A F pid refused)
unfolding flat_step
stops_step n A F pid refused k = go (process_of F pid) refl
  where
    by : (p : Process) (held : Holding) → Stops p.pid (step_holding A.images F p refused held)
    by p (Holds s) = stops_of n A.images F p s refused (instruction_in s p.regs) k
    by p (Lends sid child) = tt
    by p (Zombie status) = tt

    go : (o : Option Process) → process_of F pid ≡ o → Stops n (step_if A.images F refused o)
    go None e = tt
    go (Some p) e =
        subst (λ (m : ℕ). Stops m (step_holding A.images F p refused p.holding)) (only_found n (λ q. q.pid == pid) F.processes p e k).0 (by p p.holding)

-- Entries.

less_ends : (es : List Entry) (Over : Type 0) → EndsWith es Over → EndsWith (behind_first es) Over
less_ends [] Over h = tt
less_ends (e ∷ []) Over h = tt
less_ends (e ∷ f ∷ es) Over h = h.1

due_ends : (last : Option Entry) (pid : ℕ) (es : List Entry) (Over : Type 0) → EndsWith es Over → EndsWith (due last pid es) Over
due_ends (Some (entries.Out p bytes)) pid es Over h = go (p == pid)
  where
    go : (b : Bool) → EndsWith (if b then behind_first es else es) Over
    go true = less_ends es Over h
    go false = h
due_ends _ pid es Over h = h

end_same : (e f : Entry) → same_entry e f ≡ true → is_end f ≡ true → is_end e ≡ true
end_same e (entries.Ended p status) h k = go e h
  where
    go : (other : Entry) → same_entry other (entries.Ended p status) ≡ true → is_end other ≡ true
    go (entries.Ended q code) l = refl
    go _ l = absurd cc
end_same e _ h k = absurd cc

stops_point : (n : ℕ) (point : Point) (after : FlatState) (es : List Entry) (e : Entry) → is_first_of es e ≡ true → is_end e ≡ true
    → EndsWith es (can_step after n ≡ false) → can_step (behind point after es).flat n ≡ false
stops_point n point after [] e same end h = absurd cc
stops_point n point after (f ∷ []) e same end h = h (end_same f e same end)
stops_point n point after (f ∷ g ∷ es) e same end h = let both : true ≡ false = sym (end_same f e same end) ∙ h.0 in absurd cc

stops_led : (n : ℕ) (A : Inputs) (point : Point) (pid : ℕ) (e : Entry) → is_due A point pid e ≡ true → is_end e ≡ true → Only n point.flat.processes
    → can_step (led_to A point pid e).flat n ≡ false
stops_led n A point pid (entries.Ended p status) due end k =
    stops_point n point (step_at A point pid).after (due_at A point pid) (entries.Ended p status) due end
    (due_ends point.last pid (step_at A point pid).entries (can_step (step_at A point pid).after n ≡ false) (stops_step n A point.flat pid (is_refused point.last pid) k))
stops_led n A point pid _ due end k = absurd cc

-- after the entry of its end a process can't step
stops_entry : (n : ℕ) (A : Inputs) (point q : Point) (pid : ℕ) (e : Entry) → process_of_entry e ≡ Some pid → flat_entry A point e ≡ Some q → is_end e ≡ true
    → Only n point.flat.processes → can_step q.flat n ≡ false
stops_entry n A point q pid e of h end k =
    let c : Came A point q pid e = came A point q pid e of h in
    let d : ComesAt A point pid e = c.comes in
    subst (λ (x : Point). can_step x.flat n ≡ false) c.leads (stops_led n A point pid e d.next end k)

-- Acts.

-- after acts with an end among them the process can't step
pub end_stops : (A : Inputs) (xs : List Entry) (point p : Point) → Only 1 point.flat.processes → ArePlainActs xs
    → flat_units A (Some point) xs ≡ Some p → has_end xs ≡ true
    → can_step p.flat 1 ≡ false
unfolding flat_units
end_stops A [] point p only plain h end = absurd cc
end_stops A (x ∷ xs) point p only plain h end = go (λ next. end_stops A xs next p) (flat_entry A point x) refl h
  where
    here : (next : Point) → flat_entry A point x ≡ Some next → flat_units A (Some next) xs ≡ Some p → is_end x ≡ true → can_step p.flat 1 ≡ false
    here next e k ends =
        let over : can_step next.flat 1 ≡ false = stops_entry 1 A point next plain.0.pid x plain.0.of e ends only in
        let none : xs ≡ [] = none_follows A xs next p (only_entry 1 A point next x e plain.0.childless only) plain.1 k over in
        let last : flat_units A (Some next) [] ≡ Some p = ap (λ (es : List Entry). flat_units A (Some next) es) (sym none) ∙ k in
        subst (λ (z : Point). can_step z.flat 1 ≡ false) (same_Some next p last) over

    by : ((next : Point) → Only 1 next.flat.processes → ArePlainActs xs → flat_units A (Some next) xs ≡ Some p → has_end xs ≡ true → can_step p.flat 1 ≡ false)
        → (next : Point) → flat_entry A point x ≡ Some next → flat_units A (Some next) xs ≡ Some p → (b : Bool) → is_end x ≡ b → (b || has_end xs) ≡ true → can_step p.flat 1 ≡ false
    by later next e k true is l = here next e k is
    by later next e k false is l = later next (only_entry 1 A point next x e plain.0.childless only) plain.1 k l

    go : ((next : Point) → Only 1 next.flat.processes → ArePlainActs xs → flat_units A (Some next) xs ≡ Some p → has_end xs ≡ true → can_step p.flat 1 ≡ false)
        → (o : Option Point) → flat_entry A point x ≡ o → flat_units A o xs ≡ Some p → can_step p.flat 1 ≡ false
    go later None e k = absurd cc
    go later (Some next) e k = by later next e k (is_end x) refl end

-- an end that is seen among entries is among them
pub end_among : (xs : List Entry) → has_end (filter is_visible xs) ≡ true → has_end xs ≡ true
end_among [] h = h
end_among (x ∷ xs) h = go (is_visible x) (end_among xs) h
  where
    or_later : (b : Bool) → has_end xs ≡ true → (b || has_end xs) ≡ true
    or_later true k = refl
    or_later false k = k

    first : (later : Bool) (b : Bool) → (later ≡ true → has_end xs ≡ true) → (b || later) ≡ true → (b || has_end xs) ≡ true
    first later true k l = refl
    first later false k l = k l

    go : (b : Bool) → (has_end (filter is_visible xs) ≡ true → has_end xs ≡ true) → has_end (cond b (x ∷ filter is_visible xs) (filter is_visible xs)) ≡ true
        → (is_end x || has_end xs) ≡ true
    go true later l = first (has_end (filter is_visible xs)) (is_end x) later l
    go false later l = or_later (is_end x) (later l)
