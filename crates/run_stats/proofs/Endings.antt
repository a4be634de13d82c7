-- How often a process ended, one entry after another.
use Rattle.std.proofs.Common.{◌≡◌, ◌≢◌, ◌<◌, ◌≤◌, ◌+◌, ℕ, Bool, cond, eqb, List, [], ◌∷◌, ◌++◌, length, get_or, refl, sym, ap, ◌∙◌, subst, inl, inr, true, false, append_assoc, arith}
use Rattle.std.specs.List.{flat_map}
use Rattle.std.specs.Prelude.{codes}
use Rattle.std.proofs.lemmas.Bool.{cases_lt, cases_eq, ne_eqb}
use Rattle.std.proofs.lemmas.List.{append-nil, get_or_past}
use Rattle.vm_facts.proofs.Tests.{eq_self}
use Rattle.vm_facts.specs.declared.entry.Entry.{Entry}
use Rattle.vm_facts.specs.declared.entry.Entry.TheVariants as entries
use Rattle.run_stats.specs.declared.ends.Ending.{Ending}
use Rattle.run_stats.specs.declared.ends.Ending.TheVariants.{Never, Once, Often}
use Rattle.run_stats.specs.Rows.{row, ended_row}
use Rattle.run_stats.specs.Ends.{once_more, ending_after, ending_at, IsEnding}

-- one entry more in what a function gives of a journal
behind : (f : Entry → List ℕ) (js : List Entry) (e : Entry) → flat_map f (js ++ e ∷ []) ≡ flat_map f js ++ f e
behind f [] e = append-nil (f e)
behind f (x ∷ js) e = ap (λ (t : List ℕ). f x ++ t) (behind f js e) ∙ sym (append_assoc (f x) (flat_map f js) (f e))

-- an entry that tells of no end of the process
quiet : (pid : ℕ) (x : Ending) (js : List Entry) (e : Entry) → ended_row pid e ≡ [] → IsEnding pid x js → IsEnding pid x (js ++ e ∷ [])
quiet pid Never js e none h = behind (ended_row pid) js e ∙ ap (λ (t : List ℕ). flat_map (ended_row pid) js ++ t) none ∙ append-nil (flat_map (ended_row pid) js) ∙ h
quiet pid (Once status) js e none h =
    behind (ended_row pid) js e ∙ ap (λ (t : List ℕ). flat_map (ended_row pid) js ++ t) none ∙ append-nil (flat_map (ended_row pid) js) ∙ h
quiet pid Often js e none h = tt

-- the process ends
ends : (pid status : ℕ) (x : Ending) (js : List Entry) (e : Entry) → ended_row pid e ≡ row (codes "process ") pid (codes " ended ") status
    → IsEnding pid x js → IsEnding pid (once_more x status) (js ++ e ∷ [])
ends pid status Never js e told h = behind (ended_row pid) js e ∙ ap (λ (t : List ℕ). t ++ ended_row pid e) h ∙ told
ends pid status (Once other) js e told h = tt
ends pid status Often js e told h = tt

-- one entry more
pub ending_more : (pid : ℕ) (x : Ending) (js : List Entry) (e : Entry) → IsEnding pid x js → IsEnding pid (ending_after pid x e) (js ++ e ∷ [])
ending_more pid x js (entries.Ended p status) h = elim (cases_eq p pid) [
  | inl same ↦
      let now : eqb p pid ≡ true = ap (λ (q : ℕ). eqb q pid) same ∙ eq_self pid in
      let told : ended_row pid (entries.Ended p status) ≡ row (codes "process ") pid (codes " ended ") status =
      ap (λ (b : Bool). cond b (row (codes "process ") pid (codes " ended ") status) []) now in
      subst (λ (y : Ending). IsEnding pid y (js ++ entries.Ended p status ∷ [])) (sym (ap (λ (b : Bool). cond b (once_more x status) x) now))
      (ends pid status x js (entries.Ended p status) told h)
  | inr other ↦
      let not_now : eqb p pid ≡ false = ne_eqb p pid other in
      let told : ended_row pid (entries.Ended p status) ≡ [] = ap (λ (b : Bool). cond b (row (codes "process ") pid (codes " ended ") status) []) not_now in
      subst (λ (y : Ending). IsEnding pid y (js ++ entries.Ended p status ∷ [])) (sym (ap (λ (b : Bool). cond b (once_more x status) x) not_now))
      (quiet pid x js (entries.Ended p status) told h)
]
ending_more self x js (entries.Event line) h = quiet self x js (entries.Event line) refl h
ending_more self x js (entries.Turn pid) h = quiet self x js (entries.Turn pid) refl h
ending_more self x js (entries.Ran pid count) h = quiet self x js (entries.Ran pid count) refl h
ending_more self x js (entries.Out pid bytes) h = quiet self x js (entries.Out pid bytes) refl h
ending_more self x js (entries.Grew pid pages) h = quiet self x js (entries.Grew pid pages) refl h
ending_more self x js (entries.Call pid number carry r0 r1) h = quiet self x js (entries.Call pid number carry r0 r1) refl h
ending_more self x js (entries.Refused pid) h = quiet self x js (entries.Refused pid) refl h
ending_more self x js (entries.Sleeps pid) h = quiet self x js (entries.Sleeps pid) refl h
ending_more self x js (entries.Zero page) h = quiet self x js (entries.Zero page) refl h
ending_more self x js (entries.Get page lo n) h = quiet self x js (entries.Get page lo n) refl h
ending_more self x js (entries.Copy page) h = quiet self x js (entries.Copy page) refl h
ending_more self x js (entries.Reclaim page) h = quiet self x js (entries.Reclaim page) refl h
ending_more self x js (entries.Hands count) h = quiet self x js (entries.Hands count) refl h
ending_more self x js (entries.Put lo n) h = quiet self x js (entries.Put lo n) refl h
ending_more self x js entries.Done h = quiet self x js entries.Done refl h
ending_more self x js (entries.SwapOut pid) h = quiet self x js (entries.SwapOut pid) refl h
ending_more self x js (entries.SwapIn pid) h = quiet self x js (entries.SwapIn pid) refl h
ending_more self x js (entries.Owners free used moving held) h = quiet self x js (entries.Owners free used moving held) refl h

-- a table that is filled up has the same endings
pub room_same : (old new : List Ending) (n : ℕ) → length new ≡ n → length old ≤ n
    → ((k : ℕ) (d : Ending) → k < n → k < length old → get_or new k d ≡ get_or old k d)
    → ((k : ℕ) (d : Ending) → length old ≤ k → k < n → get_or new k d ≡ Never)
    → (k : ℕ) → ending_at new k ≡ ending_at old k
room_same old new n long grows kept filled k = elim (cases_lt k (length old)) [
  | inl low ↦ kept k Never (omega (arith, low, grows)) low
  | inr high ↦ elim (cases_lt k n) [
    | inl within ↦ filled k Never high within ∙ sym (get_or_past old k Never high)
    | inr behind ↦ get_or_past new k Never (omega (arith, long, behind)) ∙ sym (get_or_past old k Never high)
  ]
]
