-- A run of the flat machine: the fold of its steps over the flat entries of a journal, which is none where an
-- entry can't come at its point.
use Rattle.std.specs.Prelude.{◌≡◌, ℕ, ◌==◌, Bool, true, false, ◌&&◌, List, [], ◌∷◌, bytes_eq, Option, Some, None, if◌then◌else◌}
use Rattle.flat_state.specs.Flat.{FlatState, Inputs, start_state, can_step}
use Rattle.vm_facts.specs.declared.entry.Entry.{Entry}
use Rattle.vm_facts.specs.declared.entry.Entry.TheVariants.{Ran, Out, Grew, Call, Refused, Sleeps, Ended}
use Rattle.flat_state.specs.Journal.{units_of}
use Rattle.flat_model.specs.Step.{Step, flat_step}

-- a flat state, and the last flat entry
pub record Point : Type 0 where
  pub flat : FlatState
  pub last : Option Entry

-- the last flat entry says that the process's pieces found no place
abbrev pub is_refused : Option Entry → ℕ → Bool
is_refused (Some (Refused p)) pid = p == pid
is_refused _ pid = false

-- no step is begun: the last flat entry is neither `Refused` nor `Out`
abbrev pub IsBetween : Option Entry → Type 0
IsBetween (Some (Refused pid)) = ⊥
IsBetween (Some (Out pid bytes)) = ⊥
IsBetween _ = Unit {0}

-- the next step of a process at a point, by whether the last flat entry says that its pieces found no place
abbrev pub step_at : Inputs → Point → ℕ → Step
step_at A point pid = flat_step A point.flat pid (is_refused point.last pid)

-- all but the first
abbrev pub behind_first : List Entry → List Entry
behind_first [] = []
behind_first (e ∷ es) = es

-- the entries of a process's step that are still to come, after this last entry: after an `Out` of it, which is the
-- first of its step, all but that, and else all
abbrev pub due : Option Entry → ℕ → List Entry → List Entry
due (Some (Out p bytes)) pid es = if p == pid then behind_first es else es
due _ pid es = es

-- the entries of a process's next step that are still to come at a point
abbrev pub due_at : Inputs → Point → ℕ → List Entry
due_at A point pid = due point.last pid (step_at A point pid).entries

-- the first of these, where the process can step
abbrev pub first_if : Bool → List Entry → Option Entry
first_if true (e ∷ es) = Some e
first_if true [] = None
first_if false es = None

-- the next entry of a process's step
abbrev pub entry_of_step : Inputs → Point → ℕ → Option Entry
entry_of_step A point pid = first_if (can_step point.flat pid) (due_at A point pid)

-- the point after the first of these entries, which are those that are still to come of a step: where it is the last
-- one, the step is complete with it, and the flat state is the one after the step
abbrev pub behind : Point → FlatState → List Entry → Point
behind point after [] = point
behind point after (e ∷ []) = record { flat = after; last = Some e }
behind point after (e ∷ f ∷ es) = record point { last = Some e }

-- the point after the next entry of a process's step
abbrev pub point_after : Inputs → Point → ℕ → Point
point_after A point pid = behind point (step_at A point pid).after (due_at A point pid)

-- both carries are set, or both are clear
abbrev pub same_carry : Bool → Bool → Bool
same_carry true true = true
same_carry false false = true
same_carry _ _ = false

-- the same flat entry
abbrev pub same_entry : Entry → Entry → Bool
same_entry (Ran p n) (Ran q m) = p == q && n == m
same_entry (Out p bytes) (Out q others) = p == q && bytes_eq bytes others
same_entry (Grew p n) (Grew q m) = p == q && n == m
same_entry (Call p n c r0 r1) (Call q m d s0 s1) = p == q && (n == m && (same_carry c d && (r0 == s0 && r1 == s1)))
same_entry (Sleeps p) (Sleeps q) = p == q
same_entry (Ended p n) (Ended q m) = p == q && n == m
same_entry _ _ = false

-- this entry is the first of these
abbrev pub is_first_of : List Entry → Entry → Bool
is_first_of [] e = false
is_first_of (first ∷ es) e = same_entry first e

-- the process of a flat entry; none for the others
abbrev pub process_of_entry : Entry → Option ℕ
process_of_entry (Ran p n) = Some p
process_of_entry (Out p bytes) = Some p
process_of_entry (Grew p n) = Some p
process_of_entry (Call p n c r0 r1) = Some p
process_of_entry (Refused p) = Some p
process_of_entry (Sleeps p) = Some p
process_of_entry (Ended p n) = Some p
process_of_entry _ = None

-- the reply or the end of this process
abbrev pub is_outcome_of : ℕ → Entry → Bool
is_outcome_of pid (Call p n c r0 r1) = p == pid
is_outcome_of pid (Ended p n) = p == pid
is_outcome_of pid _ = false

-- the reply of a call of this process
abbrev pub is_call_of : ℕ → Entry → Bool
is_call_of pid (Call p n c r0 r1) = p == pid
is_call_of pid _ = false

-- after `Refused` only the reply or the end of its process may follow, and after `Out` only the reply
abbrev pub may_follow : Option Entry → Entry → Bool
may_follow (Some (Refused p)) e = is_outcome_of p e
may_follow (Some (Out p bytes)) e = is_call_of p e
may_follow _ e = true

-- an entry is the first that is still to come of a process's step. `Refused` is of no step: it may come before any
abbrev pub is_due : Inputs → Point → ℕ → Entry → Bool
is_due A point pid (Refused p) = true
is_due A point pid e = is_first_of (due_at A point pid) e

-- an entry of this process comes at a point: it may follow the last one, the process can step, and the entry is due of
-- its step
abbrev pub comes_at : Inputs → Point → ℕ → Entry → Bool
comes_at A point pid e = may_follow point.last e && (can_step point.flat pid && is_due A point pid e)

-- An entry of a process comes at a point: each condition of `comes_at` by its name. Where one of them fails, the entry
-- is none of a run there.
pub record ComesAt (A : Inputs) (point : Point) (pid : ℕ) (e : Entry) : Type 0 where
  -- it is an entry of this process
  pub process : process_of_entry e ≡ Some pid
  -- after `Refused` it is the reply or the end of that process, and after `Out` the reply
  pub follows : may_follow point.last e ≡ true
  -- the process can step
  pub steps : can_step point.flat pid ≡ true
  -- the process's step still gives entries, and this is the first of them; or it is `Refused`
  pub next : is_due A point pid e ≡ true

-- the point to which an entry of a process leads; by `Refused` the flat state stays as it is
abbrev pub led_to : Inputs → Point → ℕ → Entry → Point
led_to A point pid (Refused p) = record point { last = Some (Refused p) }
led_to A point pid e = point_after A point pid

-- the point after a unit, by the process whose entry it is; the same where it is no process's
abbrev pub flat_entry_by : Inputs → Point → Option ℕ → Entry → Option Point
flat_entry_by A point None e = Some point
flat_entry_by A point (Some pid) e = if comes_at A point pid e then Some (led_to A point pid e) else None

-- the point after a unit; none where the unit can't come at this point
unfoldable pub flat_entry : Inputs → Point → Entry → Option Point
flat_entry A point e = flat_entry_by A point (process_of_entry e) e

-- the point after units in order; none where one of them can't come at its point
unfoldable pub flat_units : Inputs → Option Point → List Entry → Option Point
flat_units A None units = None
flat_units A (Some point) [] = Some point
flat_units A (Some point) (u ∷ us) = flat_units A (flat_entry A point u) us

-- the flat machine at the start, before any entry
abbrev pub start_point : Inputs → Point
start_point A = record { flat = start_state A; last = None }

-- the point at which a journal leaves the flat machine; none where the journal is no run of it
abbrev pub flat_run : Inputs → List Entry → Option Point
flat_run A journal = flat_units A (Some (start_point A)) (units_of journal)
