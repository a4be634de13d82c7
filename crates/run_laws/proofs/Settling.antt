-- A process that waits for its space to settle has a transfer in flight; and a mark begins by a line or a turn.
use Rattle.std.proofs.Common.{◌≡◌, ℕ, ◌+◌, ◌<◌, Bool, true, false, not, ◌&&◌, nat_lt, List, length, Option, Some, None, refl, sym, subst, arith}
use Rattle.flat_state.specs.Flat.{Holding, Holds, Lends, Zombie, Process, Inputs, process_of, can_step}
use Rattle.vm_facts.specs.declared.entry.Entry.{Entry}
use Rattle.vm_facts.specs.declared.entry.Entry.TheVariants as entries
use Rattle.page_model.specs.Placement.{Placement, Transfer}
use Rattle.page_model.specs.Swapper.{is_settled}
use Rattle.page_laws.proofs.Swapper.PuttingOut.{unsettled_flies}
use Rattle.run_model.specs.State.{State}
use Rattle.run_model.specs.Act.{settled_in, settled_if, settled, step_loses, must_refuse, must_settle, act_by, act_if, act}
use Rattle.run_model.specs.Next.{when, turn_of, next_turned, last_turned, line_or_turn, next_mark}
use Rattle.run_laws.proofs.Flows.{steps_own}

flies : (p : Placement) (sid : ℕ) → is_settled p sid ≡ false → 0 < length p.transfers
flies p sid e = let f = unsettled_flies p sid e in subst (λ (ts : List Transfer). 0 < length ts) (sym f.2) (omega arith)

unsettled : (s : State) (pid : ℕ) → settled s.point.flat s.place pid ≡ false → 0 < length s.place.transfers
unsettled s pid e = go (process_of s.point.flat pid) e
  where
    holding : (h : Holding) → settled_in s.place h ≡ false → 0 < length s.place.transfers
    holding (Holds t) k = flies s.place t.sid k
    holding (Lends sid child) k = absurd cc
    holding (Zombie status) k = absurd cc

    go : (o : Option Process) → settled_if s.place o ≡ false → 0 < length s.place.transfers
    go None k = absurd cc
    go (Some q) k = holding q.holding k

pub settle_parts : (a b : Bool) → (a && not b) ≡ true → (a ≡ true) × (b ≡ false)
settle_parts true false e = (refl, refl)
settle_parts true true e = absurd cc
settle_parts false b e = absurd cc

pub settles : (A : Inputs) (s : State) (pid : ℕ) → act A s pid ≡ Some entries.Done → 0 < length s.place.transfers
unfolding act
settles A s pid h = can (can_step s.point.flat pid) h
  where
    by : (r t : Bool) → must_settle A s pid ≡ t → act_by A s pid r t ≡ Some entries.Done → 0 < length s.place.transfers
    by true t e k = absurd cc
    by false true e k = unsettled s pid (settle_parts (step_loses A s pid) (settled s.point.flat s.place pid) e).1
    by false false e k = absurd (let z : None ≡ Some pid = steps_own A s.point pid entries.Done k in cc)

    can : (b : Bool) → act_if b A s pid ≡ Some entries.Done → 0 < length s.place.transfers
    can true k = by (must_refuse A s pid) (must_settle A s pid) refl k
    can false k = absurd cc

-- a line or a turn
abbrev pub IsMark : Entry → Type 0
IsMark (entries.Event line) = Unit {0}
IsMark (entries.Turn p) = Unit {0}
IsMark _ = ⊥

pub begins_is : (P : Entry → Type 0) (A : Inputs) (s : State) (u : Entry) → next_mark A s ≡ Some u → ((x : Entry) → IsMark x → P x) → P u
begins_is P A s u h make = go (nat_lt s.count A.limit) (nat_lt s.lines (length A.lines)) h
  where
    some : (x : Entry) → IsMark x → Some x ≡ Some u → P u
    some x k e = subst P (let same : x ≡ u = cc in same) (make x k)

    turn : (o : Option ℕ) → turn_of o ≡ Some u → P u
    turn None e = absurd cc
    turn (Some pid) e = some (entries.Turn pid) tt e

    go : (a b : Bool) → when a (line_or_turn s b) ≡ Some u → P u
    go false b e = absurd cc
    go true true e = some (entries.Event (s.lines + 1)) tt e
    go true false e = turn (next_turned s.point.flat (last_turned s.mark)) e
