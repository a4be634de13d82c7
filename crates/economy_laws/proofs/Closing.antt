-- The units of the closing phase between turns and counted instructions.
use Rattle.std.proofs.Common.{◌≡◌, ℕ, ◌+◌, ◌≤◌, Bool, true, false, nat_lt, List, [], ◌∷◌, length, Option, Some, None, refl, sym, ap, ◌∙◌, subst, arith}
use Rattle.std.proofs.lemmas.Bool.Decides.{nat_tests}
use Rattle.vm_facts.specs.declared.page.Page.{Page}
use Rattle.vm_facts.specs.declared.entry.Entry.{Entry}
use Rattle.vm_facts.specs.declared.entry.Entry.TheVariants as entries
use Rattle.flat_state.specs.Flat.{Inputs}
use Rattle.page_model.specs.Placement.{Transfer, Due, Start, CopyOf}
use Rattle.page_model.specs.Serve.{force_entry, serve_entry, serve_unit}
use Rattle.page_model.specs.Swapper.{is_out}
use Rattle.run_model.specs.declared.mark.Mark.{Mark}
use Rattle.run_model.specs.declared.mark.Mark.TheVariants as marks
use Rattle.run_model.specs.State.{State}
use Rattle.run_model.specs.Wanted.{wanted}
use Rattle.run_model.specs.Act.{act}
use Rattle.run_model.specs.After.{completed, moved_on, brought_in, put_out, audited, after}
use Rattle.flat_model.specs.Run.{process_of_entry}
use Rattle.page_laws.proofs.Moves.Units.{unit_is}
use Rattle.run_laws.proofs.Flows.{Acted, Settles, Refuses, Steps, acted, steps_own}
use Rattle.run_laws.proofs.Plain.{IsPaging, serve_paging, zero_paging, copy_paging}
use Rattle.run_model.specs.Next.{fill_unit, when, turn_of, next_turned, last_turned, line_or_turn, next_mark, next_unit, goes_on, turn_instructions}
use Rattle.run_model.specs.Kinds.{GoesOn, ProcessRuns, Comes, Kind, Fills, Brings, Copies, ServesWanted, Acts, ProcessComes, Interrupts, HandsMove, ProcessGoes, Notes, Begins}
use Rattle.run_model.proofs.NextUnits.{kind_of}
use Rattle.economy_laws.specs.Stretch.{begins_stretch, IsClosing}

pub data Closes (A : Inputs) (s : State) (u : Entry) (pid : ℕ) : Type 0 where
  Fill : (q : Page) (ds : List Due) → s.place.due ≡ Start q ∷ ds → u ≡ fill_unit s.place (entries.Zero q) → Closes A s u pid
  Bring : (q parent : Page) (ds : List Due) → s.place.due ≡ CopyOf q parent ∷ ds → serve_unit s.place parent true ≡ Some u → Closes A s u pid
  CopyIt : (q parent : Page) (ds : List Due) → s.place.due ≡ CopyOf q parent ∷ ds → serve_unit s.place parent true ≡ None
      → u ≡ fill_unit s.place (entries.Copy q) → Closes A s u pid
  Serve : (q : Page) → ProcessRuns A s pid true → wanted A s ≡ Some q → serve_unit s.place q true ≡ Some u → Closes A s u pid
  Act : ProcessRuns A s pid true → wanted A s ≡ None → act A s pid ≡ Some u → Closes A s u pid
  In : s.place.due ≡ [] → is_out s.place pid ≡ true → u ≡ entries.SwapIn pid → Closes A s u pid

mark_begins : (A : Inputs) (s : State) (u : Entry) → length A.lines ≤ s.lines → next_mark A s ≡ Some u → begins_stretch u ≡ true
mark_begins A s u l h = go (nat_lt s.count A.limit) (nat_lt s.lines (length A.lines)) refl h
  where
    some : (x : Entry) → begins_stretch x ≡ true → Some x ≡ Some u → begins_stretch u ≡ true
    some x k e = ap begins_stretch (let same : u ≡ x = cc in same) ∙ k

    turn : (o : Option ℕ) → turn_of o ≡ Some u → begins_stretch u ≡ true
    turn None e = absurd cc
    turn (Some pid) e = some (entries.Turn pid) refl e

    past : (a b : ℕ) → a ≤ b → nat_lt b a ≡ true → ⊥
    past a b l e = grind (arith, nat_tests)

    go : (a b : Bool) → nat_lt s.lines (length A.lines) ≡ b → when a (line_or_turn s b) ≡ Some u → begins_stretch u ≡ true
    go false b k e = absurd cc
    go true true k e = absurd (past (length A.lines) s.lines l k)
    go true false k e = turn (next_turned s.point.flat (last_turned s.mark)) e

pub on_turn : (A : Inputs) (s : State) (m : Mark) (pid since p : ℕ) (now : Bool) → m ≡ marks.Turn pid since → GoesOn A s m p now → (now ≡ true) × (pid ≡ p)
on_turn A s m pid since p now e g = go now (subst (λ (x : Mark). GoesOn A s x p now) e g)
  where
    go : (now : Bool) → GoesOn A s (marks.Turn pid since) p now → (now ≡ true) × (pid ≡ p)
    go true g = (refl, g.0)
    go false g = absurd g

pub closes : (A : Inputs) (s : State) (u : Entry) (pid : ℕ) → IsClosing A s pid → next_unit A s ≡ Some u → begins_stretch u ≡ false → Closes A s u pid
closes A s u pid c h n = go (kind_of A s u h)
  where
    runs : (p : ℕ) (now : Bool) → ProcessRuns A s p now → (now ≡ true) × (pid ≡ p)
    runs p now r = on_turn A s s.mark pid c.since p now c.mark r.on

    go : Kind A s u → Closes A s u pid
    go (Fills q ds e i) = Fill q ds e i
    go (Brings q parent ds e i) = Bring q parent ds e i
    go (Copies q parent ds e k i) = CopyIt q parent ds e k i
    go (ServesWanted p now q r w i) =
        let k = runs p now r in
        Serve q (subst (λ (x : ℕ). ProcessRuns A s x true) (sym k.1) (subst (ProcessRuns A s p) k.0 r)) w (subst (λ (b : Bool). serve_unit s.place q b ≡ Some u) k.0 i)
    go (Acts p now r w a) =
        let k = runs p now r in
        Act (subst (λ (x : ℕ). ProcessRuns A s x true) (sym k.1) (subst (ProcessRuns A s p) k.0 r)) w (subst (λ (x : ℕ). act A s x ≡ Some u) (sym k.1) a)
    go (ProcessComes p e k i) =
        let z : (pid ≡ p) × (goes_on A s p (c.since + turn_instructions) ≡ true) × (is_out s.place p ≡ true) = subst (λ (m : Mark). Comes A s m p) c.mark k in
        In e (subst (λ (x : ℕ). is_out s.place x ≡ true) (sym z.0) z.2) (i ∙ ap (λ (x : ℕ). entries.SwapIn x) (sym z.0))
    go (Interrupts e k i) = absurd (let z : marks.Turn pid c.since ≡ marks.Interrupt = sym c.mark ∙ k in cc)
    go (HandsMove count e k l w i) = absurd (let z : marks.Turn pid c.since ≡ marks.Hands count = sym c.mark ∙ k in cc)
    go (ProcessGoes p e k i) = absurd (let z : marks.Turn pid c.since ≡ marks.PutOut p = sym c.mark ∙ k in cc)
    go (Notes e k i) = absurd (let z : marks.Turn pid c.since ≡ marks.Audit = sym c.mark ∙ k in cc)
    go (Begins e k i) = absurd (let z : true ≡ false = sym (mark_begins A s u c.lines i) ∙ n in cc)

-- between them the mark and the lines stay
pub stays_closing : (A : Inputs) (s : State) (u : Entry) (pid : ℕ) → IsClosing A s pid → begins_stretch u ≡ false
    → ((line : ℕ) → u ≡ entries.Event line → ⊥) → IsClosing A (after A s u) pid
unfolding after
stays_closing A s (entries.Event line) pid c n e = absurd (e line refl)
stays_closing A s (entries.Turn p) pid c n e = absurd cc
stays_closing A s (entries.Ran p k) pid c n e = absurd cc
stays_closing A s (entries.Call p k b r0 r1) pid c n e = absurd cc
stays_closing A s (entries.Ended p k) pid c n e = absurd cc
stays_closing A s (entries.Hands k) pid c n e = record { since = c.since; mark = ap (moved_on k) c.mark; lines = c.lines }
stays_closing A s entries.Done pid c n e = record { since = c.since; mark = ap completed c.mark; lines = c.lines }
stays_closing A s (entries.SwapOut p) pid c n e = record { since = c.since; mark = ap put_out c.mark; lines = c.lines }
stays_closing A s (entries.SwapIn p) pid c n e = record { since = c.since; mark = ap brought_in c.mark; lines = c.lines }
stays_closing A s (entries.Owners a b m d) pid c n e = record { since = c.since; mark = ap audited c.mark; lines = c.lines }
stays_closing A s _ pid c n e = record { since = c.since; mark = c.mark; lines = c.lines }

-- no unit of the closing phase is a line of the schedule
pub no_event : (A : Inputs) (s : State) (u : Entry) (pid : ℕ) → Closes A s u pid → (line : ℕ) → u ≡ entries.Event line → ⊥
no_event A s u pid k line e = go k
  where
    is_event : Entry → Bool
    is_event (entries.Event line) = true
    is_event _ = false

    force_event : (ts : List Transfer) → is_event (force_entry ts) ≡ false
    force_event [] = refl
    force_event (t ∷ ts) = refl

    never : is_event u ≡ false → ⊥
    never n = absurd (let z : true ≡ false = sym (ap is_event e) ∙ n in cc)

    paging : (x : Entry) → IsPaging x → is_event x ≡ false
    paging (entries.Event line) h = absurd h
    paging _ h = refl

    flat : (x : Entry) (p : ℕ) → process_of_entry x ≡ Some p → is_event x ≡ false
    flat (entries.Event line) p h = absurd cc
    flat _ p h = refl

    go : Closes A s u pid → ⊥
    go (Fill q ds d i) = never (ap is_event i ∙ paging (fill_unit s.place (entries.Zero q)) (zero_paging s.place q))
    go (Bring q parent ds d i) = never (ap is_event (unit_is s.place parent true u i).1 ∙ paging (serve_entry s.place parent) (serve_paging s.place parent))
    go (CopyIt q parent ds d j i) = never (ap is_event i ∙ paging (fill_unit s.place (entries.Copy q)) (copy_paging s.place q))
    go (Serve q r w i) = never (ap is_event (unit_is s.place q true u i).1 ∙ paging (serve_entry s.place q) (serve_paging s.place q))
    go (Act r w a) = acts (acted A s pid u a)
      where
        acts : Acted A s pid u → ⊥
        acts (Settles i) = absurd (let z : entries.Event line ≡ entries.Done = sym e ∙ i in cc)
        acts (Refuses i) = absurd (let z : entries.Event line ≡ entries.Refused pid = sym e ∙ i in cc)
        acts (Steps f g i) = absurd (let z : None ≡ Some pid = sym (ap process_of_entry e) ∙ steps_own A s.point pid u i in cc)
    go (In d o i) = absurd (let z : entries.Event line ≡ entries.SwapIn pid = sym e ∙ i in cc)
