-- Each process that lives is resident, or out; and putting one out ends.
use Rattle.std.proofs.Common.{◌≡◌, ℕ, ◌<◌, ◌==◌, Bool, true, false, cond, List, [], ◌∷◌, map, Some, refl, sym, ap, ◌∙◌, subst}
use Rattle.flat_state.specs.Flat.{Process, FlatState, Inputs, process_of}
use Rattle.vm_facts.specs.declared.entry.Entry.{Entry}
use Rattle.page_model.specs.Pages.{numbered}
use Rattle.page_model.specs.Placement.{Placement}
use Rattle.page_model.specs.Place.{space_of_process}
use Rattle.page_model.specs.Swapper.{is_out, put_out_unit}
use Rattle.page_model.specs.PuttingOut.{IsResident, put_rank, EndsPuttingOut}
use Rattle.kernel_model.specs.Sound.{lives}
use Rattle.kernel_model.specs.Numbers.{Numbered}
use Rattle.kernel_model.specs.Stands.{holds_some}
use Rattle.kernel_model.specs.Start.{kept_of}
use Rattle.page_laws.proofs.Swapper.PuttingOut.{unit_falls, put_out}
use Rattle.run_model.specs.declared.mark.Mark.TheVariants as marks
use Rattle.run_model.specs.State.{State}
use Rattle.run_model.specs.Wanted.{locked}
use Rattle.run_model.specs.After.{place_at, after}
use Rattle.run_model.specs.Next.{or_else, due_unit, under, next_mark, next_unit}
use Rattle.run_laws.specs.Standing.{MarkStands, machine_of, Placed}
use Rattle.run_laws.specs.Running.{IsRun}
use Rattle.run_laws.proofs.Units.{owns, sixteen, plain_place}

pub reside : (A : Inputs) (s : State) (pid : ℕ) → IsRun A s → lives (map kept_of s.point.flat.processes) pid ≡ true → IsResident s.place pid
reside A s pid r l = let p : Placed A s.point.flat s.place s.holdings = r.placed in let n : Numbered (machine_of s.point.flat s.place s.holdings) = p.numbered in n.residents pid l

-- Putting out.

holder_lives : (flat : FlatState) (pid : ℕ) → holds_some (process_of flat pid) ≡ true → lives (map kept_of flat.processes) pid ≡ true
holder_lives flat pid h = go flat.processes h
  where
    one : (x : Rattle.flat_state.specs.Flat.Holding) → Rattle.flat_state.specs.Flat.holds_space x ≡ true → Rattle.kernel_model.specs.Sound.has_life (Rattle.kernel_model.specs.Kernel.life_of x) ≡ true
    one (Rattle.flat_state.specs.Flat.Holds s) e = refl
    one (Rattle.flat_state.specs.Flat.Lends s c) e = absurd cc
    one (Rattle.flat_state.specs.Flat.Zombie s) e = absurd cc

    go : (ps : List Process) → holds_some (Rattle.std.specs.Prelude.find (λ (q : Process). q.pid == pid) ps) ≡ true → lives (map kept_of ps) pid ≡ true
    go [] e = absurd cc
    go (q ∷ ps) e = by (q.pid == pid) e (go ps)
      where
        by : (b : Bool) → holds_some (cond b (Some q) (Rattle.std.specs.Prelude.find (λ (q : Process). q.pid == pid) ps)) ≡ true
            → (holds_some (Rattle.std.specs.Prelude.find (λ (q : Process). q.pid == pid) ps) ≡ true → lives (map kept_of ps) pid ≡ true)
            → Rattle.kernel_model.specs.Sound.lives_in (cond b (Some (kept_of q)) (numbered (λ (x : Rattle.kernel_model.specs.Kernel.Proc). x.pid) pid (map kept_of ps))) ≡ true
        by true z ih = one q.holding z
        by false z ih = ih z

-- what a mark that puts a process out comes to
pub record PutsIt (A : Inputs) (s : State) (pid : ℕ) : Type 0 where
  pub clear : s.place.due ≡ []
  pub holds : holds_some (process_of s.point.flat pid) ≡ true
  pub inside : is_out s.place pid ≡ false
  pub resident : IsResident s.place pid

puts_it : (A : Inputs) (s : State) (pid : ℕ) → IsRun A s → s.mark ≡ marks.PutOut pid → PutsIt A s pid
puts_it A s pid r e =
    let m : (s.place.due ≡ []) × (holds_some (process_of s.point.flat pid) ≡ true) × (is_out s.place pid ≡ false) = subst (MarkStands s) e r.mark in
    record { clear = m.0; holds = m.1; inside = m.2; resident = reside A s pid r (holder_lives s.point.flat pid m.1) }

pub put_unit : (A : Inputs) (s : State) (pid : ℕ) → s.place.due ≡ [] → s.mark ≡ marks.PutOut pid
    → next_unit A s ≡ Some (put_out_unit s.place pid (space_of_process (process_of s.point.flat pid)))
unfolding next_unit
put_unit A s pid d e =
    ap (λ (ds : List Rattle.page_model.specs.Placement.Due). or_else (due_unit s.place ds) (or_else (under A s s.mark) (next_mark A s))) d
    ∙ ap (λ (m : Rattle.run_model.specs.declared.mark.Mark.Mark). or_else (under A s m) (next_mark A s)) e

pub put_falls : (A : Inputs) (s : State) (u : Entry) (pid : ℕ) → IsRun A s → s.mark ≡ marks.PutOut pid → next_unit A s ≡ Some u
    → put_rank (after A s u).place pid (space_of_process (process_of s.point.flat pid)) < put_rank s.place pid (space_of_process (process_of s.point.flat pid))
put_falls A s u pid r e h =
    let same : (a b : Entry) → Some a ≡ Some b → a ≡ b = λ a b e. cc in
    let x : PutsIt A s pid = puts_it A s pid r e in
    let sid : ℕ = space_of_process (process_of s.point.flat pid) in
    let i : u ≡ put_out_unit s.place pid sid = same u (put_out_unit s.place pid sid) (sym h ∙ put_unit A s pid x.clear e) in
    subst (λ (v : Entry). put_rank (after A s v).place pid sid < put_rank s.place pid sid) (sym i)
    (subst (λ (p : Placement). put_rank p pid sid < put_rank s.place pid sid) (sym (plain_place A s (put_out_unit s.place pid sid) (Rattle.run_laws.proofs.Plain.put_flat s.place pid sid)))
    (unit_falls (locked A s) (place_at s (put_out_unit s.place pid sid)) s.place pid sid (owns A s r.placed) x.resident x.inside))

pub put_ends : (A : Inputs) (s : State) (pid at : ℕ) → IsRun A s → s.mark ≡ marks.PutOut pid
    → EndsPuttingOut at s.place pid (space_of_process (process_of s.point.flat pid))
put_ends A s pid at r e =
    let x : PutsIt A s pid = puts_it A s pid r e in
    put_out at s.place pid (space_of_process (process_of s.point.flat pid)) (owns A s r.placed) (sixteen A s r.placed) x.resident x.inside
