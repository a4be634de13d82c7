-- Machines that go on after transfers that end.
use Rattle.std.proofs.Common.{◌≡◌, ℕ, zero, suc, ◌≤◌, List, [], Option, None, refl, sym, ap, ◌∙◌, subst, arith}
use Rattle.vm_facts.specs.SwapImages.{SwapImage}
use Rattle.vm_facts.specs.declared.entry.Entry.TheVariants as entries
use Rattle.flat_state.specs.Journal.{append, instructions_of}
use Rattle.kernel_model.specs.Kernel.{Kernel, done_step}
use Rattle.machine_state.specs.Machine.{Standing}
use Rattle.machine_state.specs.Done.{Sources, IsDone}
use Rattle.machine_state.specs.Settled.{EndsWhile, SettledBy, IsSameBeside}
use Rattle.swapper.specs.LastMoves.{last_moves}
use Rattle.swapper.proofs.LastMoves.{last_done}
use Rattle.step_units.specs.Ready.{Continues}
use Rattle.step_units.proofs.Placements.{Keeps, keeps_self, keeps_both, done_keeps}
use Rattle.step_units.proofs.Journals.{counts_one}

-- a kernel in which transfers ended
pub record EndsOn (k l : Kernel) : Type 0 where
  pub keeps : Keeps k.place l.place
  pub processes : l.processes ≡ k.processes
  pub next_sid : l.next_sid ≡ k.next_sid
  pub counted : instructions_of l.journal ≡ instructions_of k.journal
  pub low : last_moves l.journal ≤ last_moves k.journal

ends_self : (k : Kernel) → EndsOn k k
ends_self k = record {
  keeps = keeps_self k.place;
  processes = refl;
  next_sid = refl;
  counted = refl;
  low = omega arith;
}

ends_then : (k l m : Kernel) → EndsOn k l → EndsOn l m → EndsOn k m
ends_then k l m s t = record {
  keeps = keeps_both k.place l.place m.place s.keeps t.keeps;
  processes = t.processes ∙ s.processes;
  next_sid = t.next_sid ∙ s.next_sid;
  counted = t.counted ∙ s.counted;
  low = let x = s.low in let y = t.low in omega arith;
}

done_on : (k : Kernel) (read : List (List ℕ)) → EndsOn k (done_step k read)
done_on k read = record {
  keeps = done_keeps k.place;
  processes = refl;
  next_sid = refl;
  counted = let one = counts_one k.journal (append k.journal entries.Done) entries.Done refl in omega arith;
  low = let last = last_done k.journal in omega arith;
}

pub one_ends : (from : Sources) (i : Option SwapImage) (k l : Kernel) → IsDone from i k l → EndsOn k l
one_ends from i k l d = subst (EndsOn k) (sym d.step) (done_on k d.read)

all_end : (from : Sources) (sid n : ℕ) (k l : Kernel) (i j : Option SwapImage) → EndsWhile from sid n k i l j → EndsOn k l
all_end from sid zero k l i j e = subst (EndsOn k) (sym e.0) (ends_self k)
all_end from sid (suc n) k l i j e = ends_then k e.1.0 l (one_ends from i k e.1.0 e.1.2) (all_end from sid n e.1.0 l e.1.1 j e.1.4)

ended_continues : (old new : Standing) → old.kernel.place.due ≡ [] → IsSameBeside old new → EndsOn old.kernel new.kernel → Continues old new 0
ended_continues old new d b e = record {
  params = b.params;
  images = b.images;
  clear = e.keeps.due ∙ d;
  frames = e.keeps.count;
  low = e.low;
  counted = let same = e.counted in omega arith;
}

-- transfers ended until a space was settled
pub record SettledOn (old new : Standing) : Type 0 where
  pub on : Continues old new 0
  pub processes : new.kernel.processes ≡ old.kernel.processes
  pub numbers : new.kernel.next_sid ≡ old.kernel.next_sid

pub settled_on : (from : Sources) (sid : ℕ) (old new : Standing) (i j : Option SwapImage) → old.kernel.place.due ≡ []
    → SettledBy from sid old.kernel new.kernel i j → IsSameBeside old new → SettledOn old new
settled_on from sid old new i j d s b =
    let e = all_end from sid s.count old.kernel new.kernel i j s.ends in
    record { on = ended_continues old new d b e; processes = e.processes; numbers = e.next_sid }

pub done_continues : (old new : Standing) (from : Sources) (i : Option SwapImage) → old.kernel.place.due ≡ [] → IsDone from i old.kernel new.kernel
    → new ≡ record old { kernel = new.kernel; room = None } → Continues old new 0
done_continues old new from i clear d h =
    ended_continues old new clear
    (record { params = ap (λ (m : Standing). m.params) h; images = ap (λ (m : Standing). m.images) h; before = ap (λ (m : Standing). m.before) h })
    (one_ends from i old.kernel new.kernel d)
