-- Machines that stay steady.
use Rattle.std.proofs.Common.{◌≡◌, ℕ, ◌≤◌, List, [], length, Option, None, Result, Ok, Err, refl, ap, ◌∙◌, arith}
use Rattle.std.specs.Prelude.{OnOk}
use Rattle.vm_facts.specs.SwapImages.{SwapImage}
use Rattle.vm_facts.specs.declared.entry.Entry.{Entry}
use Rattle.vm_facts.specs.declared.entry.Entry.TheVariants as entries
use Rattle.vm_facts.specs.declared.stop.Stop.{Stop}
use Rattle.flat_state.specs.Journal.{counted, IsPlain}
use Rattle.kernel_model.specs.Kernel.{Kernel, note_step}
use Rattle.machine_state.specs.Calls.{IsNote}
use Rattle.machine_state.specs.Going.{CanGoOn}
use Rattle.machine_state.specs.Machine.{Standing}
use Rattle.machine_state.specs.Settled.{IsSameBeside}
use Rattle.machine_state.specs.Swapping.{IsIn, AsksU}
use Rattle.proc_run.specs.LastMoves.{last_moves}
use Rattle.proc_run.specs.Ready.{Continues, RunsMoved}
use Rattle.proc_run.proofs.Journals.{last_plain}
use Rattle.proc_run.proofs.Entries.{note_continues}
use Rattle.proc_run.proofs.LinesContinue.{turn_continues}
use Rattle.proc_run.specs.Turned.TheVariants as turns
use Rattle.proc_run.specs.Runs.{IsSteady}
use Rattle.vm_core.specs.Steady.{StaysSteady}

pub steady_self : (m : Standing) → IsSteady m → StaysSteady m m 0
steady_self m s = record { steady = s; params = refl; images = refl; counted = omega arith }

pub continues_steady : (old new : Standing) (n : ℕ) → IsSteady old → Continues old new n → CanGoOn new → StaysSteady old new n
continues_steady old new n s c ready = record {
  steady = record {
    ready = ready;
    clear = c.clear;
    frames = let f = c.frames in let few = s.frames in omega arith;
    low = let l = c.low in let few = s.low in omega arith;
  };
  params = c.params;
  images = c.images;
  counted = c.counted;
}

-- after moves of the hands, where the last entry counted none
pub moved_steady : (old new : Standing) (moves : ℕ) → IsSteady old → RunsMoved old new moves → last_moves old.kernel.journal ≡ 0 → moves ≤ 1000000
    → CanGoOn new → StaysSteady old new 0
moved_steady old new moves s r first few ready = record {
  steady = record {
    ready = ready;
    clear = r.clear;
    frames = let f = r.on.frames in let many = s.frames in omega arith;
    low = let l = r.most in omega arith;
  };
  params = r.on.params;
  images = r.on.images;
  counted = r.on.counted;
}

-- After an entry that changes nothing.

plain_note : (e : Entry) → IsNote e → IsPlain e × (counted e ≡ 0)
plain_note (entries.Event line) n = (tt, refl)
plain_note (entries.Turn pid) n = (tt, refl)
plain_note (entries.Refused pid) n = (tt, refl)
plain_note (entries.Owners free used moving held) n = (tt, refl)
plain_note _ n = absurd n

pub noted_first : (old new : Standing) (e : Entry) → IsNote e → new.kernel ≡ note_step old.kernel e → last_moves new.kernel.journal ≡ 0
noted_first old new e n k = ap (λ (x : Kernel). last_moves x.journal) k ∙ last_plain old.kernel.journal e (plain_note e n).0

pub noted_steady : (r : Result (Unit {0}) Stop) (old new : Standing) (e : Entry) → old.kernel.place.due ≡ [] → 64 ≤ length old.kernel.place.holds
    → IsNote e → OnOk r (new.kernel ≡ note_step old.kernel e) → OnOk r (new ≡ record old { kernel = new.kernel; room = None }) → OnOk r (CanGoOn new)
    → OnOk r (StaysSteady old new 0)
noted_steady (Err stop) old new e clear frames n k same on = tt
noted_steady (Ok x) old new e clear frames n k same on =
    let c : Continues old new (counted e) = note_continues old new e clear (plain_note e n).0
    (same ∙ ap (λ (l : Kernel). let m : Standing = record old { kernel = l; room = None } in m) k) in
    record {
      steady = record {
        ready = on;
        clear = c.clear;
        frames = let f = c.frames in omega arith;
        low = let first = noted_first old new e n k in omega arith;
      };
      params = c.params;
      images = c.images;
      counted = let a = c.counted in let none = (plain_note e n).1 in omega arith;
    }

-- A process that came in.

pub in_steady : (old new : Standing) (pid : ℕ) (i j : Option SwapImage) → IsSteady old → IsIn old.kernel new.kernel pid i
    → IsSameBeside old new → AsksU old.kernel pid i j → CanGoOn new → StaysSteady old new 0
in_steady old new pid i j s h b asked ready = continues_steady old new 0 s (turn_continues (turns.In pid) old new None i j s.clear (h, b, asked)) ready
