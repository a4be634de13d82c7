-- A machine goes on after the start of a run.
use Rattle.std.proofs.Common.{◌≡◌, List, [], length, None, ◌∙◌, ap, arith}
use Rattle.std.proofs.lemmas.List.{length-replicate}
use Rattle.vm_facts.specs.declared.entry.Entry.{Entry}
use Rattle.flat_state.specs.Journal.{instructions_of}
use Rattle.kernel_model.specs.Kernel.{Kernel}
use Rattle.machine_state.specs.Going.{CanGoOn}
use Rattle.machine_state.specs.Machine.{Standing}
use Rattle.proc_run.specs.LastMoves.{last_moves}
use Rattle.proc_run.specs.Ready.{Continues}
use Rattle.proc_run.specs.Sizes.{SameSizes}
use Rattle.vm_core.specs.FirstProcesses.{IsNew, HasStarted}

pub new_frames : (m : Standing) → IsNew m → length m.kernel.place.holds ≡ m.params.frames
new_frames m n = ap (λ (k : Kernel). length k.place.holds) n.kernel ∙ length-replicate m.params.frames None

pub goes_on : (old begun new : Standing) → IsNew old → SameSizes old begun → length begun.kernel.place.holds ≡ length old.kernel.place.holds
    → begun.kernel.journal ≡ [] → Continues begun new 0 → CanGoOn new → HasStarted old new
goes_on old begun new n same frames empty more ready =
    let moves : last_moves begun.kernel.journal ≡ 0 = ap (λ (es : List Entry). last_moves es) empty in
    let count : instructions_of begun.kernel.journal ≡ 0 = ap (λ (es : List Entry). instructions_of es) empty in
    record {
      params = more.params ∙ same.params;
      images = more.images ∙ same.images;
      ready = ready;
      due = more.clear;
      frames = more.frames ∙ frames ∙ new_frames old n;
      moves = let l = more.low in omega (arith, l, moves);
      counted = let c = more.counted in omega (arith, c, count);
    }
