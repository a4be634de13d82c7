-- The line of a part of a move: a machine that made it stands at the next state.
use Rattle.std.proofs.Common.{◌≡◌, ◌+◌, ◌≤◌, List, [], length, Option, Some, None, sym, ap, ◌∙◌, subst}
use Rattle.vm_facts.specs.SwapImages.{SwapImage}
use Rattle.io_edge.specs.FileHolding.{NamedFile}
use Rattle.flat_state.specs.Flat.{Inputs}
use Rattle.page_model.specs.Placement.{Placement}
use Rattle.page_model.specs.Ownership.{OneOwner}
use Rattle.page_laws.proofs.Swapper.PuttingOut.{same_out}
use Rattle.kernel_model.specs.Kernel.{Kernel}
use Rattle.kernel_model.specs.Sound.{Sound, lives}
use Rattle.machine_state.specs.Files.{AreRunImages}
use Rattle.machine_state.specs.Going.{CanGoOn}
use Rattle.machine_state.specs.Machine.{Standing}
use Rattle.machine_state.specs.Sourced.{ImageNamed}
use Rattle.kernel_model.specs.declared.part.HandPart.{HandPart}
use Rattle.kernel_model.specs.HandParts.{part_place, part_step}
use Rattle.kernel_laws.proofs.PartLeaves.{Parted, parted}
use Rattle.vm_core.specs.Reading.{AreNamed}
use Rattle.run_model.specs.declared.mark.Mark.{Mark}
use Rattle.run_model.specs.declared.mark.Mark.TheVariants as marks
use Rattle.run_model.specs.State.{State}
use Rattle.run_laws.specs.Machine.{StandsAt}
use Rattle.run_laws.specs.Standing.{machine_of}
use Rattle.paged_model.specs.declared.line.Line.TheVariants as lines
use Rattle.paged_model.specs.declared.reason.Reason.{Reason}
use Rattle.paged_model.specs.Reasons.{or_reason}
use Rattle.paged_model.specs.Steps.{begun}
use Rattle.paged_model.specs.Parts.{part_reason}
use Rattle.paged_model.specs.Traces.{trace_line_reason, trace_line_after}
use Rattle.paged_laws.specs.Paged.{IsPaged}
use Rattle.paged_laws.proofs.PartSteps.{line_comes, part_stands_at}
use Rattle.paged_laws.proofs.Traces.{line_paged}
use Rattle.step_judge.specs.PartJudged.{JudgedPart}
use Rattle.step_judge.specs.At.{JudgedAt}
use Rattle.repage_check.specs.declared.past.Past.{Past}
use Rattle.repage_check.specs.Past.{MarkIsIn, PastAt}
use Rattle.repage_check.specs.Units.{StandsPast, begun_reason}
use Rattle.repage_check.proofs.Judgings.{begun_is}
use Rattle.repage_check.specs.Lines.{LineTold, GoesBy}

-- who has the turn stays in
mark_in : (p q : Placement) (m : Mark) → q.residents ≡ p.residents → MarkIsIn p m → MarkIsIn q m
mark_in p q (marks.Turn pid since) e h = same_out p q pid e ∙ h
mark_in p q (marks.Dispatch pid count since) e h = h
mark_in p q _ e h = tt

module _ (p : Past) (old new : Standing) (holds : Option (List NamedFile)) (i : Option SwapImage) (A : Inputs) (s : State) (image : SwapImage) (x : HandPart)
    (at : PastAt p old holds i A s image) where
  here : JudgedAt old p.counted p.begun holds i A s image
  here = at.judged

  is_begun : begun_reason p.begun ≡ begun s.point.last
  is_begun = sym (ap begun_reason here.begun) ∙ begun_is s.point.last

  -- while a step is begun it can't come
  pub part_begun : (reason : Reason) → begun_reason p.begun ≡ Some reason → LineTold (Some reason) (lines.Part x) p new holds i A s image
  part_begun reason b = record {
    exact = ap (λ (o : Option Reason). or_reason o (part_reason s.place x)) (sym b ∙ is_begun);
    stands = λ none. absurd cc;
  }

  module _ (may : trace_line_reason A s (lines.Part x) ≡ None) (made : new ≡ record old { kernel = part_step old.kernel x; room = None }) where
    -- no process goes out or comes in
    residents : (part_place s.place x).residents ≡ s.place.residents
    residents =
        let paged : IsPaged A s = here.paged in
        let so : Sound A.swap_blocks (machine_of s.point.flat s.place s.holdings) = paged.steady.placed.sound in
        let o : OneOwner A.swap_blocks (lives (machine_of s.point.flat s.place s.holdings).processes) s.place s.holdings = so.owner in
        let d : Parted s.place (part_place s.place x) = parted s.place x o.frames (line_comes s x may).1 in
        d.shaped.residents

    judged : JudgedAt new p.counted p.begun holds i A (trace_line_after A s (lines.Part x)) image
    judged = record {
      fit = here.fit;
      paged = line_paged A s (lines.Part x) here.fit here.paged may;
      stands =
          subst (λ (k : Kernel). StandsAt A (trace_line_after A s (lines.Part x)) k image.bytes) (sym (ap (λ (m : Standing). m.kernel) made))
          (part_stands_at A s old.kernel image.bytes x here.stands may);
      images = subst (λ (ns : List ImageNamed). AreRunImages ns holds A) (sym (ap (λ (m : Standing). m.images) made)) here.images;
      named = subst (AreNamed A.images) (sym (ap (λ (m : Standing). m.images) made)) here.named;
      blocks = ap (λ (m : Standing). m.params.swap_blocks) made ∙ here.blocks;
      told = here.told;
      count = here.count;
      begun = here.begun;
      limit = here.limit;
      enough = here.enough;
    }

    stands : StandsPast p new holds i A (trace_line_after A s (lines.Part x))
    stands = record {
      image = image;
      at = record {
        judged = judged;
        counts = at.counts;
        lines = at.lines;
        mark = at.mark;
        turn = mark_in s.place (part_place s.place x) s.mark residents at.turn;
      };
    }

  -- where none is begun
  pub part_told : (reason : Option Reason) → begun_reason p.begun ≡ None → reason ≡ part_reason old.kernel.place x → JudgedPart x old new reason
      → LineTold reason (lines.Part x) p new holds i A s image
  part_told reason clear e judged_so =
      let exact : reason ≡ trace_line_reason A s (lines.Part x) =
      e ∙ ap (λ (y : Placement). part_reason y x) here.stands.place ∙ ap (λ (o : Option Reason). or_reason o (part_reason s.place x)) (sym clear ∙ is_begun) in
      record { exact = exact; stands = λ none. stands (sym exact ∙ none) (subst (JudgedPart x old new) none judged_so) }

-- it makes no entry
pub part_goes : (old new : Standing) (x : HandPart) (reason : Option Reason) → CanGoOn new → old.params.journal ≤ length old.kernel.journal + 1
    → JudgedPart x old new reason → reason ≡ None → GoesBy [] old new
part_goes old new x reason ready wide judged none =
    let made : new ≡ record old { kernel = part_step old.kernel x; room = None } = subst (JudgedPart x old new) none judged in
    record {
      ready = ready;
      images = ap (λ (m : Standing). m.images) made;
      blocks = ap (λ (m : Standing). m.params.swap_blocks) made;
      wide = subst (λ (m : Standing). m.params.journal ≤ length m.kernel.journal + 1) (sym made) wide;
      journal = ap (λ (m : Standing). m.kernel.journal) made;
    }
