-- What a machine tells that stands behind a trace, and what is told of a case that was judged.
use Rattle.std.proofs.Common.{◌≡◌, ℕ, zero, suc, ◌+◌, ◌-◌, ◌<◌, ◌≤◌, ◌^◌, Bool, List, [], ◌∷◌, length, map, take, slice_get, Option, Some, None, Result, Ok, Err, IfOk, refl, sym, ap, ◌∙◌, subst, arith}
use Rattle.std.specs.Prelude.{nat_le, IfErr, All}
use Rattle.std.proofs.lemmas.List.{length-map}
use Rattle.vm_facts.specs.SwapImages.{SwapImage}
use Rattle.io_edge.specs.FileHolding.{NamedFile}
use Rattle.swap_book.specs.Holdings.{Holdings}
use Rattle.page_model.specs.Placement.{Placement}
use Rattle.flat_state.specs.Flat.{Inputs}
use Rattle.flat_model.specs.Asked.{start_held}
use Rattle.machine_state.specs.Machine.{Standing}
use Rattle.machine_state.specs.Sourced.{ImageNamed}
use Rattle.run_model.specs.State.{start}
use Rattle.repage_check.specs.VmCoreStarting.{AreAmong}
use Rattle.run_opening.specs.declared.images.OpenedImage.{OpenedImage}
use Rattle.owner_lines.specs.Owners.{carrier, owners_lines}
use Rattle.owner_lines.specs.Account.{text_at}
use Rattle.owner_lines.proofs.Registers.{machine_told}
use Rattle.paged_model.specs.declared.line.Line.{Line}
use Rattle.paged_model.specs.declared.reason.Misstep.{Misstep}
use Rattle.paged_model.specs.Traces.{trace_state, first_trace_misstep, IsPagedTrace}
use Rattle.repage_check.specs.Past.{PastAt}
use Rattle.repage_check.specs.Units.{StandsPast}
use Rattle.repage_check.specs.At.{JudgedAt}
use Rattle.command_edge.specs.declared.fault.Fault.{Fault}
use Rattle.command_edge.specs.declared.fault.Fault.TheVariants as faults
use Rattle.repage_check.proofs.Ending.{are_among}
use Rattle.question_command.specs.Naming.{shown_as}
use Rattle.repage_check.specs.declared.checking.Verdict.TheVariants.{Paged}
use Rattle.repage_check.specs.Verdicts.{HasMisstep, IsJudged}
use Rattle.repage_check.specs.Starting.{StandsAfter}
use Rattle.repage_command.specs.declared.judging.Judged.{Judged}
use Rattle.repage_command.specs.declared.judging.Repaged.{Repaged}
use Rattle.repage_command.specs.Telling.{misstep_line}
use Rattle.repage_command.specs.Judging.{traced_to, owners_led, TellsJudged, EndsJudging, frame_away, transfer_by, transfer_at, TellsMisstep, TellsBad, TellsRepaged, EndsRepaging, TellsOwners, EndsOwning}
use Rattle.repage_command.proofs.Missteps.{IsWithin, is_within}

same_start : (A : Inputs) (hs other : Holdings) → start_held A ≡ Ok hs → start_held A ≡ Ok other → hs ≡ other
same_start A hs other found is = ok_same hs other (sym found ∙ is)
  where
    ok_same : (a b : Holdings) → (let x : Result Holdings ℕ = Ok a in let y : Result Holdings ℕ = Ok b in x ≡ y) → a ≡ b
    ok_same a b e = cc

-- A machine behind a trace.

module _ (A : Inputs) (ls : List Line) (m : Standing) (holds : Option (List NamedFile)) (j : Option SwapImage) (after : StandsAfter A ls m holds j)
    (hs : Holdings) (found : start_held A ≡ Ok hs) where
  abbrev same : after.holdings ≡ hs
  same = same_start A after.holdings hs after.found found

  abbrev stands : StandsPast after.past m holds j A (trace_state A (start A after.holdings) ls)
  stands = after.stands

  abbrev at : PastAt after.past m holds j A (trace_state A (start A after.holdings) ls) stands.image
  at = stands.at

  abbrev judged : JudgedAt m after.past.counted after.past.begun holds j A (trace_state A (start A after.holdings) ls) stands.image
  judged = at.judged

  -- it tells the transfer that has a frame
  pub transfer_there : (frame : ℕ) → carrier m.kernel.place frame ≡ carrier (traced_to A hs ls).place frame
  transfer_there frame =
      ap (λ (p : Placement). carrier p frame) judged.stands.place
      ∙ ap (λ (h : Holdings). carrier (traced_to A h ls).place frame) same

  -- and who owns what
  pub owners_there : (over : Bool) → m.before ≡ m.kernel.holdings → owners_lines m over ≡ owners_led A hs over ls
  owners_there over whole =
      machine_told A (traced_to A after.holdings ls) m over (record { image = stands.image.bytes; at = judged.stands; whole = whole; size = judged.blocks })
      ∙ ap (λ (n : ℕ). text_at A n over (traced_to A after.holdings ls)) (ap length judged.stands.journal)
      ∙ ap (λ (h : Holdings). owners_led A h over ls) same

-- The first processes are in images of the machine.

pub numbers_among : (images : List ImageNamed) (opened : List OpenedImage) (count : ℕ) (ns : List ℕ) → images ≡ map shown_as opened → length opened ≡ count
    → All (λ (n : ℕ). (1 ≤ n) × (n ≤ count)) ns → AreAmong images ns
numbers_among images opened count ns are many all =
    are_among images ns (subst (λ (k : ℕ). All (λ (n : ℕ). (1 ≤ n) × (n ≤ k)) ns) (sym (ap length are ∙ length-map opened shown_as ∙ many)) all)

-- The first lines of a case.

few_taken : (n : ℕ) (ls : List Line) → length (take n ls) ≤ length ls
few_taken zero ls = omega arith
few_taken (suc n) [] = omega arith
few_taken (suc n) (l ∷ ls) = omega (arith, few_taken n ls)

pub front_short : (ls front : List Line) (n : ℕ) → front ≡ take n ls → length ls + 2 < 2 ^ 32 → length front + 2 < 2 ^ 32
front_short ls front n is few = omega (arith, ap length is, few_taken n ls, few)

-- A case that was judged.

pub lacks_memory : (A B : Inputs) (ls ms : List Line) (frame : ℕ) (asked : Option Bool) (fault : Fault) → EndsJudging A ls frame asked (Err fault)
    → EndsRepaging B ms (Err fault)
lacks_memory A B ls ms frame asked faults.NoMemory ends = tt
lacks_memory A B ls ms frame asked _ ends = absurd ends

pub only_memory : (A : Inputs) (ls : List Line) (frame : ℕ) (asked : Option Bool) (fault : Fault) → EndsJudging A ls frame asked (Err fault)
    → fault ≡ faults.NoMemory
only_memory A ls frame asked faults.NoMemory ends = refl
only_memory A ls frame asked _ ends = absurd ends

pub lacks_owners : (A : Inputs) (ls ms : List Line) (frame wanted : ℕ) (asked : Option Bool) (fault : Fault) → EndsJudging A ls frame asked (Err fault)
    → EndsOwning A ms wanted (Err fault)
lacks_owners A ls ms frame wanted asked faults.NoMemory ends = tt
lacks_owners A ls ms frame wanted asked _ ends = absurd ends

-- what is told where they are a run
pub paged_told : (A : Inputs) (ls lines : List Line) (repaged : Repaged) → lines ≡ ls → repaged.bad ≡ None → repaged.lines ≡ length lines
    → IsPagedTrace A lines → TellsRepaged A ls repaged
paged_told A ls lines repaged same bad count good = record {
  count = count ∙ ap length same;
  bad = subst (λ (b : Option ℕ). TellsBad A ls b repaged.why.items) (sym bad) (subst (IsPagedTrace A) same good);
}

-- the misstep is at one of the lines
pub within : (A : Inputs) (ls : List Line) (misstep : Misstep) → HasMisstep A ls misstep → misstep.line ≤ length ls
within A ls misstep has =
    let is : IsWithin A (start A has.holdings) 1 ls misstep = is_within A (start A has.holdings) 1 ls misstep has.first in
    let most = is.most in
    omega (arith, most)

-- where the lines before it were judged, the transfer is told that has this frame behind them
pub transfer_before : (A : Inputs) (ls : List Line) (misstep : Misstep) (frame : ℕ) (told : Judged) → frame_away misstep.reason ≡ Some frame
    → TellsJudged A (take (misstep.line - 1) ls) frame None told → (hs : Holdings) → start_held A ≡ Ok hs → first_trace_misstep A hs ls ≡ Some misstep
    → told.transfer ≡ transfer_at A hs ls misstep.line misstep.reason
transfer_before A ls misstep frame told away tells hs found first =
    let is : IsWithin A (start A hs) 1 ls misstep = is_within A (start A hs) 1 ls misstep first in
    let before : IsPagedTrace A (take (misstep.line - 1) ls) = record { holdings = hs; found = found; good = is.before } in
    let verdict : IsJudged A (take (misstep.line - 1) ls) told.verdict = tells.verdict in
    tells.transfer (verdict.paged.1 before) hs found
    ∙ ap (transfer_by (traced_to A hs (take (misstep.line - 1) ls)).place) (sym away)

-- what is told of it holds of lines that are the same
pub told_over : (ls lines : List Line) (misstep : Misstep) (transfer : ℕ) (r : Result Repaged Fault) → lines ≡ ls
    → IfOk r (λ (repaged : Repaged). (repaged.bad ≡ Some misstep.line) × (repaged.lines ≡ length lines)
    × (repaged.why.items ≡ misstep_line misstep.line (slice_get lines (misstep.line - 1)) transfer misstep.reason))
    → IfOk r (λ (repaged : Repaged). (repaged.bad ≡ Some misstep.line) × (repaged.lines ≡ length ls)
    × (repaged.why.items ≡ misstep_line misstep.line (slice_get ls (misstep.line - 1)) transfer misstep.reason))
told_over ls lines misstep transfer r same told =
    subst (λ (xs : List Line). IfOk r (λ (repaged : Repaged). (repaged.bad ≡ Some misstep.line) × (repaged.lines ≡ length xs)
    × (repaged.why.items ≡ misstep_line misstep.line (slice_get xs (misstep.line - 1)) transfer misstep.reason))) same told

-- what is told of the first line that can't come
pub misstep_ends : (A : Inputs) (ls : List Line) (misstep : Misstep) (transfer : ℕ) (r : Result Repaged Fault) → HasMisstep A ls misstep
    → ((hs : Holdings) → start_held A ≡ Ok hs → first_trace_misstep A hs ls ≡ Some misstep → transfer ≡ transfer_at A hs ls misstep.line misstep.reason)
    → IfOk r (λ (repaged : Repaged). (repaged.bad ≡ Some misstep.line) × (repaged.lines ≡ length ls)
    × (repaged.why.items ≡ misstep_line misstep.line (slice_get ls (misstep.line - 1)) transfer misstep.reason))
    → IfErr r (λ (fault : Fault). fault ≡ faults.NoMemory) → EndsRepaging A ls r
misstep_ends A ls misstep transfer (Ok repaged) has at told only =
    let tells : TellsMisstep A ls misstep.line repaged.why.items = record {
      holdings = has.holdings;
      found = has.found;
      misstep = misstep;
      first = has.first;
      same = refl;
      told = told.2 ∙ ap (λ (n : ℕ). misstep_line misstep.line (slice_get ls (misstep.line - 1)) n misstep.reason) (at has.holdings has.found has.first);
    } in
    record { count = told.1; bad = subst (λ (b : Option ℕ). TellsBad A ls b repaged.why.items) (sym told.0) tells }
misstep_ends A ls misstep transfer (Err fault) has at told only = subst (λ (x : Fault). EndsRepaging A ls (Err x)) (sym only) tt

-- who owns what behind the first lines
pub owners_told : (A : Inputs) (ls : List Line) (wanted : ℕ) (judged : Judged) → judged.verdict ≡ Paged
    → TellsJudged A (take wanted ls) 0 (Some (nat_le (length ls) wanted)) judged → TellsOwners A ls wanted judged.owners.items
owners_told A ls wanted judged paged tells =
    let verdict : IsJudged A (take wanted ls) judged.verdict = tells.verdict in
    let good : IsPagedTrace A (take wanted ls) = verdict.paged.0 paged in
    record {
      holdings = good.holdings;
      found = good.found;
      good = good.good;
      told = tells.owners paged (nat_le (length ls) wanted) refl good.holdings good.found;
    }
