-- The text of a lawful journal is that of a run of the flat machine.
use Rattle.std.proofs.Common.{◌≡◌, ℕ, ◌≤◌, Bool, true, false, List, [], ◌∷◌, ◌++◌, Some, None, refl, sym, ap, ◌∙◌, subst, append_assoc, arith}
use Rattle.vm_facts.specs.declared.entry.Entry.{Entry}
use Rattle.swap_book.specs.Holdings.{Holdings}
use Rattle.flat_state.specs.Flat.{Inputs}
use Rattle.flat_state.specs.Journal.{instructions_of}
use Rattle.run_model.specs.State.{State, start}
use Rattle.run_model.specs.Lawful.{Reaches, IsLawful}
use Rattle.run_laws.specs.Running.{IsRun, CanRun}
use Rattle.run_laws.proofs.Finishing.{units_below}
use Rattle.run_laws.proofs.Wholes.{start_run}
use Rattle.run_text.specs.Text.{line_of, lines_of}
use Rattle.run_text.specs.Lines.{lines_in}
use Rattle.run_text.specs.EntryParts.{entry_text}
use Rattle.run_text.specs.Transcript.{HaveNumbers, IsWithin, AreWithin}
use Rattle.run_text.proofs.Parts.{line_is}
use Rattle.run_text.proofs.WrittenLines.{line_before, text_has_no_end}
use Rattle.flat_model.specs.Run.{flat_units, start_point, flat_run}
use Rattle.replay_check.specs.Verdicts.{instruction_limit, first_bad}
use Rattle.replay_command.specs.Replayed.{entries_shown, BeginsWith, IsFlatText}
use Rattle.replay_command.proofs.Counts.{AllCountOne, units_count, appended_count, are_within}
use Rattle.replay_command.proofs.Shown.{shown_run, shown_count, shown_within}
use Rattle.replay_command.proofs.Fronts.{none_is_bad}
use Rattle.replay_command.proofs.Replayed.{text_lines}

first_line : (e : Entry) (es : List Entry) (rest : List ℕ) → IsWithin e → lines_in (lines_of (e ∷ es) ++ rest) ≡ line_of e ∷ lines_in (lines_of es ++ rest)
first_line e es rest h =
    let more = lines_of es ++ rest in
    let cut : lines_of (e ∷ es) ++ rest ≡ entry_text e ++ 10 ∷ more
    = append_assoc (line_of e) (lines_of es) rest ∙ ap (λ (z : List ℕ). z ++ more) (line_is e) ∙ append_assoc (entry_text e) (10 ∷ []) more in
    ap lines_in cut ∙ line_before (entry_text e) more (text_has_no_end e h) ∙ ap (λ (z : List ℕ). z ∷ lines_in more) (sym (line_is e))

begins_with : (es : List Entry) (rest : List ℕ) → AreWithin es → BeginsWith es (lines_of es) rest
begins_with [] rest h = record { lines = []; are = tt; cut = refl }
begins_with (e ∷ es) rest h =
    let more : BeginsWith es (lines_of es) rest = begins_with es rest h.1 in
    record { lines = line_of e ∷ more.lines; are = ((h.0, refl), more.are); cut = first_line e es rest h.0 ∙ ap (λ (ls : List (List ℕ)). line_of e ∷ ls) more.cut }

pub text_flat : (A : Inputs) (hs : Holdings) (journal : List Entry) (s : State) (traced : Bool) → CanRun A hs → IsLawful A journal s
    → A.limit ≤ instruction_limit → HaveNumbers journal → IsFlatText A traced journal
text_flat A hs journal s traced can lawful limit numbers =
    let r : Reaches A journal s = lawful.reaches in
    let run : IsRun A (start A r.holdings) = start_run A r.holdings (record { images = can.images; first = can.first; frames = can.frames; pieces = r.found }) in
    let counts : AllCountOne journal = subst AllCountOne r.joined (appended_count [] r.units tt (units_count A r.units (start A r.holdings) s can.images run r.follows)) in
    let below : s.count ≤ A.limit = units_below A r.units (start A r.holdings) s r.follows (omega arith) in
    let counted : instructions_of journal ≡ s.count = lawful.count in
    let shown : instructions_of (entries_shown traced journal) ≡ instructions_of journal = shown_count traced journal in
    let within : AreWithin (entries_shown traced journal) = shown_within traced journal (omega arith) (are_within journal numbers counts) in
    record {
      begins = λ rest. subst (λ (text : List ℕ). BeginsWith (entries_shown traced journal) text rest) (sym (text_lines traced journal)) (begins_with (entries_shown traced journal) rest within);
      run = none_is_bad A (entries_shown traced journal) s.point (shown_run traced A journal ∙ lawful.flat) (omega arith);
    }

-- nothing was done, and nothing is written of it
pub start_runs : (A : Inputs) → flat_run A [] ≡ Some (start_point A)
unfolding flat_units
start_runs A = refl

empty : (A : Inputs) (traced : Bool) (es : List Entry) → entries_shown traced es ≡ [] → IsFlatText A traced es
empty A traced es none = record {
  begins = λ rest.
      subst (λ (text : List ℕ). BeginsWith (entries_shown traced es) text rest) (sym (text_lines traced es))
      (subst (λ (shown : List Entry). BeginsWith shown (lines_of shown) rest) (sym none) (begins_with [] rest tt));
  run = subst (λ (shown : List Entry). first_bad A shown ≡ None) (sym none) (none_is_bad A [] (start_point A) (start_runs A) (omega arith));
}

pub empty_flat : (A : Inputs) (traced : Bool) → IsFlatText A traced []
empty_flat A true = empty A true [] refl
empty_flat A false = empty A false [] refl
