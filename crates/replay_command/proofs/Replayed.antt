-- The text of a lawful journal is read as its entries, and none of them is bad.
use Rattle.std.proofs.Common.{◌≡◌, ℕ, ◌+◌, ◌<◌, ◌^◌, Bool, true, false, List, [], ◌∷◌, ◌++◌, length, None, refl, ap, ◌∙◌, arith, length-append}
use Rattle.vm_facts.specs.declared.entry.Entry.{Entry}
use Rattle.flat_state.specs.Flat.{Inputs}
use Rattle.run_model.specs.State.{State}
use Rattle.run_model.specs.Lawful.{IsLawful}
use Rattle.run_text.specs.Text.{lines_of, text_of}
use Rattle.run_text.specs.Lines.{lines_in}
use Rattle.run_text.specs.Transcript.{IsReadTranscript, IsRead}
use Rattle.run_text.specs.declared.answers.Transcript.{Transcript}
use Rattle.run_text.specs.declared.answers.Transcript.TheVariants.{Is, BadLine}
use Rattle.run_text.proofs.WrittenLines.{IsSmallLine, written_is_read}
use Rattle.replay_check.specs.Verdicts.{first_bad}
use Rattle.replay_command.proofs.LastLines.{few_lines}
use Rattle.replay_command.specs.Replayed.{entries_shown, IsTranscriptOf, IsAccepted}
use Rattle.replay_command.proofs.Shown.{shown_run, shown_count, shown_within}
use Rattle.replay_command.proofs.Fronts.{none_is_bad}

pub text_lines : (traced : Bool) (journal : List Entry) → text_of traced journal ≡ lines_of (entries_shown traced journal)
unfolding text_of
text_lines true journal = refl
text_lines false journal = refl

small_line : (bytes : List ℕ) (t : Transcript) → length bytes < 2 ^ 32 → IsReadTranscript bytes t → IsSmallLine t
small_line bytes (Is entries) l r = tt
small_line bytes (BadLine n) l r =
    let a = few_lines bytes in
    let b : length (lines_in bytes) ≡ length (r.before ++ r.bad ∷ r.after) = ap length r.split in
    let c : length (r.before ++ r.bad ∷ r.after) ≡ length r.before + length (r.bad ∷ r.after) = length-append r.before (r.bad ∷ r.after) in
    let d = r.number in
    omega arith

accepted : (A : Inputs) (entries : List Entry) (t : Transcript) → first_bad A entries ≡ None → IsRead entries t → IsAccepted A entries t
accepted A entries (Is read) n r = (r, ap (first_bad A) r ∙ n)
accepted A entries (BadLine m) n r = r

pub replayed : (traced : Bool) (A : Inputs) (journal : List Entry) (s : State) (text : List ℕ) (read : Transcript)
    → IsTranscriptOf traced A journal s text → IsReadTranscript text read → IsAccepted A (entries_shown traced journal) read
replayed traced A journal s text read t r = let c = t.count in let d = l.count in let e = shown_count traced journal in accepted A (entries_shown traced journal) read
    (none_is_bad A (entries_shown traced journal) s.point (shown_run traced A journal ∙ l.flat) (omega arith))
    (written_is_read (entries_shown traced journal) text read (shown_within traced journal (omega arith) t.within) (t.is ∙ text_lines traced journal) r (small_line text read t.short r))
  where
    l : IsLawful A journal s
    l = t.lawful
