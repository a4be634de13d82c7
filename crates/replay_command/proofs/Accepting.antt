-- The text of a run is judged to be one.
use Rattle.std.proofs.Common.{◌≡◌, inl, inr, ℕ, ◌+◌, ◌≤◌, Bool, true, false, List, [], ◌∷◌, ◌++◌, length, Option, Some, None, Result, Ok, Err, refl, sym, ap, ◌∙◌, subst, length-append, arith}
use Rattle.vm_facts.specs.declared.entry.Entry.{Entry}
use Rattle.flat_state.specs.Flat.{NamedImage, Inputs}
use Rattle.command_edge.specs.declared.answers.Unread.{Unread}
use Rattle.command_edge.specs.ImageWords.{image_names, first_images}
use Rattle.run_text.specs.Text.{text_of}
use Rattle.run_text.specs.Lines.{lines_in, AreLines, IsFirstBad}
use Rattle.run_text.specs.Transcript.{IsEntryLine}
use Rattle.run_text.proofs.WrittenLines.{rows_once, none_bad}
use Rattle.replay_check.specs.Images.{FlatFile, images_of}
use Rattle.replay_check.specs.Verdicts.{first_bad}
use Rattle.replay_command.specs.Replayed.{entries_shown, BeginsWith, IsFlatText}
use Rattle.command_edge.specs.declared.fault.Fault.TheVariants.{Absent, NotImage, FileFault, NoMemory, NotFlatRun, BadTranscript, TooLong}
use Rattle.command_edge.specs.Ending.{Ending}
use Rattle.command_edge.specs.Command.{Faults}
use Rattle.command_edge.specs.Named.{Why}
use Rattle.replay_command.specs.LastLine.{without_fault_line}
use Rattle.replay_command.specs.Reading.{Read, HasEntries, HasBadLine}
use Rattle.replay_command.specs.Command.{run_line, IsJudged, LacksImage, EndsReplay}
use Rattle.replay_command.proofs.LastLines.{few_lines}
use Rattle.replay_command.specs.Accepting.{IsLastLine, ReadsText, IsAccepted}
use Rattle.replay_command.proofs.Lines.{lines_left}

module _ (A : Inputs) (traced : Bool) (journal : List Entry) (line : List ℕ) (words : List (List ℕ)) (read : Read) (flat : IsFlatText A traced journal) (last : IsLastLine line)
    (reads : ReadsText A traced journal line words read) where
  shown : List Entry
  shown = entries_shown traced journal

  text : List ℕ
  text = text_of traced journal ++ line

  starts : BeginsWith (entries_shown traced journal) (text_of traced journal) line
  starts = flat.begins line

  left : without_fault_line (lines_in (text_of traced journal ++ line)) ≡ starts.lines
  left = ap without_fault_line starts.cut ∙ lines_left (entries_shown traced journal) starts.lines line starts.are last

  has : AreLines IsEntryLine (entries_shown traced journal) (without_fault_line (lines_in (text_of traced journal ++ line)))
  has = subst (λ (ls : List (List ℕ)). AreLines IsEntryLine (entries_shown traced journal) ls) (sym left) starts.are

  -- it has no other entries
  same : (es : List Entry) → HasEntries read.transcript es → es ≡ entries_shown traced journal
  same es h = rows_once es (entries_shown traced journal) (without_fault_line (lines_in (text_of traced journal ++ line)))
      (subst (λ (t : Result (Option (List ℕ)) Unread). HasEntries t es) reads.text h) has

  -- and the verdict on them is that all are a run
  verdict : (es : List Entry) (bad : Option ℕ) → IsJudged words read es bad → bad ≡ None
  verdict es bad j =
      let ok : (let r : Result (List FlatFile) Why = Ok j.images in r) ≡ Ok reads.images = sym j.are ∙ reads.are in
      let images : j.images ≡ reads.images = cc in
      sym (j.verdict A (reads.images_are ∙ ap images_of (sym images)) reads.first) ∙ ap (first_bad A) (same es j.has) ∙ flat.run

  -- nor is a line of it bad
  shorter : (ls : List (List ℕ)) → length (without_fault_line ls) ≤ length ls
  shorter [] = omega arith
  shorter (l ∷ []) = go (Rattle.replay_command.specs.LastLine.is_fault_line l)
    where
      go : (b : Bool) → length (Rattle.replay_command.specs.LastLine.unless_fault b l) ≤ 1
      go true = omega arith
      go false = omega arith
  shorter (l ∷ m ∷ ls) = let h = shorter (m ∷ ls) in omega arith

  good : (n : ℕ) → HasBadLine read.transcript n → ⊥
  good n h =
      let ls = without_fault_line (lines_in (text_of traced journal ++ line)) in
      let bad : IsFirstBad IsEntryLine 4294967295 n ls = subst (λ (t : Result (Option (List ℕ)) Unread). HasBadLine t n) reads.text h in
      let a = few_lines (text_of traced journal ++ line) in
      let b = shorter (lines_in (text_of traced journal ++ line)) in
      let c : length ls ≡ length (bad.before ++ bad.bad ∷ bad.after) = ap length bad.split in
      let d : length (bad.before ++ bad.bad ∷ bad.after) ≡ length bad.before + length (bad.bad ∷ bad.after) = length-append bad.before (bad.bad ∷ bad.after) in
      let e = reads.short in
      let g = bad.number in
      none_bad (entries_shown traced journal) bad.before bad.bad bad.after
      (subst (λ (xs : List (List ℕ)). AreLines IsEntryLine (entries_shown traced journal) xs) bad.split has)
      (bad.none (omega (arith, a, b, c, d, e, g)))

  images_there : (why : Why) → LacksImage read why → ⊥
  images_there why lacks = let z : (let r : Result (List FlatFile) Why = Err why in r) ≡ Ok reads.images = sym lacks.1 ∙ reads.are in absurd cc

  was_read : (unread : Unread) → read.transcript ≡ Err unread → ⊥
  was_read unread e = let z : (let r : Result (Option (List ℕ)) Unread = Err unread in r) ≡ Ok (Some (text_of traced journal ++ line)) = sym e ∙ reads.text in absurd cc

  fits : read.transcript ≡ Ok None → ⊥
  fits e = let z : (let r : Result (Option (List ℕ)) Unread = Ok None in r) ≡ Ok (Some (text_of traced journal ++ line)) = sym e ∙ reads.text in absurd cc

  some_none : (n : ℕ) → Some n ≡ None → ⊥
  some_none n e = absurd cc

  accepted : (name : List ℕ) (f : Faults) (ending : Ending) → EndsReplay name words read f ending → IsAccepted (length (entries_shown traced journal)) ending
  accepted name f (Ok output) (calm, (es, judged, is)) = is ∙ ap (λ (entries : List Entry). run_line (length entries)) (same es judged.has)
  accepted name f (Err (Absent absent)) (inl (named, e)) = absurd (was_read _ e)
  accepted name f (Err (Absent absent)) (inr lacks) = absurd (images_there _ lacks)
  accepted name f (Err (NotImage file reason)) lacks = absurd (images_there _ lacks)
  accepted name f (Err FileFault) e = tt
  accepted name f (Err NoMemory) e = tt
  accepted name f (Err (NotFlatRun n)) (es, judged) = absurd (some_none n (verdict es (Some n) judged))
  accepted name f (Err (BadTranscript n)) bad = absurd (good n bad)
  accepted name f (Err TooLong) e = absurd (fits e)
  accepted name f (Err _) e = absurd e

pub are_accepted : Rattle.replay_command.specs.Accepting.AreAccepted
are_accepted A traced journal line name words read f ending flat last reads ends = accepted A traced journal line words read flat last reads name f ending ends
