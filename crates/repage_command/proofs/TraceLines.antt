-- Lines of entries and of parts.
use Rattle.std.proofs.Common.{◌≡◌, ℕ, true, false, List, [], ◌∷◌, ◌++◌, map, refl, sym, ◌∙◌, ap, codes}
use Rattle.std.proofs.lemmas.List.{append_cancel_right}
use Rattle.vm_facts.specs.declared.entry.Entry.{Entry}
use Rattle.vm_facts.specs.declared.entry.Entry.TheVariants as entries
use Rattle.kernel_model.specs.declared.part.HandPart.{HandPart}
use Rattle.kernel_model.specs.declared.part.HandPart.TheVariants.{Expires, Writes, Frees}
use Rattle.paged_model.specs.declared.line.Line.{Line}
use Rattle.paged_model.specs.declared.line.Line.TheVariants as lines
use Rattle.run_text.specs.Lines.{AreLines}
use Rattle.run_text.specs.Text.{line_of}
use Rattle.run_text.specs.Transcript.{IsEntryLine}
use Rattle.repage_command.specs.Grammar.{part_line, IsPartWithin, IsTraceLine}
use Rattle.repage_command.specs.PartFrom.{part_text, begins_part}
use Rattle.repage_command.proofs.PartTexts.{part_line_is}

-- The first letter tells them apart.

part_begins : (x : HandPart) → begins_part (part_line x) ≡ true
part_begins (Expires q) = refl
part_begins (Writes q n) = refl
part_begins (Frees q) = refl

entry_begins : (e : Entry) → begins_part (line_of e) ≡ false
unfolding line_of
entry_begins (entries.Event line) = refl
entry_begins (entries.Turn pid) = refl
entry_begins (entries.Ran pid count) = refl
entry_begins (entries.Out pid bytes) = refl
entry_begins (entries.Grew pid pages) = refl
entry_begins (entries.Call pid number carry r0 r1) = refl
entry_begins (entries.Refused pid) = refl
entry_begins (entries.Sleeps pid) = refl
entry_begins (entries.Ended pid status) = refl
entry_begins (entries.Zero page) = refl
entry_begins (entries.Get page lo n) = refl
entry_begins (entries.Copy page) = refl
entry_begins (entries.Reclaim page) = refl
entry_begins (entries.Hands count) = refl
entry_begins (entries.Put page n) = refl
entry_begins entries.Done = refl
entry_begins (entries.SwapOut pid) = refl
entry_begins (entries.SwapIn pid) = refl
entry_begins (entries.Owners free used moving held) = refl

-- a line that begins as a part's, and is no part's, is none
pub no_part : (line : List ℕ) → begins_part line ≡ true → ((x : HandPart) → IsPartWithin x → line ≡ part_line x → ⊥) → (l : Line) → IsTraceLine l line → ⊥
no_part line b none (lines.RunLine e) (h, is) = absurd (let x : true ≡ false = sym b ∙ ap begins_part is ∙ entry_begins e in cc)
no_part line b none (lines.Part x) (h, is) = none x h is

-- and one that begins otherwise, and is no entry's
pub no_entry : (line : List ℕ) → begins_part line ≡ false → ((e : Entry) → IsEntryLine e line → ⊥) → (l : Line) → IsTraceLine l line → ⊥
no_entry line b none (lines.RunLine e) is = none e is
no_entry line b none (lines.Part x) (h, is) = absurd (let y : true ≡ false = sym (part_begins x) ∙ sym (ap begins_part is) ∙ b in cc)

-- A line and its text.

pub line_none : (text line : List ℕ) → line ≡ text ++ codes "\n" → ((x : HandPart) → IsPartWithin x → text ≡ part_text x → ⊥)
    → (x : HandPart) → IsPartWithin x → line ≡ part_line x → ⊥
line_none text line cut none x h is = none x h (append_cancel_right text (part_text x) (codes "\n") (sym cut ∙ is ∙ part_line_is x))

pub line_some : (text line : List ℕ) → line ≡ text ++ codes "\n" → (x : HandPart) → text ≡ part_text x → line ≡ part_line x
line_some text line cut x is = cut ∙ ap (λ (zs : List ℕ). zs ++ codes "\n") is ∙ sym (part_line_is x)

-- a line with no end is none
pub no_end : (line : List ℕ) → ((rest : List ℕ) → line ≡ rest ++ codes "\n" → ⊥) → (x : HandPart) → line ≡ part_line x → ⊥
no_end line none x is = none (part_text x) (is ∙ part_line_is x)

-- Transcripts.

pub entry_lines : (es : List Entry) (ls : List (List ℕ)) → AreLines IsEntryLine es ls → AreLines IsTraceLine (map lines.RunLine es) ls
entry_lines [] [] h = tt
entry_lines [] (l ∷ ls) h = h
entry_lines (e ∷ es) [] h = h
entry_lines (e ∷ es) (l ∷ ls) h = (h.0, entry_lines es ls h.1)
