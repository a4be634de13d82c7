-- The last line of a transcript.
use Rattle.std.proofs.Common.{◌≡◌, inl, inr, ℕ, ◌<◌, decimal, lit<, Bool, true, false, List, [], ◌∷◌, ◌++◌, refl, sym, ap, ◌∙◌, subst, append_assoc, arith}
use Rattle.std.specs.Prelude.{codes}
use Rattle.std.proofs.lemmas.Fmt.{decimal_is_IsNumeral}
use Rattle.vm_facts.specs.declared.entry.Entry.{Entry}
use Rattle.vm_facts.specs.declared.entry.Entry.TheVariants as entries
use Rattle.run_text.specs.Text.{line_of}
use Rattle.run_text.specs.Lines.{lines_in, AreLines}
use Rattle.run_text.specs.Pieces.{HasNo}
use Rattle.run_text.specs.Transcript.{IsEntryLine}
use Rattle.run_text.proofs.Events.{digits_no}
use Rattle.run_text.proofs.WrittenLines.{line_before}
use Rattle.command_edge.specs.declared.fault.Fault.{Fault}
use Rattle.command_edge.specs.declared.fault.Fault.TheVariants as faults
use Rattle.command_edge.specs.Ending.{fault_line, numbered_line}
use Rattle.replay_command.specs.LastLine.{is_fault_line, unless_fault, without_fault_line}
use Rattle.replay_command.specs.Accepting.{IsLastLine, HasPlainLine}

-- No line of an entry begins as the line of a fault.
no_fault : (e : Entry) → is_fault_line (line_of e) ≡ false
unfolding line_of
no_fault (entries.Event line) = refl
no_fault _ = refl

-- So such lines stay, and the line of a fault after them goes.

kept_line : (e : Entry) (line : List ℕ) → IsEntryLine e line → is_fault_line line ≡ false
kept_line e line is = ap is_fault_line is.1 ∙ no_fault e

all_kept : (es : List Entry) (ls : List (List ℕ)) → AreLines IsEntryLine es ls → without_fault_line ls ≡ ls
all_kept es [] are = refl
all_kept (e ∷ es) (l ∷ []) are = ap (λ (b : Bool). unless_fault b l) (kept_line e l are.0)
all_kept (e ∷ es) (l ∷ m ∷ ls) are = ap (λ (xs : List (List ℕ)). l ∷ xs) (all_kept es (m ∷ ls) are.1)
all_kept [] (l ∷ ls) are = absurd are

last_goes : (ls : List (List ℕ)) (line : List ℕ) → is_fault_line line ≡ true → without_fault_line (ls ++ line ∷ []) ≡ ls
last_goes [] line is = ap (λ (b : Bool). unless_fault b line) is
last_goes (l ∷ []) line is = ap (λ (xs : List (List ℕ)). l ∷ xs) (last_goes [] line is)
last_goes (l ∷ m ∷ ls) line is = ap (λ (xs : List (List ℕ)). l ∷ xs) (last_goes (m ∷ ls) line is)

pub no_lines : lines_in [] ≡ []
unfolding lines_in
no_lines = refl

none_behind : (ls : List (List ℕ)) → ls ++ [] ≡ ls
none_behind [] = refl
none_behind (l ∷ ls) = ap (λ (xs : List (List ℕ)). l ∷ xs) (none_behind ls)

pub lines_left : (es : List Entry) (ls : List (List ℕ)) (line : List ℕ) → AreLines IsEntryLine es ls → IsLastLine line
    → without_fault_line (ls ++ lines_in line) ≡ ls
lines_left es ls line are (inl none) =
    ap (λ (l : List ℕ). without_fault_line (ls ++ lines_in l)) none ∙ ap (λ (xs : List (List ℕ)). without_fault_line (ls ++ xs)) no_lines
    ∙ ap without_fault_line (none_behind ls) ∙ all_kept es ls are
lines_left es ls line are (inr (one, is)) = ap (λ (xs : List (List ℕ)). without_fault_line (ls ++ xs)) one ∙ last_goes ls line is

-- The lines of faults.

-- a line of words and a number
no_both : (xs ys : List ℕ) → HasNo 10 xs → HasNo 10 ys → HasNo 10 (xs ++ ys)
no_both [] ys h k = k
no_both (x ∷ xs) ys h k = (h.0, no_both xs ys h.1 k)

no_end : (n : ℕ) → n < 4294967296 → HasNo 10 (decimal n)
no_end n small = digits_no 10 (decimal n) (lit< tt) (decimal_is_IsNumeral n (omega (arith, small))).0.1

one_line : (text : List ℕ) → HasNo 10 text → lines_in (text ++ 10 ∷ []) ≡ (text ++ 10 ∷ []) ∷ []
one_line text none = line_before text [] none ∙ ap (λ (ls : List (List ℕ)). (text ++ 10 ∷ []) ∷ ls) no_lines

ended : (words digits : List ℕ) → HasNo 10 words → HasNo 10 digits → lines_in (words ++ (digits ++ 10 ∷ [])) ≡ (words ++ (digits ++ 10 ∷ [])) ∷ []
ended words digits none rest =
    let whole : (words ++ digits) ++ 10 ∷ [] ≡ words ++ (digits ++ 10 ∷ []) = append_assoc words digits (10 ∷ []) in
    subst (λ (text : List ℕ). lines_in text ≡ text ∷ []) whole (one_line (words ++ digits) (no_both words digits none rest))

numbered : (words : List ℕ) (number : ℕ) → number < 4294967296 → HasNo 10 words → is_fault_line (words ++ (decimal number ++ 10 ∷ [])) ≡ true
    → IsLastLine (words ++ (decimal number ++ 10 ∷ []))
numbered words number small none is = inr (ended words (decimal number) none (no_end number small), is)

fixed : (text : List ℕ) → HasNo 10 text → is_fault_line (text ++ 10 ∷ []) ≡ true → IsLastLine (text ++ 10 ∷ [])
fixed text none is = inr (one_line text none, is)

pub plain_lines : (fault : Fault) → HasPlainLine fault → IsLastLine (fault_line fault)
plain_lines faults.FileFault h =
    fixed (codes "vmrun: file fault") (
      λ e. omega arith,
      (
        λ e. omega arith,
        (
          λ e. omega arith,
          (
            λ e. omega arith,
            (
              λ e. omega arith,
              (
                λ e. omega arith,
                (
                  λ e. omega arith,
                  (
                    λ e. omega arith,
                    (
                      λ e. omega arith,
                      (λ e. omega arith, (λ e. omega arith, (λ e. omega arith, (λ e. omega arith, (λ e. omega arith, (λ e. omega arith, (λ e. omega arith, (λ e. omega arith, tt)))))))),
                    ),
                  ),
                ),
              ),
            ),
          ),
        ),
      ),
    ) refl
plain_lines faults.NoMemory h = fixed (codes "vmrun: no memory") (
  λ e. omega arith,
  (
    λ e. omega arith,
    (
      λ e. omega arith,
      (
        λ e. omega arith,
        (
          λ e. omega arith,
          (
            λ e. omega arith,
            (
              λ e. omega arith,
              (λ e. omega arith, (λ e. omega arith, (λ e. omega arith, (λ e. omega arith, (λ e. omega arith, (λ e. omega arith, (λ e. omega arith, (λ e. omega arith, (λ e. omega arith, tt))))))))),
            ),
          ),
        ),
      ),
    ),
  ),
) refl
plain_lines faults.JournalFull h = fixed (codes "vmrun: journal full") (
  λ e. omega arith,
  (
    λ e. omega arith,
    (
      λ e. omega arith,
      (
        λ e. omega arith,
        (
          λ e. omega arith,
          (
            λ e. omega arith,
            (
              λ e. omega arith,
              (
                λ e. omega arith,
                (
                  λ e. omega arith,
                  (
                    λ e. omega arith,
                    (
                      λ e.
                          omega arith,
                      (λ e. omega arith, (λ e. omega arith, (λ e. omega arith, (λ e. omega arith, (λ e. omega arith, (λ e. omega arith, (λ e. omega arith, (λ e. omega arith, tt)))))))),
                    ),
                  ),
                ),
              ),
            ),
          ),
        ),
      ),
    ),
  ),
) refl
plain_lines (faults.SwapReadFault device) h = numbered (codes "vmrun: swap read fault on device ") device h (
  λ e. omega arith,
  (
    λ e. omega arith,
    (
      λ e. omega arith,
      (
        λ e. omega arith,
        (
          λ e. omega
              arith,
          (
            λ e. omega arith,
            (
              λ e. omega arith,
              (
                λ e. omega arith,
                (
                  λ e. omega arith,
                  (
                    λ e. omega arith,
                    (
                      λ e. omega arith,
                      (
                        λ e. omega arith,
                        (
                          λ e. omega arith,
                          (
                            λ e. omega arith,
                            (
                              λ e. omega arith,
                              (
                                λ e. omega arith,
                                (
                                  λ e. omega arith,
                                  (
                                    λ e. omega arith,
                                    (
                                      λ e. omega arith,
                                      (
                                        λ e. omega arith,
                                        (
                                          λ e. omega arith,
                                          (
                                            λ e. omega arith,
                                            (
                                              λ e. omega arith,
                                              (
                                                λ e. omega arith,
                                                (
                                                  λ e. omega arith,
                                                  (
                                                    λ e. omega arith,
                                                    (λ e. omega arith, (λ e. omega arith, (λ e. omega arith, (λ e. omega arith, (λ e. omega arith, (λ e. omega arith, (λ e. omega arith, tt))))))),
                                                  ),
                                                ),
                                              ),
                                            ),
                                          ),
                                        ),
                                      ),
                                    ),
                                  ),
                                ),
                              ),
                            ),
                          ),
                        ),
                      ),
                    ),
                  ),
                ),
              ),
            ),
          ),
        ),
      ),
    ),
  ),
) refl
plain_lines (faults.SwapWriteFault device) h =
    numbered (codes "vmrun: swap write fault on device ") device h (
      λ e. omega arith,
      (
        λ e. omega arith,
        (
          λ e. omega arith,
          (
            λ e. omega arith,
            (
              λ e. omega arith,
              (
                λ e. omega arith,
                (
                  λ e. omega arith,
                  (
                    λ e. omega arith,
                    (
                      λ e. omega arith,
                      (
                        λ e. omega arith,
                        (
                          λ e. omega arith,
                          (
                            λ e. omega arith,
                            (
                              λ e. omega arith,
                              (
                                λ e. omega arith,
                                (
                                  λ e. omega arith,
                                  (
                                    λ e. omega arith,
                                    (
                                      λ e. omega arith,
                                      (
                                        λ e. omega arith,
                                        (
                                          λ e. omega arith,
                                          (
                                            λ e. omega arith,
                                            (
                                              λ e. omega arith,
                                              (
                                                λ e. omega arith,
                                                (
                                                  λ e. omega arith,
                                                  (
                                                    λ e. omega arith,
                                                    (
                                                      λ e. omega arith,
                                                      (
                                                        λ e. omega arith,
                                                        (
                                                          λ e. omega arith,
                                                          (
                                                            λ e. omega arith,
                                                            (λ e. omega arith, (λ e. omega arith, (λ e. omega arith, (λ e. omega arith, (λ e. omega arith, (λ e. omega arith, tt)))))),
                                                          ),
                                                        ),
                                                      ),
                                                    ),
                                                  ),
                                                ),
                                              ),
                                            ),
                                          ),
                                        ),
                                      ),
                                    ),
                                  ),
                                ),
                              ),
                            ),
                          ),
                        ),
                      ),
                    ),
                  ),
                ),
              ),
            ),
          ),
        ),
      ),
    ) refl
plain_lines _ h = absurd h
